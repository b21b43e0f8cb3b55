-- What a row of one scheduler leaves of what the others are in the middle of.
use Rattle.std.proofs.Common.{◌≡◌, ◌≢◌, ◌⊎◌, ℕ, Bool, true, false, List, [], ◌∷◌, refl, sym, ap}
use Rattle.std.proofs.Common.{◌∙◌, subst, inl, inr}
use Rattle.std.proofs.lemmas.Bool.{cases_eq, cond_both}
use Rattle.ea_model.specs.declared.carriers.Spot.{Spot}
use Rattle.ea_model.specs.Content.{Content, is_nil}
use Rattle.ea_machine.specs.declared.nodes.Node.{Node}
use Rattle.ea_machine.specs.declared.nodes.Node.TheVariants.{Block, Carrier}
use Rattle.ea_machine.specs.declared.owners.OwnerWord.{OwnerWord}
use Rattle.ea_machine.specs.declared.owners.OwnerWord.TheVariants as word
use Rattle.ea_machine.specs.declared.stages.Stage.TheVariants.{Ended, Routed}
use Rattle.ea_machine.specs.declared.stages.Route.{Route}
use Rattle.ea_machine.specs.declared.stages.Route.TheVariants.{Looking, Trying, Settling}
use Rattle.ea_machine.specs.declared.stages.Route.TheVariants.{Abandoning, Sending, Clearing}
use Rattle.ea_machine.specs.declared.stages.Route.TheVariants.{Pushing, Linking}
use Rattle.ea_machine.specs.Actor.{Actor}
use Rattle.ea_machine.specs.declared.tasks.Why.{Why}
use Rattle.ea_machine.specs.declared.tasks.Gone.{Gone}
use Rattle.ea_sound.specs.Contents.{hand_sum}
use Rattle.ea_sound.specs.Names.{of_hand}
use Rattle.ea_machine.specs.Nodes.{Mark, first_node, link_in, same_node}
use Rattle.ea_machine.specs.declared.nodes.Named.{Named}
use Rattle.ea_machine.specs.Owners.{CarrierAt, Absent, Employed, Pooled, Busy, Returning, word_of}
use Rattle.ea_model.specs.Instance.{owner_of}
use Rattle.ea_machine.specs.Rows.{Answer, Done, Head, Rests, Passes, Saw, Won, Lost, Home, Got, Row}
use Rattle.ea_machine.specs.Rows.{TakeAll, TakeLink, Look, Push, Link, BusyTry, Settle, Abandon}
use Rattle.ea_machine.specs.Rows.{FetchTry, Create, SendHome, Clear, Give, TakeTry, Nothing}
use Rattle.ea_machine.specs.Setup.{Setup, migration}
use Rattle.ea_machine.specs.Shared.{Shared, put}
use Rattle.ea_machine.specs.State.{State}
use Rattle.ea_machine.specs.Table.{effect, moved_if, pooled, rest_after, settled_at, tried_at}
use Rattle.ea_sound.specs.Present.{FitsRoute, HasEmployer, HasOther, StillPooled}
use Rattle.ea_sound.specs.Rule.{Kept}
use Rattle.ea_sound.proofs.Employers.{there-on}
use Rattle.ea_sound.proofs.Global.{working-scheduler}
use Rattle.ea_sound.proofs.HandBlocks.{hand-employer}
use Rattle.ea_sound.proofs.Totals.{put-here, put-other}

-- the word names the scheduler as employer
abbrev pub IsBy : ℕ → CarrierAt → Type 0
IsBy me Absent = ⊥
IsBy me (Employed i) = i ≡ me
IsBy me (Pooled i g x) = i ≡ me
IsBy me (Busy i) = i ≡ me
IsBy me (Returning i x) = ⊥

by-other : (me i : ℕ) (p : CarrierAt) → i ≢ me → IsBy me p → HasOther i p
by-other me i Absent other by = absurd by
by-other me i (Employed j) other by = λ s. other (sym s ∙ by)
by-other me i (Pooled j g x) other by = λ s. other (sym s ∙ by)
by-other me i (Busy j) other by = λ s. other (sym s ∙ by)
by-other me i (Returning j x) other by = absurd by

-- the carrier is emptied
abbrev pub IsEmptied : CarrierAt → Type 0
IsEmptied Absent = Unit {0}
IsEmptied (Employed i) = ⊥
IsEmptied (Pooled i g x) = ⊥
IsEmptied (Busy i) = ⊥
IsEmptied (Returning i x) = Unit {0}

not-emptied : (i : ℕ) (p : CarrierAt) → IsEmptied p → HasEmployer i p → ⊥
not-emptied i Absent left has = has
not-emptied i (Employed j) left has = left
not-emptied i (Pooled j g x) left has = left
not-emptied i (Busy j) left has = left
not-emptied i (Returning j x) left has = has

-- a place is as before, by the scheduler, or that of an emptied carrier
abbrev pub MovesBy : ℕ → CarrierAt → CarrierAt → Type 0
MovesBy me q p = (q ≡ p) ⊎ (IsBy me q ⊎ IsEmptied q)

put-moves : (me c d : ℕ) (p : CarrierAt) (m : ℕ → CarrierAt) → IsBy me p ⊎ IsEmptied p
    → MovesBy me (put m c p d) (m d)
put-moves me c d p m so = elim (cases_eq d c) [
  | inl s ↦ inr (subst (λ q. IsBy me q ⊎ IsEmptied q) (sym (put-here m c p d s)) so)
  | inr other ↦ inl (put-other m c p d other)
]

tried-moves : (me c d : ℕ) (p : CarrierAt) (r : Answer) (s : Shared) → IsBy me p
    → MovesBy me ((moved_if r c p s).places d) (s.places d)
tried-moves me c d p (Won x) s by = put-moves me c d p s.places (inl by)
tried-moves me c d p (Lost v) s by = inl refl
tried-moves me c d p Done s by = inl refl
tried-moves me c d p (Head n) s by = inl refl
tried-moves me c d p Rests s by = inl refl
tried-moves me c d p (Passes n) s by = inl refl
tried-moves me c d p (Saw v) s by = inl refl
tried-moves me c d p (Home x) s by = inl refl
tried-moves me c d p (Got o) s by = inl refl

settled-by : (me : ℕ) (x : Content) (empty : Bool) → IsBy me (settled_at me x empty)
settled-by me x true = refl
settled-by me x false = refl

-- so each place after a row
pub row-moves : (me : ℕ) (row : Row) (s : Shared) (d : ℕ)
    → MovesBy me ((effect me row s).places d) (s.places d)
unfolding effect
row-moves me TakeAll s d = inl refl
row-moves me TakeLink s d = inl refl
row-moves me (Look c) s d = inl refl
row-moves me (Push node to) s d = inl refl
row-moves me (Link node to) s d = inl refl
row-moves me (BusyTry c seen) s d =
    tried-moves me c d (Busy me) (tried_at seen (s.places c)) s refl
row-moves me (Settle x) s d =
    put-moves me x.number d (settled_at me x (is_nil x.blocks)) s.places
    (inl (settled-by me x (is_nil x.blocks)))
row-moves me (Abandon x) s d = put-moves me x.number d (pooled me x) s.places (inl refl)
row-moves me (FetchTry c seen) s d =
    tried-moves me c d (Employed me) (tried_at seen (s.places c)) s refl
row-moves me (Create c) s d = put-moves me c d (Employed me) s.places (inl refl)
row-moves me (SendHome x) s d =
    put-moves me x.number d (Returning (owner_of x.number) x) s.places (inr tt)
row-moves me (Clear c) s d = put-moves me c d Absent s.places (inr tt)
row-moves me (Give g) s d = inl refl
row-moves me (TakeTry name) s d = inl refl
row-moves me Nothing s d = inl refl

-- what stays of a list where a node is linked stays of another's walk
module _ {A : Type 0} (f : List Mark → A)
    (keeps : (node : Node) (ms : List Mark) → f (link_in node ms) ≡ f ms) where
  pub linked-rest : (node : Node) (to i : ℕ) (m : ℕ → List Mark)
      → f (put m to (link_in node (m to)) i) ≡ f (m i)
  linked-rest node to i m = elim (cases_eq i to) [
    | inl s ↦ ap f (put-here m to (link_in node (m to)) i s) ∙ keeps node (m to)
        ∙ sym (ap (λ j. f (m j)) s)
    | inr other ↦ ap f (put-other m to (link_in node (m to)) i other)
  ]

  pub tried-rests : (c i : ℕ) (p : CarrierAt) (r : Answer) (s : Shared)
      → f ((moved_if r c p s).rests i) ≡ f (s.rests i)
  tried-rests c i p (Won x) s = refl
  tried-rests c i p (Lost v) s = refl
  tried-rests c i p Done s = refl
  tried-rests c i p (Head n) s = refl
  tried-rests c i p Rests s = refl
  tried-rests c i p (Passes n) s = refl
  tried-rests c i p (Saw v) s = refl
  tried-rests c i p (Home x) s = refl
  tried-rests c i p (Got o) s = refl

  pub rests-kept : (me : ℕ) (row : Row) (s : Shared) (i : ℕ) → i ≢ me
      → f ((effect me row s).rests i) ≡ f (s.rests i)
  unfolding effect
  rests-kept me TakeAll s i other = ap f (put-other s.rests me (s.queues me) i other)
  rests-kept me TakeLink s i other =
      ap f (put-other s.rests me (rest_after (s.rests me)) i other)
  rests-kept me (Look c) s i other = refl
  rests-kept me (Push node to) s i other = refl
  rests-kept me (Link node to) s i other = linked-rest node to i s.rests
  rests-kept me (BusyTry c seen) s i other =
      tried-rests c i (Busy me) (tried_at seen (s.places c)) s
  rests-kept me (Settle x) s i other = refl
  rests-kept me (Abandon x) s i other = refl
  rests-kept me (FetchTry c seen) s i other =
      tried-rests c i (Employed me) (tried_at seen (s.places c)) s
  rests-kept me (Create c) s i other = refl
  rests-kept me (SendHome x) s i other = refl
  rests-kept me (Clear c) s i other = refl
  rests-kept me (Give g) s i other = refl
  rests-kept me (TakeTry name) s i other = refl
  rests-kept me Nothing s i other = refl

-- to link a node leaves the first one
pub linked-first : (node : Node) (ms : List Mark) → first_node (link_in node ms) ≡ first_node ms
linked-first node [] = refl
linked-first node (m ∷ ms) =
    cond_both (same_node node m.node) (record m { linked = true }) m
    (λ x. first_node (x ∷ link_in node ms) ≡ first_node (m ∷ ms)) (λ _. refl) (λ _. refl)

-- so the next node of another's walk stays
pub row-rests : (me : ℕ) (row : Row) (s : Shared) (i : ℕ) → i ≢ me
    → first_node ((effect me row s).rests i) ≡ first_node (s.rests i)
row-rests = rests-kept first_node linked-first

-- who tries finds a carrier that is there
pub tried-there : (i : ℕ) (seen : OwnerWord) (p : CarrierAt)
    → StillPooled i seen p ⊎ HasOther i p → p ≢ Absent
tried-there i seen p (inl still) z =
    let never : word.Absent ≡ word.Pooled i still.1.0 = sym (ap word_of z) ∙ still.0 ∙ still.1.1 in
    cc
tried-there i seen p (inr has) z = subst (HasOther i) z has

routed-works : (route : Route Content) (why : Why) (gone : Gone) → Routed route why gone ≢ Ended
routed-works route why gone q = cc

-- the route of another scheduler, where the state after the row keeps what every moment keeps
module _ (e : Setup) (w v : State) (me i : ℕ) (other : i ≢ me) (k : Kept e w) (kept : Kept e v)
    (same : v.actors i ≡ w.actors i)
    (moves : (d : ℕ) → MovesBy me (v.shared.places d) (w.shared.places d)) (why : Why) (gone : Gone)
  where
    -- the block in its hand has an employer
    employer : (hand : Named) (route : Route Content) → (w.actors i).stage ≡ Routed route why gone
        → ((f : ℕ → Spot → ℕ) → of_hand f (Routed route why gone) ≡ f hand.name hand.spot)
        → ((b h : Content → ℕ) → hand_sum b h (Routed route why gone) ≡ 0) → migration e ≡ true
        → HasEmployer i (v.shared.places hand.spot.carrier)
    employer hand route stage names bare on =
        let at : (v.actors i).stage ≡ Routed route why gone =
        ap (λ (a : Actor). a.stage) same ∙ stage in
        let is = working-scheduler e v kept i
        (λ ended. routed-works route why gone (sym at ∙ ended)) in
        hand-employer e v kept i is hand (Routed route why gone) at names bare on

    pub route-stays : (route : Route Content) → (w.actors i).stage ≡ Routed route why gone
        → FitsRoute e w.shared i route → FitsRoute e v.shared i route
    route-stays (Looking hand) stage fits =
        (employer hand (Looking hand) stage (λ f. refl) (λ b h. refl) fits.1, fits.1)
    route-stays (Trying hand seen) stage fits = by (moves hand.spot.carrier) where
      on : migration e ≡ true
      on = there-on e w k hand.spot.carrier
          (tried-there i seen (w.shared.places hand.spot.carrier) fits)

      by : MovesBy me (v.shared.places hand.spot.carrier) (w.shared.places hand.spot.carrier)
          → StillPooled i seen (v.shared.places hand.spot.carrier)
          ⊎ HasOther i (v.shared.places hand.spot.carrier)
      by (inl as_before) =
          subst (λ p. StillPooled i seen p ⊎ HasOther i p) (sym as_before) fits
      by (inr (inl mine)) = inr (by-other me i (v.shared.places hand.spot.carrier) other mine)
      by (inr (inr left)) = absurd (not-emptied i (v.shared.places hand.spot.carrier) left
          (employer hand (Trying hand seen) stage (λ f. refl) (λ b h. refl) on))
    route-stays (Settling x) stage fits = fits
    route-stays (Abandoning x) stage fits = fits
    route-stays (Sending x) stage fits = fits
    route-stays (Clearing x) stage fits = fits
    route-stays (Pushing (Block n p) to) stage fits = fits
    route-stays (Pushing (Carrier c) to) stage fits = fits
    route-stays (Linking node to) stage fits = fits
