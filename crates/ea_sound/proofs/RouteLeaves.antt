-- What a row of a release route leaves.
use Rattle.std.proofs.Common.{◌≡◌, ◌≢◌, ℕ, ◌<◌, Bool, true, false, refl, sym, ap, ◌∙◌, subst, inl}
use Rattle.std.proofs.Common.{inr, arith}
use Rattle.ea_model.specs.Content.{Content, is_nil, released}
use Rattle.ea_machine.specs.declared.nodes.Node.{Node}
use Rattle.ea_machine.specs.declared.nodes.Node.TheVariants.{Block, Carrier}
use Rattle.ea_machine.specs.declared.owners.OwnerWord.{OwnerWord}
use Rattle.ea_machine.specs.declared.owners.OwnerWord.TheVariants as word
use Rattle.ea_machine.specs.declared.stages.Stage.TheVariants.{Begin, Routed, Ready}
use Rattle.ea_machine.specs.declared.stages.Route.{Route}
use Rattle.ea_machine.specs.declared.stages.Route.TheVariants.{Looking, Trying, Settling}
use Rattle.ea_machine.specs.declared.stages.Route.TheVariants.{Abandoning, Sending, Clearing}
use Rattle.ea_machine.specs.declared.stages.Route.TheVariants.{Pushing, Linking}
use Rattle.ea_machine.specs.Actor.{Actor}
use Rattle.ea_machine.specs.declared.tasks.Why.{Why}
use Rattle.ea_machine.specs.declared.tasks.Gone.{Gone}
use Rattle.ea_machine.specs.declared.tasks.Gone.TheVariants.{Here as HereGone}
use Rattle.ea_sound.specs.Contents.{hand_sum, seats, slots}
use Rattle.ea_machine.specs.Machine.{wants_on}
use Rattle.ea_machine.specs.declared.nodes.Named.{Named}
use Rattle.ea_machine.specs.Owners.{CarrierAt, Absent, Employed, Pooled, Busy, Returning, same_word}
use Rattle.ea_machine.specs.Owners.{word_of}
use Rattle.ea_model.specs.Instance.{owner_of}
use Rattle.ea_sound.specs.Places.{has_number, none}
use Rattle.ea_machine.specs.Releases.{disowned, first_gone}
use Rattle.ea_machine.specs.Rows.{Answer, Lost, Abandon, BusyTry, Clear, Link, Look, Push, SendHome}
use Rattle.ea_machine.specs.Rows.{Settle}
use Rattle.ea_machine.specs.Setup.{Setup, is_scheduler, migration}
use Rattle.ea_machine.specs.Shared.{Shared, at_place}
use Rattle.ea_machine.specs.State.{State}
use Rattle.ea_machine.specs.Table.{answer, effect, moved_if, pooled, settled_at, won_if}
use Rattle.ea_sound.specs.Leaves.{LeavesRoute, LeavesSettled, Shows}
use Rattle.ea_sound.specs.Moments.{at}
use Rattle.ea_sound.specs.Present.{Fits, FitsRoute, HasEmployer, HasOther, Rule, StillPooled}
use Rattle.ea_sound.specs.Rule.{Kept}
use Rattle.ea_sound.proofs.ClearRows.{cleared_carrier}
use Rattle.ea_sound.proofs.Employers.{busy-place, employed-place, there-slot}
use Rattle.ea_sound.proofs.HandRows.{abandoned, sent_home, settled_empty, settled_home, won_busy}
use Rattle.ea_sound.proofs.ListRows.{linked_node, looked, pushed_node}
use Rattle.ea_sound.proofs.Moved.{Moved}
use Rattle.ea_sound.proofs.NodeSeats.{linking-seat, pushing-returning, returning-scheduler}
use Rattle.ea_sound.proofs.Numbered.{scheduler-seat}
use Rattle.ea_sound.proofs.SoundNodes.{unlinked-once}
use Rattle.ea_sound.proofs.Weights.{one-itself}

-- whether a word can be seen of a place
module _ (e : Setup) (w : State) (me : ℕ) where
  shown-employer : (c : ℕ) (p : CarrierAt) → w.shared.places c ≡ p → HasEmployer me p
      → migration e ≡ true → Shows e w w.shared me c (word_of p)
  shown-employer c Absent q has on = has
  shown-employer c (Employed i) q has on = λ s. inl (on, q ∙ ap Employed s)
  shown-employer c (Pooled i g x) q has on = tt
  shown-employer c (Busy i) q has on = tt
  shown-employer c (Returning i x) q has on = has

  shown-other : (c : ℕ) (p : CarrierAt) → HasOther me p → Shows e w w.shared me c (word_of p)
  shown-other c Absent other = other
  shown-other c (Employed i) other = λ s. absurd (other s)
  shown-other c (Pooled i g x) other = tt
  shown-other c (Busy i) other = tt
  shown-other c (Returning i x) other = other

-- a word that isn't the one seen, pooled by me, is another's
same_pooled : (i g : ℕ) → same_word (word.Pooled i g) (word.Pooled i g) ≡ true
same_pooled i g = grind arith

pub not_seen : (me : ℕ) (seen : OwnerWord) (p : CarrierAt) → same_word (word_of p) seen ≡ false
    → StillPooled me seen p → ⊥
not_seen me seen p other still =
    let t : same_word (word_of p) seen ≡ true = ap (λ v. same_word v seen) still.0
    ∙ ap (λ v. same_word v v) still.1.1 ∙ same_pooled me still.1.0 in
    let never : true ≡ false = sym t ∙ other in cc

module _ (e : Setup) (w : State) (me : ℕ) (is : is_scheduler e me ≡ true) (rule : Rule e w)
    (P : Shared → Actor → Type 0)
    (moves : (s : Shared) (a : Actor) → Moved e w me s a → a.todo ≡ (w.actors me).todo
    → a.stage ≢ Ready → P s a) (why : Why) (gone : Gone) where
  abbrev old : Actor
  old = w.actors me

  k : Kept e w
  k = rule.kept

  seat : me < seats e
  seat = scheduler-seat e me is

  abbrev Left : Shared → Route Content → Answer → Type 0
  Left s route r = LeavesRoute e w s me (P s) why gone old route r

  module _ (route : Route Content) (stage : old.stage ≡ Routed route why gone) where
    fits : FitsRoute e w.shared me route
    fits = (subst (Fits e w me old) stage (rule.present.fits me)).0

  module _ (hand : Named) where
    abbrev c : ℕ
    c = hand.spot.carrier

    looking-left : old.stage ≡ Routed (Looking hand) why gone
        → Left (effect me (Look c) w.shared) (Looking hand) (answer me (Look c) w.shared)
    unfolding effect answer
    looking-left stage =
        let f = fits (Looking hand) stage in (
          shown-employer e w me c (w.shared.places c) refl f.0 f.1,
          moves w.shared (at (Routed (Looking hand) why gone) old)
              (looked e w me is k (Routed (Looking hand) why gone) (Routed (Looking hand) why gone)
              stage
              (record {
                none = record { hands = λ b h. refl; in_hand = tt; hand_laid = tt };
                names = λ f. refl;
                links = λ u. refl;
                nodes = λ g. refl;
              })) refl (λ z. cc),
        )

    module _ (seen : OwnerWord) (stage : old.stage ≡ Routed (Trying hand seen) why gone) where
      lost-left : (p : CarrierAt) → HasOther me p
          → Left w.shared (Trying hand seen) (Lost (word_of p))
      lost-left p other = (
        shown-other e w me c p other,
        moves w.shared (at (Routed (Looking hand) why gone) old)
            (looked e w me is k (Routed (Trying hand seen) why gone)
            (Routed (Looking hand) why gone) stage
            (record {
              none = record { hands = λ b h. refl; in_hand = tt; hand_laid = tt };
              names = λ f. refl;
              links = λ u. refl;
              nodes = λ g. refl;
            })) refl (λ z. cc),
      )

      other-of : (p : CarrierAt) → w.shared.places c ≡ p → (StillPooled me seen p → ⊥)
          → HasOther me p
      other-of p q never = elim (fits (Trying hand seen) stage) [
        | inl still ↦ absurd (never (subst (StillPooled me seen) q still))
        | inr other ↦ subst (HasOther me) q other
      ]

      try-left : (b : Bool) (p : CarrierAt) → w.shared.places c ≡ p
          → same_word (word_of p) seen ≡ b
          → Left (moved_if (won_if b p) c (Busy me) w.shared) (Trying hand seen) (won_if b p)
      try-left true (Pooled i g x) q same =
          let after = first_gone gone HereGone in
          moves (at_place c (Busy me) w.shared)
          (at (Routed (Settling (released x hand.spot.offset)) why after) old)
          (won_busy e w me is k why gone hand seen after i g x stage q) refl (λ z. cc)
      try-left true Absent q same = lost-left Absent
          (other-of Absent q (λ s. let t : word.Absent ≡ word.Pooled me s.1.0 = s.0 ∙ s.1.1 in cc))
      try-left true (Employed i) q same = lost-left (Employed i)
          (other-of (Employed i) q
          (λ s. let t : word.Employed i ≡ word.Pooled me s.1.0 = s.0 ∙ s.1.1 in cc))
      try-left true (Busy i) q same = lost-left (Busy i)
          (other-of (Busy i) q
          (λ s. let t : word.Busy i ≡ word.Pooled me s.1.0 = s.0 ∙ s.1.1 in cc))
      try-left true (Returning i x) q same = lost-left (Returning i x)
          (other-of (Returning i x) q
          (λ s. let t : word.Returning i ≡ word.Pooled me s.1.0 = s.0 ∙ s.1.1 in cc))
      try-left false p q same = lost-left p (other-of p q (λ s. not_seen me seen p same s))

      trying-left : Left (effect me (BusyTry c seen) w.shared) (Trying hand seen)
          (answer me (BusyTry c seen) w.shared)
      unfolding effect answer
      trying-left =
          try-left (same_word (word_of (w.shared.places c)) seen) (w.shared.places c) refl refl

  module _ (x : Content) where
    -- a busy carrier in the hand
    module _ (stage : old.stage ≡ Routed (Settling x) why gone) where
      settling_word : w.shared.places x.number ≡ Busy me
      settling_word = busy-place e w k me x.number (omega (
        arith,
        ap (hand_sum (has_number x.number) none) stage,
        one-itself x.number,
      ))

      settling_slot : x.number < slots e
      settling_slot = there-slot e w k x.number
          (λ z. let never : Busy me ≡ Absent = sym settling_word ∙ z in cc)

      settle-left : (b : Bool) → is_nil x.blocks ≡ b
          → LeavesSettled e w (at_place x.number (settled_at me x b) w.shared) me
          (P (at_place x.number (settled_at me x b) w.shared)) why gone old x b
      settle-left true empty = moves (at_place x.number (Employed me) w.shared)
          (at (Routed (Abandoning x) why gone) old)
          (settled_empty e w me is k (fits (Settling x) stage).1 why gone x settling_slot stage
          settling_word) refl (λ z. cc)
      settle-left false some = moves (at_place x.number (pooled me x) w.shared) (at Begin old)
          (settled_home e w me is k (fits (Settling x) stage).1 why gone x settling_slot stage
          settling_word (fits (Settling x) stage).0
          (λ z. let never : true ≡ false = ap is_nil (sym z) ∙ some in cc)) refl (λ z. cc)

      settling-left : Left (effect me (Settle x) w.shared) (Settling x)
          (answer me (Settle x) w.shared)
      unfolding effect answer
      settling-left = settle-left (is_nil x.blocks) refl

    -- an employed carrier in the hand
    module _ (route : Route Content) (stage : old.stage ≡ Routed route why gone)
        (holds : hand_sum none (has_number x.number) (Routed route why gone)
        ≡ has_number x.number x)
        (on : migration e ≡ true) where
      hand_word : w.shared.places x.number ≡ Employed me
      hand_word = employed-place e w k me x.number (omega (
        arith,
        holds,
        ap (hand_sum none (has_number x.number)) stage,
        one-itself x.number,
      )) on

      hand_slot : x.number < slots e
      hand_slot = there-slot e w k x.number
          (λ z. let never : Employed me ≡ Absent = sym hand_word ∙ z in cc)

    abandoning-left : old.stage ≡ Routed (Abandoning x) why gone
        → Left (effect me (Abandon x) w.shared) (Abandoning x) (answer me (Abandon x) w.shared)
    unfolding effect answer
    abandoning-left stage =
        let f = fits (Abandoning x) stage in
        moves (at_place x.number (pooled me x) w.shared) (at Begin old)
        (abandoned e w me is k f.2 why gone x (hand_slot (Abandoning x) stage refl f.2) stage
        (hand_word (Abandoning x) stage refl f.2) f.0 f.1) refl (λ z. cc)

    sending-left : old.stage ≡ Routed (Sending x) why gone
        → Left (effect me (SendHome x) w.shared) (Sending x) (answer me (SendHome x) w.shared)
    unfolding effect answer
    sending-left stage =
        let f = fits (Sending x) stage in
        moves (at_place x.number (Returning (owner_of x.number) x) w.shared)
        (at (Routed (Pushing (Carrier x.number) (owner_of x.number)) why gone) old)
        (sent_home e w me is k f.3 why gone x (hand_slot (Sending x) stage refl f.3) stage
        (hand_word (Sending x) stage refl f.3) f.0 f.1) refl (λ z. cc)

    clearing-left : old.stage ≡ Routed (Clearing x) why gone
        → Left (effect me (Clear x.number) w.shared) (Clearing x)
        (answer me (Clear x.number) w.shared)
    unfolding effect answer
    clearing-left stage =
        let f = fits (Clearing x) stage in
        moves (at_place x.number Absent w.shared) (at Begin (disowned x.number old))
        (cleared_carrier e w me is k why gone x f.3 (hand_slot (Clearing x) stage refl f.3) stage
        (hand_word (Clearing x) stage refl f.3) f.1 f.2) refl (λ z. cc)

  module _ (node : Node) (to : ℕ) where
    push-left : to < seats e → old.stage ≡ Routed (Pushing node to) why gone
        → Left (effect me (Push node to) w.shared) (Pushing node to)
        (answer me (Push node to) w.shared)
    unfolding effect answer
    push-left there stage =
        moves (effect me (Push node to) w.shared) (at (Routed (Linking node to) why gone) old)
        (pushed_node e w me is k why gone node to there stage) refl (λ z. cc)

    linking-left : old.stage ≡ Routed (Linking node to) why gone
        → Left (effect me (Link node to) w.shared) (Linking node to)
        (answer me (Link node to) w.shared)
    unfolding effect answer
    linking-left stage =
        let there = linking-seat e w k me seat why gone node to stage in
        moves (effect me (Link node to) w.shared) (at Begin old)
        (linked_node e w me is k why gone node to there stage (unlinked-once e w k node to there))
        refl (λ z. cc)

  pushing-left : (node : Node) (to : ℕ) → old.stage ≡ Routed (Pushing node to) why gone
      → Left (effect me (Push node to) w.shared) (Pushing node to)
      (answer me (Push node to) w.shared)
  pushing-left (Block name spot) to stage = push-left (Block name spot) to
      (scheduler-seat e to (fits (Pushing (Block name spot) to) stage).1) stage
  pushing-left (Carrier d) to stage =
      let r = pushing-returning e w k me seat why gone d to stage in
      push-left (Carrier d) to
      (subst (λ i. i < seats e) (sym (fits (Pushing (Carrier d) to) stage).0)
      (scheduler-seat e (owner_of d) (returning-scheduler e w k d r.0 r.1 r.2))) stage

  -- each row of a route
  pub route-left : (route : Route Content) → old.stage ≡ Routed route why gone
      → Left (effect me (wants_on route) w.shared) route (answer me (wants_on route) w.shared)
  route-left (Looking hand) stage = looking-left hand stage
  route-left (Trying hand seen) stage = trying-left hand seen stage
  route-left (Settling x) stage = settling-left x stage
  route-left (Abandoning x) stage = abandoning-left x stage
  route-left (Sending x) stage = sending-left x stage
  route-left (Clearing x) stage = clearing-left x stage
  route-left (Pushing node to) stage = pushing-left node to stage
  route-left (Linking node to) stage = linking-left node to stage
