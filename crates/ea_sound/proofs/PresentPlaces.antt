-- Where the content of a carrier that is printed is with its employer: in its hand, where the
-- carrier is about to leave it or is busy, and with its instance else.
use Rattle.std.proofs.Common.{◌≡◌, ◌≢◌, ℕ, Bool, true, false, List, [], ◌∷◌, ◌++◌, refl, sym}
use Rattle.std.proofs.Common.{ap, ◌∙◌, subst, inl, inr, arith}
use Rattle.std.proofs.lemmas.Bool.{cases_eq}
use Rattle.std.specs.Prelude.{Option, None, Some, filter, not, if◌then◌else◌}
use Rattle.std.specs.Option.{option_or}
use Rattle.std.proofs.lemmas.List.Folds.{find-append}
use Rattle.ea_model.specs.Content.{Content}
use Rattle.ea_model.specs.Instance.{Instance, content_of, employed}
use Rattle.ea_model.specs.Keyed.{has_key}
use Rattle.ea_model.proofs.Rising.{item_at-key, item_here, item_past}
use Rattle.ea_laws.specs.Kept.{number_of}
use Rattle.ea_machine.specs.declared.stages.Route.{Route}
use Rattle.ea_machine.specs.declared.stages.Route.TheVariants.{Looking, Trying, Settling}
use Rattle.ea_machine.specs.declared.stages.Route.TheVariants.{Abandoning, Sending, Clearing}
use Rattle.ea_machine.specs.declared.stages.Route.TheVariants.{Pushing, Linking}
use Rattle.ea_machine.specs.declared.stages.Stage.{Stage}
use Rattle.ea_machine.specs.declared.stages.Stage.TheVariants.{Begin, Routed, Collecting, Searching}
use Rattle.ea_machine.specs.declared.stages.Stage.TheVariants.{Fetching, Creating, Giving, Taking}
use Rattle.ea_machine.specs.declared.stages.Stage.TheVariants.{Ended, Ready}
use Rattle.ea_machine.specs.Actor.{Actor}
use Rattle.ea_machine.specs.Outcome.{place_of, settling_at}
use Rattle.ea_machine.specs.Owners.{Busy}
use Rattle.ea_machine.specs.Setup.{Setup, is_scheduler}
use Rattle.ea_machine.specs.State.{State}
use Rattle.ea_machine.specs.Statistics.{employed_multis, employed_singles, is_single, leaving_at}
use Rattle.ea_machine.specs.Statistics.{leaving_on}
use Rattle.ea_machine.specs.Sums.{sum_over}
use Rattle.ea_sound.specs.Places.{has_number, none}
use Rattle.ea_sound.specs.Rule.{Kept}
use Rattle.ea_sound.proofs.Employers.{busy-hand}
use Rattle.ea_sound.proofs.Global.{sum-actor}
use Rattle.ea_sound.proofs.KeyedWeights.{counts-key, sum-item}
use Rattle.ea_sound.proofs.PresentCarriers.{found-merged}
use Rattle.ea_sound.proofs.PresentContents.{settling-number}
use Rattle.ea_sound.proofs.Printed.{hand-leaves, of_option}
use Rattle.ea_sound.proofs.SoundOwners.{number-once}
use Rattle.ea_sound.proofs.SoundPlaces.{away-on}
use Rattle.ea_sound.proofs.Weights.{sum-zero}

-- the contents of an instance with one in the hand, by whether that is of a singleblock carrier
abbrev with_hand : Bool → Content → Instance → List Content
with_hand true x j = j.contents ++ (x ∷ j.singles)
with_hand false x j = (x ∷ j.contents) ++ j.singles

abbrev listed : List Content → Instance → List Content
listed left j = (filter (λ x. not (is_single x.kind)) left ++ j.contents)
    ++ (filter (λ x. is_single x.kind) left ++ j.singles)

listed-by : (x : Content) (j : Instance) (b : Bool) → is_single x.kind ≡ b
    → listed (x ∷ []) j ≡ with_hand b x j
listed-by x j true single = ap (λ b. ((if not b then x ∷ [] else []) ++ j.contents)
    ++ ((if b then x ∷ [] else []) ++ j.singles)) single
listed-by x j false many = ap (λ b. ((if not b then x ∷ [] else []) ++ j.contents)
    ++ ((if b then x ∷ [] else []) ++ j.singles)) many

-- at most one leaves
abbrev IsOneOrNone : List Content → Type 0
IsOneOrNone [] = Unit {0}
IsOneOrNone (x ∷ []) = Unit {0}
IsOneOrNone (x ∷ y ∷ left) = ⊥

route-leaves-one : (r : Route Content) → IsOneOrNone (leaving_on r)
route-leaves-one (Looking hand) = tt
route-leaves-one (Trying hand seen) = tt
route-leaves-one (Settling x) = tt
route-leaves-one (Abandoning x) = tt
route-leaves-one (Sending x) = tt
route-leaves-one (Clearing x) = tt
route-leaves-one (Pushing node to) = tt
route-leaves-one (Linking node to) = tt

one-leaves : (s : Stage Content) → IsOneOrNone (leaving_at s)
one-leaves Begin = tt
one-leaves (Routed r why gone) = route-leaves-one r
one-leaves (Collecting number) = tt
one-leaves (Searching ask at part) = tt
one-leaves (Fetching ask at part seen) = tt
one-leaves (Creating ask p) = tt
one-leaves (Giving given to) = tt
one-leaves (Taking name tries left) = tt
one-leaves Ended = tt
one-leaves Ready = tt

module _ (e : Setup) (w : State) (k : Kept e w) where
  module _ (i : ℕ) (is : is_scheduler e i ≡ true) where
    abbrev a : Actor
    a = w.actors i

    abbrev j : Instance
    j = a.instance

    merged : (c : ℕ) → content_of (j.contents ++ j.singles) c ≡ content_of (employed j) c
    merged c = found-merged j.contents j.singles c (k.ranges.instances i is).order.once

    -- where none is about to leave
    pub stays-found : leaving_at a.stage ≡ [] → (c : ℕ)
        → content_of (employed_multis a ++ employed_singles a) c ≡ content_of (employed j) c
    stays-found leaves c = ap (λ left. content_of (listed left j) c) leaves ∙ merged c

    module _ (x : Content) (leaves : leaving_at a.stage ≡ x ∷ []) where
      -- it is the only one of its number
      not-many : content_of j.contents x.number ≡ None
      not-many = by (content_of j.contents x.number) refl where
        by : (o : Option Content) → content_of j.contents x.number ≡ o → o ≡ None
        by None q = refl
        by (Some y) q = absurd (omega (
          arith,
          number-once e w k x.number,
          sum-actor e w k (has_number x.number) i,
          hand-leaves (has_number x.number) (has_number x.number) a.stage,
          ap (sum_over (has_number x.number)) leaves,
          counts-key number_of x.number x refl,
          sum-item number_of (has_number x.number) x.number y j.contents q,
          counts-key number_of x.number y (item_at-key number_of x.number y j.contents q),
        ))

      here-by : (b : Bool) → content_of (with_hand b x j) x.number ≡ Some x
      here-by true = find-append (has_key number_of x.number) j.contents (x ∷ j.singles)
          ∙ ap (λ o. option_or o (content_of (x ∷ j.singles) x.number)) not-many
          ∙ item_here number_of x.number x j.singles refl
      here-by false = item_here number_of x.number x (j.contents ++ j.singles) refl

      other-by : (c : ℕ) → x.number ≢ c → (b : Bool)
          → content_of (with_hand b x j) c ≡ content_of (j.contents ++ j.singles) c
      other-by c other true = find-append (has_key number_of c) j.contents (x ∷ j.singles)
          ∙ ap (option_or (content_of j.contents c)) (item_past number_of c x j.singles other)
          ∙ sym (find-append (has_key number_of c) j.contents j.singles)
      other-by c other false = item_past number_of c x (j.contents ++ j.singles) other

      as-listed : (c : ℕ) → content_of (employed_multis a ++ employed_singles a) c
          ≡ content_of (with_hand (is_single x.kind) x j) c
      as-listed c = ap (λ left. content_of (listed left j) c) leaves
          ∙ ap (λ xs. content_of xs c) (listed-by x j (is_single x.kind) refl)

      pub leaving-found : content_of (employed_multis a ++ employed_singles a) x.number ≡ Some x
      leaving-found = as-listed x.number ∙ here-by (is_single x.kind)

      pub leaving-others : (c : ℕ) → x.number ≢ c
          → content_of (employed_multis a ++ employed_singles a) c ≡ content_of (employed j) c
      leaving-others c other =
          as-listed c ∙ other-by c other (is_single x.kind) ∙ merged c

    -- so it is in the hand, or with the instance
    either-by : (left : List Content) → leaving_at a.stage ≡ left → IsOneOrNone left → (c : ℕ)
        → content_of (employed_multis a ++ employed_singles a) c
        ≡ option_or (content_of left c) (content_of (employed j) c)
    either-by [] leaves one c = stays-found leaves c
    either-by (x ∷ []) leaves one c = elim (cases_eq x.number c) [
      | inl same ↦ subst (λ n. content_of (employed_multis a ++ employed_singles a) n
          ≡ option_or (content_of (x ∷ []) n) (content_of (employed j) n)) same
          (leaving-found x leaves
          ∙ sym (ap (λ o. option_or o (content_of (employed j) x.number))
          (item_here number_of x.number x [] refl)))
      | inr other ↦ leaving-others x leaves c other
          ∙ sym (ap (λ o. option_or o (content_of (employed j) c))
          (item_past number_of c x [] other))
    ]
    either-by (x ∷ y ∷ left) leaves one c = absurd one

    pub employed-either : (c : ℕ) → content_of (employed_multis a ++ employed_singles a) c
        ≡ option_or (content_of (leaving_at a.stage) c) (content_of (employed j) c)
    employed-either c = either-by (leaving_at a.stage) refl (one-leaves a.stage) c
