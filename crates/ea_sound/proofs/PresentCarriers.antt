-- Where carriers don't migrate, those that are there are those that the instances employ.
use Rattle.std.proofs.Common.{◌≡◌, ◌≢◌, ℕ, true, false, List, [], ◌++◌}
use Rattle.std.proofs.Common.{refl, sym, ap, ◌∙◌, arith}
use Rattle.std.specs.Prelude.{Option, None, Some, All, filter, is_some, not}
use Rattle.std.specs.Option.{option_or}
use Rattle.std.proofs.lemmas.Bool.{false≢true}
use Rattle.std.proofs.lemmas.List.Folds.{find-append}
use Rattle.ea_model.specs.declared.carriers.OwnCarrier.{OwnCarrier}
use Rattle.ea_model.specs.declared.carriers.Standing.TheVariants as standing
use Rattle.ea_model.specs.Content.{Content}
use Rattle.ea_model.specs.Instance.{Instance, content_of, employed}
use Rattle.ea_model.specs.Instance.{owner_of}
use Rattle.ea_model.specs.Instance.{is_used, own_at, own_of}
use Rattle.ea_model.specs.Keyed.{has_key, merged}
use Rattle.ea_model.proofs.Merged.{merged-All, merged-first, merged-second}
use Rattle.ea_model.proofs.NumberedItems.{if_there}
use Rattle.ea_model.proofs.Rising.{item_at-All, item_at-key}
use Rattle.ea_laws.specs.Kept.{IsOwn, IsRising, Stands, number_of, own_number}
use Rattle.ea_machine.specs.declared.stages.Route.{Route}
use Rattle.ea_machine.specs.declared.stages.Route.TheVariants.{Looking, Trying, Settling}
use Rattle.ea_machine.specs.declared.stages.Route.TheVariants.{Abandoning, Sending}
use Rattle.ea_machine.specs.Actor.{Actor}
use Rattle.ea_machine.specs.declared.stages.Stage.{Stage}
use Rattle.ea_machine.specs.declared.stages.Stage.TheVariants.{Begin, Routed, Collecting}
use Rattle.ea_machine.specs.declared.stages.Route.TheVariants.{Clearing, Pushing, Linking}
use Rattle.ea_machine.specs.declared.stages.Stage.TheVariants.{Searching, Fetching, Creating}
use Rattle.ea_machine.specs.declared.stages.Stage.TheVariants.{Giving, Taking, Ended, Ready}
use Rattle.ea_machine.specs.Outcome.{Present, place_in, place_of}
use Rattle.ea_machine.specs.Outcome.{present_at, present_if, settling_at}
use Rattle.ea_machine.specs.Owners.{employed_if}
use Rattle.ea_machine.specs.Setup.{Setup, is_scheduler, migration}
use Rattle.ea_machine.specs.State.{State}
use Rattle.ea_machine.specs.Statistics.{employed_multis, employed_singles, is_single}
use Rattle.ea_machine.specs.Statistics.{leaving_at, leaving_on}
use Rattle.ea_machine.specs.Sums.{sum_over}
use Rattle.ea_sound.specs.Contents.{actor_sum, seats}
use Rattle.ea_sound.specs.Places.{none}
use Rattle.ea_sound.specs.Present.{Fits, FitsRoute, Rule}
use Rattle.ea_sound.specs.Rule.{Standing, numbers_of, own_numbers}
use Rattle.ea_sound.proofs.Employers.{mine, mine-itself, mine-only, not-mine, nothing, nothing-only}
use Rattle.ea_sound.proofs.KeyedWeights.{sum-item, sum-merged, sum-missing}
use Rattle.ea_sound.proofs.Numbered.{no_scheduler-beyond, numbered-off, total_at-exact}
use Rattle.ea_sound.proofs.Printed.{hand-leaves, no_option}
use Rattle.ea_sound.proofs.Unmoved.{off-acul}
use Rattle.ea_sound.proofs.Weights.{sum-zero}

some≢none : {A : Type 0} (x : A) → Some x ≡ None → ⊥
some≢none x e = absurd cc

-- whoever has no content of the number has no weight
actor-nothing : (f : Content → ℕ) → ((x : Content) → f x ≡ 0) → (a : Actor)
    → actor_sum none f a ≡ 0
actor-nothing f weightless a = omega (
  arith,
  sum-zero f a.instance.contents (λ k d within. weightless _),
  sum-zero f a.instance.singles (λ k d within. weightless _),
  hand-leaves none f a.stage,
  sum-zero f (leaving_at a.stage) (λ k d within. weightless _),
  no_option (settling_at a.stage),
)

-- of two lists as one, one after the other or by rising number, the same item is found
pub found-merged : (xs ys : List Content) (c : ℕ) → IsRising (merged number_of xs ys)
    → content_of (xs ++ ys) c ≡ content_of (merged number_of xs ys) c
found-merged xs ys c once = find-append (has_key number_of c) xs ys ∙ by (content_of xs c) refl
  where
    by : (o : Option Content) → content_of xs c ≡ o
        → option_or (content_of xs c) (content_of ys c) ≡ content_of (merged number_of xs ys) c
    by None none = ap (λ o. option_or o (content_of ys c)) none
        ∙ sym (merged-second number_of c xs ys none)
    by (Some x) there = ap (λ o. option_or o (content_of ys c)) there
        ∙ sym (merged-first number_of c x xs ys once there)

-- a carrier that instance i owns and employs
abbrev pub at_home : ℕ → Content → Present
at_home i x = record { content = x; word = standing.Employed; employer = i }

module _ (e : Setup) (w : State) (rule : Rule e w) (off : migration e ≡ false) where
  not_on : migration e ≡ true → ⊥
  not_on on = false≢true (sym off ∙ on)

  route-leaves_none : (i : ℕ) (r : Route Content) → FitsRoute e w.shared i r → leaving_on r ≡ []
  route-leaves_none i (Looking hand) fits = refl
  route-leaves_none i (Trying hand seen) fits = refl
  route-leaves_none i (Settling x) fits = refl
  route-leaves_none i (Abandoning x) fits = absurd (not_on fits.2)
  route-leaves_none i (Sending x) fits = absurd (not_on fits.3)
  route-leaves_none i (Clearing x) fits = absurd (not_on fits.3)
  route-leaves_none i (Pushing node to) fits = refl
  route-leaves_none i (Linking node to) fits = refl

  -- no carrier is on its way from its employer
  leaves-none : (i : ℕ) (a : Actor) (s : Stage Content) → Fits e w i a s → leaving_at s ≡ []
  leaves-none i a Begin fits = refl
  leaves-none i a (Routed r why gone) fits = route-leaves_none i r fits.0
  leaves-none i a (Collecting number) fits = refl
  leaves-none i a (Searching ask at part) fits = refl
  leaves-none i a (Fetching ask at part seen) fits = refl
  leaves-none i a (Creating ask p) fits = refl
  leaves-none i a (Giving given to) fits = refl
  leaves-none i a (Taking name tries left) fits = refl
  leaves-none i a Ended fits = refl
  leaves-none i a Ready fits = refl

  -- the carriers of a scheduler
  module _ (i : ℕ) (is : is_scheduler e i ≡ true) where
    abbrev a : Actor
    a = w.actors i

    abbrev j : Instance
    j = a.instance

    stands : Stands j
    stands = rule.present.stands off i is

    standing_at : Standing e i j
    standing_at = rule.kept.ranges.instances i is

    listed : employed_multis a ++ employed_singles a ≡ j.contents ++ j.singles
    listed = ap (λ left. (filter (λ x. not (is_single x.kind)) left ++ j.contents)
        ++ (filter (λ x. is_single x.kind) left ++ j.singles))
        (leaves-none i a a.stage (rule.present.fits i))

    found : (c : ℕ) → content_of (employed_multis a ++ employed_singles a) c
        ≡ content_of (employed j) c
    found c = ap (λ xs. content_of xs c) listed
        ∙ found-merged j.contents j.singles c standing_at.order.once

    off_acul : j.settings.acul ≡ 0
    off_acul = off-acul e j off standing_at.settings

    -- what it employs it owns
    owns : All (λ x. IsOwn j.own (own_of x)) (employed j)
    owns = merged-All number_of (λ x. IsOwn j.own (own_of x)) j.contents j.singles
        (stands.home off_acul) stands.owned

    -- what it owns it employs
    module _ (c : ℕ) (own : owner_of c ≡ i) where
      abbrev weight : ℕ → ℕ
      weight n = mine i c i n

      only : (n : ℕ) → n ≢ c → weight n ≡ 0
      only n other = mine-only i c i n other

      elsewhere : (k : ℕ) → k ≢ i → numbers_of nothing (mine i c) k (w.actors k) ≡ 0
      elsewhere k other = actor-nothing (λ x. mine i c k x.number)
          (λ x. not-mine i c k x.number other) (w.actors k)

      weighs : sum_over (λ (x : Content). weight x.number) (employed j)
          ≡ sum_over (λ (o : OwnCarrier). weight o.number) j.own
      weighs = omega (
        arith,
        sum-merged number_of (λ (x : Content). weight x.number) j.contents j.singles,
        hand-leaves none (λ (x : Content). weight x.number) a.stage,
        no_option (settling_at a.stage),
        ap (sum_over (λ (x : Content). weight x.number))
            (leaves-none i a a.stage (rule.present.fits i)),
        total_at-exact (numbers_of nothing (mine i c)) w.actors i (seats e) elsewhere
            (λ past. absurd (false≢true (sym (no_scheduler-beyond e i past) ∙ is))),
        numbered-off e w rule.kept nothing (mine i c) c (nothing-only c) (mine-only i c) off,
        ap (λ k. own_numbers (mine i c) k (w.actors k)) own,
      )

      used-by : (o : Option OwnCarrier) (f : Option Content) → own_at j.own c ≡ o
          → content_of (employed j) c ≡ f → is_some o ≡ is_some f
      used-by None None lacks missing = refl
      used-by (Some o) (Some x) has there = refl
      used-by None (Some x) lacks there = absurd (some≢none (own_of x) (
          sym (item_at-All number_of (λ x. IsOwn j.own (own_of x)) c x (employed j) owns there)
          ∙ ap (own_at j.own) (item_at-key number_of c x (employed j) there) ∙ lacks))
      used-by (Some o) None has missing = absurd (omega (
        arith,
        weighs,
        sum-missing number_of (λ (x : Content). weight x.number) c (employed j)
            (λ x other. only x.number other) missing,
        sum-item own_number (λ (o : OwnCarrier). weight o.number) c o j.own has,
        ap weight (item_at-key own_number c o j.own has),
        mine-itself i c,
      ))

      used : is_used c j.own ≡ is_some (content_of (employed j) c)
      used = used-by (own_at j.own c) (content_of (employed j) c) refl refl

    place : (c : ℕ) → owner_of c ≡ i
        → place_of e w c ≡ employed_if (is_some (content_of (employed j) c)) i
    place c own = ap (λ b. place_in e w b c) off
        ∙ ap (λ k. employed_if (is_used c (w.actors k).instance.own) k) own
        ∙ ap (λ b. employed_if b i) (used c own)

    shown : (c : ℕ) (o : Option Content)
        → content_of (employed_multis a ++ employed_singles a) c ≡ o
        → present_at e w c (employed_if (is_some o) i) ≡ if_there (at_home i) o
    shown c None none = refl
    shown c (Some x) there = ap (λ o. present_if o standing.Employed i) there

    -- what is printed of a number of the scheduler
    pub present-owner : (c : ℕ) → owner_of c ≡ i
        → present_at e w c (place_of e w c) ≡ if_there (at_home i) (content_of (employed j) c)
    present-owner c own = ap (present_at e w c) (place c own)
        ∙ shown c (content_of (employed j) c) (found c)

    -- none is on its way from it
    pub leaves-nothing : leaving_at a.stage ≡ []
    leaves-nothing = leaves-none i a a.stage (rule.present.fits i)
