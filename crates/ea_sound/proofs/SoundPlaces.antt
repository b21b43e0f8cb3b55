-- Each carrier is in one place, and it stays with its owner as its kind says.
use Rattle.std.proofs.Common.{◌≡◌, ◌≢◌, ℕ, ◌∙◌, Bool, true, false, refl, sym, ap, inl, inr, arith}
use Rattle.std.proofs.lemmas.Bool.{cases_Bool, cases_eq}
use Rattle.ea_model.specs.Instance.{is_used, owner_of}
use Rattle.ea_model.specs.Trace.{IsScheduler}
use Rattle.ea_model.specs.Content.{Content}
use Rattle.ea_machine.specs.declared.stages.Stage.{Stage}
use Rattle.ea_machine.specs.declared.stages.Stage.TheVariants.{Begin, Routed, Collecting, Searching}
use Rattle.ea_machine.specs.declared.stages.Stage.TheVariants.{Fetching, Creating, Giving, Taking}
use Rattle.ea_machine.specs.declared.stages.Stage.TheVariants.{Ended, Ready}
use Rattle.ea_machine.specs.declared.stages.Route.{Route}
use Rattle.ea_machine.specs.declared.stages.Route.TheVariants.{Looking, Trying, Settling}
use Rattle.ea_machine.specs.declared.stages.Route.TheVariants.{Abandoning, Sending, Clearing}
use Rattle.ea_machine.specs.declared.stages.Route.TheVariants.{Pushing, Linking}
use Rattle.ea_machine.specs.Actor.{Actor}
use Rattle.ea_sound.specs.Contents.{AtHome, InHand, OnRoute, seats, sum_everywhere}
use Rattle.ea_sound.specs.NodePlaces.{anywhere}
use Rattle.ea_machine.specs.Outcome.{place_in, place_of}
use Rattle.ea_machine.specs.Owners.{CarrierAt, Absent, Employed, Pooled, Busy, Returning}
use Rattle.ea_machine.specs.Owners.{employed_if}
use Rattle.ea_sound.specs.Places.{AreInOnePlace, IsMulti, IsMultiOrOwn, IsNumber, PlacesCarriers}
use Rattle.ea_sound.specs.Places.{RecordsGaps, StayWithOwners, busy_count, employed_count}
use Rattle.ea_sound.specs.Places.{has_number, is_there, none}
use Rattle.ea_machine.specs.Setup.{Setup, migration}
use Rattle.ea_machine.specs.State.{State}
use Rattle.ea_machine.specs.Sums.{one_if}
use Rattle.ea_sound.specs.Present.{FitsRoute, Fits, Rule}
use Rattle.ea_sound.specs.Rule.{Belongs, Kept, numbers_of}
use Rattle.ea_sound.proofs.Created.{scheduler-number}
use Rattle.ea_sound.proofs.Employers.{busy-once, busy-scheduler, employed-once, employed-owner}
use Rattle.ea_sound.proofs.Employers.{employed-scheduler, nothing, nothing-only}
use Rattle.ea_sound.proofs.MainCarriers.{main-there}
use Rattle.ea_sound.proofs.SoundRanges.{number-scheduler}
use Rattle.ea_sound.proofs.Global.{anywhere-only, nobody-weighs, weighs-scheduler}
use Rattle.ea_sound.proofs.Homes.{sum-there}
use Rattle.ea_sound.proofs.Numbered.{no_scheduler-beyond, numbered-off, total_at-exact}
use Rattle.ea_sound.proofs.SoundOwners.{content-number, number-owned, own-rising, own-used}
use Rattle.ea_sound.proofs.SoundOwners.{sound-own}

module _ (e : Setup) (w : State) (k : Kept e w) where
  -- where a carrier is, by its word or by its owner
  pub place-on : (c : ℕ) → migration e ≡ true → place_of e w c ≡ w.shared.places c
  place-on c on = ap (λ b. place_in e w b c) on

  abbrev is_owned : ℕ → Bool
  is_owned c = is_used c (w.actors (owner_of c)).instance.own

  pub place-off : (c : ℕ) → migration e ≡ false
      → place_of e w c ≡ employed_if (is_owned c) (owner_of c)
  place-off c off = ap (λ b. place_in e w b c) off

  owned-there : (b : Bool) (i : ℕ) → one_if (is_there (employed_if b i)) ≡ one_if b
  owned-there true i = refl
  owned-there false i = refl

  pub one-place : (c : ℕ) → sum_everywhere e (has_number c) w ≡ one_if (is_there (place_of e w c))
  one-place c = elim (cases_Bool (migration e)) [
    | inl on ↦ sum-there e w k c on ∙ ap (λ p. one_if (is_there p)) (sym (place-on c on))
    | inr off ↦ number-owned e w k c ∙ sym (owned-there (is_owned c) (owner_of c))
        ∙ ap (λ p. one_if (is_there p)) (sym (place-off c off))
  ]

  owned-employer : (b : Bool) (j i : ℕ) → employed_if b j ≡ Employed i → (b ≡ true) × (j ≡ i)
  owned-employer true j i is = (refl, cc)
  owned-employer false j i is = absurd cc

  module _ (c i : ℕ) (off : migration e ≡ false) (owned : is_owned c ≡ true) (mine : owner_of c ≡ i)
    where
      others-none : (j : ℕ) → j ≢ i → employed_count c w j ≡ 0
      others-none j other = elim (cases_eq (employed_count c w j) 0) [
        | inl z ↦ z
        | inr some ↦ absurd
            (other (sym (employed-owner e w k j c (omega (arith, some)) off) ∙ mine))
      ]

      once-off : employed_count c w i ≡ 1
      once-off = omega (
        arith,
        total_at-exact (numbers_of nothing (anywhere c)) w.actors i (seats e) others-none
            (λ past. nobody-weighs e w k none (has_number c) i (no_scheduler-beyond e i past)),
        numbered-off e w k nothing (anywhere c) c (nothing-only c) (anywhere-only c) off,
        own-used c (w.actors (owner_of c)).instance.own (own-rising e w k (owner_of c)),
        ap one_if owned,
      )

      employed-off : IsScheduler e.schedulers i × (employed_count c w i ≡ 1)
      employed-off = (
        scheduler-number e i
            (weighs-scheduler e w k none (has_number c) i (omega (arith, once-off))),
        once-off,
      )

  employed-item : (c i : ℕ) → place_of e w c ≡ Employed i
      → IsScheduler e.schedulers i × (employed_count c w i ≡ 1)
  employed-item c i at = elim (cases_Bool (migration e)) [
    | inl on ↦
        let there = sym (place-on c on) ∙ at in
        (scheduler-number e i (employed-scheduler e w k c i there), employed-once e w k c i there)
    | inr off ↦
        let owned = owned-employer (is_owned c) (owner_of c) i (sym (place-off c off) ∙ at) in
        employed-off c i off owned.0 owned.1
  ]

  -- a carrier that isn't with its employer is one of those that migrate
  owned-not : (p : CarrierAt) → ((i : ℕ) → p ≢ Employed i) → p ≢ Absent → (b : Bool) (j : ℕ)
      → employed_if b j ≡ p → ⊥
  owned-not p employed absent true j is = employed j (sym is)
  owned-not p employed absent false j is = absent (sym is)

  pub away-on : (c : ℕ) (p : CarrierAt) → ((i : ℕ) → p ≢ Employed i) → p ≢ Absent
      → place_of e w c ≡ p → w.shared.places c ≡ p
  away-on c p employed absent at = elim (cases_Bool (migration e)) [
    | inl on ↦ sym (place-on c on) ∙ at
    | inr off ↦ absurd (owned-not p employed absent (is_owned c) (owner_of c)
        (sym (place-off c off) ∙ at))
  ]

  busy-item : (c i : ℕ) → place_of e w c ≡ Busy i
      → IsScheduler e.schedulers i × (busy_count c w i ≡ 1)
  busy-item c i at =
      let there = away-on c (Busy i) (λ j q. cc) (λ q. cc) at in
      (scheduler-number e i (busy-scheduler e w k c i there), busy-once e w k c i there)

  beyond-item : (c : ℕ) → (IsNumber e c → ⊥) → place_of e w c ≡ Absent
  beyond-item c not = by (place_of e w c) refl where
    there : (p : CarrierAt) → place_of e w c ≡ p → one_if (is_there p) ≡ 1 → IsNumber e c
    there p at one = content-number e w k c
        (omega (arith, one-place c, ap (λ q. one_if (is_there q)) at, one))

    by : (p : CarrierAt) → place_of e w c ≡ p → p ≡ Absent
    by Absent at = refl
    by (Employed i) at = absurd (not (there (Employed i) at refl))
    by (Pooled i g x) at = absurd (not (there (Pooled i g x) at refl))
    by (Busy i) at = absurd (not (there (Busy i) at refl))
    by (Returning i x) at = absurd (not (there (Returning i x) at refl))

  pub sound-place : AreInOnePlace e w
  sound-place = record {
    one = one-place;
    employed = employed-item;
    busy = busy-item;
    pooled = λ c i g x at.
        let there = away-on c (Pooled i g x) (λ j q. cc) (λ q. cc) at in
        let is = k.placed.pooled c i g x there in
        (scheduler-number e i is.4, is.0);
    returning = λ c i x at.
        let there = away-on c (Returning i x) (λ j q. cc) (λ q. cc) at in
        ((k.returns.to_owner c i x there).0, (k.placed.returning c i x there).0);
    beyond = beyond-item;
    unmoved = k.placed.off;
  }

  pub sound-gaps : RecordsGaps w
  sound-gaps c i g x at = let is = k.placed.pooled c i g x at in (is.1, is.2, is.3)

  home-multi : (c : ℕ) (p : CarrierAt) → w.shared.places c ≡ p → AtHome IsMulti p
  home-multi c Absent at = tt
  home-multi c (Employed i) at = tt
  home-multi c (Pooled i g x) at = (k.placed.pooled c i g x at).1
  home-multi c (Busy i) at = tt
  home-multi c (Returning i x) at = (k.placed.returning c i x at).1

module _ (e : Setup) (w : State) (i : ℕ) where
  route-stays : (r : Route Content) → FitsRoute e w.shared i r
      → OnRoute (Belongs e i) (Belongs e i) r → OnRoute IsMulti (IsMultiOrOwn i) r
  route-stays (Looking hand) fits belongs = tt
  route-stays (Trying hand seen) fits belongs = tt
  route-stays (Settling x) fits belongs = fits.0
  route-stays (Abandoning x) fits belongs = belongs.stays
  route-stays (Sending x) fits belongs = belongs.stays
  route-stays (Clearing x) fits belongs = belongs.stays
  route-stays (Pushing node to) fits belongs = tt
  route-stays (Linking node to) fits belongs = tt

  hand-stays : (a : Actor) (s : Stage Content) → Fits e w i a s
      → InHand (Belongs e i) (Belongs e i) s → InHand IsMulti (IsMultiOrOwn i) s
  hand-stays a Begin fits belongs = tt
  hand-stays a (Routed r why gone) fits belongs = route-stays r fits.0 belongs
  hand-stays a (Collecting number) fits belongs = tt
  hand-stays a (Searching ask n part) fits belongs = tt
  hand-stays a (Fetching ask n part seen) fits belongs = tt
  hand-stays a (Creating ask p) fits belongs = tt
  hand-stays a (Giving given to) fits belongs = tt
  hand-stays a (Taking name tries left) fits belongs = tt
  hand-stays a Ended fits belongs = tt
  hand-stays a Ready fits belongs = tt

module _ (e : Setup) (w : State) (rule : Rule e w) where
  sound-stay : StayWithOwners w
  sound-stay = record {
    contents = rule.present.contents;
    singles = rule.present.singles;
    in_hand = λ i. hand-stays e w i (w.actors i) (w.actors i).stage (rule.present.fits i)
        (rule.kept.ranges.in_hand i);
    home = λ c. home-multi e w rule.kept c (w.shared.places c) refl;
  }

  pub sound-carriers : PlacesCarriers e w
  sound-carriers = record {
    one = sound-place e w rule.kept;
    stay = sound-stay;
    own = sound-own e w rule.kept;
    main = λ some i is.
        let scheduler = number-scheduler e i is in
        main-there e i (w.actors i).instance (rule.present.main i scheduler)
        (rule.kept.ranges.instances i scheduler).order some;
  }
