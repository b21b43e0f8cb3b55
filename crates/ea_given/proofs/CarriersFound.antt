-- Carriers of a run that are there, found by their numbers.
use Rattle.std.proofs.Common.{◌≡◌, ◌≢◌, ℕ, zero, suc, ◌+◌, ◌<◌, ◌≤◌, List}
use Rattle.std.proofs.Common.{◌++◌, refl, sym, ap, ◌∙◌, subst, inl, inr, arith}
use Rattle.std.specs.Prelude.{Option, None, Some, flat_map, option_map}
use Rattle.std.specs.List.{range_with_len}
use Rattle.std.proofs.lemmas.Bool.{cases_eq}
use Rattle.ea_model.specs.declared.settings.Config.{Config}
use Rattle.ea_model.specs.declared.trace.Trace.{Trace}
use Rattle.ea_model.specs.Content.{Content}
use Rattle.ea_model.specs.Instance.{content_of}
use Rattle.ea_model.specs.Keyed.{item_at}
use Rattle.ea_model.proofs.NumberedItems.{each-range, flat_map-same}
use Rattle.ea_model.proofs.Rising.{item_at-key, item_here, item_past}
use Rattle.ea_machine.specs.Outcome.{Present, place_of, present, present_at}
use Rattle.ea_machine.specs.Setup.{Setup, greatest_number, migration, setup_of}
use Rattle.ea_machine.specs.State.{State}
use Rattle.ea_machine.specs.Stops.{cut, run_with_stops}
use Rattle.ea_sound.specs.Places.{IsNumber}
use Rattle.ea_sound.specs.Rule.{Kept}
use Rattle.ea_sound.proofs.Asked.{reached-rule}
use Rattle.ea_sound.proofs.PresentContents.{content_in, contents, first-listed, first_content, listed}
use Rattle.ea_sound.proofs.PresentContents.{present-found}
use Rattle.ea_mem_shared.specs.Places.{place_at}
use Rattle.ea_outcome.specs.Resting.{carrier_of}
use Rattle.ea_outcome.proofs.OutcomeSums.{present-is}
use Rattle.ea_given.specs.declared.run.GivenRun.{GivenRun}
use Rattle.ea_given.specs.Between.{carrier_in}
use Rattle.ea_given.specs.Runs.{StandsAfter}
use Rattle.ea_given.proofs.Ends.{stand-in}

abbrev number_in : Present → ℕ
number_in p = p.content.number

abbrev IsNumbered : ℕ → Option Present → Type 0
IsNumbered n o = (p : Present) → o ≡ Some p → p.content.number ≡ n

-- a carrier of another number is passed
past-one : (n k : ℕ) (o : Option Present) (rest : List Present) → IsNumbered n o → n ≢ k
    → item_at number_in (listed o ++ rest) k ≡ item_at number_in rest k
past-one n k None rest numbered other = refl
past-one n k (Some p) rest numbered other =
    item_past number_in k p rest (λ same. other (sym (numbered p refl) ∙ same))

-- one of the number is found
here-one : (n k : ℕ) (o : Option Present) (rest : List Present) → IsNumbered n o → n ≡ k
    → item_at number_in rest k ≡ None → item_at number_in (listed o ++ rest) k ≡ o
here-one n k None rest numbered same none = none
here-one n k (Some p) rest numbered same none =
    item_here number_in k p rest (numbered p refl ∙ same)

-- where each number up to the greatest gives at most one carrier, of that number
module _ (g : ℕ → Option Present) (greatest : ℕ)
    (each : (n : ℕ) → 1 ≤ n → n ≤ greatest → IsNumbered n (g n)) (k : ℕ) where
  abbrev found_from : ℕ → ℕ → Option Present
  found_from low count =
      item_at number_in (flat_map (λ n. listed (g n)) (range_with_len low count)) k

  abbrev rest_from : ℕ → ℕ → List Present
  rest_from low count = flat_map (λ n. listed (g n)) (range_with_len (low + 1) count)

  found-none : (count low : ℕ) → 1 ≤ low → low + count ≤ greatest + 1
      → ((n : ℕ) → low ≤ n → n < low + count → n ≢ k) → found_from low count ≡ None
  found-none zero low some upto others = refl
  found-none (suc count) low some upto others =
      past-one low k (g low) (rest_from low count) (each low some (omega (arith, upto)))
      (others low (omega arith) (omega arith))
      ∙ found-none count (low + 1) (omega arith) (omega (arith, upto))
      (λ n from below. others n (omega (arith, from)) (omega (arith, below)))

  found-one : (count low : ℕ) → 1 ≤ low → low + count ≤ greatest + 1 → low ≤ k
      → k < low + count → found_from low count ≡ g k
  found-one zero low some upto from below = absurd (omega (arith, from, below))
  found-one (suc count) low some upto from below = elim (cases_eq low k) [
    | inl same ↦ here-one low k (g low) (rest_from low count)
        (each low some (omega (arith, upto))) same
        (found-none count (low + 1) (omega arith) (omega (arith, upto))
        (λ n after within is. omega (arith, after, is, same)))
        ∙ ap g same
    | inr other ↦ past-one low k (g low) (rest_from low count)
        (each low some (omega (arith, upto))) other
        ∙ found-one count (low + 1) (omega arith) (omega (arith, upto))
        (omega (arith, from, other)) (omega (arith, below))
  ]

-- what is left of a carrier where a number finds it
numbered-by : (n : ℕ) (xs : List Content) (o : Option Present)
    → content_of xs n ≡ option_map content_in o → IsNumbered n o
numbered-by n xs o is p there = item_at-key (λ x. x.number) n p.content xs
    (is ∙ ap (option_map content_in) there)

-- the schedulers of a run, and what they share, as they stand after some turns
module _ (r : GivenRun) (c : Config) (t : Trace) (turns : List ℕ) (at : StandsAfter c t turns r)
  where
    abbrev e : Setup
    e = setup_of c t

    abbrev w : State
    w = run_with_stops e turns

    k : Kept e w
    k = (reached-rule c t at.shared.config at.shared.trace w at.shared.reached).kept

    -- where the carrier of a number is
    abbrev pub there_at : ℕ → Option Present
    there_at n = carrier_of (migration e) (place_at r.shared.places) r.schedulers.items n

    there-is : (n : ℕ) → IsNumber e n → present_at e w n (place_of e w n) ≡ listed (there_at n)
    there-is n number = present-is c t at.shared.config at.shared.trace (migration e) refl
        r.schedulers.items (place_at r.shared.places) r.shared.given (cut e.stops turns)
        (stand-in c t r.schedulers.items r.shared turns at.shared at.schedulers) n number

    there-numbered : (n : ℕ) → 1 ≤ n → n ≤ greatest_number e → IsNumbered n (there_at n)
    there-numbered n some most = numbered-by n (contents e w k) (there_at n)
        (present-found e w k n (some, most) ∙ ap first_content (there-is n (some, most))
        ∙ first-listed (there_at n))

    all-there : present e w ≡ flat_map (λ n. listed (there_at n))
        (range_with_len 1 (greatest_number e))
    all-there = flat_map-same (λ n. present_at e w n (place_of e w n)) (λ n. listed (there_at n))
        (range_with_len 1 (greatest_number e))
        (each-range (greatest_number e) _ (λ n some most. there-is n (some, most)))

    -- it is the carrier of that number among all that are there
    pub carrier-found : (n : ℕ) → IsNumber e n → carrier_in e w n ≡ there_at n
    carrier-found n number =
        let most = greatest_number e in
        ap (λ ps. item_at number_in ps n) all-there
        ∙ found-one there_at most there-numbered n most 1 (omega arith) (omega arith) number.0
        (omega (arith, number.1))

    -- no other number is that of a carrier
    pub carrier-none : (n : ℕ) → (IsNumber e n → ⊥) → carrier_in e w n ≡ None
    carrier-none n other =
        let most = greatest_number e in
        ap (λ ps. item_at number_in ps n) all-there
        ∙ found-none there_at most there-numbered n most 1 (omega arith) (omega arith)
        (λ i some below is. other (subst (IsNumber e) is (some, omega (arith, below))))
