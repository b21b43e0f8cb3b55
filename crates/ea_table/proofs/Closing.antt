-- Where carriers are, by the words and the slots of a closed table.
use Rattle.std.proofs.Common.{◌≡◌, ℕ, zero, suc, ◌+◌, ◌*◌, ◌/◌, ◌%◌, ◌^◌, ◌≤◌, Bool, true}
use Rattle.std.proofs.Common.{false, ◌&&◌, nat_le, List, [], ◌∷◌, None, Some, slice_index}
use Rattle.std.proofs.Common.{slice_index_or, refl, sym, ap, ◌∙◌, subst, arith}
use mathlib.Core.Option.{some, some-injective, some-ne-none}
use lib.ListN.{get_elem?}
use Rattle.ea_model.specs.declared.settings.Config.{Config}
use Rattle.ea_model.specs.declared.trace.Trace.{Trace}
use Rattle.ea_model.specs.declared.units.TheConstants.{NUMBERS}
use Rattle.ea_model.specs.Content.{Content}
use Rattle.ea_machine.specs.declared.nodes.Named.{Named}
use Rattle.ea_machine.specs.Machine.{run}
use Rattle.ea_machine.specs.Setup.{setup_of}
use Rattle.ea_outcome.specs.Resting.{StandIn}
use Rattle.ea_sched.specs.declared.state.Scheduler.{Scheduler}
use Rattle.ea_machine.specs.declared.owners.OwnerWord.{OwnerWord}
use Rattle.ea_machine.specs.declared.owners.OwnerWord.TheVariants as word
use Rattle.ea_machine.specs.Owners.{CarrierAt, Absent, Employed, Pooled, Busy, Returning, word_of}
use Rattle.ea_shared.specs.Carriers.{IsCarrier, home_of}
use Rattle.ea_word.specs.declared.owners.TheConstants.{BUSY_STATE, EMPLOYED_STATE, INSTANCE_SHIFT}
use Rattle.ea_word.specs.declared.owners.TheConstants.{LARGEST_SHIFT, MAX_CODED_INSTANCE}
use Rattle.ea_word.specs.declared.owners.TheConstants.{POOLED_STATE, RETURNING_STATE, STATES}
use Rattle.ea_word.specs.Codes.{IsShown, owner_code, word_by, word_in}
use Rattle.ea_table.specs.Ending.{AreGiven, HasPlaces, IsClosedIn, place_by, place_if}
use Rattle.ea_table.specs.Ending.{places_in}
use Rattle.ea_table.specs.Slots.{Slot, slot_at}
use Rattle.ea_table.specs.Words.{owner_at, place_code}

by-parts : (found state i g : ℕ) → found % STATES ≡ state
    → found / 2 ^ INSTANCE_SHIFT % MAX_CODED_INSTANCE + 1 ≡ i
    → 2 * (found / 2 ^ LARGEST_SHIFT) ≡ g → word_in found ≡ word_by state i g
by-parts found state i g p q r =
    ap (λ s. word_by s (found / 2 ^ INSTANCE_SHIFT % MAX_CODED_INSTANCE + 1)
    (2 * (found / 2 ^ LARGEST_SHIFT))) p
    ∙ ap (λ j. word_by state j (2 * (found / 2 ^ LARGEST_SHIFT))) q ∙ ap (word_by state i) r

-- the number of an owner word gives it back
pub word-back : (w : OwnerWord) → IsShown w → word_in (owner_code w) ≡ w
word-back word.Absent s = refl
word-back (word.Employed i) s = by-parts (owner_code (word.Employed i)) EMPLOYED_STATE i 0
    (omega arith) (omega (arith, s.0, s.1)) (omega (arith, s.0, s.1))
word-back (word.Pooled i g) s = by-parts (owner_code (word.Pooled i g)) POOLED_STATE i g
    (omega arith) (omega (arith, s.0, s.1)) (omega (arith, s.0, s.1, s.2))
word-back (word.Busy i) s = by-parts (owner_code (word.Busy i)) BUSY_STATE i 0
    (omega arith) (omega (arith, s.0, s.1)) (omega (arith, s.0, s.1))
word-back (word.Returning i) s = by-parts (owner_code (word.Returning i)) RETURNING_STATE i 0
    (omega arith) (omega (arith, s.0, s.1)) (omega (arith, s.0, s.1))

-- a carrier is where its word says, with the content that is at home
placed-back : (p : CarrierAt) (slot : Slot)
    → ((x : Content) → home_of p ≡ Some x → slot ≡ Some x) → place_by (word_of p) slot ≡ p
placed-back Absent slot home = refl
placed-back (Employed i) slot home = refl
placed-back (Pooled i g x) slot home = ap (place_by (word.Pooled i g)) (home x refl)
placed-back (Busy i) slot home = refl
placed-back (Returning i x) slot home = ap (place_by (word.Returning i)) (home x refl)

pub slot-is : (xs : List Slot) (k : ℕ) (x : Slot) → get_elem? xs k ≡ some x
    → slice_index_or xs k None ≡ x
slot-is [] k x q = absurd (some-ne-none x (sym q))
slot-is (y ∷ ys) zero x q = some-injective y x q
slot-is (y ∷ ys) (suc k) x q = slot-is ys k x q

both-low : (a b : ℕ) → (nat_le 1 a && nat_le a b) ≡ true → 1 ≤ a
both-low a b is = grind (arith, is)

both-high : (a b : ℕ) → (nat_le 1 a && nat_le a b) ≡ true → a ≤ b
both-high a b is = grind (arith, is)

both-true : (a b : ℕ) → 1 ≤ a → a ≤ b → (nat_le 1 a && nat_le a b) ≡ true
both-true a b low high = grind (arith, low, high)

module _ (n g : ℕ) (ws : List ℕ) (xs : List Slot) where
  -- a carrier in the range
  pub in-range : (number : ℕ) → IsCarrier n number → places_in n g ws xs number
      ≡ place_by (word_in (slice_index ws (owner_at n g number)))
      (slice_index_or xs (slot_at number) None)
  in-range number is = ap (λ b. place_if n g ws xs b number)
      (both-true number (NUMBERS * n) is.0 is.1)

  -- what is read off the table is where the carriers are
  module _ (places : ℕ → CarrierAt) (has : HasPlaces n g ws xs places) where
    within : (number : ℕ) → IsCarrier n number → place_if n g ws xs true number ≡ places number
    within number is =
        let slot = slice_index_or xs (slot_at number) None in
        ap (λ f. place_by (word_in f) slot) (has.words number is)
        ∙ ap (λ w. place_by w slot) (word-back (word_of (places number)) (has.shown number))
        ∙ placed-back (places number) slot
        (λ x home. slot-is xs (slot_at number) (Some x) (has.homes number is x home))

    pub places-read : (number : ℕ) → places_in n g ws xs number ≡ places number
    places-read number = by (nat_le 1 number && nat_le number (NUMBERS * n)) refl where
      by : (b : Bool) → (nat_le 1 number && nat_le number (NUMBERS * n)) ≡ b
          → place_if n g ws xs b number ≡ places number
      by true q = within number
          (both-low number (NUMBERS * n) q, both-high number (NUMBERS * n) q)
      by false q = sym (has.beyond number (λ is.
          let never : true ≡ false = sym (both-true number (NUMBERS * n) is.0 is.1) ∙ q in cc))

    -- so it is so for what is read, too
    pub owners-read : (number : ℕ) → IsCarrier n number
        → slice_index ws (owner_at n g number) ≡ place_code (places_in n g ws xs number)
    owners-read number is =
        has.words number is ∙ ap place_code (sym (places-read number))

    pub shown-read : (number : ℕ) → IsShown (word_of (places_in n g ws xs number))
    shown-read number =
        subst (λ p. IsShown (word_of p)) (sym (places-read number)) (has.shown number)

-- the word that is decoded is that of the carrier's place
told-by : (w : OwnerWord) (slot : Slot) → owner_code w ≡ owner_code (word_of (place_by w slot))
    → w ≡ word_of (place_by w slot)
told-by word.Absent slot e = refl
told-by (word.Employed i) slot e = refl
told-by (word.Pooled i g) None e = absurd (omega (arith, e))
told-by (word.Pooled i g) (Some x) e = refl
told-by (word.Busy i) slot e = refl
told-by (word.Returning i) None e = absurd (omega (arith, e))
told-by (word.Returning i) (Some x) e = refl

pub word-told : (w : OwnerWord) (found : ℕ) (slot : Slot) (p : CarrierAt) → found ≡ owner_code w
    → p ≡ place_by w slot → found ≡ place_code p → w ≡ word_of p
word-told w found slot p is at coded =
    told-by w slot (sym is ∙ coded ∙ ap place_code at) ∙ ap word_of (sym at)

-- the schedulers stand as after the turns after which the table was closed
pub stand-in : (c : Config) (t : Trace) (ss : List Scheduler) (ws : List ℕ) (xs : List Slot)
    (turns : List ℕ) → IsClosedIn c t ss ws xs turns → (names : List Named)
    → AreGiven c.schedulers t.greatest ws names
    → StandIn c t ss (places_in c.schedulers t.greatest ws xs) names turns
stand-in c t ss ws xs turns closed names are =
    let w = run (setup_of c t) turns in
    record {
      actors = closed.actors;
      stops = closed.stops;
      told = λ on number.
          places-read c.schedulers t.greatest ws xs w.shared.places closed.places number;
      given = are w.shared.given closed.given;
    }
