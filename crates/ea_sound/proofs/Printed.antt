-- The carriers that are printed are those that are there, with all contents.
use Rattle.std.proofs.Common.{◌≡◌, ◌≢◌, ℕ, zero, suc, ◌+◌, ◌<◌, ◌∙◌, List, ◌++◌, map, refl, sym, ap}
use Rattle.std.proofs.Common.{arith}
use Rattle.std.specs.Prelude.{Option, None, Some, filter, not, ◌==◌}
use Rattle.std.specs.List.{range_with_len}
use Rattle.ea_model.specs.declared.carriers.Standing.TheVariants as standing
use Rattle.ea_model.specs.Content.{Content}
use Rattle.ea_model.specs.Instance.{content_of}
use Rattle.ea_model.proofs.Rising.{item_at-All, item_at-key}
use Rattle.ea_laws.specs.Kept.{number_of}
use Rattle.ea_machine.specs.declared.stages.Stage.{Stage}
use Rattle.ea_machine.specs.declared.stages.Stage.TheVariants.{Begin, Routed, Collecting, Searching}
use Rattle.ea_machine.specs.declared.stages.Stage.TheVariants.{Fetching, Creating, Giving, Taking}
use Rattle.ea_machine.specs.declared.stages.Stage.TheVariants.{Ended, Ready}
use Rattle.ea_machine.specs.declared.stages.Route.{Route}
use Rattle.ea_machine.specs.declared.stages.Route.TheVariants.{Looking, Trying, Settling}
use Rattle.ea_machine.specs.declared.stages.Route.TheVariants.{Abandoning, Sending, Clearing}
use Rattle.ea_machine.specs.declared.stages.Route.TheVariants.{Pushing, Linking}
use Rattle.ea_machine.specs.Actor.{Actor}
use Rattle.ea_sound.specs.Contents.{hand_sum, home_sum, route_sum, seats, sum_everywhere}
use Rattle.ea_machine.specs.Outcome.{Present, place_of, present, present_at, present_if}
use Rattle.ea_machine.specs.Outcome.{settling_at, settling_on}
use Rattle.ea_machine.specs.Owners.{CarrierAt, Absent, Employed, Pooled, Busy, Returning}
use Rattle.ea_sound.specs.Places.{busy_count, employed_count, has_number, is_there, none}
use Rattle.ea_machine.specs.Setup.{Setup, greatest_number}
use Rattle.ea_machine.specs.State.{State}
use Rattle.ea_machine.specs.Statistics.{employed_multis, employed_singles, is_single, leaving_at}
use Rattle.ea_machine.specs.Statistics.{leaving_on}
use Rattle.ea_machine.specs.Sums.{one_if, sum_over}
use Rattle.ea_sound.specs.Rule.{Kept}
use Rattle.ea_sound.proofs.Anywhere.{everywhere}
use Rattle.ea_sound.proofs.Counted.{Counts, CountsIn, IsOfCounted, all-counted, at_actor}
use Rattle.ea_sound.proofs.Counted.{counts-all, counts-home, counts-less, counts-more, counts-only}
use Rattle.ea_sound.proofs.Counted.{counts-seat, list_sum}
use Rattle.ea_sound.proofs.Employers.{there-slot}
use Rattle.ea_sound.proofs.Global.{IsOf}
use Rattle.ea_sound.proofs.KeyedWeights.{counts-key, counts-other, sum-missing}
use Rattle.ea_sound.proofs.Ranged.{at_number, range-end, range-hit, sum-flat, sum-split}
use Rattle.ea_sound.proofs.SoundOwners.{content-number, number-once}
use Rattle.ea_sound.proofs.SoundPlaces.{away-on, one-place, sound-place}
use Rattle.ea_sound.proofs.SumParts.{AreParts, sum-nothing, sum-parts}
use Rattle.ea_sound.proofs.Weights.{sum-append, sum-map, sum-none, sum-zero}

-- what is given for a content in the hand that is busy
abbrev pub of_option : (Content → ℕ) → Option Content → ℕ
of_option b None = 0
of_option b (Some x) = b x

-- in the hand is one that leaves, or one that is to be settled
route-leaves : (b h : Content → ℕ) (r : Route Content)
    → route_sum b h r ≡ sum_over h (leaving_on r) + of_option b (settling_on r)
route-leaves b h (Looking hand) = refl
route-leaves b h (Trying hand seen) = refl
route-leaves b h (Settling x) = omega arith
route-leaves b h (Abandoning x) = omega arith
route-leaves b h (Sending x) = omega arith
route-leaves b h (Clearing x) = omega arith
route-leaves b h (Pushing node to) = refl
route-leaves b h (Linking node to) = refl

pub hand-leaves : (b h : Content → ℕ) (s : Stage Content)
    → hand_sum b h s ≡ sum_over h (leaving_at s) + of_option b (settling_at s)
hand-leaves b h Begin = refl
hand-leaves b h (Routed r why gone) = route-leaves b h r
hand-leaves b h (Collecting number) = refl
hand-leaves b h (Searching ask at part) = refl
hand-leaves b h (Fetching ask at part seen) = refl
hand-leaves b h (Creating ask p) = refl
hand-leaves b h (Giving given to) = refl
hand-leaves b h (Taking name tries left) = refl
hand-leaves b h Ended = refl
hand-leaves b h Ready = refl

-- the contents that a scheduler employs, as they are printed
abbrev employed_by : Actor → List Content
employed_by a = employed_multis a ++ employed_singles a

employed-sum : (f : Content → ℕ) (a : Actor) → sum_over f (employed_by a)
    ≡ sum_over f a.instance.contents + sum_over f a.instance.singles
    + sum_over f (leaving_at a.stage)
employed-sum f a = omega (
  arith,
  sum-append f (employed_multis a) (employed_singles a),
  sum-append f (filter (λ x. not (is_single x.kind)) (leaving_at a.stage)) a.instance.contents,
  sum-append f (filter (λ x. is_single x.kind) (leaving_at a.stage)) a.instance.singles,
  sum-split f (λ (x : Content). is_single x.kind) (leaving_at a.stage),
)

pub no_option : (o : Option Content) → of_option none o ≡ 0
no_option None = refl
no_option (Some x) = refl

option-counted : (o : Option Content) → IsOfCounted (λ f. of_option f o)
option-counted None g f h z = refl
option-counted (Some x) g f h z = h x z

pub has-number : (c n : ℕ) → one_if (n == c) ≡ 1 → n ≡ c
has-number c n one = grind (arith, one)

module _ (e : Setup) (w : State) (k : Kept e w) where
  -- what a content that counts gives, if it has the number
  abbrev numbered : (Content → ℕ) → ℕ → Content → ℕ
  numbered f c x = at_number x.number (f x) c

  -- a carrier is printed with one content of its number, which counts
  abbrev IsPrinted : ℕ → List Present → Type 0
  IsPrinted c ps = (x : Content) × ((f : Content → ℕ) → sum_over (λ p. f p.content) ps ≡ f x)
      × Counts e w x × (x.number ≡ c)

  module _ (c i : ℕ) (is : i < seats e) where
    abbrev a : Actor
    a = w.actors i

    module _ (one : employed_count c w i ≡ 1) where
      one_listed : sum_over (has_number c) (employed_by a) ≡ 1
      one_listed = omega (
        arith,
        one,
        employed-sum (has_number c) a,
        hand-leaves none (has_number c) a.stage,
        no_option (settling_at a.stage),
      )

      employed-printed : IsPrinted c (present_if (content_of (employed_by a) c) standing.Employed i)
      employed-printed = by (content_of (employed_by a) c) refl where
        by : (o : Option Content) → content_of (employed_by a) c ≡ o
            → IsPrinted c (present_if o standing.Employed i)
        by None missing = absurd (omega (
          arith,
          one_listed,
          sum-missing number_of (has_number c) c (employed_by a) (counts-other number_of c)
              missing,
        ))
        by (Some x) there = (
          x,
          (λ f. omega arith),
          counts-seat e w i x is
              (counts-more (list_sum (employed_by a)) (at_actor a)
              (λ f. of_option f (settling_at a.stage)) x
              (λ f. omega (arith, employed-sum f a, hand-leaves f f a.stage))
              (option-counted (settling_at a.stage))
              (item_at-All number_of (CountsIn (list_sum (employed_by a))) c x (employed_by a)
              (counts-all (employed_by a)) there)),
          item_at-key number_of c x (employed_by a) there,
        )

    module _ (one : busy_count c w i ≡ 1) where
      one_settling : of_option (has_number c) (settling_at a.stage) ≡ 1
      one_settling = omega (
        arith,
        one,
        hand-leaves (has_number c) none a.stage,
        sum-zero none a.instance.contents (λ j d within. refl),
        sum-zero none a.instance.singles (λ j d within. refl),
        sum-zero none (leaving_at a.stage) (λ j d within. refl),
      )

      settling-counts : (x : Content) → settling_at a.stage ≡ Some x → CountsIn (at_actor a) x
      settling-counts x there = record {
        rest = λ f. sum_over f a.instance.contents + sum_over f a.instance.singles
            + sum_over f (leaving_at a.stage);
        whole = λ f. omega (arith, hand-leaves f f a.stage, ap (of_option f) there);
        counted = λ g f h z. omega (
          arith,
          sum-none g f a.instance.contents h (omega (arith, z)),
          sum-none g f a.instance.singles h (omega (arith, z)),
          sum-none g f (leaving_at a.stage) h (omega (arith, z)),
        );
      }

      busy-printed : IsPrinted c (present_if (settling_at a.stage) standing.Busy i)
      busy-printed = by (settling_at a.stage) refl where
        by : (o : Option Content) → settling_at a.stage ≡ o
            → IsPrinted c (present_if o standing.Busy i)
        by None missing =
            absurd (omega (arith, one_settling, ap (of_option (has_number c)) missing))
        by (Some x) there = (
          x,
          (λ f. omega arith),
          counts-seat e w i x is (settling-counts x there),
          has-number c x.number
              (omega (arith, one_settling, ap (of_option (has_number c)) there)),
        )

  home-counts : (c : ℕ) (p : CarrierAt) (x : Content) → w.shared.places c ≡ p → p ≢ Absent
      → ((f : Content → ℕ) → home_sum f p ≡ f x) → Counts e w x
  home-counts c p x at there one =
      counts-home e w c x (there-slot e w k c (λ q. there (sym at ∙ q)))
      (λ f. ap (home_sum f) at ∙ one f)

  is-printed : (c : ℕ) (p : CarrierAt) → place_of e w c ≡ p → p ≢ Absent
      → IsPrinted c (present_at e w c p)
  is-printed c Absent at there = absurd (there refl)
  is-printed c (Employed i) at there =
      let is = (sound-place e w k).employed c i at in
      employed-printed c i (omega (arith, is.0.1)) is.1
  is-printed c (Pooled i g x) at there =
      let away = away-on e w k c (Pooled i g x) (λ j q. cc) there at in
      let number = ((sound-place e w k).pooled c i g x at).1 in
      (x, (λ f. omega arith), home-counts c (Pooled i g x) x away there (λ f. refl), number)
  is-printed c (Busy i) at there =
      let is = (sound-place e w k).busy c i at in
      busy-printed c i (omega (arith, is.0.1)) is.1
  is-printed c (Returning i x) at there =
      let away = away-on e w k c (Returning i x) (λ j q. cc) there at in
      let number = ((sound-place e w k).returning c i x at).1 in
      (x, (λ f. omega arith), home-counts c (Returning i x) x away there (λ f. refl), number)

  -- what is printed of a number gives
  abbrev printed_at : (Content → ℕ) → ℕ → ℕ
  printed_at f c = sum_over (λ p. f p.content) (present_at e w c (place_of e w c))

  numbered-none : (f : Content → ℕ) (c : ℕ) (x : Content) → has_number c x ≡ 0
      → numbered f c x ≡ 0
  numbered-none f c x z = by x.number (f x) z where
    by : (n v : ℕ) → one_if (n == c) ≡ 0 → at_number n v c ≡ 0
    by n v z = grind (arith, z)

  numbered-of : (f : Content → ℕ) (c n : ℕ) → n ≡ c → IsOf n (numbered f c)
  numbered-of f c n is x other = by x.number (f x) other where
    by : (m v : ℕ) → m ≢ n → at_number m v c ≡ 0
    by m v other = grind (arith, other, is)

  numbered-itself : (c n v : ℕ) → n ≡ c → at_number n v c ≡ v
  numbered-itself c n v is = grind (arith, is)

  abbrev HasSum : (Content → ℕ) → ℕ → CarrierAt → Type 0
  HasSum f c p =
      sum_over (λ q. f q.content) (present_at e w c p) ≡ sum_everywhere e (numbered f c) w

  printed-sum : (f : Content → ℕ) (c : ℕ) → HasSum f c (place_of e w c)
  printed-sum f c = by (place_of e w c) refl where
    there : (p : CarrierAt) → place_of e w c ≡ p → p ≢ Absent → HasSum f c p
    there p at some =
        let is = is-printed c p at some in
        let x = is.0 in
        omega (
          arith,
          is.1 f,
          counts-only e w x is.2 (number-once e w k x.number) (numbered f c)
              (numbered-of f c x.number is.3),
          numbered-itself c x.number (f x) is.3,
        )

    by : (p : CarrierAt) → place_of e w c ≡ p → HasSum f c p
    by Absent at =
        sym (all-counted e w (has_number c) (numbered f c) (numbered-none f c)
        (one-place e w k c ∙ ap (λ p. one_if (is_there p)) at))
    by (Employed i) at = there (Employed i) at (λ q. cc)
    by (Pooled i g x) at = there (Pooled i g x) at (λ q. cc)
    by (Busy i) at = there (Busy i) at (λ q. cc)
    by (Returning i x) at = there (Returning i x) at (λ q. cc)

  -- the contents of the first numbers
  abbrev first_numbered : (Content → ℕ) → ℕ → Content → ℕ
  first_numbered f n x = sum_over (at_number x.number (f x)) (range_with_len 1 n)

  first-sum : (f : Content → ℕ) (n : ℕ)
      → sum_over (printed_at f) (range_with_len 1 n) ≡ sum_everywhere e (first_numbered f n) w
  first-sum f zero = sym (sum-nothing e w k none (λ x. refl))
  first-sum f (suc n) =
      let less = first_numbered f n in
      let more = first_numbered f (suc n) in
      omega (
        arith,
        range-end (printed_at f) 1 n,
        first-sum f n,
        printed-sum f (1 + n),
        sum-parts less (numbered f (1 + n)) none more e w
            (everywhere e w k (AreParts less (numbered f (1 + n)) none more)
            (λ i x b l c. omega (arith, range-end (at_number x.number (f x)) 1 n))),
        sum-nothing e w k none (λ x. refl),
      )

  -- what is printed has the sum of all contents
  pub printed-all : (f : Content → ℕ)
      → sum_over f (map (λ p. p.content) (present e w)) ≡ sum_everywhere e f w
  printed-all f =
      let n = greatest_number e in
      let all = first_numbered f n in
      omega (
        arith,
        sum-map f (λ (p : Present). p.content) (present e w),
        sum-flat (λ (p : Present). f p.content) (λ c. present_at e w c (place_of e w c))
            (range_with_len 1 n),
        first-sum f n,
        sum-parts all none none f e w (everywhere e w k (AreParts all none none f)
            (λ i x b l c. hit x c)),
        sum-nothing e w k none (λ x. refl),
      ) where
        hit : (x : Content) → Counts e w x → first_numbered f (greatest_number e) x + 0 + 0 ≡ f x
        hit x c =
            let is = content-number e w k x.number (omega (
              arith,
              counts-less e w x c (has_number x.number),
              counts-key number_of x.number x refl,
            )) in
            omega (arith, range-hit x.number (f x) (greatest_number e) is.0 is.1)
