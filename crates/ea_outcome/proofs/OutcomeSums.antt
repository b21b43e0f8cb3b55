-- What is printed of a state is what its schedulers come to, whether carriers migrate or not.
use Rattle.std.proofs.Common.{◌≡◌, ℕ, ◌+◌, ◌-◌, ◌*◌, ◌<◌, ◌≤◌, true, false, List, [], ◌∷◌}
use Rattle.std.proofs.Common.{◌++◌, length, map, get_or, refl, sym, ap, ◌∙◌, subst, inl, inr, arith}
use Rattle.std.specs.Prelude.{All, Bool, IsSome, Option, None, Some, is_some, nat_le, ◌&&◌, ◌/◌}
use Rattle.std.specs.Prelude.{flat_map, option_map, slice_get, sum_by}
use Rattle.std.specs.List.{range_with_len}
use Rattle.std.specs.Option.{option_and_then, option_or}
use Rattle.std.proofs.lemmas.Bool.{cases_Bool}
use Rattle.std.proofs.lemmas.List.{get_or-map, length-append, length-map}
use Rattle.std.proofs.lemmas.List.Elements.{All-weaker}
use Rattle.std.proofs.lemmas.List.FromFn.{get_or-map-range_with_len, length-map-range_with_len}
use Rattle.std.proofs.lemmas.List.FromFn.{length-range_with_len}
use Rattle.std.proofs.lemmas.Option.{slice_get_cases}
use Rattle.std.proofs.lemmas.Simd.{map-map}
use Rattle.ea_model.specs.declared.carriers.CarrierLine.{CarrierLine}
use Rattle.ea_model.specs.declared.carriers.Spot.{Spot}
use Rattle.ea_model.specs.declared.carriers.Standing.{Standing}
use Rattle.ea_model.specs.declared.carriers.Standing.TheVariants as standing
use Rattle.ea_model.specs.declared.carriers.Totals.{Totals}
use Rattle.ea_model.specs.Entries.{Entry}
use Rattle.ea_model.specs.declared.outcome.Outcome.{Outcome}
use Rattle.ea_model.specs.declared.settings.Config.{Config}
use Rattle.ea_model.specs.declared.trace.Trace.{Trace}
use Rattle.ea_model.specs.declared.units.TheConstants.{MAX_SCHEDULERS, NUMBERS, PAGE_UNITS}
use Rattle.ea_model.specs.Content.{Content, allocated, block_at, size_of}
use Rattle.ea_model.specs.Instance.{block_in, content_of, employed, owner_of}
use Rattle.ea_model.specs.Lists.{Items}
use Rattle.ea_model.specs.Outcome.{plain_outcome}
use Rattle.ea_model.specs.Settings.{IsValidConfig}
use Rattle.ea_model.specs.Trace.{IsValidTrace}
use Rattle.ea_model.specs.Trace as traces
use Rattle.ea_model.proofs.NumberedItems.{each-range, flat_map-same, if_there, map-flat_map}
use Rattle.ea_machine.specs.declared.nodes.Named.{Named}
use Rattle.ea_machine.specs.Actor.{Actor}
use Rattle.ea_machine.specs.Machine.{run}
use Rattle.ea_machine.specs.Outcome.{Present, actors_of, line_of, outcome, place_in, place_of}
use Rattle.ea_machine.specs.Outcome as machine
use Rattle.ea_machine.specs.Outcome.{present, present_at, present_if, settling_at}
use Rattle.ea_machine.specs.Owners.{CarrierAt, Absent, Employed, Pooled, Busy, Returning}
use Rattle.ea_machine.specs.Setup.{Setup, greatest_number, is_scheduler, migration, setup_of}
use Rattle.ea_machine.specs.State.{State}
use Rattle.ea_machine.specs.Statistics.{employed_multis, employed_singles, leaving_at}
use Rattle.ea_machine.specs.Stops.{stop_of}
use Rattle.ea_sound.specs.Contents.{sum_everywhere}
use Rattle.ea_sound.specs.Places.{IsNumber}
use Rattle.ea_sound.specs.Present.{Rule}
use Rattle.ea_sound.specs.Rule.{Kept}
use Rattle.ea_sound.proofs.Asked.{reached-rule}
use Rattle.ea_sound.proofs.Calls.{given-range}
use Rattle.ea_sound.proofs.Created.{scheduler-number}
use Rattle.ea_sound.proofs.Numbered.{scheduler-seat}
use Rattle.ea_sound.proofs.PresentCarriers.{at_home, leaves-nothing, present-owner}
use Rattle.ea_sound.proofs.PresentContents.{IsPrinted, content_in, contents, first-listed}
use Rattle.ea_sound.proofs.PresentContents.{first_content, given-printed, held-printed, listed}
use Rattle.ea_sound.proofs.PresentContents.{live-named, of_names, present-found}
use Rattle.ea_sound.proofs.PresentPlaces.{employed-either}
use Rattle.ea_sound.proofs.Printed.{printed-all}
use Rattle.ea_sound.proofs.PrintedSums.{prints-sums}
use Rattle.ea_sound.proofs.PrintedUnits.{pages-units, parts-units}
use Rattle.ea_sound.proofs.SoundPlaces.{sound-place}
use Rattle.ea_sound.proofs.SoundRanges.{number-scheduler}
use Rattle.ea_sound.proofs.SoundUnits.{sound-sums}
use Rattle.ea_sound.proofs.Weights.{sum-map, sum-same, sum_by-sum_over}
use Rattle.ea_sched.specs.declared.state.Scheduler.{Scheduler}
use Rattle.ea_sched.specs.Acting.{actor_of, stop_line}
use Rattle.ea_outcome.specs.Resting.{AreGiven, AreLive, HasBlock, HaveBlocks, HaveParts, StandIn}
use Rattle.ea_outcome.specs.Resting.{block_by, carrier_at, carrier_of, employed_by, first_lines}
use Rattle.ea_outcome.specs.Resting.{found, lines_if, live_units, place_by, totals_by}
use Rattle.ea_outcome.specs.Resting.{units_at, units_named, with_scheduler}

-- outcomes with the same parts
abbrev IsOutcome : Outcome → Outcome → Type 0
IsOutcome o p = o ≡ p

same_outcome : (a b : Items (Items Entry)) (c d : Items CarrierLine) (s t : Totals)
    → a ≡ b → c ≡ d → s ≡ t
    → IsOutcome (record { logs = a; carriers = c; totals = s })
    (record { logs = b; carriers = d; totals = t })
same_outcome a b c d s t p q r = cc

-- lists that are the same, item by item, are so when they are put together
both-mapped : {A B C : Type 0} (f g : A → List C) (p q : B → List C) (xs : List A) (ys : List B)
    → map f xs ≡ map p ys → map g xs ≡ map q ys
    → map (λ x. f x ++ g x) xs ≡ map (λ y. p y ++ q y) ys
both-mapped f g p q [] [] a b = refl
both-mapped f g p q [] (y ∷ ys) a b = absurd cc
both-mapped f g p q (x ∷ xs) [] a b = absurd cc
both-mapped {A} {B} {C} f g p q (x ∷ xs) (y ∷ ys) a b =
    ap (λ z. (z ++ g x) ∷ map (λ x. f x ++ g x) xs) (heads a)
    ∙ ap (λ z. (p y ++ z) ∷ map (λ x. f x ++ g x) xs) (heads b)
    ∙ ap (λ zs. (p y ++ q y) ∷ zs) (both-mapped f g p q xs ys (tails a) (tails b)) where
      heads : {x y : List C} {xs ys : List (List C)} → x ∷ xs ≡ y ∷ ys → x ≡ y
      heads e = cc

      tails : {x y : List C} {xs ys : List (List C)} → x ∷ xs ≡ y ∷ ys → xs ≡ ys
      tails e = cc

-- totals that are the same, one by one
abbrev IsTotals : Totals → Totals → Type 0
IsTotals s t = s ≡ t

same_totals : (a b c d f h i j k l m n : ℕ) → a ≡ i → b ≡ j → c ≡ k → d ≡ l → f ≡ m → h ≡ n
    → IsTotals
    (record { carriers = a; units = b; live = c; queued = d; free = f; header = h })
    (record { carriers = i; units = j; live = k; queued = l; free = m; header = n })
same_totals a b c d f h i j k l m n p q r s t u = cc

as-found : (word : Standing) (i : ℕ) (o : Option Content)
    → present_if o word i ≡ listed (found word i o)
as-found word i None = refl
as-found word i (Some x) = refl

as-home : (i : ℕ) (o : Option Content)
    → if_there (at_home i) o ≡ listed (found standing.Employed i o)
as-home i None = refl
as-home i (Some x) = refl

lines-listed : (o : Option Present) → map line_of (listed o) ≡ lines_if o
lines-listed None = refl
lines-listed (Some p) = refl

blocks-in : (offset : ℕ) (o : Option Present)
    → option_and_then (λ (x : Content). block_at x.blocks offset) (option_map content_in o)
    ≡ option_and_then (λ (p : Present). block_at p.content.blocks offset) o
blocks-in offset None = refl
blocks-in offset (Some p) = refl

-- lists of at most one, one after another, have no more items than there are lists
few-listed : (g : ℕ → Option Present) (xs : List ℕ)
    → length (flat_map (λ n. lines_if (g n)) xs) ≤ length xs
few-listed g [] = omega arith
few-listed g (x ∷ xs) = omega (
  arith,
  length-append (lines_if (g x)) (flat_map (λ n. lines_if (g n)) xs),
  one (g x),
  few-listed g xs,
) where
  one : (o : Option Present) → length (lines_if o) ≤ 1
  one None = omega arith
  one (Some p) = omega arith

all-true : (n most : ℕ) (b : Bool) → 1 ≤ n → n ≤ most → b ≡ true
    → (nat_le 1 n && (nat_le n most && b)) ≡ true
all-true n most b some upto is = grind (arith, some, upto, is)

module _ (c : Config) (t : Trace) (valid : IsValidConfig c) (made : IsValidTrace c.schedulers t)
    (m : Bool) (mode : m ≡ migration (setup_of c t)) (ss : List Scheduler)
    (places : ℕ → CarrierAt) (given : List Named) (turns : List ℕ)
    (stand : StandIn c t ss places given turns) where
  abbrev e : Setup
  e = setup_of c t

  abbrev w : State
  w = run e turns

  rule : Rule e w
  rule = reached-rule c t valid made w (turns, refl)

  k : Kept e w
  k = rule.kept

  pub many-schedulers : length ss ≡ c.schedulers
  many-schedulers = omega (
    arith,
    length-map ss actor_of,
    ap length stand.actors,
    length-map-range_with_len w.actors 1 c.schedulers,
  )

  -- the names that are given
  pub are-given : AreGiven t.greatest given
  are-given = subst (AreGiven t.greatest) (sym stand.given)
      (record {
        rising = rule.present.given;
        within = given-range c t valid made w (turns, refl);
      })

  -- one of the schedulers is as in the state
  pub scheduler-is : (j : ℕ) (d : Scheduler) → j < length ss
      → actor_of (get_or ss j d) ≡ w.actors (1 + j)
  scheduler-is j d within =
      sym (get_or-map actor_of ss j d (actor_of d) within)
      ∙ ap (λ bs. get_or bs j (actor_of d)) stand.actors
      ∙ get_or-map-range_with_len w.actors 1 c.schedulers j (1 + j) (actor_of d)
      (omega (arith, within, many-schedulers)) refl

  scheduler-there : (i : ℕ) → is_scheduler e i ≡ true
      → (s : Scheduler) × (slice_get ss (i - 1) ≡ Some s) × (actor_of s ≡ w.actors i)
  scheduler-there i is =
      let range = scheduler-number e i is in
      elim (slice_get_cases ss (i - 1)).1 [
        | inl there ↦
            let (s, within, at, got) = there in
            let next : 1 + (i - 1) ≡ i = omega (arith, range.0) in (
              s,
              at,
              ap actor_of (sym got) ∙ scheduler-is (i - 1) s within ∙ ap w.actors next,
            )
        | inr past ↦ absurd (omega (arith, past.0, many-schedulers, range.0, range.1))
      ]

  with-found : (f : Scheduler → Option Content) (g : Actor → Option Content)
      → ((s : Scheduler) → f s ≡ g (actor_of s)) → (i : ℕ) → is_scheduler e i ≡ true
      → g (w.actors i) ≡ with_scheduler ss f i
  with-found f g same i is =
      let (s, there, at) = scheduler-there i is in
      sym (ap (option_and_then f) there ∙ same s ∙ ap g at)

  abbrev either : ℕ → Actor → Option Content
  either n a = option_or (content_of (leaving_at a.stage) n) (content_of (employed a.instance) n)

  employed-here : (n i : ℕ) → is_scheduler e i ≡ true
      → present_if (content_of (employed_multis (w.actors i) ++ employed_singles (w.actors i)) n)
      standing.Employed i
      ≡ listed (found standing.Employed i (with_scheduler ss (employed_by n) i))
  employed-here n i is =
      ap (λ o. present_if o standing.Employed i)
      (employed-either e w k i is n
      ∙ with-found (employed_by n) (either n) (λ s. refl) i is)
      ∙ as-found standing.Employed i (with_scheduler ss (employed_by n) i)

  by-place : (n : ℕ) (p : CarrierAt) → place_of e w n ≡ p
      → present_at e w n p ≡ listed (carrier_at ss n p)
  by-place n Absent at = refl
  by-place n (Employed i) at =
      employed-here n i (number-scheduler e i ((sound-place e w k).employed n i at).0)
  by-place n (Pooled i g x) at = refl
  by-place n (Busy i) at =
      let busy = λ (s : Scheduler). settling_at s.stage in
      ap (λ o. present_if o standing.Busy i)
      (with-found busy (λ a. settling_at a.stage) (λ s. refl) i
      (number-scheduler e i ((sound-place e w k).busy n i at).0))
      ∙ as-found standing.Busy i (with_scheduler ss busy i)
  by-place n (Returning i x) at = refl

  with-owner : (n : ℕ) → IsNumber e n → migration e ≡ false
      → present_at e w n (place_of e w n) ≡ listed (carrier_at ss n (Employed (owner_of n)))
  with-owner n number off =
      let i = owner_of n in
      let is = number-scheduler e i (omega arith, omega (arith, number.0, number.1)) in
      present-owner e w rule off i is n refl
      ∙ as-home i (content_of (employed (w.actors i).instance) n)
      ∙ ap (λ o. listed (found standing.Employed i o))
      (sym (ap (λ left. option_or (content_of left n)
      (content_of (employed (w.actors i).instance) n)) (leaves-nothing e w rule off i is))
      ∙ with-found (employed_by n) (either n) (λ s. refl) i is)

  -- the carrier of a number is found where it is
  pub present-is : (n : ℕ) → IsNumber e n
      → present_at e w n (place_of e w n) ≡ listed (carrier_of m places ss n)
  present-is n number = elim (cases_Bool m) [
    | inl on ↦ by-place n (place_of e w n) refl
        ∙ ap (λ p. listed (carrier_at ss n p))
        (ap (λ b. place_in e w b n) (sym mode ∙ on) ∙ sym (stand.told (sym mode ∙ on) n)
        ∙ sym (ap (λ b. place_by b places n) on))
    | inr off ↦ with-owner n number (sym mode ∙ off)
        ∙ ap (λ p. listed (carrier_at ss n p)) (sym (ap (λ b. place_by b places n) off))
  ]

  -- the lines
  pub lines-printed : first_lines m places ss (greatest_number e) ≡ map line_of (present e w)
  lines-printed =
      let numbers = range_with_len 1 (greatest_number e) in
      sym (map-flat_map line_of (λ n. present_at e w n (place_of e w n)) numbers
      ∙ flat_map-same (λ n. map line_of (present_at e w n (place_of e w n)))
      (λ n. lines_if (carrier_of m places ss n)) numbers
      (each-range (greatest_number e) _ (λ n some most.
      ap (map line_of) (present-is n (some, most)) ∙ lines-listed (carrier_of m places ss n))))

  -- the block at a spot
  block-is : (p : Spot) → IsNumber e p.carrier
      → block_in (contents e w k) p ≡ block_by m places ss p
  block-is p number =
      ap (option_and_then (λ (x : Content). block_at x.blocks p.offset))
      (present-found e w k p.carrier number
      ∙ ap first_content (present-is p.carrier number)
      ∙ first-listed (carrier_of m places ss p.carrier))
      ∙ blocks-in p.offset (carrier_of m places ss p.carrier)

  printed-has : (p : Spot) → IsPrinted e w k p → HasBlock m places ss p
  printed-has p is =
      all-true p.carrier (NUMBERS * length ss) (is_some (block_by m places ss p)) is.number.0
      (omega (arith, is.number.1, many-schedulers))
      (subst IsSome (block-is p is.number)
      (subst (λ o. IsSome (option_and_then (λ (x : Content). block_at x.blocks p.offset) o))
      (sym (present-found e w k p.carrier is.number ∙ is.there)) is.block))

  -- what holds of the names that each scheduler holds in the state
  each-held : (P : List Named → Type 0)
      → ((i : ℕ) → is_scheduler e i ≡ true → P (w.actors i).held)
      → All (λ (s : Scheduler). P s.names.held) ss
  each-held P each = λ j d within.
      subst (λ (a : Actor). P a.held) (sym (scheduler-is j d within))
      (each (1 + j) (number-scheduler e (1 + j)
      (omega arith, omega (arith, within, many-schedulers))))

  have-blocks : (names : List Named) → All (λ (h : Named). IsPrinted e w k h.spot) names
      → HaveBlocks m places ss names
  have-blocks names are = All-weaker (λ (h : Named). IsPrinted e w k h.spot)
      (λ (h : Named). HasBlock m places ss h.spot) (λ h is. printed-has h.spot is) names are

  -- the blocks of held and of given names are there
  pub are-live : AreLive m places ss given
  are-live = record {
    held = each-held (HaveBlocks m places ss)
        (λ i is. have-blocks (w.actors i).held (held-printed e w k i (scheduler-seat e i is)));
    given = subst (HaveBlocks m places ss) (sym stand.given)
        (have-blocks w.shared.given (given-printed e w k));
  }

  units-are : (names : List Named) → All (λ (h : Named). IsPrinted e w k h.spot) names
      → of_names e w k names ≡ units_named m places ss names
  units-are names are =
      sum_by-sum_over (λ (n : Named). size_of (block_in (contents e w k) n.spot)) names
      ∙ sum-same (λ (n : Named). size_of (block_in (contents e w k) n.spot))
      (λ n. units_at m places ss n.spot) names
      (All-weaker (λ (h : Named). IsPrinted e w k h.spot)
      (λ (h : Named). size_of (block_in (contents e w k) h.spot) ≡ units_at m places ss h.spot)
      (λ h is. ap size_of (block-is h.spot is.number)) names are)
      ∙ sym (sum_by-sum_over (λ (n : Named). units_at m places ss n.spot) names)

  held-units : sum_by (λ (b : Actor). of_names e w k b.held) (actors_of e w)
      ≡ sum_by (λ s. units_named m places ss s.names.held) ss
  held-units =
      let theirs = λ (b : Actor). of_names e w k b.held in
      ap (sum_by theirs) (sym stand.actors)
      ∙ sum_by-sum_over theirs (map actor_of ss)
      ∙ sum-map theirs actor_of ss
      ∙ sum-same (λ s. theirs (actor_of s)) (λ s. units_named m places ss s.names.held) ss
      (each-held (λ names. of_names e w k names ≡ units_named m places ss names)
      (λ i is. units-are (w.actors i).held (held-printed e w k i (scheduler-seat e i is))))
      ∙ sym (sum_by-sum_over (λ (s : Scheduler). units_named m places ss s.names.held) ss)

  abbrev totals : Totals
  totals = machine.sums e w

  live-is : totals.live ≡ live_units m places ss given
  live-is = omega (
    arith,
    live-named e w k,
    held-units,
    units-are w.shared.given (given-printed e w k),
    ap (units_named m places ss) stand.given,
  )

  -- sums over the lines are sums over all contents
  abbrev lines : List CarrierLine
  lines = map line_of (present e w)

  line-sum : (f : CarrierLine → ℕ) (g : Content → ℕ)
      → ((p : Present) → f (line_of p) ≡ g p.content)
      → sum_by f lines ≡ sum_everywhere e g w
  line-sum f g same = sum_by-sum_over f lines
      ∙ sum-map f line_of (present e w)
      ∙ sum-same (λ p. f (line_of p)) (λ p. g p.content) (present e w)
      (λ j d within. same (get_or (present e w) j d))
      ∙ sym (sum-map g content_in (present e w))
      ∙ printed-all e w k g

  many-lines : length lines ≡ totals.carriers
  many-lines = length-map (present e w) line_of ∙ sym (length-map (present e w) content_in)

  units-lines : sum_by (λ l. PAGE_UNITS * l.pages) lines ≡ sum_everywhere e (λ x. x.units) w
  units-lines = line-sum (λ l. PAGE_UNITS * l.pages) (λ x. PAGE_UNITS * (x.units / PAGE_UNITS))
      (λ p. refl) ∙ pages-units e w k

  blocks-lines : sum_by (λ l. l.allocated) lines
      ≡ sum_everywhere e (λ x. allocated x.blocks) w
  blocks-lines = line-sum (λ l. l.allocated) (λ x. allocated x.blocks) (λ p. refl)

  -- so the totals are those of the lines
  module _ (live : ℕ) (is : live ≡ live_units m places ss given) where
    sums-are : (sum_by (λ l. PAGE_UNITS * l.pages) lines ≡ totals.units)
        × (sum_by (λ l. l.allocated) lines ≡ totals.live + totals.queued)
        × (sum_by (λ l. l.allocated) lines + totals.free + totals.header ≡ totals.units)
    sums-are =
        let sums = prints-sums e w rule in (
          omega (arith, units-lines, sums.units),
          omega (
            arith,
            blocks-lines,
            parts-units e w k,
            sums.live,
            sums.queued,
            sums.free,
            sums.header,
            sums.units,
            sound-sums e w rule,
          ),
          omega (
            arith,
            blocks-lines,
            parts-units e w k,
            sums.free,
            sums.header,
            sums.units,
          ),
        )

    few-lines : length lines ≤ NUMBERS * MAX_SCHEDULERS
    few-lines = omega (
      arith,
      ap length lines-printed,
      few-listed (carrier_of m places ss) (range_with_len 1 (greatest_number e)),
      length-range_with_len 1 (greatest_number e),
      valid.schedulers.1,
    )

    pub have-parts : HaveParts (first_lines m places ss (greatest_number e)) live
    have-parts = subst (λ ls. HaveParts ls live) (sym lines-printed)
        (record {
          among = omega (arith, sums-are.1, live-is, is);
          rest = omega (arith, sums-are.0, sums-are.2, many-lines);
          few = few-lines;
        })

    totals-printed : totals_by lines live ≡ totals
    totals-printed = same_totals _ _ _ _ _ _ _ _ _ _ _ _
        many-lines
        sums-are.0
        (is ∙ sym live-is)
        (omega (arith, sums-are.1, live-is, is))
        (omega (arith, sums-are.0, sums-are.2, many-lines))
        (ap (λ n. 8 * n) many-lines)

    module _ (o : Outcome)
        (logs : map (λ log. log.items) o.logs.items ≡ map (λ s. s.log.items ++ stop_line s) ss)
        (carriers : o.carriers.items ≡ first_lines m places ss (greatest_number e))
        (sums : o.totals ≡ totals_by o.carriers.items live) where
      abbrev numbers : List ℕ
      numbers = range_with_len 1 c.schedulers

      -- the log of a scheduler, and its stop
      abbrev log_at : ℕ → List Entry
      log_at i = (w.actors i).log

      logs-own : map (λ (s : Scheduler). s.log.items) ss ≡ map log_at numbers
      logs-own = sym (map-map (λ (a : Actor). a.log) actor_of ss)
          ∙ ap (map (λ (a : Actor). a.log)) stand.actors
          ∙ map-map (λ (a : Actor). a.log) w.actors numbers

      logs-are : traces.listed (map traces.listed (map (λ log. log.items) o.logs.items))
          ≡ traces.listed (map (λ i. traces.listed (log_at i ++ stop_of e w turns i)) numbers)
      logs-are = ap (λ ls. traces.listed (map traces.listed ls)) (logs
          ∙ both-mapped (λ (s : Scheduler). s.log.items) stop_line log_at (stop_of e w turns)
          ss numbers logs-own stand.stops)
          ∙ ap traces.listed (map-map traces.listed (λ i. log_at i ++ stop_of e w turns i) numbers)

      lines-are : o.carriers.items ≡ lines
      lines-are = carriers ∙ lines-printed

      -- an outcome with these parts is what is printed
      pub outcome-is : plain_outcome o ≡ outcome e turns
      outcome-is = same_outcome _ _ _ _ _ _ logs-are (ap traces.listed lines-are)
          (sums ∙ ap (λ ls. totals_by ls live) lines-are ∙ totals-printed)

  -- the lines that are found with the schedulers
  module _ (ls : List Scheduler) (same : ls ≡ ss) (theirs : List CarrierLine)
      (are : theirs ≡ first_lines m places ls (NUMBERS * c.schedulers)) (live : ℕ)
      (is : live ≡ live_units m places ss given) where
    all-numbers : (n : ℕ) → NUMBERS * n ≡ n * NUMBERS
    all-numbers n = omega arith

    first-lines : theirs ≡ first_lines m places ss (greatest_number e)
    first-lines = are
        ∙ ap (λ xs. first_lines m places xs (NUMBERS * c.schedulers)) same
        ∙ ap (first_lines m places ss) (all-numbers c.schedulers)

    pub their-parts : HaveParts theirs live
    their-parts = subst (λ xs. HaveParts xs live) (sym first-lines) (have-parts live is)

    pub outcome-from : (o : Outcome)
        → map (λ log. log.items) o.logs.items ≡ map (λ s. s.log.items ++ stop_line s) ss
        → o.carriers.items ≡ theirs → o.totals ≡ totals_by theirs live
        → plain_outcome o ≡ outcome e turns
    outcome-from o logs carriers sums = outcome-is live is o logs (carriers ∙ first-lines)
        (sums ∙ ap (λ xs. totals_by xs live) (sym carriers))
