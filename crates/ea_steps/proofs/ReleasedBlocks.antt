-- What a step released: those of the blocks found at the spots of touched names before it that are
-- gone from there after it, by rising name.
use Rattle.std.proofs.Common.{◌≡◌, ◌≢◌, ℕ, zero, suc, ◌+◌, ◌<◌, ◌≤◌, Bool, true, false, List, []}
use Rattle.std.proofs.Common.{◌∷◌, ◌++◌, refl, sym, ap, ◌∙◌, subst, inl, inr, arith}
use Rattle.std.specs.Prelude.{Option, None, Some, All, filter, flat_map, not, ◌&&◌, ◌||◌, ◌==◌}
use Rattle.std.specs.Prelude.{if◌then◌else◌, option_map}
use Rattle.std.specs.List.{list_any}
use Rattle.std.specs.Option.{option_and_then, option_map_or}
use Rattle.std.proofs.lemmas.Bool.{cases_eq, cases_lt, eqb-true}
use Rattle.std.proofs.lemmas.List.Elements.{All-cons, All-head, All-nil, All-tail}
use Rattle.std.proofs.lemmas.List.Elements.{All-weaker}
use Rattle.ea_model.specs.declared.carriers.BlockAt.{BlockAt}
use Rattle.ea_model.specs.declared.carriers.Place.{Place}
use Rattle.ea_model.specs.declared.carriers.Spot.{Spot}
use Rattle.ea_model.specs.Content.{Content, block_at}
use Rattle.ea_model.specs.Instance.{block_in, content_of}
use Rattle.ea_model.specs.Keyed.{item_at}
use Rattle.ea_model.proofs.Rising.{item_at-key, item_here, item_past}
use Rattle.ea_laws.proofs.BlockLists.{offset_of}
use Rattle.ea_machine.specs.Machine.{run, step}
use Rattle.ea_machine.specs.Setup.{Setup, migration}
use Rattle.ea_machine.specs.State.{State}
use Rattle.ea_machine.specs.Sums.{sum_over}
use Rattle.ea_machine.specs.declared.nodes.Named.{Named}
use Rattle.ea_machine.specs.declared.stages.Stage.TheVariants.{Ended}
use Rattle.ea_sound.specs.Names.{allocated, of_block, of_named, only, only_at}
use Rattle.ea_sound.specs.Present.{Rule}
use Rattle.ea_sound.specs.Released.{LiesAt, blocks_named}
use Rattle.ea_sound.specs.Rule.{Kept}
use Rattle.ea_sound.specs.Turns.{answered}
use Rattle.ea_sound.proofs.KeptPlaces.{keeps-places}
use Rattle.ea_sound.proofs.KeyedWeights.{times}
use Rattle.ea_sound.proofs.TurnLists.{run-snoc}
use Rattle.ea_steps.specs.declared.placed.PlacedBlock.{PlacedBlock}
use Rattle.ea_steps.specs.Changes.{blocks, by_name, contents, has_block, is_released}
use Rattle.ea_steps.specs.Changes.{is_renamed, released}
use Rattle.ea_steps.specs.Found.{block_there, found_before, gone_blocks, is_gone, is_there}
use Rattle.ea_steps.specs.Found.{placed_at, spot_of}
use Rattle.ea_steps.specs.Steps.{Step, step_of}
use Rattle.ea_steps.specs.Touched.{as_list, touched}
use Rattle.ea_steps.proofs.FoundBlocks.{begins-lies, begins-there, blocks-sum, found-lies}
use Rattle.ea_steps.proofs.FoundBlocks.{lies-begins, lies-found, name_at, names-different, place_at}
use Rattle.ea_steps.proofs.SortedItems.{AreDifferent, filter-alike, filter-different, filter-found}
use Rattle.ea_steps.proofs.SortedItems.{filter-none, none-found, sorted-same}
use Rattle.ea_steps.proofs.FoundBlocks.{there-content}
use Rattle.ea_steps.proofs.TouchedBlocks.{gone-touched, rule-after, touched-lie, touched-stands}

-- whether a name is found, and whether any block has it
any-found : (n : ℕ) (xs : List PlacedBlock) → list_any (λ x. x.block.name == n) xs ≡ true
    → (x : PlacedBlock) × (item_at name_at xs n ≡ Some x)
any-found n [] any = absurd cc
any-found n (x ∷ xs) any = elim (cases_eq (name_at x) n) [
  | inl here ↦ (x, item_here name_at n x xs here)
  | inr other ↦
      let (y, found) = any-found n xs (later (x.block.name == n) refl other any) in
      (y, item_past name_at n x xs other ∙ found)
] where
  later : (b : Bool) → (x.block.name == n) ≡ b → name_at x ≢ n
      → (b || list_any (λ y. y.block.name == n) xs) ≡ true
      → list_any (λ y. y.block.name == n) xs ≡ true
  later true is other any = absurd (other (eqb-true x.block.name n is))
  later false is other any = any

found-any : (n : ℕ) (x : PlacedBlock) (xs : List PlacedBlock) → item_at name_at xs n ≡ Some x
    → list_any (λ y. y.block.name == n) xs ≡ true
found-any n x [] found = absurd cc
found-any n x (y ∷ ys) found = elim (cases_eq (name_at y) n) [
  | inl here ↦ first (y.block.name == n) (list_any (λ z. z.block.name == n) ys)
      (same y.block.name n here)
  | inr other ↦ second (y.block.name == n) (list_any (λ z. z.block.name == n) ys)
      (found-any n x ys (sym (item_past name_at n y ys other) ∙ found))
] where
  same : (m n : ℕ) → m ≡ n → (m == n) ≡ true
  same m n is = grind (arith, is)

  first : (b c : Bool) → b ≡ true → (b || c) ≡ true
  first true c is = refl
  first false c is = absurd cc

  second : (b c : Bool) → c ≡ true → (b || c) ≡ true
  second true c is = refl
  second false c is = is

none-any : (n : ℕ) (xs : List PlacedBlock) → list_any (λ x. x.block.name == n) xs ≡ false
    → times name_at n xs ≡ 0
none-any n [] none = refl
none-any n (x ∷ xs) none = by (x.block.name == n) none (none-any n xs) where
  by : (b : Bool) → (b || list_any (λ y. y.block.name == n) xs) ≡ false
      → (list_any (λ y. y.block.name == n) xs ≡ false → times name_at n xs ≡ 0)
      → (if b then 1 else 0) + times name_at n xs ≡ 0
  by true none later = absurd cc
  by false none later = omega (arith, later none)

named-other : (n : ℕ) (h : Named) → h.name ≢ n → of_named (only n) h ≡ 0
named-other n h other = grind (arith, other)

named-itself : (n : ℕ) (h : Named) → h.name ≡ n → of_named (only n) h ≡ 1
named-itself n h is = grind (arith, is)

counted-name : (n : ℕ) (y : PlacedBlock) (h : Named) → name_at y ≡ h.name
    → (if name_at y == n then 1 else 0) ≡ of_named (only n) h
counted-name n y h is = ap (λ m. if m == n then 1 else 0) is

-- the block of a name, as it is found at its spot
module _ (e : Setup) (w : State) (k : Kept e w) where
  pub record IsKnown (h : Named) : Type 0 where
    pub block : PlacedBlock
    pub is : as_list (placed_at e w h) ≡ block ∷ []
    pub name : name_at block ≡ h.name
    pub lies : LiesAt e h.name (place_at block) w
    pub there : item_at name_at (blocks e w) h.name ≡ Some block

  in-content : (p : Spot) (b : BlockAt) (o : Option Content)
      → option_and_then (λ x. block_at x.blocks p.offset) o ≡ Some b → b.offset ≡ p.offset
  in-content p b None at = absurd cc
  in-content p b (Some x) at = item_at-key offset_of p.offset b x.blocks at

  known-by : (h : Named) (b : BlockAt) → block_in (contents e w) h.spot ≡ Some b
      → b.name ≡ h.name → IsKnown h
  known-by h b begins name =
      let offset = in-content h.spot b (content_of (contents e w) h.spot.carrier) begins in
      let y : PlacedBlock = record { carrier = h.spot.carrier; block = b } in
      let lies : LiesAt e h.name (place_at y) w = subst (λ m. LiesAt e m (place_at y) w) name
      (subst (λ o. LiesAt e b.name
      (record { carrier = h.spot.carrier; offset = o; size = b.size }) w) (sym offset)
      (begins-lies e w k h.spot b begins)) in
      record {
        block = y;
        is = ap (λ o. as_list (option_map (λ d. record { carrier = h.spot.carrier; block = d }) o))
            (there-content e w h.spot ∙ begins);
        name = name;
        lies = lies;
        there = lies-found e w k h.name (place_at y) lies
            ∙ ap (λ m. Some (record {
              carrier = h.spot.carrier;
              block = record { name = m; offset = b.offset; size = b.size };
            })) (sym name);
      }

  pub known : (h : Named) → 1 ≤ allocated e (only_at h.name h.spot) w → IsKnown h
  known h lies =
      let (b, begins, name) = begins-there e w k h.name h.spot lies in
      known-by h b begins name

  abbrev found_all : List Named → List PlacedBlock
  found_all hs = flat_map (λ h. as_list (placed_at e w h)) hs

  -- those that are found have the names
  found-times : (n : ℕ) (hs : List Named) → All IsKnown hs
      → times name_at n (found_all hs) ≡ sum_over (of_named (only n)) hs
  found-times n [] all = refl
  found-times n (h ∷ hs) all =
      let h-known = All-head IsKnown h hs all in
      omega (
        arith,
        ap (λ ys. times name_at n (ys ++ found_all hs)) h-known.is,
        counted-name n h-known.block h h-known.name,
        found-times n hs (All-tail IsKnown h hs all),
      )

  abbrev Finds : ℕ → List PlacedBlock → Type 0
  Finds n ys = item_at name_at ys n ≡ item_at name_at (blocks e w) n

  -- under each of the names
  found-there : (n : ℕ) (hs : List Named) → All IsKnown hs
      → 1 ≤ sum_over (of_named (only n)) hs → Finds n (found_all hs)
  found-there n [] all some = absurd (omega (arith, some))
  found-there n (h ∷ hs) all some =
      let h-known = All-head IsKnown h hs all in
      let y = h-known.block in
      subst (λ ys. Finds n (ys ++ found_all hs)) (sym h-known.is)
      (elim (cases_eq h.name n) [
        | inl here ↦ item_here name_at n y (found_all hs) (h-known.name ∙ here)
            ∙ sym (subst (λ m. item_at name_at (blocks e w) m ≡ Some y) here h-known.there)
        | inr other ↦ item_past name_at n y (found_all hs) (λ q. other (sym h-known.name ∙ q))
            ∙ found-there n hs (All-tail IsKnown h hs all)
            (omega (arith, some, named-other n h other))
      ])

  -- what holds of each known block holds of all that are found
  found-each : (P : PlacedBlock → Type 0) (hs : List Named)
      → All IsKnown hs → ((h : Named) (is : IsKnown h) → P is.block) → All P (found_all hs)
  found-each P [] all holds = All-nil P
  found-each P (h ∷ hs) all holds =
      let h-known = All-head IsKnown h hs all in
      subst (λ ys. All P (ys ++ found_all hs)) (sym h-known.is)
      (All-cons P h-known.block (found_all hs) (holds h h-known)
      (found-each P hs (All-tail IsKnown h hs all) holds))

module _ (e : Setup) (rules : (L : List ℕ) → Rule e (run e L)) (L : List ℕ) (me : ℕ) where
  abbrev w : State
  w = run e L

  abbrev v : State
  v = step e w me

  abbrev k : Kept e w
  k = (rules L).kept

  abbrev after : Kept e v
  after = (rule-after e rules L me).kept

  -- a block keeps its place
  keeps-place : (n : ℕ) (p q : Place) → LiesAt e n p w → LiesAt e n q v → q ≡ p
  keeps-place n p q first later = keeps-places e rules n p q L (me ∷ []) first
      (subst (LiesAt e n q) (sym (run-snoc e L me)) later)

  -- so whether its name has a block after the step is asked where it lies
  module _ (h : Named) (is : IsKnown e w k h) where
    abbrev y : PlacedBlock
    y = is.block

    abbrev n : ℕ
    n = y.block.name

    lies : LiesAt e n (place_at y) w
    lies = subst (λ m. LiesAt e m (place_at y) w) (sym is.name) is.lies

    there-by : (b : BlockAt) → block_there e v (spot_of y) ≡ Some b → b.name ≡ n
        → is_there e v y ≡ true
    there-by b begins name =
        ap (λ o. option_map_or (λ (d : BlockAt). d.name == n) o false) begins ∙ same b.name n name
      where
        same : (m n : ℕ) → m ≡ n → (m == n) ≡ true
        same m n is = grind (arith, is)

    has-lies : has_block e v n ≡ true → is_there e v y ≡ true
    has-lies has =
        let (z, found) = any-found n (blocks e v) has in
        let z-lies = found-lies e v after n z found in
        let same = keeps-place n (place_at y) (place_at z) lies z-lies in
        let (b, begins, name) = lies-begins e v after n (place_at y)
        (subst (λ p. LiesAt e n p v) same z-lies) in
        there-by b (there-content e v (spot_of y) ∙ begins) name

    lies-has : is_there e v y ≡ true → has_block e v n ≡ true
    lies-has there = by (block_there e v (spot_of y)) refl there where
      by : (o : Option BlockAt) → block_there e v (spot_of y) ≡ o
          → option_map_or (λ (d : BlockAt). d.name == n) o false ≡ true
          → has_block e v n ≡ true
      by None begins is = absurd cc
      by (Some b) begins is =
          let name = eqb-true b.name n is in
          let b-lies = begins-lies e v after (spot_of y) b
          (sym (there-content e v (spot_of y)) ∙ begins) in
          subst (λ m. has_block e v m ≡ true) name
          (found-any b.name _ (blocks e v) (lies-found e v after b.name _ b-lies))

    agree : (b c : Bool) → has_block e v n ≡ b → is_there e v y ≡ c
        → is_there e v y ≡ has_block e v n
    agree true c has there = has-lies has ∙ sym has
    agree false true has there = there ∙ sym (lies-has there)
    agree false false has there = there ∙ sym has

    pub asked-there : is_there e v y ≡ has_block e v n
    asked-there = agree (has_block e v n) (is_there e v y) refl refl

  module _ (count own : ℕ) (works : (w.actors me).stage ≢ Ended) where
    abbrev s : Step
    s = step_of e w count own me

    abbrev hands : List Named
    hands = touched (migration e) (w.actors me) (answered w me)

    pub all-known : All (IsKnown e w k) hands
    all-known = All-weaker (λ (h : Named). 1 ≤ allocated e (only_at h.name h.spot) w)
        (IsKnown e w k) (λ h lies. known e w k h lies) hands (touched-lie e rules L me works)

    pub found-different : AreDifferent name_at (found_before e s)
    found-different n = omega (
      arith,
      found-times e w k n hands all-known,
      touched-stands e rules L me works (only n),
      k.names.once n,
    )

    -- the tests agree on what is found
    gone-alike : All (λ y. is_gone e s y ≡ is_released e s y) (found_before e s)
    gone-alike = found-each e w k (λ y. is_gone e s y ≡ is_released e s y) hands all-known
        (λ h is. ap (λ b. not b && not (is_renamed s is.block.block.name)) (asked-there h is))

    -- whether a name is released
    abbrev passes : ℕ → Bool
    passes n = not (has_block e v n) && not (is_renamed s n)

    not-had : (b c : Bool) → (not b && not c) ≡ true → (b ≡ false) × (c ≡ false)
    not-had false false is = (refl, refl)
    not-had false true is = absurd cc
    not-had true c is = absurd cc

    -- the block of a name that is released is among those found
    gone-found : (n : ℕ) → passes n ≡ true → (o : Option PlacedBlock)
        → item_at name_at (blocks e w) n ≡ o
        → sum_over (of_named (only n)) hands ≡ 0 → o ≡ None
    gone-found n is None found none = refl
    gone-found n is (Some y) found none =
        let is_not = not-had (has_block e v n) (is_renamed s n) is in
        absurd (omega (
          arith,
          none,
          gone-touched e rules L me works n
              (was y found)
              (omega (
                arith,
                none-any n (blocks e v) is_not.0,
                blocks-sum e v after (of_block (only n)),
              ))
              is_not.1,
        ))
      where
        was : (y : PlacedBlock) → item_at name_at (blocks e w) n ≡ Some y
            → 0 < blocks_named e n w
        was y found = by (times name_at n (blocks e w)) refl where
          by : (m : ℕ) → times name_at n (blocks e w) ≡ m → 0 < blocks_named e n w
          by zero none = absurd (let never : None ≡ Some y =
              sym (none-found name_at n (blocks e w) none) ∙ found in cc)
          by (suc m) some = omega (arith, some, blocks-sum e w k (of_block (only n)))

    finds-alike : (n : ℕ) → item_at name_at (filter (is_released e s) (blocks e w)) n
        ≡ item_at name_at (filter (is_released e s) (found_before e s)) n
    finds-alike n = by (passes n) refl where
      found : passes n ≡ true
          → item_at name_at (blocks e w) n ≡ item_at name_at (found_before e s) n
      found is = elim (cases_lt 0 (sum_over (of_named (only n)) hands)) [
        | inl some ↦ sym (found-there e w k n hands all-known some)
        | inr le ↦
            let none : sum_over (of_named (only n)) hands ≡ 0 = omega (arith, le) in
            gone-found n is (item_at name_at (blocks e w) n) refl none
            ∙ sym (none-found name_at n (found_before e s)
            (found-times e w k n hands all-known ∙ none))
      ]

      by : (b : Bool) → passes n ≡ b
          → item_at name_at (filter (is_released e s) (blocks e w)) n
          ≡ item_at name_at (filter (is_released e s) (found_before e s)) n
      by true is =
          filter-found name_at (is_released e s) passes (λ y. refl) n is (blocks e w) ∙ found is
          ∙ sym (filter-found name_at (is_released e s) passes (λ y. refl) n is
          (found_before e s))
      by false is = filter-none name_at (is_released e s) passes (λ y. refl) n is (blocks e w)
          ∙ sym (filter-none name_at (is_released e s) passes (λ y. refl) n is
          (found_before e s))

    -- a step released what was found before it and is gone after it
    pub released-gone : released e s ≡ gone_blocks e s
    released-gone =
        sorted-same name_at (filter (is_released e s) (blocks e w))
        (filter (is_released e s) (found_before e s))
        (filter-different name_at (is_released e s) (blocks e w) (names-different e w k))
        (filter-different name_at (is_released e s) (found_before e s) found-different)
        finds-alike
        ∙ ap (λ ys. by_name ys)
        (sym (filter-alike name_at (is_gone e s) (is_released e s) (found_before e s) gone-alike))
