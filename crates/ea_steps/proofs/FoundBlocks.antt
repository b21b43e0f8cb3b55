-- The blocks that are there: what is found under a name, and what begins at a spot.
use Rattle.std.proofs.Common.{◌≡◌, ◌≢◌, ℕ, ◌≤◌, Bool, true, false}
use Rattle.std.proofs.Common.{List, [], ◌∷◌, map}
use Rattle.std.proofs.Common.{refl, sym, ap, ◌∙◌, inl, inr, arith, get_or}
use Rattle.std.specs.Prelude.{Option, None, Some, ◌==◌}
use Rattle.std.specs.Option.{option_and_then}
use Rattle.std.proofs.lemmas.Bool.{cases_eq, cases_lt}
use Rattle.ea_model.specs.declared.carriers.BlockAt.{BlockAt}
use Rattle.ea_model.specs.declared.carriers.Place.{Place}
use Rattle.ea_model.specs.declared.carriers.Spot.{Spot}
use Rattle.ea_model.specs.Content.{Content, block_at}
use Rattle.ea_model.specs.Instance.{block_in, content_of}
use Rattle.ea_model.specs.Keyed.{item_at}
use Rattle.ea_model.proofs.Rising.{item_at-key, item_here, item_past}
use Rattle.ea_laws.proofs.BlockLists.{offset_of}
use Rattle.ea_laws.specs.Kept.{number_of}
use Rattle.ea_machine.specs.Outcome.{Present, present}
use Rattle.ea_machine.specs.Setup.{Setup}
use Rattle.ea_machine.specs.State.{State}
use Rattle.ea_machine.specs.Sums.{one_if, sum_over}
use Rattle.ea_sound.specs.Contents.{sum_everywhere}
use Rattle.ea_sound.specs.Names.{allocated, of_block, of_content, only, only_at}
use Rattle.ea_sound.specs.Places.{has_number}
use Rattle.ea_sound.specs.Ranges.{IsLaidOutAsKind}
use Rattle.ea_sound.specs.Released.{LiesAt, is_block}
use Rattle.ea_sound.specs.Rule.{Kept}
use Rattle.ea_sound.proofs.ActorWeights.{everywhere-less}
use Rattle.ea_sound.proofs.BlockWeights.{content-hit, other-content}
use Rattle.ea_sound.proofs.KeyedWeights.{item-hit, sum-item}
use Rattle.ea_sound.proofs.Laid.{alone-rising, laid-rising}
use Rattle.ea_sound.proofs.OverUnits.{by-content}
use Rattle.ea_sound.proofs.Printed.{printed-all}
use Rattle.ea_sound.proofs.Ranged.{sum-flat}
use Rattle.ea_sound.proofs.SoundOwners.{number-once}
use Rattle.ea_sound.proofs.Weights.{sum-less, sum-map, sum-same}
use Rattle.ea_steps.specs.declared.placed.PlacedBlock.{PlacedBlock}
use Rattle.ea_steps.specs.Changes.{blocks, blocks_in, contents}
use Rattle.ea_steps.specs.Found.{block_there}
use Rattle.ea_steps.proofs.SortedItems.{AreDifferent}

abbrev pub name_at : PlacedBlock → ℕ
name_at y = y.block.name

-- where a block lies
abbrev pub place_at : PlacedBlock → Place
place_at y = record { carrier = y.carrier; offset = y.block.offset; size = y.block.size }

-- a block of that name at that place
abbrev pub placed : ℕ → Place → PlacedBlock
placed n place = record {
  carrier = place.carrier;
  block = record { name = n; offset = place.offset; size = place.size };
}

abbrev is_placed : ℕ → Place → PlacedBlock → ℕ
is_placed n place y = one_if (is_block n place y.carrier y.block)

other-name : (n : ℕ) (place : Place) (y : PlacedBlock) → name_at y ≢ n → is_placed n place y ≡ 0
other-name n place y other = grind (arith, other)

itself : (y : PlacedBlock) → is_placed (name_at y) (place_at y) y ≡ 1
itself y = grind arith

same-name : (n : ℕ) (place : Place) (y : PlacedBlock) → 1 ≤ is_placed n place y
    → y.block.name ≡ n
same-name n place y some = grind (arith, some)

same-carrier : (n : ℕ) (place : Place) (y : PlacedBlock) → 1 ≤ is_placed n place y
    → y.carrier ≡ place.carrier
same-carrier n place y some = grind (arith, some)

same-offset : (n : ℕ) (place : Place) (y : PlacedBlock) → 1 ≤ is_placed n place y
    → y.block.offset ≡ place.offset
same-offset n place y some = grind (arith, some)

same-size : (n : ℕ) (place : Place) (y : PlacedBlock) → 1 ≤ is_placed n place y
    → y.block.size ≡ place.size
same-size n place y some = grind (arith, some)

pub same-block : (n : ℕ) (place : Place) (y : PlacedBlock) → 1 ≤ is_placed n place y
    → y ≡ placed n place
same-block n place y some =
    let o = y.block.offset in
    let s = y.block.size in
    ap (λ m. record { carrier = y.carrier; block = record { name = m; offset = o; size = s } })
    (same-name n place y some)
    ∙ ap (λ m. record { carrier = m; block = record { name = n; offset = o; size = s } })
    (same-carrier n place y some)
    ∙ ap (λ m. record {
      carrier = place.carrier;
      block = record { name = n; offset = m; size = s };
    })
    (same-offset n place y some)
    ∙ ap (λ m. record {
      carrier = place.carrier;
      block = record { name = n; offset = place.offset; size = m };
    }) (same-size n place y some)

-- a block of the name at the place is one at its spot
abbrev spot_of : Place → Spot
spot_of place = record { carrier = place.carrier; offset = place.offset }

at-spot : (n : ℕ) (place : Place) (c : ℕ) (b : BlockAt)
    → one_if (is_block n place c b) ≤ of_block (only_at n (spot_of place)) c b
at-spot n place c b = grind arith

-- what is given where no block of the name is found
abbrev if_named : Bool → ℕ → ℕ
if_named true m = 0
if_named false m = m

abbrev unless_named : ℕ → Option BlockAt → ℕ → ℕ
unless_named n None m = m
unless_named n (Some b) m = if_named (b.name == n) m

-- what begins at a spot is looked up in the contents
content-there : (offset c : ℕ) (ps : List Present)
    → option_and_then (λ (p : Present). block_at p.content.blocks offset)
    (item_at (λ (p : Present). p.content.number) ps c)
    ≡ option_and_then (λ (x : Content). block_at x.blocks offset)
    (content_of (map (λ (p : Present). p.content) ps) c)
content-there offset c [] = refl
content-there offset c (p ∷ ps) = elim (cases_eq p.content.number c) [
  | inl here ↦ ap (option_and_then (λ (q : Present). block_at q.content.blocks offset))
      (item_here (λ (q : Present). q.content.number) c p ps here)
      ∙ sym (ap (option_and_then (λ (x : Content). block_at x.blocks offset))
      (item_here number_of c p.content (map (λ (q : Present). q.content) ps) here))
  | inr other ↦ ap (option_and_then (λ (q : Present). block_at q.content.blocks offset))
      (item_past (λ (q : Present). q.content.number) c p ps other)
      ∙ content-there offset c ps
      ∙ sym (ap (option_and_then (λ (x : Content). block_at x.blocks offset))
      (item_past number_of c p.content (map (λ (q : Present). q.content) ps) other))
]

pub there-content : (e : Setup) (w : State) (p : Spot)
    → block_there e w p ≡ block_in (contents e w) p
there-content e w p = content-there p.offset p.carrier (present e w)

module _ (e : Setup) (w : State) (k : Kept e w) where
  -- what blocks weigh, one by one and carrier by carrier
  pub blocks-sum : (h : ℕ → BlockAt → ℕ) → sum_over (λ y. h y.carrier y.block) (blocks e w)
      ≡ sum_everywhere e (λ x. sum_over (h x.number) x.blocks) w
  blocks-sum h =
      let f : PlacedBlock → ℕ = λ y. h y.carrier y.block in
      sum-flat f blocks_in (contents e w)
      ∙ sum-same (λ x. sum_over f (blocks_in x)) (λ x. sum_over (h x.number) x.blocks)
      (contents e w)
      (λ i d within. each f (get_or (contents e w) i d))
      ∙ printed-all e w k (λ x. sum_over (h x.number) x.blocks) where
        each : (f : PlacedBlock → ℕ) (x : Content) → sum_over f (blocks_in x)
            ≡ sum_over (λ b. f (record { carrier = x.number; block = b })) x.blocks
        each f x = sum-map f (λ b. record { carrier = x.number; block = b }) x.blocks

  -- no two blocks have one name
  pub names-different : AreDifferent name_at (blocks e w)
  names-different n = omega (arith, k.names.once n, blocks-sum (of_block (only n)))

  -- a block that lies at a place is found under its name
  pub lies-found : (n : ℕ) (place : Place) → LiesAt e n place w
      → item_at name_at (blocks e w) n ≡ Some (placed n place)
  lies-found n place lies =
      let (y, found, is) = item-hit name_at (is_placed n place) n (blocks e w)
      (other-name n place) (names-different n)
      (omega (arith, lies, blocks-sum (λ c b. one_if (is_block n place c b)))) in
      found ∙ ap Some (same-block n place y is)

  -- and lies where it is found
  pub found-lies : (n : ℕ) (y : PlacedBlock) → item_at name_at (blocks e w) n ≡ Some y
      → LiesAt e n (place_at y) w
  found-lies n y found =
      let name = item_at-key name_at n y (blocks e w) found in
      omega (
        arith,
        sum-item name_at (is_placed n (place_at y)) n y (blocks e w) found,
        blocks-sum (λ c b. one_if (is_block n (place_at y) c b)),
        itself y,
        ap (λ m. is_placed m (place_at y) y) name,
      )

  -- a block that begins at a spot lies there
  pub begins-lies : (p : Spot) (b : BlockAt) → block_in (contents e w) p ≡ Some b
      → LiesAt e b.name
      (record { carrier = p.carrier; offset = p.offset; size = b.size }) w
  begins-lies p b begins = by (content_of (contents e w) p.carrier) refl begins where
    by : (o : Option Content) → content_of (contents e w) p.carrier ≡ o
        → option_and_then (λ x. block_at x.blocks p.offset) o ≡ Some b
        → LiesAt e b.name
        (record { carrier = p.carrier; offset = p.offset; size = b.size }) w
    by None there at = absurd cc
    by (Some x) there at =
        let place : Place = record { carrier = p.carrier; offset = p.offset; size = b.size } in
        let f : Content → ℕ =
        λ z. sum_over (λ d. one_if (is_block b.name place z.number d)) z.blocks in
        omega (
          arith,
          printed-all e w k f,
          sum-item number_of f p.carrier x (contents e w) there,
          sum-item offset_of (λ d. one_if (is_block b.name place x.number d)) p.offset b x.blocks
              at,
          counted x.number (item_at-key number_of p.carrier x (contents e w) there)
              (item_at-key offset_of p.offset b x.blocks at),
        )
      where
        counted : (c : ℕ) → c ≡ p.carrier → b.offset ≡ p.offset
            → one_if (is_block b.name
            (record { carrier = p.carrier; offset = p.offset; size = b.size }) c b) ≡ 1
        counted c carrier offset = grind (arith, carrier, offset)

  -- a block whose name counts at a spot begins there
  module _ (n : ℕ) (p : Spot) (counts : 1 ≤ allocated e (only_at n p) w) where
    abbrev misnamed : Content → ℕ
    misnamed x = unless_named n (block_at x.blocks p.offset) (of_content (only_at n p) x)

    is-named : (t : Bool) (m : ℕ) → t ≡ true → if_named t m ≡ 0
    is-named true m is = refl
    is-named false m is = absurd cc

    no-more : (o : Option BlockAt) (m : ℕ) → m ≡ 0 → unless_named n o m ≡ 0
    no-more None m zero = zero
    no-more (Some b) m zero = by (b.name == n) where
      by : (t : Bool) → if_named t m ≡ 0
      by true = refl
      by false = zero

    name-is : (m : ℕ) → m ≡ n → (m == n) ≡ true
    name-is m is = grind (arith, is)

    named-so : (x : Content) → IsLaidOutAsKind x → misnamed x ≡ 0
    named-so x laid = elim (cases_lt 0 (of_content (only_at n p) x)) [
      | inl some ↦
          let hit = content-hit n p x (elim laid [
            | inl many ↦ laid-rising x many
            | inr one ↦ alone-rising x one
          ]) some in
          ap (λ o. unless_named n o (of_content (only_at n p) x)) hit.1
          ∙ is-named (hit.0.name == n) (of_content (only_at n p) x) (name-is hit.0.name hit.2)
      | inr none ↦ no-more (block_at x.blocks p.offset) (of_content (only_at n p) x)
          (omega (arith, none))
    ]

    none-misnamed : sum_everywhere e misnamed w ≡ 0
    none-misnamed = elim (cases_lt 0 (sum_everywhere e misnamed w)) [
      | inr le ↦ omega (arith, le)
      | inl some ↦ absurd (by-content e w k misnamed some
          (λ i x b l c more. omega (arith, more, named-so x l)))
    ]

    abbrev Begins : Type 0
    Begins = (b : BlockAt) × (block_in (contents e w) p ≡ Some b) × (b.name ≡ n)

    name-from : (t : Bool) (m a : ℕ) → (a == n) ≡ t → 1 ≤ m → if_named t m ≡ 0 → a ≡ n
    name-from true m a is some none = grind (arith, is)
    name-from false m a is some none = absurd (omega (arith, some, none))

    begins-by : (x : Content) → content_of (contents e w) p.carrier ≡ Some x
        → 1 ≤ of_content (only_at n p) x → (o : Option BlockAt) → block_at x.blocks p.offset ≡ o
        → unless_named n o (of_content (only_at n p) x) ≡ 0 → Begins
    begins-by x found some None at none = absurd (omega (arith, some, none))
    begins-by x found some (Some b) at none = (
      b,
      ap (option_and_then (λ (z : Content). block_at z.blocks p.offset)) found ∙ at,
      name-from (b.name == n) (of_content (only_at n p) x) b.name refl some none,
    )

    pub begins-there : Begins
    begins-there =
        let (x, found, some) = item-hit number_of (of_content (only_at n p)) p.carrier
        (contents e w) (other-content n p)
        (omega (arith, printed-all e w k (has_number p.carrier), number-once e w k p.carrier))
        (omega (arith, counts, printed-all e w k (of_content (only_at n p)))) in
        begins-by x found some (block_at x.blocks p.offset) refl (omega (
          arith,
          none-misnamed,
          printed-all e w k misnamed,
          sum-item number_of misnamed p.carrier x (contents e w) found,
        ))

  -- so one that lies at a place begins there
  pub lies-begins : (n : ℕ) (place : Place) → LiesAt e n place w
      → (b : BlockAt) × (block_in (contents e w) (spot_of place) ≡ Some b) × (b.name ≡ n)
  lies-begins n place lies =
      let at : ℕ → BlockAt → ℕ = λ c b. one_if (is_block n place c b) in
      let f : Content → ℕ = λ x. sum_over (at x.number) x.blocks in
      begins-there n (spot_of place) (omega (
        arith,
        lies,
        everywhere-less f (of_content (only_at n (spot_of place)))
            (λ x. sum-less (at x.number) (of_block (only_at n (spot_of place)) x.number) x.blocks
            (λ i d within. at-spot n place x.number _)) e w,
      ))
