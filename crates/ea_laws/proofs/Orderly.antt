-- An instance stays in order through each change, whoever owns the carriers that it employs.
use Rattle.std.proofs.Common.{◌≡◌, ◌≢◌, ℕ, ◌+◌, ◌%◌, ◌/◌, ◌<◌, ◌≤◌, List, refl, sym, ap, ◌∙◌, subst}
use Rattle.std.proofs.Common.{inl, inr, arith}
use Rattle.std.specs.Prelude.{Option, Some, None, Ok, All, option_map, ◌⊎◌}
use Rattle.std.proofs.lemmas.Bool.{cond_both}
use Rattle.std.proofs.lemmas.List.Elements.{All-filter}
use Rattle.std.proofs.lemmas.List.Kept.{AllPairs-filter}
use Rattle.ea_model.specs.declared.carriers.BlockAt.{BlockAt}
use Rattle.ea_model.specs.declared.carriers.CarrierPlan.{CarrierPlan}
use Rattle.ea_model.specs.declared.carriers.OwnCarrier.{OwnCarrier}
use Rattle.ea_model.specs.declared.carriers.Kind.TheVariants.{Multi}
use Rattle.ea_model.specs.declared.carriers.Spot.{Spot}
use Rattle.ea_model.specs.declared.settings.Settings.{Settings}
use Rattle.ea_model.specs.declared.units.TheConstants.{RELEASED_COUNT, RESIZED_COUNT}
use Rattle.ea_model.specs.declared.reallocation.Decision.{Decision}
use Rattle.ea_model.specs.declared.reallocation.Decision.TheVariants.{Stay, ShrinkHere, GrowHere}
use Rattle.ea_model.specs.declared.reallocation.Decision.TheVariants.{ShrinkCarrier, Move}
use Rattle.ea_model.specs.declared.reallocation.Where.{Where}
use Rattle.ea_model.specs.declared.reallocation.Where.TheVariants as whereabouts
use Rattle.ea_model.specs.Content.{Content, block_at, gap_behind, placed, released, resized}
use Rattle.ea_model.specs.Content.{size_of}
use Rattle.ea_model.specs.Decision.{decision, size_after}
use Rattle.ea_model.specs.Employment.{dismissing, disowning, employing}
use Rattle.ea_model.specs.Instance.{Instance, changing, content_of, count_less, created_content}
use Rattle.ea_model.specs.Instance.{created_single, resized_more}
use Rattle.ea_model.specs.Instance.{creating, creating_single, decision_at, employed, own_at}
use Rattle.ea_model.specs.Instance.{own_of, placing_at, plan, releasing_at, resized_by, resized_in}
use Rattle.ea_model.specs.Instance.{resized_to, resizing_at, shortened, size_at, where_at, where_in}
use Rattle.ea_model.specs.Instance.{with_content, without_own}
use Rattle.ea_model.specs.Keyed.{IsBelow}
use Rattle.ea_model.specs.Settings.{raised}
use Rattle.ea_model.proofs.Merged.{merged-apart, merged-each, merged-first, merged-left}
use Rattle.ea_model.proofs.Merged.{merged-right, merged-second}
use Rattle.ea_model.proofs.Options.{same-some}
use Rattle.ea_model.proofs.Rising.{All-entered, item_at-All, item_at-changed, item_at-key, change}
use Rattle.ea_model.proofs.Rising.{changed-found, none-other, rising-changed, rising-entered}
use Rattle.ea_model.proofs.Rising.{without_none}
use Rattle.ea_laws.specs.Kept.{number_of, own_number, IsKept, IsLaidOut, IsLaidOutAlone, IsOrderly}
use Rattle.ea_laws.specs.Kept.{IsRising}
use Rattle.ea_laws.specs.Spots.{HasGap}
use Rattle.ea_laws.proofs.Apart.{changed-All}
use Rattle.ea_laws.proofs.Changed.{KeepsPlace, placed-keeps, released-keeps, resized-keeps}
use Rattle.ea_laws.proofs.Contents.{block_among}
use Rattle.ea_laws.proofs.Employed.{employed-changed, employed-dismissed, employed-shortened}
use Rattle.ea_laws.proofs.Employed.{placing-is}
use Rattle.ea_laws.proofs.Keeping.{IsKept-cleared, IsKept-made, IsKept-shortened, IsLaidOut-made}
use Rattle.ea_laws.proofs.Laid.{created_single-IsLaidOutAlone, placed-IsLaidOut}
use Rattle.ea_laws.proofs.Laid.{released-IsLaidOut, released-IsLaidOutAlone}
use Rattle.ea_laws.proofs.Owned.{with_units}
use Rattle.ea_laws.proofs.Resizing.{content_after, resized-IsLaidOut, resized-IsLaidOutAlone}
use Rattle.ea_laws.proofs.Resizing.{shortened-alone, single-resized, single-shortens}

-- the content with a number, among the contents of many blocks or among those of one
pub employed-many : (i : Instance) (n : ℕ) (c : Content) → IsOrderly i
    → content_of i.contents n ≡ Some c → content_of (employed i) n ≡ Some c
employed-many i n c order there = merged-first number_of n c i.contents i.singles order.once there

pub employed-alone : (i : Instance) (n : ℕ) → content_of i.contents n ≡ None
    → content_of (employed i) n ≡ content_of i.singles n
employed-alone i n none = merged-second number_of n i.contents i.singles none

-- a content of many blocks is none of those of one
pub many-not_alone : (i : Instance) (n : ℕ) (c : Content) → IsOrderly i
    → content_of i.contents n ≡ Some c → All (λ d. d.number ≢ n) i.singles
many-not_alone i n c order there = merged-apart number_of n c i.contents i.singles order.once there

-- a content that keeps its place is changed
module _ (f : Content → Content) (keeps : KeepsPlace f) (n : ℕ) (i : Instance) (order : IsOrderly i)
  where
    pub changing-IsOrderly : ((c : Content) → content_of i.contents n ≡ Some c → IsLaidOut (f c))
        → ((c : Content) → content_of i.singles n ≡ Some c → IsLaidOutAlone (f c))
        → IsOrderly (changing i f n)
    changing-IsOrderly many one = record {
      kept = order.kept;
      rising = rising-changed number_of f n keeps.number i.contents order.rising;
      rising_singles = rising-changed number_of f n keeps.number i.singles order.rising_singles;
      once = subst IsRising (sym (employed-changed f keeps n i))
          (rising-changed number_of f n keeps.number (employed i) order.once);
      laid = changed-All IsLaidOut f n i.contents order.rising order.laid many;
      alone = changed-All IsLaidOutAlone f n i.singles order.rising_singles order.alone one;
    }

-- an instance of another count is in order, too
pub counted-IsOrderly : (count : ℕ) (i : Instance) → IsOrderly i
    → IsOrderly (record i { count = count })
counted-IsOrderly count i order = record {
  kept = order.kept;
  rising = order.rising;
  rising_singles = order.rising_singles;
  once = order.once;
  laid = order.laid;
  alone = order.alone;
}

-- a block is placed where there is a gap
module _ (i : Instance) (spot : Spot) (need name : ℕ) (order : IsOrderly i)
    (gap : HasGap need spot.carrier spot.offset i.contents) where
  pub placing-laid : 6 ≤ need → need % 2 ≡ 0 → (c : Content)
      → content_of i.contents spot.carrier ≡ Some c → IsLaidOut (placed c spot.offset need name)
  placing-laid least even c there = subst (λ x. IsLaidOut (placed x spot.offset need name))
      (same-some (content_of i.contents spot.carrier) gap.0 c gap.1 there)
      (placed-IsLaidOut gap.0 spot.offset need name
      (item_at-All number_of IsLaidOut spot.carrier gap.0 i.contents order.laid gap.1)
      gap.2 least even)

  pub placing-alone : (c : Content) → content_of i.singles spot.carrier ≡ Some c
      → IsLaidOutAlone (placed c spot.offset need name)
  placing-alone c there = absurd (item_at-All number_of (λ x. x.number ≢ spot.carrier)
      spot.carrier c i.singles (many-not_alone i spot.carrier gap.0 order gap.1) there
      (item_at-key number_of spot.carrier c i.singles there))

pub placing-IsOrderly : (i : Instance) (spot : Spot) (need name : ℕ) → IsOrderly i
    → HasGap need spot.carrier spot.offset i.contents → 6 ≤ need → need % 2 ≡ 0
    → IsOrderly (placing_at i spot need name)
placing-IsOrderly i spot need name order gap least even =
    subst IsOrderly (sym (placing-is i spot need name gap.0 order.once gap.1))
    (counted-IsOrderly (raised i.settings i.count)
    (changing i (λ c. placed c spot.offset need name) spot.carrier)
    (changing-IsOrderly (λ c. placed c spot.offset need name)
    (placed-keeps spot.offset need name) spot.carrier i order
    (placing-laid i spot need name order gap least even)
    (placing-alone i spot need name order gap)))

-- the block at a spot is released
pub releasing-IsOrderly : (i : Instance) (spot : Spot) → IsOrderly i
    → IsOrderly (releasing_at i spot)
releasing-IsOrderly i spot order =
    counted-IsOrderly (count_less RELEASED_COUNT i spot.carrier)
    (changing i (λ c. released c spot.offset) spot.carrier)
    (changing-IsOrderly (λ c. released c spot.offset) (released-keeps spot.offset) spot.carrier i
    order
    (λ c there. released-IsLaidOut c spot.offset
    (item_at-All number_of IsLaidOut spot.carrier c i.contents order.laid there))
    (λ c there. released-IsLaidOutAlone c spot.offset
    (item_at-All number_of IsLaidOutAlone spot.carrier c i.singles order.alone there)))

-- a carrier that isn't employed comes
module _ (i : Instance) (order : IsOrderly i) (x : Content)
    (new : content_of (employed i) x.number ≡ None) where
  new_number : All (λ c. c.number ≢ x.number) (employed i)
  new_number = none-other number_of x.number (employed i) new

  new_each : All (λ c. c.number ≢ x.number) i.contents × All (λ c. c.number ≢ x.number) i.singles
  new_each = merged-each number_of (λ c. c.number ≢ x.number) i.contents i.singles new_number

  still_once : IsRising (with_content x (employed i))
  still_once = rising-entered number_of x (employed i) order.once new_number

  -- one of many blocks: it was fetched, or made again
  pub employing-IsOrderly : IsLaidOut x
      → IsOrderly (employing i x)
  employing-IsOrderly laid = record {
    kept = order.kept;
    rising = rising-entered number_of x i.contents order.rising new_each.0;
    rising_singles = order.rising_singles;
    once = subst IsRising (sym (merged-left number_of x i.contents i.singles new_each.0))
        still_once;
    laid = All-entered number_of IsLaidOut x i.contents laid order.laid;
    alone = order.alone;
  }

  pub employing_single-IsOrderly : IsLaidOutAlone x
      → IsOrderly (record i { singles = with_content x i.singles })
  employing_single-IsOrderly laid = record {
    kept = order.kept;
    rising = order.rising;
    rising_singles = rising-entered number_of x i.singles order.rising_singles new_each.1;
    once = subst IsRising (sym (merged-right number_of x i.contents i.singles new_each.0))
        still_once;
    laid = order.laid;
    alone = All-entered number_of IsLaidOutAlone x i.singles laid order.alone;
  }

-- other carriers are owned, or more were created
pub owning-IsOrderly : (i : Instance) (os : List OwnCarrier) (created : ℕ) → IsOrderly i
    → IsKept i.settings i.number i.first i.end os
    → IsOrderly (record i { own = os; created = created })
owning-IsOrderly i os created order kept = record {
  kept = kept;
  rising = order.rising;
  rising_singles = order.rising_singles;
  once = order.once;
  laid = order.laid;
  alone = order.alone;
}

-- the carrier of a plan comes
module _ (i : Instance) (need : ℕ) (p : CarrierPlan) (order : IsOrderly i)
    (asked : plan i need ≡ Ok p) (new : content_of (employed i) p.number ≡ None) where
  pub creating-IsOrderly : IsOrderly (creating i p)
  creating-IsOrderly =
      let x = created_content i.number Multi p in
      owning-IsOrderly (employing i x) _ p.birth
      (employing-IsOrderly i order x new (IsLaidOut-made i need p order.kept asked))
      (IsKept-made i need p order.kept asked)

  pub creating_single-IsOrderly : (name : ℕ) → 6 ≤ need → need % 2 ≡ 0
      → IsOrderly (creating_single i p need name)
  creating_single-IsOrderly name least even =
      let x = created_single i.number p need name in
      owning-IsOrderly (record i { singles = with_content x i.singles }) _ p.birth
      (employing_single-IsOrderly i order x new
      (created_single-IsLaidOutAlone i need name p order.kept asked least even))
      (IsKept-made i need p order.kept asked)

-- a carrier goes: to the pool, to its owner, or for good
pub dismissing-IsOrderly : (i : Instance) (n : ℕ) → IsOrderly i → IsOrderly (dismissing i n)
dismissing-IsOrderly i n order = record {
  kept = order.kept;
  rising = AllPairs-filter (IsBelow number_of) _ i.contents order.rising;
  rising_singles = AllPairs-filter (IsBelow number_of) _ i.singles order.rising_singles;
  once = subst IsRising (sym (employed-dismissed i n order.once))
      (AllPairs-filter (IsBelow number_of) _ (employed i) order.once);
  laid = All-filter _ IsLaidOut i.contents order.laid;
  alone = All-filter _ IsLaidOutAlone i.singles order.alone;
}

-- the own carriers without that of a number
IsKept-without : (i : Instance) (n : ℕ) → IsKept i.settings i.number i.first i.end i.own
    → IsKept i.settings i.number i.first i.end (without_own n i.own)
IsKept-without i n kept = by (own_at i.own n) refl where
  by : (o : Option OwnCarrier) → own_at i.own n ≡ o
      → IsKept i.settings i.number i.first i.end (without_own n i.own)
  by None none = subst (IsKept i.settings i.number i.first i.end)
      (sym (without_none own_number n i.own (none-other own_number n i.own none))) kept
  by (Some o) there = IsKept-cleared i.settings i.number n i.first i.end o i.own kept there

pub disowning-IsOrderly : (i : Instance) (n : ℕ) → IsOrderly i → IsOrderly (disowning i n)
disowning-IsOrderly i n order =
    owning-IsOrderly i (without_own n i.own) i.created order (IsKept-without i n order.kept)

-- a singleblock carrier has fewer pages
module _ (i : Instance) (n pages : ℕ) (c : Content) (order : IsOrderly i)
    (others : content_of i.contents n ≡ None) (there : content_of i.singles n ≡ Some c)
    (owns : own_at i.own n ≡ Some (own_of c)) (some : 1 ≤ pages) (fewer : pages < c.units / 512)
    (laid : IsLaidOutAlone (with_units pages c)) where
  pub shortened-IsOrderly : IsOrderly (shortened i n pages)
  shortened-IsOrderly =
      let f = with_units pages in
      record {
        kept = IsKept-shortened i.settings i.number n i.first i.end pages (own_of c) i.own
            order.kept owns some fewer;
        rising = order.rising;
        rising_singles = rising-changed number_of f n (λ _. refl) i.singles order.rising_singles;
        once = subst IsRising
            (sym (employed-shortened i n pages (none-other number_of n i.contents others)))
            (rising-changed number_of f n (λ _. refl) (employed i) order.once);
        laid = order.laid;
        alone = changed-All IsLaidOutAlone f n i.singles order.rising_singles order.alone
            (λ d is. subst (λ x. IsLaidOutAlone (f x))
            (same-some (content_of i.singles n) c d there is) laid);
      }

-- a block of a carrier that is employed gets other units in place
module _ (i : Instance) (spot : Spot) (need name : ℕ) (c : Content) (b : BlockAt)
    (order : IsOrderly i) (there : content_of (employed i) spot.carrier ≡ Some c)
    (found : block_at c.blocks spot.offset ≡ Some b) where
  abbrev at : ℕ
  at = spot.carrier

  -- its units
  pub resizing-size : size_at i spot ≡ b.size
  resizing-size = ap (λ o. size_of (block_among spot.offset o)) there ∙ ap size_of found

  -- its carrier is of many blocks, or it is alone
  pub resizing-where : (where_at i spot ≡ whereabouts.Multi (gap_behind c spot.offset))
      × (content_of i.contents at ≡ Some c)
      ⊎ (where_at i spot ≡ whereabouts.Single c.units) × (content_of i.contents at ≡ None)
      × (content_of i.singles at ≡ Some c)
  resizing-where = by (content_of i.contents at) refl where
    by : (o : Option Content) → content_of i.contents at ≡ o
        → (where_at i spot ≡ whereabouts.Multi (gap_behind c spot.offset))
        × (content_of i.contents at ≡ Some c)
        ⊎ (where_at i spot ≡ whereabouts.Single c.units) × (content_of i.contents at ≡ None)
        × (content_of i.singles at ≡ Some c)
    by (Some d) is =
        let same = same-some (content_of (employed i) at) d c (employed-many i at d order is) there
        in
        let here = is ∙ ap Some same in
        inl (ap (λ o. where_in spot.offset o (content_of i.singles at)) here, here)
    by None is =
        let here = sym (employed-alone i at is) ∙ there in
        inr (
          ap (λ o. where_in spot.offset o (content_of i.singles at)) is
              ∙ ap (where_in spot.offset None) here,
          is,
          here,
        )

  -- what is decided, and the units that the block has then
  resizing_decides : (w : Where) → where_at i spot ≡ w
      → decision i.settings b.size need w ≡ decision_at i spot need
  resizing_decides w is = sym (ap (λ n. decision i.settings n need (where_at i spot)) resizing-size
      ∙ ap (decision i.settings b.size need) is)

  resizing_sizes : (w : Where) → where_at i spot ≡ w
      → size_after (decision_at i spot need) b.size need w ≡ resized_to i spot need
  resizing_sizes w is =
      let d = decision_at i spot need in
      sym (ap (λ n. size_after d n need (where_at i spot)) resizing-size
      ∙ ap (size_after d b.size need) is)

  module _ (least : 6 ≤ need) (even : need % 2 ≡ 0)
      (owns : content_of i.singles at ≡ Some c → own_at i.own at ≡ Some (own_of c)) where
    abbrev with_new : ℕ → Content → Content
    with_new size x = resized x spot.offset size name

    many_resized : (size : ℕ) → content_of i.contents at ≡ Some c → IsLaidOut (with_new size c)
        → IsOrderly (resized_in i spot size name)
    many_resized size here laid =
        changing-IsOrderly (with_new size) (resized-keeps spot.offset size name) at i order
        (λ d is. subst (λ x. IsLaidOut (with_new size x))
        (same-some (content_of i.contents at) c d here is) laid)
        (λ d is. absurd (item_at-All number_of (λ x. x.number ≢ at) at d i.singles
        (many-not_alone i at c order here) is (item_at-key number_of at d i.singles is)))

    alone_resized : (size : ℕ) → content_of i.contents at ≡ None
        → content_of i.singles at ≡ Some c → IsLaidOutAlone (with_new size c)
        → IsOrderly (resized_in i spot size name)
    alone_resized size others here laid =
        changing-IsOrderly (with_new size) (resized-keeps spot.offset size name) at i order
        (λ d is. absurd (let e : None ≡ Some d = sym others ∙ is in cc))
        (λ d is. subst (λ x. IsLaidOutAlone (with_new size x))
        (same-some (content_of i.singles at) c d here is) laid)

    counted : (size : ℕ) → IsOrderly (resized_in i spot size name)
        → IsOrderly (resized_more i spot size name)
    counted size order = counted-IsOrderly (count_less RESIZED_COUNT i at)
        (resized_in i spot size name) order

    by_many : (d : Decision) → decision_at i spot need ≡ d → content_of i.contents at ≡ Some c
        → IsLaidOut (content_after d spot.offset (resized_to i spot need) name c)
        → IsOrderly (resized_by d i spot (resized_to i spot need) name)
    by_many Stay e here laid = many_resized _ here laid
    by_many ShrinkHere e here laid = counted _ (many_resized _ here laid)
    by_many GrowHere e here laid = counted _ (many_resized _ here laid)
    by_many (ShrinkCarrier pages) e here laid =
        absurd (let never : Some c ≡ None = sym here ∙ shortened-alone i spot need pages e in cc)
    by_many Move e here laid = order

    by_alone : (d : Decision) → decision_at i spot need ≡ d
        → decision i.settings b.size need (whereabouts.Single c.units) ≡ d
        → content_of i.contents at ≡ None → content_of i.singles at ≡ Some c
        → IsLaidOutAlone (content_after d spot.offset (resized_to i spot need) name c)
        → IsOrderly (resized_by d i spot (resized_to i spot need) name)
    by_alone Stay e f others here laid = alone_resized _ others here laid
    by_alone ShrinkHere e f others here laid = counted _ (alone_resized _ others here laid)
    by_alone GrowHere e f others here laid = counted _ (alone_resized _ others here laid)
    by_alone (ShrinkCarrier pages) e f others here laid =
        let before = item_at-All number_of IsLaidOutAlone at c i.singles order.alone here in
        let size : ℕ = resized_to i spot need in
        let is : size ≡ need = ap (λ d. size_after d (size_at i spot) need (where_at i spot)) e in
        let less = single-shortens i.settings c b spot.offset need name found least even before
        pages f in
        let fits : 8 + need ≤ c.units = omega (arith, less.1, less.2) in
        let f = with_new size in
        shortened-IsOrderly (resized_in i spot size name) at pages (f c)
        (alone_resized size others here
        (single-resized i.settings c b spot.offset need name found least even before size
        (omega (arith, is, least)) (ap (λ n. n % 2) is ∙ even) (omega (arith, is, fits))))
        (item_at-changed number_of f at (λ _. refl) at i.contents
        ∙ ap (option_map (change number_of f at)) others)
        (changed-found number_of f at (λ _. refl) c i.singles here) (owns here) less.0 less.1 laid
    by_alone Move e f others here laid = order

    pub resizing-IsOrderly : IsOrderly (resizing_at i spot need name)
    resizing-IsOrderly =
        let d = decision_at i spot need in
        let s = i.settings in
        elim resizing-where [
          | inl many ↦
              let w = whereabouts.Multi (gap_behind c spot.offset) in
              by_many d refl many.1
              (subst (λ n. IsLaidOut (content_after d spot.offset n name c))
              (resizing_sizes w many.0)
              (resized-IsLaidOut s c b spot.offset need name found least even
              (item_at-All number_of IsLaidOut at c i.contents order.laid many.1) d
              (resizing_decides w many.0)))
          | inr one ↦
              let w = whereabouts.Single c.units in
              by_alone d refl (resizing_decides w one.0) one.1 one.2
              (subst (λ n. IsLaidOutAlone (content_after d spot.offset n name c))
              (resizing_sizes w one.0)
              (resized-IsLaidOutAlone s c b spot.offset need name found least even
              (item_at-All number_of IsLaidOutAlone at c i.singles order.alone one.2) d
              (resizing_decides w one.0)))
        ]

-- a block whose carrier isn't employed moves
foreign_moves : (s : Settings) (old fresh : ℕ) → decision s old fresh whereabouts.Foreign ≡ Move
foreign_moves s old fresh = cond_both s.ramv Move Move (λ d. d ≡ Move) (λ _. refl) (λ _. refl)

module _ (i : Instance) (spot : Spot) (need : ℕ) (order : IsOrderly i)
    (stays : decision_at i spot need ≢ Move) where
  employed_by : (o p : Option Content) → content_of i.contents spot.carrier ≡ o
      → content_of i.singles spot.carrier ≡ p
      → (c : Content) × (content_of (employed i) spot.carrier ≡ Some c)
  employed_by (Some c) p e f = (c, employed-many i spot.carrier c order e)
  employed_by None (Some c) e f = (c, employed-alone i spot.carrier e ∙ f)
  employed_by None None e f =
      let foreign : where_at i spot ≡ whereabouts.Foreign =
      ap (λ o. where_in spot.offset o (content_of i.singles spot.carrier)) e
      ∙ ap (where_in spot.offset None) f in
      absurd (stays (ap (decision i.settings (size_at i spot) need) foreign
      ∙ foreign_moves i.settings (size_at i spot) need))

  pub stays-employed : (c : Content) × (content_of (employed i) spot.carrier ≡ Some c)
  stays-employed = employed_by (content_of i.contents spot.carrier)
      (content_of i.singles spot.carrier) refl refl

-- the changed carrier is found by its number
module _ (f : Content → Content) (keeps : KeepsPlace f) (n : ℕ) (i : Instance) where
  pub changing-found : (c : Content) → content_of (employed i) n ≡ Some c
      → content_of (employed (changing i f n)) n ≡ Some (f c)
  changing-found c there = ap (λ cs. content_of cs n) (employed-changed f keeps n i)
      ∙ changed-found number_of f n keeps.number c (employed i) there

-- a reallocation in place leaves the instance's settings, number and region
pub resizing-fixed : (i : Instance) (spot : Spot) (need name : ℕ)
    → ((resizing_at i spot need name).settings ≡ i.settings)
    × ((resizing_at i spot need name).number ≡ i.number)
    × ((resizing_at i spot need name).first ≡ i.first)
    × ((resizing_at i spot need name).end ≡ i.end)
resizing-fixed i spot need name = by (decision_at i spot need) (resized_to i spot need) where
  by : (d : Decision) (size : ℕ) → ((resized_by d i spot size name).settings ≡ i.settings)
      × ((resized_by d i spot size name).number ≡ i.number)
      × ((resized_by d i spot size name).first ≡ i.first)
      × ((resized_by d i spot size name).end ≡ i.end)
  by Stay size = (refl, refl, refl, refl)
  by ShrinkHere size = (refl, refl, refl, refl)
  by GrowHere size = (refl, refl, refl, refl)
  by (ShrinkCarrier pages) size = (refl, refl, refl, refl)
  by Move size = (refl, refl, refl, refl)
