-- A block of a name at its place: it lies there once it is placed or resized, and still does when
-- another block of the instance is released.
use Rattle.std.proofs.Common.{◌≡◌, ◌≢◌, ℕ, ◌≤◌, [], Bool, true, false, refl, sym, ap, ◌∙◌, subst}
use Rattle.std.proofs.Common.{arith}
use Rattle.std.specs.Prelude.{Option, None, Some, ◌==◌}
use Rattle.std.proofs.lemmas.Bool.{eqb-true}
use Rattle.ea_laws.proofs.Changed.{released-keeps}
use Rattle.ea_machine.specs.Actor.{Actor}
use Rattle.ea_machine.specs.declared.tasks.Gone.{Gone}
use Rattle.ea_machine.specs.declared.tasks.Gone.TheVariants.{Here, Open}
use Rattle.ea_machine.specs.declared.nodes.Named.{Named}
use Rattle.ea_model.specs.Employment.{dismissing}
use Rattle.ea_model.specs.Instance.{owner_of}
use Rattle.ea_machine.specs.Releases.{abandoned_if, after_release, dismissed}
use Rattle.ea_machine.specs.Releases.{first_gone, leaving_by, lightened, owned_by, release_here}
use Rattle.ea_machine.specs.Releases.{route_of, routed}
use Rattle.ea_machine.specs.Setup.{Setup, migration}
use Rattle.ea_sound.proofs.Assembly.{vacant-nil}
use Rattle.ea_sound.proofs.BlockWeights.{block-rising}
use Rattle.ea_sound.proofs.Hits.{HasBlock}
use Rattle.ea_laws.proofs.Orderly.{releasing-IsOrderly}
use Rattle.ea_sound.proofs.Unmoved.{due-unmoved}
use Rattle.ea_model.specs.declared.carriers.BlockAt.{BlockAt}
use Rattle.ea_model.specs.declared.carriers.CarrierPlan.{CarrierPlan}
use Rattle.ea_model.specs.declared.carriers.Place.{Place}
use Rattle.ea_model.specs.declared.carriers.Spot.{Spot}
use Rattle.ea_model.specs.declared.reallocation.Decision.{Decision}
use Rattle.ea_model.specs.declared.reallocation.Decision.TheVariants.{Stay, ShrinkHere, GrowHere}
use Rattle.ea_model.specs.declared.reallocation.Decision.TheVariants.{ShrinkCarrier, Move}
use Rattle.ea_model.specs.Content.{Content, block_at, gap_at, gaps_of, is_vacant, placed}
use Rattle.ea_model.specs.Content.{released, taken_of}
use Rattle.ea_model.specs.Instance.{Instance, content_of, creating_single, decision_at, employed}
use Rattle.ea_model.specs.Instance.{place_at, placing_at, releasing_at, resized_to, resizing_at}
use Rattle.ea_model.specs.Instance.{single_place, size_for}
use Rattle.ea_model.specs.Keyed.{changed_at}
use Rattle.ea_model.proofs.Rising.{changed-found, item_at-key}
use Rattle.ea_laws.specs.Kept.{number_of, IsOrderly}
use Rattle.ea_laws.proofs.BlockLists.{offset_of}
use Rattle.ea_laws.proofs.Resized.{with_size}
use Rattle.ea_machine.specs.Reallocations.{resized_place}
use Rattle.ea_sound.specs.Released.{is_block}
use Rattle.ea_machine.specs.Sums.{one_if, sum_over}
use Rattle.ea_sound.proofs.EmployedWeights.{employed_sum-changing, employed_sum-creating_single}
use Rattle.ea_sound.proofs.EmployedWeights.{employed_sum-dismissing, employed_sum-employed}
use Rattle.ea_sound.proofs.EmployedWeights.{employed_sum-resizing}
use Rattle.ea_sound.proofs.FewBlocks.{Counting, all_named, blocks_named}
use Rattle.ea_sound.proofs.KeyedWeights.{sum-entered, sum-item, sum-without, times-once}
use Rattle.ea_laws.proofs.Resizing.{content_after}

-- the block of the name at the place
abbrev pub lies : ℕ → Place → ℕ → BlockAt → ℕ
lies n p c b = one_if (is_block n p c b)

pub lies-small : (n : ℕ) (p : Place) (c : ℕ) (b : BlockAt) → lies n p c b ≤ one_if (b.name == n)
lies-small n p c b = grind arith

abbrev pub lying : ℕ → Place → Counting
lying n p = record {
  name = n;
  counts = λ number base b. lies n p number b;
  small = λ number base b. lies-small n p number b;
}

-- it is counted, and a block of another name isn't
lies-there : (n : ℕ) (p : Place) (c : ℕ) (b : BlockAt) → b.name ≡ n → c ≡ p.carrier
    → b.offset ≡ p.offset → b.size ≡ p.size → lies n p c b ≡ 1
lies-there n p c b name carrier offset size = grind (arith, name, carrier, offset, size)

pub lies-not : (n : ℕ) (p : Place) (c : ℕ) (b : BlockAt) → b.name ≢ n → lies n p c b ≡ 0
lies-not n p c b other = grind (arith, other)

-- an instance has it
abbrev pub LiesWith : ℕ → Place → Instance → Type 0
LiesWith n p i = 1 ≤ all_named (lying n p) i

-- a block that is placed at a spot
pub placing-lies : (i : Instance) (spot : Spot) (need name : ℕ) (c : Content)
    → content_of i.contents spot.carrier ≡ Some c
    → LiesWith name (place_at i spot need) (placing_at i spot need name)
placing-lies i spot need name c there =
    let p = place_at i spot need in
    let f = blocks_named (lying name p) in
    let g : Content → Content = λ x. placed x spot.offset need name in
    let b : BlockAt = record {
      name = name;
      offset = spot.offset;
      size = taken_of (gap_at (gaps_of c) spot.offset) need;
    } in
    omega (
      arith,
      lies-there name p c.number b refl (item_at-key number_of spot.carrier c i.contents there) refl
          (sym (ap (λ o. size_for o spot.offset need) there)),
      sum-entered offset_of (lies name p c.number) b c.blocks,
      sum-item number_of f spot.carrier (g c) (placing_at i spot need name).contents
          (changed-found number_of g spot.carrier (λ _. refl) c i.contents there),
    )

-- the block of a new singleblock carrier
pub single-lies : (i : Instance) (p : CarrierPlan) (need name : ℕ)
    → LiesWith name (single_place p need) (creating_single i p need name)
single-lies i p need name =
    let place = single_place p need in
    omega (
      arith,
      lies-there name place p.number (record { name = name; offset = 8; size = need }) refl refl
          refl refl,
      employed_sum-creating_single (blocks_named (lying name place)) i p need name,
    )

-- a block that takes another name and other units
module _ (i : Instance) (spot : Spot) (need name : ℕ) (order : IsOrderly i)
    (stays : decision_at i spot need ≢ Move) (c : Content)
    (there : content_of (employed i) spot.carrier ≡ Some c) (b : BlockAt)
    (found : block_at c.blocks spot.offset ≡ Some b) where
  abbrev place : Place
  place = resized_place i spot need

  abbrev size : ℕ
  size = resized_to i spot need

  in_blocks : 1 ≤ sum_over (lies name place c.number)
      (changed_at offset_of (with_size size name) spot.offset c.blocks)
  in_blocks =
      let g = with_size size name in
      omega (
        arith,
        lies-there name place c.number (g b) refl
            (item_at-key number_of spot.carrier c (employed i) there)
            (item_at-key offset_of spot.offset b c.blocks found) refl,
        sum-item offset_of (lies name place c.number) spot.offset (g b)
            (changed_at offset_of g spot.offset c.blocks)
            (changed-found offset_of g spot.offset (λ _. refl) b c.blocks found),
      )

  in_content : (d : Decision) → d ≢ Move
      → 1 ≤ blocks_named (lying name place) (content_after d spot.offset size name c)
  in_content Stay ne = in_blocks
  in_content ShrinkHere ne = in_blocks
  in_content GrowHere ne = in_blocks
  in_content (ShrinkCarrier pages) ne = in_blocks
  in_content Move ne = absurd (ne refl)

  pub resizing-lies : LiesWith name place (resizing_at i spot need name)
  resizing-lies =
      let f = blocks_named (lying name place) in
      omega (
        arith,
        in_content (decision_at i spot need) stays,
        employed_sum-resizing i spot need name c order there f,
        sum-item number_of f spot.carrier c (employed i) there,
        employed_sum-employed f i,
      )

-- a block of another name, which stands at its spot, is released, and its carrier goes if it is
-- empty
module _ (e : Setup) (me : ℕ) (n : ℕ) (p : Place) (h : Named) (other : h.name ≢ n) (a : Actor)
    (has : LiesWith n p a.instance) where
  module _ (off : migration e ≡ false) (order : IsOrderly a.instance)
      (block : HasBlock a.instance h.name h.spot) where
    abbrev i : Instance
    i = a.instance

    abbrev j : Instance
    j = releasing_at a.instance h.spot

    abbrev f : Content → ℕ
    f = blocks_named (lying n p)

    abbrev after : Actor
    after = record a { instance = releasing_at a.instance h.spot }

    abbrev c : Content
    c = block.0

    abbrev b : BlockAt
    b = block.2.0

    same-blocks : f (released c h.spot.offset) ≡ f c
    same-blocks = omega (
      arith,
      lies-not n p c.number b (λ q. other (sym block.2.2 ∙ q)),
      sum-without offset_of (lies n p c.number) h.spot.offset b c.blocks
          (times-once offset_of h.spot.offset c.blocks
          (block-rising i h.spot.carrier c order block.1)) block.2.1,
    )

    released-lies : LiesWith n p j
    released-lies = omega (
      arith,
      has,
      same-blocks,
      employed_sum-changing f i h.spot.carrier c order block.1
          (λ x. released x h.spot.offset) (released-keeps h.spot.offset),
    )

    module _ (x : Content) (there : content_of (employed j) h.spot.carrier ≡ Some x) where
      number : x.number ≡ h.spot.carrier
      number = item_at-key number_of h.spot.carrier x (employed j) there

      dismissed-lies : x.blocks ≡ [] → LiesWith n p (dismissing j x.number)
      dismissed-lies empty = omega (
        arith,
        released-lies,
        employed_sum-dismissing f j x.number x (releasing-IsOrderly i h.spot order)
            (ap (content_of (employed j)) number ∙ there),
        ap (sum_over (lies n p x.number)) empty,
      )

      leaving-lies : (own on : Bool) (g : Gone) → x.blocks ≡ []
          → LiesWith n p (leaving_by e me own on x g (dismissed x.number after)).actor.instance
      leaving-lies false on g empty = dismissed-lies empty
      leaving-lies true true g empty = dismissed-lies empty
      leaving-lies true false g empty = dismissed-lies empty

      lightened-lies : (vacant : Bool) (g : Gone) → is_vacant x ≡ vacant
          → LiesWith n p (lightened e me vacant x g after).actor.instance
      lightened-lies true g vacant =
          leaving-lies (owner_of x.number == me) (migration e) g (vacant-nil x vacant)
      lightened-lies false g full =
          subst (λ due. LiesWith n p (abandoned_if due x g after).actor.instance)
          (sym (due-unmoved e j.count j.contents x off)) released-lies

    after-lies : (o : Option Content) → content_of (employed j) h.spot.carrier ≡ o
        → LiesWith n p (after_release e me Open after o).actor.instance
    after-lies None there = released-lies
    after-lies (Some x) there = lightened-lies x there (is_vacant x) (first_gone Open Here) refl

    here-lies : LiesWith n p (release_here e me h Open a).actor.instance
    here-lies = after-lies (content_of (employed j) h.spot.carrier) refl

  -- so the block is still there where the other one has gone its route
  pub route-lies : (migration e ≡ false → owner_of h.spot.carrier ≡ me
      → IsOrderly a.instance × HasBlock a.instance h.name h.spot)
      → LiesWith n p (route_of e me h a).actor.instance
  route-lies stands = by (migration e) refl where
    owned : (own : Bool) → migration e ≡ false → (owner_of h.spot.carrier == me) ≡ own
        → LiesWith n p (owned_by e me own h a).actor.instance
    owned true off o =
        let k = stands off (eqb-true (owner_of h.spot.carrier) me o) in here-lies off k.0 k.1
    owned false off o = has

    by : (on : Bool) → migration e ≡ on → LiesWith n p (routed e me on h a).actor.instance
    by true m = has
    by false m = owned (owner_of h.spot.carrier == me) m refl
