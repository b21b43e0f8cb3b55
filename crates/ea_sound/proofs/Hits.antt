-- The block of a name that stands with a scheduler, in a carrier that the scheduler employs.
use Rattle.std.proofs.Common.{◌≡◌, ℕ, ◌<◌, ◌≤◌, true, ap, subst, arith}
use Rattle.std.specs.Prelude.{Some, All}
use Rattle.ea_model.specs.declared.carriers.BlockAt.{BlockAt}
use Rattle.ea_model.specs.declared.carriers.Spot.{Spot}
use Rattle.ea_model.specs.Content.{Content, block_at}
use Rattle.ea_model.specs.Instance.{Instance, content_of, employed}
use Rattle.ea_model.proofs.Merged.{merged-All}
use Rattle.ea_model.proofs.Rising.{item_at-All}
use Rattle.ea_laws.specs.Kept.{number_of}
use Rattle.ea_machine.specs.Actor.{Actor}
use Rattle.ea_sound.specs.Contents.{actor_sum, hand_sum, seats}
use Rattle.ea_sound.specs.Names.{allocated, of_content, only_at}
use Rattle.ea_machine.specs.Nodes.{named_at}
use Rattle.ea_machine.specs.declared.nodes.Named.{Named}
use Rattle.ea_machine.specs.Setup.{Setup, is_scheduler}
use Rattle.ea_machine.specs.State.{State}
use Rattle.ea_sound.specs.Here.{Here}
use Rattle.ea_sound.specs.Rule.{Belongs, Kept, Standing, names_of}
use Rattle.ea_sound.proofs.BlockWeights.{employed-hit, only_at-itself, other-content}
use Rattle.ea_sound.proofs.Global.{sum-here, weighs-scheduler}
use Rattle.ea_sound.proofs.KeyedWeights.{sum-item}
use Rattle.ea_sound.proofs.Totals.{total-part}

-- what holds of each content that an instance employs holds of one that is found
pub employed-holds : (P : Content → Type 0) (i : Instance) (n : ℕ) (c : Content)
    → All P i.contents → All P i.singles → content_of (employed i) n ≡ Some c → P c
employed-holds P i n c many one there = item_at-All number_of P n c (employed i)
    (merged-All number_of P i.contents i.singles many one) there

-- the block of the name stands at its spot, in a carrier that the instance employs
abbrev pub HasBlock : Instance → ℕ → Spot → Type 0
HasBlock i n p = (c : Content) × (content_of (employed i) p.carrier ≡ Some c)
    × ((b : BlockAt) × (block_at c.blocks p.offset ≡ Some b) × (b.name ≡ n))

-- a held name stands
pub held-stands : (n : ℕ) (x : Named) (a : Actor) → named_at n a.held ≡ Some x
    → 1 ≤ names_of (only_at x.name x.spot) a
held-stands n x a is = omega (
  arith,
  sum-item (λ (y : Named). y.name) (λ (y : Named). only_at x.name x.spot y.name y.spot) n x
      a.held is,
  only_at-itself x.name x.spot,
)

module _ (e : Setup) (w : State) (me : ℕ) (seat : me < seats e) (k : Kept e w) (a : Actor)
    (is : w.actors me ≡ a) where
  -- names that stand with a scheduler are those of blocks
  pub stands-allocated : (f : ℕ → Spot → ℕ) → names_of f a ≤ allocated e f w
  stands-allocated f = omega (
    arith,
    k.names.balance f,
    total-part (names_of f) w.actors me (seats e) seat,
    ap (names_of f) is,
  )

  -- a content that is found lies in its owner's region, and is laid out
  pub found-belongs : (n : ℕ) (c : Content) → content_of (employed a.instance) n ≡ Some c
      → Belongs e me c
  found-belongs n c there = employed-holds (Belongs e me) a.instance n c
      (subst (λ (b : Actor). All (Belongs e me) b.instance.contents) is (k.ranges.contents me))
      (subst (λ (b : Actor). All (Belongs e me) b.instance.singles) is (k.ranges.singles me)) there

  module _ (n : ℕ) (p : Spot) (here : Here e w.shared me p.carrier)
      (stands : 1 ≤ names_of (only_at n p) a) where
    abbrev at_spot : Content → ℕ
    at_spot = of_content (only_at n p)

    -- the block is with the scheduler
    counts_here : 1 ≤ actor_sum at_spot at_spot a
    counts_here = omega (
      arith,
      stands,
      stands-allocated (only_at n p),
      sum-here e w k at_spot p.carrier (other-content n p) me here,
      ap (actor_sum at_spot at_spot) is,
    )

    scheduler : is_scheduler e me ≡ true
    scheduler = weighs-scheduler e w k at_spot at_spot me
        (omega (arith, counts_here, ap (actor_sum at_spot at_spot) is))

    -- and if it isn't in its hand, its instance employs the carrier
    pub hit : hand_sum at_spot at_spot a.stage ≡ 0 → HasBlock a.instance n p
    hit bare = employed-hit n p a.instance
        (subst (λ (b : Actor). Standing e me b.instance) is (k.ranges.instances me scheduler)).order
        (omega (arith, counts_here, bare))
