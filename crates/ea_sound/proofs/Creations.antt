-- How many carriers a scheduler has created, after its work.
use Rattle.std.proofs.Common.{◌≡◌, ℕ, ◌+◌, Bool, true, false, List, [], ◌∷◌, refl, ◌∙◌}
use Rattle.std.specs.Prelude.{Option, None, Some, Ok, ◌==◌}
use Rattle.ea_model.specs.declared.carriers.CarrierPlan.{CarrierPlan}
use Rattle.ea_model.specs.declared.carriers.Spot.{Spot}
use Rattle.ea_model.specs.Instance.{Instance, employed}
use Rattle.ea_model.specs.Instance.{free_run, has_vacant, least_plan, numbered_plan}
use Rattle.ea_model.specs.Instance.{first_number, owner_of, plan}
use Rattle.ea_model.specs.Instance.{releasing_at, sized_plan, unused_from}
use Rattle.ea_model.specs.Instance.{wanted_pages}
use Rattle.ea_model.specs.declared.units.TheConstants.{NUMBERS}
use Rattle.ea_model.specs.Units.{least_pages}
use Rattle.ea_machine.specs.declared.nodes.Node.{Node}
use Rattle.ea_machine.specs.declared.nodes.Node.TheVariants.{Block, Carrier}
use Rattle.ea_machine.specs.Placements.{created}
use Rattle.ea_sound.specs.Releasing.{deallocated_if, freed_at}
use Rattle.ea_sound.specs.Walking.{Worked, worked, worked_if}

-- a released block creates no carrier
deallocated-created : (b : Bool) (i : Instance) (number : ℕ)
    → (deallocated_if b i number).created ≡ i.created
deallocated-created true i number = refl
deallocated-created false i number = refl

freed-created : (i : Instance) (spot : Spot) → (freed_at i spot).created ≡ i.created
freed-created i spot = deallocated-created
    (has_vacant spot.carrier (employed (releasing_at i spot))) (releasing_at i spot) spot.carrier

worked-if : (b : Bool) (v w : Worked) (n : ℕ) → v.instance.created ≡ n → w.instance.created ≡ n
    → (worked_if b v w).instance.created ≡ n
worked-if true v w n e f = e
worked-if false v w n e f = f

-- nor do nodes that are worked off
pub worked-created : (me : ℕ) (nodes : List Node) (i : Instance)
    → (worked me i nodes).instance.created ≡ i.created
worked-created me [] i = refl
worked-created me (Block name spot ∷ nodes) i = worked-if (owner_of spot.carrier == me)
    (worked me (freed_at i spot) nodes)
    (record { instance = i; left = nodes; hand = Some (record { name = name; spot = spot }) })
    i.created (worked-created me nodes (freed_at i spot) ∙ freed-created i spot) refl
worked-created me (Carrier number ∷ nodes) i = refl

-- a plan counts one more
least-birth : (i : Instance) (need number : ℕ) (o : Option ℕ) (p : CarrierPlan)
    → least_plan i need number o ≡ Ok p → p.birth ≡ i.created + 1
least-birth i need number None p e = absurd cc
least-birth i need number (Some base) p e = cc

sized-birth : (i : Instance) (need number : ℕ) (o : Option ℕ) (p : CarrierPlan)
    → sized_plan i need number o ≡ Ok p → p.birth ≡ i.created + 1
sized-birth i need number None p e =
    least-birth i need number (free_run i (least_pages need)) p e
sized-birth i need number (Some base) p e = cc

numbered-birth : (i : Instance) (need : ℕ) (o : Option ℕ) (p : CarrierPlan)
    → numbered_plan i need o ≡ Ok p → p.birth ≡ i.created + 1
numbered-birth i need None p e = absurd cc
numbered-birth i need (Some number) p e =
    sized-birth i need number (free_run i (wanted_pages i need)) p e

pub plan-birth : (i : Instance) (need : ℕ) (p : CarrierPlan) → plan i need ≡ Ok p
    → p.birth ≡ i.created + 1
plan-birth i need p e =
    numbered-birth i need (unused_from NUMBERS (first_number i.number) i.own) p e
