-- Operations that ask for a place.
use Rattle.std.specs.Prelude.{◌≡◌, ℕ, List, ◌∷◌, Option, None, Some}
use Rattle.ea_model.specs.declared.operations.Op.{Op}
use Rattle.ea_model.specs.declared.operations.Op.TheVariants as op
use Rattle.ea_model.specs.declared.reallocation.Decision.TheVariants.{Move}
use Rattle.ea_model.specs.Instance.{Instance, decision_at}
use Rattle.ea_model.specs.Units.{need_of}
use Rattle.ea_machine.specs.Nodes.{named_at}
use Rattle.ea_machine.specs.declared.nodes.Named.{Named}
use Rattle.ea_machine.specs.Actor.{Actor}

-- the first of these operations is an allocation or a reallocation of that need
abbrev pub HasNeed : List Op → ℕ → Type 0
HasNeed (op.Alloc name bytes ∷ ops) need = need ≡ need_of bytes
HasNeed (op.Realloc old fresh bytes ∷ ops) need = need ≡ need_of bytes
HasNeed _ need = ⊥

-- the old block of a reallocation is held, and it is to move
abbrev pub IsToMove : Instance → ℕ → Option Named → Type 0
IsToMove i need None = ⊥
IsToMove i need (Some old) = decision_at i old.spot need ≡ Move

-- a scheduler whose first operation left is this one asks for a place of that need, once the begin
-- is over
abbrev pub AsksFor : Actor → List Op → ℕ → Type 0
AsksFor a (op.Alloc name bytes ∷ ops) need = need ≡ need_of bytes
AsksFor a (op.Realloc old fresh bytes ∷ ops) need =
    (need ≡ need_of bytes) × IsToMove a.instance need (named_at old a.held)
AsksFor a _ need = ⊥
