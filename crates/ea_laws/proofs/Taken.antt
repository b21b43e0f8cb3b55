-- The choice is taken first.
use Rattle.std.proofs.Common.{◌≡◌, ◌⊎◌, ℕ, Bool, true, false, List, filter, sym, subst, refl, inl}
use Rattle.std.proofs.Common.{inr}
use Rattle.std.specs.Prelude.{Option, Some, None, IsNone}
use Rattle.ea_model.specs.declared.carriers.Candidate.{Candidate}
use Rattle.ea_model.specs.declared.settings.Settings.{Settings}
use Rattle.ea_model.specs.Choice.{IsFirst}
use Rattle.ea_model.specs.Content.{Content, is_empty_multi}
use Rattle.ea_model.specs.Strategies.{candidates, choice_among, choice_for, choice_empty}
use Rattle.ea_model.specs.Strategies.{large_enough, inspected_by, lower, may_miss, or_else}
use Rattle.ea_model.specs.Strategies.{takes_first}
use Rattle.ea_model.proofs.First.{first-IsFirst}
use Rattle.ea_model.proofs.Options.{some_holds}
use Rattle.ea_laws.specs.ChoiceLaws.{IsTakenFirst}
use Rattle.ea_laws.proofs.Orders.{lower-order, takes_first-order}

by_else : (asked : Bool) (found other : Option Candidate) (x : Candidate)
    → or_else asked found other ≡ Some x → (found ≡ Some x)
    ⊎ ((asked ≡ true) × (found ≡ None) × (other ≡ Some x))
by_else asked (Some y) other x e = inl e
by_else true None other x e = inr (refl, refl, e)
by_else false None other x e = absurd cc

-- the choice is taken first
pub taken-first : (s : Settings) (need : ℕ) (cs : List Content) (x : Candidate)
    → choice_for s need cs ≡ Some x → IsTakenFirst s need cs x
taken-first s need cs x e =
    let among = choice_among s.strategy s.mbsd need cs in
    let inspected = large_enough need (inspected_by s.strategy s.mbsd (candidates cs)) in
    let empty = large_enough need (candidates (filter is_empty_multi cs)) in
    elim (by_else (may_miss s.strategy) among (choice_empty need cs) x e) [
      | inl found ↦ inl (some_holds among x (IsFirst (takes_first s.strategy) inspected) found
          (first-IsFirst (takes_first s.strategy) (takes_first-order s.strategy) inspected))
      | inr other ↦ inr (
        other.0,
        subst IsNone (sym other.1) refl,
        some_holds (choice_empty need cs) x
            (IsFirst lower empty) other.2 (first-IsFirst lower lower-order empty),
      )
    ]
