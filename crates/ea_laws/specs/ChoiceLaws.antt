-- Laws of the choice among gaps, for each strategy, each need and all contents. The statement of
-- each law is one name.
use Rattle.std.specs.Prelude.{◌≡◌, ◌⊎◌, ◌↔◌, ℕ, ◌<◌, true, false, List, Some, All, IsNone, filter}
use Rattle.std.specs.Cmp.{IsStrictWeakOrder}
use Rattle.ea_model.specs.declared.carriers.Candidate.{Candidate}
use Rattle.ea_model.specs.declared.settings.Settings.{Settings}
use Rattle.ea_model.specs.declared.settings.Strategy.{Strategy}
use Rattle.ea_model.specs.Choice.{IsFirst}
use Rattle.ea_model.specs.Content.{Content, is_empty_multi}
use Rattle.ea_model.specs.Strategies.{candidates, choice_among, choice_for, inspected_by}
use Rattle.ea_model.specs.Strategies.{large_enough, lower, may_miss, takes_first}
use Rattle.ea_laws.specs.Spots.{FindsNone}

-- each strategy orders the candidates strictly
abbrev pub Orders : Type 0
Orders = (strategy : Strategy) → IsStrictWeakOrder (takes_first strategy)

-- of the gaps that the strategy inspects and that are large enough, it takes this one first; or the
-- strategy may miss a gap, none of those is large enough, and this is the lowest of a carrier
-- without blocks
abbrev pub IsTakenFirst : Settings → ℕ → List Content → Candidate → Type 0
IsTakenFirst s need cs x =
    IsFirst (takes_first s.strategy)
    (large_enough need (inspected_by s.strategy s.mbsd (candidates cs))) x
    ⊎ ((may_miss s.strategy ≡ true) × IsNone (choice_among s.strategy s.mbsd need cs)
    × IsFirst lower (large_enough need (candidates (filter is_empty_multi cs))) x)

-- the chosen gap is taken first
abbrev pub TakesFirst : Type 0
TakesFirst = (s : Settings) (need : ℕ) (cs : List Content) (x : Candidate)
    → choice_for s need cs ≡ Some x → IsTakenFirst s need cs x

-- there is none exactly where nothing that is inspected is large enough, nor, where the strategy
-- may miss a gap, a carrier without blocks
abbrev pub MissesNoneInspected : Type 0
MissesNoneInspected = (s : Settings) (need : ℕ) (cs : List Content)
    → IsNone (choice_for s need cs) ↔ FindsNone s need cs

-- under a strategy that may miss none, exactly where no gap is large enough
abbrev pub MissesNone : Type 0
MissesNone = (s : Settings) (need : ℕ) (cs : List Content) → may_miss s.strategy ≡ false
    → IsNone (choice_for s need cs) ↔ All (λ x. x.size < need) (candidates cs)
