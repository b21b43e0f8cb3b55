-- A scheduler: what it keeps for itself. Where it is in its operation is said by `Stage`, `Route`,
-- `Part`, `Ask`, `Task`, `Why` and `Gone` of src.
-- Source: Erlang/OTP, 'Delayed Dealloc', section 'Functionality Used to Address This problem': one
-- lock-free instance for each scheduler. The rest is this simulator's own.
use Rattle.std.specs.Prelude.{List, Option}
use Rattle.ea_model.specs.declared.carriers.Figures.{Figures}
use Rattle.ea_model.specs.declared.operations.Op.{Op}
use Rattle.ea_model.specs.Entries.{Entry}
use Rattle.ea_model.specs.Content.{Content}
use Rattle.ea_model.specs.Instance.{Instance}
use Rattle.ea_machine.specs.declared.nodes.Node.{Node}
use Rattle.ea_machine.specs.declared.stages.Route.{Route}
use Rattle.ea_machine.specs.declared.stages.Stage.{Stage}
use Rattle.ea_machine.specs.declared.stages.Stage.TheVariants.{Begin, Routed, Collecting}
use Rattle.ea_machine.specs.declared.stages.Stage.TheVariants.{Searching, Fetching, Creating}
use Rattle.ea_machine.specs.declared.stages.Stage.TheVariants.{Giving, Taking, Ended, Ready}
use Rattle.ea_machine.specs.declared.nodes.Named.{Named}
use Rattle.ea_machine.specs.Lists.{Lists}

-- the greatest figures that were observed, since the last report and ever
pub record Stat : Type 0 where
  pub last : Figures
  pub ever : Figures

-- a scheduler
pub record Actor : Type 0 where
  -- the carriers that it owns, and the contents that it employs
  pub instance : Instance
  -- the numbers of the multiblock carriers that it owns and doesn't employ
  pub lists : Lists
  -- the names that it holds, by rising name
  pub held : List Named
  -- the operations left, first the present one
  pub todo : List Op
  pub stage : Stage Content
  -- the nodes that its walk passed, oldest first, and the next one
  pub passed : List Node
  pub next : Option Node
  -- the figures of main and multiblock carriers, and those of singleblock carriers
  pub mbcs : Stat
  pub sbcs : Stat
  pub log : List Entry

-- what f tells of the route that a scheduler is on; elsewhere `other`
abbrev pub on_route : {A : Type 0} → A → (Route Content → A) → Stage Content → A
on_route other f Begin = other
on_route other f (Routed r why gone) = f r
on_route other f (Collecting number) = other
on_route other f (Searching ask at part) = other
on_route other f (Fetching ask at part seen) = other
on_route other f (Creating ask p) = other
on_route other f (Giving given to) = other
on_route other f (Taking name tries left) = other
on_route other f Ended = other
on_route other f Ready = other
