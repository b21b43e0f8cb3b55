-- Words of tests: moments, the state of a run after the turns of a schedule, and what stands in it.
use Rattle.std.specs.Prelude.{ℕ, List, Option, None, Result, Ok, Err, map, option_map}
use Rattle.std.specs.Result.{result_ok}
use Rattle.ea_flags.specs.declared.fault.FlagFault.{FlagFault}
use Rattle.ea_flags.specs.Flags.{flags}
use Rattle.ea_model.specs.declared.carriers.OwnCarrier.{OwnCarrier}
use Rattle.ea_model.specs.declared.carriers.Totals.{Totals}
use Rattle.ea_model.specs.declared.settings.Config.{Config}
use Rattle.ea_model.specs.declared.trace.Trace.{Trace}
use Rattle.ea_model.specs.Content.{Content}
use Rattle.ea_trace.specs.Language.{trace}
use Rattle.ea_machine.specs.declared.nodes.Node.{Node}
use Rattle.ea_machine.specs.declared.owners.OwnerWord.{OwnerWord}
use Rattle.ea_machine.specs.Actor.{Actor}
use Rattle.ea_machine.specs.Lists.{Lists}
use Rattle.ea_machine.specs.Completion.{turns_in}
use Rattle.ea_machine.specs.Machine.{run, wants}
use Rattle.ea_machine.specs.Nodes.{Mark}
use Rattle.ea_machine.specs.declared.nodes.Named.{Named}
use Rattle.ea_machine.specs.Outcome.{totals_of, present}
use Rattle.ea_machine.specs.Owners.{word_of}
use Rattle.ea_machine.specs.Rows.{Row}
use Rattle.ea_machine.specs.Setup.{Setup, setup_of}
use Rattle.ea_machine.specs.State.{State}
use Rattle.ea_machine.specs.Stops.{cut}

-- a state, and what stays the same in its run
pub record Moment : Type 0 where
  pub setup : Setup
  pub state : State

-- once these turns are taken; a turn of a stopped scheduler is none
abbrev pub moment_in : Setup → List ℕ → Moment
moment_in setup turns = record { setup = setup; state = run setup (cut setup.stops turns) }

abbrev pub moment_of : Config → Trace → Moment
moment_of c t = moment_in (setup_of c t) (turns_in t.mode)

abbrev pub moment_under : List ℕ → Result Config FlagFault → Option Moment
moment_under input (Ok c) = option_map (moment_of c) (result_ok (trace input c.schedulers))
moment_under input (Err f) = None

-- the moment after the turns of an input's schedule, under the configuration that the words ask
-- for; none where one of them is refused
abbrev pub moment : List (List ℕ) → List ℕ → Option Moment
moment words input = moment_under input (flags words)

-- the owner word of a carrier
abbrev pub owner_word : ℕ → Option Moment → Option OwnerWord
owner_word number m = option_map (λ x. word_of (x.state.shared.places number)) m

-- an instance's queue, newest first
abbrev pub queue_of : ℕ → Option Moment → Option (List Mark)
queue_of i m = option_map (λ x. x.state.shared.queues i) m

-- what it has left of its walk, newest first
abbrev pub rest_of : ℕ → Option Moment → Option (List Mark)
rest_of i m = option_map (λ x. x.state.shared.rests i) m

-- the names that are given away and not yet taken
abbrev pub given : Option Moment → Option (List Named)
given m = option_map (λ x. x.state.shared.given) m

-- a scheduler
abbrev pub actor : ℕ → Option Moment → Option Actor
actor i m = option_map (λ x. x.state.actors i) m

-- the row that it wants next
abbrev pub row_of : ℕ → Option Moment → Option Row
row_of i m = option_map wants (actor i m)

-- the names that it holds
abbrev pub held_by : ℕ → Option Moment → Option (List Named)
held_by i m = option_map (λ a. a.held) (actor i m)

-- the contents of the main and multiblock carriers that it employs
abbrev pub contents_of : ℕ → Option Moment → Option (List Content)
contents_of i m = option_map (λ a. a.instance.contents) (actor i m)

-- the carriers that it owns
abbrev pub own_of : ℕ → Option Moment → Option (List OwnCarrier)
own_of i m = option_map (λ a. a.instance.own) (actor i m)

-- the numbers of the carriers that it owns and doesn't employ
abbrev pub lists_of : ℕ → Option Moment → Option Lists
lists_of i m = option_map (λ a. a.lists) (actor i m)

-- the nodes that its walk passed, oldest first
abbrev pub passed_by : ℕ → Option Moment → Option (List Node)
passed_by i m = option_map (λ a. a.passed) (actor i m)

abbrev pub sums_at : Moment → Totals
sums_at m = totals_of m.setup m.state (map (λ p. p.content) (present m.setup m.state))

-- the sums over all carriers
abbrev pub sums : Option Moment → Option Totals
sums m = option_map sums_at m
