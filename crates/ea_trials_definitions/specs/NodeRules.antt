-- Words of tests: texts and moments of runs by rules of a node.
use Rattle.std.specs.Prelude.{ℕ, true, false, List, [], ◌∷◌, ◌++◌, Option, None, Some, Result, Ok, Err}
use Rattle.std.specs.Prelude.{map, option_map, replicate}
use Rattle.std.specs.List.{range_with_len}
use Rattle.ea_flags.specs.declared.fault.FlagFault.{FlagFault}
use Rattle.ea_flags.specs.Flags.{flags}
use Rattle.ea_model.specs.declared.operations.Op.TheVariants as op
use Rattle.ea_model.specs.declared.settings.Config.{Config}
use Rattle.ea_model.specs.declared.settings.Rules.{Rules}
use Rattle.ea_model.specs.Settings.{by_rules, ruled}
use Rattle.ea_machine.specs.Setup.{Setup, text_for}
use Rattle.ea_trials_definitions.specs.Flags.{usual}
use Rattle.ea_trials_definitions.specs.Moments.{Moment, actor, moment_in, moment_under}
use Rattle.ea_trials_definitions.specs.Texts.{text_under}

-- each rule alone
abbrev pub powers : Rules
powers = record { powers = true; falling = false; counter = false }

abbrev pub falling : Rules
falling = record { powers = false; falling = true; counter = false }

abbrev pub counter : Rules
counter = record { powers = false; falling = false; counter = true }

-- all of them
abbrev pub all_rules : Rules
all_rules = record { powers = true; falling = true; counter = true }

abbrev pub ruled_in : Rules → Result Config FlagFault → Result Config FlagFault
ruled_in rules (Ok c) = Ok (by_rules rules c)
ruled_in rules (Err f) = Err f

-- the text for an input under the configuration that the words ask for, by the rules
abbrev pub text_by : Rules → List (List ℕ) → List ℕ → Option (List ℕ)
text_by rules words input = text_under input (ruled_in rules (flags words))

-- likewise the moment after the turns of the input's schedule
abbrev pub moment_by : Rules → List (List ℕ) → List ℕ → Option Moment
moment_by rules words input = moment_under input (ruled_in rules (flags words))

-- the count of an instance
abbrev pub count_of : ℕ → Option Moment → Option ℕ
count_of i m = option_map (λ a. a.instance.count) (actor i m)

-- 102 blocks are allocated, and 100 of them freed; then a block comes that fits no gap, and one
-- more of those is freed
abbrev pub freeing_setup : Setup
freeing_setup = record {
  schedulers = 1;
  settings = ruled counter usual;
  pages = 16384;
  texts = text_for ((map (λ name. op.Alloc name 100) (range_with_len 1 102)
      ++ map op.Free (range_with_len 1 100) ++ op.Alloc 200 300000 ∷ op.Free 101 ∷ []) ∷ []);
  stops = λ i. None;
}

-- after that many turns
abbrev pub freeing : ℕ → Option Moment
freeing turns = Some (moment_in freeing_setup (replicate turns 1))
