use Rattle.std.proofs.Common.{subst, sym, ◌∙◌}
use Rattle.std.specs.Prelude.{IfOk}
use Rattle.ea_flags.specs.Ranges.{IsInRange}
use Rattle.ea_flags.proofs.InRange.{setting_of-IsInRange}
use Rattle.ea_flags.proofs.reading.read_pair.Goals as goal

pub returns-in-Ok-clause-in_range : goal.returns-in-Ok-clause-in_range
returns-in-Ok-clause-in_range c = subst (λ r. IfOk r IsInRange)
    (sym c.read_setting.ensures ∙ c.in-Ok.is)
    (setting_of-IsInRange c.in-Some.flag c.args.value.now)
