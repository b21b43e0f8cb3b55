use Rattle.std.proofs.Common.{subst, sym, ap, ◌∙◌}
use Rattle.ea_model.specs.Settings.{IsValidConfig}
use Rattle.ea_flags.specs.Configs.{fits_all}
use Rattle.ea_flags.proofs.Valid.{settled-IsValidConfig}
use Rattle.ea_flags.proofs.reading.read_flags.Goals as goal

pub returns-clause-valid : goal.returns-clause-valid
returns-clause-valid c = subst IsValidConfig (sym c.settled_config-config.ensures)
    (settled-IsValidConfig c.loop-setting.config c.loop-setting.invariant.ranges
    (sym (c.main_carriers_fit.ensures ∙ ap fits_all c.settled_config-config.ensures)
    ∙ c.if-not-main_carriers_fit.false))
