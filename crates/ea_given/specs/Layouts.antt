-- The layouts of all carriers at the end of a run, once its schedule is completed.
use Rattle.std.specs.Prelude.{List}
use Rattle.ea_model.specs.declared.settings.Config.{Config}
use Rattle.ea_model.specs.declared.trace.Trace.{Trace}
use Rattle.ea_machine.specs.Completion.{end_of}
use Rattle.ea_machine.specs.Setup.{setup_of}
use Rattle.ea_instance.specs.declared.layouts.Layout.{Layout}
use Rattle.ea_outcome.specs.Layouts.{layouts_in}

-- those of the state in which its run ends
abbrev pub layouts_of_run : Config → Trace → List Layout
layouts_of_run c t = layouts_in (setup_of c t) (end_of (setup_of c t) t.mode)
