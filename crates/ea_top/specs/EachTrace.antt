-- A statement about each valid trace.
use Rattle.std.specs.Prelude.{◌≡◌, List, Ok}
use Rattle.std.specs.declared.string.String.{String}
use Rattle.ea_flags.specs.Flags.{flags}
use Rattle.ea_frame.specs.Inputs.{spelled}
use Rattle.ea_model.specs.declared.settings.Config.{Config}
use Rattle.ea_model.specs.declared.trace.Trace.{Trace}
use Rattle.ea_model.specs.Trace.{IsValidTrace}
use Rattle.ea_machine.specs.Setup.{Setup, setup_of}

-- it holds of the run of each valid trace, for as many schedulers and with the settings that the
-- configuration has
abbrev pub EachTrace : (Setup → Type 0) → Config → Type 0
EachTrace P c = (t : Trace) → IsValidTrace c.schedulers t → P (setup_of c t)

-- for as many and with those that these words ask for
abbrev pub ForEachTrace : {Z : Type 0} → (Setup → Type 0) → List (String Z) → Type 0
ForEachTrace P words = (config : Config) → flags (spelled words) ≡ Ok config → EachTrace P config
