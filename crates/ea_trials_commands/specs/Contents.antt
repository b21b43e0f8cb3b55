-- Words of tests: two inputs of `contents`, with their setups, their writes and reads, and where
-- they end.
use Rattle.std.specs.Prelude.{ℕ, ◌&&◌, ◌==◌, if◌then◌else◌, List, []}
use Rattle.std.specs.Prelude.{◌∷◌, codes, Result, Ok, Err, None}
use Rattle.ea_flags.specs.declared.config.TheConstants.{DEFAULT_CONFIG}
use Rattle.ea_flags.specs.declared.fault.FlagFault.{FlagFault}
use Rattle.ea_flags.specs.Flags.{flags}
use Rattle.ea_model.specs.declared.operations.Op.{Op}
use Rattle.ea_model.specs.declared.operations.Op.TheVariants.{Alloc, Free, Give, Realloc, Take}
use Rattle.ea_model.specs.declared.settings.Config.{Config}
use Rattle.ea_model.specs.declared.settings.Letter.TheVariants.{H}
use Rattle.ea_model.specs.Settings.{region_pages, settings_of}
use Rattle.ea_model.specs.Words.{words}
use Rattle.ea_machine.specs.Setup.{Setup}
use Rattle.ea_contents.specs.declared.access.Access.TheVariants.{Read, Write}
use Rattle.ea_contents.specs.Model.{Moment, Script, end_of}

abbrev pub config_of : Result Config FlagFault → Config
config_of (Ok c) = c
config_of (Err f) = DEFAULT_CONFIG

abbrev pub setup_under : List ℕ → (ℕ → List Op) → Setup
setup_under text texts =
    let c = config_of (flags (words text)) in
    record {
      schedulers = c.schedulers;
      settings = settings_of c H;
      pages = region_pages c;
      texts = texts;
      stops = λ i. None;
    }

abbrev pub moving : ℕ → List Op
moving i = if i == 1 then Alloc 1 100 ∷ Alloc 2 0 ∷ Realloc 1 3 200 ∷ [] else []

abbrev pub moving_script : Script
moving_script i d =
    if (i == 1) && (d == 2) then Write 1 0 7 ∷ [] else (
    if (i == 1) && (d == 3) then Read 3 0 ∷ Read 3 13 ∷ Write 3 25 1 ∷ Read 1 0 ∷ [] else [])

unfoldable pub moved : Moment
moved = end_of (setup_under (codes "+MMscs 1 +MHacul 0") moving) moving_script []

abbrev pub fetching : ℕ → List Op
fetching i =
    if i == 1 then Alloc 1 100 ∷ Alloc 2 100 ∷ Free 1 ∷ Give 2 2 ∷ [] else (
    if i == 2 then Alloc 3 100 ∷ Take 2 1 ∷ [] else [])

abbrev pub fetching_script : Script
fetching_script i d =
    if (i == 1) && (d == 2) then Write 2 3 9 ∷ [] else (
    if (i == 2) && (d == 2) then Read 2 3 ∷ [] else [])

unfoldable pub fetched : Moment
fetched = end_of (setup_under (codes "+S 2") fetching) fetching_script []
