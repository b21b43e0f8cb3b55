-- The trace that is run is valid, as a definition answers it too.
use Rattle.std.proofs.Common.{ℕ}
use Rattle.ea_model.specs.declared.trace.Mode.{Mode}
use Rattle.ea_model.specs.declared.trace.Mode.TheVariants.{Threads, Schedule, Generated}
use Rattle.ea_model.specs.declared.trace.Trace.{Trace}
use Rattle.ea_model.specs.Trace.{IsValidTrace}
use Rattle.ea_model.specs.Trace.{plain, plain_mode}
use Rattle.ea_sound.proofs.Plain.{valid-plain}
use Rattle.ea_top.specs.Output.{filled_by}

pub filled-valid : (n : ℕ) (t : Trace) (m : Mode) → IsValidTrace n (filled_by n t m)
    → IsValidTrace n (filled_by n (plain t) (plain_mode m))
filled-valid n t Threads v = valid-plain n t v
filled-valid n t (Schedule turns) v = valid-plain n t v
filled-valid n t (Generated seed count) v = v
