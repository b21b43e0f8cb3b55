-- The line of a fault is whole where its sink counted no fault.
use Rattle.std.proofs.Common.{ℕ, List, arith}
use Rattle.std.specs.Prelude.{Option, Result, Ok, Err, OnOk, OnErr}
use Rattle.std.specs.Io.KnownBytes.{Appends}
use Rattle.ea_io.specs.Calls.{StopsWriting}
use Rattle.ea_io.specs.Counts.{Calm}
use Rattle.ea_frame.proofs.Faulted.{stopped-writing}

pub whole-line : {E A F : Type 0} (taken : E → Option (List ℕ)) (faults : E → ℕ) (old new : E)
    (line : List ℕ) (r : Result A F) → OnOk r (Appends (taken old) (taken new) line)
    → OnErr r (StopsWriting taken faults old new) → Calm (faults old) (faults new)
    → Appends (taken old) (taken new) line
whole-line taken faults old new line (Ok x) whole stops calm = whole
whole-line taken faults old new line (Err e) whole stops calm =
    absurd (omega (arith, calm, stopped-writing taken faults old new stops))
