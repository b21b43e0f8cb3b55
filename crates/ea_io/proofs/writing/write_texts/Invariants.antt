use Rattle.std.proofs.Common.{◌≡◌, ℕ, List, ◌++◌, drop}
use Rattle.std.specs.List.{flat_map}
use Rattle.std.specs.Io.KnownBytes.{Appends}
use Rattle.ea_io.specs.Calls.{OnlyWrites}
use Rattle.ea_io.proofs.writing.write_texts.Given as goal

abbrev pub invariant-loop-text : goal.invariant-loop-text
invariant-loop-text g l =
    (done : List ℕ)
    × (flat_map (λ t. t.now) l.texts
    ≡ done ++ flat_map (λ t. t.now) (drop l.text-index l.texts))
    × Appends (g.O.Sink.taken l.initial.sink) (g.O.Sink.taken l.sink) done
    × (g.O.Sink.faults l.sink ≡ g.O.Sink.faults l.initial.sink)
    × OnlyWrites g.O.Sink.taken g.O.Sink.faults l.initial.sink l.sink
