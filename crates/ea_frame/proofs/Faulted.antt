-- Calls that end with a fault count one.
use Rattle.std.proofs.Common.{◌≡◌, ℕ, List, [], ◌∷◌, Option, ◌∙◌, ap}
use Rattle.ea_io.specs.Calls.{ByCalls, FailsToRead, FailsToWrite, HasRead, HasWritten}
use Rattle.ea_io.specs.Calls.{StopsAtFault, StopsReading, StopsWriting}
use Rattle.ea_io.specs.Counts.{next_count}

module _ {End : Type 0} (faults : End → ℕ) (Succeeds Fails : End → End → Type 0)
    (kept : (a b : End) → Succeeds a b → faults b ≡ faults a)
    (once : (a b : End) → Fails a b → faults b ≡ next_count (faults a)) where
  none-counted : (a b : End) (passed : List End) → ByCalls Succeeds a passed b
      → faults b ≡ faults a
  none-counted a b [] p = ap faults p
  none-counted a b (last ∷ passed) p = kept last b p.1 ∙ none-counted a last passed p.0

  one-counted : (old new : End) → StopsAtFault Succeeds Fails old new
      → faults new ≡ next_count (faults old)
  one-counted old new h = once h.before new h.fault
      ∙ ap next_count (none-counted old h.before h.passed h.calls)

module _ {E : Type 0} (bytes : E → Option (List ℕ)) (faults : E → ℕ) where
  pub stopped-reading : (old new : E) → StopsReading bytes faults old new
      → faults new ≡ next_count (faults old)
  stopped-reading = one-counted faults (HasRead bytes faults) (FailsToRead bytes faults)
      (λ a b call. call.1.1.kept) (λ a b call. call.1.1.once)

  pub stopped-writing : (old new : E) → StopsWriting bytes faults old new
      → faults new ≡ next_count (faults old)
  stopped-writing = one-counted faults (HasWritten bytes faults) (FailsToWrite bytes faults)
      (λ a b call. call.1.1.kept) (λ a b call. call.1.1.once)
