use Rattle.std.proofs.Common.{sym, take-append-drop}
use Rattle.std.proofs.KnownBytes.{Appends-kept}
use Rattle.ea_io.proofs.standard.StdSink.write_through.Goals as goal

pub returns-in_err-flush-clause-front : goal.returns-in_err-flush-clause-front
returns-in_err-flush-clause-front g c =
    let piece = c.args.piece.now in (
      _,
      _,
      sym (take-append-drop c.in_ok-count.count piece),
      Appends-kept _ _ _ _ c.in_ok-count.ensures.bytes c.in_err-flush.ensures.bytes,
    )

pub returns-clause-front : goal.returns-clause-front
returns-clause-front g c =
    let piece = c.args.piece.now in (
      _,
      _,
      sym (take-append-drop c.in_ok-count.count piece),
      Appends-kept _ _ _ _ c.in_ok-count.ensures.bytes c.in_ok-flush.ensures.bytes,
    )
