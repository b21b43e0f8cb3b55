use Rattle.std.proofs.Common.{◌≡◌, ℕ, ◌-◌, ◌≤◌, List, ◌++◌, length, take, drop, ap, ◌∙◌, arith}
use Rattle.std.proofs.Common.{drop_at, length-take-le}
use borrow.Rule.Slice.PartMut.{Post-is, post_of, put_mid}
use Rattle.ea_report.proofs.tails.copy_before.Goals as goal

-- from where the piece starts
from_start : (start end : ℕ) (old new piece : List ℕ) → start ≤ end → end ≤ length old
    → new ≡ piece → drop start (put_mid start (end - start) old new) ≡ piece ++ drop end old
from_start start end old new piece below within same =
    drop_at (take start old) (new ++ post_of start (end - start) old) start
    (length-take-le start old (omega arith))
    ∙ ap (λ l. l ++ post_of start (end - start) old) same
    ∙ ap (λ l. piece ++ l) (Post-is start end old below)

pub returns-clause-copied : goal.returns-clause-copied
returns-clause-copied c =
    from_start (c.args.end - length c.args.piece.now) c.args.end c.args.bytes.now
    c.copy_from_slice.new.self c.args.piece.now (omega arith) c.requires.1
    c.copy_from_slice.ensures.after
