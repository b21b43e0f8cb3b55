use Rattle.std.proofs.Common.{◌≡◌, ◌≤◌, ◌<◌, ◌+◌, ◌++◌, ℕ, List, [], ◌∷◌, Option, Some, None}
use Rattle.std.proofs.Common.{length, sym, ap, subst, ◌∙◌, append_assoc, append-nil, arith}
use Rattle.std.specs.Borrow.{Bor}
use Rattle.std.specs.Option.{option_map_or}
use Rattle.std.specs.Prelude.{IfSome}
use Rattle.ea_trace.specs.Language.{Gives, LineWords, WordLines, lines_of, trace_of}
use Rattle.ea_trace.proofs.reader.read_trace.Goals as goal

-- the rest after a line feed is shorter than what stood before it
fewer-left : (rest : Option (Bor (List ℕ))) (taken more size all : ℕ) → more ≡ taken + 1
    → IfSome rest (λ r. length r.now < size) → taken + size ≤ all
    → option_map_or (λ r. more + length r.now) rest 0 ≤ all
fewer-left None taken more size all e h le = omega arith
fewer-left (Some r) taken more size all e h le = omega (arith, h, le, e)

-- the first line of what is left is taken
lines-more : (before all : WordLines) (text : List ℕ) (words : LineWords) (later : WordLines)
    → lines_of text ≡ words ∷ later → before ++ lines_of text ≡ all
    → (before ++ words ∷ []) ++ later ≡ all
lines-more before all text words later e h = append_assoc before (words ∷ []) later
    ∙ sym (ap (λ ls. before ++ ls) e) ∙ h

pub loop-rest-preserved : goal.loop-rest-preserved
loop-rest-preserved c =
    let known = c.loop-rest.invariant.taken in
    let before : WordLines = known.0 in
    let next = c.next_line.ensures.says in
    record {
      taken = (
        before ++ next.words ∷ [],
        c.in_ok-take.ensures.taken c.args.schedulers before next.words known.1 next.says,
        lines-more before (lines_of c.args.bytes.now) c.in-Some.text.now next.words _ next.lines
            (rw c.in-Some.is at known.2),
      );
      fewer = fewer-left c.next_line.result.1 c.loop-rest.reader.taken _
          (length c.in-Some.text.now) (length c.args.bytes.now) c.in_ok-take.ensures.count
          c.next_line.ensures.shorter (rw c.in-Some.is at c.loop-rest.invariant.fewer);
    }

pub returns : goal.returns
returns c =
    let known = c.loop-rest.invariant.taken in
    let before : WordLines = known.0 in
    let n = c.args.schedulers in
    let all : before ≡ lines_of c.args.bytes.now = sym (append-nil before)
    ∙ rw c.in_default.is at known.2 in
    record {
      given = subst (λ ls. Gives c.finish.result (trace_of n ls)) all
          (c.finish.ensures.given n before known.1);
      valid = c.finish.ensures.valid n before known.1;
    }
