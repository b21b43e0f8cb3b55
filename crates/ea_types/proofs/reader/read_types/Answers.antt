use Rattle.std.proofs.Common.{◌≡◌, ℕ, ◌+◌, false, List, [], ◌∷◌, Some, Err, length, sym}
use Rattle.std.proofs.Common.{ap, subst, ◌∙◌, arith}
use Rattle.std.specs.Option.{option_map}
use Rattle.std.proofs.lemmas.Result.{err_from_is_err_and}
use Rattle.ea_model.specs.Words.{words}
use Rattle.ea_model.proofs.Lines.{words-first}
use Rattle.ea_model.specs.declared.settings.Letter.{Letter}
use Rattle.ea_trace.specs.Language.{WordLines, lines_of}
use Rattle.ea_frame.specs.Lines.{rest_lines}
use Rattle.ea_types.specs.Courses.{AreParts}
use Rattle.ea_types.specs.Input.{AreCounted}
use Rattle.ea_types.specs.Language.{are_many, before_first, parts_of, traces_of, types_in}
use Rattle.ea_types.specs.Reading.{Reads, Whole, whole_of}
use Rattle.ea_types.specs.Readers.{GivesEach}
use Rattle.ea_types.proofs.Beginning.{before-skipped, begins-with}
use Rattle.ea_types.proofs.Whole.{IsFound, counts-all, each-room, err-given, few-in}
use Rattle.ea_types.proofs.Whole.{fewer-left, given-all, given-ones, places-all, unstopped-all}
use Rattle.ea_types.proofs.Whole.{many-all, modes-all, parts-all, texts-all, wrong-all}
use Rattle.ea_types.proofs.reader.read_types.Goals as goal

found-types : (c : goal.After-rest-1)
    → types_in (words c.in-Some.first.text.now) ≡ Some c.as_slice-types.result.now
found-types c = sym c.in_ok-letters.ensures ∙ ap (option_map (λ l. l.items)) c.in-Some-2.is
    ∙ ap Some (sym c.as_slice-types.ensures)

pub loop-rest-init : goal.loop-rest-init
loop-rest-init c =
    let f = c.in-Some.first in
    let first = c.in-Some.ensures in
    let ls : WordLines = lines_of c.args.bytes.now in
    let types : List Letter = c.as_slice-types.result.now in
    let whole : Whole = whole_of types ls f.number (rest_lines f.rest) in
    let known : types_in (words f.text.now) ≡ Some types = found-types c in
    record {
      reads = subst
          (λ k. Reads c.args.config.schedulers types whole k (rest_lines f.rest)
          c.in_ok-reading.reading) (omega (arith, first.number)) (c.in_ok-reading.ensures
          (before_first ls) (rest_lines f.rest) whole (before-skipped ls)
          (omega (arith, first.number)) (begins-with types ls (words f.text.now)
          (rest_lines f.rest) f.number first.lines known first.number));
      fewer = first.fewer;
    }

pub overflow_add-number : goal.overflow_add-number
overflow_add-number c =
    let fewer = rw c.in-Some-rest.is at c.loop-rest.invariant.fewer in
    omega (arith, fewer, c.requires.bytes)

pub take-requires-clause-room : goal.take-requires-clause-room
take-requires-clause-room c =
    let fewer = rw c.in-Some-rest.is at c.loop-rest.invariant.fewer in
    each-room c.args.config.schedulers (c.loop-rest.number + 1) c.as_slice-types.result.now _
    (rest_lines c.loop-rest.rest) c.loop-rest.reading c.loop-rest.invariant.reads
    (omega (arith, fewer, c.requires.bytes))

pub take-requires-clause-few : goal.take-requires-clause-few
take-requires-clause-few c = few-in (words c.in-Some.first.text.now) c.as_slice-types.result.now
    (sym c.in_ok-letters.ensures ∙ ap (option_map (λ l. l.items)) c.in-Some-2.is
    ∙ ap Some (sym c.as_slice-types.ensures))

pub returns-in_err-take-clause-given : goal.returns-in_err-take-clause-given
returns-in_err-take-clause-given c =
    let f = c.in-Some.first in
    let first = c.in-Some.ensures in
    let ls : WordLines = lines_of c.args.bytes.now in
    let types : List Letter = c.as_slice-types.result.now in
    let n : ℕ = c.args.config.schedulers in
    let whole : Whole = whole_of types ls f.number (rest_lines f.rest) in
    let found : IsFound ls f.number (words f.text.now) (rest_lines f.rest) types = record {
      from = first.lines;
      at = first.number;
      letters = sym c.in_ok-letters.ensures ∙ ap (option_map (λ l. l.items)) c.in-Some-2.is
          ∙ ap Some (sym c.as_slice-types.ensures);
    } in
    let text : List ℕ = c.in-Some-rest.text.now in
    let left : rest_lines c.loop-rest.rest
    ≡ words c.first_line.result.0.now ∷ rest_lines c.first_line.result.1 =
    ap rest_lines c.in-Some-rest.is ∙ words-first text c.first_line.result.0.now
    c.first_line.result.1 c.first_line.ensures.lines in
    let reads = subst (λ ms. Reads n types whole (c.loop-rest.number + 1) ms c.loop-rest.reading)
    left c.loop-rest.invariant.reads in
    let p = err_from_is_err_and c.from_residual-in_err-take.result
    c.from_residual-in_err-take.ensures.1 in
    rw (p.1, p.2) (wrong-all c.args.config ls f.number (words f.text.now)
    (rest_lines f.rest) types found
    c.in_err-take.field-0.0 (c.in_err-take.ensures.err n whole
    (rest_lines c.first_line.result.1) reads))

pub loop-rest-preserved : goal.loop-rest-preserved
loop-rest-preserved c =
    let f = c.in-Some.first in
    let types : List Letter = c.as_slice-types.result.now in
    let whole : Whole = whole_of types (lines_of c.args.bytes.now) f.number (rest_lines f.rest) in
    let n : ℕ = c.args.config.schedulers in
    let text : List ℕ = c.in-Some-rest.text.now in
    let left : rest_lines c.loop-rest.rest
    ≡ words c.first_line.result.0.now ∷ rest_lines c.first_line.result.1 =
    ap rest_lines c.in-Some-rest.is ∙ words-first text c.first_line.result.0.now
    c.first_line.result.1 c.first_line.ensures.lines in
    let fewer = rw c.in-Some-rest.is at c.loop-rest.invariant.fewer in
    record {
      reads = c.in_ok-take.ensures.ok n whole (rest_lines c.first_line.result.1)
          (subst (λ ls. Reads n types whole (c.loop-rest.number + 1) ls c.loop-rest.reading) left
          c.loop-rest.invariant.reads);
      fewer = fewer-left c.first_line.result.1 c.loop-rest.number (length text)
          (length c.args.bytes.now) c.first_line.ensures.shorter fewer;
    }

pub are_many-requires : goal.are_many-requires
are_many-requires c = few-in (words c.in-Some.first.text.now) c.as_slice-types.result.now
    (sym c.in_ok-letters.ensures ∙ ap (option_map (λ l. l.items)) c.in-Some-2.is
    ∙ ap Some (sym c.as_slice-types.ensures))

pub returns-then-are_many-clause-given : goal.returns-then-are_many-clause-given
returns-then-are_many-clause-given c =
    let f = c.in-Some.first in
    let first = c.in-Some.ensures in
    let ls : WordLines = lines_of c.args.bytes.now in
    let types : List Letter = c.as_slice-types.result.now in
    let n : ℕ = c.args.config.schedulers in
    let whole : Whole = whole_of types ls f.number (rest_lines f.rest) in
    let found : IsFound ls f.number (words f.text.now) (rest_lines f.rest) types = record {
      from = first.lines;
      at = first.number;
      letters = sym c.in_ok-letters.ensures ∙ ap (option_map (λ l. l.items)) c.in-Some-2.is
          ∙ ap Some (sym c.as_slice-types.ensures);
    } in
    let reads : Reads n types whole (c.loop-rest.number + 1) [] c.loop-rest.reading = subst
    (λ left. Reads n types whole (c.loop-rest.number + 1) left c.loop-rest.reading)
    (ap rest_lines c.in_default-rest.is) c.loop-rest.invariant.reads in
    many-all c.args.config ls f.number (words f.text.now)
    (rest_lines f.rest) types found
    (c.loop-rest.number + 1) c.loop-rest.reading reads
    (sym c.are_many.ensures ∙ c.if-are_many.true)

pub returns-in_err-finish_each-clause-given : goal.returns-in_err-finish_each-clause-given
returns-in_err-finish_each-clause-given c =
    let f = c.in-Some.first in
    let first = c.in-Some.ensures in
    let ls : WordLines = lines_of c.args.bytes.now in
    let types : List Letter = c.as_slice-types.result.now in
    let n : ℕ = c.args.config.schedulers in
    let whole : Whole = whole_of types ls f.number (rest_lines f.rest) in
    let found : IsFound ls f.number (words f.text.now) (rest_lines f.rest) types = record {
      from = first.lines;
      at = first.number;
      letters = sym c.in_ok-letters.ensures ∙ ap (option_map (λ l. l.items)) c.in-Some-2.is
          ∙ ap Some (sym c.as_slice-types.ensures);
    } in
    let reads : Reads n types whole (c.loop-rest.number + 1) [] c.loop-rest.reading = subst
    (λ left. Reads n types whole (c.loop-rest.number + 1) left c.loop-rest.reading)
    (ap rest_lines c.in_default-rest.is) c.loop-rest.invariant.reads in
    let few : are_many c.args.config types ≡ false = sym c.are_many.ensures
    ∙ c.if-are_many.false in
    let given = given-all c.args.config ls f.number (words f.text.now)
    (rest_lines f.rest) types found
    (c.loop-rest.number + 1) c.loop-rest.reading reads few in
    let p = err_from_is_err_and c.from_residual-in_err-finish_each.result
    c.from_residual-in_err-finish_each.ensures.1 in
    rw (p.1, p.2) (err-given c.in_err-finish_each.field-0.0 (traces_of c.args.config ls)
    (subst (GivesEach (Err c.in_err-finish_each.field-0.0)) given
    (c.in_err-finish_each.ensures.given n reads.lines reads.taken)))

pub returns-clause-given : goal.returns-clause-given
returns-clause-given c =
    let f = c.in-Some.first in
    let first = c.in-Some.ensures in
    let ls : WordLines = lines_of c.args.bytes.now in
    let types : List Letter = c.as_slice-types.result.now in
    let n : ℕ = c.args.config.schedulers in
    let whole : Whole = whole_of types ls f.number (rest_lines f.rest) in
    let found : IsFound ls f.number (words f.text.now) (rest_lines f.rest) types = record {
      from = first.lines;
      at = first.number;
      letters = sym c.in_ok-letters.ensures ∙ ap (option_map (λ l. l.items)) c.in-Some-2.is
          ∙ ap Some (sym c.as_slice-types.ensures);
    } in
    let reads : Reads n types whole (c.loop-rest.number + 1) [] c.loop-rest.reading = subst
    (λ left. Reads n types whole (c.loop-rest.number + 1) left c.loop-rest.reading)
    (ap rest_lines c.in_default-rest.is) c.loop-rest.invariant.reads in
    let few : are_many c.args.config types ≡ false = sym c.are_many.ensures
    ∙ c.if-are_many.false in
    let given = given-all c.args.config ls f.number (words f.text.now)
    (rest_lines f.rest) types found
    (c.loop-rest.number + 1) c.loop-rest.reading reads few in
    sym given ∙ c.in_ok-finish_each.ensures.given n reads.lines reads.taken

pub returns-clause-parts : goal.returns-clause-parts
returns-clause-parts c =
    let f = c.in-Some.first in
    let first = c.in-Some.ensures in
    let ls : WordLines = lines_of c.args.bytes.now in
    let types : List Letter = c.as_slice-types.result.now in
    let n : ℕ = c.args.config.schedulers in
    let whole : Whole = whole_of types ls f.number (rest_lines f.rest) in
    let found : IsFound ls f.number (words f.text.now) (rest_lines f.rest) types = record {
      from = first.lines;
      at = first.number;
      letters = sym c.in_ok-letters.ensures ∙ ap (option_map (λ l. l.items)) c.in-Some-2.is
          ∙ ap Some (sym c.as_slice-types.ensures);
    } in
    let reads : Reads n types whole (c.loop-rest.number + 1) [] c.loop-rest.reading = subst
    (λ left. Reads n types whole (c.loop-rest.number + 1) left c.loop-rest.reading)
    (ap rest_lines c.in_default-rest.is) c.loop-rest.invariant.reads in
    c.in_ok-finish.ensures ∙ parts-all c.args.config ls f.number (words f.text.now)
    (rest_lines f.rest) types found
    (c.loop-rest.number + 1) c.loop-rest.reading reads
    ∙ ap (λ xs. parts_of xs ls) c.as_slice-types.ensures

pub returns-clause-valid : goal.returns-clause-valid
returns-clause-valid c =
    let f = c.in-Some.first in
    let first = c.in-Some.ensures in
    let ls : WordLines = lines_of c.args.bytes.now in
    let types : List Letter = c.as_slice-types.result.now in
    let n : ℕ = c.args.config.schedulers in
    let whole : Whole = whole_of types ls f.number (rest_lines f.rest) in
    let found : IsFound ls f.number (words f.text.now) (rest_lines f.rest) types = record {
      from = first.lines;
      at = first.number;
      letters = sym c.in_ok-letters.ensures ∙ ap (option_map (λ l. l.items)) c.in-Some-2.is
          ∙ ap Some (sym c.as_slice-types.ensures);
    } in
    let reads : Reads n types whole (c.loop-rest.number + 1) [] c.loop-rest.reading = subst
    (λ left. Reads n types whole (c.loop-rest.number + 1) left c.loop-rest.reading)
    (ap rest_lines c.in_default-rest.is) c.loop-rest.invariant.reads in
    c.in_ok-finish_each.ensures.valid n reads.lines reads.taken

pub returns-clause-modes : goal.returns-clause-modes
returns-clause-modes c =
    let f = c.in-Some.first in
    let first = c.in-Some.ensures in
    let ls : WordLines = lines_of c.args.bytes.now in
    let types : List Letter = c.as_slice-types.result.now in
    let n : ℕ = c.args.config.schedulers in
    let whole : Whole = whole_of types ls f.number (rest_lines f.rest) in
    let found : IsFound ls f.number (words f.text.now) (rest_lines f.rest) types = record {
      from = first.lines;
      at = first.number;
      letters = sym c.in_ok-letters.ensures ∙ ap (option_map (λ l. l.items)) c.in-Some-2.is
          ∙ ap Some (sym c.as_slice-types.ensures);
    } in
    let reads : Reads n types whole (c.loop-rest.number + 1) [] c.loop-rest.reading = subst
    (λ left. Reads n types whole (c.loop-rest.number + 1) left c.loop-rest.reading)
    (ap rest_lines c.in_default-rest.is) c.loop-rest.invariant.reads in
    modes-all c.args.config ls f.number (words f.text.now)
    (rest_lines f.rest) types found
    (c.loop-rest.number + 1) c.loop-rest.reading reads c.in_ok-finish_each.field-0.items
    (c.in_ok-finish_each.ensures.given n reads.lines reads.taken)

pub returns-clause-counts : goal.returns-clause-counts
returns-clause-counts c =
    let f = c.in-Some.first in
    let first = c.in-Some.ensures in
    let ls : WordLines = lines_of c.args.bytes.now in
    let types : List Letter = c.as_slice-types.result.now in
    let n : ℕ = c.args.config.schedulers in
    let whole : Whole = whole_of types ls f.number (rest_lines f.rest) in
    let found : IsFound ls f.number (words f.text.now) (rest_lines f.rest) types = record {
      from = first.lines;
      at = first.number;
      letters = sym c.in_ok-letters.ensures ∙ ap (option_map (λ l. l.items)) c.in-Some-2.is
          ∙ ap Some (sym c.as_slice-types.ensures);
    } in
    let reads : Reads n types whole (c.loop-rest.number + 1) [] c.loop-rest.reading = subst
    (λ left. Reads n types whole (c.loop-rest.number + 1) left c.loop-rest.reading)
    (ap rest_lines c.in_default-rest.is) c.loop-rest.invariant.reads in
    subst (AreCounted c.in_ok-finish_each.field-0.items) (sym c.in_ok-finish.ensures)
    (counts-all c.args.config ls f.number (words f.text.now) (rest_lines f.rest) types found
    (c.loop-rest.number + 1) c.loop-rest.reading reads c.in_ok-finish_each.field-0.items
    (c.in_ok-finish_each.ensures.given n reads.lines reads.taken))

pub returns-clause-texts : goal.returns-clause-texts
returns-clause-texts c =
    let f = c.in-Some.first in
    let first = c.in-Some.ensures in
    let ls : WordLines = lines_of c.args.bytes.now in
    let types : List Letter = c.as_slice-types.result.now in
    let n : ℕ = c.args.config.schedulers in
    let whole : Whole = whole_of types ls f.number (rest_lines f.rest) in
    let found : IsFound ls f.number (words f.text.now) (rest_lines f.rest) types = record {
      from = first.lines;
      at = first.number;
      letters = sym c.in_ok-letters.ensures ∙ ap (option_map (λ l. l.items)) c.in-Some-2.is
          ∙ ap Some (sym c.as_slice-types.ensures);
    } in
    let reads : Reads n types whole (c.loop-rest.number + 1) [] c.loop-rest.reading = subst
    (λ left. Reads n types whole (c.loop-rest.number + 1) left c.loop-rest.reading)
    (ap rest_lines c.in_default-rest.is) c.loop-rest.invariant.reads in
    texts-all c.args.config ls f.number (words f.text.now) (rest_lines f.rest) types found
    (c.loop-rest.number + 1) c.loop-rest.reading reads c.in_ok-finish_each.field-0.items
    (c.in_ok-finish_each.ensures.given n reads.lines reads.taken)
    (c.in_ok-finish_each.ensures.valid n reads.lines reads.taken)

pub returns-clause-not_generated : goal.returns-clause-not_generated
returns-clause-not_generated c =
    let f = c.in-Some.first in
    let first = c.in-Some.ensures in
    let ls : WordLines = lines_of c.args.bytes.now in
    let types : List Letter = c.as_slice-types.result.now in
    let n : ℕ = c.args.config.schedulers in
    let whole : Whole = whole_of types ls f.number (rest_lines f.rest) in
    let found : IsFound ls f.number (words f.text.now) (rest_lines f.rest) types = record {
      from = first.lines;
      at = first.number;
      letters = sym c.in_ok-letters.ensures ∙ ap (option_map (λ l. l.items)) c.in-Some-2.is
          ∙ ap Some (sym c.as_slice-types.ensures);
    } in
    let reads : Reads n types whole (c.loop-rest.number + 1) [] c.loop-rest.reading = subst
    (λ left. Reads n types whole (c.loop-rest.number + 1) left c.loop-rest.reading)
    (ap rest_lines c.in_default-rest.is) c.loop-rest.invariant.reads in
    given-ones c.args.config ls f.number (words f.text.now)
    (rest_lines f.rest) types found
    (c.loop-rest.number + 1) c.loop-rest.reading reads c.in_ok-finish_each.field-0.items
    (c.in_ok-finish_each.ensures.given n reads.lines reads.taken)

pub returns-clause-unstopped : goal.returns-clause-unstopped
returns-clause-unstopped c =
    let f = c.in-Some.first in
    let first = c.in-Some.ensures in
    let ls : WordLines = lines_of c.args.bytes.now in
    let types : List Letter = c.as_slice-types.result.now in
    let n : ℕ = c.args.config.schedulers in
    let whole : Whole = whole_of types ls f.number (rest_lines f.rest) in
    let found : IsFound ls f.number (words f.text.now) (rest_lines f.rest) types = record {
      from = first.lines;
      at = first.number;
      letters = sym c.in_ok-letters.ensures ∙ ap (option_map (λ l. l.items)) c.in-Some-2.is
          ∙ ap Some (sym c.as_slice-types.ensures);
    } in
    let reads : Reads n types whole (c.loop-rest.number + 1) [] c.loop-rest.reading = subst
    (λ left. Reads n types whole (c.loop-rest.number + 1) left c.loop-rest.reading)
    (ap rest_lines c.in_default-rest.is) c.loop-rest.invariant.reads in
    unstopped-all c.args.config ls f.number (words f.text.now)
    (rest_lines f.rest) types found
    (c.loop-rest.number + 1) c.loop-rest.reading reads c.in_ok-finish_each.field-0.items
    (c.in_ok-finish_each.ensures.given n reads.lines reads.taken)

pub returns-clause-places : goal.returns-clause-places
returns-clause-places c =
    let f = c.in-Some.first in
    let first = c.in-Some.ensures in
    let ls : WordLines = lines_of c.args.bytes.now in
    let types : List Letter = c.as_slice-types.result.now in
    let n : ℕ = c.args.config.schedulers in
    let whole : Whole = whole_of types ls f.number (rest_lines f.rest) in
    let found : IsFound ls f.number (words f.text.now) (rest_lines f.rest) types = record {
      from = first.lines;
      at = first.number;
      letters = sym c.in_ok-letters.ensures ∙ ap (option_map (λ l. l.items)) c.in-Some-2.is
          ∙ ap Some (sym c.as_slice-types.ensures);
    } in
    let reads : Reads n types whole (c.loop-rest.number + 1) [] c.loop-rest.reading = subst
    (λ left. Reads n types whole (c.loop-rest.number + 1) left c.loop-rest.reading)
    (ap rest_lines c.in_default-rest.is) c.loop-rest.invariant.reads in
    subst (AreParts (length c.in_ok-finish_each.field-0.items)) (sym c.in_ok-finish.ensures)
    (places-all c.args.config ls f.number (words f.text.now)
    (rest_lines f.rest) types found
    (c.loop-rest.number + 1) c.loop-rest.reading reads c.in_ok-finish_each.field-0.items
    (c.in_ok-finish_each.ensures.given n reads.lines reads.taken))
