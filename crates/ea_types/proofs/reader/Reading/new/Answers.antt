use Rattle.std.proofs.Common.{false, [], ◌∷◌, length-append, ap, refl, ◌∙◌, arith}
use Rattle.ea_trace.specs.Lines.{type_line}
use Rattle.ea_types.specs.Language.{wrong_at}
use Rattle.ea_types.specs.Readers.{begun_with}
use Rattle.ea_types.proofs.reader.Reading.new.Goals as goal

pub returns : goal.returns
returns c = λ before left whole skipped size begins.
    let types = c.args.letters.now in
    record {
      letters = c.in_ok-readers_of.ensures.letters;
      lines = begun_with before;
      taken = c.in_ok-readers_of.ensures.taken before skipped size;
      count = λ x. omega (arith, length-append before (type_line x ∷ []), size);
      each = begins.each;
      parts = record {
        all = rw (c.new.ensures.begun, c.new.ensures.parts) begins.parts;
        outside = λ none. (refl, c.new.ensures.part);
      };
      wrong = ap (λ k. wrong_at types k false left) (omega (arith, size)) ∙ begins.wrong;
    }
