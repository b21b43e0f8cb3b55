use Rattle.std.proofs.Common.{None, arith, length, sym, ap, ◌∙◌}
use Rattle.std.proofs.lemmas.List.{with_items_is}
use Rattle.std.proofs.lemmas.List.Elements.{All-same}
use Rattle.ea_types.specs.Readers.{HasRead, and_line, letters_of}
use Rattle.ea_types.proofs.Steps.{parts-begin, parts-common, reads-common}
use Rattle.ea_types.proofs.reader.Reading.take_common.Goals as goal

pub returns-in_ok-begin : goal.returns-in_ok-begin
returns-in_ok-begin c = λ n number types whole words left h e fine common.
    let r = c.args.self.now in
    let new = with_items_is r.readers c.take_each.new.readers (omega (
      arith,
      c.take_each.auto.readers,
      ap length c.deref_mut.ensures.value,
      r.readers.ok.0,
    )) in
    let begins = sym c.begins_by.ensures ∙ c.if-begins_by.true in
    reads-common n number types whole left r _ words c.args.keyword h fine common
    (ap letters_of new ∙ c.take_each.ensures.letters ∙ ap letters_of c.deref_mut.ensures.value)
    (λ lines taken. All-same (HasRead n (and_line lines None words)) _ _ new
    (c.in_ok-take_each.ensures.taken n lines words
    (All-same (HasRead n lines) _ _ c.deref_mut.ensures.value taken) e)) c.inside_by-self.ensures
    (parts-begin types r.inside words left whole.parts r.sections h.parts c.args.keyword common
    begins c.begin.new.self c.in_ok-begin.ensures.parts c.begin.ensures.part c.begin.ensures.begun)

pub returns-else-begins_by : goal.returns-else-begins_by
returns-else-begins_by c = λ n number types whole words left h e fine common.
    let r = c.args.self.now in
    let new = with_items_is r.readers c.take_each.new.readers (omega (
      arith,
      c.take_each.auto.readers,
      ap length c.deref_mut.ensures.value,
      r.readers.ok.0,
    )) in
    let begins = sym c.begins_by.ensures ∙ c.if-begins_by.false in
    reads-common n number types whole left r _ words c.args.keyword h fine common
    (ap letters_of new ∙ c.take_each.ensures.letters ∙ ap letters_of c.deref_mut.ensures.value)
    (λ lines taken. All-same (HasRead n (and_line lines None words)) _ _ new
    (c.in_ok-take_each.ensures.taken n lines words
    (All-same (HasRead n lines) _ _ c.deref_mut.ensures.value taken) e)) c.inside_by-self.ensures
    (parts-common types r.inside words left whole.parts r.sections h.parts c.args.keyword common
    begins)
