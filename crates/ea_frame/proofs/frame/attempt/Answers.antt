use Rattle.std.proofs.Common.{refl, subst}
use Rattle.std.specs.Prelude.{IsOk}
use Rattle.ea_io.specs.Fronts.{AppendsFront}
use Rattle.ea_frame.specs.Inputs.{GivesText}
use Rattle.ea_frame.proofs.Texts.{gives-some, gives-text}
use Rattle.ea_frame.proofs.frame.attempt.Goals as goal

pub returns-clause-why : goal.returns-clause-why
returns-clause-why g c =
    let language = g.P.Part.language in
    let words = c.args.words.now in
    let text = c.in_ok-text.text.items in
    let bytes = c.in_ok-bytes.ensures in
    let gives : GivesText language words c.in_ok-bytes.bytes.items text = gives-text language words
    c.in_ok-config.config _ _ text c.in_ok-config.ensures.config bytes.short c.as_slice.ensures
    c.in_ok-text.ensures.text in (
      subst IsOk c.in_ok-config.ensures.config refl,
      bytes.end,
      gives-some language words (g.S.Source.left c.args.source.now) _ text bytes.all gives,
      c.in-Err.ensures.stops,
    )

pub returns-clause-front : goal.returns-clause-front
returns-clause-front g c = λ failed.
    let words = c.args.words.now in
    let text = c.in_ok-text.text.items in
    let bytes = c.in_ok-bytes.ensures in (
      c.in_ok-bytes.bytes.items,
      bytes.all,
      (
        text,
        gives-text g.P.Part.language words c.in_ok-config.config _ _ text
            c.in_ok-config.ensures.config bytes.short c.as_slice.ensures c.in_ok-text.ensures.text,
        subst (AppendsFront _ _) c.as_slice-2.ensures c.in-Err.ensures.front,
      ),
    )
