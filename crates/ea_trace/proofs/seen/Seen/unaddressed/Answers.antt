use Rattle.std.proofs.Common.{◌==◌, get_or, ap, ◌∙◌}
use Rattle.std.specs.Prelude.{not}
use Rattle.std.specs.List.{find}
use Rattle.std.proofs.lemmas.List.Elements.{recursion_from_All}
use Rattle.ea_trace.specs.Language.{is_unaddressed}
use Rattle.ea_trace.specs.Ranges.{IsNamed}
use Rattle.ea_trace.proofs.Reading.{find_same}
use Rattle.ea_trace.proofs.seen.Seen.unaddressed.Goals as goal

pub returns : goal.returns
returns c = λ n earlier k.
    let s = c.args.self.now in
    rw (c.first_unaddressed.ensures, c.deref.ensures.value)
    (find_same IsNamed (λ t. not (t.scheduler == get_or s.names.addressee.items t.name 0))
    (is_unaddressed earlier) (λ t h. ap not (k.names.given_to t.name t.scheduler h.0 h.1))
    s.takes.items (recursion_from_All IsNamed s.takes.items s.takes_named)
    ∙ ap (find (is_unaddressed earlier)) k.takes)
