use Rattle.std.proofs.Common.{sym, ◌∙◌, arith}
use Rattle.ea_outcome.proofs.OutcomeExtents.{extent-fits, extent-there, has-carrier, lies-there}
use Rattle.ea_outcome.proofs.extents.extent_of.Goals as goal

pub extent_at-requires-clause-number : goal.extent_at-requires-clause-number
extent_at-requires-clause-number g c =
    let (turns, stand) = c.requires.stand in
    let (name, has) = c.requires.named in
    let number = has-carrier c.args.config c.args.trace.now c.requires.config c.requires.trace
    c.migrates.result c.migrates.ensures c.args.schedulers.now
    (g.H.Rested.shared c.args.shared.now).places (g.H.Rested.shared c.args.shared.now).named
    turns stand name c.args.spot has in
    (number.0, omega (arith, number.1, c.requires.schedulers))

pub extent_at-requires-clause-fits : goal.extent_at-requires-clause-fits
extent_at-requires-clause-fits g c =
    let (turns, stand) = c.requires.stand in
    let (name, has) = c.requires.named in
    extent-fits c.args.config c.args.trace.now c.requires.config c.requires.trace
    c.migrates.result c.migrates.ensures c.args.schedulers.now
    (g.H.Rested.shared c.args.shared.now).places (g.H.Rested.shared c.args.shared.now).named
    turns stand name c.args.spot has

pub unreachable-requires : goal.unreachable-requires
unreachable-requires g c =
    let (turns, stand) = c.requires.stand in
    let (name, has) = c.requires.named in
    extent-there c.args.config c.args.trace.now c.requires.config c.requires.trace
    c.migrates.result c.migrates.ensures c.args.schedulers.now
    (g.H.Rested.shared c.args.shared.now).places (g.H.Rested.shared c.args.shared.now).named
    turns stand name c.args.spot has
    (sym c.extent_at.ensures ∙ c.in-None.is)

pub returns : goal.returns
returns g c = λ turns stand name has.
    lies-there c.args.config c.args.trace.now c.requires.config c.requires.trace
    c.migrates.result c.migrates.ensures c.args.schedulers.now
    (g.H.Rested.shared c.args.shared.now).places (g.H.Rested.shared c.args.shared.now).named
    turns stand name c.args.spot has c.in-Some.extent
    (sym c.in-Some.is ∙ c.extent_at.ensures)
