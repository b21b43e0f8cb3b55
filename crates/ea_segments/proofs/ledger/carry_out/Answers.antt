use Rattle.std.proofs.Common.{sym, ap, ◌∙◌}
use Rattle.ea_segments.specs.Histories.{oldest}
use Rattle.ea_segments.proofs.Holding.{laid-rising, oldest-there}
use Rattle.ea_segments.proofs.ledger.carry_out.Goals as goal

pub take_out-requires-clause-there : goal.take_out-requires-clause-there
take_out-requires-clause-there c =
    let hs = c.args.held.now.items in
    let (total, laid) = c.requires.laid in
    oldest-there c.args.call.scheduler c.args.call.name c.in-Some.oldest hs
    (laid-rising 0 total hs laid)
    (ap (oldest c.args.call.scheduler c.args.call.name) (sym c.deref.ensures.value)
    ∙ sym c.oldest_of.ensures ∙ c.in-Some.is)

pub take_out-requires-clause-rising : goal.take_out-requires-clause-rising
take_out-requires-clause-rising c =
    let (total, laid) = c.requires.laid in
    laid-rising 0 total c.args.held.now.items laid
