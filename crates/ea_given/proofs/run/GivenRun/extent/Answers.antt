use Rattle.std.proofs.Common.{subst, sym}
use Rattle.ea_machine.specs.Setup.{setup_of}
use Rattle.ea_machine.specs.Stops.{cut}
use Rattle.ea_mem_shared.specs.Places.{place_at}
use Rattle.ea_outcome.specs.Extents.{HasSpot, LiesWhere}
use Rattle.ea_outcome.specs.Resting.{StandIn}
use Rattle.ea_given.proofs.GivenRuns.{run-stands}
use Rattle.ea_given.proofs.NamesHeld.{fits-told, has-spot, lies-told}
use Rattle.ea_given.proofs.run.GivenRun.extent.Goals as goal

pub extent_of-requires-clause-stand : goal.extent_of-requires-clause-stand
extent_of-requires-clause-stand c =
    let r = c.args.self.now in
    let (d, t, turns, at) = c.requires.stands in
    let taken = cut (setup_of d t).stops turns in (
      taken,
      subst (λ xs. StandIn r.config r.trace.now xs (place_at r.shared.places) r.shared.given taken)
          (sym c.deref.ensures.value) (run-stands r d t turns at),
    )

pub extent_of-requires-clause-named : goal.extent_of-requires-clause-named
extent_of-requires-clause-named c =
    let r = c.args.self.now in (
      c.args.name,
      subst (λ xs. HasSpot xs r.shared.given c.args.name c.in_ok-spot.spot)
          (sym c.deref.ensures.value)
          (has-spot r c.args.me c.requires.scheduler c.args.name c.spot_of.result c.spot_of.ensures
          c.requires.stands c.in_ok-spot.spot c.in_ok-spot.was),
    )

pub returns-clause-lies : goal.returns-clause-lies
returns-clause-lies c =
    let r = c.args.self.now in
    let p = c.in_ok-spot.spot in
    let q = c.extent_of.result in
    lies-told r c.args.me c.requires.scheduler c.args.name p q
    (has-spot r c.args.me c.requires.scheduler c.args.name c.spot_of.result c.spot_of.ensures
    c.requires.stands p c.in_ok-spot.was)
    (subst (λ xs. LiesWhere r.config r.trace.now xs (place_at r.shared.places) r.shared.given p q)
    c.deref.ensures.value c.extent_of.ensures)

pub returns-clause-fits : goal.returns-clause-fits
returns-clause-fits c = fits-told c.args.self.now c.args.me c.requires.scheduler c.args.name
    c.extent_of.result (returns-clause-lies c)
