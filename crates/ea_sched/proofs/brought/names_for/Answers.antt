use Rattle.std.proofs.Common.{ap, ◌∙◌, sym}
use Rattle.ea_names.specs.Holding.{has_place}
use Rattle.ea_sched.specs.Brought.{is_placed}
use Rattle.ea_sched.proofs.NamesBrought.{more-placed}
use Rattle.ea_sched.proofs.brought.names_for.Goals.{in-Some+in_ok-make_place, in_default}
use Rattle.ea_sched.proofs.brought.names_for.Goals as goal

pub loop-op-preserved : goal.loop-op-preserved
loop-op-preserved c = elim c.match-name_brought.branch [
  | in-Some+in_ok-make_place w ↦ record {
    held = ap (λ n. n.held) w.names-is ∙ w.make_place.ensures.held ∙ c.loop-op.invariant.held;
    greatest = ap (λ n. n.greatest) w.names-is ∙ w.make_place.ensures.same
        ∙ c.loop-op.invariant.greatest;
    places = more-placed c.loop-op.names.places c.match-name_brought.names.places c.args.text.now
        c.loop-op.op-index
        (λ other has. ap (λ n. has_place n.places other) w.names-is
        ∙ w.make_place.ensures.kept other has)
        c.loop-op.invariant.places c.loop-op-test.true _
        (ap (is_placed c.match-name_brought.names.places)
        (sym c.name_brought.ensures ∙ w.in-Some.is)
        ∙ ap (λ n. has_place n.places w.in-Some.name) w.names-is
        ∙ w.in_ok-make_place.ensures.place);
  }
  | in_default w ↦ record {
    held = ap (λ n. n.held) w.names-is ∙ c.loop-op.invariant.held;
    greatest = ap (λ n. n.greatest) w.names-is ∙ c.loop-op.invariant.greatest;
    places = more-placed c.loop-op.names.places c.match-name_brought.names.places c.args.text.now
        c.loop-op.op-index
        (λ other has. ap (λ n. has_place n.places other) w.names-is ∙ has)
        c.loop-op.invariant.places c.loop-op-test.true _
        (ap (is_placed c.match-name_brought.names.places)
        (sym c.name_brought.ensures ∙ w.in_default.is));
  }
]
