use Rattle.std.proofs.Common.{◌≡◌, ◌+◌, slice_index, sym, ap, ◌∙◌, subst, arith}
use Rattle.std.specs.Mem.Slots.{slots_items}
use Rattle.ea_names.specs.Holding.{has_place}
use Rattle.ea_table.proofs.Reading.{AreRead, all-read, element-index}
use Rattle.ea_table.proofs.Reading.{missing-spot, none-read, one-less, one-more}
use Rattle.ea_table.proofs.ending.read_given.Goals.{in-Some, in_default}
use Rattle.ea_table.proofs.ending.read_given.Goals as goal

pub loop-before-init : goal.loop-before-init
loop-before-init c =
    let ws = slots_items c.args.closed.now.words in
    record {
      greatest = c.in_ok-given.ensures.greatest;
      whole = c.in_ok-given.ensures.places;
      read = subst (AreRead c.args.schedulers c.args.greatest ws 0) (sym c.in_ok-given.ensures.none)
          (none-read c.args.schedulers c.args.greatest ws);
    }

pub hold-requires-clause-place : goal.hold-requires-clause-place
hold-requires-clause-place c = c.loop-before.invariant.whole (c.loop-before.before + 1)
    (omega (arith, c.loop-before.invariant.greatest, c.loop-before-test.true))

pub hold-requires-clause-fresh : goal.hold-requires-clause-fresh
hold-requires-clause-fresh c =
    c.loop-before.invariant.read.none (c.loop-before.before + 1) (omega arith)

pub loop-before-preserved : goal.loop-before-preserved
loop-before-preserved c =
    let n = c.args.schedulers in
    let g = c.args.greatest in
    let ws = slots_items c.args.closed.now.words in
    let k = c.loop-before.before in
    let i = c.loop-before.invariant in
    let found = ap (slice_index ws) (sym c.name_place.ensures)
    ∙ element-index ws c.name_place.result c.word-word.result c.word-word.ensures in
    elim c.match-block_spot.branch [
      | in-Some w ↦ record {
        greatest = ap (λ x. x.greatest) w.given-is ∙ w.hold.ensures.same ∙ i.greatest;
        whole = λ name le.
            let greatest = ap (λ x. x.greatest) w.given-is ∙ w.hold.ensures.same in
            ap (λ ps. has_place ps name) (ap (λ x. x.places) w.given-is ∙ w.hold.ensures.places)
            ∙ i.whole name (omega (arith, le, greatest));
        read = subst (AreRead n g ws (k + 1))
            (sym (ap (λ x. x.held) w.given-is ∙ w.hold.ensures.held))
            (one-more n g ws k c.word-word.result c.loop-before.given.held i.read
            c.loop-before-test.true found c.decode_node.result
            (c.decode_node.ensures.coded, c.decode_node.ensures.only) w.in-Some.spot
            (sym c.block_spot.ensures ∙ w.in-Some.is));
      }
      | in_default w ↦ record {
        greatest = ap (λ x. x.greatest) w.given-is ∙ i.greatest;
        whole = λ name le.
            let greatest = ap (λ x. x.greatest) w.given-is in
            ap (λ ps. has_place ps name) (ap (λ x. x.places) w.given-is)
            ∙ i.whole name (omega (arith, le, greatest));
        read = subst (AreRead n g ws (k + 1)) (sym (ap (λ x. x.held) w.given-is))
            (one-less n g ws k c.word-word.result c.loop-before.given.held i.read
            c.loop-before-test.true found c.decode_node.result
            (c.decode_node.ensures.coded, c.decode_node.ensures.only)
            (sym c.block_spot.ensures ∙ missing-spot c.block_spot.result w.in_default.not-Some));
      }
    ]

pub returns-clause-greatest : goal.returns-clause-greatest
returns-clause-greatest c = c.loop-before.invariant.greatest

pub returns-clause-named : goal.returns-clause-named
returns-clause-named c =
    let n = c.args.schedulers in
    let g = c.args.greatest in
    let ws = slots_items c.args.closed.now.words in
    let all : c.loop-before.before ≡ g =
    omega (arith, c.loop-before-test.false, c.loop-before.auto.before-end) in
    all-read n g ws c.loop-before.given.held
    (subst (λ k. AreRead n g ws k c.loop-before.given.held) all c.loop-before.invariant.read)
