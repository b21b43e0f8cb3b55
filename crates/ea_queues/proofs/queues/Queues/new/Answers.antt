use Rattle.std.proofs.Common.{◌≡◌, ℕ, ◌+◌, List, Option, None, replicate, rules}
use Rattle.ea_machine.specs.declared.nodes.Node.{Node}
use Rattle.ea_queues.proofs.QueueMoves.{empty-counts, empty-laid, empty-queues, empty-rests}
use Rattle.ea_queues.proofs.queues.Queues.new.Goals as goal

-- no first nodes
abbrev empty : ℕ → List (Option Node)
empty schedulers = replicate (schedulers + 1) None

pub invariant_of-result : goal.invariant_of-result
invariant_of-result c =
    let heads : c.in_ok-heads.heads.items ≡ empty c.args.schedulers =
    c.in_ok-heads.ensures.items_if_clones_equal (search rules) in
    let rests : c.in_ok-rests.rests.items ≡ empty c.args.schedulers =
    c.in_ok-rests.ensures.items_if_clones_equal (search rules) in
    empty-laid _ _ _ _ c.args.schedulers c.args.greatest heads rests c.in_ok-cells.ensures.names
    c.in_ok-cells.ensures.carriers

pub returns-clause-queues : goal.returns-clause-queues
returns-clause-queues c =
    let heads : c.in_ok-heads.heads.items ≡ empty c.args.schedulers =
    c.in_ok-heads.ensures.items_if_clones_equal (search rules) in
    let rests : c.in_ok-rests.rests.items ≡ empty c.args.schedulers =
    c.in_ok-rests.ensures.items_if_clones_equal (search rules) in
    empty-queues _ _ _ _ c.args.schedulers c.args.greatest heads rests c.in_ok-cells.ensures.names
    c.in_ok-cells.ensures.carriers

pub returns-clause-rests : goal.returns-clause-rests
returns-clause-rests c =
    let heads : c.in_ok-heads.heads.items ≡ empty c.args.schedulers =
    c.in_ok-heads.ensures.items_if_clones_equal (search rules) in
    let rests : c.in_ok-rests.rests.items ≡ empty c.args.schedulers =
    c.in_ok-rests.ensures.items_if_clones_equal (search rules) in
    empty-rests _ _ _ _ c.args.schedulers c.args.greatest heads rests c.in_ok-cells.ensures.names
    c.in_ok-cells.ensures.carriers

pub returns-clause-schedulers : goal.returns-clause-schedulers
returns-clause-schedulers c =
    let heads : c.in_ok-heads.heads.items ≡ empty c.args.schedulers =
    c.in_ok-heads.ensures.items_if_clones_equal (search rules) in
    let rests : c.in_ok-rests.rests.items ≡ empty c.args.schedulers =
    c.in_ok-rests.ensures.items_if_clones_equal (search rules) in
    let counts = empty-counts _ _ _ _ c.args.schedulers c.args.greatest heads rests
    c.in_ok-cells.ensures.names c.in_ok-cells.ensures.carriers in
    counts.0

pub returns-clause-greatest : goal.returns-clause-greatest
returns-clause-greatest c =
    let heads : c.in_ok-heads.heads.items ≡ empty c.args.schedulers =
    c.in_ok-heads.ensures.items_if_clones_equal (search rules) in
    let rests : c.in_ok-rests.rests.items ≡ empty c.args.schedulers =
    c.in_ok-rests.ensures.items_if_clones_equal (search rules) in
    let counts = empty-counts _ _ _ _ c.args.schedulers c.args.greatest heads rests
    c.in_ok-cells.ensures.names c.in_ok-cells.ensures.carriers in
    counts.1
