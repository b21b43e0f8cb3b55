use Rattle.std.proofs.Common.{◌≡◌, [], Some, inr, refl, sym, subst, arith}
use Rattle.ea_machine.specs.declared.nodes.Node.{Node}
use Rattle.ea_machine.specs.declared.nodes.Node.TheVariants.{Block}
use Rattle.ea_machine.specs.Alike.{HasNoAlike}
use Rattle.ea_machine.specs.Guards.{IsUnlinkedAt}
use Rattle.ea_machine.specs.Nodes.{first_node}
use Rattle.ea_machine.specs.Shared.{Shared}
use Rattle.ea_machine.specs.Table.{effect}
use Rattle.ea_trials_schedulers.proofs.Following.{after-row, none-there, nothing_shared}
use Rattle.ea_trials_schedulers.proofs.shared.a_walk_rests_until_its_next_node_is_linked.Goals as goal

abbrev older : Node
older = Block 1 (record { carrier = 1025; offset = 8 })

pub push-requires-clause-nowhere : goal.push-requires-clause-nowhere
push-requires-clause-nowhere g c =
    subst (HasNoAlike older)
    (sym c.in_ok-shared.ensures.nothing) (none-there older nothing_shared (λ i. (refl, refl)))

pub take_all-requires-clause-walked : goal.take_all-requires-clause-walked
unfolding effect
take_all-requires-clause-walked g c =
    subst (λ (s : Shared). s.rests 2 ≡ [])
    (sym (after-row c.in_ok-shared.ensures.nothing c.push.ensures.row.shared)) refl

pub take_link-requires-clause-next : goal.take_link-requires-clause-next
unfolding effect
take_link-requires-clause-next g c =
    let d = after-row c.in_ok-shared.ensures.nothing c.push.ensures.row.shared in
    subst (λ (s : Shared). first_node (s.rests 2) ≡ Some older)
    (sym (after-row d c.take_all.ensures.row.shared)) refl

pub link-requires-clause-unlinked : goal.link-requires-clause-unlinked
unfolding effect
link-requires-clause-unlinked g c =
    let d = after-row c.in_ok-shared.ensures.nothing c.push.ensures.row.shared in
    let e = after-row d c.take_all.ensures.row.shared in
    subst (IsUnlinkedAt older 2)
    (sym (after-row e c.take_link.ensures.row.shared)) (inr (0, omega arith, refl))

pub take_link-requires-2-clause-next : goal.take_link-requires-2-clause-next
unfolding effect
take_link-requires-2-clause-next g c =
    let d = after-row c.in_ok-shared.ensures.nothing c.push.ensures.row.shared in
    let e = after-row d c.take_all.ensures.row.shared in
    let h = after-row e c.take_link.ensures.row.shared in
    subst (λ (s : Shared). first_node (s.rests 2) ≡ Some older)
    (sym (after-row h c.link.ensures.row.shared)) refl

pub take_all-requires-2-clause-walked : goal.take_all-requires-2-clause-walked
unfolding effect
take_all-requires-2-clause-walked g c =
    let d = after-row c.in_ok-shared.ensures.nothing c.push.ensures.row.shared in
    let e = after-row d c.take_all.ensures.row.shared in
    let h = after-row e c.take_link.ensures.row.shared in
    let i = after-row h c.link.ensures.row.shared in
    subst (λ (s : Shared). s.rests 2 ≡ [])
    (sym (after-row i c.take_link-2.ensures.row.shared)) refl
