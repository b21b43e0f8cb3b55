use Rattle.std.proofs.Common.{◌≡◌, ℕ, [], Some, inl, refl, sym, subst, arith}
use Rattle.ea_machine.specs.declared.nodes.Node.{Node}
use Rattle.ea_machine.specs.declared.nodes.Node.TheVariants.{Block}
use Rattle.ea_machine.specs.Alike.{HasNoAlike, alike_in}
use Rattle.ea_machine.specs.Guards.{IsUnlinkedAt}
use Rattle.ea_machine.specs.Nodes.{first_node}
use Rattle.ea_machine.specs.Rows.{Link, Push, TakeAll}
use Rattle.ea_machine.specs.Shared.{Shared}
use Rattle.ea_machine.specs.Table.{effect}
use Rattle.ea_trials_schedulers.proofs.Following.{after-row, none-there, nothing_shared}
use Rattle.ea_trials_schedulers.proofs.shared.a_walk_passes_the_newest_node_first.Goals as goal

abbrev older : Node
older = Block 1 (record { carrier = 1025; offset = 8 })

abbrev newer : Node
newer = Block 3 (record { carrier = 1025; offset = 22 })

-- what is shared before each push
abbrev before_first : Shared
before_first = effect 1 TakeAll nothing_shared

abbrev before_second : Shared
before_second = effect 2 (Link older 1) (effect 2 (Push older 1) before_first)

none-first : (i : ℕ)
    → (alike_in older (before_first.queues i) ≡ 0) × (alike_in older (before_first.rests i) ≡ 0)
unfolding effect
none-first i = (grind arith, grind arith)

none-second : (i : ℕ) → (alike_in newer (before_second.queues i) ≡ 0)
    × (alike_in newer (before_second.rests i) ≡ 0)
unfolding effect
none-second i = (grind arith, grind arith)

pub take_all-requires-clause-walked : goal.take_all-requires-clause-walked
take_all-requires-clause-walked g c =
    subst (λ (s : Shared). s.rests 1 ≡ [])
    (sym c.in_ok-shared.ensures.nothing) refl

pub push-requires-clause-nowhere : goal.push-requires-clause-nowhere
push-requires-clause-nowhere g c =
    subst (HasNoAlike older)
    (sym (after-row c.in_ok-shared.ensures.nothing c.take_all.ensures.row.shared))
    (none-there older before_first none-first)

pub link-requires-clause-unlinked : goal.link-requires-clause-unlinked
unfolding effect
link-requires-clause-unlinked g c =
    let d = after-row c.in_ok-shared.ensures.nothing c.take_all.ensures.row.shared in
    subst (IsUnlinkedAt older 1)
    (sym (after-row d c.push.ensures.row.shared)) (inl (0, omega arith, refl))

pub push-requires-2-clause-nowhere : goal.push-requires-2-clause-nowhere
push-requires-2-clause-nowhere g c =
    let d = after-row c.in_ok-shared.ensures.nothing c.take_all.ensures.row.shared in
    let e = after-row d c.push.ensures.row.shared in
    subst (HasNoAlike newer)
    (sym (after-row e c.link.ensures.row.shared))
    (none-there newer before_second none-second)

pub link-requires-2-clause-unlinked : goal.link-requires-2-clause-unlinked
unfolding effect
link-requires-2-clause-unlinked g c =
    let d = after-row c.in_ok-shared.ensures.nothing c.take_all.ensures.row.shared in
    let e = after-row d c.push.ensures.row.shared in
    let h = after-row e c.link.ensures.row.shared in
    subst (IsUnlinkedAt newer 1)
    (sym (after-row h c.push-2.ensures.row.shared)) (inl (0, omega arith, refl))

pub take_all-requires-2-clause-walked : goal.take_all-requires-2-clause-walked
unfolding effect
take_all-requires-2-clause-walked g c =
    let d = after-row c.in_ok-shared.ensures.nothing c.take_all.ensures.row.shared in
    let e = after-row d c.push.ensures.row.shared in
    let h = after-row e c.link.ensures.row.shared in
    let i = after-row h c.push-2.ensures.row.shared in
    subst (λ (s : Shared). s.rests 1 ≡ [])
    (sym (after-row i c.link-2.ensures.row.shared)) refl

pub take_link-requires-clause-next : goal.take_link-requires-clause-next
unfolding effect
take_link-requires-clause-next g c =
    let d = after-row c.in_ok-shared.ensures.nothing c.take_all.ensures.row.shared in
    let e = after-row d c.push.ensures.row.shared in
    let h = after-row e c.link.ensures.row.shared in
    let i = after-row h c.push-2.ensures.row.shared in
    let j = after-row i c.link-2.ensures.row.shared in
    subst (λ (s : Shared). first_node (s.rests 1) ≡ Some newer)
    (sym (after-row j c.take_all-2.ensures.row.shared)) refl

pub take_link-requires-2-clause-next : goal.take_link-requires-2-clause-next
unfolding effect
take_link-requires-2-clause-next g c =
    let d = after-row c.in_ok-shared.ensures.nothing c.take_all.ensures.row.shared in
    let e = after-row d c.push.ensures.row.shared in
    let h = after-row e c.link.ensures.row.shared in
    let i = after-row h c.push-2.ensures.row.shared in
    let j = after-row i c.link-2.ensures.row.shared in
    let k = after-row j c.take_all-2.ensures.row.shared in
    subst (λ (s : Shared). first_node (s.rests 1) ≡ Some older)
    (sym (after-row k c.take_link.ensures.row.shared)) refl
