use Rattle.std.proofs.Common.{sym, ◌∙◌, arith}
use Rattle.ea_types.proofs.Finds.{line-kind, lines-are, present-first, present-found}
use Rattle.ea_types.proofs.Finds.{present-next, present-none}
use Rattle.ea_types.proofs.Standings.{told-ended}
use Rattle.ea_types.proofs.given.TypedRun.present.Goals as goal

pub loop-place-init : goal.loop-place-init
loop-place-init c = λ d other traces parts turns at.
    let r = c.args.self.now in
    present-first d other traces parts turns r at c.args.me c.requires.scheduler
    c.as_slice-lines.result.now
    (lines-are d other traces parts turns r at c.args.me c.requires.scheduler
    c.index-self-me.result ∙ sym c.as_slice-lines.ensures) c.index-place.result.now
    c.index-place.ensures

pub returns-then-not-ended-clause-some : goal.returns-then-not-ended-clause-some
returns-then-not-ended-clause-some c = λ d other traces parts turns at.
    let r = c.args.self.now in
    let me = c.args.me in
    let has = c.requires.scheduler in
    let lines = c.as_slice-lines.result.now in
    let same = lines-are d other traces parts turns r at me has c.index-self-me.result
    ∙ sym c.as_slice-lines.ensures in
    let kind = c.from-kind.result in
    let there = line-kind d other traces parts turns r at me has lines same c.loop-place.place kind
    c.loop-place-test.true c.from-kind.ensures in
    present-found d other traces parts turns r at me has lines same c.loop-place.place kind
    c.loop-place-test.true c.from-kind.ensures
    (c.loop-place.invariant d other traces parts turns at)
    (sym (told-ended d other traces parts turns r at kind there c.index.result.now me
    c.index.result.now c.index.ensures c.ended.result c.ended.ensures) ∙ c.if-not-ended.true)

pub loop-place-preserved : goal.loop-place-preserved
loop-place-preserved c = λ d other traces parts turns at.
    let r = c.args.self.now in
    let me = c.args.me in
    let has = c.requires.scheduler in
    let lines = c.as_slice-lines.result.now in
    let same = lines-are d other traces parts turns r at me has c.index-self-me.result
    ∙ sym c.as_slice-lines.ensures in
    let kind = c.from-kind.result in
    let there = line-kind d other traces parts turns r at me has lines same c.loop-place.place kind
    c.loop-place-test.true c.from-kind.ensures in
    present-next d other traces parts turns r at me has lines same c.loop-place.place kind
    c.loop-place-test.true c.from-kind.ensures
    (c.loop-place.invariant d other traces parts turns at)
    (sym (told-ended d other traces parts turns r at kind there c.index.result.now me
    c.index.result.now c.index.ensures c.ended.result c.ended.ensures) ∙ c.if-not-ended.false)

pub returns-clause-none : goal.returns-clause-none
returns-clause-none c = λ none. λ d other traces parts turns at.
    let r = c.args.self.now in
    let me = c.args.me in
    let has = c.requires.scheduler in
    present-none d other traces parts turns r at me has c.as_slice-lines.result.now
    (lines-are d other traces parts turns r at me has c.index-self-me.result
    ∙ sym c.as_slice-lines.ensures) c.loop-place.place
    (c.loop-place.invariant d other traces parts turns at)
    (omega (arith, c.loop-place-test.false))
