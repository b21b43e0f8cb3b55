use Rattle.std.proofs.Common.{◌≡◌, length}
use Rattle.ea_sound.specs.Walking.{CanAllGo, worked}
use Rattle.ea_sched.proofs.walks.work_off.Given as goal

abbrev pub invariant-loop-node : goal.invariant-loop-node
invariant-loop-node l = CanAllGo l.me l.instance l.passed.nodes
    × (worked l.me l.instance l.passed.nodes
    ≡ worked l.fn.me l.fn.instance l.fn.passed.nodes)

abbrev pub decreases-loop-node : goal.decreases-loop-node
decreases-loop-node l = length l.passed.nodes
