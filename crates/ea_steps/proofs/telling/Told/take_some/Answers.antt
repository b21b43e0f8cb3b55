use Rattle.std.proofs.Common.{◌+◌, ◌-◌, ◌<◌, ◌≤◌, ◌++◌, get_or, length, ap, ◌∙◌, arith, refl}
use Rattle.std.proofs.Common.{length-set}
use Rattle.std.specs.Prelude.{replicate}
use Rattle.ea_model.specs.declared.settings.Config.{Config}
use Rattle.ea_machine.specs.Setup.{setup_of}
use Rattle.ea_given.specs.Between.{LooksInRow}
use Rattle.ea_steps.specs.Fronts.{front_of}
use Rattle.ea_steps.specs.Taking.{group_after, taken_steps}
use Rattle.ea_steps.proofs.Tellings.{group-code, noted-steps}
use Rattle.ea_steps.proofs.Takings.{counted-more}
use Rattle.ea_steps.proofs.ToldLines.{told-more}
use Rattle.ea_steps.proofs.telling.Told.take_some.Goals as goal

pub lines_of-requires-clause-stands : goal.lines_of-requires-clause-stands
lines_of-requires-clause-stands c =
    let (d, t, turns, at) = c.requires.stands in (
      d,
      t,
      turns ++ replicate c.in_ok-steps.steps c.args.me,
      c.in_ok-steps.ensures.taken d t turns at,
    )

pub lines_of-requires-clause-scheduler : goal.lines_of-requires-clause-scheduler
lines_of-requires-clause-scheduler c =
    let (d, t, turns, at) = c.requires.stands in
    let after = c.in_ok-steps.ensures.taken d t turns at in (
      c.requires.scheduler.0,
      omega (
        arith,
        c.requires.scheduler.1,
        ap (λ (x : Config). x.schedulers) at.config,
        ap (λ (x : Config). x.schedulers) after.config,
      ),
    )

pub lines_of-requires-clause-noted : goal.lines_of-requires-clause-noted
lines_of-requires-clause-noted c =
    let (d, t, turns, at) = c.requires.stands in
    let e = setup_of d t in
    let looks : 1 < c.in_ok-steps.steps → LooksInRow e turns c.args.me c.in_ok-steps.steps =
    λ many. c.in_ok-steps.ensures.passed many d t turns at in (
      d,
      t,
      turns,
      c.in_ok-steps.ensures.taken d t turns at,
      record {
        steps = noted-steps e turns c.args.me c.in_ok-steps.steps (c.requires.takes d t turns at)
            looks;
        touches = c.in_ok-note.ensures d t turns at;
        looks = looks;
      },
    )

pub returns-clause-told : goal.returns-clause-told
returns-clause-told c = λ d t turns at told.
    let e = setup_of d t in
    let me = c.args.me in
    let n = c.in_ok-steps.steps in
    let looks : 1 < c.in_ok-steps.steps → LooksInRow e turns c.args.me c.in_ok-steps.steps =
    λ many. c.in_ok-steps.ensures.passed many d t turns at in
    let steps = noted-steps e turns me n (c.requires.takes d t turns at) looks in
    let after = c.in_ok-steps.ensures.taken d t turns at in
    let few : me ≤ e.schedulers = omega (
      arith,
      c.requires.scheduler.1,
      ap (λ (x : Config). x.schedulers) at.config,
    ) in
    record {
      shows = told-more d t turns me n c.args.run.now at c.in_ok-steps.ensures.few.0 steps looks
          c.tell.new.self.text.items c.tell.new.self.last
          (c.in_ok-tell.ensures e (front_of e (taken_steps e turns)) (group_after e turns me n)
          told.shows refl
          (c.in_ok-group.ensures.group
          ∙ group-code e turns me n c.in_ok-steps.ensures.few.0 looks c.requires.scheduler.0 few
          c.args.self.now.counts told.counts c.wants-wanted.result
          (c.wants-wanted.ensures d t turns at) c.answer-heard.result
          (c.answer-heard.ensures d t turns at))
          (c.as_slice.ensures ∙ c.in_ok-lines.ensures d t turns after (record {
            steps = steps;
            touches = c.in_ok-note.ensures d t turns at;
            looks = looks;
          })));
      counts = counted-more e turns me n steps c.requires.scheduler.0 few c.args.self.now.counts
          c.count.new.counts told.counts c.in_ok-group.ensures.all c.in_ok-group.ensures.owns;
    }

pub returns-clause-counts : goal.returns-clause-counts
returns-clause-counts c =
    let (d, t, turns, at) = c.requires.stands in
    let after = c.in_ok-steps.ensures.taken d t turns at in
    omega (
      arith,
      ap length c.in_ok-group.ensures.owns,
      length-set c.args.self.now.counts.owns.items (c.args.me - 1)
          (get_or c.args.self.now.counts.owns.items (c.args.me - 1) 0 + c.in_ok-steps.steps),
      c.requires.counts,
      ap (λ (x : Config). x.schedulers) at.config,
      ap (λ (x : Config). x.schedulers) after.config,
    )

pub returns-clause-steps : goal.returns-clause-steps
returns-clause-steps c = λ d t turns at.
    noted-steps (setup_of d t) turns c.args.me c.in_ok-steps.steps (c.requires.takes d t turns at)
    (λ many. c.in_ok-steps.ensures.passed many d t turns at)
