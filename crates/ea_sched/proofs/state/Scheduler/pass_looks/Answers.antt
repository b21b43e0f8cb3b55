use Rattle.std.proofs.Common.{◌-◌, ◌∙◌, ap, arith, refl}
use Rattle.std.proofs.lemmas.Int.{clamps}
use Rattle.ea_machine.specs.declared.stages.Stage.TheVariants.{Searching}
use Rattle.ea_machine.specs.Searches.{left_in}
use Rattle.ea_sched.proofs.LooksInRow.{fewer-counted, fewer-left, looks-stepped}
use Rattle.ea_sched.proofs.Seeking.{search-before, search-carrier, search-on}
use Rattle.ea_sched.proofs.state.Scheduler.pass_looks.Goals as goal

pub last_counted-last-requires-clause-migrates : goal.last_counted-last-requires-clause-migrates
last_counted-last-requires-clause-migrates g c = c.requires.starts.migrates
    ∙ search-on c.args.self.now c.requires.starts.ready c.in-Searching.ask c.in-Searching.at
    c.in-Searching.part c.in-Searching.is

pub last_counted-last-requires-clause-carrier : goal.last_counted-last-requires-clause-carrier
last_counted-last-requires-clause-carrier g c = search-carrier c.args.self.now
    c.requires.starts.ready c.in-Searching.ask c.in-Searching.at c.in-Searching.part
    c.in-Searching.is c.requires.starts.schedulers

pub overflow_sub-left : goal.overflow_sub-left
overflow_sub-left g c =
    let before = search-before c.args.self.now c.requires.starts.ready c.in-Searching.ask
    c.in-Searching.at c.in-Searching.part c.in-Searching.is in
    omega (arith, before.0, ap left_in c.in-Pool.is)

pub returns-clause-step : goal.returns-clause-step
returns-clause-step g c = λ some.
    let is = c.in-Searching.is
    ∙ ap (λ p. Searching c.in-Searching.ask c.in-Searching.at p) c.in-Pool.is in
    let fewer = c.min-some.ensures in
    let few = c.min-passed.ensures in
    looks-stepped c.args.self.now c.in-Searching.ask c.in-Searching.at c.in-Pool.left
    c.in-Pool.looked is c.last_counted-last.result c.min-passed.result some
    (omega (arith, clamps, some, few)) (omega (arith, clamps, some, fewer, few))
    (omega (arith, clamps, some, few, c.max.ensures)) _ c.requires.starts.ready
    c.last_counted-last.ensures.uncounted c.last_counted-last.ensures.beside

pub returns-clause-left : goal.returns-clause-left
returns-clause-left g c = λ some. (
  fewer-left c.args.self.now.left c.within.result c.min-passed.result c.within.ensures.stop
      (omega (arith, clamps, c.min-some.ensures, c.min-passed.ensures)),
  c.less-self.ensures,
)

pub returns-clause-uncounted : goal.returns-clause-uncounted
returns-clause-uncounted g c = λ some.
    let fewer = c.min-some.ensures in
    let few = c.min-passed.ensures in
    record {
      ask = c.in-Searching.ask;
      at = c.in-Searching.at;
      left = c.in-Pool.left;
      looked = c.in-Pool.looked;
      stage = c.in-Searching.is
          ∙ ap (λ p. Searching c.in-Searching.ask c.in-Searching.at p) c.in-Pool.is;
      down = omega (arith, clamps, some, few);
      fewer = omega (arith, clamps, some, fewer, few);
      upto = (returns-clause-left g c some).0;
      uncounted = fewer-counted _ c.last_counted-last.result
          (c.in-Searching.at - c.min-passed.result) c.in-Searching.at
          (omega (arith, clamps, some, few, c.max.ensures))
          c.last_counted-last.ensures.uncounted;
    }

pub overflow_sub-at : goal.overflow_sub-at
overflow_sub-at g c =
    let there = search-carrier c.args.self.now c.requires.starts.ready c.in-Searching.ask
    c.in-Searching.at c.in-Searching.part c.in-Searching.is c.requires.starts.schedulers in
    omega (arith, clamps, there.0, c.last_counted-last.ensures.upto, c.max.ensures)

pub returns-in_default : goal.returns-in_default
returns-in_default g c = record {
  few = omega arith;
  none = λ _. refl;
  run = (refl, refl, refl);
  failed = refl;
  step = λ some. absurd (omega (arith, some));
  left = λ some. absurd (omega (arith, some));
  looks = λ some. absurd (omega (arith, some));
  uncounted = λ some. absurd (omega (arith, some));
}

pub returns-in_default-part : goal.returns-in_default-part
returns-in_default-part g c = record {
  few = omega arith;
  none = λ _. refl;
  run = (refl, refl, refl);
  failed = refl;
  step = λ some. absurd (omega (arith, some));
  left = λ some. absurd (omega (arith, some));
  looks = λ some. absurd (omega (arith, some));
  uncounted = λ some. absurd (omega (arith, some));
}

pub returns-then-passed-eq0-clause-none : goal.returns-then-passed-eq0-clause-none
returns-then-passed-eq0-clause-none g c = λ _. refl
