use Rattle.std.proofs.Common.{ℕ, length, refl, ap, arith}
use Rattle.std.proofs.lemmas.List.{length-replicate}
use Rattle.ea_sound.proofs.Schedules.{scheduled-texts}
use Rattle.ea_contents.proofs.Standing.{start-empty}
use Rattle.ea_contents.proofs.session.Session.new.Goals as goal

pub new-requires-2-clause-texts : goal.new-requires-2-clause-texts
new-requires-2-clause-texts c =
    scheduled-texts c.args.config.schedulers c.args.trace.now c.requires.schedule c.requires.trace

pub returns-clause-stands : goal.returns-clause-stands
returns-clause-stands c =
    let d = c.args.config in
    let t = c.args.trace.now in
    record {
      run = c.in_ok-run.ensures;
      trace = refl;
      texts = scheduled-texts d.schedulers t c.requires.schedule c.requires.trace;
      stops = c.requires.unstopped;
      going = refl;
      whole = omega (
        arith,
        ap length c.in_ok-memory.ensures,
        length-replicate {A = ℕ} c.units_of.result 0,
        c.units_of.ensures,
      );
      agrees = λ name r lies. absurd (start-empty d t name r lies);
      there = λ name r lies. absurd (start-empty d t name r lies);
      places = omega (arith, c.in_ok-extents.ensures.len, c.in_ok-extents.extents.ok);
      extents = λ name r lies. absurd (start-empty d t name r lies);
    }
