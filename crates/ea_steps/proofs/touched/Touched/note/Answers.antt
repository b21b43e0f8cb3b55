use Rattle.std.proofs.Common.{ap, ◌∙◌, ◌++◌, length, []}
use Rattle.std.specs.Prelude.{filter}
use Rattle.ea_machine.specs.Actor.{Actor}
use Rattle.ea_machine.specs.Machine.{wants}
use Rattle.ea_machine.specs.Setup.{migration, setup_of}
use Rattle.ea_machine.specs.Stops.{run_with_stops}
use Rattle.ea_sound.specs.Turns.{answered}
use Rattle.ea_sched.specs.Wants.{is_last_at}
use Rattle.ea_steps.specs.Found.{found_before}
use Rattle.ea_steps.specs.Noting.{clears_told, creates_told, is_present}
use Rattle.ea_steps.specs.Taking.{step_after}
use Rattle.ea_steps.specs.Touched.{carriers_of, touched}
use Rattle.ea_steps.proofs.NotedNames.{adds-more, row-clears, row-creates}
use Rattle.ea_steps.proofs.touched.Touched.note.Goals as goal

pub returns : goal.returns
returns c = λ config trace turns stands.
    let setup = setup_of config trace in
    let w = run_with_stops setup turns in
    let me = c.args.me in
    let a = w.actors me in
    let names = touched (migration setup) a (answered w me) in
    let wanted_is = c.requires.wanted config trace turns stands in
    let at = c.at-scheduler.ensures config trace turns stands in
    let both = adds-more setup w [] names (clears_told c.args.wanted) (carriers_of names)
    c.clear.new.self c.add_cleared.new.self c.add_blocks.new.self
    (c.in_ok-add_cleared.ensures config trace turns stands)
    (c.in_ok-add_blocks.ensures config trace turns stands) in
    record {
      blocks = both.blocks
          ∙ ap (λ xs. xs ++ found_before setup (step_after setup turns me)) c.clear.ensures.blocks;
      carriers = both.carriers
          ∙ ap (λ xs. xs ++ filter (is_present setup w)
          (clears_told c.args.wanted ++ carriers_of names)) c.clear.ensures.carriers
          ∙ ap (λ xs. filter (is_present setup w) (xs ++ carriers_of names))
          (ap (λ x. clears_told x) wanted_is
          ∙ row-clears me a.next (is_last_at a.stage) (wants a));
      resized = c.resized_by-self.ensures config trace turns stands;
      creates = c.created_by-self.ensures ∙ ap (λ x. creates_told x) wanted_is
          ∙ row-creates me a.next (is_last_at a.stage) (wants a);
      created = c.created-self.ensures ∙ ap (λ i. i.created) c.instance.ensures
          ∙ ap (λ (b : Actor). b.instance.created) at.actor;
      entries = c.len-self.ensures ∙ ap (λ l. length l.items) c.log.ensures
          ∙ ap (λ (b : Actor). length b.log) at.actor;
    }
