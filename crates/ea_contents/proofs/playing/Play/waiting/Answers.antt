use Rattle.std.proofs.Common.{ap, ◌∙◌, drop, length}
use Rattle.ea_model.specs.Lists.{Items}
use Rattle.ea_contents.specs.declared.access.AccessEntry.{AccessEntry}
use Rattle.ea_contents.specs.Placing.{next_at}
use Rattle.ea_contents.proofs.Plays.{next-seen}
use Rattle.ea_contents.proofs.playing.Play.waiting.Goals as goal

pub returns : goal.returns
returns c = λ d t ss m at.
    c.placed_at.ensures
    ∙ ap (λ xs. next_at c.done.result (drop c.len.result xs)) c.as_slice-placed.ensures
    ∙ next-seen d t ss m c.args.self.now at c.args.me c.requires.scheduler
    c.index-self-index.result c.index.result.now c.len.result c.done.result
    (c.len.ensures ∙ ap (λ (x : Items AccessEntry). length x.items) c.index.ensures)
    (c.done.ensures d t at.taken m.lists at.session)
