use Rattle.std.proofs.Common.{refl, ap, ◌∙◌, [], ◌∷◌, ◌++◌}
use Rattle.std.proofs.lemmas.Result.{on_ok_weaker}
use Rattle.ea_model.specs.Lists.{Items}
use Rattle.ea_contents.specs.declared.access.AccessEntry.{AccessEntry}
use Rattle.ea_contents.proofs.Plays.{made-stands}
use Rattle.ea_contents.proofs.playing.Play.make.Goals as goal

pub returns : goal.returns
returns c = on_ok_weaker c.push.result (λ more. λ d t ss m at.
    made-stands d t ss m c.args.self.now at c.args.me c.requires.scheduler _ c.args.next
    c.access-entry.result c.push.new.self c.index_mut.result.now refl refl
    (more ∙ ap (λ (x : Items AccessEntry). x.items ++ c.access-entry.result ∷ [])
    c.index_mut.ensures.value) c.access-entry.ensures.told c.access-entry.ensures.made
    (c.requires.waits d t ss m at)) c.push.ensures.ok
