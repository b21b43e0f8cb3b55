use Rattle.std.proofs.Common.{[], ◌∷◌, ◌++◌, ap, ◌∙◌}
use Rattle.std.proofs.lemmas.Result.{on_ok_weaker}
use Rattle.ea_contents.proofs.Adding.{adds}
use Rattle.ea_contents.proofs.accesses.add.Goals as goal

pub returns : goal.returns
returns c = on_ok_weaker c.push.result (λ e. adds c.args.lists.now.items c.args.scheduler
    c.args.placed c.push.new.self c.index_mut.result.now
    (e ∙ ap (λ l. l.items ++ c.args.placed ∷ []) c.index_mut.ensures.value)) c.push.ensures.ok
