use Rattle.std.proofs.Common.{◌∷◌, ◌++◌, [], ap, ◌∙◌}
use Rattle.ea_model.proofs.Filed.{added}
use Rattle.ea_model.proofs.logs.Log.push_within.Goals as goal

pub returns-clause-items : goal.returns-clause-items
returns-clause-items c =
    let rs = c.self.inside.reports.items in
    let es = c.self.inside.entries.items in
    rw c.file.ensures.items (rw c.push_within.ensures.items (rw c.kept.ensures
    (rw c.len-at.ensures (added rs es c.args.entry c.self.invariant
    ∙ ap (λ v. v.items ++ c.args.entry ∷ []) c.self.view_is))))
