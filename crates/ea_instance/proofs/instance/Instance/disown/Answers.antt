use Rattle.std.proofs.Common.{ap, ◌∙◌}
use Rattle.ea_model.specs.Instance.{Instance, content_of, employed, own_at}
use Rattle.ea_model.proofs.Options.{some_value}
use Rattle.ea_instance.proofs.Keeping.{kept-disowned}
use Rattle.ea_instance.proofs.instance.Instance.disown.Goals as goal

pub invariant_of-self : goal.invariant_of-self
invariant_of-self c =
    let n = c.args.number in
    let (o, there) = some_value (own_at c.args.self.now.own n) c.requires.own in
    kept-disowned _ _ _ _ _ _ _ c.self.invariant n o
    (ap (λ (i : Instance). own_at i.own n) c.self.view_is ∙ there)
    (ap (λ i. content_of (employed i) n) c.self.view_is ∙ c.requires.not_here) _ c.remove.ensures
