use Rattle.std.proofs.Common.{◌∙◌, ap, sym}
use Rattle.std.specs.Prelude.{not}
use Rattle.ea_model.specs.Strategies.{choice_empty, may_miss}
use Rattle.ea_employed.specs.Listed.{CarrierList}
use Rattle.ea_employed.proofs.Choosing.{or_else-missed}
use Rattle.ea_employed.proofs.carriers.Carriers.or_empty.Goals as goal

pub returns-then-may_miss-clause-chosen : goal.returns-then-may_miss-clause-chosen
returns-then-may_miss-clause-chosen c =
    c.lowest_empty.ensures.chosen ∙ ap (choice_empty c.args.need) (c.deref.ensures.value
    ∙ ap (λ (l : CarrierList). l.contents) c.self.view_is)
    ∙ sym (or_else-missed c.args.self.now.strategy c.args.found _
    (c.is_none.ensures ∙ ap not c.if-is_none.true)
    (ap (λ (l : CarrierList). may_miss l.strategy) (sym c.self.view_is)
    ∙ sym c.may_miss.ensures ∙ c.if-may_miss.true))
