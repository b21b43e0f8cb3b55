-- Carriers that are prepared: their memory is taken, and they are not employed yet.
use Rattle.ea_model.specs.declared.carriers.CarrierPlan.{CarrierPlan}
use Rattle.ea_model.specs.declared.carriers.Kind.TheVariants.{Multi}
use Rattle.ea_model.specs.Content.{Content}
use Rattle.ea_model.specs.Instance.{created_content, owner_of}

-- the multiblock carrier of a plan, without blocks
abbrev pub planned_content : CarrierPlan → Content
planned_content plan = created_content (owner_of plan.number) Multi plan
