-- Steps that plan a multiblock carrier (`Plans`). For want of memory only these steps fail.
use Rattle.std.specs.Prelude.{◌≡◌, ◌≢◌, ℕ, ◌+◌, false, List, IfSome, Ok}
use Rattle.ea_model.specs.declared.carriers.CarrierPlan.{CarrierPlan}
use Rattle.ea_model.specs.declared.settings.Config.{Config}
use Rattle.ea_model.specs.declared.trace.Trace.{Trace}
use Rattle.ea_model.specs.Content.{Content}
use Rattle.ea_model.specs.Instance.{Instance}
use Rattle.ea_model.specs.Instance as instances
use Rattle.ea_machine.specs.declared.asks.Ask.{Ask}
use Rattle.ea_machine.specs.declared.stages.Stage.{Stage}
use Rattle.ea_machine.specs.declared.stages.Stage.TheVariants.{Creating}
use Rattle.ea_machine.specs.Actor.{Actor}
use Rattle.ea_machine.specs.Machine.{run, step}
use Rattle.ea_machine.specs.Placements.{making}
use Rattle.ea_machine.specs.Setup.{Setup, migration, setup_of}
use Rattle.ea_machine.specs.Statistics.{observed}
use Rattle.ea_shared.specs.Calls.{KnowsFront, Told}
use Rattle.ea_sched.specs.declared.state.Scheduler.{Scheduler}
use Rattle.ea_sched.specs.Acting.{setup_for, standing_at}

-- actor `a` has just planned a multiblock carrier for a block that was asked for, the next carrier
-- that the instance creates. Where carriers migrate, it is to create it now; where they don't, it
-- has created it
pub record HasPlanned (setup : Setup) (me : ℕ) (i : Instance) (a : Actor) : Type 0 where
  pub before : Actor
  pub ask : Ask
  pub plan : CarrierPlan
  pub is_plan : instances.plan before.instance ask.need ≡ Ok plan
  pub multi : plan.single ≡ false
  pub next : plan.birth ≡ i.created + 1
  pub is : a ≡ making setup me ask plan before (migration setup)

-- scheduler `me` stands so after these turns of the run, where what is shared is as it is told. The
-- caller, where that is told, knew all of these but the last ones, which were turns of others. The
-- scheduler has no carrier to create there, and by its step it plans a multiblock carrier
pub record Plans (c : Config) (t : Trace) (me : ℕ) (a : Actor) (told : Told) : Type 0 where
  pub turns : List ℕ
  pub actor : (run (setup_of c t) turns).actors me ≡ a
  pub shares : IfSome told.shared (λ s. s ≡ (run (setup_of c t) turns).shared)
  pub calls : IfSome told.caller (KnowsFront (setup_of c t) me turns)
  pub unplanned : (ask : Ask) (plan : CarrierPlan) → a.stage ≢ Creating ask plan
  pub gone_on : Actor
  pub planned : HasPlanned (setup_of c t) me a.instance gone_on
  pub is : (step (setup_of c t) (run (setup_of c t) turns) me).actors me ≡ observed gone_on

-- the scheduler stands so, at a stage
abbrev pub PlansAt : Stage Content → Scheduler → Told → Type 0
PlansAt stage s told = Plans s.config s.trace.now s.number (standing_at stage s) told

-- the actor has planned one that the scheduler's instance is to create next
abbrev pub PlansFrom : Scheduler → Actor → Type 0
PlansFrom s a = HasPlanned (setup_for s) s.number s.instance a
