-- Where a scheduler is that wants a row.
use Rattle.std.proofs.Common.{◌≡◌, ℕ, Option, None, Some, refl, subst}
use Rattle.ea_model.specs.Content.{Content}
use Rattle.ea_machine.specs.declared.nodes.Named.{Named}
use Rattle.ea_machine.specs.declared.nodes.Node.{Node}
use Rattle.ea_machine.specs.declared.tasks.Gone.{Gone}
use Rattle.ea_machine.specs.declared.tasks.Why.{Why}
use Rattle.ea_machine.specs.declared.stages.Stage.{Stage}
use Rattle.ea_machine.specs.declared.stages.Stage.TheVariants.{Begin, Routed, Collecting, Searching}
use Rattle.ea_machine.specs.declared.stages.Stage.TheVariants.{Fetching, Creating, Giving, Taking}
use Rattle.ea_machine.specs.declared.stages.Stage.TheVariants.{Ended, Ready}
use Rattle.ea_machine.specs.declared.stages.Route.{Route}
use Rattle.ea_machine.specs.declared.stages.Route.TheVariants.{Looking, Trying, Settling}
use Rattle.ea_machine.specs.declared.stages.Route.TheVariants.{Abandoning, Sending, Clearing}
use Rattle.ea_machine.specs.declared.stages.Route.TheVariants.{Pushing, Linking}
use Rattle.ea_machine.specs.Actor.{Actor}
use Rattle.ea_machine.specs.Machine.{begins, wants, wants_at, wants_on}
use Rattle.ea_machine.specs.Rows.{Row, Push, Link, Give}

-- what a row is told apart by
abbrev Told : Row → Stage Content → Type 0
Told (Push node to) stage =
    (why : Why) × (gone : Gone) × (stage ≡ Routed (Pushing node to) why gone)
Told (Link node to) stage =
    (why : Why) × (gone : Gone) × (stage ≡ Routed (Linking node to) why gone)
Told (Give given) stage = (to : ℕ) × (stage ≡ Giving given to)
Told row stage = Unit {0}

told-begins : (next : Option Node) → Told (begins next) Begin
told-begins None = tt
told-begins (Some node) = tt

told-on : (route : Route Content) (why : Why) (gone : Gone)
    → Told (wants_on route) (Routed route why gone)
told-on (Looking hand) why gone = tt
told-on (Trying hand seen) why gone = tt
told-on (Settling x) why gone = tt
told-on (Abandoning x) why gone = tt
told-on (Sending x) why gone = tt
told-on (Clearing x) why gone = tt
told-on (Pushing node to) why gone = (why, gone, refl)
told-on (Linking node to) why gone = (why, gone, refl)

told-at : (next : Option Node) (stage : Stage Content) → Told (wants_at next stage) stage
told-at next Begin = told-begins next
told-at next (Routed route why gone) = told-on route why gone
told-at next (Collecting number) = tt
told-at next (Searching ask at part) = tt
told-at next (Fetching ask at part seen) = tt
told-at next (Creating ask p) = tt
told-at next (Giving given to) = (to, refl)
told-at next (Taking name tries left) = tt
told-at next Ended = tt
told-at next Ready = tt

module _ (a : Actor) where
  pub pushes : (node : Node) (to : ℕ) → wants a ≡ Push node to
      → (why : Why) × (gone : Gone) × (a.stage ≡ Routed (Pushing node to) why gone)
  pushes node to wanted = subst (λ row. Told row a.stage) wanted (told-at a.next a.stage)

  pub links : (node : Node) (to : ℕ) → wants a ≡ Link node to
      → (why : Why) × (gone : Gone) × (a.stage ≡ Routed (Linking node to) why gone)
  links node to wanted = subst (λ row. Told row a.stage) wanted (told-at a.next a.stage)

  pub gives : (given : Named) → wants a ≡ Give given → (to : ℕ) × (a.stage ≡ Giving given to)
  gives given wanted = subst (λ row. Told row a.stage) wanted (told-at a.next a.stage)
