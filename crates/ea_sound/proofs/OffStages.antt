-- Where a scheduler is where carriers don't migrate: nothing that it wants reads an owner word or
-- takes the content of a carrier into its hand.
use Rattle.std.proofs.Common.{◌≡◌, ℕ, true, false, refl, sym, ap, ◌∙◌, subst, inl, inr}
use Rattle.std.proofs.lemmas.Bool.{true≢false}
use Rattle.ea_model.specs.Content.{Content}
use Rattle.ea_machine.specs.declared.owners.OwnerWord.{OwnerWord}
use Rattle.ea_machine.specs.declared.owners.OwnerWord.TheVariants as word
use Rattle.ea_machine.specs.declared.stages.Route.{Route}
use Rattle.ea_machine.specs.declared.stages.Route.TheVariants.{Looking, Trying, Settling}
use Rattle.ea_machine.specs.declared.stages.Route.TheVariants.{Abandoning, Sending, Clearing}
use Rattle.ea_machine.specs.declared.stages.Route.TheVariants.{Pushing, Linking}
use Rattle.ea_machine.specs.declared.stages.Stage.{Stage}
use Rattle.ea_machine.specs.declared.stages.Stage.TheVariants.{Begin, Routed, Collecting, Searching}
use Rattle.ea_machine.specs.declared.stages.Stage.TheVariants.{Fetching, Creating, Giving, Taking}
use Rattle.ea_machine.specs.declared.stages.Stage.TheVariants.{Ended, Ready}
use Rattle.ea_machine.specs.Owners.{CarrierAt, Absent, Returning, word_of}
use Rattle.ea_machine.specs.Setup.{Setup, is_scheduler, migration}
use Rattle.ea_machine.specs.State.{State}
use Rattle.ea_sound.specs.Present.{Fits, FitsRoute, HasOther, Rule, StillPooled}
use Rattle.ea_sound.proofs.NodeSeats.{collecting-home}
use Rattle.ea_sound.proofs.Numbered.{scheduler-seat}

-- a route on which a node is pushed and linked
abbrev pub IsOffRoute : Route Content → Type 0
IsOffRoute (Looking hand) = ⊥
IsOffRoute (Trying hand seen) = ⊥
IsOffRoute (Settling x) = ⊥
IsOffRoute (Abandoning x) = ⊥
IsOffRoute (Sending x) = ⊥
IsOffRoute (Clearing x) = ⊥
IsOffRoute (Pushing node to) = Unit {0}
IsOffRoute (Linking node to) = Unit {0}

-- a stage that comes without migration
abbrev pub IsOffStage : Stage Content → Type 0
IsOffStage Begin = Unit {0}
IsOffStage (Routed route why gone) = IsOffRoute route
IsOffStage (Collecting number) = ⊥
IsOffStage (Searching ask at part) = ⊥
IsOffStage (Fetching ask at part seen) = ⊥
IsOffStage (Creating ask p) = ⊥
IsOffStage (Giving given to) = Unit {0}
IsOffStage (Taking name tries left) = Unit {0}
IsOffStage Ended = Unit {0}
IsOffStage Ready = ⊥

still-absent : (me : ℕ) (seen : OwnerWord) (p : CarrierAt) → p ≡ Absent → StillPooled me seen p → ⊥
still-absent me seen p absent still =
    let never : word.Absent ≡ word.Pooled me still.1.0 =
    ap word_of (sym absent) ∙ still.0 ∙ still.1.1 in cc

module _ (e : Setup) (w : State) (rule : Rule e w) (me : ℕ) (is : is_scheduler e me ≡ true)
    (off : migration e ≡ false) where
  never-on : migration e ≡ true → ⊥
  never-on on = true≢false (sym on ∙ off)

  absent : (c : ℕ) → w.shared.places c ≡ Absent
  absent = rule.kept.placed.off off

  off-route : (route : Route Content) → FitsRoute e w.shared me route → IsOffRoute route
  off-route (Looking hand) fits = never-on fits.1
  off-route (Trying hand seen) fits = elim fits [
    | inl still ↦ still-absent me seen _ (absent hand.spot.carrier) still
    | inr other ↦ subst (HasOther me) (absent hand.spot.carrier) other
  ]
  off-route (Settling x) fits = never-on fits.1
  off-route (Abandoning x) fits = never-on fits.2
  off-route (Sending x) fits = never-on fits.3
  off-route (Clearing x) fits = never-on fits.3
  off-route (Pushing node to) fits = tt
  off-route (Linking node to) fits = tt

  off-stage : (stage : Stage Content) → (w.actors me).stage ≡ stage
      → Fits e w me (w.actors me) stage → IsOffStage stage
  off-stage Begin now fits = tt
  off-stage (Routed route why gone) now fits = off-route route fits.0
  off-stage (Collecting number) now fits =
      let (x, home) = collecting-home e w rule.kept me (scheduler-seat e me is) number now in
      let never : Absent ≡ Returning me x = sym (absent number) ∙ home in cc
  off-stage (Searching ask at part) now fits = never-on fits.4
  off-stage (Fetching ask at part seen) now fits = never-on fits.3
  off-stage (Creating ask p) now fits = never-on fits.2
  off-stage (Giving given to) now fits = tt
  off-stage (Taking name tries left) now fits = tt
  off-stage Ended now fits = tt
  off-stage Ready now fits = fits

  -- the stage of a scheduler
  pub is-off : IsOffStage (w.actors me).stage
  is-off = off-stage (w.actors me).stage refl (rule.present.fits me)
