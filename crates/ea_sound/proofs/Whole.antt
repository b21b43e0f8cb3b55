-- What a scheduler knows by itself of where it is, and what the state keeps, give where it may be.
use Rattle.std.proofs.Common.{◌≡◌, ◌≢◌, ℕ, ◌+◌, ◌≤◌, true, refl, sym, ap, ◌∙◌, subst, inl, inr}
use Rattle.std.proofs.Common.{arith}
use Rattle.ea_model.specs.Content.{Content}
use Rattle.ea_machine.specs.declared.nodes.Node.TheVariants.{Block, Carrier}
use Rattle.ea_machine.specs.declared.stages.Stage.{Stage}
use Rattle.ea_machine.specs.declared.stages.Stage.TheVariants.{Begin, Routed, Collecting, Searching}
use Rattle.ea_machine.specs.declared.stages.Stage.TheVariants.{Fetching, Creating, Giving, Taking}
use Rattle.ea_machine.specs.declared.stages.Stage.TheVariants.{Ended, Ready}
use Rattle.ea_machine.specs.declared.stages.Route.{Route}
use Rattle.ea_machine.specs.declared.stages.Route.TheVariants.{Looking, Trying, Settling}
use Rattle.ea_machine.specs.declared.stages.Route.TheVariants.{Abandoning, Sending, Clearing}
use Rattle.ea_machine.specs.declared.stages.Route.TheVariants.{Pushing, Linking}
use Rattle.ea_machine.specs.Actor.{Actor}
use Rattle.ea_machine.specs.declared.tasks.Why.{Why}
use Rattle.ea_machine.specs.declared.tasks.Gone.{Gone}
use Rattle.ea_machine.specs.declared.asks.Ask.{Ask}
use Rattle.ea_sound.specs.Contents.{seats}
use Rattle.ea_sound.specs.Names.{allocated, made_in, only, to_make, unplaced}
use Rattle.ea_machine.specs.Setup.{Setup, is_scheduler}
use Rattle.ea_machine.specs.State.{State}
use Rattle.ea_sound.specs.Present.{Asked, Fits, FitsRoute, OfAsk}
use Rattle.ea_sound.specs.Rule.{Kept}
use Rattle.ea_sound.proofs.Entries.{ask-made}
use Rattle.ea_sound.proofs.Global.{working-scheduler}
use Rattle.ea_sound.proofs.HandBlocks.{hand-employer, hand-owner}
use Rattle.ea_sound.proofs.NodeSeats.{collecting-home}
use Rattle.ea_sound.proofs.Numbered.{scheduler-seat}
use Rattle.ea_sound.proofs.OtherRows.{MovesBy, route-stays}
use Rattle.ea_sound.proofs.Suits.{Suits, SuitsRoute}
use Rattle.ea_sound.proofs.Totals.{total-part}
use Rattle.ea_sound.proofs.Weights.{one-itself}

-- a name that is still to be made has no block
abbrev pub MakesLater : Setup → State → Type 0
MakesLater e w = (n : ℕ) → allocated e (only n) w + to_make e n w ≤ 1

module _ (e : Setup) (v : State) (k : Kept e v) (later : MakesLater e v) (i : ℕ) where
  scheduler : (stage : Stage Content) → (v.actors i).stage ≡ stage → stage ≢ Ended
      → is_scheduler e i ≡ true
  scheduler stage now works =
      working-scheduler e v k i (λ ended. works (sym now ∙ ended))

  -- a name that is asked for is fresh
  fresh : (ask : Ask) (stage : Stage Content) → (v.actors i).stage ≡ stage → stage ≢ Ended
      → unplaced stage (v.actors i).todo ≡ (v.actors i).todo → OfAsk ask (v.actors i).todo
      → allocated e (only ask.name) v ≡ 0
  fresh ask stage now works left of = omega (
    arith,
    later ask.name,
    total-part (λ (a : Actor). made_in ask.name (unplaced a.stage a.todo)) v.actors i (seats e)
        (scheduler-seat e i (scheduler stage now works)),
    ap (λ st. made_in ask.name (unplaced st (v.actors i).todo)) now,
    ap (made_in ask.name) left,
    ask-made ask (v.actors i).todo of ask.name,
    one-itself ask.name,
  )

  on-route : (route : Route Content) (why : Why) (gone : Gone)
      → (v.actors i).stage ≡ Routed route why gone → SuitsRoute e v.shared i route
      → FitsRoute e v.shared i route
  on-route (Looking hand) why gone now on = (
    hand-employer e v k i (scheduler (Routed (Looking hand) why gone) now (λ z. cc)) hand
        (Routed (Looking hand) why gone) now (λ f. refl) (λ b h. refl) on,
    on,
  )
  on-route (Trying hand seen) why gone now suits = suits
  on-route (Settling x) why gone now suits = suits
  on-route (Abandoning x) why gone now suits = suits
  on-route (Sending x) why gone now suits = suits
  on-route (Clearing x) why gone now suits = suits
  on-route (Pushing (Block n p) to) why gone now suits = (
    suits.0,
    elim suits.1 [
      | inl seat ↦ seat
      | inr off ↦ subst (λ j. is_scheduler e j ≡ true) (sym off.1)
          (hand-owner e v k i (scheduler (Routed (Pushing (Block n p) to) why gone) now (λ z. cc))
          (record { name = n; spot = p }) (Routed (Pushing (Block n p) to) why gone) now
          (λ f. refl))
    ],
  )
  on-route (Pushing (Carrier c) to) why gone now suits = suits
  on-route (Linking node to) why gone now suits = suits

  -- of the scheduler that did the row
  pub whole : (R : Actor → Type 0) → ((a : Actor) → R a → ⊥) → (stage : Stage Content)
      → (v.actors i).stage ≡ stage → Suits e v.shared i R (v.actors i) stage
      → Fits e v i (v.actors i) stage
  whole R never Begin now s = tt
  whole R never (Routed r y g) now s = (on-route r y g now s.0, s.1)
  whole R never (Collecting c) now s =
      let home = collecting-home e v k i
      (scheduler-seat e i (scheduler (Collecting c) now (λ z. cc))) c now in
      sym (k.returns.to_owner c i home.0 home.1).0
  whole R never (Searching ask n part) now s = (
    record {
      of = s.0.0;
      old = s.0.1;
      fresh = fresh ask (Searching ask n part) now (λ z. cc) refl s.0.0;
    },
    s.1,
    s.2,
    s.3,
    s.4,
    s.5,
  )
  whole R never (Fetching ask n part seen) now s = (
    record {
      of = s.0.0;
      old = s.0.1;
      fresh = fresh ask (Fetching ask n part seen) now (λ z. cc) refl s.0.0;
    },
    s.1,
    s.2,
    s.3,
    s.4,
    s.5,
  )
  whole R never (Creating ask p) now s = (
    record {
      of = s.0.0;
      old = s.0.1;
      fresh = fresh ask (Creating ask p) now (λ z. cc) refl s.0.0;
    },
    s.1,
    s.2,
    s.3,
  )
  whole R never (Giving given to) now s = s
  whole R never (Taking name tries left) now s = s
  whole R never Ended now s = s
  whole R never Ready now s = absurd (never (v.actors i) s)

  -- and of the others
  module _ (w : State) (me : ℕ) (other : i ≢ me) (was : Kept e w)
      (same : v.actors i ≡ w.actors i)
      (moves : (d : ℕ) → MovesBy me (v.shared.places d) (w.shared.places d)) where
    asked-stays : (ask : Ask) (stage : Stage Content) → (v.actors i).stage ≡ stage → stage ≢ Ended
        → unplaced stage (v.actors i).todo ≡ (v.actors i).todo → Asked e w (v.actors i) ask
        → Asked e v (v.actors i) ask
    asked-stays ask stage now works left asked = record {
      of = asked.of;
      old = asked.old;
      fresh = fresh ask stage now works left asked.of;
    }

    fits-by : (stage : Stage Content) → (v.actors i).stage ≡ stage → Fits e w i (v.actors i) stage
        → Fits e v i (v.actors i) stage
    fits-by Begin now f = f
    fits-by (Routed r y g) now f = (
      route-stays e w v me i other was k same moves y g r
          (ap (λ (a : Actor). a.stage) (sym same) ∙ now) f.0,
      f.1,
    )
    fits-by (Collecting c) now f = f
    fits-by (Searching ask n part) now f = (
      asked-stays ask (Searching ask n part) now (λ z. cc) refl f.0,
      f.1,
      f.2,
      f.3,
      f.4,
      f.5,
    )
    fits-by (Fetching ask n part seen) now f = (
      asked-stays ask (Fetching ask n part seen) now (λ z. cc) refl f.0,
      f.1,
      f.2,
      f.3,
      f.4,
      f.5,
    )
    fits-by (Creating ask p) now f =
        (asked-stays ask (Creating ask p) now (λ z. cc) refl f.0, f.1, f.2, f.3)
    fits-by (Giving given to) now f = f
    fits-by (Taking name tries left) now f = f
    fits-by Ended now f = f
    fits-by Ready now f = f

    pub fits-stays : Fits e w i (w.actors i) (w.actors i).stage
        → Fits e v i (v.actors i) (v.actors i).stage
    fits-stays f = fits-by (v.actors i).stage refl
        (subst (λ (a : Actor). Fits e w i a a.stage) (sym same) f)
