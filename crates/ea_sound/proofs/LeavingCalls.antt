-- What the calls of a scheduler on a carrier that leaves its instance ask for, in each reached
-- state: one that is abandoned, sent home or cleared has a number, its word says that the scheduler
-- employs it, its instance has it no longer, and it is as its kind and its blocks let it go.
use Rattle.std.proofs.Common.{◌≡◌, ◌≢◌, ℕ, true, [], refl, sym, ap, ◌∙◌, subst}
use Rattle.std.proofs.Common.{arith}
use Rattle.std.specs.Prelude.{Option, None, Some}
use Rattle.ea_model.specs.declared.carriers.Kind.TheVariants.{Multi}
use Rattle.ea_model.specs.declared.settings.Config.{Config}
use Rattle.ea_model.specs.declared.trace.Trace.{Trace}
use Rattle.ea_model.specs.Content.{Content, gaps_of, largest}
use Rattle.ea_model.specs.Instance.{content_of, employed, owner_of}
use Rattle.ea_model.specs.Settings.{IsValidConfig}
use Rattle.ea_model.specs.Trace.{IsScheduler, IsValidTrace}
use Rattle.ea_laws.specs.Kept.{IsLaidOut}
use Rattle.ea_machine.specs.declared.tasks.Gone.{Gone}
use Rattle.ea_machine.specs.declared.tasks.Why.{Why}
use Rattle.ea_machine.specs.declared.stages.Stage.{Stage}
use Rattle.ea_machine.specs.declared.stages.Stage.TheVariants.{Routed}
use Rattle.ea_machine.specs.declared.stages.Route.TheVariants.{Abandoning, Clearing, Sending}
use Rattle.ea_machine.specs.Actor.{Actor}
use Rattle.ea_machine.specs.Machine.{IsReached}
use Rattle.ea_machine.specs.Owners.{Absent, Employed}
use Rattle.ea_machine.specs.Setup.{Setup, migration, setup_of}
use Rattle.ea_machine.specs.State.{State}
use Rattle.ea_sound.specs.Contents.{InHand, hand_sum}
use Rattle.ea_sound.specs.Places.{IsNumber, has_number, none}
use Rattle.ea_sound.specs.Present.{Fits, Rule}
use Rattle.ea_sound.specs.Ranges.{IsLaidOutAsKind}
use Rattle.ea_sound.specs.Rule.{Kept}
use Rattle.ea_machine.specs.Words.{IsLargest}
use Rattle.ea_sound.proofs.Asked.{reached-rule}
use Rattle.ea_sound.proofs.CarrierCalls.{there-number}
use Rattle.ea_sound.proofs.Employers.{employed-once, employed-place, found-one, found-weighs}
use Rattle.ea_sound.proofs.HandRows.{multi-laid}
use Rattle.ea_sound.proofs.LargestGaps.{laid-largest}
use Rattle.ea_sound.proofs.Weights.{one-itself}

module _ (c : Config) (t : Trace) (valid : IsValidConfig c)
    (made : IsValidTrace c.schedulers t) (w : State) (reached : IsReached (setup_of c t) w)
    (me : ℕ) (number : IsScheduler c.schedulers me) where
  abbrev e : Setup
  e = setup_of c t

  abbrev a : Actor
  a = w.actors me

  rule : Rule e w
  rule = reached-rule c t valid made w reached

  k : Kept e w
  k = rule.kept

  fits : (stage : Stage Content) → a.stage ≡ stage → Fits e w me a stage
  fits stage now = subst (Fits e w me a) now (rule.present.fits me)

  -- the content is in the hand, and still employed
  module _ (x : Content) (leaves : (b h : Content → ℕ) → hand_sum b h a.stage ≡ h x)
      (on : migration e ≡ true) where
    leaving-place : w.shared.places x.number ≡ Employed me
    leaving-place = employed-place e w k me x.number
        (omega (arith, leaves none (has_number x.number), one-itself x.number)) on

    leaving-number : IsNumber e x.number
    leaving-number = there-number c t valid made w reached x.number
        (λ q. let never : Employed me ≡ Absent = sym leaving-place ∙ q in cc)

    leaving-none : content_of (employed a.instance) x.number ≡ None
    leaving-none = by (content_of (employed a.instance) x.number) refl where
      by : (o : Option Content) → content_of (employed a.instance) x.number ≡ o → o ≡ None
      by None q = refl
      by (Some y) q = absurd (omega (
        arith,
        employed-once e w k x.number me leaving-place,
        leaves none (has_number x.number),
        one-itself x.number,
        found-one x.number y a.instance q,
        found-weighs (has_number x.number) x.number y a.instance q,
      ))

  module _ (why : Why) (gone : Gone) (x : Content) where
    -- a carrier that is abandoned
    module _ (now : a.stage ≡ Routed (Abandoning x) why gone) where
      abandons : Fits e w me a (Routed (Abandoning x) why gone)
      abandons = fits (Routed (Abandoning x) why gone) now

      pub abandon-many : x.kind ≡ Multi
      abandon-many = abandons.0.0

      pub abandon-some : x.blocks ≢ []
      abandon-some = abandons.0.1

      pub abandon-place : w.shared.places x.number ≡ Employed me
      abandon-place = leaving-place x (λ b h. ap (hand_sum b h) now) abandons.0.2

      pub abandon-number : IsNumber e x.number
      abandon-number = leaving-number x (λ b h. ap (hand_sum b h) now) abandons.0.2

      pub abandon-laid : IsLaidOut x
      abandon-laid = multi-laid x abandon-many
          (subst (InHand IsLaidOut IsLaidOutAsKind) now (k.ranges.hand_laid me))

      pub abandon-largest : IsLargest (largest (gaps_of x))
      abandon-largest = laid-largest x abandon-laid

    -- one that is sent home
    module _ (now : a.stage ≡ Routed (Sending x) why gone) where
      sends : Fits e w me a (Routed (Sending x) why gone)
      sends = fits (Routed (Sending x) why gone) now

      pub send-many : x.kind ≡ Multi
      send-many = sends.0.0

      pub send-empty : x.blocks ≡ []
      send-empty = sends.0.1

      pub send-other : owner_of x.number ≢ me
      send-other = sends.0.2

      pub send-place : w.shared.places x.number ≡ Employed me
      send-place = leaving-place x (λ b h. ap (hand_sum b h) now) sends.0.3

      pub send-number : IsNumber e x.number
      send-number = leaving-number x (λ b h. ap (hand_sum b h) now) sends.0.3

    -- one that is cleared
    module _ (now : a.stage ≡ Routed (Clearing x) why gone) where
      clears : Fits e w me a (Routed (Clearing x) why gone)
      clears = fits (Routed (Clearing x) why gone) now

      pub clear-mine : owner_of x.number ≡ me
      clear-mine = clears.0.2

      pub clear-place : w.shared.places x.number ≡ Employed me
      clear-place = leaving-place x (λ b h. ap (hand_sum b h) now) clears.0.3

      pub clear-number : IsNumber e x.number
      clear-number = leaving-number x (λ b h. ap (hand_sum b h) now) clears.0.3

      pub clear-none : content_of (employed a.instance) x.number ≡ None
      clear-none = leaving-none x (λ b h. ap (hand_sum b h) now) clears.0.3
