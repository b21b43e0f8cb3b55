-- A route leaves the walk of its scheduler as it is, and is steady.
use Rattle.std.proofs.Common.{◌≡◌, ℕ, Bool, true, false, List, ◌∷◌, refl, sym, ap, ◌∙◌, inl, inr}
use Rattle.std.specs.Prelude.{Option, Some, None, ◌==◌}
use Rattle.std.proofs.lemmas.Bool.{cases_Bool, eqb-true, true≢false}
use Rattle.ea_model.specs.Content.{Content, is_nil, is_vacant}
use Rattle.ea_model.specs.Instance.{content_of, employed, releasing_at, without_content, owner_of}
use Rattle.ea_model.proofs.Rising.{item_at-key}
use Rattle.ea_model.specs.Abandonment.{is_due}
use Rattle.ea_laws.specs.Kept.{number_of, IsOrderly}
use Rattle.ea_laws.proofs.Orderly.{releasing-IsOrderly}
use Rattle.ea_machine.specs.Releases.{struck}
use Rattle.ea_machine.specs.Searches.{passed}
use Rattle.ea_machine.specs.declared.nodes.Node.{Node}
use Rattle.ea_machine.specs.declared.owners.OwnerWord.{OwnerWord}
use Rattle.ea_machine.specs.declared.owners.OwnerWord.TheVariants as word
use Rattle.ea_machine.specs.declared.stages.Route.{Route}
use Rattle.ea_machine.specs.declared.stages.Route.TheVariants.{Looking, Trying, Settling}
use Rattle.ea_machine.specs.declared.stages.Route.TheVariants.{Abandoning, Sending, Clearing}
use Rattle.ea_machine.specs.declared.stages.Route.TheVariants.{Pushing, Linking}
use Rattle.ea_machine.specs.Actor.{Actor}
use Rattle.ea_machine.specs.declared.tasks.Gone.{Gone}
use Rattle.ea_machine.specs.declared.tasks.Gone.TheVariants.{Here}
use Rattle.ea_machine.specs.declared.nodes.Named.{Named}
use Rattle.ea_machine.specs.Releases.{Turned, abandoned_if, after_release}
use Rattle.ea_machine.specs.Releases.{dismissed, employed_by, first_gone, forwarded, leaving_by}
use Rattle.ea_machine.specs.Releases.{lightened, looked, looked_at, owned_by, pooled_by}
use Rattle.ea_machine.specs.Releases.{release_here, route_of, routed, settled, tried, turned}
use Rattle.ea_machine.specs.Rows.{Answer, Done, Head, Rests, Passes, Saw, Won, Lost, Home, Got}
use Rattle.ea_machine.specs.Setup.{Setup, migration}
use Rattle.ea_sound.specs.Steady.{IsShown, IsSteadyRoute, TellsShown}
use Rattle.ea_sound.proofs.Due.{due-in_hand, due-multi, multi-found}
use Rattle.ea_sound.proofs.Unmoved.{due-unmoved}

module _ (e : Setup) (me : ℕ) where
  abbrev pub IsSteadyNext : ℕ → List Content → Option (Route Content) → Type 0
  IsSteadyNext count cs None = Unit {0}
  IsSteadyNext count cs (Some r) = IsSteadyRoute e me count cs r

  -- a route that began from this walk
  abbrev pub Goes : Option Node → List Node → Turned → Type 0
  Goes next passed t = (t.actor.next ≡ next) × (t.actor.passed ≡ passed)
      × IsSteadyNext t.actor.instance.count t.actor.instance.contents t.route

  leaving-goes : (own on : Bool) (x : Content) (g : Gone) (a : Actor)
      → Goes a.next a.passed (leaving_by e me own on x g a)
  leaving-goes false on x g a = (refl, refl, tt)
  leaving-goes true true x g a = (refl, refl, tt)
  leaving-goes true false x g a = (refl, refl, tt)

  -- where carriers migrate its instance is in order
  abbrev pub OrderlyIf : Actor → Type 0
  OrderlyIf a = migration e ≡ true → IsOrderly a.instance

  -- after a block was released from a carrier
  module _ (x : Content) (a : Actor) (order : OrderlyIf a) (c : ℕ)
      (there : content_of (employed a.instance) c ≡ Some x) where
    abandoned-goes : (due : Bool) (g : Gone)
        → is_due e.settings a.instance.count a.instance.contents x ≡ due
        → Goes a.next a.passed (abandoned_if due x g a)
    abandoned-goes false g due = (refl, refl, tt)
    abandoned-goes true g due = (refl, refl, in_hand) where
      orderly : IsOrderly a.instance
      orderly = elim (cases_Bool (migration e)) [
        | inl on ↦ order on
        | inr off ↦ absurd (true≢false
            (sym due ∙ due-unmoved e a.instance.count a.instance.contents x off))
      ]

      number : x.number ≡ c
      number = item_at-key number_of c x (employed a.instance) there

      in_hand : is_due e.settings a.instance.count
          (x ∷ without_content x.number a.instance.contents) x ≡ true
      in_hand = due-in_hand e.settings a.instance.count x a.instance.contents orderly.rising
          (multi-found a.instance x.number x orderly
          (due-multi e.settings a.instance.count a.instance.contents x due)
          (ap (content_of (employed a.instance)) number ∙ there)) due

    lightened-goes : (vacant : Bool) (g : Gone)
        → Goes a.next a.passed (lightened e me vacant x g a)
    lightened-goes true g =
        leaving-goes (owner_of x.number == me) (migration e) x g (dismissed x.number a)
    lightened-goes false g =
        abandoned-goes (is_due e.settings a.instance.count a.instance.contents x) g refl

  here-goes : (hand : Named) (g : Gone) (a : Actor) → OrderlyIf a
      → Goes a.next a.passed (release_here e me hand g a)
  here-goes hand g a order = by (content_of (employed after.instance) hand.spot.carrier) refl where
    after : Actor
    after = record a { instance = releasing_at a.instance hand.spot }

    by : (o : Option Content) → content_of (employed after.instance) hand.spot.carrier ≡ o
        → Goes a.next a.passed (after_release e me g after o)
    by None q = (refl, refl, tt)
    by (Some x) q = lightened-goes x after
        (λ on. releasing-IsOrderly a.instance hand.spot (order on)) hand.spot.carrier q
        (is_vacant x) (first_gone g Here)

  employed-goes : (mine : Bool) (i : ℕ) (hand : Named) (g : Gone) (a : Actor) → OrderlyIf a
      → Goes a.next a.passed (employed_by e me mine i hand g a)
  employed-goes true i hand g a order = here-goes hand g a order
  employed-goes false i hand g a order = (refl, refl, tt)

  pooled-goes : (mine : Bool) (i largest : ℕ) (hand : Named) (g : Gone) (a : Actor)
      → (i == me) ≡ mine → IsShown e (word.Pooled i largest)
      → Goes a.next a.passed (pooled_by mine i largest hand g a)
  pooled-goes true i largest hand g a q shown =
      (refl, refl, ((largest, ap (λ j. word.Pooled j largest) (eqb-true i me q)), shown))
  pooled-goes false i largest hand g a q shown = (refl, refl, tt)

  looked-goes : (hand : Named) (g : Gone) (a : Actor) (w : OwnerWord) → OrderlyIf a → IsShown e w
      → Goes a.next a.passed (looked e me hand g a w)
  looked-goes hand g a word.Absent order shown = (refl, refl, tt)
  looked-goes hand g a (word.Employed i) order shown = employed-goes (i == me) i hand g a order
  looked-goes hand g a (word.Pooled i largest) order shown =
      pooled-goes (i == me) i largest hand g a refl shown
  looked-goes hand g a (word.Busy i) order shown = (refl, refl, tt)
  looked-goes hand g a (word.Returning i) order shown = (refl, refl, tt)

  looked_at-goes : (hand : Named) (g : Gone) (a : Actor) (r : Answer) → OrderlyIf a → TellsShown e r
      → Goes a.next a.passed (looked_at e me hand g a r)
  looked_at-goes hand g a (Saw w) order shown = looked-goes hand g a w order shown
  looked_at-goes hand g a Done order shown = (refl, refl, tt)
  looked_at-goes hand g a (Head n) order shown = (refl, refl, tt)
  looked_at-goes hand g a Rests order shown = (refl, refl, tt)
  looked_at-goes hand g a (Passes n) order shown = (refl, refl, tt)
  looked_at-goes hand g a (Won x) order shown = (refl, refl, tt)
  looked_at-goes hand g a (Lost w) order shown = (refl, refl, tt)
  looked_at-goes hand g a (Home x) order shown = (refl, refl, tt)
  looked_at-goes hand g a (Got o) order shown = (refl, refl, tt)

  forwarded-goes : (hand : Named) (g : Gone) (a : Actor) (w : OwnerWord)
      → Goes a.next a.passed (forwarded hand g a w)
  forwarded-goes hand g a word.Absent = (refl, refl, tt)
  forwarded-goes hand g a (word.Employed i) = (refl, refl, tt)
  forwarded-goes hand g a (word.Pooled i largest) = (refl, refl, tt)
  forwarded-goes hand g a (word.Busy i) = (refl, refl, tt)
  forwarded-goes hand g a (word.Returning i) = (refl, refl, tt)

  tried-goes : (hand : Named) (g : Gone) (a : Actor) (r : Answer)
      → Goes a.next a.passed (tried hand g a r)
  tried-goes hand g a (Won x) = (refl, refl, tt)
  tried-goes hand g a (Lost w) = forwarded-goes hand g a w
  tried-goes hand g a Done = (refl, refl, tt)
  tried-goes hand g a (Head n) = (refl, refl, tt)
  tried-goes hand g a Rests = (refl, refl, tt)
  tried-goes hand g a (Passes n) = (refl, refl, tt)
  tried-goes hand g a (Saw w) = (refl, refl, tt)
  tried-goes hand g a (Home x) = (refl, refl, tt)
  tried-goes hand g a (Got o) = (refl, refl, tt)

  settled-goes : (empty : Bool) (x : Content) (g : Gone) (a : Actor)
      → Goes a.next a.passed (settled e me empty x g a)
  settled-goes true x g a =
      leaving-goes (owner_of x.number == me) (migration e) x g (struck x.number a)
  settled-goes false x g a = (refl, refl, tt)

  -- a route once its row is answered
  pub turned-goes : (route : Route Content) (g : Gone) (a : Actor) (r : Answer) → OrderlyIf a
      → TellsShown e r
      → Goes a.next a.passed (turned e me route g a r)
  turned-goes (Looking hand) g a r order shown = looked_at-goes hand g a r order shown
  turned-goes (Trying hand seen) g a r order shown = tried-goes hand g a r
  turned-goes (Settling x) g a r order shown = settled-goes (is_nil x.blocks) x g a
  turned-goes (Abandoning x) g a r order shown = (refl, refl, tt)
  turned-goes (Sending x) g a r order shown = (refl, refl, tt)
  turned-goes (Clearing x) g a r order shown = (refl, refl, tt)
  turned-goes (Pushing node to) g a r order shown = (refl, refl, tt)
  turned-goes (Linking node to) g a r order shown = (refl, refl, tt)

  owned-goes : (own : Bool) (hand : Named) (a : Actor) → OrderlyIf a
      → Goes a.next a.passed (owned_by e me own hand a)
  owned-goes true hand a order = here-goes hand _ a order
  owned-goes false hand a order = (refl, refl, tt)

  routed-goes : (on : Bool) (hand : Named) (a : Actor) → migration e ≡ on
      → Goes a.next a.passed (routed e me on hand a)
  routed-goes true hand a m = (refl, refl, tt)
  routed-goes false hand a m = owned-goes (owner_of hand.spot.carrier == me) hand a
      (λ on. absurd (true≢false (sym on ∙ m)))

  -- and as it begins
  pub route-goes : (hand : Named) (a : Actor) → Goes a.next a.passed (route_of e me hand a)
  route-goes hand a = routed-goes (migration e) hand a refl
