-- Once it is settled what became of a block, a release route leaves it so.
use Rattle.std.proofs.Common.{◌≡◌, ◌⊎◌, ℕ, Bool, true, false, refl, ◌∙◌, inl, inr}
use Rattle.std.specs.Prelude.{Option, Some, None, ◌==◌}
use Rattle.ea_model.specs.Abandonment.{is_due}
use Rattle.ea_model.specs.Content.{Content, is_nil, is_vacant}
use Rattle.ea_model.specs.Instance.{content_of, employed, releasing_at, owner_of}
use Rattle.ea_machine.specs.Actor.{Actor}
use Rattle.ea_machine.specs.Releases.{Turned, abandoned_if, after_release}
use Rattle.ea_machine.specs.Releases.{dismissed, employed_by, first_gone, forwarded, leaving_by}
use Rattle.ea_machine.specs.Releases.{lightened, looked, looked_at, pooled_by, release_here}
use Rattle.ea_machine.specs.Releases.{settled, struck, tried, turned}
use Rattle.ea_machine.specs.Rows.{Answer, Done, Got, Head, Home, Lost, Passes, Rests, Saw, Won}
use Rattle.ea_machine.specs.Setup.{Setup, migration}
use Rattle.ea_machine.specs.declared.nodes.Named.{Named}
use Rattle.ea_machine.specs.declared.owners.OwnerWord.{OwnerWord}
use Rattle.ea_machine.specs.declared.owners.OwnerWord.TheVariants as word
use Rattle.ea_machine.specs.declared.stages.Route.{Route}
use Rattle.ea_machine.specs.declared.stages.Route.TheVariants.{Looking, Trying, Settling}
use Rattle.ea_machine.specs.declared.stages.Route.TheVariants.{Abandoning, Sending, Clearing}
use Rattle.ea_machine.specs.declared.stages.Route.TheVariants.{Pushing, Linking}
use Rattle.ea_machine.specs.declared.tasks.Gone.{Gone}
use Rattle.ea_machine.specs.declared.tasks.Gone.TheVariants.{Here, Open, Queued}

-- what comes after it doesn't count
abbrev pub IsSettled : Gone → Type 0
IsSettled gone = (now : Gone) → first_gone gone now ≡ gone

-- a block was released: that is settled, or the route is over with it
abbrev pub IsReleased : Turned → Type 0
IsReleased t = (t.gone ≡ Here) ⊎ ((t.gone ≡ Open) × (t.route ≡ None))

module _ (e : Setup) (me : ℕ) where
  -- a carrier that leaves, or is abandoned
  leaving-gone : (own on : Bool) (x : Content) (g : Gone) (a : Actor)
      → (leaving_by e me own on x g a).gone ≡ g
  leaving-gone false on x g a = refl
  leaving-gone true true x g a = refl
  leaving-gone true false x g a = refl

  abandoned-gone : (b : Bool) (x : Content) (g : Gone) (a : Actor)
      → (abandoned_if b x g a).gone ≡ g
  abandoned-gone true x g a = refl
  abandoned-gone false x g a = refl

  lightened-gone : (b : Bool) (x : Content) (g : Gone) (a : Actor)
      → (lightened e me b x g a).gone ≡ g
  lightened-gone true x g a =
      leaving-gone (owner_of x.number == me) (migration e) x g (dismissed x.number a)
  lightened-gone false x g a =
      abandoned-gone (is_due e.settings a.instance.count a.instance.contents x) x g a

  -- a block that nothing became of is released
  after-released : (a : Actor) (o : Option Content) → IsReleased (after_release e me Open a o)
  after-released a None = inr (refl, refl)
  after-released a (Some x) = inl (lightened-gone (is_vacant x) x Here a)

  pub here-released : (h : Named) (a : Actor) → IsReleased (release_here e me h Open a)
  here-released h a =
      after-released (record a { instance = releasing_at a.instance h.spot })
      (content_of (employed (releasing_at a.instance h.spot)) h.spot.carrier)

  -- what is settled stays so
  module _ (g : Gone) (is : IsSettled g) where
    after-gone : (a : Actor) (o : Option Content) → (after_release e me g a o).gone ≡ g
    after-gone a None = refl
    after-gone a (Some x) = lightened-gone (is_vacant x) x (first_gone g Here) a ∙ is Here

    here-gone : (h : Named) (a : Actor) → (release_here e me h g a).gone ≡ g
    here-gone h a = after-gone (record a { instance = releasing_at a.instance h.spot })
        (content_of (employed (releasing_at a.instance h.spot)) h.spot.carrier)

    employed-gone : (b : Bool) (i : ℕ) (h : Named) (a : Actor)
        → (employed_by e me b i h g a).gone ≡ g
    employed-gone true i h a = here-gone h a
    employed-gone false i h a = is (Queued i)

    pooled-gone : (b : Bool) (i l : ℕ) (h : Named) (a : Actor)
        → (pooled_by b i l h g a).gone ≡ g
    pooled-gone true i l h a = refl
    pooled-gone false i l h a = is (Queued i)

    looked-gone : (h : Named) (a : Actor) (v : OwnerWord) → (looked e me h g a v).gone ≡ g
    looked-gone h a word.Absent = refl
    looked-gone h a (word.Employed i) = employed-gone (i == me) i h a
    looked-gone h a (word.Pooled i l) = pooled-gone (i == me) i l h a
    looked-gone h a (word.Busy i) = is (Queued i)
    looked-gone h a (word.Returning i) = refl

    forwarded-gone : (h : Named) (a : Actor) (v : OwnerWord) → (forwarded h g a v).gone ≡ g
    forwarded-gone h a word.Absent = refl
    forwarded-gone h a (word.Employed i) = is (Queued i)
    forwarded-gone h a (word.Pooled i l) = is (Queued i)
    forwarded-gone h a (word.Busy i) = is (Queued i)
    forwarded-gone h a (word.Returning i) = refl

    settled-gone : (b : Bool) (x : Content) (a : Actor) → (settled e me b x g a).gone ≡ g
    settled-gone true x a =
        leaving-gone (owner_of x.number == me) (migration e) x g (struck x.number a)
    settled-gone false x a = refl

    looked_at-gone : (h : Named) (a : Actor) (r : Answer) → (looked_at e me h g a r).gone ≡ g
    looked_at-gone h a (Saw v) = looked-gone h a v
    looked_at-gone h a Done = refl
    looked_at-gone h a (Head n) = refl
    looked_at-gone h a Rests = refl
    looked_at-gone h a (Passes n) = refl
    looked_at-gone h a (Won x) = refl
    looked_at-gone h a (Lost v) = refl
    looked_at-gone h a (Home x) = refl
    looked_at-gone h a (Got p) = refl

    tried-gone : (h : Named) (a : Actor) (r : Answer) → (tried h g a r).gone ≡ g
    tried-gone h a (Won x) = is Here
    tried-gone h a (Lost v) = forwarded-gone h a v
    tried-gone h a (Saw v) = refl
    tried-gone h a Done = refl
    tried-gone h a (Head n) = refl
    tried-gone h a Rests = refl
    tried-gone h a (Passes n) = refl
    tried-gone h a (Home x) = refl
    tried-gone h a (Got p) = refl

    pub turned-gone : (r : Route Content) (a : Actor) (z : Answer)
        → (turned e me r g a z).gone ≡ g
    turned-gone (Looking h) a z = looked_at-gone h a z
    turned-gone (Trying h seen) a z = tried-gone h a z
    turned-gone (Settling x) a z = settled-gone (is_nil x.blocks) x a
    turned-gone (Abandoning x) a z = refl
    turned-gone (Sending x) a z = refl
    turned-gone (Clearing x) a z = refl
    turned-gone (Pushing node to) a z = refl
    turned-gone (Linking node to) a z = refl
