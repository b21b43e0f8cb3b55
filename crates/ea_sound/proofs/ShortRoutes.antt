-- Release routes are short, and leave alone what is no part of them.
use Rattle.std.proofs.Common.{◌≡◌, ℕ, ◌<◌, ◌≤◌, Bool, true, false, refl, ◌∙◌, arith}
use Rattle.std.specs.Prelude.{Option, Some, None, ◌==◌}
use Rattle.ea_model.specs.Content.{Content, is_nil, is_vacant}
use Rattle.ea_model.specs.Instance.{content_of, employed, releasing_at, owner_of}
use Rattle.ea_model.specs.Abandonment.{is_due}
use Rattle.ea_machine.specs.Releases.{struck}
use Rattle.ea_machine.specs.declared.owners.OwnerWord.{OwnerWord}
use Rattle.ea_machine.specs.declared.owners.OwnerWord.TheVariants as word
use Rattle.ea_machine.specs.declared.stages.Route.{Route}
use Rattle.ea_machine.specs.declared.stages.Route.TheVariants.{Looking, Trying, Settling}
use Rattle.ea_machine.specs.declared.stages.Route.TheVariants.{Abandoning, Sending, Clearing}
use Rattle.ea_machine.specs.declared.stages.Route.TheVariants.{Pushing, Linking}
use Rattle.ea_machine.specs.Actor.{Actor}
use Rattle.ea_machine.specs.declared.tasks.Gone.{Gone}
use Rattle.ea_machine.specs.declared.tasks.Gone.TheVariants.{Open, Here}
use Rattle.ea_machine.specs.Completion.{route_rows}
use Rattle.ea_machine.specs.declared.nodes.Named.{Named}
use Rattle.ea_machine.specs.Releases.{Turned, abandoned_if, after_release}
use Rattle.ea_machine.specs.Releases.{employed_by, first_gone, forwarded, leaving_by, lightened}
use Rattle.ea_machine.specs.Releases.{looked, looked_at, owned_by, pooled_by, release_here}
use Rattle.ea_machine.specs.Releases.{route_of, routed, settled, tried, turned}
use Rattle.ea_machine.specs.Rows.{Answer, Done, Head, Rests, Passes, Saw, Won, Lost, Home, Got}
use Rattle.ea_machine.specs.Setup.{Setup, migration}

-- the rows of a route that is left, if one is
abbrev pub some_rows : Option (Route Content) → ℕ
some_rows None = 0
some_rows (Some r) = route_rows r

-- what a route leaves alone of a: its walk, the operations left, the log, the settings, the held
-- names, how many carriers it created, and the figures that were observed
abbrev pub Same : Actor → Actor → Type 0
Same a b = (b.passed ≡ a.passed) × (b.next ≡ a.next) × (b.todo ≡ a.todo) × (b.log ≡ a.log)
    × (b.instance.settings ≡ a.instance.settings) × (b.held ≡ a.held)
    × (b.instance.created ≡ a.instance.created) × (b.mbcs ≡ a.mbcs) × (b.sbcs ≡ a.sbcs)

same : (a : Actor) → Same a a
same a = (refl, refl, refl, refl, refl, refl, refl, refl, refl)

-- a route of at most k rows is left
abbrev pub Short : ℕ → Actor → Turned → Type 0
Short k a t = (some_rows t.route ≤ k) × Same a t.actor

longer : (j k : ℕ) (a : Actor) (t : Turned) → j ≤ k → Short j a t → Short k a t
longer j k a t l h = (omega (arith, l, h.0), h.1)

-- b has the operations left, the log and the settings of a
abbrev pub Keeps : Actor → Actor → Type 0
Keeps a b = (b.log ≡ a.log) × (b.todo ≡ a.todo) × (b.instance.settings ≡ a.instance.settings)

pub keeps-same : (a : Actor) → Keeps a a
keeps-same a = (refl, refl, refl)

pub keeps-on : (a b c : Actor) → Keeps b c → Keeps a b → Keeps a c
keeps-on a b c k l = (k.0 ∙ l.0, k.1 ∙ l.1, k.2 ∙ l.2)

module _ (e : Setup) (me : ℕ) where
  leaving-short : (own on : Bool) (x : Content) (g : Gone) (a : Actor)
      → Short 3 a (leaving_by e me own on x g a)
  leaving-short false on x g a = (omega arith, same a)
  leaving-short true true x g a = (omega arith, same a)
  leaving-short true false x g a = (omega arith, (refl, refl, refl, refl, refl, refl, refl, refl, refl))

  abandoned-short : (b : Bool) (x : Content) (g : Gone) (a : Actor)
      → Short 3 a (abandoned_if b x g a)
  abandoned-short true x g a = (omega arith, (refl, refl, refl, refl, refl, refl, refl, refl, refl))
  abandoned-short false x g a = (omega arith, same a)

  lightened-short : (b : Bool) (x : Content) (g : Gone) (a : Actor)
      → Short 3 a (lightened e me b x g a)
  lightened-short true x g a = leaving-short (owner_of x.number == me) (migration e) x g _
  lightened-short false x g a =
      abandoned-short (is_due e.settings a.instance.count a.instance.contents x) x g a

  after_release-short : (g : Gone) (a : Actor) (x : Option Content)
      → Short 3 a (after_release e me g a x)
  after_release-short g a None = (omega arith, same a)
  after_release-short g a (Some x) = lightened-short (is_vacant x) x (first_gone g Here) a

  pub here-short : (h : Named) (g : Gone) (a : Actor) → Short 3 a (release_here e me h g a)
  here-short h g a = after_release-short g (record a { instance = releasing_at a.instance h.spot })
      (content_of (employed (releasing_at a.instance h.spot)) h.spot.carrier)

  employed-short : (b : Bool) (i : ℕ) (h : Named) (g : Gone) (a : Actor)
      → Short 5 a (employed_by e me b i h g a)
  employed-short true i h g a =
      longer 3 5 a (release_here e me h g a) (omega arith) (here-short h g a)
  employed-short false i h g a = (omega arith, same a)

  pooled-short : (b : Bool) (i l : ℕ) (h : Named) (g : Gone) (a : Actor)
      → Short 5 a (pooled_by b i l h g a)
  pooled-short true i l h g a = (omega arith, same a)
  pooled-short false i l h g a = (omega arith, same a)

  looked-short : (h : Named) (g : Gone) (a : Actor) (v : OwnerWord)
      → Short 5 a (looked e me h g a v)
  looked-short h g a word.Absent = (omega arith, same a)
  looked-short h g a (word.Employed i) = employed-short (i == me) i h g a
  looked-short h g a (word.Pooled i l) = pooled-short (i == me) i l h g a
  looked-short h g a (word.Busy i) = (omega arith, same a)
  looked-short h g a (word.Returning i) = (omega arith, same a)

  forwarded-short : (h : Named) (g : Gone) (a : Actor) (v : OwnerWord)
      → Short 4 a (forwarded h g a v)
  forwarded-short h g a word.Absent = (omega arith, same a)
  forwarded-short h g a (word.Employed i) = (omega arith, same a)
  forwarded-short h g a (word.Pooled i l) = (omega arith, same a)
  forwarded-short h g a (word.Busy i) = (omega arith, same a)
  forwarded-short h g a (word.Returning i) = (omega arith, same a)

  settled-short : (b : Bool) (x : Content) (g : Gone) (a : Actor)
      → Short 3 a (settled e me b x g a)
  settled-short true x g a =
      leaving-short (owner_of x.number == me) (migration e) x g (struck x.number a)
  settled-short false x g a = (omega arith, same a)

  looked_at-short : (h : Named) (g : Gone) (a : Actor) (r : Answer)
      → Short 5 a (looked_at e me h g a r)
  looked_at-short h g a (Saw v) = looked-short h g a v
  looked_at-short h g a Done = (omega arith, same a)
  looked_at-short h g a (Head n) = (omega arith, same a)
  looked_at-short h g a Rests = (omega arith, same a)
  looked_at-short h g a (Passes n) = (omega arith, same a)
  looked_at-short h g a (Won x) = (omega arith, same a)
  looked_at-short h g a (Lost v) = (omega arith, same a)
  looked_at-short h g a (Home x) = (omega arith, same a)
  looked_at-short h g a (Got p) = (omega arith, same a)

  tried-short : (h : Named) (g : Gone) (a : Actor) (r : Answer) → Short 4 a (tried h g a r)
  tried-short h g a (Lost v) = forwarded-short h g a v
  tried-short h g a (Saw v) = (omega arith, same a)
  tried-short h g a Done = (omega arith, same a)
  tried-short h g a (Head n) = (omega arith, same a)
  tried-short h g a Rests = (omega arith, same a)
  tried-short h g a (Passes n) = (omega arith, same a)
  tried-short h g a (Won x) =
      (omega arith, (refl, refl, refl, refl, refl, refl, refl, refl, refl))
  tried-short h g a (Home x) = (omega arith, same a)
  tried-short h g a (Got p) = (omega arith, same a)

  -- each row of a route leaves it shorter
  pub turned-short : (r : Route Content) (g : Gone) (a : Actor) (z : Answer)
      → (some_rows (turned e me r g a z).route < route_rows r) × Same a (turned e me r g a z).actor
  turned-short (Looking h) g a z = let s = looked_at-short h g a z in (omega (arith, s.0), s.1)
  turned-short (Trying h seen) g a z = let s = tried-short h g a z in (omega (arith, s.0), s.1)
  turned-short (Settling x) g a z =
      let s = settled-short (is_nil x.blocks) x g a in (omega (arith, s.0), s.1)
  turned-short (Abandoning x) g a z = (omega arith, same a)
  turned-short (Sending x) g a z = (omega arith, same a)
  turned-short (Clearing x) g a z = (omega arith, (refl, refl, refl, refl, refl, refl, refl, refl, refl))
  turned-short (Pushing node to) g a z = (omega arith, same a)
  turned-short (Linking node to) g a z = (omega arith, same a)

  owned-short : (b : Bool) (h : Named) (a : Actor) → Short 6 a (owned_by e me b h a)
  owned-short true h a =
      longer 3 6 a (release_here e me h Open a) (omega arith) (here-short h Open a)
  owned-short false h a = (omega arith, same a)

  routed-short : (on : Bool) (h : Named) (a : Actor) → Short 6 a (routed e me on h a)
  routed-short true h a = (omega arith, same a)
  routed-short false h a = owned-short (owner_of h.spot.carrier == me) h a

  pub route-short : (h : Named) (a : Actor) → Short 6 a (route_of e me h a)
  route-short h a = routed-short (migration e) h a

  -- so it keeps the log, the operations left and the settings
  pub turned-keeps : (r : Route Content) (g : Gone) (a : Actor) (z : Answer)
      → Keeps a (turned e me r g a z).actor
  turned-keeps r g a z = let s = (turned-short r g a z).1 in (s.3, s.2, s.4)

  pub route-keeps : (h : Named) (a : Actor) → Keeps a (route_of e me h a).actor
  route-keeps h a = let s = (route-short h a).1 in (s.3, s.2, s.4)

  -- and creates no carrier
  pub turned-created : (r : Route Content) (g : Gone) (a : Actor) (z : Answer)
      → (turned e me r g a z).actor.instance.created ≡ a.instance.created
  turned-created r g a z = (turned-short r g a z).1.6
