-- What first became of a block on its route: where it was queued, its node is what is pushed next;
-- and what a row leaves of a route with the block in the hand.
use Rattle.std.proofs.Common.{◌≡◌, ◌⊎◌, subst, ℕ, Bool, true, false, refl, sym, ap, ◌∙◌, inl, inr}
use Rattle.std.specs.Prelude.{Option, None, Some, ◌==◌}
use Rattle.std.proofs.lemmas.Bool.{eqb-true}
use Rattle.ea_model.specs.Content.{Content, is_nil, is_vacant}
use Rattle.ea_model.specs.Instance.{content_of, employed, releasing_at, owner_of}
use Rattle.ea_model.specs.Abandonment.{is_due}
use Rattle.ea_machine.specs.Releases.{struck}
use Rattle.ea_machine.specs.declared.stages.Route.{Route}
use Rattle.ea_machine.specs.declared.stages.Route.TheVariants.{Looking, Trying, Settling}
use Rattle.ea_machine.specs.declared.stages.Route.TheVariants.{Abandoning, Sending, Clearing}
use Rattle.ea_machine.specs.declared.stages.Route.TheVariants.{Pushing, Linking}
use Rattle.ea_machine.specs.Actor.{Actor}
use Rattle.ea_machine.specs.declared.tasks.Gone.{Gone}
use Rattle.ea_machine.specs.declared.tasks.Gone.TheVariants.{Open, Here, Queued}
use Rattle.ea_machine.specs.declared.nodes.Named.{Named}
use Rattle.ea_machine.specs.declared.owners.OwnerWord.{OwnerWord}
use Rattle.ea_machine.specs.declared.owners.OwnerWord.TheVariants as word
use Rattle.ea_machine.specs.Nodes.{block_node}
use Rattle.ea_machine.specs.Releases.{Turned, abandoned_if, after_release}
use Rattle.ea_machine.specs.Releases.{dismissed, employed_by, first_gone, forwarded, leaving_by}
use Rattle.ea_machine.specs.Releases.{lightened, looked, looked_at, owned_by, pooled_by}
use Rattle.ea_machine.specs.Releases.{release_here, route_of, routed, sent_to, settled, tried}
use Rattle.ea_machine.specs.Releases.{turned}
use Rattle.ea_machine.specs.Rows.{Answer, Done, Head, Rests, Passes, Saw, Won, Lost, Home, Got}
use Rattle.ea_machine.specs.Setup.{Setup, migration}
use Rattle.ea_sound.specs.Shown.{ShowsEmployer}
use Rattle.ea_sound.specs.Heard.{NamesAnother, NamesEmployer}

-- the block was queued there before, or its node is to be pushed there
abbrev pub IsQueuedBy : Gone → Turned → Type 0
IsQueuedBy g t = (to : ℕ) → t.gone ≡ Queued to
    → (g ≡ Queued to) ⊎ ((h : Named) × (t.route ≡ Some (Pushing (block_node h) to)))

first-queued : (g now : Gone) (to : ℕ) → first_gone g now ≡ Queued to
    → (g ≡ Queued to) ⊎ (now ≡ Queued to)
first-queued Open now to q = inr q
first-queued Here now to q = absurd cc
first-queued (Queued i) now to q = inl q

-- nothing became of it, or it was released here
still : (g : Gone) (t : Turned) → t.gone ≡ g → IsQueuedBy g t
still g t same to q = inl (sym same ∙ q)

released : (g : Gone) (t : Turned) → t.gone ≡ first_gone g Here → IsQueuedBy g t
released g t same to q = elim (first-queued g Here to (sym same ∙ q)) [
  | inl before ↦ inl before
  | inr now ↦ absurd (let never : Here ≡ Queued to = now in cc)
]

sent-queued : (h : Named) (i : ℕ) (g : Gone) (a : Actor) → IsQueuedBy g (sent_to h i g a)
sent-queued h i g a to q = elim (first-queued g (Queued i) to q) [
  | inl before ↦ inl before
  | inr now ↦ inr (h, ap (λ j. Some (Pushing (block_node h) j)) (target now))
] where
  target : {i j : ℕ} → Queued i ≡ Queued j → i ≡ j
  target q = cc

-- the owner word of its carrier is read next, or tried
abbrev pub ByWord : Route Content → Type 0
ByWord (Looking h) = Unit {0}
ByWord (Trying h seen) = Unit {0}
ByWord r = ⊥

-- a route without a block in the hand, or at its end
abbrev pub IsBare : Option (Route Content) → Type 0
IsBare None = Unit {0}
IsBare (Some (Looking h)) = ⊥
IsBare (Some (Trying h seen)) = ⊥
IsBare (Some (Settling x)) = Unit {0}
IsBare (Some (Abandoning x)) = Unit {0}
IsBare (Some (Sending x)) = Unit {0}
IsBare (Some (Clearing x)) = Unit {0}
IsBare (Some (Pushing node to)) = ⊥
IsBare (Some (Linking node to)) = ⊥

abbrev pub NotSent : Gone → Type 0
NotSent Open = Unit {0}
NotSent Here = Unit {0}
NotSent (Queued to) = ⊥

-- the answer of a look shows this employer, and that of a lost try to make a carrier busy
abbrev pub LookShows : Answer → ℕ → Type 0
LookShows z to = (v : OwnerWord) × (z ≡ Saw v) × ShowsEmployer to v

abbrev pub TryShows : Answer → ℕ → Type 0
TryShows z to = (v : OwnerWord) × (z ≡ Lost v) × ShowsEmployer to v

-- it shows me
abbrev pub LookShowsMe : Answer → ℕ → Type 0
LookShowsMe z me = z ≡ Saw (word.Employed me)

abbrev pub TryIsWon : Answer → Type 0
TryIsWon z = (x : Content) × (z ≡ Won x)

-- what is left of a route with h in the hand, once its row is answered, by the employers that the
-- answer shows, and whether it shows me
abbrev pub Yields : ℕ → (ℕ → Type 0) → Type 0 → Named → Option (Route Content) → Gone → Type 0
Yields me Shows Mine h None g = NotSent g × Mine
Yields me Shows Mine h (Some (Looking k)) g = ⊥
Yields me Shows Mine h (Some (Trying k seen)) g =
    (k ≡ h) × (g ≡ Open) × ((l : ℕ) × (seen ≡ word.Pooled me l))
Yields me Shows Mine h (Some (Settling x)) g = NotSent g × Mine
Yields me Shows Mine h (Some (Abandoning x)) g = NotSent g × Mine
Yields me Shows Mine h (Some (Sending x)) g = NotSent g × Mine
Yields me Shows Mine h (Some (Clearing x)) g = NotSent g × Mine
Yields me Shows Mine h (Some (Pushing node to)) g =
    (node ≡ block_node h) × (g ≡ Queued to) × Shows to
Yields me Shows Mine h (Some (Linking node to)) g = ⊥

bare-yields : (me : ℕ) (Shows : ℕ → Type 0) (Mine : Type 0) (h : Named)
    (o : Option (Route Content)) (g : Gone) → IsBare o → NotSent g → Mine
    → Yields me Shows Mine h o g
bare-yields me Shows Mine h None g b n m = (n, m)
bare-yields me Shows Mine h (Some (Looking k)) g b n m = b
bare-yields me Shows Mine h (Some (Trying k seen)) g b n m = absurd b
bare-yields me Shows Mine h (Some (Settling x)) g b n m = (n, m)
bare-yields me Shows Mine h (Some (Abandoning x)) g b n m = (n, m)
bare-yields me Shows Mine h (Some (Sending x)) g b n m = (n, m)
bare-yields me Shows Mine h (Some (Clearing x)) g b n m = (n, m)
bare-yields me Shows Mine h (Some (Pushing node to)) g b n m = absurd b
bare-yields me Shows Mine h (Some (Linking node to)) g b n m = b

-- no owner word is read next, or tried
abbrev pub NotByWord : Option (Route Content) → Type 0
NotByWord None = Unit {0}
NotByWord (Some (Looking h)) = ⊥
NotByWord (Some (Trying h seen)) = ⊥
NotByWord (Some (Settling x)) = Unit {0}
NotByWord (Some (Abandoning x)) = Unit {0}
NotByWord (Some (Sending x)) = Unit {0}
NotByWord (Some (Clearing x)) = Unit {0}
NotByWord (Some (Pushing node to)) = Unit {0}
NotByWord (Some (Linking node to)) = Unit {0}

bare-not : (o : Option (Route Content)) → IsBare o → NotByWord o
bare-not None b = tt
bare-not (Some (Looking k)) b = b
bare-not (Some (Trying k seen)) b = b
bare-not (Some (Settling x)) b = tt
bare-not (Some (Abandoning x)) b = tt
bare-not (Some (Sending x)) b = tt
bare-not (Some (Clearing x)) b = tt
bare-not (Some (Pushing node to)) b = tt
bare-not (Some (Linking node to)) b = tt

module _ (e : Setup) (me : ℕ) where
  leaving-bare : (own on : Bool) (x : Content) (g : Gone) (a : Actor)
      → IsBare (leaving_by e me own on x g a).route
  leaving-bare false on x g a = tt
  leaving-bare true true x g a = tt
  leaving-bare true false x g a = tt

  abandoned-bare : (due : Bool) (x : Content) (g : Gone) (a : Actor)
      → IsBare (abandoned_if due x g a).route
  abandoned-bare true x g a = tt
  abandoned-bare false x g a = tt

  lightened-bare : (vacant : Bool) (x : Content) (g : Gone) (a : Actor)
      → IsBare (lightened e me vacant x g a).route
  lightened-bare true x g a =
      leaving-bare (owner_of x.number == me) (migration e) x g (dismissed x.number a)
  lightened-bare false x g a =
      abandoned-bare (is_due e.settings a.instance.count a.instance.contents x) x g a

  after-bare : (g : Gone) (a : Actor) (o : Option Content)
      → IsBare (after_release e me g a o).route
  after-bare g a None = tt
  after-bare g a (Some x) = lightened-bare (is_vacant x) x (first_gone g Here) a

  pub here-bare : (h : Named) (g : Gone) (a : Actor) → IsBare (release_here e me h g a).route
  here-bare h g a =
      let b : Actor = record a { instance = releasing_at a.instance h.spot } in
      after-bare g b (content_of (employed b.instance) h.spot.carrier)

  pub settled-not : (empty : Bool) (x : Content) (g : Gone) (a : Actor)
      → NotByWord (settled e me empty x g a).route
  settled-not true x g a =
      let b = struck x.number a in
      bare-not (leaving_by e me (owner_of x.number == me) (migration e) x g b).route
      (leaving-bare (owner_of x.number == me) (migration e) x g b)
  settled-not false x g a = tt

  leaving-gone : (own on : Bool) (x : Content) (g : Gone) (a : Actor)
      → (leaving_by e me own on x g a).gone ≡ g
  leaving-gone false on x g a = refl
  leaving-gone true true x g a = refl
  leaving-gone true false x g a = refl

  abandoned-gone : (due : Bool) (x : Content) (g : Gone) (a : Actor)
      → (abandoned_if due x g a).gone ≡ g
  abandoned-gone true x g a = refl
  abandoned-gone false x g a = refl

  lightened-gone : (vacant : Bool) (x : Content) (g : Gone) (a : Actor)
      → (lightened e me vacant x g a).gone ≡ g
  lightened-gone true x g a =
      leaving-gone (owner_of x.number == me) (migration e) x g (dismissed x.number a)
  lightened-gone false x g a =
      abandoned-gone (is_due e.settings a.instance.count a.instance.contents x) x g a

  after-queued : (g : Gone) (a : Actor) (o : Option Content)
      → IsQueuedBy g (after_release e me g a o)
  after-queued g a None = still g (after_release e me g a None) refl
  after-queued g a (Some x) = released g (after_release e me g a (Some x))
      (lightened-gone (is_vacant x) x (first_gone g Here) a)

  here-queued : (h : Named) (g : Gone) (a : Actor) → IsQueuedBy g (release_here e me h g a)
  here-queued h g a =
      let b : Actor = record a { instance = releasing_at a.instance h.spot } in
      after-queued g b (content_of (employed b.instance) h.spot.carrier)

  employed-queued : (mine : Bool) (i : ℕ) (h : Named) (g : Gone) (a : Actor)
      → IsQueuedBy g (employed_by e me mine i h g a)
  employed-queued true i h g a = here-queued h g a
  employed-queued false i h g a = sent-queued h i g a

  pooled-queued : (mine : Bool) (i l : ℕ) (h : Named) (g : Gone) (a : Actor)
      → IsQueuedBy g (pooled_by mine i l h g a)
  pooled-queued true i l h g a = still g (pooled_by true i l h g a) refl
  pooled-queued false i l h g a = sent-queued h i g a

  looked-queued : (h : Named) (g : Gone) (a : Actor) (v : OwnerWord)
      → IsQueuedBy g (looked e me h g a v)
  looked-queued h g a word.Absent = still g (looked e me h g a word.Absent) refl
  looked-queued h g a (word.Employed i) = employed-queued (i == me) i h g a
  looked-queued h g a (word.Pooled i l) = pooled-queued (i == me) i l h g a
  looked-queued h g a (word.Busy i) = sent-queued h i g a
  looked-queued h g a (word.Returning i) = still g (looked e me h g a (word.Returning i)) refl

  forwarded-queued : (h : Named) (g : Gone) (a : Actor) (v : OwnerWord)
      → IsQueuedBy g (forwarded h g a v)
  forwarded-queued h g a word.Absent = still g (forwarded h g a word.Absent) refl
  forwarded-queued h g a (word.Employed i) = sent-queued h i g a
  forwarded-queued h g a (word.Pooled i l) = sent-queued h i g a
  forwarded-queued h g a (word.Busy i) = sent-queued h i g a
  forwarded-queued h g a (word.Returning i) = still g (forwarded h g a (word.Returning i)) refl

  looked_at-queued : (h : Named) (g : Gone) (a : Actor) (r : Answer)
      → IsQueuedBy g (looked_at e me h g a r)
  looked_at-queued h g a (Saw v) = looked-queued h g a v
  looked_at-queued h g a Done = still g (looked_at e me h g a Done) refl
  looked_at-queued h g a (Head n) = still g (looked_at e me h g a (Head n)) refl
  looked_at-queued h g a Rests = still g (looked_at e me h g a Rests) refl
  looked_at-queued h g a (Passes n) = still g (looked_at e me h g a (Passes n)) refl
  looked_at-queued h g a (Won x) = still g (looked_at e me h g a (Won x)) refl
  looked_at-queued h g a (Lost v) = still g (looked_at e me h g a (Lost v)) refl
  looked_at-queued h g a (Home x) = still g (looked_at e me h g a (Home x)) refl
  looked_at-queued h g a (Got p) = still g (looked_at e me h g a (Got p)) refl

  tried-queued : (h : Named) (g : Gone) (a : Actor) (r : Answer) → IsQueuedBy g (tried h g a r)
  tried-queued h g a (Won x) = released g (tried h g a (Won x)) refl
  tried-queued h g a (Lost v) = forwarded-queued h g a v
  tried-queued h g a (Saw v) = still g (tried h g a (Saw v)) refl
  tried-queued h g a Done = still g (tried h g a Done) refl
  tried-queued h g a (Head n) = still g (tried h g a (Head n)) refl
  tried-queued h g a Rests = still g (tried h g a Rests) refl
  tried-queued h g a (Passes n) = still g (tried h g a (Passes n)) refl
  tried-queued h g a (Home x) = still g (tried h g a (Home x)) refl
  tried-queued h g a (Got p) = still g (tried h g a (Got p)) refl

  pub settled-gone : (empty : Bool) (x : Content) (g : Gone) (a : Actor)
      → (settled e me empty x g a).gone ≡ g
  settled-gone true x g a =
      leaving-gone (owner_of x.number == me) (migration e) x g (struck x.number a)
  settled-gone false x g a = refl

  -- once a row of the route is answered
  pub turned-queued : (r : Route Content) (g : Gone) (a : Actor) (z : Answer)
      → IsQueuedBy g (turned e me r g a z)
  turned-queued (Looking h) g a z = looked_at-queued h g a z
  turned-queued (Trying h seen) g a z = tried-queued h g a z
  turned-queued (Settling x) g a z = still g (turned e me (Settling x) g a z)
      (settled-gone (is_nil x.blocks) x g a)
  turned-queued (Abandoning x) g a z = still g (turned e me (Abandoning x) g a z) refl
  turned-queued (Sending x) g a z = still g (turned e me (Sending x) g a z) refl
  turned-queued (Clearing x) g a z = still g (turned e me (Clearing x) g a z) refl
  turned-queued (Pushing node to) g a z = still g (turned e me (Pushing node to) g a z) refl
  turned-queued (Linking node to) g a z = still g (turned e me (Linking node to) g a z) refl

  -- where the block has just come into the hand
  pub route-queued : (h : Named) (a : Actor) → IsQueuedBy Open (route_of e me h a)
  route-queued h a = by (migration e) where
    owned : (own : Bool) → IsQueuedBy Open (owned_by e me own h a)
    owned true = here-queued h Open a
    owned false = sent-queued h (owner_of h.spot.carrier) Open a

    by : (on : Bool) → IsQueuedBy Open (routed e me on h a)
    by true = still Open (routed e me true h a) refl
    by false = owned (owner_of h.spot.carrier == me)

  -- a block that is released here isn't queued
  pub here-not_sent : (h : Named) (a : Actor) → NotSent (release_here e me h Open a).gone
  here-not_sent h a =
      let b : Actor = record a { instance = releasing_at a.instance h.spot } in
      by b (content_of (employed b.instance) h.spot.carrier) where
        by : (b : Actor) (o : Option Content) → NotSent (after_release e me Open b o).gone
        by b None = tt
        by b (Some x) = subst NotSent (sym (lightened-gone (is_vacant x) x Here b)) tt

  abbrev Gives : (ℕ → Type 0) → Type 0 → Named → Turned → Type 0
  Gives Shows Mine h t = Yields me Shows Mine h t.route t.gone

  -- by a look
  abbrev pub LookGives : Answer → Named → Turned → Type 0
  LookGives z h t = Gives (LookShows z) (LookShowsMe z me) h t

  employed-yields : (mine : Bool) (i : ℕ) (h : Named) (a : Actor) → (i == me) ≡ mine
      → LookGives (Saw (word.Employed i)) h (employed_by e me mine i h Open a)
  employed-yields true i h a q =
      let t = release_here e me h Open a in
      bare-yields me (LookShows (Saw (word.Employed i))) (LookShowsMe (Saw (word.Employed i)) me) h
      t.route t.gone (here-bare h Open a) (here-not_sent h a)
      (ap (λ j. Saw (word.Employed j)) (eqb-true i me q))
  employed-yields false i h a q = (refl, refl, (word.Employed i, refl, refl))

  pooled-yields : (mine : Bool) (i l : ℕ) (h : Named) (a : Actor) → (i == me) ≡ mine
      → LookGives (Saw (word.Pooled i l)) h (pooled_by mine i l h Open a)
  pooled-yields true i l h a q =
      (refl, refl, (l, ap (λ j. word.Pooled j l) (eqb-true i me q)))
  pooled-yields false i l h a q = (refl, refl, (word.Pooled i l, refl, refl))

  looked-yields : (h : Named) (a : Actor) (v : OwnerWord) → NamesEmployer me v
      → LookGives (Saw v) h (looked e me h Open a v)
  looked-yields h a word.Absent names = absurd names
  looked-yields h a (word.Employed i) names = employed-yields (i == me) i h a refl
  looked-yields h a (word.Pooled i l) names = pooled-yields (i == me) i l h a refl
  looked-yields h a (word.Busy i) names = (refl, refl, (word.Busy i, refl, refl))
  looked-yields h a (word.Returning i) names = absurd names

  pub looking-yields : (h : Named) (a : Actor) (z : Answer) (v : OwnerWord) → z ≡ Saw v
      → NamesEmployer me v → LookGives z h (looked_at e me h Open a z)
  looking-yields h a z v q names =
      subst (λ z. LookGives z h (looked_at e me h Open a z)) (sym q) (looked-yields h a v names)

  -- and by a try
  abbrev pub TryGives : Answer → Named → Turned → Type 0
  TryGives z h t = Gives (TryShows z) (TryIsWon z) h t

  forwarded-yields : (h : Named) (a : Actor) (v : OwnerWord) → NamesAnother me v
      → TryGives (Lost v) h (forwarded h Open a v)
  forwarded-yields h a word.Absent names = absurd names
  forwarded-yields h a (word.Employed i) names = (refl, refl, (word.Employed i, refl, refl))
  forwarded-yields h a (word.Pooled i l) names = (refl, refl, (word.Pooled i l, refl, refl))
  forwarded-yields h a (word.Busy i) names = (refl, refl, (word.Busy i, refl, refl))
  forwarded-yields h a (word.Returning i) names = absurd names

  pub winning-yields : (h : Named) (a : Actor) (z : Answer) → TryIsWon z
      → TryGives z h (tried h Open a z)
  winning-yields h a z won =
      subst (λ z. TryGives z h (tried h Open a z)) (sym won.1) (tt, (won.0, refl))

  pub losing-yields : (h : Named) (a : Actor) (z : Answer) (v : OwnerWord) → z ≡ Lost v
      → NamesAnother me v → TryGives z h (tried h Open a z)
  losing-yields h a z v q names =
      subst (λ z. TryGives z h (tried h Open a z)) (sym q) (forwarded-yields h a v names)
