-- What the local work of a scheduler does to carriers, function by function: their contents weigh
-- no more, and an own carrier stays, unless it may be cleared.
use Rattle.std.proofs.Common.{◌≡◌, ℕ, ◌+◌, ◌≤◌, List, [], ◌∷◌, Bool, true, false}
use Rattle.std.proofs.Common.{refl, sym, ◌∙◌, subst, arith}
use Rattle.std.specs.Prelude.{Option, None, Some, ◌==◌}
use Rattle.std.proofs.lemmas.Bool.{eqb-true}
use Rattle.ea_model.specs.declared.carriers.Spot.{Spot}
use Rattle.ea_model.specs.Abandonment.{is_due}
use Rattle.ea_model.specs.Content.{Content, is_nil, is_vacant}
use Rattle.ea_model.specs.Employment.{dismissing, disowning}
use Rattle.ea_model.specs.Entries.{Entry}
use Rattle.ea_model.specs.Instance.{Instance, content_of, employed, owner_of, releasing_at}
use Rattle.ea_model.proofs.Rising.{item_at-key}
use Rattle.ea_laws.specs.Kept.{number_of}
use Rattle.ea_machine.specs.declared.nodes.Named.{Named}
use Rattle.ea_machine.specs.declared.nodes.Node.{Node}
use Rattle.ea_machine.specs.declared.nodes.Node.TheVariants.{Block, Carrier}
use Rattle.ea_machine.specs.declared.owners.OwnerWord.{OwnerWord}
use Rattle.ea_machine.specs.declared.owners.OwnerWord.TheVariants as word
use Rattle.ea_machine.specs.declared.stages.Route.{Route}
use Rattle.ea_machine.specs.declared.stages.Route.TheVariants.{Looking, Trying, Settling}
use Rattle.ea_machine.specs.declared.stages.Route.TheVariants.{Abandoning, Sending, Clearing}
use Rattle.ea_machine.specs.declared.stages.Route.TheVariants.{Pushing, Linking}
use Rattle.ea_machine.specs.declared.tasks.Gone.{Gone}
use Rattle.ea_machine.specs.declared.tasks.Gone.TheVariants.{Open, Here}
use Rattle.ea_machine.specs.declared.tasks.Task.{Task}
use Rattle.ea_machine.specs.declared.tasks.Why.{Why}
use Rattle.ea_machine.specs.declared.tasks.Why.TheVariants.{Walk, For}
use Rattle.ea_machine.specs.Actor.{Actor}
use Rattle.ea_machine.specs.Releases.{Turned, abandoned_if, after_release, dismissed, employed_by}
use Rattle.ea_machine.specs.Releases.{first_gone, forwarded, leaving_by, lightened, looked}
use Rattle.ea_machine.specs.Releases.{looked_at}
use Rattle.ea_machine.specs.Releases.{owned_by, pooled_by, release_here, route_of, routed}
use Rattle.ea_machine.specs.Releases.{settled, struck, tried, turned}
use Rattle.ea_machine.specs.Rows.{Answer, Done, Head, Rests, Passes, Saw, Won, Lost, Home, Got}
use Rattle.ea_machine.specs.Setup.{Setup, migration}
use Rattle.ea_machine.specs.Tasks.{carried, carried_by, hands_over, let_go, logged, task_over}
use Rattle.ea_machine.specs.Walks.{worked_off}
use Rattle.ea_sound.specs.Blocks.{employed_sum}
use Rattle.ea_sound.specs.Contents.{hand_sum, route_sum}
use Rattle.ea_steps.proofs.CarrierWeights.{Weight, dismissed-weighs, own-stays, own_times}
use Rattle.ea_steps.proofs.CarrierWeights.{releasing-weighs}

-- the weight of what is in the hand
abbrev pub Hand : Type 0
Hand = (Content → ℕ) → ℕ

abbrev pub nothing : Hand
nothing f = 0

abbrev pub just : Content → Hand
just x f = f x

abbrev pub hand_of : Actor → Hand
hand_of a f = hand_sum f f a.stage

abbrev pub on_way : Option (Route Content) → Hand
on_way None f = 0
on_way (Some r) f = route_sum f f r

-- the content of a busy carrier, if it is empty
abbrev pub if_empty : Bool → Content → Hand
if_empty true x f = f x
if_empty false x f = 0

-- what a try brings, if it was won
abbrev pub fetched_by : Answer → Hand
fetched_by (Won x) f = f x
fetched_by r f = 0

-- what a row of a route leaves in the hand
abbrev pub left_on : Route Content → Answer → Hand
left_on (Looking hand) r f = 0
left_on (Trying hand seen) r f = fetched_by r f
left_on (Settling x) r f = if_empty (is_nil x.blocks) x f
left_on (Abandoning x) r f = 0
left_on (Sending x) r f = 0
left_on (Clearing x) r f = 0
left_on (Pushing node to) r f = 0
left_on (Linking node to) r f = 0

-- blocks are placed in carriers of the numbers `Placed`, carriers of the numbers `Cut` get fewer
-- pages, and those of the numbers `Cleared` may be cleared
module _ (Placed Cut Cleared : ℕ → Type 0) where
  pub record Fits (f : Weight) : Type 0 where
    pub places : (c : ℕ) → Placed c → f.Places c
    pub shortens : (c : ℕ) → Cut c → f.Shortens c

  -- from an instance, with this in the hand, to another, with that in the hand: no carrier is
  -- created, own carriers stay, and contents weigh no more
  pub record Keeps (i : Instance) (h : Hand) (j : Instance) (k : Hand) : Type 1 where
    pub created : j.created ≡ i.created
    pub owns : (c : ℕ) → (Cleared c → ⊥) → own_times c i ≤ own_times c j
    pub weighs : (f : Weight) → Fits f
        → employed_sum f.of j + k f.of ≤ employed_sum f.of i + h f.of

  -- to a scheduler, or to where a route turns
  abbrev pub Comes : Instance → Hand → Actor → Type 1
  Comes i h b = Keeps i h b.instance (hand_of b)

  abbrev pub Turns : Instance → Hand → Turned → Type 1
  Turns i h t = Keeps i h t.actor.instance (on_way t.route)

  pub keeps-itself : (i : Instance) (h : Hand) → Keeps i h i h
  keeps-itself i h = record {
    created = refl;
    owns = λ c no. omega arith;
    weighs = λ f fits. omega arith;
  }

  pub keeps-less : (i : Instance) (h k : Hand) → ((f : Content → ℕ) → k f ≤ h f)
      → Keeps i h i k
  keeps-less i h k less = record {
    created = refl;
    owns = λ c no. omega arith;
    weighs = λ f fits. omega (arith, less f.of);
  }

  pub keeps-on : (i j l : Instance) (h k m : Hand) → Keeps i h j k → Keeps j k l m
      → Keeps i h l m
  keeps-on i j l h k m p q = record {
    created = q.created ∙ p.created;
    owns = λ c no. omega (arith, p.owns c no, q.owns c no);
    weighs = λ f fits. omega (arith, p.weighs f fits, q.weighs f fits);
  }

  -- a carrier is deallocated
  pub keeps-disowned : (i : Instance) (h k : Hand) (n : ℕ) → Cleared n
      → ((f : Content → ℕ) → k f ≤ h f) → Keeps i h (disowning i n) k
  keeps-disowned i h k n goes less = record {
    created = refl;
    owns = λ c no. omega (arith, own-stays c n i.own (λ q. no (subst Cleared (sym q) goes)));
    weighs = λ f fits. omega (arith, less f.of);
  }

  keeps-dismissed : (i : Instance) (n : ℕ) (x : Content) → content_of (employed i) n ≡ Some x
      → Keeps i nothing (dismissing i n) (just x)
  keeps-dismissed i n x there = record {
    created = refl;
    owns = λ c no. omega arith;
    weighs = λ f fits. omega (arith, dismissed-weighs f.of i n x there);
  }

  keeps-released : (i : Instance) (spot : Spot)
      → Keeps i nothing (releasing_at i spot) nothing
  keeps-released i spot = record {
    created = refl;
    owns = λ c no. omega arith;
    weighs = λ f fits. omega (arith, releasing-weighs f i spot);
  }

  module _ (e : Setup) (me : ℕ) where
    -- where carriers don't migrate, an own carrier may go with its last block
    abbrev pub MayGo : ℕ → Type 0
    MayGo c = migration e ≡ false → owner_of c ≡ me → Cleared c

    leaving-keeps : (own on : Bool) (x : Content) (g : Gone) (a : Actor)
        → (owner_of x.number == me) ≡ own → migration e ≡ on → MayGo x.number
        → Turns a.instance (just x) (leaving_by e me own on x g a)
    leaving-keeps false on x g a o m may = keeps-itself a.instance (just x)
    leaving-keeps true true x g a o m may = keeps-itself a.instance (just x)
    leaving-keeps true false x g a o m may =
        keeps-disowned a.instance (just x) nothing x.number
        (may m (eqb-true (owner_of x.number) me o)) (λ f. omega arith)

    abandoned-keeps : (b : Bool) (x : Content) (g : Gone) (a : Actor)
        → content_of (employed a.instance) x.number ≡ Some x
        → Turns a.instance nothing (abandoned_if b x g a)
    abandoned-keeps true x g a there = keeps-dismissed a.instance x.number x there
    abandoned-keeps false x g a there = keeps-itself a.instance nothing

    lightened-keeps : (b : Bool) (x : Content) (g : Gone) (a : Actor)
        → content_of (employed a.instance) x.number ≡ Some x → MayGo x.number
        → Turns a.instance nothing (lightened e me b x g a)
    lightened-keeps true x g a there may =
        let c = dismissed x.number a in
        let own = owner_of x.number == me in
        keeps-on a.instance c.instance (leaving_by e me own (migration e) x g c).actor.instance
        nothing (just x) (on_way (leaving_by e me own (migration e) x g c).route)
        (keeps-dismissed a.instance x.number x there)
        (leaving-keeps own (migration e) x g c refl refl may)
    lightened-keeps false x g a there may =
        abandoned-keeps (is_due e.settings a.instance.count a.instance.contents x) x g a there

    left-keeps : (n : ℕ) (g : Gone) (a : Actor) (o : Option Content)
        → content_of (employed a.instance) n ≡ o → MayGo n
        → Turns a.instance nothing (after_release e me g a o)
    left-keeps n g a None there may = keeps-itself a.instance nothing
    left-keeps n g a (Some x) there may =
        let is = item_at-key number_of n x (employed a.instance) there in
        lightened-keeps (is_vacant x) x (first_gone g Here) a
        (subst (λ m. content_of (employed a.instance) m ≡ Some x) (sym is) there)
        (subst MayGo (sym is) may)

    -- a block is released where the scheduler employs its carrier
    here-keeps : (h : Named) (g : Gone) (a : Actor) → MayGo h.spot.carrier
        → Turns a.instance nothing (release_here e me h g a)
    here-keeps h g a may =
        let i = releasing_at a.instance h.spot in
        let b : Actor = record a { instance = i } in
        let t = release_here e me h g a in
        keeps-on a.instance i t.actor.instance nothing nothing (on_way t.route)
        (keeps-released a.instance h.spot)
        (left-keeps h.spot.carrier g b (content_of (employed i) h.spot.carrier) refl may)

    employed-keeps : (b : Bool) (i : ℕ) (h : Named) (g : Gone) (a : Actor) → MayGo h.spot.carrier
        → Turns a.instance nothing (employed_by e me b i h g a)
    employed-keeps true i h g a may = here-keeps h g a may
    employed-keeps false i h g a may = keeps-itself a.instance nothing

    pooled-keeps : (b : Bool) (i l : ℕ) (h : Named) (g : Gone) (a : Actor)
        → Turns a.instance nothing (pooled_by b i l h g a)
    pooled-keeps true i l h g a = keeps-itself a.instance nothing
    pooled-keeps false i l h g a = keeps-itself a.instance nothing

    looked-keeps : (h : Named) (g : Gone) (a : Actor) (v : OwnerWord) → MayGo h.spot.carrier
        → Turns a.instance nothing (looked e me h g a v)
    looked-keeps h g a word.Absent may = keeps-itself a.instance nothing
    looked-keeps h g a (word.Employed i) may = employed-keeps (i == me) i h g a may
    looked-keeps h g a (word.Pooled i l) may = pooled-keeps (i == me) i l h g a
    looked-keeps h g a (word.Busy i) may = keeps-itself a.instance nothing
    looked-keeps h g a (word.Returning i) may = keeps-itself a.instance nothing

    looked_at-keeps : (h : Named) (g : Gone) (a : Actor) (r : Answer) → MayGo h.spot.carrier
        → Turns a.instance nothing (looked_at e me h g a r)
    looked_at-keeps h g a (Saw v) may = looked-keeps h g a v may
    looked_at-keeps h g a Done may = keeps-itself a.instance nothing
    looked_at-keeps h g a (Head n) may = keeps-itself a.instance nothing
    looked_at-keeps h g a Rests may = keeps-itself a.instance nothing
    looked_at-keeps h g a (Passes n) may = keeps-itself a.instance nothing
    looked_at-keeps h g a (Won x) may = keeps-itself a.instance nothing
    looked_at-keeps h g a (Lost v) may = keeps-itself a.instance nothing
    looked_at-keeps h g a (Home x) may = keeps-itself a.instance nothing
    looked_at-keeps h g a (Got p) may = keeps-itself a.instance nothing

    forwarded-keeps : (h : Named) (g : Gone) (a : Actor) (v : OwnerWord)
        → Turns a.instance nothing (forwarded h g a v)
    forwarded-keeps h g a word.Absent = keeps-itself a.instance nothing
    forwarded-keeps h g a (word.Employed i) = keeps-itself a.instance nothing
    forwarded-keeps h g a (word.Pooled i l) = keeps-itself a.instance nothing
    forwarded-keeps h g a (word.Busy i) = keeps-itself a.instance nothing
    forwarded-keeps h g a (word.Returning i) = keeps-itself a.instance nothing

    tried-keeps : (h : Named) (seen : OwnerWord) (g : Gone) (a : Actor) (r : Answer)
        → Turns a.instance (left_on (Trying h seen) r) (tried h g a r)
    tried-keeps h seen g a (Won x) = record {
      created = refl;
      owns = λ c no. omega arith;
      weighs = λ f fits. omega (arith, f.release x h.spot.offset);
    }
    tried-keeps h seen g a (Lost v) = forwarded-keeps h g a v
    tried-keeps h seen g a Done = keeps-itself a.instance nothing
    tried-keeps h seen g a (Head n) = keeps-itself a.instance nothing
    tried-keeps h seen g a Rests = keeps-itself a.instance nothing
    tried-keeps h seen g a (Passes n) = keeps-itself a.instance nothing
    tried-keeps h seen g a (Saw v) = keeps-itself a.instance nothing
    tried-keeps h seen g a (Home x) = keeps-itself a.instance nothing
    tried-keeps h seen g a (Got p) = keeps-itself a.instance nothing

    settled-keeps : (b : Bool) (x : Content) (g : Gone) (a : Actor) → MayGo x.number
        → Turns a.instance (if_empty b x) (settled e me b x g a)
    settled-keeps true x g a may =
        leaving-keeps (owner_of x.number == me) (migration e) x g (struck x.number a) refl refl may
    settled-keeps false x g a may = keeps-itself a.instance nothing

    -- what may go by a row of a route
    abbrev pub RouteMayGo : Route Content → Type 0
    RouteMayGo (Looking hand) = MayGo hand.spot.carrier
    RouteMayGo (Trying hand seen) = Unit {0}
    RouteMayGo (Settling x) = MayGo x.number
    RouteMayGo (Abandoning x) = Unit {0}
    RouteMayGo (Sending x) = Unit {0}
    RouteMayGo (Clearing x) = Cleared x.number
    RouteMayGo (Pushing node to) = Unit {0}
    RouteMayGo (Linking node to) = Unit {0}

    pub turned-keeps : (z : Route Content) (g : Gone) (a : Actor) (r : Answer) → RouteMayGo z
        → Turns a.instance (left_on z r) (turned e me z g a r)
    turned-keeps (Looking h) g a r may = looked_at-keeps h g a r may
    turned-keeps (Trying h seen) g a r may = tried-keeps h seen g a r
    turned-keeps (Settling x) g a r may = settled-keeps (is_nil x.blocks) x g a may
    turned-keeps (Abandoning x) g a r may = keeps-itself a.instance nothing
    turned-keeps (Sending x) g a r may = keeps-itself a.instance nothing
    turned-keeps (Clearing x) g a r may =
        keeps-disowned a.instance nothing nothing x.number may (λ f. omega arith)
    turned-keeps (Pushing node to) g a r may = keeps-itself a.instance nothing
    turned-keeps (Linking node to) g a r may = keeps-itself a.instance nothing

    owned-keeps : (own : Bool) (h : Named) (a : Actor) → MayGo h.spot.carrier
        → Turns a.instance nothing (owned_by e me own h a)
    owned-keeps true h a may = here-keeps h Open a may
    owned-keeps false h a may = keeps-itself a.instance nothing

    routed-keeps : (on : Bool) (h : Named) (a : Actor) → MayGo h.spot.carrier
        → Turns a.instance nothing (routed e me on h a)
    routed-keeps true h a may = keeps-itself a.instance nothing
    routed-keeps false h a may = owned-keeps (owner_of h.spot.carrier == me) h a may

    pub route-keeps : (h : Named) (a : Actor) → MayGo h.spot.carrier
        → Turns a.instance nothing (route_of e me h a)
    route-keeps h a may = routed-keeps (migration e) h a may

    -- a route that goes on, or what follows it
    carried_by-keeps : (why : Why) (over : Gone → Actor → Actor) (i : Instance) (h : Hand)
        (o : Option (Route Content)) (g : Gone) (b : Actor) → Keeps i h b.instance (on_way o)
        → (o ≡ None → Comes b.instance nothing (over g b))
        → Comes i h (carried_by why over g b o)
    carried_by-keeps why over i h None g b p q =
        keeps-on i b.instance (over g b).instance h nothing (hand_of (over g b)) p (q refl)
    carried_by-keeps why over i h (Some r) g b p q = p

    pub carried-keeps : (why : Why) (over : Gone → Actor → Actor) (i : Instance) (h : Hand)
        (t : Turned) → Turns i h t
        → (t.route ≡ None → Comes t.actor.instance nothing (over t.gone t.actor))
        → Comes i h (carried why over t)
    carried-keeps why over i h t p q =
        carried_by-keeps why over i h t.route t.gone t.actor p q

    pub logged-keeps : (x : Entry) (a : Actor) → Comes a.instance nothing (logged x a)
    logged-keeps x a = keeps-itself a.instance nothing

    -- the block of a held name goes its route
    pub hands-keeps : (task : Task) (h : Named) (a : Actor) → MayGo h.spot.carrier
        → Comes a.instance nothing (hands_over e me task h a)
    hands-keeps task h a may =
        let t = route_of e me h (let_go h.name a) in
        carried-keeps (For task) (task_over task) a.instance nothing t
        (route-keeps h (let_go h.name a) may) (λ over. keeps-itself t.actor.instance nothing)

    -- nodes that were passed are worked off
    abbrev pub AllMayGo : List Node → Type 0
    AllMayGo [] = Unit {0}
    AllMayGo (Block n p ∷ ns) = MayGo p.carrier × AllMayGo ns
    AllMayGo (Carrier n ∷ ns) = AllMayGo ns

    pub worked-keeps : (ns : List Node) (a : Actor) → AllMayGo ns
        → Comes a.instance nothing (worked_off e me ns a)
    worked-keeps [] a may = keeps-itself a.instance nothing
    worked-keeps (Block n p ∷ ns) a may =
        let h : Named = record { name = n; spot = p } in
        let t = route_of e me h (record a { passed = ns }) in
        carried-keeps Walk (λ gone b. worked_off e me ns b) a.instance nothing t
        (route-keeps h (record a { passed = ns }) may.0) (λ over. worked-keeps ns t.actor may.1)
    worked-keeps (Carrier n ∷ ns) a may = keeps-itself a.instance nothing
