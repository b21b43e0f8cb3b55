-- What each move of a scheduler keeps, its local work keeps.
use Rattle.std.proofs.Common.{◌≡◌, ◌≢◌, ℕ, List, [], ◌∷◌, Bool, true, false, refl, sym, subst, inr}
use Rattle.std.specs.Prelude.{Option, Some, None, ◌==◌}
use Rattle.std.proofs.lemmas.Bool.{and_parts, eqb-true}
use Rattle.ea_model.specs.declared.carriers.BlockAt.{BlockAt}
use Rattle.ea_model.specs.Entries.{Entry}
use Rattle.ea_model.specs.Content.{Content, can_go, is_nil, is_vacant}
use Rattle.ea_model.specs.Instance.{content_of, employed, releasing_at, owner_of}
use Rattle.ea_model.proofs.Rising.{item_at-key}
use Rattle.ea_laws.specs.Kept.{number_of}
use Rattle.ea_machine.specs.Lists.{Lists, pooled_if, unlisted}
use Rattle.ea_machine.specs.Releases.{struck}
use Rattle.ea_machine.specs.declared.nodes.Node.{Node}
use Rattle.ea_machine.specs.declared.nodes.Node.TheVariants.{Block, Carrier}
use Rattle.ea_machine.specs.declared.owners.OwnerWord.{OwnerWord}
use Rattle.ea_machine.specs.declared.owners.OwnerWord.TheVariants as word
use Rattle.ea_machine.specs.declared.stages.Stage.TheVariants.{Begin, Routed, Collecting, Ready}
use Rattle.ea_machine.specs.declared.stages.Route.{Route}
use Rattle.ea_machine.specs.declared.stages.Route.TheVariants.{Looking, Trying, Settling}
use Rattle.ea_machine.specs.declared.stages.Route.TheVariants.{Abandoning, Sending, Clearing}
use Rattle.ea_machine.specs.declared.stages.Route.TheVariants.{Pushing, Linking}
use Rattle.ea_machine.specs.Actor.{Actor}
use Rattle.ea_machine.specs.declared.tasks.Task.{Task}
use Rattle.ea_machine.specs.declared.tasks.Why.{Why}
use Rattle.ea_machine.specs.declared.tasks.Why.TheVariants.{Walk, For}
use Rattle.ea_machine.specs.declared.tasks.Gone.{Gone}
use Rattle.ea_machine.specs.declared.tasks.Gone.TheVariants.{Open, Here as HereGone, Queued}
use Rattle.ea_machine.specs.Nodes.{block_node, named_at}
use Rattle.ea_machine.specs.declared.nodes.Named.{Named}
use Rattle.ea_machine.specs.Releases.{Turned, dismissed, disowned, employed_by, first_gone}
use Rattle.ea_machine.specs.Releases.{forwarded, after_release, leaving_by}
use Rattle.ea_machine.specs.Releases.{lightened, looked, looked_at, owned_by, pooled_by}
use Rattle.ea_machine.specs.Releases.{release_here, route_of, routed, sent_to, settled}
use Rattle.ea_machine.specs.Releases.{abandoned_if, tried, turned}
use Rattle.ea_machine.specs.Rows.{Answer, Done, Head, Rests, Passes, Saw, Won, Lost, Home, Got}
use Rattle.ea_machine.specs.Setup.{Setup, migration}
use Rattle.ea_machine.specs.Shared.{Shared}
use Rattle.ea_machine.specs.State.{State}
use Rattle.ea_machine.specs.Tasks.{carried, carried_by, entry_of, hands_over, let_go, logged}
use Rattle.ea_machine.specs.Tasks.{task_over}
use Rattle.ea_machine.specs.Walks.{worked_off}
use Rattle.ea_sound.specs.Here.{Here}
use Rattle.ea_sound.specs.Leaves.{LeavesRoute, LeavesSettled, Shows}
use Rattle.ea_sound.specs.Moments.{at}
use Rattle.ea_model.specs.declared.units.TheConstants.{RELEASED_COUNT}
use Rattle.ea_model.specs.Instance.{lowered}
use Rattle.ea_machine.specs.Placements.{refills}
use Rattle.ea_model.specs.Content.{released}

-- the moves that what is kept is closed under
pub record Closed (e : Setup) (s : Shared) (me : ℕ) (P : Actor → Type 0) : Type 0 where
  pub why : (r : Route Content) (y z : Why) (g h : Gone) (a : Actor) → P (at (Routed r y g) a)
      → P (at (Routed r z h) a)
  pub release : (h : Named) (y : Why) (g : Gone) (a : Actor) → Here e s me h.spot.carrier
      → P (at (Routed (Looking h) y g) a)
      → P (at Begin (record a { instance = releasing_at a.instance h.spot }))
  pub dismiss : (x : Content) (y : Why) (g : Gone) (a : Actor)
      → content_of (employed a.instance) x.number ≡ Some x → P (at Begin a)
      → P (at (Routed (Abandoning x) y g) (dismissed x.number a))
  pub send : (x : Content) (y : Why) (g : Gone) (a : Actor) → P (at (Routed (Abandoning x) y g) a)
      → P (at (Routed (Sending x) y g) a)
  pub clear : (x : Content) (y : Why) (g : Gone) (a : Actor) → P (at (Routed (Abandoning x) y g) a)
      → P (at (Routed (Clearing x) y g) a)
  pub drop : (x : Content) (y : Why) (g : Gone) (a : Actor) → x.blocks ≡ [] → owner_of x.number ≡ me
      → migration e ≡ false → P (at (Routed (Abandoning x) y g) a)
      → P (at Begin (disowned x.number a))
  pub push : (h : Named) (y : Why) (g : Gone) (to : ℕ) (a : Actor)
      → P (at (Routed (Looking h) y g) a) → P (at (Routed (Pushing (block_node h) to) y g) a)
  pub try : (h : Named) (v : OwnerWord) (y : Why) (g : Gone) (a : Actor)
      → P (at (Routed (Looking h) y g) a) → P (at (Routed (Trying h v) y g) a)
  pub hand : (h : Named) (y : Why) (g : Gone) (a : Actor) → named_at h.name a.held ≡ Some h
      → P (at Begin a) → P (at (Routed (Looking h) y g) (let_go h.name a))
  pub log : (x : Entry) (a : Actor) → P (at Begin a) → P (logged x a)
  pub lists : (l : Lists) (a : Actor) → a.stage ≢ Ready → P a → P (record a { lists = l })
  pub lower : (n : ℕ) (a : Actor) → a.stage ≢ Ready → P a
      → P (record a { instance = lowered n a.instance })
  pub refill : (a : Actor) → a.stage ≢ Ready → P a → P (refills a)

-- and those of a walk
pub record ClosedWalk (P : Actor → Type 0) : Type 0 where
  pub block : (h : Named) (ns : List Node) (a : Actor)
      → P (at Begin (record a { passed = block_node h ∷ ns }))
      → P (at (Routed (Looking h) Walk Open) (record a { passed = ns }))
  pub carrier : (c : ℕ) (ns : List Node) (a : Actor)
      → P (at Begin (record a { passed = Carrier c ∷ ns }))
      → P (at (Collecting c) (record a { passed = ns }))
  pub next : (n : Option Node) (a : Actor) → P (at Begin a) → P (at Begin (record a { next = n }))
  pub ready : (a : Actor) → P (at Begin a) → P (at Ready a)
  pub begin : (a : Actor) → P (at Ready a) → P (at Begin a)

pub nil-is : (bs : List BlockAt) → is_nil bs ≡ true → bs ≡ []
nil-is [] e = refl
nil-is (b ∷ bs) e = absurd cc

pub vacant-nil : (x : Content) → is_vacant x ≡ true → x.blocks ≡ []
vacant-nil x vacant = nil-is x.blocks (and_parts (can_go x.kind) (is_nil x.blocks) vacant).1

module _ (e : Setup) (w : State) (s : Shared) (me : ℕ) (P : Actor → Type 0) (c : Closed e s me P)
  where
    -- what a route leaves
    abbrev pub HoldsAt : Why → Gone → Actor → Option (Route Content) → Type 0
    HoldsAt y g a None = P (at Begin a)
    HoldsAt y g a (Some r) = P (at (Routed r y g) a)

    -- and the nodes that are passed stay
    abbrev pub Holds : Why → List Node → Turned → Type 0
    Holds y ns t = HoldsAt y t.gone t.actor t.route × (t.actor.passed ≡ ns)

    leaving-holds : (own on : Bool) (x : Content) (y : Why) (g : Gone) (a : Actor)
        → (owner_of x.number == me) ≡ own → migration e ≡ on → x.blocks ≡ []
        → P (at (Routed (Abandoning x) y g) a) → Holds y a.passed (leaving_by e me own on x g a)
    leaving-holds false on x y g a o m z h = (c.send x y g a h, refl)
    leaving-holds true true x y g a o m z h = (c.clear x y g a h, refl)
    leaving-holds true false x y g a o m z h =
        (c.drop x y g a z (eqb-true (owner_of x.number) me o) m h, refl)

    abandoned_if-holds : (b : Bool) (x : Content) (y : Why) (g : Gone) (a : Actor)
        → content_of (employed a.instance) x.number ≡ Some x → P (at Begin a)
        → Holds y a.passed (abandoned_if b x g a)
    abandoned_if-holds true x y g a is h = (c.dismiss x y g a is h, refl)
    abandoned_if-holds false x y g a is h = (h, refl)

    lightened-holds : (b : Bool) (x : Content) (y : Why) (g : Gone) (a : Actor)
        → content_of (employed a.instance) x.number ≡ Some x → is_vacant x ≡ b → P (at Begin a)
        → Holds y a.passed (lightened e me b x g a)
    lightened-holds true x y g a is vacant h =
        leaving-holds _ _ x y g (dismissed x.number a) refl refl (vacant-nil x vacant)
        (c.dismiss x y g a is h)
    lightened-holds false x y g a is vacant h = abandoned_if-holds _ x y g a is h

    left-holds : (n : ℕ) (y : Why) (g : Gone) (a : Actor) (o : Option Content)
        → content_of (employed a.instance) n ≡ o → P (at Begin a)
        → Holds y a.passed (after_release e me g a o)
    left-holds n y g a None is h = (h, refl)
    left-holds n y g a (Some x) is h =
        lightened-holds (is_vacant x) x y (first_gone g HereGone) a
        (subst (λ m. content_of (employed a.instance) m ≡ Some x)
        (sym (item_at-key number_of n x (employed a.instance) is)) is) refl h

    here-holds : (h : Named) (y : Why) (g : Gone) (a : Actor) → Here e s me h.spot.carrier
        → P (at (Routed (Looking h) y g) a) → Holds y a.passed (release_here e me h g a)
    here-holds h y g a mine k =
        left-holds h.spot.carrier y g (record a { instance = releasing_at a.instance h.spot }) _
        refl (c.release h y g a mine k)

    sent-holds : (h : Named) (y : Why) (g : Gone) (to : ℕ) (a : Actor)
        → P (at (Routed (Looking h) y g) a) → Holds y a.passed (sent_to h to g a)
    sent-holds h y g to a k = (
      c.why (Pushing (block_node h) to) y y g (first_gone g (Queued to)) a (c.push h y g to a k),
      refl,
    )

    owned-holds : (own : Bool) (h : Named) (y : Why) (a : Actor) → migration e ≡ false
        → (owner_of h.spot.carrier == me) ≡ own → P (at (Routed (Looking h) y Open) a)
        → Holds y a.passed (owned_by e me own h a)
    owned-holds true h y a m o k =
        here-holds h y Open a (inr (m, eqb-true (owner_of h.spot.carrier) me o)) k
    owned-holds false h y a m o k = sent-holds h y Open (owner_of h.spot.carrier) a k

    routed-holds : (on : Bool) (h : Named) (y : Why) (a : Actor) → migration e ≡ on
        → P (at (Routed (Looking h) y Open) a) → Holds y a.passed (routed e me on h a)
    routed-holds true h y a m k = (k, refl)
    routed-holds false h y a m k = owned-holds _ h y a m refl k

    pub route-holds : (h : Named) (y : Why) (a : Actor) → P (at (Routed (Looking h) y Open) a)
        → Holds y a.passed (route_of e me h a)
    route-holds h y a k = routed-holds (migration e) h y a refl k

    -- a route that goes on, or what follows it
    carried_by-holds : (y : Why) (over : Gone → Actor → Actor) (r : Option (Route Content))
        (g : Gone) (a : Actor) → HoldsAt y g a r → (P (at Begin a) → P (over g a))
        → P (carried_by y over g a r)
    carried_by-holds y over (Some r) g a h f = h
    carried_by-holds y over None g a h f = f h

    pub carried-holds : (y : Why) (ns : List Node) (over : Gone → Actor → Actor) (t : Turned)
        → Holds y ns t → ((g : Gone) (a : Actor) → a.passed ≡ ns → P (at Begin a) → P (over g a))
        → P (carried y over t)
    carried-holds y ns over t h f =
        carried_by-holds y over t.route t.gone t.actor h.0 (f t.gone t.actor h.1)

    -- the block of a held name goes its route
    pub hands-holds : (task : Task) (h : Named) (a : Actor) → named_at h.name a.held ≡ Some h
        → P (at Begin a) → P (hands_over e me task h a)
    hands-holds task h a is k =
        carried-holds (For task) a.passed (task_over task) (route_of e me h (let_go h.name a))
        (route-holds h (For task) (let_go h.name a) (c.hand h (For task) Open a is k))
        (λ g b p l. c.log (entry_of task g) b l)

    -- once the row of a route is answered
    employed-holds : (b : Bool) (i : ℕ) (h : Named) (y : Why) (g : Gone) (a : Actor) → (i == me) ≡ b
        → (i ≡ me → Here e s me h.spot.carrier) → P (at (Routed (Looking h) y g) a)
        → Holds y a.passed (employed_by e me b i h g a)
    employed-holds true i h y g a q m k = here-holds h y g a (m (eqb-true i me q)) k
    employed-holds false i h y g a q m k = sent-holds h y g i a k

    pooled-holds : (b : Bool) (i l : ℕ) (h : Named) (y : Why) (g : Gone) (a : Actor)
        → P (at (Routed (Looking h) y g) a) → Holds y a.passed (pooled_by b i l h g a)
    pooled-holds true i l h y g a k = (c.try h (word.Pooled i l) y g a k, refl)
    pooled-holds false i l h y g a k = sent-holds h y g i a k

    looked-holds : (h : Named) (y : Why) (g : Gone) (a : Actor) (v : OwnerWord)
        → Shows e w s me h.spot.carrier v → P (at (Routed (Looking h) y g) a)
        → Holds y a.passed (looked e me h g a v)
    looked-holds h y g a word.Absent sh k = absurd sh
    looked-holds h y g a (word.Employed i) sh k = employed-holds (i == me) i h y g a refl sh k
    looked-holds h y g a (word.Pooled i l) sh k = pooled-holds (i == me) i l h y g a k
    looked-holds h y g a (word.Busy i) sh k = sent-holds h y g i a k
    looked-holds h y g a (word.Returning i) sh k = absurd sh

    forwarded-holds : (h : Named) (y : Why) (g : Gone) (a : Actor) (v : OwnerWord)
        → Shows e w s me h.spot.carrier v → P (at (Routed (Looking h) y g) a)
        → Holds y a.passed (forwarded h g a v)
    forwarded-holds h y g a word.Absent sh k = absurd sh
    forwarded-holds h y g a (word.Employed i) sh k = sent-holds h y g i a k
    forwarded-holds h y g a (word.Pooled i l) sh k = sent-holds h y g i a k
    forwarded-holds h y g a (word.Busy i) sh k = sent-holds h y g i a k
    forwarded-holds h y g a (word.Returning i) sh k = absurd sh

    settled-holds : (b : Bool) (x : Content) (y : Why) (g : Gone) (a : Actor) → is_nil x.blocks ≡ b
        → LeavesSettled e w s me P y g a x b → Holds y a.passed (settled e me b x g a)
    settled-holds true x y g a z l =
        leaving-holds _ _ x y g (struck x.number a) refl refl (nil-is x.blocks z)
        (c.lists (unlisted x.number a.lists) (at (Routed (Abandoning x) y g) a) (λ q. absurd cc) l)
    settled-holds false x y g a z l = (l, refl)

    looked_at-holds : (h : Named) (y : Why) (g : Gone) (a : Actor) (r : Answer)
        → LeavesRoute e w s me P y g a (Looking h) r → Holds y a.passed (looked_at e me h g a r)
    looked_at-holds h y g a (Saw v) l = looked-holds h y g a v l.0 l.1
    looked_at-holds h y g a Done l = absurd l
    looked_at-holds h y g a (Head n) l = absurd l
    looked_at-holds h y g a Rests l = absurd l
    looked_at-holds h y g a (Passes n) l = absurd l
    looked_at-holds h y g a (Won x) l = absurd l
    looked_at-holds h y g a (Lost v) l = absurd l
    looked_at-holds h y g a (Home x) l = absurd l
    looked_at-holds h y g a (Got p) l = absurd l

    tried-holds : (h : Named) (seen : OwnerWord) (y : Why) (g : Gone) (a : Actor) (r : Answer)
        → LeavesRoute e w s me P y g a (Trying h seen) r → Holds y a.passed (tried h g a r)
    tried-holds h seen y g a (Won x) l = (
      c.lower RELEASED_COUNT
          (at (Routed (Settling (released x h.spot.offset)) y (first_gone g HereGone)) a)
          (λ q. absurd cc) l,
      refl,
    )
    tried-holds h seen y g a (Lost v) l = forwarded-holds h y g a v l.0 l.1
    tried-holds h seen y g a Done l = absurd l
    tried-holds h seen y g a (Head n) l = absurd l
    tried-holds h seen y g a Rests l = absurd l
    tried-holds h seen y g a (Passes n) l = absurd l
    tried-holds h seen y g a (Saw v) l = absurd l
    tried-holds h seen y g a (Home x) l = absurd l
    tried-holds h seen y g a (Got p) l = absurd l

    pub turned-holds : (z : Route Content) (y : Why) (g : Gone) (a : Actor) (r : Answer)
        → LeavesRoute e w s me P y g a z r → Holds y a.passed (turned e me z g a r)
    turned-holds (Looking h) y g a r l = looked_at-holds h y g a r l
    turned-holds (Trying h seen) y g a r l = tried-holds h seen y g a r l
    turned-holds (Settling x) y g a r l = settled-holds (is_nil x.blocks) x y g a refl l
    turned-holds (Abandoning x) y g a r l =
        let own = owner_of x.number == me in
        (c.lists (pooled_if own x.number a.lists) (at Begin a) (λ q. absurd cc) l, refl)
    turned-holds (Sending x) y g a r l = (l, refl)
    turned-holds (Clearing x) y g a r l = (l, refl)
    turned-holds (Pushing node to) y g a r l = (l, refl)
    turned-holds (Linking node to) y g a r l = (l, refl)

    -- nodes that were passed are worked off
    module _ (walk : ClosedWalk P) where
      passed-holds : (a : Actor) (ns : List Node) → a.passed ≡ ns → P (at Begin a)
          → P (at Begin (record a { passed = ns }))
      passed-holds a ns q k = subst (λ ms. P (at Begin (record a { passed = ms }))) q k

      pub worked-holds : (ns : List Node) (a : Actor) → P (at Begin (record a { passed = ns }))
          → P (worked_off e me ns a)
      worked-holds [] a k = walk.ready (record a { passed = [] }) k
      worked-holds (Block n p ∷ ns) a k =
          carried-holds Walk ns (λ g b. worked_off e me ns b)
          (route_of e me (record { name = n; spot = p }) (record a { passed = ns }))
          (route-holds (record { name = n; spot = p }) Walk (record a { passed = ns })
          (walk.block (record { name = n; spot = p }) ns a k))
          (λ g b q l. worked-holds ns b (passed-holds b ns q l))
      worked-holds (Carrier n ∷ ns) a k = walk.carrier n ns a k
