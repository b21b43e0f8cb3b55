-- What the turns so far say of a scheduler, by where it is in its operation.
use Rattle.std.proofs.Common.{◌≡◌, ◌≢◌, ◌⊎◌, ℕ, ◌+◌, ◌≤◌, List, [], ◌∷◌, ◌++◌, Bool, true, false}
use Rattle.std.proofs.Common.{refl, sym, ap, ◌∙◌, subst, arith}
use Rattle.std.specs.Prelude.{Option, Some, None, Ok, ◌==◌, count_by, length}
use Rattle.std.proofs.lemmas.List.{append-nil, append_assoc, length-append}
use Rattle.ea_model.specs.declared.carriers.CarrierPlan.{CarrierPlan}
use Rattle.ea_model.specs.declared.carriers.Place.{Place}
use Rattle.ea_model.specs.Entries.{Entry}
use Rattle.ea_model.specs.declared.entries.Entry.TheVariants as entry
use Rattle.ea_model.specs.declared.entries.NoCarrier.{NoCarrier}
use Rattle.ea_model.specs.declared.operations.Op.{Op}
use Rattle.ea_model.specs.declared.operations.Op.TheVariants as op
use Rattle.ea_model.specs.Instance.{chosen_spot, plan, owner_of}
use Rattle.ea_model.specs.Content.{Content}
use Rattle.ea_machine.specs.Lists.{Lists}
use Rattle.ea_machine.specs.Searches.{Search, goes_on, new_search, with_counted}
use Rattle.ea_machine.specs.declared.parts.Part.{Part}
use Rattle.ea_machine.specs.declared.owners.OwnerWord.{OwnerWord}
use Rattle.ea_machine.specs.declared.owners.OwnerWord.TheVariants as word
use Rattle.ea_machine.specs.declared.stages.Stage.{Stage}
use Rattle.ea_machine.specs.declared.stages.Stage.TheVariants.{Begin, Routed, Collecting, Searching}
use Rattle.ea_machine.specs.declared.stages.Stage.TheVariants.{Fetching, Creating, Giving, Taking}
use Rattle.ea_machine.specs.declared.stages.Stage.TheVariants.{Ended, Ready}
use Rattle.ea_machine.specs.declared.stages.Route.{Route}
use Rattle.ea_machine.specs.declared.stages.Route.TheVariants.{Looking, Trying, Settling}
use Rattle.ea_machine.specs.declared.stages.Route.TheVariants.{Abandoning, Sending, Clearing}
use Rattle.ea_machine.specs.declared.stages.Route.TheVariants.{Pushing, Linking}
use Rattle.ea_machine.specs.Actor.{Actor}
use Rattle.ea_machine.specs.declared.tasks.Task.{Task}
use Rattle.ea_machine.specs.declared.tasks.Task.TheVariants.{Freeing, Moving}
use Rattle.ea_machine.specs.declared.tasks.Why.{Why}
use Rattle.ea_machine.specs.declared.tasks.Why.TheVariants.{Walk, For}
use Rattle.ea_machine.specs.declared.tasks.Gone.{Gone}
use Rattle.ea_machine.specs.declared.tasks.Gone.TheVariants.{Open, Here, Queued}
use Rattle.ea_machine.specs.declared.asks.Ask.{Ask}
use Rattle.ea_machine.specs.declared.nodes.Node.{Node}
use Rattle.ea_machine.specs.Nodes.{block_node}
use Rattle.ea_machine.specs.Machine.{run, run_on}
use Rattle.ea_machine.specs.declared.nodes.Named.{Named}
use Rattle.ea_machine.specs.Placements.{failed}
use Rattle.ea_machine.specs.Searches.{fits}
use Rattle.ea_machine.specs.Setup.{Setup, greatest_number, migration}
use Rattle.ea_machine.specs.State.{State}
use Rattle.ea_machine.specs.Sums.{one_if}
use Rattle.ea_machine.specs.Tasks.{entry_of}
use Rattle.ea_sound.specs.Chosen.{HasAsked, IsPlacedAt}
use Rattle.ea_sound.specs.Entries.{Makes}
use Rattle.ea_sound.specs.HandedOver.{HasHeld, HasPushed, IsAnother, IsReleasedHere}
use Rattle.ea_sound.specs.Shown.{HasSeen, SeesEmployer, SeesItself}
use Rattle.ea_sound.specs.Exhausted.{IsFailOf, seen_since}
use Rattle.ea_sound.specs.Needs.{AsksFor}
use Rattle.ea_sound.specs.Searches.{IsSought, IsUnsought, Searched, Shown, Sight, sight_if}
use Rattle.ea_sound.specs.Sought.{SoughtInVain}
use Rattle.ea_sound.specs.Turns.{HoldsAfter, IsBegun, answered, begun, log_after}
use Rattle.ea_sound.specs.Present.{OfAsk, OfTask}
use Rattle.ea_sound.specs.Released.{LiesAt, blocks_named}
use Rattle.ea_sound.specs.Names.{to_make}
use Rattle.ea_sound.proofs.HandedNames.{NeverGiven, never-other}
use Rattle.ea_sound.proofs.SearchLists.{count-snoc, sights-snoc}
use Rattle.ea_sound.proofs.TurnLists.{longer, run-since}
use Rattle.ea_machine.specs.Placements.{refills}

-- b has the log, the operations left, the instance and the held names of a
abbrev pub IsSame : Actor → Actor → Type 0
IsSame a b = (b.log ≡ a.log) × (b.todo ≡ a.todo) × (b.instance ≡ a.instance) × (b.held ≡ a.held)

-- so it is but for the count, which is as great as can be
abbrev pub IsRefilled : Actor → Actor → Type 0
IsRefilled a b = IsSame (refills a) b

-- the begin of its operation was over in a turn of L, nothing was to be chosen then, it was as R
-- says, and what it saw since then, with each of its steps, is as P says, by the lists that it had
pub record Underway (e : Setup) (L : List ℕ) (s need : ℕ) (R : Actor → Type 0)
    (P : Lists → List Sight → Type 0) : Type 0 where
  pub before : List ℕ
  pub since : List ℕ
  pub split : L ≡ before ++ s ∷ since
  pub begins : IsBegun e (run e before) s
  pub same : R (begun e before s)
  pub asks : AsksFor (begun e before s) (begun e before s).todo need
  pub none : chosen_spot (begun e before s).instance need ≡ None
  pub saw : P (begun e before s).lists (seen_since e before s since)
  pub steps : count_by (λ j. j == s) since ≡ length (seen_since e before s since)

-- a search that began with these lists saw this, and stands there
abbrev pub CameTo : Setup → ℕ → Search → Lists → List Sight → Type 0
CameTo e need x l xs =
    Searched (greatest_number e) need (new_search (greatest_number e) l) x xs

pub record Searches (e : Setup) (L : List ℕ) (s : ℕ) (a : Actor) (ask : Ask) (at : ℕ) (part : Part)
    : Type 0 where
  pub of : OfAsk ask a.todo
  pub on : migration e ≡ true
  pub small : ask.need ≤ e.settings.sbct
  pub goes : goes_on part ≡ true
  pub way : Underway e L s ask.need (λ b. IsRefilled b a)
      (CameTo e ask.need (record { lists = a.lists; at = at; part = part }))

-- the last sight showed the word that is tried
abbrev pub AndShown : Setup → ℕ → Search → OwnerWord → Lists → List Sight → Type 0
AndShown e need x seen l xs = (ys : List Sight) × (xs ≡ ys ++ Shown x.at seen ∷ [])
    × CameTo e need x l ys

pub record Fetches (e : Setup) (L : List ℕ) (s : ℕ) (a : Actor) (ask : Ask) (at : ℕ) (part : Part)
    (seen : OwnerWord) : Type 0 where
  pub of : OfAsk ask a.todo
  pub on : migration e ≡ true
  pub small : ask.need ≤ e.settings.sbct
  pub old : Part
  pub goes : goes_on old ≡ true
  pub counts : part ≡ with_counted seen old
  pub fit : fits ask.need seen ≡ true
  pub way : Underway e L s ask.need (λ b. IsRefilled b a)
      (AndShown e ask.need (record { lists = a.lists; at = at; part = old }) seen)

-- the old block that an ask may have was held when the operation itself began
abbrev pub HasOld : Setup → List ℕ → ℕ → List Entry → Option Named → Type 0
HasOld e L s log None = Unit {0}
HasOld e L s log (Some h) = HasHeld e L s h.name h log

pub record Creates (e : Setup) (L : List ℕ) (s : ℕ) (a : Actor) (ask : Ask) (p : CarrierPlan)
    : Type 0 where
  pub of : OfAsk ask a.todo
  pub on : migration e ≡ true
  pub asked : HasAsked e L s ask.need a.log
  pub planned : plan a.instance ask.need ≡ Ok p
  pub none : ask.need ≤ e.settings.sbct → chosen_spot a.instance ask.need ≡ None
  pub old : HasOld e L s a.log ask.old
  pub sought : SoughtInVain e L s ask.need a.log

-- the begin of its operation, which takes a name, was over in a turn of L; none of its tries since
-- then found the name, and that many are left
pub record Takes (e : Setup) (L : List ℕ) (s : ℕ) (a : Actor) (n tries left : ℕ) : Type 0 where
  pub before : List ℕ
  pub since : List ℕ
  pub split : L ≡ before ++ s ∷ since
  pub begins : IsBegun e (run e before) s
  pub same : IsSame (begun e before s) a
  pub some : 1 ≤ left
  pub steps : count_by (λ j. j == s) since + left ≡ tries
  pub absent : NeverGiven e before s n since
  pub others : List Op
  pub first : a.todo ≡ op.Take n tries ∷ others

-- s placed a block in a turn of L, when its log was this
pub record Placement (e : Setup) (L : List ℕ) (s : ℕ) (log : List Entry) (name : ℕ)
    (place : Place) : Type 0 where
  pub before : List ℕ
  pub since : List ℕ
  pub split : L ≡ before ++ s ∷ since
  pub same : log_after e before s ≡ log
  pub need : ℕ
  pub asked : HasAsked e (before ++ s ∷ []) s need log
  pub placed : IsPlacedAt e before s need place
  pub there : LiesAt e name place (run e (before ++ s ∷ []))
  pub holds : HoldsAfter e (before ++ s ∷ []) s name

abbrev pub Placing : Setup → List ℕ → ℕ → List Entry → Task → Type 0
Placing e L s log (Freeing n) = Unit {0}
Placing e L s log (Moving o n p) = Placement e L s log n p

-- the name of the block that goes
abbrev pub name_in : Task → ℕ
name_in (Freeing n) = n
name_in (Moving o n p) = o

-- a block that was queued went to another scheduler
abbrev pub WentTo : Setup → ℕ → Gone → Type 0
WentTo e s Open = Unit {0}
WentTo e s Here = Unit {0}
WentTo e s (Queued to) = IsAnother e s to

-- after some of the turns L no block had the name, and no operation was to make it
pub record IsOut (e : Setup) (L : List ℕ) (n : ℕ) : Type 0 where
  pub before : List ℕ
  pub since : List ℕ
  pub split : L ≡ before ++ since
  pub none : blocks_named e n (run e before) ≡ 0
  pub never : to_make e n (run e before) ≡ 0

-- and the block that was held under it was released by s itself
abbrev pub IsOver : Setup → List ℕ → ℕ → List Entry → ℕ → Type 0
IsOver e L s log n = IsOut e L n × IsReleasedHere e L s n log

-- so where the block is gone: it isn't queued
abbrev pub LeftBy : Setup → List ℕ → ℕ → List Entry → ℕ → Gone → Type 0
LeftBy e L s log n Open = IsOver e L s log n
LeftBy e L s log n Here = IsOver e L s log n
LeftBy e L s log n (Queued to) = ⊥

-- the node is that of the block that was held when the operation began, and `to` is the employer
-- that s saw; where carriers don't migrate, the owner
pub record Sends (e : Setup) (L : List ℕ) (s : ℕ) (log : List Entry) (n : ℕ) (node : Node)
    (to : ℕ) : Type 0 where
  pub named : Named
  pub is : node ≡ block_node named
  pub held : HasHeld e L s n named log
  pub seen : migration e ≡ true → HasSeen e L s log (SeesEmployer s named to)
  pub owner : migration e ≡ false → to ≡ owner_of named.spot.carrier

-- and it was pushed
pub record Sent (e : Setup) (L : List ℕ) (s : ℕ) (log : List Entry) (n to : ℕ) : Type 0 where
  pub named : Named
  pub held : HasHeld e L s n named log
  pub pushed : HasPushed e L s named to log
  pub seen : migration e ≡ true → HasSeen e L s log (SeesEmployer s named to)
  pub owner : migration e ≡ false → to ≡ owner_of named.spot.carrier

-- the block is gone, or its node is to be pushed
abbrev pub PushesBy : Setup → List ℕ → ℕ → List Entry → ℕ → Node → ℕ → Gone → Type 0
PushesBy e L s log n node to Open = IsOver e L s log n
PushesBy e L s log n node to Here = IsOver e L s log n
PushesBy e L s log n node to (Queued i) = Sends e L s log n node to × (i ≡ to)

-- the block is gone, or its node was pushed
abbrev pub PushedBy : Setup → List ℕ → ℕ → List Entry → ℕ → Gone → Type 0
PushedBy e L s log n Open = IsOver e L s log n
PushedBy e L s log n Here = IsOver e L s log n
PushedBy e L s log n (Queued to) = Sent e L s log n to

-- the block that was held under the name is in the hand, or it left that
abbrev pub OnWay : Setup → List ℕ → ℕ → List Entry → ℕ → Route Content → Gone → Type 0
OnWay e L s log n (Looking h) g = (h.name ≡ n) × (g ≡ Open) × HasHeld e L s n h log
OnWay e L s log n (Trying h seen) g = (h.name ≡ n) × (g ≡ Open) × HasHeld e L s n h log
    × ((l : ℕ) × (seen ≡ word.Pooled s l))
OnWay e L s log n (Settling x) g = LeftBy e L s log n g
OnWay e L s log n (Abandoning x) g = LeftBy e L s log n g
OnWay e L s log n (Sending x) g = LeftBy e L s log n g
OnWay e L s log n (Clearing x) g = LeftBy e L s log n g
OnWay e L s log n (Pushing node to) g = PushesBy e L s log n node to g
OnWay e L s log n (Linking node to) g = PushedBy e L s log n g

abbrev pub OnTask : Setup → List ℕ → ℕ → Actor → Route Content → Why → Gone → Type 0
OnTask e L s a r Walk g = Unit {0}
OnTask e L s a r (For task) g = OfTask task a.todo × Placing e L s a.log task
    × WentTo e s g × OnWay e L s a.log (name_in task) r g

-- what the turns L say of s, which is a
abbrev pub SoFar : Setup → List ℕ → ℕ → Actor → Stage Content → Type 0
SoFar e L s a Begin = Unit {0}
SoFar e L s a (Routed r why g) = OnTask e L s a r why g
SoFar e L s a (Collecting c) = Unit {0}
SoFar e L s a (Searching ask at part) = Searches e L s a ask at part
SoFar e L s a (Fetching ask at part seen) = Fetches e L s a ask at part seen
SoFar e L s a (Creating ask p) = Creates e L s a ask p
SoFar e L s a (Giving h to) = (ops : List Op) × (a.todo ≡ op.Give h.name to ∷ ops)
SoFar e L s a (Taking n tries left) = Takes e L s a n tries left
SoFar e L s a Ended = Unit {0}
SoFar e L s a Ready = ⊥

-- one turn more, of s or of another
pub further : (e : Setup) (L : List ℕ) (s j need : ℕ) (R : Actor → Type 0)
    (P Q : Lists → List Sight → Type 0) (b : Bool) → (j == s) ≡ b
    → length (sight_if b ((run e L).actors s).stage (answered (run e L) s)) ≡ one_if b
    → ((l : Lists) (xs : List Sight) → P l xs
    → Q l (xs ++ sight_if b ((run e L).actors s).stage (answered (run e L) s)))
    → Underway e L s need R P → Underway e (L ++ j ∷ []) s need R Q
further e L s j need R P Q b d one f u = record {
  before = u.before;
  since = u.since ++ j ∷ [];
  split = longer L u.before u.since s j u.split;
  begins = u.begins;
  same = u.same;
  asks = u.asks;
  none = u.none;
  saw = subst (Q (begun e u.before s).lists) (sym sees)
      (f (begun e u.before s).lists xs u.saw);
  steps = count-snoc s u.since j
      ∙ omega (
        arith,
        u.steps,
        ap (λ (c : Bool). one_if c) d,
        one,
        ap length sees,
        length-append xs (sight_if b ((run e L).actors s).stage (answered (run e L) s)),
      );
}
  where
    xs : List Sight
    xs = seen_since e u.before s u.since

    sees : seen_since e u.before s (u.since ++ j ∷ [])
        ≡ xs ++ sight_if b ((run e L).actors s).stage (answered (run e L) s)
    sees = sights-snoc e (run e (u.before ++ s ∷ [])) s u.since j
        ∙ ap (λ (w : State). xs ++ sight_if (j == s) (w.actors s).stage (answered w s))
        (run-since e L u.before u.since s u.split)
        ∙ ap (λ c. xs ++ sight_if c ((run e L).actors s).stage (answered (run e L) s)) d

-- the operation has asked for a place
pub asked-longer : (e : Setup) (L : List ℕ) (s j need : ℕ) (log : List Entry)
    → HasAsked e L s need log → HasAsked e (L ++ j ∷ []) s need log
asked-longer e L s j need log h = record {
  before = h.before;
  since = h.since ++ j ∷ [];
  split = longer L h.before h.since s j h.split;
  begins = h.begins;
  asks = h.asks;
  same = h.same;
}

pub way-asked : (e : Setup) (L : List ℕ) (s need : ℕ) (a : Actor) (P : Lists → List Sight → Type 0)
    → Underway e L s need (λ b. IsRefilled b a) P → HasAsked e L s need a.log
way-asked e L s need a P u = record {
  before = u.before;
  since = u.since;
  split = u.split;
  begins = u.begins;
  asks = u.asks;
  same = sym u.same.0;
}

pub placing-longer : (e : Setup) (L : List ℕ) (s j : ℕ) (log : List Entry) (task : Task)
    → Placing e L s log task → Placing e (L ++ j ∷ []) s log task
placing-longer e L s j log (Freeing n) h = h
placing-longer e L s j log (Moving o n p) h = record {
  before = h.before;
  since = h.since ++ j ∷ [];
  split = longer L h.before h.since s j h.split;
  same = h.same;
  need = h.need;
  asked = h.asked;
  placed = h.placed;
  there = h.there;
  holds = h.holds;
}

pub held-longer : (e : Setup) (L : List ℕ) (s j n : ℕ) (h : Named) (log : List Entry)
    → HasHeld e L s n h log → HasHeld e (L ++ j ∷ []) s n h log
held-longer e L s j n h log has = record {
  before = has.before;
  since = has.since ++ j ∷ [];
  split = longer L has.before has.since s j has.split;
  begins = has.begins;
  same = has.same;
  held = has.held;
}

pub seen-longer : (e : Setup) (L : List ℕ) (s j : ℕ) (log : List Entry) (Sees : State → Type 0)
    → HasSeen e L s log Sees → HasSeen e (L ++ j ∷ []) s log Sees
seen-longer e L s j log Sees has = record {
  before = has.before;
  since = has.since ++ j ∷ [];
  split = longer L has.before has.since s j has.split;
  same = has.same;
  sees = has.sees;
}

pub old-longer : (e : Setup) (L : List ℕ) (s j : ℕ) (log : List Entry) (old : Option Named)
    → HasOld e L s log old → HasOld e (L ++ j ∷ []) s log old
old-longer e L s j log None has = tt
old-longer e L s j log (Some h) has = held-longer e L s j h.name h log has

pub out-longer : (e : Setup) (L : List ℕ) (j n : ℕ) → IsOut e L n → IsOut e (L ++ j ∷ []) n
out-longer e L j n o = record {
  before = o.before;
  since = o.since ++ j ∷ [];
  split = ap (λ l. l ++ j ∷ []) o.split ∙ append_assoc o.before o.since (j ∷ []);
  none = o.none;
  never = o.never;
}

pub over-longer : (e : Setup) (L : List ℕ) (s j : ℕ) (log : List Entry) (n : ℕ)
    → IsOver e L s log n → IsOver e (L ++ j ∷ []) s log n
over-longer e L s j log n o = (
  out-longer e L j n o.0,
  record {
    named = o.1.named;
    held = held-longer e L s j n o.1.named log o.1.held;
    seen = λ on. seen-longer e L s j log (SeesItself s o.1.named) (o.1.seen on);
    owner = o.1.owner;
  },
)

pub left-longer : (e : Setup) (L : List ℕ) (s j : ℕ) (log : List Entry) (n : ℕ) (g : Gone)
    → LeftBy e L s log n g → LeftBy e (L ++ j ∷ []) s log n g
left-longer e L s j log n Open o = over-longer e L s j log n o
left-longer e L s j log n Here o = over-longer e L s j log n o
left-longer e L s j log n (Queued to) o = absurd o

pub pushes-longer : (e : Setup) (L : List ℕ) (s j : ℕ) (log : List Entry) (n : ℕ) (node : Node)
    (to : ℕ) (g : Gone) → PushesBy e L s log n node to g
    → PushesBy e (L ++ j ∷ []) s log n node to g
pushes-longer e L s j log n node to Open o = over-longer e L s j log n o
pushes-longer e L s j log n node to Here o = over-longer e L s j log n o
pushes-longer e L s j log n node to (Queued i) o = (
  record {
    named = o.0.named;
    is = o.0.is;
    held = held-longer e L s j n o.0.named log o.0.held;
    seen = λ on. seen-longer e L s j log (SeesEmployer s o.0.named to) (o.0.seen on);
    owner = o.0.owner;
  },
  o.1,
)

pub pushed-longer : (e : Setup) (L : List ℕ) (s j : ℕ) (log : List Entry) (n : ℕ) (g : Gone)
    → PushedBy e L s log n g → PushedBy e (L ++ j ∷ []) s log n g
pushed-longer e L s j log n Open o = over-longer e L s j log n o
pushed-longer e L s j log n Here o = over-longer e L s j log n o
pushed-longer e L s j log n (Queued to) o = record {
  named = o.named;
  held = held-longer e L s j n o.named log o.held;
  pushed = record {
    before = o.pushed.before;
    since = o.pushed.since ++ j ∷ [];
    split = longer L o.pushed.before o.pushed.since s j o.pushed.split;
    same = o.pushed.same;
    queue = o.pushed.queue;
  };
  seen = λ on. seen-longer e L s j log (SeesEmployer s o.named to) (o.seen on);
  owner = o.owner;
}

way-longer : (e : Setup) (L : List ℕ) (s j : ℕ) (log : List Entry) (n : ℕ) (r : Route Content)
    (g : Gone) → OnWay e L s log n r g → OnWay e (L ++ j ∷ []) s log n r g
way-longer e L s j log n (Looking h) g w = (w.0, w.1, held-longer e L s j n h log w.2)
way-longer e L s j log n (Trying h seen) g w =
    (w.0, w.1, held-longer e L s j n h log w.2, w.3)
way-longer e L s j log n (Settling x) g w = left-longer e L s j log n g w
way-longer e L s j log n (Abandoning x) g w = left-longer e L s j log n g w
way-longer e L s j log n (Sending x) g w = left-longer e L s j log n g w
way-longer e L s j log n (Clearing x) g w = left-longer e L s j log n g w
way-longer e L s j log n (Pushing node to) g w = pushes-longer e L s j log n node to g w
way-longer e L s j log n (Linking node to) g w = pushed-longer e L s j log n g w

-- a turn of another scheduler adds nothing
module _ (e : Setup) (L : List ℕ) (s j : ℕ) (ne : j ≢ s) where
  vain-longer : (need : ℕ) (log : List Entry) → SoughtInVain e L s need log
      → SoughtInVain e (L ++ j ∷ []) s need log
  vain-longer need log v =
      let d : (j == s) ≡ false = grind (arith, ne) in
      let w : State = run e (v.before ++ s ∷ []) in
      let sees : seen_since e v.before s (v.since ++ j ∷ []) ≡ seen_since e v.before s v.since =
      sights-snoc e w s v.since j
      ∙ ap (λ b. seen_since e v.before s v.since ++ sight_if b
      ((run_on e w v.since).actors s).stage (answered (run_on e w v.since) s)) d
      ∙ append-nil (seen_since e v.before s v.since) in
      record {
        before = v.before;
        since = v.since ++ j ∷ [];
        split = longer L v.before v.since s j v.split;
        begins = v.begins;
        same = v.same;
        asks = v.asks;
        none = v.none;
        looked = v.looked;
        sought = subst (λ xs. IsUnsought e need v.looked xs
            ⊎ IsSought e (begun e v.before s).lists need v.looked xs) (sym sees) v.sought;
        steps = omega
            (arith, v.steps, count-snoc s v.since j, ap (λ b. one_if b) d, ap length sees);
      }

  away : (need : ℕ) (R : Actor → Type 0) (P : Lists → List Sight → Type 0)
      → Underway e L s need R P
      → Underway e (L ++ j ∷ []) s need R P
  away need R P u =
      let d : (j == s) ≡ false = grind (arith, ne) in
      further e L s j need R P P false d refl (λ l xs p. subst (P l) (sym (append-nil xs)) p) u

  pub other-so_far : (a : Actor) (st : Stage Content) → SoFar e L s a st
      → SoFar e (L ++ j ∷ []) s a st
  other-so_far a (Searching ask at part) h = record {
    of = h.of;
    on = h.on;
    small = h.small;
    goes = h.goes;
    way = away ask.need (λ b. IsRefilled b a) _ h.way;
  }
  other-so_far a (Fetching ask at part seen) h = record {
    of = h.of;
    on = h.on;
    small = h.small;
    old = h.old;
    goes = h.goes;
    counts = h.counts;
    fit = h.fit;
    way = away ask.need (λ b. IsRefilled b a) _ h.way;
  }
  other-so_far a (Creating ask p) h = record {
    of = h.of;
    on = h.on;
    asked = asked-longer e L s j ask.need a.log h.asked;
    planned = h.planned;
    none = h.none;
    old = old-longer e L s j a.log ask.old h.old;
    sought = vain-longer ask.need a.log h.sought;
  }
  other-so_far a (Routed r Walk g) h = h
  other-so_far a (Routed r (For task) g) h = (
    h.0,
    placing-longer e L s j a.log task h.1,
    h.2,
    way-longer e L s j a.log (name_in task) r g h.3,
  )
  other-so_far a Begin h = h
  other-so_far a (Collecting c) h = h
  other-so_far a (Giving g to) h = h
  other-so_far a (Taking n tries left) h =
      let d : (j == s) ≡ false = grind (arith, ne) in record {
        before = h.before;
        since = h.since ++ j ∷ [];
        split = longer L h.before h.since s j h.split;
        begins = h.begins;
        same = h.same;
        some = h.some;
        steps = omega (arith, h.steps, count-snoc s h.since j, ap (λ b. one_if b) d);
        absent = never-other e h.before s n h.since j ne h.absent;
        others = h.others;
        first = h.first;
      }
  other-so_far a Ended h = h
  other-so_far a Ready h = h

-- an entry is of the first of these operations
pub record IsOfFirst (ops : List Op) (x : Entry) : Type 0 where
  pub first : Op
  pub others : List Op
  pub is : ops ≡ first ∷ others
  pub makes : Makes first x

some-same : {A : Type 0} (x y : A) → Some x ≡ Some y → x ≡ y
some-same x y q = cc

module _ (ask : Ask) where
  pub failed-is : (looked : ℕ) (why : NoCarrier) (ops : List Op) → OfAsk ask ops
      → IsFailOf ops ask.need looked why (failed ask looked why ask.old)
  failed-is looked why (op.Alloc n b ∷ ops) h = ap (failed ask looked why) h.2
      ∙ ap (λ k. entry.AllocFail k ask.need looked why) h.0
  failed-is looked why (op.Realloc o n b ∷ ops) h = ap (failed ask looked why) h.2.1
      ∙ ap (λ k. entry.ReallocFail h.2.0.name k ask.need looked why) h.0
      ∙ ap (λ k. entry.ReallocFail k n ask.need looked why) h.2.2
  failed-is looked why [] h = absurd h
  failed-is looked why (op.Free n ∷ ops) h = absurd h
  failed-is looked why (op.Give n to ∷ ops) h = absurd h
  failed-is looked why (op.Take n tries ∷ ops) h = absurd h
  failed-is looked why (op.Info ∷ ops) h = absurd h
  failed-is looked why (op.Idle ∷ ops) h = absurd h

  -- of the operation that asks: a fail, and an entry or a task of a placement
  module _ (looked : ℕ) (why : NoCarrier) (place : Place) where
    abbrev pub Outcomes : List Op → Option Named → Type 0
    Outcomes ops None = IsOfFirst ops (failed ask looked why None)
        × IsOfFirst ops (entry.Alloc ask.name place)
    Outcomes ops (Some h) = IsOfFirst ops (failed ask looked why (Some h))
        × OfTask (Moving h.name ask.name place) ops

    pub outcomes : (ops : List Op) → OfAsk ask ops → (old : Option Named) → ask.old ≡ old
        → Outcomes ops old
    outcomes (op.Alloc n b ∷ ops) h None q = (
      record { first = op.Alloc n b; others = ops; is = refl; makes = (h.0, h.1) },
      record { first = op.Alloc n b; others = ops; is = refl; makes = h.0 },
    )
    outcomes (op.Alloc n b ∷ ops) h (Some x) q = absurd (let r = sym q ∙ h.2 in cc)
    outcomes (op.Realloc o n b ∷ ops) h None q = absurd (let r = sym q ∙ h.2.1 in cc)
    outcomes (op.Realloc o n b ∷ ops) h (Some x) q =
        let same : x ≡ h.2.0 = some-same x h.2.0 (sym q ∙ h.2.1) in
        let r : x.name ≡ o = ap (λ (y : Named). y.name) same ∙ h.2.2 in (
          record { first = op.Realloc o n b; others = ops; is = refl; makes = (r, h.0, h.1) },
          (r, h.0),
        )
    outcomes [] h old q = absurd h
    outcomes (op.Free n ∷ ops) h old q = absurd h
    outcomes (op.Give n to ∷ ops) h old q = absurd h
    outcomes (op.Take n tries ∷ ops) h old q = absurd h
    outcomes (op.Info ∷ ops) h old q = absurd h
    outcomes (op.Idle ∷ ops) h old q = absurd h

task-makes : (task : Task) (g : Gone) (o : Op) (ops : List Op) → OfTask task (o ∷ ops)
    → Makes o (entry_of task g)
task-makes (Freeing n) Open (op.Free m) ops h = h
task-makes (Freeing n) Here (op.Free m) ops h = h
task-makes (Freeing n) (Queued to) (op.Free m) ops h = h
task-makes (Moving k n p) Open (op.Realloc o m b) ops h = h
task-makes (Moving k n p) Here (op.Realloc o m b) ops h = h
task-makes (Moving k n p) (Queued to) (op.Realloc o m b) ops h = h
task-makes (Freeing n) g (op.Alloc m b) ops h = absurd h
task-makes (Freeing n) g (op.Realloc o m b) ops h = absurd h
task-makes (Freeing n) g (op.Give m to) ops h = absurd h
task-makes (Freeing n) g (op.Take m tries) ops h = absurd h
task-makes (Freeing n) g op.Info ops h = absurd h
task-makes (Freeing n) g op.Idle ops h = absurd h
task-makes (Moving k n p) g (op.Alloc m b) ops h = absurd h
task-makes (Moving k n p) g (op.Free m) ops h = absurd h
task-makes (Moving k n p) g (op.Give m to) ops h = absurd h
task-makes (Moving k n p) g (op.Take m tries) ops h = absurd h
task-makes (Moving k n p) g op.Info ops h = absurd h
task-makes (Moving k n p) g op.Idle ops h = absurd h

pub task-first : (task : Task) (g : Gone) (ops : List Op) → OfTask task ops
    → IsOfFirst ops (entry_of task g)
task-first task g (o ∷ ops) h = record {
  first = o;
  others = ops;
  is = refl;
  makes = task-makes task g o ops h;
}
task-first (Freeing n) g [] h = absurd h
task-first (Moving k n p) g [] h = absurd h
