-- The release of a block, and the way of a carrier that it leaves empty. A block is released by the
-- scheduler that employs its carrier, or that abandoned it into the pool; another one puts it into
-- that scheduler's queue. Of `Gone` only the first counts: a block that was released here is
-- `done`, also if its carrier is then sent home.
-- Source: Erlang/OTP, 'Carrier Migration', section 'Migration': who releases a block, and that the
-- owner deallocates the carrier. That the scheduler that abandoned a carrier employs it is the rule
-- of older editions.
-- Source: Erlang/OTP, 'Delayed Dealloc', section 'Functionality Used to Address This problem': a
-- block is passed on.
use Rattle.std.specs.Prelude.{ℕ, Bool, true, false, ◌==◌, Option, None, Some}
use Rattle.ea_model.specs.Content.{Content, is_nil, is_vacant, released}
use Rattle.ea_model.specs.Instance.{content_of, employed, lowered, releasing_at, owner_of}
use Rattle.ea_model.specs.declared.units.TheConstants.{RELEASED_COUNT}
use Rattle.ea_machine.specs.declared.nodes.Node.TheVariants.{Carrier}
use Rattle.ea_machine.specs.declared.owners.OwnerWord.{OwnerWord}
use Rattle.ea_machine.specs.declared.owners.OwnerWord.TheVariants as word
use Rattle.ea_machine.specs.Nodes.{block_node}
use Rattle.ea_machine.specs.declared.nodes.Named.{Named}
use Rattle.ea_machine.specs.Setup.{Setup, migration}
use Rattle.ea_machine.specs.declared.stages.Route.{Route}
use Rattle.ea_machine.specs.declared.stages.Route.TheVariants.{Looking, Trying, Settling}
use Rattle.ea_machine.specs.declared.stages.Route.TheVariants.{Abandoning, Sending, Clearing}
use Rattle.ea_machine.specs.declared.stages.Route.TheVariants.{Pushing, Linking}
use Rattle.ea_machine.specs.Lists.{pooled_if, unlisted}
use Rattle.ea_machine.specs.Actor.{Actor}
use Rattle.ea_machine.specs.declared.tasks.Gone.{Gone}
use Rattle.ea_machine.specs.declared.tasks.Gone.TheVariants.{Open, Here, Queued}
use Rattle.ea_machine.specs.Rows.{Answer, Saw, Won, Lost}
use Rattle.ea_model.specs.Employment.{dismissing, disowning}
use Rattle.ea_model.specs.Abandonment.{is_due}

-- a scheduler on a route, what is next on it if it isn't over, and what became of the block
pub record Turned : Type 0 where
  pub actor : Actor
  pub route : Option (Route Content)
  pub gone : Gone

-- a row of the route is next
abbrev pub goes_on : Route Content → Gone → Actor → Turned
goes_on r gone a = record { actor = a; route = Some r; gone = gone }

-- the route is over
abbrev pub ends : Gone → Actor → Turned
ends gone a = record { actor = a; route = None; gone = gone }

-- what first became of the block
abbrev pub first_gone : Gone → Gone → Gone
first_gone Open now = now
first_gone Here now = Here
first_gone (Queued to) now = Queued to

-- the block goes to an instance's queue
abbrev pub sent_to : Named → ℕ → Gone → Actor → Turned
sent_to hand to gone a = goes_on (Pushing (block_node hand) to) (first_gone gone (Queued to)) a

-- the scheduler's instance no longer employs a carrier
abbrev pub dismissed : ℕ → Actor → Actor
dismissed number a = record a { instance = dismissing a.instance number }

-- it no longer owns the carrier
abbrev pub disowned : ℕ → Actor → Actor
disowned number a = record a { instance = disowning a.instance number }

-- the carrier is in none of its lists any longer; another's carrier is in none anyway
abbrev pub struck : ℕ → Actor → Actor
struck number a = record a { lists = unlisted number a.lists }

-- a carrier was abandoned: an own one comes last in the pooled list
abbrev pub abandoned : ℕ → ℕ → Actor → Actor
abandoned me number a =
    record a { lists = pooled_if (owner_of number == me) number a.lists }

-- a carrier is abandoned, if that is due; else the route is over
abbrev pub abandoned_if : Bool → Content → Gone → Actor → Turned
abandoned_if true x gone a = goes_on (Abandoning x) gone (dismissed x.number a)
abandoned_if false x gone a = ends gone a

-- the try to make the carrier busy was lost to an instance that fetched it: the block goes there. A
-- carrier with a block is never absent or returning
abbrev pub forwarded : Named → Gone → Actor → OwnerWord → Turned
forwarded hand gone a word.Absent = ends gone a
forwarded hand gone a (word.Employed i) = sent_to hand i gone a
forwarded hand gone a (word.Pooled i largest) = sent_to hand i gone a
forwarded hand gone a (word.Busy i) = sent_to hand i gone a
forwarded hand gone a (word.Returning i) = ends gone a

-- the try is answered: with the content in the hand the block is released, and the carrier is
-- settled next
abbrev pub tried : Named → Gone → Actor → Answer → Turned
tried hand gone a (Won x) = goes_on (Settling (released x hand.spot.offset)) (first_gone gone Here)
    (record a { instance = lowered RELEASED_COUNT a.instance })
tried hand gone a (Lost w) = forwarded hand gone a w
tried hand gone a _ = ends gone a

-- the carrier of the block is pooled, by this scheduler or another: it makes its own one busy
abbrev pub pooled_by : Bool → ℕ → ℕ → Named → Gone → Actor → Turned
pooled_by true i largest hand gone a = goes_on (Trying hand (word.Pooled i largest)) gone a
pooled_by false i largest hand gone a = sent_to hand i gone a

module _ (setup : Setup) (me : ℕ) where
  -- an emptied carrier, whether the scheduler owns it, and whether carriers migrate: it goes home
  -- to its owner, who clears it; that is no step where carriers don't migrate
  abbrev pub leaving_by : Bool → Bool → Content → Gone → Actor → Turned
  leaving_by false migrating x gone a = goes_on (Sending x) gone a
  leaving_by true true x gone a = goes_on (Clearing x) gone a
  leaving_by true false x gone a = ends gone (disowned x.number a)

  -- the emptied carrier that is in the hand leaves
  abbrev pub leaving : Content → Gone → Actor → Turned
  leaving x gone a = leaving_by (owner_of x.number == me) (migration setup) x gone a

  -- a carrier from which a block was released, and whether it is to be deallocated
  abbrev pub lightened : Bool → Content → Gone → Actor → Turned
  lightened true x gone a = leaving x gone (dismissed x.number a)
  lightened false x gone a = abandoned_if
      (is_due setup.settings a.instance.count a.instance.contents x) x gone a

  -- the content of that carrier; it is always there
  abbrev pub after_release : Gone → Actor → Option Content → Turned
  after_release gone a None = ends gone a
  after_release gone a (Some x) = lightened (is_vacant x) x (first_gone gone Here) a

  -- a block was released from the carrier
  abbrev pub released_from : ℕ → Gone → Actor → Turned
  released_from number gone a = after_release gone a (content_of (employed a.instance) number)

  -- the block in the hand is released in a carrier that the scheduler employs
  abbrev pub release_here : Named → Gone → Actor → Turned
  release_here hand gone a = released_from hand.spot.carrier gone
      (record a { instance = releasing_at a.instance hand.spot })

  -- the carrier of the block is employed, by this scheduler or another
  abbrev pub employed_by : Bool → ℕ → Named → Gone → Actor → Turned
  employed_by true i hand gone a = release_here hand gone a
  employed_by false i hand gone a = sent_to hand i gone a

  -- the owner word of the block's carrier was read. A carrier with a block is never absent or
  -- returning
  abbrev pub looked : Named → Gone → Actor → OwnerWord → Turned
  looked hand gone a word.Absent = ends gone a
  looked hand gone a (word.Employed i) = employed_by (i == me) i hand gone a
  looked hand gone a (word.Pooled i largest) = pooled_by (i == me) i largest hand gone a
  looked hand gone a (word.Busy i) = sent_to hand i gone a
  looked hand gone a (word.Returning i) = ends gone a

  -- the look is answered
  abbrev pub looked_at : Named → Gone → Actor → Answer → Turned
  looked_at hand gone a (Saw w) = looked hand gone a w
  looked_at hand gone a _ = ends gone a

  -- the carrier was settled, and whether it is empty: then it is employed, and leaves; else it is
  -- in the pool again
  abbrev pub settled : Bool → Content → Gone → Actor → Turned
  settled true x gone a = leaving x gone (struck x.number a)
  settled false x gone a = ends gone a

  -- the route once its row is answered
  abbrev pub turned : Route Content → Gone → Actor → Answer → Turned
  turned (Looking hand) gone a r = looked_at hand gone a r
  turned (Trying hand seen) gone a r = tried hand gone a r
  turned (Settling x) gone a r = settled (is_nil x.blocks) x gone a
  turned (Abandoning x) gone a r = ends gone (abandoned me x.number a)
  turned (Sending x) gone a r = goes_on (Pushing (Carrier x.number) (owner_of x.number)) gone a
  turned (Clearing x) gone a r = ends gone (disowned x.number a)
  turned (Pushing node to) gone a r = goes_on (Linking node to) gone a
  turned (Linking node to) gone a r = ends gone a

  -- where carriers don't migrate: whether the scheduler owns the carrier, so that it employs it too
  abbrev pub owned_by : Bool → Named → Actor → Turned
  owned_by true hand a = release_here hand Open a
  owned_by false hand a = sent_to hand (owner_of hand.spot.carrier) Open a

  -- whether carriers migrate: if they do, the owner word says who the employer is
  abbrev pub routed : Bool → Named → Actor → Turned
  routed true hand a = goes_on (Looking hand) Open a
  routed false hand a = owned_by (owner_of hand.spot.carrier == me) hand a

  -- the route of a block that has just come into the hand
  abbrev pub route_of : Named → Actor → Turned
  route_of hand a = routed (migration setup) hand a
