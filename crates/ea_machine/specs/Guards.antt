-- The guards of the table: what holds whenever a scheduler wants a row.
-- Source: Erlang/OTP, 'Carrier Migration', sections 'Migration' and 'Carrier Pool'.
-- Source, for queues: Erlang/OTP, 'Delayed Dealloc', section 'Functionality Used to Address This
-- problem'.
use Rattle.std.specs.Prelude.{◌≡◌, ◌≢◌, ◌⊎◌, ℕ, true, false, [], ◌∷◌, None, Some, All, Contains}
use Rattle.ea_model.specs.Content.{Content, can_go}
use Rattle.ea_machine.specs.declared.nodes.Node.{Node}
use Rattle.ea_machine.specs.declared.owners.OwnerWord.{OwnerWord}
use Rattle.ea_machine.specs.declared.owners.OwnerWord.TheVariants as word
use Rattle.ea_machine.specs.Nodes.{first_node, named_at, pushed, same_node}
use Rattle.ea_machine.specs.Owners.{Absent, Employed, Busy, Returning}
use Rattle.ea_model.specs.Instance.{owner_of}
use Rattle.ea_machine.specs.Setup.{Setup}
use Rattle.ea_machine.specs.Shared.{Shared}
use Rattle.ea_machine.specs.declared.stages.Stage.TheVariants.{Collecting, Fetching}
use Rattle.ea_machine.specs.declared.parts.Part.{Part}
use Rattle.ea_machine.specs.Actor.{Actor}
use Rattle.ea_machine.specs.declared.asks.Ask.{Ask}
use Rattle.ea_machine.specs.Rows.{Row, TakeAll, TakeLink, Look, Push, Link, BusyTry, Settle}
use Rattle.ea_machine.specs.Rows.{Abandon, FetchTry, Create, SendHome, Clear, Give, TakeTry}
use Rattle.ea_machine.specs.Rows.{Nothing}
use Rattle.ea_model.specs.Abandonment.{is_due}
use Rattle.ea_machine.specs.Searches.{fits}
use Rattle.ea_machine.specs.Statistics.{employed_multis, leaving_at}

-- the node is in no queue, and in no walk before it was passed
abbrev pub IsNowhere : Node → Shared → Type 0
IsNowhere node s = (i : ℕ) → All (λ m. same_node node m.node ≡ false) (s.queues i)
    × All (λ m. same_node node m.node ≡ false) (s.rests i)

-- the node is there, in an instance's queue or walk, and not linked
abbrev pub IsUnlinkedAt : Node → ℕ → Shared → Type 0
IsUnlinkedAt node to s = Contains (s.queues to) (pushed node) ⊎ Contains (s.rests to) (pushed node)

module _ (setup : Setup) (me : ℕ) (a : Actor) (s : Shared) where
  -- the scheduler employs a carrier, and has its content in its hand, without blocks; it is not a
  -- main carrier
  pub record IsEmptied (number : ℕ) : Type 0 where
    pub content : Content
    pub in_hand : leaving_at a.stage ≡ content ∷ []
    pub is : content.number ≡ number
    pub empty : content.blocks ≡ []
    pub leaves : can_go content.kind ≡ true
    pub employed : s.places number ≡ Employed me

  -- a carrier came home to it, and it had the node in its walk
  pub record HasReturned (number : ℕ) : Type 0 where
    pub content : Content
    pub collects : a.stage ≡ Collecting number
    pub returning : s.places number ≡ Returning me content

  -- it saw the word in its search, and the carrier has a gap for its block
  pub record SawFitting (seen : OwnerWord) : Type 0 where
    pub ask : Ask
    pub at : ℕ
    pub part : Part
    pub fetches : a.stage ≡ Fetching ask at part seen
    pub large : fits ask.need seen ≡ true

  -- what holds when the scheduler wants the row
  abbrev pub Guard : Row → Type 0
  Guard TakeAll = (a.passed ≡ []) × (s.rests me ≡ [])
  Guard TakeLink = (a.next ≢ None) × (first_node (s.rests me) ≡ a.next)
  Guard (Look number) = Unit {0}
  Guard (Push node to) = IsNowhere node s
  Guard (Link node to) = IsUnlinkedAt node to s
  Guard (BusyTry number seen) = (largest : ℕ) × (seen ≡ word.Pooled me largest)
  Guard (Settle x) = s.places x.number ≡ Busy me
  Guard (Abandon x) = (s.places x.number ≡ Employed me)
      × (is_due setup.settings a.instance.count (employed_multis a) x ≡ true)
  Guard (FetchTry number seen) = SawFitting seen
  Guard (Create number) = (s.places number ≡ Absent) × (owner_of number ≡ me)
  Guard (SendHome x) = (s.places x.number ≡ Employed me) × (x.blocks ≡ [])
      × (owner_of x.number ≢ me)
  Guard (Clear number) = (owner_of number ≡ me) × (IsEmptied number ⊎ HasReturned number)
  Guard (Give given) = named_at given.name a.held ≡ Some given
  Guard (TakeTry name) = Unit {0}
  Guard Nothing = Unit {0}
