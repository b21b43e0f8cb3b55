-- What a row answers, as it is told (`heard_of`), and what is read off the memory for that
-- (`CanRead`).
use Rattle.std.specs.Prelude.{◌≡◌, ℕ, ◌≤◌, true, Option, None, Some}
use Rattle.ea_model.specs.declared.carriers.Spot.{Spot}
use Rattle.ea_machine.specs.declared.nodes.Node.{Node}
use Rattle.ea_machine.specs.declared.owners.OwnerWord.{OwnerWord}
use Rattle.ea_machine.specs.declared.owners.OwnerWord.TheVariants as word
use Rattle.ea_machine.specs.Alike.{IsNode}
use Rattle.ea_machine.specs.Nodes.{first_node}
use Rattle.ea_machine.specs.Rows.{Answer, Done, Head, Rests, Passes, Saw, Won, Lost, Home, Got, Row}
use Rattle.ea_machine.specs.Rows as rows
use Rattle.ea_shared.specs.Carriers.{IsCarrier}
use Rattle.ea_shared.specs.declared.link.Link.TheVariants.{Rest, End, Next}
use Rattle.ea_mem_shared.specs.Memory.{Sharing, shared_of}
use Rattle.ea_sched.specs.declared.wants.Wanted.{Wanted}
use Rattle.ea_sched.specs.declared.wants.Wanted.TheVariants.{TakeAll, TakeLink, Look, Push, Link}
use Rattle.ea_sched.specs.declared.wants.Wanted.TheVariants.{BusyTry, Settle, Abandon, FetchTry}
use Rattle.ea_sched.specs.declared.wants.Wanted.TheVariants.{Create, SendHome, Clear, Give}
use Rattle.ea_sched.specs.declared.wants.Wanted.TheVariants.{TakeTry, Nothing}
use Rattle.ea_given.specs.declared.heard.Heard.{Heard}
use Rattle.ea_given.specs.declared.heard.Heard.TheVariants as heard

-- the link of a node that is passed, by the next one
abbrev pub passed_told : Option Node → Heard
passed_told None = heard.Read End
passed_told (Some node) = heard.Read (Next node)

-- by whether a name is given
abbrev pub given_told : Option Spot → Heard
given_told None = heard.Absent
given_told (Some spot) = heard.Got

-- what is told of an answer: of contents nothing
abbrev pub heard_of : Answer → Heard
heard_of Done = heard.Done
heard_of (Head node) = heard.Head node
heard_of Rests = heard.Read Rest
heard_of (Passes next) = passed_told next
heard_of (Saw seen) = heard.Saw seen
heard_of (Won x) = heard.Won
heard_of (Lost present) = heard.Lost present
heard_of (Home x) = heard.Done
heard_of (Got spot) = given_told spot

-- a row with the same answer as that which is told; a row that only learns that it is done does as
-- well as any other
abbrev pub row_of : Wanted → Row
row_of TakeAll = rows.TakeAll
row_of (TakeLink node) = rows.TakeLink
row_of (Look number last) = rows.Look number
row_of (Push node to) = rows.Nothing
row_of (Link node to) = rows.Nothing
row_of (BusyTry number seen) = rows.BusyTry number seen
row_of (Settle number stored) = rows.Nothing
row_of (Abandon number stored) = rows.Nothing
row_of (FetchTry number seen) = rows.FetchTry number seen
row_of (Create number) = rows.Nothing
row_of (SendHome number) = rows.Nothing
row_of (Clear number) = rows.Nothing
row_of (Give name) = rows.Nothing
row_of (TakeTry name) = rows.TakeTry name
row_of Nothing = rows.Nothing

-- it is the word of a pooled carrier
abbrev pub IsPooledWord : OwnerWord → Type 0
IsPooledWord seen = (i : ℕ) × (largest : ℕ) × (seen ≡ word.Pooled i largest)

module _ (m : Sharing) (me : ℕ) where
  -- a carrier's owner word is in the memory
  abbrev pub HasWord : ℕ → Type 0
  HasWord number = (m.migrates ≡ true) × IsCarrier m.schedulers number

  -- the node is the first of what is left of the walk
  abbrev pub IsNext : Node → Type 0
  IsNext node = IsNode m.schedulers m.greatest node
      × (first_node ((shared_of m).rests me) ≡ Some node)

  -- what `me` is to learn can be read off the memory
  abbrev pub CanRead : Wanted → Type 0
  CanRead TakeAll = me ≤ m.schedulers
  CanRead (TakeLink node) = IsNext node
  CanRead (Look number last) = HasWord number
  CanRead (Push node to) = Unit {0}
  CanRead (Link node to) = Unit {0}
  CanRead (BusyTry number seen) = HasWord number × IsPooledWord seen
  CanRead (Settle number stored) = Unit {0}
  CanRead (Abandon number stored) = Unit {0}
  CanRead (FetchTry number seen) = HasWord number × IsPooledWord seen
  CanRead (Create number) = Unit {0}
  CanRead (SendHome number) = Unit {0}
  CanRead (Clear number) = Unit {0}
  CanRead (Give name) = Unit {0}
  CanRead (TakeTry name) = (1 ≤ name) × (name ≤ m.greatest)
  CanRead Nothing = Unit {0}
