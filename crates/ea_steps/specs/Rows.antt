-- The words of a row of the table of atomic steps, with what it answered (`row_words`).
-- This simulator's own: the sources do not speak of it.
use Rattle.std.specs.Prelude.{ℕ, List, [], ◌∷◌, ◌++◌, Option, None, Some, codes, decimal}
use Rattle.ea_model.specs.Content.{is_nil}
use Rattle.ea_model.specs.Instance.{owner_of}
use Rattle.ea_machine.specs.declared.nodes.Node.{Node}
use Rattle.ea_machine.specs.declared.nodes.Node.TheVariants.{Block, Carrier}
use Rattle.ea_machine.specs.declared.owners.OwnerWord.{OwnerWord}
use Rattle.ea_machine.specs.declared.owners.OwnerWord.TheVariants as word
use Rattle.ea_machine.specs.Owners.{word_of}
use Rattle.ea_machine.specs.Rows.{Answer, Done, Head, Rests, Passes, Saw, Won, Lost, Home, Got, Row}
use Rattle.ea_machine.specs.Rows.{TakeAll, TakeLink, Look, Push, Link, BusyTry, Settle, Abandon}
use Rattle.ea_machine.specs.Rows.{FetchTry, Create, SendHome, Clear, Give, TakeTry, Nothing}
use Rattle.ea_machine.specs.Table.{pooled, settled_at}

-- words of a line
abbrev pub Words : Type 0
Words = List (List ℕ)

abbrev pub node_words : Node → Words
node_words (Block name spot) = codes "block" ∷ decimal name ∷ decimal spot.carrier
    ∷ decimal spot.offset ∷ []
node_words (Carrier number) = codes "carrier" ∷ decimal number ∷ []

abbrev pub owner_words : OwnerWord → Words
owner_words word.Absent = codes "absent" ∷ []
owner_words (word.Employed i) = codes "employed" ∷ decimal i ∷ []
owner_words (word.Pooled i largest) = codes "pooled" ∷ decimal i ∷ decimal largest ∷ []
owner_words (word.Busy i) = codes "busy" ∷ decimal i ∷ []
owner_words (word.Returning i) = codes "returning" ∷ decimal i ∷ []

-- a node, or that there is none
abbrev pub newest_words : Option Node → Words
newest_words None = codes "none" ∷ []
newest_words (Some node) = node_words node

-- the next node of a walk, which the row that takes a link has
abbrev pub next_words : Option Node → Words
next_words None = []
next_words (Some node) = node_words node

-- the node after one that was passed
abbrev pub older_words : Option Node → Words
older_words None = codes "end" ∷ []
older_words (Some node) = codes "next" ∷ node_words node

-- what a row answered
abbrev pub answer_words : Answer → Words
answer_words Done = []
answer_words (Head newest) = newest_words newest
answer_words Rests = codes "rest" ∷ []
answer_words (Passes older) = older_words older
answer_words (Saw seen) = owner_words seen
answer_words (Won content) = codes "won" ∷ []
answer_words (Lost present) = codes "lost" ∷ owner_words present
answer_words (Home content) = []
answer_words (Got None) = codes "none" ∷ []
answer_words (Got (Some spot)) = codes "got" ∷ []

-- the words of a row that scheduler `me` wants, whose walk has that next node
abbrev pub wanted_words : ℕ → Option Node → Row → Words
wanted_words me next TakeAll = codes "take_all" ∷ []
wanted_words me next TakeLink = codes "take_link" ∷ next_words next
wanted_words me next (Look number) = codes "look" ∷ decimal number ∷ []
wanted_words me next (Push node to) = codes "push" ∷ node_words node ++ codes "to" ∷ decimal to ∷ []
wanted_words me next (Link node to) = codes "link" ∷ node_words node ++ codes "to" ∷ decimal to ∷ []
wanted_words me next (BusyTry number seen) = codes "busy_try" ∷ decimal number ∷ []
wanted_words me next (Settle x) = codes "settle" ∷ decimal x.number
    ∷ owner_words (word_of (settled_at me x (is_nil x.blocks)))
wanted_words me next (Abandon x) = codes "abandon" ∷ decimal x.number
    ∷ owner_words (word_of (pooled me x))
wanted_words me next (FetchTry number seen) = codes "fetch_try" ∷ decimal number ∷ []
wanted_words me next (Create number) = codes "create" ∷ decimal number ∷ []
wanted_words me next (SendHome x) = codes "send_home" ∷ decimal x.number ∷ codes "to"
    ∷ decimal (owner_of x.number) ∷ []
wanted_words me next (Clear number) = codes "clear" ∷ decimal number ∷ []
wanted_words me next (Give given) = codes "give" ∷ decimal given.name ∷ []
wanted_words me next (TakeTry name) = codes "take_try" ∷ decimal name ∷ []
wanted_words me next Nothing = []

-- the words of the row, and then of its answer
abbrev pub row_words : ℕ → Option Node → Row → Answer → Words
row_words me next row answer = wanted_words me next row ++ answer_words answer
