-- The table of atomic steps: what each row returns, and its effect on what is shared.
-- Source of what is done: Erlang/OTP, 'Carrier Migration', sections 'Migration' and 'Carrier Pool'.
-- Source of what is done to queues: Erlang/OTP, 'Delayed Dealloc', section 'Functionality Used to
-- Address This problem'.
use Rattle.std.specs.Prelude.{ℕ, Bool, true, false, List, [], ◌∷◌, Option, None, Some}
use Rattle.ea_model.specs.Content.{Content, gaps_of, is_nil, largest}
use Rattle.ea_machine.specs.declared.owners.OwnerWord.{OwnerWord}
use Rattle.ea_machine.specs.Nodes.{Mark, first_node, link_in, pushed, spot_named, with_name}
use Rattle.ea_machine.specs.Nodes.{without_name}
use Rattle.ea_machine.specs.Owners.{CarrierAt, Absent, Employed, Pooled, Busy, Returning, same_word}
use Rattle.ea_machine.specs.Owners.{word_of}
use Rattle.ea_model.specs.Instance.{owner_of}
use Rattle.ea_machine.specs.Shared.{Shared, at_place, put}
use Rattle.ea_machine.specs.Rows.{Answer, Done, Head, Rests, Passes, Saw, Won, Lost, Home, Got, Row}
use Rattle.ea_machine.specs.Rows.{TakeAll, TakeLink, Look, Push, Link, BusyTry, Settle, Abandon}
use Rattle.ea_machine.specs.Rows.{FetchTry, Create, SendHome, Clear, Give, TakeTry, Nothing}

-- by whether the word is the one seen
abbrev pub won_if : Bool → CarrierAt → Answer
won_if true (Pooled i largest x) = Won x
won_if as_seen place = Lost (word_of place)

-- a try to get a pooled carrier: it is won if the word is still the one seen
abbrev pub tried_at : OwnerWord → CarrierAt → Answer
tried_at seen place = won_if (same_word (word_of place) seen) place

-- the carrier is at the new place if the try was won; a lost try changes nothing
abbrev pub moved_if : Answer → ℕ → CarrierAt → Shared → Shared
moved_if (Won x) number place s = at_place number place s
moved_if _ number place s = s

-- an instance's pooled carrier, with its content at home
abbrev pub pooled : ℕ → Content → CarrierAt
pooled me x = Pooled me (largest (gaps_of x)) x

-- where a busy carrier is settled: in the pool again, or with its employer if it is empty
abbrev pub settled_at : ℕ → Content → Bool → CarrierAt
settled_at me x true = Employed me
settled_at me x false = pooled me x

-- the content that is at home, of a carrier that returned
abbrev pub returned : CarrierAt → Option Content
returned Absent = None
returned (Employed i) = None
returned (Pooled i largest x) = None
returned (Busy i) = None
returned (Returning i x) = Some x

-- by whether the node is linked; then come the older ones
abbrev pub link_read : Bool → List Mark → Answer
link_read true older = Passes (first_node older)
link_read false older = Rests

-- the first node of what is left of a walk is passed if it is linked
abbrev pub link_answer : List Mark → Answer
link_answer [] = Passes None
link_answer (m ∷ ms) = link_read m.linked ms

-- by whether the node is linked
abbrev pub rest_by : Bool → Mark → List Mark → List Mark
rest_by true m older = older
rest_by false m older = m ∷ older

-- what is left of the walk after that
abbrev pub rest_after : List Mark → List Mark
rest_after [] = []
rest_after (m ∷ ms) = rest_by m.linked m ms

-- what a row answers the scheduler
unfoldable pub answer : ℕ → Row → Shared → Answer
answer me TakeAll s = Head (first_node (s.queues me))
answer me TakeLink s = link_answer (s.rests me)
answer me (Look number) s = Saw (word_of (s.places number))
answer me (Push node to) s = Done
answer me (Link node to) s = Done
answer me (BusyTry number seen) s = tried_at seen (s.places number)
answer me (Settle x) s = Done
answer me (Abandon x) s = Done
answer me (FetchTry number seen) s = tried_at seen (s.places number)
answer me (Create number) s = Done
answer me (SendHome x) s = Done
answer me (Clear number) s = Home (returned (s.places number))
answer me (Give given) s = Done
answer me (TakeTry name) s = Got (spot_named name s.given)
answer me Nothing s = Done

-- what a row makes of what is shared
unfoldable pub effect : ℕ → Row → Shared → Shared
effect me TakeAll s = record s { queues = put s.queues me []; rests = put s.rests me (s.queues me) }
effect me TakeLink s = record s { rests = put s.rests me (rest_after (s.rests me)) }
effect me (Look number) s = s
effect me (Push node to) s = record s { queues = put s.queues to (pushed node ∷ s.queues to) }
effect me (Link node to) s = record s {
  queues = put s.queues to (link_in node (s.queues to));
  rests = put s.rests to (link_in node (s.rests to));
}
effect me (BusyTry number seen) s = moved_if (tried_at seen (s.places number)) number (Busy me) s
effect me (Settle x) s = at_place x.number (settled_at me x (is_nil x.blocks)) s
effect me (Abandon x) s = at_place x.number (pooled me x) s
effect me (FetchTry number seen) s = moved_if (tried_at seen (s.places number)) number (Employed me)
    s
effect me (Create number) s = at_place number (Employed me) s
effect me (SendHome x) s = at_place x.number (Returning (owner_of x.number) x) s
effect me (Clear number) s = at_place number Absent s
effect me (Give given) s = record s { given = with_name given s.given }
effect me (TakeTry name) s = record s { given = without_name name s.given }
effect me Nothing s = s
