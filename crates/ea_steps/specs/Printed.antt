-- The words of a row and of its answer, and the line of a group of steps, by what code knows of
-- them.
use Rattle.std.specs.Prelude.{ℕ, Bool, true, false, ◌&&◌, ◌==◌, List, [], ◌∷◌, ◌++◌, codes, decimal}
use Rattle.std.specs.Prelude.{Option, None, Some, flat_map, if◌then◌else◌, length}
use Rattle.ea_model.specs.Instance.{owner_of}
use Rattle.ea_machine.specs.Lists.{counts}
use Rattle.ea_report.specs.Text.{line}
use Rattle.ea_shared.specs.declared.link.Link.{Link}
use Rattle.ea_shared.specs.declared.link.Link.TheVariants.{Rest, End, Next}
use Rattle.ea_given.specs.declared.heard.Heard.{Heard}
use Rattle.ea_given.specs.declared.heard.Heard.TheVariants as heard
use Rattle.ea_sched.specs.declared.wants.Wanted.{Wanted}
use Rattle.ea_sched.specs.declared.wants.Wanted.TheVariants as wanted
use Rattle.ea_steps.specs.declared.groups.Group as code
use Rattle.ea_steps.specs.declared.joined.Joined.{Joined}
use Rattle.ea_steps.specs.declared.joined.Joined.TheVariants.{Apart, Tries}
use Rattle.ea_steps.specs.Fronts.{is_joined}
use Rattle.ea_steps.specs.Groups.{Group, are_alike, joined, looks_unless}
use Rattle.ea_given.specs.Heard.{heard_of}
use Rattle.ea_sched.specs.Wants.{wanted_of}
use Rattle.ea_steps.specs.Rows.{Words, newest_words, node_words, owner_words}
use Rattle.ea_steps.specs.Steps.{answer_of}
use Rattle.ea_steps.specs.Text.{several_words, span_text}

-- words, each after a space
abbrev pub spaced_text : Words → List ℕ
spaced_text words = flat_map (λ w. 32 ∷ w) words

-- the words of a row that is wanted
abbrev pub asked_words : Wanted → Words
asked_words wanted.TakeAll = codes "take_all" ∷ []
asked_words (wanted.TakeLink node) = codes "take_link" ∷ node_words node
asked_words (wanted.Look number last) = codes "look" ∷ decimal number ∷ []
asked_words (wanted.Push node to) = codes "push" ∷ node_words node ++ codes "to" ∷ decimal to ∷ []
asked_words (wanted.Link node to) = codes "link" ∷ node_words node ++ codes "to" ∷ decimal to ∷ []
asked_words (wanted.BusyTry number seen) = codes "busy_try" ∷ decimal number ∷ []
asked_words (wanted.Settle number word) = codes "settle" ∷ decimal number ∷ owner_words word
asked_words (wanted.Abandon number word) = codes "abandon" ∷ decimal number ∷ owner_words word
asked_words (wanted.FetchTry number seen) = codes "fetch_try" ∷ decimal number ∷ []
asked_words (wanted.Create number) = codes "create" ∷ decimal number ∷ []
asked_words (wanted.SendHome number) = codes "send_home" ∷ decimal number ∷ codes "to"
    ∷ decimal (owner_of number) ∷ []
asked_words (wanted.Clear number) = codes "clear" ∷ decimal number ∷ []
asked_words (wanted.Give name) = codes "give" ∷ decimal name ∷ []
asked_words (wanted.TakeTry name) = codes "take_try" ∷ decimal name ∷ []
asked_words wanted.Nothing = []

-- what the link of a node says
abbrev pub link_words : Link → Words
link_words Rest = codes "rest" ∷ []
link_words End = codes "end" ∷ []
link_words (Next node) = codes "next" ∷ node_words node

-- the words of what a row answered
abbrev pub heard_words : Heard → Words
heard_words heard.Done = []
heard_words (heard.Head newest) = newest_words newest
heard_words (heard.Read link) = link_words link
heard_words (heard.Saw seen) = owner_words seen
heard_words heard.Won = codes "won" ∷ []
heard_words (heard.Lost present) = codes "lost" ∷ owner_words present
heard_words heard.Got = codes "got" ∷ []
heard_words heard.Absent = codes "none" ∷ []

-- the words of a row with its answer
abbrev pub told_words : Wanted → Heard → Words
told_words wanted heard = asked_words wanted ++ heard_words heard

-- which steps one line may tell with a look of the last part of a search, by what it saw
abbrev pub looked_told : ℕ → Heard → Joined
looked_told number (heard.Saw seen) = looks_unless (counts seen) number
looked_told number heard.Done = Apart
looked_told number (heard.Head newest) = Apart
looked_told number (heard.Read link) = Apart
looked_told number heard.Won = Apart
looked_told number (heard.Lost present) = Apart
looked_told number heard.Got = Apart
looked_told number heard.Absent = Apart

-- by whether a look is of the last part
abbrev pub look_told : Bool → ℕ → Heard → Joined
look_told true number answer = looked_told number answer
look_told false number answer = Apart

-- by whether the name of a try was given
abbrev pub tried_told : ℕ → Heard → Joined
tried_told name heard.Absent = Tries name
tried_told name heard.Done = Apart
tried_told name (heard.Head newest) = Apart
tried_told name (heard.Read link) = Apart
tried_told name (heard.Saw seen) = Apart
tried_told name heard.Won = Apart
tried_told name (heard.Lost present) = Apart
tried_told name heard.Got = Apart

-- which steps one line may tell with a row that was answered so
abbrev pub joined_told : Wanted → Heard → Joined
joined_told (wanted.Look number last) r = look_told last number r
joined_told (wanted.TakeTry name) r = tried_told name r
joined_told wanted.TakeAll r = Apart
joined_told (wanted.TakeLink node) r = Apart
joined_told (wanted.Push node to) r = Apart
joined_told (wanted.Link node to) r = Apart
joined_told (wanted.BusyTry number seen) r = Apart
joined_told (wanted.Settle number word) r = Apart
joined_told (wanted.Abandon number word) r = Apart
joined_told (wanted.FetchTry number seen) r = Apart
joined_told (wanted.Create number) r = Apart
joined_told (wanted.SendHome number) r = Apart
joined_told (wanted.Clear number) r = Apart
joined_told (wanted.Give name) r = Apart
joined_told wanted.Nothing r = Apart

-- the words of the steps of a group
abbrev pub rows_words : code.Group → Words
rows_words g = if g.first.all == g.last.all then told_words g.wanted g.heard
    else several_words (told_words g.wanted g.heard) (joined_told g.wanted g.heard) g.joined

-- the line of a group
abbrev pub group_line : code.Group → List ℕ
group_line g = line (span_text g.first.all g.last.all)
    (decimal g.scheduler ∷ span_text g.first.own g.last.own ∷ rows_words g)

-- whether the line of the group may tell the steps of the next one
abbrev pub takes : code.Group → code.Group → Bool
takes g next = (g.scheduler == next.scheduler)
    && are_alike g.joined (joined_told next.wanted next.heard)

-- the steps of both
abbrev pub with_next : code.Group → code.Group → code.Group
with_next g next = record g { last = next.last; joined = next.joined }

-- the group that is told next, by the one that is open
abbrev pub next_if : Bool → code.Group → code.Group → code.Group
next_if true g next = with_next g next
next_if false g next = next

abbrev pub next_group : Option code.Group → code.Group → code.Group
next_group None next = next
next_group (Some g) next = next_if (takes g next) g next

-- the text before it
abbrev pub closed_if : Bool → List ℕ → code.Group → List ℕ
closed_if true text g = text
closed_if false text g = text ++ group_line g

abbrev pub text_before : List ℕ → Option code.Group → code.Group → List ℕ
text_before text None next = text
text_before text (Some g) next = closed_if (takes g next) text g

-- whether its line may grow, where its last step did what these lines say
abbrev pub stays_open : code.Group → List ℕ → Bool
stays_open g lines = is_joined g.joined && (length lines == 0)

-- the text and the open group, by whether it stays open
abbrev pub text_told : Bool → List ℕ → code.Group → List ℕ → List ℕ
text_told true text g lines = text
text_told false text g lines = text ++ group_line g ++ lines

abbrev pub open_told : Bool → code.Group → Option code.Group
open_told true g = Some g
open_told false g = None

-- the text, and the group that stays open, once a group is told
abbrev pub text_after : List ℕ → Option code.Group → code.Group → List ℕ → List ℕ
text_after text last g lines = let next = next_group last g in
    text_told (stays_open next lines) (text_before text last g) next lines

abbrev pub open_after : Option code.Group → code.Group → List ℕ → Option code.Group
open_after last g lines = let next = next_group last g in open_told (stays_open next lines) next

-- the text with the line of the open group
abbrev pub text_closed : List ℕ → Option code.Group → List ℕ
text_closed text None = text
text_closed text (Some g) = text ++ group_line g

-- what code keeps of a group of steps
abbrev pub code_of : Group → code.Group
code_of g = record {
  scheduler = g.first.scheduler;
  wanted = wanted_of g.first.scheduler (g.first.before.actors g.first.scheduler);
  heard = heard_of (answer_of g.first);
  first = record { all = g.first.place; own = g.first.own };
  last = record { all = g.last.place; own = g.last.own };
  joined = joined g.last;
}
