-- What a history of calls leaves taken, which replies are those that one thread gets (`reply_at`,
-- `IsLegal`), and when a history is sound (`IsSound`). A segment has its turn: the number of calls
-- before the one that took it. 'Taken first' means the least turn.
-- This simulator's own: the sources leave it undecided.
use Rattle.std.specs.Prelude.{◌≡◌, ℕ, ◌+◌, ◌≤◌, Bool, ◌&&◌, nat_le, nat_lt, ◌==◌}
use Rattle.std.specs.Prelude.{if◌then◌else◌, List, [], ◌∷◌, ◌++◌, Option, None, Some, AllPairs}
use Rattle.std.specs.Prelude.{filter, fold, length, map, sum_by}
use Rattle.ea_model.specs.declared.carriers.Segment.{Segment}
use Rattle.ea_model.specs.Choice.{first}
use Rattle.ea_model.specs.Keyed.{entered, without}
use Rattle.ea_model.specs.Region.{AreApart, Laid, lowest_run, runs}
use Rattle.ea_segments.specs.declared.calls.Call.{Call}
use Rattle.ea_segments.specs.declared.calls.Reply.{Reply}
use Rattle.ea_segments.specs.declared.calls.Reply.TheVariants.{At, Done, Full, NoRun, Skipped}
use Rattle.ea_segments.specs.declared.calls.TheConstants.{MAX_SEGMENTS}
use Rattle.ea_segments.specs.declared.held.Held.{Held}

-- the pages of taken segments

abbrev pub segment_of : Held → Segment
segment_of h = record { base = h.start; pages = h.pages }

abbrev pub segments : List Held → List Segment
segments hs = map segment_of hs

abbrev pub start_of : Held → ℕ
start_of h = h.start

-- whether scheduler i took it under that name
abbrev pub is_of : ℕ → ℕ → Held → Bool
is_of i name h = (h.scheduler == i) && (h.name == name)

abbrev pub is_earlier : Held → Held → Bool
is_earlier a b = nat_lt a.turn b.turn

-- the segment that scheduler i took first under that name, of these
abbrev pub oldest : ℕ → ℕ → List Held → Option Held
oldest i name hs = first is_earlier (filter (is_of i name) hs)

-- what stands after some calls: the segments that are taken, by rising start, and how many calls
-- there were
pub record Standing : Type 0 where
  pub held : List Held
  pub calls : ℕ

abbrev pub standing : List Held → ℕ → Standing
standing hs calls = record { held = hs; calls = calls }

abbrev pub start : Standing
start = standing [] 0

abbrev pub passed : Standing → Standing
passed s = record { held = s.held; calls = s.calls + 1 }

abbrev pub given_back : Option Held → Standing → Standing
given_back None s = passed s
given_back (Some h) s = record { held = without start_of h.start s.held; calls = s.calls + 1 }

-- what the call leaves, by its reply
abbrev pub left_by : Reply → Call → Standing → Standing
left_by (At at) c s = record {
  held = entered start_of (record {
    start = at;
    pages = c.pages;
    scheduler = c.scheduler;
    name = c.name;
    turn = s.calls;
  }) s.held;
  calls = s.calls + 1;
}
left_by NoRun c s = passed s
left_by Full c s = passed s
left_by Done c s = given_back (oldest c.scheduler c.name s.held) s
left_by Skipped c s = passed s

abbrev pub next : Standing → Call → Standing
next s c = left_by c.reply c s

-- what stands after these calls
abbrev pub stands : List Call → Standing
stands cs = fold next start cs

-- the reply to a call that asks for pages, by the lowest run that has that many
abbrev pub reply_to_run : Option ℕ → Reply
reply_to_run None = NoRun
reply_to_run (Some at) = At at

abbrev pub reply_to_take : ℕ → ℕ → List Held → Reply
reply_to_take total pages hs = if nat_le MAX_SEGMENTS (length hs) then Full
    else reply_to_run (lowest_run pages (runs 0 total (segments hs)))

-- the reply to a call that gives a segment back, by the segment
abbrev pub reply_to_back : Option Held → Reply
reply_to_back None = Skipped
reply_to_back (Some h) = Done

-- the reply that one thread gets, of a region of `total` pages, where this stands
abbrev pub reply_at : ℕ → Standing → Call → Reply
reply_at total s c = if c.pages == 0 then reply_to_back (oldest c.scheduler c.name s.held)
    else reply_to_take total c.pages s.held

-- each reply of the history is the one that one thread gets at that point

abbrev pub IsLegalFrom : ℕ → Standing → List Call → Type 0
IsLegalFrom total s [] = Unit {0}
IsLegalFrom total s (c ∷ cs) = (c.reply ≡ reply_at total s c) × IsLegalFrom total (next s c) cs

abbrev pub IsLegal : ℕ → List Call → Type 0
IsLegal total cs = IsLegalFrom total start cs

-- the calls of a scheduler
abbrev pub calls_of : ℕ → List Call → List Call
calls_of i cs = filter (λ c. c.scheduler == i) cs

-- the call is of one of the schedulers 1 to n
abbrev pub IsByOneOf : ℕ → Call → Type 0
IsByOneOf n c = (1 ≤ c.scheduler) × (c.scheduler ≤ n)

-- 1 for the reply to a call that took a segment, or that gave one back

abbrev pub takes : Reply → ℕ
takes (At at) = 1
takes NoRun = 0
takes Full = 0
takes Done = 0
takes Skipped = 0

abbrev pub gives : Reply → ℕ
gives (At at) = 0
gives NoRun = 0
gives Full = 0
gives Done = 1
gives Skipped = 0

-- what a reply counts, where the call is of scheduler i under that name
abbrev pub counted_for : (Reply → ℕ) → ℕ → ℕ → Call → ℕ
counted_for of i name c = if (c.scheduler == i) && (c.name == name) then of c.reply else 0

-- how many segments scheduler i took under that name, and how many it gave back, by the replies

abbrev pub taken_under : ℕ → ℕ → List Call → ℕ
taken_under i name cs = sum_by (counted_for takes i name) cs

abbrev pub given_under : ℕ → ℕ → List Call → ℕ
given_under i name cs = sum_by (counted_for gives i name) cs

-- how many of these segments scheduler i took under that name
abbrev pub held_under : ℕ → ℕ → List Held → ℕ
held_under i name hs = sum_by (λ h. if is_of i name h then 1 else 0) hs

-- two segments have no page in common
abbrev pub HeldApart : Held → Held → Type 0
HeldApart a b = AreApart a.start a.pages b.start b.pages

-- after these calls the taken segments lie in the region, one after another, and there are no more
-- than there may be. Each segment that was taken is still taken or went back, once: so many were
-- taken under each name as are taken now and went back together
pub record IsSound (total : ℕ) (cs : List Call) : Type 0 where
  pub laid : Laid 0 total (segments (stands cs).held)
  pub apart : AllPairs HeldApart (stands cs).held
  pub few : length (stands cs).held ≤ MAX_SEGMENTS
  pub once : (i name : ℕ)
      → held_under i name (stands cs).held + given_under i name cs ≡ taken_under i name cs

-- the history begins with those calls
abbrev pub StartsWith : List Call → List Call → Type 0
StartsWith log front = (rest : List Call) × (log ≡ front ++ rest)

-- each front of the history is sound
abbrev pub IsSoundThroughout : ℕ → List Call → Type 0
IsSoundThroughout total log = (front rest : List Call) → log ≡ front ++ rest → IsSound total front
