-- The rule of the table and its lock: one history, of which each seat has seen the first calls.
-- `Keeps` doesn't say that the history is legal. That is the invariant of a `Ledger`, and whoever
-- reads the history has it.
use Rattle.std.specs.Prelude.{◌≡◌, ◌≢◌, ◌⊎◌, ℕ, ◌+◌, ◌-◌, ◌≤◌, true, false, List, [], ◌∷◌, ◌++◌}
use Rattle.std.specs.Prelude.{All, drop, length, sum_by}
use mathlib.Core.Option.{none, some}
use lib.ListN.{get_elem?}
use Rattle.atomic_table.specs.Table.{Me, Step}
use Rattle.atomic_table.specs.Table as table
use Rattle.ea_segments.specs.declared.calls.Call.{Call}
use Rattle.ea_segments.specs.declared.views.About.{About}
use Rattle.ea_segments.specs.declared.views.Seated.{Seated}
use Rattle.ea_segments.specs.declared.views.View.{View}
use Rattle.ea_segments.specs.Accounts.{Account}
use Rattle.ea_segments.specs.Histories.{IsByOneOf, StartsWith, calls_of}

-- the scheduler whose calls a seat makes

abbrev pub nobody : Seated
nobody = record { number = 0; pages = 0; most = 0; left = 0; seen = []; mine = [] }

abbrev pub first_seated : List Seated → Seated
first_seated [] = nobody
first_seated (x ∷ xs) = x

abbrev pub after_first : List Seated → List Seated
after_first [] = []
after_first (x ∷ xs) = xs

abbrev pub acting : View → Seated
acting v = first_seated v.seated

-- the seat has one scheduler, and has the lock or has not
abbrev pub IsSingle : View → Type 0
IsSingle v = v ≡ record { holds = v.holds; seated = acting v ∷ [] }

module _ (a : About) (log : List Call) (seat_of : ℕ → ℕ) (j : ℕ) where
  -- the scheduler sits at the seat j, which has seen a front of the history. The calls that it made
  -- are all that the history has of it
  pub record Sits (x : Seated) : Type 0 where
    pub seat : seat_of x.number ≡ j
    pub within : (1 ≤ x.number) × (x.number ≤ length a.calls.items)
    pub pages : x.pages ≡ a.pages
    pub most : x.most ≡ a.most
    pub seen : StartsWith log x.seen
    pub mine : calls_of x.number log ≡ x.mine

-- the ledger is one of the table, and has this history
pub record IsOf (a : About) (log : List Call) (x : Account) : Type 0 where
  pub pages : x.pages ≡ a.pages
  pub most : x.most ≡ a.most
  pub history : x.history ≡ log

-- the ledger is at home, and no seat has it
pub record IsFree (a : About) (log : List Call) (s : table.State Account View) : Type 0 where
  pub words : s.words ≡ 0 ∷ []
  pub account : Account
  pub homes : s.homes ≡ some account ∷ []
  pub is : IsOf a log account
  pub idle : (j : ℕ) (v : View) → get_elem? s.views j ≡ some v → v.holds ≡ false

-- the seat of one scheduler has it, and the word is that one's number; it had seen the history when
-- it took the ledger
pub record IsTaken (log : List Call) (s : table.State Account View) : Type 0 where
  pub by : Seated
  pub words : s.words ≡ by.number ∷ []
  pub homes : s.homes ≡ none ∷ []
  pub holder : ℕ
  pub there : get_elem? s.views holder ≡ some (record { holds = true; seated = by ∷ [] })
  pub seen : by.seen ≡ log
  pub idle : (j : ℕ) (v : View) → get_elem? s.views j ≡ some v → j ≢ holder → v.holds ≡ false

-- how many calls are left to the schedulers of a seat, and to those of all seats

abbrev pub left_in : View → ℕ
left_in v = sum_by (λ x. x.left) v.seated

abbrev pub left_of : List View → ℕ
left_of vs = sum_by left_in vs

pub record Keeps (a : About) (s : table.State Account View) : Type 0 where
  pub log : List Call
  pub seat_of : ℕ → ℕ
  pub each_seat : (j : ℕ) (v : View) → get_elem? s.views j ≡ some v
      → All (Sits a log seat_of j) v.seated
  pub room : left_of s.views + length log ≤ a.most
  pub theirs : All (IsByOneOf (length a.calls.items)) log
  pub lock : IsFree a log s ⊎ IsTaken log s

-- the rule of the table
abbrev pub holds : About → table.State Account View → Type 0
holds a s = Keeps a s

-- schedulers before their first call, from number i on, with that many calls left to each
abbrev pub waiting_from : (pages most : ℕ) → ℕ → List ℕ → List Seated
waiting_from pages most i [] = []
waiting_from pages most i (n ∷ ns) =
    record { number = i; pages = pages; most = most; left = n; seen = []; mine = [] }
    ∷ waiting_from pages most (i + 1) ns

-- what the first seat knows: it has all schedulers
abbrev pub first : About → View
first a = record { holds = false; seated = waiting_from a.pages a.most 1 a.calls.items }

-- what a seat knows once it has the lock, and has seen this history
abbrev pub locked : View → List Call → View
locked v log = record { holds = true; seated = record (acting v) { seen = log } ∷ [] }

-- what it knows once it gave the ledger back
abbrev pub released : View → Account → View
released v x = record {
  holds = false;
  seated = record (acting v) {
    left = (acting v).left - 1;
    seen = x.history;
    mine = (acting v).mine ++ drop (length (acting v).seen) x.history;
  } ∷ [];
}

abbrev pub no_account : Account
no_account = record { pages = 0; most = 0; history = [] }

-- the ledger that a seat has
abbrev pub carried : List (ℕ × Account) → Account
carried [] = no_account
carried (x ∷ xs) = x.1

-- the seat has won the lock, and with it the ledger: the history goes on from all that its
-- scheduler had seen, has the calls of the scheduler and no others of it, and there is room for
-- those that are left to it
pub record Won (m n : Me Account View) : Type 0 where
  pub account : Account
  pub slots : n.1 ≡ (0, account) ∷ m.1
  pub view : n.0 ≡ locked m.0 account.history
  pub pages : account.pages ≡ (acting m.0).pages
  pub most : account.most ≡ (acting m.0).most
  pub front : StartsWith account.history (acting m.0).seen
  pub mine : calls_of (acting m.0).number account.history ≡ (acting m.0).mine
  pub room : (acting m.0).left + length account.history ≤ (acting m.0).most

-- a try for the lock is won where the word was 0, and changes nothing else
abbrev pub tries : Step Account → Me Account View → ℕ → Me Account View → Type 0
tries step m found n = (found ≡ 0 → Won m n) × (found ≢ 0 → n ≡ m)

-- the ledger goes back
abbrev pub ends : Step Account → Me Account View → ℕ → Me Account View → Type 0
ends step m found n = n ≡ (released m.0 (carried m.1), [])

-- a seat is split off for the first scheduler of another: what the two know then

abbrev pub dealt_left : View → View
dealt_left v = record { holds = v.holds; seated = after_first v.seated }

abbrev pub dealt_right : View → View
dealt_right v = record { holds = false; seated = acting v ∷ [] }

-- what a seat knows after it took in another
abbrev pub taken_in : View → View → View
taken_in v w = record { holds = v.holds; seated = v.seated ++ w.seated }

-- a spent seat knows nothing
abbrev pub spent_view : View
spent_view = record { holds = false; seated = [] }
