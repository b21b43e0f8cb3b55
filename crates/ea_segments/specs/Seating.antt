-- Passes and their desk, and what a pass knows after its calls (`Called`).
use Rattle.std.specs.Prelude.{◌≡◌, ℕ, ◌+◌, ◌<◌, List, ◌∷◌, ◌++◌, [], All, length, map}
use Rattle.std.specs.Prelude.{slice_index_or}
use Rattle.atomic_table.specs.Seated.{TableId}
use Rattle.ea_segments.specs.declared.calls.Call.{Call}
use Rattle.ea_segments.specs.declared.calls.Request.{Request}
use Rattle.ea_segments.specs.declared.desk.Desk.{Desk}
use Rattle.ea_segments.specs.declared.pass.Pass.{Pass}
use Rattle.ea_segments.specs.declared.views.About.{About}
use Rattle.ea_segments.specs.declared.views.Seated.{Seated}
use Rattle.ea_segments.specs.Histories.{IsLegal, IsSoundThroughout, calls_of}
use Rattle.ea_segments.specs.Requests.{IsRequest, asked}
use Rattle.ea_segments.specs.Ruling.{acting}

-- the scheduler of a pass
abbrev pub known : Pass → Seated
known p = acting p.seat.me.0

-- the pass is of this desk
abbrev pub IsPassOf : Desk → Pass → Type 0
IsPassOf d p = p.seat.table_id ≡ d.table.shared.table_id

-- the pass of scheduler i is among these
abbrev pub IsAmong : ℕ → List Pass → Type 0
IsAmong i ps = (k : ℕ) × (k < length ps) × ((d : Pass) → (known (slice_index_or ps k d)).number ≡ i)

-- a pass of scheduler i that has made no call, and may make that many
pub record IsFresh (id : TableId) (a : About) (i left : ℕ) (p : Pass) : Type 0 where
  pub seated : p.seat.table_id ≡ id
  pub known : acting p.seat.me.0
      ≡ record { number = i; pages = a.pages; most = a.most; left = left; seen = []; mine = [] }

-- the pass made that call. It has seen a legal history, which goes on from all that it had seen and
-- ends with the call; and what it made are all calls of its scheduler in it. At each point of that
-- history the segments that are taken have no page in common, and each went back once at most
pub record Called (v w : Seated) (call : Call) : Type 0 where
  pub number : w.number ≡ v.number
  pub pages : w.pages ≡ v.pages
  pub left : w.left + 1 ≡ v.left
  pub between : List Call
  pub seen : w.seen ≡ v.seen ++ between ++ call ∷ []
  pub legal : IsLegal v.pages w.seen
  pub sound : IsSoundThroughout v.pages w.seen
  pub mine : w.mine ≡ v.mine ++ call ∷ []
  pub all : calls_of v.number w.seen ≡ w.mine

-- one call that asked for that
pub record Made (q : Request) (v w : Seated) : Type 0 where
  pub call : Call
  pub called : Called v w call
  pub asks : asked call ≡ q

-- the pass may make these requests, and no more calls
pub record MayPlay (d : Desk) (qs : List Request) (p : Pass) : Type 0 where
  pub seated : IsPassOf d p
  pub left : (known p).left ≡ length qs
  pub are : All IsRequest qs

-- the pass has made these requests, in their order, and no other calls
pub record Played (qs : List Request) (v w : Seated) : Type 0 where
  pub number : w.number ≡ v.number
  pub mine : map asked w.mine ≡ map asked v.mine ++ qs
