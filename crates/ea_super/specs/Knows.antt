-- What the reader knows of the lines that it took.
use Rattle.std.specs.Prelude.{◌≡◌, ℕ, ◌<◌, ◌≤◌, nat_lt, ◌==◌, List, ◌∷◌}
use Rattle.std.specs.Prelude.{Option, Some, None, get_or, length, map, reverse}
use Rattle.ea_model.specs.declared.units.TheConstants.{MAX_OPS}
use Rattle.ea_trace.specs.declared.fault.TraceFault.{TraceFault}
use Rattle.ea_trace.specs.declared.fault.TraceFault.TheVariants.{OutOfMemory}
use Rattle.ea_super.specs.Language.{is_held, is_taken, refusal, requests, section_requests}
use Rattle.ea_super.specs.Language.{sections, sections_before, stage_after}
use Rattle.ea_super.specs.declared.lines.Line.{Line}
use Rattle.ea_super.specs.declared.lines.Line.TheVariants.{Asks}
use Rattle.ea_super.specs.declared.seen.Seen.{Seen}
use Rattle.ea_super.specs.declared.takers.Takers.{Takers}

-- what is known of the names, of which that section was begun last
pub record KnowsTakers (earlier : List Line) (section : ℕ) (t : Takers) : Type 0 where
  pub taken : (k : ℕ) → nat_lt 0 (get_or t.sections.items k 0) ≡ is_taken k earlier
  pub held : (k : ℕ) → 0 < section
      → (get_or t.sections.items k 0 == section) ≡ is_held k earlier
  pub begun : (k : ℕ) → get_or t.sections.items k 0 ≤ section

-- what is known after these lines
pub record Knows (n : ℕ) (earlier : List Line) (s : Seen) : Type 0 where
  pub schedulers : s.schedulers ≡ n
  pub stage : s.stage ≡ stage_after earlier
  pub section : s.section ≡ sections earlier
  pub takers : KnowsTakers earlier s.section s.takers
  pub count : s.count ≡ length (requests earlier)
  pub requests : s.requests.items ≡ reverse (section_requests earlier)
  pub over : map (λ r. r.items) s.over.items ≡ sections_before earlier

-- a request that may stand stands in a section
abbrev pub IsBegun : ℕ → Line → Type 0
IsBegun section (Asks request) = 0 < section
IsBegun section line = Unit {0}

-- the request of a line can be added
abbrev pub HasRoom : Seen → Line → Type 0
HasRoom s (Asks request) = s.count < MAX_OPS
HasRoom s line = Unit {0}

-- a line is taken after the earlier ones
pub record Takes (n : ℕ) (earlier : List Line) (line : Line) (s : Seen) : Type 0 where
  pub accepted : refusal n earlier line ≡ None
  pub known : Knows n (line ∷ earlier) s

-- a fault is that refusal, or want of memory
abbrev pub IsRefusal : TraceFault → Option TraceFault → Type 0
IsRefusal OutOfMemory refused = Unit {0}
IsRefusal f refused = refused ≡ Some f
