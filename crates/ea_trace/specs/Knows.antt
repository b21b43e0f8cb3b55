-- What a reader knows of the lines that it took.
use Rattle.std.specs.Prelude.{◌≡◌, ℕ, ◌+◌, ◌<◌, ◌≤◌, Bool, true, false, nat_lt, ◌==◌, List, get_or}
use Rattle.std.specs.Prelude.{◌∷◌, Option, Some, None, is_some, length, map, option_map, reverse}
use Rattle.std.specs.Prelude.{sum_by}
use Rattle.std.specs.Borrow.{Bor}
use Rattle.ea_model.specs.Trace.{gives_outside, greatest_of, plain_mode, tries_of}
use Rattle.ea_model.specs.declared.operations.Op.{Op}
use Rattle.ea_model.specs.declared.operations.Op.TheVariants.{Give}
use Rattle.ea_model.specs.Words.{words}
use Rattle.ea_model.specs.declared.units.TheConstants.{MAX_ALL_TRIES, MAX_NAME, MAX_OPS, MAX_TURNS}
use Rattle.ea_trace.specs.Language.{all_turns, is_given, is_given_to, is_held}
use Rattle.ea_trace.specs.Language.{is_made, letter_after, mode_after, operations, refusal}
use Rattle.ea_trace.specs.Language.{section_operations, sections, stage_after, stops_after}
use Rattle.ea_trace.specs.Language.{takes_in}
use Rattle.ea_trace.specs.Language.{texts_before, turns_after}
use Rattle.ea_trace.specs.Lines.{Said, turns_in}
use Rattle.ea_trace.specs.declared.fault.TraceFault.{TraceFault}
use Rattle.ea_trace.specs.declared.lines.Line.{Line}
use Rattle.ea_trace.specs.declared.lines.Line.TheVariants.{Section, Operation, Stop, Turns}
use Rattle.ea_trace.specs.declared.names.Names.{Names}
use Rattle.ea_trace.specs.declared.seen.Seen.{Seen}

-- what is known of the names, of which that section was begun last
pub record KnowsNames (earlier : List Said) (section : ℕ) (names : Names) : Type 0 where
  pub made : (k : ℕ) → k ≤ MAX_NAME → get_or names.made.items k false ≡ is_made k earlier
  pub held : (k : ℕ) → k ≤ MAX_NAME → 0 < section
      → (get_or names.holder.items k 0 == section) ≡ is_held k earlier
  pub begun : (k : ℕ) → k ≤ MAX_NAME → get_or names.holder.items k 0 ≤ section
  pub given : (k : ℕ) → k ≤ MAX_NAME
      → nat_lt 0 (get_or names.addressee.items k 0) ≡ is_given k earlier
  pub given_to : (k i : ℕ) → k ≤ MAX_NAME → 1 ≤ i
      → (i == get_or names.addressee.items k 0) ≡ is_given_to k i earlier

-- what is known after these lines
pub record Knows (n : ℕ) (earlier : List Said) (s : Seen) : Type 0 where
  pub schedulers : s.schedulers ≡ n
  pub stage : s.stage ≡ stage_after earlier
  pub section : s.section ≡ sections earlier
  pub letter : s.letter ≡ letter_after earlier
  pub mode : option_map plain_mode s.mode ≡ mode_after earlier
  pub names : KnowsNames earlier s.section s.names
  pub takes : s.takes.items ≡ takes_in earlier
  pub count : s.count ≡ length (operations earlier)
  pub tries : s.tries ≡ sum_by tries_of (operations earlier)
  pub turn_count : s.turn_count ≡ all_turns (turns_after earlier)
  pub greatest : s.greatest ≡ greatest_of (operations earlier)
  pub text : s.text.items ≡ reverse (section_operations earlier)
  pub texts : map (λ text. text.items) s.texts.items ≡ texts_before earlier
  pub stops : s.stops.items ≡ stops_after earlier

-- a line that isn't refused is known after it
abbrev pub KnowsMore : ℕ → List Said → Option TraceFault → Seen → Type 0
KnowsMore n lines None s = Knows n lines s
KnowsMore n lines (Some f) s = Unit {0}

-- the answer to a line after the earlier ones, which is refused or known
pub record Judged (n : ℕ) (earlier : List Said) (line : Said) (s : Seen)
    (answer : Option TraceFault) : Type 0 where
  pub refused : answer ≡ refusal n earlier line
  pub known : KnowsMore n (line ∷ earlier) answer s

-- all but the texts is as it was
pub record KeepsRest (old new : Seen) : Type 0 where
  pub schedulers : new.schedulers ≡ old.schedulers
  pub stage : new.stage ≡ old.stage
  pub section : new.section ≡ old.section
  pub letter : new.letter ≡ old.letter
  pub mode : new.mode ≡ old.mode
  pub names : new.names ≡ old.names
  pub takes : new.takes.items ≡ old.takes.items
  pub count : new.count ≡ old.count
  pub tries : new.tries ≡ old.tries
  pub turn_count : new.turn_count ≡ old.turn_count
  pub greatest : new.greatest ≡ old.greatest
  pub stops : new.stops ≡ old.stops

-- what a line that may stand, and names no wrong scheduler, has
abbrev pub Stands : ℕ → ℕ → Line (Bor (List ℕ)) → Type 0
Stands n section (Operation op) = gives_outside n op ≡ false → 0 < section
Stands n section (Turns text) = is_some (turns_in (words text.now)) ≡ true
Stands n section line = Unit {0}

-- the operations, tries and turns of a line can be added
abbrev pub HasRoom : Seen → Said → Type 0
HasRoom s (Operation op) = (s.count < MAX_OPS) × (s.tries + tries_of op ≤ MAX_ALL_TRIES)
HasRoom s (Turns turns) = s.turn_count + all_turns turns ≤ MAX_TURNS
HasRoom s line = Unit {0}

-- whether a line is neither the begin of a section nor an operation nor turns
abbrev pub is_mark : Line (Bor (List ℕ)) → Bool
is_mark (Section number) = false
is_mark (Operation op) = false
is_mark (Stop stop) = false
is_mark (Turns text) = false
is_mark line = true

-- an operation that gives a name gives it to a scheduler from 1 on
abbrev pub GivesOn : Op → Type 0
GivesOn (Give name to) = 1 ≤ to
GivesOn op = Unit {0}
