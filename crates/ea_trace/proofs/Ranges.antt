-- The numbers of each line that a text says are in their ranges.
use Rattle.std.proofs.Common.{◌≡◌, ℕ, ◌≤◌, Bool, true, false, if◌then◌else◌, ◌&&◌, nat_le, List, []}
use Rattle.std.proofs.Common.{◌∷◌, Option, Some, None, IfSome, refl, arith, tests}
use Rattle.std.proofs.Common.{rules}
use Rattle.std.specs.List.{All, slice_split}
use Rattle.std.specs.Option.{option_and_then, option_map, unwrap_or}
use Rattle.std.proofs.lemmas.List.Elements.{All-cons, All-nil}
use Rattle.ea_model.specs.Trace.{IsName}
use Rattle.ea_model.specs.Words.{from_to, number, numeral}
use Rattle.ea_model.specs.declared.operations.Op.{Op}
use Rattle.ea_model.specs.declared.operations.Op.TheVariants.{Alloc, Free, Realloc, Give, Take}
use Rattle.ea_model.specs.declared.operations.Op.TheVariants.{Info, Idle}
use Rattle.ea_model.specs.declared.settings.Letter.{Letter}
use Rattle.ea_model.specs.declared.trace.Turns as model
use Rattle.ea_model.specs.declared.units.TheConstants.{MAX_BYTES, MAX_NAME, MAX_SEED, MAX_STEPS}
use Rattle.ea_model.specs.declared.units.TheConstants.{MAX_TRIES}
use Rattle.ea_model.specs.declared.units.TheConstants.{MAX_TURNS}
use Rattle.ea_trace.specs.Lines.{Said, and_turns, bare, both_words, command, command_of}
use Rattle.ea_trace.specs.Lines.{generate_line, is_comment, is_star, keyword_in, kind_in}
use Rattle.ea_trace.specs.Lines.{letter_line, line_of_words, name_in, one_of, only_word}
use Rattle.ea_trace.specs.Lines.{operation_in, operation_of, pair, scheduler_in, section_line}
use Rattle.ea_trace.specs.Lines.{stop_from, stop_line, three_words, triple, turns_at, turns_from}
use Rattle.ea_trace.specs.Lines.{turns_in, turns_line, turns_of_parts}
use Rattle.ea_trace.specs.Ranges.{HasRanges, InRange, IsCount}
use Rattle.ea_trace.specs.declared.keywords.Keyword.{Keyword}
use Rattle.ea_trace.specs.declared.keywords.Keyword.TheVariants as keyword
use Rattle.ea_trace.specs.declared.keywords.OpKind.{OpKind}
use Rattle.ea_trace.specs.declared.keywords.OpKind.TheVariants as kind
use Rattle.ea_trace.specs.declared.lines.Line.TheVariants as line
use Rattle.ea_trace.specs.declared.lines.TheConstants.{MAX_READ}

abbrev pub Within : ℕ → ℕ → ℕ → Type 0
Within low high n = (low ≤ n) × (n ≤ high)

guarded : (P : ℕ → Type 0) (n : ℕ) (a b : Bool) → (a ≡ true → b ≡ true → P n)
    → IfSome (if a && b then Some n else None) P
guarded P n true true f = f refl refl
guarded P n true false f = tt
guarded P n false b f = tt

within : (low high n : ℕ) → nat_le low n ≡ true → nat_le n high ≡ true → Within low high n
within low high n a b = (search (rules, tests), search (rules, tests))

from_to_within : (low high : ℕ) (o : Option ℕ) → IfSome (from_to low high o) (Within low high)
from_to_within low high None = tt
from_to_within low high (Some n) = guarded (Within low high) n (nat_le low n) (nat_le n high)
    (within low high n)

module _ {X Y : Type 0} where
  mapped : (f : X → Y) (o : Option X) (P : X → Type 0) (R : Y → Type 0) → IfSome o P
      → ((x : X) → P x → R (f x)) → IfSome (option_map f o) R
  mapped f None P R h g = tt
  mapped f (Some x) P R h g = g x h

  chained : (f : X → Option Y) (o : Option X) (R : Y → Type 0) → ((x : X) → IfSome (f x) R)
      → IfSome (option_and_then f o) R
  chained f None R g = tt
  chained f (Some x) R g = g x

module _ {X : Type 0} where
  paired : (f : ℕ → ℕ → X) (a b : Option ℕ) (P Q : ℕ → Type 0) (R : X → Type 0) → IfSome a P
      → IfSome b Q → ((x y : ℕ) → P x → Q y → R (f x y)) → IfSome (pair f a b) R
  paired f None b P Q R h k g = tt
  paired f (Some x) None P Q R h k g = tt
  paired f (Some x) (Some y) P Q R h k g = g x y h k

  tripled : (f : ℕ → ℕ → ℕ → X) (a b c : Option ℕ) (P Q S : ℕ → Type 0) (R : X → Type 0)
      → IfSome a P → IfSome b Q → IfSome c S → ((x y z : ℕ) → P x → Q y → S z → R (f x y z))
      → IfSome (triple f a b c) R
  tripled f None b c P Q S R h k l g = tt
  tripled f (Some x) b c P Q S R h k l g = paired (f x) b c Q S R k l (λ y z. g x y z h)

  bare_in : (x : X) (ws : List (List ℕ)) (P : X → Type 0) → P x → IfSome (bare x ws) P
  bare_in x [] P h = h
  bare_in x (w ∷ ws) P h = tt

abbrev Any : ℕ → Type 0
Any n = Unit {0}

any : (o : Option ℕ) → IfSome o Any
any None = tt
any (Some n) = tt

name_within : (w : List ℕ) → IfSome (name_in w) IsName
name_within w = from_to_within 1 MAX_NAME (numeral w)

abbrev IsRequest : ℕ → Type 0
IsRequest n = n ≤ MAX_BYTES

upper : (high : ℕ) (o : Option ℕ) → IfSome (from_to 0 high o) (λ n. n ≤ high)
upper high None = tt
upper high (Some n) = guarded (λ n. n ≤ high) n (nat_le 0 n) (nat_le n high)
    (λ a b. (within 0 high n a b).1)

kind_ranges : (ws : List (List ℕ)) (k : OpKind) → IfSome (operation_of ws k) HasRanges
kind_ranges ws kind.Alloc = chained _ (both_words ws) HasRanges (λ w. paired Alloc _ _ IsName
    IsRequest HasRanges (name_within w.0) (upper MAX_BYTES (numeral w.1)) (λ x y h k. (h, k)))
kind_ranges ws kind.Free = mapped Free _ IsName HasRanges
    (chained name_in (only_word ws) IsName name_within) (λ x h. h)
kind_ranges ws kind.Realloc = chained _ (three_words ws) HasRanges (λ w. tripled Realloc _ _ _
    IsName IsName IsRequest HasRanges (name_within w.0) (name_within w.1)
    (upper MAX_BYTES (numeral w.2)) (λ x y z h k l. (h, k, l)))
kind_ranges ws kind.Give = chained _ (both_words ws) HasRanges (λ w. paired Give _ _ IsName Any
    HasRanges (name_within w.0) (any (scheduler_in w.1)) (λ x y h k. h))
kind_ranges ws kind.Take = chained _ (both_words ws) HasRanges (λ w. paired Take _ _ IsName
    (Within 1 MAX_TRIES) HasRanges (name_within w.0) (from_to_within 1 MAX_TRIES (numeral w.1))
    (λ x y h k. (h, k.0, k.1)))
kind_ranges ws kind.Info = bare_in Info ws HasRanges tt
kind_ranges ws kind.Idle = bare_in Idle ws HasRanges tt

operation_ranges : (w : List ℕ) (ws : List (List ℕ)) → IfSome (operation_in w ws) HasRanges
operation_ranges w ws = chained (operation_of ws) (kind_in w) HasRanges (kind_ranges ws)

parts_count : (parts : List (List ℕ)) → IfSome (turns_of_parts parts) IsCount
parts_count [] = tt
parts_count (s ∷ []) = paired turns_from (scheduler_in s) (Some 1) Any (Within 1 MAX_TURNS) IsCount
    (any (scheduler_in s)) (omega arith, omega arith) (λ x y h k. (k.0, k.1))
parts_count (s ∷ k ∷ []) = paired turns_from (scheduler_in s) (number 1 MAX_TURNS k) Any
    (Within 1 MAX_TURNS) IsCount (any (scheduler_in s)) (from_to_within 1 MAX_TURNS (numeral k))
    (λ x y h l. (l.0, l.1))
parts_count (s ∷ k ∷ j ∷ parts) = tt

all_more : (o : Option model.Turns) (os : Option (List model.Turns)) → IfSome o IsCount
    → IfSome os (All IsCount) → IfSome (and_turns o os) (All IsCount)
all_more None os h k = tt
all_more (Some t) None h k = tt
all_more (Some t) (Some ts) h k = All-cons IsCount t ts h k

pub turns_ranges : (ws : List (List ℕ)) → IfSome (turns_in ws) (All IsCount)
turns_ranges [] = All-nil IsCount
turns_ranges (w ∷ ws) = all_more (turns_at w) (turns_in ws) (parts_count (slice_split is_star w))
    (turns_ranges ws)

one_ranges : (o : Option Op) (ts : Option (List model.Turns)) → IfSome o HasRanges
    → IfSome ts (All IsCount) → IfSome (one_of o ts) InRange
one_ranges None ts h k = mapped turns_line ts (All IsCount) InRange k (λ x l. l)
one_ranges (Some o) ts h k = h

any_letter : (o : Option Letter) → IfSome o (λ l. Unit {0})
any_letter None = tt
any_letter (Some l) = tt

command_ranges : (k : Option Keyword) (w : List ℕ) (ws : List (List ℕ))
    → IfSome (command_of k w ws) InRange
command_ranges (Some keyword.Threads) w ws = bare_in line.Threads ws InRange tt
command_ranges (Some keyword.Schedule) w ws = bare_in line.Schedule ws InRange tt
command_ranges (Some keyword.End) w ws = bare_in line.End ws InRange tt
command_ranges (Some keyword.Letter) w ws = mapped letter_line _ (λ l. Unit {0}) InRange
    (any_letter _) (λ x h. tt)
command_ranges (Some keyword.Section) w ws = mapped section_line _ Any InRange (any _) (λ x h. tt)
command_ranges (Some keyword.Stop) w ws = mapped stop_line _ (λ s. s.steps ≤ MAX_STEPS) InRange
    (chained _ (both_words ws) (λ s. s.steps ≤ MAX_STEPS) (λ v. paired stop_from _ _ Any
    (λ k. k ≤ MAX_STEPS) (λ s. s.steps ≤ MAX_STEPS) (any (scheduler_in v.0))
    (upper MAX_STEPS (numeral v.1)) (λ x y h k. k))) (λ x h. h)
command_ranges (Some keyword.Generate) w ws = chained _ (both_words ws) InRange
    (λ v. paired generate_line _ _ (λ n. n ≤ MAX_SEED) (Within 1 MAX_READ) InRange
    (upper MAX_SEED (numeral v.0)) (from_to_within 1 MAX_READ (scheduler_in v.1))
    (λ x y h k. (h, k.0)))
command_ranges None w ws = one_ranges _ _ (operation_ranges w ws) (turns_ranges (w ∷ ws))

or_unreadable : (o : Option Said) → IfSome o InRange → InRange (unwrap_or o line.Unreadable)
or_unreadable None h = tt
or_unreadable (Some l) h = h

skipped_or : (b : Bool) (l : Said) → InRange l → InRange (if b then line.Skipped else l)
skipped_or true l h = tt
skipped_or false l h = h

-- a line by its first word and the words after it
pub command_or_ranges : (w : List ℕ) (ws : List (List ℕ))
    → InRange (unwrap_or (command w ws) line.Unreadable)
command_or_ranges w ws = or_unreadable (command w ws) (command_ranges (keyword_in w) w ws)

pub words_ranges : (ws : List (List ℕ)) → InRange (line_of_words ws)
words_ranges [] = tt
words_ranges (w ∷ ws) = skipped_or (is_comment w) (unwrap_or (command w ws) line.Unreadable)
    (command_or_ranges w ws)
