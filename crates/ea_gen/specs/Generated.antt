-- The generator of traces (`generated_trace`). For a seed, n schedulers and a count of operations,
-- scheduler i draws a number before each of its operations: the first follows seed + i, each next
-- one the last. Its high part is the draw: the draw modulo 8 tells the kind of the operation, and
-- an allocation asks for four times the draw in bytes. The k-th operation of scheduler i allocates,
-- if it does, the name (i - 1) * count + k. Texts are made one by one, scheduler 1's first.
-- Source of the multiplier, the increment and the modulus: `rand` of many a C library. The rest is
-- this simulator's own: the sources do not speak of it.
use Rattle.std.specs.Prelude.{ℕ, zero, suc, ◌+◌, ◌-◌, ◌*◌, ◌/◌, ◌%◌, ◌^◌, Bool, ◌&&◌, ◌==◌, nat_lt}
use Rattle.std.specs.Prelude.{nat_le, if◌then◌else◌, List, [], ◌∷◌, ◌++◌, Option, Some, None, find}
use Rattle.std.specs.Prelude.{flat_map, map}
use Rattle.ea_model.specs.Trace.{greatest_of, listed}
use Rattle.ea_model.specs.declared.operations.Op.{Op}
use Rattle.ea_model.specs.declared.operations.Op.TheVariants.{Alloc, Free, Realloc, Give, Take}
use Rattle.ea_model.specs.declared.operations.Op.TheVariants.{Info, Idle}
use Rattle.ea_model.specs.declared.settings.Letter.{Letter}
use Rattle.ea_model.specs.declared.trace.Mode.TheVariants.{Generated}
use Rattle.ea_model.specs.declared.trace.Trace.{Trace}
use Rattle.ea_gen.specs.declared.kind.Kind.{Kind}
use Rattle.ea_gen.specs.declared.kind.Kind.TheVariants as kind
use Rattle.ea_gen.specs.declared.section.Section.{Section}

-- numbers are below it
abbrev pub modulus : ℕ
modulus = 2 ^ 31

-- the number that follows
abbrev pub following : ℕ → ℕ
following x = (x * 1103515245 + 12345) % modulus

-- the names that the schedulers before it make are up to this one
abbrev pub base_of : Section → ℕ
base_of s = (s.scheduler - 1) * s.count

-- above one number, and not above another
abbrev pub is_within : ℕ → ℕ → ℕ → Bool
is_within low high k = nat_lt low k && nat_le k high

-- whether a name is one of the scheduler's own
abbrev pub is_own : Section → ℕ → Bool
is_own s k = is_within (base_of s) (base_of s + s.count) k

-- a scheduler before one of its operations
pub record Making : Type 0 where
  -- whose text it is
  pub section : Section
  -- the number that is drawn for the operation
  pub number : ℕ
  -- the name that the operation makes, if it makes one
  pub name : ℕ
  -- the names at hand, oldest first
  pub hand : List ℕ
  -- the names that were given to it and have no take yet, in the order in which they were given
  pub waiting : List ℕ

-- the first of these
abbrev pub front : List ℕ → Option ℕ
front [] = None
front (k ∷ ks) = Some k

-- these without the first one that is the name
abbrev pub without : ℕ → List ℕ → List ℕ
without name [] = []
without name (k ∷ ks) = if k == name then ks else k ∷ without name ks

-- what a number tells
abbrev pub draw_of : Making → ℕ
draw_of m = m.number / 65536

-- allocates the name that the operation makes
abbrev pub allocs : Making → Op
allocs m = Alloc m.name (4 * draw_of m)

-- frees the name, or does the other operation where there is none
abbrev pub free_or : Op → Option ℕ → Op
free_or other None = other
free_or other (Some name) = Free name

-- takes the name, with one try, or does the other operation
abbrev pub take_or : Op → Option ℕ → Op
take_or other None = other
take_or other (Some name) = Take name 1

-- gives the name to the scheduler, or does the other operation
abbrev pub give_or : ℕ → Op → Option ℕ → Op
give_or to other None = other
give_or to other (Some name) = Give name to

-- frees the oldest name at hand; where there is none, allocates
abbrev pub frees : Making → Op
frees m = free_or (allocs m) (front m.hand)

-- takes the first name that was given to it and has no take yet; where there is none, frees
abbrev pub takes_given : Making → Op
takes_given m = take_or (frees m) (front m.waiting)

-- the oldest name at hand that is its own, if there is a scheduler after it
abbrev pub to_give : Making → Option ℕ
to_give m = if nat_lt m.section.scheduler m.section.schedulers then find (is_own m.section) m.hand
    else None

-- gives that name to the scheduler after it; where there is none, frees
abbrev pub gives_own : Making → Op
gives_own m = give_or (m.section.scheduler + 1) (frees m) (to_give m)

-- the kind that a draw tells: of eight remainders five allocate, one frees, one takes, one gives
abbrev pub kind_of : ℕ → Kind
kind_of draw =
    let rest = draw % 8 in
    if nat_lt rest 5 then kind.Allocate else (
    if rest == 5 then kind.Free else (
    if rest == 6 then kind.Take else kind.Give))

-- the operation of a kind
abbrev pub of_kind : Kind → Making → Op
of_kind kind.Allocate m = allocs m
of_kind kind.Free m = frees m
of_kind kind.Take m = takes_given m
of_kind kind.Give m = gives_own m

-- the next operation
abbrev pub operation_of : Making → Op
operation_of m = of_kind (kind_of (draw_of m)) m

-- the names at hand after an operation
abbrev pub hand_after : Op → List ℕ → List ℕ
hand_after (Alloc name bytes) hand = hand ++ name ∷ []
hand_after (Free name) hand = without name hand
hand_after (Realloc old fresh bytes) hand = without old hand ++ fresh ∷ []
hand_after (Give name to) hand = without name hand
hand_after (Take name tries) hand = hand ++ name ∷ []
hand_after Info hand = hand
hand_after Idle hand = hand

-- the names without a take after an operation
abbrev pub waiting_after : Op → List ℕ → List ℕ
waiting_after (Take name tries) waiting = without name waiting
waiting_after o waiting = waiting

-- with the names as they are after an operation
abbrev pub moved : Op → Making → Making
moved op m = record m { hand = hand_after op m.hand; waiting = waiting_after op m.waiting }

-- before the next operation
abbrev pub after : Op → Making → Making
after op m = record (moved op m) { number = following m.number; name = m.name + 1 }

-- the next operations, that many
abbrev pub operations_from : ℕ → Making → List Op
operations_from zero m = []
operations_from (suc left) m = operation_of m ∷ operations_from left (after (operation_of m) m)

-- before the first operation of a scheduler to which these names were given
abbrev pub start : ℕ → Section → List ℕ → Making
start seed s given = record {
  section = s;
  number = following ((seed + s.scheduler) % modulus);
  name = base_of s + 1;
  hand = [];
  waiting = given;
}

-- the text of a scheduler to which these names were given
abbrev pub text_of : ℕ → Section → List ℕ → List Op
text_of seed s given = operations_from s.count (start seed s given)

-- the names that operations give to the scheduler, in order
abbrev pub given_to : ℕ → List Op → List ℕ
given_to i [] = []
given_to i (Give name to ∷ os) = if to == i then name ∷ given_to i os else given_to i os
given_to i (o ∷ os) = given_to i os

abbrev pub section_at : ℕ → ℕ → ℕ → Section
section_at n count i = record { scheduler = i; schedulers = n; count = count }

-- the texts of that many schedulers from i on; these names were given to i
abbrev pub texts_from : ℕ → ℕ → ℕ → ℕ → ℕ → List ℕ → List (List Op)
texts_from seed n count zero i given = []
texts_from seed n count (suc left) i given =
    let text = text_of seed (section_at n count i) given in
    text ∷ texts_from seed n count left (i + 1) (given_to (i + 1) text)

-- the texts of n schedulers, scheduler 1's first; nobody gives to scheduler 1
abbrev pub generated : ℕ → ℕ → ℕ → List (List Op)
generated seed n count = texts_from seed n count n 1 []

-- the trace that a seed and a count make for n schedulers
abbrev pub generated_trace : Letter → ℕ → ℕ → ℕ → Trace
generated_trace letter seed n count =
    let texts = generated seed n count in
    record {
      letter = letter;
      texts = listed (map (λ text. listed text) texts);
      stops = listed [];
      mode = Generated seed count;
      greatest = greatest_of (flat_map (λ text. text) texts);
    }
