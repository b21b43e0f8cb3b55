-- What holds of a scheduler before each of its operations, and of the operations that follow.
use Rattle.std.proofs.Common.{◌≡◌, ℕ, ◌+◌, ◌<◌, ◌≤◌, zero, suc}
use Rattle.std.proofs.Common.{length, refl, sym}
use Rattle.std.proofs.Common.{ap, subst, arith}
use Rattle.std.specs.List.{AllByRecursion, sum_by}
use Rattle.std.proofs.lemmas.List.Sums.{sum_by-cons}
use Rattle.ea_model.specs.Trace.{IsName, IsOperation}
use Rattle.ea_model.specs.Trace.{tries_of}
use Rattle.ea_model.specs.declared.operations.Op.{Op}
use Rattle.ea_model.specs.declared.operations.Op.TheVariants.{Alloc, Free, Realloc, Give, Take}
use Rattle.ea_model.specs.declared.operations.Op.TheVariants.{Info, Idle}
use Rattle.ea_model.specs.declared.units.TheConstants.{MAX_NAME}
use Rattle.ea_gen.specs.Generated.{Making, after, base_of, following, hand_after}
use Rattle.ea_gen.specs.Generated.{modulus, operation_of, operations_from, waiting_after}
use Rattle.ea_gen.proofs.Chosen.{IsChosen, all_push, all_without, chosen, holds_one}

-- a name of a scheduler before it
abbrev pub IsBefore : ℕ → ℕ → Type 0
IsBefore base k = (1 ≤ k) × (k ≤ base)

-- before that many operations
pub record Fine (left : ℕ) (m : Making) : Type 0 where
  pub number : m.number < modulus
  pub name : m.name + left ≡ base_of m.section + m.section.count + 1
  pub fresh : base_of m.section < m.name
  pub few : base_of m.section + m.section.count ≤ MAX_NAME
  pub hand : AllByRecursion IsName m.hand
  pub waiting : AllByRecursion (IsBefore (base_of m.section)) m.waiting

pub small : (x : ℕ) → following x < modulus
small x = omega arith

is_name : (base count k : ℕ) → base + count ≤ MAX_NAME → IsBefore base k → IsName k
is_name base count k few h = (h.0, omega (arith, h.1))

fresh_name : (left : ℕ) (m : Making) → Fine (suc left) m → IsName m.name
fresh_name left m f = (omega (arith, f.fresh), omega (arith, f.name, f.few))

hand_fine : (left : ℕ) (m : Making) (op : Op) → Fine (suc left) m → IsChosen m op
    → AllByRecursion IsName (hand_after op m.hand)
hand_fine left m (Alloc name bytes) f c = all_push IsName m.hand name f.hand
    (subst IsName (sym c.0) (fresh_name left m f))
hand_fine left m (Free name) f c = all_without IsName m.hand name f.hand
hand_fine left m (Realloc old fresh bytes) f c = absurd c
hand_fine left m (Give name to) f c = all_without IsName m.hand name f.hand
hand_fine left m (Take name tries) f c = all_push IsName m.hand name f.hand
    (is_name (base_of m.section) m.section.count name f.few
    (holds_one (IsBefore (base_of m.section)) m.waiting name f.waiting c.0))
hand_fine left m Info f c = absurd c
hand_fine left m Idle f c = absurd c

waiting_fine : (left : ℕ) (m : Making) (op : Op) → Fine left m
    → AllByRecursion (IsBefore (base_of m.section)) (waiting_after op m.waiting)
waiting_fine left m (Alloc name bytes) f = f.waiting
waiting_fine left m (Free name) f = f.waiting
waiting_fine left m (Realloc old fresh bytes) f = f.waiting
waiting_fine left m (Give name to) f = f.waiting
waiting_fine left m (Take name tries) f = all_without (IsBefore (base_of m.section)) m.waiting name
    f.waiting
waiting_fine left m Info f = f.waiting
waiting_fine left m Idle f = f.waiting

pub next_fine : (left : ℕ) (m : Making) → Fine (suc left) m → Fine left (after (operation_of m) m)
next_fine left m f =
    let c = chosen m f.number in
    record {
      number = small m.number;
      name = omega (arith, f.name);
      fresh = omega (arith, f.fresh);
      few = f.few;
      hand = hand_fine left m (operation_of m) f c;
      waiting = waiting_fine (suc left) m (operation_of m) f;
    }

-- the numbers of the operations

one_good : (left : ℕ) (m : Making) (op : Op) → Fine (suc left) m → IsChosen m op
    → IsOperation m.section.schedulers op
one_good left m (Alloc name bytes) f c = (subst IsName (sym c.0) (fresh_name left m f), c.1)
one_good left m (Free name) f c = holds_one IsName m.hand name f.hand c
one_good left m (Realloc old fresh bytes) f c = absurd c
one_good left m (Give name to) f c = (
  holds_one IsName m.hand name f.hand c.0,
  (omega (arith, c.2), c.3),
)
one_good left m (Take name tries) f c = (
  is_name (base_of m.section) m.section.count name f.few
      (holds_one (IsBefore (base_of m.section)) m.waiting name f.waiting c.0),
  omega (arith, c.1),
  omega (arith, c.1),
)
one_good left m Info f c = absurd c
one_good left m Idle f c = absurd c

pub all_good : (left : ℕ) (m : Making) → Fine left m
    → AllByRecursion (IsOperation m.section.schedulers) (operations_from left m)
all_good zero m f = tt
all_good (suc left) m f = (
  one_good left m (operation_of m) f (chosen m f.number),
  all_good left (after (operation_of m) m) (next_fine left m f),
)

pub all_count : (left : ℕ) (m : Making) → length (operations_from left m) ≡ left
all_count zero m = refl
all_count (suc left) m = ap suc (all_count left (after (operation_of m) m))

few_tries : (m : Making) (op : Op) → IsChosen m op → tries_of op ≤ 1
few_tries m (Alloc name bytes) c = omega arith
few_tries m (Free name) c = omega arith
few_tries m (Realloc old fresh bytes) c = absurd c
few_tries m (Give name to) c = omega arith
few_tries m (Take name tries) c = omega (arith, c.1)
few_tries m Info c = absurd c
few_tries m Idle c = absurd c

pub all_tries : (left : ℕ) (m : Making) → Fine left m
    → sum_by tries_of (operations_from left m) ≤ left
all_tries zero m f = omega arith
all_tries (suc left) m f = omega (
  arith,
  sum_by-cons tries_of (operation_of m) (operations_from left (after (operation_of m) m)),
  few_tries m (operation_of m) (chosen m f.number),
  all_tries left (after (operation_of m) m) (next_fine left m f),
)
