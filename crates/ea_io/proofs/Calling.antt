-- Calls that follow each other.
use Rattle.std.proofs.Common.{ℕ, List, [], ◌∷◌, Option, sym, subst}
use Rattle.std.specs.Prelude.{Result, Ok, Err, OnErr}
use Rattle.ea_io.specs.Calls.{ByCalls, HasWritten, OnlyReads, OnlyWrites, Reads, StopsReading}
use Rattle.ea_io.specs.Calls.{StopsWriting, Writes}
use Rattle.ea_io.specs.declared.ends.Failed.{Failed}

-- what holds holds of an answer
pub told : {A E P : Type 0} (r : Result A E) → P → OnErr r P
told (Ok x) h = tt
told (Err e) h = h

module _ {End : Type 0} (Call : End → End → Type 0) where
  -- some calls, and then some more
  joined : (a b c : End) (first more : List End) → ByCalls Call a first b → ByCalls Call b more c
      → (passed : List End) × ByCalls Call a passed c
  joined a b c first [] p q = (first, subst (ByCalls Call a first) (sym q) p)
  joined a b c first (last ∷ more) p q =
      let (passed, to) = joined a b last first more p q.0 in (last ∷ passed, (to, q.1))

module _ {S : Type 0} (left : S → Option (List ℕ)) (faults : S → ℕ) where
  -- reads, and then one more
  pub and-read : (a b c : S) (n : ℕ) (buf : List ℕ) → OnlyReads left faults a b
      → Reads {E = Failed} (left b) (left c) (faults b) (faults c) (Ok n) buf
      → OnlyReads left faults a c
  and-read a b c n buf before read = (b ∷ before.0, (before.1, (n, (buf, read))))

  -- reads, and then one that fails
  pub read-fails : (a b c : S) (fault : Failed) (buf : List ℕ) → OnlyReads left faults a b
      → Reads (left b) (left c) (faults b) (faults c) (Err fault) buf
      → StopsReading left faults a c
  read-fails a b c fault buf before failed = record {
    passed = before.0;
    before = b;
    calls = before.1;
    fault = (fault, (buf, failed));
  }

module _ {O : Type 0} (taken : O → Option (List ℕ)) (faults : O → ℕ) where
  -- writes, and then one more
  pub and-write : (a b c : O) (size size' : Option ℕ) (n : ℕ) (piece : List ℕ)
      → OnlyWrites taken faults a b
      → Writes {E = Failed} (taken b) (taken c) size size' (faults b) (faults c) (Ok n) piece
      → OnlyWrites taken faults a c
  and-write a b c size size' n piece before wrote = (
    b ∷ before.0,
    (
      before.1,
      (
        n,
        (
          piece,
          record {
            bound = wrote.bound;
            some = wrote.some;
            bytes = wrote.bytes;
            counted = tt;
            kept = wrote.kept;
            grows = wrote.grows;
            once = wrote.once;
          },
        ),
      ),
    ),
  )

  -- writes, and then one that fails
  pub and-fails : (a b c : O) (size size' : Option ℕ) (fault : Failed) (piece : List ℕ)
      → OnlyWrites taken faults a b
      → Writes (taken b) (taken c) size size' (faults b) (faults c) (Err fault) piece
      → StopsWriting taken faults a c
  and-fails a b c size size' fault piece before failed = record {
    passed = before.0;
    before = b;
    calls = before.1;
    fault = (
      fault,
      (
        piece,
        record {
          bound = failed.bound;
          some = failed.some;
          bytes = failed.bytes;
          counted = tt;
          kept = failed.kept;
          grows = failed.grows;
          once = failed.once;
        },
      ),
    );
  }

  -- writes, and then some more
  pub more-writes : (a b c : O) → OnlyWrites taken faults a b → OnlyWrites taken faults b c
      → OnlyWrites taken faults a c
  more-writes a b c p q = joined (HasWritten taken faults) a b c p.0 q.0 p.1 q.1

  -- writes, and then some of which the last failed
  pub stops-after : (a b c : O) → OnlyWrites taken faults a b → StopsWriting taken faults b c
      → StopsWriting taken faults a c
  stops-after a b c p q =
      let all = more-writes a b q.before p (q.passed, q.calls) in record {
        passed = all.0;
        before = q.before;
        calls = all.1;
        fault = q.fault;
      }
