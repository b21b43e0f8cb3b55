-- What one read of a source and one write to a sink do (`Reads`, `Writes`), and how several of them
-- follow each other: all succeed (`OnlyReads`), or only the last one fails (`StopsReading`).
use Rattle.std.specs.Prelude.{◌≡◌, ℕ, ◌<◌, ◌≤◌, Option, None, List, [], ◌∷◌, Result, Ok, Err}
use Rattle.std.specs.Prelude.{IfOk, OnOk, OnErr, length}
use Rattle.std.specs.Io.{ReadsAtMost, WritesAtMost}
use Rattle.std.specs.Io.KnownBytes.{ReadConsumes, WriteAppends}
use Rattle.ea_io.specs.Counts.{WriteCounts, next_count}
use Rattle.ea_io.specs.declared.ends.Failed.{Failed}

-- a read: at Ok(n) the buffer begins with the next n bytes, none only at the end or with no room;
-- at Err no byte was taken, and the faults are one more
pub record Reads {E : Type 0} (left left' : Option (List ℕ)) (faults faults' : ℕ)
    (result : Result ℕ E) (buf : List ℕ) : Type 0 where
  pub bound : ReadsAtMost result buf
  pub bytes : ReadConsumes left left' result buf
  pub kept : OnOk result (faults' ≡ faults)
  pub grows : faults ≤ faults'
  pub once : OnErr result (faults' ≡ next_count faults)

-- a write: at Ok(n) the first n bytes of the piece were taken, one at least unless it is empty;
-- at Err none was taken, and the faults are one more
pub record Writes {E : Type 0} (taken taken' : Option (List ℕ)) (size size' : Option ℕ)
    (faults faults' : ℕ) (result : Result ℕ E) (piece : List ℕ) : Type 0 where
  pub bound : WritesAtMost result piece
  pub some : IfOk result (λ n. 0 < length piece → 0 < n)
  pub bytes : WriteAppends taken taken' result piece
  pub counted : WriteCounts size size' result
  pub kept : OnOk result (faults' ≡ faults)
  pub grows : faults ≤ faults'
  pub once : OnErr result (faults' ≡ next_count faults)

-- calls lead from `old` to `new`, one call from each of these states, the last one first, to the next
abbrev pub ByCalls : {End : Type 0} → (End → End → Type 0) → End → List End → End → Type 0
ByCalls Call old [] new = new ≡ old
ByCalls Call old (last ∷ passed) new = ByCalls Call old passed last × Call last new

-- the fault was the last call: calls that succeeded lead from `old` to `before`, and one that failed
-- leads from there to `new`
pub record StopsAtFault {End : Type 0} (Succeeds Fails : End → End → Type 0) (old new : End)
    : Type 0 where
  pub passed : List End
  pub before : End
  pub calls : ByCalls Succeeds old passed before
  pub fault : Fails before new

-- of a source, which tells the bytes left and counts its faults
module _ {S : Type 0} (left : S → Option (List ℕ)) (faults : S → ℕ) where
  -- a read with this result leads from one state to the next
  abbrev pub ReadTo : Result ℕ Failed → S → S → Type 0
  ReadTo result old new =
      (buf : List ℕ) × Reads (left old) (left new) (faults old) (faults new) result buf

  -- a read that succeeded does
  abbrev pub HasRead : S → S → Type 0
  HasRead old new = (n : ℕ) × ReadTo (Ok n) old new

  -- a read that failed does
  abbrev pub FailsToRead : S → S → Type 0
  FailsToRead old new = (fault : Failed) × ReadTo (Err fault) old new

  -- reads that succeeded lead from one state to the other, and nothing else was done
  abbrev pub OnlyReads : S → S → Type 0
  OnlyReads old new = (passed : List S) × ByCalls HasRead old passed new

  -- the last of the reads failed, and nothing else was done
  abbrev pub StopsReading : S → S → Type 0
  StopsReading old new = StopsAtFault HasRead FailsToRead old new

-- of a sink, which tells the bytes that it took and counts its faults
module _ {O : Type 0} (taken : O → Option (List ℕ)) (faults : O → ℕ) where
  -- a write with this result leads from one state to the next
  abbrev pub WriteTo : Result ℕ Failed → O → O → Type 0
  WriteTo result old new = (piece : List ℕ)
      × Writes (taken old) (taken new) None None (faults old) (faults new) result piece

  -- a write that succeeded does
  abbrev pub HasWritten : O → O → Type 0
  HasWritten old new = (n : ℕ) × WriteTo (Ok n) old new

  -- a write that failed does
  abbrev pub FailsToWrite : O → O → Type 0
  FailsToWrite old new = (fault : Failed) × WriteTo (Err fault) old new

  -- writes that succeeded lead from one state to the other, and nothing else was done
  abbrev pub OnlyWrites : O → O → Type 0
  OnlyWrites old new = (passed : List O) × ByCalls HasWritten old passed new

  -- the last of the writes failed, and nothing else was done
  abbrev pub StopsWriting : O → O → Type 0
  StopsWriting old new = StopsAtFault HasWritten FailsToWrite old new
