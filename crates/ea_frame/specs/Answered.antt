-- All that holds of a call of a command: what its status says of the words, the input and the three
-- ends.
use Rattle.std.specs.Prelude.{◌≡◌, ◌≢◌, ℕ, ◌+◌, ◌<◌, ◌≤◌, ◌⊎◌, ◌↔◌, List, Option, IfSome}
use Rattle.std.specs.Io.KnownBytes.{IsAtEnd}
use Rattle.std.specs.declared.string.String.{String}
use Rattle.ea_io.specs.Calls.{StopsReading, StopsWriting}
use Rattle.ea_io.specs.Counts.{Calm}
use Rattle.ea_io.specs.Fronts.{ConsumesAtMost}
use Rattle.ea_model.specs.declared.units.TheConstants.{MAX_INPUT}
use Rattle.ea_frame.specs.declared.faults.Fault.{Fault}
use Rattle.ea_frame.specs.Faults.{Complains, status_of}
use Rattle.ea_frame.specs.Inputs.{DeclinedInput, GoodInput, GoodWords, OfInput, RunInput, Under}
use Rattle.ea_frame.specs.Inputs.{WroteFront, WroteText}
use Rattle.ea_frame.specs.Language.{Language}
use Rattle.ea_frame.specs.Whys.{IsWhy}

-- a source or a sink before a call and after it: which bytes it tells, and its count of faults
pub record End (E : Type 0) : Type 0 where
  pub bytes : E → Option (List ℕ)
  pub faults : E → ℕ
  pub old : E
  pub new : E

module _ {E : Type 0} where
  abbrev pub end_of : (E → Option (List ℕ)) → (E → ℕ) → E → E → End E
  end_of bytes faults old new = record {
    bytes = bytes;
    faults = faults;
    old = old;
    new = new;
  }

  -- the bytes that it told before the call
  abbrev pub before : End E → Option (List ℕ)
  before e = e.bytes e.old

  -- the bytes that it tells after it
  abbrev pub after : End E → Option (List ℕ)
  after e = e.bytes e.new

  -- no fault was counted
  abbrev pub IsCalm : End E → Type 0
  IsCalm e = Calm (e.faults e.old) (e.faults e.new)

  -- of a source: one was, by the last read, and all reads before it succeeded
  abbrev pub FailedReading : End E → Type 0
  FailedReading e = StopsReading e.bytes e.faults e.old e.new

  -- of a sink: one was, by the last write, and all writes before it succeeded
  abbrev pub FailedWriting : End E → Type 0
  FailedWriting e = StopsWriting e.bytes e.faults e.old e.new

-- What holds once a call of the command of this language, with these words, has ended with this
-- status: of the source that it reads, of out, which takes the text, and of err, which takes the
-- line of a fault.
pub record Answered (language : Language) {Z S O E : Type 0} (words : List (String Z))
    (source : End S) (out : End O) (err : End E) (status : ℕ) : Type 0 where
  pub statuses : (status ≤ 5) ⊎ (status ≡ 7)
  -- 0: the whole text of an input that the command runs, which was read to its end. Where the
  -- source doesn't tell its bytes, as a terminal, this holds of some input.
  pub done : status ≡ 0 → WroteText language words (before source) (before out) (after out)
  pub end : status ≡ 0 → IsAtEnd (after source)
  -- And what the command promises beside the text.
  pub promised : status ≡ 0 → Under words language.Promises
  -- 1: exactly for words that are refused, and nothing was read.
  pub bad_words : (status ≡ 1) ↔ (GoodWords words → ⊥)
  pub good_words : status ≢ 1 → GoodWords words
  pub unread : status ≡ 1 → source.new ≡ source.old
  -- 2: only for an input that isn't good; and such an input gives 2, unless its source fails.
  pub bad_input : status ≡ 2
      → IfSome (before source) (λ input. GoodInput language words input → ⊥)
  pub refuses : GoodWords words → IsCalm source
      → IfSome (before source) (λ input. (GoodInput language words input → ⊥)
      → (status ≡ 2) ⊎ (status ≡ 5))
  -- 7: only for a good input that the command doesn't run; and such an input gives 7, unless its
  -- source fails.
  pub declined_input : status ≡ 7 → OfInput (before source) (DeclinedInput language words)
  pub declines : GoodWords words → IsCalm source
      → IfSome (before source) (λ input. DeclinedInput language words input
      → (status ≡ 7) ⊎ (status ≡ 5))
  -- At most one byte more than the limit is read.
  pub taken : ConsumesAtMost (before source) (after source) (MAX_INPUT + 1)
  -- 3 and 4: only where that end failed, after which nothing more was read or written, and
  -- wherever it did; at 4 a front of the text was written.
  pub read_failed : status ≡ 3 → FailedReading source
  pub read_told : source.faults source.old < source.faults source.new → status ≡ 3
  pub write_failed : status ≡ 4 → FailedWriting out
  pub write_told : out.faults out.old < out.faults out.new → status ≡ 4
  pub front : status ≡ 4 → WroteFront language words (before source) (before out) (after out)
  pub untouched : status ≢ 0 → status ≢ 4 → out.new ≡ out.old
  -- Good words, an input that the command runs, and no fault give 0, or 5.
  pub complete : GoodWords words → IsCalm source → IsCalm out
      → IfSome (before source) (λ input. RunInput language words input
      → (status ≡ 0) ⊎ (status ≡ 5))
  -- err: nothing at 0, else the line of a fault that has this status and is why there is no text.
  -- This says also how far the source was read, and speaks where the source does not tell its
  -- bytes, too.
  pub quiet : status ≡ 0 → err.new ≡ err.old
  pub reason : status ≢ 0 → (fault : Fault) × (status ≡ status_of fault)
      × Complains (before err) (after err) (IsCalm err) fault
      × IsWhy language words (before source) (after source) (FailedReading source)
      (FailedWriting out) fault
  pub stops : (err.faults err.new ≡ err.faults err.old) ⊎ FailedWriting err
