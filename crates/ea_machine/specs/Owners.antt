-- Carriers as schedulers share them: where they are, and their owner words. An owner word says who
-- owns a carrier, and where it is.
-- Source: Erlang/OTP, 'Carrier Migration', section 'Migration': owner, employer, pool and busy are
-- in one word. The rest is this simulator's own.
use Rattle.std.specs.Prelude.{ℕ, Bool, true, false, ◌&&◌, ◌==◌}
use Rattle.ea_model.specs.Content.{Content}
use Rattle.ea_machine.specs.declared.owners.OwnerWord.{OwnerWord}
use Rattle.ea_machine.specs.declared.owners.OwnerWord.TheVariants as word

-- where a carrier is; a content beside the word is at home, where no scheduler has it
pub data CarrierAt : Type 0 where
  -- no carrier has the number
  Absent : CarrierAt
  -- an instance allocates in it, and has its content
  Employed : (instance : ℕ) → CarrierAt
  -- the instance that abandoned it releases its blocks; its largest gap is recorded
  Pooled : (instance largest : ℕ) (content : Content) → CarrierAt
  -- that instance has taken its content, to release a block
  Busy : (instance : ℕ) → CarrierAt
  -- it is empty, and on its way to its owner
  Returning : (instance : ℕ) (content : Content) → CarrierAt

-- employed by the instance, or absent
abbrev pub employed_if : Bool → ℕ → CarrierAt
employed_if true i = Employed i
employed_if false i = Absent

-- its owner word
abbrev pub word_of : CarrierAt → OwnerWord
word_of Absent = word.Absent
word_of (Employed i) = word.Employed i
word_of (Pooled i largest x) = word.Pooled i largest
word_of (Busy i) = word.Busy i
word_of (Returning i x) = word.Returning i

-- whether two owner words are the same
abbrev pub same_word : OwnerWord → OwnerWord → Bool
same_word word.Absent word.Absent = true
same_word (word.Employed i) (word.Employed j) = i == j
same_word (word.Pooled i g) (word.Pooled j h) = (i == j) && (g == h)
same_word (word.Busy i) (word.Busy j) = i == j
same_word (word.Returning i) (word.Returning j) = i == j
same_word _ _ = false
