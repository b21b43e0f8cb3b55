-- What the answers of a look and of a try tell of a carrier's place.
use Rattle.std.proofs.Common.{◌≡◌, ℕ, Bool, true, false, ap}
use Rattle.ea_model.specs.Content.{Content}
use Rattle.ea_machine.specs.declared.owners.OwnerWord.{OwnerWord}
use Rattle.ea_machine.specs.declared.owners.OwnerWord.TheVariants as word
use Rattle.ea_machine.specs.Owners.{CarrierAt, Absent, Busy, Employed, Pooled, Returning, same_word}
use Rattle.ea_machine.specs.Owners.{word_of}
use Rattle.ea_machine.specs.Rows.{BusyTry, FetchTry, Look, Lost, Saw, Won}
use Rattle.ea_machine.specs.Shared.{Shared}
use Rattle.ea_machine.specs.Table.{answer, tried_at, won_if}

-- the place of a carrier that is employed by its word
employed-at : (i : ℕ) (p : CarrierAt) → word_of p ≡ word.Employed i → p ≡ Employed i
employed-at i Absent q = absurd cc
employed-at i (Employed j) q = let same : j ≡ i = cc in ap Employed same
employed-at i (Pooled j g x) q = absurd cc
employed-at i (Busy j) q = absurd cc
employed-at i (Returning j x) q = absurd cc

-- the word that a lost try found
lost-word : (seen v : OwnerWord) (p : CarrierAt) → tried_at seen p ≡ Lost v → word_of p ≡ v
lost-word seen v p lost = by (same_word (word_of p) seen) p lost where
  by : (b : Bool) (q : CarrierAt) → won_if b q ≡ Lost v → word_of q ≡ v
  by false q l = cc
  by true Absent l = cc
  by true (Employed i) l = cc
  by true (Pooled i g x) l = absurd cc
  by true (Busy i) l = cc
  by true (Returning i x) l = cc

-- the answers of rows on a carrier
module _ (me n : ℕ) (s : Shared) where
  pub saw-word : (v : OwnerWord) → answer me (Look n) s ≡ Saw v → word_of (s.places n) ≡ v
  unfolding answer
  saw-word v saw = cc

  pub saw-employed : (i : ℕ) → answer me (Look n) s ≡ Saw (word.Employed i)
      → s.places n ≡ Employed i
  saw-employed i saw = employed-at i (s.places n) (saw-word (word.Employed i) saw)

  pub busy-won : (seen : OwnerWord) (x : Content) → answer me (BusyTry n seen) s ≡ Won x
      → tried_at seen (s.places n) ≡ Won x
  unfolding answer
  busy-won seen x won = won

  pub fetch-won : (seen : OwnerWord) (x : Content) → answer me (FetchTry n seen) s ≡ Won x
      → tried_at seen (s.places n) ≡ Won x
  unfolding answer
  fetch-won seen x won = won

  pub busy-lost : (seen v : OwnerWord) → answer me (BusyTry n seen) s ≡ Lost v
      → word_of (s.places n) ≡ v
  unfolding answer
  busy-lost seen v lost = lost-word seen v (s.places n) lost
