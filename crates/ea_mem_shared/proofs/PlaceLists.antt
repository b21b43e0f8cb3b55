-- Lists of places, and the places that they are.
use Rattle.std.proofs.Common.{◌≡◌, ℕ, zero, suc, ◌≤◌, Bool, true, false, List, []}
use Rattle.std.proofs.Common.{◌∷◌, get_or, length, map, refl, sym, ap, ◌∙◌, inl, inr, arith}
use Rattle.std.specs.Prelude.{replicate, set}
use Rattle.std.proofs.lemmas.Bool.{cases_lt}
use Rattle.std.proofs.lemmas.List.{get_or-replicate, length-replicate, map-set}
use Rattle.std.proofs.Math.ListN.{get_or-map as get_or-map_default}
use Rattle.ea_model.specs.Content.{Content}
use Rattle.ea_machine.specs.declared.owners.OwnerWord.{OwnerWord}
use Rattle.ea_machine.specs.declared.owners.OwnerWord.TheVariants as word
use Rattle.ea_machine.specs.Owners.{CarrierAt, Absent, Pooled, same_word, word_of}
use Rattle.ea_machine.specs.Rows.{Won}
use Rattle.ea_machine.specs.Table.{tried_at, won_if}
use Rattle.ea_mem_shared.specs.declared.carriers.Place.{Place}
use Rattle.ea_mem_shared.specs.Counted.{is_counted}
use Rattle.ea_mem_shared.specs.Places.{counts_at, is_in_search, place_at, placed}

-- a number without a place has no carrier, and neither has one of many absent places
pub all-absent : (n k : ℕ) → place_at (replicate n Absent) k ≡ Absent
all-absent n k = elim (cases_lt k n) [
  | inl within ↦ get_or-replicate n k Absent Absent within
  | inr past ↦ beyond (replicate n Absent) k
      (omega (arith, past, length-replicate n Absent))
] where
  beyond : (ps : List CarrierAt) (k : ℕ) → length ps ≤ k → get_or ps k Absent ≡ Absent
  beyond [] k past = refl
  beyond (p ∷ ps) zero past = absurd (omega (arith, past))
  beyond (p ∷ ps) (suc k) past = beyond ps k (omega (arith, past))

module _ {C : Type 0} (content : C → Content) where
  pub places-set : (ps qs : List (Place C)) (k : ℕ) (p : Place C) → qs ≡ set ps k p
      → map (placed content) qs ≡ set (map (placed content) ps) k (placed content p)
  places-set ps qs k p is = ap (map (placed content)) is ∙ map-set (placed content) ps k p

-- whether a search counts the carriers, before and after one is at another place
pub counted-places : (places : List CarrierAt) (n : ℕ)
    → is_counted (map is_in_search places) n ≡ counts_at places n
counted-places places n = get_or-map_default is_in_search places n Absent

pub counts-set : (places : List CarrierAt) (n : ℕ) (place : CarrierAt)
    → map is_in_search (set places n place)
    ≡ set (map is_in_search places) n (is_in_search place)
counts-set places n place = map-set is_in_search places n place

-- two words are the same exactly if they are told to be
pub same-itself : (w : OwnerWord) → same_word w w ≡ true
same-itself word.Absent = refl
same-itself (word.Employed i) = grind arith
same-itself (word.Pooled i g) = grind arith
same-itself (word.Busy i) = grind arith
same-itself (word.Returning i) = grind arith

-- where it is the one seen the try is won
pub tried-won : (seen : OwnerWord) (p : CarrierAt) (i g : ℕ) (x : Content) → p ≡ Pooled i g x
    → word_of p ≡ seen → tried_at seen p ≡ Won x
tried-won seen p i g x is same =
    ap (λ w. won_if (same_word (word_of p) w) p) (sym same)
    ∙ ap (λ b. won_if b p) (same-itself (word_of p)) ∙ ap (won_if true) is
