-- The lines of carriers, number by number.
use Rattle.std.proofs.Common.{◌≡◌, ℕ, suc, ◌+◌, Bool, List, [], ◌∷◌, ◌++◌, append-nil, refl, sym}
use Rattle.std.proofs.Common.{ap, ◌∙◌, arith}
use Rattle.std.specs.Prelude.{Option, None, Some, flat_map, option_map}
use Rattle.std.specs.List.{range_with_len}
use Rattle.std.proofs.lemmas.Grind.{flat_map-append}
use Rattle.ea_model.specs.declared.carriers.CarrierLine.{CarrierLine}
use Rattle.ea_model.proofs.NumberedItems.{range-last}
use Rattle.ea_machine.specs.Outcome.{Present, line_of}
use Rattle.ea_machine.specs.Owners.{CarrierAt}
use Rattle.ea_sched.specs.declared.state.Scheduler.{Scheduler}
use Rattle.ea_outcome.specs.Resting.{carrier_of, first_lines, lines_if}

module _ (m : Bool) (places : ℕ → CarrierAt) (ss : List Scheduler) where
  abbrev line_at : ℕ → Option CarrierLine
  line_at n = option_map line_of (carrier_of m places ss n)

  if-line : (o : Option Present) (l : Option CarrierLine) → l ≡ option_map line_of o
      → (line : CarrierLine) → l ≡ Some line → lines_if o ≡ line ∷ []
  if-line None l is line some = absurd cc
  if-line (Some p) l is line some =
      let same : line_of p ≡ line = cc in ap (λ x. x ∷ []) same

  if-none : (o : Option Present) (l : Option CarrierLine) → l ≡ option_map line_of o
      → l ≡ None → lines_if o ≡ []
  if-none None l is none = refl
  if-none (Some p) l is none = absurd cc

  next-lines : (n : ℕ) → first_lines m places ss (n + 1)
      ≡ first_lines m places ss n ++ lines_if (carrier_of m places ss (n + 1))
  next-lines n =
      let lines = λ (k : ℕ). lines_if (carrier_of m places ss k) in
      ap (λ k. flat_map lines (range_with_len 1 k)) (next n)
      ∙ ap (flat_map lines) (range-last n)
      ∙ flat_map-append lines (range_with_len 1 n) (suc n ∷ [])
      ∙ ap (λ ls. flat_map lines (range_with_len 1 n) ++ ls) (append-nil (lines (suc n)))
      ∙ ap (λ k. flat_map lines (range_with_len 1 n) ++ lines k) (sym (next n))
    where
      next : (n : ℕ) → n + 1 ≡ suc n
      next n = omega arith

  -- a carrier is there
  pub lines-more : (n : ℕ) (l : Option CarrierLine) (line : CarrierLine)
      → l ≡ line_at (n + 1) → l ≡ Some line → (lines : List CarrierLine)
      → lines ≡ first_lines m places ss n
      → lines ++ line ∷ [] ≡ first_lines m places ss (n + 1)
  lines-more n l line is some lines are =
      ap (λ ls. ls ++ line ∷ []) are
      ∙ ap (λ ls. first_lines m places ss n ++ ls)
      (sym (if-line (carrier_of m places ss (n + 1)) l is line some))
      ∙ sym (next-lines n)

  -- none is
  pub lines-same : (n : ℕ) (l : Option CarrierLine) → l ≡ line_at (n + 1) → l ≡ None
      → (lines : List CarrierLine) → lines ≡ first_lines m places ss n
      → lines ≡ first_lines m places ss (n + 1)
  lines-same n l is none lines are =
      are
      ∙ sym (append-nil (first_lines m places ss n))
      ∙ ap (λ ls. first_lines m places ss n ++ ls)
      (sym (if-none (carrier_of m places ss (n + 1)) l is none))
      ∙ sym (next-lines n)

pub no-line : (o : Option CarrierLine) → ((line : CarrierLine) → o ≡ Some line → ⊥) → o ≡ None
no-line None not = refl
no-line (Some line) not = absurd (not line refl)
