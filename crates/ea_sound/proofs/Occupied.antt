-- Carriers that have a block, and what holds of each carrier after a reallocation in place.
use Rattle.std.proofs.Common.{◌≡◌, ◌≢◌, ℕ, ◌≤◌, false, ◌&&◌, List, [], ◌∷◌, length, refl, sym, ap}
use Rattle.std.proofs.Common.{◌∙◌, subst, arith}
use Rattle.std.specs.Prelude.{Option, Some, None, All}
use Rattle.std.proofs.lemmas.Bool.{and_right}
use Rattle.ea_model.specs.declared.carriers.BlockAt.{BlockAt}
use Rattle.ea_model.specs.declared.carriers.Spot.{Spot}
use Rattle.ea_model.specs.declared.reallocation.Decision.{Decision}
use Rattle.ea_model.specs.declared.reallocation.Decision.TheVariants.{Stay, ShrinkHere, GrowHere}
use Rattle.ea_model.specs.declared.reallocation.Decision.TheVariants.{ShrinkCarrier, Move}
use Rattle.ea_model.specs.Content.{Content, can_go, gap_at, gaps_of, inserted, is_nil, taken_of}
use Rattle.ea_model.specs.Content.{is_vacant, placed, resized}
use Rattle.ea_model.specs.Instance.{Instance, content_of, decision_at, employed, resized_by}
use Rattle.ea_model.specs.Instance.{resized_in, resized_to, resizing_at, shortened}
use Rattle.ea_model.specs.Keyed.{changed_at}
use Rattle.ea_model.proofs.Options.{same-some}
use Rattle.ea_model.proofs.Rising.{changed-found, item_at-All, item_at-key, length-entered}
use Rattle.ea_model.proofs.Rising.{rising-changed}
use Rattle.ea_laws.specs.Kept.{number_of, IsOrderly}
use Rattle.ea_laws.proofs.Apart.{changed-All}
use Rattle.ea_laws.proofs.BlockLists.{offset_of}
use Rattle.ea_laws.proofs.Owned.{with_units}
use Rattle.ea_laws.proofs.Resizing.{shortened-alone}
use Rattle.ea_laws.proofs.Resized.{with_size}
use Rattle.ea_laws.proofs.Orderly.{employed-alone, employed-many, many-not_alone}
use Rattle.ea_sound.proofs.Others.{others-changed, others-mended}
use Rattle.ea_laws.proofs.Resizing.{content_after}

not_nil : (bs : List BlockAt) → 1 ≤ length bs → is_nil bs ≡ false
not_nil [] some = absurd (omega (arith, some))
not_nil (b ∷ bs) some = refl

-- a carrier in which a block was placed has one
pub placed-occupied : (c : Content) (offset need name : ℕ)
    → is_vacant (placed c offset need name) ≡ false
placed-occupied c offset need name =
    let block : BlockAt = record {
      name = name;
      offset = offset;
      size = taken_of (gap_at (gaps_of c) offset) need;
    } in
    and_right (can_go c.kind) (is_nil (inserted block c.blocks))
    (not_nil (inserted block c.blocks) (omega (arith, length-entered offset_of block c.blocks)))

same_nil : (offset size name : ℕ) (bs : List BlockAt)
    → is_nil (changed_at offset_of (with_size size name) offset bs) ≡ is_nil bs
same_nil offset size name [] = refl
same_nil offset size name (b ∷ bs) = refl

-- a carrier in which one was resized is as empty as before
pub after-vacant : (d : Decision) (offset size name : ℕ) (c : Content)
    → is_vacant (content_after d offset size name c) ≡ is_vacant c
after-vacant Stay offset size name c =
    ap (λ b. can_go c.kind && b) (same_nil offset size name c.blocks)
after-vacant ShrinkHere offset size name c =
    ap (λ b. can_go c.kind && b) (same_nil offset size name c.blocks)
after-vacant GrowHere offset size name c =
    ap (λ b. can_go c.kind && b) (same_nil offset size name c.blocks)
after-vacant (ShrinkCarrier pages) offset size name c =
    ap (λ b. can_go c.kind && b) (same_nil offset size name c.blocks)
after-vacant Move offset size name c = refl

-- what holds of each carrier, and of the one after its block was resized
module _ (P : Content → Type 0) (i : Instance) (spot : Spot) (need name : ℕ) (c : Content)
    (order : IsOrderly i) (there : content_of (employed i) spot.carrier ≡ Some c)
    (many : All P i.contents) (one : All P i.singles) where
  abbrev at : ℕ
  at = spot.carrier

  abbrev with_new : ℕ → Content → Content
  with_new size x = resized x spot.offset size name

  abbrev InBoth : Instance → Type 0
  InBoth j = All P j.contents × All P j.singles

  is_c : (d : Content) → content_of (employed i) at ≡ Some d → c ≡ d
  is_c d e = same-some (content_of (employed i) at) c d there e

  not_many : (d e : Content) → content_of i.contents at ≡ Some d → content_of i.singles at ≡ Some e
      → ⊥
  not_many d e is are = item_at-All number_of (λ x. x.number ≢ at) at e i.singles
      (many-not_alone i at d order is) are (item_at-key number_of at e i.singles are)

  of_single : (o : Option Content) → content_of i.contents at ≡ o → (d : Content)
      → content_of i.singles at ≡ Some d → c ≡ d
  of_single (Some e) is d are = absurd (not_many e d is are)
  of_single None is d are = is_c d (employed-alone i at is ∙ are)

  resized_both : (size : ℕ) → P (with_new size c) → InBoth (resized_in i spot size name)
  resized_both size p = (
    changed-All P (with_new size) at i.contents order.rising many
        (λ d is. subst (λ x. P (with_new size x)) (is_c d (employed-many i at d order is)) p),
    changed-All P (with_new size) at i.singles order.rising_singles one
        (λ d is. subst (λ x. P (with_new size x))
        (of_single (content_of i.contents at) refl d is) p),
  )

  shortened_both : (size pages : ℕ) → content_of i.contents at ≡ None
      → P (with_units pages (with_new size c))
      → InBoth (shortened (resized_in i spot size name) at pages)
  shortened_both size pages others p =
      let f = with_new size in
      let here = sym (employed-alone i at others) ∙ there in
      let singles = changed_at number_of f at i.singles in (
        changed-All P f at i.contents order.rising many
            (λ d is. absurd (let e : None ≡ Some d = sym others ∙ is in cc)),
        others-mended number_of P at (with_units pages) singles
            (rising-changed number_of f at (λ _. refl) i.singles order.rising_singles)
            (others-changed number_of P at f (λ _. refl) i.singles one)
            (λ d is. subst (λ x. P (with_units pages x))
            (same-some (content_of singles at) (f c) d
            (changed-found number_of f at (λ _. refl) c i.singles here) is) p),
      )

  both_by : (d : Decision) → decision_at i spot need ≡ d → (size : ℕ)
      → P (content_after d spot.offset size name c) → InBoth (resized_by d i spot size name)
  both_by Stay e size p = resized_both size p
  both_by ShrinkHere e size p = resized_both size p
  both_by GrowHere e size p = resized_both size p
  both_by (ShrinkCarrier pages) e size p =
      shortened_both size pages (shortened-alone i spot need pages e) p
  both_by Move e size p = (many, one)

  pub resizing-All
      : P (content_after (decision_at i spot need) spot.offset (resized_to i spot need) name c)
      → All P (resizing_at i spot need name).contents × All P (resizing_at i spot need name).singles
  resizing-All p = both_by (decision_at i spot need) refl (resized_to i spot need) p
