-- Where a carrier is due the count is 0, and it is a multiblock carrier that has blocks. It stays
-- due when it comes into the hand.
use Rattle.std.proofs.Common.{◌≡◌, ◌≢◌, ℕ, List, ◌∷◌, Bool, true, false, ◌&&◌, refl, sym, ap}
use Rattle.std.proofs.Common.{◌∙◌, arith}
use Rattle.std.specs.Prelude.{Option, Some, None, nat_le, not, sum_by}
use Rattle.std.proofs.lemmas.Bool.{and_parts, and_right, not-true}
use Rattle.ea_model.specs.declared.carriers.Kind.{Kind}
use Rattle.ea_model.specs.declared.carriers.Kind.TheVariants.{Main, Multi, Single}
use Rattle.ea_model.specs.declared.settings.Settings.{Settings}
use Rattle.ea_model.specs.Content.{Content, allocated, can_go, is_multi, is_nil, is_vacant}
use Rattle.ea_model.specs.Instance.{Instance, content_of, employed, figures, without_content}
use Rattle.ea_model.proofs.Options.{same-some}
use Rattle.ea_model.proofs.Rising.{item_at-All}
use Rattle.ea_laws.specs.Kept.{number_of, IsLaidOutAlone, IsOrderly, IsRising}
use Rattle.ea_model.specs.Abandonment.{are_sparse, has_large_gap, is_due, is_sparse}
use Rattle.ea_model.specs.Abandonment.{is_sparse_carrier}
use Rattle.ea_sound.proofs.KeyedWeights.{sum-without, times-once}
use Rattle.ea_laws.proofs.Orderly.{employed-alone, employed-many}
use Rattle.ea_sound.proofs.Weights.{sum_by-sum_over}

-- the carrier in front of the others weighs as among them
module _ (f : Content → ℕ) (x : Content) (cs : List Content) (rising : IsRising cs)
    (there : content_of cs x.number ≡ Some x) where
  sum-front : sum_by f (x ∷ without_content x.number cs) ≡ sum_by f cs
  sum-front = omega (
    arith,
    sum_by-sum_over f (x ∷ without_content x.number cs),
    sum_by-sum_over f cs,
    sum-without number_of f x.number x cs (times-once number_of x.number cs rising) there,
  )

-- what is due is a multiblock carrier that has blocks
module _ (s : Settings) (count : ℕ) (cs : List Content) (x : Content)
    (due : is_due s count cs x ≡ true) where
  parts : (nat_le count 0 ≡ true) × ((is_multi x.kind && not (is_nil x.blocks)
      && (is_sparse_carrier s x && are_sparse s cs && has_large_gap s x)) ≡ true)
  parts = and_parts (nat_le count 0) (is_multi x.kind && not (is_nil x.blocks)
      && (is_sparse_carrier s x && are_sparse s cs && has_large_gap s x)) due

  both : (is_multi x.kind ≡ true) × (not (is_nil x.blocks) ≡ true)
  both = and_parts (is_multi x.kind) (not (is_nil x.blocks)) (and_parts
      (is_multi x.kind && not (is_nil x.blocks))
      (is_sparse_carrier s x && are_sparse s cs && has_large_gap s x) parts.1).0

  pub due-count : count ≡ 0
  due-count = by count parts.0 where
    by : (n : ℕ) → nat_le n 0 ≡ true → n ≡ 0
    by n none = grind (arith, none)

  pub due-multi : x.kind ≡ Multi
  due-multi = by x.kind refl both.0 where
    by : (k : Kind) → x.kind ≡ k → is_multi k ≡ true → x.kind ≡ Multi
    by Main kind is = absurd cc
    by Multi kind is = kind
    by Single kind is = absurd cc

  pub due-some : is_nil x.blocks ≡ false
  due-some = not-true (is_nil x.blocks) both.1

  -- so it isn't to be deallocated
  pub due-stays : is_vacant x ≡ false
  due-stays = and_right (can_go x.kind) (is_nil x.blocks) due-some

-- whether it is due by the units of all
abbrev due_by : Settings → ℕ → Content → ℕ → ℕ → Bool
due_by s count x used units = nat_le count 0 && (is_multi x.kind && not (is_nil x.blocks)
    && (is_sparse_carrier s x && is_sparse s used units && has_large_gap s x))

pub due-in_hand : (s : Settings) (count : ℕ) (x : Content) (cs : List Content) → IsRising cs
    → content_of cs x.number ≡ Some x → is_due s count cs x ≡ true
    → is_due s count (x ∷ without_content x.number cs) x ≡ true
due-in_hand s count x cs rising there due =
    let front = figures (x ∷ without_content x.number cs) in
    ap (λ used. due_by s count x used front.carriers_size)
    (sum-front (λ c. allocated c.blocks) x cs rising there)
    ∙ ap (due_by s count x (figures cs).blocks_size)
    (sum-front (λ c. c.units) x cs rising there) ∙ due

-- a multiblock carrier that is found is among those of many blocks
pub multi-found : (i : Instance) (n : ℕ) (x : Content) → IsOrderly i → x.kind ≡ Multi
    → content_of (employed i) n ≡ Some x → content_of i.contents n ≡ Some x
multi-found i n x order multi there = by (content_of i.contents n) refl where
  no : Single ≢ Multi
  no q = cc

  by : (o : Option Content) → content_of i.contents n ≡ o → o ≡ Some x
  by (Some y) q =
      ap Some (same-some (content_of (employed i) n) y x (employed-many i n y order q) there)
  by None q = absurd (no (sym (item_at-All number_of IsLaidOutAlone n x i.singles order.alone
      (sym (employed-alone i n q) ∙ there)).single ∙ multi))
