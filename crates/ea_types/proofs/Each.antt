-- What holds of each reader while one after another takes a line.
use Rattle.std.proofs.Common.{◌≡◌, ℕ, ◌+◌, ◌<◌, List, length, map, get_or, set, sym, ap}
use Rattle.std.proofs.Common.{subst, ◌∙◌, arith}
use Rattle.std.specs.List.{AllWithin}
use Rattle.std.proofs.lemmas.List.{get_or-set_other, length-set, map-set, set-get_or}

module _ {X : Type 0} (P : X → Type 0) (xs : List X) (k : ℕ) where
  -- it holds of the next one
  pub at-next : (d : X) → k < length xs → AllWithin P xs k (length xs) → P (get_or xs k d)
  at-next d less h = h k d (omega arith) less

  -- it holds of those after the one that is written
  pub kept-after : (v : X) → AllWithin P xs k (length xs)
      → AllWithin P (set xs k v) (k + 1) (length (set xs k v))
  kept-after v h = λ j d low high. subst P (sym (get_or-set_other xs k j v d (omega (arith, low))))
      (h j d (omega (arith, low)) (omega (arith, high, length-set xs k v)))

-- what stays in the one that is written
pub map-kept : {X Y : Type 0} (f : X → Y) (xs : List X) (k : ℕ) (v d : X) → f v ≡ f (get_or xs k d)
    → map f (set xs k v) ≡ map f xs
map-kept f xs k v d e = map-set f xs k v ∙ ap (λ y. set (map f xs) k y) e
    ∙ sym (map-set f xs k (get_or xs k d)) ∙ ap (map f) (set-get_or xs k d)
