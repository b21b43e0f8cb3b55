-- What holds of all items but the one with a key.
use Rattle.std.proofs.Common.{◌≡◌, ◌≢◌, ℕ, List, sym, ap, ◌∙◌, inl, inr}
use Rattle.std.specs.Prelude.{Some, All, AllPairs, true, get_or}
use Rattle.std.proofs.lemmas.Bool.{cases_eq, cond_both, eqb-false, eqb-true}
use Rattle.std.proofs.lemmas.List.Elements.{All-filter, All-map, All-weaker}
use Rattle.ea_model.specs.Keyed.{changed_at, has_key, item_at, without, IsBelow}
use Rattle.ea_model.proofs.Rising.{change, item_at-each, without-free}

module _ {A : Type 0} (key_of : A → ℕ) (P : A → Type 0) (key : ℕ) where
  -- it holds of an item that has another key
  abbrev pub IfOther : A → Type 0
  IfOther x = key_of x ≢ key → P x

  -- with a change of the one that has it
  pub others-changed : (f : A → A) → ((x : A) → key_of (f x) ≡ key_of x) → (xs : List A)
      → All P xs → All IfOther (changed_at key_of f key xs)
  others-changed f keeps xs all =
      All-map IfOther (change key_of f key) xs
      (All-weaker P (λ x. IfOther (change key_of f key x))
      (λ x p. cond_both (has_key key_of key x) (f x) x IfOther
      (λ t n. p_of x p t n) (λ _ n. p)) xs all) where
        p_of : (x : A) → P x → has_key key_of key x ≡ true → key_of (f x) ≢ key → P (f x)
        p_of x p t n = absurd (n (keeps x ∙ eqb-true (key_of x) key t))

  -- so it holds of all without that one
  pub others-without : (xs : List A) → All IfOther xs → All P (without key_of key xs)
  others-without xs other = λ i d within. All-filter _ IfOther xs other i d within
      (without-free key_of key xs i d within)

  -- and of all, where it holds of that one too
  pub others-here : (xs : List A) → AllPairs (IsBelow key_of) xs → All IfOther xs
      → ((x : A) → item_at key_of xs key ≡ Some x → P x) → All P xs
  others-here xs rising other here = λ i d within. by (get_or xs i d) (other i d within)
      (item_at-each key_of i d xs rising within) where
        by : (x : A) → IfOther x → item_at key_of xs (key_of x) ≡ Some x → P x
        by x p there = elim (cases_eq (key_of x) key) [
          | inl e ↦ here x (ap (item_at key_of xs) (sym e) ∙ there)
          | inr n ↦ p n
        ]

  -- or comes to hold of it
  pub others-mended : (f : A → A) (xs : List A) → AllPairs (IsBelow key_of) xs → All IfOther xs
      → ((x : A) → item_at key_of xs key ≡ Some x → P (f x)) → All P (changed_at key_of f key xs)
  others-mended f xs rising other new = All-map P (change key_of f key) xs
      (λ i d within. by (get_or xs i d) (other i d within)
      (item_at-each key_of i d xs rising within)) where
        by : (x : A) → IfOther x → item_at key_of xs (key_of x) ≡ Some x
            → P (change key_of f key x)
        by x p there = cond_both (has_key key_of key x) (f x) x P
            (λ t. new x (ap (item_at key_of xs) (sym (eqb-true (key_of x) key t)) ∙ there))
            (λ n. p (eqb-false (key_of x) key n))
