-- Numbers that count, as keys of a tree.
use Rattle.std.proofs.Common.{◌≡◌, ◌≢◌, ℕ, zero, suc, ◌<◌, Bool, true, false, List, ◌∷◌}
use Rattle.std.proofs.Common.{get_or, length, map, All, refl}
use Rattle.std.proofs.Common.{sym, ap, ◌∙◌, subst, inl, inr, arith}
use Rattle.std.specs.Prelude.{Option, None, Some, is_some, set, replicate, Contains, ◌==◌}
use Rattle.std.proofs.lemmas.Bool.{cases_eq}
use Rattle.std.proofs.lemmas.List.{map-set}
use Rattle.std.proofs.Math.ListN.{get_or-map as get_or-map_default}
use Rattle.std.proofs.lemmas.List.Elements.{All-from_get_or, Contains-get_or}
use Rattle.ea_keytree.specs.declared.tree.Found.{Found}
use Rattle.ea_keytree.specs.Keys.{IsLastUpTo}
use Rattle.ea_mem_shared.specs.Counted.{AreOwn, IsLast, is_counted}

-- a list of one thing, each mapped
pub map-replicate : {A B : Type 0} (f : A → B) (n : ℕ) (x : A)
    → map f (replicate n x) ≡ replicate n (f x)
map-replicate f zero x = refl
map-replicate f (suc n) x = ap (λ xs. f x ∷ xs) (map-replicate f n x)

-- whether a position holds a key
pub counted-at : (keys : List (Option ℕ)) (n : ℕ)
    → is_counted (map is_some keys) n ≡ is_some (get_or keys n None)
counted-at keys n = get_or-map_default is_some keys n None

module _ (keys : List (Option ℕ)) (own : AreOwn keys) where
  -- what is known of a number whose position holds a key
  at-key : (n k : ℕ) → get_or keys n None ≡ Some k → get_or keys n None ≡ Some n
  at-key n k e = e ∙ ap Some (own n k e)

  -- a number that stands at none of the keys doesn't count
  uncounted : (n : ℕ) → ((k : ℕ) → get_or keys n None ≡ Some k → ⊥)
      → is_counted (map is_some keys) n ≡ false
  uncounted n free = counted-at keys n ∙ by (get_or keys n None) refl where
    by : (o : Option ℕ) → get_or keys n None ≡ o → is_some (get_or keys n None) ≡ false
    by None e = ap is_some e
    by (Some k) e = absurd (free k e)

  module _ (n : ℕ) (f : Found) (l : IsLastUpTo n keys f) where
    same : f.key ≡ f.position
    same = own f.position f.key l.held

    pub last-found : IsLast (is_counted (map is_some keys)) n f.position
    last-found = record {
      upto = omega (arith, same, l.small);
      none_after = λ m past upto. uncounted m (λ k e.
          let is : k ≡ m = own m k e in
          omega (arith, is, same, past, l.greatest m k e (omega (arith, is, upto))));
      counts = λ some. counted-at keys f.position ∙ ap is_some l.held;
    }

    pub has-found : (f.position == n) ≡ is_counted (map is_some keys) n
    has-found = elim (cases_eq f.position n) [
      | inl is ↦ ap (λ p. p == n) is ∙ here ∙ sym (counted-at keys n ∙ ap is_some
          (sym (ap (λ p. get_or keys p None) is) ∙ l.held))
      | inr other ↦ not_here other ∙ sym (uncounted n (λ k e.
          let is : k ≡ n = own n k e in
          other (omega (arith, is, same, l.small, l.greatest n k e (omega (arith, is))))))
    ] where
      here : (n == n) ≡ true
      here = grind arith

      not_here : f.position ≢ n → (f.position == n) ≡ false
      not_here other = grind (arith, other)

  module _ (n : ℕ) (none : (q k : ℕ) → get_or keys q None ≡ Some k → n < k) where
    pub last-none : IsLast (is_counted (map is_some keys)) n 0
    last-none = record {
      upto = omega arith;
      none_after = λ m past upto. uncounted m (λ k e.
          omega (arith, own m k e, upto, none m k e));
      counts = λ some. absurd (omega (arith, some));
    }

    pub has-none : false ≡ is_counted (map is_some keys) n
    has-none = sym (uncounted n (λ k e. omega (arith, own n k e, none n k e)))

  -- a number that doesn't count has a free position, and its key stands nowhere
  pub is-free : (n : ℕ) → false ≡ is_counted (map is_some keys) n → get_or keys n None ≡ None
  is-free n uncounts = by (get_or keys n None) refl where
    by : (o : Option ℕ) → get_or keys n None ≡ o → get_or keys n None ≡ None
    by None e = e
    by (Some k) e = absurd (cc (uncounts ∙ counted-at keys n ∙ ap is_some e))

  pub is-new : (n : ℕ) → get_or keys n None ≡ None → All (λ k. k ≢ Some n) keys
  is-new n free = All-from_get_or (λ k. k ≢ Some n) keys None (λ i within e.
      let is : n ≡ i = own i n e in
      cc (sym free ∙ ap (λ p. get_or keys p None) is ∙ e))

  -- one that counts is held
  pub is-held : (n : ℕ) → n < length keys → true ≡ is_counted (map is_some keys) n
      → Contains keys (Some n)
  is-held n within counts = subst (Contains keys) (by (get_or keys n None) refl)
      (Contains-get_or keys n None within) where
        by : (o : Option ℕ) → get_or keys n None ≡ o → get_or keys n None ≡ Some n
        by None e = absurd (cc (counts ∙ counted-at keys n ∙ ap is_some e))
        by (Some k) e = at-key n k e

-- the same of what contracts see
pub counted-set : (keys : List (Option ℕ)) (n : ℕ) (o : Option ℕ)
    → map is_some (set keys n o) ≡ set (map is_some keys) n (is_some o)
counted-set keys n o = map-set is_some keys n o

-- the last of the carriers that a search counts
pub last-same : (f g : ℕ → Bool) → ((n : ℕ) → f n ≡ g n) → (n last : ℕ) → IsLast f n last
    → IsLast g n last
last-same f g same n last l = record {
  upto = l.upto;
  none_after = λ m past upto. sym (same m) ∙ l.none_after m past upto;
  counts = λ some. sym (same last) ∙ l.counts some;
}
