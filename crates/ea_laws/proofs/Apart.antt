-- Contents after a change of one of them.
use Rattle.std.proofs.Common.{◌≡◌, ◌≢◌, ℕ, ◌≤◌, List, [], ◌∷◌, get_or, All, AllPairs, sym, ap, ◌∙◌}
use Rattle.std.proofs.Common.{subst, refl, inl, inr, arith}
use Rattle.std.specs.Prelude.{Option, None, Some, ◌==◌, if◌then◌else◌}
use Rattle.std.proofs.lemmas.Bool.{cases_eq, cond_both}
use Rattle.std.proofs.lemmas.List.Elements.{All-nil, All-cons, All-head, All-tail}
use Rattle.ea_model.specs.Content.{Content}
use Rattle.ea_model.specs.Instance.{changed, content_of}
use Rattle.ea_model.proofs.Pairs.{pairs_map}
use Rattle.ea_model.proofs.Rising.{changed_here, changed_none, changed_past, item_at-each}
use Rattle.ea_model.proofs.Rising.{none-other}
use Rattle.ea_laws.proofs.Changed.{KeepsPlace}
use Rattle.ea_laws.proofs.Tiling.{Tiled-allocated}
use Rattle.ea_laws.specs.Kept.{number_of, ContentsApart, IsLaidOut, IsRising}

-- the content of a number is the only one that has it
pub only-item : (n : ℕ) (item : Content) (cs : List Content) → IsRising cs
    → content_of cs n ≡ Some item → All (λ c. c.number ≡ n → c ≡ item) cs
only-item n item cs rising there = λ i d within e. is_item (get_or cs i d)
    (sym (item_at-each number_of i d cs rising within) ∙ ap (content_of cs) e ∙ there) where
      is_item : (c : Content) → Some c ≡ Some item → c ≡ item
      is_item c e = cc

module _ (P : Content → Type 0) (f : Content → Content) (n : ℕ) where
  with_item : (item : Content) (cs : List Content) → All (λ c. c.number ≡ n → c ≡ item) cs
      → P (f item) → All P cs → All P (changed f n cs)
  with_item item [] one s a = All-nil P
  with_item item (c ∷ cs) one s a =
      let is_item : Content → Type 0 = λ x. x.number ≡ n → x ≡ item in
      let more = with_item item cs (All-tail is_item c cs one) s (All-tail P c cs a) in
      elim (cases_eq c.number n) [
        | inl e ↦ subst (All P) (sym (changed_here number_of f n c cs e))
            (All-cons P (f c) (changed f n cs)
            (subst (λ x. P (f x)) (sym (All-head is_item c cs one e)) s) more)
        | inr o ↦ subst (All P) (sym (changed_past number_of f n c cs o))
            (All-cons P c (changed f n cs) (All-head P c cs a) more)
      ]

  by_item : (o : Option Content) (cs : List Content) → content_of cs n ≡ o → IsRising cs
      → All P cs → ((c : Content) → content_of cs n ≡ Some c → P (f c)) → All P (changed f n cs)
  by_item None cs e rising a keeps = subst (All P)
      (sym (changed_none number_of f n cs (none-other number_of n cs e))) a
  by_item (Some c) cs e rising a keeps =
      with_item c cs (only-item n c cs rising e) (keeps c e) a

  -- what holds of each content, and of the changed one, holds of each one after the change
  pub changed-All : (cs : List Content) → IsRising cs → All P cs
      → ((c : Content) → content_of cs n ≡ Some c → P (f c)) → All P (changed f n cs)
  changed-All cs rising a keeps = by_item (content_of cs n) cs refl rising a keeps

-- the content, changed if it has the number
abbrev pub altered : (Content → Content) → ℕ → Content → Content
altered f n c = if c.number == n then f c else c

module _ (f : Content → Content) (k : KeepsPlace f) (n : ℕ) where
  same_extent : (c : Content) → ((altered f n c).base ≡ c.base) × ((altered f n c).units ≡ c.units)
  same_extent c = cond_both (c.number == n) (f c) c (λ x. (x.base ≡ c.base) × (x.units ≡ c.units))
      (λ _. (k.base c, k.units c)) (λ _. (refl, refl))

  still_apart : (c d : Content) → ContentsApart c d → ContentsApart (altered f n c) (altered f n d)
  still_apart c d away =
      let e = same_extent c in
      let g = same_extent d in
      elim away [
        | inl p ↦ inl (omega (arith, p, e.0, e.1, g.0))
        | inr q ↦ inr (omega (arith, q, e.0, g.0, g.1))
      ]

  -- carriers still lie apart
  pub apart-changed : (cs : List Content) → AllPairs ContentsApart cs
      → AllPairs ContentsApart (changed f n cs)
  apart-changed cs a = pairs_map ContentsApart (altered f n) cs
      (λ i j d lt within. still_apart (get_or cs i d) (get_or cs j d) (a i j d lt within))

-- and so they do where one has fewer units
module _ (f : Content → Content) (base : (c : Content) → (f c).base ≡ c.base) (n : ℕ) where
  same_base : (c : Content) → (altered f n c).base ≡ c.base
  same_base c = cond_both (c.number == n) (f c) c (λ x. x.base ≡ c.base) (λ _. base c) (λ _. refl)

  pub apart-lessened : (cs : List Content) → All (λ c. (altered f n c).units ≤ c.units) cs
      → AllPairs ContentsApart cs → AllPairs ContentsApart (changed f n cs)
  apart-lessened cs less a = pairs_map ContentsApart (altered f n) cs
      (λ i j d lt within. elim (a i j d lt within) [
        | inl p ↦ inl (omega (
          arith,
          p,
          same_base (get_or cs i d),
          same_base (get_or cs j d),
          less i d (omega (arith, lt, within)),
        ))
        | inr q ↦ inr (omega (
          arith,
          q,
          same_base (get_or cs i d),
          same_base (get_or cs j d),
          less j d within,
        ))
      ])

pub turned-apart : (c d : Content) → ContentsApart c d → ContentsApart d c
turned-apart c d away = elim away [ inl p ↦ inr p | inr q ↦ inl q ]

-- carriers that don't meet begin at different pages
pub other-bases : (x : Content) (cs : List Content) → IsLaidOut x → All IsLaidOut cs
    → All (ContentsApart x) cs → All (λ c. c.base ≢ x.base) cs
other-bases x cs sound all apart = λ i d within e. other (get_or cs i d) (all i d within)
    (apart i d within) e where
      other : (c : Content) → IsLaidOut c → ContentsApart x c → c.base ≡ x.base → ⊥
      other c s away e =
          elim away [
            | inl p ↦ omega (arith, Tiled-allocated _ _ _ sound.tiled)
            | inr q ↦ omega
                (arith, Tiled-allocated _ _ _ s.tiled)
          ]
