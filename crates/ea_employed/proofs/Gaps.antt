-- The gaps of all carriers, as the bins hold them, after a change.
use Rattle.std.proofs.Common.{◌≡◌, ℕ, ◌+◌, ◌*◌, ◌-◌, ◌<◌, true, List, [], ◌∷◌, ◌++◌, map}
use Rattle.std.proofs.Common.{append_assoc, append-nil, sym, ap, ◌∙◌, subst, refl, inl, inr, arith}
use Rattle.std.specs.Prelude.{Some}
use Rattle.std.specs.List.Sorted.{IsPermutation}
use Rattle.std.proofs.lemmas.Bool.{cases_eq, cases_lt}
use Rattle.std.proofs.lemmas.List.{map-append}
use Rattle.std.proofs.lemmas.List.Sorted.{IsPermutation-refl, IsPermutation-trans}
use Rattle.std.proofs.lemmas.List.Sorted.{IsPermutation-append_comm, IsPermutation-append_left}
use Rattle.std.proofs.lemmas.List.Sorted.{IsPermutation-append_right}
use Rattle.ea_model.specs.declared.carriers.Kind.{Kind}
use Rattle.ea_model.specs.declared.carriers.Kind.TheVariants.{Main, Multi, Single}
use Rattle.ea_model.specs.declared.carriers.Gap as model
use Rattle.ea_model.specs.Content.{Content, gap, gaps, gaps_of, largest}
use Rattle.ea_model.specs.Strategies.{candidate, candidates, candidates_in}
use Rattle.ea_model.specs.Instance.{changed, content_of, with_content, without_content}
use Rattle.ea_laws.proofs.Chosen.{gap_none, gap_some}
use Rattle.ea_goodfit.specs.declared.gaps.BinnedGap.{BinnedGap}
use Rattle.ea_laws.specs.Kept.{number_of, IsRising}
use Rattle.ea_laws.specs.Kinds.{is_shared}
use Rattle.ea_goodfit.specs.Gaps.{gap_from}
use Rattle.ea_employed.specs.Listed.{all_gaps, gap_of}
use Rattle.ea_model.specs.Keyed.{IsBelow}
use Rattle.ea_model.proofs.Pairs.{pairs_tail}
use Rattle.ea_model.proofs.Rising.{changed_here, changed_none, changed_past}
use Rattle.ea_model.proofs.Rising.{entered_here, entered_past, item_here, item_past}
use Rattle.ea_model.proofs.Rising.{others, without_here, without_none, without_past}

-- the gap of a carrier with this base, as the bins know it
abbrev pub at_base : ℕ → model.Gap → BinnedGap
at_base base g = record { address = 512 * base + g.offset; size = g.size }

-- the gaps of one carrier, as the bins know them
abbrev pub own_gaps : Content → List BinnedGap
own_gaps c = map gap_of (candidates_in c.kind c)

pub own_and_more : (c : Content) (cs : List Content) → all_gaps (c ∷ cs) ≡ own_gaps c ++ all_gaps cs
own_and_more c cs = map-append gap_of (candidates_in c.kind c) (candidates cs)

own_only : (c : Content) → all_gaps (c ∷ []) ≡ own_gaps c
own_only c = ap (map gap_of) (append-nil (candidates_in c.kind c))

own_mapped : (c : Content) (gs : List model.Gap)
    → map gap_of (map (candidate c) gs) ≡ map (at_base c.base) gs
own_mapped c [] = refl
own_mapped c (g ∷ gs) = ap (λ l. at_base c.base g ∷ l) (own_mapped c gs)

own_by_kind : (k : Kind) (c : Content) → is_shared k ≡ true
    → map gap_of (candidates_in k c) ≡ map (at_base c.base) (gaps_of c)
own_by_kind Main c h = own_mapped c (gaps_of c)
own_by_kind Multi c h = own_mapped c (gaps_of c)
own_by_kind Single c h = absurd cc

pub own_shared : (c : Content) → is_shared c.kind ≡ true
    → own_gaps c ≡ map (at_base c.base) (gaps_of c)
own_shared c h = own_by_kind c.kind c h

pub gap_from-some : (address size : ℕ) → 0 < size
    → gap_from address size ≡ record { address = address; size = size } ∷ []
gap_from-some address size some = grind arith

gap_from-none : (address size : ℕ) → size ≡ 0 → gap_from address size ≡ []
gap_from-none address size none = grind arith

-- a run of free units, as the bins hold it
pub at_gap : (base a b : ℕ) → map (at_base base) (gap a b) ≡ gap_from (512 * base + a) (b - a)
at_gap base a b =
    elim (cases_lt a b) [
      | inl lt ↦ ap (map (at_base base)) (gap_some a b lt)
          ∙ sym (gap_from-some (512 * base + a) (b - a) (omega arith))
      | inr le ↦ ap (map (at_base base)) (gap_none a b le)
          ∙ sym (gap_from-none (512 * base + a) (b - a) (omega arith))
    ]

pub largest_gap : (a b : ℕ) → largest (gap a b) ≡ b - a
largest_gap a b = elim (cases_lt a b) [
  | inl lt ↦ ap largest (gap_some a b lt)
      ∙ omega arith
  | inr le ↦ ap largest (gap_none a b le) ∙ omega arith
]

-- a carrier of many blocks without any has one gap at most, behind its header
pub empty_gaps : (c : Content) → is_shared c.kind ≡ true → c.blocks ≡ []
    → all_gaps (c ∷ []) ≡ gap_from (512 * c.base + 8) (largest (gaps_of c))
empty_gaps c shared none =
    let one : gaps_of c ≡ gap 8 c.units = ap (gaps 8 c.units) none in
    own_only c ∙ own_shared c shared ∙ ap (map (at_base c.base)) one ∙ at_gap c.base 8 c.units
    ∙ ap (gap_from (512 * c.base + 8)) (sym (ap largest one ∙ largest_gap 8 c.units))

module _ {A : Type 0} where
  as_listed : (xs ys : List A) → xs ≡ ys → IsPermutation xs ys
  as_listed xs ys e = subst (IsPermutation xs) e (IsPermutation-refl xs)

  -- the second of three parts comes to the front
  swapped : (xs ys zs : List A) → IsPermutation (xs ++ (ys ++ zs)) (ys ++ (xs ++ zs))
  swapped xs ys zs =
      subst (λ l. IsPermutation l (ys ++ (xs ++ zs))) (append_assoc xs ys zs)
      (subst (IsPermutation ((xs ++ ys) ++ zs)) (append_assoc ys xs zs)
      (IsPermutation-append_left zs (xs ++ ys) (ys ++ xs) (IsPermutation-append_comm xs ys)))

  -- what is at the front of the rest is at the front of all
  fronted : (xs ls ys rest : List A) → IsPermutation ls (ys ++ rest)
      → IsPermutation (xs ++ ls) (ys ++ (xs ++ rest))
  fronted xs ls ys rest h = IsPermutation-trans (xs ++ ls) (xs ++ (ys ++ rest)) (ys ++ (xs ++ rest))
      (IsPermutation-append_right xs ls (ys ++ rest) h) (swapped xs ys rest)

with_own : (x : Content) (cs : List Content)
    → IsPermutation (all_gaps (with_content x cs)) (own_gaps x ++ all_gaps cs)
with_own x [] = as_listed (all_gaps (x ∷ [])) (own_gaps x ++ []) (own_and_more x [])
with_own x (c ∷ cs) =
    elim (cases_lt x.number c.number) [
      | inl lt ↦ as_listed (all_gaps (with_content x (c ∷ cs))) (own_gaps x ++ all_gaps (c ∷ cs))
          (ap all_gaps (entered_here number_of x c cs lt) ∙ own_and_more x (c ∷ cs))
      | inr le ↦
          subst (λ l. IsPermutation l (own_gaps x ++ all_gaps (c ∷ cs)))
          (sym (ap all_gaps (entered_past number_of x c cs le)
          ∙ own_and_more c (with_content x cs)))
          (subst (λ l. IsPermutation (own_gaps c ++ all_gaps (with_content x cs)) (own_gaps x ++ l))
          (sym (own_and_more c cs))
          (fronted (own_gaps c) (all_gaps (with_content x cs)) (own_gaps x) (all_gaps cs)
          (with_own x cs)))
    ]

-- with one carrier more its gaps are more
pub gaps-with : (x : Content) (cs : List Content)
    → IsPermutation (all_gaps (with_content x cs)) (all_gaps (x ∷ []) ++ all_gaps cs)
gaps-with x cs = subst (λ l. IsPermutation (all_gaps (with_content x cs)) (l ++ all_gaps cs))
    (sym (own_only x)) (with_own x cs)

-- what is found of a first content with the number is that content
pub found_here : (n : ℕ) (x c : Content) (xs : List Content) → x.number ≡ n
    → content_of (x ∷ xs) n ≡ Some c → x ≡ c
found_here n x c xs e h = let same : Some x ≡ Some c = sym (item_here number_of n x xs e) ∙ h in cc

without_own : (n : ℕ) (c : Content) (cs : List Content) → IsRising cs → content_of cs n ≡ Some c
    → IsPermutation (all_gaps cs) (own_gaps c ++ all_gaps (without_content n cs))
without_own n c [] r h = absurd cc
without_own n c (x ∷ xs) r h =
    elim (cases_eq x.number n) [
      | inl e ↦
          let gone : without_content n (x ∷ xs) ≡ xs = without_here number_of n x xs e
          ∙ without_none number_of n xs (others number_of n x xs r e) in
          as_listed (all_gaps (x ∷ xs)) (own_gaps c ++ all_gaps (without_content n (x ∷ xs)))
          (own_and_more x xs ∙ ap (λ y. own_gaps y ++ all_gaps xs) (found_here n x c xs e h)
          ∙ ap (λ l. own_gaps c ++ all_gaps l) (sym gone))
      | inr o ↦
          let there : content_of xs n ≡ Some c = sym (item_past number_of n x xs o) ∙ h in
          let stays : all_gaps (without_content n (x ∷ xs)) ≡ own_gaps x ++ all_gaps
          (without_content n xs) = ap all_gaps (without_past number_of n x xs o)
          ∙ own_and_more x (without_content n xs) in
          subst (λ l. IsPermutation l (own_gaps c ++ all_gaps (without_content n (x ∷ xs))))
          (sym (own_and_more x xs))
          (subst (λ l. IsPermutation (own_gaps x ++ all_gaps xs) (own_gaps c ++ l)) (sym stays)
          (fronted (own_gaps x) (all_gaps xs) (own_gaps c) (all_gaps (without_content n xs))
          (without_own n c xs (pairs_tail (IsBelow number_of) x xs r) there)))
    ]

-- with one carrier less its gaps are less
pub gaps-without : (n : ℕ) (c : Content) (cs : List Content) → IsRising cs
    → content_of cs n ≡ Some c
    → IsPermutation (all_gaps cs) (all_gaps (c ∷ []) ++ all_gaps (without_content n cs))
gaps-without n c cs r h = subst
    (λ l. IsPermutation (all_gaps cs) (l ++ all_gaps (without_content n cs))) (sym (own_only c))
    (without_own n c cs r h)

-- the gaps of a carrier in three parts, and more gaps: the second part comes to the front
parted : (base : ℕ) (front mid behind : List model.Gap) (more : List BinnedGap)
    → IsPermutation (map (at_base base) (front ++ mid ++ behind) ++ more)
    (map (at_base base) mid ++ ((map (at_base base) front ++ map (at_base base) behind) ++ more))
parted base front mid behind more =
    let parts : map (at_base base) (front ++ mid ++ behind) ≡ map (at_base base) front ++
    (map (at_base base) mid ++ map (at_base base) behind) =
    ap (map (at_base base)) (append_assoc front mid behind)
    ∙ map-append (at_base base) front (mid ++ behind)
    ∙ ap (λ l. map (at_base base) front ++ l) (map-append (at_base base) mid behind) in
    subst (IsPermutation (map (at_base base) (front ++ mid ++ behind) ++ more))
    (append_assoc (map (at_base base) mid)
    (map (at_base base) front ++ map (at_base base) behind) more)
    (IsPermutation-append_left more (map (at_base base) (front ++ mid ++ behind))
    (map (at_base base) mid ++ (map (at_base base) front ++ map (at_base base) behind))
    (subst (λ l. IsPermutation l
    (map (at_base base) mid ++ (map (at_base base) front ++ map (at_base base) behind)))
    (sym parts)
    (swapped (map (at_base base) front) (map (at_base base) mid) (map (at_base base) behind))))

module _ (f : Content → Content) (item : Content) (base_is : (f item).base ≡ item.base)
    (kind_is : (f item).kind ≡ item.kind) (shared : is_shared item.kind ≡ true)
    (gone made front behind : List model.Gap) (before : gaps_of item ≡ front ++ gone ++ behind)
    (after : gaps_of (f item) ≡ front ++ made ++ behind) where
  -- both lists of gaps are the rest and the part that changes
  abbrev Replaced : List BinnedGap → List BinnedGap → Type 0
  Replaced old new = (rest : List BinnedGap)
      × IsPermutation old (map (at_base item.base) gone ++ rest)
      × IsPermutation new (map (at_base item.base) made ++ rest)

  replaced_here : (x : Content) (xs : List Content) → x ≡ item
      → Replaced (all_gaps (x ∷ xs)) (all_gaps (f x ∷ xs))
  replaced_here x xs e =
      let old : all_gaps (x ∷ xs) ≡ map (at_base item.base) (front ++ gone ++ behind) ++ all_gaps
      xs =
      own_and_more x xs ∙ ap (λ y. own_gaps y ++ all_gaps xs) e
      ∙ ap (λ l. l ++ all_gaps xs) (own_shared item shared
      ∙ ap (map (at_base item.base)) before) in
      let new : all_gaps (f x ∷ xs) ≡ map (at_base item.base) (front ++ made ++ behind) ++ all_gaps
      xs =
      own_and_more (f x) xs ∙ ap (λ y. own_gaps (f y) ++ all_gaps xs) e
      ∙ ap (λ l. l ++ all_gaps xs) (own_shared (f item) (ap is_shared kind_is ∙ shared)
      ∙ ap (λ b. map (at_base b) (gaps_of (f item))) base_is
      ∙ ap (map (at_base item.base)) after) in
      let rest : List BinnedGap = (map (at_base item.base) front ++ map (at_base item.base) behind)
      ++ all_gaps xs in (
        rest,
        subst (λ l. IsPermutation l (map (at_base item.base) gone ++ rest)) (sym old)
            (parted item.base front gone behind (all_gaps xs)),
        subst (λ l. IsPermutation l (map (at_base item.base) made ++ rest)) (sym new)
            (parted item.base front made behind (all_gaps xs)),
      )

  replaced_more : (c : Content) (xs ys : List Content) → Replaced (all_gaps xs) (all_gaps ys)
      → Replaced (all_gaps (c ∷ xs)) (all_gaps (c ∷ ys))
  replaced_more c xs ys h = (
    own_gaps c ++ h.0,
    subst (λ l. IsPermutation l (map (at_base item.base) gone ++ (own_gaps c ++ h.0)))
        (sym (own_and_more c xs))
        (fronted (own_gaps c) (all_gaps xs) (map (at_base item.base) gone) h.0 h.1),
    subst (λ l. IsPermutation l (map (at_base item.base) made ++ (own_gaps c ++ h.0)))
        (sym (own_and_more c ys))
        (fronted (own_gaps c) (all_gaps ys) (map (at_base item.base) made) h.0 h.2),
  )

  replaced_in : (n : ℕ) (cs : List Content) → IsRising cs → content_of cs n ≡ Some item
      → Replaced (all_gaps cs) (all_gaps (changed f n cs))
  replaced_in n [] r there = absurd cc
  replaced_in n (x ∷ xs) r there =
      elim (cases_eq x.number n) [
        | inl e ↦
            let only : changed f n (x ∷ xs) ≡ f x ∷ xs = changed_here number_of f n x xs e
            ∙ ap (λ l. f x ∷ l) (changed_none number_of f n xs (others number_of n x xs r e)) in
            subst (λ l. Replaced (all_gaps (x ∷ xs)) (all_gaps l)) (sym only)
            (replaced_here x xs (found_here n x item xs e there))
        | inr o ↦
            subst (λ l. Replaced (all_gaps (x ∷ xs)) (all_gaps l))
            (sym (changed_past number_of f n x xs o))
            (replaced_more x xs (changed f n xs)
            (replaced_in n xs (pairs_tail (IsBelow number_of) x xs r)
            (sym (item_past number_of n x xs o) ∙ there)))
      ]

-- where the gaps of one carrier change, all gaps change alike
pub gaps-replaced : (f : Content → Content) (n : ℕ) (item : Content) (cs : List Content)
    → IsRising cs → content_of cs n ≡ Some item → ((f item).number ≡ item.number)
    → ((f item).base ≡ item.base) → ((f item).kind ≡ item.kind) → is_shared item.kind ≡ true
    → (gone made front behind : List model.Gap) → gaps_of item ≡ front ++ gone ++ behind
    → gaps_of (f item) ≡ front ++ made ++ behind
    → (rest : List BinnedGap) × IsPermutation (all_gaps cs) (map (at_base item.base) gone ++ rest)
    × IsPermutation (all_gaps (changed f n cs)) (map (at_base item.base) made ++ rest)
gaps-replaced f n item cs r there number base kind shared gone made front behind before after =
    replaced_in f item base kind shared gone made front behind before after n cs r there
