-- Of each bin the first few gaps by address are inspected.
use Rattle.std.proofs.Common.{zero, suc, ◌≡◌, ◌≢◌, ℕ, ◌+◌, ◌-◌, ◌<◌, ◌≤◌, Bool, true, false, List}
use Rattle.std.proofs.Common.{[]}
use Rattle.std.proofs.Common.{◌∷◌, ◌++◌, length, take, sym, ap, ◌∙◌, append-nil, subst, refl, inl}
use Rattle.std.proofs.Common.{inr}
use Rattle.std.proofs.Common.{arith}
use Rattle.std.proofs.Math.Seq.{take-nil}
use Rattle.std.specs.Prelude.{◌&&◌, ◌==◌, filter, nat_lt, All, AllPairs, Contains}
use Rattle.std.proofs.lemmas.Bool.{cases_Bool, cases_lt, cases_eq}
use Rattle.std.proofs.lemmas.List.{append_assoc, length-append}
use Rattle.std.proofs.lemmas.List.Elements.{All-nil, All-cons, All-head, All-tail, All-push}
use Rattle.std.proofs.lemmas.List.Elements.{All-weaker, All-contains_itself, All-filter}
use Rattle.std.proofs.lemmas.List.Elements.{filter-append}
use Rattle.std.proofs.lemmas.List.Elements.{filter_passes}
use Rattle.ea_model.specs.GoodFit.{bin_of, is_inspected}
use Rattle.ea_model.proofs.Pairs.{pairs_head, pairs_tail}
use Rattle.ea_goodfit.specs.declared.gaps.BinnedGap.{BinnedGap}
use Rattle.ea_goodfit.specs.declared.fits.Fit.TheVariants.{Good}
use Rattle.ea_goodfit.specs.Gaps.{inspected_by, of_bin, IsBelow}
use Rattle.ea_goodfit.proofs.AnyOrder.{filter_here, filter_past, Contains-passing}

pub filter_none : (p : BinnedGap → Bool) (gs : List BinnedGap) → All (λ g. p g ≡ false) gs
    → filter p gs ≡ []
filter_none p [] a = refl
filter_none p (g ∷ gs) a = rw (All-head (λ x. p x ≡ false) g gs a)
    (filter_none p gs (All-tail (λ x. p x ≡ false) g gs a))

filter_same : (p q : BinnedGap → Bool) (gs : List BinnedGap) → All (λ g. p g ≡ q g) gs
    → filter p gs ≡ filter q gs
filter_same p q [] a = refl
filter_same p q (g ∷ gs) a =
    let more = filter_same p q gs (All-tail (λ x. p x ≡ q x) g gs a) in
    let here = All-head (λ x. p x ≡ q x) g gs a in
    rw (here, more) refl

-- whether h is of the bin and lies below the address
abbrev is_ahead : ℕ → ℕ → BinnedGap → Bool
is_ahead b address h = (bin_of h.size == b) && nat_lt h.address address

below : (b : ℕ) (g h : BinnedGap) → IsBelow h g → is_ahead b g.address h ≡ (bin_of h.size == b)
below b g h lt = grind arith

not_below : (b : ℕ) (g h : BinnedGap) → g.address ≤ h.address → is_ahead b g.address h ≡ false
not_below b g h le = grind arith

-- of the gaps, those ahead of g are the ones of its bin that lie before it
ahead_seen : (b : ℕ) (seen : List BinnedGap) (g : BinnedGap) (gs : List BinnedGap)
    → All (λ h. IsBelow h g) seen → All (IsBelow g) gs
    → filter (is_ahead b g.address) (seen ++ g ∷ gs) ≡ of_bin b seen
ahead_seen b seen g gs before after =
    filter-append (is_ahead b g.address) seen (g ∷ gs)
    ∙ ap (λ xs. filter (is_ahead b g.address) seen ++ xs)
    (filter_none (is_ahead b g.address) (g ∷ gs)
    (All-cons (λ h. is_ahead b g.address h ≡ false) g gs (not_below b g g (omega arith))
    (All-weaker (IsBelow g) (λ h. is_ahead b g.address h ≡ false)
    (λ h lt. not_below b g h (omega arith)) gs after)))
    ∙ append-nil (filter (is_ahead b g.address) seen)
    ∙ filter_same (is_ahead b g.address) (λ h. bin_of h.size == b) seen
    (All-weaker (λ h. IsBelow h g) (λ h. is_ahead b g.address h ≡ (bin_of h.size == b))
    (λ h lt. below b g h lt) seen before)

inspects : ℕ → List BinnedGap → BinnedGap → Bool
inspects depth gs g = is_inspected (λ h. h.address) (λ h. h.size) depth gs g

-- a gap is inspected exactly where less than `depth` of its bin lie before it
inspected_is : (depth : ℕ) (seen : List BinnedGap) (g : BinnedGap) (gs : List BinnedGap)
    → All (λ h. IsBelow h g) seen → All (IsBelow g) gs
    → inspects depth (seen ++ g ∷ gs) g ≡ nat_lt (length (of_bin (bin_of g.size) seen)) depth
unfolding inspects
inspected_is depth seen g gs before after = ap (λ hs. nat_lt (length hs) depth)
    (ahead_seen (bin_of g.size) seen g gs before after)

pub bin_here : (b : ℕ) (g : BinnedGap) → bin_of g.size ≡ b → (bin_of g.size == b) ≡ true
bin_here b g e = grind arith

pub bin_past : (b : ℕ) (g : BinnedGap) → bin_of g.size ≢ b → (bin_of g.size == b) ≡ false
bin_past b g n = grind arith

pub of_bin-here : (b : ℕ) (g : BinnedGap) (gs : List BinnedGap) → bin_of g.size ≡ b
    → of_bin b (g ∷ gs) ≡ g ∷ of_bin b gs
of_bin-here b g gs e = filter_here (λ x. bin_of x.size == b) g gs (bin_here b g e)

pub of_bin-past : (b : ℕ) (g : BinnedGap) (gs : List BinnedGap) → bin_of g.size ≢ b
    → of_bin b (g ∷ gs) ≡ of_bin b gs
of_bin-past b g gs n = filter_past (λ x. bin_of x.size == b) g gs (bin_past b g n)

of_bin_more : (b : ℕ) (seen : List BinnedGap) (g : BinnedGap)
    → length (of_bin b (seen ++ g ∷ [])) ≡ length (of_bin b seen) + length (of_bin b (g ∷ []))
of_bin_more b seen g = ap length (filter-append (λ h. bin_of h.size == b) seen (g ∷ []))
    ∙ length-append (of_bin b seen) (of_bin b (g ∷ []))

one_more : (b : ℕ) (seen : List BinnedGap) (g : BinnedGap) → bin_of g.size ≡ b
    → length (of_bin b (seen ++ g ∷ [])) ≡ length (of_bin b seen) + 1
one_more b seen g e = omega
    (arith, of_bin_more b seen g, ap length (of_bin-here b g [] e))

none_more : (b : ℕ) (seen : List BinnedGap) (g : BinnedGap) → bin_of g.size ≢ b
    → length (of_bin b (seen ++ g ∷ [])) ≡ length (of_bin b seen)
none_more b seen g n = omega
    (arith, of_bin_more b seen g, ap length (of_bin-past b g [] n))

-- the gaps seen lie below one more
seen_more : (seen : List BinnedGap) (g : BinnedGap) (gs : List BinnedGap)
    → All (λ h. All (IsBelow h) (g ∷ gs)) seen → All (IsBelow g) gs
    → All (λ h. All (IsBelow h) gs) (seen ++ g ∷ [])
seen_more seen g gs before after = All-push (λ h. All (IsBelow h) gs) seen g
    (All-weaker (λ h. All (IsBelow h) (g ∷ gs)) (λ h. All (IsBelow h) gs)
    (λ h a. All-tail (IsBelow h) g gs a) seen before) after

pub take_none : (n : ℕ) (gs : List BinnedGap) → n ≡ 0 → take n gs ≡ []
take_none n gs e = rw e refl

pub take_one : (n m : ℕ) (g : BinnedGap) (gs : List BinnedGap) → n ≡ suc m
    → take n (g ∷ gs) ≡ g ∷ take m gs
take_one n m g gs e = rw e refl

lt_is : (n depth : ℕ) → n < depth → nat_lt n depth ≡ true
lt_is n depth lt = grind arith

le_not : (n depth : ℕ) → depth ≤ n → nat_lt n depth ≡ false
le_not n depth le = grind arith

-- a gap of another bin is no matter
passed_by : (b : ℕ) (p : BinnedGap → Bool) (g : BinnedGap) (gs : List BinnedGap)
    → bin_of g.size ≢ b → of_bin b (filter p (g ∷ gs)) ≡ of_bin b (filter p gs)
passed_by b p g gs n =
    elim (cases_Bool (p g)) [
      | inl t ↦ ap (of_bin b) (filter_here p g gs t) ∙ of_bin-past b g (filter p gs) n
      | inr f ↦ ap (of_bin b) (filter_past p g gs f)
    ]

taken : (depth b : ℕ) (all seen gs : List BinnedGap) → all ≡ seen ++ gs
    → All (λ h. All (IsBelow h) gs) seen → AllPairs IsBelow gs
    → of_bin b (filter (inspects depth all) gs) ≡ take (depth - length (of_bin b seen))
    (of_bin b gs)
taken depth b all seen [] e before rise = sym (take-nil (depth - length (of_bin b seen)))
taken depth b all seen (g ∷ gs) e before rise =
    let after = pairs_head IsBelow g gs rise in
    let split : all ≡ (seen ++ g ∷ []) ++ gs = e ∙ sym (append_assoc seen (g ∷ []) gs) in
    let more = taken depth b all (seen ++ g ∷ []) gs split (seen_more seen g gs before after)
    (pairs_tail IsBelow g gs rise) in
    let n = length (of_bin b seen) in
    elim (cases_eq (bin_of g.size) b) [
      | inl here ↦
          let is : inspects depth all g ≡ nat_lt n depth = ap (λ xs. inspects depth xs g) e
          ∙ inspected_is depth seen g gs
          (All-weaker (λ h. All (IsBelow h) (g ∷ gs)) (λ h. IsBelow h g)
          (λ h a. All-head (IsBelow h) g gs a) seen before) after
          ∙ ap (λ k. nat_lt (length (of_bin k seen)) depth) here in
          let one = one_more b seen g here in
          elim (cases_lt n depth) [
            | inl lt ↦
                ap (of_bin b) (filter_here (inspects depth all) g gs (is ∙ lt_is n depth lt))
                ∙ of_bin-here b g (filter (inspects depth all) gs) here
                ∙ ap (λ xs. g ∷ xs) more
                ∙ sym (take_one (depth - n) (depth - length (of_bin b (seen ++ g ∷ []))) g
                (of_bin b gs) (omega (arith, one)))
                ∙ ap (take (depth - n)) (sym (of_bin-here b g gs here))
            | inr le ↦
                ap (of_bin b) (filter_past (inspects depth all) g gs (is ∙ le_not n depth le))
                ∙ more
                ∙ take_none (depth - length (of_bin b (seen ++ g ∷ []))) (of_bin b gs)
                (omega (arith, one))
                ∙ sym (take_none (depth - n) (of_bin b (g ∷ gs)) (omega arith))
          ]
      | inr past ↦
          passed_by b (inspects depth all) g gs past ∙ more
          ∙ ap (λ k. take (depth - k) (of_bin b gs)) (none_more b seen g past)
          ∙ ap (take (depth - n)) (sym (of_bin-past b g gs past))
    ]

-- those inspected of a bin are its first `depth` gaps
pub inspected-bin : (depth b : ℕ) (gs : List BinnedGap) → AllPairs IsBelow gs
    → of_bin b (inspected_by Good depth gs) ≡ take depth (of_bin b gs)
unfolding inspects
inspected-bin depth b gs rise =
    taken depth b gs [] gs refl (All-nil (λ (h : BinnedGap). All (IsBelow h) gs)) rise
    ∙ ap (λ n. take n (of_bin b gs)) (all_left depth) where
      all_left : (depth : ℕ) → depth - 0 ≡ depth
      all_left depth = omega arith

-- where none of a bin is inspected, nothing is
pub inspected-none : (gs : List BinnedGap) → inspected_by Good 0 gs ≡ []
unfolding inspects
inspected-none gs = filter_none (inspects 0 gs) gs
    (All-weaker (Contains gs) (λ g. inspects 0 gs g ≡ false) (λ g c. grind arith) gs
    (All-contains_itself gs))

pub first_of : (depth : ℕ) (g : BinnedGap) (gs : List BinnedGap) → 1 ≤ depth → Contains gs g
    → (h : BinnedGap) × (hs : List BinnedGap) × (take depth gs ≡ h ∷ hs)
first_of zero g gs one c = absurd (omega arith)
first_of (suc depth) g [] one c = absurd (omega (arith, c.1))
first_of (suc depth) g (h ∷ gs) one c = (h, take depth gs, refl)

pub is_bin : (b : ℕ) (g : BinnedGap) → (bin_of g.size == b) ≡ true → bin_of g.size ≡ b
is_bin b g t = grind arith

-- what holds of the bins of some gaps holds of the bin that one of them is of
bin_among : (Q : ℕ → Type 0) (b : ℕ) (gs : List BinnedGap) (g : BinnedGap) (hs : List BinnedGap)
    → All (λ h. Q (bin_of h.size)) gs → of_bin b gs ≡ g ∷ hs → Q b
bin_among Q b gs g hs a e =
    let among : All (λ h. Q (bin_of h.size)) (g ∷ hs) = subst (All (λ h. Q (bin_of h.size))) e
    (All-filter (λ h. bin_of h.size == b) (λ h. Q (bin_of h.size)) gs a) in
    let passes : All (λ h. (bin_of h.size == b) ≡ true) (g ∷ hs) =
    subst (All (λ h. (bin_of h.size == b) ≡ true)) e (filter_passes (λ h. bin_of h.size == b) gs) in
    subst Q (is_bin b g (All-head (λ h. (bin_of h.size == b) ≡ true) g hs passes))
    (All-head (λ (h : BinnedGap). Q (bin_of h.size)) g hs among)

-- a search that inspects at least one gap of each bin inspects one of the bin of each gap
pub bins-inspected : (Q : ℕ → Type 0) (depth : ℕ) → 1 ≤ depth → (gs : List BinnedGap)
    → AllPairs IsBelow gs → All (λ h. Q (bin_of h.size)) (inspected_by Good depth gs)
    → All (λ h. Q (bin_of h.size)) gs
bins-inspected Q depth one gs rise a =
    All-weaker (Contains gs) (λ (h : BinnedGap). Q (bin_of h.size))
    (λ g c.
    let b = bin_of g.size in
    let here = first_of depth g (of_bin b gs) one
    (Contains-passing (λ h. bin_of h.size == b) gs g c (bin_here b g refl)) in
    bin_among Q b (inspected_by Good depth gs) here.0 here.1 a
    (inspected-bin depth b gs rise ∙ here.2)) gs (All-contains_itself gs)
