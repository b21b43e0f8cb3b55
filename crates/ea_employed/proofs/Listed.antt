-- The set of the carriers, after a change.
use Rattle.std.proofs.Common.{◌≡◌, ◌≤◌, ◌≢◌, ℕ, true, false, List, [], ◌∷◌, map, All}
use Rattle.std.proofs.Common.{AllPairs, sym, ap, ◌∙◌, subst, refl, inl, inr, arith}
use Rattle.std.proofs.Common.{suc, Bool}
use Rattle.std.specs.Prelude.{Option, None, Some, is_some, sum_by}
use Rattle.std.specs.Prelude.{◌+◌, ◌*◌, ◌==◌}
use Rattle.std.proofs.lemmas.Bool.{cases_eq}
use Rattle.std.proofs.lemmas.List.Elements.{All-head, All-tail}
use Rattle.ea_model.specs.declared.units.TheConstants.{MAX_SCHEDULERS, NUMBERS}
use Rattle.ea_model.specs.Content.{Content, gaps_of, largest}
use Rattle.ea_model.specs.Instance.{changed, content_of}
use Rattle.ea_model.specs.Instance.{with_content, without_content}
use Rattle.ea_cset.specs.declared.keys.CarrierKey.{CarrierKey}
use Rattle.ea_cset.specs.Carriers.{Carriers, refitted, with_fit, number_of as set_number}
use Rattle.ea_model.specs.Keyed.{entered, without}
use Rattle.ea_model.proofs.Rising.{changed_here, changed_past}
use Rattle.ea_model.proofs.Rising.{entered-map, without-map}
use Rattle.std.specs.List.Sorted.{IsPermutation}
use Rattle.std.proofs.lemmas.Map.Keys.{IsDistinct-IsPermutation}
use Rattle.std.proofs.lemmas.Map.Keys.{IsDistinct-from_apart, apart_from_distinct}
use Rattle.ea_model.specs.declared.settings.Strategy.{Strategy}
use Rattle.ea_goodfit.specs.declared.gaps.BinnedGap.{BinnedGap}
use Rattle.ea_goodfit.specs.Gaps.{HeldGaps}
use Rattle.ea_laws.specs.Kept.{number_of, IsRising}
use Rattle.ea_employed.specs.Binned.{fit_in, has_bins, HavePlaces, Hold}
use Rattle.ea_employed.specs.Listed.{all_gaps, held_of, IsListed}
use Rattle.ea_laws.proofs.Changed.{KeepsPlace}
use Rattle.ea_laws.proofs.Apart.{only-item}
use Rattle.ea_employed.proofs.Counting.{sum-changed, sum-entered, sum-without, units_in}

module _ (f : Content → Content) (k : KeepsPlace f) (n : ℕ) (item : Content) where
  -- the carrier with another fit is the changed carrier
  held_changed : (c : Content) → c.number ≡ n → c ≡ item
      → with_fit n (largest (gaps_of (f item))) (held_of c) ≡ held_of (f c)
  held_changed c e same = let number = k.number c in let base = k.base c in let birth =
      k.birth c in grind arith

  held_other : (c : Content) (fit : ℕ) → c.number ≢ n → with_fit n fit (held_of c) ≡ held_of c
  held_other c fit o = grind arith

  held-changed : (cs : List Content) → All (λ c. c.number ≡ n → c ≡ item) cs
      → refitted n (largest (gaps_of (f item))) (map held_of cs) ≡ map held_of (changed f n cs)
  held-changed [] one = refl
  held-changed (c ∷ cs) one =
      let is_item : Content → Type 0 = λ x. x.number ≡ n → x ≡ item in
      let more = held-changed cs (All-tail is_item c cs one) in
      elim (cases_eq c.number n) [
        | inl e ↦ ap (λ h. h ∷ refitted n (largest (gaps_of (f item))) (map held_of cs))
            (held_changed c e (All-head is_item c cs one e)) ∙ ap (λ hs. held_of (f c) ∷ hs) more
            ∙ sym (ap (map held_of) (changed_here number_of f n c cs e))
        | inr o ↦ ap (λ h. h ∷ refitted n (largest (gaps_of (f item))) (map held_of cs))
            (held_other c (largest (gaps_of (f item))) o) ∙ ap (λ hs. held_of c ∷ hs) more
            ∙ sym (ap (map held_of) (changed_past number_of f n c cs o))
      ]

  -- the list, the set and the bins with a changed carrier
  pub IsListed-changed : (s : Strategy) (units : ℕ) (cs new : List Content) (fit : ℕ)
      (set after : Carriers) (bins left : Option HeldGaps) → content_of cs n ≡ Some item
      → IsRising cs → IsListed s units cs set bins → new ≡ changed f n cs
      → fit ≡ largest (gaps_of (f item))
      → after ≡ record set { held = refitted n fit set.held } → fit_in left ≡ fit_in bins
      → ((n : ℕ) → HavePlaces n bins → HavePlaces n left) → Hold left (all_gaps new)
      → IsListed s units new after left
  IsListed-changed s units cs new fit set after bins left there rising l is fits e same kept gaps =
      record {
        order = ap (λ (x : Carriers). x.order) e ∙ l.order;
        held =
            ap (λ (x : Carriers). x.held) e ∙ ap (refitted n fit) l.held
            ∙ ap (λ m. refitted n m (map held_of cs)) fits
            ∙ held-changed cs (only-item n item cs rising there) ∙ sym (ap (map held_of) is);
        room = subst (λ (x : Carriers). NUMBERS * MAX_SCHEDULERS ≤ x.room) (sym e) l.room;
        fit = same ∙ l.fit;
        gaps = gaps;
        places = kept units l.places;
        few = λ yes. omega (
          arith,
          l.few yes,
          ap (sum_by units_in) is,
          sum-changed number_of n item units_in f cs rising there,
          k.units item,
        );
      }

-- with one carrier more
pub IsListed-entered : (s : Strategy) (units : ℕ) (cs new : List Content) (x : Content)
    (key : CarrierKey) (fit : ℕ) (set after : Carriers) (bins left : Option HeldGaps)
    → IsListed s units cs set bins
    → (has_bins s ≡ true → sum_by (λ c. c.units) cs + x.units ≤ units)
    → new ≡ with_content x cs → key ≡ (held_of x).key → fit ≡ largest (gaps_of x)
    → after ≡ record set { held = entered set_number (record { key = key; fit = fit }) set.held }
    → fit_in left ≡ fit_in bins → ((n : ℕ) → HavePlaces n bins → HavePlaces n left)
    → Hold left (all_gaps new) → IsListed s units new after left
IsListed-entered s units cs new x key fit set after bins left l few is keyed fits e same kept gaps =
    record {
      order = ap (λ (c : Carriers). c.order) e ∙ l.order;
      held =
          ap (λ (c : Carriers). c.held) e
          ∙ ap (entered set_number (record { key = key; fit = fit })) l.held
          ∙ ap (λ j. entered set_number (record { key = j; fit = fit }) (map held_of cs)) keyed
          ∙ ap (λ m. entered set_number (record { key = (held_of x).key; fit = m })
          (map held_of cs)) fits
          ∙ entered-map set_number held_of x cs ∙ sym (ap (map held_of) is);
      room = subst (λ (c : Carriers). NUMBERS * MAX_SCHEDULERS ≤ c.room) (sym e) l.room;
      fit = same ∙ l.fit;
      gaps = gaps;
      places = kept units l.places;
      few = λ yes. omega (arith, few yes, ap (sum_by units_in) is, sum-entered units_in x cs);
    }

-- with one carrier less
pub IsListed-left : (s : Strategy) (units : ℕ) (cs new : List Content) (n : ℕ) (x : Content)
    (set after : Carriers) (bins left : Option HeldGaps) → content_of cs n ≡ Some x
    → IsRising cs → IsListed s units cs set bins → new ≡ without_content n cs
    → after ≡ record set { held = without set_number n set.held } → fit_in left ≡ fit_in bins
    → ((n : ℕ) → HavePlaces n bins → HavePlaces n left) → Hold left (all_gaps new)
    → IsListed s units new after left
IsListed-left s units cs new n x set after bins left there rising l is e same kept gaps = record {
  order = ap (λ (c : Carriers). c.order) e ∙ l.order;
  held =
      ap (λ (c : Carriers). c.held) e ∙ ap (without set_number n) l.held
      ∙ without-map set_number held_of n cs ∙ sym (ap (map held_of) is);
  room = subst (λ (c : Carriers). NUMBERS * MAX_SCHEDULERS ≤ c.room) (sym e) l.room;
  fit = same ∙ l.fit;
  gaps = gaps;
  places = kept units l.places;
  few = λ yes. omega (
    arith,
    l.few yes,
    ap (sum_by units_in) is,
    sum-without number_of n x units_in cs rising there,
  );
}

-- where the strategy has no bins there are none
pub no_bins-Hold : (s : Strategy) (units : ℕ) (cs : List Content) (set : Carriers)
    (bins : Option HeldGaps) → IsListed s units cs set bins → has_bins s ≡ false
    → (gs : List BinnedGap) → Hold bins gs
no_bins-Hold s units cs set None l none gs = tt
no_bins-Hold s units cs set (Some b) l none gs =
    absurd (let has : has_bins s ≡ true = ap is_some (sym l.fit) in cc)

-- gaps at different addresses stay so in another order
abbrev pub DifferIn : List BinnedGap → Type 0
DifferIn gs = AllPairs (λ g h. g.address ≢ h.address) gs

abbrev same_address : BinnedGap → BinnedGap → Bool
same_address g h = g.address == h.address

differ_false : (a b : ℕ) → a ≢ b → (a == b) ≡ false
differ_false a b n = grind arith

false_differ : (a b : ℕ) → (a == b) ≡ false → a ≢ b
false_differ a b f = grind arith

turns : (g h : BinnedGap) → same_address g h ≡ same_address h g
turns g h = elim (cases_eq g.address h.address) [ inl e ↦ grind arith | inr n ↦ grind arith ]

differ-permuted : (xs ys : List BinnedGap) → IsPermutation xs ys → DifferIn xs → DifferIn ys
differ-permuted xs ys m differ =
    let distinct = IsDistinct-IsPermutation same_address turns xs ys m
    (IsDistinct-from_apart same_address xs
    (λ i j d lt within. differ_false _ _ (differ i j d lt within))) in
    λ i j d lt within. false_differ _ _
    (apart_from_distinct same_address ys i j d distinct lt within)

-- the first of gaps at different addresses has an address of its own
pub first-alone : (all : List BinnedGap) (g : BinnedGap) (rest : List BinnedGap) → DifferIn all
    → IsPermutation all (g ∷ rest) → All (λ h. h.address ≢ g.address) rest
first-alone all g rest differ m =
    let pairs = differ-permuted all (g ∷ rest) m differ in
    λ i d within e. pairs 0 (suc i) d (omega arith) (omega arith) (sym e)
