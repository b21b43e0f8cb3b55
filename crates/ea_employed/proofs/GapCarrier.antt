-- The carrier of the gap that is chosen: the one of the highest base that isn't beyond the gap.
use Rattle.std.proofs.Common.{◌≡◌, ℕ, ◌+◌, ◌*◌, ◌/◌, ◌<◌, ◌≤◌, true, List, [], ◌∷◌, All}
use Rattle.std.proofs.Common.{AllPairs, get_or, map, refl, sym, ap, ◌∙◌, subst, inl, inr, arith}
use Rattle.std.specs.Prelude.{◌⊎◌, Option, Some, None, IfSome, option_map}
use Rattle.std.specs.List.Sorted.{IsPermutation}
use Rattle.std.proofs.lemmas.Bool.{cases_eq}
use Rattle.std.proofs.lemmas.List.Elements.{All-contains}
use Rattle.ea_model.specs.declared.settings.Strategy.{Strategy}
use Rattle.ea_model.specs.declared.carriers.Candidate.{Candidate}
use Rattle.ea_model.specs.declared.carriers.Gap.{Gap}
use Rattle.ea_model.specs.Content.{Content, gap_at, gaps_of}
use Rattle.ea_model.specs.Keyed.{IsBelow}
use Rattle.ea_model.specs.Strategies.{candidate, candidates, choice_among, inspected_by}
use Rattle.ea_model.specs.Strategies.{large_enough, takes_first}
use Rattle.ea_model.specs.Instance.{content_of}
use Rattle.ea_model.proofs.First.{both_All, first-All}
use Rattle.ea_model.proofs.Options.{some_holds}
use Rattle.ea_model.proofs.Pairs.{all_unmap, pairs_head, pairs_tail}
use Rattle.ea_model.proofs.Rising.{item_at-All, item_at-each, item_past}
use Rattle.ea_cset.specs.declared.keys.CarrierFit.{CarrierFit}
use Rattle.ea_cset.specs.declared.keys.Found.{Found}
use Rattle.ea_cset.specs.Carriers.{Carriers, StandsIn}
use Rattle.ea_goodfit.specs.declared.gaps.BinnedGap.{BinnedGap}
use Rattle.ea_goodfit.specs.Gaps.{found_by, HeldGaps}
use Rattle.ea_laws.specs.Kept.{number_of, ContentsApart, IsLaidOut, IsRising}
use Rattle.ea_laws.proofs.Apart.{turned-apart}
use Rattle.ea_laws.proofs.Candidates.{candidates_All, gaps_Inside, large_among, Inside, IsLarge}
use Rattle.ea_laws.proofs.Chosen.{gaps-Begins, Begins}
use Rattle.ea_laws.proofs.Inspected.{inspected_by-among}
use Rattle.ea_employed.specs.Binned.{fit_in, Hold}
use Rattle.ea_employed.specs.Choices.{IsChoice, IsChosenIn}
use Rattle.ea_employed.specs.Laid.{AreLaid}
use Rattle.ea_employed.specs.Listed.{all_gaps, gap_of, held_of, located, spans, CarrierList}
use Rattle.ea_employed.specs.Listed.{IsListed}
use Rattle.ea_employed.proofs.Gaps.{found_here}
use Rattle.ea_employed.proofs.Finding.{found-held, found-there, found-within}
use Rattle.ea_employed.proofs.Located.{found-chosen}

-- x is a gap of one of the carriers
pub record IsGapOf (cs : List Content) (x : Candidate) : Type 0 where
  pub content : Content
  pub gap : Gap
  pub there : content_of cs content.number ≡ Some content
  pub is : x ≡ candidate content gap
  pub inside : Inside 8 content.units gap
  pub size : gap_at (gaps_of content) gap.offset ≡ gap.size

gaps-IsGapOf : (cs : List Content) → AreLaid cs → All (IsGapOf cs) (candidates cs)
gaps-IsGapOf cs laid =
    candidates_All (IsGapOf cs) cs
    (both_All (λ c. content_of cs c.number ≡ Some c) IsLaidOut
    (λ c. All (λ g. IsGapOf cs (candidate c g)) (gaps_of c))
    (λ c there s. both_All (Inside 8 c.units) (Begins 8 (gaps_of c))
    (λ g. IsGapOf cs (candidate c g))
    (λ g i b. record {
      content = c;
      gap = g;
      there = there;
      is = refl;
      inside = i;
      size = b.size;
    }) (gaps_of c) (gaps_Inside 8 c.units c.blocks s.tiled)
    (gaps-Begins 8 c.units c.blocks s.tiled))
    cs (λ i d within. item_at-each number_of i d cs laid.rising within) laid.sound)

-- the gap that is chosen is one of theirs, and fits
pub chosen-IsGapOf : (s : Strategy) (depth need : ℕ) (cs : List Content) (x : Candidate)
    → AreLaid cs → choice_among s depth need cs ≡ Some x → IsGapOf cs x × (need ≤ x.size)
chosen-IsGapOf s depth need cs x laid is =
    let all = candidates cs in
    let large : IsLarge need all x = some_holds (choice_among s depth need cs) x (IsLarge need all)
    is (first-All (IsLarge need all) (takes_first s) None
    (large_enough need (inspected_by s depth all)) tt
    (large_among need all (inspected_by s depth all) (inspected_by-among s depth all))) in
    (All-contains (IsGapOf cs) all x (gaps-IsGapOf cs laid) large.0, large.1)

-- two of the carriers are one, or have no unit in common
same-apart : (m n : ℕ) (c d : Content) (cs : List Content) → IsRising cs
    → AllPairs ContentsApart cs → content_of cs m ≡ Some c → content_of cs n ≡ Some d
    → (c ≡ d) ⊎ ContentsApart c d
same-apart m n c d [] rising apart at there = absurd cc
same-apart m n c d (x ∷ xs) rising apart at there =
    let away = pairs_head ContentsApart x xs apart in
    elim (cases_eq x.number m) [
      | inl e ↦ elim (cases_eq x.number n) [
        | inl f ↦ inl (sym (found_here m x c xs e at) ∙ found_here n x d xs f there)
        | inr f ↦ inr (subst (λ y. ContentsApart y d) (found_here m x c xs e at)
            (item_at-All number_of (ContentsApart x) n d xs away
            (sym (item_past number_of n x xs f) ∙ there)))
      ]
      | inr e ↦
          let c_at = sym (item_past number_of m x xs e) ∙ at in
          elim (cases_eq x.number n) [
            | inl f ↦ inr (subst (λ y. ContentsApart c y) (found_here n x d xs f there)
                (turned-apart x c (item_at-All number_of (ContentsApart x) m c xs away c_at)))
            | inr f ↦ same-apart m n c d xs (pairs_tail (IsBelow number_of) x xs rising)
                (pairs_tail ContentsApart x xs apart) c_at
                (sym (item_past number_of n x xs f) ∙ there)
          ]
    ]

spans_inside : (address : ℕ) (c : Content) → 512 * c.base ≤ address
    → address < 512 * c.base + c.units → spans address c ≡ true
spans_inside address c low high = grind arith

located-candidate : (c : Content) (g : Gap) → located (gap_of (candidate c g)) c ≡ candidate c g
located-candidate c g =
    ap (λ o. record {
      number = c.number;
      base = c.base;
      birth = c.birth;
      offset = o;
      address = 512 * c.base + g.offset;
      size = g.size;
    }) (omega arith)

module _ (cs : List Content) (laid : AreLaid cs) (x : Candidate) (w : IsGapOf cs x) where
  abbrev c : Content
  c = w.content

  low : 512 * c.base ≤ x.address
  low = omega (arith, ap (λ (y : Candidate). y.address) w.is)

  high : x.address < 512 * c.base + c.units
  high =
      omega (arith, ap (λ (y : Candidate). y.address) w.is, w.inside.some, w.inside.within)

  -- there is a carrier whose base isn't beyond it
  pub some-carrier : All (λ h. x.address / 512 < h.key.base) (map held_of cs) → ⊥
  some-carrier beyond =
      let over : x.address / 512 < c.base = item_at-All number_of (λ d. x.address / 512 < d.base)
      c.number c cs (all_unmap (λ (h : CarrierFit). x.address / 512 < h.key.base) held_of cs beyond)
      w.there in
      omega (arith, over, low)

  -- and the last of these is its own
  module _ (f : Found) (item : Content) (up_to : f.carrier.key.base ≤ x.address / 512)
      (last : All (λ h. h.key.base ≤ x.address / 512 → h.key.base ≤ f.carrier.key.base)
      (map held_of cs))
      (stands : StandsIn (map held_of cs) f) (at : item ≡ get_or cs f.index item) where
    base : item.base ≡ f.carrier.key.base
    base = ap (λ (h : CarrierFit). h.key.base) (found-held cs f item stands at)

    own : item ≡ c
    own =
        let there = found-there cs f item laid.rising stands at in
        let sound = item_at-All number_of IsLaidOut f.carrier.key.number item cs laid.sound there in
        let below : c.base ≤ f.carrier.key.base =
        item_at-All number_of (λ d. d.base ≤ x.address / 512 → d.base ≤ f.carrier.key.base)
        c.number c cs
        (all_unmap (λ (h : CarrierFit). h.key.base ≤ x.address / 512
        → h.key.base ≤ f.carrier.key.base) held_of cs last) w.there (omega (arith, low)) in
        elim (same-apart f.carrier.key.number c.number item c cs laid.rising laid.apart there
        w.there) [
          | inl e ↦ e
          | inr away ↦ absurd (elim away [
            | inl p ↦ omega (arith, p, below, base, sound.whole.1)
            | inr q ↦ omega (arith, q, base, up_to, high)
          ])
        ]

    pub own-spans : spans x.address item ≡ true
    own-spans = subst (λ d. spans x.address d ≡ true) (sym own) (spans_inside x.address c low high)

    pub own-located : located (gap_of x) item ≡ x
    own-located =
        ap (located (gap_of x)) own
        ∙ ap (λ y. located (gap_of y) c) w.is ∙ located-candidate c w.gap ∙ sym w.is

    -- so it is a choice
    pub own-IsChoice : (need : ℕ) (y : Candidate) → need ≤ x.size → y ≡ x
        → IsChoice need cs (record { index = f.index; candidate = y })
    own-IsChoice need y fits e = record {
      content = item;
      within = found-within cs f stands;
      is = sym at;
      chosen = subst (λ z. IsChosenIn need item z) (sym e)
          (subst (λ d. IsChosenIn need d x) (sym own) (record {
            number = ap (λ (z : Candidate). z.number) w.is;
            address = ap (λ (z : Candidate). z.address) w.is
                ∙ sym (ap (λ (z : Candidate). 512 * c.base + z.offset) w.is);
            gap = ap (λ (z : Candidate). gap_at (gaps_of c) z.offset) w.is ∙ w.size
                ∙ sym (ap (λ (z : Candidate). z.size) w.is);
            fits = fits;
          }));
    }

-- the bins find what the strategy chooses
pub binned-chosen : (l now : CarrierList) (set : Carriers) (bins : Option HeldGaps) (b : HeldGaps)
    (depth need : ℕ) (o : Option BinnedGap) → l ≡ now
    → IsListed l.strategy l.units l.contents set bins → bins ≡ Some b
    → ((gs : List BinnedGap) → IsPermutation b.held gs → o ≡ found_by b.fit depth need gs)
    → o ≡ option_map gap_of (choice_among now.strategy depth need now.contents)
binned-chosen l now set bins b depth need o same listed some order =
    order (all_gaps l.contents)
    (subst (λ p. Hold p (all_gaps l.contents)) some listed.gaps)
    ∙ found-chosen depth need l.contents l.strategy b.fit (sym (ap fit_in some) ∙ listed.fit)
    ∙ ap (λ (m : CarrierList). option_map gap_of (choice_among m.strategy depth need m.contents))
    same

pub none-chosen : (o : Option BinnedGap) (r : Option Candidate) → o ≡ option_map gap_of r
    → o ≡ None → r ≡ None
none-chosen o None is none = refl
none-chosen o (Some x) is none = absurd (let e : Some (gap_of x) ≡ None = sym is ∙ none in cc)

some-chosen : (o : Option BinnedGap) (r : Option Candidate) (g : BinnedGap)
    → o ≡ option_map gap_of r → o ≡ Some g → (x : Candidate) × (r ≡ Some x) × (gap_of x ≡ g)
some-chosen o None g is some = absurd (let e : None ≡ Some g = sym is ∙ some in cc)
some-chosen o (Some x) g is some =
    let e : Some (gap_of x) ≡ Some g = sym is ∙ some in (x, refl, cc)

-- the gap that the bins found, in its carrier
module _ (depth need : ℕ) (now : CarrierList) (laid : AreLaid now.contents)
    (o : Option BinnedGap) (g : BinnedGap) (some : o ≡ Some g)
    (is : o ≡ option_map gap_of (choice_among now.strategy depth need now.contents))
    (hs : List CarrierFit) (held : hs ≡ map held_of now.contents) where
  abbrev chosen : (x : Candidate)
      × (choice_among now.strategy depth need now.contents ≡ Some x) × (gap_of x ≡ g)
  chosen = some-chosen o (choice_among now.strategy depth need now.contents) g is some

  abbrev x : Candidate
  x = chosen.0

  owned : IsGapOf now.contents x × (need ≤ x.size)
  owned = chosen-IsGapOf now.strategy depth need now.contents x laid chosen.1

  pub has-carrier : All (λ h. g.address / 512 < h.key.base) hs → ⊥
  has-carrier beyond =
      some-carrier now.contents laid x owned.0
      (subst (λ (h : BinnedGap). All (λ (k : CarrierFit). h.address / 512 < k.key.base)
      (map held_of now.contents)) (sym chosen.2)
      (subst (All (λ (k : CarrierFit). g.address / 512 < k.key.base)) held beyond))

  abbrev IsLast : ℕ → List CarrierFit → Found → Type 0
  IsLast base ks f = (f.carrier.key.base ≤ base)
      × All (λ h. h.key.base ≤ base → h.key.base ≤ f.carrier.key.base) ks

  module _ (found : Option Found) (f : Found) (was : found ≡ Some f)
      (up_to : IfSome found (IsLast (g.address / 512) hs)) (in_set : IfSome found (StandsIn hs))
      (item : Content) (at : item ≡ get_or now.contents f.index item) where
    last : IsLast (x.address / 512) (map held_of now.contents) f
    last =
        subst (λ (h : BinnedGap). IsLast (h.address / 512) (map held_of now.contents) f)
        (sym chosen.2)
        (subst (λ ks. IsLast (g.address / 512) ks f) held (some_holds found f _ was up_to))

    stands : StandsIn (map held_of now.contents) f
    stands = subst (λ ks. StandsIn ks f) held (some_holds found f (StandsIn hs) was in_set)

    pub gap-spans : spans g.address item ≡ true
    gap-spans =
        subst (λ (h : BinnedGap). spans h.address item ≡ true) chosen.2
        (own-spans now.contents laid x owned.0 f item last.0 last.1 stands at)

    gap-located : (y : Candidate) → y ≡ located g item → y ≡ x
    gap-located y e =
        e ∙ ap (λ h. located h item) (sym chosen.2)
        ∙ own-located now.contents laid x owned.0 f item last.0 last.1 stands at

    pub gap-chosen : (y : Candidate) → y ≡ located g item
        → Some y ≡ choice_among now.strategy depth need now.contents
    gap-chosen y e = ap Some (gap-located y e) ∙ sym chosen.1

    pub gap-IsChoice : (y : Candidate) → y ≡ located g item
        → IsChoice need now.contents (record { index = f.index; candidate = y })
    gap-IsChoice y e =
        own-IsChoice now.contents laid x owned.0 f item last.0 last.1 stands at need y owned.1
        (gap-located y e)
