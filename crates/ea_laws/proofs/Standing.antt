-- What holds of an instance at every moment.
use Rattle.std.proofs.Common.{◌≡◌, ◌≢◌, ℕ, ◌+◌, ◌-◌, ◌*◌, ◌%◌, ◌<◌, ◌≤◌, get_or, Bool, true, false}
use Rattle.std.proofs.Common.{List, [], ◌∷◌, filter, length, map, sym, ap, ◌∙◌, subst, refl, inl}
use Rattle.std.proofs.Common.{inr, arith}
use Rattle.std.specs.Prelude.{Option, Some, None, Ok, IfSome, All, AllPairs, Contains, nat_lt}
use Rattle.std.specs.Prelude.{option_map, ◌==◌, is_some}
use Rattle.std.proofs.lemmas.Bool.{cases_lt, cond_both, cond-true, cond-false}
use Rattle.std.proofs.lemmas.List.{length-map}
use Rattle.std.proofs.lemmas.List.Elements.{All-nil, All-cons, All-filter, All-contains_itself}
use Rattle.std.proofs.lemmas.List.Elements.{All-map, All-tail, All-weaker}
use Rattle.std.proofs.lemmas.List.Kept.{AllPairs-cons, AllPairs-filter}
use Rattle.ea_model.specs.declared.settings.Settings.{Settings}
use Rattle.ea_model.specs.declared.units.TheConstants.{MAX_PAGES, MAX_SCHEDULERS, NUMBERS}
use Rattle.ea_model.specs.declared.units.TheConstants.{RELEASED_COUNT, RESIZED_COUNT}
use Rattle.ea_model.specs.declared.settings.Strategy.{Strategy}
use Rattle.ea_model.specs.declared.carriers.Candidate.{Candidate}
use Rattle.ea_model.specs.declared.carriers.CarrierPlan.{CarrierPlan}
use Rattle.ea_model.specs.declared.carriers.Kind.TheVariants.{Multi}
use Rattle.ea_model.specs.declared.carriers.Spot.{Spot}
use Rattle.ea_model.specs.Content.{Content, is_empty_multi, placed, released}
use Rattle.ea_model.specs.Choice.{first}
use Rattle.ea_model.specs.Keyed.{IsBelow}
use Rattle.ea_model.specs.declared.carriers.OwnCarrier.{OwnCarrier}
use Rattle.ea_model.specs.Employment.{dismissing, disowning, employing}
use Rattle.ea_model.specs.Region.{SegmentApart}
use Rattle.ea_model.specs.Settings.{IsValid, most_count, raised}
use Rattle.ea_model.specs.Units.{pages_for}
use Rattle.ea_model.specs.Strategies.{candidates, choice_among, choice_for, choice_empty}
use Rattle.ea_model.specs.Strategies.{large_enough, inspected_by, lower, may_miss, or_else, spot_of}
use Rattle.ea_model.specs.Strategies.{takes_first}
use Rattle.ea_model.specs.Instance.{Instance, changing, chosen_spot, content_of, count_less}
use Rattle.ea_model.specs.Instance.{created_content, created_single, creating, creating_single}
use Rattle.ea_model.specs.Instance.{employed, first_number, has_content, is_used, main_content}
use Rattle.ea_model.specs.Instance.{new_instance, own_at, own_of, placing_at, plan, planned_own}
use Rattle.ea_model.specs.Instance.{releasing_at, resized_in, resized_more, segment_of}
use Rattle.ea_model.specs.Instance.{with_content, with_own, without_own}
use Rattle.ea_model.proofs.First.{first-All}
use Rattle.ea_model.proofs.Options.{if_some, some_holds, some_map}
use Rattle.ea_model.proofs.Pairs.{pairs_head, pairs_map, pairs_nil, pairs_tail}
use Rattle.ea_model.proofs.Merged.{entered-with, length-merged, merged-All}
use Rattle.ea_model.proofs.Merged.{merged-each, merged-first, merged-left, merged-pairs}
use Rattle.ea_model.proofs.Merged.{merged-right}
use Rattle.ea_model.proofs.Rising.{All-entered, item_at-All, item_at-each, item_at-gone}
use Rattle.ea_model.proofs.Rising.{item_at-key, item_at-new, item_at-old, item_at-stays, item_here}
use Rattle.ea_model.proofs.Rising.{none-other}
use Rattle.ea_laws.specs.Spots.{HasGap}
use Rattle.ea_laws.specs.InOrder.{IsInOrder}
use Rattle.ea_laws.specs.Kept.{number_of, own_number, ContentsApart, HasNumberIn}
use Rattle.ea_laws.specs.Kept.{HasPages, IsLaidOut, IsLaidOutAlone, IsOwn, IsRising, IsSomeones}
use Rattle.ea_laws.specs.Kept.{IsWhole, Stands}
use Rattle.ea_laws.proofs.Changed.{KeepsPlace, placed-keeps, released-keeps}
use Rattle.ea_laws.proofs.Contents.{absent-among, absent-none}
use Rattle.ea_laws.proofs.Keeping.{IsKept-made, IsLaidOut-made, other-numbers}
use Rattle.ea_laws.proofs.Keeping.{own_of-made, pages_of_units, planned-free}
use Rattle.ea_laws.proofs.Keeping.{planned-numbered, planned-within, whole_pages}
use Rattle.ea_laws.proofs.Employed.{employed-changed, employed-dismissed, placing-is}
use Rattle.ea_laws.proofs.Laid.{created_single-IsLaidOutAlone, released-IsLaidOut}
use Rattle.ea_laws.proofs.Laid.{released-IsLaidOutAlone}
use Rattle.ea_laws.proofs.Orderly.{changing-IsOrderly, counted-IsOrderly, dismissing-IsOrderly}
use Rattle.ea_laws.proofs.Orderly.{disowning-IsOrderly}
use Rattle.ea_laws.proofs.Orderly.{employing-IsOrderly, employing_single-IsOrderly}
use Rattle.ea_laws.proofs.Orderly.{owning-IsOrderly, placing-alone, placing-laid}
use Rattle.ea_laws.proofs.Owned.{apart_from, rising-length, unused-All}
use Rattle.ea_laws.proofs.CarrierSegments.{free-own}
use Rattle.ea_laws.proofs.Apart.{altered, apart-changed, turned-apart}
use Rattle.ea_laws.proofs.Candidates.{candidate-IsOwned, IsOwned, IsLarge, large_among}
use Rattle.ea_laws.proofs.Inspected.{inspected_by-among}
use Rattle.ea_laws.proofs.Extents.{IsOrdered, blocks-disjoint}
use Rattle.ea_laws.proofs.Sums.{IsSmall, all-units}
use Rattle.ea_laws.proofs.Tiling.{Tiled-Ordered, one-Ordered}

-- the numbers of all contents rise
pub employed-rising : (i : Instance) → Stands i → IsRising (employed i)
employed-rising i st = st.orderly.once

laid_whole : (cs : List Content) → All IsLaidOut cs → All IsWhole cs
laid_whole cs sound = All-weaker IsLaidOut IsWhole (λ c laid. laid.whole) cs sound

alone_whole : (cs : List Content) → All IsLaidOutAlone cs → All IsWhole cs
alone_whole cs sound = All-weaker IsLaidOutAlone IsWhole (λ c laid. laid.whole) cs sound

pub employed-whole : (i : Instance) → Stands i → All IsWhole (employed i)
employed-whole i st = merged-All number_of IsWhole i.contents i.singles
    (laid_whole i.contents st.orderly.laid) (alone_whole i.singles st.orderly.alone)

pub multi-apart : (i : Instance) → Stands i → AllPairs ContentsApart i.contents
multi-apart i st = (merged-pairs number_of ContentsApart turned-apart i.contents i.singles
    st.apart).0

-- each is someone's
pub employed-someones : (i : Instance) → Stands i → All (λ c. IsSomeones i (own_of c)) (employed i)
employed-someones i st = merged-All number_of (λ c. IsSomeones i (own_of c)) i.contents i.singles
    st.someones (All-weaker (λ c. IsOwn i.own (own_of c)) (λ c. IsSomeones i (own_of c))
    (λ c own. inl own) i.singles st.owned)

-- a singleblock carrier is its own
pub single-own : (i : Instance) (number : ℕ) (c : Content) → Stands i
    → content_of i.singles number ≡ Some c → own_at i.own number ≡ Some (own_of c)
single-own i number c st there =
    subst (λ n. own_at i.own n ≡ Some (own_of c)) (item_at-key number_of number c i.singles there)
    (item_at-All number_of (λ d. IsOwn i.own (own_of d)) number c i.singles st.owned there)

-- and where carriers don't migrate each is
pub employed-own : (i : Instance) (number : ℕ) (c : Content) → Stands i → i.settings.acul ≡ 0
    → content_of (employed i) number ≡ Some c → own_at i.own number ≡ Some (own_of c)
employed-own i number c st off there =
    subst (λ n. own_at i.own n ≡ Some (own_of c))
    (item_at-key number_of number c (employed i) there)
    (item_at-All number_of (λ d. IsOwn i.own (own_of d)) number c (employed i)
    (merged-All number_of (λ d. IsOwn i.own (own_of d)) i.contents i.singles (st.home off) st.owned)
    there)

-- the number of an own carrier is the instance's
pub own-numbered : (i : Instance) → Stands i → (o : OwnCarrier) → IsOwn i.own o
    → HasNumberIn (first_number i.number) (first_number i.number + NUMBERS) o
own-numbered i st o own = item_at-All own_number
    (HasNumberIn (first_number i.number) (first_number i.number + NUMBERS)) o.number o i.own
    st.orderly.kept.numbers own

-- each number is a carrier's
abbrev pub IsNumbered : Content → Type 0
IsNumbered c = (1 ≤ c.number) × (c.number ≤ NUMBERS * MAX_SCHEDULERS)

pub employed-numbered : (i : Instance) → Stands i → All IsNumbered (employed i)
employed-numbered i st = All-weaker (λ c. IsSomeones i (own_of c)) IsNumbered numbered (employed i)
    (employed-someones i st) where
      numbered : (c : Content) → IsSomeones i (own_of c) → IsNumbered c
      numbered c (inl own) =
          let has = own-numbered i st (own_of c) own in
          let mine = st.orderly.kept.instance in
          (omega (arith, has.0), omega (arith, has.1, mine.0, mine.1))
      numbered c (inr foreign) = foreign.numbered

-- there are no more of them than numbers
numbered_few : (low : ℕ) (cs : List Content) → IsRising cs
    → All (λ c. (low ≤ c.number) × (c.number ≤ NUMBERS * MAX_SCHEDULERS)) cs
    → length cs ≤ NUMBERS * MAX_SCHEDULERS + 1 - low
numbered_few low [] rising numbered = omega arith
numbered_few low (c ∷ cs) rising numbered =
    let here = numbered 0 c (omega arith) in
    let above : All (IsBelow number_of c) cs = pairs_head (IsBelow number_of) c cs rising in
    let rest : All (λ d. (c.number + 1 ≤ d.number) × (d.number ≤ NUMBERS * MAX_SCHEDULERS)) cs =
    λ k d within. (
      omega (arith, above k d within),
      (All-tail (λ e. (low ≤ e.number) × (e.number ≤ NUMBERS * MAX_SCHEDULERS)) c cs numbered k
          d within).1,
    ) in
    omega (
      arith,
      here.0,
      here.1,
      numbered_few (c.number + 1) cs (pairs_tail (IsBelow number_of) c cs rising) rest,
    )

pub employed-few : (i : Instance) → Stands i
    → length i.contents + length i.singles ≤ NUMBERS * MAX_SCHEDULERS
employed-few i st = omega (
  arith,
  numbered_few 1 (employed i) st.orderly.once (employed-numbered i st),
  length-merged number_of i.contents i.singles,
)

-- nor more singleblock carriers than its own
pub singles-few : (i : Instance) → Stands i → length i.singles ≤ NUMBERS
singles-few i st = omega (
  arith,
  rising-length (first_number i.number) (first_number i.number + NUMBERS) (map own_of i.singles)
      (pairs_map (IsBelow own_number) own_of i.singles st.orderly.rising_singles)
      (All-map (HasNumberIn (first_number i.number) (first_number i.number + NUMBERS)) own_of i.singles
      (All-weaker (λ c. IsOwn i.own (own_of c))
      (λ c. HasNumberIn (first_number i.number) (first_number i.number + NUMBERS) (own_of c))
      (λ c own. own-numbered i st (own_of c) own) i.singles st.owned)),
  length-map i.singles own_of,
)

laid-ordered : (c : Content) → IsLaidOut c → IsOrdered c
laid-ordered c laid = Tiled-Ordered 8 c.units c.blocks laid.tiled

alone-ordered : (c : Content) → IsLaidOutAlone c → IsOrdered c
alone-ordered c laid = one-Ordered c.units c.blocks (omega (arith, laid.whole.1)) laid.block

-- their blocks lie in order, and their units are bounded
pub multi-bounded : (i : Instance) → Stands i → All IsOrdered i.contents × All IsSmall i.contents
multi-bounded i st = (
  All-weaker IsLaidOut IsOrdered laid-ordered i.contents st.orderly.laid,
  All-weaker IsLaidOut IsSmall (λ c laid. omega (arith, laid.low)) i.contents st.orderly.laid,
)

pub single-bounded : (i : Instance) → Stands i → All IsOrdered i.singles × All IsSmall i.singles
single-bounded i st = (
  All-weaker IsLaidOutAlone IsOrdered alone-ordered i.singles st.orderly.alone,
  All-weaker IsLaidOutAlone IsSmall (λ c laid. omega (arith, laid.low)) i.singles st.orderly.alone,
)

pub Stands-IsInOrder : (i : Instance) → Stands i → IsInOrder i
Stands-IsInOrder i st =
    let ordered = merged-All number_of IsOrdered i.contents i.singles (multi-bounded i st).0
    (single-bounded i st).0 in
    record {
      disjoint = blocks-disjoint (employed i) ordered st.apart;
      tiled = λ k d within. (st.orderly.laid k d within).tiled;
      single = λ k d within. (st.orderly.alone k d within).block;
      whole = employed-whole i st;
      numbers = employed-rising i st;
      apart = st.apart;
      owned = st.orderly.kept.numbers;
      laid = st.orderly.kept.laid;
      sum = all-units (employed i) ordered;
    }

-- a content of a number among those of multiblock carriers, or of singleblock ones
pub employed-multi : (i : Instance) (number : ℕ) (c : Content) → Stands i
    → content_of i.contents number ≡ Some c → content_of (employed i) number ≡ Some c
employed-multi i number c st there =
    merged-first number_of number c i.contents i.singles (employed-rising i st) there

-- one carrier changes its blocks
altered-own : (f : Content → Content) → KeepsPlace f → (n : ℕ) (c : Content)
    → own_of c ≡ own_of (altered f n c)
altered-own f keeps n c = cond_both (c.number == n) (f c) c (λ x. own_of c ≡ own_of x)
    (λ _. (let m = keeps.number c in let b = keeps.base c in let u = keeps.units c in cc))
    (λ _. refl)

pub changing-Stands : (f : Content → Content) → KeepsPlace f → (n : ℕ) (i : Instance) → Stands i
    → ((c : Content) → content_of i.contents n ≡ Some c → IsLaidOut (f c))
    → ((c : Content) → content_of i.singles n ≡ Some c → IsLaidOutAlone (f c))
    → Stands (changing i f n)
changing-Stands f keeps n i st sound alone =
    let is = employed-changed f keeps n i in
    record {
      orderly = changing-IsOrderly f keeps n i st.orderly sound alone;
      apart = subst (AllPairs ContentsApart) (sym is)
          (apart-changed f keeps n (employed i) st.apart);
      someones = All-map (λ c. IsSomeones i (own_of c)) (altered f n) i.contents
          (All-weaker (λ c. IsSomeones i (own_of c)) (λ c. IsSomeones i (own_of (altered f n c)))
          (λ c one. subst (IsSomeones i) (altered-own f keeps n c) one) i.contents st.someones);
      owned = All-map (λ c. IsOwn i.own (own_of c)) (altered f n) i.singles
          (All-weaker (λ c. IsOwn i.own (own_of c)) (λ c. IsOwn i.own (own_of (altered f n c)))
          (λ c one. subst (IsOwn i.own) (altered-own f keeps n c) one) i.singles st.owned);
      home = λ off. All-map (λ c. IsOwn i.own (own_of c)) (altered f n) i.contents
          (All-weaker (λ c. IsOwn i.own (own_of c)) (λ c. IsOwn i.own (own_of (altered f n c)))
          (λ c one. subst (IsOwn i.own) (altered-own f keeps n c) one) i.contents (st.home off));
    }

-- an instance of another count stands, too
pub counted-Stands : (count : ℕ) (i : Instance) → Stands i → Stands (record i { count = count })
counted-Stands count i st = record {
  orderly = counted-IsOrderly count i st.orderly;
  apart = st.apart;
  someones = st.someones;
  owned = st.owned;
  home = st.home;
}

-- a block is placed in a gap that is large enough
pub placing-Stands : (i : Instance) (spot : Spot) (need name : ℕ) → Stands i
    → HasGap need spot.carrier spot.offset i.contents → 6 ≤ need → need % 2 ≡ 0
    → Stands (placing_at i spot need name)
placing-Stands i spot need name st gap least even =
    subst Stands (sym (placing-is i spot need name gap.0 st.orderly.once gap.1))
    (counted-Stands (raised i.settings i.count)
    (changing i (λ c. placed c spot.offset need name) spot.carrier)
    (changing-Stands (λ c. placed c spot.offset need name) (placed-keeps spot.offset need name)
    spot.carrier i st (placing-laid i spot need name st.orderly gap least even)
    (placing-alone i spot need name st.orderly gap)))

pub releasing-Stands : (i : Instance) (spot : Spot) → Stands i → Stands (releasing_at i spot)
releasing-Stands i spot st =
    counted-Stands (count_less RELEASED_COUNT i spot.carrier)
    (changing i (λ c. released c spot.offset) spot.carrier)
    (changing-Stands (λ c. released c spot.offset) (released-keeps spot.offset) spot.carrier i st
    (λ c there. released-IsLaidOut c spot.offset
    (item_at-All number_of IsLaidOut spot.carrier c i.contents st.orderly.laid there))
    (λ c there. released-IsLaidOutAlone c spot.offset
    (item_at-All number_of IsLaidOutAlone spot.carrier c i.singles st.orderly.alone there)))

-- a block shrank or grew where it is
pub resized_more-Stands : (i : Instance) (spot : Spot) (size name : ℕ)
    → Stands (resized_in i spot size name) → Stands (resized_more i spot size name)
resized_more-Stands i spot size name st =
    counted-Stands (count_less RESIZED_COUNT i spot.carrier) (resized_in i spot size name) st

-- other carriers are the instance's or another's as they were
abbrev pub SameOwn : (own more : List OwnCarrier) → OwnCarrier → Type 0
SameOwn own more o = own_at more o.number ≡ own_at own o.number

module _ (i : Instance) (own : List OwnCarrier) where
  still-own : (o : OwnCarrier) → SameOwn i.own own o → IsOwn i.own o → IsOwn own o
  still-own o same is = same ∙ is

  still-someones : (o : OwnCarrier) → SameOwn i.own own o → IsSomeones i o
      → IsSomeones (record i { own = own }) o
  still-someones o same (inl is) = inl (same ∙ is)
  still-someones o same (inr foreign) = inr foreign

  pub all-own : (cs : List Content) → All (λ c. SameOwn i.own own (own_of c)) cs
      → All (λ c. IsOwn i.own (own_of c)) cs → All (λ c. IsOwn own (own_of c)) cs
  all-own cs same all = λ k d within. still-own _ (same k d within) (all k d within)

  pub all-someones : (cs : List Content) → All (λ c. SameOwn i.own own (own_of c)) cs
      → All (λ c. IsSomeones i (own_of c)) cs
      → All (λ c. IsSomeones (record i { own = own }) (own_of c)) cs
  all-someones cs same all = λ k d within. still-someones _ (same k d within) (all k d within)

-- a carrier goes from those that are employed
pub dismissing-Stands : (i : Instance) (number : ℕ) → Stands i → Stands (dismissing i number)
dismissing-Stands i number st =
    let is = employed-dismissed i number st.orderly.once in
    record {
      orderly = dismissing-IsOrderly i number st.orderly;
      apart = subst (AllPairs ContentsApart) (sym is)
          (AllPairs-filter ContentsApart _ (employed i) st.apart);
      someones = All-filter _ (λ c. IsSomeones i (own_of c)) i.contents st.someones;
      owned = All-filter _ (λ c. IsOwn i.own (own_of c)) i.singles st.owned;
      home = λ off. All-filter _ (λ c. IsOwn i.own (own_of c)) i.contents (st.home off);
    }

-- and from those that are owned, where it isn't employed
pub disowning-Stands : (i : Instance) (number : ℕ) (o : OwnCarrier) → Stands i
    → own_at i.own number ≡ Some o → content_of (employed i) number ≡ None
    → Stands (disowning i number)
disowning-Stands i number o st there none =
    let own = without_own number i.own in
    let others = merged-each number_of (λ c. c.number ≢ number) i.contents i.singles
    (none-other number_of number (employed i) none) in
    record {
      orderly = disowning-IsOrderly i number st.orderly;
      apart = st.apart;
      someones = all-someones i own i.contents
          (λ k d within. item_at-stays own_number _ number i.own (others.0 k d within)) st.someones;
      owned = all-own i own i.singles
          (λ k d within. item_at-stays own_number _ number i.own (others.1 k d within)) st.owned;
      home = λ off. all-own i own i.contents
          (λ k d within. item_at-stays own_number _ number i.own (others.0 k d within))
          (st.home off);
    }

-- a carrier goes
pub deallocated-Stands : (i : Instance) (number : ℕ) (o : OwnCarrier) → Stands i
    → own_at i.own number ≡ Some o → Stands (disowning (dismissing i number) number)
deallocated-Stands i number o st there =
    disowning-Stands (dismissing i number) number o (dismissing-Stands i number st) there
    (ap (λ cs. content_of cs number) (employed-dismissed i number st.orderly.once)
    ∙ item_at-gone number_of number (employed i))

-- a carrier comes that isn't employed, lies apart from those that are, and is someone's
module _ (i : Instance) (x : Content) (st : Stands i)
    (new : content_of (employed i) x.number ≡ None) (away : All (ContentsApart x) (employed i))
  where
    others_number : All (λ c. c.number ≢ x.number) (employed i)
    others_number = none-other number_of x.number (employed i) new

    each_other : All (λ c. c.number ≢ x.number) i.contents
        × All (λ c. c.number ≢ x.number) i.singles
    each_other = merged-each number_of (λ c. c.number ≢ x.number) i.contents i.singles others_number

    apart_more : AllPairs ContentsApart (with_content x (employed i))
    apart_more = entered-with number_of ContentsApart turned-apart x (employed i) st.apart away

    pub employing-Stands : IsLaidOut x → IsSomeones i (own_of x)
        → (i.settings.acul ≡ 0 → IsOwn i.own (own_of x)) → Stands (employing i x)
    employing-Stands laid someones own =
        let is = merged-left number_of x i.contents i.singles each_other.0 in
        record {
          orderly = employing-IsOrderly i st.orderly x new laid;
          apart = subst (AllPairs ContentsApart) (sym is) apart_more;
          someones = All-entered number_of (λ c. IsSomeones i (own_of c)) x i.contents someones
              st.someones;
          owned = st.owned;
          home = λ off. All-entered number_of (λ c. IsOwn i.own (own_of c)) x i.contents (own off)
              (st.home off);
        }

    pub employing_single-Stands : IsLaidOutAlone x → IsOwn i.own (own_of x)
        → Stands (record i { singles = with_content x i.singles })
    employing_single-Stands laid own =
        let is = merged-right number_of x i.contents i.singles each_other.0 in
        record {
          orderly = employing_single-IsOrderly i st.orderly x new laid;
          apart = subst (AllPairs ContentsApart) (sym is) apart_more;
          someones = st.someones;
          owned = All-entered number_of (λ c. IsOwn i.own (own_of c)) x i.singles own st.owned;
          home = st.home;
        }

-- the carrier of a plan is none that is employed, and meets none
module _ (i : Instance) (need : ℕ) (p : CarrierPlan) (st : Stands i) (asked : plan i need ≡ Ok p)
  where
    other-carrier : (c : Content) → IsSomeones i (own_of c) → c.number ≢ p.number
    other-carrier c (inl own) same =
        let used : is_used p.number i.own ≡ true =
        ap (λ n. is_used n i.own) (sym same) ∙ ap is_some own in
        absurd (let never : true ≡ false =
        sym used ∙ other-numbers i need p st.orderly.kept asked in cc)
    other-carrier c (inr foreign) same =
        let has = planned-numbered i need p st.orderly.kept asked in
        foreign.other (omega (arith, has.0, same), omega (arith, has.1, same))

    new_number : All (λ c. c.number ≢ p.number) (employed i)
    new_number = All-weaker (λ c. IsSomeones i (own_of c)) (λ c. c.number ≢ p.number) other-carrier
        (employed i) (employed-someones i st)

    pub planned-absent : has_content p.number (employed i) ≡ false
    planned-absent = absent-among p.number (employed i) new_number

    each_new : All (λ c. c.number ≢ p.number) i.contents × All (λ c. c.number ≢ p.number) i.singles
    each_new = merged-each number_of (λ c. c.number ≢ p.number) i.contents i.singles new_number

    pub planned-new : All (λ c. c.number ≢ p.number) i.contents
    planned-new = each_new.0

    pub planned-alone : All (λ c. c.number ≢ p.number) i.singles
    planned-alone = each_new.1

    abbrev planned_content : Content
    planned_content = created_content i.number Multi p

    meets_not : (c : Content) → IsWhole c → IsSomeones i (own_of c)
        → ContentsApart planned_content c
    meets_not c whole (inl own) =
        let beside : SegmentApart p.base p.pages (segment_of (own_of c)) =
        item_at-All own_number (λ o. SegmentApart p.base p.pages (segment_of o)) c.number
        (own_of c) i.own
        (free-own p.base p.pages i.own (planned-free i need p st.orderly.kept asked))
        own in
        apart_from planned_content c p.pages refl whole beside
    meets_not c whole (inr foreign) =
        let within = planned-within i need p st.orderly.kept asked in
        apart_from planned_content c p.pages refl whole (elim foreign.outside [
          | inl before ↦ inl (omega (arith, before, within.0))
          | inr behind ↦ inr (omega (arith, behind, within.1))
        ])

    meets_none : All (ContentsApart planned_content) (employed i)
    meets_none = λ k d within.
        meets_not (get_or (employed i) k d) (employed-whole i st k d within)
        (employed-someones i st k d within)

    pub planned-apart : All (ContentsApart planned_content) i.contents
    planned-apart = (merged-each number_of (ContentsApart planned_content)
        i.contents i.singles meets_none).0

    -- the instance that owns it too
    abbrev owning : Instance
    owning = record i { own = with_own (planned_own p) i.own; created = p.birth }

    same_as_before : (c : Content) → c.number ≢ p.number
        → SameOwn i.own (with_own (planned_own p) i.own) (own_of c)
    same_as_before c other = item_at-old own_number c.number (planned_own p) i.own other

    owning-Stands : Stands owning
    owning-Stands = record {
      orderly = owning-IsOrderly i (with_own (planned_own p) i.own) p.birth st.orderly
          (IsKept-made i need p st.orderly.kept asked);
      apart = st.apart;
      someones = all-someones i (with_own (planned_own p) i.own) i.contents
          (λ k d within. same_as_before (get_or i.contents k d) (planned-new k d within))
          st.someones;
      owned = all-own i (with_own (planned_own p) i.own) i.singles
          (λ k d within. same_as_before (get_or i.singles k d) (planned-alone k d within)) st.owned;
      home = λ off. all-own i (with_own (planned_own p) i.own) i.contents
          (λ k d within. same_as_before (get_or i.contents k d) (planned-new k d within))
          (st.home off);
    }

    own_found : IsOwn (with_own (planned_own p) i.own) (planned_own p)
    own_found = item_at-new own_number (planned_own p) i.own
        (unused-All p.number i.own (other-numbers i need p st.orderly.kept asked))

    made_own : IsOwn (with_own (planned_own p) i.own) (own_of planned_content)
    made_own = subst (IsOwn (with_own (planned_own p) i.own))
        (sym (own_of-made i need p st.orderly.kept asked)) own_found

    -- a planned multiblock carrier comes
    pub creating-Stands : Stands (creating i p)
    creating-Stands =
        employing-Stands owning planned_content owning-Stands
        (absent-none p.number (employed i) planned-absent) meets_none
        (IsLaidOut-made i need p st.orderly.kept asked)
        (inl made_own) (λ off. made_own)

    -- a planned singleblock carrier comes with its block
    pub creating_single-Stands : (name : ℕ) → 6 ≤ need → need % 2 ≡ 0
        → Stands (creating_single i p need name)
    creating_single-Stands name least even =
        let x : Content = created_single i.number p need name in
        employing_single-Stands owning x owning-Stands
        (absent-none p.number (employed i) planned-absent) meets_none
        (created_single-IsLaidOutAlone i need name p st.orderly.kept asked least even)
        (subst (IsOwn (with_own (planned_own p) i.own))
        (sym (own_of-made i need p st.orderly.kept asked)) own_found)

-- the candidate is a gap of at least `need` units, in the carrier of its number
abbrev pub IsOwnGap : ℕ → List Content → Candidate → Type 0
IsOwnGap need cs x = IsOwned cs x × (need ≤ x.size)

module _ (need : ℕ) (cs : List Content) (rising : IsRising cs) (sound : All IsLaidOut cs) where
  abbrev Has : Candidate → Type 0
  Has x = IsOwnGap need cs x

  among-owned : (s : Strategy) (depth : ℕ) → IfSome (choice_among s depth need cs) Has
  among-owned s depth =
      let all = candidates cs in
      if_some (choice_among s depth need cs) (IsLarge need all) Has
      (λ x large. (candidate-IsOwned x cs rising sound large.0, large.1))
      (first-All (IsLarge need all) (takes_first s) None
      (large_enough need (inspected_by s depth all)) tt
      (large_among need all (inspected_by s depth all) (inspected_by-among s depth all)))

  -- a gap of one of some carriers is one of all
  still_there : (p : Content → Bool) (x : Candidate) → IsOwned (filter p cs) x → IsOwned cs x
  still_there p x (c, there, size) =
      let among : Contains cs c = item_at-All number_of (Contains cs) x.number c (filter p cs)
      (All-filter p (Contains cs) cs (All-contains_itself cs)) there in
      let is = item_at-key number_of x.number c (filter p cs) there in (
        c,
        ap (content_of cs) (sym (ap number_of among.2 ∙ is))
            ∙ item_at-each number_of among.0 c cs rising among.1 ∙ ap Some among.2,
        size,
      )

  empty-owned : IfSome (choice_empty need cs) Has
  empty-owned =
      let some = filter is_empty_multi cs in
      let all = candidates some in
      if_some (choice_empty need cs) (IsLarge need all) Has
      (λ x large. (
        still_there is_empty_multi x
            (candidate-IsOwned x some (AllPairs-filter (IsBelow number_of) is_empty_multi cs rising)
            (All-filter is_empty_multi IsLaidOut cs sound) large.0),
        large.1,
      ))
      (first-All (IsLarge need all) lower None (large_enough need all) tt
      (large_among need all all (All-contains_itself all)))

  either : (asked : Bool) (found other : Option Candidate) → IfSome found Has → IfSome other Has
      → IfSome (or_else asked found other) Has
  either asked (Some x) other h k = h
  either true None other h k = k
  either false None other h k = tt

  pub chosen-owned : (s : Settings) → IfSome (choice_for s need cs) Has
  chosen-owned s = either (may_miss s.strategy) (choice_among s.strategy s.mbsd need cs)
      (choice_empty need cs) (among-owned s.strategy s.mbsd) empty-owned

-- the chosen spot has a gap that is large enough
pub chosen_spot-HasGap : (i : Instance) (need : ℕ) (spot : Spot) → Stands i
    → chosen_spot i need ≡ Some spot → HasGap need spot.carrier spot.offset i.contents
chosen_spot-HasGap i need spot st is =
    let has : Spot → Type 0 = λ at. HasGap need at.carrier at.offset i.contents in
    let o = choice_for i.settings need i.contents in
    let gap = if_some o (IsOwnGap need i.contents) (λ x. has (spot_of x))
    (λ x own. (own.0.0, own.0.1, omega (arith, own.0.2, own.1)))
    (chosen-owned need i.contents st.orderly.rising st.orderly.laid i.settings) in
    some_holds (option_map spot_of o) spot has is (some_map spot_of has o gap)

-- a block is placed there
pub chosen-Stands : (i : Instance) (need name : ℕ) (spot : Spot) → Stands i → 6 ≤ need
    → need % 2 ≡ 0 → chosen_spot i need ≡ Some spot → Stands (placing_at i spot need name)
chosen-Stands i need name spot st least even is = placing-Stands i spot need name st
    (chosen_spot-HasGap i need spot st is) least even

-- an instance before its first operation, without a main carrier and with one
new_without : (s : Settings) (number first pages : ℕ) → IsValid s
    → (1 ≤ number) × (number ≤ MAX_SCHEDULERS)
    → first + pages ≤ MAX_PAGES
    → Stands (record {
      settings = s;
      number = number;
      first = first;
      end = first + pages;
      own = [];
      contents = [];
      singles = [];
      created = 0;
      count = most_count s;
    })
new_without s number first pages valid own within = record {
  orderly = record {
    kept = record {
      valid = valid;
      instance = own;
      rising = pairs_nil (IsBelow own_number);
      numbers = All-nil (HasNumberIn (first_number number) (first_number number + NUMBERS));
      pages = All-nil HasPages;
      within = within;
      laid = omega arith;
    };
    rising = pairs_nil (IsBelow number_of);
    rising_singles = pairs_nil (IsBelow number_of);
    once = pairs_nil (IsBelow number_of);
    laid = All-nil IsLaidOut;
    alone = All-nil IsLaidOutAlone;
  };
  apart = pairs_nil ContentsApart;
  someones = All-nil _;
  owned = All-nil _;
  home = λ off. All-nil _;
}

new_with : (s : Settings) (number first pages : ℕ) → IsValid s
    → (1 ≤ number) × (number ≤ MAX_SCHEDULERS)
    → first + pages ≤ MAX_PAGES → pages_for s.mmbcs ≤ pages → 0 < s.mmbcs
    → Stands (record {
      settings = s;
      number = number;
      first = first;
      end = first + pages;
      own = map own_of (main_content s number first ∷ []);
      contents = main_content s number first ∷ [];
      singles = [];
      created = 1;
      count = most_count s;
    })
new_with s number first pages valid own within main some =
    let m = main_content s number first in
    let o = own_of m in
    let n : ℕ = pages_for s.mmbcs in
    let begun : Instance = record {
      settings = s;
      number = number;
      first = first;
      end = first + pages;
      own = map own_of (m ∷ []);
      contents = m ∷ [];
      singles = [];
      created = 1;
      count = most_count s;
    } in
    let one : 1 ≤ n = omega arith in
    let same = pages_of_units n in
    record {
      orderly = record {
        kept = record {
          valid = valid;
          instance = own;
          rising = AllPairs-cons (IsBelow own_number) o [] (All-nil (IsBelow own_number o))
              (pairs_nil (IsBelow own_number));
          numbers = All-cons (HasNumberIn (first_number number) (first_number number + NUMBERS)) o []
              (omega arith, omega arith)
              (All-nil (HasNumberIn (first_number number) (first_number number + NUMBERS)));
          pages = All-cons HasPages o [] (omega (arith, one, same)) (All-nil HasPages);
          within = within;
          laid = (omega arith, omega (arith, one, same), omega (arith, main, same));
        };
        rising = AllPairs-cons (IsBelow number_of) m [] (All-nil (IsBelow number_of m))
            (pairs_nil (IsBelow number_of));
        rising_singles = pairs_nil (IsBelow number_of);
        once = AllPairs-cons (IsBelow number_of) m [] (All-nil (IsBelow number_of m))
            (pairs_nil (IsBelow number_of));
        laid = All-cons IsLaidOut m []
            (record {
              whole = (whole_pages n, omega (arith, one, same));
              shared = refl;
              tiled = (
                omega (arith, one),
                record { even = omega arith; whole = λ _. omega (arith, one) },
              );
              low = omega (arith, main, within);
            }) (All-nil IsLaidOut);
        alone = All-nil IsLaidOutAlone;
      };
      apart = AllPairs-cons ContentsApart m [] (All-nil (ContentsApart m))
          (pairs_nil ContentsApart);
      someones = All-cons (λ c. IsSomeones begun (own_of c)) m []
          (inl (item_here own_number o.number o [] refl))
          (All-nil (λ c. IsSomeones begun (own_of c)));
      owned = All-nil (λ c. IsOwn begun.own (own_of c));
      home = λ off. All-cons (λ c. IsOwn begun.own (own_of c)) m []
          (item_here own_number o.number o [] refl) (All-nil (λ c. IsOwn begun.own (own_of c)));
    }

pub new-Stands : (s : Settings) (number first pages : ℕ) → IsValid s
    → (1 ≤ number) × (number ≤ MAX_SCHEDULERS)
    → first + pages ≤ MAX_PAGES → pages_for s.mmbcs ≤ pages
    → Stands (new_instance s number first pages)
new-Stands s number first pages valid own within main =
    let as_list : List Content
    → Type 0 = λ cs. Stands
    (record {
      settings = s;
      number = number;
      first = first;
      end = first + pages;
      own = map own_of cs;
      contents = cs;
      singles = [];
      created = length cs;
      count = most_count s;
    }) in
    elim (cases_lt 0 s.mmbcs) [
      | inl some ↦ subst as_list
          (sym (cond-true (nat_lt 0 s.mmbcs) (main_content s number first ∷ []) [] (grind arith)))
          (new_with s number first pages valid own within main some)
      | inr none ↦ subst as_list
          (sym (cond-false (nat_lt 0 s.mmbcs) (main_content s number first ∷ []) [] (grind arith)))
          (new_without s number first pages valid own within)
    ]
