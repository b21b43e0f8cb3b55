-- The carriers that are printed, whether carriers migrate or not: the content that is found under a
-- number is that of the carrier where it is, and the block of each held or given name is found.
use Rattle.std.proofs.Common.{◌≡◌, ◌≢◌, ℕ, zero, suc, ◌+◌, ◌<◌, ◌≤◌, List, [], ◌∷◌, map}
use Rattle.std.proofs.Common.{refl, sym, ap, ◌∙◌, subst, inl, inr, arith}
use Rattle.std.specs.Prelude.{Option, None, Some, IsSome, All, flat_map, get_or, option_map, sum_by}
use Rattle.std.specs.List.{range_with_len}
use Rattle.std.specs.Option.{option_and_then, option_or}
use Rattle.std.proofs.lemmas.Bool.{cases_eq}
use Rattle.std.proofs.lemmas.List.{map-append}
use Rattle.std.proofs.lemmas.List.Elements.{All-cons, All-head, All-nil, All-tail}
use Rattle.std.proofs.lemmas.List.Folds.{find-append}
use Rattle.ea_model.specs.declared.carriers.BlockAt.{BlockAt}
use Rattle.ea_model.specs.declared.carriers.Spot.{Spot}
use Rattle.ea_model.specs.declared.carriers.Standing.{Standing}
use Rattle.ea_model.specs.declared.carriers.Standing.TheVariants as standing
use Rattle.ea_model.specs.Content.{Content, block_at, size_of}
use Rattle.ea_model.specs.Instance.{block_in, content_of}
use Rattle.ea_model.specs.Keyed.{has_key}
use Rattle.ea_model.proofs.Rising.{item_at-key, item_here, item_past}
use Rattle.ea_laws.specs.Kept.{number_of}
use Rattle.ea_machine.specs.declared.nodes.Named.{Named}
use Rattle.ea_machine.specs.Actor.{Actor}
use Rattle.ea_machine.specs.Outcome.{actors_of, live_spots, sums}
use Rattle.ea_machine.specs.Outcome.{Present, place_of, present, present_at, present_if}
use Rattle.ea_machine.specs.Outcome.{settling_at}
use Rattle.ea_machine.specs.Owners.{CarrierAt, Absent, Busy, Employed, Pooled, Returning}
use Rattle.ea_machine.specs.Setup.{Setup, greatest_number}
use Rattle.ea_machine.specs.State.{State}
use Rattle.ea_machine.specs.Statistics.{leaving_at}
use Rattle.ea_machine.specs.Sums.{sum_over}
use Rattle.ea_sound.specs.Contents.{seats}
use Rattle.ea_sound.specs.Names.{of_block, of_content, of_named, only_at}
use Rattle.ea_sound.specs.Places.{IsNumber, has_number, none}
use Rattle.ea_sound.specs.Rule.{Kept, all_names, names_of}
use Rattle.ea_sound.proofs.BlockWeights.{only_at-itself, other-content}
use Rattle.ea_sound.proofs.Employers.{busy-hand}
use Rattle.ea_sound.proofs.KeyedWeights.{counts-key, item-hit, sum-item, sum-missing}
use Rattle.ea_sound.proofs.Printed.{hand-leaves, has-number, of_option, printed-all}
use Rattle.ea_sound.proofs.SoundOwners.{content-number, number-once}
use Rattle.ea_sound.proofs.SoundPlaces.{away-on, sound-place}
use Rattle.ea_sound.proofs.StandingNodes.{all-parts}
use Rattle.ea_sound.proofs.Totals.{total-part}
use Rattle.ea_sound.proofs.Ranged.{sum-flat}
use Rattle.ea_sound.proofs.Weights.{sum-append, sum-map, sum-same, sum-zero, sum_by-sum_over}

abbrev pub content_in : Present → Content
content_in p = p.content

abbrev HasNumber : ℕ → Present → Type 0
HasNumber c p = p.content.number ≡ c

-- the content of the first of them
abbrev pub first_content : List Present → Option Content
first_content [] = None
first_content (p ∷ ps) = Some p.content

-- a carrier as a list of at most one
abbrev pub listed : Option Present → List Present
listed None = []
listed (Some p) = p ∷ []

pub first-listed : (o : Option Present) → first_content (listed o) ≡ option_map content_in o
first-listed None = refl
first-listed (Some p) = refl

or-none : (o : Option Content) → option_or o None ≡ o
or-none None = refl
or-none (Some x) = refl

-- contents that have the number, and contents that have another
of-number : (c : ℕ) (ps : List Present) → All (HasNumber c) ps
    → content_of (map content_in ps) c ≡ first_content ps
of-number c [] all = refl
of-number c (p ∷ ps) all =
    item_here number_of c p.content (map content_in ps) (All-head (HasNumber c) p ps all)

of-other : (c k : ℕ) (ps : List Present) → c ≢ k → All (HasNumber c) ps
    → content_of (map content_in ps) k ≡ None
of-other c k [] other all = refl
of-other c k (p ∷ ps) other all =
    item_past number_of k p.content (map content_in ps)
    (λ same. other (sym (All-head (HasNumber c) p ps all) ∙ same))
    ∙ of-other c k ps other (All-tail (HasNumber c) p ps all)

-- where each number gives contents of that number, those of one are found under it
module _ (g : ℕ → List Present) (each : (c : ℕ) → All (HasNumber c) (g c)) (k : ℕ) where
  abbrev found_from : ℕ → ℕ → Option Content
  found_from a n = content_of (map content_in (flat_map g (range_with_len a n))) k

  first-and-rest : (a n : ℕ) → found_from a (suc n)
      ≡ option_or (content_of (map content_in (g a)) k) (found_from (a + 1) n)
  first-and-rest a n =
      let rest = flat_map g (range_with_len (a + 1) n) in
      ap (λ xs. content_of xs k) (map-append content_in (g a) rest)
      ∙ find-append (has_key number_of k) (map content_in (g a)) (map content_in rest)

  not-here : (a n : ℕ) → a ≢ k → found_from a (suc n) ≡ found_from (a + 1) n
  not-here a n other = first-and-rest a n
      ∙ ap (λ o. option_or o (found_from (a + 1) n)) (of-other a k (g a) other (each a))

  found-before : (n a : ℕ) → k < a → found_from a n ≡ None
  found-before zero a below = refl
  found-before (suc n) a below = not-here a n (λ same. omega (arith, below, same))
      ∙ found-before n (a + 1) (omega (arith, below))

  found-here : (a n : ℕ) → a ≡ k → found_from a (suc n) ≡ first_content (g k)
  found-here a n same = first-and-rest a n
      ∙ ap (option_or (content_of (map content_in (g a)) k))
      (found-before n (a + 1) (omega (arith, same)))
      ∙ or-none (content_of (map content_in (g a)) k)
      ∙ ap (λ c. content_of (map content_in (g c)) k) same
      ∙ of-number k (g k) (each k)

  found-range : (n a : ℕ) → a ≤ k → k < a + n → found_from a n ≡ first_content (g k)
  found-range zero a from below = absurd (omega (arith, from, below))
  found-range (suc n) a from below = elim (cases_eq a k) [
    | inl same ↦ found-here a n same
    | inr other ↦ not-here a n other
        ∙ found-range n (a + 1) (omega (arith, from, other)) (omega (arith, below))
  ]

if-number : (c i : ℕ) (word : Standing) (o : Option Content)
    → ((x : Content) → o ≡ Some x → x.number ≡ c) → All (HasNumber c) (present_if o word i)
if-number c i word None numbered = All-nil (HasNumber c)
if-number c i word (Some x) numbered =
    All-cons (HasNumber c) _ [] (numbered x refl) (All-nil (HasNumber c))

module _ (e : Setup) (w : State) (k : Kept e w) where
  -- a busy carrier is in the hand of its employer
  pub settling-number : (c i : ℕ) → w.shared.places c ≡ Busy i → (x : Content)
      → settling_at (w.actors i).stage ≡ Some x → x.number ≡ c
  settling-number c i busy x there = has-number c x.number (omega (
    arith,
    busy-hand e w k c i busy,
    hand-leaves (has_number c) none (w.actors i).stage,
    sum-zero none (leaving_at (w.actors i).stage) (λ j d within. refl),
    ap (of_option (has_number c)) there,
  ))

  number-at : (c : ℕ) (p : CarrierAt) → place_of e w c ≡ p
      → All (HasNumber c) (present_at e w c p)
  number-at c Absent at = All-nil (HasNumber c)
  number-at c (Employed i) at = if-number c i standing.Employed _
      (λ x there. item_at-key number_of c x _ there)
  number-at c (Pooled i g x) at = if-number c i standing.Pooled (Some x)
      (λ y same. let is : x ≡ y = cc in
      ap number_of (sym is) ∙ ((sound-place e w k).pooled c i g x at).1)
  number-at c (Busy i) at = if-number c i standing.Busy (settling_at (w.actors i).stage)
      (settling-number c i (away-on e w k c (Busy i) (λ j q. cc) (λ q. cc) at))
  number-at c (Returning i x) at = if-number c i standing.Returning (Some x)
      (λ y same. let is : x ≡ y = cc in
      ap number_of (sym is) ∙ ((sound-place e w k).returning c i x at).1)

  -- all contents that are printed
  abbrev pub contents : List Content
  contents = map content_in (present e w)

  -- the content where the carrier is
  abbrev pub content_at : ℕ → Option Content
  content_at c = first_content (present_at e w c (place_of e w c))

  pub present-found : (c : ℕ) → IsNumber e c → content_of contents c ≡ content_at c
  present-found c number =
      found-range (λ n. present_at e w n (place_of e w n))
      (λ n. number-at n (place_of e w n) refl) c (greatest_number e) 1 number.0
      (omega (arith, number.1))

  -- the block of a name that stands
  pub record IsPrinted (p : Spot) : Type 0 where
    pub number : IsNumber e p.carrier
    pub content : Content
    pub there : content_at p.carrier ≡ Some content
    pub block : IsSome (block_at content.blocks p.offset)

  printed-block : (n : ℕ) (p : Spot) (x : Content) → 1 ≤ of_content (only_at n p) x
      → IsSome (block_at x.blocks p.offset)
  printed-block n p x some = by (block_at x.blocks p.offset) refl where
    other : (c : ℕ) (b : BlockAt) → b.offset ≢ p.offset → of_block (only_at n p) c b ≡ 0
    other c b away = grind (arith, away)

    by : (o : Option BlockAt) → block_at x.blocks p.offset ≡ o → IsSome o
    by (Some b) q = refl
    by None q = absurd (omega (
      arith,
      some,
      sum-missing (λ (b : BlockAt). b.offset) (of_block (only_at n p) x.number) p.offset x.blocks
          (other x.number) q,
    ))

  pub stands-printed : (n : ℕ) (p : Spot) → 1 ≤ all_names e (only_at n p) w → IsPrinted p
  stands-printed n p stands =
      let (x, found, some) = item-hit number_of (of_content (only_at n p)) p.carrier contents
      (other-content n p)
      (omega (arith, printed-all e w k (has_number p.carrier), number-once e w k p.carrier))
      (omega (
        arith,
        stands,
        k.names.balance (only_at n p),
        printed-all e w k (of_content (only_at n p)),
      )) in
      let number = content-number e w k p.carrier (omega (
        arith,
        printed-all e w k (has_number p.carrier),
        sum-item number_of (has_number p.carrier) p.carrier x contents found,
        counts-key number_of p.carrier x (item_at-key number_of p.carrier x contents found),
      )) in
      record {
        number = number;
        content = x;
        there = subst (λ o. o ≡ Some x) (present-found p.carrier number) found;
        block = printed-block n p x some;
      }

  -- of each held name, and of each given one
  pub held-printed : (i : ℕ) → i < seats e
      → All (λ (h : Named). IsPrinted h.spot) (w.actors i).held
  held-printed i seat = all-parts (λ (h : Named). IsPrinted h.spot) (w.actors i).held
      (λ h part. stands-printed h.name h.spot (omega (
        arith,
        only_at-itself h.name h.spot,
        part (of_named (only_at h.name h.spot)),
        total-part (names_of (only_at h.name h.spot)) w.actors i (seats e) seat,
      )))

  pub given-printed : All (λ (h : Named). IsPrinted h.spot) w.shared.given
  given-printed = all-parts (λ (h : Named). IsPrinted h.spot) w.shared.given
      (λ h part. stands-printed h.name h.spot (omega (
        arith,
        only_at-itself h.name h.spot,
        part (of_named (only_at h.name h.spot)),
      )))

  -- the units of the blocks of names
  abbrev pub of_names : List Named → ℕ
  of_names names = sum_by (λ (n : Named). size_of (block_in contents n.spot)) names

  abbrev size_at : Spot → ℕ
  size_at p = size_of (block_in contents p)

  abbrev spots : Actor → List Spot
  spots b = map (λ (n : Named). n.spot) b.held

  spots-sum : (names : List Named)
      → sum_over size_at (map (λ (n : Named). n.spot) names) ≡ of_names names
  spots-sum names = sum-map size_at (λ (n : Named). n.spot) names
      ∙ sym (sum_by-sum_over (λ (n : Named). size_at n.spot) names)

  held-sum : (bs : List Actor)
      → sum_over (λ b. sum_over size_at (spots b)) bs ≡ sum_by (λ (b : Actor). of_names b.held) bs
  held-sum bs = sum-same _ (λ (b : Actor). of_names b.held) bs
      (λ j d within. spots-sum (get_or bs j d).held)
      ∙ sym (sum_by-sum_over (λ (b : Actor). of_names b.held) bs)

  -- all live units, name by name
  pub live-named : (sums e w).live
      ≡ sum_by (λ (b : Actor). of_names b.held) (actors_of e w) + of_names w.shared.given
  live-named = omega (
    arith,
    sum_by-sum_over size_at (live_spots e w),
    sum-append size_at (flat_map spots (actors_of e w))
        (map (λ (n : Named). n.spot) w.shared.given),
    sum-flat size_at spots (actors_of e w),
    held-sum (actors_of e w),
    spots-sum w.shared.given,
  )
