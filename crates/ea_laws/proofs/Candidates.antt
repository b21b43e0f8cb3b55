-- Where the gaps of all carriers lie.
use Rattle.std.proofs.Common.{◌≡◌, ◌≢◌, ℕ, ◌+◌, ◌*◌, ◌-◌, ◌<◌, ◌≤◌, Bool, true, List, [], ◌∷◌, refl}
use Rattle.std.proofs.Common.{sym, ap, ◌∙◌, subst, inl, inr, arith}
use Rattle.std.specs.Prelude.{Some, All, AllPairs, Contains, ◌⊎◌, filter, nat_le}
use Rattle.std.proofs.lemmas.Bool.{leb-true, cases_lt, cond-true, le-leb}
use Rattle.std.proofs.lemmas.List.Elements.{filter_passes, All-nil, All-cons, All-head, All-tail}
use Rattle.std.proofs.lemmas.List.Elements.{All-append, All-map, All-weaker, All-same, All-filter}
use Rattle.std.proofs.lemmas.List.Elements.{All-contains}
use Rattle.ea_model.specs.declared.carriers.BlockAt.{BlockAt}
use Rattle.ea_model.specs.declared.carriers.Candidate.{Candidate}
use Rattle.ea_model.specs.declared.carriers.Kind.{Kind}
use Rattle.ea_model.specs.declared.carriers.Kind.TheVariants.{Main, Multi, Single}
use Rattle.ea_model.specs.declared.carriers.Gap.{Gap}
use Rattle.ea_model.specs.Content.{Content, gap, gaps, gaps_of, gap_at, Tiled}
use Rattle.ea_model.specs.Strategies.{candidate, candidates, candidates_in, large_enough}
use Rattle.ea_model.specs.Instance.{content_of}
use Rattle.ea_model.proofs.First.{both_All}
use Rattle.ea_laws.proofs.Chosen.{Begins, gap_none, gap_some, gaps-Begins}
use Rattle.ea_laws.proofs.Tiling.{Tiled-allocated}
use Rattle.ea_model.proofs.Pairs.{pairs_nil, pairs_head, pairs_tail, pairs_append, pairs_map}
use Rattle.ea_model.proofs.Rising.{item_at-each}
use Rattle.ea_laws.specs.Kept.{number_of, IsRising, IsLaidOut, ContentsApart}

-- a gap of some units, from `at` on and up to `end`
pub record Inside (at end : ℕ) (g : Gap) : Type 0 where
  pub behind : at ≤ g.offset
  pub some : 1 ≤ g.size
  pub within : g.offset + g.size ≤ end

gap_Inside : (a b at end : ℕ) → at ≤ a → b ≤ end → All (Inside at end) (gap a b)
gap_Inside a b at end low high =
    elim (cases_lt a b) [
      | inl lt ↦
          All-same (Inside at end) (gap a b) (record { offset = a; size = b - a } ∷ [])
          (gap_some a b lt)
          (All-cons (Inside at end) (record { offset = a; size = b - a }) []
          (record { behind = low; some = omega arith; within = omega arith })
          (All-nil (Inside at end)))
      | inr le ↦ All-same (Inside at end) (gap a b) [] (gap_none a b le) (All-nil (Inside at end))
    ]

pub gaps_Inside : (at end : ℕ) (bs : List BlockAt) → Tiled at end bs
    → All (Inside at end) (gaps at end bs)
gaps_Inside at end [] t = gap_Inside at end at end (omega arith) (omega arith)
gaps_Inside at end (b ∷ bs) t =
    let upto = Tiled-allocated (b.offset + b.size) end bs t.4 in
    All-append (Inside at end) (gap at b.offset) (gaps (b.offset + b.size) end bs)
    (gap_Inside at b.offset at end (omega arith) (omega arith))
    (All-weaker (Inside (b.offset + b.size) end) (Inside at end)
    (λ g i. record { behind = omega (arith, i.behind, t.0); some = i.some; within = i.within })
    (gaps (b.offset + b.size) end bs) (gaps_Inside (b.offset + b.size) end bs t.4))

-- the offset of one gap is before that of another
abbrev IsBefore : Gap → Gap → Type 0
IsBefore g h = g.offset < h.offset

gap_rises : (a b : ℕ) → AllPairs IsBefore (gap a b)
gap_rises a b =
    elim (cases_lt a b) [
      | inl lt ↦ subst (AllPairs IsBefore) (sym (gap_some a b lt))
          (λ i j d below within. absurd (omega arith))
      | inr le ↦ subst (AllPairs IsBefore) (sym (gap_none a b le)) (pairs_nil IsBefore)
    ]

gaps_rise : (at end : ℕ) (bs : List BlockAt) → Tiled at end bs → AllPairs IsBefore (gaps at end bs)
gaps_rise at end [] t = gap_rises at end
gaps_rise at end (b ∷ bs) t =
    let rest : List Gap = gaps (b.offset + b.size) end bs in
    pairs_append IsBefore (gap at b.offset) rest (gap_rises at b.offset)
    (gaps_rise (b.offset + b.size) end bs t.4)
    (All-weaker (Inside at b.offset) (λ g. All (IsBefore g) rest)
    (λ g i. All-weaker (Inside (b.offset + b.size) end) (IsBefore g)
    (λ h j. omega (arith, i.within, i.some, j.behind, t.2)) rest
    (gaps_Inside (b.offset + b.size) end bs t.4))
    (gap at b.offset) (gap_Inside at b.offset at b.offset (omega arith) (omega arith)))

pub in_kind : (P : Candidate → Type 0) (k : Kind) (c : Content)
    → All (λ g. P (candidate c g)) (gaps_of c) → All P (candidates_in k c)
in_kind P Main c h = All-map P (candidate c) (gaps_of c) h
in_kind P Multi c h = All-map P (candidate c) (gaps_of c) h
in_kind P Single c h = All-nil P

-- what holds of the gaps of each carrier holds of all candidates
pub candidates_All : (P : Candidate → Type 0) (cs : List Content)
    → All (λ c. All (λ g. P (candidate c g)) (gaps_of c)) cs → All P (candidates cs)
candidates_All P [] h = All-nil P
candidates_All P (c ∷ cs) h =
    let each : Content → Type 0 = λ d. All (λ g. P (candidate d g)) (gaps_of d) in
    All-append P (candidates_in c.kind c) (candidates cs)
    (in_kind P c.kind c (All-head each c cs h)) (candidates_All P cs (All-tail each c cs h))

-- no gap is empty
pub gap-some : (cs : List Content) → All IsLaidOut cs → All (λ x. 1 ≤ x.size) (candidates cs)
gap-some cs sound =
    candidates_All (λ x. 1 ≤ x.size) cs
    (All-weaker IsLaidOut (λ c. All (λ g. 1 ≤ g.size) (gaps_of c))
    (λ c s. All-weaker (Inside 8 c.units) (λ g. 1 ≤ g.size) (λ g i. i.some) (gaps_of c)
    (gaps_Inside 8 c.units c.blocks s.tiled)) cs sound)

passing_all : {A : Type 0} (p : A → Bool) (xs : List A) → All (λ x. p x ≡ true) xs
    → filter p xs ≡ xs
passing_all p [] h = refl
passing_all p (x ∷ xs) h =
    cond-true (p x) (x ∷ filter p xs) (filter p xs) (All-head (λ y. p y ≡ true) x xs h)
    ∙ ap (λ l. x ∷ l) (passing_all p xs (All-tail (λ y. p y ≡ true) x xs h))

-- so each is large enough for a unit
pub large-all : (cs : List Content) → All IsLaidOut cs
    → large_enough 1 (candidates cs) ≡ candidates cs
large-all cs sound = passing_all (λ x. nat_le 1 x.size) (candidates cs)
    (All-weaker (λ x. 1 ≤ x.size) (λ x. nat_le 1 x.size ≡ true) (λ x le. le-leb 1 x.size le)
    (candidates cs) (gap-some cs sound))

-- the address isn't one of the carrier
abbrev pub IsOutside : Content → ℕ → Type 0
IsOutside c address = (address < 512 * c.base) ⊎ (512 * c.base + c.units ≤ address)

outside : (c d : Content) (address : ℕ) → ContentsApart c d → 512 * d.base ≤ address
    → address < 512 * d.base + d.units → IsOutside c address
outside c d address apart low high =
    elim apart [ inl le ↦ inr (omega arith) | inr le ↦ inl (omega arith) ]

-- the gaps of other carriers lie outside
pub others_outside : (c : Content) (cs : List Content) → All IsLaidOut cs → All (ContentsApart c) cs
    → All (λ x. IsOutside c x.address) (candidates cs)
others_outside c cs sound apart =
    candidates_All (λ x. IsOutside c x.address) cs
    (both_All IsLaidOut (ContentsApart c)
    (λ d. All (λ g. IsOutside c (512 * d.base + g.offset)) (gaps_of d))
    (λ d s away. All-weaker (Inside 8 d.units) (λ g. IsOutside c (512 * d.base + g.offset))
    (λ g i. outside c d (512 * d.base + g.offset) away (omega arith)
    (omega (arith, i.within, i.some))) (gaps_of d) (gaps_Inside 8 d.units d.blocks s.tiled))
    cs sound apart)

-- two candidates lie at two addresses
abbrev pub IsElsewhere : Candidate → Candidate → Type 0
IsElsewhere x y = x.address ≢ y.address

kind_distinct : (k : Kind) (c : Content) → AllPairs IsBefore (gaps_of c)
    → AllPairs IsElsewhere (candidates_in k c)
kind_distinct Main c h = pairs_map IsElsewhere (candidate c) (gaps_of c)
    (λ i j d lt within e. omega (arith, h i j d lt within, e))
kind_distinct Multi c h = pairs_map IsElsewhere (candidate c) (gaps_of c)
    (λ i j d lt within e. omega (arith, h i j d lt within, e))
kind_distinct Single c h = pairs_nil IsElsewhere

pub candidates-distinct : (cs : List Content) → All IsLaidOut cs → AllPairs ContentsApart cs
    → AllPairs IsElsewhere (candidates cs)
candidates-distinct [] sound apart = pairs_nil IsElsewhere
candidates-distinct (c ∷ cs) sound apart =
    let here = All-head IsLaidOut c cs sound in
    let rest = All-tail IsLaidOut c cs sound in
    let away = others_outside c cs rest (pairs_head ContentsApart c cs apart) in
    pairs_append IsElsewhere (candidates_in c.kind c) (candidates cs)
    (kind_distinct c.kind c (gaps_rise 8 c.units c.blocks here.tiled))
    (candidates-distinct cs rest (pairs_tail ContentsApart c cs apart))
    (in_kind (λ x. All (IsElsewhere x) (candidates cs)) c.kind c
    (All-weaker (Inside 8 c.units) (λ g. All (IsElsewhere (candidate c g)) (candidates cs))
    (λ g i. All-weaker (λ y. IsOutside c y.address) (IsElsewhere (candidate c g))
    (λ y out e. elim out [
      | inl lt ↦ omega (arith, e)
      | inr le ↦ omega
          (arith, e, i.within, i.some)
    ]) (candidates cs) away)
    (gaps_of c) (gaps_Inside 8 c.units c.blocks here.tiled)))

-- the candidate is the gap that begins at its offset, in the carrier of its number
abbrev pub IsOwned : List Content → Candidate → Type 0
IsOwned cs x = (c : Content) × (content_of cs x.number ≡ Some c)
    × (gap_at (gaps_of c) x.offset ≡ x.size)

owned_All : (cs : List Content) → IsRising cs → All IsLaidOut cs → All (IsOwned cs) (candidates cs)
owned_All cs rising sound =
    candidates_All (IsOwned cs) cs
    (both_All (λ c. content_of cs c.number ≡ Some c) IsLaidOut
    (λ c. All (λ g. IsOwned cs (candidate c g)) (gaps_of c))
    (λ c there s. All-weaker (Begins 8 (gaps_of c)) (λ g. IsOwned cs (candidate c g))
    (λ g b. (c, there, b.size)) (gaps_of c) (gaps-Begins 8 c.units c.blocks s.tiled))
    cs (λ i d within. item_at-each number_of i d cs rising within) sound)

-- each candidate is a gap of its carrier
pub candidate-IsOwned : (x : Candidate) (cs : List Content) → IsRising cs → All IsLaidOut cs
    → Contains (candidates cs) x → IsOwned cs x
candidate-IsOwned x cs rising sound among = All-contains (IsOwned cs) (candidates cs) x
    (owned_All cs rising sound) among

-- a candidate of at least that many units
abbrev pub IsLarge : ℕ → List Candidate → Candidate → Type 0
IsLarge need xs x = Contains xs x × (need ≤ x.size)

pub large_among : (need : ℕ) (all xs : List Candidate) → All (Contains all) xs
    → All (IsLarge need all) (large_enough need xs)
large_among need all xs a =
    let fits = filter_passes (λ (x : Candidate). nat_le need x.size) xs in
    let among = All-filter (λ (x : Candidate). nat_le need x.size) (Contains all) xs a in
    λ k d within. (among k d within, leb-true need _ (fits k d within))
