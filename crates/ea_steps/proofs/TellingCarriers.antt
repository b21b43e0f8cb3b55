-- The lines of the carriers that went, were made or have fewer pages by a step are those that code
-- makes of what it finds.
use Rattle.std.proofs.Common.{◌≡◌, ◌≢◌, ◌⊎◌, ℕ, ◌<◌, ◌≤◌, List, [], ◌∷◌, ◌++◌, Bool, true, false, map}
use Rattle.std.proofs.Common.{refl, sym, ap, ◌∙◌, subst, inl, inr, arith}
use Rattle.std.specs.Prelude.{Option, None, Some, filter, flat_map, is_none, is_some, not, option_map}
use Rattle.std.specs.Prelude.{nat_lt, ◌==◌, ◌&&◌, ◌||◌}
use Rattle.std.specs.List.{AllByRecursion}
use Rattle.std.specs.Option.{option_map_or}
use Rattle.std.proofs.lemmas.Bool.{and_parts, cases_eq}
use Rattle.std.specs.List.{list_any}
use Rattle.std.specs.List.Sorted.{IsNonDecreasingBy, IsPermutation, IsSorted}
use Rattle.std.specs.Option.{option_and_then}
use Rattle.std.specs.Ordering.{nat_cmp}
use Rattle.std.proofs.Common.{suc}
use Rattle.std.proofs.lemmas.List.{append-nil}
use Rattle.std.proofs.lemmas.List.Sorted.{IsNonDecreasingBy-from_sort, list_any-IsPermutation}
use Rattle.ea_model.specs.declared.carriers.CarrierLine.{CarrierLine}
use Rattle.ea_model.specs.Content.{Content}
use Rattle.ea_model.proofs.Rising.{item_at-key}
use Rattle.ea_machine.specs.Outcome.{Present, line_of, present}
use Rattle.ea_machine.specs.Setup.{Setup}
use Rattle.ea_steps.specs.ChangedLines.{gone_if, gone_line, gone_lines, has_gone, is_number}
use Rattle.ea_steps.specs.ChangedLines.{made_line_of, made_lines, shrunk_by, shrunk_line_if}
use Rattle.ea_steps.specs.ChangedLines.{shrunk_lines}
use Rattle.ea_steps.specs.Changes.{gone, made, pages_of, shrunk}
use Rattle.ea_steps.specs.FoundCarriers.{first_number}
use Rattle.ea_steps.specs.FoundCarriers.{carrier_there, content_if, goes_away, is_made, made_at}
use Rattle.ea_steps.specs.FoundCarriers.{made_carriers, made_number, shrunk_carriers, shrunk_if}
use Rattle.ea_steps.specs.FoundCarriers.{shrunk_of}
use Rattle.ea_steps.specs.Steps.{Step}
use Rattle.ea_steps.specs.Text.{gone_text, made_text, shrunk_text}
use Rattle.ea_steps.specs.Touched.{may_go_in, may_shrink_in}
use Rattle.ea_steps.proofs.ByName.{by-recursion}
use Rattle.ea_steps.proofs.Rising.{Has, IsRising}
use Rattle.ea_steps.proofs.ShownCarriers.{filter-has, has-filter}
use Rattle.ea_steps.proofs.ShrunkCarriers.{IsFew}

-- numbers that don't fall
abbrev pub NeverFalls : List ℕ → Type 0
NeverFalls [] = Unit {0}
NeverFalls (n ∷ ns) = AllByRecursion (λ m. n ≤ m) ns × NeverFalls ns

-- each once of those that pass
module _ (test : ℕ → Bool) where
  abbrev with_if : Bool → ℕ → List ℕ → List ℕ
  with_if true n ns = n ∷ ns
  with_if false n ns = ns

  abbrev pub once : Option ℕ → List ℕ → List ℕ
  once last [] = []
  once last (n ∷ ns) = with_if (not (is_number last n) && test n) n (once (Some n) ns)

  -- those after a number are greater
  AllMore : Option ℕ → List ℕ → Type 0
  AllMore None ns = Unit {0}
  AllMore (Some m) ns = AllByRecursion (λ n. m < n) ns

  more-weaker : (a b : ℕ) → a ≤ b → (ns : List ℕ) → AllByRecursion (λ n. b < n) ns
      → AllByRecursion (λ n. a < n) ns
  more-weaker a b le [] all = tt
  more-weaker a b le (n ∷ ns) all = (omega (arith, le, all.0), more-weaker a b le ns all.1)

  not-number : (m n : ℕ) → is_number (Some m) n ≡ false → m ≤ n → m < n
  not-number m n other le = grind (arith, other, le)

  first-fact : (m n : ℕ) (b : Bool) → (not (is_number (Some m) n) && b) ≡ true
      → is_number (Some m) n ≡ false
  first-fact m n b q = by (is_number (Some m) n) b q where
    by : (a b : Bool) → (not a && b) ≡ true → a ≡ false
    by false b q = refl
    by true b q = absurd cc

  -- what comes after a number, of numbers that are not less
  once-more : (m : ℕ) (ns : List ℕ) → AllByRecursion (λ n. m ≤ n) ns → NeverFalls ns
      → AllByRecursion (λ n. m < n) (once (Some m) ns)
  once-more m [] all up = tt
  once-more m (n ∷ ns) all up =
      by (not (is_number (Some m) n) && test n) refl
      (more-weaker m n all.0 (once (Some n) ns) (once-more n ns up.0 up.1)) where
        by : (b : Bool) → (not (is_number (Some m) n) && test n) ≡ b
            → AllByRecursion (λ n. m < n) (once (Some n) ns)
            → AllByRecursion (λ n. m < n) (with_if b n (once (Some n) ns))
        by true q rest = (not-number m n (first-fact m n (test n) q) all.0, rest)
        by false q rest = rest

  pub once-rises : (last : Option ℕ) (ns : List ℕ) → NeverFalls ns
      → IsRising (λ n. n) (once last ns)
  once-rises last [] up = tt
  once-rises last (n ∷ ns) up =
      by (not (is_number last n) && test n) (once-more n ns up.0 up.1)
      (once-rises (Some n) ns up.1) where
        by : (b : Bool) → AllByRecursion (λ m. n < m) (once (Some n) ns)
            → IsRising (λ n. n) (once (Some n) ns)
            → IsRising (λ n. n) (with_if b n (once (Some n) ns))
        by true more rises = (more, rises)
        by false more rises = rises

  -- its members
  pub once-has : (k : ℕ) (last : Option ℕ) (ns : List ℕ) → Has k (once last ns)
      → Has k ns × (test k ≡ true)
  once-has k last [] has = absurd has
  once-has k last (n ∷ ns) has =
      by (not (is_number last n) && test n) refl has (once-has k (Some n) ns) where
        by : (b : Bool) → (not (is_number last n) && test n) ≡ b
            → Has k (with_if b n (once (Some n) ns))
            → (Has k (once (Some n) ns) → Has k ns × (test k ≡ true))
            → Has k (n ∷ ns) × (test k ≡ true)
        by true q has rest = elim has [
          | inl same ↦ (inl same, ap test same ∙ (and_parts (not (is_number last n)) (test n) q).1)
          | inr more ↦ (inr (rest more).0, (rest more).1)
        ]
        by false q has rest = (inr (rest has).0, (rest has).1)

  pub has-once : (k : ℕ) (last : Option ℕ) (ns : List ℕ) → is_number last k ≡ false
      → Has k ns → test k ≡ true → Has k (once last ns)
  has-once k last [] other has passes = absurd has
  has-once k last (n ∷ ns) other has passes = elim (cases_eq k n) [
    | inl same ↦ subst (λ b. Has k (with_if b n (once (Some n) ns)))
        (sym (both (is_number last n) (test n)
        (ap (is_number last) (sym same) ∙ other) (ap test (sym same) ∙ passes)))
        (inl same)
    | inr differs ↦ by (not (is_number last n) && test n)
        (has-once k (Some n) ns (not-same n k (λ q. differs (sym q)))
        (later has differs) passes)
  ] where
    both : (a b : Bool) → a ≡ false → b ≡ true → (not a && b) ≡ true
    both a b p q = grind (arith, p, q)

    not-same : (n k : ℕ) → n ≢ k → is_number (Some n) k ≡ false
    not-same n k other = grind (arith, other)

    later : Has k (n ∷ ns) → k ≢ n → Has k ns
    later has differs = elim has [
      | inl same ↦ absurd (differs same)
      | inr more ↦ more
    ]

    by : (b : Bool) → Has k (once (Some n) ns) → Has k (with_if b n (once (Some n) ns))
    by true h = inr h
    by false h = h

-- the lines of those
once-lines : (new : Option ℕ) (found : ℕ → Option CarrierLine) (last : Option ℕ) (ns : List ℕ)
    → gone_lines new found last ns ≡ flat_map gone_line (once (has_gone new found) last ns)
once-lines new found last [] = refl
once-lines new found last (n ∷ ns) =
    by (not (is_number last n) && has_gone new found n) (once-lines new found (Some n) ns) where
      by : (b : Bool) → gone_lines new found (Some n) ns
          ≡ flat_map gone_line (once (has_gone new found) (Some n) ns)
          → gone_if b n ++ gone_lines new found (Some n) ns
          ≡ flat_map gone_line (with_if (has_gone new found) b n
          (once (has_gone new found) (Some n) ns))
      by true rest = ap (λ l. gone_line n ++ l) rest
      by false rest = rest

gone-numbers : (xs : List Content)
    → flat_map gone_text xs ≡ flat_map gone_line (map (λ (x : Content). x.number) xs)
gone-numbers [] = refl
gone-numbers (x ∷ xs) = ap (λ l. gone_text x ++ l) (gone-numbers xs)

module _ (e : Setup) (s : Step) where
  -- the line of a carrier after the step
  abbrev pub line_after : ℕ → Option CarrierLine
  line_after n = option_map line_of (carrier_there e s.after n)

  -- the carriers that went
  module _ (touched sorted : List ℕ)
      (noted : touched ≡ filter (λ n. is_some (carrier_there e s.before n)) (may_go_in e s))
      (up : NeverFalls sorted) (into : (n : ℕ) → Has n sorted → Has n touched)
      (back : (n : ℕ) → Has n touched → Has n sorted)
      (law : (ns : List ℕ) → IsRising (λ n. n) ns
      → ((n : ℕ) → Has n ns → Has n (may_go_in e s) × (goes_away e s n ≡ true))
      → ((n : ℕ) → Has n (may_go_in e s) → goes_away e s n ≡ true → Has n ns)
      → map (λ (x : Content). x.number) (gone e s) ≡ ns) where
    abbrev p : ℕ → Bool
    p n = is_some (carrier_there e s.before n)

    abbrev test : ℕ → Bool
    test = has_gone (made_number s) line_after

    same-none : (o : Option Present) → is_none (option_map line_of o) ≡ is_none o
    same-none None = refl
    same-none (Some q) = refl

    test-is : (n : ℕ) → test n ≡ (is_none (carrier_there e s.after n) || is_made s n)
    test-is n = ap (λ b. is_made s n || b) (same-none (carrier_there e s.after n))
        ∙ swap (is_made s n) (is_none (carrier_there e s.after n)) where
          swap : (a b : Bool) → (a || b) ≡ (b || a)
          swap true true = refl
          swap true false = refl
          swap false true = refl
          swap false false = refl

    pub gone-lines : gone_lines (made_number s) line_after None sorted
        ≡ flat_map gone_text (gone e s)
    gone-lines =
        once-lines (made_number s) line_after None sorted
        ∙ ap (flat_map gone_line) (sym (law (once test None sorted)
        (once-rises test None sorted up)
        (λ n has.
        let (among, passes) = once-has test n None sorted has in
        let (may, there) = has-filter p n (may_go_in e s)
        (subst (Has n) noted (into n among)) in (
          may,
          both (p n) (is_none (carrier_there e s.after n) || is_made s n) there
              (sym (test-is n) ∙ passes),
        ))
        (λ n may goes.
        let (there, left) = and_parts (p n) (is_none (carrier_there e s.after n) || is_made s n)
        goes in
        has-once test n None sorted refl
        (back n (subst (Has n) (sym noted) (filter-has p n (may_go_in e s) may there)))
        (test-is n ∙ left))))
        ∙ sym (gone-numbers (gone e s)) where
          both : (a b : Bool) → a ≡ true → b ≡ true → (a && b) ≡ true
          both a b q r = grind (arith, q, r)

  -- the carrier that was made
  made-line : (o : Option Present)
      → flat_map made_text (content_if o) ≡ made_line_of (option_map line_of o)
  made-line None = refl
  made-line (Some q) = append-nil (made_text q.content)

  made-by : (o : Option ℕ) → flat_map made_text (made_at e o s.after) ≡ made_lines o line_after
  made-by None = refl
  made-by (Some n) = made-line (carrier_there e s.after n)

  pub made-lines : made e s ≡ made_carriers e s
      → flat_map made_text (made e s) ≡ made_lines (made_number s) line_after
  made-lines law = ap (flat_map made_text) law ∙ made-by (made_number s)

  -- the carrier that has fewer pages
  shrunk-line : (b : Bool) (x : Content) (q : Present) → x ≡ q.content
      → flat_map shrunk_text (shrunk_if b x) ≡ shrunk_line_if b (line_of q)
  shrunk-line true x q same =
      append-nil (shrunk_text x) ∙ ap shrunk_text same
  shrunk-line false x q same = refl

  shrunk-found_by : (new : Bool) (px : Present) (oy : Option Present)
      → flat_map shrunk_text (shrunk_of new (Some px) oy)
      ≡ shrunk_by new (line_of px) (option_map line_of oy)
  shrunk-found_by true px None = refl
  shrunk-found_by false px None = refl
  shrunk-found_by true px (Some py) = refl
  shrunk-found_by false px (Some py) =
      shrunk-line (nat_lt (pages_of py.content) (pages_of px.content)) py.content py refl

  shrunk-at : (c : ℕ) (ox : Option Present) → carrier_there e s.before c ≡ ox
      → flat_map shrunk_text (shrunk_of (is_made s c) ox (carrier_there e s.after c))
      ≡ shrunk_lines (made_number s) line_after (option_map line_of ox)
  shrunk-at c None there = refl
  shrunk-at c (Some px) there =
      shrunk-found_by (is_made s c) px (carrier_there e s.after c)
      ∙ ap (λ n. shrunk_by (is_number (made_number s) n) (line_of px) (line_after n))
      (sym (item_at-key (λ (q : Present). q.content.number) c px (present e s.before) there))

  shrunk-few : (ns : List ℕ) → IsFew ns
      → flat_map shrunk_text (flat_map (λ n. shrunk_of (is_made s n)
      (carrier_there e s.before n) (carrier_there e s.after n)) ns)
      ≡ shrunk_lines (made_number s) line_after (option_map line_of
      (option_and_then (carrier_there e s.before) (first_number ns)))
  shrunk-few ns (inl none) = subst Few (sym none) refl where
    Few : List ℕ → Type 0
    Few ms = flat_map shrunk_text (flat_map (λ n. shrunk_of (is_made s n)
        (carrier_there e s.before n) (carrier_there e s.after n)) ms)
        ≡ shrunk_lines (made_number s) line_after (option_map line_of
        (option_and_then (carrier_there e s.before) (first_number ms)))
  shrunk-few ns (inr (c, one)) = subst Few (sym one) (
      ap (flat_map shrunk_text) (append-nil (shrunk_of (is_made s c) (carrier_there e s.before c)
      (carrier_there e s.after c)))
      ∙ shrunk-at c (carrier_there e s.before c) refl
      ) where
        Few : List ℕ → Type 0
        Few ms = flat_map shrunk_text (flat_map (λ n. shrunk_of (is_made s n)
            (carrier_there e s.before n) (carrier_there e s.after n)) ms)
            ≡ shrunk_lines (made_number s) line_after (option_map line_of
            (option_and_then (carrier_there e s.before) (first_number ms)))

  pub shrunk-lines : shrunk e s ≡ shrunk_carriers e s → IsFew (may_shrink_in e s)
      → flat_map shrunk_text (shrunk e s) ≡ shrunk_lines (made_number s) line_after
      (option_map line_of
      (option_and_then (carrier_there e s.before) (first_number (may_shrink_in e s))))
  shrunk-lines law few = ap (flat_map shrunk_text) law ∙ shrunk-few (may_shrink_in e s) few

-- numbers in another order
has-any : (n : ℕ) (xs : List ℕ) → Has n xs → list_any (λ m. m == n) xs ≡ true
has-any n [] has = absurd has
has-any n (x ∷ xs) has = elim has [
  | inl same ↦ ap (λ b. b || list_any (λ m. m == n) xs) (itself x n (sym same))
  | inr more ↦ either (x == n) (list_any (λ m. m == n) xs) (has-any n xs more)
] where
  itself : (m n : ℕ) → m ≡ n → (m == n) ≡ true
  itself m n same = grind (arith, same)

  either : (a b : Bool) → b ≡ true → (a || b) ≡ true
  either true b q = refl
  either false b q = q

any-has : (n : ℕ) (xs : List ℕ) → list_any (λ m. m == n) xs ≡ true → Has n xs
any-has n [] some = absurd cc
any-has n (x ∷ xs) some = elim (cases_eq x n) [
  | inl same ↦ inl (sym same)
  | inr other ↦ inr (any-has n xs (later (x == n) (list_any (λ m. m == n) xs)
      (apart x n other) some))
] where
  apart : (m n : ℕ) → m ≢ n → (m == n) ≡ false
  apart m n other = grind (arith, other)

  later : (a b : Bool) → a ≡ false → (a || b) ≡ true → b ≡ true
  later true b p q = absurd cc
  later false b p q = q

pub order-has : (xs ys : List ℕ) → IsPermutation xs ys → (n : ℕ) → Has n xs → Has n ys
order-has xs ys order n has =
    any-has n ys (sym (list_any-IsPermutation (λ m. m == n) xs ys order) ∙ has-any n xs has)

pub has-order : (xs ys : List ℕ) → IsPermutation xs ys → (n : ℕ) → Has n ys → Has n xs
has-order xs ys order n has =
    any-has n xs (list_any-IsPermutation (λ m. m == n) xs ys order ∙ has-any n ys has)

-- numbers that were sorted
never-falls : (xs : List ℕ) → IsNonDecreasingBy (λ n. n) xs → NeverFalls xs
never-falls [] up = tt
never-falls (x ∷ xs) up = (
  by-recursion (λ m. x ≤ m) xs (λ i d within. up 0 (suc i) d (omega arith) (omega (arith, within))),
  never-falls xs (λ i j d le within. up (suc i) (suc j) d (omega (arith, le)) (omega (arith, within))),
)

pub sorted-rises : (xs : List ℕ) → IsSorted nat_cmp xs → NeverFalls xs
sorted-rises xs sorted = never-falls xs (IsNonDecreasingBy-from_sort (λ n. n) xs sorted)
