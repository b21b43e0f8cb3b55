-- The carriers that are there, by rising number: what is found under a number, and how carriers are
-- counted.
use Rattle.std.proofs.Common.{◌≡◌, ◌≢◌, ◌⊎◌, ℕ, zero, suc, ◌+◌, ◌<◌, ◌≤◌, List, [], ◌∷◌, ◌++◌, Bool}
use Rattle.std.proofs.Common.{true, false, map, refl, sym, ap, ◌∙◌, subst, inl, inr, arith}
use Rattle.std.specs.Prelude.{Option, None, Some, filter, flat_map, option_map, ◌==◌, ◌&&◌, ◌||◌}
use Rattle.std.specs.Prelude.{if◌then◌else◌}
use Rattle.std.specs.List.{AllByRecursion, list_any, range_with_len}
use Rattle.std.specs.Option.{option_map_or}
use Rattle.std.proofs.lemmas.Bool.{cases_eq}
use Rattle.std.proofs.lemmas.List.{map-append}
use Rattle.ea_model.specs.declared.carriers.Standing.{Standing}
use Rattle.ea_model.specs.declared.carriers.Standing.TheVariants as standing
use Rattle.ea_model.specs.Content.{Content}
use Rattle.ea_model.specs.Instance.{content_of, owner_of}
use Rattle.ea_model.specs.Keyed.{item_at}
use Rattle.ea_model.proofs.Rising.{item_at-key, item_at-map, item_here, item_past}
use Rattle.ea_laws.specs.Kept.{number_of}
use Rattle.ea_machine.specs.Outcome.{Present, place_of, present, present_at, present_if}
use Rattle.ea_machine.specs.Outcome.{settling_at}
use Rattle.ea_machine.specs.Owners.{CarrierAt, Absent, Busy, Employed, Pooled, Returning}
use Rattle.ea_machine.specs.Setup.{Setup, greatest_number}
use Rattle.ea_machine.specs.State.{State}
use Rattle.ea_machine.specs.Statistics.{employed_multis, employed_singles}
use Rattle.ea_machine.specs.Sums.{one_if}
use Rattle.ea_sound.specs.Contents.{sum_everywhere}
use Rattle.ea_sound.specs.Places.{has_number}
use Rattle.ea_sound.specs.Rule.{Kept}
use Rattle.ea_sound.proofs.KeyedWeights.{counts-key, item-hit, sum-item}
use Rattle.ea_sound.proofs.PresentContents.{settling-number}
use Rattle.ea_sound.proofs.Printed.{printed-all}
use Rattle.ea_sound.proofs.SoundOwners.{number-once}
use Rattle.ea_sound.proofs.SoundPlaces.{away-on, sound-place}
use Rattle.ea_steps.specs.Changes.{contents, has_carrier, same_carrier}
use Rattle.ea_steps.specs.FoundCarriers.{carrier_there}
use Rattle.ea_steps.proofs.CarrierSums.{numbers-own, of_birth, of_units}
use Rattle.ea_steps.proofs.CarrierWeights.{own_times}
use Rattle.ea_steps.proofs.Rising.{Has, IsRising, all-has}

all-weaker : {A : Type 0} (P Q : A → Type 0) → ((x : A) → P x → Q x) → (xs : List A)
    → AllByRecursion P xs → AllByRecursion Q xs
all-weaker P Q weaker [] all = tt
all-weaker P Q weaker (x ∷ xs) all = (weaker x all.0, all-weaker P Q weaker xs all.1)

-- those that a test leaves
module _ {A : Type 0} (p : A → Bool) where
  filter-by : (x : A) (xs : List A) (b : Bool) → p x ≡ b
      → filter p (x ∷ xs) ≡ (if b then x ∷ filter p xs else filter p xs)
  filter-by x xs b q = ap (λ t. if t then x ∷ filter p xs else filter p xs) q

  pub has-filter : (z : A) (xs : List A) → Has z (filter p xs) → Has z xs × (p z ≡ true)
  has-filter z [] has = absurd has
  has-filter z (x ∷ xs) has = by (p x) refl (has-filter z xs) where
    by : (b : Bool) → p x ≡ b → (Has z (filter p xs) → Has z xs × (p z ≡ true))
        → Has z (x ∷ xs) × (p z ≡ true)
    by true q rest = elim (subst (Has z) (filter-by x xs true q) has) [
      | inl same ↦ (inl same, ap p same ∙ q)
      | inr more ↦ (inr (rest more).0, (rest more).1)
    ]
    by false q rest =
        let t = rest (subst (Has z) (filter-by x xs false q) has) in (inr t.0, t.1)

  pub filter-has : (z : A) (xs : List A) → Has z xs → p z ≡ true → Has z (filter p xs)
  filter-has z [] has passes = absurd has
  filter-has z (x ∷ xs) has passes = by (p x) refl (λ h. filter-has z xs h passes) where
    by : (b : Bool) → p x ≡ b → (Has z xs → Has z (filter p xs)) → Has z (filter p (x ∷ xs))
    by true q rest = subst (Has z) (sym (filter-by x xs true q)) (elim has [
      | inl same ↦ inl same
      | inr more ↦ inr (rest more)
    ])
    by false q rest = subst (Has z) (sym (filter-by x xs false q)) (elim has [
      | inl same ↦ absurd (let never : true ≡ false = sym passes ∙ ap p same ∙ q in cc)
      | inr more ↦ rest more
    ])

  filter-all : (P : A → Type 0) (xs : List A) → AllByRecursion P xs
      → AllByRecursion P (filter p xs)
  filter-all P [] all = tt
  filter-all P (x ∷ xs) all = by (p x) refl (filter-all P xs all.1) where
    by : (b : Bool) → p x ≡ b → AllByRecursion P (filter p xs)
        → AllByRecursion P (filter p (x ∷ xs))
    by true q rest = subst (AllByRecursion P) (sym (filter-by x xs true q)) (all.0, rest)
    by false q rest = subst (AllByRecursion P) (sym (filter-by x xs false q)) rest

  pub filter-rises : (n : A → ℕ) (xs : List A) → IsRising n xs → IsRising n (filter p xs)
  filter-rises n [] rises = tt
  filter-rises n (x ∷ xs) rises = by (p x) refl (filter-rises n xs rises.1) where
    by : (b : Bool) → p x ≡ b → IsRising n (filter p xs) → IsRising n (filter p (x ∷ xs))
    by true q rest = subst (IsRising n) (sym (filter-by x xs true q))
        (filter-all (λ y. n x < n y) xs rises.0, rest)
    by false q rest = subst (IsRising n) (sym (filter-by x xs false q)) rest

-- what is found is a member, and a member of a rising list is found
pub found-has : {A : Type 0} (key_of : A → ℕ) (key : ℕ) (x : A) (xs : List A)
    → item_at key_of xs key ≡ Some x → Has x xs
found-has key_of key x [] there = absurd cc
found-has key_of key x (y ∷ ys) there = elim (cases_eq (key_of y) key) [
  | inl same ↦ inl (let q : Some x ≡ Some y = sym there ∙ item_here key_of key y ys same in cc)
  | inr other ↦ inr (found-has key_of key x ys (sym (item_past key_of key y ys other) ∙ there))
]

pub has-found : {A : Type 0} (key_of : A → ℕ) (x : A) (xs : List A) → IsRising key_of xs
    → Has x xs → item_at key_of xs (key_of x) ≡ Some x
has-found key_of x [] rises has = absurd has
has-found key_of x (y ∷ ys) rises has = elim has [
  | inl same ↦ item_here key_of (key_of x) y ys (ap key_of (sym same)) ∙ ap Some (sym same)
  | inr more ↦
      item_past key_of (key_of x) y ys
      (λ q. omega (arith, q, all-has (λ z. key_of y < key_of z) x ys rises.0 more))
      ∙ has-found key_of x ys rises.1 more
]

module _ (e : Setup) (w : State) (k : Kept e w) where
  -- the contents of a number: none, or one of that number
  abbrev listed_at : ℕ → List Content
  listed_at c = map (λ (p : Present). p.content) (present_at e w c (place_of e w c))

  abbrev IsOne : ℕ → List Present → Type 0
  IsOne c ps = (map (λ (p : Present). p.content) ps ≡ [])
      ⊎ ((x : Content) × (map (λ (p : Present). p.content) ps ≡ x ∷ []) × (x.number ≡ c))

  if-one : (c i : ℕ) (word : Standing) (o : Option Content)
      → ((x : Content) → o ≡ Some x → x.number ≡ c) → IsOne c (present_if o word i)
  if-one c i word None numbered = inl refl
  if-one c i word (Some x) numbered = inr (x, refl, numbered x refl)

  one-at : (c : ℕ) (p : CarrierAt) → place_of e w c ≡ p → IsOne c (present_at e w c p)
  one-at c Absent at = inl refl
  one-at c (Employed i) at = if-one c i standing.Employed
      (content_of (employed_multis (w.actors i) ++ employed_singles (w.actors i)) c)
      (λ x there. item_at-key number_of c x
      (employed_multis (w.actors i) ++ employed_singles (w.actors i)) there)
  one-at c (Pooled i g x) at = inr (x, refl, ((sound-place e w k).pooled c i g x at).1)
  one-at c (Busy i) at = if-one c i standing.Busy (settling_at (w.actors i).stage)
      (settling-number e w k c i (away-on e w k c (Busy i) (λ j q. cc) (λ q. cc) at))
  one-at c (Returning i x) at = inr (x, refl, ((sound-place e w k).returning c i x at).1)

  -- the contents of some numbers
  abbrev listed_from : ℕ → ℕ → List Content
  listed_from a n = map (λ (p : Present). p.content)
      (flat_map (λ c. present_at e w c (place_of e w c)) (range_with_len a n))

  first-rest : (a n : ℕ) → listed_from a (suc n) ≡ listed_at a ++ listed_from (a + 1) n
  first-rest a n = map-append (λ (p : Present). p.content) (present_at e w a (place_of e w a))
      (flat_map (λ c. present_at e w c (place_of e w c)) (range_with_len (a + 1) n))

  abbrev RisesFrom : ℕ → List Content → Type 0
  RisesFrom a xs = IsRising number_of xs × AllByRecursion (λ (y : Content). a ≤ y.number) xs

  rises-with : (n a : ℕ) → IsOne a (present_at e w a (place_of e w a))
      → RisesFrom (a + 1) (listed_from (a + 1) n)
      → RisesFrom a (listed_at a ++ listed_from (a + 1) n)
  rises-with n a one rest = by one where
    weaker : AllByRecursion (λ (y : Content). a ≤ y.number) (listed_from (a + 1) n)
    weaker = all-weaker (λ (y : Content). a + 1 ≤ y.number) (λ (y : Content). a ≤ y.number)
        (λ y h. omega (arith, h)) (listed_from (a + 1) n) rest.1

    by : IsOne a (present_at e w a (place_of e w a))
        → RisesFrom a (listed_at a ++ listed_from (a + 1) n)
    by (inl none) = subst (λ xs. RisesFrom a (xs ++ listed_from (a + 1) n)) (sym none)
        (rest.0, weaker)
    by (inr (x, one, number)) =
        subst (λ xs. RisesFrom a (xs ++ listed_from (a + 1) n)) (sym one) (
          (
            all-weaker (λ (y : Content). a + 1 ≤ y.number) (λ (y : Content). x.number < y.number)
                (λ y h. omega (arith, h, number)) (listed_from (a + 1) n) rest.1,
            rest.0,
          ),
          (omega (arith, number), weaker),
        )

  rise-from : (n a : ℕ) → RisesFrom a (listed_from a n)
  rise-from zero a = (tt, tt)
  rise-from (suc n) a =
      subst (RisesFrom a) (sym (first-rest a n))
      (rises-with n a (one-at a (place_of e w a) refl) (rise-from n (a + 1)))

  -- carriers that are there stand by rising number
  pub contents-rise : IsRising number_of (contents e w)
  contents-rise = (rise-from (greatest_number e) 1).0

  -- the content under a number
  abbrev pub shown : ℕ → Option Content
  shown n = content_of (contents e w) n

  pub shown-there : (n : ℕ)
      → shown n ≡ option_map (λ (p : Present). p.content) (carrier_there e w n)
  shown-there n = item_at-map number_of (λ (p : Present). p.content) n (present e w)

  -- a carrier counts once, as what is found under its number
  only-number : (n : ℕ) (f : Content → ℕ) → ((x : Content) → x.number ≢ n → f x ≡ 0)
      → 1 ≤ sum_everywhere e f w → (x : Content) × (shown n ≡ Some x) × (1 ≤ f x)
  only-number n f only some = item-hit number_of f n (contents e w) only
      (omega (arith, printed-all e w k (has_number n), number-once e w k n))
      (omega (arith, printed-all e w k f, some))

  counts-shown : (n : ℕ) (x : Content) (f : Content → ℕ) → shown n ≡ Some x → f x ≡ 1
      → 1 ≤ sum_everywhere e f w
  counts-shown n x f there one = omega (
    arith,
    printed-all e w k f,
    sum-item number_of f n x (contents e w) there,
    one,
  )

  pub shown-number : (n : ℕ) (x : Content) → shown n ≡ Some x → x.number ≡ n
  shown-number n x there = item_at-key number_of n x (contents e w) there

  -- by its birth
  pub shown-birth : (n b : ℕ) → 1 ≤ sum_everywhere e (of_birth n b) w
      → (x : Content) × (shown n ≡ Some x) × (x.birth ≡ b)
  shown-birth n b some =
      let (x, there, one) = only-number n (of_birth n b) other some in
      (x, there, by x.number x.birth one) where
        other : (x : Content) → x.number ≢ n → of_birth n b x ≡ 0
        other x ne = none x.number x.birth ne where
          none : (m d : ℕ) → m ≢ n → one_if ((m == n) && (d == b)) ≡ 0
          none m d ne = grind (arith, ne)

        by : (m d : ℕ) → 1 ≤ one_if ((m == n) && (d == b)) → d ≡ b
        by m d one = grind (arith, one)

  pub birth-shown : (n : ℕ) (x : Content) → shown n ≡ Some x
      → 1 ≤ sum_everywhere e (of_birth n x.birth) w
  birth-shown n x there = counts-shown n x (of_birth n x.birth) there
      (by x.number x.birth (shown-number n x there)) where
        by : (m d : ℕ) → m ≡ n → one_if ((m == n) && (d == d)) ≡ 1
        by m d same = grind (arith, same)

  -- and by its units
  pub shown-units : (n b u : ℕ) → 1 ≤ sum_everywhere e (of_units n b u) w
      → (x : Content) × (shown n ≡ Some x) × (x.units ≡ u)
  shown-units n b u some =
      let (x, there, one) = only-number n (of_units n b u) other some in
      (x, there, by ((x.number == n) && (x.birth == b)) x.units one) where
        other : (x : Content) → x.number ≢ n → of_units n b u x ≡ 0
        other x ne = none x.number (x.birth == b) (x.units == u) ne where
          none : (m : ℕ) (s t : Bool) → m ≢ n → one_if (((m == n) && s) && t) ≡ 0
          none m s t ne = grind (arith, ne)

        by : (s : Bool) (v : ℕ) → 1 ≤ one_if (s && (v == u)) → v ≡ u
        by s v one = grind (arith, one)

  pub units-shown : (n : ℕ) (x : Content) → shown n ≡ Some x
      → 1 ≤ sum_everywhere e (of_units n x.birth x.units) w
  units-shown n x there = counts-shown n x (of_units n x.birth x.units) there
      (by x.number x.birth x.units (shown-number n x there)) where
        by : (m d v : ℕ) → m ≡ n → one_if (((m == n) && (d == d)) && (v == v)) ≡ 1
        by m d v same = grind (arith, same)

  -- its owner owns it
  pub owned-shown : (n : ℕ) → 1 ≤ own_times n (w.actors (owner_of n)).instance
      → (x : Content) × (shown n ≡ Some x)
  owned-shown n some =
      let (x, there, one) = only-number n (has_number n) (λ x other. none x.number other)
      (omega (arith, numbers-own e w k n, some)) in
      (x, there) where
        none : (m : ℕ) → m ≢ n → one_if (m == n) ≡ 0
        none m other = grind (arith, other)

  pub shown-owned : (n : ℕ) (x : Content) → shown n ≡ Some x
      → 1 ≤ own_times n (w.actors (owner_of n)).instance
  shown-owned n x there = omega (
    arith,
    numbers-own e w k n,
    counts-shown n x (has_number n) there (counts-key number_of n x (shown-number n x there)),
  )

-- whether one of a rising list passes a test that only those of a number can pass
module _ (n : ℕ) (test : Content → Bool)
    (only : (x : Content) → x.number ≢ n → test x ≡ false) where
  none-any : (xs : List Content) → AllByRecursion (λ (y : Content). n < y.number) xs
      → list_any test xs ≡ false
  none-any [] all = refl
  none-any (x ∷ xs) all =
      ap (λ b. b || list_any test xs) (only x (λ q. omega (arith, q, all.0)))
      ∙ none-any xs all.1

  pub any-found : (xs : List Content) → IsRising number_of xs
      → list_any test xs ≡ option_map_or test (content_of xs n) false
  any-found [] rises = refl
  any-found (x ∷ xs) rises = elim (cases_eq x.number n) [
    | inl same ↦
        ap (λ b. test x || b)
        (none-any xs (subst (λ m. AllByRecursion (λ (y : Content). m < y.number) xs) same rises.0))
        ∙ alone (test x)
        ∙ sym (ap (λ o. option_map_or test o false) (item_here number_of n x xs same))
    | inr other ↦
        ap (λ b. b || list_any test xs) (only x other)
        ∙ any-found xs rises.1
        ∙ sym (ap (λ o. option_map_or test o false) (item_past number_of n x xs other))
  ] where
    alone : (b : Bool) → (b || false) ≡ b
    alone true = refl
    alone false = refl

module _ (e : Setup) (w : State) (k : Kept e w) where
  -- whether a carrier is there
  pub has-carrier : (x : Content) → has_carrier e w x
      ≡ option_map_or (same_carrier x) (content_of (contents e w) x.number) false
  has-carrier x =
      any-found x.number (same_carrier x) (λ y other. by y.number (x.birth == y.birth) other)
      (contents e w) (contents-rise e w k) where
        by : (m : ℕ) (t : Bool) → m ≢ x.number → ((x.number == m) && t) ≡ false
        by m t other = grind (arith, other)
