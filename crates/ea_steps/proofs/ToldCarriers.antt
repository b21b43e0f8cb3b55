-- The carriers that went, were made or have fewer pages by a step, as they are found by number.
use Rattle.std.proofs.Common.{◌≡◌, ◌≢◌, ◌⊎◌, ℕ, ◌<◌, List, [], ◌∷◌, Bool, true, false}
use Rattle.std.proofs.Common.{map, refl, sym, ap, ◌∙◌, subst, inl, inr, arith}
use Rattle.std.specs.Prelude.{Option, None, Some, filter, is_none, is_some, not, option_map}
use Rattle.std.specs.Prelude.{◌==◌, ◌&&◌, ◌||◌}
use Rattle.std.specs.List.{AllByRecursion}
use Rattle.std.specs.Option.{option_map_or}
use Rattle.std.proofs.lemmas.Bool.{cases_eq, cases_lt, true≢false}
use Rattle.ea_model.specs.Content.{Content}
use Rattle.ea_model.specs.Instance.{content_of}
use Rattle.ea_laws.specs.Kept.{number_of}
use Rattle.ea_machine.specs.declared.stages.Stage.TheVariants.{Ended}
use Rattle.ea_machine.specs.Lists.{times}
use Rattle.ea_machine.specs.Machine.{step}
use Rattle.ea_machine.specs.Outcome.{Present}
use Rattle.ea_machine.specs.Setup.{Setup}
use Rattle.ea_machine.specs.State.{State}
use Rattle.ea_machine.specs.Sums.{one_if}
use Rattle.ea_sound.specs.Present.{Rule}
use Rattle.ea_sound.specs.Rule.{Kept}
use Rattle.ea_steps.specs.Changes.{contents, gone, has_carrier, made}
use Rattle.ea_steps.specs.Changes.{same_carrier}
use Rattle.ea_steps.specs.FoundCarriers.{carrier_there, content_if, goes_away, is_made, made_at}
use Rattle.ea_steps.specs.FoundCarriers.{made_carriers, made_number, makes}
use Rattle.ea_steps.specs.Steps.{Step}
use Rattle.ea_steps.specs.Touched.{may_go_in}
use Rattle.ea_steps.proofs.GoneCarriers.{IsIn}
use Rattle.ea_steps.proofs.KnownBirths.{KnowsBirths}
use Rattle.ea_steps.proofs.Rising.{Has, IsRising, rising-same}
use Rattle.ea_steps.proofs.ShownCarriers.{contents-rise, filter-has, filter-rises}
use Rattle.ea_steps.proofs.ShownCarriers.{found-has, has-carrier, has-filter, has-found}
use Rattle.ea_steps.proofs.ShownCarriers.{shown-number, shown-there}
use Rattle.ea_steps.proofs.SteppedCarriers.{Steps, after, before, k, kv, s}
use Rattle.ea_steps.proofs.SteppedCarriers.{steps}

pub no-member : {A : Type 0} (ys : List A) → ((x : A) → Has x ys → ⊥) → ys ≡ []
no-member [] none = refl
no-member (y ∷ ys) none = absurd (none y (inl refl))

-- where nothing passes, nothing is left
filter-nothing : {A : Type 0} (p : A → Bool) (xs : List A)
    → ((x : A) → Has x (filter p xs) → ⊥) → filter p xs ≡ []
filter-nothing p xs none = no-member (filter p xs) none

in-has : (n : ℕ) (ns : List ℕ) → IsIn n ns → Has n ns
in-has n [] some = absurd (omega (arith, some))
in-has n (m ∷ ms) some = elim (cases_eq m n) [
  | inl same ↦ inl (sym same)
  | inr other ↦ inr (in-has n ms (omega (arith, some, none m other)))
] where
  none : (m : ℕ) → m ≢ n → one_if (m == n) ≡ 0
  none m other = grind (arith, other)

-- carriers are one where their numbers and births are
pub one-carrier : (x y : Content) → x.number ≡ y.number → x.birth ≡ y.birth
    → same_carrier x y ≡ true
one-carrier x y number birth = by x.number y.number x.birth y.birth number birth where
  by : (n m b d : ℕ) → n ≡ m → b ≡ d → ((n == m) && (b == d)) ≡ true
  by n m b d p q = grind (arith, p, q)

two-carriers : (x y : Content) → x.birth ≢ y.birth → same_carrier x y ≡ false
two-carriers x y other = by (x.number == y.number) x.birth y.birth other where
  by : (t : Bool) (b d : ℕ) → b ≢ d → (t && (b == d)) ≡ false
  by t b d other = grind (arith, other)

pub carrier-birth : (x y : Content) → same_carrier x y ≡ true → x.birth ≡ y.birth
carrier-birth x y same = by (x.number == y.number) x.birth y.birth same where
  by : (t : Bool) (b d : ℕ) → (t && (b == d)) ≡ true → b ≡ d
  by t b d same = grind (arith, same)

module _ (e : Setup) (w : State) (rule : Rule e w) (knows : KnowsBirths e w) (me count own : ℕ)
    (goes : (w.actors me).stage ≢ Ended) where
  abbrev pub v : State
  v = step e w me

  abbrev pub kept : Kept e w
  kept = k e w rule knows me count own goes

  abbrev pub kept_after : Kept e v
  kept_after = kv e w rule knows me count own goes

  abbrev pub this : Step
  this = s e w rule knows me count own goes

  abbrev pub was : ℕ → Option Content
  was n = before e w rule knows me count own goes n

  abbrev pub now : ℕ → Option Content
  now n = after e w rule knows me count own goes n

  abbrev pub StepsBy : Option ℕ → Type 0
  StepsBy m = Steps e w rule knows me count own goes m

  -- whether a carrier of the one state is there in the other
  before-has : (x : Content) → has_carrier e w x
      ≡ option_map_or (same_carrier x) (was x.number) false
  before-has x = has-carrier e w kept x

  after-has : (x : Content) → has_carrier e v x
      ≡ option_map_or (same_carrier x) (now x.number) false
  after-has x = has-carrier e v kept_after x

  pub has-before : (x : Content) → Has x (contents e w) → was x.number ≡ Some x
  has-before x has = has-found number_of x (contents e w) (contents-rise e w kept) has

  pub has-after : (x : Content) → Has x (contents e v) → now x.number ≡ Some x
  has-after x has = has-found number_of x (contents e v) (contents-rise e v kept_after) has

  -- one that stays is no other
  pub same-before : (n : ℕ) (x z : Content) → was n ≡ Some x → was n ≡ Some z → x ≡ z
  same-before n x z p q = let both : Some x ≡ Some z = sym p ∙ q in cc

  pub same-after : (n : ℕ) (y z : Content) → now n ≡ Some y → now n ≡ Some z → y ≡ z
  same-after n y z p q = let both : Some y ≡ Some z = sym p ∙ q in cc

  pub number-before : (n : ℕ) (x : Content) → was n ≡ Some x → x.number ≡ n
  number-before n x there = shown-number e w kept n x there

  pub number-after : (n : ℕ) (y : Content) → now n ≡ Some y → y.number ≡ n
  number-after n y there = shown-number e v kept_after n y there

  -- by what is found under the number
  is-there : (x z : Content) → was x.number ≡ Some z → z.birth ≡ x.birth
      → has_carrier e w x ≡ true
  is-there x z there birth = before-has x
      ∙ ap (λ o. option_map_or (same_carrier x) o false) there
      ∙ one-carrier x z (sym (number-before x.number z there)) (sym birth)

  is-absent : (x : Content) → was x.number ≡ None → has_carrier e w x ≡ false
  is-absent x none = before-has x ∙ ap (λ o. option_map_or (same_carrier x) o false) none

  is-other : (x z : Content) → was x.number ≡ Some z → z.birth ≢ x.birth
      → has_carrier e w x ≡ false
  is-other x z there birth = before-has x
      ∙ ap (λ o. option_map_or (same_carrier x) o false) there
      ∙ two-carriers x z (λ q. birth (sym q))

  is-there_after : (x y : Content) → now x.number ≡ Some y → y.birth ≡ x.birth
      → has_carrier e v x ≡ true
  is-there_after x y there birth = after-has x
      ∙ ap (λ o. option_map_or (same_carrier x) o false) there
      ∙ one-carrier x y (sym (number-after x.number y there)) (sym birth)

  is-absent_after : (x : Content) → now x.number ≡ None → has_carrier e v x ≡ false
  is-absent_after x none = after-has x ∙ ap (λ o. option_map_or (same_carrier x) o false) none

  is-other_after : (x y : Content) → now x.number ≡ Some y → y.birth ≢ x.birth
      → has_carrier e v x ≡ false
  is-other_after x y there birth = after-has x
      ∙ ap (λ o. option_map_or (same_carrier x) o false) there
      ∙ two-carriers x y (λ q. birth (sym q))

  not-true : (b : Bool) → b ≡ false → not b ≡ true
  not-true true q = absurd cc
  not-true false q = refl

  true-not : (b : Bool) → not b ≡ true → b ≡ false
  true-not true q = absurd cc
  true-not false q = refl

  -- the carrier that was made
  content-there : (o : Option Present) (y : Content)
      → option_map (λ (p : Present). p.content) o ≡ Some y → content_if o ≡ y ∷ []
  content-there None y q = absurd cc
  content-there (Some p) y q = let same : p.content ≡ y = cc in ap (λ x. x ∷ []) same

  made-nothing : StepsBy None → made e this ≡ []
  made-nothing t = filter-nothing (λ x. not (has_carrier e w x)) (contents e v)
      (λ x has.
      let (there, new) = has-filter (λ x. not (has_carrier e w x)) x (contents e v) has in
      let (z, found, birth) = t.kept x.number x (λ q. absurd cc) (has-after x there) in
      true≢false (sym (is-there x z found birth)
      ∙ true-not (has_carrier e w x) new))

  made-one : (n : ℕ) → StepsBy (Some n) → (y : Content) × (now n ≡ Some y)
      × (made e this ≡ y ∷ [])
  made-one n t =
      let p : Content → Bool = λ x. not (has_carrier e w x) in
      let (y, there, other) = t.new n refl in
      let number = number-after n y there in (
        y,
        there,
        rising-same number_of (made e this) (y ∷ [])
            (filter-rises p number_of (contents e v) (contents-rise e v kept_after))
            (tt, tt)
            (λ z has.
            let (among, new) = has-filter p z (contents e v) has in
            elim (cases_eq z.number n) [
              | inl same ↦ inl (same-after n z y
                  (subst (λ m. now m ≡ Some z) same (has-after z among)) there)
              | inr differs ↦
                  let (x, found, birth) = t.kept z.number z
                  (λ q. differs (let same : n ≡ z.number = cc in sym same)) (has-after z among) in
                  absurd (true≢false (sym (is-there z x found birth)
                  ∙ true-not (has_carrier e w z) new))
            ])
            (λ z has. elim has [
              | inr more ↦ absurd more
              | inl same ↦ subst (λ x. Has x (made e this)) (sym same)
                  (filter-has p y (contents e v) (found-has number_of n y (contents e v) there)
                  (not-true (has_carrier e w y) (was-not y n number other (was n) refl)))
            ]),
      ) where
        was-not : (y : Content) (n : ℕ) → y.number ≡ n
            → ((x : Content) → was n ≡ Some x → x.birth ≢ y.birth) → (o : Option Content)
            → was n ≡ o → has_carrier e w y ≡ false
        was-not y n number other None q = is-absent y (ap was number ∙ q)
        was-not y n number other (Some x) q = is-other y x (ap was number ∙ q) (other x q)

  made-by : (m : Option ℕ) → StepsBy m → made e this ≡ made_at e m v
  made-by None t = made-nothing t
  made-by (Some n) t =
      let (y, there, one) = made-one n t in
      one ∙ sym (content-there (carrier_there e v n) y
      (sym (shown-there e v kept_after n) ∙ there))

  -- the carriers that a step made
  pub made-found : made e this ≡ made_carriers e this
  made-found =
      let (m, t) = steps e w rule knows me count own goes in
      made-by m t ∙ ap (λ o. made_at e o v) (sym t.number)

  -- one, where it made any
  single-by : (m : Option ℕ) → StepsBy m → is_some m ≡ true
      → (n : ℕ) × (made_number this ≡ Some n)
      × ((y : Content) × (now n ≡ Some y) × (made e this ≡ y ∷ []))
  single-by None t q = absurd cc
  single-by (Some n) t q = (n, t.number, made-one n t)

  pub made-single : makes this ≡ true → (n : ℕ) × (made_number this ≡ Some n)
      × ((y : Content) × (now n ≡ Some y) × (made e this ≡ y ∷ []))
  made-single q =
      let (m, t) = steps e w rule knows me count own goes in
      single-by m t (sym t.counted ∙ q)

  -- the carriers that went
  module _ (m : Option ℕ) (t : StepsBy m) where
    pub is-number : (n : ℕ) → m ≡ Some n → is_made this n ≡ true
    is-number n q = ap (λ o. option_map_or (λ i. i == n) o false) (t.number ∙ q) ∙ itself n where
      itself : (n : ℕ) → (n == n) ≡ true
      itself n = grind arith

    pub number-is : (n : ℕ) → is_made this n ≡ true → m ≡ Some n
    number-is n q =
        by m (sym (ap (λ o. option_map_or (λ i. i == n) o false) t.number) ∙ q) where
          by : (o : Option ℕ) → option_map_or (λ i. i == n) o false ≡ true → o ≡ Some n
          by None q = absurd cc
          by (Some i) q = ap Some (same i n q) where
            same : (i n : ℕ) → (i == n) ≡ true → i ≡ n
            same i n q = grind (arith, q)

    some-there : (u : State) (ku : Kept e u) (n : ℕ) (x : Content)
        → content_of (contents e u) n ≡ Some x → is_some (carrier_there e u n) ≡ true
    some-there u ku n x q =
        by (carrier_there e u n) (sym (shown-there e u ku n) ∙ q) where
          by : (o : Option Present) → option_map (λ (p : Present). p.content) o ≡ Some x
              → is_some o ≡ true
          by None q = absurd cc
          by (Some p) q = refl

    none-there : (u : State) (ku : Kept e u) (n : ℕ)
        → content_of (contents e u) n ≡ None → is_none (carrier_there e u n) ≡ true
    none-there u ku n q = by (carrier_there e u n) (sym (shown-there e u ku n) ∙ q) where
      by : (o : Option Present) → option_map (λ (p : Present). p.content) o ≡ None
          → is_none o ≡ true
      by None q = refl
      by (Some p) q = absurd cc

    there-some : (u : State) (ku : Kept e u) (n : ℕ) → is_some (carrier_there e u n) ≡ true
        → (x : Content) × (content_of (contents e u) n ≡ Some x)
    there-some u ku n q = by (carrier_there e u n) q (shown-there e u ku n) where
      by : (o : Option Present) → is_some o ≡ true
          → content_of (contents e u) n ≡ option_map (λ (p : Present). p.content) o
          → (x : Content) × (content_of (contents e u) n ≡ Some x)
      by None q r = absurd cc
      by (Some p) q r = (p.content, r)

    there-none : (u : State) (ku : Kept e u) (n : ℕ) → is_none (carrier_there e u n) ≡ true
        → content_of (contents e u) n ≡ None
    there-none u ku n q = by (carrier_there e u n) q (shown-there e u ku n) where
      by : (o : Option Present) → is_none o ≡ true
          → content_of (contents e u) n ≡ option_map (λ (p : Present). p.content) o
          → content_of (contents e u) n ≡ None
      by None q r = r
      by (Some p) q r = absurd cc

    or-right : (a b : Bool) → b ≡ true → (a || b) ≡ true
    or-right true b q = refl
    or-right false b q = q

    pub both-true : (a b : Bool) → a ≡ true → b ≡ true → (a && b) ≡ true
    both-true true true p q = refl
    both-true true false p q = absurd cc
    both-true false b p q = absurd cc

    pub and-true : (a b : Bool) → (a && b) ≡ true → (a ≡ true) × (b ≡ true)
    and-true true b q = (refl, q)
    and-true false b q = absurd cc

    or-true : (a b : Bool) → (a || b) ≡ true → (a ≡ true) ⊎ (b ≡ true)
    or-true true b q = inl refl
    or-true false b q = inr q

    -- one that isn't there any longer
    module _ (x : Content) (was_there : was x.number ≡ Some x)
        (not_there : has_carrier e v x ≡ false) where
      gone-after : (o : Option Content) → now x.number ≡ o
          → (is_none (carrier_there e v x.number) || is_made this x.number) ≡ true
      gone-after None q = ap (λ b. b || is_made this x.number) (none-there v kept_after x.number q)
      gone-after (Some y) q = elim (cases_made m) [
        | inl same ↦ or-right (is_none (carrier_there e v x.number)) (is_made this x.number)
            (is-number x.number same)
        | inr other ↦
            let (z, found, birth) = t.kept x.number y other q in
            absurd (true≢false (sym (is-there_after x y q
            (sym birth ∙ ap (λ (c : Content). c.birth) (same-before x.number z x found was_there)))
            ∙ not_there))
      ] where
        cases_made : (o : Option ℕ) → (o ≡ Some x.number) ⊎ (o ≢ Some x.number)
        cases_made None = inr (λ q. absurd cc)
        cases_made (Some i) = elim (cases_eq i x.number) [
          | inl same ↦ inl (ap Some same)
          | inr other ↦ inr (λ q. other (let same : i ≡ x.number = cc in same))
        ]

      gone-may : IsIn x.number (may_go_in e this)
      gone-may = elim (cases_lt 0 (times x.number (may_go_in e this))) [
        | inl some ↦ omega (arith, some)
        | inr never ↦
            let (other, (y, q)) = t.stays x.number x (λ some. omega (arith, some, never))
            was_there in
            let (z, found, birth) = t.kept x.number y other q in
            absurd (true≢false (sym (is-there_after x y q
            (sym birth ∙ ap (λ (c : Content). c.birth) (same-before x.number z x found was_there)))
            ∙ not_there))
      ]

    gone-goes : (x : Content) → Has x (gone e this)
        → Has x.number (may_go_in e this) × (goes_away e this x.number ≡ true)
    gone-goes x has =
        let (among, left) = has-filter (λ y. not (has_carrier e v y)) x (contents e w) has in
        let there = has-before x among in
        let absent = true-not (has_carrier e v x) left in (
          in-has x.number (may_go_in e this) (gone-may x there absent),
          both-true (is_some (carrier_there e w x.number))
              (is_none (carrier_there e v x.number) || is_made this x.number)
              (some-there w kept x.number x there)
              (gone-after x there absent (now x.number) refl),
        )

    goes-gone : (n : ℕ) → goes_away e this n ≡ true
        → (x : Content) × (x.number ≡ n) × Has x (gone e this)
    goes-gone n q =
        let (some, left) = and-true (is_some (carrier_there e w n))
        (is_none (carrier_there e v n) || is_made this n) q in
        let (x, there) = there-some w kept n some in
        let number = number-before n x there in (
          x,
          number,
          filter-has (λ y. not (has_carrier e v y)) x (contents e w)
              (found-has number_of n x (contents e w) there)
              (not-true (has_carrier e v x) (elim (or-true (is_none (carrier_there e v n))
              (is_made this n) left) [
                | inl none ↦ is-absent_after x
                    (ap now number ∙ there-none v kept_after n none)
                | inr new ↦
                    let (y, found, other) = t.new n (number-is n new) in
                    is-other_after x y (ap now number ∙ found) (λ same. other x there (sym same))
              ])),
        )

  -- the numbers of a rising list rise
  numbers-all : (m : ℕ) (xs : List Content) → AllByRecursion (λ (y : Content). m < y.number) xs
      → AllByRecursion (λ n. m < n) (map number_of xs)
  numbers-all m [] all = tt
  numbers-all m (x ∷ xs) all = (all.0, numbers-all m xs all.1)

  numbers-rise : (xs : List Content) → IsRising number_of xs → IsRising (λ n. n) (map number_of xs)
  numbers-rise [] rises = tt
  numbers-rise (x ∷ xs) rises = (numbers-all x.number xs rises.0, numbers-rise xs rises.1)

  has-number : (n : ℕ) (xs : List Content) → Has n (map number_of xs)
      → (x : Content) × (x.number ≡ n) × Has x xs
  has-number n [] has = absurd has
  has-number n (x ∷ xs) has = elim has [
    | inl same ↦ (x, sym same, inl refl)
    | inr more ↦ let (z, number, among) = has-number n xs more in (z, number, inr among)
  ]

  number-has : (n : ℕ) (x : Content) (xs : List Content) → x.number ≡ n → Has x xs
      → Has n (map number_of xs)
  number-has n x [] number has = absurd has
  number-has n x (y ∷ ys) number has = elim has [
    | inl same ↦ inl (sym number ∙ ap number_of same)
    | inr more ↦ inr (number-has n x ys number more)
  ]

  -- so numbers that rise, of which each may go and goes, are those of the carriers that went
  pub gone-found : (ns : List ℕ) → IsRising (λ n. n) ns
      → ((n : ℕ) → Has n ns → Has n (may_go_in e this) × (goes_away e this n ≡ true))
      → ((n : ℕ) → Has n (may_go_in e this) → goes_away e this n ≡ true → Has n ns)
      → map number_of (gone e this) ≡ ns
  gone-found ns rises into back =
      let (m, t) = steps e w rule knows me count own goes in
      rising-same (λ n. n) (map number_of (gone e this)) ns
      (numbers-rise (gone e this) (filter-rises (λ y. not (has_carrier e v y)) number_of
      (contents e w) (contents-rise e w kept)))
      rises
      (λ n has.
      let (x, number, among) = has-number n (gone e this) has in
      let (may, left) = gone-goes m t x among in
      back n (subst (λ i. Has i (may_go_in e this)) number may)
      (subst (λ i. goes_away e this i ≡ true) number left))
      (λ n has.
      let (x, number, among) = goes-gone m t n (into n has).1 in
      number-has n x (gone e this) number among)
