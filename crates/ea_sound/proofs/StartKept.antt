-- The state before the first step keeps what every moment keeps.
use Rattle.std.proofs.Common.{◌≡◌, ◌≢◌, ℕ, zero, suc, ◌+◌, ◌*◌, ◌<◌, ◌≤◌, [], ◌∷◌, Bool, true}
use Rattle.std.proofs.Common.{false, refl, sym, ap, ◌∙◌, subst, inl, inr, arith}
use Rattle.std.proofs.lemmas.Bool.{cases_eq}
use Rattle.std.proofs.lemmas.List.Elements.{All-cons, All-nil}
use Rattle.std.specs.Prelude.{All, nat_lt, ◌&&◌, ◌==◌, if◌then◌else◌, map}
use Rattle.ea_model.specs.declared.carriers.OwnCarrier.{OwnCarrier}
use Rattle.ea_model.specs.declared.carriers.Spot.{Spot}
use Rattle.ea_model.specs.declared.units.TheConstants.{NUMBERS}
use Rattle.ea_model.specs.Content.{Content}
use Rattle.ea_model.specs.Instance.{first_number, main_carriers, main_content, new_instance, own_at}
use Rattle.ea_model.specs.Instance.{own_of, owner_of}
use Rattle.ea_model.proofs.Rising.{item_here}
use Rattle.ea_model.specs.declared.settings.Config.{Config}
use Rattle.ea_model.specs.declared.trace.Trace.{Trace}
use Rattle.ea_model.specs.Settings.{IsValidConfig}
use Rattle.ea_model.specs.Units.{pages_for}
use Rattle.ea_laws.specs.Kept.{own_number, IsLaidOut, Stands}
use Rattle.ea_laws.proofs.Keeping.{pages_of_units}
use Rattle.ea_machine.specs.declared.nodes.Node.{Node}
use Rattle.ea_machine.specs.Actor.{Actor}
use Rattle.ea_sound.specs.Contents.{AtHome, InHand, hand_sum, home_sum, seats, slots}
use Rattle.ea_machine.specs.Machine.{first_actor, first_place, first_stage, instance_by, is_main}
use Rattle.ea_machine.specs.Machine.{start}
use Rattle.ea_sound.specs.Names.{allocated, of_content, of_hand, of_mark, only}
use Rattle.ea_sound.specs.NodePlaces.{of_carrier_actor, of_carrier_hand, of_carrier_mark, of_link}
use Rattle.ea_sound.specs.NodePlaces.{of_unlinked}
use Rattle.ea_machine.specs.Nodes.{Mark}
use Rattle.ea_machine.specs.Owners.{Absent, Pooled, Returning, employed_if}
use Rattle.ea_sound.specs.Ranges.{IsLaidOutAsKind}
use Rattle.ea_machine.specs.Setup.{Setup, first_page, is_scheduler, migration, setup_of}
use Rattle.ea_machine.specs.Sums.{sum_over, total_at}
use Rattle.ea_sound.specs.Rule.{Belongs, HasNoCarrier, Kept, Standing, blocks_of, employed_at}
use Rattle.ea_sound.specs.Rule.{names_of, numbers_of, of_own, of_owner, own_numbers, placed_by}
use Rattle.ea_sound.specs.Rule.{returning_at}
use Rattle.ea_sound.proofs.Created.{scheduler-number}
use Rattle.ea_sound.proofs.Numbered.{no_scheduler-beyond}
use Rattle.ea_sound.proofs.PlaceRows.{by_owner}
use Rattle.ea_sound.proofs.Plans.{numbered-owner, own-between}
use Rattle.ea_sound.proofs.Starting.{first-Stands}
use Rattle.ea_sound.proofs.Totals.{total_at-none, total_at-same, total-is, total-none}
use Rattle.ea_sound.proofs.Counts.{refilled-most}

-- each scheduler's instance stands at its beginning
abbrev pub MayStart : Setup → Type 0
MayStart e = (i : ℕ) → is_scheduler e i ≡ true
    → Stands (new_instance e.settings i (first_page e i) e.pages)

-- a valid configuration gives that
pub setup-MayStart : (c : Config) (t : Trace) → IsValidConfig c → MayStart (setup_of c t)
setup-MayStart c t valid i is =
    let number = scheduler-number (setup_of c t) i is in
    first-Stands c t i valid number.0 number.1

abbrev weight_if : Bool → ℕ → ℕ
weight_if true n = n
weight_if false n = 0

-- a total where nothing weighs after one number
total_at-first : {A : Type 0} (f : ℕ → A → ℕ) (m : ℕ → A) (a n : ℕ) → a < n
    → ((c : ℕ) → a < c → c < n → f c (m c) ≡ 0) → total_at n f m ≡ total_at a f m + f a (m a)
total_at-first f m a zero l h = absurd (omega (arith, l))
total_at-first f m a (suc n) l h =
    elim (cases_eq n a) [
      | inl q ↦ omega
          (arith, ap (λ (k : ℕ). total_at k f m) q, ap (λ (k : ℕ). f k (m k)) q)
      | inr ne ↦ omega (
        arith,
        total_at-first f m a n (omega (arith, l, ne)) (λ c x y. h c x (omega (arith, y))),
        h n (omega (arith, l, ne)) (omega arith),
      )
    ]

module _ (e : Setup) where
  -- whether the scheduler has a main carrier
  abbrev has_main : ℕ → Bool
  has_main i = is_scheduler e i && nat_lt 0 e.settings.mmbcs

  abbrev pub main_of : ℕ → Content
  main_of i = main_content e.settings i (first_page e i)

  sum-main : (f : Content → ℕ) (i : ℕ) → sum_over f (first_actor e i).instance.contents
      + sum_over f (first_actor e i).instance.singles ≡ weight_if (has_main i) (f (main_of i))
  sum-main f i = by (is_scheduler e i) (nat_lt 0 e.settings.mmbcs) refl where
    by : (b c : Bool) → nat_lt 0 e.settings.mmbcs ≡ c
        → sum_over f (instance_by e b i).contents + sum_over f (instance_by e b i).singles
        ≡ weight_if (b && c) (f (main_of i))
    by false c q = refl
    by true true q = omega (arith, ap (λ d. sum_over f (if d then main_of i ∷ [] else [])) q)
    by true false q = omega (arith, ap (λ d. sum_over f (if d then main_of i ∷ [] else [])) q)

  sum-main_own : (f : OwnCarrier → ℕ) (i : ℕ) → sum_over f (first_actor e i).instance.own
      ≡ weight_if (has_main i) (f (own_of (main_of i)))
  sum-main_own f i = by (is_scheduler e i) (nat_lt 0 e.settings.mmbcs) refl where
    by : (b c : Bool) → nat_lt 0 e.settings.mmbcs ≡ c
        → sum_over f (instance_by e b i).own ≡ weight_if (b && c) (f (own_of (main_of i)))
    by false c q = refl
    by true true q = omega
        (arith, ap (λ d. sum_over f (map own_of (if d then main_of i ∷ [] else []))) q)
    by true false q = omega
        (arith, ap (λ d. sum_over f (map own_of (if d then main_of i ∷ [] else []))) q)

  -- there is nothing in the hand
  no-hand : (f g : Content → ℕ) (b : Bool) → hand_sum f g (first_stage e b) ≡ 0
  no-hand f g true = refl
  no-hand f g false = refl

  numbers-are : (h k : ℕ → ℕ → ℕ) (i : ℕ)
      → numbers_of h k i (first_actor e i) ≡ weight_if (has_main i) (k i (first_number i))
  numbers-are h k i = omega (
    arith,
    sum-main (λ x. k i x.number) i,
    no-hand (λ x. h i x.number) (λ x. k i x.number) (is_scheduler e i),
  )

  -- the place of each main carrier names its owner
  place-weighs : (h k : ℕ → ℕ → ℕ) (c o : ℕ) (b : Bool)
      → employed_at h k c (employed_if b o) ≡ weight_if b (k o c)
  place-weighs h k c o true = refl
  place-weighs h k c o false = refl

  module _ (on : migration e ≡ true) (h k : ℕ → ℕ → ℕ) where
    main-weighs : (c o : ℕ) → owner_of c ≡ o → c ≡ first_number o
        → employed_at h k c (first_place e c) ≡ weight_if (has_main o) (k o (first_number o))
    main-weighs c o q s =
        ap (λ i. employed_at h k c (employed_if (migration e && is_main e i c) i)) q
        ∙ place-weighs h k c o (migration e && is_main e o c)
        ∙ ap (λ b. weight_if b (k o c)) (flag (migration e) (is_scheduler e o)
        (nat_lt 0 e.settings.mmbcs) (c == first_number o) on (grind (arith, s)))
        ∙ ap (λ n. weight_if (has_main o) (k o n)) s where
          flag : (p q r t : Bool) → p ≡ true → t ≡ true → (p && (q && (r && t))) ≡ (q && r)
          flag true true true true x y = refl
          flag true true false true x y = refl
          flag true false r true x y = refl
          flag false q r t x y = absurd cc
          flag true q r false x y = absurd cc

    other-weighs : (c o : ℕ) → owner_of c ≡ o → c ≢ first_number o
        → employed_at h k c (first_place e c) ≡ 0
    other-weighs c o q other =
        ap (λ i. employed_at h k c (employed_if (migration e && is_main e i c) i)) q
        ∙ place-weighs h k c o (migration e && is_main e o c)
        ∙ ap (λ b. weight_if b (k o c)) (flag (migration e) (is_scheduler e o)
        (nat_lt 0 e.settings.mmbcs) (c == first_number o) (grind (arith, other))) where
          flag : (p q r t : Bool) → t ≡ false → (p && (q && (r && t))) ≡ false
          flag true true true false y = refl
          flag true true false false y = refl
          flag true false r false y = refl
          flag false q r false y = refl
          flag p q r true y = absurd cc

    places-upto : (j : ℕ) → total_at (suc j) (numbers_of h k) (first_actor e)
        ≡ total_at (suc (j * NUMBERS)) (employed_at h k) (first_place e)
    places-upto zero = omega (
      arith,
      numbers-are h k 0,
      no-main,
      other-weighs 0 1 (omega arith) (λ q. omega (arith, q)),
    ) where
      no-main : weight_if (has_main 0) (k 0 (first_number 0)) ≡ 0
      no-main = by (nat_lt 0 e.settings.mmbcs) where
        by : (b : Bool) → weight_if (is_scheduler e 0 && b) (k 0 (first_number 0)) ≡ 0
        by b = refl
    places-upto (suc j) =
        let a = suc (j * NUMBERS) in
        let first : first_number (suc j) ≡ a = omega arith in
        let next : suc (suc j * NUMBERS) ≡ a + NUMBERS = omega arith in
        omega (
          arith,
          places-upto j,
          ap (λ n. total_at n (employed_at h k) (first_place e)) next,
          total_at-first (employed_at h k) (first_place e) a (a + NUMBERS) (omega arith)
              (λ c x y. other-weighs c (suc j)
              (numbered-owner (suc j) c (omega arith) (omega (arith, first, x))
              (omega (arith, first, y))) (λ s. omega (arith, s, first, x))),
          main-weighs a (suc j)
              (numbered-owner (suc j) a (omega arith) (omega (arith, first))
              (omega (arith, first))) (sym first),
          numbers-are h k (suc j),
        )

  -- no name stands, no block and no node
  no-name : (f : ℕ → Spot → ℕ) (i : ℕ) → names_of f (first_actor e i) ≡ 0
  no-name f i = by (is_scheduler e i) where
    by : (b : Bool) → 0 + 0 + of_hand f (first_stage e b) ≡ 0
    by true = refl
    by false = refl

  no-block : (f : ℕ → Spot → ℕ) (i : ℕ) → blocks_of f (first_actor e i) ≡ 0
  no-block f i = omega (
    arith,
    sum-main (of_content f) i,
    no-hand (of_content f) (of_content f) (is_scheduler e i),
    zero-if (has_main i),
  ) where
    zero-if : (b : Bool) → weight_if b 0 ≡ 0
    zero-if true = refl
    zero-if false = refl

  no-home : (f : Content → ℕ) (c : ℕ) → home_sum f (first_place e c) ≡ 0
  no-home f c = by (migration e && is_main e (owner_of c) c) where
    by : (b : Bool) → home_sum f (employed_if b (owner_of c)) ≡ 0
    by true = refl
    by false = refl

  no-carrier_node : (g : ℕ → ℕ → ℕ) (i : ℕ) → of_carrier_actor g i (first_actor e i) ≡ 0
  no-carrier_node g i = by (is_scheduler e i) where
    by : (b : Bool) → 0 + of_carrier_hand g i (first_stage e b) ≡ 0
    by true = refl
    by false = refl

  no-link : (u : ℕ → Node → ℕ) (i : ℕ) → of_link u (first_actor e i).stage ≡ 0
  no-link u i = by (is_scheduler e i) where
    by : (b : Bool) → of_link u (first_stage e b) ≡ 0
    by true = refl
    by false = refl

  no-return : (g : ℕ → ℕ → ℕ) (c : ℕ) → returning_at g c (first_place e c) ≡ 0
  no-return g c = by (migration e && is_main e (owner_of c) c) where
    by : (b : Bool) → returning_at g c (employed_if b (owner_of c)) ≡ 0
    by true = refl
    by false = refl

  never-pooled : (c i g : ℕ) (x : Content) → first_place e c ≡ Pooled i g x → ⊥
  never-pooled c i g x = by (migration e && is_main e (owner_of c) c) where
    by : (b : Bool) → employed_if b (owner_of c) ≡ Pooled i g x → ⊥
    by true q = cc
    by false q = cc

  never-returning : (c i : ℕ) (x : Content) → first_place e c ≡ Returning i x → ⊥
  never-returning c i x = by (migration e && is_main e (owner_of c) c) where
    by : (b : Bool) → employed_if b (owner_of c) ≡ Returning i x → ⊥
    by true q = cc
    by false q = cc

  no-place : (b : Bool) (o : ℕ) → b ≡ false → employed_if b o ≡ Absent
  no-place false o q = refl
  no-place true o q = absurd cc

  off-absent : migration e ≡ false → (c : ℕ) → first_place e c ≡ Absent
  off-absent off c = no-place (migration e && is_main e (owner_of c) c) (owner_of c)
      (ap (λ b. b && is_main e (owner_of c) c) off)

  beyond-absent : (c : ℕ) → slots e ≤ c → first_place e c ≡ Absent
  beyond-absent c past = no-place (migration e && is_main e (owner_of c) c) (owner_of c)
      (by (migration e) (is_scheduler e (owner_of c))
      (nat_lt 0 e.settings.mmbcs && (c == first_number (owner_of c)))
      (no_scheduler-beyond e (owner_of c) (omega (arith, past)))) where
        by : (p q r : Bool) → q ≡ false → (p && (q && r)) ≡ false
        by true false r x = refl
        by false q r x = refl
        by true true r x = absurd cc

  pub all-none : (f : ℕ → Spot → ℕ) → allocated e f (start e) ≡ 0
  all-none f = omega (
    arith,
    total-none (blocks_of f) (first_actor e) (seats e) (λ i l. no-block f i),
    total-none (home_sum (of_content f)) (first_place e) (slots e)
        (λ c l. no-home (of_content f) c),
  )

  no-marks : (f : ℕ → Mark → ℕ)
      → total_at (seats e) (λ i. sum_over (f i)) (λ (i : ℕ). []) ≡ 0
  no-marks f = total_at-none (λ i. sum_over (f i)) (λ (i : ℕ). []) (seats e) (λ i l. refl)

  -- contents are where they are to be
  start-contents : (h k : ℕ → ℕ → ℕ) (on : Bool) → migration e ≡ on
      → total_at (seats e) (numbers_of h k) (first_actor e) ≡ placed_by e h k (start e) on
  start-contents h k true on = places-upto on h k e.schedulers
  start-contents h k false off = total_at-same (numbers_of h k) (own_numbers k) (first_actor e)
      (seats e) (λ i l. numbers-are h k i ∙ sym (sum-main_own (λ (o : OwnCarrier). k i o.number) i))

  start-own : (m : ℕ → ℕ → ℕ → ℕ → ℕ) (i : ℕ)
      → by_owner m (first_actor e i) ≡ of_own m i (first_actor e i)
  start-own m i = omega (
    arith,
    sum-main (of_owner m) i,
    sum-main_own (λ (o : OwnCarrier). m i o.number o.base (512 * o.pages)) i,
    no-hand (of_owner m) (of_owner m) (is_scheduler e i),
    ap (λ n. weight_if (has_main i) (m i (first_number i) (first_page e i) (512 * n)))
        (pages_of_units (pages_for e.settings.mmbcs)),
  )

  module _ (may : MayStart e) where
    start-stands : (i : ℕ) → is_scheduler e i ≡ true → Standing e i (first_actor e i).instance
    start-stands i is = subst (λ b. Standing e i (instance_by e b i)) (sym is) (record {
      settings = refl;
      number = refl;
      first = refl;
      end = refl;
      count = refilled-most e.settings e.settings refl;
      order = (may i is).orderly;
    })

    start-nobody : (i : ℕ) → is_scheduler e i ≡ false → HasNoCarrier (first_actor e i)
    start-nobody i none = by (is_scheduler e i) none where
      by : (b : Bool) → b ≡ false → HasNoCarrier
          (record (first_actor e i) { instance = instance_by e b i; stage = first_stage e b })
      by false q = record { own = refl; contents = refl; singles = refl; stage = refl }
      by true q = absurd cc

    -- a main carrier lies in its owner's region
    main-belongs : (i : ℕ) → is_scheduler e i ≡ true → nat_lt 0 e.settings.mmbcs ≡ true
        → Belongs e i (main_of i)
    main-belongs i is some =
        let lies = own-between (first_page e i) (first_page e i + e.pages) (first_number i)
        (own_of (main_of i)) (map own_of (main_carriers e.settings i (first_page e i)))
        (may i is).orderly.kept.laid
        (ap (λ b. own_at (map own_of (if b then main_of i ∷ [] else [])) (first_number i)) some
        ∙ item_here own_number (first_number i) (own_of (main_of i)) [] refl)
        in
        record {
          owner = sym (numbered-owner i (first_number i) (scheduler-number e i is).0 (omega arith)
              (omega arith));
          low = lies.0;
          high = lies.1;
          stays = inr refl;
        }

    start-belongs : (i : ℕ) → All (Belongs e i) (first_actor e i).instance.contents
        × All (Belongs e i) (first_actor e i).instance.singles
    start-belongs i = by (is_scheduler e i) (nat_lt 0 e.settings.mmbcs) refl refl where
      by : (b c : Bool) → is_scheduler e i ≡ b → nat_lt 0 e.settings.mmbcs ≡ c
          → All (Belongs e i) (instance_by e b i).contents
          × All (Belongs e i) (instance_by e b i).singles
      by false c none q = (All-nil (Belongs e i), All-nil (Belongs e i))
      by true true is q = (
        subst (λ d. All (Belongs e i) (if d then main_of i ∷ [] else [])) (sym q)
            (All-cons (Belongs e i) (main_of i) [] (main-belongs i is q) (All-nil (Belongs e i))),
        All-nil (Belongs e i),
      )
      by true false is q = (
        subst (λ d. All (Belongs e i) (if d then main_of i ∷ [] else [])) (sym q)
            (All-nil (Belongs e i)),
        All-nil (Belongs e i),
      )

    start-home : (P : Content → Type 0) (c : ℕ) → AtHome P (first_place e c)
    start-home P c = by (migration e && is_main e (owner_of c) c) where
      by : (b : Bool) → AtHome P (employed_if b (owner_of c))
      by true = tt
      by false = tt

    start-hand : (B E : Content → Type 0) (i : ℕ) → InHand B E (first_actor e i).stage
    start-hand B E i = by (is_scheduler e i) where
      by : (b : Bool) → InHand B E (first_stage e b)
      by true = tt
      by false = tt

    pub start-Kept : Kept e (start e)
    start-Kept = record {
      ranges = record {
        instances = start-stands;
        nobody = start-nobody;
        contents = λ i. (start-belongs i).0;
        singles = λ i. (start-belongs i).1;
        in_hand = λ i. start-hand (Belongs e i) (Belongs e i) i;
        hand_laid = start-hand IsLaidOut IsLaidOutAsKind;
        home = start-home (λ x. Belongs e x.owner x);
        home_laid = start-home IsLaidOut;
      };
      names = record {
        balance = λ f. omega (
          arith,
          all-none f,
          total-none (names_of f) (first_actor e) (seats e) (λ i l. no-name f i),
          no-marks (λ i. of_mark f),
        );
        once = λ n. omega (arith, all-none (only n));
      };
      unlinked = record {
        balance = λ u. omega (
          arith,
          no-marks (of_unlinked u),
          total-none (λ (a : Actor). of_link u a.stage) (first_actor e) (seats e)
              (λ i l. no-link u i),
        );
      };
      placed = record {
        contents = λ h k. start-contents h k (migration e) refl;
        own = λ m. omega (
          arith,
          total-none (home_sum (of_owner m)) (first_place e) (slots e)
              (λ c l. no-home (of_owner m) c),
          total-is (by_owner m) (first_actor e) (seats e),
          total_at-same (λ i. by_owner m) (of_own m) (first_actor e) (seats e)
              (λ i l. start-own m i),
        );
        pooled = λ c i g x q. absurd (never-pooled c i g x q);
        returning = λ c i x q. absurd (never-returning c i x q);
        off = off-absent;
        beyond = beyond-absent;
      };
      returns = record {
        balance = λ g. omega (
          arith,
          total_at-none (of_carrier_actor g) (first_actor e) (seats e)
              (λ i l. no-carrier_node g i),
          no-marks (of_carrier_mark g),
          total_at-none (returning_at g) (first_place e) (slots e) (λ c l. no-return g c),
        );
        to_owner = λ c i x q. absurd (never-returning c i x q);
      };
    }
