-- What the carrier is that an instance would create.
use Rattle.std.proofs.Common.{◌≡◌, ◌⊎◌, ℕ, zero, suc, ◌+◌, ◌-◌, ◌*◌, ◌/◌, ◌<◌, ◌≤◌}
use Rattle.std.proofs.Common.{true, false, List, [], ◌∷◌, refl, sym, ap, ◌∙◌, subst, inl, inr}
use Rattle.std.proofs.Common.{arith}
use Rattle.std.specs.Int.{IsPowerOfTwo}
use Rattle.std.specs.Prelude.{IsNone, Option, Some, None, Ok, max, nat_le}
use Rattle.std.proofs.Math.Nat.{lt-div-mul-add, mul_comm, mul-div-le, mul-div_cancel_left}
use Rattle.std.proofs.lemmas.Bool.{cases_Bool, cases_eq, cases_lt, cond-false, cond-true}
use Rattle.std.proofs.lemmas.Int.{clamps}
use Rattle.std.proofs.lemmas.List.Elements.{All-cons, All-nil}
use Rattle.ea_model.specs.declared.carriers.CarrierPlan.{CarrierPlan}
use Rattle.ea_model.specs.declared.carriers.OwnCarrier.{OwnCarrier}
use Rattle.ea_model.specs.declared.carriers.Segment.{Segment}
use Rattle.ea_model.specs.declared.settings.Settings.{Settings}
use Rattle.ea_model.specs.declared.units.TheConstants.{MIN_POWER_PAGES, NUMBERS}
use Rattle.ea_model.specs.Instance.{Instance, first_number, free_run, growth, is_alone, is_used}
use Rattle.ea_model.specs.Instance.{least_plan, multis, next_pages, numbered_plan, planned}
use Rattle.ea_model.specs.Instance.{segments, sized_plan, unused_from, wanted_pages}
use Rattle.ea_model.specs.Region.{highest_end, lowest_run, place_in, runs}
use Rattle.ea_model.specs.Units.{least_pages, pages_for}
use Rattle.ea_laws.specs.PlanLaws.{BeginsFirst, EndsLast, IsGrown, IsRounded, IsWanted}
use Rattle.ea_laws.specs.PlanLaws.{PlansFalling, PlansNumber, PlansPowers, PlansSize, PlansSpace}
use Rattle.ea_laws.specs.PlanLaws.{largest_size}
use Rattle.ea_laws.proofs.FreeRuns.{highest-found, highest-nil, highest-none, lowest_past}
use Rattle.ea_laws.proofs.FreeRuns.{place-none}
use Rattle.ea_laws.proofs.Keeping.{plan-IsPlanned}
use Rattle.ea_laws.proofs.Owned.{unused_from-free}
use Rattle.ea_laws.proofs.Powers.{is-rounded, power-of}
use Rattle.ea_laws.proofs.Unused.{unused_from-free_here, unused_from-used, unused_from-zero}

-- the numbers below the one that is found are in use
used-below : (k low number : ℕ) (os : List OwnCarrier) → unused_from k low os ≡ Some number
    → (n : ℕ) → low ≤ n → n < number → is_used n os ≡ true
used-below zero low number os e n from below =
    let never : None ≡ Some number = sym (unused_from-zero low os) ∙ e in absurd cc
used-below (suc k) low number os e n from below =
    elim (cases_Bool (is_used low os)) [
      | inl used ↦ elim (cases_eq n low) [
        | inl same ↦ ap (λ m. is_used m os) same ∙ used
        | inr other ↦ used-below k (low + 1) number os
            (sym (unused_from-used k low os used) ∙ e) n (omega (arith, from, other)) below
      ]
      | inr free ↦
          let here : Some low ≡ Some number = sym (unused_from-free_here k low os free) ∙ e in
          let is : low ≡ number = cc in absurd (omega (arith, is, from, below))
    ]

pub plans-number : PlansNumber
plans-number i need p e =
    let planned = plan-IsPlanned i need p e in
    let free = unused_from-free NUMBERS (first_number i.number) p.number i.own planned.number in (
      record {
        from = free.0;
        below = free.1;
        unused = free.2;
        lowest = used-below NUMBERS (first_number i.number) p.number i.own planned.number;
      },
      planned.birth,
    )

-- how carriers grow
module _ (s : Settings) (n : ℕ) (some : 1 ≤ s.mbcgs) where
  abbrev way : ℕ
  way = largest_size s - s.smbcs

  abbrev part : ℕ
  part = n * way / s.mbcgs

  grown-within : n ≤ s.mbcgs → growth s n ≡ s.smbcs + part
  grown-within le =
      let is : nat_le n s.mbcgs ≡ true = grind (arith, le) in
      cond-true (nat_le n s.mbcgs) (s.smbcs + part) (largest_size s) is

  grown-past : s.mbcgs < n → growth s n ≡ largest_size s
  grown-past past =
      let is : nat_le n s.mbcgs ≡ false = grind (arith, past) in
      cond-false (nat_le n s.mbcgs) (s.smbcs + part) (largest_size s) is

  within : n ≤ s.mbcgs → IsGrown s n (s.smbcs + part)
  within le = record {
    from = omega arith;
    low = λ _. subst (λ k. s.mbcgs * k ≤ n * way) (sym rest) (mul-div-le (n * way) s.mbcgs);
    high = λ _. subst (λ k. n * way < s.mbcgs * k + s.mbcgs) (sym rest)
        (subst (λ k. n * way < k + s.mbcgs) (mul_comm part s.mbcgs)
        (lt-div-mul-add (omega (arith, some))));
    full = λ from.
        let same : n ≡ s.mbcgs = omega (arith, le, from) in
        let all : part ≡ way = ap (λ k. k * way / s.mbcgs) same
        ∙ mul-div_cancel_left way (omega (arith, some)) in
        omega (arith, clamps, all);
  } where
    rest : s.smbcs + part - s.smbcs ≡ part
    rest = omega arith

  beyond : s.mbcgs < n → IsGrown s n (largest_size s)
  beyond more = record {
    from = omega (arith, clamps);
    low = λ le. absurd (omega (arith, le, more));
    high = λ le. absurd (omega (arith, le, more));
    full = λ _. refl;
  }

  is-grown : IsGrown s n (growth s n)
  is-grown = elim (cases_lt s.mbcgs n) [
    | inl more ↦ subst (IsGrown s n) (sym (grown-past more)) (beyond more)
    | inr le ↦ subst (IsGrown s n) (sym (grown-within le)) (within le)
  ]

is-wanted : (i : Instance) (need : ℕ) → 1 ≤ i.settings.mbcgs
    → IsWanted i need (wanted_pages i need)
is-wanted i need some = elim (cases_lt i.settings.sbct need) [
  | inl large ↦
      let alone : is_alone i need ≡ true = grind (arith, large) in
      inl (large, cond-true (is_alone i need) (least_pages need) (next_pages i need) alone)
  | inr small ↦
      let shared : is_alone i need ≡ false = grind (arith, small) in
      inr (
        small,
        (
          growth i.settings (multis i.contents),
          is-grown i.settings (multis i.contents) some,
          subst (IsRounded i.settings (max (least_pages need)
              (pages_for (growth i.settings (multis i.contents)))))
              (sym (cond-false (is_alone i need) (least_pages need) (next_pages i need) shared))
              (is-rounded i.settings _),
        ),
      )
]

-- the pages of a plan
abbrev HasPages : Instance → ℕ → CarrierPlan → Type 0
HasPages i need p = (p.pages ≡ wanted_pages i need)
    ⊎ ((p.pages ≡ least_pages need) × (free_run i (wanted_pages i need) ≡ None))

least-pages : (i : Instance) (need number : ℕ) (p : CarrierPlan) (o : Option ℕ)
    → least_plan i need number o ≡ Ok p → p.pages ≡ least_pages need
least-pages i need number p None e = absurd cc
least-pages i need number p (Some base) e =
    let is : planned i need number base (least_pages need) ≡ p = cc in
    ap (λ (q : CarrierPlan). q.pages) (sym is)

sized-pages : (i : Instance) (need number : ℕ) (p : CarrierPlan) (o : Option ℕ)
    → free_run i (wanted_pages i need) ≡ o → sized_plan i need number o ≡ Ok p → HasPages i need p
sized-pages i need number p None none e =
    inr (least-pages i need number p (free_run i (least_pages need)) e, none)
sized-pages i need number p (Some base) run e =
    let is : planned i need number base (wanted_pages i need) ≡ p = cc in
    inl (ap (λ (q : CarrierPlan). q.pages) (sym is))

numbered-pages : (i : Instance) (need : ℕ) (p : CarrierPlan) (o : Option ℕ)
    → numbered_plan i need o ≡ Ok p → HasPages i need p
numbered-pages i need p None e = absurd cc
numbered-pages i need p (Some number) e =
    sized-pages i need number p (free_run i (wanted_pages i need)) refl e

pub plans-size : PlansSize
plans-size i need p some e = record {
  wanted = wanted_pages i need;
  is = is-wanted i need some;
  pages = elim (numbered-pages i need p (unused_from NUMBERS (first_number i.number) i.own) e) [
    | inl q ↦ inl q
    | inr q ↦ inr (
      q.0,
      (place-none i.settings.rules.falling (wanted_pages i need)
          (runs i.first i.end (segments i.own))).0
          (subst IsNone (sym q.1) refl),
    )
  ];
  single = (
    λ is. let alone : is_alone i need ≡ true = sym (plan-IsPlanned i need p e).single ∙ is in
        grind (arith, alone),
    λ large. let alone : is_alone i need ≡ true = grind (arith, large) in
        (plan-IsPlanned i need p e).single ∙ alone,
  );
}

-- the first run that is long enough
lowest-here : (pages : ℕ) (r : Segment) (rs : List Segment) → pages ≤ r.pages
    → lowest_run pages (r ∷ rs) ≡ Some r.base
lowest-here pages r rs long = grind (arith, long)

begins-first : (pages base : ℕ) (rs : List Segment) → lowest_run pages rs ≡ Some base
    → BeginsFirst rs base pages
begins-first pages base [] e = absurd cc
begins-first pages base (r ∷ rs) e = elim (cases_lt r.pages pages) [
  | inl short ↦
      let b = begins-first pages base rs (sym (lowest_past pages r rs short) ∙ e) in record {
        before = r ∷ b.before;
        run = b.run;
        after = b.after;
        split = ap (λ qs. r ∷ qs) b.split;
        short = All-cons (λ (q : Segment). q.pages < pages) r b.before short b.short;
        long = b.long;
        is = b.is;
      }
  | inr long ↦
      let here : Some r.base ≡ Some base = sym (lowest-here pages r rs long) ∙ e in record {
        before = [];
        run = r;
        after = rs;
        split = refl;
        short = All-nil (λ (q : Segment). q.pages < pages);
        long = long;
        is = cc;
      }
]

pub plans-space : PlansSpace
plans-space i need p not e =
    begins-first p.pages p.base (runs i.first i.end (segments i.own))
    (ap (λ falling. place_in falling p.pages (runs i.first i.end (segments i.own))) (sym not)
    ∙ (plan-IsPlanned i need p e).run)

-- the last run that is long enough
ends-last : (pages base : ℕ) (rs : List Segment) → highest_end pages rs ≡ Some base
    → EndsLast rs base pages
ends-last pages base [] e =
    let never : None ≡ Some base = sym (highest-nil pages) ∙ e in absurd cc
ends-last pages base (r ∷ rs) e = elim (highest-found pages r rs base e) [
  | inl later ↦
      let b = ends-last pages base rs later in record {
        before = r ∷ b.before;
        run = b.run;
        after = b.after;
        split = ap (λ qs. r ∷ qs) b.split;
        long = b.long;
        short = b.short;
        is = b.is;
      }
  | inr here ↦ record {
    before = [];
    run = r;
    after = rs;
    split = refl;
    long = here.1;
    short = (highest-none pages rs).0 (subst IsNone (sym here.0) refl);
    is = here.2;
  }
]

pub plans-falling : PlansFalling
plans-falling i need p falls e =
    ends-last p.pages p.base (runs i.first i.end (segments i.own))
    (ap (λ falling. place_in falling p.pages (runs i.first i.end (segments i.own))) (sym falls)
    ∙ (plan-IsPlanned i need p e).run)

-- the pages of a multiblock carrier by the rule `powers`
pub plans-powers : PlansPowers
plans-powers i need p powers multi e =
    elim (numbered-pages i need p (unused_from NUMBERS (first_number i.number) i.own) e) [
      | inl q ↦
          let is : p.pages ≡ next_pages i need = q
          ∙ cond-false (is_alone i need) (least_pages need) (next_pages i need)
          (sym (plan-IsPlanned i need p e).single ∙ multi) in
          inl (subst (λ n. IsPowerOfTwo n × (MIN_POWER_PAGES ≤ n)) (sym is)
          (power-of i.settings (max (least_pages need)
          (pages_for (growth i.settings (multis i.contents)))) powers))
      | inr q ↦ inr q.0
    ]
