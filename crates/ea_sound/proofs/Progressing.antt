-- Each scheduler ends by its own steps, whatever steps the others take.
use Rattle.std.proofs.Common.{◌≡◌, ◌≢◌, ◌⊎◌, ℕ, zero, suc, ◌+◌, ◌*◌, ◌<◌, ◌≤◌, List, [], ◌∷◌, ◌++◌}
use Rattle.std.proofs.Common.{Bool, true, false, refl, sym, ap, ◌∙◌, subst, inl, inr, arith}
use Rattle.std.proofs.Common.{mul-le-mul_right}
use Rattle.std.specs.Prelude.{All, None, length}
use Rattle.std.proofs.lemmas.Bool.{cases_eq}
use Rattle.std.proofs.lemmas.List.{append-nil, append_assoc, length-append}
use Rattle.std.proofs.lemmas.List.Elements.{All-nil, All-cons}
use Rattle.ea_model.specs.declared.settings.Config.{Config}
use Rattle.ea_model.specs.declared.trace.Trace.{Trace}
use Rattle.ea_model.specs.Settings.{IsValidConfig}
use Rattle.ea_model.specs.Trace.{IsValidTrace}
use Rattle.ea_machine.specs.declared.stages.Stage.TheVariants.{Ended}
use Rattle.ea_machine.specs.Actor.{Actor}
use Rattle.ea_machine.specs.Completion.{stage_rows}
use Rattle.ea_machine.specs.Courses.{AreSteps}
use Rattle.ea_machine.specs.Machine.{first_stage, run, start}
use Rattle.ea_machine.specs.Setup.{Setup, is_scheduler, setup_of}
use Rattle.ea_machine.specs.State.{State}
use Rattle.ea_machine.specs.Stops.{count_of}
use Rattle.ea_machine.specs.Sums.{total}
use Rattle.ea_sound.specs.OwnWork.{most_queued, own_work, stage_takings}
use Rattle.ea_sound.specs.Progress.{AllEnded, EndsByItself, IsFair, first_turns}
use Rattle.ea_sound.specs.Progress.{most_nodes, most_steps}
use Rattle.ea_sound.proofs.Completing.{ended-on, outside}
use Rattle.ea_sound.proofs.OtherTurns.{actor-since, rest-since}
use Rattle.ea_sound.proofs.OwnWork.{own-less}
use Rattle.ea_sound.proofs.StandingOnce.{small-names}
use Rattle.ea_sound.proofs.Stopping.{count-append, count-cons, count-none, count-one, mine}
use Rattle.ea_sound.proofs.TurnLists.{by-turns, ended-or, run-append, run-snoc}

-- one turn more
count-more : (s : ℕ) (L : List ℕ) (j : ℕ) → count_of s (L ++ j ∷ []) ≡ count_of s L + mine s j
count-more s L j = omega (arith, count-append s L (j ∷ []), count-cons s j [])

-- steps are steps without the last one
front-steps : (e : Setup) (L : List ℕ) (j : ℕ) → AreSteps e (L ++ j ∷ []) → AreSteps e L
front-steps e L j are before later me q = are before (later ++ j ∷ []) me
    (ap (λ l. l ++ j ∷ []) q ∙ append_assoc before (me ∷ later) (j ∷ []))

-- sums of what is nowhere less, and somewhere more
abbrev sum : ℕ → (ℕ → ℕ) → ℕ
sum n f = total n (λ k. k) f

sum-most : (f g : ℕ → ℕ) (n : ℕ) → ((i : ℕ) → f i ≤ g i) → sum n f ≤ sum n g
sum-most f g zero most = omega arith
sum-most f g (suc n) most = omega (arith, sum-most f g n most, most n)

sum-less : (f g : ℕ → ℕ) (k n : ℕ) → k < n → ((i : ℕ) → f i ≤ g i) → f k < g k
    → sum n f < sum n g
sum-less f g k zero within most less = absurd (omega (arith, within))
sum-less f g k (suc n) within most less = elim (cases_eq n k) [
  | inl q ↦ omega (arith, sum-most f g n most, ap f q, ap g q, less)
  | inr ne ↦ omega (arith, sum-less f g k n (omega (arith, within, ne)) most less, most n)
]

-- who isn't ended is a scheduler
is-one : (e : Setup) (L : List ℕ) (j : ℕ) → ((run e L).actors j).stage ≢ Ended
    → is_scheduler e j ≡ true
is-one e L j goes = by (is_scheduler e j) refl where
  by : (b : Bool) → is_scheduler e j ≡ b → is_scheduler e j ≡ true
  by true is = is
  by false is = absurd (goes (outside e j is L))

in-range : (e : Setup) (j : ℕ) → is_scheduler e j ≡ true → (1 ≤ j) × (j ≤ e.schedulers)
in-range e j is = grind (arith, is)

-- who has ended stays so
still-ended : (e : Setup) (L M : List ℕ) (s : ℕ) → ((run e L).actors s).stage ≡ Ended
    → ((run e (L ++ M)).actors s).stage ≡ Ended
still-ended e L M s q = ap (λ (w : State). (w.actors s).stage) (run-append e (start e) L M)
    ∙ ended-on e (run e L) M s q

-- no more turns than those of the schedulers
module _ (e : Setup) where
  abbrev counts : List ℕ → ℕ → ℕ
  counts L i = count_of (suc i) L

  counted : (L : List ℕ) → AreSteps e L → length L ≤ sum e.schedulers (counts L)
  counted = by-turns (λ L. AreSteps e L → length L ≤ sum e.schedulers (counts L))
      (λ L j h are. next L j (in-range e j (is-one e L j (are L [] j refl)))
      (h (front-steps e L j are)))
      (λ are. omega arith)
    where
      next : (L : List ℕ) (j : ℕ) → (1 ≤ j) × (j ≤ e.schedulers)
          → length L ≤ sum e.schedulers (counts L)
          → length (L ++ j ∷ []) ≤ sum e.schedulers (counts (L ++ j ∷ []))
      next L zero is h = absurd (omega (arith, is.0))
      next L (suc k) is h = omega (
        arith,
        h,
        length-append L (suc k ∷ []),
        sum-less (counts L) (counts (L ++ suc k ∷ [])) k e.schedulers (omega (arith, is.1))
            (λ i. omega (arith, count-more (suc i) L (suc k)))
            (omega (arith, count-more (suc k) L (suc k), count-one (suc k) (suc k) refl)),
      )

-- the first turns of a schedule are a front of the first ones up to a later turn
later-turns : (schedule : ℕ → ℕ) (m n : ℕ) → m ≤ n
    → (M : List ℕ) × (first_turns schedule n ≡ first_turns schedule m ++ M)
later-turns schedule m zero within =
    let none : m ≡ 0 = omega (arith, within) in
    ([], ap (first_turns schedule) (sym none) ∙ sym (append-nil (first_turns schedule m)))
later-turns schedule m (suc n) within = elim (cases_eq m (suc n)) [
  | inl q ↦ ([], ap (first_turns schedule) (sym q) ∙ sym (append-nil (first_turns schedule m)))
  | inr ne ↦
      let (M, is) = later-turns schedule m n (omega (arith, within, ne)) in (
        M ++ schedule n ∷ [],
        ap (λ l. l ++ schedule n ∷ []) is
            ∙ append_assoc (first_turns schedule m) M (schedule n ∷ []),
      )
]

module _ (c : Config) (t : Trace) (valid : IsValidConfig c)
    (made : IsValidTrace c.schedulers t) where
  abbrev e : Setup
  e = setup_of c t

  module _ (s : ℕ) where
    -- the steps that s takes from here on, at most
    abbrev left : State → ℕ
    left w = own_work c t (w.actors s) (length (w.shared.rests s))

    -- before its first one
    first-by : (b : Bool) → stage_rows e None (e.texts s) (first_stage e b)
        + 9 * (most_queued c t * stage_takings None (e.texts s) (first_stage e b))
        ≤ most_steps e s
    first-by true = omega (
      arith,
      mul-le-mul_right (length (e.texts s) + 1) few,
    ) where
      few : most_queued c t ≤ most_nodes e
      few = omega (arith, small-names c.schedulers t made)
    first-by false = omega arith

    first-left : left (start e) ≤ most_steps e s
    first-left = omega (arith, first-by (is_scheduler e s))

    -- each of its turns leaves it less, unless it has ended; no other turn does anything to it
    own-turn : (L : List ℕ) → ((run e L).actors s).stage ≢ Ended
        → left (run e (L ++ s ∷ [])) < left (run e L)
    own-turn L goes = subst (λ (w : State). left w < left (run e L)) (sym (run-snoc e L s))
        (own-less c t valid made (run e L) (L, refl) s goes)

    other-turn : (L : List ℕ) (j : ℕ) → j ≢ s → left (run e (L ++ j ∷ [])) ≡ left (run e L)
    other-turn L j ne =
        let still : All (λ i. i ≢ s) (j ∷ []) =
        All-cons (λ i. i ≢ s) j [] ne (All-nil (λ i. i ≢ s)) in
        ap (λ (a : Actor). own_work c t a (length ((run e (L ++ j ∷ [])).shared.rests s)))
        (actor-since e s L (j ∷ []) still)
        ∙ ap (own_work c t ((run e L).actors s)) (rest-since e s L (j ∷ []) still)

    -- after any turns it has ended, or its turns and what is left are no more than at first
    abbrev Stands : List ℕ → Type 0
    Stands L = (((run e L).actors s).stage ≡ Ended)
        ⊎ (count_of s L + left (run e L) ≤ most_steps e s)

    one-more : (L : List ℕ) (j : ℕ) → count_of s L + left (run e L) ≤ most_steps e s
        → ((run e L).actors s).stage ≢ Ended → Stands (L ++ j ∷ [])
    one-more L j h goes = elim (cases_eq j s) [
      | inl q ↦ inr (omega (
        arith,
        h,
        count-more s L j,
        count-one s j q,
        ap (λ i. left (run e (L ++ i ∷ []))) q,
        own-turn L goes,
      ))
      | inr ne ↦ inr (omega (arith, h, count-more s L j, count-none s j ne, other-turn L j ne))
    ]

    stands-next : (L : List ℕ) (j : ℕ) → Stands L → Stands (L ++ j ∷ [])
    stands-next L j (inl q) = inl (still-ended e L (j ∷ []) s q)
    stands-next L j (inr h) = elim (ended-or ((run e L).actors s).stage) [
      | inl q ↦ inl (still-ended e L (j ∷ []) s q)
      | inr goes ↦ one-more L j h goes
    ]

    stands : (L : List ℕ) → Stands L
    stands = by-turns Stands stands-next (inr (omega (arith, first-left)))

    ends : (L : List ℕ) → most_steps e s ≤ count_of s L → ((run e L).actors s).stage ≡ Ended
    ends L many = elim (ended-or ((run e L).actors s).stage) [
      | inl q ↦ q
      | inr goes ↦ elim (stands L) [
        | inl q ↦ q
        | inr h ↦ absurd (omega (arith, many, h, own-turn L goes))
      ]
    ]

    own-next : (L : List ℕ) (j : ℕ) → ((run e L).actors j).stage ≢ Ended
        → count_of s L ≤ most_steps e s → count_of s (L ++ j ∷ []) ≤ most_steps e s
    own-next L j goes h = elim (cases_eq j s) [
      | inl q ↦
          let mine_goes : ((run e L).actors s).stage ≢ Ended =
          subst (λ i. ((run e L).actors i).stage ≢ Ended) q goes in
          elim (stands L) [
            | inl ended ↦ absurd (mine_goes ended)
            | inr k ↦ omega
                (arith, k, count-more s L j, count-one s j q, own-turn L mine_goes)
          ]
      | inr ne ↦ omega (arith, h, count-more s L j, count-none s j ne)
    ]

    own : (L : List ℕ) → AreSteps e L → count_of s L ≤ most_steps e s
    own = by-turns (λ L. AreSteps e L → count_of s L ≤ most_steps e s)
        (λ L j h are. own-next L j (are L [] j refl) (h (front-steps e L j are)))
        (λ are. omega arith)

  -- each scheduler gets as many turns as it takes, sooner or later
  module _ (schedule : ℕ → ℕ) (fair : IsFair e schedule) where
    many-turns : (s : ℕ) → 1 ≤ s → s ≤ e.schedulers → (k from : ℕ)
        → (n : ℕ) × (from ≤ n) × (k ≤ count_of s (first_turns schedule n))
    many-turns s one most zero from = (from, omega arith, omega arith)
    many-turns s one most (suc k) from =
        let (n, past, many) = many-turns s one most k from in
        let (later, after, is) = fair s n one most in
        let (M, front) = later-turns schedule n later after in (
          suc later,
          omega (arith, past, after),
          omega (
            arith,
            many,
            count-more s (first_turns schedule later) (schedule later),
            count-one s (schedule later) is,
            ap (count_of s) front,
            count-append s (first_turns schedule n) M,
          ),
        )

    -- so one after another they all end
    end-up_to : (k : ℕ) → k ≤ e.schedulers → (n : ℕ) × ((s : ℕ) → 1 ≤ s → s ≤ k
        → ((run e (first_turns schedule n)).actors s).stage ≡ Ended)
    end-up_to zero within = (0, λ s one most. absurd (omega (arith, one, most)))
    end-up_to (suc k) within =
        let (n, before) = end-up_to k (omega (arith, within)) in
        let (m, past, many) = many-turns (suc k) (omega arith) within (most_steps e (suc k)) n in
        let (M, front) = later-turns schedule n m past in (
          m,
          λ s one most. elim (cases_eq s (suc k)) [
            | inl q ↦ subst (λ i. ((run e (first_turns schedule m)).actors i).stage ≡ Ended) (sym q)
                (ends (suc k) (first_turns schedule m) many)
            | inr ne ↦ subst (λ L. ((run e L).actors s).stage ≡ Ended) (sym front)
                (still-ended e (first_turns schedule n) M s
                (before s one (omega (arith, most, ne))))
          ],
        )

    all-end : (n : ℕ) × AllEnded (run e (first_turns schedule n))
    all-end =
        let (n, ended) = end-up_to e.schedulers (omega arith) in
        (n, λ s. by n ended s (is_scheduler e s) refl)
      where
        by : (n : ℕ) → ((s : ℕ) → 1 ≤ s → s ≤ e.schedulers
            → ((run e (first_turns schedule n)).actors s).stage ≡ Ended)
            → (s : ℕ) (b : Bool) → is_scheduler e s ≡ b
            → ((run e (first_turns schedule n)).actors s).stage ≡ Ended
        by n ended s true is = let range = in-range e s is in ended s range.0 range.1
        by n ended s false is = outside e s is (first_turns schedule n)

  pub ends-by_itself : EndsByItself e
  ends-by_itself = record {
    own = λ turns are s. own s turns are;
    few = λ turns are. omega (
      arith,
      counted e turns are,
      sum-most (counts e turns) (λ i. most_steps e (suc i)) e.schedulers
          (λ i. own (suc i) turns are),
    );
    ends = λ turns s many. ends s turns many;
    fair = λ schedule fair. all-end schedule fair;
  }
