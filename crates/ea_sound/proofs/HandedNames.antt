-- Names that are given and taken: what a step makes of them, and how often one was tried for.
use Rattle.std.proofs.Common.{◌≡◌, ◌≢◌, ◌⊎◌, ℕ, ◌<◌, List, [], ◌∷◌, ◌++◌, refl, sym, ap, ◌∙◌, subst}
use Rattle.std.proofs.Common.{inl, inr, arith}
use Rattle.std.specs.Prelude.{Option, Some, None, option_map, ◌==◌}
use Rattle.ea_model.specs.declared.carriers.Spot.{Spot}
use Rattle.ea_model.specs.declared.entries.Entry.TheVariants as entry
use Rattle.ea_model.proofs.Rising.{item_at-gone, item_at-key, item_at-new, none-other}
use Rattle.ea_model.specs.Content.{Content}
use Rattle.ea_machine.specs.declared.nodes.Named.{Named}
use Rattle.ea_machine.specs.declared.stages.Stage.{Stage}
use Rattle.ea_machine.specs.declared.stages.Stage.TheVariants.{Ended, Giving, Taking}
use Rattle.ea_machine.specs.Actor.{Actor}
use Rattle.ea_sound.specs.Contents.{seats}
use Rattle.ea_sound.specs.HandedOver.{IsGiven, IsTaken}
use Rattle.ea_machine.specs.Machine.{run, wants_at}
use Rattle.ea_sound.specs.Names.{of_named, only}
use Rattle.ea_machine.specs.Nodes.{named_at, spot_named, with_name, without_name, name_of}
use Rattle.ea_machine.specs.Placements.{holding}
use Rattle.ea_machine.specs.Rows.{Give, Got, TakeTry}
use Rattle.ea_machine.specs.Setup.{Setup}
use Rattle.ea_machine.specs.Shared.{Shared}
use Rattle.ea_machine.specs.State.{State}
use Rattle.ea_machine.specs.Statistics.{observed}
use Rattle.ea_machine.specs.Sums.{one_if}
use Rattle.ea_machine.specs.Table.{answer, effect}
use Rattle.ea_machine.specs.Tasks.{let_go, logged}
use Rattle.ea_sound.specs.Turns.{actor_after, answered}
use Rattle.ea_sound.specs.Present.{Fits, Rule}
use Rattle.ea_sound.specs.Rule.{Kept, names_of}
use Rattle.ea_sound.proofs.Global.{working-scheduler}
use Rattle.ea_sound.proofs.KeyedWeights.{sum-item}
use Rattle.ea_sound.proofs.Numbered.{scheduler-seat}
use Rattle.ea_sound.proofs.Totals.{total-part}
use Rattle.ea_sound.proofs.TurnLists.{run-snoc, step-shared}
use Rattle.ea_sound.proofs.Weights.{one-itself}

-- what the rows answer and do
pub given-after : (me : ℕ) (g : Named) (s : Shared)
    → (effect me (Give g) s).given ≡ with_name g s.given
unfolding effect
given-after me g s = refl

pub taken-after : (me n : ℕ) (s : Shared)
    → (effect me (TakeTry n) s).given ≡ without_name n s.given
unfolding effect
taken-after me n s = refl

pub take-got : (me n : ℕ) (s : Shared) → answer me (TakeTry n) s ≡ Got (spot_named n s.given)
unfolding answer
take-got me n s = refl

got-same : (p q : Option Spot) → Got p ≡ Got q → p ≡ q
got-same p q r = cc

-- the name whose spot is found
pub spot-named : (n : ℕ) (names : List Named) (spot : Spot) → spot_named n names ≡ Some spot
    → (x : Named) × (named_at n names ≡ Some x)
spot-named n names spot q = by (named_at n names) refl q where
  by : (o : Option Named) → named_at n names ≡ o → option_map (λ (x : Named). x.spot) o ≡ Some spot
      → (x : Named) × (named_at n names ≡ Some x)
  by None is q = absurd cc
  by (Some x) is q = (x, is)

-- a name that a scheduler holds isn't given too
module _ (e : Setup) (w : State) (k : Kept e w) (me : ℕ) (seat : me < seats e) (n : ℕ) where
  counted-once : (x : Named) → x.name ≡ n → of_named (only n) x ≡ 1
  counted-once x q = ap (λ m. one_if (m == n)) q ∙ one-itself n

  not_both : (x y : Named) → named_at n (w.actors me).held ≡ Some x
      → named_at n w.shared.given ≡ Some y → ⊥
  not_both x y h g = omega (
    arith,
    k.names.balance (only n),
    k.names.once n,
    total-part (names_of (only n)) w.actors me (seats e) seat,
    sum-item name_of (of_named (only n)) n x (w.actors me).held h,
    sum-item name_of (of_named (only n)) n y w.shared.given g,
    counted-once x (item_at-key name_of n x (w.actors me).held h),
    counted-once y (item_at-key name_of n y w.shared.given g),
  )

  pub held-not_given : (x : Named) → named_at n (w.actors me).held ≡ Some x
      → named_at n w.shared.given ≡ None
  held-not_given x h = by (named_at n w.shared.given) refl where
    by : (o : Option Named) → named_at n w.shared.given ≡ o → o ≡ None
    by None q = refl
    by (Some y) q = absurd (not_both x y h q)

  pub given-not_held : (y : Named) → named_at n w.shared.given ≡ Some y
      → named_at n (w.actors me).held ≡ None
  given-not_held y g = by (named_at n (w.actors me).held) refl where
    by : (o : Option Named) → named_at n (w.actors me).held ≡ o → o ≡ None
    by None q = refl
    by (Some x) q = absurd (not_both x y q g)

module _ (e : Setup) (rules : (L : List ℕ) → Rule e (run e L)) (L : List ℕ) (me : ℕ) where
  abbrev acting : Actor
  acting = actor_after e L me

  abbrev turn : List ℕ
  turn = L ++ me ∷ []

  abbrev IsNow : Actor → Type 0
  IsNow b = observed b ≡ actor_after e turn me

  module _ (works : acting.stage ≢ Ended) where
    seat : me < seats e
    seat = scheduler-seat e me (working-scheduler e (run e L) (rules L).kept me works)

    -- what is given after the turn
    given-now : (st : Stage Content) → acting.stage ≡ st → (run e turn).shared.given
        ≡ (effect me (wants_at acting.next st) (run e L).shared).given
    given-now st q = ap (λ (w : State). w.shared.given) (run-snoc e L me)
        ∙ ap (λ (s : Shared). s.given) (step-shared e (run e L) me works)
        ∙ ap (λ st. (effect me (wants_at acting.next st) (run e L).shared).given) q

    -- a name is given
    pub is-given : (g : Named) (to : ℕ) → acting.stage ≡ Giving g to
        → IsNow (logged (entry.Give g.name to) (let_go g.name acting)) → IsGiven e L me g.name
    is-given g to q now =
        let f = subst (Fits e (run e L) me acting) q ((rules L).present.fits me) in
        let none = held-not_given e (run e L) (rules L).kept me seat g.name g f.0 in
        record {
          spot = g.spot;
          held = ap (option_map (λ (x : Named). x.spot)) f.0;
          given = ap (spot_named g.name) (given-now (Giving g to) q
              ∙ given-after me g (run e L).shared)
              ∙ ap (option_map (λ (x : Named). x.spot))
              (item_at-new name_of g (run e L).shared.given
              (none-other name_of g.name (run e L).shared.given none));
          gone = ap (λ (a : Actor). spot_named g.name a.held) (sym now)
              ∙ ap (option_map (λ (x : Named). x.spot)) (item_at-gone name_of g.name acting.held);
        }

    module _ (n tries left : ℕ) (q : acting.stage ≡ Taking n tries left) where
      -- the try saw what is given
      pub tried-given : (p : Option Spot) → answered (run e L) me ≡ Got p
          → spot_named n (run e L).shared.given ≡ p
      tried-given p ans = got-same (spot_named n (run e L).shared.given) p
          (sym (ap (λ st. answer me (wants_at acting.next st) (run e L).shared) q
          ∙ take-got me n (run e L).shared) ∙ ans)

      -- a name is taken
      pub is-taken : (spot : Spot) → answered (run e L) me ≡ Got (Some spot)
          → IsNow (logged (entry.Take n) (holding n spot acting)) → IsTaken e L me n
      is-taken spot ans now =
          let was = tried-given (Some spot) ans in
          let new : Named = record { name = n; spot = spot } in
          let x = spot-named n (run e L).shared.given spot was in
          let none = given-not_held e (run e L) (rules L).kept me seat n x.0 x.1 in
          record {
            spot = spot;
            given = was;
            held = ap (λ (a : Actor). spot_named n a.held) (sym now)
                ∙ ap (option_map (λ (x : Named). x.spot)) (item_at-new name_of new acting.held
                (none-other name_of n acting.held none));
            gone = ap (spot_named n) (given-now (Taking n tries left) q
                ∙ taken-after me n (run e L).shared)
                ∙ ap (option_map (λ (x : Named). x.spot))
                (item_at-gone name_of n (run e L).shared.given);
          }

-- just before each step of s among these, after the steps `before` and one of its own, the name
-- isn't given
abbrev pub NeverGiven : Setup → List ℕ → ℕ → ℕ → List ℕ → Type 0
NeverGiven e before s n since = (mid later : List ℕ) → since ≡ mid ++ s ∷ later
    → spot_named n (run e (before ++ s ∷ mid)).shared.given ≡ None

-- where a list with one more at its end is split
abbrev pub SplitAt : List ℕ → ℕ → List ℕ → ℕ → List ℕ → Type 0
SplitAt js j mid s later = ((j ≡ s) × (js ≡ mid))
    ⊎ ((rest : List ℕ) × (js ≡ mid ++ s ∷ rest))

first-same : (i j : ℕ) (is js : List ℕ) → i ∷ is ≡ j ∷ js → (i ≡ j) × (is ≡ js)
first-same i j is js q = (cc, cc)

pub split-snoc : (js : List ℕ) (j : ℕ) (mid : List ℕ) (s : ℕ) (later : List ℕ)
    → js ++ j ∷ [] ≡ mid ++ s ∷ later → SplitAt js j mid s later
split-snoc [] j [] s later q = inl ((first-same j s [] later q).0, refl)
split-snoc [] j (m ∷ []) s later q =
    absurd (let t : [] ≡ s ∷ later = (first-same j m [] (s ∷ later) q).1 in cc)
split-snoc [] j (m ∷ o ∷ mid) s later q =
    absurd (let t : [] ≡ o ∷ mid ++ s ∷ later
    = (first-same j m [] (o ∷ mid ++ s ∷ later) q).1 in cc)
split-snoc (i ∷ js) j [] s later q =
    let t = first-same i s (js ++ j ∷ []) later q in
    inr (js, ap (λ k. k ∷ js) t.0)
split-snoc (i ∷ js) j (m ∷ mid) s later q =
    let t = first-same i m (js ++ j ∷ []) (mid ++ s ∷ later) q in
    elim (split-snoc js j mid s later t.1) [
      | inl here ↦ inl (here.0, ap (λ k. k ∷ js) t.0 ∙ ap (λ l. m ∷ l) here.1)
      | inr more ↦ inr (more.0, ap (λ k. k ∷ js) t.0 ∙ ap (λ l. m ∷ l) more.1)
    ]

module _ (e : Setup) (before : List ℕ) (s n : ℕ) (since : List ℕ) where
  pub never-other : (j : ℕ) → j ≢ s → NeverGiven e before s n since
      → NeverGiven e before s n (since ++ j ∷ [])
  never-other j ne h mid later q = elim (split-snoc since j mid s later q) [
    | inl here ↦ absurd (ne here.0)
    | inr more ↦ h mid more.0 more.1
  ]

  pub never-mine : spot_named n (run e (before ++ s ∷ since)).shared.given ≡ None
      → NeverGiven e before s n since → NeverGiven e before s n (since ++ s ∷ [])
  never-mine now h mid later q = elim (split-snoc since s mid s later q) [
    | inl here ↦ subst (λ l. spot_named n (run e (before ++ s ∷ l)).shared.given ≡ None) here.1 now
    | inr more ↦ h mid more.0 more.1
  ]

pub never-first : (e : Setup) (before : List ℕ) (s n : ℕ) → NeverGiven e before s n []
never-first e before s n [] later q = absurd cc
never-first e before s n (m ∷ mid) later q = absurd cc
