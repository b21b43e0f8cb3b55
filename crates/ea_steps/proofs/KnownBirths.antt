-- In each reached state a carrier was born no later than its owner's instance counts: so the next
-- one that it makes is another than all that are there.
use Rattle.std.proofs.Common.{◌≡◌, ◌≢◌, ℕ, ◌+◌, ◌<◌, List, [], ◌∷◌, Bool, true, false}
use Rattle.std.proofs.Common.{refl, sym, ap, ◌∙◌, subst, inl, inr, arith}
use Rattle.std.specs.Prelude.{◌==◌, ◌&&◌, if◌then◌else◌, length, nat_lt}
use Rattle.std.proofs.lemmas.Bool.{cases_eq}
use Rattle.ea_model.specs.Instance.{first_number, main_content, owner_of}
use Rattle.ea_machine.specs.declared.stages.Stage.TheVariants.{Ended}
use Rattle.ea_machine.specs.Actor.{Actor}
use Rattle.ea_machine.specs.Machine.{first_actor, first_place, first_stage, instance_by, run, start}
use Rattle.ea_machine.specs.Machine.{step}
use Rattle.ea_machine.specs.Owners.{employed_if}
use Rattle.ea_machine.specs.Setup.{Setup, first_page, is_scheduler}
use Rattle.ea_machine.specs.State.{State}
use Rattle.ea_machine.specs.Sums.{one_if, sum_over}
use Rattle.ea_sound.specs.Contents.{actor_sum, hand_sum, home_sum, seats, slots, sum_everywhere}
use Rattle.ea_sound.specs.Present.{Rule}
use Rattle.ea_sound.proofs.Created.{scheduler-number}
use Rattle.ea_sound.proofs.Global.{working-scheduler}
use Rattle.ea_sound.proofs.Plans.{numbered-owner}
use Rattle.ea_sound.proofs.Totals.{total-none}
use Rattle.ea_sound.proofs.TurnLists.{by-turns, ended-or, run-snoc, step-ended, step-other}
use Rattle.ea_steps.proofs.CarrierSums.{of_birth}
use Rattle.ea_steps.proofs.ChangedCarriers.{changes}

-- no carrier has a birth after those that its owner's instance has counted
abbrev pub KnowsBirths : Setup → State → Type 0
KnowsBirths e w = (n b : ℕ) → (w.actors (owner_of n)).instance.created < b
    → sum_everywhere e (of_birth n b) w ≡ 0

pub not-same : (n m b d : ℕ) → b ≢ d → one_if ((n == m) && (b == d)) ≡ 0
not-same n m b d other = grind (arith, other)

pub not-number : (n m b d : ℕ) → n ≢ m → one_if ((n == m) && (b == d)) ≡ 0
not-number n m b d other = grind (arith, other)

module _ (e : Setup) (w : State) (rule : Rule e w) (me : ℕ) (knows : KnowsBirths e w) where
  module _ (is : is_scheduler e me ≡ true) (goes : (w.actors me).stage ≢ Ended) (n b : ℕ)
      (later : ((step e w me).actors (owner_of n)).instance.created < b) where
    own-births : owner_of n ≡ me → sum_everywhere e (of_birth n b) (step e w me) ≡ 0
    own-births own = elim (changes e w rule me is goes) [
      | inl none ↦ omega (
        arith,
        none.births n b,
        knows n b (omega (
          arith,
          later,
          none.created,
          ap (λ i. ((step e w me).actors i).instance.created) own,
          ap (λ i. (w.actors i).instance.created) own,
        )),
      )
      | inr (p, made) ↦ omega (
        arith,
        made.births n b,
        not-same p.number n p.birth b (λ q. omega (
          arith,
          later,
          q,
          made.created,
          ap (λ i. ((step e w me).actors i).instance.created) own,
        )),
        knows n b (omega (
          arith,
          later,
          made.created,
          made.birth,
          ap (λ i. ((step e w me).actors i).instance.created) own,
          ap (λ i. (w.actors i).instance.created) own,
        )),
      )
    ]

    other-births : owner_of n ≢ me → sum_everywhere e (of_birth n b) (step e w me) ≡ 0
    other-births other =
        let was = knows n b (omega (
          arith,
          later,
          ap (λ (z : Actor). z.instance.created) (step-other e w me (owner_of n) other),
        )) in
        elim (changes e w rule me is goes) [
          | inl none ↦ omega (arith, none.births n b, was)
          | inr (p, made) ↦ omega (
            arith,
            made.births n b,
            was,
            not-number p.number n p.birth b (λ q. other (sym (ap owner_of q) ∙ made.owner)),
          )
        ]

  pub step-births : KnowsBirths e (step e w me)
  step-births n b later = elim (ended-or (w.actors me).stage) [
    | inl ended ↦
        let same = step-ended e w me ended in
        ap (sum_everywhere e (of_birth n b)) same
        ∙ knows n b (omega (
          arith,
          later,
          ap (λ (z : State). (z.actors (owner_of n)).instance.created) same,
        ))
    | inr goes ↦
        let is = working-scheduler e w rule.kept me goes in
        elim (cases_eq (owner_of n) me) [
          | inl own ↦ own-births is goes n b later own
          | inr other ↦ other-births is goes n b later other
        ]
  ]

-- at the beginning there are main carriers alone, each its owner's first
module _ (e : Setup) (n b : ℕ) (later : (first_actor e (owner_of n)).instance.created < b) where
  main-none : (i : ℕ) (is : is_scheduler e i ≡ true) (some : nat_lt 0 e.settings.mmbcs ≡ true)
      → of_birth n b (main_content e.settings i (first_page e i)) ≡ 0
  main-none i is some = elim (cases_eq (first_number i) n) [
    | inr other ↦ not-number (first_number i) n 1 b other
    | inl same ↦ not-same (first_number i) n 1 b (λ q. omega (
      arith,
      later,
      q,
      ap (λ o. (first_actor e o).instance.created) (sym (ap owner_of same) ∙ owned),
      one-created,
    ))
  ] where
    owned : owner_of (first_number i) ≡ i
    owned = numbered-owner i (first_number i) (scheduler-number e i is).0 (omega arith)
        (omega arith)

    one-created : (first_actor e i).instance.created ≡ 1
    one-created = ap (λ t. (instance_by e t i).created) is
        ∙ ap (λ t. length (if t then main_content e.settings i (first_page e i) ∷ [] else [])) some

  no-hand : (t : Bool) → hand_sum (of_birth n b) (of_birth n b) (first_stage e t) ≡ 0
  no-hand true = refl
  no-hand false = refl

  none-at : (i : ℕ) → sum_over (of_birth n b) (first_actor e i).instance.contents
      + sum_over (of_birth n b) (first_actor e i).instance.singles ≡ 0
  none-at i = by (is_scheduler e i) refl (nat_lt 0 e.settings.mmbcs) refl where
    by : (t : Bool) → is_scheduler e i ≡ t → (m : Bool) → nat_lt 0 e.settings.mmbcs ≡ m
        → sum_over (of_birth n b) (instance_by e t i).contents
        + sum_over (of_birth n b) (instance_by e t i).singles ≡ 0
    by false not m q = refl
    by true is false q = omega (
      arith,
      ap (λ t. sum_over (of_birth n b)
          (if t then main_content e.settings i (first_page e i) ∷ [] else [])) q,
    )
    by true is true q = omega (
      arith,
      ap (λ t. sum_over (of_birth n b)
          (if t then main_content e.settings i (first_page e i) ∷ [] else [])) q,
      main-none i is q,
    )

  no-home : (t : Bool) (o : ℕ) → home_sum (of_birth n b) (employed_if t o) ≡ 0
  no-home true o = refl
  no-home false o = refl

  none-first : sum_everywhere e (of_birth n b) (start e) ≡ 0
  none-first = omega (
    arith,
    total-none (actor_sum (of_birth n b) (of_birth n b)) (first_actor e) (seats e)
        (λ i l. omega (arith, none-at i, no-hand (is_scheduler e i))),
    total-none (home_sum (of_birth n b)) (first_place e) (slots e) (λ c l. no-home _ (owner_of c)),
  )

pub start-births : (e : Setup) → KnowsBirths e (start e)
start-births e n b later = none-first e n b later

-- so in each run
pub births-known : (e : Setup) → ((L : List ℕ) → Rule e (run e L)) → (turns : List ℕ)
    → KnowsBirths e (run e turns)
births-known e rules = by-turns (λ L. KnowsBirths e (run e L))
    (λ L j knows. subst (KnowsBirths e) (sym (run-snoc e L j))
    (step-births e (run e L) (rules L) j knows)) (start-births e)
