-- After a completed schedule every scheduler has ended in each type.
use Rattle.std.proofs.Common.{◌≡◌, ◌⊎◌, ℕ, zero, suc, ◌+◌, ◌<◌, ◌≤◌, List, []}
use Rattle.std.proofs.Common.{true, refl, sym, ap, ◌∙◌, subst, inl, inr, arith, length}
use Rattle.std.specs.Prelude.{◌&&◌, All, Option, Some, None, nat_le, nat_lt, slice_index_or}
use Rattle.std.proofs.lemmas.Bool.{cases_Bool, cases_eq, cases_lt}
use Rattle.std.proofs.lemmas.List.{get_or_past}
use Rattle.std.proofs.lemmas.List.Elements.{All-nil}
use Rattle.ea_model.specs.declared.settings.Config.{Config}
use Rattle.ea_model.specs.declared.trace.Trace.{Trace}
use Rattle.ea_model.specs.Settings.{IsValidConfig}
use Rattle.ea_model.specs.Trace.{IsValidTrace}
use Rattle.ea_machine.specs.declared.stages.Stage.TheVariants.{Ended}
use Rattle.ea_machine.specs.Setup.{is_scheduler, setup_of}
use Rattle.ea_machine.specs.State.{State}
use Rattle.ea_sound.proofs.Asked.{reached-rule}
use Rattle.ea_sound.proofs.Completing.{outside, rule-less}
use Rattle.ea_types.specs.Courses.{AllEnd, AreParts, lines_for, types_of}
use Rattle.ea_types.specs.Turning.{AllComeToEnds, Standing, Types, all_work, at_start, completing}
use Rattle.ea_types.specs.Turning.{ending, finishing, own_turns, stands_after, turn_of}
use Rattle.ea_types.specs.Turning.{turned_by, turned_in, turned_on}
use Rattle.ea_types.proofs.OwnRuns.{are-own_runs}
use Rattle.ea_types.proofs.Turns.{Fits, Lessens, ended-on, none-ended, step-fits, step-less}
use Rattle.ea_types.proofs.Turns.{turn-in, turned-append, turns-fit}

module _ (t : Types) (lessens : Lessens t) where
  -- a scheduler that alone takes turns has none left after as many as it has work, at most
  ends : (most : ℕ) (p : Standing) (me : ℕ) (o : Option ℕ) → turn_of t p me ≡ o → Fits t p
      → all_work t p me ≤ most → turn_of t (turned_on t p (ending t most p me o)) me ≡ None
  ends zero p me None is fits upto = is
  ends (suc most) p me None is fits upto = is
  ends zero p me (Some x) is fits upto =
      let (there, going) = turn-in t p fits me x is in
      absurd (omega (arith, upto, step-less t p fits me lessens x there going))
  ends (suc most) p me (Some x) is fits upto =
      let (there, going) = turn-in t p fits me x is in
      let q = turned_in t p me x in
      ap (λ v. turn_of t (turned_on t v (ending t most q me (turn_of t q me))) me)
      (ap (turned_by t p me) is)
      ∙ ends most q me (turn_of t q me) refl (step-fits t p fits me x)
      (omega (arith, upto, step-less t p fits me lessens x there going))

  -- so it has ended in each type
  finishes : (p : Standing) (me x : ℕ) → Fits t p → x < t.types
      → (((turned_on t p (finishing t p me)).states x).actors me).stage ≡ Ended
  finishes p me x fits there = none-ended t (turned_on t p (finishing t p me))
      (turns-fit t p (finishing t p me) fits) me
      (ends (all_work t p me) p me (turn_of t p me) refl fits (omega arith)) x there

  -- one scheduler after another
  completes : (count me : ℕ) (p : Standing) (x j : ℕ) → Fits t p → x < t.types
      → (((p.states x).actors j).stage ≡ Ended) ⊎ ((me ≤ j) × (j < me + count))
      → (((turned_on t p (completing t count me p)).states x).actors j).stage ≡ Ended
  completes zero me p x j fits there (inl ended) = ended
  completes zero me p x j fits there (inr within) = absurd (omega (arith, within.0, within.1))
  completes (suc count) me p x j fits there known =
      let first = finishing t p me in
      let q = turned_on t p first in
      ap (λ (v : Standing). ((v.states x).actors j).stage)
      (turned-append t p first (completing t count (suc me) q))
      ∙ completes count (suc me) q x j (turns-fit t p first fits) there (elim known [
        | inl ended ↦ inl (ended-on t x j p first ended)
        | inr within ↦ elim (cases_eq j me) [
          | inl same ↦ inl (subst (λ i. ((q.states x).actors i).stage ≡ Ended) (sym same)
              (finishes p me x fits there))
          | inr other ↦ inr (omega (arith, within.0, other), omega (arith, within.1))
        ]
      ])

  -- all schedulers, if those of each type are as many
  pub all-come_to_ends : Fits t (at_start t)
      → ((x : ℕ) → x < t.types → (t.setups x).schedulers ≡ t.schedulers) → AllComeToEnds t
  all-come_to_ends fits many turns x me there =
      let p = stands_after t turns in
      let e = t.setups x in
      ap (λ (v : Standing). ((v.states x).actors me).stage)
      (turned-append t (at_start t) turns (completing t t.schedulers 1 p))
      ∙ completes t.schedulers 1 p x me (turns-fit t (at_start t) turns fits) there
      (elim (cases_Bool (is_scheduler e me)) [
        | inl is ↦ inr (
          from me e.schedulers is,
          upto me e.schedulers t.schedulers is (many x there),
        )
        | inr not ↦ inl (ap (λ (w : State). (w.actors me).stage) (are-own_runs t x turns)
            ∙ outside e me not (own_turns t x turns))
      ])
    where
      from : (me n : ℕ) → (nat_lt 0 me && nat_le me n) ≡ true → 1 ≤ me
      from me n is = grind (arith, is)

      upto : (me n k : ℕ) → (nat_lt 0 me && nat_le me n) ≡ true → n ≡ k → me < 1 + k
      upto me n k is same = grind (arith, is, same)

-- the lines that a run begins with are of its types
first-lines : (n : ℕ) (parts : List (List ℕ)) → AreParts n parts
    → (me : ℕ) → All (λ x. x < n) (lines_for parts me)
first-lines n parts are zero = All-nil (λ x. x < n)
first-lines n parts are (suc i) = elim (cases_lt i (length parts)) [
  | inl below ↦ are i [] below
  | inr past ↦ subst (All (λ x. x < n)) (sym (get_or_past parts i [] (omega (arith, past))))
      (All-nil (λ x. x < n))
]

module _ (c : Config) (other : Trace) (traces : List Trace) (parts : List (List ℕ))
    (valid : IsValidConfig c) (made : All (IsValidTrace c.schedulers) traces)
    (are : AreParts (length traces) parts) where
  abbrev t : Types
  t = types_of c other traces parts

  pub start-fits : Fits t (at_start t)
  start-fits = record {
    reached = λ x. ([], refl);
    lines = first-lines (length traces) parts are;
  }

  pub types-lessen : Lessens t
  types-lessen x w me there reached going =
      let trace = slice_index_or traces x other in
      rule-less (setup_of c trace) w me
      (reached-rule c trace valid (made x other there) w reached) going

pub all-end : AllEnd
all-end c other traces parts valid made are =
    let t = types_of c other traces parts in
    all-come_to_ends t (types-lessen c other traces parts valid made are)
    (start-fits c other traces parts valid made are) (λ x there. refl)
