-- After a completed schedule every scheduler has ended, whatever its writes and reads.
use Rattle.std.proofs.Common.{◌≡◌, ◌⊎◌, ℕ, zero, suc, ◌+◌, ◌<◌, ◌≤◌, List, [], ◌∷◌, ◌++◌}
use Rattle.std.proofs.Common.{true, refl, sym, ap, ◌∙◌, subst, inl, inr, arith, length}
use Rattle.std.specs.Prelude.{◌&&◌, drop, nat_le, nat_lt}
use Rattle.std.proofs.lemmas.Bool.{cases_Bool, cases_eq}
use Rattle.ea_model.specs.declared.settings.Config.{Config}
use Rattle.ea_model.specs.declared.trace.Trace.{Trace}
use Rattle.ea_model.specs.Settings.{IsValidConfig}
use Rattle.ea_model.specs.Trace.{IsValidTrace}
use Rattle.ea_machine.specs.declared.stages.Stage.TheVariants.{Ended}
use Rattle.ea_machine.specs.Machine.{run, step}
use Rattle.ea_machine.specs.Setup.{Setup, is_scheduler, setup_of}
use Rattle.ea_machine.specs.State.{State}
use Rattle.ea_sound.proofs.Completing.{ended-on, outside}
use Rattle.ea_sound.proofs.Totals.{put-here, put-other}
use Rattle.ea_sound.proofs.TurnLists.{ended-or, run-snoc, step-other}
use Rattle.ea_contents.specs.declared.access.Access.{Access}
use Rattle.ea_contents.specs.declared.access.AccessEntry.{AccessEntry}
use Rattle.ea_contents.specs.Entering.{entry_of, lists_by}
use Rattle.ea_contents.specs.Model.{AllEnd, CompletesAll, Moment, Script, advanced, completing, done}
use Rattle.ea_contents.specs.Model.{ending, finishing, opening, past_after, play, play_on, steps_in}
use Rattle.ea_contents.specs.Model.{turn, turns_left, waiting}
use Rattle.ea_contents.proofs.Endings.{EndsNone, EndsOne, ending-none, ending-one, ends-some}
use Rattle.ea_contents.proofs.Endings.{some-left, turn-fewer}
use Rattle.ea_contents.proofs.Moments.{after_access, is-less, not-less, past-other, play-append}
use Rattle.ea_contents.proofs.Moments.{play-state, turn-made, turn-step}

-- who has something left after n has more than n
more-than : (n : ℕ) (xs : List Access) (a : Access) (later : List Access)
    → drop n xs ≡ a ∷ later → n < length xs
more-than zero [] a later is = absurd cc
more-than zero (x ∷ xs) a later is = omega arith
more-than (suc n) [] a later is = absurd cc
more-than (suc n) (x ∷ xs) a later is = omega (arith, more-than n xs a later is)

module _ (c : Config) (t : Trace) (config : IsValidConfig c) (valid : IsValidTrace c.schedulers t)
    (script : Script) where
  abbrev e : Setup
  e = setup_of c t

  -- a moment to which turns lead: no scheduler has made more of the writes and reads at its place
  -- than there are
  record IsPlayed (m : Moment) : Type 0 where
    taken : List ℕ
    is : m.state ≡ run e taken
    few : (i : ℕ) → m.past i ≤ length (script i (done m.state i))

  opening-played : IsPlayed (opening e)
  opening-played = record { taken = []; is = refl; few = λ i. omega arith }

  module _ (m : Moment) (i : ℕ) (played : IsPlayed m) where
    made-few : (a : Access) (later : List Access) → waiting e script m i ≡ a ∷ later
        → (lists : ℕ → List ℕ) (entry : AccessEntry) (j : ℕ)
        → (after_access m i lists entry).past j ≤ length (script j (done m.state j))
    made-few a later waits lists entry j = elim (cases_eq j i) [
      | inl same ↦ subst (λ k. (after_access m i lists entry).past k
          ≤ length (script k (done m.state k))) (sym same) (omega (
            arith,
            put-here m.past i (m.past i + 1) i refl,
            more-than (m.past i) (script i (done m.state i)) a later waits,
          ))
      | inr other ↦ omega (arith, put-other m.past i (m.past i + 1) j other, played.few j)
    ]

    made-played : (a : Access) (later : List Access) → waiting e script m i ≡ a ∷ later
        → (lists : ℕ → List ℕ) (entry : AccessEntry) → IsPlayed (after_access m i lists entry)
    made-played a later waits lists entry = record {
      taken = played.taken;
      is = played.is;
      few = made-few a later waits lists entry;
    }

    -- the scheduler itself after its step
    own-few : (v : State) (past : ℕ)
        → past ≡ past_after e (nat_lt (done m.state i) (done v i)) m.past i i
        → EndsNone m.state v i ⊎ EndsOne m.state v i → past ≤ length (script i (done v i))
    own-few v past then (inl none) = omega (
      arith,
      played.few i,
      ap (λ d. length (script i d)) none.0,
      then ∙ ap (λ d. past_after e (nat_lt (done m.state i) d) m.past i i) none.0
          ∙ ap (λ b. past_after e b m.past i i) (not-less (done m.state i)),
    )
    own-few v past then (inr one) = omega (
      arith,
      then ∙ ap (λ b. past_after e b m.past i i)
          (is-less (done m.state i) (done v i) one.0)
          ∙ put-here m.past i 0 i refl,
    )

    step-few : (j : ℕ) → (advanced e m i).past j ≤ length (script j (done (step e m.state i) j))
    step-few j = elim (cases_eq j i) [
      | inl same ↦ subst (λ k. (advanced e m i).past k
          ≤ length (script k (done (step e m.state i) k))) (sym same)
          (own-few (step e m.state i) ((advanced e m i).past i) refl
          (subst (λ (w : State). EndsNone w (step e w i) i ⊎ EndsOne w (step e w i) i)
          (sym played.is) (ends-some c t config valid played.taken i)))
      | inr other ↦ omega (
        arith,
        played.few j,
        past-other e (nat_lt (done m.state i) (done (step e m.state i) i)) m.past i j other,
        ap (λ a. length (script j (length a.log))) (step-other e m.state i j other),
      )
    ]

    step-played : IsPlayed (advanced e m i)
    step-played = record {
      taken = played.taken ++ i ∷ [];
      is = ap (λ w. step e w i) played.is ∙ sym (run-snoc e played.taken i);
      few = step-few;
    }

    by-waiting : (xs : List Access) → waiting e script m i ≡ xs → IsPlayed (turn e script m i)
    by-waiting [] none = subst IsPlayed (sym (turn-step e script m i none)) step-played
    by-waiting (a ∷ later) waits = subst IsPlayed (sym (turn-made e script m i a later waits))
        (made-played a later waits (lists_by e m.state i m.lists a)
        (entry_of e m.state i m.lists a))

    turn-played : IsPlayed (turn e script m i)
    turn-played = by-waiting (waiting e script m i) refl

  turns-played : (m : Moment) (turns : List ℕ) → IsPlayed m → IsPlayed (play_on e script m turns)
  turns-played m [] played = played
  turns-played m (i ∷ turns) played =
      turns-played (turn e script m i) turns (turn-played m i played)

  -- the scheduler has ended then
  abbrev EndsAt : ℕ → Moment → Type 0
  EndsAt i m = (m.state.actors i).stage ≡ Ended

  -- a scheduler that alone takes turns has ended after as many as are left to it, at most
  ends : (most : ℕ) (m : Moment) (i : ℕ) → IsPlayed m
      → turns_left e script m i ≤ most + m.past i
      → EndsAt i (play_on e script m (ending e script most m i (m.state.actors i).stage))
  ends zero m i played upto = elim (ended-or (m.state.actors i).stage) [
    | inl ended ↦ ap (λ js. ((play_on e script m js).state.actors i).stage)
        (ap (ending e script zero m i) ended ∙ ending-none e script i zero m) ∙ ended
    | inr going ↦ absurd (omega (
      arith,
      upto,
      some-left c t config valid script i m played.taken played.is (played.few i) going,
    ))
  ]
  ends (suc most) m i played upto = elim (ended-or (m.state.actors i).stage) [
    | inl ended ↦ ap (λ js. ((play_on e script m js).state.actors i).stage)
        (ap (ending e script (suc most) m i) ended ∙ ending-none e script i (suc most) m) ∙ ended
    | inr going ↦ ap (λ js. ((play_on e script m js).state.actors i).stage)
        (ending-one e script i most m (m.state.actors i).stage going)
        ∙ ends most (turn e script m i) i (turn-played m i played) (omega (
          arith,
          upto,
          turn-fewer c t config valid script i m played.taken played.is (played.few i) going,
        ))
  ]

  finishes : (m : Moment) (i : ℕ) → IsPlayed m
      → EndsAt i (play_on e script m (finishing e script m i))
  finishes m i played = ends (turns_left e script m i) m i played (omega arith)

  -- who has ended stays so
  stays : (m : Moment) (turns : List ℕ) (i : ℕ) → EndsAt i m → EndsAt i (play_on e script m turns)
  stays m turns i ended =
      ap (λ (w : State). (w.actors i).stage) (play-state e script m turns)
      ∙ ended-on e m.state (steps_in e script m turns) i ended

  -- one scheduler after another
  completes : (count me : ℕ) (m : Moment) (j : ℕ) → IsPlayed m
      → EndsAt j m ⊎ ((me ≤ j) × (j < me + count))
      → EndsAt j (play_on e script m (completing e script count me m))
  completes zero me m j played (inl ended) = ended
  completes zero me m j played (inr within) = absurd (omega (arith, within.0, within.1))
  completes (suc count) me m j played known =
      let first = finishing e script m me in
      let q = play_on e script m first in
      ap (λ (v : Moment). (v.state.actors j).stage)
      (play-append e script m first (completing e script count (suc me) q))
      ∙ completes count (suc me) q j (turns-played m first played) (elim known [
        | inl ended ↦ inl (stays m first j ended)
        | inr within ↦ elim (cases_eq j me) [
          | inl same ↦ inl (subst (λ i. EndsAt i q) (sym same) (finishes m me played))
          | inr other ↦ inr (omega (arith, within.0, other), omega (arith, within.1))
        ]
      ])

  from : (i n : ℕ) → (nat_lt 0 i && nat_le i n) ≡ true → 1 ≤ i
  from i n is = grind (arith, is)

  upto : (i n : ℕ) → (nat_lt 0 i && nat_le i n) ≡ true → i < 1 + n
  upto i n is = grind (arith, is)

  all-ended : (turns : List ℕ) → CompletesAll e script turns
  all-ended turns i =
      let m = play e script turns in
      let played = turns-played (opening e) turns opening-played in
      ap (λ (v : Moment). (v.state.actors i).stage)
      (play-append e script (opening e) turns (completing e script e.schedulers 1 m))
      ∙ completes e.schedulers 1 m i played (elim (cases_Bool (is_scheduler e i)) [
        | inl is ↦ inr (from i e.schedulers is, upto i e.schedulers is)
        | inr not ↦ inl (ap (λ (w : State). (w.actors i).stage) played.is
            ∙ outside e i not played.taken)
      ])

pub all-end : AllEnd
all-end c t config valid script turns = all-ended c t config valid script turns
