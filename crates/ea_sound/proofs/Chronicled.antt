-- Each entry of a log tells how it came about, and each operation makes one.
use Rattle.std.proofs.Common.{◌≡◌, ◌≢◌, ◌⊎◌, ℕ, List, [], ◌∷◌, ◌++◌, Bool, true, false, refl, sym}
use Rattle.std.proofs.Common.{ap, ◌∙◌, subst, inl, inr}
use Rattle.std.specs.List.{AllZip}
use Rattle.std.proofs.lemmas.Bool.{cases_eq}
use Rattle.std.proofs.lemmas.List.{append_assoc}
use Rattle.std.proofs.lemmas.Slice.Zip.{all_zipped_more}
use Rattle.ea_model.specs.declared.operations.Op.{Op}
use Rattle.ea_model.specs.declared.operations.Op.TheVariants as op
use Rattle.ea_machine.specs.declared.stages.Stage.TheVariants.{Ended, Ready}
use Rattle.ea_machine.specs.Actor.{Actor}
use Rattle.ea_sound.specs.Entries.{EntersOne, HasSkipped, LogsEach, Makes, SkipsUnheld}
use Rattle.ea_machine.specs.Machine.{after_row, first_stage, instance_by, onward, onward_at, run}
use Rattle.ea_machine.specs.Operations.{freed, giving, itself}
use Rattle.ea_machine.specs.Reallocations.{reallocated}
use Rattle.ea_model.specs.Units.{need_of}
use Rattle.ea_machine.specs.Setup.{Setup, is_scheduler}
use Rattle.ea_machine.specs.State.{State}
use Rattle.ea_machine.specs.Statistics.{observed}
use Rattle.ea_machine.specs.Tasks.{later}
use Rattle.ea_sound.specs.Sought.{CreatesIfSought}
use Rattle.ea_sound.specs.Turns.{IsBegun, actor_after, answered, begun, log_after}
use Rattle.ea_sound.specs.Present.{Rule}
use Rattle.ea_sound.proofs.Chronicle.{SoFar, other-so_far}
use Rattle.ea_sound.proofs.ChroniclePlaces.{OneMore, Stays}
use Rattle.ea_sound.proofs.ChronicleTurns.{begun-keeps, turn-fine}
use Rattle.ea_sound.proofs.Global.{working-scheduler}
use Rattle.ea_sound.proofs.TurnLists.{by-turns, ended-or, run-snoc, step-ended, step-mine}
use Rattle.ea_sound.proofs.TurnLists.{step-other}

module _ (e : Setup) where
  -- where the begin is over, the operation itself follows in the same step
  pub begun-going : (L : List ℕ) (s : ℕ) → IsBegun e (run e L) s → (actor_after e L s).stage ≢ Ended
  begun-going L s b q =
      let t : Ended ≡ Ready = sym q ∙ subst (λ st. (after_row e s (actor_after e L s)
      (answered (run e L) s) st).stage ≡ Ready) q b in absurd (cc)

  pub begun-now : (L : List ℕ) (s : ℕ) → IsBegun e (run e L) s
      → actor_after e (L ++ s ∷ []) s
      ≡ observed (itself e s (begun e L s) (begun e L s).todo)
  begun-now L s b = ap (λ (w : State). w.actors s) (run-snoc e L s)
      ∙ step-mine e (run e L) s (begun-going L s b)
      ∙ ap (λ st. observed (onward_at e s (begun e L s) st)) b

  pub skips-unheld : SkipsUnheld e
  skips-unheld turns s b = subst (λ (a : Actor). HasSkipped mid mid.todo a.log)
      (sym (begun-now turns s b)) (by mid.todo)
    where
      mid : Actor
      mid = begun e turns s

      by : (ops : List Op) → HasSkipped mid ops (itself e s mid ops).log
      by [] = tt
      by (op.Alloc n k ∷ ops) = tt
      by (op.Free n ∷ ops) = λ q. ap (λ h. (freed e s n mid h).log) q
      by (op.Realloc o n k ∷ ops) = λ q. ap (λ h. (reallocated e s o n (need_of k) mid h).log) q
      by (op.Give n to ∷ ops) = λ q. ap (λ h. (giving n to mid h).log) q
      by (op.Take n tries ∷ ops) = tt
      by (op.Info ∷ ops) = tt
      by (op.Idle ∷ ops) = tt

module _ (e : Setup) (rules : (L : List ℕ) → Rule e (run e L)) where
  -- what the turns say of a scheduler, which has the settings of the run
  abbrev pub Holds : List ℕ → ℕ → Actor → Type 0
  Holds L s a = SoFar e L s a a.stage × (a.instance.settings ≡ e.settings)

  abbrev MyTurn : List ℕ → ℕ → Actor → Type 0
  MyTurn L s now = Holds (L ++ s ∷ []) s now × (Stays e rules L s now ⊎ OneMore e rules L s now)

  observed-one : (L : List ℕ) (s : ℕ) (b : Actor) → Stays e rules L s b ⊎ OneMore e rules L s b
      → Stays e rules L s (observed b) ⊎ OneMore e rules L s (observed b)
  observed-one L s b (inl q) = inl q
  observed-one L s b (inr m) = inr (record {
    entry = m.entry;
    of = m.of;
    left = m.left;
    log = m.log;
    begins = m.begins;
    tells = m.tells;
    none = m.none;
  })

  my-turn : (L : List ℕ) (s : ℕ) → Holds L s (actor_after e L s)
      → MyTurn L s (actor_after e (L ++ s ∷ []) s)
  my-turn L s h =
      elim (ended-or (actor_after e L s).stage) [
        | inl q ↦ subst (MyTurn L s)
            (sym (ap (λ (w : State). w.actors s) (run-snoc e L s ∙ step-ended e (run e L) s q))) (
              (subst (SoFar e (L ++ s ∷ []) s (actor_after e L s)) (sym q) tt, h.1),
              inl (refl, refl),
            )
        | inr ne ↦
            let now : actor_after e (L ++ s ∷ []) s ≡ observed (onward e s (begun e L s)) =
            ap (λ (w : State). w.actors s) (run-snoc e L s) ∙ step-mine e (run e L) s ne in
            let is = working-scheduler e (run e L) (rules L).kept s ne in
            let f = turn-fine e rules L s h.1 is ne h.0 ne in
            let t = f.2 (sym now) in
            subst (MyTurn L s) (sym now)
            ((t.0, f.1), observed-one L s (onward e s (begun e L s)) t.1)
      ]

  pub other-turn : (L : List ℕ) (s j : ℕ) → j ≢ s
      → actor_after e (L ++ j ∷ []) s ≡ actor_after e L s
  other-turn L s j ne = ap (λ (w : State). w.actors s) (run-snoc e L j)
      ∙ step-other e (run e L) j s (λ q. ne (sym q))

  started : (s : ℕ) → Holds [] s (actor_after e [] s)
  started s = by (is_scheduler e s)
    where
      by : (b : Bool) → SoFar e [] s (actor_after e [] s) (first_stage e b)
          × ((instance_by e b s).settings ≡ e.settings)
      by true = (tt, refl)
      by false = (tt, refl)

  next-so_far : (L : List ℕ) (j : ℕ) → ((s : ℕ) → Holds L s (actor_after e L s)) → (s : ℕ)
      → Holds (L ++ j ∷ []) s (actor_after e (L ++ j ∷ []) s)
  next-so_far L j h s =
      elim (cases_eq j s) [
        | inl q ↦ subst (λ i. Holds (L ++ i ∷ []) s (actor_after e (L ++ i ∷ []) s)) (sym q)
            (my-turn L s (h s)).0
        | inr ne ↦ subst (Holds (L ++ j ∷ []) s) (sym (other-turn L s j ne))
            (other-so_far e L s j ne (actor_after e L s) (actor_after e L s).stage (h s).0, (h s).1)
      ]

  pub so_far : (L : List ℕ) (s : ℕ) → Holds L s (actor_after e L s)
  so_far = by-turns (λ L. (s : ℕ) → Holds L s (actor_after e L s)) next-so_far started

  -- who is about to create a carrier has sought one in vain
  pub creates-if_sought : CreatesIfSought e
  creates-if_sought turns s ask p q =
      (subst (SoFar e turns s (actor_after e turns s)) q (so_far turns s).0).sought

  -- a turn of a scheduler leaves its log, or makes one entry that tells
  pub turn-told : (L : List ℕ) (s : ℕ) → Stays e rules L s (actor_after e (L ++ s ∷ []) s)
      ⊎ OneMore e rules L s (actor_after e (L ++ s ∷ []) s)
  turn-told L s = (my-turn L s (so_far L s)).1

  pub enters-one : EntersOne e
  enters-one turns s i =
      elim (cases_eq s i) [
        | inl q ↦ elim (turn-told turns s) [
          | inl k ↦ inl (subst (λ j. log_after e (turns ++ s ∷ []) j ≡ log_after e turns j) q k.0)
          | inr m ↦ inr (sym q, (m.entry, m.log, m.tells))
        ]
        | inr ne ↦ inl (ap (λ (a : Actor). a.log) (other-turn turns i s ne))
      ]

  -- each operation makes one entry
  abbrev Logged : List ℕ → ℕ → Type 0
  Logged L i = LogsEach e (run e L) i

  first-logged : (i : ℕ) → Logged [] i
  first-logged i = record { done = []; split = refl; each = tt }

  mine-logged : (L : List ℕ) (s : ℕ) → Logged L s → Logged (L ++ s ∷ []) s
  mine-logged L s h =
      elim (turn-told L s) [
        | inl k ↦ record {
          done = h.done;
          split = h.split ∙ ap (λ ops. h.done ++ ops) (sym k.1);
          each = subst (AllZip Makes h.done) (sym k.0) h.each;
        }
        | inr m ↦ record {
          done = h.done ++ m.of.first ∷ [];
          split = h.split ∙ ap (λ ops. h.done ++ ops) m.of.is
              ∙ sym (append_assoc h.done (m.of.first ∷ []) m.of.others)
              ∙ ap (λ ops. (h.done ++ m.of.first ∷ []) ++ ops) (sym (m.left ∙ ap later m.of.is));
          each = subst (AllZip Makes (h.done ++ m.of.first ∷ [])) (sym m.log)
              (all_zipped_more Makes h.done (log_after e L s) m.of.first m.entry h.each m.of.makes);
        }
      ]

  other-logged : (L : List ℕ) (i j : ℕ) → j ≢ i → Logged L i → Logged (L ++ j ∷ []) i
  other-logged L i j ne h =
      let q = other-turn L i j ne in record {
        done = h.done;
        split = h.split ∙ ap (λ (a : Actor). h.done ++ a.todo) (sym q);
        each = subst (λ (a : Actor). AllZip Makes h.done a.log) (sym q) h.each;
      }

  next-logged : (L : List ℕ) (j : ℕ) → ((i : ℕ) → Logged L i) → (i : ℕ) → Logged (L ++ j ∷ []) i
  next-logged L j h i =
      elim (cases_eq j i) [
        | inl q ↦ subst (λ k. Logged (L ++ k ∷ []) i) (sym q) (mine-logged L i (h i))
        | inr ne ↦ other-logged L i j ne (h i)
      ]

  pub logs-each : (turns : List ℕ) (i : ℕ) → LogsEach e (run e turns) i
  logs-each = by-turns (λ L. (i : ℕ) → Logged L i) next-logged first-logged

  pub begun-settings : (L : List ℕ) (s : ℕ) → IsBegun e (run e L) s
      → (begun e L s).instance.settings ≡ e.settings
  begun-settings L s b =
      let h = so_far L s in
      let ne = begun-going e L s b in
      let is = working-scheduler e (run e L) (rules L).kept s ne in
      (begun-keeps e rules L s h.1 is ne h.0 ne b).2 ∙ h.1

  pub begun-log : (L : List ℕ) (s : ℕ) → IsBegun e (run e L) s
      → (begun e L s).log ≡ log_after e L s
  begun-log L s b =
      let h = so_far L s in
      let ne = begun-going e L s b in
      let is = working-scheduler e (run e L) (rules L).kept s ne in
      (begun-keeps e rules L s h.1 is ne h.0 ne b).0
