-- While the old block of a reallocation is on its way, its scheduler holds the new name.
use Rattle.std.proofs.Common.{◌≡◌, ◌≢◌, ℕ, ◌<◌, ◌≤◌, List, [], ◌∷◌, ◌++◌, Bool, true, false}
use Rattle.std.proofs.Common.{sym, ap, ◌∙◌, subst, inl, inr, arith}
use Rattle.std.specs.Prelude.{Option, None, Some, ◌==◌}
use Rattle.std.proofs.lemmas.Bool.{cases_eq}
use Rattle.std.proofs.lemmas.List.{append_assoc}
use Rattle.ea_model.specs.declared.carriers.Place.{Place}
use Rattle.ea_model.specs.declared.operations.Op.{Op}
use Rattle.ea_model.specs.declared.operations.Op.TheVariants as op
use Rattle.ea_model.specs.Content.{Content}
use Rattle.ea_machine.specs.Actor.{Actor}
use Rattle.ea_machine.specs.Machine.{after_row, first_stage, onward, run}
use Rattle.ea_machine.specs.Nodes.{named_at}
use Rattle.ea_machine.specs.Releases.{turned}
use Rattle.ea_machine.specs.Setup.{Setup, is_scheduler}
use Rattle.ea_machine.specs.State.{State}
use Rattle.ea_machine.specs.Statistics.{observed}
use Rattle.ea_machine.specs.Sums.{one_if}
use Rattle.ea_machine.specs.Tasks.{carried_by, task_over}
use Rattle.ea_machine.specs.declared.stages.Route.{Route}
use Rattle.ea_machine.specs.declared.stages.Stage.{Stage}
use Rattle.ea_machine.specs.declared.stages.Stage.TheVariants.{Begin, Ended, Routed}
use Rattle.ea_machine.specs.declared.tasks.Gone.{Gone}
use Rattle.ea_machine.specs.declared.tasks.Task.{Task}
use Rattle.ea_machine.specs.declared.tasks.Task.TheVariants.{Moving}
use Rattle.ea_machine.specs.declared.tasks.Why.TheVariants.{For}
use Rattle.ea_sound.specs.Contents.{seats}
use Rattle.ea_sound.specs.Names.{made_in, to_make, unplaced}
use Rattle.ea_sound.specs.Present.{Fits, OfTask, Rule}
use Rattle.ea_sound.specs.Turns.{HoldsAfter, actor_after, answered}
use Rattle.ea_sound.proofs.Chronicle.{SoFar}
use Rattle.ea_sound.proofs.Chronicled.{other-turn, so_far, turn-told}
use Rattle.ea_sound.proofs.Fading.{make-fades}
use Rattle.ea_sound.proofs.Global.{working-scheduler}
use Rattle.ea_sound.proofs.HandedNames.{split-snoc}
use Rattle.ea_sound.proofs.MadeNames.{held-made, unplaced-or}
use Rattle.ea_sound.proofs.Numbered.{scheduler-seat}
use Rattle.ea_sound.proofs.ShortRoutes.{turned-short}
use Rattle.ea_sound.proofs.Totals.{total-part}
use Rattle.ea_sound.proofs.TurnLists.{by-turns, run-snoc, step-mine}
use Rattle.ea_sound.proofs.Weights.{one-itself}

-- the old block is on its way, and the new name is this
abbrev pub Moves : ℕ → Stage Content → Type 0
Moves fresh st = (route : Route Content) × (old : ℕ) × (place : Place) × (gone : Gone)
    × (st ≡ Routed route (For (Moving old fresh place)) gone)

same-task : (r z : Route Content) (t k : Task) (g h : Gone)
    → Routed r (For t) g ≡ Routed z (For k) h → t ≡ k
same-task r z t k g h q = cc

route-no_begin : (z : Route Content) (k : Task) (h : Gone) → Begin ≡ Routed z (For k) h → ⊥
route-no_begin z k h q = absurd cc

route-no_end : (z : Route Content) (k : Task) (h : Gone) → Routed z (For k) h ≡ Ended → ⊥
route-no_end z k h q = absurd cc

module _ (e : Setup) (rules : (L : List ℕ) → Rule e (run e L)) where
  abbrev HoldsFresh : List ℕ → Type 0
  HoldsFresh L = (s fresh : ℕ) → Moves fresh (actor_after e L s).stage → HoldsAfter e L s fresh

  first-fresh : HoldsFresh []
  first-fresh s fresh m = absurd (by (is_scheduler e s) m) where
    by : (b : Bool) → Moves fresh (first_stage e b) → ⊥
    by true m = route-no_begin m.0 (Moving m.1 fresh m.2) m.3 m.4
    by false m = route-no_end m.0 (Moving m.1 fresh m.2) m.3 (sym m.4)

  module _ (L : List ℕ) (s fresh : ℕ) where
    abbrev turn : List ℕ
    turn = L ++ s ∷ []

    abbrev a : Actor
    a = actor_after e L s

    abbrev b : Actor
    b = actor_after e turn s

    -- the route went on in this turn
    on-route : (route : Route Content) (task : Task) (gone : Gone)
        → a.stage ≡ Routed route (For task) gone
        → (Moves fresh a.stage → HoldsAfter e L s fresh) → Moves fresh b.stage
        → HoldsAfter e turn s fresh
    on-route route task gone q held m =
        let t = turned e s route gone a (answered (run e L) s) in
        by t.gone t.actor t.route (turned-short e s route gone a (answered (run e L) s)).1.5
        (ap (λ (w : State). w.actors s) (run-snoc e L s)
        ∙ step-mine e (run e L) s (λ z. route-no_end route task gone (sym q ∙ z))
        ∙ ap (λ st. observed (onward e s (after_row e s a (answered (run e L) s) st))) q) where
          by : (g : Gone) (c : Actor) (o : Option (Route Content)) → c.held ≡ a.held
              → b ≡ observed (onward e s (carried_by (For task) (task_over task) g c o))
              → HoldsAfter e turn s fresh
          by g c None h now = absurd (route-no_begin m.0 (Moving m.1 fresh m.2) m.3
              (ap (λ (x : Actor). x.stage) (sym now) ∙ m.4))
          by g c (Some r) h now =
              let same = same-task r m.0 task (Moving m.1 fresh m.2) g m.3
              (ap (λ (x : Actor). x.stage) (sym now) ∙ m.4) in
              let was = held (
                route,
                m.1,
                m.2,
                gone,
                q ∙ ap (λ k. Routed route (For k) gone) same,
              ) in (
                was.0,
                ap (λ (x : Actor). named_at fresh x.held) now ∙ ap (named_at fresh) h ∙ was.1,
              )

    module _ (m : Moves fresh b.stage) where
      abbrev task : Task
      task = Moving m.1 fresh m.2

      works : b.stage ≢ Ended
      works z = route-no_end m.0 task m.3 (sym m.4 ∙ z)

      seat : s < seats e
      seat = scheduler-seat e s (working-scheduler e (run e turn) (rules turn).kept s works)

      -- the operation makes the name
      of-first : (ops : List Op) → OfTask task ops → 1 ≤ made_in fresh ops
      of-first [] of = absurd of
      of-first (op.Realloc o n bytes ∷ ops) of =
          omega (arith, ap (λ k. one_if (fresh == k)) (sym of.1), one-itself fresh)
      of-first (op.Alloc n bytes ∷ ops) of = absurd of
      of-first (op.Free n ∷ ops) of = absurd of
      of-first (op.Give n to ∷ ops) of = absurd of
      of-first (op.Take n tries ∷ ops) of = absurd of
      of-first (op.Info ∷ ops) of = absurd of
      of-first (op.Idle ∷ ops) of = absurd of

      makes-it : 1 ≤ made_in fresh b.todo
      makes-it = of-first b.todo
          (subst (Fits e (run e turn) s b) m.4 ((rules turn).present.fits s)).1

      same-todo : b.todo ≡ a.todo
      same-todo = elim (turn-told e rules L s) [
        | inl k ↦ k.1
        | inr k ↦ absurd (route-no_begin m.0 task m.3 (sym k.begins ∙ m.4))
      ]

      -- the block was placed in this turn
      placed-now : 0 < to_make e fresh (run e L) → HoldsAfter e turn s fresh
      placed-now still =
          let told = subst (SoFar e turn s b) m.4 (so_far e rules turn s).0 in
          elim (split-snoc L s told.1.before s told.1.since told.1.split) [
            | inl now ↦ subst (λ l. HoldsAfter e l s fresh) (ap (λ l. l ++ s ∷ []) (sym now.1))
                told.1.holds
            | inr earlier ↦ absurd (omega (
              arith,
              still,
              held-made e rules fresh s seat (told.1.before ++ s ∷ []) told.1.holds,
              ap (λ l. to_make e fresh (run e l))
                  (earlier.1 ∙ sym (append_assoc told.1.before (s ∷ []) earlier.0)),
              make-fades e rules fresh (told.1.before ++ s ∷ []) earlier.0,
            ))
          ]

      mine : (Moves fresh a.stage → HoldsAfter e L s fresh) → HoldsAfter e turn s fresh
      mine held = elim (unplaced-or a.stage) [
        | inl plain ↦ placed-now (omega (
          arith,
          makes-it,
          ap (made_in fresh) (sym same-todo),
          ap (made_in fresh) (plain a.todo),
          total-part (λ (x : Actor). made_in fresh (unplaced x.stage x.todo)) (run e L).actors s
              (seats e) seat,
        ))
        | inr k ↦ on-route k.route (Moving k.old k.fresh k.place) k.gone k.is held m
      ]

  next-fresh : (L : List ℕ) (j : ℕ) → HoldsFresh L → HoldsFresh (L ++ j ∷ [])
  next-fresh L j held s fresh m = elim (cases_eq j s) [
    | inl q ↦ subst (λ i. HoldsAfter e (L ++ i ∷ []) s fresh) (sym q)
        (mine L s fresh (subst (λ i. Moves fresh (actor_after e (L ++ i ∷ []) s).stage) q m)
        (held s fresh))
    | inr ne ↦
        let same = other-turn e rules L s j ne in
        let was = held s fresh (subst (λ (x : Actor). Moves fresh x.stage) same m) in
        (was.0, ap (λ (x : Actor). named_at fresh x.held) same ∙ was.1)
  ]

  pub holds-fresh : (L : List ℕ) → HoldsFresh L
  holds-fresh = by-turns HoldsFresh next-fresh first-fresh
