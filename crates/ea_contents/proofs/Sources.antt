-- A step that makes a name of which another's words are taken over: that other one is held before,
-- and has a block.
use Rattle.std.proofs.Common.{◌≡◌, ◌≢◌, ℕ, ◌<◌, Bool, true, false, List, [], ◌∷◌, ◌++◌}
use Rattle.std.proofs.Common.{refl, sym, ap, ◌∙◌, subst, arith}
use Rattle.std.specs.Prelude.{◌==◌, ◌&&◌, Option, Some, None, is_some, not}
use Rattle.ea_model.specs.Content.{Content}
use Rattle.ea_model.specs.Trace.{makes}
use Rattle.ea_model.specs.declared.carriers.Extent.{Extent}
use Rattle.ea_model.specs.declared.operations.Op.{Op}
use Rattle.ea_model.specs.declared.operations.Op.TheVariants as op
use Rattle.ea_machine.specs.Actor.{Actor}
use Rattle.ea_machine.specs.declared.stages.Route.{Route}
use Rattle.ea_machine.specs.declared.stages.Stage.{Stage}
use Rattle.ea_machine.specs.declared.stages.Stage.TheVariants.{Begin, Routed, Collecting, Searching}
use Rattle.ea_machine.specs.declared.stages.Stage.TheVariants.{Fetching, Creating, Giving, Taking}
use Rattle.ea_machine.specs.declared.stages.Stage.TheVariants.{Ended, Ready}
use Rattle.ea_machine.specs.declared.tasks.Gone.{Gone}
use Rattle.ea_machine.specs.declared.tasks.Task.{Task}
use Rattle.ea_machine.specs.declared.tasks.Task.TheVariants.{Freeing, Moving}
use Rattle.ea_machine.specs.declared.tasks.Why.TheVariants.{Walk, For}
use Rattle.ea_machine.specs.Machine.{after_row, onward, run, step}
use Rattle.ea_machine.specs.Nodes.{named_at}
use Rattle.ea_machine.specs.Releases.{Turned, turned}
use Rattle.ea_machine.specs.Setup.{Setup}
use Rattle.ea_machine.specs.State.{State}
use Rattle.ea_machine.specs.Sums.{one_if}
use Rattle.ea_machine.specs.Tasks.{carried_by}
use Rattle.ea_machine.specs.Walks.{after_route}
use Rattle.ea_sound.specs.Contents.{seats}
use Rattle.ea_sound.specs.Made.{HoldsOld, IsMadeBy}
use Rattle.ea_sound.specs.MachineLaws.{Protocol}
use Rattle.ea_sound.specs.Names.{made_in, to_make, unplaced}
use Rattle.ea_sound.specs.Over.{LiesOver}
use Rattle.ea_sound.specs.Present.{Rule}
use Rattle.ea_sound.specs.Released.{blocks_named}
use Rattle.ea_sound.specs.Turns.{HoldsAfter, answered}
use Rattle.ea_sound.proofs.Global.{working-scheduler}
use Rattle.ea_sound.proofs.Numbered.{scheduler-seat}
use Rattle.ea_sound.proofs.ShortRoutes.{turned-short}
use Rattle.ea_sound.proofs.Totals.{total-part}
use Rattle.ea_sound.proofs.TurnLists.{run-snoc, step-ended, step-mine}
use Rattle.ea_contents.specs.declared.access.Making.{Making}
use Rattle.ea_contents.specs.Model.{holds, if_new, is_new, made, made_by, making_by, making_of}
use Rattle.ea_contents.proofs.Lying.{held-lies, held-named}

same-making : (m k : Making) → Some m ≡ Some k → m ≡ k
same-making m k q = cc

-- what an operation makes
making-makes : (o : Op) (m : Making) → making_by o ≡ Some m → makes m.fresh o ≡ true
making-makes (op.Alloc name bytes) m q =
    subst (λ (k : Making). (k.fresh == name) ≡ true)
    (same-making (record { fresh = name; source = None }) m q) (grind arith)
making-makes (op.Realloc old name bytes) m q =
    subst (λ (k : Making). (k.fresh == name) ≡ true)
    (same-making (record { fresh = name; source = Some old }) m q) (grind arith)
making-makes (op.Free name) m q = absurd cc
making-makes (op.Give name to) m q = absurd cc
making-makes (op.Take name tries) m q = absurd cc
making-makes op.Info m q = absurd cc
making-makes op.Idle m q = absurd cc

making-made : (ops : List Op) (m : Making) → making_of ops ≡ Some m → 0 < made_in m.fresh ops
making-made [] m q = absurd cc
making-made (o ∷ ops) m q = omega (arith, ap one_if (making-makes o m q))

-- a route of an operation leaves the held names as they are
module _ (e : Setup) (w : State) (i : ℕ) where
  over-held : (task : Task) (t : Turned) (o : Option (Route Content))
      → (onward e i (carried_by (For task) (after_route e i (For task)) t.gone t.actor o)).held
      ≡ t.actor.held
  over-held task t (Some r) = refl
  over-held task t None = refl

  route-held : (route : Route Content) (task : Task) (gone : Gone)
      → (w.actors i).stage ≡ Routed route (For task) gone
      → ((step e w i).actors i).held ≡ (w.actors i).held
  route-held route task gone at =
      let t = turned e i route gone (w.actors i) (answered w i) in
      ap (λ (a : Actor). a.held) (step-mine e w i (λ q. let no = sym at ∙ q in cc))
      ∙ ap (λ (s : Stage Content). (onward e i (after_row e i (w.actors i) (answered w i) s)).held)
      at ∙ over-held task t t.route ∙ (turned-short e i route gone (w.actors i) (answered w i)).1.5

-- a name that is made wasn't placed before
module _ (e : Setup) (w : State) (i : ℕ) (fresh : ℕ) (new : is_new e w i fresh ≡ true) where
  both-new : (a b : Bool) → (not a && b) ≡ true → (a ≡ false) × (b ≡ true)
  both-new false true q = (refl, refl)
  both-new false false q = absurd cc
  both-new true b q = absurd cc

  pub held-not : holds w i fresh ≡ false
  held-not = (both-new (holds w i fresh) (holds (step e w i) i fresh) new).0

  pub held-now : holds (step e w i) i fresh ≡ true
  held-now = (both-new (holds w i fresh) (holds (step e w i) i fresh) new).1

  never-moving : ((step e w i).actors i).held ≡ (w.actors i).held → ⊥
  never-moving same = let no : true ≡ false = sym held-now
      ∙ ap (λ held. is_some (named_at fresh held)) same ∙ held-not in cc

  still-unplaced : (s : Stage Content) → (w.actors i).stage ≡ s
      → unplaced s (w.actors i).todo ≡ (w.actors i).todo
  still-unplaced Begin at = refl
  still-unplaced (Routed r Walk gone) at = refl
  still-unplaced (Routed r (For (Freeing name)) gone) at = refl
  still-unplaced (Routed r (For (Moving old name place)) gone) at =
      absurd (never-moving (route-held e w i r (Moving old name place) gone at))
  still-unplaced (Collecting number) at = refl
  still-unplaced (Searching ask number part) at = refl
  still-unplaced (Fetching ask number part seen) at = refl
  still-unplaced (Creating ask p) at = refl
  still-unplaced (Giving given to) at = refl
  still-unplaced (Taking name tries left) at = refl
  still-unplaced Ended at = refl
  still-unplaced Ready at = refl

  works : (w.actors i).stage ≢ Ended
  works q = never-moving (ap (λ (v : State). (v.actors i).held) (step-ended e w i q))

-- what was made
made-parts : (e : Setup) (w : State) (i : ℕ) (o : Option Making) (m : Making)
    → made_by e w i o ≡ Some m → (o ≡ Some m) × (is_new e w i m.fresh ≡ true)
made-parts e w i None m q = absurd cc
made-parts e w i (Some k) m q = by (is_new e w i k.fresh) refl q where
  by : (b : Bool) → is_new e w i k.fresh ≡ b → if_new b k ≡ Some m
      → (Some k ≡ Some m) × (is_new e w i m.fresh ≡ true)
  by true is q = (
    q,
    subst (λ (j : Making). is_new e w i j.fresh ≡ true) (same-making k m q) is,
  )
  by false is q = absurd cc

old-before : (e : Setup) (L : List ℕ) (i : ℕ) (o : Op) (m : Making) (old : ℕ)
    → making_by o ≡ Some m → m.source ≡ Some old → HoldsOld e L i o → HoldsAfter e L i old
old-before e L i (op.Alloc name bytes) m old q source held =
    absurd (let no : None ≡ Some old = ap (λ (k : Making). k.source)
    (same-making (record { fresh = name; source = None }) m q) ∙ source in cc)
old-before e L i (op.Realloc o name bytes) m old q source held =
    subst (λ k. HoldsAfter e L i k) (same o old (ap (λ (k : Making). k.source)
    (same-making (record { fresh = name; source = Some o }) m q) ∙ source)) held where
      same : (a b : ℕ) → Some a ≡ Some b → a ≡ b
      same a b q = cc
old-before e L i (op.Free name) m old q source held = absurd cc
old-before e L i (op.Give name to) m old q source held = absurd cc
old-before e L i (op.Take name tries) m old q source held = absurd cc
old-before e L i op.Info m old q source held = absurd cc
old-before e L i op.Idle m old q source held = absurd cc

module _ (e : Setup) (laws : Protocol e) (rules : (L : List ℕ) → Rule e (run e L))
    (L : List ℕ) (i : ℕ) (m : Making) (is : made e (run e L) i ≡ Some m) where
  abbrev w : State
  w = run e L

  parts : (making_of (w.actors i).todo ≡ Some m) × (is_new e w i m.fresh ≡ true)
  parts = made-parts e w i (making_of (w.actors i).todo) m is

  abbrev share : Actor → ℕ
  share a = made_in m.fresh (unplaced a.stage a.todo)

  to-make : 0 < to_make e m.fresh w
  to-make = omega (
    arith,
    making-made (w.actors i).todo m parts.0,
    ap (made_in m.fresh) (still-unplaced e w i m.fresh parts.1 (w.actors i).stage refl),
    total-part share w.actors i (seats e)
        (scheduler-seat e i (working-scheduler e w (rules L).kept i (works e w i m.fresh parts.1))),
  )

  has-block : 0 < blocks_named e m.fresh (run e (L ++ i ∷ []))
  has-block = held-named e (run e (L ++ i ∷ [])) i m.fresh (rules (L ++ i ∷ []))
      (ap (λ (v : State). holds v i m.fresh) (run-snoc e L i) ∙ held-now e w i m.fresh parts.1)

  made-by : IsMadeBy e L i m.fresh
  made-by = laws.makes m.fresh L i to-make has-block

  -- the block whose words are taken over lies somewhere
  pub source-lies : (old : ℕ) → m.source ≡ Some old → (r : Extent) × LiesOver e old r w
  source-lies old source =
      let h = old-before e L i made-by.first m old
      (sym (ap making_of made-by.todo) ∙ parts.0) source made-by.old in
      held-lies e w i old (rules L) (ap is_some h.1)
