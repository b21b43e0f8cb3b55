-- The number of the carrier that a step made, by what its scheduler tells after it.
use Rattle.std.proofs.Common.{◌≡◌, ◌≢◌, ℕ, zero, suc, ◌<◌, ◌≤◌, ◌+◌, List, [], ◌∷◌, ◌++◌}
use Rattle.std.proofs.Common.{true, false, get_or, map, length, refl, sym, ap, ◌∙◌, subst, arith}
use Rattle.std.specs.Prelude.{Option, None, Some, drop, flat_map, is_some, not, ◌==◌}
use Rattle.std.proofs.lemmas.List.{append-nil, drop_more, length-append}
use Rattle.ea_model.specs.declared.carriers.Place.{Place}
use Rattle.ea_model.specs.declared.settings.Config.{Config}
use Rattle.ea_model.specs.declared.trace.Trace.{Trace}
use Rattle.ea_model.specs.declared.entries.Entry as kept
use Rattle.ea_model.specs.declared.entries.Reports.{Reports}
use Rattle.ea_model.specs.Content.{Content}
use Rattle.ea_model.specs.Entries.{told}
use Rattle.ea_model.proofs.NumberedItems.{map-flat_map}
use Rattle.ea_machine.specs.declared.stages.Stage.{Stage}
use Rattle.ea_machine.specs.declared.stages.Stage.TheVariants.{Begin, Routed, Collecting, Searching}
use Rattle.ea_machine.specs.declared.stages.Stage.TheVariants.{Fetching, Creating, Giving, Taking}
use Rattle.ea_machine.specs.declared.stages.Stage.TheVariants.{Ended, Ready}
use Rattle.ea_machine.specs.declared.tasks.Task.TheVariants.{Freeing, Moving}
use Rattle.ea_machine.specs.declared.tasks.Why.TheVariants.{Walk, For}
use Rattle.ea_machine.specs.Actor.{Actor}
use Rattle.ea_machine.specs.Setup.{Setup, setup_of}
use Rattle.ea_machine.specs.State.{State}
use Rattle.ea_machine.specs.Stops.{cut, run_with_stops}
use Rattle.ea_sound.proofs.TurnLists.{not-ended}
use Rattle.ea_sched.specs.declared.state.Scheduler.{Scheduler}
use Rattle.ea_sched.specs.Acting.{actor_of}
use Rattle.ea_sched.specs.Wants.{moving_at}
use Rattle.ea_given.specs.declared.run.GivenRun.{GivenRun}
use Rattle.ea_given.specs.Between.{IsAt}
use Rattle.ea_given.specs.Runs.{StandsAfter}
use Rattle.ea_steps.specs.Changes.{added}
use Rattle.ea_steps.specs.Entered.{carriers_in, carriers_with}
use Rattle.ea_steps.specs.FoundCarriers.{created_after, created_before, first_number, made_if}
use Rattle.ea_steps.specs.FoundCarriers.{made_number}
use Rattle.ea_steps.specs.Steps.{Step, own_count, row_of}
use Rattle.ea_steps.specs.Taking.{TakesStep, TakesSteps, step_after, taken_steps}
use Rattle.ea_steps.specs.Touched.{as_list, created_by, moved_at, placed, placed_by}
use Rattle.ea_steps.proofs.ByNumber.{step-adds}
use Rattle.ea_steps.proofs.Takings.{run-steps}

one-step : (e : Setup) (turns : List ℕ) (me : ℕ) → TakesStep e turns me → TakesSteps e turns me 1
one-step e turns me takes zero below =
    subst (λ ts. TakesStep e ts me) (sym (append-nil turns)) takes
one-step e turns me takes (suc j) below = absurd (omega (arith, below))

-- the run after one step more
pub state-taken : (e : Setup) (turns : List ℕ) (me : ℕ) → TakesStep e turns me
    → run_with_stops e (turns ++ me ∷ []) ≡ (step_after e turns me).after
state-taken e turns me takes = run-steps e turns me 1 (one-step e turns me takes)

-- its scheduler then
pub actor-taken : (e : Setup) (turns : List ℕ) (me : ℕ) → TakesStep e turns me → (d : Scheduler)
    → IsAt e (turns ++ me ∷ []) me d → actor_of d ≡ (step_after e turns me).after.actors me
actor-taken e turns me takes d is =
    is.actor ∙ ap (λ (v : State). v.actors me) (state-taken e turns me takes)

-- the log of its scheduler has at least the entries that it had
pub log-longer : (c : Config) (t : Trace) (turns : List ℕ) (me : ℕ) (r : GivenRun)
    → StandsAfter c t (turns ++ me ∷ []) r → TakesStep (setup_of c t) turns me
    → (let s = step_after (setup_of c t) turns me in
    length (s.before.actors me).log ≤ length (s.after.actors me).log)
log-longer c t turns me r at takes =
    let e = setup_of c t in
    let w = run_with_stops e turns in
    let s = step_after e turns me in
    let count = length (taken_steps e turns) in
    let own = own_count me (taken_steps e turns) in
    omega (
      arith,
      ap length (step-adds c t at.shared.config at.shared.trace w (cut e.stops turns, refl) me
          count own (not-ended (w.actors me).stage takes.0)),
      length-append (s.before.actors me).log (added s),
    )

-- how many carriers its instance has created
module _ (e : Setup) (turns : List ℕ) (me : ℕ) (takes : TakesStep e turns me) (d : Scheduler)
    (is : IsAt e (turns ++ me ∷ []) me d) (n m : ℕ) (counts : n ≡ d.instance.created) where
  abbrev s : Step
  s = step_after e turns me

  pub created-taken : n ≡ created_after s
  created-taken = counts
      ∙ ap (λ (b : Actor). b.instance.created) (actor-taken e turns me takes d is)

  pub more-created : m ≡ created_before s → (n ≡ m → ⊥) → created_after s ≢ created_before s
  more-created noted other same = other (created-taken ∙ same ∙ sym noted)

-- the carriers in which entries from one on place blocks
pub carriers-more : (reports : List Reports) (entries : List (kept.Entry ℕ)) (i : ℕ)
    (d : kept.Entry ℕ) → i < length entries → (ns : List ℕ)
    → ns ≡ carriers_in (told reports (get_or entries i d))
    → carriers_with reports (drop i entries)
    ≡ ns ++ carriers_with reports (drop (i + 1) entries)
carriers-more reports entries i d below ns is =
    ap (carriers_with reports) (drop_more entries i d below)
    ∙ ap (λ ms. ms ++ carriers_with reports (drop (i + 1) entries)) (sym is)

-- where the new block of a reallocation lies
moving-list : (stage : Stage Content) → as_list (moving_at stage) ≡ moved_at stage
moving-list Begin = refl
moving-list (Routed route Walk gone) = refl
moving-list (Routed route (For (Freeing name)) gone) = refl
moving-list (Routed route (For (Moving old fresh p)) gone) = refl
moving-list (Collecting number) = refl
moving-list (Searching ask at part) = refl
moving-list (Fetching ask at part seen) = refl
moving-list (Creating ask p) = refl
moving-list (Giving given to) = refl
moving-list (Taking name tries left) = refl
moving-list Ended = refl
moving-list Ready = refl

none-first : (ns : List ℕ) → None ≡ first_number ns → ns ≡ []
none-first [] is = refl
none-first (n ∷ ns) is = absurd cc

some-first : (ns ms : List ℕ) (o : Option ℕ) → true ≡ is_some o → o ≡ first_number ns
    → o ≡ first_number (ns ++ ms)
some-first [] ms o some is = let no : true ≡ false = some ∙ ap (λ x. is_some x) is in absurd cc
some-first (m ∷ ns) ms o some is = is

pub none-is : (o : Option ℕ) → false ≡ is_some o → None ≡ o
none-is None is = refl
none-is (Some n) is = absurd cc

module _ (s : Step) where
  -- it made none
  pub made-none : created_after s ≡ created_before s → None ≡ made_number s
  made-none same = ap (λ b. made_if b s) (sym (no (created_after s) (created_before s) same)) where
    no : (a b : ℕ) → a ≡ b → not (a == b) ≡ false
    no a b q = grind (arith, q)

  module _ (more : created_after s ≢ created_before s) where
    makes-one : not (created_after s == created_before s) ≡ true
    makes-one = yes (created_after s) (created_before s) more where
      yes : (a b : ℕ) → a ≢ b → not (a == b) ≡ true
      yes a b q = grind (arith, q)

    abbrev carriers : List ℕ
    carriers = map (λ (p : Place). p.carrier) (placed s)

    -- the carrier that its row creates
    pub made-row : (o : Option ℕ) → true ≡ is_some o → o ≡ first_number (created_by (row_of s))
        → o ≡ made_number s
    made-row o some is = some-first (created_by (row_of s)) carriers o some is
        ∙ ap (λ b. made_if b s) (sym makes-one)

    module _ (none : None ≡ first_number (created_by (row_of s))) where
      by-places : first_number carriers ≡ made_number s
      by-places = ap (λ ns. first_number (ns ++ carriers))
          (sym (none-first (created_by (row_of s)) none))
          ∙ ap (λ b. made_if b s) (sym makes-one)

      by-moved : (o : Option Place) → o ≡ moving_at (s.after.actors s.scheduler).stage
          → first_number (map (λ (p : Place). p.carrier)
          (as_list o ++ flat_map placed_by (added s))) ≡ made_number s
      by-moved o is = ap (λ ps. first_number (map (λ (p : Place). p.carrier)
          (ps ++ flat_map placed_by (added s))))
          (ap (λ x. as_list x) is ∙ moving-list (s.after.actors s.scheduler).stage)
          ∙ by-places

      -- that in which a reallocation, whose old block is on its way, has its new one
      pub made-moved : (p : Place) → Some p ≡ moving_at (s.after.actors s.scheduler).stage
          → Some p.carrier ≡ made_number s
      made-moved p is = by-moved (Some p) is

      -- that of the first block that it logged as placed
      pub made-logged : None ≡ moving_at (s.after.actors s.scheduler).stage
          → first_number (flat_map carriers_in (added s)) ≡ made_number s
      made-logged is =
          ap first_number (sym (map-flat_map (λ (p : Place). p.carrier) placed_by (added s)))
          ∙ by-moved None is
