-- The turns of a scheduler until it has ended, writes and reads among them.
use Rattle.std.proofs.Common.{◌≡◌, ◌≢◌, ◌⊎◌, ℕ, zero, suc, ◌+◌, ◌<◌, ◌≤◌, List, [], ◌∷◌, ◌++◌}
use Rattle.std.proofs.Common.{refl, sym, ap, ◌∙◌, subst, inl, inr, arith, length}
use Rattle.std.specs.Prelude.{nat_lt}
use Rattle.std.proofs.lemmas.List.{length-append, length_push}
use Rattle.std.specs.List.{AllZip}
use Rattle.ea_model.specs.Entries.{Entry}
use Rattle.ea_model.specs.declared.operations.Op.{Op}
use Rattle.ea_model.specs.declared.settings.Config.{Config}
use Rattle.ea_model.specs.declared.trace.Trace.{Trace}
use Rattle.ea_model.specs.Content.{Content}
use Rattle.ea_model.specs.Settings.{IsValidConfig}
use Rattle.ea_model.specs.Trace.{IsValidTrace}
use Rattle.ea_machine.specs.declared.stages.Stage.{Stage}
use Rattle.ea_machine.specs.declared.stages.Stage.TheVariants.{Begin, Routed, Collecting, Searching}
use Rattle.ea_machine.specs.declared.stages.Stage.TheVariants.{Fetching, Creating, Giving, Taking}
use Rattle.ea_machine.specs.declared.stages.Stage.TheVariants.{Ended, Ready}
use Rattle.ea_machine.specs.Completion.{work}
use Rattle.ea_machine.specs.Machine.{run, step}
use Rattle.ea_machine.specs.Setup.{Setup, setup_of}
use Rattle.ea_machine.specs.State.{State}
use Rattle.ea_sound.specs.Entries.{Makes, Tells}
use Rattle.ea_sound.specs.MachineLaws.{Protocol}
use Rattle.ea_sound.specs.Turns.{log_after}
use Rattle.ea_sound.proofs.Asked.{reached-rule}
use Rattle.ea_sound.proofs.Completing.{rule-less}
use Rattle.ea_sound.proofs.Protocols.{always-protocol}
use Rattle.ea_sound.proofs.Totals.{put-here}
use Rattle.ea_sound.proofs.TurnLists.{run-snoc}
use Rattle.ea_contents.specs.declared.access.Access.{Access}
use Rattle.ea_contents.specs.declared.access.AccessEntry.{AccessEntry}
use Rattle.ea_contents.specs.Entering.{entry_of, lists_by}
use Rattle.ea_contents.specs.Model.{Moment, Script, advanced, completing, done, ending, finishing}
use Rattle.ea_contents.specs.Model.{later_accesses, past_after, play_on, turn, turns_left, waiting}
use Rattle.ea_contents.proofs.Moments.{after_access, not-less, play-append, turn-made}
use Rattle.ea_contents.proofs.Moments.{turn-step}

module _ (e : Setup) (script : Script) where
  module _ (i : ℕ) where
    pub ending-none : (most : ℕ) (m : Moment) → ending e script most m i Ended ≡ []
    ending-none zero m = refl
    ending-none (suc most) m = refl

    pub ending-one : (most : ℕ) (m : Moment) (stage : Stage Content) → stage ≢ Ended
        → ending e script (suc most) m i stage ≡ i ∷ ending e script most (turn e script m i) i
        ((turn e script m i).state.actors i).stage
    ending-one most m Ended ne = absurd (ne refl)
    ending-one most m Begin ne = refl
    ending-one most m (Routed r y g) ne = refl
    ending-one most m (Collecting n) ne = refl
    ending-one most m (Searching ask n part) ne = refl
    ending-one most m (Fetching ask n part seen) ne = refl
    ending-one most m (Creating ask p) ne = refl
    ending-one most m (Giving h to) ne = refl
    ending-one most m (Taking n tries left) ne = refl
    ending-one most m Ready ne = refl

    -- the turns of the scheduler to its end, which lead to a moment, are still to come
    abbrev pub LeadsTo : Moment → Moment → Type 0
    LeadsTo target m = (most : ℕ) × (turns_left e script m i ≤ most + m.past i)
        × (target ≡ play_on e script m (ending e script most m i (m.state.actors i).stage))

    pub leads-first : (m : Moment) → LeadsTo (play_on e script m (finishing e script m i)) m
    leads-first m = (turns_left e script m i, omega arith, refl)

    pub leads-last : (target m : Moment) → (m.state.actors i).stage ≡ Ended
        → LeadsTo target m → target ≡ m
    leads-last target m ended leads = leads.2
        ∙ ap (play_on e script m)
        (ap (ending e script leads.0 m i) ended ∙ ending-none leads.0 m)

  -- the turns of the schedulers after the first ones to their ends, which lead to a moment, are
  -- still to come
  abbrev pub CompletesTo : ℕ → Moment → Moment → Type 0
  CompletesTo first target m = (rest : ℕ) × (first + rest ≡ e.schedulers)
      × (target ≡ play_on e script m (completing e script rest (first + 1) m))

  pub completes-first : (m : Moment)
      → CompletesTo 0 (play_on e script m (completing e script e.schedulers 1 m)) m
  completes-first m = (e.schedulers, omega arith, refl)

  next_by : (rest first : ℕ) (target m : Moment) → first < e.schedulers
      → first + rest ≡ e.schedulers
      → target ≡ play_on e script m (completing e script rest (first + 1) m)
      → CompletesTo (first + 1) target (play_on e script m (finishing e script m (first + 1)))
  next_by zero first target m below count is = absurd (omega (arith, below, count))
  next_by (suc rest) first target m below count is =
      let now = finishing e script m (first + 1) in
      let v = play_on e script m now in (
        rest,
        omega (arith, count),
        is ∙ play-append e script m now (completing e script rest (suc (first + 1)) v)
            ∙ ap (λ k. play_on e script v (completing e script rest k v)) (later (first + 1)),
      ) where
        later : (k : ℕ) → suc k ≡ k + 1
        later k = omega arith

  -- one scheduler more is at its end
  pub completes-next : (first : ℕ) (target m : Moment) → first < e.schedulers
      → CompletesTo first target m
      → CompletesTo (first + 1) target (play_on e script m (finishing e script m (first + 1)))
  completes-next first target m below h = next_by h.0 first target m below h.1 h.2

  last_by : (rest first : ℕ) (target m : Moment) → e.schedulers ≤ first
      → first + rest ≡ e.schedulers
      → target ≡ play_on e script m (completing e script rest (first + 1) m) → target ≡ m
  last_by zero first target m all count is = is
  last_by (suc rest) first target m all count is = absurd (omega (arith, all, count))

  -- all are
  pub completes-last : (first : ℕ) (target m : Moment) → e.schedulers ≤ first
      → CompletesTo first target m → target ≡ m
  completes-last first target m all h = last_by h.0 first target m all h.1 h.2

-- a log has as many entries as operations are done
made-length : (ops : List Op) (log : List Entry) → AllZip Makes ops log → length ops ≡ length log
made-length [] [] each = refl
made-length [] (x ∷ log) each = absurd each
made-length (o ∷ ops) [] each = absurd each
made-length (o ∷ ops) (x ∷ log) each = ap suc (made-length ops log each.1)

-- how many operations a scheduler has left
abbrev left_of : State → ℕ → ℕ
left_of w i = length (w.actors i).todo

-- a step of it ends no operation, or one
abbrev pub EndsNone : State → State → ℕ → Type 0
EndsNone w v i = (done v i ≡ done w i) × (left_of v i ≡ left_of w i)

abbrev pub EndsOne : State → State → ℕ → Type 0
EndsOne w v i = (done v i ≡ done w i + 1) × (left_of w i ≡ suc (left_of v i))

module _ (c : Config) (t : Trace) (config : IsValidConfig c) (valid : IsValidTrace c.schedulers t)
  where
    abbrev e : Setup
    e = setup_of c t

    protocol : Protocol e
    protocol = always-protocol c t config valid

    each-length : (turns : List ℕ) (i : ℕ)
        → done (run e turns) i + left_of (run e turns) i ≡ length (e.texts i)
    each-length turns i =
        let logs = protocol.logs turns i in
        omega (
          arith,
          ap length logs.split,
          length-append logs.done ((run e turns).actors i).todo,
          made-length logs.done ((run e turns).actors i).log logs.each,
        )

    step-is : (turns : List ℕ) (i : ℕ) → run e (turns ++ i ∷ []) ≡ step e (run e turns) i
    step-is turns i = run-snoc e turns i

    pub ends-some : (turns : List ℕ) (i : ℕ)
        → EndsNone (run e turns) (step e (run e turns) i) i
        ⊎ EndsOne (run e turns) (step e (run e turns) i) i
    ends-some turns i = subst (λ v. EndsNone (run e turns) v i ⊎ EndsOne (run e turns) v i)
        (step-is turns i) (by (protocol.enters turns i i)) where
          by : ((log_after e (turns ++ i ∷ []) i ≡ log_after e turns i)
              ⊎ ((i ≡ i) × ((x : Entry) × (log_after e (turns ++ i ∷ []) i
              ≡ log_after e turns i ++ x ∷ []) × Tells e turns i x)))
              → EndsNone (run e turns) (run e (turns ++ i ∷ [])) i
              ⊎ EndsOne (run e turns) (run e (turns ++ i ∷ [])) i
          by (inl same) = inl (
            ap length same,
            omega (arith, ap length same, each-length turns i, each-length (turns ++ i ∷ []) i),
          )
          by (inr more) = inr (
            ap length more.1.1 ∙ length_push _ more.1.0,
            omega (
              arith,
              ap length more.1.1,
              length_push ((run e turns).actors i).log more.1.0,
              each-length turns i,
              each-length (turns ++ i ∷ []) i,
            ),
          )

    -- a step of a scheduler that hasn't ended leaves it less work
    pub steps-less : (i : ℕ) (taken : List ℕ) (w : State) → w ≡ run e taken
        → (w.actors i).stage ≢ Ended → work e (step e w i) i < work e w i
    steps-less i taken w is going =
        rule-less e w i (reached-rule c t config valid w (taken, is)) going

    module _ (script : Script) (i : ℕ) where
      first-within : (d n : ℕ) → length (script i d) ≤ later_accesses e script i d n
      first-within d zero = omega arith
      first-within d (suc n) = omega arith

      -- a turn of a scheduler that hasn't ended leaves fewer
      module _ (m : Moment) (taken : List ℕ) (is : m.state ≡ run e taken)
          (few : m.past i ≤ length (script i (done m.state i)))
          (going : (m.state.actors i).stage ≢ Ended) where
        abbrev Fewer : Moment → Type 0
        Fewer n = turns_left e script n i + m.past i < turns_left e script m i + n.past i

        pub some-left : m.past i < turns_left e script m i
        some-left = omega (
          arith,
          few,
          first-within (done m.state i) (left_of m.state i),
          steps-less i taken m.state is going,
        )

        made-fewer : (lists : ℕ → List ℕ) (entry : AccessEntry) → Fewer (after_access m i lists entry)
        made-fewer lists entry = omega (arith, put-here m.past i (m.past i + 1) i refl)

        step-fewer : (v : State) → v ≡ step e m.state i → (past : ℕ)
            → past ≡ past_after e (nat_lt (done m.state i) (done v i)) m.past i i
            → EndsNone m.state v i ⊎ EndsOne m.state v i
            → work e v i + later_accesses e script i (done v i) (left_of v i) + m.past i
            < turns_left e script m i + past
        step-fewer v step past then (inl none) = omega (
          arith,
          steps-less i taken m.state is going,
          ap (λ u. work e u i) step,
          ap (λ d. later_accesses e script i d (left_of v i)) none.0,
          ap (λ n. later_accesses e script i (done m.state i) n) none.1,
          then ∙ ap (λ d. past_after e (nat_lt (done m.state i) d) m.past i i) none.0
              ∙ ap (λ b. past_after e b m.past i i) (not-less (done m.state i)),
        )
        step-fewer v step past then (inr one) = omega (
          arith,
          few,
          steps-less i taken m.state is going,
          ap (λ u. work e u i) step,
          ap (λ d. later_accesses e script i d (left_of v i)) one.0,
          ap (λ n. later_accesses e script i (done m.state i) n) one.1,
        )

        advanced-fewer : Fewer (advanced e m i)
        advanced-fewer = step-fewer (step e m.state i) refl _ refl
            (subst (λ (w : State). EndsNone w (step e w i) i ⊎ EndsOne w (step e w i) i) (sym is)
            (ends-some taken i))

        by-waiting : (xs : List Access) → waiting e script m i ≡ xs → Fewer (turn e script m i)
        by-waiting [] none = subst Fewer (sym (turn-step e script m i none)) advanced-fewer
        by-waiting (a ∷ later) waits = subst Fewer (sym (turn-made e script m i a later waits))
            (made-fewer (lists_by e m.state i m.lists a) (entry_of e m.state i m.lists a))

        pub turn-fewer : Fewer (turn e script m i)
        turn-fewer = by-waiting (waiting e script m i) refl

        -- the turns to its end, which lead to a moment, are still to come after one
        pub leads-next : (target : Moment) → LeadsTo e script i target m
            → LeadsTo e script i target (turn e script m i)
        leads-next target leads = by leads.0 leads.1 leads.2 where
          by : (most : ℕ) → turns_left e script m i ≤ most + m.past i
              → target ≡ play_on e script m (ending e script most m i (m.state.actors i).stage)
              → LeadsTo e script i target (turn e script m i)
          by zero upto leads = absurd (omega (arith, upto, some-left))
          by (suc most) upto leads = (
            most,
            omega (arith, upto, turn-fewer),
            leads ∙ ap (play_on e script m)
                (ending-one e script i most m (m.state.actors i).stage going),
          )
