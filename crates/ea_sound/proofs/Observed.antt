-- In each reached state the figures of each scheduler's carriers are observed: to observe them once
-- more changes nothing. After a look of a search they still are.
use Rattle.std.proofs.Common.{◌≡◌, ℕ, Bool, true, false, List, [], ◌++◌, inl, inr, refl, sym}
use Rattle.std.proofs.Common.{ap, ◌∙◌, subst, arith}
use Rattle.std.specs.Prelude.{None, Result, Ok, Err, filter, max, not}
use Rattle.std.proofs.lemmas.Bool.{cases_eq}
use Rattle.std.proofs.lemmas.Int.{clamps}
use Rattle.ea_model.specs.declared.carriers.CarrierPlan.{CarrierPlan}
use Rattle.ea_model.specs.declared.carriers.Figures.{Figures}
use Rattle.ea_model.specs.Entries.{Entry}
use Rattle.ea_model.specs.declared.entries.NoCarrier.{NoCarrier}
use Rattle.ea_model.specs.declared.operations.Op.{Op}
use Rattle.ea_model.specs.Content.{Content}
use Rattle.ea_model.specs.Instance.{figures, plan}
use Rattle.ea_machine.specs.Lists.{Lists, no_lists}
use Rattle.ea_machine.specs.Searches.{Search, goes_on, looked_in, passed, with_counted}
use Rattle.ea_machine.specs.Setup.{greatest_number}
use Rattle.ea_machine.specs.declared.parts.Part.{Part}
use Rattle.ea_machine.specs.declared.asks.Ask.{Ask}
use Rattle.ea_machine.specs.declared.owners.OwnerWord.{OwnerWord}
use Rattle.ea_machine.specs.declared.stages.Stage.{Stage}
use Rattle.ea_machine.specs.declared.stages.Stage.TheVariants.{Begin, Creating, Ended, Fetching}
use Rattle.ea_machine.specs.declared.stages.Stage.TheVariants.{Searching}
use Rattle.ea_machine.specs.Actor.{Actor, Stat}
use Rattle.ea_machine.specs.Machine.{IsReached, first_instance, first_stage, onward, run, start}
use Rattle.ea_machine.specs.Machine.{step}
use Rattle.ea_machine.specs.Placements.{making, new_carrier_by, saw_by}
use Rattle.ea_machine.specs.Searches.{fits}
use Rattle.ea_machine.specs.Placements.{searched, searched_by}
use Rattle.ea_machine.specs.Rows.{Answer, Done, Got, Head, Home, Lost, Passes, Rests, Saw, Won}
use Rattle.ea_machine.specs.Setup.{Setup, is_scheduler, migration}
use Rattle.ea_machine.specs.State.{State}
use Rattle.ea_machine.specs.Statistics.{employed_multis, employed_singles, greater, is_single}
use Rattle.ea_machine.specs.Statistics.{leaving_at, observed, seen, unseen}
use Rattle.ea_machine.specs.Tasks.{later}
use Rattle.ea_sound.proofs.TurnLists.{by-turns, ended-or, run-snoc, step-ended, step-mine}
use Rattle.ea_sound.proofs.TurnLists.{step-other}

max-again : (a b : ℕ) → max (max a b) b ≡ max a b
max-again a b = omega (arith, clamps)

greater-again : (f now : Figures) → greater (greater f now) now ≡ greater f now
greater-again f now =
    let g = greater f now in
    ap (λ n. record (greater g now) { blocks = n }) (max-again f.blocks now.blocks)
    ∙ ap (λ n. record (greater g now) { blocks = g.blocks; blocks_size = n })
    (max-again f.blocks_size now.blocks_size)
    ∙ ap (λ n. record g { carriers = n; carriers_size = max g.carriers_size now.carriers_size })
    (max-again f.carriers now.carriers)
    ∙ ap (λ n. record g { carriers_size = n }) (max-again f.carriers_size now.carriers_size)

seen-again : (now : Figures) (s : Stat) → seen now (seen now s) ≡ seen now s
seen-again now s =
    ap (λ f. record { last = f; ever = greater (greater s.ever now) now })
    (greater-again s.last now)
    ∙ ap (λ f. record { last = greater s.last now; ever = f }) (greater-again s.ever now)

observed-again : (a : Actor) → observed (observed a) ≡ observed a
observed-again a =
    let b = observed a in
    ap (λ s. record b { mbcs = s; sbcs = seen (figures (employed_singles a)) b.sbcs })
    (seen-again (figures (employed_multis a)) a.mbcs)
    ∙ ap (λ s. record b { sbcs = s }) (seen-again (figures (employed_singles a)) a.sbcs)

module _ (e : Setup) (i : ℕ) where
  abbrev IsObserved : State → Type 0
  IsObserved w = observed (w.actors i) ≡ w.actors i

  observed-as : (w : State) (a : Actor) → w.actors i ≡ a → observed a ≡ a → IsObserved w
  observed-as w a same is = subst (λ b. observed b ≡ b) (sym same) is

  at-start : IsObserved (start e)
  at-start = observed-again (record {
    instance = first_instance e i;
    lists = no_lists;
    held = [];
    todo = e.texts i;
    stage = first_stage e (is_scheduler e i);
    passed = [];
    next = None;
    mbcs = unseen;
    sbcs = unseen;
    log = [];
  })

  after-step : (w : State) (s : ℕ) → IsObserved w → IsObserved (step e w s)
  after-step w s is = elim (ended-or (w.actors s).stage) [
    | inl ended ↦ subst IsObserved (sym (step-ended e w s ended)) is
    | inr goes ↦ elim (cases_eq i s) [
      | inl mine ↦ observed-as (step e w s) _
          (ap (λ j. (step e w s).actors j) mine ∙ step-mine e w s goes) (observed-again _)
      | inr other ↦ observed-as (step e w s) (w.actors i) (step-other e w s i other) is
    ]
  ]

  pub reached-observed : (w : State) → IsReached e w → IsObserved w
  reached-observed w (turns, is) = subst IsObserved (sym is)
      (by-turns (λ L. IsObserved (run e L))
      (λ L s so. subst IsObserved (sym (run-snoc e L s)) (after-step (run e L) s so))
      at-start turns)

-- a scheduler whose figures are observed, with no carrier in its hand that is about to leave
module _ (a : Actor) (is : observed a ≡ a) (none : leaving_at a.stage ≡ []) where
  abbrev seen_with : List Content → Actor → Actor
  seen_with leaving b = record b {
    mbcs = seen (figures (filter (λ x. not (is_single x.kind)) leaving ++ b.instance.contents))
        b.mbcs;
    sbcs = seen (figures (filter (λ x. is_single x.kind) leaving ++ b.instance.singles)) b.sbcs;
  }

  -- they are at another stage too, where it has none either, and with other lists
  pub still-observed : (at : Stage Content) (l : Lists) (todo : List Op) (log : List Entry)
      → leaving_at at ≡ []
      → observed (record a { stage = at; lists = l; todo = todo; log = log })
      ≡ record a { stage = at; lists = l; todo = todo; log = log }
  still-observed at l todo log none_too =
      ap (λ xs. seen_with xs (record a { stage = at; lists = l; todo = todo; log = log }))
      (none_too ∙ sym none)
      ∙ ap (λ (b : Actor). record b { stage = at; lists = l; todo = todo; log = log }) is

  -- a search of its own, where carriers migrate
  module _ (e : Setup) (me : ℕ) (on : migration e ≡ true) (ask : Ask) where
    abbrev StillObserved : Actor → Type 0
    StillObserved b = observed (onward e me b) ≡ onward e me b

    new-observed : (l : Lists) (looked : ℕ) (r : Result CarrierPlan NoCarrier)
        → StillObserved (new_carrier_by e me ask looked (record a { lists = l }) r)
    new-observed l looked (Ok p) =
        subst (λ m. StillObserved (making e me ask p (record a { lists = l }) m)) (sym on)
        (still-observed (Creating ask p) l a.todo a.log refl)
    new-observed l looked (Err why) = still-observed Begin l (later a.todo) _ refl

    search-observed : (x : Search) (b : Bool)
        → StillObserved (searched_by e me ask x (record a { lists = x.lists }) b)
    search-observed x true = still-observed (Searching ask x.at x.part) x.lists a.todo a.log refl
    search-observed x false = new-observed x.lists (looked_in x.part) (plan a.instance ask.need)

    saw-observed : (n : ℕ) (part : Part) (w : OwnerWord) (b : Bool)
        → StillObserved (saw_by e me ask n part a w b)
    saw-observed n part w true = still-observed (Fetching ask n part w) a.lists a.todo a.log refl
    saw-observed n part w false =
        let x = passed (greatest_number e) a.lists n part w in search-observed x (goes_on x.part)

    halted-observed : StillObserved (record a { stage = Ended })
    halted-observed = still-observed Ended a.lists a.todo a.log refl

    -- after a look
    pub searched-observed : (n : ℕ) (part : Part) (r : Answer)
        → StillObserved (searched e me ask n part a r)
    searched-observed n part (Saw w) =
        saw-observed n (with_counted w part) w (fits ask.need w)
    searched-observed n part Done = halted-observed
    searched-observed n part (Head x) = halted-observed
    searched-observed n part Rests = halted-observed
    searched-observed n part (Passes x) = halted-observed
    searched-observed n part (Won x) = halted-observed
    searched-observed n part (Lost w) = halted-observed
    searched-observed n part (Home x) = halted-observed
    searched-observed n part (Got x) = halted-observed
