-- Where the operation itself leaves a scheduler, once its begin is over.
use Rattle.std.proofs.Common.{◌≡◌, ◌≢◌, ◌⊎◌, ℕ, ◌+◌, ◌≤◌, List, [], ◌∷◌, Bool, true, false}
use Rattle.std.proofs.Common.{refl, sym, ap, ◌∙◌, subst, inl, inr, arith}
use Rattle.std.specs.Prelude.{Option, None, Some, Result, Ok, Err, ◌==◌}
use Rattle.ea_model.specs.declared.carriers.CarrierPlan.{CarrierPlan}
use Rattle.ea_model.specs.declared.carriers.Spot.{Spot}
use Rattle.ea_model.specs.Entries.{Entry}
use Rattle.ea_model.specs.declared.entries.Entry.TheVariants as entry
use Rattle.ea_model.specs.declared.entries.NoCarrier.{NoCarrier}
use Rattle.ea_model.specs.declared.operations.Op.{Op}
use Rattle.ea_model.specs.declared.operations.Op.TheVariants as op
use Rattle.ea_model.specs.declared.reallocation.Decision.{Decision}
use Rattle.ea_model.specs.declared.reallocation.Decision.TheVariants.{Stay, ShrinkHere, GrowHere}
use Rattle.ea_model.specs.declared.reallocation.Decision.TheVariants.{ShrinkCarrier, Move}
use Rattle.ea_model.specs.Instance.{chosen_spot, decision_at, figures, is_alone, plan, resizing_at}
use Rattle.ea_model.specs.Units.{need_of}
use Rattle.ea_model.proofs.Rising.{item_at-key}
use Rattle.ea_model.proofs.Needs.{need-even, need-least}
use Rattle.ea_laws.proofs.Keeping.{plan-IsPlanned}
use Rattle.ea_machine.specs.Placements.{search_on}
use Rattle.ea_machine.specs.Searches.{Search, goes_on, looked_in, new_search}
use Rattle.ea_machine.specs.Actor.{Actor}
use Rattle.ea_machine.specs.declared.tasks.Task.TheVariants.{Freeing}
use Rattle.ea_machine.specs.declared.asks.Ask.{Ask}
use Rattle.ea_machine.specs.Nodes.{named_at, name_of}
use Rattle.ea_machine.specs.declared.nodes.Named.{Named}
use Rattle.ea_machine.specs.Operations.{freed, giving, itself}
use Rattle.ea_machine.specs.Placements.{chosen_by, failed, holding, making, new_carrier}
use Rattle.ea_machine.specs.Placements.{new_carrier_by, search_if, searched_by, seek}
use Rattle.ea_machine.specs.Placements.{seek_by}
use Rattle.ea_machine.specs.Reallocations.{reallocated, reallocated_by, resized_here, resized_place}
use Rattle.ea_machine.specs.Setup.{Setup, greatest_number, migration}
use Rattle.ea_machine.specs.Shared.{Shared}
use Rattle.ea_machine.specs.Statistics.{employed_multis, employed_singles, observed, report}
use Rattle.ea_machine.specs.Statistics.{restarted}
use Rattle.ea_machine.specs.Sums.{one_if}
use Rattle.ea_machine.specs.Tasks.{later, let_go, logged}
use Rattle.ea_sound.specs.Listed.{LooksAt}
use Rattle.ea_sound.specs.Present.{HasLeft}
use Rattle.ea_sound.specs.Entries.{Makes}
use Rattle.ea_sound.specs.Names.{made_in}
use Rattle.ea_sound.specs.Present.{OfAsk, OfTask}
use Rattle.ea_sound.proofs.SearchParts.{new-left, new-looks_at}
use Rattle.ea_sound.proofs.Entries.{OfFirst, ask-failed, later-made}
use Rattle.ea_sound.proofs.FewBlocks.{Counting, resizing-fewer}
use Rattle.ea_sound.proofs.HeldNames.{holding-names, holding-rising, let_go-rising, let_go-times}
use Rattle.ea_sound.proofs.HeldNames.{times_held, turned-equal}
use Rattle.ea_sound.proofs.MainCarriers.{resizing-main}
use Rattle.ea_sound.proofs.PresentMoves.{created-good, hands-good, log-good, placed-good}
use Rattle.ea_sound.proofs.Staying.{resizing-stay}
use Rattle.ea_sound.proofs.Suits.{Bare, CoreOf, Good, Wants}
use Rattle.ea_sound.proofs.Unmoved.{always-Stands, planned-missing}
use Rattle.ea_machine.specs.Placements.{refills}
use Rattle.ea_sound.proofs.RowCores.{counted-bare}
use Rattle.ea_model.specs.Settings.{most_count}
use Rattle.ea_sound.proofs.Counts.{refilled-most}

module _ (e : Setup) (s : Shared) (me : ℕ) (home bound : Counting → ℕ) (R : Actor → Type 0) where
  abbrev IsBare : List Op → Actor → Type 0
  IsBare left a = Bare e s me home bound left a

  abbrev IsGood : Actor → Type 0
  IsGood a = Good e s me home bound R a

  abbrev Asks : Actor → Ask → Type 0
  Asks a ask = Wants e s me a ask

  making-good : (ask : Ask) (a : Actor) (wants : Asks a ask) (b : IsBare a.todo a) (p : CarrierPlan)
      (on : Bool) → migration e ≡ on → plan a.instance ask.need ≡ Ok p
      → (p.single ≡ true) ⊎ (chosen_spot a.instance ask.need ≡ None)
      → IsGood (making e me ask p a on)
  making-good ask a wants b p true m asked none =
      record { core = b.core; suits = (wants, asked, m, none) }
  making-good ask a wants b p false m asked none =
      created-good e s me home bound R ask a wants.0 b.core p asked b.own
      (planned-missing a.instance (b.core.stands m) ask.need p asked) none

  carrier-good : (ask : Ask) (a : Actor) (wants : Asks a ask) (b : IsBare a.todo a) (looked : ℕ)
      → (is_alone a.instance ask.need ≡ true) ⊎ (chosen_spot a.instance ask.need ≡ None)
      → IsGood (new_carrier e me ask looked a)
  carrier-good ask a wants b looked none = by (plan a.instance ask.need) refl where
    by : (r : Result CarrierPlan NoCarrier) → plan a.instance ask.need ≡ r
        → IsGood (new_carrier_by e me ask looked a r)
    by (Ok p) asked = making-good ask a wants b p (migration e) refl asked (elim none [
      | inl alone ↦ inl ((plan-IsPlanned a.instance ask.need p asked).single ∙ alone)
      | inr free ↦ inr free
    ])
    by (Err why) refused = log-good e s me home bound R (failed ask looked why ask.old) a a.todo
        b.core (ask-failed ask a.todo looked why ask.old refl wants.0)
        (λ n. later-made n a.todo)

  module _ (ask : Ask) (a : Actor) (wants : Asks a ask) (b : IsBare a.todo a) where
    pub search-good : (x : Search) → (goes_on x.part ≡ true → HasLeft e x.part)
        → (goes_on x.part ≡ true → LooksAt e x.lists x.at x.part) → migration e ≡ true
        → chosen_spot a.instance ask.need ≡ None
        → IsGood (search_on e me ask x a)
    search-good x left looks on free = by (goes_on x.part) refl where
      by : (more : Bool) → goes_on x.part ≡ more
          → IsGood (searched_by e me ask x (record a { lists = x.lists }) more)
      by true q = record { core = b.core; suits = (wants, left q, q, free, on, looks q) }
      by false q = carrier-good ask (record a { lists = x.lists }) wants
          (record { core = b.core; own = b.own }) (looked_in x.part) (inr free)

  module _ (ask : Ask) (a : Actor) (wants : Asks a ask) (b : IsBare a.todo a) where
    full : IsBare (refills a).todo (refills a)
    full = counted-bare e s me home bound a.todo (most_count a.instance.settings) a
        (refilled-most a.instance.settings e.settings b.own.settings) b

    seek-good : IsGood (seek e me ask a)
    seek-good = alone (is_alone a.instance ask.need) refl where
      searching : (on : Bool) → migration e ≡ on → chosen_spot a.instance ask.need ≡ None
          → IsGood (search_if e me ask (refills a) on)
      searching true m free = search-good ask (refills a) wants full
          (new_search (greatest_number e) a.lists)
          (new-left e a.lists) (new-looks_at e a.lists) m free
      searching false m free = carrier-good ask (refills a) wants full 0 (inr free)

      choosing : (o : Option Spot) → chosen_spot a.instance ask.need ≡ o
          → IsGood (chosen_by e me ask a o)
      choosing (Some spot) is =
          placed-good e s me home bound R ask a wants.0 b.core spot is b.own
      choosing None free = searching (migration e) refl free

      alone : (own : Bool) → is_alone a.instance ask.need ≡ own → IsGood (seek_by e me ask a own)
      alone true q = carrier-good ask (refills a) wants full 0 (inl q)
      alone false q = choosing (chosen_spot a.instance ask.need) refl

  pub first-good : (x : Entry) (a : Actor) (o : Op) (ops : List Op) → a.todo ≡ o ∷ ops
      → Makes o x → CoreOf e s me home bound a.todo (λ n. 0) a → IsGood (logged x a)
  first-good x a o ops q is c = log-good e s me home bound R x a a.todo c
      (subst (λ os. OfFirst os x) (sym q) is) (λ n. later-made n a.todo)

  found-name : (n : ℕ) (h : Named) (a : Actor) → named_at n a.held ≡ Some h → h.name ≡ n
  found-name n h a is = item_at-key name_of n h a.held is

  -- a reallocation of a held name
  module _ (o fresh bytes : ℕ) (ops : List Op) (a : Actor)
      (q : a.todo ≡ op.Realloc o fresh bytes ∷ ops) (b : IsBare a.todo a) where
    abbrev need : ℕ
    need = need_of bytes

    module _ (old : Named) (is : named_at o a.held ≡ Some old) where
      moving : Asks a (record { name = fresh; need = need; old = Some old })
      moving = (
        subst (OfAsk (record { name = fresh; need = need; old = Some old })) (sym q)
            (refl, refl, (old, refl, found-name o old a is)),
        subst (λ n. named_at n a.held ≡ Some old) (sym (found-name o old a is)) is,
      )

      made : (n : ℕ) → made_in n a.todo ≡ one_if (n == fresh) + made_in n (later a.todo)
      made n = subst (λ os. made_in n os ≡ one_if (n == fresh) + made_in n (later os)) (sym q) refl

      resized-good : decision_at a.instance old.spot need ≢ Move
          → IsGood (resized_here old fresh need a)
      resized-good stays =
          let i = a.instance in
          let left : ℕ → ℕ = λ n. made_in n (later a.todo) in
          let held = (let_go old.name a).held in
          let names : (n : ℕ) → times_held n (let_go old.name a).held
          + (one_if (n == fresh) + made_in n (later a.todo)) ≤ 1 =
          λ n. omega (arith, b.core.names n, let_go-times old.name n a.held, made n) in
          log-good e s me home bound R
          (entry.ReallocHere old.name fresh (resized_place a.instance old.spot need))
          (holding fresh old.spot (let_go old.name
          (record a { instance = resizing_at a.instance old.spot need fresh })))
          (later a.todo)
          (record {
            stay = resizing-stay me i old.spot fresh b.core.stay need;
            history = b.core.history;
            walking = b.core.walking;
            few = λ n. omega (
              arith,
              b.core.few n,
              made n.name,
              turned-equal n.name fresh,
              resizing-fewer n i old.spot need fresh b.own.order stays,
            );
            rising = holding-rising fresh old.spot held left names
                (let_go-rising old.name a.held b.core.rising);
            names = holding-names fresh old.spot held left names;
            stands = λ off. always-Stands i old.spot need fresh (b.core.stands off)
                (need-least bytes) (need-even bytes);
            main = resizing-main e me i b.core.main old.spot need fresh;
          })
          (subst
          (λ os. OfFirst os
          (entry.ReallocHere old.name fresh (resized_place a.instance old.spot need)))
          (sym q) (found-name o old a is, refl))
          (λ n. omega arith)

      decided-good : (d : Decision) → decision_at a.instance old.spot need ≡ d
          → IsGood (reallocated_by e me old fresh need a d)
      decided-good Stay d = resized-good (λ m. no (sym d ∙ m)) where
        no : Stay ≢ Move
        no z = cc
      decided-good ShrinkHere d = resized-good (λ m. no (sym d ∙ m)) where
        no : ShrinkHere ≢ Move
        no z = cc
      decided-good GrowHere d = resized-good (λ m. no (sym d ∙ m)) where
        no : GrowHere ≢ Move
        no z = cc
      decided-good (ShrinkCarrier pages) d = resized-good (λ m. no pages (sym d ∙ m)) where
        no : (pages : ℕ) → ShrinkCarrier pages ≢ Move
        no pages z = cc
      decided-good Move d =
          seek-good (record { name = fresh; need = need; old = Some old }) a moving b

    realloc-good : (h : Option Named) → named_at o a.held ≡ h
        → IsGood (reallocated e me o fresh need a h)
    realloc-good None is = first-good (entry.ReallocSkipped o fresh) a (op.Realloc o fresh bytes)
        ops q (refl, refl) b.core
    realloc-good (Some old) is =
        decided-good old is (decision_at a.instance old.spot need) refl

  free-good : (n : ℕ) (ops : List Op) (a : Actor) → a.todo ≡ op.Free n ∷ ops → IsBare a.todo a
      → (h : Option Named) → named_at n a.held ≡ h → IsGood (freed e me n a h)
  free-good n ops a q b None is =
      first-good (entry.FreeSkipped n) a (op.Free n) ops q refl b.core
  free-good n ops a q b (Some h) is = hands-good e s me home bound R (Freeing n) h a b
      (subst (OfTask (Freeing n)) (sym q) refl)

  give-good : (n to : ℕ) (ops : List Op) (a : Actor) → a.todo ≡ op.Give n to ∷ ops
      → IsBare a.todo a → (h : Option Named) → named_at n a.held ≡ h → IsGood (giving n to a h)
  give-good n to ops a q b None is =
      first-good (entry.GiveSkipped n to) a (op.Give n to) ops q (refl, refl) b.core
  give-good n to ops a q b (Some h) is =
      let same = found-name n h a is in
      record {
        core = b.core;
        suits = (
          subst (λ m. named_at m a.held ≡ Some h) (sym same) is,
          (ops, q ∙ ap (λ m. op.Give m to ∷ ops) (sym same)),
        );
      }

  pub itself-good : (a : Actor) (ops : List Op) → a.todo ≡ ops → IsBare a.todo a
      → IsGood (itself e me a ops)
  itself-good a [] q b = record { core = b.core; suits = q }
  itself-good a (op.Alloc n bytes ∷ ops) q b =
      let ask : Ask = record { name = n; need = need_of bytes; old = None } in
      seek-good ask a (subst (OfAsk ask) (sym q) (refl, refl, refl), tt) b
  itself-good a (op.Free n ∷ ops) q b = free-good n ops a q b (named_at n a.held) refl
  itself-good a (op.Realloc o n bytes ∷ ops) q b =
      realloc-good o n bytes ops a q b (named_at o a.held) refl
  itself-good a (op.Give n to ∷ ops) q b = give-good n to ops a q b (named_at n a.held) refl
  itself-good a (op.Take n tries ∷ ops) q b =
      record { core = b.core; suits = (omega arith, (ops, q)) }
  itself-good a (op.Info ∷ ops) q b =
      let mbcs = figures (employed_multis a) in
      let sbcs = figures (employed_singles a) in
      let c = observed a in
      first-good (entry.Info (record { mbcs = report mbcs c.mbcs; sbcs = report sbcs c.sbcs }))
      (record c { mbcs = restarted mbcs c.mbcs; sbcs = restarted sbcs c.sbcs }) op.Info ops q tt
      b.core
  itself-good a (op.Idle ∷ ops) q b = first-good entry.Idle a op.Idle ops q tt b.core
