-- Where the operation itself leaves a scheduler, from a begin that is over.
use Rattle.std.proofs.Common.{◌≡◌, ◌⊎◌, ℕ, ◌+◌, ◌≤◌, List, [], ◌∷◌, ◌++◌, Bool, true, false, refl}
use Rattle.std.proofs.Common.{sym, ◌∙◌, subst, inl, inr, arith}
use Rattle.std.specs.Prelude.{Option, None, Some, Ok, All, ◌==◌}
use Rattle.std.specs.List.{AllZip}
use Rattle.std.proofs.lemmas.Bool.{cases_Bool, true≢false}
use Rattle.std.proofs.lemmas.List.Elements.{All-weaker}
use Rattle.ea_model.specs.declared.carriers.CarrierPlan.{CarrierPlan}
use Rattle.ea_model.specs.declared.carriers.Place.{Place}
use Rattle.ea_model.specs.declared.carriers.Spot.{Spot}
use Rattle.ea_model.specs.Entries.{Entry}
use Rattle.ea_model.specs.declared.entries.Entry.TheVariants as entry
use Rattle.ea_model.specs.declared.operations.Op.{Op}
use Rattle.ea_model.specs.Instance.{Instance, chosen_spot, content_of, creating, creating_single}
use Rattle.ea_model.specs.Instance.{employed, place_at, placing_at, plan, single_place}
use Rattle.ea_model.specs.Content.{Content, is_empty_multi}
use Rattle.ea_model.specs.Strategies.{may_miss}
use Rattle.ea_model.proofs.Options.{some_value}
use Rattle.ea_laws.proofs.Keeping.{chosen-planned}
use Rattle.ea_laws.specs.Kept.{Stands}
use Rattle.ea_laws.proofs.Standing.{chosen-Stands, creating-Stands, creating_single-Stands}
use Rattle.ea_machine.specs.declared.stages.Route.{Route}
use Rattle.ea_machine.specs.Actor.{Actor}
use Rattle.ea_machine.specs.declared.tasks.Task.{Task}
use Rattle.ea_machine.specs.declared.tasks.Task.TheVariants.{Moving}
use Rattle.ea_machine.specs.declared.tasks.Why.{Why}
use Rattle.ea_machine.specs.declared.tasks.Why.TheVariants.{For}
use Rattle.ea_machine.specs.declared.tasks.Gone.{Gone}
use Rattle.ea_machine.specs.declared.asks.Ask.{Ask}
use Rattle.ea_sound.specs.Entries.{Makes}
use Rattle.ea_sound.specs.Names.{made_in, unplaced_by}
use Rattle.ea_machine.specs.declared.nodes.Named.{Named}
use Rattle.ea_sound.specs.Places.{MayStay}
use Rattle.ea_machine.specs.Sums.{one_if}
use Rattle.ea_machine.specs.Placements.{created, created_by, holding, placed_at, placed_by}
use Rattle.ea_machine.specs.Placements.{spot_of_place, stands}
use Rattle.ea_machine.specs.Releases.{route_of}
use Rattle.ea_machine.specs.Setup.{Setup, migration}
use Rattle.ea_machine.specs.Shared.{Shared}
use Rattle.ea_machine.specs.Tasks.{carried_by, entry_of, hands_over, later, let_go, logged}
use Rattle.ea_machine.specs.Tasks.{task_over}
use Rattle.ea_sound.specs.Blocks.{EmploysMain}
use Rattle.ea_sound.specs.Present.{OfAsk, OfTask, OfWhy}
use Rattle.ea_sound.specs.Rule.{Standing}
use Rattle.ea_sound.proofs.Choosing.{chosen-gap, chosen-in_planned}
use Rattle.ea_sound.proofs.Created.{sure-strategy}
use Rattle.ea_sound.proofs.Entries.{OfFirst, append-one, ask-allocated, ask-even, ask-least}
use Rattle.ea_sound.proofs.Entries.{ask-made, ask-moving, entries-more, task-entry, task-made}
use Rattle.ea_sound.proofs.FewBlocks.{Counting, all_named, creating-fewer, creating_single-fewer}
use Rattle.ea_sound.proofs.FewBlocks.{placing-fewer}
use Rattle.ea_sound.proofs.HeldNames.{holding-names, holding-rising, let_go-rising, let_go-times}
use Rattle.ea_sound.proofs.HeldNames.{times_held, turned-equal}
use Rattle.ea_sound.proofs.MainCarriers.{creating-main, creating_single-main, placing-main}
use Rattle.ea_laws.proofs.Orderly.{creating-IsOrderly, creating_single-IsOrderly}
use Rattle.ea_laws.proofs.Orderly.{placing-IsOrderly}
use Rattle.ea_sound.proofs.ReleaseRoutes.{route-good}
use Rattle.ea_sound.proofs.Staying.{AllStay, AllStayBut, but-stay, creating-stay}
use Rattle.ea_sound.proofs.Staying.{creating_single-stay, placing-stay, vacant-empty}
use Rattle.ea_sound.proofs.Suits.{Bare, CoreOf, Good, RouteGood}
use Rattle.ea_sound.proofs.Counts.{raised-most}

module _ (e : Setup) (s : Shared) (me : ℕ) (home bound : Counting → ℕ) (R : Actor → Type 0) where
  abbrev CoreIs : List Op → Actor → Type 0
  CoreIs left a = CoreOf e s me home bound left (λ n. 0) a

  abbrev IsBare : List Op → Actor → Type 0
  IsBare left a = Bare e s me home bound left a

  abbrev IsGood : Actor → Type 0
  IsGood a = Good e s me home bound R a

  abbrev IsRouteGood : Why → Actor → Option (Route Content) → Type 0
  IsRouteGood y a r = RouteGood e s me home bound y a r

  -- the operation is over
  pub log-good : (x : Entry) (a : Actor) (left : List Op) → CoreIs left a → OfFirst a.todo x
      → ((n : ℕ) → made_in n (later a.todo) ≤ made_in n left) → IsGood (logged x a)
  log-good x a left c first fewer = record {
    core = record {
      stay = c.stay;
      history = past a.todo first c.history;
      walking = c.walking;
      few = λ n. omega (arith, c.few n, fewer n.name);
      rising = c.rising;
      names = λ n. omega (arith, c.names n, fewer n);
      stands = c.stands;
      main = c.main;
    };
    suits = tt;
  } where
    past : (ops : List Op) → OfFirst ops x
        → ((done : List Op) × (e.texts me ≡ done ++ ops) × AllZip Makes done a.log)
        → (done : List Op) × (e.texts me ≡ done ++ later ops)
        × AllZip Makes done (a.log ++ x ∷ [])
    past [] first h = absurd first
    past (o ∷ ops) first h = (
      h.0 ++ o ∷ [],
      h.1 ∙ append-one h.0 o ops,
      entries-more h.0 a.log o x h.2 first,
    )

  pub carried-good : (y : Why) (over : Gone → Actor → Actor) (g : Gone) (a : Actor)
      (r : Option (Route Content)) → IsRouteGood y a r
      → ((g : Gone) (b : Actor) → IsBare (unplaced_by y b.todo) b → OfWhy y b.todo
      → IsGood (over g b))
      → IsGood (carried_by y over g a r)
  carried-good y over g a None k f = f g a k.0 k.1
  carried-good y over g a (Some r) k f = record { core = k.0; suits = k.1 }

  pub task-good : (task : Task) (g : Gone) (a : Actor) → IsBare (unplaced_by (For task) a.todo) a
      → OfTask task a.todo → IsGood (task_over task g a)
  task-good task g a b of = log-good (entry_of task g) a (unplaced_by (For task) a.todo) b.core
      (task-entry task g a.todo of) (λ n. task-made n task a.todo)

  -- the block of a held name goes its route
  pub hands-good : (task : Task) (h : Named) (a : Actor) → IsBare (unplaced_by (For task) a.todo) a
      → OfTask task a.todo → IsGood (hands_over e me task h a)
  hands-good task h a b of =
      let t = route_of e me h (let_go h.name a) in
      carried-good (For task) (task_over task) t.gone t.actor t.route
      (route-good e s me home bound (For task) h (let_go h.name a)
      (record {
        core = record {
          stay = b.core.stay;
          history = b.core.history;
          walking = b.core.walking;
          few = b.core.few;
          rising = let_go-rising h.name a.held b.core.rising;
          names = λ n. omega (arith, b.core.names n, let_go-times h.name n a.held);
          stands = b.core.stands;
          main = b.core.main;
        };
        own = b.own;
      }) of)
      (λ g c k w. task-good task g c k w)

  stands-good : (ask : Ask) (place : Place) (o : Option Named) (a : Actor) → ask.old ≡ o
      → OfAsk ask a.todo → IsBare (later a.todo) a → IsGood (stands e me ask.name place o a)
  stands-good ask place None a old of b =
      log-good (entry.Alloc ask.name place) a (later a.todo) b.core
      (ask-allocated ask a.todo place old of) (λ n. omega arith)
  stands-good ask place (Some h) a old of b =
      hands-good (Moving h.name ask.name place) h a b (ask-moving ask a.todo place h old of)

  -- a block has the name that was asked for, at an instance that has one block of it more
  module _ (ask : Ask) (a : Actor) (of : OfAsk ask a.todo) (c : CoreIs a.todo a) where
    held-good : (i : Instance) (spot : Spot) (place : Place) → Standing e me i → AllStay me i
        → ((n : Counting) → all_named n i ≤ one_if (ask.name == n.name) + all_named n a.instance)
        → (migration e ≡ false → Stands i) → EmploysMain e me i
        → IsGood (stands e me ask.name place ask.old
        (holding ask.name spot (record a { instance = i })))
    held-good i spot place own stay few off main =
        let left : ℕ → ℕ = λ n. made_in n (later a.todo) in
        let names : (n : ℕ)
        → times_held n a.held + (one_if (n == ask.name) + made_in n (later a.todo)) ≤ 1 =
        λ n. omega (arith, c.names n, ask-made ask a.todo of n) in
        stands-good ask place ask.old (holding ask.name spot (record a { instance = i })) refl of
        (record {
          core = record {
            stay = stay;
            history = c.history;
            walking = c.walking;
            few = λ n. omega (
              arith,
              c.few n,
              few n,
              ask-made ask a.todo of n.name,
              turned-equal n.name ask.name,
            );
            rising = holding-rising ask.name spot a.held left names c.rising;
            names = holding-names ask.name spot a.held left names;
            stands = off;
            main = main;
          };
          own = own;
        })

    -- the block is placed in a choice, where all other carriers have blocks
    choice-good : (i : Instance) (spot : Spot) → chosen_spot i ask.need ≡ Some spot
        → Standing e me i → AllStayBut me spot.carrier i → All (MayStay me) i.singles
        → ((n : Counting) → all_named n i ≤ all_named n a.instance)
        → (migration e ≡ false → Stands i) → EmploysMain e me i
        → IsGood (placed_at e me ask (record a { instance = i }) spot)
    choice-good i spot is own but one few off main =
        let least = ask-least ask a.todo of in
        let even = ask-even ask a.todo of in
        let gap = chosen-gap i ask.need spot own.order.rising own.order.laid is in
        held-good (placing_at i spot ask.need ask.name) spot (place_at i spot ask.need)
        (record {
          settings = own.settings;
          number = own.number;
          first = own.first;
          end = own.end;
          count = raised-most i.settings e.settings i.count own.settings;
          order = placing-IsOrderly i spot ask.need ask.name own.order gap least even;
        })
        (placing-stay me i spot ask.need ask.name but one)
        (λ n. omega (arith, few n, placing-fewer n i spot ask.need ask.name own.order gap))
        (λ m. chosen-Stands i ask.need ask.name spot (off m) least even is)
        (placing-main e me i main spot ask.need ask.name)

    pub placed-good : (spot : Spot) → chosen_spot a.instance ask.need ≡ Some spot
        → Standing e me a.instance → IsGood (placed_at e me ask a spot)
    placed-good spot is own = choice-good a.instance spot is own
        (but-stay me spot.carrier a.instance c.stay) c.stay.1 (λ n. omega arith) c.stands c.main

    -- in the carrier of a plan
    module _ (p : CarrierPlan) (asked : plan a.instance ask.need ≡ Ok p)
        (own : Standing e me a.instance)
        (new : content_of (employed a.instance) p.number ≡ None)
        (none : (p.single ≡ true) ⊎ (chosen_spot a.instance ask.need ≡ None)) where
      misses-Stands : may_miss a.instance.settings.strategy ≡ true → Stands a.instance
      misses-Stands misses = elim (cases_Bool (migration e)) [
        | inl on ↦ absurd (true≢false (sym misses ∙ sure-strategy e me a.instance own on))
        | inr off ↦ c.stands off
      ]

      created_by-good : (b : Bool) → p.single ≡ b → IsGood (created_by e me ask p a b)
      created_by-good true single =
          let least = ask-least ask a.todo of in
          let even = ask-even ask a.todo of in
          held-good (creating_single a.instance p ask.need ask.name)
          (spot_of_place (single_place p ask.need)) (single_place p ask.need)
          (record {
            settings = own.settings;
            number = own.number;
            first = own.first;
            end = own.end;
            count = own.count;
            order = creating_single-IsOrderly a.instance ask.need p own.order asked new ask.name
                least even;
          })
          (creating_single-stay me a.instance p ask.need ask.name own.number c.stay)
          (λ n. creating_single-fewer n a.instance p ask.need ask.name)
          (λ off. creating_single-Stands a.instance ask.need p (c.stands off) asked ask.name least
          even)
          (creating_single-main e me a.instance c.main p ask.need ask.name)
      created_by-good false multi =
          let i = creating a.instance p in
          let t = some_value (chosen_spot i ask.need)
          (chosen-planned a.instance ask.need p asked) in
          let free : chosen_spot a.instance ask.need ≡ None = elim none [
            | inl single ↦ absurd (true≢false (sym single ∙ multi))
            | inr free ↦ free
          ] in
          let full = All-weaker (MayStay me) (λ x. is_empty_multi x ≡ false)
          (λ x m. vacant-empty x m.0) a.instance.contents c.stay.0 in
          let at = chosen-in_planned a.instance ask.need p t.0 misses-Stands free full t.1 in
          subst (λ o. IsGood (placed_by e me ask (record a { instance = creating a.instance p }) o))
          (sym t.1)
          (choice-good i t.0 t.1
          (record {
            settings = own.settings;
            number = own.number;
            first = own.first;
            end = own.end;
            count = own.count;
            order = creating-IsOrderly a.instance ask.need p own.order asked new;
          })
          (subst (λ n. AllStayBut me n i) (sym at) (creating-stay me a.instance p c.stay)) c.stay.1
          (λ n. creating-fewer n a.instance p)
          (λ off. creating-Stands a.instance ask.need p (c.stands off) asked)
          (creating-main e me a.instance c.main p))

      pub created-good : IsGood (created e me ask p a)
      created-good = created_by-good p.single refl
