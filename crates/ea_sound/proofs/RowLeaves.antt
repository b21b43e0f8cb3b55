-- What a row leaves that a scheduler wanted, by where it is in its operation.
use Rattle.std.proofs.Common.{◌≡◌, ◌≢◌, ℕ, ◌<◌, ◌≤◌, List, [], ◌∷◌, Bool, true, false, refl, sym}
use Rattle.std.proofs.Common.{ap, ◌∙◌, subst, arith}
use Rattle.std.specs.Prelude.{Option, Some, None, option_map, if◌then◌else◌}
use Rattle.ea_model.specs.declared.carriers.CarrierPlan.{CarrierPlan}
use Rattle.ea_model.specs.declared.carriers.Spot.{Spot}
use Rattle.ea_model.specs.Content.{Content}
use Rattle.ea_model.specs.Instance.{chosen_spot}
use Rattle.ea_model.proofs.Options.{some_value}
use Rattle.ea_laws.specs.Kinds.{is_shared}
use Rattle.ea_machine.specs.declared.parts.Part.{Part}
use Rattle.ea_machine.specs.declared.nodes.Node.{Node}
use Rattle.ea_machine.specs.declared.owners.OwnerWord.{OwnerWord}
use Rattle.ea_machine.specs.declared.owners.OwnerWord.TheVariants as word
use Rattle.ea_machine.specs.declared.stages.Stage.{Stage}
use Rattle.ea_machine.specs.declared.stages.Stage.TheVariants.{Begin, Collecting, Creating, Ended}
use Rattle.ea_machine.specs.declared.stages.Stage.TheVariants.{Fetching, Giving, Ready, Routed}
use Rattle.ea_machine.specs.declared.stages.Stage.TheVariants.{Searching, Taking}
use Rattle.ea_machine.specs.declared.stages.Route.{Route}
use Rattle.ea_machine.specs.Actor.{Actor}
use Rattle.ea_machine.specs.declared.tasks.Why.{Why}
use Rattle.ea_machine.specs.declared.tasks.Why.TheVariants.{Walk, For}
use Rattle.ea_machine.specs.declared.tasks.Gone.{Gone}
use Rattle.ea_machine.specs.declared.asks.Ask.{Ask}
use Rattle.ea_sound.specs.Contents.{hand_sum, home_sum, seats, slots}
use Rattle.ea_model.specs.Employment.{employing}
use Rattle.ea_machine.specs.Machine.{begins, wants_at, wants_on}
use Rattle.ea_sound.specs.Names.{allocated, made_in, of_content, of_mark, only, unplaced}
use Rattle.ea_sound.specs.NodePlaces.{of_carrier_mark, of_unlinked}
use Rattle.ea_machine.specs.Nodes.{Mark, first_node, named_at}
use Rattle.ea_machine.specs.declared.nodes.Named.{Named}
use Rattle.ea_machine.specs.Owners.{CarrierAt, Absent, Employed, Pooled, Busy, Returning, same_word}
use Rattle.ea_machine.specs.Owners.{word_of}
use Rattle.ea_machine.specs.Placements.{holding}
use Rattle.ea_machine.specs.Releases.{disowned}
use Rattle.ea_machine.specs.Rows.{Answer, Got, Clear, Create, FetchTry, Give, Look, TakeAll}
use Rattle.ea_machine.specs.Rows.{TakeLink, TakeTry}
use Rattle.ea_machine.specs.Setup.{Setup, is_scheduler}
use Rattle.ea_machine.specs.Shared.{Shared, at_place}
use Rattle.ea_machine.specs.State.{State}
use Rattle.ea_machine.specs.Sums.{sum_over}
use Rattle.ea_machine.specs.Table.{answer, effect, link_answer, link_read, moved_if, rest_after}
use Rattle.ea_machine.specs.Table.{rest_by, won_if}
use Rattle.ea_machine.specs.Tasks.{let_go}
use Rattle.ea_machine.specs.Walks.{with_passed}
use Rattle.ea_sound.specs.Leaves.{InOperation, InWalk, Leaves, Wanted, making}
use Rattle.ea_sound.specs.Moments.{at, with_actor}
use Rattle.ea_sound.specs.Present.{Asked, Fits, OldHeld, Rule}
use Rattle.ea_sound.specs.Rule.{Kept, Standing}
use Rattle.ea_sound.proofs.CarrierRows.{IsBare, create_absent, create_slot, created_alone}
use Rattle.ea_sound.proofs.CarrierRows.{created_many, fetched_carrier}
use Rattle.ea_sound.proofs.Choosing.{chosen-fetched}
use Rattle.ea_sound.proofs.Created.{sure-strategy}
use Rattle.ea_sound.proofs.Entries.{ask-even, ask-least}
use Rattle.ea_sound.proofs.ClearRows.{collected_carrier}
use Rattle.ea_sound.proofs.ListRows.{given_away, looked, missed_name, passed_on, took_all}
use Rattle.ea_sound.proofs.ListRows.{took_name}
use Rattle.ea_sound.proofs.MarkRows.{with_rest}
use Rattle.ea_sound.proofs.Moved.{Moved}
use Rattle.ea_sound.proofs.NameRows.{NoMore, no_more}
use Rattle.ea_sound.proofs.NodeSeats.{collecting-home}
use Rattle.ea_sound.proofs.Numbered.{scheduler-seat}
use Rattle.ea_sound.proofs.RouteLeaves.{route-left}
use Rattle.ea_sound.proofs.Totals.{total-part, total-put}

searching-bare : (ask : Ask) (n : ℕ) (part : Part) → IsBare (Searching ask n part)
searching-bare ask n part = record {
  names = λ f. refl;
  hands = λ b k. refl;
  links = λ u. refl;
  nodes = λ g i. refl;
}

fetching-bare : (ask : Ask) (n : ℕ) (part : Part) (seen : OwnerWord)
    → IsBare (Fetching ask n part seen)
fetching-bare ask n part seen = record {
  names = λ f. refl;
  hands = λ b k. refl;
  links = λ u. refl;
  nodes = λ g i. refl;
}

pub creating-bare : (ask : Ask) (p : CarrierPlan) → IsBare (Creating ask p)
creating-bare ask p = record {
  names = λ f. refl;
  hands = λ b k. refl;
  links = λ u. refl;
  nodes = λ g i. refl;
}

pub no_first : (ms : List Mark) → first_node ms ≡ None → ms ≡ []
no_first [] q = refl
no_first (m ∷ ms) q = absurd cc

-- a linked node doesn't count as one that isn't
linked-none : (n : ℕ) (linked : Bool) → linked ≡ true → (if linked then 0 else n) ≡ 0
linked-none n true q = refl
linked-none n false q = absurd cc

module _ (e : Setup) (w : State) (me : ℕ) (is : is_scheduler e me ≡ true) (rule : Rule e w) where
  abbrev old : Actor
  old = w.actors me

  k : Kept e w
  k = rule.kept

  seat : me < seats e
  seat = scheduler-seat e me is

  fits : (stage : Stage Content) → old.stage ≡ stage → Fits e w me old stage
  fits stage now = subst (Fits e w me old) now (rule.present.fits me)

  abbrev Left : Shared → Stage Content → Answer → Type 0
  Left s stage r = Leaves e w s me old stage r

  -- no operation that is left has placed its name
  abbrev Early : Type 0
  Early = (n : ℕ) → 0 < made_in n old.todo → allocated e (only n) w ≡ 0

  early : (stage : Stage Content) → old.stage ≡ stage → unplaced stage old.todo ≡ old.todo → Early
  early stage now same n some = omega (
    arith,
    some,
    rule.present.later n,
    total-part (λ (a : Actor). made_in n (unplaced a.stage a.todo)) w.actors me (seats e) seat,
    ap (λ st. made_in n (unplaced st old.todo)) now,
    ap (made_in n) same,
  )

  in_walk : Early → (s : Shared) (a : Actor) → Moved e w me s a → a.todo ≡ old.todo
      → a.stage ≢ Ready → InWalk e w s me a
  in_walk early s a moved todo busy = record {
    kept = moved.0;
    fresh = λ n some.
        omega (arith, moved.1 n, early n (omega (arith, some, ap (made_in n) todo)));
  }

  in_operation : (s : Shared) (a : Actor) → Moved e w me s a → a.todo ≡ old.todo
      → a.stage ≢ Ready → InOperation e w s me a
  in_operation s a moved todo busy = record { kept = moved.0; busy = busy }

  routed-left : (route : Route Content) (why : Why) (gone : Gone)
      → old.stage ≡ Routed route why gone
      → Left (effect me (wants_on route) w.shared) (Routed route why gone)
      (answer me (wants_on route) w.shared)
  routed-left route Walk gone now = route-left e w me is rule (λ s. InWalk e w s me)
      (in_walk (early (Routed route Walk gone) now refl)) Walk gone route now
  routed-left route (For task) gone now = route-left e w me is rule (λ s. InOperation e w s me)
      in_operation (For task) gone route now

  -- the begin
  module _ (now : old.stage ≡ Begin) where
    take_all-left : old.next ≡ None
        → Left (effect me TakeAll w.shared) Begin (answer me TakeAll w.shared)
    unfolding effect answer
    take_all-left none = in_walk (early Begin now refl) (effect me TakeAll w.shared) (at Begin old)
        (took_all e w me is k now
        (no_first (w.shared.rests me) (sym (rule.present.walking me) ∙ none))) refl (λ z. cc)

    passing : (node : Node) → old.next ≡ Some node → (ms : List Mark) → w.shared.rests me ≡ ms
        → Left (with_rest me (rest_after ms) w.shared) Begin (link_answer ms)
    passing node next [] rest =
        absurd (let never : None ≡ Some node =
        sym (rule.present.walking me ∙ ap first_node rest) ∙ next in cc)
    passing node next (m ∷ ms) rest = by m.linked refl where
      is_next : old.next ≡ Some m.node
      is_next = rule.present.walking me ∙ ap first_node rest

      by : (b : Bool) → m.linked ≡ b
          → Left (with_rest me (rest_by b m ms) w.shared) Begin (link_read b ms)
      by true linked = subst
          (λ o. InWalk e w (with_rest me ms w.shared) me
          (at Begin (record old { passed = with_passed o old.passed }))) (sym is_next)
          (in_walk (early Begin now refl) (with_rest me ms w.shared)
          (at Begin (record old { passed = m.node ∷ old.passed }))
          (passed_on e w me is k now ms (m.node ∷ old.passed)
          (λ f. omega (arith, ap (sum_over (of_mark f)) rest))
          (λ u. omega (
            arith,
            ap (sum_over (of_unlinked u me)) rest,
            linked-none (u me m.node) m.linked linked,
          ))
          (λ g. omega (arith, ap (sum_over (of_carrier_mark g me)) rest))) refl (λ z. cc))
      by false linked = in_walk (early Begin now refl) (with_rest me (m ∷ ms) w.shared)
          (at Begin old)
          (passed_on e w me is k now (m ∷ ms) old.passed
          (λ f. omega (arith, ap (sum_over (of_mark f)) rest))
          (λ u. omega (arith, ap (sum_over (of_unlinked u me)) rest))
          (λ g. omega (arith, ap (sum_over (of_carrier_mark g me)) rest))) refl (λ z. cc)

    take_link-left : (node : Node) → old.next ≡ Some node
        → Left (effect me TakeLink w.shared) Begin (answer me TakeLink w.shared)
    unfolding effect answer
    take_link-left node next = passing node next (w.shared.rests me) refl

    begin-left : (next : Option Node) → old.next ≡ next
        → Left (effect me (begins next) w.shared) Begin (answer me (begins next) w.shared)
    begin-left None next = take_all-left next
    begin-left (Some node) next = take_link-left node next

  -- a carrier that is to be collected came home
  collecting-left : (c : ℕ) → old.stage ≡ Collecting c
      → Left (effect me (Clear c) w.shared) (Collecting c) (answer me (Clear c) w.shared)
  unfolding effect answer
  collecting-left c now =
      let r = collecting-home e w k me seat c now in
      in_walk (early (Collecting c) now refl) (at_place c Absent w.shared)
      (at Begin (disowned c old)) (collected_carrier e w me is k c r.0 now r.1) refl (λ z. cc)

  -- what is asked for is still wanted
  wanted : (s : Shared) (a : Actor) (ask : Ask) → Asked e w old ask → a.held ≡ old.held
      → allocated e (only ask.name) (with_actor w s me (at Begin a))
      ≤ allocated e (only ask.name) w
      → Wanted e w s me a ask
  wanted s a ask asked held less = record {
    fresh = omega (arith, less, asked.fresh);
    least = ask-least ask old.todo asked.of;
    even = ask-even ask old.todo asked.of;
    old = subst (OldHeld ask.old) (sym held) asked.old;
  }

  -- a look, or a lost try
  bare-moved : (stage : Stage Content) → IsBare stage → old.stage ≡ stage
      → Moved e w me w.shared (at Begin old)
  bare-moved stage bare now = looked e w me is k stage Begin now
      (record {
        none = record { hands = λ b h. sym (bare.hands b h); in_hand = tt; hand_laid = tt };
        names = λ f. sym (bare.names f);
        links = λ u. sym (bare.links u);
        nodes = λ g. sym (bare.nodes g me);
      })

  bare-left : (ask : Ask) (stage : Stage Content) → IsBare stage → old.stage ≡ stage
      → Asked e w old ask
      → Wanted e w w.shared me old ask × InOperation e w w.shared me (at Begin old)
  bare-left ask stage bare now asked =
      let moved = bare-moved stage bare now in (
        wanted w.shared old ask asked refl (moved.1 ask.name),
        in_operation w.shared (at Begin old) moved refl (λ z. cc),
      )

  searching-left : (ask : Ask) (n : ℕ) (part : Part) → old.stage ≡ Searching ask n part
      → Left (effect me (Look n) w.shared) (Searching ask n part) (answer me (Look n) w.shared)
  unfolding effect answer
  searching-left ask n part now =
      let stage = Searching ask n part in
      bare-left ask stage (searching-bare ask n part) now (fits stage now).0

  -- a try to fetch a carrier
  module _ (ask : Ask) (n : ℕ) (part : Part) (seen : OwnerWord)
      (now : old.stage ≡ Fetching ask n part seen) where
    abbrev here : Stage Content
    here = Fetching ask n part seen

    sees : Fits e w me old here
    sees = fits here now

    -- the word that was seen tells of room, and so does one that is the same
    pub seen-room : (i g : ℕ) → same_word (word.Pooled i g) seen ≡ true → ask.need ≤ g
    seen-room i g same =
        let (j, room, is, enough) = sees.4 in
        of_word j room enough (ap (same_word (word.Pooled i g)) (sym is) ∙ same) where
          of_word : (j room : ℕ) → ask.need ≤ room
              → same_word (word.Pooled i g) (word.Pooled j room) ≡ true → ask.need ≤ g
          of_word j room enough same =
              let equal : g ≡ room = grind (arith, same) in omega (arith, equal, enough)

    pub fetched-chosen : (i g : ℕ) (x : Content) → w.shared.places n ≡ Pooled i g x
        → same_word (word.Pooled i g) seen ≡ true
        → (spot : Spot) × (chosen_spot (employing old.instance x) ask.need ≡ Some spot)
    fetched-chosen i g x word same =
        let stands : Standing e me old.instance = k.ranges.instances me is in
        let pooled = k.placed.pooled n i g x word in
        some_value (chosen_spot (employing old.instance x) ask.need)
        (chosen-fetched old.instance ask.need x (sure-strategy e me old.instance stands sees.3)
        (ap is_shared pooled.1) (omega (arith, ask-least ask old.todo sees.0.of))
        (omega (arith, seen-room i g same, pooled.3)))

    fetch-left : (b : Bool) (p : CarrierAt) → w.shared.places n ≡ p
        → same_word (word_of p) seen ≡ b
        → Left (moved_if (won_if b p) n (Employed me) w.shared) here (won_if b p)
    fetch-left true (Pooled i g x) word same =
        let a : Actor = record old { instance = employing old.instance x } in
        let s = at_place n (Employed me) w.shared in
        let moved = fetched_carrier e w me is k here (fetching-bare ask n part seen) now n i g x
        word in (
          wanted s a ask sees.0 refl (moved.1 ask.name),
          fetched-chosen i g x word same,
          in_operation s (at Begin a) moved refl (λ z. cc),
        )
    fetch-left true Absent word same =
        bare-left ask here (fetching-bare ask n part seen) now sees.0
    fetch-left true (Employed i) word same =
        bare-left ask here (fetching-bare ask n part seen) now sees.0
    fetch-left true (Busy i) word same =
        bare-left ask here (fetching-bare ask n part seen) now sees.0
    fetch-left true (Returning i x) word same =
        bare-left ask here (fetching-bare ask n part seen) now sees.0
    fetch-left false p word same =
        bare-left ask here (fetching-bare ask n part seen) now sees.0

    fetching-left : Left (effect me (FetchTry n seen) w.shared) here
        (answer me (FetchTry n seen) w.shared)
    unfolding effect answer
    fetching-left =
        fetch-left (same_word (word_of (w.shared.places n)) seen) (w.shared.places n) refl refl

  -- the carrier of a plan
  module _ (ask : Ask) (p : CarrierPlan) (now : old.stage ≡ Creating ask p) where
    abbrev planning : Stage Content
    planning = Creating ask p

    plans : Fits e w me old planning
    plans = fits planning now

    abbrev with_carrier : Shared
    with_carrier = at_place p.number (Employed me) w.shared

    -- no name has more blocks before the block is placed
    plan-no_more : NoMore e (with_actor w with_carrier me (at Begin old)) w
    plan-no_more = no_more e w me seat with_carrier (at Begin old) (λ n. omega (
      arith,
      ap (hand_sum (of_content (only n)) (of_content (only n))) now,
      total-put (home_sum (of_content (only n))) w.shared.places p.number (Employed me) (slots e)
          (create_slot e w me is k planning (creating-bare ask p) now plans.2 ask.need p plans.1),
      ap (home_sum (of_content (only n)))
          (create_absent e w me is k planning (creating-bare ask p) now plans.2 ask.need p plans.1),
    ))

    create-wanted : Wanted e w with_carrier me old ask
    create-wanted = wanted with_carrier old ask plans.0 refl (plan-no_more ask.name)

    create-left : (single : Bool)
        → InOperation e w with_carrier me (at Begin (making ask p old single))
    create-left true = record {
      kept = created_alone e w me is k planning (creating-bare ask p) now plans.2 ask.need p plans.1
          ask.name create-wanted.least create-wanted.even plans.0.fresh;
      busy = λ z. cc;
    }
    create-left false = record {
      kept = (created_many e w me is k planning (creating-bare ask p) now plans.2 ask.need p
          plans.1).0;
      busy = λ z. cc;
    }

    creating-left : Left (effect me (Create p.number) w.shared) planning
        (answer me (Create p.number) w.shared)
    unfolding effect answer
    creating-left = (create-wanted, plans.1, create-left p.single)

  giving-left : (given : Named) (to : ℕ) → old.stage ≡ Giving given to
      → Left (effect me (Give given) w.shared) (Giving given to) (answer me (Give given) w.shared)
  unfolding effect answer
  giving-left given to now = in_operation (effect me (Give given) w.shared)
      (at Begin (let_go given.name old))
      (given_away e w me is k given to now (fits (Giving given to) now).0) refl (λ z. cc)

  taking-left : (name tries left : ℕ) → old.stage ≡ Taking name tries left
      → Left (effect me (TakeTry name) w.shared) (Taking name tries left)
      (answer me (TakeTry name) w.shared)
  unfolding effect answer
  taking-left name tries left now = by (named_at name w.shared.given) refl where
    by : (o : Option Named) → named_at name w.shared.given ≡ o
        → Left (effect me (TakeTry name) w.shared) (Taking name tries left)
        (Got (option_map (λ x. x.spot) o))
    by None q = in_operation (effect me (TakeTry name) w.shared) (at Begin old)
        (missed_name e w me is k name tries left now q) refl (λ z. cc)
    by (Some given) q = in_operation (effect me (TakeTry name) w.shared)
        (at Begin (holding name given.spot old))
        (took_name e w me is k name tries left now given q) refl (λ z. cc)

  -- each row that a scheduler wants
  pub row-left : (stage : Stage Content) → stage ≢ Ended → old.stage ≡ stage
      → Left (effect me (wants_at old.next stage) w.shared) stage
      (answer me (wants_at old.next stage) w.shared)
  row-left Begin goes now = begin-left now old.next refl
  row-left (Routed route why gone) goes now = routed-left route why gone now
  row-left (Collecting c) goes now = collecting-left c now
  row-left (Searching ask n part) goes now = searching-left ask n part now
  row-left (Fetching ask n part seen) goes now = fetching-left ask n part seen now
  row-left (Creating ask p) goes now = creating-left ask p now
  row-left (Giving given to) goes now = giving-left given to now
  row-left (Taking name tries left) goes now = taking-left name tries left now
  row-left Ended goes now = absurd (goes refl)
  row-left Ready goes now = absurd (fits Ready now)
