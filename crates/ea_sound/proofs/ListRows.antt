-- Rows at queues, walks and given names, and rows that only look.
use Rattle.std.proofs.Common.{◌≡◌, ℕ, ◌+◌, ◌<◌, ◌≤◌, List, [], true, refl, sym, ap, ◌∙◌, arith}
use Rattle.std.specs.Prelude.{Some, None}
use Rattle.ea_model.specs.declared.carriers.Spot.{Spot}
use Rattle.ea_model.specs.Content.{Content}
use Rattle.ea_model.proofs.Rising.{item_at-key}
use Rattle.ea_laws.specs.Kept.{IsLaidOut}
use Rattle.ea_machine.specs.declared.nodes.Node.{Node}
use Rattle.ea_machine.specs.declared.stages.Stage.{Stage}
use Rattle.ea_machine.specs.declared.stages.Stage.TheVariants.{Begin, Giving, Routed, Taking}
use Rattle.ea_machine.specs.declared.stages.Route.TheVariants.{Linking, Pushing}
use Rattle.ea_machine.specs.Actor.{Actor}
use Rattle.ea_machine.specs.declared.tasks.Why.{Why}
use Rattle.ea_machine.specs.declared.tasks.Gone.{Gone}
use Rattle.ea_sound.specs.Contents.{InHand, hand_sum, seats}
use Rattle.ea_sound.specs.Names.{of_hand, of_mark, of_named, of_node, only}
use Rattle.ea_sound.specs.NodePlaces.{of_carrier_hand, of_carrier_mark, of_carrier_node, of_link}
use Rattle.ea_sound.specs.NodePlaces.{of_unlinked, unlinked_at}
use Rattle.ea_machine.specs.Nodes.{Mark, named_at, name_of}
use Rattle.ea_machine.specs.declared.nodes.Named.{Named}
use Rattle.ea_machine.specs.Placements.{holding}
use Rattle.ea_sound.specs.Ranges.{IsLaidOutAsKind}
use Rattle.ea_machine.specs.Rows.{Give, Link, Push, TakeAll, TakeTry}
use Rattle.ea_machine.specs.Setup.{Setup, is_scheduler}
use Rattle.ea_machine.specs.State.{State}
use Rattle.ea_machine.specs.Sums.{sum_over}
use Rattle.ea_machine.specs.Table.{effect}
use Rattle.ea_machine.specs.Tasks.{let_go}
use Rattle.ea_sound.specs.Moments.{at}
use Rattle.ea_sound.specs.Rule.{Belongs, Kept, names_of}
use Rattle.ea_sound.proofs.KeyedWeights.{sum-entered, sum-without, times, without-missing}
use Rattle.ea_sound.proofs.MarkRows.{marks-linked, marks-push, marks-take_all, marks-with_rest}
use Rattle.ea_sound.proofs.MarkRows.{with_rest}
use Rattle.ea_sound.proofs.Moved.{Moved, lists_moved}
use Rattle.ea_sound.proofs.Numbered.{scheduler-seat}
use Rattle.ea_sound.proofs.Totals.{total-part}
use Rattle.ea_sound.proofs.UnlinkedRows.{link_unlinked, unlinked_moved}

-- two stages with no content in the hand
pub record NoContent (e : Setup) (me : ℕ) (old new : Stage Content) : Type 0 where
  pub hands : (b k : Content → ℕ) → hand_sum b k new ≡ hand_sum b k old
  pub in_hand : InHand (Belongs e me) (Belongs e me) new
  pub hand_laid : InHand IsLaidOut IsLaidOutAsKind new

-- a look, or a lost try: what is shared stays, and so do the nodes and the name in the hand
pub record Looks (e : Setup) (me : ℕ) (old new : Stage Content) : Type 0 where
  pub none : NoContent e me old new
  pub names : (f : ℕ → Spot → ℕ) → of_hand f new ≡ of_hand f old
  pub links : (u : ℕ → Node → ℕ) → of_link u new ≡ of_link u old
  pub nodes : (g : ℕ → ℕ → ℕ) → of_carrier_hand g me new ≡ of_carrier_hand g me old

module _ (e : Setup) (w : State) (me : ℕ) (is : is_scheduler e me ≡ true) (k : Kept e w) where
  seat : me < seats e
  seat = scheduler-seat e me is

  pub looked : (old new : Stage Content) → (w.actors me).stage ≡ old → Looks e me old new
      → Moved e w me w.shared (at new (w.actors me))
  looked old new stage l = lists_moved e w me is k w.shared (at new (w.actors me))
      (record {
        places = refl;
        instance = refl;
        hands = λ b h. l.none.hands b h ∙ sym (ap (hand_sum b h) stage);
        names = λ f. omega (arith, l.names f, ap (of_hand f) stage);
        nodes = λ g. omega (arith, l.nodes g, ap (of_carrier_hand g me) stage);
        in_hand = l.none.in_hand;
        hand_laid = l.none.hand_laid;
      })
      (unlinked_moved e w me seat k.unlinked w.shared (at new (w.actors me))
      (λ u. omega (arith, l.links u, ap (of_link u) stage)))

  module _ (begin : (w.actors me).stage ≡ Begin) where
    -- the queue becomes a walk
    pub took_all : w.shared.rests me ≡ []
        → Moved e w me (effect me TakeAll w.shared) (at Begin (w.actors me))
    unfolding effect
    took_all none =
        let s = effect me TakeAll w.shared in
        lists_moved e w me is k s (at Begin (w.actors me))
        (record {
          places = refl;
          instance = refl;
          hands = λ b h. sym (ap (hand_sum b h) begin);
          names = λ f. omega (
            arith,
            marks-take_all e w.shared (λ i. of_mark f) me seat none,
            ap (of_hand f) begin,
          );
          nodes = λ g. omega (
            arith,
            marks-take_all e w.shared (of_carrier_mark g) me seat none,
            ap (of_carrier_hand g me) begin,
          );
          in_hand = tt;
          hand_laid = tt;
        })
        (unlinked_moved e w me seat k.unlinked s (at Begin (w.actors me)) (λ u. omega (
          arith,
          marks-take_all e w.shared (of_unlinked u) me seat none,
          ap (of_link u) begin,
        )))

    -- the first nodes of what is left of the walk come to those passed
    pub passed_on : (ms : List Mark) (nodes : List Node)
        → ((f : ℕ → Spot → ℕ) → sum_over (of_node f) nodes + sum_over (of_mark f) ms
        ≡ sum_over (of_node f) (w.actors me).passed + sum_over (of_mark f) (w.shared.rests me))
        → ((u : ℕ → Node → ℕ) → sum_over (of_unlinked u me) ms
        ≡ sum_over (of_unlinked u me) (w.shared.rests me))
        → ((g : ℕ → ℕ → ℕ) → sum_over (of_carrier_node g me) nodes
        + sum_over (of_carrier_mark g me) ms
        ≡ sum_over (of_carrier_node g me) (w.actors me).passed
        + sum_over (of_carrier_mark g me) (w.shared.rests me))
        → Moved e w me (with_rest me ms w.shared)
        (at Begin (record (w.actors me) { passed = nodes }))
    passed_on ms nodes names links carriers =
        let s = with_rest me ms w.shared in
        let a : Actor = at Begin (record (w.actors me) { passed = nodes }) in
        lists_moved e w me is k s a
        (record {
          places = refl;
          instance = refl;
          hands = λ b h. sym (ap (hand_sum b h) begin);
          names = λ f. omega (
            arith,
            names f,
            marks-with_rest e w.shared (λ i. of_mark f) me ms seat,
            ap (of_hand f) begin,
          );
          nodes = λ g. omega (
            arith,
            carriers g,
            marks-with_rest e w.shared (of_carrier_mark g) me ms seat,
            ap (of_carrier_hand g me) begin,
          );
          in_hand = tt;
          hand_laid = tt;
        })
        (unlinked_moved e w me seat k.unlinked s a (λ u. omega (
          arith,
          links u,
          marks-with_rest e w.shared (of_unlinked u) me ms seat,
          ap (of_link u) begin,
        )))

  module _ (why : Why) (gone : Gone) (node : Node) (to : ℕ) (there : to < seats e) where
    -- push: the node stands newest in the queue
    pub pushed_node : (w.actors me).stage ≡ Routed (Pushing node to) why gone
        → Moved e w me (effect me (Push node to) w.shared)
        (at (Routed (Linking node to) why gone) (w.actors me))
    unfolding effect
    pushed_node stage =
        let s = effect me (Push node to) w.shared in
        let a = at (Routed (Linking node to) why gone) (w.actors me) in
        lists_moved e w me is k s a
        (record {
          places = refl;
          instance = refl;
          hands = λ b h. sym (ap (hand_sum b h) stage);
          names = λ f. omega (
            arith,
            marks-push e w.shared (λ i. of_mark f) me to node there,
            ap (of_hand f) stage,
          );
          nodes = λ g. omega (
            arith,
            marks-push e w.shared (of_carrier_mark g) me to node there,
            ap (of_carrier_hand g me) stage,
          );
          in_hand = tt;
          hand_laid = tt;
        })
        (unlinked_moved e w me seat k.unlinked s a (λ u. omega (
          arith,
          marks-push e w.shared (of_unlinked u) me to node there,
          ap (of_link u) stage,
        )))

    -- link: the node that was pushed is linked
    pub linked_node : (w.actors me).stage ≡ Routed (Linking node to) why gone
        → unlinked_at node to w ≤ 1
        → Moved e w me (effect me (Link node to) w.shared) (at Begin (w.actors me))
    unfolding effect
    linked_node stage once =
        let s = effect me (Link node to) w.shared in
        let a = at Begin (w.actors me) in
        lists_moved e w me is k s a
        (record {
          places = refl;
          instance = refl;
          hands = λ b h. sym (ap (hand_sum b h) stage);
          names = λ f. omega (
            arith,
            marks-linked e w.shared (λ i. of_node f) me to node there,
            ap (of_hand f) stage,
          );
          nodes = λ g. omega (
            arith,
            marks-linked e w.shared (of_carrier_node g) me to node there,
            ap (of_carrier_hand g me) stage,
          );
          in_hand = tt;
          hand_laid = tt;
        })
        (link_unlinked e w me seat k.unlinked node to there (λ u. ap (of_link u) stage) a once
        (λ u. refl))

  -- a name stands once among those held, and among those given
  held_once : (n : ℕ) → times name_of n (w.actors me).held ≤ 1
  held_once n = omega (
    arith,
    k.names.balance (only n),
    k.names.once n,
    total-part (names_of (only n)) w.actors me (seats e) seat,
  )

  given_once : (n : ℕ) → times name_of n w.shared.given ≤ 1
  given_once n = omega (arith, k.names.balance (only n), k.names.once n)

  -- give: a held name is given away
  pub given_away : (given : Named) (to : ℕ) → (w.actors me).stage ≡ Giving given to
      → named_at given.name (w.actors me).held ≡ Some given
      → Moved e w me (effect me (Give given) w.shared)
      (at Begin (let_go given.name (w.actors me)))
  unfolding effect
  given_away given to stage held =
      let s = effect me (Give given) w.shared in
      let a = at Begin (let_go given.name (w.actors me)) in
      lists_moved e w me is k s a
      (record {
        places = refl;
        instance = refl;
        hands = λ b h. sym (ap (hand_sum b h) stage);
        names = λ f. omega (
          arith,
          sum-entered name_of (of_named f) given w.shared.given,
          sum-without name_of (of_named f) given.name given (w.actors me).held
              (held_once given.name) held,
          ap (of_hand f) stage,
        );
        nodes = λ g. omega (arith, ap (of_carrier_hand g me) stage);
        in_hand = tt;
        hand_laid = tt;
      })
      (unlinked_moved e w me seat k.unlinked s a (λ u. omega (arith, ap (of_link u) stage)))

  module _ (name tries left : ℕ) (stage : (w.actors me).stage ≡ Taking name tries left) where
    -- take: a given name is held
    pub took_name : (given : Named) → named_at name w.shared.given ≡ Some given
        → Moved e w me (effect me (TakeTry name) w.shared)
        (at Begin (holding name given.spot (w.actors me)))
    unfolding effect
    took_name given there =
        let s = effect me (TakeTry name) w.shared in
        let a = at Begin (holding name given.spot (w.actors me)) in
        lists_moved e w me is k s a
        (record {
          places = refl;
          instance = refl;
          hands = λ b h. sym (ap (hand_sum b h) stage);
          names = λ f. omega (
            arith,
            sum-entered name_of (of_named f) (record { name = name; spot = given.spot })
                (w.actors me).held,
            sum-without name_of (of_named f) name given w.shared.given (given_once name) there,
            ap (λ n. f n given.spot) (item_at-key name_of name given w.shared.given there),
            ap (of_hand f) stage,
          );
          nodes = λ g. omega (arith, ap (of_carrier_hand g me) stage);
          in_hand = tt;
          hand_laid = tt;
        })
        (unlinked_moved e w me seat k.unlinked s a (λ u. omega (arith, ap (of_link u) stage)))

    -- a name that isn't given stays where it is
    pub missed_name : named_at name w.shared.given ≡ None
        → Moved e w me (effect me (TakeTry name) w.shared) (at Begin (w.actors me))
    unfolding effect
    missed_name none =
        let s = effect me (TakeTry name) w.shared in
        let a = at Begin (w.actors me) in
        lists_moved e w me is k s a
        (record {
          places = refl;
          instance = refl;
          hands = λ b h. sym (ap (hand_sum b h) stage);
          names = λ f. omega (
            arith,
            ap (sum_over (of_named f)) (without-missing name_of name w.shared.given none),
            ap (of_hand f) stage,
          );
          nodes = λ g. omega (arith, ap (of_carrier_hand g me) stage);
          in_hand = tt;
          hand_laid = tt;
        })
        (unlinked_moved e w me seat k.unlinked s a (λ u. omega (arith, ap (of_link u) stage)))
