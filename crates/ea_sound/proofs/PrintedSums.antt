-- The sums that are printed are those of soundness.
use Rattle.std.proofs.Common.{◌≡◌, ℕ, ◌+◌, ◌*◌, ◌∙◌, List, [], ◌∷◌, ◌++◌, length, map, get_or, refl}
use Rattle.std.proofs.Common.{ap, arith}
use Rattle.std.specs.Prelude.{Option, None, Some, flat_map, option_and_then, sum_by}
use Rattle.std.specs.List.{range_with_len}
use Rattle.std.proofs.Math.Path.{fun_ext}
use Rattle.ea_model.specs.declared.carriers.BlockAt.{BlockAt}
use Rattle.ea_model.specs.declared.carriers.Spot.{Spot}
use Rattle.ea_model.specs.Content.{Content, block_at, free_units, gaps_of, size_of}
use Rattle.ea_model.specs.Instance.{block_in, content_of}
use Rattle.ea_model.proofs.Rising.{item_at-key}
use Rattle.ea_laws.specs.Kept.{number_of}
use Rattle.ea_machine.specs.declared.nodes.Node.{Node}
use Rattle.ea_machine.specs.declared.nodes.Node.TheVariants.{Block, Carrier}
use Rattle.ea_machine.specs.declared.stages.Stage.{Stage}
use Rattle.ea_machine.specs.declared.stages.Stage.TheVariants.{Begin, Routed, Collecting, Searching}
use Rattle.ea_machine.specs.declared.stages.Stage.TheVariants.{Fetching, Creating, Giving, Taking}
use Rattle.ea_machine.specs.declared.stages.Stage.TheVariants.{Ended, Ready}
use Rattle.ea_machine.specs.declared.stages.Route.{Route}
use Rattle.ea_machine.specs.declared.stages.Route.TheVariants.{Looking, Trying, Settling}
use Rattle.ea_machine.specs.declared.stages.Route.TheVariants.{Abandoning, Sending, Clearing}
use Rattle.ea_machine.specs.declared.stages.Route.TheVariants.{Pushing, Linking}
use Rattle.ea_machine.specs.Actor.{Actor}
use Rattle.ea_sound.specs.Contents.{sum_everywhere}
use Rattle.ea_sound.specs.Names.{given, held, in_hands, of_hand, of_mark, of_named, of_node}
use Rattle.ea_sound.specs.Names.{of_route, queued, walked}
use Rattle.ea_machine.specs.Nodes.{Mark}
use Rattle.ea_machine.specs.declared.nodes.Named.{Named}
use Rattle.ea_machine.specs.Outcome.{block_of, hand_at, hand_on, live_spots, marked, present}
use Rattle.ea_machine.specs.Outcome.{queued_spots, units_at}
use Rattle.ea_sound.specs.Places.{has_number}
use Rattle.ea_machine.specs.Setup.{Setup}
use Rattle.ea_machine.specs.State.{State}
use Rattle.ea_machine.specs.Sums.{sum_over}
use Rattle.ea_sound.specs.Sound.{HasNothing}
use Rattle.ea_sound.specs.Units.{PrintsSums, size_in}
use Rattle.ea_sound.specs.Present.{Rule}
use Rattle.ea_sound.specs.Rule.{Kept}
use Rattle.ea_sound.proofs.KeyedWeights.{sum-missing, sum-only}
use Rattle.ea_sound.proofs.Printed.{printed-all}
use Rattle.ea_sound.proofs.Ranged.{sum-flat, total-range}
use Rattle.ea_sound.proofs.SoundOwners.{number-once}
use Rattle.ea_sound.proofs.SoundUnits.{size-here, size-of}
use Rattle.ea_sound.proofs.Weights.{sum-append, sum-both, sum-map, sum-same, sum_by-sum_over}

-- what is given for spots, whatever their names
module _ (f : Spot → ℕ) where
  abbrev pub at_spot : ℕ → Spot → ℕ
  at_spot n p = f p

  node-spot : (node : Node) → sum_over f (block_of node) ≡ of_node at_spot node
  node-spot (Block name p) = omega arith
  node-spot (Carrier number) = refl

  marked-spots : (ms : List Mark) → sum_over f (marked ms) ≡ sum_over (of_mark at_spot) ms
  marked-spots ms = sum-flat f (λ (m : Mark). block_of m.node) ms
      ∙ sum-same (λ (m : Mark). sum_over f (block_of m.node)) (of_mark at_spot) ms
      (λ i d within. node-spot _)

  node-spots : (nodes : List Node)
      → sum_over f (flat_map block_of nodes) ≡ sum_over (of_node at_spot) nodes
  node-spots nodes = sum-flat f block_of nodes
      ∙ sum-same (λ node. sum_over f (block_of node)) (of_node at_spot) nodes
      (λ i d within. node-spot _)

  route-spots : (r : Route Content) → sum_over f (hand_on r) ≡ of_route at_spot r
  route-spots (Looking hand) = omega arith
  route-spots (Trying hand seen) = omega arith
  route-spots (Settling x) = refl
  route-spots (Abandoning x) = refl
  route-spots (Sending x) = refl
  route-spots (Clearing x) = refl
  route-spots (Pushing node to) = node-spot node
  route-spots (Linking node to) = refl

  hand-spots : (s : Stage Content) → sum_over f (hand_at s) ≡ of_hand at_spot s
  hand-spots Begin = refl
  hand-spots (Routed r why gone) = route-spots r
  hand-spots (Collecting number) = refl
  hand-spots (Searching ask at part) = refl
  hand-spots (Fetching ask at part seen) = refl
  hand-spots (Creating ask p) = refl
  hand-spots (Giving given to) = refl
  hand-spots (Taking name tries left) = refl
  hand-spots Ended = refl
  hand-spots Ready = refl

  module _ (e : Setup) (w : State) (nobody : HasNothing 0 w) where
    abbrev seated : List ℕ
    seated = range_with_len 1 e.schedulers

    abbrev held_by : Actor → ℕ
    held_by a = sum_over (of_named at_spot) a.held

    live-sum : sum_over f (live_spots e w) ≡ held e at_spot w + given at_spot w
    live-sum =
        let spots : Actor → List Spot = λ a. map (λ n. n.spot) a.held in
        omega (
          arith,
          sum-append f (flat_map spots (map (λ i. w.actors i) seated))
              (map (λ (n : Named). n.spot) w.shared.given),
          sum-flat f spots (map (λ i. w.actors i) seated),
          sum-map (λ a. sum_over f (spots a)) (λ i. w.actors i) seated,
          sum-same (λ i. sum_over f (spots (w.actors i))) (λ i. held_by (w.actors i)) seated
              (λ i d within. sum-map f (λ (n : Named). n.spot) _),
          total-range held_by w.actors e.schedulers,
          ap (sum_over (of_named at_spot)) nobody.held,
          sum-map f (λ (n : Named). n.spot) w.shared.given,
        )

    abbrev with_instance : ℕ → List Spot
    with_instance i = marked (w.shared.queues i) ++ marked (w.shared.rests i)

    abbrev with_actor : Actor → List Spot
    with_actor a = flat_map block_of a.passed ++ hand_at a.stage

    instance-spots : (i : ℕ) → sum_over f (with_instance i)
        ≡ sum_over (of_mark at_spot) (w.shared.queues i)
        + sum_over (of_mark at_spot) (w.shared.rests i)
    instance-spots i = omega (
      arith,
      sum-append f (marked (w.shared.queues i)) (marked (w.shared.rests i)),
      marked-spots (w.shared.queues i),
      marked-spots (w.shared.rests i),
    )

    actor-spots : (a : Actor) → sum_over f (with_actor a)
        ≡ sum_over (of_node at_spot) a.passed + of_hand at_spot a.stage
    actor-spots a = omega (
      arith,
      sum-append f (flat_map block_of a.passed) (hand_at a.stage),
      node-spots a.passed,
      hand-spots a.stage,
    )

    queued-sum : sum_over f (queued_spots e w)
        ≡ queued e at_spot w + walked e at_spot w + in_hands e at_spot w
    queued-sum =
        let marks : List Mark → ℕ = sum_over (of_mark at_spot) in
        let passed : Actor → ℕ = λ a. sum_over (of_node at_spot) a.passed in
        let hand : Actor → ℕ = λ a. of_hand at_spot a.stage in
        omega (
          arith,
          sum-append f (flat_map with_instance seated)
              (flat_map with_actor (map (λ i. w.actors i) seated)),
          sum-flat f with_instance seated,
          sum-flat f with_actor (map (λ i. w.actors i) seated),
          sum-map (λ a. sum_over f (with_actor a)) (λ i. w.actors i) seated,
          sum-same (λ i. sum_over f (with_instance i))
              (λ i. marks (w.shared.queues i) + marks (w.shared.rests i)) seated
              (λ i d within. instance-spots _),
          sum-both (λ i. marks (w.shared.queues i)) (λ i. marks (w.shared.rests i)) seated,
          sum-same (λ i. sum_over f (with_actor (w.actors i)))
              (λ i. passed (w.actors i) + hand (w.actors i)) seated
              (λ i d within. actor-spots (w.actors (get_or seated i d))),
          sum-both (λ i. passed (w.actors i)) (λ i. hand (w.actors i)) seated,
          total-range marks w.shared.queues e.schedulers,
          total-range marks w.shared.rests e.schedulers,
          total-range passed w.actors e.schedulers,
          total-range hand w.actors e.schedulers,
          ap marks nobody.queue,
          ap marks nobody.rest,
          ap (sum_over (of_node at_spot)) nobody.passed,
          ap (of_hand at_spot) nobody.stage,
        )

eight-each : (xs : List Content) → 8 * length xs ≡ sum_over (λ x. 8) xs
eight-each [] = refl
eight-each (x ∷ xs) = omega (arith, eight-each xs)

module _ (e : Setup) (w : State) (rule : Rule e w) where
  k : Kept e w
  k = rule.kept

  abbrev printed : List Content
  printed = map (λ p. p.content) (present e w)

  abbrev block_by : Spot → Option Content → Option BlockAt
  block_by p o = option_and_then (λ c. block_at c.blocks p.offset) o

  -- the units of the block at a spot
  block-printed : (p : Spot) → size_of (block_in printed p) ≡ sum_everywhere e (size_in p) w
  block-printed p = by (content_of printed p.carrier) refl where
    by : (o : Option Content) → content_of printed p.carrier ≡ o
        → size_of (block_in printed p) ≡ sum_everywhere e (size_in p) w
    by None missing = omega (
      arith,
      ap (λ o. size_of (block_by p o)) missing,
      printed-all e w k (size_in p),
      sum-missing number_of (size_in p) p.carrier printed (size-of p) missing,
    )
    by (Some x) there = omega (
      arith,
      ap (λ o. size_of (block_by p o)) there,
      printed-all e w k (size_in p),
      sum-only number_of (size_in p) p.carrier x printed (size-of p)
          (omega (arith, printed-all e w k (has_number p.carrier), number-once e w k p.carrier))
          there,
      size-here x.number p.carrier (size_of (block_at x.blocks p.offset))
          (item_at-key number_of p.carrier x printed there),
    )

  zero : HasNothing 0 w
  zero = rule.present.nobody 0 refl

  units-printed : (spots : List Spot)
      → units_at printed spots ≡ sum_over (λ p. sum_everywhere e (size_in p) w) spots
  units-printed spots = ap (λ (f : Spot → ℕ). sum_by f spots) (fun_ext block-printed)
      ∙ sum_by-sum_over (λ p. sum_everywhere e (size_in p) w) spots

  all-printed : (f : Content → ℕ) → sum_by f printed ≡ sum_everywhere e f w
  all-printed f = sum_by-sum_over f printed ∙ printed-all e w k f

  pub prints-sums : PrintsSums e w
  prints-sums = record {
    live = units-printed (live_spots e w)
        ∙ live-sum (λ p. sum_everywhere e (size_in p) w) e w zero;
    queued = units-printed (queued_spots e w)
        ∙ queued-sum (λ p. sum_everywhere e (size_in p) w) e w zero;
    free = all-printed (λ x. free_units (gaps_of x));
    header = eight-each printed ∙ printed-all e w k (λ x. 8);
    units = all-printed (λ x. x.units);
  }
