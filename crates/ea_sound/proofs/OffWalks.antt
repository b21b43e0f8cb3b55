-- A walk where carriers don't migrate: what it passed are blocks; one whose carrier the scheduler
-- owns lies there, as does each block that it holds in such a carrier; and this stays so from node
-- to node.
use Rattle.std.proofs.Common.{◌≡◌, ℕ, ◌<◌, ◌≤◌, true, false, List, ◌∷◌, refl, sym, ap, ◌∙◌}
use Rattle.std.proofs.Common.{subst, inr, arith}
use Rattle.std.specs.Prelude.{All, Option, None, Some, IsSome}
use Rattle.std.specs.Option.{option_and_then}
use Rattle.std.proofs.lemmas.Bool.{true≢false}
use Rattle.ea_model.specs.declared.carriers.BlockAt.{BlockAt}
use Rattle.ea_model.specs.declared.carriers.Spot.{Spot}
use Rattle.ea_model.specs.declared.settings.Config.{Config}
use Rattle.ea_model.specs.declared.trace.Trace.{Trace}
use Rattle.ea_model.specs.Content.{Content, block_at}
use Rattle.ea_model.specs.Instance.{block_in, content_of, employed, own_at, own_of}
use Rattle.ea_model.specs.Instance.{owner_of}
use Rattle.ea_model.specs.Settings.{IsValidConfig}
use Rattle.ea_model.specs.Trace.{IsScheduler, IsValidTrace}
use Rattle.ea_model.proofs.Merged.{merged-All}
use Rattle.ea_model.proofs.Rising.{item_at-All, item_at-key}
use Rattle.ea_laws.specs.Kept.{number_of}
use Rattle.ea_machine.specs.Searches.{passed}
use Rattle.ea_machine.specs.declared.nodes.Named.{Named}
use Rattle.ea_machine.specs.declared.nodes.Node.{Node}
use Rattle.ea_machine.specs.declared.nodes.Node.TheVariants.{Block, Carrier}
use Rattle.ea_machine.specs.declared.tasks.Gone.{Gone}
use Rattle.ea_machine.specs.declared.tasks.Why.TheVariants.{Walk}
use Rattle.ea_machine.specs.declared.stages.Stage.TheVariants.{Begin}
use Rattle.ea_machine.specs.declared.stages.Route.{Route}
use Rattle.ea_machine.specs.Actor.{Actor}
use Rattle.ea_machine.specs.Machine.{IsReached, begins}
use Rattle.ea_machine.specs.Nodes.{named_at}
use Rattle.ea_machine.specs.Releases.{Turned, route_of}
use Rattle.ea_machine.specs.Rows.{Answer, Passes, Rests, TakeAll, TakeLink}
use Rattle.ea_machine.specs.Setup.{Setup, is_scheduler, migration, setup_of}
use Rattle.ea_machine.specs.Shared.{Shared}
use Rattle.ea_machine.specs.State.{State}
use Rattle.ea_machine.specs.Sums.{sum_over}
use Rattle.ea_machine.specs.Table.{answer, effect}
use Rattle.ea_machine.specs.Walks.{with_passed}
use Rattle.ea_sound.specs.Contents.{seats}
use Rattle.ea_sound.specs.Names.{of_node, only_at}
use Rattle.ea_sound.specs.NodePlaces.{anywhere, of_carrier_actor, of_carrier_node}
use Rattle.ea_sound.specs.Places.{none}
use Rattle.ea_sound.specs.Leaves.{InWalk, Leaves}
use Rattle.ea_sound.specs.Moments.{at, with_actor}
use Rattle.ea_sound.specs.Present.{Rule}
use Rattle.ea_sound.specs.Rule.{Belongs, names_of}
use Rattle.ea_sound.proofs.Asked.{reached-rule}
use Rattle.ea_sound.proofs.Assembly.{Closed, HoldsAt, route-holds}
use Rattle.ea_sound.proofs.BlockWeights.{only_at-itself}
use Rattle.ea_sound.proofs.CarrierMoves.{closed}
use Rattle.ea_sound.proofs.Hits.{held-stands, hit}
use Rattle.ea_sound.proofs.NodeSeats.{node-returning, returning-on}
use Rattle.ea_sound.proofs.Numbered.{scheduler-seat}
use Rattle.ea_sound.proofs.OwnEntries.{owner-has, somewhere-found}
use Rattle.ea_sound.proofs.RowLeaves.{row-left}
use Rattle.ea_sound.proofs.SoundRanges.{number-scheduler}
use Rattle.ea_sound.proofs.StageMoves.{closed-walk}
use Rattle.ea_sound.proofs.StillMoves.{goes-still, keeps-walk}
use Rattle.ea_sound.proofs.Totals.{put-here, total_at-part}
use Rattle.ea_sound.proofs.Weights.{one-itself}

-- a block that was passed stands with the scheduler
passed-stands : (n : ℕ) (p : Spot) (ns : List Node) (a : Actor) → a.passed ≡ Block n p ∷ ns
    → 1 ≤ names_of (only_at n p) (at Begin a)
passed-stands n p ns a passed =
    omega (arith, ap (sum_over (of_node (only_at n p))) passed, only_at-itself n p)

module _ (e : Setup) (v : State) (s : Shared) (me : ℕ) (is : is_scheduler e me ≡ true)
    (off : migration e ≡ false) where
  abbrev V : Actor → Type 0
  V = InWalk e v s me

  seat : me < seats e
  seat = scheduler-seat e me is

  closes : Closed e s me V
  closes = closed e v s me is V (keeps-walk e v s me is)

  module _ (a : Actor) (walks : InWalk e v s me (at Begin a)) where
    abbrev u : State
    u = with_actor v s me (at Begin a)

    now : u.actors me ≡ at Begin a
    now = put-here v.actors me (at Begin a) me refl

    -- a content that the scheduler employs belongs to it
    found-belongs : (n : ℕ) (x : Content) → content_of (employed a.instance) n ≡ Some x
        → Belongs e me x
    found-belongs n x found = item_at-All number_of (Belongs e me) n x (employed a.instance)
        (merged-All number_of (Belongs e me) a.instance.contents a.instance.singles
        (subst (λ (b : Actor). All (Belongs e me) b.instance.contents) now
        (walks.kept.ranges.contents me))
        (subst (λ (b : Actor). All (Belongs e me) b.instance.singles) now
        (walks.kept.ranges.singles me))) found

    -- the block of a name that stands with the scheduler lies there, where it owns the carrier
    stands-here : (n : ℕ) (p : Spot) → 1 ≤ names_of (only_at n p) (at Begin a)
        → owner_of p.carrier ≡ me
        → (b : BlockAt) × (block_in (employed a.instance) p ≡ Some b) × (b.name ≡ n)
    stands-here n p stands owned =
        let (x, found, (b, at, named)) = hit e u me seat walks.kept (at Begin a) now n p
        (inr (off, owned)) stands refl in
        (b, ap (option_and_then (λ (z : Content). block_at z.blocks p.offset)) found ∙ at, named)

    -- and the scheduler's instance owns that carrier
    stands-own : (n : ℕ) (p : Spot) → 1 ≤ names_of (only_at n p) (at Begin a)
        → owner_of p.carrier ≡ me → IsSome (own_at a.instance.own p.carrier)
    stands-own n p stands owned =
        let (x, found, block) = hit e u me seat walks.kept (at Begin a) now n p
        (inr (off, owned)) stands refl in
        let number : x.number ≡ p.carrier = item_at-key number_of p.carrier x
        (employed a.instance) found in
        let there = subst (λ (b : Actor). content_of (employed b.instance) p.carrier ≡ Some x)
        (sym now) found in
        let owner : x.owner ≡ me = (found-belongs p.carrier x found).owner ∙ ap owner_of number
        ∙ owned in
        let has = owner-has e u walks.kept x
        (somewhere-found e u walks.kept p.carrier x me there) in
        let mine : own_at a.instance.own x.number ≡ Some (own_of x) =
        subst (λ (b : Actor). own_at b.instance.own x.number ≡ Some (own_of x))
        (ap u.actors owner ∙ now) has in
        subst IsSome (sym (ap (own_at a.instance.own) (sym number) ∙ mine)) refl

    -- the block that is passed last
    module _ (n : ℕ) (p : Spot) (ns : List Node) (passed : a.passed ≡ Block n p ∷ ns) where
      pub passed-here : owner_of p.carrier ≡ me → IsSome (block_in (employed a.instance) p)
      passed-here owned =
          let block = stands-here n p (passed-stands n p ns a passed) owned in
          subst IsSome (sym block.1) refl

      pub passed-own : owner_of p.carrier ≡ me → IsSome (own_at a.instance.own p.carrier)
      passed-own owned = stands-own n p (passed-stands n p ns a passed) owned

    -- no carrier is passed
    pub passed-carrier : (c : ℕ) (ns : List Node) → a.passed ≡ Carrier c ∷ ns → ⊥
    passed-carrier c ns passed =
        let r = node-returning e u walks.kept c (omega (
          arith,
          ap (sum_over (of_carrier_node (anywhere c) me)) passed,
          one-itself c,
          ap (of_carrier_actor (anywhere c) me) now,
          total_at-part (of_carrier_actor (anywhere c)) u.actors me (seats e) seat,
        )) in
        true≢false (sym (returning-on e u walks.kept c r.0 r.1 r.2) ∙ off)

    -- a block that is held
    module _ (n : ℕ) (x : Named) (held : named_at n a.held ≡ Some x) where
      pub walk-here : owner_of x.spot.carrier ≡ me → IsSome (block_in (employed a.instance) x.spot)
      walk-here owned =
          let block = stands-here x.name x.spot (held-stands n x (at Begin a) held) owned in
          subst IsSome (sym block.1) refl

      pub walk-own : owner_of x.spot.carrier ≡ me → IsSome (own_at a.instance.own x.spot.carrier)
      walk-own owned = stands-own x.name x.spot (held-stands n x (at Begin a) held) owned

  -- a block goes its route: where that is over the walk goes on with the other nodes
  module _ (n : ℕ) (p : Spot) (ns : List Node) (a : Actor)
      (walks : InWalk e v s me (at Begin (record a { passed = Block n p ∷ ns }))) where
    abbrev hand : Named
    hand = record { name = n; spot = p }

    abbrev turn : Turned
    turn = route_of e me hand (record a { passed = ns })

    on-by : (gone : Gone) (b : Actor) (route : Option (Route Content))
        → HoldsAt e v s me V closes Walk gone b route
        → route ≡ None → V (at Begin b)
    on-by gone b None holds over = holds
    on-by gone b (Some r) holds over = absurd cc

    pub walk-on : (route_of e me (record { name = n; spot = p }) (record a { passed = ns })).route
        ≡ None
        → InWalk e v s me (at Begin
        (route_of e me (record { name = n; spot = p }) (record a { passed = ns })).actor)
    walk-on over = on-by turn.gone turn.actor turn.route
        (route-holds e v s me V closes hand Walk
        (record a { passed = ns }) ((closed-walk e v s me is).block hand ns a walks)).0 over

    -- where it isn't over the other blocks are where they were: as if the scheduler held the one
    pub walk-held : InWalk e v s me (at Begin
        (record a { held = record { name = n; spot = p } ∷ a.held; passed = ns }))
    walk-held = goes-still e v s me is V (keeps-walk e v s me is)
        (at Begin (record a { passed = Block n p ∷ ns }))
        (at Begin (record a { held = hand ∷ a.held; passed = ns })) (record {
          instance = refl;
          hand = λ f g. refl;
          in_hand = λ B E q. q;
          names = λ f. omega arith;
          links = λ u. refl;
          nodes = λ g. omega arith;
        }) (λ m. omega arith) (λ q. absurd cc) walks

-- where a walk stands after a row of a scheduler in a reached state
module _ (c : Config) (t : Trace) (valid : IsValidConfig c)
    (made : IsValidTrace c.schedulers t) (w : State) (reached : IsReached (setup_of c t) w) (me : ℕ)
    (number : IsScheduler c.schedulers me) where
  abbrev e : Setup
  e = setup_of c t

  abbrev a : Actor
  a = w.actors me

  is : is_scheduler e me ≡ true
  is = number-scheduler e me number

  rule : Rule e w
  rule = reached-rule c t valid made w reached

  begin-leaves : a.stage ≡ Begin → (next : Option Node) → a.next ≡ next
      → (r : Answer) → answer me (begins next) w.shared ≡ r
      → Leaves e w (effect me (begins next) w.shared) me a Begin r
  begin-leaves now next same r is_answer = subst
      (Leaves e w (effect me (begins next) w.shared) me a Begin) is_answer
      (subst (λ o. Leaves e w (effect me (begins o) w.shared) me a Begin
      (answer me (begins o) w.shared)) same (row-left e w me is rule Begin (λ z. cc) now))

  -- the queue was taken
  pub take_all-walks : a.stage ≡ Begin → a.next ≡ None
      → InWalk e w (effect me TakeAll w.shared) me (at Begin a)
  unfolding answer
  take_all-walks now none = begin-leaves now None none (answer me TakeAll w.shared) refl

  -- the next node isn't linked
  pub take_link-rests : (node : Node) → a.stage ≡ Begin → a.next ≡ Some node
      → answer me TakeLink w.shared ≡ Rests
      → InWalk e w (effect me TakeLink w.shared) me (at Begin a)
  take_link-rests node now next rests = begin-leaves now (Some node) next Rests rests

  -- it was passed
  pub take_link-passes : (node : Node) (older : Option Node) → a.stage ≡ Begin
      → a.next ≡ Some node → answer me TakeLink w.shared ≡ Passes older
      → InWalk e w (effect me TakeLink w.shared) me
      (at Begin (record a { passed = with_passed a.next a.passed }))
  take_link-passes node older now next passes =
      begin-leaves now (Some node) next (Passes older) passes
