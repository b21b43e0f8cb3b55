-- What is noted of a step before it: the blocks of names, one after another, and of which names, by
-- what is told of the step's row and of its answer.
use Rattle.std.proofs.Common.{◌≡◌, ℕ, Bool, true, false, List, [], ◌∷◌, ◌++◌}
use Rattle.std.proofs.Common.{refl, sym, ap, ◌∙◌, subst, arith}
use Rattle.std.specs.Prelude.{Option, None, Some, filter, flat_map, is_some, option_map}
use Rattle.std.specs.Prelude.{if◌then◌else◌}
use Rattle.std.specs.Option.{option_and_then}
use Rattle.std.proofs.lemmas.Grind.{flat_map-append}
use Rattle.std.proofs.lemmas.List.{append-nil, append_assoc, map-append}
use Rattle.std.proofs.lemmas.List.Elements.{filter-append}
use Rattle.ea_model.specs.declared.carriers.Block.{Block}
use Rattle.ea_model.specs.declared.carriers.BlockAt.{BlockAt}
use Rattle.ea_model.specs.declared.carriers.CarrierLine.{CarrierLine}
use Rattle.ea_model.specs.declared.carriers.Spot.{Spot}
use Rattle.ea_model.specs.declared.operations.Op.{Op}
use Rattle.ea_model.specs.Content.{Content, block_at, named}
use Rattle.ea_model.specs.Keyed.{item_at}
use Rattle.ea_model.proofs.Rising.{item_at-key}
use Rattle.ea_machine.specs.declared.nodes.Named.{Named}
use Rattle.ea_machine.specs.declared.nodes.Node.{Node}
use Rattle.ea_machine.specs.declared.stages.Route.{Route}
use Rattle.ea_machine.specs.declared.stages.Route.TheVariants.{Looking, Trying, Settling}
use Rattle.ea_machine.specs.declared.stages.Route.TheVariants.{Abandoning, Sending, Clearing}
use Rattle.ea_machine.specs.declared.stages.Route.TheVariants.{Pushing, Linking}
use Rattle.ea_machine.specs.declared.stages.Stage.{Stage}
use Rattle.ea_machine.specs.declared.stages.Stage.TheVariants.{Begin, Routed, Collecting}
use Rattle.ea_machine.specs.declared.stages.Stage.TheVariants.{Searching, Fetching, Creating}
use Rattle.ea_machine.specs.declared.stages.Stage.TheVariants.{Giving, Taking, Ended, Ready}
use Rattle.ea_machine.specs.declared.tasks.Gone.{Gone}
use Rattle.ea_machine.specs.declared.tasks.Why.{Why}
use Rattle.ea_machine.specs.declared.tasks.Why.TheVariants.{Walk, For}
use Rattle.ea_machine.specs.Actor.{Actor, on_route}
use Rattle.ea_machine.specs.Machine.{wants_at}
use Rattle.ea_machine.specs.Nodes.{first_node, named_at, spot_named}
use Rattle.ea_machine.specs.Outcome.{Present, line_of, present}
use Rattle.ea_machine.specs.Rows.{Answer, Passes, Rests, Row}
use Rattle.ea_machine.specs.Rows as rows
use Rattle.ea_machine.specs.Setup.{Setup}
use Rattle.ea_machine.specs.Shared.{Shared}
use Rattle.ea_machine.specs.State.{State}
use Rattle.ea_machine.specs.Table.{answer, link_answer, link_read}
use Rattle.ea_machine.specs.Nodes.{Mark}
use Rattle.ea_sched.specs.Wants as wants
use Rattle.ea_sched.specs.Wants.{first_op, hand_at, is_last_at, row_told, wanted_of}
use Rattle.ea_given.specs.Heard.{heard_of}
use Rattle.ea_steps.specs.declared.placed.PlacedBlock.{PlacedBlock}
use Rattle.ea_steps.specs.declared.touched.Touched.{Touched}
use Rattle.ea_steps.specs.Found.{block_there, placed_at}
use Rattle.ea_steps.specs.FoundCarriers.{carrier_there, first_number}
use Rattle.ea_steps.specs.Noting.{Adds, AddsNames, clears_told, creates_told, is_present}
use Rattle.ea_steps.specs.Noting.{names_told, of_walk}
use Rattle.ea_steps.specs.Touched.{as_list, at_begin, at_stage, block_of, blocks_of, carriers_of}
use Rattle.ea_steps.specs.Touched.{cleared_by, created_by, first_freed, freed_by, hand_on}
use Rattle.ea_steps.specs.Touched.{of_operation}

-- one list after another
after-both : {A : Type 0} (xs ys zs ps qs : List A) → ys ≡ xs ++ ps → zs ≡ ys ++ qs
    → zs ≡ xs ++ (ps ++ qs)
after-both xs ys zs ps qs first second =
    second ∙ ap (λ us. us ++ qs) first ∙ append_assoc xs ps qs

module _ (setup : Setup) (w : State) where
  abbrev found : Named → List PlacedBlock
  found n = as_list (placed_at setup w n)

  pub adds-none : (t : Touched) → Adds setup w [] [] t t
  adds-none t = record {
    blocks = sym (append-nil t.blocks.items);
    carriers = sym (append-nil t.carriers.items);
  }

  pub adds-more : (ns ms : List Named) (xs ys : List ℕ) (t u v : Touched)
      → Adds setup w ns xs t u → Adds setup w ms ys u v → Adds setup w (ns ++ ms) (xs ++ ys) t v
  adds-more ns ms xs ys t u v first second = record {
    blocks = after-both t.blocks.items u.blocks.items v.blocks.items (flat_map found ns)
        (flat_map found ms) first.blocks second.blocks
        ∙ ap (λ us. t.blocks.items ++ us) (sym (flat_map-append found ns ms));
    carriers = after-both t.carriers.items u.carriers.items v.carriers.items
        (filter (is_present setup w) xs) (filter (is_present setup w) ys) first.carriers
        second.carriers
        ∙ ap (λ us. t.carriers.items ++ us) (sym (filter-append (is_present setup w) xs ys));
  }

  pub names-more : (ns ms : List Named) (t u v : Touched) → AddsNames setup w ns t u
      → AddsNames setup w ms u v → AddsNames setup w (ns ++ ms) t v
  names-more ns ms t u v first second = subst (λ xs. Adds setup w (ns ++ ms) xs t v)
      (sym (map-append (λ (n : Named). n.spot.carrier) ns ms))
      (adds-more ns ms (carriers_of ns) (carriers_of ms) t u v first second)

  pub names-same : (ns ms : List Named) (t u : Touched) → ns ≡ ms → AddsNames setup w ns t u
      → AddsNames setup w ms t u
  names-same ns ms t u same adds = subst (λ xs. AddsNames setup w xs t u) same adds

  -- the blocks of one node more
  pub nodes-more : (nodes : List Node) (node : Node) (t u v : Touched)
      → AddsNames setup w (blocks_of nodes) t u → AddsNames setup w (block_of node) u v
      → AddsNames setup w (blocks_of (nodes ++ node ∷ [])) t v
  nodes-more nodes node t u v first second = names-same (blocks_of nodes ++ block_of node)
      (blocks_of (nodes ++ node ∷ [])) t v
      (ap (λ ns. blocks_of nodes ++ ns) (sym (append-nil (block_of node)))
      ∙ sym (flat_map-append block_of nodes (node ∷ [])))
      (names-more (blocks_of nodes) (block_of node) t u v first second)

  -- whether a carrier is there
  line-there : (o : Option Present) → is_some (option_map line_of o) ≡ is_some o
  line-there None = refl
  line-there (Some p) = refl

  number-if : (number : ℕ) (b : Bool) → is_present setup w number ≡ b
      → filter (is_present setup w) (number ∷ []) ≡ as_list (if b then Some number else None)
  number-if number true there = grind (arith, there)
  number-if number false there = grind (arith, there)

  pub carrier-if : (number : ℕ) (o : Option CarrierLine) (b : Bool)
      → o ≡ option_map line_of (carrier_there setup w number) → is_some o ≡ b
      → filter (is_present setup w) (number ∷ []) ≡ as_list (if b then Some number else None)
  carrier-if number o b is told = number-if number b
      (sym (line-there (carrier_there setup w number))
      ∙ ap (λ (x : Option CarrierLine). is_some x) (sym is) ∙ told)

  -- a block that begins at a spot has its offset
  there-offset : (p : Spot) (b : BlockAt) → block_there setup w p ≡ Some b → b.offset ≡ p.offset
  there-offset p b there =
      by (item_at (λ (x : Present). x.content.number) (present setup w) p.carrier) there where
        by : (o : Option Present)
            → option_and_then (λ x. block_at x.content.blocks p.offset) o ≡ Some b
            → b.offset ≡ p.offset
        by None at = absurd cc
        by (Some x) at = item_at-key (λ (y : BlockAt). y.offset) p.offset b x.content.blocks at

  -- the block that is told of a spot
  abbrev told_at : Spot → Block → PlacedBlock
  told_at p there = record {
    carrier = p.carrier;
    block = record { name = there.name; offset = p.offset; size = there.size };
  }

  pub placed-told : (n : Named) (there : Block)
      → Some there ≡ option_map named (block_there setup w n.spot)
      → as_list (placed_at setup w n) ≡ told_at n.spot there ∷ []
  placed-told n there is = by (block_there setup w n.spot) refl is where
    by : (o : Option BlockAt) → block_there setup w n.spot ≡ o
        → Some there ≡ option_map named o
        → as_list (option_map (λ b. record { carrier = n.spot.carrier; block = b }) o)
        ≡ told_at n.spot there ∷ []
    by None at told = absurd cc
    by (Some b) at told = let same : there ≡ named b = cc in
        let name : there.name ≡ b.name = ap (λ (x : Block). x.name) same in
        let size : there.size ≡ b.size = ap (λ (x : Block). x.size) same in
        let c = n.spot.carrier in
        let o = n.spot.offset in
        sym (ap (λ m. record {
          carrier = c;
          block = record { name = m; offset = o; size = there.size };
        } ∷ []) name
        ∙ ap (λ m. record {
          carrier = c;
          block = record { name = b.name; offset = o; size = m };
        } ∷ []) size
        ∙ ap (λ m. record {
          carrier = c;
          block = record { name = b.name; offset = m; size = b.size };
        } ∷ []) (sym (there-offset n.spot b at)))

  pub placed-none : (n : Named) → None ≡ option_map named (block_there setup w n.spot)
      → as_list (placed_at setup w n) ≡ []
  placed-none n is = by (block_there setup w n.spot) is where
    by : (o : Option BlockAt) → None ≡ option_map named o
        → as_list {A = PlacedBlock}
        (option_map (λ b. record { carrier = n.spot.carrier; block = b }) o) ≡ []
    by None none = refl
    by (Some b) none = absurd cc

-- the name of the present operation
pub freed-some : (op : Op) (ops : List Op) → Some op ≡ first_op ops → freed_by op ≡ first_freed ops
freed-some op [] is = absurd cc
freed-some op (o ∷ ops) is = let same : op ≡ o = cc in ap freed_by same

pub freed-none : (ops : List Op) → None ≡ first_op ops → [] ≡ first_freed ops
freed-none [] is = refl
freed-none (o ∷ ops) is = absurd cc

-- the block of a name that is held
named-held : (name : ℕ) (spot : Spot) (held : List Named) (o : Option Named)
    → named_at name held ≡ o → Some spot ≡ option_map (λ n. n.spot) o
    → as_list o ≡ record { name = name; spot = spot } ∷ []
named-held name spot held None at is = absurd cc
named-held name spot held (Some h) at is = let same : spot ≡ h.spot = cc in
    let p = h.spot in
    sym (ap (λ s. record { name = name; spot = s } ∷ []) same
    ∙ ap (λ m. record { name = m; spot = p } ∷ [])
    (sym (item_at-key (λ (n : Named). n.name) name h held at)))

pub operation-held : (a : Actor) (name : ℕ) (spot : Spot)
    → name ∷ [] ≡ first_freed a.todo → Some spot ≡ spot_named name a.held
    → record { name = name; spot = spot } ∷ [] ≡ of_operation a
operation-held a name spot first is =
    sym (named-held name spot a.held (named_at name a.held) refl is)
    ∙ sym (append-nil (as_list (named_at name a.held)))
    ∙ ap (flat_map (λ m. as_list (named_at m a.held))) first

-- the block in the hand, whose carrier may go with it
hand-route : (route : Route Content) → as_list (wants.hand_on route) ≡ hand_on route
hand-route (Looking hand) = refl
hand-route (Trying hand seen) = refl
hand-route (Settling x) = refl
hand-route (Abandoning x) = refl
hand-route (Sending x) = refl
hand-route (Clearing x) = refl
hand-route (Pushing node to) = refl
hand-route (Linking node to) = refl

pub hand-told : (stage : Stage Content) → as_list (hand_at stage) ≡ on_route [] hand_on stage
hand-told Begin = refl
hand-told (Routed route why gone) = hand-route route
hand-told (Collecting number) = refl
hand-told (Searching ask at part) = refl
hand-told (Fetching ask at part seen) = refl
hand-told (Creating ask p) = refl
hand-told (Giving given to) = refl
hand-told (Taking name tries left) = refl
hand-told Ended = refl
hand-told Ready = refl

-- the carriers that a row deallocates and creates
module _ (me : ℕ) (next : Option Node) (last : Bool) where
  pub row-clears : (row : Row) → clears_told (row_told me next last row) ≡ cleared_by row
  row-clears rows.TakeAll = refl
  row-clears rows.TakeLink = by next where
    by : (next : Option Node) → clears_told (row_told me next last rows.TakeLink) ≡ []
    by None = refl
    by (Some node) = refl
  row-clears (rows.Look number) = refl
  row-clears (rows.Push node to) = refl
  row-clears (rows.Link node to) = refl
  row-clears (rows.BusyTry number seen) = refl
  row-clears (rows.Settle x) = refl
  row-clears (rows.Abandon x) = refl
  row-clears (rows.FetchTry number seen) = refl
  row-clears (rows.Create number) = refl
  row-clears (rows.SendHome x) = refl
  row-clears (rows.Clear number) = refl
  row-clears (rows.Give given) = refl
  row-clears (rows.TakeTry name) = refl
  row-clears rows.Nothing = refl

  pub row-creates : (row : Row)
      → creates_told (row_told me next last row) ≡ first_number (created_by row)
  row-creates rows.TakeAll = refl
  row-creates rows.TakeLink = by next where
    by : (next : Option Node) → creates_told (row_told me next last rows.TakeLink) ≡ None
    by None = refl
    by (Some node) = refl
  row-creates (rows.Look number) = refl
  row-creates (rows.Push node to) = refl
  row-creates (rows.Link node to) = refl
  row-creates (rows.BusyTry number seen) = refl
  row-creates (rows.Settle x) = refl
  row-creates (rows.Abandon x) = refl
  row-creates (rows.FetchTry number seen) = refl
  row-creates (rows.Create number) = refl
  row-creates (rows.SendHome x) = refl
  row-creates (rows.Clear number) = refl
  row-creates (rows.Give given) = refl
  row-creates (rows.TakeTry name) = refl
  row-creates rows.Nothing = refl

-- the blocks that a step may release if carriers don't migrate
module _ (me : ℕ) (s : Shared) (a : Actor) where
  abbrev told_names : Option Node → Stage Content → List Named
  told_names next stage =
      names_told (record a { next = next; stage = stage })
      (row_told me next (is_last_at stage) (wants_at next stage))
      (heard_of (answer me (wants_at next stage) s))

  abbrev real_names : Option Node → Stage Content → List Named
  real_names next stage = at_stage (record a { next = next; stage = stage })
      (answer me (wants_at next stage) s) stage

  by-newest : (newest : Option Node) → names_told (record a { next = None; stage = Begin })
      (row_told me None false rows.TakeAll) (heard_of (rows.Head newest))
      ≡ at_begin (record a { next = None; stage = Begin }) (rows.Head newest)
  by-newest None = refl
  by-newest (Some node) = refl

  by-older : (node : Node) (older : Option Node)
      → names_told (record a { next = Some node; stage = Begin })
      (row_told me (Some node) false rows.TakeLink) (heard_of (Passes older))
      ≡ at_begin (record a { next = Some node; stage = Begin }) (Passes older)
  by-older node None = sym (append_assoc (blocks_of (node ∷ [])) (blocks_of a.passed)
      (of_operation a))
      ∙ ap (λ ns. ns ++ of_operation a)
      (sym (flat_map-append block_of (node ∷ []) a.passed))
  by-older node (Some older) = refl

  by-link : (node : Node) (marks : List Mark)
      → names_told (record a { next = Some node; stage = Begin })
      (row_told me (Some node) false rows.TakeLink) (heard_of (link_answer marks))
      ≡ at_begin (record a { next = Some node; stage = Begin }) (link_answer marks)
  by-link node [] = by-older node None
  by-link node (m ∷ ms) = by m.linked where
    by : (linked : Bool) → names_told (record a { next = Some node; stage = Begin })
        (row_told me (Some node) false rows.TakeLink) (heard_of (link_read linked ms))
        ≡ at_begin (record a { next = Some node; stage = Begin }) (link_read linked ms)
    by true = by-older node (first_node ms)
    by false = refl

  by-begin : (next : Option Node) → told_names next Begin ≡ real_names next Begin
  unfolding answer
  by-begin None = by-newest (first_node (s.queues me))
  by-begin (Some node) = by-link node (s.rests me)

  by-route : (next : Option Node) (route : Route Content) (why : Why) (gone : Gone)
      → told_names next (Routed route why gone) ≡ real_names next (Routed route why gone)
  by-route next (Looking hand) why gone = refl
  by-route next (Trying hand seen) why gone = refl
  by-route next (Settling x) why gone = refl
  by-route next (Abandoning x) why gone = refl
  by-route next (Sending x) why gone = refl
  by-route next (Clearing x) why gone = refl
  by-route next (Pushing node to) why gone = refl
  by-route next (Linking node to) Walk gone = refl
  by-route next (Linking node to) (For task) gone = refl

  by-stage : (next : Option Node) (stage : Stage Content)
      → told_names next stage ≡ real_names next stage
  by-stage next Begin = by-begin next
  by-stage next (Routed route why gone) = by-route next route why gone
  by-stage next (Collecting number) = refl
  by-stage next (Searching ask at part) = refl
  by-stage next (Fetching ask at part seen) = refl
  by-stage next (Creating ask p) = refl
  by-stage next (Giving given to) = refl
  by-stage next (Taking name tries left) = refl
  by-stage next Ended = refl
  by-stage next Ready = refl

  pub names-told : names_told a (wanted_of me a) (heard_of (answer me (wants_at a.next a.stage) s))
      ≡ at_stage a (answer me (wants_at a.next a.stage) s) a.stage
  names-told = by-stage a.next a.stage

-- a node and all that its walk passed
pub node-walk : (a : Actor) (node : Node)
    → block_of node ++ of_walk a ≡ blocks_of (node ∷ []) ++ of_walk a
node-walk a node = ap (λ ns. ns ++ of_walk a) (sym (append-nil (block_of node)))
