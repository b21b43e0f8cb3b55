-- Nodes that a walk passed are worked off, where carriers don't migrate.
use Rattle.std.proofs.Common.{◌≡◌, ℕ, Bool, true, false, List, [], ◌∷◌, refl, sym, ap, subst, ◌∙◌}
use Rattle.std.specs.Prelude.{Option, None, Some, ◌==◌}
use Rattle.ea_model.specs.declared.carriers.Spot.{Spot}
use Rattle.ea_model.specs.Instance.{Instance, owner_of}
use Rattle.ea_machine.specs.declared.nodes.Named.{Named}
use Rattle.ea_machine.specs.declared.nodes.Node.{Node}
use Rattle.ea_machine.specs.declared.nodes.Node.TheVariants.{Block, Carrier}
use Rattle.ea_machine.specs.declared.tasks.Why.TheVariants.{Walk}
use Rattle.ea_machine.specs.Actor.{Actor}
use Rattle.ea_machine.specs.Setup.{Setup, migration}
use Rattle.ea_machine.specs.Walks.{ready, worked_off}
use Rattle.ea_sound.specs.Releasing.{freed_at}
use Rattle.ea_sound.specs.Walking.{CanAllGo, Worked, left_if, sent, worked, worked_if}
use Rattle.ea_sound.proofs.Freed.{released-away, released-here}

-- where the nodes leave a scheduler: ready, or with a block that goes to its carrier's owner
abbrev pub walked_by : Option Named → Worked → Actor → Actor
walked_by None w a = ready (record a { instance = w.instance; passed = [] })
walked_by (Some hand) w a = sent hand Walk (record a { instance = w.instance; passed = w.left })

abbrev pub walked : Worked → Actor → Actor
walked w a = walked_by w.hand w a

-- what the nodes leave doesn't depend on the instance and the nodes before
same-walked : (o : Option Named) (w : Worked) (a : Actor) (i : Instance) (nodes : List Node)
    → walked_by o w (record a { instance = i; passed = nodes }) ≡ walked_by o w a
same-walked None w a i nodes = refl
same-walked (Some hand) w a i nodes = refl

-- the first of the nodes
module _ (setup : Setup) (me : ℕ) (off : migration setup ≡ false) (name : ℕ) (spot : Spot)
    (nodes : List Node) (a : Actor)
    (can : CanAllGo me a.instance (Block name spot ∷ nodes)) where
  abbrev hand : Named
  hand = record { name = name; spot = spot }

  abbrev rest : Actor
  rest = record a { passed = nodes }

  first-walked : (own : Bool) → (owner_of spot.carrier == me) ≡ own
      → ((b : Actor) → CanAllGo me b.instance nodes
      → worked_off setup me nodes b ≡ walked (worked me b.instance nodes) b)
      → worked_off setup me (Block name spot ∷ nodes) a
      ≡ walked (worked_if own (worked me (freed_at a.instance spot) nodes)
      (record { instance = a.instance; left = nodes; hand = Some hand })) a
  first-walked true is later =
      let then : CanAllGo me (freed_at a.instance spot) nodes =
      subst (λ own. CanAllGo me (left_if own a.instance spot) nodes) is can.1 in
      released-here setup me off Walk (λ gone b. worked_off setup me nodes b) (λ b. refl) rest hand
      is
      ∙ later (record rest { instance = freed_at a.instance spot }) then
      ∙ same-walked (worked me (freed_at a.instance spot) nodes).hand
      (worked me (freed_at a.instance spot) nodes) a (freed_at a.instance spot) nodes
  first-walked false is later =
      released-away setup me off Walk (λ gone b. worked_off setup me nodes b) (λ b. refl) rest hand
      is

-- all of them
walked-off : (setup : Setup) (me : ℕ) → migration setup ≡ false → (nodes : List Node)
    (a : Actor) → CanAllGo me a.instance nodes
    → worked_off setup me nodes a ≡ walked (worked me a.instance nodes) a
walked-off setup me off [] a can = refl
walked-off setup me off (Block name spot ∷ nodes) a can =
    first-walked setup me off name spot nodes a can (owner_of spot.carrier == me) refl
    (λ b c. walked-off setup me off nodes b c)
walked-off setup me off (Carrier number ∷ nodes) a can = absurd can

-- where the first node doesn't go to another scheduler
none-if : (own : Bool) (later : Worked) (i : Instance) (nodes : List Node) (x : Named)
    → (own ≡ true → later.hand ≡ None → later.left ≡ [])
    → (worked_if own later (record { instance = i; left = nodes; hand = Some x })).hand ≡ None
    → (worked_if own later (record { instance = i; left = nodes; hand = Some x })).left ≡ []
none-if true later i nodes x none e = none refl e
none-if false later i nodes x none e = absurd cc

-- no node is left where no block goes to another scheduler
none-left : (me : ℕ) (nodes : List Node) (i : Instance) → CanAllGo me i nodes
    → (worked me i nodes).hand ≡ None → (worked me i nodes).left ≡ []
none-left me [] i can e = refl
none-left me (Block name spot ∷ nodes) i can e =
    none-if (owner_of spot.carrier == me) (worked me (freed_at i spot) nodes) i nodes
    (record { name = name; spot = spot })
    (λ own none. none-left me nodes (freed_at i spot)
    (subst (λ own. CanAllGo me (left_if own i spot) nodes) own can.1) none) e
none-left me (Carrier number ∷ nodes) i can e = absurd can

-- the walk of a scheduler comes to an end, or to a block that goes to its carrier's owner
module _ (setup : Setup) (me : ℕ) (off : migration setup ≡ false) (a : Actor) (nodes : List Node)
    (can : CanAllGo me a.instance nodes) (i : Instance) (left : List Node) where
  pub walked-none : record { instance = i; left = left; hand = None } ≡ worked me a.instance nodes
      → ready (record a { instance = i; passed = left }) ≡ worked_off setup me nodes a
  walked-none e =
      ap (λ ns. ready (record a { instance = i; passed = ns })) (ap (λ (w : Worked). w.left) e
      ∙ none-left me nodes a.instance can (ap (λ (w : Worked). w.hand) (sym e)))
      ∙ ap (λ w. walked w a) e ∙ sym (walked-off setup me off nodes a can)

  pub walked-some : (x : Named)
      → record { instance = i; left = left; hand = Some x } ≡ worked me a.instance nodes
      → sent x Walk (record a { instance = i; passed = left }) ≡ worked_off setup me nodes a
  walked-some x e = ap (λ w. walked w a) e ∙ sym (walked-off setup me off nodes a can)
