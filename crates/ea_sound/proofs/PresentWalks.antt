-- Where the begin of an operation leaves a scheduler, and all its work up to its next row.
use Rattle.std.proofs.Common.{◌≡◌, ◌≢◌, ℕ, List, [], ◌∷◌, refl, sym, ◌∙◌, subst}
use Rattle.ea_model.specs.declared.operations.Op.{Op}
use Rattle.ea_model.specs.Content.{Content}
use Rattle.ea_machine.specs.declared.nodes.Node.{Node}
use Rattle.ea_machine.specs.declared.nodes.Node.TheVariants.{Block, Carrier}
use Rattle.ea_machine.specs.declared.stages.Stage.{Stage}
use Rattle.ea_machine.specs.declared.stages.Stage.TheVariants.{Begin, Routed, Collecting, Searching}
use Rattle.ea_machine.specs.declared.stages.Stage.TheVariants.{Fetching, Creating, Giving, Taking}
use Rattle.ea_machine.specs.declared.stages.Stage.TheVariants.{Ended, Ready}
use Rattle.ea_machine.specs.Actor.{Actor}
use Rattle.ea_machine.specs.declared.tasks.Why.{Why}
use Rattle.ea_machine.specs.declared.tasks.Why.TheVariants.{Walk, For}
use Rattle.ea_machine.specs.declared.tasks.Gone.{Gone}
use Rattle.ea_sound.specs.Contents.{hand_sum}
use Rattle.ea_machine.specs.Machine.{onward, onward_at}
use Rattle.ea_sound.specs.Names.{unplaced, unplaced_by}
use Rattle.ea_machine.specs.declared.nodes.Named.{Named}
use Rattle.ea_machine.specs.Releases.{route_of}
use Rattle.ea_machine.specs.Setup.{Setup}
use Rattle.ea_machine.specs.Shared.{Shared}
use Rattle.ea_machine.specs.Statistics.{observed}
use Rattle.ea_machine.specs.Walks.{after_route, ready, worked_off}
use Rattle.ea_sound.specs.Present.{OfWhy}
use Rattle.ea_sound.specs.Rule.{Standing}
use Rattle.ea_sound.proofs.FewBlocks.{Counting, blocks_named}
use Rattle.ea_sound.proofs.PresentMoves.{carried-good, task-good}
use Rattle.ea_sound.proofs.PresentOperations.{itself-good}
use Rattle.ea_sound.proofs.ReleaseRoutes.{route-good}
use Rattle.ea_sound.proofs.Suits.{Bare, CoreOf, Good, Suits}

-- a scheduler that is ready has its instance in order
abbrev pub InOrder : Setup → ℕ → Actor → Type 0
InOrder e me a = Standing e me a.instance

-- none is ready
abbrev pub Never : Actor → Type 0
Never a = ⊥

module _ (e : Setup) (s : Shared) (me : ℕ) (home bound : Counting → ℕ) where
  -- where a row leaves a scheduler, which may be ready
  abbrev pub GoodAfterRow : Actor → Type 0
  GoodAfterRow a = Good e s me home bound (InOrder e me) a

  -- where a step leaves it
  abbrev pub GoodAfter : Actor → Type 0
  GoodAfter a = Good e s me home bound Never a

  abbrev IsBare : List Op → Actor → Type 0
  IsBare left a = Bare e s me home bound left a

  -- the begin of an operation
  pub ready-good : (a : Actor) → IsBare a.todo a → GoodAfterRow (ready a)
  ready-good a b = record { core = b.core; suits = b.own }

  with_passed : (ns : List Node) (a : Actor) → IsBare a.todo a
      → IsBare a.todo (record a { passed = ns })
  with_passed ns a b = record { core = b.core; own = b.own }

  pub work-good : (ns : List Node) (a : Actor) → IsBare a.todo a
      → GoodAfterRow (worked_off e me ns a)
  work-good [] a b = ready-good (record a { passed = [] }) (with_passed [] a b)
  work-good (Carrier c ∷ ns) a b = record { core = b.core; suits = tt }
  work-good (Block n p ∷ ns) a b =
      let h : Named = record { name = n; spot = p } in
      let t = route_of e me h (record a { passed = ns }) in
      carried-good e s me home bound (InOrder e me) Walk (λ g c. worked_off e me ns c) t.gone
      t.actor t.route
      (route-good e s me home bound Walk h (record a { passed = ns }) (with_passed ns a b) tt)
      (λ g c k w. work-good ns c k)

  pub route_over-good : (y : Why) (g : Gone) (a : Actor) → IsBare (unplaced_by y a.todo) a
      → OfWhy y a.todo → GoodAfterRow (after_route e me y g a)
  route_over-good Walk g a b why = work-good a.passed a b
  route_over-good (For task) g a b why = task-good e s me home bound (InOrder e me) task g a b why

  -- once the begin is over, the operation follows
  still-suits : (a : Actor) (st : Stage Content) → st ≢ Ready → Suits e s me (InOrder e me) a st
      → Suits e s me Never a st
  still-suits a Begin n q = q
  still-suits a (Routed r y g) n q = q
  still-suits a (Collecting c) n q = q
  still-suits a (Searching ask at part) n q = q
  still-suits a (Fetching ask at part seen) n q = q
  still-suits a (Creating ask p) n q = q
  still-suits a (Giving h to) n q = q
  still-suits a (Taking name tries left) n q = q
  still-suits a Ended n q = q
  still-suits a Ready n q = absurd (n refl)

  still-good : (a : Actor) (st : Stage Content) → a.stage ≡ st → st ≢ Ready → GoodAfterRow a
      → GoodAfter a
  still-good a st q n g = record {
    core = g.core;
    suits = still-suits a a.stage (λ r. n (sym q ∙ r)) g.suits;
  }

  ready-bare : (a : Actor) → a.stage ≡ Ready → GoodAfterRow a → IsBare a.todo a
  ready-bare a q g = record {
    core = subst
        (λ st. CoreOf e s me home bound (unplaced st a.todo)
        (λ n. hand_sum (blocks_named n) (blocks_named n) st) a) q g.core;
    own = subst (Suits e s me (InOrder e me) a) q g.suits;
  }

  onward-good : (a : Actor) (st : Stage Content) → a.stage ≡ st → GoodAfterRow a
      → GoodAfter (onward_at e me a st)
  onward-good a Ready q g = itself-good e s me home bound Never a a.todo refl (ready-bare a q g)
  onward-good a Begin q g = still-good a Begin q (λ r. cc) g
  onward-good a (Routed r y h) q g = still-good a (Routed r y h) q (λ r. cc) g
  onward-good a (Collecting c) q g = still-good a (Collecting c) q (λ r. cc) g
  onward-good a (Searching ask at part) q g =
      still-good a (Searching ask at part) q (λ r. cc) g
  onward-good a (Fetching ask at part seen) q g =
      still-good a (Fetching ask at part seen) q (λ r. cc) g
  onward-good a (Creating ask p) q g = still-good a (Creating ask p) q (λ r. cc) g
  onward-good a (Giving h to) q g = still-good a (Giving h to) q (λ r. cc) g
  onward-good a (Taking name tries left) q g = still-good a (Taking name tries left) q (λ r. cc) g
  onward-good a Ended q g = still-good a Ended q (λ r. cc) g

  -- the figures don't matter
  observed-suits : (a : Actor) (st : Stage Content) → Suits e s me Never a st
      → Suits e s me Never (observed a) st
  observed-suits a Begin q = q
  observed-suits a (Routed r y g) q = q
  observed-suits a (Collecting c) q = q
  observed-suits a (Searching ask at part) q = q
  observed-suits a (Fetching ask at part seen) q = q
  observed-suits a (Creating ask p) q = q
  observed-suits a (Giving h to) q = q
  observed-suits a (Taking name tries left) q = q
  observed-suits a Ended q = q
  observed-suits a Ready q = q

  pub after-good : (a : Actor) → GoodAfterRow a → GoodAfter (observed (onward e me a))
  after-good a g =
      let b = onward-good a a.stage refl g in
      record {
        core = b.core;
        suits = observed-suits (onward e me a) (onward e me a).stage b.suits;
      }
