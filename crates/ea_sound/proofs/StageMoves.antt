-- Moves between the begin and the stages of an operation.
use Rattle.std.proofs.Common.{◌≡◌, ◌≢◌, ℕ, true, refl, subst, arith}
use Rattle.ea_model.specs.Content.{Content}
use Rattle.ea_machine.specs.declared.stages.Stage.{Stage}
use Rattle.ea_machine.specs.declared.stages.Stage.TheVariants.{Begin, Routed, Collecting, Searching}
use Rattle.ea_machine.specs.declared.stages.Stage.TheVariants.{Fetching, Creating, Giving, Taking}
use Rattle.ea_machine.specs.declared.stages.Stage.TheVariants.{Ended, Ready}
use Rattle.ea_machine.specs.Actor.{Actor}
use Rattle.ea_sound.specs.Names.{of_content, only}
use Rattle.ea_machine.specs.Setup.{Setup, is_scheduler}
use Rattle.ea_machine.specs.Shared.{Shared}
use Rattle.ea_machine.specs.State.{State}
use Rattle.ea_machine.specs.Statistics.{informed, observed}
use Rattle.ea_sound.specs.Leaves.{InOperation, InWalk}
use Rattle.ea_sound.specs.Moments.{at}
use Rattle.ea_sound.proofs.Assembly.{ClosedWalk}
use Rattle.ea_sound.proofs.StillMoves.{SameHand, block-goes, carrier-goes, fresh-goes, goes-still}
use Rattle.ea_sound.proofs.StillMoves.{keeps-operation, keeps-walk, kept-still, next-goes}
use Rattle.ea_sound.proofs.StillMoves.{still-sum, still-turned, todo-later, turn}
use Rattle.ea_sound.proofs.Working.{HasNoHand}

-- nothing is in the hand
none-in-hand : (me : ℕ) (st : Stage Content) → HasNoHand st → SameHand me Begin st
none-in-hand me (Searching ask n part) h = record {
  content = λ f g. refl;
  holds = λ B E q. q;
  name = λ f. refl;
  link = λ u. refl;
  node = λ g. refl;
}
none-in-hand me (Fetching ask n part seen) h = record {
  content = λ f g. refl;
  holds = λ B E q. q;
  name = λ f. refl;
  link = λ u. refl;
  node = λ g. refl;
}
none-in-hand me (Creating ask p) h = record {
  content = λ f g. refl;
  holds = λ B E q. q;
  name = λ f. refl;
  link = λ u. refl;
  node = λ g. refl;
}
none-in-hand me (Giving x to) h = record {
  content = λ f g. refl;
  holds = λ B E q. q;
  name = λ f. refl;
  link = λ u. refl;
  node = λ g. refl;
}
none-in-hand me (Taking n tries left) h = record {
  content = λ f g. refl;
  holds = λ B E q. q;
  name = λ f. refl;
  link = λ u. refl;
  node = λ g. refl;
}
none-in-hand me Ended h = record {
  content = λ f g. refl;
  holds = λ B E q. q;
  name = λ f. refl;
  link = λ u. refl;
  node = λ g. refl;
}
none-in-hand me Begin h = absurd h
none-in-hand me (Routed r y g) h = absurd h
none-in-hand me (Collecting c) h = absurd h
none-in-hand me Ready h = absurd h

not-ready : (st : Stage Content) → HasNoHand st → st ≢ Ready
not-ready st h q = subst HasNoHand q h

module _ (e : Setup) (w : State) (s : Shared) (me : ℕ) (is : is_scheduler e me ≡ true) where
  abbrev G : Actor → Type 0
  G = InOperation e w s me

  abbrev V : Actor → Type 0
  V = InWalk e w s me

  pub rest-goes : (st : Stage Content) (a : Actor) → HasNoHand st → G (at Begin a) → G (at st a)
  rest-goes st a h = turn e w s me is G (keeps-operation e w s me is) Begin st a
      (none-in-hand me st h) (not-ready st h)

  pub inform-goes : (a : Actor) → G (at Begin a) → G (informed a)
  inform-goes a = goes-still e w s me is G (keeps-operation e w s me is) (at Begin a) (informed a)
      (record {
        instance = refl;
        hand = λ f g. refl;
        in_hand = λ B E q. q;
        names = λ f. refl;
        links = λ u. refl;
        nodes = λ g. refl;
      }) (todo-later a.todo) (λ q. absurd cc)

  pub observe-goes : (a : Actor) → G a → G (observed a)
  observe-goes a g = record {
    kept = kept-still e w s me is a (observed a) (record {
      instance = refl;
      hand = λ f g. refl;
      in_hand = λ B E q. q;
      names = λ f. refl;
      links = λ u. refl;
      nodes = λ g. refl;
    }) g.kept;
    busy = g.busy;
  }

  -- the begin is over, or the operation itself begins
  walk-turn : (st t : Stage Content) (a : Actor) → SameHand me st t → V (at st a) → V (at t a)
  walk-turn st t a same v =
      let still = still-turned me st t a same in
      fresh-goes e w s me is (at st a) (at t a)
      (λ n. omega (
        arith,
        still-sum me (at st a) (at t a) still (of_content (only n))
            (of_content (only n)),
      )) (λ n. omega arith) v
      (kept-still e w s me is (at st a) (at t a) still v.kept)

  pub closed-walk : ClosedWalk V
  closed-walk = record {
    block = block-goes e w s me is V (keeps-walk e w s me is);
    carrier = carrier-goes e w s me is V (keeps-walk e w s me is);
    next = next-goes e w s me is V (keeps-walk e w s me is);
    ready = λ a. walk-turn Begin Ready a (record {
      content = λ f g. refl;
      holds = λ B E q. q;
      name = λ f. refl;
      link = λ u. refl;
      node = λ g. refl;
    });
    begin = λ a. walk-turn Ready Begin a (record {
      content = λ f g. refl;
      holds = λ B E q. q;
      name = λ f. refl;
      link = λ u. refl;
      node = λ g. refl;
    });
  }
