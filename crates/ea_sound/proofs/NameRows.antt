-- The names that stand stay those of the blocks, where what is shared and a scheduler change alike.
use Rattle.std.proofs.Common.{◌≡◌, ℕ, ◌+◌, ◌<◌, ◌≤◌, arith}
use Rattle.ea_model.specs.declared.carriers.Spot.{Spot}
use Rattle.ea_machine.specs.Actor.{Actor}
use Rattle.ea_sound.specs.Contents.{home_sum, seats, slots}
use Rattle.ea_sound.specs.Names.{allocated, of_content, of_mark, of_named, only}
use Rattle.ea_machine.specs.Setup.{Setup}
use Rattle.ea_machine.specs.Shared.{Shared}
use Rattle.ea_machine.specs.State.{State}
use Rattle.ea_machine.specs.Sums.{sum_over, total}
use Rattle.ea_sound.specs.Moments.{with_actor}
use Rattle.ea_sound.specs.Rule.{Names, blocks_of, names_of}
use Rattle.ea_sound.proofs.MarkRows.{marks}
use Rattle.ea_sound.proofs.Totals.{total-put}

-- the names that stand with no scheduler, and the blocks at home
abbrev pub names_outside : Setup → (ℕ → Spot → ℕ) → Shared → ℕ
names_outside e f s = marks e (λ i. of_mark f) s + sum_over (of_named f) s.given

abbrev pub blocks_at_home : Setup → (ℕ → Spot → ℕ) → Shared → ℕ
blocks_at_home e f s = total (slots e) (home_sum (of_content f)) s.places

-- no name has more blocks than before
abbrev pub NoMore : Setup → State → State → Type 0
NoMore e v w = (n : ℕ) → allocated e (only n) v ≤ allocated e (only n) w

module _ (e : Setup) (w : State) (me : ℕ) (seat : me < seats e) (s : Shared) (a : Actor) where
  pub no_more : ((n : ℕ) → blocks_of (only n) a + blocks_at_home e (only n) s
      ≤ blocks_of (only n) (w.actors me) + blocks_at_home e (only n) w.shared)
      → NoMore e (with_actor w s me a) w
  no_more less n =
      omega (arith, less n, total-put (blocks_of (only n)) w.actors me a (seats e) seat)

  pub names_moved : Names e w
      → ((f : ℕ → Spot → ℕ) → names_of f a + names_outside e f s
      + (blocks_of f (w.actors me) + blocks_at_home e f w.shared)
      ≡ names_of f (w.actors me) + names_outside e f w.shared
      + (blocks_of f a + blocks_at_home e f s))
      → ((n : ℕ) → allocated e (only n) (with_actor w s me a) ≤ 1)
      → Names e (with_actor w s me a)
  names_moved h level once = record {
    balance = λ f. omega (
      arith,
      level f,
      h.balance f,
      total-put (names_of f) w.actors me a (seats e) seat,
      total-put (blocks_of f) w.actors me a (seats e) seat,
    );
    once = once;
  }
