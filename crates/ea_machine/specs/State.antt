-- The state of a run. It is what is shared, and each scheduler.
-- A content is in one place: with the instance that employs its carrier; at home beside the word of
-- a pooled or returning one; or in a hand. It is in the hand from the moment that its last block is
-- released, or that it is found due, until the row that clears it, sends it home or abandons it;
-- the figures of its scheduler count it until then. From a won busy-try until the row that settles
-- it, it is in the hand, and nobody's figures count it. A carrier that is fetched or created is
-- counted from that step on; with migration off, from the step that planned it.
-- Source: Erlang/OTP, 'Delayed Dealloc', section 'Functionality Used to Address This problem': one
-- lock-free instance for each scheduler, and its queue. The rest is this simulator's own.
use Rattle.std.specs.Prelude.{ℕ}
use Rattle.ea_machine.specs.Shared.{Shared}
use Rattle.ea_machine.specs.Actor.{Actor}

-- what schedulers share, and each scheduler by its number
pub record State : Type 0 where
  pub shared : Shared
  pub actors : ℕ → Actor
