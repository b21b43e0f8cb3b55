use Rattle.std.proofs.Common.{◌≡◌, None, refl, sym, subst}
use Rattle.ea_machine.specs.Nodes.{spot_named}
use Rattle.ea_machine.specs.Shared.{Shared}
use Rattle.ea_machine.specs.Table.{effect}
use Rattle.ea_trials_schedulers.proofs.Following.{after-row}
use Rattle.ea_trials_schedulers.proofs.shared.a_given_name_is_taken_once.Goals as goal

pub give-requires-clause-fresh : goal.give-requires-clause-fresh
unfolding effect
give-requires-clause-fresh g c =
    subst (λ (s : Shared). spot_named 3 s.given ≡ None)
    (sym (after-row c.in_ok-shared.ensures.nothing c.take_try.ensures.row.shared)) refl
