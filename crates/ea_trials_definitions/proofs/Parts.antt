-- What a worked search saw, in the list of own carriers and in the pool.
use Rattle.std.proofs.Common.{◌≡◌, refl, ap, ◌∷◌, codes, arith}
use Rattle.std.specs.Prelude.{Option, None, Some, option_map}
use Rattle.ea_model.specs.Instance.{unused_from}
use Rattle.ea_machine.specs.declared.owners.OwnerWord.TheVariants as word
use Rattle.ea_machine.specs.Setup.{Setup}
use Rattle.ea_machine.specs.Table.{answer, effect}
use Rattle.ea_machine.specs.Machine.{after, step_at}
use Rattle.ea_sound.specs.Exhausted.{seen_since}
use Rattle.ea_sound.specs.Searches.{Shown}
use Rattle.ea_trials_definitions.specs.Moments.{Moment}
use Rattle.ea_trials_definitions.specs.Courses.{turns}
use Rattle.ea_trials_definitions.specs.Entries.{absent_from}
use Rattle.ea_trials_definitions.proofs.Setups.{large_setup}

pub own-and-pool : seen_since large_setup (turns (codes "1*1030")) 1 (turns (codes "1*5"))
    ≡ Shown 1 (word.Pooled 1 32728) ∷ Shown 1 (word.Pooled 1 32728) ∷ absent_from 1024 3
unfolding unused_from answer effect after step_at
own-and-pool = refl

-- what is so under a setup is so of the moment that has it
pub of-setup : {X : Type 0} (f : Setup → X) (setup : Setup) (moment : Option Moment)
    → option_map (λ m. m.setup) moment ≡ Some setup
    → option_map (λ m. f m.setup) moment ≡ Some (f setup)
of-setup f setup None q = grind (arith, q)
of-setup f setup (Some m) q = ap (option_map f) q
