use Rattle.std.proofs.Common.{ap, ◌∙◌}
use Rattle.std.specs.Prelude.{map}
use Rattle.ea_model.specs.Lists.{Items}
use Rattle.ea_model.specs.Outcome.{plain_outcome}
use Rattle.ea_contents.specs.declared.access.AccessEntry.{AccessEntry}
use Rattle.ea_contents.proofs.Played.{outcome-told, shown-told}
use Rattle.ea_contents.proofs.playing.Play.outcome.Goals as goal

pub returns-clause-steps : goal.returns-clause-steps
returns-clause-steps c = outcome-told c.args.self (plain_outcome c.in_ok-outcome.outcome)
    c.in_ok-outcome.ensures

pub returns-clause-shown : goal.returns-clause-shown
returns-clause-shown c = λ d t ss m at.
    ap (map (λ (s : Items AccessEntry). s.items)) c.from_vec.ensures
    ∙ shown-told c.args.self d t ss m at
