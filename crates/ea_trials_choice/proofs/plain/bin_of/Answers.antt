use Rattle.std.proofs.Common.{◌+◌, ap, ◌∙◌}
use Rattle.ea_model.proofs.Powers.{bin_of-small, bin_of-large}
use Rattle.ea_trials_choice.proofs.plain.bin_of.Goals as goal

pub returns-then-size-lt64 : goal.returns-then-size-lt64
returns-then-size-lt64 c = bin_of-small c.args.size c.if-size-lt64.true

pub returns : goal.returns
returns c =
    ap (λ n. 63 + n) c.powers_up_to.ensures.count
    ∙ bin_of-large c.args.size c.if-size-lt64.false
