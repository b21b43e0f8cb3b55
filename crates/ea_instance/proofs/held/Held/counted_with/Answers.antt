use Rattle.std.proofs.Common.{◌+◌, refl, ap, ◌∙◌}
use Rattle.ea_instance.proofs.HandFigures.{figures-with_one}
use Rattle.ea_instance.proofs.held.Held.counted_with.Goals as goal

pub returns : goal.returns
returns c cs is = figures-with_one c.args.self.now cs c.args.others _ is
    (ap (λ n. c.args.others.blocks + n) (c.from-blocks.ensures ∙ c.len.ensures))
    (ap (λ n. c.args.others.blocks_size + n) (c.from-size.ensures ∙ c.allocated.ensures))
    refl
    (ap (λ n. c.args.others.carriers_size + n) (c.from-units.ensures ∙ c.units.ensures))
