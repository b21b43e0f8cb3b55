-- What a link tells a walk (`told_by`).
use Rattle.std.specs.Prelude.{None, Some}
use Rattle.ea_machine.specs.Rows.{Answer, Passes, Rests}
use Rattle.ea_shared.specs.declared.link.Link.{Link}
use Rattle.ea_shared.specs.declared.link.Link.TheVariants.{Rest, End, Next}

-- what a walk is told by the link of its next node
abbrev pub told_by : Link → Answer
told_by Rest = Rests
told_by End = Passes None
told_by (Next node) = Passes (Some node)
