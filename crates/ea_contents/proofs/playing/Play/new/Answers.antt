use Rattle.ea_contents.proofs.Played.{first-stands}
use Rattle.ea_contents.proofs.playing.Play.new.Goals as goal

pub returns : goal.returns
returns c = first-stands c.args.config c.args.input.now.trace c.args.input.now.sections.items _
    c.as_slice.ensures c.requires.sections c.requires.rising c.in_ok-shown.ensures
    c.in_ok-session.ensures.stands
