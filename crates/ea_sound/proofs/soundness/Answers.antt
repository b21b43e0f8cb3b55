use Rattle.ea_sound.proofs.FewPassed.{passes-few}
use Rattle.ea_sound.proofs.Protocols.{always-protocol}
use Rattle.ea_sound.proofs.soundness.Goals as goal

pub returns : goal.returns
returns c = record { protocol = always-protocol; walks = passes-few }
