-- Carriers where they are, as code finds them.
use Rattle.std.specs.Prelude.{ℕ, Option, Some}
use Rattle.ea_model.specs.Content.{Content}
use Rattle.ea_model.specs.Instance.{content_of, employed}
use Rattle.ea_machine.specs.Outcome.{Present}
use Rattle.ea_outcome.specs.declared.found.Found.{Found}
use Rattle.ea_outcome.specs.declared.found.Whose.{Whose}
use Rattle.ea_outcome.specs.declared.found.Whose.TheVariants.{Employer, Hand, Home}
use Rattle.ea_outcome.specs.Resting.{found}

-- the content of the carrier of that number, with whom it is
abbrev pub content_with : ℕ → Whose → Option Content
content_with number (Employer instance) = content_of (employed instance.now) number
content_with number (Hand carrier) = Some carrier.now
content_with number (Home carrier) = Some carrier.now

-- the carrier of that number
abbrev pub present_with : ℕ → Found → Option Present
present_with number f = found f.word f.employer (content_with number f.whose)
