-- The text and the open group that code keeps, for those of a front (`Shows`).
use Rattle.std.specs.Prelude.{◌≡◌, ℕ, List, [], Option, IfSome, option_map}
use Rattle.ea_machine.specs.Setup.{Setup}
use Rattle.ea_steps.specs.declared.groups.Group as code
use Rattle.ea_steps.specs.Fronts.{Front}
use Rattle.ea_steps.specs.Groups.{Group}
use Rattle.ea_steps.specs.Printed.{code_of}
use Rattle.ea_steps.specs.Text.{changes_text}

-- the steps of the group are of one scheduler
abbrev pub IsOfOne : Group → Type 0
IsOfOne g = g.last.scheduler ≡ g.first.scheduler

-- an open group, whose last step did nothing that a line tells
pub record IsOpen (setup : Setup) (g : Group) : Type 0 where
  pub quiet : changes_text setup g.last ≡ []
  pub of_one : IsOfOne g

-- they are the text and the open group of the front
pub record Shows (setup : Setup) (f : Front) (text : List ℕ) (last : Option code.Group)
    : Type 0 where
  pub text_is : text ≡ f.text
  pub open_is : last ≡ option_map code_of f.last_group
  pub waits : IfSome f.last_group (IsOpen setup)
