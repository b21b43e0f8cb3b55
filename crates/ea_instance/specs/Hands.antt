-- A carrier in a scheduler's hand: its content and its kind.
use Rattle.std.specs.Prelude.{◌≡◌}
use Rattle.ea_model.specs.declared.carriers.Kind.TheVariants as kind
use Rattle.ea_model.specs.Content.{Content}
use Rattle.ea_instance.specs.declared.held.Part.{Part}
use Rattle.ea_instance.specs.declared.held.Part.TheVariants.{Multi, Single}

-- its content
abbrev pub content_in : Part → Content
content_in (Multi carrier) = carrier
content_in (Single carrier) = carrier

-- it is of its kind
abbrev pub IsOfKind : Part → Type 0
IsOfKind (Multi carrier) = carrier.kind ≡ kind.Multi
IsOfKind (Single carrier) = carrier.kind ≡ kind.Single
