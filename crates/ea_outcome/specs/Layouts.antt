-- The layouts of all carriers of a state.
use Rattle.std.specs.Prelude.{◌≡◌, ℕ, Bool, List, [], ◌∷◌, Option, None, Some, flat_map, map}
use Rattle.std.specs.List.{range_with_len}
use Rattle.ea_model.specs.declared.settings.Config.{Config}
use Rattle.ea_model.specs.declared.trace.Trace.{Trace}
use Rattle.ea_model.specs.Lists.{Items}
use Rattle.ea_machine.specs.declared.nodes.Named.{Named}
use Rattle.ea_machine.specs.Machine.{run}
use Rattle.ea_machine.specs.Outcome.{Present, present}
use Rattle.ea_machine.specs.Owners.{CarrierAt}
use Rattle.ea_machine.specs.Setup.{Setup, setup_of}
use Rattle.ea_machine.specs.State.{State}
use Rattle.ea_instance.specs.declared.layouts.Layout.{Layout}
use Rattle.ea_instance.specs.Layouts.{layout_of, plain_layout}
use Rattle.ea_sched.specs.declared.state.Scheduler.{Scheduler}
use Rattle.ea_outcome.specs.Resting.{StandIn, carrier_of}

-- those of all carriers that are there, by number, wherever they are
abbrev pub layouts_in : Setup → State → List Layout
layouts_in setup w = map (λ p. layout_of p.content) (present setup w)

-- the layout of a carrier as a list of at most one
abbrev pub layouts_if : Option Present → List Layout
layouts_if None = []
layouts_if (Some p) = layout_of p.content ∷ []

-- those of the carriers of the first numbers, with schedulers that share these places
abbrev pub first_layouts : Bool → (ℕ → CarrierAt) → List Scheduler → ℕ → List Layout
first_layouts migrates places schedulers n =
    flat_map (λ number. layouts_if (carrier_of migrates places schedulers number))
    (range_with_len 1 n)

module _ (c : Config) (t : Trace) (schedulers : List Scheduler) (places : ℕ → CarrierAt)
    (named : List Named) where
  -- they are those of the state after all turns after which these stand so
  abbrev pub AreLayouts : Items Layout → Type 0
  AreLayouts layouts = (turns : List ℕ) → StandIn c t schedulers places named turns
      → map plain_layout layouts.items ≡ layouts_in (setup_of c t) (run (setup_of c t) turns)
