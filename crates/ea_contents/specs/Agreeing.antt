-- When a memory agrees with the model, and that it goes on to agree (`KeepsAgreement`).
use Rattle.std.specs.Prelude.{◌≡◌, ℕ, ◌+◌, ◌*◌, ◌<◌, ◌≤◌, List, [], ◌∷◌, ◌++◌, Option, None, Some}
use Rattle.std.specs.Prelude.{length, slice_set}
use Rattle.ea_model.specs.declared.carriers.Extent.{Extent}
use Rattle.ea_model.specs.declared.settings.Config.{Config}
use Rattle.ea_model.specs.declared.trace.Trace.{Trace}
use Rattle.ea_model.specs.declared.units.TheConstants.{PAGE_UNITS}
use Rattle.ea_model.specs.Settings.{IsValidConfig}
use Rattle.ea_model.specs.Trace.{IsValidTrace}
use Rattle.ea_machine.specs.Machine.{run}
use Rattle.ea_machine.specs.Setup.{Setup, setup_of}
use Rattle.ea_machine.specs.State.{State}
use Rattle.ea_sound.specs.Over.{LiesOver}
use Rattle.ea_contents.specs.Memory.{fitted, with_words, word_count, words_from, words_of}
use Rattle.ea_contents.specs.declared.access.Making.{Making}
use Rattle.ea_contents.specs.Model.{lists_after, lists_written, made}

-- the words of each block are the list of its name
abbrev pub Agree : Setup → State → List ℕ → (ℕ → List ℕ) → Type 0
Agree setup w memory lists =
    (name : ℕ) (r : Extent) → LiesOver setup name r w → words_of r memory ≡ lists name

-- the memory has a word for each unit of the regions
abbrev pub IsWhole : Setup → List ℕ → Type 0
IsWhole setup memory = PAGE_UNITS * (setup.schedulers * setup.pages) ≤ length memory

-- where the block lies whose words a new name takes over
abbrev pub HasSource : Setup → State → Option ℕ → Option Extent → Type 0
HasSource setup w None None = Unit {0}
HasSource setup w None (Some r) = ⊥
HasSource setup w (Some old) None = ⊥
HasSource setup w (Some old) (Some r) = LiesOver setup old r w

-- the words that are taken over, in the memory
abbrev pub source_in : List ℕ → Option Extent → List ℕ
source_in memory None = []
source_in memory (Some r) = words_of r memory

-- the memory after a step: a new block has the words that it takes over, as far as they fit, and
-- zeros after them
abbrev pub memory_made : List ℕ → Option Extent → Option Extent → List ℕ
memory_made memory None from = memory
memory_made memory (Some r) from =
    with_words (words_from r) (fitted (word_count r) (source_in memory from)) memory

-- what a step has made, in which state it lies where then, and where its source lay before
abbrev pub MadeAt : Setup → State → State → Option Making → Option Extent → Option Extent → Type 0
MadeAt setup w v None None from = Unit {0}
MadeAt setup w v None (Some r) from = ⊥
MadeAt setup w v (Some m) None from = ⊥
MadeAt setup w v (Some m) (Some r) from =
    LiesOver setup m.fresh r v × HasSource setup w m.source from

-- a step keeps the agreement, if the words that a new block takes over are copied before any other
-- turn; and so does a write of a word of a block
pub record KeepsAgreement (setup : Setup) : Type 0 where
  pub steps : (turns : List ℕ) (i : ℕ) (memory : List ℕ) (lists : ℕ → List ℕ)
      (r from : Option Extent) → IsWhole setup memory
      → MadeAt setup (run setup turns) (run setup (turns ++ i ∷ []))
      (made setup (run setup turns) i) r from → Agree setup (run setup turns) memory lists
      → Agree setup (run setup (turns ++ i ∷ [])) (memory_made memory r from)
      (lists_after setup (run setup turns) i lists)
  pub writes : (turns : List ℕ) (memory : List ℕ) (lists : ℕ → List ℕ) (name index value : ℕ)
      (r : Extent) → LiesOver setup name r (run setup turns) → index + 1 < r.units
      → Agree setup (run setup turns) memory lists
      → Agree setup (run setup turns) (slice_set memory (words_from r + index) value)
      (lists_written lists name index value)

-- in each run of a valid trace under a valid configuration
abbrev pub AlwaysKeepsAgreement : Type 0
AlwaysKeepsAgreement = (c : Config) (t : Trace) → IsValidConfig c → IsValidTrace c.schedulers t
    → KeepsAgreement (setup_of c t)
