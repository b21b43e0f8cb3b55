-- The numbers of nodes (`code_of`) and of owner words (`owner_code`), and the words of queues and
-- links (`head_code`, `link_code`).
use Rattle.std.specs.Prelude.{◌≡◌, ◌==◌, ℕ, ◌+◌, ◌-◌, ◌*◌, ◌/◌, ◌%◌, ◌^◌, ◌<◌, ◌≤◌}
use Rattle.std.specs.Prelude.{Option, None, Some, if◌then◌else◌}
use Rattle.ea_machine.specs.declared.nodes.Node.{Node}
use Rattle.ea_machine.specs.declared.nodes.Node.TheVariants.{Block, Carrier}
use Rattle.ea_machine.specs.declared.owners.OwnerWord.{OwnerWord}
use Rattle.ea_machine.specs.declared.owners.OwnerWord.TheVariants.{Absent, Employed, Pooled}
use Rattle.ea_machine.specs.declared.owners.OwnerWord.TheVariants.{Busy, Returning}
use Rattle.ea_word.specs.declared.nodes.TheConstants.{BLOCK_KIND, CARRIER_KIND, CARRIER_SHIFT}
use Rattle.ea_word.specs.declared.nodes.TheConstants.{CODED_UNITS, MAX_CODED_CARRIER}
use Rattle.ea_word.specs.declared.nodes.TheConstants.{MAX_CODED_NAME, NAME_SHIFT, OFFSET_SHIFT}
use Rattle.ea_word.specs.declared.owners.TheConstants.{ABSENT_STATE, BUSY_STATE, CODED_LARGEST}
use Rattle.ea_word.specs.declared.owners.TheConstants.{EMPLOYED_STATE, INSTANCE_SHIFT}
use Rattle.ea_word.specs.declared.owners.TheConstants.{LARGEST_SHIFT, MAX_CODED_INSTANCE}
use Rattle.ea_word.specs.declared.owners.TheConstants.{POOLED_STATE, RETURNING_STATE, STATES}
use Rattle.ea_word.specs.declared.words.TheConstants.{NO_NODE, OLDEST}

-- the node's fields have room in a number
abbrev pub IsCodable : Node → Type 0
IsCodable (Block name spot) = (1 ≤ name) × (name ≤ MAX_CODED_NAME) × (1 ≤ spot.carrier)
    × (spot.carrier ≤ MAX_CODED_CARRIER) × (spot.offset % 2 ≡ 0) × (spot.offset < CODED_UNITS)
IsCodable (Carrier number) = (1 ≤ number) × (number ≤ MAX_CODED_CARRIER)

-- the number of a node: its kind, and above it the name, the carrier and half the offset of a
-- block, or the number of a carrier
abbrev pub code_of : Node → ℕ
code_of (Block name spot) = BLOCK_KIND + 2 ^ NAME_SHIFT * (name - 1)
    + 2 ^ CARRIER_SHIFT * (spot.carrier - 1) + 2 ^ OFFSET_SHIFT * (spot.offset / 2)
code_of (Carrier number) = CARRIER_KIND + 2 ^ NAME_SHIFT * (number - 1)

-- the head word of a queue, by its newest node
abbrev pub head_code : Option Node → ℕ
head_code None = NO_NODE
head_code (Some node) = code_of node

-- the link word of a linked node, by the next older one of its list; a node that isn't linked, or
-- stands nowhere, has NO_NODE
abbrev pub link_code : Option Node → ℕ
link_code None = OLDEST
link_code (Some node) = code_of node

-- the owner word's fields have room in a number
abbrev pub IsShown : OwnerWord → Type 0
IsShown Absent = Unit {0}
IsShown (Employed instance) = (1 ≤ instance) × (instance ≤ MAX_CODED_INSTANCE)
IsShown (Pooled instance largest) = (1 ≤ instance) × (instance ≤ MAX_CODED_INSTANCE)
    × (largest % 2 ≡ 0) × (largest < CODED_LARGEST)
IsShown (Busy instance) = (1 ≤ instance) × (instance ≤ MAX_CODED_INSTANCE)
IsShown (Returning instance) = (1 ≤ instance) × (instance ≤ MAX_CODED_INSTANCE)

-- the number of an owner word: its state, and above it the instance, and half the largest gap of a
-- pooled carrier
abbrev pub owner_code : OwnerWord → ℕ
owner_code Absent = ABSENT_STATE
owner_code (Employed instance) = EMPLOYED_STATE + 2 ^ INSTANCE_SHIFT * (instance - 1)
owner_code (Pooled instance largest) = POOLED_STATE + 2 ^ INSTANCE_SHIFT * (instance - 1)
    + 2 ^ LARGEST_SHIFT * (largest / 2)
owner_code (Busy instance) = BUSY_STATE + 2 ^ INSTANCE_SHIFT * (instance - 1)
owner_code (Returning instance) = RETURNING_STATE + 2 ^ INSTANCE_SHIFT * (instance - 1)

-- the owner word that a number would be of, by its parts
abbrev pub word_by : (state instance largest : ℕ) → OwnerWord
word_by state instance largest =
    if state == EMPLOYED_STATE then Employed instance
    else if state == POOLED_STATE then Pooled instance largest
    else if state == BUSY_STATE then Busy instance
    else if state == RETURNING_STATE then Returning instance
    else Absent

-- the owner word with that number, if one has it
abbrev pub word_in : ℕ → OwnerWord
word_in bits = word_by (bits % STATES)
    (bits / 2 ^ INSTANCE_SHIFT % MAX_CODED_INSTANCE + 1) (2 * (bits / 2 ^ LARGEST_SHIFT))
