-- The words of the table, and what they stand for: first the heads of the queues, then a link for
-- each name and each carrier number, then a word for each name that may be given, and then the
-- owner word of each carrier number. `Codes` says that the words are the code of what is shared.
-- The link word of a node that stands nowhere is 0 (`free`).
use Rattle.std.specs.Prelude.{◌≡◌, ℕ, ◌+◌, ◌-◌, ◌*◌, ◌<◌, ◌≤◌, Bool, true, false, List}
use Rattle.std.specs.Prelude.{[], ◌∷◌, All, Option, None, Some, length, slice_index}
use Rattle.ea_model.specs.declared.carriers.Spot.{Spot}
use Rattle.ea_model.specs.declared.units.TheConstants.{NUMBERS}
use Rattle.ea_machine.specs.declared.nodes.Node.{Node}
use Rattle.ea_machine.specs.declared.nodes.Node.TheVariants.{Block, Carrier}
use Rattle.ea_machine.specs.Alike.{IsNode}
use Rattle.ea_machine.specs.Nodes.{Mark, block_node, first_node, spot_named}
use Rattle.ea_machine.specs.Owners.{CarrierAt, word_of}
use Rattle.ea_machine.specs.Shared.{Shared}
use Rattle.ea_sound.specs.Standing.{standing_nodes}
use Rattle.ea_table.specs.declared.places.TheConstants.{HEAD_WORDS}
use Rattle.ea_word.specs.declared.words.TheConstants.{NO_NODE}
use Rattle.ea_word.specs.Codes.{IsCodable, IsShown, code_of, head_code, link_code, owner_code}

-- where words stand, of that many schedulers and with names up to a greatest one

abbrev pub head_at : ℕ → ℕ
head_at i = HEAD_WORDS * (i - 1)

abbrev pub link_at : ℕ → ℕ → Node → ℕ
link_at n g (Block name spot) = HEAD_WORDS * n + (name - 1)
link_at n g (Carrier number) = HEAD_WORDS * n + g + (number - 1)

abbrev pub name_at : ℕ → ℕ → ℕ → ℕ
name_at n g name = HEAD_WORDS * n + g + NUMBERS * n + (name - 1)

abbrev pub owner_at : ℕ → ℕ → ℕ → ℕ
owner_at n g number = HEAD_WORDS * n + g + NUMBERS * n + g + (number - 1)

abbrev pub words_in : ℕ → ℕ → ℕ
words_in n g = HEAD_WORDS * n + g + NUMBERS * n + g + NUMBERS * n

-- the link word of a node, by whether it is linked, and the older ones
abbrev pub mark_code : Bool → List Mark → ℕ
mark_code true older = link_code (first_node older)
mark_code false older = NO_NODE

-- the word of a name, by the spot of its block if it is given
abbrev pub given_code : ℕ → Option Spot → ℕ
given_code name None = NO_NODE
given_code name (Some spot) = code_of (Block name spot)

-- the owner word of a carrier, by where it is
abbrev pub place_code : CarrierAt → ℕ
place_code place = owner_code (word_of place)

-- where the block of a node begins
abbrev pub block_spot : Option Node → Option Spot
block_spot None = None
block_spot (Some (Block name spot)) = Some spot
block_spot (Some (Carrier number)) = None

module _ (n g : ℕ) where
  -- the link words of a list of nodes, newest first
  abbrev pub LinksAre : List ℕ → List Mark → Type 0
  LinksAre ws [] = Unit {0}
  LinksAre ws (m ∷ ms) = (slice_index ws (link_at n g m.node) ≡ mark_code m.linked ms)
      × LinksAre ws ms

  -- the words are the coding of what is shared
  pub record Codes (s : Shared) (ws : List ℕ) : Type 0 where
    pub count : length ws ≡ words_in n g
    pub heads : (i : ℕ) → 1 ≤ i → i ≤ n
        → slice_index ws (head_at i) ≡ head_code (first_node (s.queues i))
    pub queued : (i : ℕ) → LinksAre ws (s.queues i)
    pub rested : (i : ℕ) → LinksAre ws (s.rests i)
    pub free : (node : Node) → IsNode n g node → standing_nodes n node s ≡ 0
        → slice_index ws (link_at n g node) ≡ 0
    pub names : (name : ℕ) → 1 ≤ name → name ≤ g
        → slice_index ws (name_at n g name) ≡ given_code name (spot_named name s.given)
    pub owners : (number : ℕ) → 1 ≤ number → number ≤ NUMBERS * n
        → slice_index ws (owner_at n g number) ≡ place_code (s.places number)

  -- a node that may stand in a queue
  abbrev pub IsFit : Node → Type 0
  IsFit node = IsNode n g node × IsCodable node

  -- all these may
  abbrev pub AreFit : List Mark → Type 0
  AreFit ms = All (λ m. IsFit m.node) ms

  -- what is shared has a coding in words
  pub record IsWorded (s : Shared) : Type 0 where
    pub queues : (i : ℕ) → AreFit (s.queues i)
    pub rests : (i : ℕ) → AreFit (s.rests i)
    pub once : (node : Node) → standing_nodes n node s ≤ 1
    pub nobody : (i : ℕ) → n < i → (s.queues i ≡ []) × (s.rests i ≡ [])
    pub given : All (λ x. IsFit (block_node x)) s.given
    pub owners : (number : ℕ) → IsShown (word_of (s.places number))
