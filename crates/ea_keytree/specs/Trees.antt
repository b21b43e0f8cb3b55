-- Trees of positions by their keys, and the nodes of the array in which they are stored. This file
-- serves private functions and invariants.
use Rattle.std.specs.Prelude.{◌≡◌, ◌≢◌, ℕ, ◌+◌, ◌-◌, ◌/◌, ◌^◌, ◌<◌, ◌≤◌, ◌⊎◌}
use Rattle.std.specs.Prelude.{List, length, map, slice_index_or}
use Rattle.std.specs.Prelude.{Option, Some, None, if◌then◌else◌, ◌==◌}
use Rattle.ea_keytree.specs.declared.nodes.Node.{Node}
use Rattle.ea_keytree.specs.declared.searches.Reached.{Reached}
use Rattle.ea_keytree.specs.declared.tree.Found.{Found}

-- a position with the trees below it, over the lower and over the upper half of the keys
pub data Tree : Type 0 where
  leaf : Tree
  node : Tree → ℕ → Tree → Tree

-- whether the position is in the tree
abbrev pub Has : ℕ → Tree → Type 0
Has q leaf = ⊥
Has q (node low p high) = (q ≡ p) ⊎ (Has q low ⊎ Has q high)

-- the node of a position, its key, and the keys of all
abbrev pub blank : Node
blank = record { key = 0; low = 0; high = 0 }

abbrev pub node_at : List Node → ℕ → Node
node_at nodes p = slice_index_or nodes p blank

abbrev pub key_of : Node → ℕ
key_of n = n.key

abbrev pub key_at : List Node → ℕ → ℕ
key_at nodes p = (node_at nodes p).key

abbrev pub stored_in : List Node → List ℕ
stored_in nodes = map key_of nodes

-- the key of a node that holds none, which is above every key
abbrev pub free_key : ℕ
free_key = 2 ^ 64 - 1

-- the key that each position holds, if it holds one
abbrev pub held_by : Node → Option ℕ
held_by n = if n.key == free_key then None else Some n.key

abbrev pub held_in : List Node → List (Option ℕ)
held_in nodes = map held_by nodes

-- the tree stands in the nodes at the link, a position + 1, or 0 for no position
abbrev pub Shows : List Node → ℕ → Tree → Type 0
Shows nodes link leaf = link ≡ 0
Shows nodes link (node low p high) =
    (link ≡ p + 1) × (p < length nodes) × Shows nodes (node_at nodes p).low low
    × Shows nodes (node_at nodes p).high high

-- the keys of the tree are `width` numbers from `from` on, and no position has the key of one that
-- it stands above
abbrev pub Laid : (ℕ → ℕ) → ℕ → ℕ → Tree → Type 0
Laid keys from width leaf = Unit {0}
Laid keys from width (node low p high) =
    (from ≤ keys p) × (keys p < from + width) × Laid keys from (width / 2) low
    × Laid keys (from + width / 2) (width - width / 2) high
    × ((q : ℕ) → Has q low → keys q ≢ keys p) × ((q : ℕ) → Has q high → keys q ≢ keys p)

pub record IsTree (keys : ℕ → ℕ) (nodes : List Node) (link from width : ℕ) (t : Tree) : Type 0
  where
    pub shown : Shows nodes link t
    pub laid : Laid keys from width t

-- what a call made of the tree: a tree at the link, of these members. Nothing else has changed
pub record Becomes (keys : ℕ → ℕ) (old new : List Node) (t : Tree) (link from width : ℕ)
    (members : ℕ → Type 0) : Type 0 where
  pub tree : Tree
  pub shown : Shows new link tree
  pub laid : Laid keys from width tree
  pub has : (q : ℕ) → Has q tree → members q
  pub held : (q : ℕ) → members q → Has q tree
  pub others : (q : ℕ) → (Has q t → ⊥) → node_at new q ≡ node_at old q
  pub stored : stored_in new ≡ stored_in old

-- the position of that key may be put into the tree
pub record MayPut (keys : ℕ → ℕ) (nodes : List Node) (link from width key position : ℕ)
    (t : Tree) : Type 0 where
  pub stands : IsTree keys nodes link from width t
  pub key_is : keys position ≡ key
  pub low : from ≤ key
  pub high : key < from + width
  pub fresh : (q : ℕ) → Has q t → keys q ≢ key
  pub within : position < length nodes
  pub no_low : (node_at nodes position).low ≡ 0
  pub no_high : (node_at nodes position).high ≡ 0

-- the key may be taken out of the tree
pub record MayTake (keys : ℕ → ℕ) (nodes : List Node) (link from width key : ℕ) (t : Tree)
    : Type 0 where
  pub stands : IsTree keys nodes link from width t
  pub own : (q : ℕ) → Has q t → key_at nodes q ≡ keys q
  pub member : (q : ℕ) × (Has q t × (keys q ≡ key))

-- the root of the tree may be taken out of it
pub record MayRaise (keys : ℕ → ℕ) (nodes : List Node) (link from width : ℕ) (t : Tree)
    : Type 0 where
  pub stands : IsTree keys nodes link from width t
  pub some : 0 < link

-- `out` is the lesser of `best` and of a position's key, if that is at least the bound
pub record IsLesser (bound key position : ℕ) (best out : Found) : Type 0 where
  pub least : bound ≤ key → out.key ≤ key
  pub under : out.key ≤ best.key
  pub met : (out ≡ best) ⊎ ((out ≡ record { key = key; position = position }) × (bound ≤ key))

-- `out` is the greater of `best` and of a position's key, if that is at most the bound
pub record IsGreater (bound key position : ℕ) (best out : Reached) : Type 0 where
  pub greatest : key ≤ bound → key < out.after
  pub over : best.after ≤ out.after
  pub met : (out ≡ best) ⊎ ((out ≡ record { after = key + 1; position = position })
      × (key ≤ bound))

-- `out` is the least of the keys of at least the bound in the tree, or `best` where that is less
pub record IsLeast (keys : ℕ → ℕ) (bound : ℕ) (t : Tree) (best out : Found) : Type 0 where
  pub least : (q : ℕ) → Has q t → bound ≤ keys q → out.key ≤ keys q
  pub under : out.key ≤ best.key
  pub met : (out ≡ best) ⊎ (Has out.position t
      × ((keys out.position ≡ out.key) × (bound ≤ out.key)))

-- `out` is of the greatest of the keys of at most the bound in the tree, or `best` where that is
-- greater
pub record IsGreatest (keys : ℕ → ℕ) (bound : ℕ) (t : Tree) (best out : Reached) : Type 0 where
  pub greatest : (q : ℕ) → Has q t → keys q ≤ bound → keys q < out.after
  pub over : best.after ≤ out.after
  pub met : (out ≡ best) ⊎ (Has out.position t
      × ((keys out.position + 1 ≡ out.after) × (keys out.position ≤ bound)))

-- the nodes of a tree of keys below the width: each position that holds a key, and no other, is in
-- the tree
pub record IsKeyTree (width : ℕ) (nodes : List Node) (root : ℕ) : Type 0 where
  pub tree : Tree
  pub stands : IsTree (key_at nodes) nodes root 0 width tree
  pub held : (p : ℕ) → p < length nodes → key_at nodes p ≢ free_key → Has p tree
  pub few : length nodes < 2 ^ 32
