-- Trees that stand in nodes.
use Rattle.std.proofs.Common.{◌≡◌, ℕ, ◌+◌, ◌-◌, ◌/◌, ◌<◌, ◌≤◌, inl, inr, refl, sym, ap}
use Rattle.std.proofs.Common.{◌∙◌, subst, arith, List, length, set}
use Rattle.std.proofs.lemmas.List.{length-map}
use Rattle.std.proofs.lemmas.List.{map-set, set-get_or}
use Rattle.ea_keytree.specs.declared.nodes.Node.{Node}
use Rattle.ea_keytree.specs.Trees.{Tree, leaf, node, Has, Shows, Laid, Becomes}
use Rattle.ea_keytree.specs.Trees.{blank, node_at, key_of, stored_in}

-- each key lies where the tree's keys do
pub within : (keys : ℕ → ℕ) (from width : ℕ) (t : Tree) → Laid keys from width t → (q : ℕ)
    → Has q t → (from ≤ keys q) × (keys q < from + width)
within keys from width leaf h q m = absurd m
within keys from width (node l p r) h q (inl e) =
    (omega (arith, h.0, ap keys e), omega (arith, h.1, ap keys e))
within keys from width (node l p r) h q (inr (inl m)) =
    let w = within keys from (width / 2) l h.2 q m in (omega arith, omega arith)
within keys from width (node l p r) h q (inr (inr m)) =
    let w = within keys (from + width / 2) (width - width / 2) r h.3 q m in
    (omega arith, omega arith)

-- no position is in both halves
pub apart : (keys : ℕ → ℕ) (from width : ℕ) (l : Tree) (p : ℕ) (r : Tree)
    → Laid keys from width (node l p r) → (q : ℕ) → Has q r → Has q l → ⊥
apart keys from width l p r h q m n =
    let a = within keys from (width / 2) l h.2 q n in
    let b = within keys (from + width / 2) (width - width / 2) r h.3 q m in
    absurd (omega arith)

-- a tree stands in other nodes too, if those of its positions are the same
pub shows_agree : (old new : List Node) (link : ℕ) (t : Tree) → length new ≡ length old
    → ((q : ℕ) → Has q t → node_at new q ≡ node_at old q) → Shows old link t → Shows new link t
shows_agree old new link leaf e a s = s
shows_agree old new link (node l p r) e a s = (
  s.0,
  omega (arith, s.1, e),
  subst (λ (n : Node). Shows new n.low l) (sym (a p (inl refl)))
      (shows_agree old new (node_at old p).low l e (λ q m. a q (inr (inl m))) s.2),
  subst (λ (n : Node). Shows new n.high r) (sym (a p (inl refl)))
      (shows_agree old new (node_at old p).high r e (λ q m. a q (inr (inr m))) s.3),
)

pub same_length : (old new : List Node) → stored_in new ≡ stored_in old → length new ≡ length old
same_length old new e =
    sym (length-map new key_of) ∙ ap length e ∙ length-map old key_of

-- other links of a node leave the sizes
pub stored-set : (nodes : List Node) (p low high : ℕ)
    → stored_in (set nodes p (record { key = (node_at nodes p).key; low = low; high = high })) ≡
    stored_in nodes
stored-set nodes p low high =
    map-set key_of nodes p
    (record { key = (node_at nodes p).key; low = low; high = high })
    ∙ sym (map-set key_of nodes p (node_at nodes p))
    ∙ ap stored_in (set-get_or nodes p blank)

-- the same tree, with its members told in another way
pub renamed : (keys : ℕ → ℕ) (old new : List Node) (t : Tree) (link from width : ℕ)
    (M N : ℕ → Type 0) → Becomes keys old new t link from width M → ((q : ℕ) → M q → N q)
    → ((q : ℕ) → N q → M q) → Becomes keys old new t link from width N
renamed keys old new t link from width M N b f g = record {
  tree = b.tree;
  shown = b.shown;
  laid = b.laid;
  has = λ q m. f q (b.has q m);
  held = λ q n. b.held q (g q n);
  others = b.others;
  stored = b.stored;
}
