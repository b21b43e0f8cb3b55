-- The greatest key of a tree.
use Rattle.std.proofs.Common.{◌≡◌, ◌≢◌, ℕ, ◌+◌, ◌-◌, ◌/◌, ◌<◌, ◌≤◌, ◌⊎◌, inl, inr, refl, sym, ap}
use Rattle.std.proofs.Common.{◌∙◌, subst, arith, List}
use Rattle.ea_keytree.specs.declared.nodes.Node.{Node}
use Rattle.ea_keytree.specs.declared.searches.Reached.{Reached}
use Rattle.ea_keytree.specs.Trees.{Tree, leaf, node, Has, Shows, IsTree, node_at, key_at}
use Rattle.ea_keytree.specs.Trees.{IsGreatest, IsGreater}
use Rattle.ea_keytree.proofs.Standing.{within}

-- none is small enough
pub greatest_empty : (keys : ℕ → ℕ) (nodes : List Node) (bound link from width : ℕ) (t : Tree)
    (best : Reached) → IsTree keys nodes link from width t → link ≡ 0
    → IsGreatest keys bound t best best
greatest_empty keys nodes bound link from width leaf best i e =
    record { greatest = λ q h. absurd h; over = omega arith; met = inl refl }
greatest_empty keys nodes bound link from width (node l p r) best i e =
    absurd (omega (arith, i.shown.0, e))

pub greatest_past : (keys : ℕ → ℕ) (nodes : List Node) (bound link from width : ℕ) (t : Tree)
    (best : Reached) → IsTree keys nodes link from width t → bound < from
    → IsGreatest keys bound t best best
greatest_past keys nodes bound link from width t best i lt = record {
  greatest = λ q h b. absurd (omega (arith, within keys from width t i.laid q h, b, lt));
  over = omega arith;
  met = inl refl;
}

-- the root and the upper half
root_greatest : (nodes : List Node) (bound link from width : ℕ) (best own high : Reached)
    (l : Tree) (p : ℕ) (r : Tree) → IsTree (key_at nodes) nodes link from width (node l p r)
    → IsGreater bound (key_at nodes (link - 1)) (link - 1) best own
    → ((u : Tree) → IsTree (key_at nodes) nodes (node_at nodes (link - 1)).high (from + width / 2)
    (width - width / 2) u → IsGreatest (key_at nodes) bound u own high)
    → IsGreatest (key_at nodes) bound (node leaf p r) best high
root_greatest nodes bound link from width best own high l p r i o f =
    let e : link - 1 ≡ p = omega (arith, i.shown.0) in
    let o' = subst (λ x. IsGreater bound (key_at nodes x) x best own) e o in
    let j = f r (record {
      shown = subst (λ x. Shows nodes (node_at nodes x).high r) (sym e) i.shown.3;
      laid = i.laid.3;
    }) in
    record {
      greatest = λ q h b. elim h [
        | inl same ↦
            let k = ap (key_at nodes) same in
            omega (arith, j.over, k, o'.greatest (omega (arith, b, k)))
        | inr n ↦ elim n [ inl m ↦ absurd m | inr m ↦ j.greatest q m b ]
      ];
      over = omega (arith, j.over, o'.over);
      met = elim j.met [
        | inl same ↦ elim o'.met [
          | inl x ↦ inl (same ∙ x)
          | inr x ↦
              let y = same ∙ x.0 in
              let position = ap (λ (v : Reached). v.position) y in
              let after = ap (λ (v : Reached). v.after) y in
              let k = ap (key_at nodes) position in
              inr (inl position, (omega (arith, k, after), omega (arith, x.1, k)))
        ]
        | inr m ↦ inr (inr (inr m.0), m.1)
      ];
    }

-- a member of the tree without its lower half
in_upper : (l : Tree) (p : ℕ) (r : Tree) (q : ℕ) → Has q (node leaf p r) → Has q (node l p r)
in_upper l p r q h = elim h [
  | inl same ↦ inl same
  | inr n ↦ elim n [ inl x ↦ absurd x | inr y ↦ inr (inr y) ]
]

pub greatest_half : (nodes : List Node) (bound link from width : ℕ) (best own high : Reached)
    (t : Tree) → IsTree (key_at nodes) nodes link from width t → link ≢ 0
    → IsGreater bound (key_at nodes (link - 1)) (link - 1) best own
    → ((u : Tree) → IsTree (key_at nodes) nodes (node_at nodes (link - 1)).high (from + width / 2)
    (width - width / 2) u → IsGreatest (key_at nodes) bound u own high)
    → from + width / 2 < high.after → IsGreatest (key_at nodes) bound t best high
greatest_half nodes bound link from width best own high leaf i ne o f lt = absurd (ne i.shown)
greatest_half nodes bound link from width best own high (node l p r) i ne o f lt =
    let h = root_greatest nodes bound link from width best own high l p r i o f in
    record {
      greatest = λ q m b. elim m [
        | inl same ↦ h.greatest q (inl same) b
        | inr n ↦ elim n [
          | inl x ↦
              let w = within (key_at nodes) from (width / 2) l i.laid.2 q x in
              omega (arith, w, lt)
          | inr x ↦ h.greatest q (inr (inr x)) b
        ]
      ];
      over = h.over;
      met = elim h.met [ inl x ↦ inl x | inr m ↦ inr (in_upper l p r _ m.0, m.1) ];
    }

pub greatest_whole : (nodes : List Node) (bound link from width : ℕ)
    (best own high out : Reached) (t : Tree) → IsTree (key_at nodes) nodes link from width t
    → link ≢ 0 → IsGreater bound (key_at nodes (link - 1)) (link - 1) best own
    → ((u : Tree) → IsTree (key_at nodes) nodes (node_at nodes (link - 1)).high (from + width / 2)
    (width - width / 2) u → IsGreatest (key_at nodes) bound u own high)
    → ((u : Tree) → IsTree (key_at nodes) nodes (node_at nodes (link - 1)).low from (width / 2) u
    → IsGreatest (key_at nodes) bound u high out)
    → IsGreatest (key_at nodes) bound t best out
greatest_whole nodes bound link from width best own high out leaf i ne o f g =
    absurd (ne i.shown)
greatest_whole nodes bound link from width best own high out (node l p r) i ne o f g =
    let e : link - 1 ≡ p = omega (arith, i.shown.0) in
    let h = root_greatest nodes bound link from width best own high l p r i o f in
    let j = g l (record {
      shown = subst (λ x. Shows nodes (node_at nodes x).low l) (sym e) i.shown.2;
      laid = i.laid.2;
    }) in
    record {
      greatest = λ q m b. elim m [
        | inl same ↦ omega (arith, j.over, h.greatest q (inl same) b)
        | inr n ↦ elim n [
          | inl x ↦ j.greatest q x b
          | inr x ↦ omega (arith, j.over, h.greatest q (inr (inr x)) b)
        ]
      ];
      over = omega (arith, j.over, h.over);
      met = elim j.met [
        | inl same ↦ subst (λ (v : Reached). (v ≡ best) ⊎ (Has v.position (node l p r)
            × ((key_at nodes v.position + 1 ≡ v.after) × (key_at nodes v.position ≤ bound))))
            (sym same)
            (elim h.met [ inl x ↦ inl x | inr m ↦ inr (in_upper l p r high.position m.0, m.1) ])
        | inr m ↦ inr (inr (inl m.0), m.1)
      ];
    }
