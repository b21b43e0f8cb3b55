-- The least key of a tree.
use Rattle.std.proofs.Common.{◌≡◌, ◌≢◌, ℕ, ◌+◌, ◌-◌, ◌*◌, ◌/◌, ◌<◌, ◌≤◌, ◌⊎◌, inl, inr, refl}
use Rattle.std.proofs.Common.{sym, ap, ◌∙◌, subst, arith, List, length, min}
use Rattle.std.proofs.lemmas.Bool.{cases_lt}
use Rattle.ea_keytree.specs.declared.nodes.Node.{Node}
use Rattle.ea_keytree.specs.declared.tree.Found.{Found}
use Rattle.ea_keytree.specs.Trees.{Tree, leaf, node, Has, Shows, IsTree, node_at, key_at}
use Rattle.ea_keytree.specs.Trees.{IsLeast, IsLesser}
use Rattle.ea_keytree.proofs.Standing.{within}
use Rattle.ea_keytree.proofs.Raising.{wide}

-- a tree at a link that isn't 0
pub here : (nodes : List Node) (link from width : ℕ) (t : Tree)
    → IsTree (key_at nodes) nodes link from width t → link ≢ 0
    → (link - 1 < length nodes) × (key_at nodes (link - 1) < from + width)
here nodes link from width leaf i ne = absurd (ne i.shown)
here nodes link from width (node l p r) i ne =
    let e : p ≡ link - 1 = omega (arith, i.shown.0) in (
      omega (arith, i.shown.0, i.shown.1),
      omega (arith, i.laid.1, ap (key_at nodes) e),
    )

pub low_tree : (keys : ℕ → ℕ) (nodes : List Node) (link from width : ℕ) (t : Tree)
    → IsTree keys nodes link from width t → link ≢ 0
    → (2 * (width / 2) + min 1 (node_at nodes (link - 1)).low < 2 * width + min 1 link)
    × ((u : Tree) × IsTree keys nodes (node_at nodes (link - 1)).low from (width / 2) u)
low_tree keys nodes link from width leaf i ne = absurd (ne i.shown)
low_tree keys nodes link from width (node l p r) i ne =
    let e : p ≡ link - 1 = omega (arith, i.shown.0) in (
      omega (arith, ne, i.laid.0, i.laid.1),
      (
        l,
        record {
          shown = subst (λ x. Shows nodes (node_at nodes x).low l) e i.shown.2;
          laid = i.laid.2;
        },
      ),
    )

pub high_tree : (keys : ℕ → ℕ) (nodes : List Node) (link from width : ℕ) (t : Tree)
    → IsTree keys nodes link from width t → link ≢ 0
    → (2 * (width - width / 2) + min 1 (node_at nodes (link - 1)).high < 2 * width + min 1 link)
    × ((u : Tree) × IsTree keys nodes (node_at nodes (link - 1)).high (from + width / 2)
    (width - width / 2) u)
high_tree keys nodes link from width leaf i ne = absurd (ne i.shown)
high_tree keys nodes link from width (node l p r) i ne =
    let e : p ≡ link - 1 = omega (arith, i.shown.0) in (
      elim (cases_lt 0 (node_at nodes (link - 1)).high) [
        | inl lt ↦ omega (arith, ne, wide keys nodes link from width l p r i lt)
        | inr le ↦ omega (arith, ne, le)
      ],
      (
        r,
        record {
          shown = subst (λ x. Shows nodes (node_at nodes x).high r) e i.shown.3;
          laid = i.laid.3;
        },
      ),
    )

-- none is great enough
pub least_empty : (keys : ℕ → ℕ) (nodes : List Node) (bound link from width : ℕ) (t : Tree)
    (best : Found) → IsTree keys nodes link from width t → link ≡ 0
    → IsLeast keys bound t best best
least_empty keys nodes bound link from width leaf best i e =
    record { least = λ q h. absurd h; under = omega arith; met = inl refl }
least_empty keys nodes bound link from width (node l p r) best i e =
    absurd (omega (arith, i.shown.0, e))

pub least_past : (keys : ℕ → ℕ) (nodes : List Node) (bound link from width : ℕ) (t : Tree)
    (best : Found) → IsTree keys nodes link from width t → from + width ≤ bound
    → IsLeast keys bound t best best
least_past keys nodes bound link from width t best i le = record {
  least = λ q h b. absurd (omega (arith, within keys from width t i.laid q h, b, le));
  under = omega arith;
  met = inl refl;
}

-- the root and the lower half
root_least : (nodes : List Node) (bound link from width : ℕ) (best own low : Found) (l : Tree)
    (p : ℕ) (r : Tree) → IsTree (key_at nodes) nodes link from width (node l p r)
    → IsLesser bound (key_at nodes (link - 1)) (link - 1) best own
    → ((u : Tree) → IsTree (key_at nodes) nodes (node_at nodes (link - 1)).low from (width / 2) u
    → IsLeast (key_at nodes) bound u own low)
    → IsLeast (key_at nodes) bound (node l p leaf) best low
root_least nodes bound link from width best own low l p r i o f =
    let e : link - 1 ≡ p = omega (arith, i.shown.0) in
    let o' = subst (λ x. IsLesser bound (key_at nodes x) x best own) e o in
    let j = f l (record {
      shown = subst (λ x. Shows nodes (node_at nodes x).low l) (sym e) i.shown.2;
      laid = i.laid.2;
    }) in
    record {
      least = λ q h b. elim h [
        | inl same ↦
            let k = ap (key_at nodes) same in
            omega (arith, j.under, k, o'.least (omega (arith, b, k)))
        | inr n ↦ elim n [ inl m ↦ j.least q m b | inr m ↦ absurd m ]
      ];
      under = omega (arith, j.under, o'.under);
      met = elim j.met [
        | inl same ↦ elim o'.met [
          | inl x ↦ inl (same ∙ x)
          | inr x ↦
              let y = same ∙ x.0 in
              let position = ap (λ (v : Found). v.position) y in
              let key = ap (λ (v : Found). v.key) y in
              inr
              (inl position, (ap (key_at nodes) position ∙ sym key, omega (arith, x.1, key)))
        ]
        | inr m ↦ inr (inr (inl m.0), m.1)
      ];
    }

-- a member of the tree without its upper half
in_lower : (l : Tree) (p : ℕ) (r : Tree) (q : ℕ) → Has q (node l p leaf) → Has q (node l p r)
in_lower l p r q h = elim h [
  | inl same ↦ inl same
  | inr n ↦ elim n [ inl x ↦ inr (inl x) | inr y ↦ absurd y ]
]

pub least_half : (nodes : List Node) (bound link from width : ℕ) (best own low : Found) (t : Tree)
    → IsTree (key_at nodes) nodes link from width t → link ≢ 0
    → IsLesser bound (key_at nodes (link - 1)) (link - 1) best own
    → ((u : Tree) → IsTree (key_at nodes) nodes (node_at nodes (link - 1)).low from (width / 2) u
    → IsLeast (key_at nodes) bound u own low) → low.key < from + width / 2
    → IsLeast (key_at nodes) bound t best low
least_half nodes bound link from width best own low leaf i ne o f lt = absurd (ne i.shown)
least_half nodes bound link from width best own low (node l p r) i ne o f lt =
    let h = root_least nodes bound link from width best own low l p r i o f in
    record {
      least = λ q m b. elim m [
        | inl same ↦ h.least q (inl same) b
        | inr n ↦ elim n [
          | inl x ↦ h.least q (inr (inl x)) b
          | inr x ↦
              let w = within (key_at nodes) (from + width / 2) (width - width / 2) r i.laid.3 q x in
              omega (arith, w, lt)
        ]
      ];
      under = h.under;
      met = elim h.met [ inl x ↦ inl x | inr m ↦ inr (in_lower l p r _ m.0, m.1) ];
    }

pub least_whole : (nodes : List Node) (bound link from width : ℕ) (best own low out : Found)
    (t : Tree) → IsTree (key_at nodes) nodes link from width t → link ≢ 0
    → IsLesser bound (key_at nodes (link - 1)) (link - 1) best own
    → ((u : Tree) → IsTree (key_at nodes) nodes (node_at nodes (link - 1)).low from (width / 2) u
    → IsLeast (key_at nodes) bound u own low)
    → ((u : Tree) → IsTree (key_at nodes) nodes (node_at nodes (link - 1)).high (from + width / 2)
    (width - width / 2) u → IsLeast (key_at nodes) bound u low out)
    → IsLeast (key_at nodes) bound t best out
least_whole nodes bound link from width best own low out leaf i ne o f g = absurd (ne i.shown)
least_whole nodes bound link from width best own low out (node l p r) i ne o f g =
    let e : link - 1 ≡ p = omega (arith, i.shown.0) in
    let h = root_least nodes bound link from width best own low l p r i o f in
    let j = g r (record {
      shown = subst (λ x. Shows nodes (node_at nodes x).high r) (sym e) i.shown.3;
      laid = i.laid.3;
    }) in
    record {
      least = λ q m b. elim m [
        | inl same ↦ omega (arith, j.under, h.least q (inl same) b)
        | inr n ↦ elim n [
          | inl x ↦ omega (arith, j.under, h.least q (inr (inl x)) b)
          | inr x ↦ j.least q x b
        ]
      ];
      under = omega (arith, j.under, h.under);
      met = elim j.met [
        | inl same ↦ subst (λ (v : Found). (v ≡ best) ⊎ (Has v.position (node l p r)
            × ((key_at nodes v.position ≡ v.key) × (bound ≤ v.key)))) (sym same)
            (elim h.met [ inl x ↦ inl x | inr m ↦ inr (in_lower l p r low.position m.0, m.1) ])
        | inr m ↦ inr (inr (inr m.0), m.1)
      ];
    }
