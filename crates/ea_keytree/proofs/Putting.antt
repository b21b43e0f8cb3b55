-- Putting a position into a tree.
use Rattle.std.proofs.Common.{◌≡◌, ◌≢◌, ℕ, ◌+◌, ◌-◌, ◌/◌, ◌<◌, ◌≤◌, ◌⊎◌, inl, inr, refl, sym, ap}
use Rattle.std.proofs.Common.{◌∙◌, subst, arith, List, length, set}
use Rattle.ea_keytree.specs.declared.nodes.Node.{Node}
use Rattle.ea_keytree.specs.Trees.{Tree, leaf, node, Has, Shows, Becomes, MayPut}
use Rattle.ea_keytree.specs.Trees.{node_at}
use Rattle.ea_keytree.proofs.Standing.{renamed}
use Rattle.ea_keytree.proofs.Changes.{changed_low, changed_high}

pub put_bounds : (keys : ℕ → ℕ) (nodes : List Node) (link from width key position : ℕ) (t : Tree)
    → MayPut keys nodes link from width key position t → link ≢ 0 → link - 1 < length nodes
put_bounds keys nodes link from width key position leaf m ne = absurd (ne m.stands.shown)
put_bounds keys nodes link from width key position (node l p r) m ne =
    omega (arith, m.stands.shown.0, m.stands.shown.1)

-- into an empty tree
pub put_here : (keys : ℕ → ℕ) (nodes : List Node) (link from width key position : ℕ) (t : Tree)
    → MayPut keys nodes link from width key position t → link ≡ 0
    → Becomes keys nodes nodes t (position + 1) from width (λ q. (q ≡ position) ⊎ Has q t)
put_here keys nodes link from width key position leaf m e = record {
  tree = node leaf position leaf;
  shown = (refl, m.within, m.no_low, m.no_high);
  laid = (
    omega (arith, m.key_is, m.low),
    omega (arith, m.key_is, m.high),
    tt,
    tt,
    λ q n. absurd n,
    λ q n. absurd n,
  );
  has = λ q h. elim h [ inl e ↦ inl e | inr n ↦ elim n [ inl x ↦ absurd x | inr y ↦ absurd y ] ];
  held = λ q h. elim h [ inl e ↦ inl e | inr n ↦ absurd n ];
  others = λ q n. refl;
  stored = refl;
}
put_here keys nodes link from width key position (node l p r) m e =
    absurd (omega (arith, m.stands.shown.0, e))

-- what is put into a half may be put there
low_part : (keys : ℕ → ℕ) (nodes : List Node) (link from width key position : ℕ) (l : Tree) (p : ℕ)
    (r : Tree) → MayPut keys nodes link from width key position (node l p r)
    → key < from + width / 2
    → MayPut keys nodes (node_at nodes (link - 1)).low from (width / 2) key position l
low_part keys nodes link from width key position l p r m lt =
    let e : link - 1 ≡ p = omega (arith, m.stands.shown.0) in
    record {
      stands = record {
        shown = subst (λ x. Shows nodes (node_at nodes x).low l) (sym e) m.stands.shown.2;
        laid = m.stands.laid.2;
      };
      key_is = m.key_is;
      low = m.low;
      high = lt;
      fresh = λ q h. m.fresh q (inr (inl h));
      within = m.within;
      no_low = m.no_low;
      no_high = m.no_high;
    }

high_part : (keys : ℕ → ℕ) (nodes : List Node) (link from width key position : ℕ) (l : Tree)
    (p : ℕ) (r : Tree) → MayPut keys nodes link from width key position (node l p r)
    → from + width / 2 ≤ key
    → MayPut keys nodes (node_at nodes (link - 1)).high (from + width / 2) (width - width / 2) key
    position r
high_part keys nodes link from width key position l p r m le =
    let e : link - 1 ≡ p = omega (arith, m.stands.shown.0) in
    record {
      stands = record {
        shown = subst (λ x. Shows nodes (node_at nodes x).high r) (sym e) m.stands.shown.3;
        laid = m.stands.laid.3;
      };
      key_is = m.key_is;
      low = le;
      high = omega (arith, m.high);
      fresh = λ q h. m.fresh q (inr (inr h));
      within = m.within;
      no_low = m.no_low;
      no_high = m.no_high;
    }

pub put_low_may : (keys : ℕ → ℕ) (nodes : List Node) (link from width key position : ℕ) (t : Tree)
    → MayPut keys nodes link from width key position t → link ≢ 0 → key < from + width / 2
    → (width / 2 < width) × ((x : ℕ → ℕ) × ((u : Tree)
    × MayPut x nodes (node_at nodes (link - 1)).low from (width / 2) key position u))
put_low_may keys nodes link from width key position leaf m ne lt = absurd (ne m.stands.shown)
put_low_may keys nodes link from width key position (node l p r) m ne lt = (
  omega (arith, m.stands.laid.0, m.stands.laid.1),
  (keys, (l, low_part keys nodes link from width key position l p r m lt)),
)

pub put_high_may : (keys : ℕ → ℕ) (nodes : List Node) (link from width key position : ℕ) (t : Tree)
    → MayPut keys nodes link from width key position t → link ≢ 0 → from + width / 2 ≤ key
    → (width - width / 2 < width) × ((x : ℕ → ℕ) × ((u : Tree)
    × MayPut x nodes (node_at nodes (link - 1)).high (from + width / 2) (width - width / 2) key
    position u))
put_high_may keys nodes link from width key position leaf m ne le = absurd (ne m.stands.shown)
put_high_may keys nodes link from width key position (node l p r) m ne le = (
  omega (arith, m.stands.laid.0, m.stands.laid.1, m.low, m.high, m.fresh p (inl refl)),
  (keys, (r, high_part keys nodes link from width key position l p r m le)),
)

pub put_low : (keys : ℕ → ℕ) (old mid : List Node) (link from width key position low : ℕ) (t : Tree)
    → MayPut keys old link from width key position t → link ≢ 0 → key < from + width / 2
    → ((x : ℕ → ℕ) (u : Tree)
    → MayPut x old (node_at old (link - 1)).low from (width / 2) key position u
    → Becomes x old mid u low from (width / 2) (λ q. (q ≡ position) ⊎ Has q u))
    → Becomes keys old
    (set mid (link - 1) (record {
      key = (node_at mid (link - 1)).key;
      low = low;
      high = (node_at mid (link - 1)).high;
    })) t link from width (λ q. (q ≡ position) ⊎ Has q t)
put_low keys old mid link from width key position low leaf m ne lt f =
    absurd (ne m.stands.shown)
put_low keys old mid link from width key position low (node l p r) m ne lt f =
    let e : p ≡ link - 1 = omega (arith, m.stands.shown.0) in
    let b = f keys l (low_part keys old link from width key position l p r m lt) in
    subst (λ at. Becomes keys old
    (set mid at (record { key = (node_at mid at).key; low = low; high = (node_at mid at).high }))
    (node l p r) link from width (λ q. (q ≡ position) ⊎ Has q (node l p r))) e
    (renamed keys old _ (node l p r) link from width
    (λ q. (q ≡ p) ⊎ (((q ≡ position) ⊎ Has q l) ⊎ Has q r))
    (λ q. (q ≡ position) ⊎ Has q (node l p r))
    (changed_low keys old mid l p r link from width low (λ q. (q ≡ position) ⊎ Has q l) m.stands b
    (λ q h. elim h [
      | inl same ↦ λ k. m.fresh p (inl refl) (sym k ∙ ap keys same ∙ m.key_is)
      | inr n ↦ m.stands.laid.4 q n
    ]))
    (λ q h. elim h [
      | inl x ↦ inr (inl x)
      | inr y ↦ elim y [
        | inl z ↦ elim z [ inl v ↦ inl v | inr w ↦ inr (inr (inl w)) ]
        | inr z ↦ inr (inr (inr z))
      ]
    ])
    (λ q h. elim h [
      | inl x ↦ inr (inl (inl x))
      | inr y ↦ elim y [
        | inl z ↦ inl z
        | inr z ↦ elim z [ inl v ↦ inr (inl (inr v)) | inr w ↦ inr (inr w) ]
      ]
    ]))

pub put_high : (keys : ℕ → ℕ) (old mid : List Node) (link from width key position high : ℕ)
    (t : Tree) → MayPut keys old link from width key position t → link ≢ 0
    → from + width / 2 ≤ key
    → ((x : ℕ → ℕ) (u : Tree)
    → MayPut x old (node_at old (link - 1)).high (from + width / 2) (width - width / 2) key
    position u
    → Becomes x old mid u high (from + width / 2) (width - width / 2)
    (λ q. (q ≡ position) ⊎ Has q u))
    → Becomes keys old
    (set mid (link - 1) (record {
      key = (node_at mid (link - 1)).key;
      low = (node_at mid (link - 1)).low;
      high = high;
    })) t link from width (λ q. (q ≡ position) ⊎ Has q t)
put_high keys old mid link from width key position high leaf m ne le f =
    absurd (ne m.stands.shown)
put_high keys old mid link from width key position high (node l p r) m ne le f =
    let e : p ≡ link - 1 = omega (arith, m.stands.shown.0) in
    let b = f keys r (high_part keys old link from width key position l p r m le) in
    subst (λ at. Becomes keys old
    (set mid at (record { key = (node_at mid at).key; low = (node_at mid at).low; high = high }))
    (node l p r) link from width (λ q. (q ≡ position) ⊎ Has q (node l p r))) e
    (renamed keys old _ (node l p r) link from width
    (λ q. (q ≡ p) ⊎ (Has q l ⊎ ((q ≡ position) ⊎ Has q r)))
    (λ q. (q ≡ position) ⊎ Has q (node l p r))
    (changed_high keys old mid l p r link from width high (λ q. (q ≡ position) ⊎ Has q r) m.stands b
    (λ q h. elim h [
      | inl same ↦ λ k. m.fresh p (inl refl) (sym k ∙ ap keys same ∙ m.key_is)
      | inr n ↦ m.stands.laid.5 q n
    ]))
    (λ q h. elim h [
      | inl x ↦ inr (inl x)
      | inr y ↦ elim y [
        | inl z ↦ inr (inr (inl z))
        | inr z ↦ elim z [ inl v ↦ inl v | inr w ↦ inr (inr (inr w)) ]
      ]
    ])
    (λ q h. elim h [
      | inl x ↦ inr (inr (inl x))
      | inr y ↦ elim y [
        | inl z ↦ inl z
        | inr z ↦ elim z [ inl v ↦ inr (inl v) | inr w ↦ inr (inr (inr w)) ]
      ]
    ]))
