-- What a change of one half makes of a tree.
use Rattle.std.proofs.Common.{◌≡◌, ◌≢◌, ℕ, ◌+◌, ◌-◌, ◌/◌, ◌<◌, ◌⊎◌, inl, inr, refl, sym, ap}
use Rattle.std.proofs.Common.{◌∙◌, subst, arith, List, length, set}
use Rattle.std.proofs.lemmas.List.{get_or-set_same, get_or-set_other, length-set}
use Rattle.ea_keytree.specs.declared.nodes.Node.{Node}
use Rattle.ea_keytree.specs.Trees.{Tree, node, Has, Shows, IsTree, Becomes}
use Rattle.ea_keytree.specs.Trees.{blank, node_at}
use Rattle.ea_keytree.proofs.Standing.{apart, shows_agree, same_length, stored-set}

-- the lower half was changed, and then its link
pub changed_low : (keys : ℕ → ℕ) (old mid : List Node) (l : Tree) (p : ℕ) (r : Tree)
    (link from width low : ℕ) (M : ℕ → Type 0) → IsTree keys old link from width (node l p r)
    → Becomes keys old mid l low from (width / 2) M → ((q : ℕ) → M q → keys q ≢ keys p)
    → Becomes keys old
    (set mid p (record { key = (node_at mid p).key; low = low; high = (node_at mid p).high }))
    (node l p r) link from width (λ q. (q ≡ p) ⊎ (M q ⊎ Has q r))
changed_low keys old mid l p r link from width low M i b differ =
    let X : Node = record
    { key = (node_at mid p).key; low = low; high = (node_at mid p).high } in
    let long : length mid ≡ length old = same_length old mid b.stored in
    let long_set : length (set mid p X) ≡ length mid = length-set mid p X in
    let inside : p < length mid = omega (arith, i.shown.1) in
    let here : node_at (set mid p X) p ≡ X = get_or-set_same mid p X blank inside in
    let there : (q : ℕ) → q ≢ p → node_at (set mid p X) q ≡ node_at mid q = λ q ne.
    get_or-set_other mid p q X blank ne in
    let kept : node_at mid p ≡ node_at old p = b.others p (λ m. i.laid.4 p m refl) in
    record {
      tree = node b.tree p r;
      shown = (
        i.shown.0,
        omega arith,
        subst (λ (n : Node). Shows (set mid p X) n.low b.tree) (sym here)
            (shows_agree mid (set mid p X) low b.tree long_set
            (λ q m. there q (λ e. differ q (b.has q m) (ap keys e))) b.shown),
        subst (λ (n : Node). Shows (set mid p X) n.high r) (sym here)
            (subst (λ (n : Node). Shows (set mid p X) n.high r) (sym kept)
            (shows_agree old (set mid p X) (node_at old p).high r (long_set ∙ long)
            (λ q m. there q (λ e. i.laid.5 q m (ap keys e))
            ∙ b.others q (apart keys from width l p r i.laid q m)) i.shown.3)),
      );
      laid = (
        i.laid.0,
        i.laid.1,
        b.laid,
        i.laid.3,
        λ q m. differ q (b.has q m),
        i.laid.5,
      );
      has = λ q h. elim h [
        | inl e ↦ inl e
        | inr m ↦ elim m [ inl x ↦ inr (inl (b.has q x)) | inr y ↦ inr (inr y) ]
      ];
      held = λ q h. elim h [
        | inl e ↦ inl e
        | inr m ↦ elim m [ inl x ↦ inr (inl (b.held q x)) | inr y ↦ inr (inr y) ]
      ];
      others = λ q n. there q (λ e. n (inl e)) ∙ b.others q (λ m. n (inr (inl m)));
      stored = stored-set mid p low (node_at mid p).high ∙ b.stored;
    }

-- the upper half was changed, and then its link
pub changed_high : (keys : ℕ → ℕ) (old mid : List Node) (l : Tree) (p : ℕ) (r : Tree)
    (link from width high : ℕ) (M : ℕ → Type 0) → IsTree keys old link from width (node l p r)
    → Becomes keys old mid r high (from + width / 2) (width - width / 2) M
    → ((q : ℕ) → M q → keys q ≢ keys p)
    → Becomes keys old
    (set mid p (record { key = (node_at mid p).key; low = (node_at mid p).low; high = high }))
    (node l p r) link from width (λ q. (q ≡ p) ⊎ (Has q l ⊎ M q))
changed_high keys old mid l p r link from width high M i b differ =
    let X : Node = record
    { key = (node_at mid p).key; low = (node_at mid p).low; high = high } in
    let long : length mid ≡ length old = same_length old mid b.stored in
    let long_set : length (set mid p X) ≡ length mid = length-set mid p X in
    let inside : p < length mid = omega (arith, i.shown.1) in
    let here : node_at (set mid p X) p ≡ X = get_or-set_same mid p X blank inside in
    let there : (q : ℕ) → q ≢ p → node_at (set mid p X) q ≡ node_at mid q = λ q ne.
    get_or-set_other mid p q X blank ne in
    let kept : node_at mid p ≡ node_at old p = b.others p (λ m. i.laid.5 p m refl) in
    record {
      tree = node l p b.tree;
      shown = (
        i.shown.0,
        omega arith,
        subst (λ (n : Node). Shows (set mid p X) n.low l) (sym here)
            (subst (λ (n : Node). Shows (set mid p X) n.low l) (sym kept)
            (shows_agree old (set mid p X) (node_at old p).low l (long_set ∙ long)
            (λ q m. there q (λ e. i.laid.4 q m (ap keys e))
            ∙ b.others q (λ n. apart keys from width l p r i.laid q n m)) i.shown.2)),
        subst (λ (n : Node). Shows (set mid p X) n.high b.tree) (sym here)
            (shows_agree mid (set mid p X) high b.tree long_set
            (λ q m. there q (λ e. differ q (b.has q m) (ap keys e))) b.shown),
      );
      laid = (
        i.laid.0,
        i.laid.1,
        i.laid.2,
        b.laid,
        i.laid.4,
        λ q m. differ q (b.has q m),
      );
      has = λ q h. elim h [
        | inl e ↦ inl e
        | inr m ↦ elim m [ inl x ↦ inr (inl x) | inr y ↦ inr (inr (b.has q y)) ]
      ];
      held = λ q h. elim h [
        | inl e ↦ inl e
        | inr m ↦ elim m [ inl x ↦ inr (inl x) | inr y ↦ inr (inr (b.held q y)) ]
      ];
      others = λ q n. there q (λ e. n (inl e)) ∙ b.others q (λ m. n (inr (inr m)));
      stored = stored-set mid p (node_at mid p).low high ∙ b.stored;
    }
