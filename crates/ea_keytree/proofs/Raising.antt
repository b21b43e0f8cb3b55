-- Taking the root out of a tree.
use Rattle.std.proofs.Common.{◌≡◌, ◌≢◌, ℕ, ◌+◌, ◌-◌, ◌/◌, ◌<◌, ◌⊎◌, inl, inr, refl, sym, ap}
use Rattle.std.proofs.Common.{◌∙◌, subst, arith, List, length, set}
use Rattle.std.proofs.lemmas.List.{get_or-set_same, get_or-set_other, length-set}
use Rattle.ea_keytree.specs.declared.nodes.Node.{Node}
use Rattle.ea_keytree.specs.Trees.{Tree, leaf, node, Has, Shows, Laid, IsTree, Becomes, MayRaise}
use Rattle.ea_keytree.specs.Trees.{blank, node_at}
use Rattle.ea_keytree.proofs.Standing.{within, apart, shows_agree, same_length, stored-set}

pub raise_bounds : (keys : ℕ → ℕ) (nodes : List Node) (link from width : ℕ) (t : Tree)
    → MayRaise keys nodes link from width t → link - 1 < length nodes
raise_bounds keys nodes link from width leaf m = absurd (omega (arith, m.stands.shown, m.some))
raise_bounds keys nodes link from width (node l p r) m =
    omega (arith, m.stands.shown.0, m.stands.shown.1)

-- the trees below may be raised too
low_part : (keys : ℕ → ℕ) (nodes : List Node) (link from width : ℕ) (l : Tree) (p : ℕ) (r : Tree)
    → MayRaise keys nodes link from width (node l p r) → (node_at nodes (link - 1)).low ≢ 0
    → MayRaise keys nodes (node_at nodes (link - 1)).low from (width / 2) l
low_part keys nodes link from width l p r m ne =
    let e : link - 1 ≡ p = omega (arith, m.stands.shown.0) in
    record {
      stands = record {
        shown = subst (λ x. Shows nodes (node_at nodes x).low l) (sym e) m.stands.shown.2;
        laid = m.stands.laid.2;
      };
      some = omega (arith, ne);
    }

high_part : (keys : ℕ → ℕ) (nodes : List Node) (link from width : ℕ) (l : Tree) (p : ℕ) (r : Tree)
    → MayRaise keys nodes link from width (node l p r) → (node_at nodes (link - 1)).high ≢ 0
    → MayRaise keys nodes (node_at nodes (link - 1)).high (from + width / 2) (width - width / 2) r
high_part keys nodes link from width l p r m ne =
    let e : link - 1 ≡ p = omega (arith, m.stands.shown.0) in
    record {
      stands = record {
        shown = subst (λ x. Shows nodes (node_at nodes x).high r) (sym e) m.stands.shown.3;
        laid = m.stands.laid.3;
      };
      some = omega (arith, ne);
    }

pub raise_low_may : (keys : ℕ → ℕ) (nodes : List Node) (link from width : ℕ) (t : Tree)
    → MayRaise keys nodes link from width t → (node_at nodes (link - 1)).low ≢ 0
    → (width / 2 < width) × ((node_at nodes (link - 1)).low - 1 < length nodes)
    × ((x : ℕ → ℕ) × ((f : ℕ) × ((u : Tree)
    × MayRaise x nodes (node_at nodes (link - 1)).low f (width / 2) u)))
raise_low_may keys nodes link from width leaf m ne =
    absurd (omega (arith, m.stands.shown, m.some))
raise_low_may keys nodes link from width (node l p r) m ne =
    let part = low_part keys nodes link from width l p r m ne in (
      omega (arith, m.stands.laid.0, m.stands.laid.1),
      raise_bounds keys nodes (node_at nodes (link - 1)).low from (width / 2) l part,
      (keys, (from, (l, part))),
    )

-- a tree that two positions stand in has at least two keys
two_wide : (keys : ℕ → ℕ) (from width : ℕ) (l : Tree) (p : ℕ) (r : Tree)
    → Laid keys from width (node l p r) → (q : ℕ) → Has q r → 1 < width
two_wide keys from width l p r h q m =
    let w = within keys (from + width / 2) (width - width / 2) r h.3 q m in
    omega (arith, h.0, h.1, h.5 q m)

some_in : (nodes : List Node) (link : ℕ) (t : Tree) → Shows nodes link t → 0 < link
    → (q : ℕ) × Has q t
some_in nodes link leaf s lt = absurd (omega (arith, s, lt))
some_in nodes link (node l p r) s lt = (p, inl refl)

pub wide : (keys : ℕ → ℕ) (nodes : List Node) (link from width : ℕ) (l : Tree) (p : ℕ) (r : Tree)
    → IsTree keys nodes link from width (node l p r) → 0 < (node_at nodes (link - 1)).high
    → 1 < width
wide keys nodes link from width l p r i lt =
    let e : link - 1 ≡ p = omega (arith, i.shown.0) in
    let s = some_in nodes (node_at nodes (link - 1)).high r
    (subst (λ x. Shows nodes (node_at nodes x).high r) (sym e) i.shown.3) lt in
    two_wide keys from width l p r i.laid s.0 s.1

pub raise_high_may : (keys : ℕ → ℕ) (nodes : List Node) (link from width : ℕ) (t : Tree)
    → MayRaise keys nodes link from width t → (node_at nodes (link - 1)).high ≢ 0
    → (width - width / 2 < width) × ((node_at nodes (link - 1)).high - 1 < length nodes)
    × ((x : ℕ → ℕ) × ((f : ℕ) × ((u : Tree)
    × MayRaise x nodes (node_at nodes (link - 1)).high f (width - width / 2) u)))
raise_high_may keys nodes link from width leaf m ne =
    absurd (omega (arith, m.stands.shown, m.some))
raise_high_may keys nodes link from width (node l p r) m ne =
    let part = high_part keys nodes link from width l p r m ne in (
      omega (arith, wide keys nodes link from width l p r m.stands part.some),
      raise_bounds keys nodes (node_at nodes (link - 1)).high (from + width / 2)
          (width - width / 2) r part,
      (keys, (from + width / 2, (r, part))),
    )

-- a root alone
pub raise_last : (keys : ℕ → ℕ) (nodes : List Node) (link from width : ℕ) (t : Tree)
    → MayRaise keys nodes link from width t → (node_at nodes (link - 1)).low ≡ 0
    → (node_at nodes (link - 1)).high ≡ 0
    → Becomes keys nodes nodes t 0 from width (λ q. Has q t × (q + 1 ≢ link))
raise_last keys nodes link from width leaf m el eh =
    absurd (omega (arith, m.stands.shown, m.some))
raise_last keys nodes link from width (node leaf p leaf) m el eh = record {
  tree = leaf;
  shown = refl;
  laid = tt;
  has = λ q n. absurd n;
  held = λ q h. elim h.0 [
    | inl e ↦ h.1 (omega (arith, m.stands.shown.0, e))
    | inr n ↦ elim n [ inl x ↦ absurd x | inr y ↦ absurd y ]
  ];
  others = λ q n. refl;
  stored = refl;
}
raise_last keys nodes link from width (node leaf p (node l q r)) m el eh =
    let e : link - 1 ≡ p = omega (arith, m.stands.shown.0) in
    absurd
    (omega (arith, eh, ap (λ x. (node_at nodes x).high) e, m.stands.shown.3.0))
raise_last keys nodes link from width (node (node l q s) p r) m el eh =
    let e : link - 1 ≡ p = omega (arith, m.stands.shown.0) in
    absurd
    (omega (arith, el, ap (λ x. (node_at nodes x).low) e, m.stands.shown.2.0))

-- the root of the lower half goes up
raised_low : (keys : ℕ → ℕ) (old mid : List Node) (l : Tree) (q : ℕ) (s : Tree) (p : ℕ) (r : Tree)
    (link from width low : ℕ) → IsTree keys old link from width (node (node l q s) p r)
    → Becomes keys old mid (node l q s) low from (width / 2)
    (λ x. Has x (node l q s) × (x + 1 ≢ q + 1))
    → Becomes keys old
    (set mid q (record { key = (node_at mid q).key; low = low; high = (node_at old p).high }))
    (node (node l q s) p r) (q + 1) from width
    (λ x. Has x (node (node l q s) p r) × (x + 1 ≢ link))
raised_low keys old mid l q s p r link from width low i b =
    let X : Node = record
    { key = (node_at mid q).key; low = low; high = (node_at old p).high } in
    let long : length mid ≡ length old = same_length old mid b.stored in
    let long_set : length (set mid q X) ≡ length mid = length-set mid q X in
    let inside : q < length mid = omega (arith, i.shown.2.1) in
    let here : node_at (set mid q X) q ≡ X = get_or-set_same mid q X blank inside in
    let there : (x : ℕ) → x ≢ q → node_at (set mid q X) x ≡ node_at mid x = λ x ne.
    get_or-set_other mid q x X blank ne in
    let below : (x : ℕ) → Has x l ⊎ Has x s → keys x ≢ keys q = λ x h. elim h [
      | inl m ↦ i.laid.2.4 x m
      | inr m ↦ i.laid.2.5 x m
    ] in
    let beside : (x : ℕ) → Has x r → Has x (node l q s) → ⊥ =
    apart keys from width (node l q s) p r i.laid in
    let upper : (x : ℕ) → Has x r → x ≢ q = λ x m e. beside x m (inl e) in
    record {
      tree = node b.tree q r;
      shown = (
        refl,
        omega arith,
        subst (λ (n : Node). Shows (set mid q X) n.low b.tree) (sym here)
            (shows_agree mid (set mid q X) low b.tree long_set
            (λ x m. there x (λ e. (b.has x m).1 (ap (λ y. y + 1) e))) b.shown),
        subst (λ (n : Node). Shows (set mid q X) n.high r) (sym here)
            (shows_agree old (set mid q X) (node_at old p).high r (long_set ∙ long)
            (λ x m. there x (upper x m) ∙ b.others x (beside x m)) i.shown.3),
      );
      laid = (
        i.laid.2.0,
        omega (arith, i.laid.2.1),
        b.laid,
        i.laid.3,
        λ x m. elim (b.has x m).0 [
          | inl e ↦ λ _. (b.has x m).1 (ap (λ y. y + 1) e)
          | inr n ↦ below x n
        ],
        λ x m e.
            let w = within keys (from + width / 2) (width - width / 2) r i.laid.3 x m in
            absurd (omega (arith, w, e, i.laid.2.1)),
      );
      has = λ x h. elim h [
        | inl e ↦ (
          inr (inl (inl e)),
          λ f. i.laid.4 x (inl e) (ap keys (omega (arith, f, i.shown.0))),
        )
        | inr n ↦ elim n [
          | inl m ↦ (
            inr (inl (b.has x m).0),
            λ f. i.laid.4 x (b.has x m).0 (ap keys (omega (arith, f, i.shown.0))),
          )
          | inr m ↦ (
            inr (inr m),
            λ f. i.laid.5 x m (ap keys (omega (arith, f, i.shown.0))),
          )
        ]
      ];
      held = λ x h. elim h.0 [
        | inl e ↦ absurd (h.1 (omega (arith, e, i.shown.0)))
        | inr n ↦ elim n [
          | inl m ↦ elim m [
            | inl e ↦ inl e
            | inr k ↦ inr (inl (b.held x (inr k, λ f. below x k (ap keys (omega (arith, f))))))
          ]
          | inr m ↦ inr (inr m)
        ]
      ];
      others = λ x n. there x (λ e. n (inr (inl (inl e)))) ∙ b.others x (λ m. n (inr (inl m)));
      stored = stored-set mid q low (node_at old p).high ∙ b.stored;
    }

-- the root of the upper half goes up
raised_high : (keys : ℕ → ℕ) (old mid : List Node) (p : ℕ) (l : Tree) (q : ℕ) (s : Tree)
    (link from width high : ℕ) → IsTree keys old link from width (node leaf p (node l q s))
    → Becomes keys old mid (node l q s) high (from + width / 2) (width - width / 2)
    (λ x. Has x (node l q s) × (x + 1 ≢ q + 1))
    → Becomes keys old
    (set mid q (record { key = (node_at mid q).key; low = 0; high = high }))
    (node leaf p (node l q s)) (q + 1) from width
    (λ x. Has x (node leaf p (node l q s)) × (x + 1 ≢ link))
raised_high keys old mid p l q s link from width high i b =
    let X : Node = record { key = (node_at mid q).key; low = 0; high = high } in
    let long : length mid ≡ length old = same_length old mid b.stored in
    let long_set : length (set mid q X) ≡ length mid = length-set mid q X in
    let inside : q < length mid = omega (arith, i.shown.3.1) in
    let here : node_at (set mid q X) q ≡ X = get_or-set_same mid q X blank inside in
    let there : (x : ℕ) → x ≢ q → node_at (set mid q X) x ≡ node_at mid x = λ x ne.
    get_or-set_other mid q x X blank ne in
    let below : (x : ℕ) → Has x l ⊎ Has x s → keys x ≢ keys q = λ x h. elim h [
      | inl m ↦ i.laid.3.4 x m
      | inr m ↦ i.laid.3.5 x m
    ] in
    record {
      tree = node leaf q b.tree;
      shown = (
        refl,
        omega arith,
        ap (λ (n : Node). n.low) here,
        subst (λ (n : Node). Shows (set mid q X) n.high b.tree) (sym here)
            (shows_agree mid (set mid q X) high b.tree long_set
            (λ x m. there x (λ e. (b.has x m).1 (ap (λ y. y + 1) e))) b.shown),
      );
      laid = (
        omega (arith, i.laid.3.0),
        omega (arith, i.laid.3.1),
        tt,
        b.laid,
        λ x n. absurd n,
        λ x m. elim (b.has x m).0 [
          | inl e ↦ λ _. (b.has x m).1 (ap (λ y. y + 1) e)
          | inr n ↦ below x n
        ],
      );
      has = λ x h. elim h [
        | inl e ↦ (
          inr (inr (inl e)),
          λ f. i.laid.5 x (inl e) (ap keys (omega (arith, f, i.shown.0))),
        )
        | inr n ↦ elim n [
          | inl m ↦ absurd m
          | inr m ↦ (
            inr (inr (b.has x m).0),
            λ f. i.laid.5 x (b.has x m).0 (ap keys (omega (arith, f, i.shown.0))),
          )
        ]
      ];
      held = λ x h. elim h.0 [
        | inl e ↦ absurd (h.1 (omega (arith, e, i.shown.0)))
        | inr n ↦ elim n [
          | inl m ↦ absurd m
          | inr m ↦ elim m [
            | inl e ↦ inl e
            | inr k ↦ inr (inr (b.held x (inr k, λ f. below x k (ap keys (omega (arith, f))))))
          ]
        ]
      ];
      others = λ x n. there x (λ e. n (inr (inr (inl e)))) ∙ b.others x (λ m. n (inr (inr m)));
      stored = stored-set mid q 0 high ∙ b.stored;
    }

pub raise_low : (keys : ℕ → ℕ) (old mid : List Node) (link from width low : ℕ) (t : Tree)
    → MayRaise keys old link from width t → (node_at old (link - 1)).low ≢ 0
    → ((x : ℕ → ℕ) (f : ℕ) (u : Tree)
    → MayRaise x old (node_at old (link - 1)).low f (width / 2) u
    → Becomes x old mid u low f (width / 2)
    (λ q. Has q u × (q + 1 ≢ (node_at old (link - 1)).low)))
    → Becomes keys old
    (set mid ((node_at old (link - 1)).low - 1) (record {
      key = (node_at mid ((node_at old (link - 1)).low - 1)).key;
      low = low;
      high = (node_at old (link - 1)).high;
    })) t (node_at old (link - 1)).low from width (λ q. Has q t × (q + 1 ≢ link))
raise_low keys old mid link from width low leaf m ne f =
    absurd (omega (arith, m.stands.shown, m.some))
raise_low keys old mid link from width low (node leaf p r) m ne f =
    let e : link - 1 ≡ p = omega (arith, m.stands.shown.0) in
    absurd (ne (ap (λ x. (node_at old x).low) e ∙ m.stands.shown.2))
raise_low keys old mid link from width low (node (node l q s) p r) m ne f =
    let e : p ≡ link - 1 = omega (arith, m.stands.shown.0) in
    let low_is : q + 1 ≡ (node_at old (link - 1)).low =
    sym m.stands.shown.2.0 ∙ ap (λ x. (node_at old x).low) e in
    let b = f keys from (node l q s) (low_part keys old link from width (node l q s) p r m ne) in
    let b' = subst (λ k. Becomes keys old mid (node l q s) low from (width / 2)
    (λ x. Has x (node l q s) × (x + 1 ≢ k))) (sym low_is) b in
    let c = raised_low keys old mid l q s p r link from width low m.stands b' in
    let d = subst (λ x. Becomes keys old
    (set mid q (record { key = (node_at mid q).key; low = low; high = (node_at old x).high }))
    (node (node l q s) p r) (q + 1) from width
    (λ x. Has x (node (node l q s) p r) × (x + 1 ≢ link))) e c in
    let at : q ≡ (node_at old (link - 1)).low - 1 = omega (arith, low_is) in
    subst (λ k. Becomes keys old
    (set mid ((node_at old (link - 1)).low - 1) (record {
      key = (node_at mid ((node_at old (link - 1)).low - 1)).key;
      low = low;
      high = (node_at old (link - 1)).high;
    })) (node (node l q s) p r) k from width
    (λ x. Has x (node (node l q s) p r) × (x + 1 ≢ link))) low_is
    (subst (λ y. Becomes keys old
    (set mid y (record
    { key = (node_at mid y).key; low = low; high = (node_at old (link - 1)).high }))
    (node (node l q s) p r) (q + 1) from width
    (λ x. Has x (node (node l q s) p r) × (x + 1 ≢ link))) at d)

pub raise_high : (keys : ℕ → ℕ) (old mid : List Node) (link from width high : ℕ) (t : Tree)
    → MayRaise keys old link from width t → (node_at old (link - 1)).low ≡ 0
    → (node_at old (link - 1)).high ≢ 0
    → ((x : ℕ → ℕ) (f : ℕ) (u : Tree)
    → MayRaise x old (node_at old (link - 1)).high f (width - width / 2) u
    → Becomes x old mid u high f (width - width / 2)
    (λ q. Has q u × (q + 1 ≢ (node_at old (link - 1)).high)))
    → Becomes keys old
    (set mid ((node_at old (link - 1)).high - 1) (record {
      key = (node_at mid ((node_at old (link - 1)).high - 1)).key;
      low = 0;
      high = high;
    })) t (node_at old (link - 1)).high from width (λ q. Has q t × (q + 1 ≢ link))
raise_high keys old mid link from width high leaf m el ne f =
    absurd (omega (arith, m.stands.shown, m.some))
raise_high keys old mid link from width high (node (node l q s) p r) m el ne f =
    let e : link - 1 ≡ p = omega (arith, m.stands.shown.0) in
    absurd (omega (arith, el, ap (λ x. (node_at old x).low) e, m.stands.shown.2.0))
raise_high keys old mid link from width high (node leaf p leaf) m el ne f =
    let e : link - 1 ≡ p = omega (arith, m.stands.shown.0) in
    absurd (ne (ap (λ x. (node_at old x).high) e ∙ m.stands.shown.3))
raise_high keys old mid link from width high (node leaf p (node l q s)) m el ne f =
    let e : p ≡ link - 1 = omega (arith, m.stands.shown.0) in
    let high_is : q + 1 ≡ (node_at old (link - 1)).high =
    sym m.stands.shown.3.0 ∙ ap (λ x. (node_at old x).high) e in
    let b = f keys (from + width / 2) (node l q s)
    (high_part keys old link from width leaf p (node l q s) m ne) in
    let b' = subst (λ k. Becomes keys old mid (node l q s) high (from + width / 2)
    (width - width / 2) (λ x. Has x (node l q s) × (x + 1 ≢ k))) (sym high_is) b in
    let c = raised_high keys old mid p l q s link from width high m.stands b' in
    let at : q ≡ (node_at old (link - 1)).high - 1 = omega (arith, high_is) in
    subst (λ k. Becomes keys old
    (set mid ((node_at old (link - 1)).high - 1) (record {
      key = (node_at mid ((node_at old (link - 1)).high - 1)).key;
      low = 0;
      high = high;
    })) (node leaf p (node l q s)) k from width
    (λ x. Has x (node leaf p (node l q s)) × (x + 1 ≢ link))) high_is
    (subst (λ y. Becomes keys old
    (set mid y (record { key = (node_at mid y).key; low = 0; high = high }))
    (node leaf p (node l q s)) (q + 1) from width
    (λ x. Has x (node leaf p (node l q s)) × (x + 1 ≢ link))) at c)
