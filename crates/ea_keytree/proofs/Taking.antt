-- Taking a key out of a tree.
use Rattle.std.proofs.Common.{◌≡◌, ◌≢◌, ℕ, ◌+◌, ◌-◌, ◌/◌, ◌<◌, ◌≤◌, ◌⊎◌, inl, inr, refl, sym}
use Rattle.std.proofs.Common.{ap, ◌∙◌, subst, arith, List, length, set}
use Rattle.ea_keytree.specs.declared.nodes.Node.{Node}
use Rattle.ea_keytree.specs.Trees.{Tree, leaf, node, Has, Shows, Becomes, MayTake}
use Rattle.ea_keytree.specs.Trees.{MayRaise, node_at}
use Rattle.ea_keytree.proofs.Standing.{renamed, within}
use Rattle.ea_keytree.proofs.Changes.{changed_low, changed_high}

pub take_some : (keys : ℕ → ℕ) (nodes : List Node) (link from width key : ℕ) (t : Tree)
    → MayTake keys nodes link from width key t → (0 < link) × (link - 1 < length nodes)
take_some keys nodes link from width key leaf m = absurd m.member.1.0
take_some keys nodes link from width key (node l p r) m =
    (omega (arith, m.stands.shown.0), omega (arith, m.stands.shown.0, m.stands.shown.1))

-- the key of the root
root_own : (keys : ℕ → ℕ) (nodes : List Node) (link from width key : ℕ) (l : Tree) (p : ℕ)
    (r : Tree) → MayTake keys nodes link from width key (node l p r)
    → (link - 1 ≡ p) × ((node_at nodes (link - 1)).key ≡ keys p)
root_own keys nodes link from width key l p r m =
    let e : link - 1 ≡ p = omega (arith, m.stands.shown.0) in
    (e, ap (λ x. (node_at nodes x).key) e ∙ m.own p (inl refl))

-- the root has it
pub take_root_may : (keys : ℕ → ℕ) (nodes : List Node) (link from width key : ℕ) (t : Tree)
    → MayTake keys nodes link from width key t
    → (x : ℕ → ℕ) × ((f : ℕ) × ((u : Tree) × MayRaise x nodes link f width u))
take_root_may keys nodes link from width key t m = (
  keys,
  (
    from,
    (
      t,
      record {
        stands = m.stands;
        some = (take_some keys nodes link from width key t m).0;
      },
    ),
  ),
)

pub take_root : (keys : ℕ → ℕ) (old new : List Node) (link from width key out : ℕ) (t : Tree)
    → MayTake keys old link from width key t → (node_at old (link - 1)).key ≡ key
    → ((x : ℕ → ℕ) (f : ℕ) (u : Tree) → MayRaise x old link f width u
    → Becomes x old new u out f width (λ q. Has q u × (q + 1 ≢ link)))
    → Becomes keys old new t out from width (λ q. Has q t × (keys q ≢ key))
take_root keys old new link from width key out leaf m e f = absurd m.member.1.0
take_root keys old new link from width key out (node l p r) m e f =
    let own = root_own keys old link from width key l p r m in
    let same : keys p ≡ key = sym own.1 ∙ e in
    let lt = (take_some keys old link from width key (node l p r) m).0 in
    renamed keys old new (node l p r) out from width
    (λ q. Has q (node l p r) × (q + 1 ≢ link))
    (λ q. Has q (node l p r) × (keys q ≢ key))
    (f keys from (node l p r) (record { stands = m.stands; some = lt }))
    (λ q h. (
      h.0,
      elim h.0 [
        | inl x ↦ absurd (h.1 (omega (arith, x, own.0, lt)))
        | inr n ↦ elim n [
          | inl x ↦ λ k. m.stands.laid.4 q x (k ∙ sym same)
          | inr x ↦ λ k. m.stands.laid.5 q x (k ∙ sym same)
        ]
      ],
    ))
    (λ q h. (h.0, λ k. h.1 (ap keys (omega (arith, k, own.0)) ∙ same)))

pub take_root_is : (keys : ℕ → ℕ) (nodes : List Node) (link from width key : ℕ) (t : Tree)
    → MayTake keys nodes link from width key t → (node_at nodes (link - 1)).key ≡ key
    → Has (link - 1) t × (keys (link - 1) ≡ key)
take_root_is keys nodes link from width key leaf m e = absurd m.member.1.0
take_root_is keys nodes link from width key (node l p r) m e =
    let own = root_own keys nodes link from width key l p r m in
    (inl own.0, ap keys own.0 ∙ sym own.1 ∙ e)

-- what the root hasn't is in the half where the key lies
low_part : (keys : ℕ → ℕ) (nodes : List Node) (link from width key : ℕ) (l : Tree) (p : ℕ)
    (r : Tree) → MayTake keys nodes link from width key (node l p r)
    → (node_at nodes (link - 1)).key ≢ key → key < from + width / 2
    → MayTake keys nodes (node_at nodes (link - 1)).low from (width / 2) key l
low_part keys nodes link from width key l p r m ne lt =
    let own = root_own keys nodes link from width key l p r m in
    let q : ℕ = m.member.0 in
    record {
      stands = record {
        shown = subst (λ x. Shows nodes (node_at nodes x).low l) (sym own.0) m.stands.shown.2;
        laid = m.stands.laid.2;
      };
      own = λ x h. m.own x (inr (inl h));
      member = (
        q,
        (
          elim m.member.1.0 [
            | inl same ↦ absurd (ne (own.1 ∙ sym (ap keys same) ∙ m.member.1.1))
            | inr n ↦ elim n [
              | inl x ↦ x
              | inr y ↦
                  let w = within keys _ _ r m.stands.laid.3 q y in
                  absurd (omega (arith, w, m.member.1.1, lt))
            ]
          ],
          m.member.1.1,
        ),
      );
    }

high_part : (keys : ℕ → ℕ) (nodes : List Node) (link from width key : ℕ) (l : Tree) (p : ℕ)
    (r : Tree) → MayTake keys nodes link from width key (node l p r)
    → (node_at nodes (link - 1)).key ≢ key → from + width / 2 ≤ key
    → MayTake keys nodes (node_at nodes (link - 1)).high (from + width / 2) (width - width / 2) key
    r
high_part keys nodes link from width key l p r m ne le =
    let own = root_own keys nodes link from width key l p r m in
    let q : ℕ = m.member.0 in
    record {
      stands = record {
        shown = subst (λ x. Shows nodes (node_at nodes x).high r) (sym own.0) m.stands.shown.3;
        laid = m.stands.laid.3;
      };
      own = λ x h. m.own x (inr (inr h));
      member = (
        q,
        (
          elim m.member.1.0 [
            | inl same ↦ absurd (ne (own.1 ∙ sym (ap keys same) ∙ m.member.1.1))
            | inr n ↦ elim n [
              | inl x ↦
                  let w = within keys from (width / 2) l m.stands.laid.2 q x in
                  absurd (omega (arith, w, m.member.1.1, le))
              | inr y ↦ y
            ]
          ],
          m.member.1.1,
        ),
      );
    }

pub take_low_may : (keys : ℕ → ℕ) (nodes : List Node) (link from width key : ℕ) (t : Tree)
    → MayTake keys nodes link from width key t → (node_at nodes (link - 1)).key ≢ key
    → key < from + width / 2
    → (width / 2 < width) × ((x : ℕ → ℕ) × ((u : Tree)
    × MayTake x nodes (node_at nodes (link - 1)).low from (width / 2) key u))
take_low_may keys nodes link from width key leaf m ne lt = absurd m.member.1.0
take_low_may keys nodes link from width key (node l p r) m ne lt = (
  omega (arith, m.stands.laid.0, m.stands.laid.1),
  (keys, (l, low_part keys nodes link from width key l p r m ne lt)),
)

pub take_high_may : (keys : ℕ → ℕ) (nodes : List Node) (link from width key : ℕ) (t : Tree)
    → MayTake keys nodes link from width key t → (node_at nodes (link - 1)).key ≢ key
    → from + width / 2 ≤ key
    → (width - width / 2 < width) × ((x : ℕ → ℕ) × ((u : Tree)
    × MayTake x nodes (node_at nodes (link - 1)).high (from + width / 2) (width - width / 2) key
    u))
take_high_may keys nodes link from width key leaf m ne le = absurd m.member.1.0
take_high_may keys nodes link from width key (node l p r) m ne le =
    let part = high_part keys nodes link from width key l p r m ne le in
    let q : ℕ = part.member.0 in
    let w = within keys (from + width / 2) (width - width / 2) r m.stands.laid.3 q
    part.member.1.0 in (
      omega
          (arith, w, m.stands.laid.0, m.stands.laid.1, m.stands.laid.5 q part.member.1.0),
      (keys, (r, part)),
    )

pub take_low : (keys : ℕ → ℕ) (old mid : List Node) (link from width key low : ℕ) (t : Tree)
    → MayTake keys old link from width key t → (node_at old (link - 1)).key ≢ key
    → key < from + width / 2
    → ((x : ℕ → ℕ) (u : Tree)
    → MayTake x old (node_at old (link - 1)).low from (width / 2) key u
    → Becomes x old mid u low from (width / 2) (λ q. Has q u × (x q ≢ key)))
    → Becomes keys old
    (set mid (link - 1) (record {
      key = (node_at mid (link - 1)).key;
      low = low;
      high = (node_at mid (link - 1)).high;
    })) t link from width (λ q. Has q t × (keys q ≢ key))
take_low keys old mid link from width key low leaf m ne lt f = absurd m.member.1.0
take_low keys old mid link from width key low (node l p r) m ne lt f =
    let own = root_own keys old link from width key l p r m in
    let part = low_part keys old link from width key l p r m ne lt in
    let b = f keys l part in
    subst (λ at. Becomes keys old
    (set mid at (record { key = (node_at mid at).key; low = low; high = (node_at mid at).high }))
    (node l p r) link from width (λ q. Has q (node l p r) × (keys q ≢ key))) (sym own.0)
    (renamed keys old _ (node l p r) link from width
    (λ q. (q ≡ p) ⊎ ((Has q l × (keys q ≢ key)) ⊎ Has q r))
    (λ q. Has q (node l p r) × (keys q ≢ key))
    (changed_low keys old mid l p r link from width low (λ q. Has q l × (keys q ≢ key)) m.stands b
    (λ q h. m.stands.laid.4 q h.0))
    (λ q h. elim h [
      | inl x ↦ (inl x, λ k. ne (own.1 ∙ sym (ap keys x) ∙ k))
      | inr y ↦ elim y [
        | inl z ↦ (inr (inl z.0), z.1)
        | inr z ↦ (
          inr (inr z),
          λ k.
              let w = within keys (from + width / 2) (width - width / 2) r m.stands.laid.3 q z in
              absurd (omega (arith, w, lt, k)),
        )
      ]
    ])
    (λ q h. elim h.0 [
      | inl x ↦ inl x
      | inr y ↦ elim y [ inl z ↦ inr (inl (z, h.1)) | inr z ↦ inr (inr z) ]
    ]))

pub take_high : (keys : ℕ → ℕ) (old mid : List Node) (link from width key high : ℕ) (t : Tree)
    → MayTake keys old link from width key t → (node_at old (link - 1)).key ≢ key
    → from + width / 2 ≤ key
    → ((x : ℕ → ℕ) (u : Tree)
    → MayTake x old (node_at old (link - 1)).high (from + width / 2) (width - width / 2) key u
    → Becomes x old mid u high (from + width / 2) (width - width / 2)
    (λ q. Has q u × (x q ≢ key)))
    → Becomes keys old
    (set mid (link - 1) (record {
      key = (node_at mid (link - 1)).key;
      low = (node_at mid (link - 1)).low;
      high = high;
    })) t link from width (λ q. Has q t × (keys q ≢ key))
take_high keys old mid link from width key high leaf m ne le f = absurd m.member.1.0
take_high keys old mid link from width key high (node l p r) m ne le f =
    let own = root_own keys old link from width key l p r m in
    let part = high_part keys old link from width key l p r m ne le in
    let b = f keys r part in
    subst (λ at. Becomes keys old
    (set mid at (record { key = (node_at mid at).key; low = (node_at mid at).low; high = high }))
    (node l p r) link from width (λ q. Has q (node l p r) × (keys q ≢ key))) (sym own.0)
    (renamed keys old _ (node l p r) link from width
    (λ q. (q ≡ p) ⊎ (Has q l ⊎ (Has q r × (keys q ≢ key))))
    (λ q. Has q (node l p r) × (keys q ≢ key))
    (changed_high keys old mid l p r link from width high (λ q. Has q r × (keys q ≢ key)) m.stands b
    (λ q h. m.stands.laid.5 q h.0))
    (λ q h. elim h [
      | inl x ↦ (inl x, λ k. ne (own.1 ∙ sym (ap keys x) ∙ k))
      | inr y ↦ elim y [
        | inl z ↦ (
          inr (inl z),
          λ k.
              let w = within keys from (width / 2) l m.stands.laid.2 q z in
              absurd (omega (arith, w, le, k)),
        )
        | inr z ↦ (inr (inr z.0), z.1)
      ]
    ])
    (λ q h. elim h.0 [
      | inl x ↦ inl x
      | inr y ↦ elim y [ inl z ↦ inr (inl z) | inr z ↦ inr (inr (z, h.1)) ]
    ]))

-- where the key was found
pub found_low : (keys : ℕ → ℕ) (nodes : List Node) (link from width key position : ℕ) (t : Tree)
    → MayTake keys nodes link from width key t → (node_at nodes (link - 1)).key ≢ key
    → key < from + width / 2
    → ((x : ℕ → ℕ) (u : Tree)
    → MayTake x nodes (node_at nodes (link - 1)).low from (width / 2) key u
    → Has position u × (x position ≡ key))
    → Has position t × (keys position ≡ key)
found_low keys nodes link from width key position leaf m ne lt f = absurd m.member.1.0
found_low keys nodes link from width key position (node l p r) m ne lt f =
    let h = f keys l (low_part keys nodes link from width key l p r m ne lt) in
    (inr (inl h.0), h.1)

pub found_high : (keys : ℕ → ℕ) (nodes : List Node) (link from width key position : ℕ) (t : Tree)
    → MayTake keys nodes link from width key t → (node_at nodes (link - 1)).key ≢ key
    → from + width / 2 ≤ key
    → ((x : ℕ → ℕ) (u : Tree)
    → MayTake x nodes (node_at nodes (link - 1)).high (from + width / 2) (width - width / 2) key u
    → Has position u × (x position ≡ key))
    → Has position t × (keys position ≡ key)
found_high keys nodes link from width key position leaf m ne le f = absurd m.member.1.0
found_high keys nodes link from width key position (node l p r) m ne le f =
    let h = f keys r (high_part keys nodes link from width key l p r m ne le) in
    (inr (inr h.0), h.1)
