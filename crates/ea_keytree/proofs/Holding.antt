-- The nodes of a tree of keys.
use Rattle.std.proofs.Common.{◌≡◌, ◌≢◌, ℕ, ◌+◌, ◌-◌, ◌^◌, ◌<◌, ◌≤◌, ◌⊎◌, ◌==◌, inl, inr, refl, sym, ap}
use Rattle.std.proofs.Common.{◌∙◌, subst, arith, List, [], ◌∷◌, ◌++◌, length, set, get_or, replicate}
use Rattle.std.proofs.Common.{zero, suc, ◌/◌, map, Option, Some, None, if◌then◌else◌, All, Contains}
use Rattle.std.proofs.lemmas.List.{get_or-set_same, get_or-set_other, length-set, length-map}
use Rattle.std.proofs.lemmas.List.{map-set, get_or_past, get_or_default, get_or_append_left}
use Rattle.std.proofs.lemmas.List.{get_or-map, length-append}
use Rattle.std.proofs.Math.Seq.{get_or-append_seam}
use Rattle.std.proofs.lemmas.List.Elements.{All-get_or}
use Rattle.std.proofs.lemmas.Bool.{cases_eq, cases_lt}
use Rattle.std.proofs.lemmas.Bool.Decides.{nat_tests}
use Rattle.ea_keytree.specs.declared.nodes.Node.{Node}
use Rattle.ea_keytree.specs.declared.tree.Found.{Found}
use Rattle.ea_keytree.specs.declared.searches.Reached.{Reached}
use Rattle.ea_keytree.specs.Keys.{KeysHeld, IsFirstFrom, IsLastUpTo}
use Rattle.ea_keytree.specs.Trees.{Tree, leaf, node, Has, Shows, Laid, IsTree, Becomes, MayPut}
use Rattle.ea_keytree.specs.Trees.{MayTake, IsLeast, IsGreatest, IsKeyTree, blank, node_at, key_at}
use Rattle.ea_keytree.specs.Trees.{key_of, stored_in, free_key, held_by, held_in}
use Rattle.ea_keytree.proofs.Standing.{shows_agree, same_length, within}

-- what a node holds
holds : (n : Node) (k : ℕ) → held_by n ≡ Some k → (n.key ≡ k) × (n.key ≢ free_key)
holds n k e = elim (cases_eq n.key free_key) [
  | inl same ↦
      let f : held_by n ≡ None = grind (arith, nat_tests) in
      absurd (grind arith)
  | inr ne ↦
      let f : held_by n ≡ Some n.key = grind (arith, nat_tests) in
      (grind arith, ne)
]

holding : (n : Node) → n.key ≢ free_key → held_by n ≡ Some n.key
holding n ne = grind (arith, nat_tests)

-- what the positions hold
held-at : (nodes : List Node) (p : ℕ) → p < length nodes
    → get_or (held_in nodes) p None ≡ held_by (node_at nodes p)
held-at nodes p lt = get_or-map held_by nodes p blank None lt

held_within : (nodes : List Node) (p k : ℕ) → get_or (held_in nodes) p None ≡ Some k
    → p < length nodes
held_within nodes p k e = elim (cases_lt p (length nodes)) [
  | inl lt ↦ lt
  | inr le ↦
      let f = get_or_past (held_in nodes) p None (omega (arith, le, length-map nodes held_by)) in
      absurd (grind arith)
]

-- a position that holds the key
held_key : (nodes : List Node) (p k : ℕ) → get_or (held_in nodes) p None ≡ Some k
    → (p < length nodes) × (key_at nodes p ≡ k) × (key_at nodes p ≢ free_key)
held_key nodes p k e =
    let lt = held_within nodes p k e in
    let h = holds (node_at nodes p) k (sym (held-at nodes p lt) ∙ e) in
    (lt, h.0, h.1)

shown_within : (nodes : List Node) (link : ℕ) (t : Tree) → Shows nodes link t → (q : ℕ) → Has q t
    → q < length nodes
shown_within nodes link leaf s q h = absurd h
shown_within nodes link (node l p r) s q (inl e) = omega (arith, s.1, e)
shown_within nodes link (node l p r) s q (inr (inl h)) =
    shown_within nodes (node_at nodes p).low l s.2 q h
shown_within nodes link (node l p r) s q (inr (inr h)) =
    shown_within nodes (node_at nodes p).high r s.3 q h

-- a member holds its key
member : (width : ℕ) (nodes : List Node) (root : ℕ) (m : IsKeyTree width nodes root)
    → width ≤ free_key → (q : ℕ) → Has q m.tree
    → (q < length nodes) × (key_at nodes q < width)
    × (get_or (held_in nodes) q None ≡ Some (key_at nodes q))
member width nodes root m fits q h =
    let lt = shown_within nodes root m.tree m.stands.shown q h in
    let w = within (key_at nodes) 0 width m.tree m.stands.laid q h in (
      lt,
      omega (arith, w),
      held-at nodes q lt ∙ holding (node_at nodes q) (omega (arith, w, fits)),
    )

-- and what holds a key is a member
holder : (width : ℕ) (nodes : List Node) (root : ℕ) (m : IsKeyTree width nodes root)
    → (q k : ℕ) → get_or (held_in nodes) q None ≡ Some k
    → Has q m.tree × (key_at nodes q ≡ k)
holder width nodes root m q k e =
    let h = held_key nodes q k e in (m.held q h.0 h.2, h.1)

-- the same tree with keys that are the same
laid_agree : (keys others : ℕ → ℕ) (from width : ℕ) (t : Tree)
    → ((q : ℕ) → Has q t → others q ≡ keys q) → Laid keys from width t
    → Laid others from width t
laid_agree keys others from width leaf a h = tt
laid_agree keys others from width (node l p r) a h = (
  omega (arith, h.0, a p (inl refl)),
  omega (arith, h.1, a p (inl refl)),
  laid_agree keys others from (width / 2) l (λ q m. a q (inr (inl m))) h.2,
  laid_agree keys others (from + width / 2) (width - width / 2) r (λ q m. a q (inr (inr m))) h.3,
  λ q m e. h.4 q m (sym (a q (inr (inl m))) ∙ e ∙ a p (inl refl)),
  λ q m e. h.5 q m (sym (a q (inr (inr m))) ∙ e ∙ a p (inl refl)),
)

-- no two positions of a tree have one key
distinct : (keys : ℕ → ℕ) (from width : ℕ) (t : Tree) → Laid keys from width t → (p q : ℕ)
    → Has p t → Has q t → keys p ≡ keys q → p ≡ q
distinct keys from width leaf h p q a b e = absurd a
distinct keys from width (node l x r) h p q (inl a) (inl b) e = a ∙ sym b
distinct keys from width (node l x r) h p q (inl a) (inr (inl b)) e =
    absurd (h.4 q b (sym e ∙ ap keys a))
distinct keys from width (node l x r) h p q (inl a) (inr (inr b)) e =
    absurd (h.5 q b (sym e ∙ ap keys a))
distinct keys from width (node l x r) h p q (inr (inl a)) (inl b) e =
    absurd (h.4 p a (e ∙ ap keys b))
distinct keys from width (node l x r) h p q (inr (inr a)) (inl b) e =
    absurd (h.5 p a (e ∙ ap keys b))
distinct keys from width (node l x r) h p q (inr (inl a)) (inr (inl b)) e =
    distinct keys from (width / 2) l h.2 p q a b e
distinct keys from width (node l x r) h p q (inr (inr a)) (inr (inr b)) e =
    distinct keys (from + width / 2) (width - width / 2) r h.3 p q a b e
distinct keys from width (node l x r) h p q (inr (inl a)) (inr (inr b)) e =
    let v = within keys from (width / 2) l h.2 p a in
    let w = within keys (from + width / 2) (width - width / 2) r h.3 q b in
    absurd (omega arith)
distinct keys from width (node l x r) h p q (inr (inr a)) (inr (inl b)) e =
    let v = within keys from (width / 2) l h.2 q b in
    let w = within keys (from + width / 2) (width - width / 2) r h.3 p a in
    absurd (omega arith)

-- nodes that store the same keys
stored-at : (nodes : List Node) (p : ℕ) → key_at nodes p ≡ get_or (stored_in nodes) p 0
stored-at [] p = refl
stored-at (n ∷ ns) zero = refl
stored-at (n ∷ ns) (suc p) = stored-at ns p

same_key : (old new : List Node) → stored_in new ≡ stored_in old → (p : ℕ)
    → key_at new p ≡ key_at old p
same_key old new e p =
    stored-at new p ∙ ap (λ (xs : List ℕ). get_or xs p 0) e ∙ sym (stored-at old p)

held_key_of : ℕ → Option ℕ
held_key_of k = if k == free_key then None else Some k

held-stored : (nodes : List Node) → held_in nodes ≡ map held_key_of (stored_in nodes)
unfolding held_key_of
held-stored [] = refl
held-stored (n ∷ ns) = ap (λ (xs : List (Option ℕ)). held_by n ∷ xs) (held-stored ns)

same_held : (old new : List Node) → stored_in new ≡ stored_in old → held_in new ≡ held_in old
same_held old new e =
    held-stored new ∙ ap (map held_key_of) e ∙ sym (held-stored old)

-- the least key that is great enough
pub first_found : (width : ℕ) (nodes start : List Node) (keys : List (Option ℕ)) (root bound : ℕ)
    (none first : Found) → held_in nodes ≡ keys → IsKeyTree width nodes root → width ≤ free_key
    → start ≡ nodes → none.key ≡ free_key
    → ((t : Tree) → IsTree (key_at start) start root 0 width t
    → IsLeast (key_at start) bound t none first) → first.key ≢ free_key
    → IsFirstFrom bound keys first
first_found width nodes start keys root bound none first v m fits es en f ne =
    let j = rw es at (f m.tree (rw es m.stands)) in
    let met : Has first.position m.tree
    × ((key_at nodes first.position ≡ first.key) × (bound ≤ first.key)) = elim j.met [
      | inl e ↦ absurd (ne (ap (λ (x : Found). x.key) e ∙ en))
      | inr h ↦ h
    ] in
    let w = member width nodes root m fits first.position met.0 in
    subst (λ (x : List (Option ℕ)). IsFirstFrom bound x first) v (record {
      held = w.2 ∙ ap Some met.1.0;
      within = omega (arith, w.0, length-map nodes held_by);
      great = met.1.1;
      least = λ q k e b.
          let h = holder width nodes root m q k e in
          omega (arith, j.least q h.0 (omega (arith, h.1, b)), h.1);
    })

pub first_none : (width : ℕ) (nodes start : List Node) (keys : List (Option ℕ)) (root bound : ℕ)
    (none first : Found) → held_in nodes ≡ keys → IsKeyTree width nodes root → width ≤ free_key
    → start ≡ nodes
    → ((t : Tree) → IsTree (key_at start) start root 0 width t
    → IsLeast (key_at start) bound t none first) → first.key ≡ free_key
    → (q k : ℕ) → get_or keys q None ≡ Some k → k < bound
first_none width nodes start keys root bound none first v m fits es f e q k held =
    let j = rw es at (f m.tree (rw es m.stands)) in
    let h = holder width nodes root m q k
    (subst (λ (x : List (Option ℕ)). get_or x q None ≡ Some k) (sym v) held) in
    let w = member width nodes root m fits q h.0 in
    elim (cases_lt k bound) [
      | inl lt ↦ lt
      | inr le ↦
          absurd
          (omega (arith, j.least q h.0 (omega (arith, le, h.1)), e, w.1, fits))
    ]

-- the greatest key that is small enough
pub last_found : (width : ℕ) (nodes start : List Node) (keys : List (Option ℕ)) (root bound : ℕ)
    (none last : Reached) → held_in nodes ≡ keys → IsKeyTree width nodes root → width ≤ free_key
    → start ≡ nodes → none.after ≡ 0
    → ((t : Tree) → IsTree (key_at start) start root 0 width t
    → IsGreatest (key_at start) bound t none last) → last.after ≢ 0
    → IsLastUpTo bound keys (record { key = last.after - 1; position = last.position })
last_found width nodes start keys root bound none last v m fits es en f ne =
    let j = rw es at (f m.tree (rw es m.stands)) in
    let met : Has last.position m.tree × ((key_at nodes last.position + 1 ≡ last.after)
    × (key_at nodes last.position ≤ bound)) = elim j.met [
      | inl e ↦ absurd (ne (ap (λ (x : Reached). x.after) e ∙ en))
      | inr h ↦ h
    ] in
    let w = member width nodes root m fits last.position met.0 in
    subst (λ (x : List (Option ℕ)). IsLastUpTo bound x
    (record { key = last.after - 1; position = last.position })) v (record {
      held = w.2 ∙ ap Some (omega (arith, met.1.0));
      within = omega (arith, w.0, length-map nodes held_by);
      small = omega (arith, met.1);
      greatest = λ q k e b.
          let h = holder width nodes root m q k e in
          omega (arith, j.greatest q h.0 (omega (arith, h.1, b)), h.1);
    })

pub last_none : (width : ℕ) (nodes start : List Node) (keys : List (Option ℕ)) (root bound : ℕ)
    (none last : Reached) → held_in nodes ≡ keys → IsKeyTree width nodes root → start ≡ nodes
    → ((t : Tree) → IsTree (key_at start) start root 0 width t
    → IsGreatest (key_at start) bound t none last) → last.after ≡ 0
    → (q k : ℕ) → get_or keys q None ≡ Some k → bound < k
last_none width nodes start keys root bound none last v m es f e q k held =
    let j = rw es at (f m.tree (rw es m.stands)) in
    let h = holder width nodes root m q k
    (subst (λ (x : List (Option ℕ)). get_or x q None ≡ Some k) (sym v) held) in
    elim (cases_lt bound k) [
      | inl lt ↦ lt
      | inr le ↦ absurd (omega (arith, j.greatest q h.0 (omega (arith, le, h.1)), e))
    ]

-- one position more
shows_longer : (nodes : List Node) (n : Node) (link : ℕ) (t : Tree) → Shows nodes link t
    → Shows (nodes ++ n ∷ []) link t
shows_longer nodes n link leaf s = s
shows_longer nodes n link (node l p r) s =
    let e : node_at (nodes ++ n ∷ []) p ≡ node_at nodes p =
    get_or_append_left nodes (n ∷ []) blank p s.1 in (
      s.0,
      omega (arith, s.1, length-append nodes (n ∷ [])),
      subst (λ (x : Node). Shows (nodes ++ n ∷ []) x.low l) (sym e)
          (shows_longer nodes n (node_at nodes p).low l s.2),
      subst (λ (x : Node). Shows (nodes ++ n ∷ []) x.high r) (sym e)
          (shows_longer nodes n (node_at nodes p).high r s.3),
    )

pub pushed : (width : ℕ) (nodes new : List Node) (root : ℕ) → IsKeyTree width nodes root
    → new ≡ nodes ++ record { key = free_key; low = 0; high = 0 } ∷ []
    → length nodes + 1 < 2 ^ 32 → IsKeyTree width new root
pushed width nodes new root m en few =
    let n : Node = record { key = free_key; low = 0; high = 0 } in
    let long : length (nodes ++ n ∷ []) ≡ length nodes + 1 = length-append nodes (n ∷ []) in
    let same : (q : ℕ) → q < length nodes → key_at (nodes ++ n ∷ []) q ≡ key_at nodes q = λ q lt.
    ap key_of (get_or_append_left nodes (n ∷ []) blank q lt) in
    let last : key_at (nodes ++ n ∷ []) (length nodes) ≡ free_key =
    ap key_of (get_or-append_seam nodes n [] blank) in
    rw en (record {
      tree = m.tree;
      stands = record {
        shown = shows_longer nodes n root m.tree m.stands.shown;
        laid = laid_agree (key_at nodes) (key_at (nodes ++ n ∷ [])) 0 width m.tree
            (λ q h. same q (shown_within nodes root m.tree m.stands.shown q h)) m.stands.laid;
      };
      held = λ p lt ne. elim (cases_lt p (length nodes)) [
        | inl l ↦ m.held p l (λ e. ne (same p l ∙ e))
        | inr le ↦
            let e : p ≡ length nodes = omega (arith, lt, long, le) in
            absurd (ne (ap (key_at (nodes ++ n ∷ [])) e ∙ last))
      ];
      few = omega (arith, long, few);
    })

-- the node of a position that is put in
abbrev alone : ℕ → Node
alone key = record { key = key; low = 0; high = 0 }

put_must : (width : ℕ) (nodes start : List Node) (keys : List (Option ℕ)) (root key position : ℕ)
    → held_in nodes ≡ keys → (m : IsKeyTree width nodes root) → width ≤ free_key
    → position < length keys → get_or keys position None ≡ None → key < width
    → All (λ k. k ≢ Some key) keys → start ≡ set nodes position (alone key)
    → MayPut (key_at start) start root 0 width key position m.tree
put_must width nodes start keys root key position v m fits lt free small new es =
    let at = set nodes position (alone key) in
    let long : length at ≡ length nodes = length-set nodes position (alone key) in
    let inside : position < length nodes =
    omega (arith, lt, ap (λ (xs : List (Option ℕ)). length xs) v, length-map nodes held_by) in
    let apart : (q : ℕ) → Has q m.tree → q ≢ position = λ q h e.
    let w = member width nodes root m fits q h in
    let f : get_or (held_in nodes) q None ≡ None =
    ap (λ (xs : List (Option ℕ)). get_or xs q None) v ∙ ap (λ x. get_or keys x None) e ∙ free in
    absurd (grind arith) in
    let same : (q : ℕ) → Has q m.tree → node_at at q ≡ node_at nodes q = λ q h.
    get_or-set_other nodes position q (alone key) blank (apart q h) in
    let here : node_at at position ≡ alone key =
    get_or-set_same nodes position (alone key) blank inside in
    rw es (record {
      stands = record {
        shown = shows_agree nodes at root m.tree long same m.stands.shown;
        laid = laid_agree (key_at nodes) (key_at at) 0 width m.tree
            (λ q h. ap key_of (same q h)) m.stands.laid;
      };
      key_is = ap key_of here;
      low = omega arith;
      high = omega (arith, small);
      fresh = λ q h e.
          let w = member width nodes root m fits q h in
          let ne = All-get_or (λ k. k ≢ Some key) keys q None
          (omega (arith, w.0, ap (λ (xs : List (Option ℕ)). length xs) v, length-map nodes held_by))
          new in
          ne (sym (ap (λ (xs : List (Option ℕ)). get_or xs q None) v) ∙ w.2
          ∙ ap Some (sym (ap key_of (same q h)) ∙ e));
      within = omega (arith, inside, long);
      no_low = ap (λ (n : Node). n.low) here;
      no_high = ap (λ (n : Node). n.high) here;
    })

pub put_may : (width : ℕ) (nodes start : List Node) (keys : List (Option ℕ))
    (root key position : ℕ) → held_in nodes ≡ keys → IsKeyTree width nodes root
    → width ≤ free_key → position < length keys → get_or keys position None ≡ None
    → key < width → All (λ k. k ≢ Some key) keys → start ≡ set nodes position (alone key)
    → (x : ℕ → ℕ) × ((t : Tree) × MayPut x start root 0 width key position t)
put_may width nodes start keys root key position v m fits lt free small new es = (
  key_at start,
  (m.tree, put_must width nodes start keys root key position v m fits lt free small new es),
)

pub put : (width : ℕ) (nodes start mid end : List Node) (keys : List (Option ℕ))
    (root out key position : ℕ) → held_in nodes ≡ keys → IsKeyTree width nodes root
    → width ≤ free_key → position < length keys → get_or keys position None ≡ None
    → key < width → All (λ k. k ≢ Some key) keys → start ≡ set nodes position (alone key)
    → ((x : ℕ → ℕ) (t : Tree) → MayPut x start root 0 width key position t
    → Becomes x start mid t out 0 width (λ q. (q ≡ position) ⊎ Has q t)) → end ≡ mid
    → IsKeyTree width end out × (held_in end ≡ set keys position (Some key))
put width nodes start mid end keys root out key position v m fits lt free small new es f last =
    let b = f (key_at start) m.tree
    (put_must width nodes start keys root key position v m fits lt free small new es) in
    let long : length mid ≡ length nodes =
    same_length start mid b.stored ∙ ap length es ∙ length-set nodes position (alone key) in
    let same : (q : ℕ) → key_at mid q ≡ key_at start q = same_key start mid b.stored in (
      rw last (record {
        tree = b.tree;
        stands = record {
          shown = b.shown;
          laid = laid_agree (key_at start) (key_at mid) 0 width b.tree (λ q h. same q) b.laid;
        };
        held = λ p l ne. elim (cases_eq p position) [
          | inl e ↦ b.held p (inl e)
          | inr other ↦
              let e : key_at mid p ≡ key_at nodes p =
              same p ∙ ap (λ (xs : List Node). key_at xs p) es
              ∙ ap key_of (get_or-set_other nodes position p (alone key) blank other) in
              b.held p (inr (m.held p (omega (arith, l, long)) (λ k. ne (e ∙ k))))
        ];
        few = omega (arith, m.few, long);
      }),
      ap held_in last ∙ same_held start mid b.stored ∙ ap held_in es
          ∙ map-set held_by nodes position (alone key)
          ∙ ap (set (held_in nodes) position) (holding (alone key) (omega (arith, small, fits)))
          ∙ ap (λ (xs : List (Option ℕ)). set xs position (Some key)) v,
    )

take_must : (width : ℕ) (nodes start : List Node) (keys : List (Option ℕ)) (root key : ℕ)
    → held_in nodes ≡ keys → (m : IsKeyTree width nodes root) → Contains keys (Some key)
    → start ≡ nodes → MayTake (key_at start) start root 0 width key m.tree
take_must width nodes start keys root key v m h es =
    let c : Contains (held_in nodes) (Some key) =
    subst (λ (xs : List (Option ℕ)). Contains xs (Some key)) (sym v) h in
    let w = holder width nodes root m c.0 key
    (get_or_default (held_in nodes) c.0 None (Some key) c.1 ∙ c.2) in
    rw es (record {
      stands = m.stands;
      own = λ q x. refl;
      member = (c.0, (w.0, w.1));
    })

pub take_may : (width : ℕ) (nodes start : List Node) (keys : List (Option ℕ)) (root key : ℕ)
    → held_in nodes ≡ keys → IsKeyTree width nodes root → Contains keys (Some key)
    → start ≡ nodes
    → (x : ℕ → ℕ) × ((t : Tree) × MayTake x start root 0 width key t)
take_may width nodes start keys root key v m h es =
    (key_at start, (m.tree, take_must width nodes start keys root key v m h es))

-- where the key that is taken out was
pub taken_from : (width : ℕ) (nodes start : List Node) (keys : List (Option ℕ))
    (root key position : ℕ) → held_in nodes ≡ keys → IsKeyTree width nodes root
    → width ≤ free_key → Contains keys (Some key) → start ≡ nodes
    → ((x : ℕ → ℕ) (t : Tree) → MayTake x start root 0 width key t
    → Has position t × (x position ≡ key))
    → (position < length nodes) × (position < length keys)
    × (get_or keys position None ≡ Some key)
taken_from width nodes start keys root key position v m fits h es f =
    let g = rw es at
    (f (key_at start) m.tree (take_must width nodes start keys root key v m h es)) in
    let w = member width nodes root m fits position g.0 in (
      w.0,
      omega (arith, w.0, ap (λ (xs : List (Option ℕ)). length xs) v, length-map nodes held_by),
      sym (ap (λ (xs : List (Option ℕ)). get_or xs position None) v) ∙ w.2 ∙ ap Some g.1,
    )

pub taken : (width : ℕ) (nodes start mid end : List Node) (keys : List (Option ℕ))
    (root out key position low high : ℕ) → held_in nodes ≡ keys → IsKeyTree width nodes root
    → Contains keys (Some key) → start ≡ nodes
    → ((x : ℕ → ℕ) (t : Tree) → MayTake x start root 0 width key t
    → Becomes x start mid t out 0 width (λ q. Has q t × (x q ≢ key)))
    → ((x : ℕ → ℕ) (t : Tree) → MayTake x start root 0 width key t
    → Has position t × (x position ≡ key)) → end ≡ mid
    → IsKeyTree width (set end position (record { key = free_key; low = low; high = high })) out
    × (held_in (set end position (record { key = free_key; low = low; high = high })) ≡
    set keys position None)
taken width nodes start mid end keys root out key position low high v m h es f g last =
    let X : Node = record { key = free_key; low = low; high = high } in
    let must = take_must width nodes start keys root key v m h es in
    let b = rw es at (f (key_at start) m.tree must) in
    let here = rw es at (g (key_at start) m.tree must) in
    let long : length mid ≡ length nodes = same_length nodes mid b.stored in
    let long_set : length (set mid position X) ≡ length mid = length-set mid position X in
    let there : (q : ℕ) → q ≢ position → node_at (set mid position X) q ≡ node_at mid q = λ q ne.
    get_or-set_other mid position q X blank ne in
    let others : (q : ℕ) → Has q b.tree → q ≢ position = λ q x e.
    (b.has q x).1 (ap (key_at nodes) e ∙ here.1) in
    let same : (q : ℕ) → key_at mid q ≡ key_at nodes q = same_key nodes mid b.stored in
    let inside : position < length mid =
    omega (arith, long, shown_within nodes root m.tree m.stands.shown position here.0) in (
      rw last (record {
        tree = b.tree;
        stands = record {
          shown = shows_agree mid (set mid position X) out b.tree long_set
              (λ q x. there q (others q x)) b.shown;
          laid = laid_agree (key_at nodes) (key_at (set mid position X)) 0 width b.tree
              (λ q x. ap key_of (there q (others q x)) ∙ same q) b.laid;
        };
        held = λ p l ne. elim (cases_eq p position) [
          | inl e ↦
              absurd
              (ne (ap (key_at (set mid position X)) e
              ∙ ap key_of (get_or-set_same mid position X blank inside)))
          | inr other ↦
              let e : key_at (set mid position X) p ≡ key_at nodes p =
              ap key_of (there p other) ∙ same p in
              let w = m.held p (omega (arith, l, long_set, long)) (λ k. ne (e ∙ k)) in
              b.held p (
                w,
                λ k. other (distinct (key_at nodes) 0 width m.tree m.stands.laid p position w here.0
                    (k ∙ sym here.1)),
              )
        ];
        few = omega (arith, m.few, long, long_set);
      }),
      rw last
          (map-set held_by mid position X
          ∙ ap (λ (xs : List (Option ℕ)). set xs position None)
          (same_held nodes mid b.stored ∙ v)),
    )

-- other keys of a tree that is seen as s
abbrev with_keys : KeysHeld → List (Option ℕ) → KeysHeld
with_keys s keys = record s { keys = keys }

pub seen_with : (v s : KeysHeld) (keys others : List (Option ℕ)) → v ≡ s → others ≡ keys
    → with_keys v others ≡ with_keys s keys
seen_with v s keys others e o = rw (e, o) refl

-- positions that hold no key
pub held-free : (n : ℕ) → held_in (replicate n (record { key = free_key; low = 0; high = 0 })) ≡
    replicate n None
held-free zero = refl
held-free (suc n) = ap (λ (xs : List (Option ℕ)). None ∷ xs) (held-free n)
