-- The words after a row are the coding of what is shared then.
use Rattle.ea_machine.proofs.AlikeNodes.{alike-append, alike-equal, alike-itself, link-count}
use Rattle.ea_machine.proofs.AlikeNodes.{link-none, link-there, linked, one-none}
use Rattle.std.proofs.Common.{◌≡◌, ◌≢◌, ◌⊎◌, ℕ, zero, suc, ◌+◌, ◌*◌, ◌<◌, ◌≤◌, Bool, true}
use Rattle.std.proofs.Common.{false, List, [], ◌∷◌, ◌++◌, Option, None, length}
use Rattle.std.proofs.Common.{slice_index, set, refl, sym, ap, ◌∙◌, subst, inl, inr, arith}
use Rattle.std.specs.Prelude.{All, if◌then◌else◌, option_map}
use Rattle.std.proofs.Math.Path.{fun_ext}
use Rattle.std.proofs.lemmas.Bool.{cases_Bool, cases_eq, cases_lt}
use Rattle.std.proofs.lemmas.List.{get_or-set_other, get_or-set_same, length-set}
use Rattle.std.proofs.lemmas.List.Elements.{All-cons, All-head, All-nil, All-tail, All-weaker}
use Rattle.ea_model.specs.declared.units.TheConstants.{NUMBERS}
use Rattle.ea_model.proofs.Rising.{item_at-gone, item_at-new, item_at-old}
use Rattle.ea_model.proofs.Rising.{item_at-stays, none-other}
use Rattle.ea_machine.specs.declared.nodes.Named.{Named}
use Rattle.ea_machine.specs.declared.nodes.Node.{Node}
use Rattle.ea_machine.specs.declared.nodes.Node.TheVariants.{Block, Carrier}
use Rattle.ea_machine.specs.Alike.{IsNode, alike_in, are_alike}
use Rattle.ea_machine.specs.Nodes.{Mark, block_node, first_node, link_in, pushed}
use Rattle.ea_machine.specs.Nodes.{same_node, spot_named, with_name, without_name, name_of}
use Rattle.ea_machine.specs.Owners.{CarrierAt}
use Rattle.ea_machine.specs.Rows.{Give, Link, Push, TakeAll, TakeLink, TakeTry}
use Rattle.ea_machine.specs.Shared.{Shared, at_place, put}
use Rattle.ea_machine.specs.Sums.{one_if, total}
use Rattle.ea_machine.specs.Table.{effect, rest_after, rest_by}
use Rattle.ea_sound.proofs.Asked.{unnamed-spot}
use Rattle.ea_sound.proofs.Totals.{put-all, put-here, put-other, total-part, total-put}
use Rattle.ea_sound.specs.Standing.{standing_nodes}
use Rattle.ea_word.specs.Codes.{code_of, head_code, link_code}
use Rattle.ea_table.specs.declared.places.TheConstants.{HEAD_WORDS}
use Rattle.ea_table.specs.Words.{AreFit, Codes, IsFit, IsWorded, LinksAre}
use Rattle.ea_table.specs.Words.{given_code, head_at, link_at, mark_code, name_at, owner_at}
use Rattle.ea_table.specs.Words.{place_code}

-- a word that was written, and the others
word-here : (ws : List ℕ) (p v q : ℕ) → p < length ws → q ≡ p → slice_index (set ws p v) q ≡ v
word-here ws p v q within same = ap (λ k. slice_index (set ws p v) k) same
    ∙ get_or-set_same ws p v 0 within

word-other : (ws : List ℕ) (p v q : ℕ) → q ≢ p → slice_index (set ws p v) q ≡ slice_index ws q
word-other ws p v q other = get_or-set_other ws p q v 0 other

-- a word that is written again as it is
pub word-again : (ws : List ℕ) (p v : ℕ) → slice_index ws p ≡ v → p < length ws → set ws p v ≡ ws
word-again [] p v same within = refl
word-again (w ∷ ws) zero v same within = ap (λ (x : ℕ). x ∷ ws) (sym same)
word-again (w ∷ ws) (suc p) v same within =
    ap (λ (xs : List ℕ). w ∷ xs) (word-again ws p v same (omega (arith, within)))

-- and one that is read
word-read : (ws : List ℕ) (p : ℕ) → set ws p (slice_index ws p) ≡ ws
word-read [] p = refl
word-read (w ∷ ws) zero = refl
word-read (w ∷ ws) (suc p) = ap (λ (xs : List ℕ). w ∷ xs) (word-read ws p)

-- a map whose value is put again
pub put-again : {A : Type 0} (m : ℕ → A) (k : ℕ) (v : A) → m k ≡ v → put m k v ≡ m
put-again m k v same = fun_ext (λ i. elim (cases_eq i k) [
  | inl q ↦ put-here m k v i q ∙ sym same ∙ ap m (sym q)
  | inr other ↦ put-other m k v i other
])

-- the first of them, linked or not
first-linked : (node : Node) (newer rest : List Mark)
    → first_node (newer ++ (linked node ∷ rest)) ≡ first_node (newer ++ (pushed node ∷ rest))
first-linked node [] rest = refl
first-linked node (m ∷ newer) rest = refl

-- of nodes that are alike there are as many
alike-all : (x y : Node) → are_alike x y ≡ true → (ms : List Mark) → alike_in x ms ≡ alike_in y ms
alike-all x y same [] = refl
alike-all x y same (m ∷ ms) =
    omega (arith, ap one_if (alike-equal x y same m.node), alike-all x y same ms)

-- whether two nodes are alike doesn't depend on their order
not-alike : (x y : Node) → are_alike y x ≡ false → one_if (are_alike x y) ≡ 0
not-alike (Block a p) (Block b q) other = grind (arith, other)
not-alike (Block a p) (Carrier d) other = refl
not-alike (Carrier c) (Block b q) other = refl
not-alike (Carrier c) (Carrier d) other = grind (arith, other)

module _ (n g : ℕ) where
  -- the places of links
  link-from : (x : Node) → HEAD_WORDS * n ≤ link_at n g x
  link-from (Block name spot) = omega arith
  link-from (Carrier number) = omega arith

  pub link-to : (x : Node) → IsNode n g x → link_at n g x < HEAD_WORDS * n + g + NUMBERS * n
  link-to (Block name spot) is = omega (arith, is.0, is.1)
  link-to (Carrier number) is = omega (arith, is.0, is.1)

  link-same : (x y : Node) → are_alike x y ≡ true → link_at n g y ≡ link_at n g x
  link-same (Block a p) (Block b q) same = grind (arith, same)
  link-same (Block a p) (Carrier d) same = absurd cc
  link-same (Carrier c) (Block b q) same = absurd cc
  link-same (Carrier c) (Carrier d) same = grind (arith, same)

  link-other : (x y : Node) → IsNode n g x → IsNode n g y → are_alike x y ≡ false
      → link_at n g y ≢ link_at n g x
  link-other (Block a p) (Block b q) is js other = λ e. grind (arith, other, is.0, js.0, e)
  link-other (Block a p) (Carrier d) is js other = λ e. omega (arith, is.1, js.0, e)
  link-other (Carrier c) (Block b q) is js other = λ e. omega (arith, is.0, js.0, js.1, e)
  link-other (Carrier c) (Carrier d) is js other = λ e. grind (arith, other, is.0, js.0, e)

  abbrev Apart : ℕ → List Mark → Type 0
  Apart p ms = All (λ m. link_at n g m.node ≢ p) ms

  -- a word is written that is no link of these nodes
  links-stay : (ws : List ℕ) (p v : ℕ) (ms : List Mark) → Apart p ms → LinksAre n g ws ms
      → LinksAre n g (set ws p v) ms
  links-stay ws p v [] apart links = tt
  links-stay ws p v (m ∷ ms) apart links = (
    word-other ws p v (link_at n g m.node)
        (All-head (λ (m : Mark). link_at n g m.node ≢ p) m ms apart) ∙ links.0,
    links-stay ws p v ms (All-tail (λ (m : Mark). link_at n g m.node ≢ p) m ms apart) links.1,
  )

  abbrev Fit : Mark → Type 0
  Fit m = IsFit n g m.node

  -- no head, and no word of a name or a carrier, is a link
  apart-head : (p : ℕ) (ms : List Mark) → p < HEAD_WORDS * n → AreFit n g ms → Apart p ms
  apart-head p ms low fit = All-weaker Fit (λ m. link_at n g m.node ≢ p)
      (λ m is e. omega (arith, low, e, link-from m.node)) ms fit

  apart-past : (p : ℕ) (ms : List Mark) → HEAD_WORDS * n + g + NUMBERS * n ≤ p → AreFit n g ms
      → Apart p ms
  apart-past p ms high fit = All-weaker Fit (λ m. link_at n g m.node ≢ p)
      (λ m is e. omega (arith, high, e, link-to m.node is.0)) ms fit

  -- and no link of another node
  apart-link : (node : Node) (ms : List Mark) → IsNode n g node → AreFit n g ms
      → alike_in node ms ≡ 0 → Apart (link_at n g node) ms
  apart-link node [] is fit z = All-nil (λ (m : Mark). link_at n g m.node ≢ link_at n g node)
  apart-link node (m ∷ ms) is fit z =
      All-cons (λ (m : Mark). link_at n g m.node ≢ link_at n g node) m ms
      (link-other node m.node is (All-head Fit m ms fit).0
      (one-none (are_alike node m.node) (omega (arith, z))))
      (apart-link node ms is (All-tail Fit m ms fit) (omega (arith, z)))

  -- the node is linked to the older ones, whose first one is told
  links-linked : (ws : List ℕ) (node : Node) (newer rest : List Mark) → IsNode n g node
      → link_at n g node < length ws → AreFit n g (newer ++ (pushed node ∷ rest))
      → alike_in node newer ≡ 0 → alike_in node rest ≡ 0
      → LinksAre n g ws (newer ++ (pushed node ∷ rest))
      → LinksAre n g (set ws (link_at n g node) (link_code (first_node rest)))
      (newer ++ (linked node ∷ rest))
  links-linked ws node [] rest is within fit y z links = (
    word-here ws (link_at n g node) (link_code (first_node rest)) (link_at n g node) within refl,
    links-stay ws (link_at n g node) (link_code (first_node rest)) rest
        (apart-link node rest is (All-tail Fit (pushed node) rest fit) z) links.1,
  )
  links-linked ws node (m ∷ newer) rest is within fit y z links =
      let other = one-none (are_alike node m.node) (omega (arith, y)) in
      let after = newer ++ (pushed node ∷ rest) in (
        word-other ws (link_at n g node) (link_code (first_node rest)) (link_at n g m.node)
            (link-other node m.node is (All-head Fit m after fit).0 other)
            ∙ links.0
            ∙ same m.linked,
        links-linked ws node newer rest is within (All-tail Fit m after fit) (omega (arith, y)) z
            links.1,
      ) where
        same : (b : Bool) → mark_code b (newer ++ (pushed node ∷ rest))
            ≡ mark_code b (newer ++ (linked node ∷ rest))
        same true = ap link_code (sym (first-linked node newer rest))
        same false = refl

  module _ (s : Shared) (fit : IsWorded n g s) (ws : List ℕ) (codes : Codes n g s ws) where
    within-head : (i : ℕ) → 1 ≤ i → i ≤ n → head_at i < length ws
    within-head i from to = omega (arith, from, to, codes.count)

    pub within-link : (node : Node) → IsNode n g node → link_at n g node < length ws
    within-link node is = omega (arith, codes.count, link-to node is)

    within-name : (name : ℕ) → 1 ≤ name → name ≤ g → name_at n g name < length ws
    within-name name from to = omega (arith, codes.count, from, to)

    pub within-owner : (k : ℕ) → 1 ≤ k → k ≤ NUMBERS * n → owner_at n g k < length ws
    within-owner k from to = omega (arith, codes.count, from, to)

    -- a word is read
    pub codes-read : (i : ℕ) → Codes n g s (set ws i (slice_index ws i))
    codes-read i = subst (Codes n g s) (sym (word-read ws i)) codes

    -- a head is written, and lists and given names are as they were
    module _ (i v : ℕ) (from : 1 ≤ i) (to : i ≤ n) where
      abbrev after : List ℕ
      after = set ws (head_at i) v

      low : head_at i < HEAD_WORDS * n
      low = omega (arith, from, to)

      head-here : slice_index after (head_at i) ≡ v
      head-here = word-here ws (head_at i) v (head_at i) (within-head i from to) refl

      head-other : (j : ℕ) → 1 ≤ j → j ≢ i
          → slice_index after (head_at j) ≡ slice_index ws (head_at j)
      head-other j low other = word-other ws (head_at i) v (head_at j)
          (λ e. other (omega (arith, e, from, low)))

      head-links : (ms : List Mark) → AreFit n g ms → LinksAre n g ws ms → LinksAre n g after ms
      head-links ms are links = links-stay ws (head_at i) v ms (apart-head (head_at i) ms low are)
          links

      head-free : (node : Node) → slice_index after (link_at n g node)
          ≡ slice_index ws (link_at n g node)
      head-free node = word-other ws (head_at i) v (link_at n g node)
          (λ e. omega (arith, e, low, link-from node))

      head-name : (name : ℕ) → slice_index after (name_at n g name)
          ≡ slice_index ws (name_at n g name)
      head-name name = word-other ws (head_at i) v (name_at n g name)
          (λ e. omega (arith, e, low))

      head-owner : (number : ℕ) → slice_index after (owner_at n g number)
          ≡ slice_index ws (owner_at n g number)
      head-owner number = word-other ws (head_at i) v (owner_at n g number)
          (λ e. omega (arith, e, low))

    -- a queue is taken
    pub codes-taken : (me : ℕ) → 1 ≤ me → me ≤ n → s.rests me ≡ []
        → Codes n g (effect me TakeAll s) (set ws (head_at me) 0)
    unfolding effect
    codes-taken me from to walked = record {
      count = length-set ws (head_at me) 0 ∙ codes.count;
      heads = λ i low high. elim (cases_eq i me) [
        | inl q ↦ ap (λ j. slice_index (set ws (head_at me) 0) (head_at j)) q
            ∙ head-here me 0 from to
            ∙ sym (ap (λ (l : List Mark). head_code (first_node l))
            (put-here s.queues me [] i q))
        | inr other ↦ head-other me 0 from to i low other ∙ codes.heads i low high
            ∙ sym (ap (λ (l : List Mark). head_code (first_node l))
            (put-other s.queues me [] i other))
      ];
      queued = put-all (λ i ms. LinksAre n g (set ws (head_at me) 0) ms) s.queues me [] tt
          (λ i. head-links me 0 from to (s.queues i) (fit.queues i) (codes.queued i));
      rested = put-all (λ i ms. LinksAre n g (set ws (head_at me) 0) ms) s.rests me (s.queues me)
          (head-links me 0 from to (s.queues me) (fit.queues me) (codes.queued me))
          (λ i. head-links me 0 from to (s.rests i) (fit.rests i) (codes.rested i));
      free = λ node is z. head-free me 0 from to node ∙ codes.free node is (omega (
        arith,
        z,
        total-put (alike_in node) s.queues me [] (suc n) (omega (arith, to)),
        total-put (alike_in node) s.rests me (s.queues me) (suc n) (omega (arith, to)),
        ap (alike_in node) walked,
      ));
      names = λ name low high. head-name me 0 from to name ∙ codes.names name low high;
      owners = λ number low high. head-owner me 0 from to number ∙ codes.owners number low high;
    }

    -- a node is pushed
    pub codes-pushed : (me to : ℕ) (node : Node) → 1 ≤ to → to ≤ n → IsNode n g node
        → standing_nodes n node s ≡ 0
        → Codes n g (effect me (Push node to) s) (set ws (head_at to) (code_of node))
    unfolding effect
    codes-pushed me to node from most is none =
        let v = code_of node in
        let queue = pushed node ∷ s.queues to in record {
          count = length-set ws (head_at to) v ∙ codes.count;
          heads = λ i low high. elim (cases_eq i to) [
            | inl q ↦ ap (λ j. slice_index (set ws (head_at to) v) (head_at j)) q
                ∙ head-here to v from most
                ∙ sym (ap (λ (l : List Mark). head_code (first_node l))
                (put-here s.queues to queue i q))
            | inr other ↦ head-other to v from most i low other ∙ codes.heads i low high
                ∙ sym (ap (λ (l : List Mark). head_code (first_node l))
                (put-other s.queues to queue i other))
          ];
          queued = put-all (λ i ms. LinksAre n g (set ws (head_at to) v) ms) s.queues to queue (
            head-free to v from most node ∙ codes.free node is none,
            head-links to v from most (s.queues to) (fit.queues to) (codes.queued to),
          )
              (λ i. head-links to v from most (s.queues i) (fit.queues i) (codes.queued i));
          rested = λ i. head-links to v from most (s.rests i) (fit.rests i) (codes.rested i);
          free = λ x mine z. head-free to v from most x ∙ codes.free x mine (omega (
            arith,
            z,
            total-put (alike_in x) s.queues to queue (suc n) (omega (arith, most)),
          ));
          names = λ name low high. head-name to v from most name ∙ codes.names name low high;
          owners = λ number low high. head-owner to v from most number
              ∙ codes.owners number low high;
        }

    -- a link is written
    module _ (node : Node) (v : ℕ) (is : IsNode n g node) where
      abbrev relinked : List ℕ
      relinked = set ws (link_at n g node) v

      link-head : (i : ℕ) → 1 ≤ i → i ≤ n → slice_index relinked (head_at i)
          ≡ slice_index ws (head_at i)
      link-head i from to = word-other ws (link_at n g node) v (head_at i)
          (λ e. omega (arith, e, from, to, link-from node))

      link-name : (name : ℕ) → slice_index relinked (name_at n g name)
          ≡ slice_index ws (name_at n g name)
      link-name name = word-other ws (link_at n g node) v (name_at n g name)
          (λ e. omega (arith, e, link-to node is))

      link-owner : (number : ℕ) → slice_index relinked (owner_at n g number)
          ≡ slice_index ws (owner_at n g number)
      link-owner number = word-other ws (link_at n g node) v (owner_at n g number)
          (λ e. omega (arith, e, link-to node is))

      link-links : (ms : List Mark) → AreFit n g ms → alike_in node ms ≡ 0 → LinksAre n g ws ms
          → LinksAre n g relinked ms
      link-links ms are z links = links-stay ws (link_at n g node) v ms
          (apart-link node ms is are z) links

    -- where the walk rests nothing changes
    pub codes-rests : (me : ℕ) (m : Mark) (ms : List Mark) → s.rests me ≡ m ∷ ms
        → m.linked ≡ false → IsNode n g m.node
        → Codes n g (effect me TakeLink s) (set ws (link_at n g m.node) 0)
    unfolding effect
    codes-rests me m ms now unlinked is =
        let word = (subst (LinksAre n g ws) now (codes.rested me)).0
        ∙ ap (λ b. mark_code b ms) unlinked in
        let same = word-again ws (link_at n g m.node) 0 word (within-link m.node is) in
        let rest : rest_after (s.rests me) ≡ s.rests me = ap rest_after now
        ∙ ap (λ b. rest_by b m ms) unlinked ∙ sym now in
        subst (Codes n g (effect me TakeLink s)) (sym same)
        (subst (λ f. Codes n g (record s { rests = f }) ws)
        (sym (put-again s.rests me (rest_after (s.rests me)) (sym rest))) codes)

    -- where the next node is linked it is passed
    pub codes-passes : (me : ℕ) (m : Mark) (ms : List Mark) → me ≤ n → s.rests me ≡ m ∷ ms
        → m.linked ≡ true → IsNode n g m.node
        → Codes n g (effect me TakeLink s) (set ws (link_at n g m.node) 0)
    unfolding effect
    codes-passes me m ms to now passes is =
        let node = m.node in
        let rest : rest_after (s.rests me) ≡ ms = ap rest_after now
        ∙ ap (λ b. rest_by b m ms) passes in
        let mine = ap (alike_in node) now in
        let inner : LinksAre n g ws (m ∷ ms) = subst (LinksAre n g ws) now (codes.rested me) in
        let fits : AreFit n g (m ∷ ms) = subst (AreFit n g) now (fit.rests me) in
        subst (λ (l : List Mark). Codes n g (record s { rests = put s.rests me l })
        (set ws (link_at n g node) 0)) (sym rest) (record {
          count = length-set ws (link_at n g node) 0 ∙ codes.count;
          heads = λ i low high. link-head node 0 is i low high ∙ codes.heads i low high;
          queued = λ i. link-links node 0 is (s.queues i) (fit.queues i) (queue-none i)
              (codes.queued i);
          rested = λ i. elim (cases_eq i me) [
            | inl q ↦ subst (LinksAre n g (set ws (link_at n g node) 0))
                (sym (put-here s.rests me ms i q))
                (link-links node 0 is ms (All-tail Fit m ms fits) (omega (
                  arith,
                  fit.once node,
                  total-part (alike_in node) s.rests me (suc n) (omega (arith, to)),
                  mine,
                  alike-itself node,
                )) inner.1)
            | inr other ↦ subst (LinksAre n g (set ws (link_at n g node) 0))
                (sym (put-other s.rests me ms i other))
                (link-links node 0 is (s.rests i) (fit.rests i) (rest-none i other)
                (codes.rested i))
          ];
          free = λ x are z. elim (cases_Bool (are_alike node x)) [
            | inl q ↦ word-here ws (link_at n g node) 0 (link_at n g x) (within-link node is)
                (link-same node x q)
            | inr q ↦ word-other ws (link_at n g node) 0 (link_at n g x)
                (link-other node x is are q)
                ∙ codes.free x are (omega (
                  arith,
                  z,
                  total-put (alike_in x) s.rests me ms (suc n) (omega (arith, to)),
                  ap (alike_in x) now,
                  not-alike x node q,
                ))
          ];
          names = λ name low high. link-name node 0 is name ∙ codes.names name low high;
          owners = λ number low high. link-owner node 0 is number ∙ codes.owners number low high;
        }) where
          counts : (i : ℕ) → alike_in m.node (s.rests me) ≡ 1 + alike_in m.node ms
          counts i = ap (alike_in m.node) now
              ∙ ap (λ k. k + alike_in m.node ms) (alike-itself m.node)

          queue-none : (i : ℕ) → alike_in m.node (s.queues i) ≡ 0
          queue-none i = elim (cases_lt i (suc n)) [
            | inl seat ↦ omega (
              arith,
              fit.once m.node,
              total-part (alike_in m.node) s.queues i (suc n) seat,
              total-part (alike_in m.node) s.rests me (suc n) (omega (arith, to)),
              counts i,
            )
            | inr past ↦ ap (alike_in m.node) (fit.nobody i (omega (arith, past))).0
          ]

          rest-none : (i : ℕ) → i ≢ me → alike_in m.node (s.rests i) ≡ 0
          rest-none i other = elim (cases_lt i (suc n)) [
            | inl seat ↦ omega (
              arith,
              fit.once m.node,
              counts i,
              total-part (alike_in m.node) (put s.rests me []) i (suc n) seat,
              total-put (alike_in m.node) s.rests me [] (suc n) (omega (arith, to)),
              ap (alike_in m.node) (put-other s.rests me [] i other),
            )
            | inr past ↦ ap (alike_in m.node) (fit.nobody i (omega (arith, past))).1
          ]

    -- the node's older ones are told where it stands
    abbrev IsOlder : Node → Option Node → List Mark → Type 0
    IsOlder node older ms = (newer rest : List Mark) × (ms ≡ newer ++ (pushed node ∷ rest))
        × (older ≡ first_node rest)

    counted : (node : Node) (ms newer rest : List Mark) → ms ≡ newer ++ (pushed node ∷ rest)
        → alike_in node ms ≡ alike_in node newer + (1 + alike_in node rest)
    counted node ms newer rest q = ap (alike_in node) q
        ∙ alike-append node newer (pushed node ∷ rest)
        ∙ ap (λ k. alike_in node newer + (k + alike_in node rest)) (alike-itself node)

    -- where it stands once its list is linked
    list-linked : (node : Node) (older : Option Node) (ms : List Mark) → IsNode n g node
        → AreFit n g ms → alike_in node ms ≤ 1 → IsOlder node older ms → LinksAre n g ws ms
        → LinksAre n g (set ws (link_at n g node) (link_code older)) (link_in node ms)
    list-linked node older ms is are once (newer, rest, q, told) links =
        let y : alike_in node newer ≡ 0 = omega (arith, once, counted node ms newer rest q) in
        let z : alike_in node rest ≡ 0 = omega (arith, once, counted node ms newer rest q) in
        let made : newer ++ (linked node ∷ rest) ≡ link_in node ms =
        sym (ap (link_in node) q ∙ link-there node newer rest y z) in
        subst (LinksAre n g (set ws (link_at n g node) (link_code older))) made
        (subst (λ o. LinksAre n g (set ws (link_at n g node) (link_code o))
        (newer ++ (linked node ∷ rest))) (sym told)
        (links-linked ws node newer rest is (within-link node is) (subst (AreFit n g) q are) y z
        (subst (LinksAre n g ws) q links)))

    -- and elsewhere all stays
    list-stays : (node : Node) (v : ℕ) (ms : List Mark) → IsNode n g node → AreFit n g ms
        → alike_in node ms ≡ 0 → LinksAre n g ws ms
        → LinksAre n g (set ws (link_at n g node) v) (link_in node ms)
    list-stays node v ms is are z links =
        subst (LinksAre n g (set ws (link_at n g node) v)) (sym (link-none node ms z))
        (link-links node v is ms are z links)

    first-link_in : (node : Node) (ms : List Mark) → first_node (link_in node ms) ≡ first_node ms
    first-link_in node [] = refl
    first-link_in node (m ∷ ms) = by (same_node node m.node) where
      by : (b : Bool) → first_node ((if b then record m { linked = true } else m) ∷ link_in node ms)
          ≡ first_node (m ∷ ms)
      by true = refl
      by false = refl

    module _ (me to : ℕ) (node : Node) (most : to ≤ n) (is : IsNode n g node)
        (older : Option Node) where
      abbrev v : ℕ
      v = link_code older

      abbrev relink : List ℕ
      relink = set ws (link_at n g node) v

      -- the two lists of the instance are right, and the node stands in one of them
      codes-linked_by : 1 ≤ alike_in node (s.queues to) + alike_in node (s.rests to)
          → LinksAre n g (set ws (link_at n g node) v) (link_in node (s.queues to))
          → LinksAre n g (set ws (link_at n g node) v) (link_in node (s.rests to))
          → Codes n g (effect me (Link node to) s) (set ws (link_at n g node) v)
      unfolding effect
      codes-linked_by stands queue rest = record {
        count = length-set ws (link_at n g node) v ∙ codes.count;
        heads = λ i low high. link-head node v is i low high ∙ codes.heads i low high
            ∙ ap head_code (sym (elim (cases_eq i to) [
              | inl q ↦ ap first_node (put-here s.queues to (link_in node (s.queues to)) i q)
                  ∙ first-link_in node (s.queues to)
                  ∙ ap (λ j. first_node (s.queues j)) (sym q)
              | inr other ↦ ap first_node
                  (put-other s.queues to (link_in node (s.queues to)) i other)
            ]));
        queued = λ i. elim (cases_eq i to) [
          | inl q ↦ subst (LinksAre n g relink)
              (sym (put-here s.queues to (link_in node (s.queues to)) i q)) queue
          | inr other ↦ subst (LinksAre n g relink)
              (sym (put-other s.queues to (link_in node (s.queues to)) i other))
              (link-links node v is (s.queues i) (fit.queues i) (queue-none i other)
              (codes.queued i))
        ];
        rested = λ i. elim (cases_eq i to) [
          | inl q ↦ subst (LinksAre n g relink)
              (sym (put-here s.rests to (link_in node (s.rests to)) i q)) rest
          | inr other ↦ subst (LinksAre n g relink)
              (sym (put-other s.rests to (link_in node (s.rests to)) i other))
              (link-links node v is (s.rests i) (fit.rests i) (rest-none i other)
              (codes.rested i))
        ];
        free = λ x are z. elim (cases_Bool (are_alike node x)) [
          | inl q ↦ absurd (omega (
            arith,
            stands,
            still x z,
            alike-all node x q (s.queues to),
            alike-all node x q (s.rests to),
            total-part (alike_in x) s.queues to (suc n) (omega (arith, most)),
            total-part (alike_in x) s.rests to (suc n) (omega (arith, most)),
          ))
          | inr q ↦ word-other ws (link_at n g node) v (link_at n g x) (link-other node x is are q)
              ∙ codes.free x are (still x z)
        ];
        names = λ name low high. link-name node v is name ∙ codes.names name low high;
        owners = λ number low high. link-owner node v is number ∙ codes.owners number low high;
      } where
        still : (x : Node)
            → total (suc n) (alike_in x) (put s.queues to (link_in node (s.queues to)))
            + total (suc n) (alike_in x) (put s.rests to (link_in node (s.rests to))) ≡ 0
            → standing_nodes n x s ≡ 0
        still x z = omega (
          arith,
          z,
          total-put (alike_in x) s.queues to (link_in node (s.queues to)) (suc n)
              (omega (arith, most)),
          total-put (alike_in x) s.rests to (link_in node (s.rests to)) (suc n)
              (omega (arith, most)),
          link-count x node (s.queues to),
          link-count x node (s.rests to),
        )

        both : (i : ℕ) → i < suc n → i ≢ to
            → alike_in node (s.queues i) + alike_in node (s.rests i) ≡ 0
        both i seat other = omega (
          arith,
          stands,
          fit.once node,
          total-part (alike_in node) (put s.queues to []) i (suc n) seat,
          total-put (alike_in node) s.queues to [] (suc n) (omega (arith, most)),
          ap (alike_in node) (put-other s.queues to [] i other),
          total-part (alike_in node) (put s.rests to []) i (suc n) seat,
          total-put (alike_in node) s.rests to [] (suc n) (omega (arith, most)),
          ap (alike_in node) (put-other s.rests to [] i other),
        )

        queue-none : (i : ℕ) → i ≢ to → alike_in node (s.queues i) ≡ 0
        queue-none i other = elim (cases_lt i (suc n)) [
          | inl seat ↦ omega (arith, both i seat other)
          | inr past ↦ ap (alike_in node) (fit.nobody i (omega (arith, past))).0
        ]

        rest-none : (i : ℕ) → i ≢ to → alike_in node (s.rests i) ≡ 0
        rest-none i other = elim (cases_lt i (suc n)) [
          | inl seat ↦ omega (arith, both i seat other)
          | inr past ↦ ap (alike_in node) (fit.nobody i (omega (arith, past))).1
        ]

      once-there : alike_in node (s.queues to) + alike_in node (s.rests to) ≤ 1
      once-there = omega (
        arith,
        fit.once node,
        total-part (alike_in node) s.queues to (suc n) (omega (arith, most)),
        total-part (alike_in node) s.rests to (suc n) (omega (arith, most)),
      )

      -- the node is linked
      pub codes-linked : IsOlder node older (s.queues to) ⊎ IsOlder node older (s.rests to)
          → Codes n g (effect me (Link node to) s) (set ws (link_at n g node) v)
      codes-linked (inl older-queued) =
          let counts = counted node (s.queues to) older-queued.0 older-queued.1 older-queued.2 in
          codes-linked_by (omega (arith, counts))
          (list-linked node older (s.queues to) is (fit.queues to)
          (omega (arith, once-there)) older-queued (codes.queued to))
          (list-stays node v (s.rests to) is (fit.rests to)
          (omega (arith, once-there, counts)) (codes.rested to))
      codes-linked (inr older-rests) =
          let counts = counted node (s.rests to) older-rests.0 older-rests.1 older-rests.2 in
          codes-linked_by (omega (arith, counts))
          (list-stays node v (s.queues to) is (fit.queues to)
          (omega (arith, once-there, counts)) (codes.queued to))
          (list-linked node older (s.rests to) is (fit.rests to)
          (omega (arith, once-there)) older-rests (codes.rested to))

    -- the word of a name is written
    module _ (name v : ℕ) (from : 1 ≤ name) (to : name ≤ g) where
      abbrev renamed : List ℕ
      renamed = set ws (name_at n g name) v

      named-other : (other : ℕ) → 1 ≤ other → other ≢ name
          → slice_index renamed (name_at n g other) ≡ slice_index ws (name_at n g other)
      named-other other low ne = word-other ws (name_at n g name) v (name_at n g other)
          (λ e. ne (omega (arith, e, from, low)))

      named-links : (ms : List Mark) → AreFit n g ms → LinksAre n g ws ms
          → LinksAre n g renamed ms
      named-links ms are links = links-stay ws (name_at n g name) v ms
          (apart-past (name_at n g name) ms (omega arith) are) links

      -- with other given names
      codes-named : (given : List Named)
          → ((m : ℕ) → m ≢ name → spot_named m given ≡ spot_named m s.given)
          → v ≡ given_code name (spot_named name given)
          → Codes n g (record s { given = given }) renamed
      codes-named given others mine = record {
        count = length-set ws (name_at n g name) v ∙ codes.count;
        heads = λ i low high. word-other ws (name_at n g name) v (head_at i)
            (λ e. omega (arith, e, low, high)) ∙ codes.heads i low high;
        queued = λ i. named-links (s.queues i) (fit.queues i) (codes.queued i);
        rested = λ i. named-links (s.rests i) (fit.rests i) (codes.rested i);
        free = λ node is z. word-other ws (name_at n g name) v (link_at n g node)
            (λ e. omega (arith, e, link-to node is)) ∙ codes.free node is z;
        names = λ m low high. elim (cases_eq m name) [
          | inl q ↦ word-here ws (name_at n g name) v (name_at n g m) (within-name name from to)
              (ap (name_at n g) q) ∙ mine
              ∙ ap (λ k. given_code k (spot_named k given)) (sym q)
          | inr other ↦ named-other m low other ∙ codes.names m low high
              ∙ ap (given_code m) (sym (others m other))
        ];
        owners = λ number low high. word-other ws (name_at n g name) v (owner_at n g number)
            (λ e. omega (arith, e, from, to)) ∙ codes.owners number low high;
      }

    -- a name is given
    pub codes-given : (me : ℕ) (x : Named) → 1 ≤ x.name → x.name ≤ g
        → spot_named x.name s.given ≡ None
        → Codes n g (effect me (Give x) s) (set ws (name_at n g x.name) (code_of (block_node x)))
    unfolding effect
    codes-given me x from to fresh = codes-named x.name (code_of (block_node x)) from to
        (with_name x s.given)
        (λ m other. ap (option_map (λ y. y.spot)) (item_at-old name_of m x s.given other))
        (sym (ap (λ o. given_code x.name (option_map (λ (y : Named). y.spot) o))
        (item_at-new name_of x s.given
        (none-other name_of x.name s.given (unnamed-spot x.name s.given fresh)))))

    -- a try to take one
    pub codes-tried : (me name : ℕ) → 1 ≤ name → name ≤ g
        → Codes n g (effect me (TakeTry name) s) (set ws (name_at n g name) 0)
    unfolding effect
    codes-tried me name from to = codes-named name 0 from to (without_name name s.given)
        (λ m other. ap (option_map (λ y. y.spot)) (item_at-stays name_of m name s.given other))
        (sym (ap (λ o. given_code name (option_map (λ (y : Named). y.spot) o))
        (item_at-gone name_of name s.given)))

    -- a carrier is at another place
    pub codes-placed : (k : ℕ) → 1 ≤ k → k ≤ NUMBERS * n → (p : CarrierAt)
        → Codes n g (at_place k p s) (set ws (owner_at n g k) (place_code p))
    codes-placed k from to p =
        let v = place_code p in record {
          count = length-set ws (owner_at n g k) v ∙ codes.count;
          heads = λ i low high. word-other ws (owner_at n g k) v (head_at i)
              (λ e. omega (arith, e, low, high)) ∙ codes.heads i low high;
          queued = λ i. links-stay ws (owner_at n g k) v (s.queues i)
              (apart-past (owner_at n g k) (s.queues i) (omega arith) (fit.queues i))
              (codes.queued i);
          rested = λ i. links-stay ws (owner_at n g k) v (s.rests i)
              (apart-past (owner_at n g k) (s.rests i) (omega arith) (fit.rests i))
              (codes.rested i);
          free = λ node is z. word-other ws (owner_at n g k) v (link_at n g node)
              (λ e. omega (arith, e, link-to node is)) ∙ codes.free node is z;
          names = λ name low high. word-other ws (owner_at n g k) v (name_at n g name)
              (λ e. omega (arith, e, low, high)) ∙ codes.names name low high;
          owners = λ number low high. elim (cases_eq number k) [
            | inl q ↦ word-here ws (owner_at n g k) v (owner_at n g number)
                (within-owner k from to) (ap (owner_at n g) q)
                ∙ ap place_code (sym (put-here s.places k p number q))
            | inr other ↦ word-other ws (owner_at n g k) v (owner_at n g number)
                (λ e. other (omega (arith, e, low, from)))
                ∙ codes.owners number low high
                ∙ ap place_code (sym (put-other s.places k p number other))
          ];
        }
