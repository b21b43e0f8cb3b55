-- Chains of nodes, and how they change.
use Rattle.ea_machine.proofs.AlikeNodes.{alike-append, alike-itself, link-count, link-none}
use Rattle.ea_machine.proofs.AlikeNodes.{link-there, linked, one-none}
use Rattle.std.proofs.Common.{◌≡◌, ℕ, zero, suc, ◌+◌, ◌<◌, ◌≤◌, Bool, true, false, List, [], ◌∷◌}
use Rattle.std.proofs.Common.{◌++◌, Option, None, Some, length, get_or, map, set, take, drop}
use Rattle.std.proofs.Common.{replicate, refl, sym, ap, subst, ◌∙◌, arith}
use Rattle.std.specs.Prelude.{Contains}
use Rattle.std.proofs.lemmas.List.{set-get_or}
use Rattle.ea_machine.specs.declared.nodes.Node.{Node}
use Rattle.ea_machine.specs.Nodes.{Mark, first_node, link_in, pushed}
use Rattle.ea_machine.specs.Rows.{Passes, Rests}
use Rattle.ea_machine.specs.Table.{link_answer, link_read, rest_after, rest_by}
use Rattle.ea_machine.specs.Alike.{alike_in, are_alike}
use Rattle.ea_queues.specs.Chains.{alike_among, AreChains, chain, count_of, IsChain, marks_of}
use Rattle.ea_queues.specs.Chains.{number_of}
use Rattle.ea_queues.specs.declared.cells.Cell.{Cell}
use Rattle.ea_queues.proofs.AlikeNodes.{room}
use Rattle.ea_queues.proofs.ListSums.{sum-set}

some-is : {A : Type 0} (x y : A) → Some x ≡ Some y → x ≡ y
some-is x y e = cc

mark-is : (node : Node) (linked : Bool) (m : Mark) → node ≡ m.node → linked ≡ m.linked
    → record { node = node; linked = linked } ≡ m
mark-is node linked m e f = rw (e, f) refl

-- a chain that ends is all that is reached in as many steps
pub chain-is : (cell : Node → Cell) (n : ℕ) (first : Option Node) (ms : List Mark) → length ms ≤ n
    → IsChain cell first ms → chain cell n first ≡ ms
chain-is cell zero first [] le c = refl
chain-is cell zero first (m ∷ ms) le c = absurd (omega (arith, le))
chain-is cell (suc n) None [] le c = refl
chain-is cell (suc n) (Some x) [] le c = absurd cc
chain-is cell (suc n) None (m ∷ ms) le c =
    let e : None ≡ Some m.node = c.0 in absurd cc
chain-is cell (suc n) (Some x) (m ∷ ms) le c =
    let e = some-is x m.node c.0 in
    subst (λ y. record { node = y; linked = (cell y).linked } ∷ chain cell n (cell y).older
    ≡ m ∷ ms) (sym e)
    (ap (λ (k : Mark). k ∷ chain cell n (cell m.node).older)
    (mark-is m.node (cell m.node).linked m refl c.1)
    ∙ ap (λ (l : List Mark). m ∷ l)
    (chain-is cell n (cell m.node).older ms (omega (arith, le)) c.2))

-- a chain begins with its first node
pub chain-first : (cell : Node → Cell) (first : Option Node) (ms : List Mark)
    → IsChain cell first ms → first ≡ first_node ms
chain-first cell first [] c = c
chain-first cell first (m ∷ ms) c = c.0

-- chains of all, from as many nodes
pub chains-are : (cell : Node → Cell) (names carriers : ℕ) (firsts : List (Option Node))
    (lists : List (List Mark)) → ((x : Node) → alike_among x lists ≤ 1)
    → ((x : Node) → count_of names carriers x ≤ number_of x → alike_among x lists ≡ 0)
    → AreChains cell firsts lists → map (chain cell (names + carriers)) firsts ≡ lists
chains-are cell names carriers [] [] once within c = refl
chains-are cell names carriers [] (ms ∷ lists) once within c = absurd c
chains-are cell names carriers (first ∷ firsts) [] once within c = absurd c
chains-are cell names carriers (first ∷ firsts) (ms ∷ lists) once within c =
    let short = room names carriers ms (λ x. omega (arith, once x))
    (λ x le. omega (arith, within x le)) in
    ap (λ (l : List Mark). l ∷ map (chain cell (names + carriers)) firsts)
    (chain-is cell (names + carriers) first ms short c.0)
    ∙ ap (λ (l : List (List Mark)). ms ∷ l)
    (chains-are cell names carriers firsts lists (λ x. omega (arith, once x))
    (λ x le. omega (arith, within x le)) c.1)

module _ (cell : Node → Cell) where
  pub chains-length : (firsts : List (Option Node)) (lists : List (List Mark))
      → AreChains cell firsts lists → length lists ≡ length firsts
  chains-length [] [] c = refl
  chains-length [] (ms ∷ lists) c = absurd c
  chains-length (first ∷ firsts) [] c = absurd c
  chains-length (first ∷ firsts) (ms ∷ lists) c =
      omega (arith, chains-length firsts lists c.1)

  pub chain-at : (firsts : List (Option Node)) (lists : List (List Mark)) (i : ℕ)
      → AreChains cell firsts lists → IsChain cell (get_or firsts i None) (get_or lists i [])
  chain-at [] [] i c = refl
  chain-at [] (ms ∷ lists) i c = absurd c
  chain-at (first ∷ firsts) [] i c = absurd c
  chain-at (first ∷ firsts) (ms ∷ lists) zero c = c.0
  chain-at (first ∷ firsts) (ms ∷ lists) (suc i) c = chain-at firsts lists i c.1

  -- another chain in the place of one
  pub chain-set : (firsts : List (Option Node)) (lists : List (List Mark)) (i : ℕ)
      (first : Option Node) (ms : List Mark) → AreChains cell firsts lists
      → IsChain cell first ms → AreChains cell (set firsts i first) (set lists i ms)
  chain-set [] [] i first ms c d = c
  chain-set [] (l ∷ lists) i first ms c d = absurd c
  chain-set (f ∷ firsts) [] i first ms c d = absurd c
  chain-set (f ∷ firsts) (l ∷ lists) zero first ms c d = (d, c.1)
  chain-set (f ∷ firsts) (l ∷ lists) (suc i) first ms c d =
      (c.0, chain-set firsts lists i first ms c.1 d)

  pub chains-none : (n : ℕ) → AreChains cell (replicate n None) (replicate n [])
  chains-none zero = tt
  chains-none (suc n) = (refl, chains-none n)

-- the cell of one node is another one
module _ (cell next : Node → Cell) (node : Node)
    (agrees : (x : Node) → are_alike node x ≡ false → next x ≡ cell x) where
  -- a chain without the node stays
  pub chain-stays : (first : Option Node) (ms : List Mark) → alike_in node ms ≡ 0
      → IsChain cell first ms → IsChain next first ms
  chain-stays first [] z c = c
  chain-stays first (m ∷ ms) z c =
      let same = agrees m.node (one-none (are_alike node m.node) (omega (arith, z))) in (
        c.0,
        ap (λ (x : Cell). x.linked) same ∙ c.1,
        subst (λ (x : Cell). IsChain next x.older ms) (sym same)
            (chain-stays (cell m.node).older ms (omega (arith, z)) c.2),
      )

  pub chains-stay : (firsts : List (Option Node)) (lists : List (List Mark))
      → alike_among node lists ≡ 0 → AreChains cell firsts lists → AreChains next firsts lists
  chains-stay [] [] z c = c
  chains-stay [] (ms ∷ lists) z c = absurd c
  chains-stay (first ∷ firsts) [] z c = absurd c
  chains-stay (first ∷ firsts) (ms ∷ lists) z c = (
    chain-stays first ms (omega (arith, z)) c.0,
    chains-stay firsts lists (omega (arith, z)) c.1,
  )

  -- another chain in the place of the only one that had the node
  pub chain-replaced : (firsts : List (Option Node)) (lists : List (List Mark)) (i : ℕ)
      (first : Option Node) (ms : List Mark) → alike_among node (set lists i []) ≡ 0
      → AreChains cell firsts lists → IsChain next first ms
      → AreChains next (set firsts i first) (set lists i ms)
  chain-replaced [] [] i first ms z c d = c
  chain-replaced [] (l ∷ lists) i first ms z c d = absurd c
  chain-replaced (f ∷ firsts) [] i first ms z c d = absurd c
  chain-replaced (f ∷ firsts) (l ∷ lists) zero first ms z c d =
      (d, chains-stay firsts lists (omega (arith, z)) c.1)
  chain-replaced (f ∷ firsts) (l ∷ lists) (suc i) first ms z c d = (
    chain-stays f l (omega (arith, z)) c.0,
    chain-replaced firsts lists i first ms (omega (arith, z)) c.1 d,
  )

-- a walk that reads the link of its next node
module _ (cell : Node → Cell) (node : Node) where
  next-linked : (first : Option Node) (m : Mark) (ms : List Mark) → IsChain cell first (m ∷ ms)
      → first_node (m ∷ ms) ≡ Some node → (m.node ≡ node) × (m.linked ≡ (cell node).linked)
  next-linked first m ms c e =
      let same = some-is m.node node e in
      (same, sym c.1 ∙ ap (λ x. (cell x).linked) same)

  -- where it isn't linked the walk rests
  pub rests-there : (first : Option Node) (ms : List Mark) → IsChain cell first ms
      → first_node ms ≡ Some node → (cell node).linked ≡ false
      → (link_answer ms ≡ Rests) × (rest_after ms ≡ ms)
  rests-there first [] c e not = absurd cc
  rests-there first (m ∷ ms) c e not =
      let off = (next-linked first m ms c e).1 ∙ not in
      (ap (λ b. link_read b ms) off, ap (λ b. rest_by b m ms) off)

  -- where it is linked the node is passed
  pub passes-there : (first : Option Node) (ms : List Mark) → IsChain cell first ms
      → first_node ms ≡ Some node → (cell node).linked ≡ true
      → (link_answer ms ≡ Passes (cell node).older)
      × IsChain cell (cell node).older (rest_after ms)
      × ((x : Node) → alike_in x (rest_after ms) ≤ alike_in x ms)
  passes-there first [] c e so = absurd cc
  passes-there first (m ∷ ms) c e so =
      let is = next-linked first m ms c e in
      let after : rest_after (m ∷ ms) ≡ ms = ap (λ b. rest_by b m ms) (is.1 ∙ so) in
      let older : IsChain cell (cell node).older ms =
      subst (λ x. IsChain cell (cell x).older ms) is.0 c.2 in (
        ap (λ b. link_read b ms) (is.1 ∙ so)
            ∙ ap Passes (sym (chain-first cell (cell node).older ms older)),
        subst (IsChain cell (cell node).older) (sym after) older,
        λ x. omega (arith, ap (alike_in x) after),
      )

split-at : (xs : List Mark) (k : ℕ) (x : Mark) → k < length xs → get_or xs k x ≡ x
    → xs ≡ take k xs ++ (x ∷ drop (suc k) xs)
split-at [] k x lt e = absurd (omega (arith, lt))
split-at (y ∷ ys) zero x lt e = ap (λ (z : Mark). z ∷ ys) e
split-at (y ∷ ys) (suc k) x lt e =
    ap (λ (zs : List Mark). y ∷ zs) (split-at ys k x (omega (arith, lt)) e)

-- a node that is among these stands after newer ones and before older ones
abbrev StandsIn : Node → List Mark → Type 0
StandsIn node marks = (newer : List Mark) × (rest : List Mark)
    × (marks ≡ newer ++ (pushed node ∷ rest))

stands-in : (node : Node) (ms : List Mark) → Contains ms (pushed node) → StandsIn node ms
stands-in node ms there = (
  take there.0 ms,
  drop (suc there.0) ms,
  split-at ms there.0 (pushed node) there.1 there.2,
)

-- the node's cell is linked
module _ (cell next : Node → Cell) (node : Node)
    (agrees : (x : Node) → are_alike node x ≡ false → next x ≡ cell x)
    (is : next node ≡ record { older = (cell node).older; linked = true }) where
  chain-linked : (first : Option Node) (newer rest : List Mark) → alike_in node newer ≡ 0
      → alike_in node rest ≡ 0 → IsChain cell first (newer ++ (pushed node ∷ rest))
      → IsChain next first (newer ++ (linked node ∷ rest))
  chain-linked first [] rest y z c = (
    c.0,
    ap (λ (x : Cell). x.linked) is,
    subst (λ f. IsChain next f rest) (sym (ap (λ (x : Cell). x.older) is))
        (chain-stays cell next node agrees (cell node).older rest z c.2),
  )
  chain-linked first (m ∷ newer) rest y z c =
      let same = agrees m.node (one-none (are_alike node m.node) (omega (arith, y))) in (
        c.0,
        ap (λ (x : Cell). x.linked) same ∙ c.1,
        subst (λ (x : Cell). IsChain next x.older (newer ++ (linked node ∷ rest))) (sym same)
            (chain-linked (cell m.node).older newer rest (omega (arith, y)) z c.2),
      )

  module _ (firsts : List (Option Node)) (lists : List (List Mark)) (i : ℕ)
      (lt : i < length lists) (c : AreChains cell firsts lists) where
    marks-sum : (x : Node) (ms : List Mark)
        → alike_among x (set lists i ms) + alike_in x (marks_of lists i)
        ≡ alike_among x lists + alike_in x ms
    marks-sum x ms = sum-set (alike_in x) lists i ms [] lt

    -- in as many nodes
    pub side-sum : (x : Node)
        → alike_among x (set lists i (link_in node (marks_of lists i))) ≡ alike_among x lists
    side-sum x = omega (
      arith,
      marks-sum x (link_in node (marks_of lists i)),
      link-count x node (marks_of lists i),
    )

    -- where the node isn't
    pub side-other : alike_among node lists ≡ 0
        → AreChains next firsts (set lists i (link_in node (marks_of lists i)))
    side-other z =
        subst (AreChains next firsts)
        (sym (set-get_or lists i [])
        ∙ ap (set lists i)
        (sym (link-none node (marks_of lists i) (omega (arith, marks-sum node [], z)))))
        (chains-stay cell next node agrees firsts lists z c)

    -- where it is, and isn't linked yet
    module _ (contained : Contains (marks_of lists i) (pushed node)) where
      u : StandsIn node (marks_of lists i)
      u = stands-in node (marks_of lists i) contained

      there : alike_in node (marks_of lists i) ≡ alike_in node u.0 + (1 + alike_in node u.1)
      there = ap (alike_in node) u.2 ∙ alike-append node u.0 (pushed node ∷ u.1)
          ∙ ap (λ n. alike_in node u.0 + (n + alike_in node u.1)) (alike-itself node)

      pub side-one : 1 ≤ alike_among node lists
      side-one = omega (arith, there, marks-sum node [])

      pub side-linked : alike_among node lists ≤ 1
          → AreChains next firsts (set lists i (link_in node (marks_of lists i)))
      side-linked le =
          let none : alike_among node (set lists i []) ≡ 0 =
          omega (arith, there, marks-sum node [], le) in
          let y : alike_in node u.0 ≡ 0 = omega (arith, there, marks-sum node [], le) in
          let z : alike_in node u.1 ≡ 0 = omega (arith, there, marks-sum node [], le) in
          let made : u.0 ++ (linked node ∷ u.1) ≡ link_in node (marks_of lists i) =
          sym (ap (link_in node) u.2 ∙ link-there node u.0 u.1 y z) in
          let from = get_or firsts i None in
          subst (λ fs. AreChains next fs (set lists i (link_in node (marks_of lists i))))
          (set-get_or firsts i None)
          (chain-replaced cell next node agrees firsts lists i from
          (link_in node (marks_of lists i)) none c
          (subst (IsChain next from) made
          (chain-linked from u.0 u.1 y z
          (subst (IsChain cell from) u.2 (chain-at cell firsts lists i c)))))
