-- Nodes of one name or of one carrier, and how many of them are linked in a list.
use Rattle.std.proofs.Common.{◌≡◌, ◌+◌, Bool, true, false, List, [], ◌∷◌, ◌++◌, refl, ap, ◌∙◌}
use Rattle.std.proofs.Common.{arith}
use Rattle.std.specs.Prelude.{All, if◌then◌else◌}
use Rattle.std.proofs.lemmas.Bool.{cond-false, cond-true}
use Rattle.std.proofs.lemmas.List.Elements.{All-head, All-tail}
use Rattle.ea_machine.specs.declared.nodes.Node.{Node}
use Rattle.ea_machine.specs.declared.nodes.Node.TheVariants.{Block, Carrier}
use Rattle.ea_machine.specs.Alike.{alike_in, are_alike}
use Rattle.ea_machine.specs.Nodes.{Mark, link_in, pushed, same_node}
use Rattle.ea_machine.specs.Sums.{one_if}

pub alike-itself : (x : Node) → one_if (are_alike x x) ≡ 1
alike-itself (Block n p) = grind arith
alike-itself (Carrier c) = grind arith

pub alike-equal : (x y : Node) → are_alike x y ≡ true
    → (z : Node) → are_alike x z ≡ are_alike y z
alike-equal (Block n p) (Block m q) same (Block l r) = grind arith
alike-equal (Block n p) (Block m q) same (Carrier d) = refl
alike-equal (Block n p) (Carrier d) same z = absurd cc
alike-equal (Carrier c) (Block m q) same z = absurd cc
alike-equal (Carrier c) (Carrier d) same (Block l r) = refl
alike-equal (Carrier c) (Carrier d) same (Carrier e) = grind arith

-- nodes that aren't alike aren't the same
pub same-alike : (x y : Node) → are_alike x y ≡ false → same_node x y ≡ false
same-alike (Block n p) (Block m q) other = grind arith
same-alike (Block n p) (Carrier d) other = refl
same-alike (Carrier c) (Block m q) other = refl
same-alike (Carrier c) (Carrier d) other = other

pub same-itself : (x : Node) → same_node x x ≡ true
same-itself (Block n p) = grind arith
same-itself (Carrier c) = grind arith

-- whether two nodes are alike, by how many that counts for
pub one-none : (b : Bool) → one_if b ≡ 0 → b ≡ false
one-none true z = absurd (omega (arith, z))
one-none false z = refl

pub one-true : (b : Bool) → one_if b ≡ 1 → b ≡ true
one-true true o = refl
one-true false o = absurd (omega (arith, o))

pub none-alike : (x : Node) (ms : List Mark) → All (λ m. are_alike x m.node ≡ false) ms
    → alike_in x ms ≡ 0
none-alike x [] other = refl
none-alike x (m ∷ ms) other =
    let P = λ (m : Mark). are_alike x m.node ≡ false in
    omega (arith, ap one_if (All-head P m ms other), none-alike x ms (All-tail P m ms other))

abbrev pub linked : Node → Mark
linked node = record { node = node; linked = true }

pub alike-append : (x : Node) (ms ns : List Mark)
    → alike_in x (ms ++ ns) ≡ alike_in x ms + alike_in x ns
alike-append x [] ns = omega arith
alike-append x (m ∷ ms) ns = omega (arith, alike-append x ms ns)

-- nodes that are linked are the same nodes
pub link-count : (x node : Node) (ms : List Mark)
    → alike_in x (link_in node ms) ≡ alike_in x ms
link-count x node [] = refl
link-count x node (m ∷ ms) =
    omega (arith, either (same_node node m.node), link-count x node ms) where
      either : (b : Bool) → one_if (are_alike x (if b then record m { linked = true } else m).node)
          ≡ one_if (are_alike x m.node)
      either true = refl
      either false = refl

-- where the node isn't, none is linked
pub link-none : (node : Node) (ms : List Mark) → alike_in node ms ≡ 0 → link_in node ms ≡ ms
link-none node [] z = refl
link-none node (m ∷ ms) z =
    let other = one-none (are_alike node m.node) (omega (arith, z)) in
    ap (λ (k : Mark). k ∷ link_in node ms)
    (cond-false (same_node node m.node) (record m { linked = true }) m
    (same-alike node m.node other))
    ∙ ap (λ (l : List Mark). m ∷ l) (link-none node ms (omega (arith, z)))

-- where it is, once, it is linked
pub link-there : (node : Node) (newer rest : List Mark) → alike_in node newer ≡ 0
    → alike_in node rest ≡ 0
    → link_in node (newer ++ (pushed node ∷ rest)) ≡ newer ++ (linked node ∷ rest)
link-there node [] rest y z =
    ap (λ (k : Mark). k ∷ link_in node rest)
    (cond-true (same_node node node) (linked node) (pushed node) (same-itself node))
    ∙ ap (λ (l : List Mark). linked node ∷ l) (link-none node rest z)
link-there node (m ∷ newer) rest y z =
    let other = one-none (are_alike node m.node) (omega (arith, y)) in
    ap (λ (k : Mark). k ∷ link_in node (newer ++ (pushed node ∷ rest)))
    (cond-false (same_node node m.node) (record m { linked = true }) m
    (same-alike node m.node other))
    ∙ ap (λ (l : List Mark). m ∷ l) (link-there node newer rest (omega (arith, y)) z)
