-- What the nodes of a tree say of the leaves below them.
use Rattle.std.proofs.Common.{zero, suc, ◌≡◌, ℕ, ◌+◌, ◌-◌, ◌*◌, ◌^◌, ◌<◌, ◌≤◌, List, length}
use Rattle.std.proofs.Common.{get_or, drop, ap, ◌∙◌, inl, inr, arith}
use Rattle.std.proofs.Math.Nat.{two-pow-succ, mul-le-mul_left}
use Rattle.std.proofs.lemmas.Nat.{pow_pos}
use Rattle.std.proofs.lemmas.Bool.{cases_lt}
use Rattle.std.proofs.lemmas.List.{get_or-drop, length-drop}
use Rattle.ea_postree.specs.Firsts.{IsFirstAtLeast}
use Rattle.ea_postree.specs.Maxima.{IsGreater, IsTree}

-- each node above the leaves has the greater value of the two below it
abbrev pub Greater : ℕ → List ℕ → Type 0
Greater leaves m = (node : ℕ) → 1 ≤ node → node < leaves → IsGreater m node

-- the node is that many levels above the leaves
pub record IsAbove (leaves levels node : ℕ) : Type 0 where
  pub some : 1 ≤ node
  pub from : leaves ≤ node * 2 ^ levels
  pub to : node * 2 ^ levels + 2 ^ levels ≤ 2 * leaves

doubled : (n e : ℕ) → n * 2 ^ suc e ≡ 2 * n * 2 ^ e
doubled n e = rw (two-pow-succ e) (omega arith)

pub left : (leaves e node : ℕ) → IsAbove leaves (suc e) node → IsAbove leaves e (2 * node)
left leaves e node a = record {
  some = omega (arith, a.some);
  from = omega (arith, a.from, doubled node e);
  to = omega (arith, a.to, doubled node e, two-pow-succ e);
}

pub right : (leaves e node : ℕ) → IsAbove leaves (suc e) node → IsAbove leaves e (2 * node + 1)
right leaves e node a = record {
  some = omega arith;
  from = omega (arith, a.from, doubled node e);
  to = omega (arith, a.to, doubled node e, two-pow-succ e);
}

pub inner : (leaves e node : ℕ) → IsAbove leaves (suc e) node → node < leaves
inner leaves e node a =
    let p : node * 1 ≤ node * 2 ^ e = mul-le-mul_left node (pow_pos e) in
    omega (arith, a.to, doubled node e, two-pow-succ e, pow_pos e)

-- no leaf has a greater value than a node above it
pub leaf-le : (leaves : ℕ) (m : List ℕ) → Greater leaves m → (e node q : ℕ)
    → IsAbove leaves e node → node * 2 ^ e ≤ q → q < node * 2 ^ e + 2 ^ e
    → get_or m q 0 ≤ get_or m node 0
leaf-le leaves m g zero node q a from to =
    let same : q ≡ node = omega (arith, from, to) in omega (arith, ap (λ k. get_or m k 0) same)
leaf-le leaves m g (suc e) node q a from to =
    let here : IsGreater m node = g node a.some (inner leaves e node a) in
    elim (cases_lt q ((2 * node + 1) * 2 ^ e)) [
      | inl lt ↦ omega (
        arith,
        here,
        leaf-le leaves m g e (2 * node) q (left leaves e node a)
            (omega (arith, from, doubled node e)) (omega (arith, lt)),
      )
      | inr le ↦ omega (
        arith,
        here,
        leaf-le leaves m g e (2 * node + 1) q (right leaves e node a) le
            (omega (arith, to, doubled node e, two-pow-succ e)),
      )
    ]

-- some leaf has the value of a node
pub leaf-same : (leaves : ℕ) (m : List ℕ) → Greater leaves m → (e node : ℕ)
    → IsAbove leaves e node → (p : ℕ) × (p < leaves) × (get_or m (leaves + p) 0 ≡ get_or m node 0)
leaf-same leaves m g zero node a = (
  node - leaves,
  omega (arith, a.from, a.to),
  ap (λ k. get_or m k 0) (omega (arith, a.from)),
)
leaf-same leaves m g (suc e) node a =
    let here : IsGreater m node = g node a.some (inner leaves e node a) in
    elim (cases_lt (get_or m (2 * node) 0) (get_or m (2 * node + 1) 0)) [
      | inl lt ↦
          let r = leaf-same leaves m g e (2 * node + 1) (right leaves e node a) in
          (r.0, r.1, omega (arith, here, r.2))
      | inr le ↦
          let r = leaf-same leaves m g e (2 * node) (left leaves e node a) in
          (r.0, r.1, omega (arith, here, r.2))
    ]

pub root : (leaves : ℕ) (m : List ℕ) → (t : IsTree leaves m) → IsAbove leaves t.power.0 1
root leaves m t = record {
  some = omega arith;
  from = omega (arith, t.power.1);
  to = omega (arith, t.power.1);
}

-- no leaf has a greater value than the root
pub root-le : (leaves : ℕ) (m : List ℕ) → IsTree leaves m → (p : ℕ) → p < leaves
    → get_or m (leaves + p) 0 ≤ get_or m 1 0
root-le leaves m t p lt =
    leaf-le leaves m t.greater t.power.0 1 (leaves + p) (root leaves m t)
    (omega (arith, t.power.1)) (omega (arith, t.power.1))

-- a way down has come to a node with at least that value, and the leaves before those below it have
-- less
pub record HasComeTo (value leaves : ℕ) (m : List ℕ) (node : ℕ) : Type 0 where
  pub levels : ℕ
  pub above : IsAbove leaves levels node
  pub great : value ≤ get_or m node 0
  pub less : (q : ℕ) → leaves ≤ q → q < node * 2 ^ levels → get_or m q 0 < value

left_from : (value leaves : ℕ) (m : List ℕ) (e node : ℕ) → IsAbove leaves e node → node < leaves
    → ((q : ℕ) → leaves ≤ q → q < node * 2 ^ e → get_or m q 0 < value)
    → value ≤ get_or m (2 * node) 0 → HasComeTo value leaves m (2 * node)
left_from value leaves m zero node a lt less great = absurd (omega (arith, a.from))
left_from value leaves m (suc e) node a lt less great = record {
  levels = e;
  above = left leaves e node a;
  great = great;
  less = λ q from to. less q from (omega (arith, to, doubled node e));
}

pub go_left : (value leaves : ℕ) (m : List ℕ) (node : ℕ) → HasComeTo value leaves m node
    → node < leaves → value ≤ get_or m (2 * node) 0 → HasComeTo value leaves m (2 * node)
go_left value leaves m node h lt great =
    left_from value leaves m h.levels node h.above lt h.less great

right_from : (value leaves : ℕ) (m : List ℕ) → Greater leaves m → (e node : ℕ)
    → IsAbove leaves e node → node < leaves
    → ((q : ℕ) → leaves ≤ q → q < node * 2 ^ e → get_or m q 0 < value)
    → value ≤ get_or m node 0 → get_or m (2 * node) 0 < value
    → HasComeTo value leaves m (2 * node + 1)
right_from value leaves m g zero node a lt less great small = absurd (omega (arith, a.from))
right_from value leaves m g (suc e) node a lt less great small = record {
  levels = e;
  above = right leaves e node a;
  great = let here : IsGreater m node = g node a.some lt in omega (arith, here, great, small);
  less = λ q from to.
      elim (cases_lt q (node * 2 ^ suc e)) [
        | inl before ↦ less q from before
        | inr after ↦ omega (
          arith,
          small,
          leaf-le leaves m g e (2 * node) q (left leaves e node a)
              (omega (arith, after, doubled node e)) (omega (arith, to)),
        )
      ];
}

pub go_right : (value leaves : ℕ) (m : List ℕ) (node : ℕ) → Greater leaves m
    → HasComeTo value leaves m node → node < leaves → get_or m (2 * node) 0 < value
    → HasComeTo value leaves m (2 * node + 1)
go_right value leaves m node g h lt small =
    right_from value leaves m g h.levels node h.above lt h.less h.great small

first_from : (value leaves : ℕ) (m : List ℕ) (e node : ℕ) → length m ≡ 2 * leaves
    → IsAbove leaves e node → leaves ≤ node
    → ((q : ℕ) → leaves ≤ q → q < node * 2 ^ e → get_or m q 0 < value)
    → value ≤ get_or m node 0 → IsFirstAtLeast value (drop leaves m) (node - leaves)
first_from value leaves m zero node long a le less great = record {
  within = omega (arith, length-drop leaves m, long, a.to);
  great =
      let e : get_or (drop leaves m) (node - leaves) 0 ≡ get_or m node 0 =
      get_or-drop leaves m (node - leaves) 0 ∙ ap (λ k. get_or m k 0) (omega (arith, le)) in
      omega (arith, e, great);
  first = λ q lt.
      omega (arith, get_or-drop leaves m q 0, less (leaves + q) (omega arith) (omega (arith, lt)));
}
first_from value leaves m (suc e) node long a le less great =
    absurd (omega (arith, le, inner leaves e node a))

pub first_found : (value leaves : ℕ) (m : List ℕ) (node : ℕ) → IsTree leaves m
    → HasComeTo value leaves m node → leaves ≤ node
    → IsFirstAtLeast value (drop leaves m) (node - leaves)
first_found value leaves m node t h le =
    first_from value leaves m h.levels node t.long h.above le h.less h.great
