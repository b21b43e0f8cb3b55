-- Nodes of one name, and how many nodes there is room for.
use Rattle.std.proofs.Common.{◌≡◌, ℕ, ◌+◌, ◌*◌, ◌<◌, ◌≤◌, List, [], ◌∷◌, length, refl, inl, inr}
use Rattle.std.proofs.Common.{arith}
use Rattle.std.proofs.lemmas.Bool.{cases_lt}
use Rattle.ea_model.specs.declared.carriers.Spot.{Spot}
use Rattle.ea_model.specs.declared.units.TheConstants.{NUMBERS}
use Rattle.ea_machine.proofs.AlikeNodes.{alike-itself, none-alike}
use Rattle.ea_machine.specs.declared.nodes.Node.{Node}
use Rattle.ea_machine.specs.declared.nodes.Node.TheVariants.{Block, Carrier}
use Rattle.ea_machine.specs.Nodes.{Mark}
use Rattle.ea_machine.specs.Sums.{one_if}
use Rattle.ea_machine.specs.Alike.{IsNode, alike_in, are_alike}
use Rattle.ea_queues.specs.Chains.{HasNone, Queueing, count_of, marks_of, number_of, standing_in}
use Rattle.ea_queues.proofs.ListSums.{sum-zero, upto, upto-zero, upto-add, upto-most, upto-one}

-- where none is alike none is counted
pub none-standing : (x : Node) (s : Queueing) → HasNone x s → standing_in s x ≡ 0
none-standing x s none = omega (
  arith,
  sum-zero (alike_in x) s.queues [] (λ i. none-alike x (marks_of s.queues i) (none i).0),
  sum-zero (alike_in x) s.rests [] (λ i. none-alike x (marks_of s.rests i) (none i).1),
)

-- the node has a number that has a place
pub number-in : (schedulers greatest names carriers : ℕ) (x : Node)
    → names ≡ greatest + 1 → carriers ≡ NUMBERS * schedulers + 1 → IsNode schedulers greatest x
    → number_of x < count_of names carriers x
number-in schedulers greatest names carriers (Block n p) e f is = omega (arith, is.1)
number-in schedulers greatest names carriers (Carrier c) e f is = omega (arith, is.1)

-- nodes that are alike have the same number, of the same count
pub alike-outside : (names carriers : ℕ) (x y : Node) → number_of y < count_of names carriers y
    → count_of names carriers x ≤ number_of x → one_if (are_alike x y) ≡ 0
alike-outside names carriers (Block n p) (Block m q) lt le = grind arith
alike-outside names carriers (Block n p) (Carrier d) lt le = refl
alike-outside names carriers (Carrier c) (Block m q) lt le = refl
alike-outside names carriers (Carrier c) (Carrier d) lt le = grind arith

spot : Spot
spot = record { carrier = 0; offset = 0 }

-- a node counts for one of the names and carrier numbers
one-more : (names carriers : ℕ) (x : Node) → number_of x < count_of names carriers x
    → upto names (λ k. one_if (are_alike (Block k spot) x))
    + upto carriers (λ k. one_if (are_alike (Carrier k) x)) ≡ 1
one-more names carriers (Block n p) lt =
    omega (arith, upto-one names n lt, upto-zero carriers)
one-more names carriers (Carrier c) lt =
    omega (arith, upto-one carriers c lt, upto-zero names)

module _ (names carriers : ℕ) where
  counted : (ms : List Mark) → ((x : Node) → count_of names carriers x ≤ number_of x
      → alike_in x ms ≡ 0)
      → length ms ≡ upto names (λ k. alike_in (Block k spot) ms)
      + upto carriers (λ k. alike_in (Carrier k) ms)
  counted [] within = omega (arith, upto-zero names, upto-zero carriers)
  counted (m ∷ ms) within = elim (cases_lt (number_of m.node) (count_of names carriers m.node)) [
    | inl lt ↦ omega (
      arith,
      counted ms (λ x le. omega (arith, within x le)),
      one-more names carriers m.node lt,
      upto-add names (λ k. one_if (are_alike (Block k spot) m.node))
          (λ k. alike_in (Block k spot) ms),
      upto-add carriers (λ k. one_if (are_alike (Carrier k) m.node))
          (λ k. alike_in (Carrier k) ms),
    )
    | inr le ↦ absurd (omega (arith, within m.node le, alike-itself m.node))
  ]

  -- nodes of which no two are alike are no more than the names and the carrier numbers
  pub room : (ms : List Mark) → ((x : Node) → alike_in x ms ≤ 1)
      → ((x : Node) → count_of names carriers x ≤ number_of x → alike_in x ms ≡ 0)
      → length ms ≤ names + carriers
  room ms once within = omega (
    arith,
    counted ms within,
    upto-most names (λ k. alike_in (Block k spot) ms) (λ k. once (Block k spot)),
    upto-most carriers (λ k. alike_in (Carrier k) ms) (λ k. once (Carrier k)),
  )
