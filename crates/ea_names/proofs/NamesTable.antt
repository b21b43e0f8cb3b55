-- A table of names stands for the list of the held ones.
use Rattle.std.proofs.Common.{zero, suc, ◌≡◌, ◌≢◌, ℕ, ◌+◌, ◌<◌, ◌≤◌, List, [], ◌∷◌, Option, Some}
use Rattle.std.proofs.Common.{None, length, get_or, set, replicate, sym, ap, ◌∙◌, refl, arith}
use Rattle.std.specs.Prelude.{All, option_map, sum_by}
use Rattle.std.specs.Option.{option_map_or}
use Rattle.std.proofs.lemmas.List.Elements.{All-nil, All-cons, All-head, All-weaker}
use Rattle.std.proofs.lemmas.List.Sums.{sum_by-cons}
use Rattle.ea_model.specs.declared.carriers.Spot.{Spot}
use Rattle.ea_model.proofs.Rising.{entered_here, entered_past, item_at-gone, item_here, item_past}
use Rattle.ea_model.proofs.Rising.{without_here, without_none, without_past}
use Rattle.ea_machine.specs.declared.nodes.Named.{Named}
use Rattle.ea_machine.specs.Nodes.{named_at, spot_named, with_name, without_name, name_of}
use Rattle.ea_names.specs.Holding.{held_from}

abbrev held_at : ℕ → Spot → Named
held_at name spot = record { name = name; spot = spot }

-- no name of a table comes before its first
pub held-after : (first : ℕ) (spots : List (Option Spot))
    → All (λ x. first ≤ x.name) (held_from first spots)
held-after first [] = All-nil (λ x. first ≤ x.name)
held-after first (None ∷ spots) = All-weaker (λ x. first + 1 ≤ x.name) (λ x. first ≤ x.name)
    (λ x le. omega arith) (held_from (first + 1) spots) (held-after (first + 1) spots)
held-after first (Some spot ∷ spots) =
    All-cons (λ x. first ≤ x.name) (held_at first spot) (held_from (first + 1) spots) (omega arith)
    (All-weaker (λ x. first + 1 ≤ x.name) (λ x. first ≤ x.name) (λ x le. omega arith)
    (held_from (first + 1) spots) (held-after (first + 1) spots))

-- so an earlier name is none of them
held-other : (name first : ℕ) (spots : List (Option Spot)) → name < first
    → All (λ x. x.name ≢ name) (held_from first spots)
held-other name first spots lt = All-weaker (λ x. first ≤ x.name) (λ x. x.name ≢ name)
    (λ x le same. omega arith) (held_from first spots) (held-after first spots)

pub missing : (name : ℕ) (names : List Named) → All (λ x. x.name ≢ name) names
    → named_at name names ≡ None
missing name names other =
    ap (named_at name) (sym (without_none name_of name names other))
    ∙ item_at-gone name_of name names

-- what stands at the place of a name is where its block begins
pub spot-held : (name first i : ℕ) (spots : List (Option Spot)) → name ≡ first + i
    → spot_named name (held_from first spots) ≡ get_or spots i None
spot-held name first i [] e = refl
spot-held name first zero (None ∷ spots) e = ap (option_map (λ (x : Named). x.spot))
    (missing name (held_from (first + 1) spots)
    (held-other name (first + 1) spots (omega arith)))
spot-held name first zero (Some spot ∷ spots) e = ap (option_map (λ n. n.spot))
    (item_here name_of name (held_at first spot) (held_from (first + 1) spots) (omega arith))
spot-held name first (suc i) (None ∷ spots) e =
    spot-held name (first + 1) i spots (omega arith)
spot-held name first (suc i) (Some spot ∷ spots) e =
    ap (option_map (λ n. n.spot))
    (item_past name_of name (held_at first spot) (held_from (first + 1) spots)
    (λ same. omega arith))
    ∙ spot-held name (first + 1) i spots (omega arith)

pub entered-first : (x : Named) (names : List Named) → All (λ y. x.name < y.name) names
    → with_name x names ≡ x ∷ names
entered-first x [] after = refl
entered-first x (y ∷ names) after =
    entered_here name_of x y names (All-head (λ z. x.name < z.name) y names after)

-- a spot at the empty place of a name enters the name
pub hold-held : (name first i : ℕ) (spot : Spot) (spots : List (Option Spot)) → name ≡ first + i
    → i < length spots → get_or spots i None ≡ None
    → held_from first (set spots i (Some spot))
    ≡ with_name (record { name = name; spot = spot }) (held_from first spots)
hold-held name first i spot [] e lt free = absurd (omega arith)
hold-held name first zero spot (None ∷ spots) e lt free =
    let same : first ≡ name = omega arith in
    ap (λ n. held_at n spot ∷ held_from (first + 1) spots) same
    ∙ sym (entered-first (held_at name spot) (held_from (first + 1) spots)
    (All-weaker (λ x. first + 1 ≤ x.name) (λ x. name < x.name) (λ x le. omega arith)
    (held_from (first + 1) spots) (held-after (first + 1) spots)))
hold-held name first zero spot (Some there ∷ spots) e lt free = absurd cc
hold-held name first (suc i) spot (None ∷ spots) e lt free =
    hold-held name (first + 1) i spot spots (omega arith) (omega arith) free
hold-held name first (suc i) spot (Some there ∷ spots) e lt free =
    ap (λ names. held_at first there ∷ names)
    (hold-held name (first + 1) i spot spots (omega arith) (omega arith) free)
    ∙ sym (entered_past name_of (held_at name spot) (held_at first there)
    (held_from (first + 1) spots) (omega arith))

-- emptying the place of a name takes the name out
pub let-go-held : (name first i : ℕ) (spots : List (Option Spot)) → name ≡ first + i
    → held_from first (set spots i None) ≡ without_name name (held_from first spots)
let-go-held name first i [] e = refl
let-go-held name first zero (None ∷ spots) e =
    sym (without_none name_of name (held_from (first + 1) spots)
    (held-other name (first + 1) spots (omega arith)))
let-go-held name first zero (Some spot ∷ spots) e =
    sym (without_here name_of name (held_at first spot) (held_from (first + 1) spots) (omega arith)
    ∙ without_none name_of name (held_from (first + 1) spots)
    (held-other name (first + 1) spots (omega arith)))
let-go-held name first (suc i) (None ∷ spots) e =
    let-go-held name (first + 1) i spots (omega arith)
let-go-held name first (suc i) (Some spot ∷ spots) e =
    ap (λ names. held_at first spot ∷ names)
    (let-go-held name (first + 1) i spots (omega arith))
    ∙ sym (without_past name_of name (held_at first spot) (held_from (first + 1) spots)
    (λ same. omega arith))

-- a table of empty places holds no name
pub held-none : (first n : ℕ) → held_from first (replicate n None) ≡ []
held-none first zero = refl
held-none first (suc n) = held-none (first + 1) n

-- a sum over the places is one over the held names
pub sum-held : (f : Spot → ℕ) (first : ℕ) (spots : List (Option Spot))
    → sum_by (λ x. f x.spot) (held_from first spots) ≡ sum_by (λ s. option_map_or f s 0) spots
sum-held f first [] = refl
sum-held f first (None ∷ spots) =
    sum-held f (first + 1) spots
sum-held f first (Some spot ∷ spots) =
    sum_by-cons (λ x. f x.spot) (held_at first spot) (held_from (first + 1) spots)
    ∙ ap (λ n. f spot + n) (sum-held f (first + 1) spots)
    ∙ sym (sum_by-cons (λ s. option_map_or f s 0) (Some spot) spots)
