-- Which candidates a strategy inspects.
use Rattle.std.proofs.Common.{◌≡◌, ℕ, false, List, [], refl}
use Rattle.std.specs.Prelude.{Option, Some, None, IfSome, All, Contains}
use Rattle.std.proofs.lemmas.List.Elements.{All-nil, All-cons, All-filter, All-contains_itself}
use Rattle.ea_model.specs.declared.settings.Strategy.{Strategy}
use Rattle.ea_model.specs.declared.settings.Strategy.TheVariants.{Bf, Aobf, Aoff, AoffCbf}
use Rattle.ea_model.specs.declared.settings.Strategy.TheVariants.{AoffCaobf, AgeffCaoff, AgeffCbf}
use Rattle.ea_model.specs.declared.settings.Strategy.TheVariants.{AgeffCaobf, Gf, Af}
use Rattle.ea_model.specs.declared.carriers.Candidate.{Candidate}
use Rattle.ea_model.specs.Choice.{first}
use Rattle.ea_model.specs.GoodFit.{is_inspected}
use Rattle.ea_model.specs.Strategies.{inspected_by, lower, may_miss, only}
use Rattle.ea_model.proofs.First.{first-All}

-- a strategy that misses no gap inspects all
pub all_inspected : (s : Strategy) (depth : ℕ) (xs : List Candidate) → may_miss s ≡ false
    → inspected_by s depth xs ≡ xs
all_inspected Bf depth xs e = refl
all_inspected Aobf depth xs e = refl
all_inspected Aoff depth xs e = refl
all_inspected AoffCbf depth xs e = refl
all_inspected AoffCaobf depth xs e = refl
all_inspected AgeffCaoff depth xs e = refl
all_inspected AgeffCbf depth xs e = refl
all_inspected AgeffCaobf depth xs e = refl
all_inspected Gf depth xs e = absurd cc
all_inspected Af depth xs e = absurd cc

-- each candidate that a strategy inspects is one of them
among_only : (xs : List Candidate) (o : Option Candidate) → IfSome o (Contains xs)
    → All (Contains xs) (only o)
among_only xs None h = All-nil (Contains xs)
among_only xs (Some x) h = All-cons (Contains xs) x [] h (All-nil (Contains xs))

pub inspected_by-among : (s : Strategy) (depth : ℕ) (xs : List Candidate)
    → All (Contains xs) (inspected_by s depth xs)
inspected_by-among Bf depth xs = All-contains_itself xs
inspected_by-among Aobf depth xs = All-contains_itself xs
inspected_by-among Aoff depth xs = All-contains_itself xs
inspected_by-among AoffCbf depth xs = All-contains_itself xs
inspected_by-among AoffCaobf depth xs = All-contains_itself xs
inspected_by-among AgeffCaoff depth xs = All-contains_itself xs
inspected_by-among AgeffCbf depth xs = All-contains_itself xs
inspected_by-among AgeffCaobf depth xs = All-contains_itself xs
inspected_by-among Gf depth xs = All-filter (is_inspected (λ x. x.address) (λ x. x.size) depth xs)
    (Contains xs) xs (All-contains_itself xs)
inspected_by-among Af depth xs = among_only xs (first lower xs)
    (first-All (Contains xs) lower None xs tt (All-contains_itself xs))
