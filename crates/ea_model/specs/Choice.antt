-- The first of a list by an order, and the choice among the gaps of one carrier.
-- Source: Erlang/OTP, 'erts_alloc', section 'The alloc_util Framework', 'Best fit', 'Address order
-- best fit' and 'Address order first fit'. That best fit takes the higher of two gaps of one size
-- is this simulator's own.
use Rattle.std.specs.Prelude.{◌≡◌, ℕ, Bool, false, ◌&&◌, ◌||◌, if◌then◌else◌, nat_lt, nat_le, ◌==◌}
use Rattle.std.specs.Prelude.{List, Option, Some, None, filter, fold, All, Contains}
use Rattle.ea_model.specs.declared.carriers.Gap.{Gap}
use Rattle.ea_model.specs.declared.carriers.Inner.{Inner}
use Rattle.ea_model.specs.declared.carriers.Inner.TheVariants.{Bf, Aobf, Aoff}

-- a is less than b, or equal with the rest deciding
abbrev pub less : ℕ → ℕ → Bool → Bool
less a b rest = nat_lt a b || ((a == b) && rest)

-- which of two gaps of a carrier is taken first
abbrev pub before : Inner → Gap → Gap → Bool
before Bf a b = less a.size b.size (nat_lt b.offset a.offset)
before Aobf a b = less a.size b.size (nat_lt a.offset b.offset)
before Aoff a b = nat_lt a.offset b.offset

-- the better of the best so far and x: of two that tie the earlier one
abbrev pub better : {A : Type 0} → (A → A → Bool) → Option A → A → Option A
better before None x = Some x
better before (Some best) x = Some (if before x best then x else best)

-- the element that comes first, if there is one
abbrev pub first : {A : Type 0} → (A → A → Bool) → List A → Option A
first before xs = fold (better before) None xs

-- the gaps of at least that many units
abbrev pub fitting : ℕ → List Gap → List Gap
fitting need gs = filter (λ g. nat_le need g.size) gs

-- the chosen gap of at least `need` units
abbrev pub choice : Inner → ℕ → List Gap → Option Gap
choice inner need gs = first (before inner) (fitting need gs)

-- no element comes before x, which is one of them
pub record IsFirst {A : Type 0} (before : A → A → Bool) (xs : List A) (x : A) : Type 0 where
  pub among : Contains xs x
  pub least : All (λ y. before y x ≡ false) xs
