-- The chosen gap.
use Rattle.std.proofs.Common.{ℕ, ◌+◌, ◌≤◌, List}
use Rattle.std.specs.Prelude.{IfSome, None, nat_le, nat_lt}
use Rattle.std.proofs.lemmas.List.Elements.{All-filter, All-weaker}
use Rattle.ea_model.specs.declared.carriers.BlockAt.{BlockAt}
use Rattle.ea_model.specs.Content.{gaps, Tiled}
use Rattle.ea_laws.proofs.Candidates.{gaps_Inside, Inside}
use Rattle.std.specs.Cmp.{IsStrictWeakOrder}
use Rattle.ea_model.specs.declared.carriers.Gap.{Gap}
use Rattle.ea_model.specs.declared.carriers.Inner.{Inner}
use Rattle.ea_model.specs.declared.carriers.Inner.TheVariants.{Bf, Aobf, Aoff}
use Rattle.ea_model.specs.Choice.{before, fitting, choice, IsFirst}
use Rattle.ea_model.proofs.First.{first-All, first-IsFirst}
use Rattle.ea_model.proofs.Orders.{rising-order, falling-order, less-order}

pub before-order : (inner : Inner) → IsStrictWeakOrder (before inner)
before-order Bf = less-order (λ (g : Gap). g.size) (λ a b. nat_lt b.offset a.offset)
    (falling-order (λ (g : Gap). g.offset))
before-order Aobf = less-order (λ (g : Gap). g.size) (λ a b. nat_lt a.offset b.offset)
    (rising-order (λ (g : Gap). g.offset))
before-order Aoff = rising-order (λ (g : Gap). g.offset)

pub choice-IsFirst : (inner : Inner) (need : ℕ) (gs : List Gap)
    → IfSome (choice inner need gs) (IsFirst (before inner) (fitting need gs))
choice-IsFirst inner need gs = first-IsFirst (before inner) (before-order inner) (fitting need gs)

-- it ends within the carrier
pub choice-within : (inner : Inner) (need at end : ℕ) (bs : List BlockAt) → Tiled at end bs
    → IfSome (choice inner need (gaps at end bs)) (λ g. g.offset + g.size ≤ end)
choice-within inner need at end bs t =
    let ends : Gap → Type 0 = λ g. g.offset + g.size ≤ end in
    let gs : List Gap = gaps at end bs in
    first-All ends (before inner) None (fitting need gs) tt
    (All-filter (λ g. nat_le need g.size) ends gs
    (All-weaker (Inside at end) ends (λ g i. i.within) gs (gaps_Inside at end bs t)))
