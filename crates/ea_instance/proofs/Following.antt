-- Carriers that are to be deallocated.
use Rattle.std.proofs.Common.{◌≡◌, ℕ, true, false, List, [], ◌∷◌, sym, ap, ◌∙◌, refl, inl, inr}
use Rattle.std.specs.Prelude.{Option, Some, None, IsSome, is_some}
use Rattle.std.specs.Option.{option_and_then, option_map_or}
use Rattle.std.proofs.lemmas.Bool.{cases_eq}
use Rattle.ea_model.specs.declared.carriers.BlockAt.{BlockAt}
use Rattle.ea_model.specs.declared.carriers.Kind.{Kind}
use Rattle.ea_model.specs.declared.carriers.Kind.TheVariants.{Main, Multi, Single}
use Rattle.ea_model.specs.Content.{Content, is_nil, is_vacant, can_go, block_at, released}
use Rattle.ea_model.specs.declared.carriers.Spot.{Spot}
use Rattle.ea_model.specs.Instance.{block_in, content_of, has_vacant}
use Rattle.ea_model.specs.Keyed.{without}
use Rattle.ea_model.proofs.Rising.{item_past, without_here}
use Rattle.ea_laws.specs.Kept.{HasOneBlock, IsLaidOutAlone}
use Rattle.ea_laws.specs.Kinds.{is_shared}
use Rattle.std.specs.Prelude.{◌&&◌}

nothing : (k : Kind) (bs : List BlockAt) → (can_go k && is_nil bs) ≡ true → bs ≡ []
nothing k [] v = refl
nothing Main (b ∷ bs) v = absurd cc
nothing Multi (b ∷ bs) v = absurd cc
nothing Single (b ∷ bs) v = absurd cc

-- a carrier that is to go has no blocks
pub no-blocks : (c : Content) → is_vacant c ≡ true → c.blocks ≡ []
no-blocks c v = nothing c.kind c.blocks v

one_gone : (units offset : ℕ) (bs : List BlockAt) → HasOneBlock units bs
    → IsSome (block_at bs offset) → without (λ b. b.offset) offset bs ≡ []
one_gone units offset [] one some = refl
one_gone units offset (b ∷ []) one some = elim (cases_eq b.offset offset) [
  | inl e ↦ without_here (λ x. x.offset) offset b [] e
  | inr n ↦
      let none : block_at (b ∷ []) offset ≡ None = item_past (λ x. x.offset) offset b [] n in
      let never : false ≡ true = sym (ap is_some none) ∙ some in absurd cc
]
one_gone units offset (b ∷ c ∷ bs) one some = absurd one

-- a singleblock carrier has no blocks after a release of its block
pub single-emptied : (c : Content) (offset : ℕ) → IsLaidOutAlone c
    → IsSome (block_at c.blocks offset) → (released c offset).blocks ≡ []
single-emptied c offset alone some = one_gone c.units offset c.blocks alone.block some

-- and is to be deallocated
pub single-vacant : (c : Content) (offset : ℕ) → IsLaidOutAlone c → IsSome (block_at c.blocks
    offset)
    → true ≡ is_vacant (released c offset)
single-vacant c offset alone some =
    sym (ap (λ k. can_go k && is_nil (released c offset).blocks) alone.single
    ∙ ap is_nil (single-emptied c offset alone some))

-- a carrier of many blocks is no singleblock carrier
pub shared-not_single : (k : Kind) → is_shared k ≡ true → k ≡ Single → ⊥
shared-not_single Main shared e = absurd cc
shared-not_single Multi shared e = absurd cc
shared-not_single Single shared e = absurd cc

-- a carrier that is to be deallocated is there
pub vacant-found : (number : ℕ) (cs : List Content) → has_vacant number cs ≡ true
    → (c : Content) × (content_of cs number ≡ Some c) × (c.blocks ≡ [])
vacant-found number cs vacant = by_content (content_of cs number) refl vacant where
  by_content : (o : Option Content) → content_of cs number ≡ o
      → option_map_or is_vacant o false ≡ true
      → (c : Content) × (content_of cs number ≡ Some c) × (c.blocks ≡ [])
  by_content None e h = absurd cc
  by_content (Some c) e h = (c, e, no-blocks c h)

-- where a block is, there is its carrier
pub some-content : (cs : List Content) (spot : Spot) → IsSome (block_in cs spot)
    → (c : Content) × (content_of cs spot.carrier ≡ Some c)
    × IsSome (block_at c.blocks spot.offset)
some-content cs spot some = by_content (content_of cs spot.carrier) refl some where
  by_content : (o : Option Content) → content_of cs spot.carrier ≡ o
      → IsSome (option_and_then (λ (c : Content). block_at c.blocks spot.offset) o)
      → (c : Content) × (content_of cs spot.carrier ≡ Some c)
      × IsSome (block_at c.blocks spot.offset)
  by_content None e h = absurd cc
  by_content (Some c) e h = (c, e, h)
