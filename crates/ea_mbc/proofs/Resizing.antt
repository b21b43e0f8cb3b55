-- A block that is given another size or name at its index.
use Rattle.std.proofs.Common.{◌≡◌, ◌≢◌, ℕ, ◌+◌, ◌%◌, ◌<◌, ◌≤◌, List}
use Rattle.std.proofs.Common.{refl, sym, ap, ◌∙◌, subst, arith}
use Rattle.std.specs.Prelude.{Some, IsSome}
use Rattle.ea_model.specs.declared.carriers.BlockAt.{BlockAt}
use Rattle.ea_model.specs.Content.{Content, gaps_of, gap_behind, block_at}
use Rattle.ea_model.specs.Content.{size_of, taken_of, resized, Tiled}
use Rattle.ea_mbc.specs.Gaps.{room_at, GapResized}
use Rattle.ea_model.proofs.Options.{some_value}
use Rattle.ea_laws.proofs.Resized.{with_block, shrunk-tiled, grown-tiled, renamed-tiled}
use Rattle.ea_laws.proofs.Resized.{resized-gaps, resized-same_gaps, resized-begins, resized-others}

-- new is old where the block at the offset has that many units and this name: the other blocks are
-- as they were, and so are the gaps but for the one behind it
pub record Resizes (old new : Content) (offset size name : ℕ) : Type 0 where
  pub is : new ≡ resized old offset size name
  pub begins : block_at new.blocks offset
      ≡ Some (record { name = name; offset = offset; size = size })
  pub others : (at : ℕ) → at ≢ offset → block_at new.blocks at ≡ block_at old.blocks at
  pub gap : GapResized old new offset (size_of (block_at old.blocks offset)) size

resized-Resizes : (c : Content) (offset size name : ℕ) (b : BlockAt) → Tiled 8 c.units c.blocks
    → block_at c.blocks offset ≡ Some b → Resizes c (resized c offset size name) offset size name
resized-Resizes c offset size name b t found =
    let gs = resized-gaps c offset size name b t found in
    let new : Content = resized c offset size name in
    let gap : GapResized c new offset b.size size = record {
      front = gs.0;
      behind = gs.1;
      was = gs.2;
      is = gs.3;
    } in
    record {
      is = refl;
      begins = resized-begins c offset size name b found;
      others = resized-others c offset size name;
      gap = subst (λ n. GapResized c new offset n size) (sym (ap size_of found)) gap;
    }

-- the same of a carrier whose content is known as `now`, and whose blocks were changed so
pub with_block-Resizes : (here now : Content) (offset size name : ℕ) (cs : List BlockAt)
    → here ≡ now → Tiled 8 here.units here.blocks → IsSome (block_at now.blocks offset)
    → cs ≡ with_block offset size name here.blocks
    → Resizes now (record here { blocks = cs }) offset size name
with_block-Resizes here now offset size name cs same t there e =
    let block = some_value (block_at now.blocks offset) there in
    let is : record here { blocks = cs } ≡ resized now offset size name = ap
    (λ bs. record here { blocks = bs }) e ∙ ap (λ m. resized m offset size name) same in
    subst (λ m. Resizes now m offset size name) (sym is)
    (resized-Resizes now offset size name block.0 (subst (λ m. Tiled 8 m.units m.blocks) same t)
    block.1)

-- and its blocks are still tiled
kept : (here now : Content) (offset size name : ℕ) → here ≡ now
    → Tiled 8 now.units (resized now offset size name).blocks
    → Tiled 8 here.units (with_block offset size name here.blocks)
kept here now offset size name same t =
    subst (λ m. Tiled 8 m.units (with_block offset size name m.blocks)) (sym same) t

pub shrunk-kept : (here now : Content) (offset need name : ℕ) → here ≡ now
    → Tiled 8 here.units here.blocks → IsSome (block_at now.blocks offset)
    → need + 6 ≤ size_of (block_at now.blocks offset) → need % 2 ≡ 0 → 6 ≤ need
    → Tiled 8 here.units (with_block offset need name here.blocks)
shrunk-kept here now offset need name same t there fewer even least =
    let block = some_value (block_at now.blocks offset) there in
    kept here now offset need name same
    (shrunk-tiled now offset need name block.0 (subst (λ m. Tiled 8 m.units m.blocks) same t)
    block.1 (omega (arith, fewer, ap size_of block.1)) even least)

pub grown-kept : (here now : Content) (offset need name : ℕ) → here ≡ now
    → Tiled 8 here.units here.blocks → IsSome (block_at now.blocks offset)
    → size_of (block_at now.blocks offset) < need → need % 2 ≡ 0 → need ≤ room_at now offset
    → Tiled 8 here.units (with_block offset (taken_of (room_at now offset) need) name here.blocks)
grown-kept here now offset need name same t there more even fits =
    let block = some_value (block_at now.blocks offset) there in
    let size : size_of (block_at now.blocks offset) ≡ block.0.size = ap size_of block.1 in
    kept here now offset (taken_of (room_at now offset) need) name same
    (subst (λ n. Tiled 8 now.units
    (resized now offset (taken_of (n + gap_behind now offset) need) name).blocks) (sym size)
    (grown-tiled now offset need name block.0 (subst (λ m. Tiled 8 m.units m.blocks) same t) block.1
    (omega (arith, more, size)) even (omega (arith, fits, size))))

pub renamed-kept : (here now : Content) (offset name : ℕ) → here ≡ now
    → Tiled 8 here.units here.blocks → IsSome (block_at now.blocks offset)
    → Tiled 8 here.units (with_block offset (size_of (block_at now.blocks offset)) name here.blocks)
renamed-kept here now offset name same t there =
    let block = some_value (block_at now.blocks offset) there in
    kept here now offset (size_of (block_at now.blocks offset)) name same
    (subst (λ n. Tiled 8 now.units (resized now offset n name).blocks) (sym (ap size_of block.1))
    (renamed-tiled now offset name block.0 (subst (λ m. Tiled 8 m.units m.blocks) same t) block.1))

-- a block that keeps its size leaves the gaps as they were
pub renamed-gaps : (here now : Content) (offset name : ℕ) (cs : List BlockAt) → here ≡ now
    → Tiled 8 here.units here.blocks → IsSome (block_at now.blocks offset)
    → cs ≡ with_block offset (size_of (block_at now.blocks offset)) name here.blocks
    → gaps_of (record here { blocks = cs }) ≡ gaps_of now
renamed-gaps here now offset name cs same t there e =
    let block = some_value (block_at now.blocks offset) there in
    ap gaps_of (with_block-Resizes here now offset (size_of (block_at now.blocks offset)) name cs
    same t there e).is
    ∙ subst (λ n. gaps_of (resized now offset n name) ≡ gaps_of now) (sym (ap size_of block.1))
    (resized-same_gaps now offset name block.0 (subst (λ m. Tiled 8 m.units m.blocks) same t)
    block.1)
