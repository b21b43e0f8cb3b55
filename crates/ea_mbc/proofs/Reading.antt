-- The blocks that are read off the units of a carrier.
use Rattle.std.proofs.Common.{◌≡◌, ℕ, zero, suc, ◌+◌, ◌-◌, ◌/◌, ◌%◌, ◌<◌, ◌≤◌, Bool, true, false}
use Rattle.std.proofs.Common.{List, [], ◌∷◌, refl, sym, subst, inl, inr, arith}
use Rattle.std.specs.Prelude.{slice_index, nat_lt, ◌==◌}
use Rattle.std.proofs.lemmas.Bool.{cases_lt}
use Rattle.ea_model.specs.declared.carriers.BlockAt.{BlockAt}
use Rattle.ea_model.specs.Content.{Tiled}
use Rattle.ea_tags.specs.Words.{code}
use Rattle.ea_laws.proofs.Tiling.{Tiled-allocated}
use Rattle.ea_mbc.specs.Coding.{GapCoded, BlockCoded, Coded, block_read, read, blocks_of, IsCoded}

-- what a header's word says of the units and of whether they are a gap
pub word-says : (w s : ℕ) (f p l : Bool)
    → w ≡ code (record { size = s; this_free = f; prev_free = p; last = l })
    → (w / 8 ≡ s) × ((w % 2 == 1) ≡ f)
word-says w s f p l e = grind arith

read_stops : (n : ℕ) (words names : List ℕ) (end at : ℕ) → end ≤ at
    → read n words names end at ≡ []
read_stops zero words names end at le = refl
read_stops (suc n) words names end at le = grind arith

read_gap : (n : ℕ) (words names : List ℕ) (end at to : ℕ) (bs : List BlockAt) → at < end
    → (slice_index words at % 2 == 1) ≡ true → at + slice_index words at / 8 ≡ to
    → read n words names end to ≡ bs → read (suc n) words names end at ≡ bs
read_gap n words names end at to bs lt free e rest = grind arith

read_block : (n : ℕ) (words names : List ℕ) (end at to : ℕ) (b : BlockAt) (bs : List BlockAt)
    → at < end → (slice_index words at % 2 == 1) ≡ false → at + slice_index words at / 8 ≡ to
    → block_read words names at ≡ b → read n words names end to ≡ bs
    → read (suc n) words names end at ≡ b ∷ bs
read_block n words names end at to b bs lt free e same rest = grind arith

block_same : (n at s : ℕ) (b : BlockAt) → n ≡ b.name → at ≡ b.offset → s ≡ b.size
    → (let x : BlockAt = record { name = n; offset = at; size = s } in x) ≡ b
block_same n at s b e f g = grind arith

-- the gap from a up to b is passed, if there is one
pass_gap : (n : ℕ) (words names : List ℕ) (end a b : ℕ) (bs : List BlockAt) → a < b → b ≤ end
    → GapCoded words end a b → end ≤ a + n
    → ((m : ℕ) → end ≤ b + m → read m words names end b ≡ bs) → read n words names end a ≡ bs
pass_gap zero words names end a b bs lt le g enough rest = absurd (omega arith)
pass_gap (suc n) words names end a b bs lt le g enough rest =
    let said = word-says (slice_index words a) (b - a) true false (b == end) (g lt).0 in
    read_gap n words names end a b bs (omega arith) said.1 (omega (arith, said.0))
    (rest n (omega arith))

-- a block is read, and then those after it
take_block : (n : ℕ) (words names : List ℕ) (end : ℕ) (prev : Bool) (b : BlockAt)
    (bs : List BlockAt) → 0 < b.size → b.offset + b.size ≤ end → BlockCoded words names end prev b
    → end ≤ b.offset + n
    → ((m : ℕ) → end ≤ b.offset + b.size + m → read m words names end (b.offset + b.size) ≡ bs)
    → read n words names end b.offset ≡ b ∷ bs
take_block zero words names end prev b bs some le h enough rest = absurd (omega arith)
take_block (suc n) words names end prev b bs some le h enough rest =
    let said = word-says (slice_index words b.offset) b.size false prev
    ((b.offset + b.size) == end) h.0 in
    read_block n words names end b.offset (b.offset + b.size) b bs (omega arith) said.1
    (omega (arith, said.0))
    (block_same (slice_index names (b.offset / 2)) b.offset (slice_index words b.offset / 8) b h.1
    refl said.0) (rest n (omega arith))

-- the blocks that units and names stand for are read off them
pub read-coded : (n : ℕ) (words names : List ℕ) (end at : ℕ) (bs : List BlockAt) → Tiled at end bs
    → Coded words names end at bs → end ≤ at + n → read n words names end at ≡ bs
read-coded n words names end at [] t c enough =
    elim (cases_lt at end) [
      | inl lt ↦ pass_gap n words names end at end [] lt (omega arith) c.0 enough
          (λ m le. read_stops m words names end end (omega arith))
      | inr le ↦ read_stops n words names end at le
    ]
read-coded n words names end at (b ∷ bs) t c enough =
    let within = Tiled-allocated (b.offset + b.size) end bs t.4 in
    let here : (m : ℕ) → end ≤ b.offset + m → read m words names end b.offset ≡ b ∷ bs =
    λ m le. take_block m words names end (nat_lt at b.offset) b bs (omega (arith, t.2))
    (omega (arith, within)) c.2 le
    (λ k more. read-coded k words names end (b.offset + b.size) bs t.4 c.4 more) in
    elim (cases_lt at b.offset) [
      | inl lt ↦ pass_gap n words names end at b.offset (b ∷ bs) lt (omega (arith, within)) c.0
          enough here
      | inr le ↦
          let same : b.offset ≡ at = omega (arith, t.0) in
          subst (λ a. read n words names end a ≡ b ∷ bs) same (here n (omega arith))
    ]

pub blocks_of-coded : (words names : List ℕ) (units : ℕ) (bs : List BlockAt)
    → IsCoded words names units bs → blocks_of words names units ≡ bs
blocks_of-coded words names units bs c = read-coded units words names units 8 bs c.tiled c.coded
    (omega arith)

-- and they stand for those that are read
pub IsCoded-read : (words names : List ℕ) (units : ℕ) (bs : List BlockAt)
    → IsCoded words names units bs → IsCoded words names units (blocks_of words names units)
IsCoded-read words names units bs c =
    subst (IsCoded words names units) (sym (blocks_of-coded words names units bs c)) c
