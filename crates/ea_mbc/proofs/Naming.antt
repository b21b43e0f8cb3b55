-- Blocks of which none is called 0, after one is entered, taken out or changed; and what the names
-- of such blocks say.
use Rattle.std.proofs.Common.{◌≡◌, ℕ, ◌≤◌, ◌/◌, Bool, true, List, [], ◌∷◌, refl, sym, ◌∙◌}
use Rattle.std.proofs.Common.{subst, inl, inr, arith}
use Rattle.std.specs.Prelude.{Option, None, Some, All, not, slice_index}
use Rattle.std.proofs.lemmas.Bool.{cases_eq, cases_lt}
use Rattle.std.proofs.lemmas.List.Elements.{All-cons, All-filter, All-head, All-nil, All-tail}
use Rattle.ea_model.specs.declared.carriers.BlockAt.{BlockAt}
use Rattle.ea_model.specs.Content.{block_at, inserted}
use Rattle.ea_model.specs.Keyed.{has_key, without}
use Rattle.ea_model.proofs.Rising.{changed_here, changed_past, entered_here, entered_past}
use Rattle.ea_model.proofs.Rising.{item_past}
use Rattle.ea_laws.proofs.BlockLists.{offset_of}
use Rattle.ea_laws.proofs.Resized.{same_block, with_block, with_size}
use Rattle.ea_mbc.specs.Layout.{Layout}
use Rattle.ea_mbc.specs.Named.{AreNamed}
use Rattle.ea_mbc.proofs.Finding.{block-coded}
use Rattle.ea_mbc.proofs.Seen.{Seen}

abbrev HasName : BlockAt → Type 0
HasName b = 1 ≤ b.name

inserted-all : (x : BlockAt) (bs : List BlockAt) → 1 ≤ x.name → All HasName bs
    → All HasName (inserted x bs)
inserted-all x [] name all = All-cons HasName x [] name (All-nil HasName)
inserted-all x (y ∷ ys) name all = elim (cases_lt x.offset y.offset) [
  | inl lt ↦ subst (All HasName) (sym (entered_here offset_of x y ys lt))
      (All-cons HasName x (y ∷ ys) name all)
  | inr le ↦ subst (All HasName) (sym (entered_past offset_of x y ys le))
      (All-cons HasName y (inserted x ys) (All-head HasName y ys all)
      (inserted-all x ys name (All-tail HasName y ys all)))
]

pub named-inserted : (told was : Bool) (x : BlockAt) (bs : List BlockAt)
    → (told ≡ true → (was ≡ true) × (1 ≤ x.name)) → AreNamed was bs → AreNamed told (inserted x bs)
named-inserted told was x bs with_it named is =
    inserted-all x bs (with_it is).1 (named (with_it is).0)

pub named-without : (told : Bool) (offset : ℕ) (bs : List BlockAt) → AreNamed told bs
    → AreNamed told (without offset_of offset bs)
named-without told offset bs named is =
    All-filter (λ x. not (has_key offset_of offset x)) HasName bs (named is)

changed-all : (offset size name : ℕ) (bs : List BlockAt) → 1 ≤ name → All HasName bs
    → All HasName (with_block offset size name bs)
changed-all offset size name [] some all = All-nil HasName
changed-all offset size name (b ∷ bs) some all =
    let rest = changed-all offset size name bs some (All-tail HasName b bs all) in
    elim (cases_eq b.offset offset) [
      | inl e ↦ subst (All HasName) (sym (changed_here offset_of (with_size size name) offset b bs e))
          (All-cons HasName (with_size size name b) (with_block offset size name bs) some rest)
      | inr n ↦ subst (All HasName) (sym (changed_past offset_of (with_size size name) offset b bs n))
          (All-cons HasName b (with_block offset size name bs) (All-head HasName b bs all) rest)
    ]

pub named-changed : (told was : Bool) (offset size name : ℕ) (bs : List BlockAt)
    → (told ≡ true → (was ≡ true) × (1 ≤ name)) → AreNamed was bs
    → AreNamed told (with_block offset size name bs)
named-changed told was offset size name bs with_it named is =
    changed-all offset size name bs (with_it is).1 (named (with_it is).0)

-- a block that is found has such a name
pub found-named : (offset : ℕ) (b : BlockAt) (bs : List BlockAt) → All HasName bs
    → block_at bs offset ≡ Some b → 1 ≤ b.name
found-named offset b [] all found = absurd cc
found-named offset b (x ∷ xs) all found = elim (cases_eq x.offset offset) [
  | inl e ↦ subst HasName (same_block offset x b xs e found) (All-head HasName x xs all)
  | inr n ↦ found-named offset b xs (All-tail HasName x xs all)
      (sym (item_past offset_of offset x xs n) ∙ found)
]

nowhere : (o : Option BlockAt) → ((b : BlockAt) → o ≡ Some b → ⊥) → o ≡ None
nowhere None never = refl
nowhere (Some b) never = absurd (never b refl)

-- so none begins where the name is 0
pub none-named : (words names : List ℕ) (end : ℕ) (now : Layout) (offset : ℕ)
    → Seen words names end now → All (λ b. 1 ≤ b.name) now.blocks
    → slice_index names (offset / 2) ≡ 0 → block_at now.blocks offset ≡ None
none-named words names end now offset s named empty =
    nowhere (block_at now.blocks offset) (λ b found. omega (
      arith,
      found-named offset b now.blocks named found,
      (block-coded words names now.end offset b now.blocks s.coded.tiled s.coded.coded found).name,
      empty,
    ))
