-- The contents that an instance employs, by rising number.
use Rattle.std.proofs.Common.{◌≡◌, ◌≢◌, ℕ, true, false, List, [], ◌∷◌, All, sym, ap, ◌∙◌, refl, inl}
use Rattle.std.proofs.Common.{inr, arith}
use Rattle.std.specs.Prelude.{Option, Some, None, is_some}
use Rattle.std.specs.Option.{option_and_then}
use Rattle.std.proofs.lemmas.Bool.{cases_eq}
use Rattle.std.proofs.lemmas.List.Elements.{All-head, All-tail}
use Rattle.ea_model.specs.declared.carriers.BlockAt.{BlockAt}
use Rattle.ea_model.specs.Content.{Content, block_at, is_vacant}
use Rattle.ea_model.specs.Instance.{with_content, without_content, content_of, has_content}
use Rattle.ea_model.proofs.Rising.{item_at-gone, item_at-new, item_at-old, item_at-stays, item_past}
use Rattle.ea_model.proofs.Rising.{none-other}
use Rattle.ea_laws.specs.Kept.{number_of}
use Rattle.ea_laws.specs.Spots.{HaveSameBlocks}

none_there : (o : Option Content) → is_some o ≡ false → o ≡ None
none_there None h = refl
none_there (Some c) h = absurd cc

pub absent-none : (n : ℕ) (cs : List Content) → has_content n cs ≡ false → content_of cs n ≡ None
absent-none n cs h = none_there (content_of cs n) h

pub absent-All : (n : ℕ) (cs : List Content) → has_content n cs ≡ false → All (λ c. c.number ≢ n) cs
absent-All n cs h = none-other number_of n cs (absent-none n cs h)

pub absent-among : (n : ℕ) (cs : List Content) → All (λ c. c.number ≢ n) cs
    → has_content n cs ≡ false
absent-among n [] others = refl
absent-among n (c ∷ cs) others =
    ap is_some (item_past number_of n c cs (All-head (λ x. x.number ≢ n) c cs others))
    ∙ absent-among n cs (All-tail (λ x. x.number ≢ n) c cs others)

no_block : (c : Content) (offset : ℕ) → is_vacant c ≡ true → block_at c.blocks offset ≡ None
no_block c offset done = grind arith

-- the block at the offset, if there is a content
abbrev pub block_among : ℕ → Option Content → Option BlockAt
block_among offset o = option_and_then (λ c. block_at c.blocks offset) o

-- a carrier without blocks takes none away
pub same-without : (number : ℕ) (c : Content) (cs : List Content) → content_of cs number ≡ Some c
    → is_vacant c ≡ true → HaveSameBlocks cs (without_content number cs)
same-without number c cs there done at =
    elim (cases_eq at.carrier number) [
      | inl same ↦
          ap (block_among at.offset) (ap (content_of (without_content number cs)) same
          ∙ item_at-gone number_of number cs)
          ∙ sym (ap (block_among at.offset) (ap (content_of cs) same ∙ there)
          ∙ no_block c at.offset done)
      | inr other ↦ ap (block_among at.offset) (item_at-stays number_of at.carrier number cs other)
    ]

-- and brings none
pub same-with : (x : Content) (cs : List Content) → has_content x.number cs ≡ false → x.blocks ≡ []
    → HaveSameBlocks cs (with_content x cs)
same-with x cs absent empty at =
    elim (cases_eq at.carrier x.number) [
      | inl same ↦
          ap (block_among at.offset) (ap (content_of (with_content x cs)) same
          ∙ item_at-new number_of x cs (absent-All x.number cs absent))
          ∙ ap (λ bs. block_at bs at.offset) empty
          ∙ sym (ap (block_among at.offset) (ap (content_of cs) same
          ∙ absent-none x.number cs absent))
      | inr other ↦ ap (block_among at.offset) (item_at-old number_of at.carrier x cs other)
    ]
