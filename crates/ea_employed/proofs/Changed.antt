-- A change of the content at an index of the carriers.
use Rattle.std.proofs.Common.{◌≡◌, ℕ, ◌+◌, ◌<◌, ◌≤◌, List, [], ◌∷◌, All, length}
use Rattle.std.proofs.Common.{get_or, map, set, sym, ap, ◌∙◌, subst, refl, inl, inr, arith}
use Rattle.std.specs.Prelude.{remove, Option, Some, IsSome}
use Rattle.std.specs.List.{position_or_len}
use Rattle.std.specs.Option.{option_and_then}
use Rattle.std.proofs.lemmas.List.{get_or_default}
use Rattle.std.proofs.lemmas.Bool.{cases_eq}
use Rattle.std.proofs.lemmas.Bool.Decides.{nat_tests}
use Rattle.std.proofs.lemmas.List.Sums.{position_or_len_is}
use Rattle.std.proofs.lemmas.List.Elements.{All-head, All-tail}
use Rattle.ea_model.specs.declared.carriers.BlockAt.{BlockAt}
use Rattle.ea_model.specs.Keyed.{has_key}
use Rattle.ea_model.specs.Content.{Content, block_at, Tiled}
use Rattle.ea_model.specs.Instance.{block_in, content_of, changed, without_content}
use Rattle.ea_model.proofs.Rising.{changed_here, changed_past, item_at-each, item_at-key}
use Rattle.ea_model.proofs.Rising.{remove-without, set-changed}
use Rattle.ea_laws.specs.Kept.{number_of, IsRising}
use Rattle.ea_laws.proofs.BlockLists.{block_at-past}
use Rattle.ea_laws.proofs.Tiling.{Tiled-allocated}
use Rattle.ea_employed.specs.Choices.{IsChoice}
use Rattle.ea_employed.specs.declared.choice.Choice.{Choice}

-- the content at an index stands where its number is found
at-number : (i : ℕ) (d : Content) (cs : List Content) → IsRising cs → i < length cs
    → i ≡ position_or_len (has_key number_of (get_or cs i d).number) cs
at-number i d cs rising lt =
    sym (position_or_len_is (has_key number_of (get_or cs i d).number) cs i d (omega (arith, lt))
    (λ k le. let below : (get_or cs k d).number < (get_or cs i d).number = rising k i d le lt in
    grind (arith, nat_tests)) (λ _. grind (arith, nat_tests)))

set-at : (f : Content → Content) (i : ℕ) (d : Content) (cs : List Content) → IsRising cs
    → i < length cs → set cs i (f (get_or cs i d)) ≡ changed f (get_or cs i d).number cs
set-at f i d cs rising lt =
    let place = at-number i d cs rising lt in
    ap (λ k. set cs k (f (get_or cs k d))) place
    ∙ set-changed number_of f (get_or cs i d).number d cs rising (subst (λ k. k < length cs) place
    lt)

pub remove-at : (i : ℕ) (d : Content) (cs : List Content) → IsRising cs → i < length cs
    → remove cs i ≡ without_content (get_or cs i d).number cs
remove-at i d cs rising lt =
    let place = at-number i d cs rising lt in
    ap (remove cs) place
    ∙ remove-without number_of (get_or cs i d).number cs rising (subst (λ k. k < length cs) place
    lt)

-- the content of the number n stands at index i
pub record IsAt (cs : List Content) (i n : ℕ) (item : Content) : Type 0 where
  pub within : i < length cs
  pub is : item ≡ get_or cs i item
  pub number : item.number ≡ n
  pub there : content_of cs n ≡ Some item

-- that of an index that was found by the number
pub at_index : (cs seen : List Content) (i n : ℕ) (item : Content) → seen ≡ cs → i < length seen
    → ((d : Content) → content_of seen n ≡ Some (get_or seen i d)) → item ≡ get_or cs i item
    → IsAt cs i n item
at_index cs seen i n item same within found is =
    let there = subst (λ ys. content_of ys n ≡ Some (get_or ys i item)) same (found item)
    ∙ ap Some (sym is) in
    record {
      within = subst (λ ys. i < length ys) same within;
      is = is;
      number = item_at-key number_of n item cs there;
      there = there;
    }

pub same-item : (cs : List Content) (i n : ℕ) (a b : Content) → IsAt cs i n a → IsAt cs i n b
    → a ≡ b
same-item cs i n a b p q = let same : Some a ≡ Some b = sym p.there ∙ q.there in cc

-- that of a choice
pub choice-same : (need : ℕ) (cs : List Content) (found : Choice) (item : Content)
    → item ≡ get_or cs found.index item → (w : IsChoice need cs found) → w.content ≡ item
choice-same need cs found item is w =
    sym w.is ∙ get_or_default cs found.index w.content item w.within ∙ sym is

pub at_choice : (need : ℕ) (cs : List Content) (found : Choice) (item : Content) → IsRising cs
    → item ≡ get_or cs found.index item → IsChoice need cs found
    → IsAt cs found.index found.candidate.number item
at_choice need cs found item rising is w =
    let number = ap number_of (sym (choice-same need cs found item is w)) ∙ sym w.chosen.number in
    record {
      within = w.within;
      is = is;
      number = number;
      there = ap (content_of cs) (sym number ∙ ap number_of is)
          ∙ item_at-each number_of found.index item cs rising w.within ∙ ap Some (sym is);
    }

-- a change of the content at the index is a change of the number's content
pub set_is_changed : (f : Content → Content) (cs : List Content) (i n : ℕ) (item x : Content)
    → IsAt cs i n item → IsRising cs → x ≡ f item → set cs i x ≡ changed f n cs
set_is_changed f cs i n item x at rising e =
    ap (set cs i) (e ∙ ap f at.is) ∙ set-at f i item cs rising at.within
    ∙ ap (λ m. changed f m cs) (ap number_of (sym at.is) ∙ at.number)

-- what holds of the block at a spot holds of that at the offset in the content of the number
pub block-there : (P : Option BlockAt → Type 0) (cs : List Content) (n offset : ℕ) (item : Content)
    → content_of cs n ≡ Some item → P (block_in cs (record { carrier = n; offset = offset }))
    → P (block_at item.blocks offset)
block-there P cs n offset item there h =
    subst (λ o. P (option_and_then (λ (c : Content). block_at c.blocks offset) o)) there h

-- what is the same of the changed content is the same of all
pub map-kept : {B : Type 0} (g : Content → B) (f : Content → Content) (n : ℕ) (item : Content)
    (cs : List Content) → All (λ c. c.number ≡ n → c ≡ item) cs → g (f item) ≡ g item
    → map g (changed f n cs) ≡ map g cs
map-kept g f n item [] one same = refl
map-kept g f n item (c ∷ cs) one same =
    let is_item : Content → Type 0 = λ x. x.number ≡ n → x ≡ item in
    let more = map-kept g f n item cs (All-tail is_item c cs one) same in
    elim (cases_eq c.number n) [
      | inl e ↦
          ap (map g) (changed_here number_of f n c cs e)
          ∙ ap (λ y. y ∷ map g (changed f n cs))
          (subst (λ x. g (f x) ≡ g x) (sym (All-head is_item c cs one e)) same)
          ∙ ap (λ ys. g c ∷ ys) more
      | inr o ↦ ap (map g) (changed_past number_of f n c cs o) ∙ ap (λ ys. g c ∷ ys) more
    ]

none_there : (offset : ℕ) → IsSome (block_at [] offset) → ⊥
none_there offset h = grind arith

-- a block of a carrier begins within it
pub block-within : (at end offset : ℕ) (bs : List BlockAt) → Tiled at end bs
    → IsSome (block_at bs offset) → offset ≤ end
block-within at end offset [] t h = absurd (none_there offset h)
block-within at end offset (b ∷ bs) t h =
    elim (cases_eq b.offset offset) [
      | inl e ↦ omega (arith, e, Tiled-allocated (b.offset + b.size) end bs t.4)
      | inr n ↦ block-within (b.offset + b.size) end offset bs t.4
          (subst (λ o. IsSome o) (block_at-past offset b bs n) h)
    ]

-- what is found by the number without blocks has none
pub no_blocks : (n : ℕ) (c d : Content) (cs : List Content) → content_of cs n ≡ Some c
    → content_of cs n ≡ Some d → c.blocks ≡ [] → d.blocks ≡ []
no_blocks n c d cs at there none =
    let same : Some c ≡ Some d = sym at ∙ there in
    let e : c ≡ d = cc in
    subst (λ (x : Content). x.blocks ≡ []) e none
