-- The units of the super carrier that the block of a name has which stands at a spot: those of the
-- block that is found there, in the carrier that is printed under its number.
use Rattle.std.proofs.Common.{◌≡◌, ℕ, ◌+◌, ◌*◌, ◌≤◌, true, false, refl, sym, ap, ◌∙◌, subst}
use Rattle.std.proofs.Common.{inl, inr, arith}
use Rattle.std.specs.Prelude.{Bool, IsSome, Option, None, Some, ◌&&◌, ◌==◌}
use Rattle.std.proofs.lemmas.Bool.{cases_lt}
use Rattle.ea_model.specs.declared.carriers.BlockAt.{BlockAt}
use Rattle.ea_model.specs.declared.carriers.Extent.{Extent}
use Rattle.ea_model.specs.declared.carriers.Spot.{Spot}
use Rattle.ea_model.specs.Content.{Content, block_at}
use Rattle.ea_model.specs.Instance.{content_of}
use Rattle.ea_model.proofs.Rising.{item_at-key}
use Rattle.ea_laws.proofs.BlockLists.{offset_of}
use Rattle.ea_laws.specs.Kept.{number_of}
use Rattle.ea_machine.specs.Setup.{Setup}
use Rattle.ea_machine.specs.State.{State}
use Rattle.ea_machine.specs.Sums.{one_if, sum_over}
use Rattle.ea_sound.specs.Contents.{sum_everywhere}
use Rattle.ea_sound.specs.Names.{of_content, only_at}
use Rattle.ea_sound.specs.Over.{LiesOver, is_over}
use Rattle.ea_sound.specs.Places.{IsNumber, has_number}
use Rattle.ea_sound.specs.Ranges.{IsLaidOutAsKind}
use Rattle.ea_sound.specs.Rule.{Kept, all_names}
use Rattle.ea_sound.proofs.BlockWeights.{content-hit, other-content}
use Rattle.ea_sound.proofs.KeyedWeights.{item-hit, sum-item}
use Rattle.ea_sound.proofs.Laid.{alone-rising, laid-rising}
use Rattle.ea_sound.proofs.OverUnits.{by-content}
use Rattle.ea_sound.proofs.PresentContents.{content_at, contents, present-found}
use Rattle.ea_sound.proofs.PresentContents.{stands-printed}
use Rattle.ea_sound.proofs.Printed.{printed-all}
use Rattle.ea_sound.proofs.SoundOwners.{number-once}

-- what is given where a block of another name is found
abbrev if_other : Bool → ℕ → ℕ
if_other true m = 0
if_other false m = m

abbrev where_other : ℕ → Option BlockAt → ℕ → ℕ
where_other n None m = 0
where_other n (Some b) m = if_other (b.name == n) m

other-none : (t : Bool) (m : ℕ) → t ≡ true → if_other t m ≡ 0
other-none true m is = refl
other-none false m is = absurd cc

no-other : (t : Bool) (m : ℕ) → 1 ≤ m → if_other t m ≡ 0 → t ≡ true
no-other true m some none = refl
no-other false m some none = absurd (omega (arith, some, none))

itself : (n m : ℕ) → (m == n) ≡ true → m ≡ n
itself n m is = grind (arith, is)

same-name : (n m : ℕ) → m ≡ n → (m == n) ≡ true
same-name n m is = grind (arith, is)

module _ (e : Setup) (w : State) (k : Kept e w) (n : ℕ) (p : Spot)
    (stands : 1 ≤ all_names e (only_at n p) w) where
  -- the content under the number, and the block in it
  pub record IsFound : Type 0 where
    pub number : IsNumber e p.carrier
    pub content : Content
    pub there : content_at e w k p.carrier ≡ Some content
    pub block : BlockAt
    pub found : block_at content.blocks p.offset ≡ Some block
    pub lies : LiesOver e n (record { first = 512 * content.base + p.offset; units = block.size }) w

  -- of each content in which the name stands at the spot, the block that is found there has it
  abbrev misnamed : Content → ℕ
  misnamed x = where_other n (block_at x.blocks p.offset) (of_content (only_at n p) x)

  named-so : (x : Content) → IsLaidOutAsKind x → misnamed x ≡ 0
  named-so x laid = elim (cases_lt 0 (of_content (only_at n p) x)) [
    | inl some ↦
        let hit = content-hit n p x (elim laid [
          | inl many ↦ laid-rising x many
          | inr one ↦ alone-rising x one
        ]) some in
        ap (λ o. where_other n o (of_content (only_at n p) x)) hit.1
        ∙ other-none (hit.0.name == n) (of_content (only_at n p) x) (same-name n hit.0.name hit.2)
    | inr none ↦ nothing (block_at x.blocks p.offset) (of_content (only_at n p) x)
        (omega (arith, none))
  ] where
    nothing : (o : Option BlockAt) (m : ℕ) → m ≡ 0 → where_other n o m ≡ 0
    nothing None m zero = refl
    nothing (Some b) m zero = by (b.name == n) where
      by : (t : Bool) → if_other t m ≡ 0
      by true = refl
      by false = zero

  none-misnamed : sum_everywhere e misnamed w ≡ 0
  none-misnamed = elim (cases_lt 0 (sum_everywhere e misnamed w)) [
    | inr le ↦ omega (arith, le)
    | inl some ↦ absurd (by-content e w k misnamed some
        (λ i x b l c more. omega (arith, more, named-so x l)))
  ]

  over-there : (base : ℕ) (b : BlockAt) → b.name ≡ n → b.offset ≡ p.offset
      → one_if (is_over n (record { first = 512 * base + p.offset; units = b.size }) base b) ≡ 1
  over-there base b name offset = by (512 * base + b.offset) (512 * base + p.offset)
      (omega (arith, offset)) where
        by : (at there : ℕ) → at ≡ there
            → one_if ((b.name == n) && ((at == there) && (b.size == b.size))) ≡ 1
        by at there same = grind (arith, name, same)

  pub stands-found : IsFound
  stands-found =
      let is = stands-printed e w k n p stands in
      let (x, found, some) = item-hit number_of (of_content (only_at n p)) p.carrier
      (contents e w k) (other-content n p)
      (omega (arith, printed-all e w k (has_number p.carrier), number-once e w k p.carrier))
      (omega (
        arith,
        stands,
        k.names.balance (only_at n p),
        printed-all e w k (of_content (only_at n p)),
      )) in
      let same : is.content ≡ x = some-same is.content x
      (sym is.there ∙ sym (present-found e w k p.carrier is.number) ∙ found) in
      by x found some (subst (λ y. content_at e w k p.carrier ≡ Some y) same is.there) is.number
      (block_at x.blocks p.offset) refl
      (subst (λ (y : Content). IsSome (block_at y.blocks p.offset)) same is.block)
    where
      some-same : (x y : Content) → Some x ≡ Some y → x ≡ y
      some-same x y q = cc

      by : (x : Content) → content_of (contents e w k) p.carrier ≡ Some x
          → 1 ≤ of_content (only_at n p) x → content_at e w k p.carrier ≡ Some x
          → IsNumber e p.carrier → (o : Option BlockAt) → block_at x.blocks p.offset ≡ o
          → IsSome (block_at x.blocks p.offset) → IsFound
      by x found some there number None q is = absurd (let t = subst IsSome q is in cc)
      by x found some there number (Some b) q is =
          let none : misnamed x ≡ 0 = omega (
            arith,
            none-misnamed,
            printed-all e w k misnamed,
            sum-item number_of misnamed p.carrier x (contents e w k) found,
          ) in
          let name = itself n b.name (no-other (b.name == n) (of_content (only_at n p) x) some
          (sym (ap (λ o. where_other n o (of_content (only_at n p) x)) q) ∙ none)) in
          let r : Extent = record { first = 512 * x.base + p.offset; units = b.size } in
          let f : Content → ℕ = λ y. sum_over (λ d. one_if (is_over n r y.base d)) y.blocks in
          record {
            number = number;
            content = x;
            there = there;
            block = b;
            found = q;
            lies = omega (
              arith,
              printed-all e w k f,
              sum-item number_of f p.carrier x (contents e w k) found,
              sum-item offset_of (λ d. one_if (is_over n r x.base d)) p.offset b x.blocks q,
              over-there x.base b name (item_at-key offset_of p.offset b x.blocks q),
            );
          }
