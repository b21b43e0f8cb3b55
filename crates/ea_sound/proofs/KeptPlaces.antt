-- As long as a name has a block, that keeps its place and its units.
use Rattle.std.proofs.Common.{◌≡◌, ◌≢◌, ℕ, ◌+◌, ◌≤◌, List, ◌++◌, refl, sym, ap, ◌∙◌, inl, inr}
use Rattle.std.proofs.Common.{arith}
use Rattle.std.specs.Prelude.{◌==◌}
use Rattle.std.proofs.lemmas.Bool.{cases_eq}
use Rattle.ea_model.specs.Content.{Content}
use Rattle.ea_model.specs.declared.carriers.BlockAt.{BlockAt}
use Rattle.ea_model.specs.declared.carriers.Place.{Place}
use Rattle.ea_sound.specs.Contents.{sum_everywhere}
use Rattle.ea_machine.specs.Machine.{run}
use Rattle.ea_sound.specs.Places.{none}
use Rattle.ea_sound.specs.Released.{KeepsPlaces, LiesAt}
use Rattle.ea_machine.specs.Setup.{Setup}
use Rattle.ea_machine.specs.State.{State}
use Rattle.ea_machine.specs.Sums.{one_if, sum_over}
use Rattle.ea_sound.specs.Present.{Rule}
use Rattle.ea_sound.specs.Rule.{Kept}
use Rattle.ea_sound.proofs.ActorWeights.{everywhere-less}
use Rattle.ea_sound.proofs.Anywhere.{everywhere}
use Rattle.ea_sound.proofs.Fading.{stays-gone}
use Rattle.ea_sound.proofs.FewBlocks.{all_of, blocks_named}
use Rattle.ea_sound.proofs.LyingBlocks.{lies, lying}
use Rattle.ea_sound.proofs.SumParts.{AreParts, sum-nothing, sum-parts}
use Rattle.ea_sound.proofs.Weights.{sum-both, sum-less}

module _ (n : ℕ) where
  -- no block lies at two places
  abbrev AreTwo : Place → Place → Type 0
  AreTwo p q = (c : ℕ) (b : BlockAt) → lies n p c b + lies n q c b ≤ one_if (b.name == n)

  other-carriers : (p q : Place) → p.carrier ≢ q.carrier → AreTwo p q
  other-carriers p q other c b = grind (arith, other)

  other-offsets : (p q : Place) → p.offset ≢ q.offset → AreTwo p q
  other-offsets p q other c b = grind (arith, other)

  other-sizes : (p q : Place) → p.size ≢ q.size → AreTwo p q
  other-sizes p q other c b = grind (arith, other)

same-place : (p q : Place) → p.carrier ≡ q.carrier → p.offset ≡ q.offset → p.size ≡ q.size → p ≡ q
same-place p q carrier offset size =
    ap (λ m. record { carrier = m; offset = p.offset; size = p.size }) carrier
    ∙ ap (λ m. record { carrier = q.carrier; offset = m; size = p.size }) offset
    ∙ ap (λ m. record { carrier = q.carrier; offset = q.offset; size = m }) size

module _ (e : Setup) (rules : (L : List ℕ) → Rule e (run e L)) where
  -- the blocks of a name at two places are not more than all of the name
  both-named : (n : ℕ) (p q : Place) → AreTwo n p q → (w : State) → Kept e w
      → sum_everywhere e (blocks_named (lying n p)) w
      + sum_everywhere e (blocks_named (lying n q)) w ≤ sum_everywhere e (blocks_named (all_of n)) w
  both-named n p q two w k =
      let f = blocks_named (lying n p) in
      let g = blocks_named (lying n q) in
      let at : ℕ → BlockAt → ℕ = λ c b. lies n p c b + lies n q c b in
      let both : Content → ℕ = λ x. sum_over (at x.number) x.blocks in
      omega (
        arith,
        sum-parts f g none both e w
            (everywhere e w k (AreParts f g none both) (λ i x b l c. omega
            (arith, sum-both (lies n p x.number) (lies n q x.number) x.blocks))),
        sum-nothing e w k none (λ x. refl),
        everywhere-less both (blocks_named (all_of n))
            (λ x. sum-less (at x.number) ((all_of n).counts x.number x.base) x.blocks
            (λ i d within. two x.number _)) e w,
      )

  module _ (n : ℕ) (p q : Place) (L M : List ℕ) (first : LiesAt e n p (run e L))
      (then : LiesAt e n q (run e (L ++ M))) where
    not-two : AreTwo n p q → ⊥
    not-two two =
        let small = both-named n p q two (run e L) (rules L).kept in
        let once = (rules L).present.later n in
        absurd (omega (
          arith,
          then,
          stays-gone e rules (lying n q) L M
              (omega (arith, first, small, once)) (omega (arith, first, small, once)),
        ))

    keeps-place : q ≡ p
    keeps-place = elim (cases_eq q.carrier p.carrier) [
      | inr other ↦ absurd (not-two (other-carriers n p q (λ s. other (sym s))))
      | inl carrier ↦ elim (cases_eq q.offset p.offset) [
        | inr other ↦ absurd (not-two (other-offsets n p q (λ s. other (sym s))))
        | inl offset ↦ elim (cases_eq q.size p.size) [
          | inr other ↦ absurd (not-two (other-sizes n p q (λ s. other (sym s))))
          | inl size ↦ same-place q p carrier offset size
        ]
      ]
    ]

  pub keeps-places : KeepsPlaces e
  keeps-places n p q L M first then = keeps-place n p q L M first then
