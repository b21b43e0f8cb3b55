-- Blocks of a name and the operations that are still to make it: together they never grow, whatever
-- of these blocks is counted.
use Rattle.std.proofs.Common.{◌≡◌, ℕ, ◌≤◌, List, ◌++◌, refl, ap, arith}
use Rattle.ea_model.specs.declared.carriers.BlockAt.{BlockAt}
use Rattle.ea_sound.specs.Contents.{sum_everywhere}
use Rattle.ea_machine.specs.Machine.{run}
use Rattle.ea_sound.specs.Names.{to_make}
use Rattle.ea_machine.specs.Setup.{Setup}
use Rattle.ea_sound.specs.Present.{Rule}
use Rattle.ea_sound.proofs.FewBlocks.{Counting, alive, blocks_named}
use Rattle.ea_sound.proofs.PresentStep.{step-fades}
use Rattle.ea_sound.proofs.SumParts.{sum-nothing}
use Rattle.ea_sound.proofs.TurnLists.{on-from, run-snoc}
use Rattle.ea_sound.proofs.Weights.{sum-zero}

-- nothing of a name
abbrev none_of : ℕ → Counting
none_of n = record { name = n; counts = λ c o b. 0; small = λ c o b. omega arith }

module _ (e : Setup) (rules : (L : List ℕ) → Rule e (run e L)) where
  -- steps leave no more
  run-fades : (n : Counting) (L M : List ℕ)
      → alive e n (run e (L ++ M)) ≤ alive e n (run e L)
  run-fades n L M =
      on-from (λ K. alive e n (run e K) ≤ alive e n (run e L))
      (λ K j h. omega (
        arith,
        h,
        step-fades e (run e K) j (rules K) n,
        ap (alive e n) (run-snoc e K j),
      )) M L (omega arith)

  -- nor are there more operations to make a name
  pub make-fades : (n : ℕ) (L M : List ℕ)
      → to_make e n (run e (L ++ M)) ≤ to_make e n (run e L)
  make-fades n L M = omega (
    arith,
    run-fades (none_of n) L M,
    sum-nothing e (run e L) (rules L).kept (blocks_named (none_of n))
        (λ x. sum-zero (λ (b : BlockAt). 0) x.blocks (λ i d within. refl)),
  )

  -- so what is gone stays so
  pub stays-gone : (n : Counting) (L M : List ℕ)
      → sum_everywhere e (blocks_named n) (run e L) ≡ 0 → to_make e n.name (run e L) ≡ 0
      → sum_everywhere e (blocks_named n) (run e (L ++ M)) ≡ 0
  stays-gone n L M none never = omega (arith, run-fades n L M, none, never)
