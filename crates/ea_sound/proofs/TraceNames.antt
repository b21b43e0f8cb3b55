-- Names of blocks are names that operations of the trace make.
use Rattle.std.proofs.Common.{◌≡◌, ℕ, ◌<◌, ◌≤◌, Bool, true, false, List, [], ◌∷◌, refl, ap, ◌∙◌}
use Rattle.std.proofs.Common.{inl, inr, arith}
use Rattle.std.proofs.lemmas.Bool.{cases_lt}
use Rattle.std.specs.Prelude.{All}
use Rattle.std.proofs.lemmas.List.Elements.{All-head, All-tail}
use Rattle.ea_model.specs.declared.operations.Op.{Op}
use Rattle.ea_model.specs.declared.operations.Op.TheVariants.{Alloc, Free, Realloc, Give, Take}
use Rattle.ea_model.specs.declared.operations.Op.TheVariants.{Info, Idle}
use Rattle.ea_model.specs.declared.settings.Config.{Config}
use Rattle.ea_model.specs.declared.trace.Trace.{Trace}
use Rattle.ea_model.specs.Settings.{IsValidConfig}
use Rattle.ea_model.specs.Trace.{IsOperation, IsValidTrace, greatest_in, greatest_of, makes}
use Rattle.ea_model.specs.Trace.{operations_of, texts_of}
use Rattle.ea_machine.specs.Actor.{Actor}
use Rattle.ea_sound.specs.Contents.{seats}
use Rattle.ea_machine.specs.Machine.{IsReached, first_stage, run, start}
use Rattle.ea_sound.specs.Names.{allocated, made_in, only, to_make, unplaced}
use Rattle.ea_machine.specs.Setup.{Setup, is_scheduler, setup_of, text_for}
use Rattle.ea_machine.specs.State.{State}
use Rattle.ea_machine.specs.Sums.{one_if}
use Rattle.ea_sound.proofs.Fading.{stays-gone}
use Rattle.ea_sound.proofs.FewBlocks.{all_of}
use Rattle.ea_sound.proofs.RuleRuns.{rule-run}
use Rattle.ea_sound.proofs.Ranged.{sum-flat}
use Rattle.ea_sound.proofs.StartKept.{all-none}
use Rattle.ea_sound.proofs.TextTotals.{total-text_for}
use Rattle.ea_sound.proofs.Totals.{total-none, total-part}

-- the name is one of the trace
abbrev pub IsNameOf : Trace → ℕ → Type 0
IsNameOf t name = (1 ≤ name) × (name ≤ t.greatest)

-- no operation makes a name that isn't one of the first
module _ (name n : ℕ) where
  abbrev IsIn : ℕ → Type 0
  IsIn most = (1 ≤ name) × (name ≤ most)

  makes-none : (o : Op) → IsOperation n o → (IsIn (greatest_in o) → ⊥) → makes name o ≡ false
  makes-none (Alloc m bytes) is not = grind (arith, is.0, not)
  makes-none (Free m) is not = refl
  makes-none (Realloc old m bytes) is not = grind (arith, is.1, not)
  makes-none (Give m to) is not = refl
  makes-none (Take m tries) is not = refl
  makes-none Info is not = refl
  makes-none Idle is not = refl

  made-none : (ops : List Op) → All (IsOperation n) ops → (IsIn (greatest_of ops) → ⊥)
      → made_in name ops ≡ 0
  made-none [] are not = refl
  made-none (o ∷ ops) are not = omega (
    arith,
    ap one_if (makes-none o (All-head (IsOperation n) o ops are)
        (λ is. not (is.0, omega (arith, is.1)))),
    made-none ops (All-tail (IsOperation n) o ops are) (λ is. not (is.0, omega (arith, is.1))),
  )

module _ (c : Config) (t : Trace) (valid : IsValidConfig c)
    (made : IsValidTrace c.schedulers t) where
  abbrev e : Setup
  e = setup_of c t

  module _ (name : ℕ) (not : IsNameOf t name → ⊥) where
    text-none : (i : ℕ) → i < seats e → made_in name (e.texts i) ≡ 0
    text-none i within = omega (
      arith,
      total-part (made_in name) (text_for (texts_of t)) i (seats e) within,
      total-text_for (made_in name) refl (texts_of t) c.schedulers,
      sum-flat (λ o. one_if (makes name o)) (λ text. text) (texts_of t),
      made-none name c.schedulers (operations_of t) made.operations
          (λ is. not (is.0, omega (arith, is.1, made.greatest))),
    )

    first-left : (b : Bool) (ops : List Op) → unplaced (first_stage e b) ops ≡ ops
    first-left true ops = refl
    first-left false ops = refl

    never-made : to_make e name (run e []) ≡ 0
    never-made = total-none (λ (a : Actor). made_in name (unplaced a.stage a.todo))
        (start e).actors (seats e)
        (λ i within. ap (made_in name) (first-left (is_scheduler e i) (e.texts i))
        ∙ text-none i within)

    -- so no block has it
    never-allocated : (L : List ℕ) → allocated e (only name) (run e L) ≡ 0
    never-allocated L = stays-gone e (rule-run c t valid made) (all_of name) [] L
        (all-none e (only name)) never-made

  -- so a name that a block has is one of the trace
  pub name-range : (w : State) → IsReached e w → (name : ℕ) → 1 ≤ allocated e (only name) w
      → IsNameOf t name
  name-range w reached name some = elim (cases_lt 0 name) [
    | inr none ↦ absurd (within (λ is. omega (arith, none, is.0)))
    | inl more ↦ elim (cases_lt t.greatest name) [
      | inl past ↦ absurd (within (λ is. omega (arith, past, is.1)))
      | inr most ↦ (omega (arith, more), omega (arith, most))
    ]
  ] where
    within : ((1 ≤ name) × (name ≤ t.greatest) → ⊥) → ⊥
    within not = omega (
      arith,
      some,
      ap (allocated e (only name)) reached.1,
      never-allocated name not reached.0,
    )
