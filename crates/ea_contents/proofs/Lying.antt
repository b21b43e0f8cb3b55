-- A name that a scheduler holds has a block, and that lies somewhere.
use Rattle.std.proofs.Common.{◌≡◌, ℕ, ◌<◌, true, false}
use Rattle.std.proofs.Common.{refl, sym, ap, ◌∙◌, inl, inr, arith}
use Rattle.std.specs.Prelude.{None, is_some}
use Rattle.std.proofs.lemmas.Bool.{cases_Bool, cases_lt}
use Rattle.ea_model.specs.declared.carriers.Extent.{Extent}
use Rattle.ea_machine.specs.Nodes.{named_at}
use Rattle.ea_machine.specs.Setup.{Setup, is_scheduler}
use Rattle.ea_machine.specs.State.{State}
use Rattle.ea_sound.specs.Over.{LiesOver}
use Rattle.ea_sound.specs.Present.{Rule}
use Rattle.ea_sound.specs.Released.{blocks_named}
use Rattle.ea_sound.proofs.HeldBlocks.{not_held}
use Rattle.ea_sound.proofs.Numbered.{scheduler-seat}
use Rattle.ea_sound.proofs.Somewhere.{lies-somewhere}
use Rattle.ea_contents.specs.Model.{holds}

-- a held name has a block
pub held-named : (e : Setup) (w : State) (i n : ℕ) → Rule e w → holds w i n ≡ true
    → 0 < blocks_named e n w
held-named e w i n rule held = elim (cases_Bool (is_scheduler e i)) [
  | inl is ↦ elim (cases_lt 0 (blocks_named e n w)) [
    | inl some ↦ some
    | inr none ↦ absurd (never (not_held e w i (scheduler-seat e i is) rule.kept (w.actors i) refl
        n (omega (arith, none))))
  ]
  | inr other ↦ absurd (never (ap (named_at n) (rule.present.nobody i other).held))
] where
  never : named_at n (w.actors i).held ≡ None → ⊥
  never none = let no : true ≡ false = sym held ∙ ap is_some none in cc

-- so it lies somewhere
pub held-lies : (e : Setup) (w : State) (i n : ℕ) → Rule e w → holds w i n ≡ true
    → (r : Extent) × LiesOver e n r w
held-lies e w i n rule held = lies-somewhere e w n (held-named e w i n rule held)
