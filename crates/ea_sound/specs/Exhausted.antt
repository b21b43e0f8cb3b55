-- When no place is found for a block.
use Rattle.std.specs.Prelude.{◌≡◌, ◌⊎◌, ℕ, ◌≤◌, ◌==◌, List, [], ◌∷◌, ◌++◌, None, Err, count_by}
use Rattle.std.specs.Prelude.{length}
use Rattle.ea_model.specs.Entries.{Entry}
use Rattle.ea_model.specs.declared.entries.Entry.TheVariants as entry
use Rattle.ea_model.specs.declared.entries.NoCarrier.{NoCarrier}
use Rattle.ea_model.specs.declared.operations.Op.{Op}
use Rattle.ea_model.specs.declared.operations.Op.TheVariants as op
use Rattle.ea_model.specs.Instance.{chosen_spot, plan, refilled}
use Rattle.ea_machine.specs.Setup.{Setup}
use Rattle.ea_machine.specs.Machine.{run}
use Rattle.ea_sound.specs.Turns.{IsBegun, actor_after, begun, log_after}
use Rattle.ea_sound.specs.Needs.{AsksFor}
use Rattle.ea_sound.specs.Searches.{IsSought, IsUnsought, Sight, sights}

-- what scheduler s saw along the steps `since`, after the steps `before` and one of its own
abbrev pub seen_since : Setup → List ℕ → ℕ → List ℕ → List Sight
seen_since setup before s since = sights setup (run setup (before ++ s ∷ [])) s since

-- the begin of its operation was over in its step after `before`, and it asks for a place; up to
-- the singleblock threshold the strategy has no choice among the carriers that it employs then, and
-- with migration on own carriers and the pool were searched in vain, with all of its steps since
-- then; and no carrier can be created, for want of numbers or of space
pub record FindsNoPlace (setup : Setup) (before : List ℕ) (s : ℕ) (since : List ℕ)
    (need looked : ℕ) (why : NoCarrier) : Type 0 where
  pub begins : IsBegun setup (run setup before) s
  pub asks : AsksFor (begun setup before s) (begun setup before s).todo need
  pub none : need ≤ setup.settings.sbct
      → chosen_spot (begun setup before s).instance need ≡ None
  pub sought : IsUnsought setup need looked (seen_since setup before s since)
      ⊎ IsSought setup (begun setup before s).lists need looked (seen_since setup before s since)
  pub steps : count_by (λ j. j == s) since ≡ length (seen_since setup before s since)
  pub refused : plan (begun setup before s).instance need ≡ Err why

-- the entry says that no place was found for the first of these operations
abbrev pub IsFailOf : List Op → ℕ → ℕ → NoCarrier → Entry → Type 0
IsFailOf (op.Alloc name bytes ∷ ops) need looked why x = x ≡ entry.AllocFail name need looked why
IsFailOf (op.Realloc old fresh bytes ∷ ops) need looked why x =
    x ≡ entry.ReallocFail old fresh need looked why
IsFailOf _ need looked why x = ⊥

-- s made this entry in its step after the steps `turns`, since it found no place. It employs, owns
-- and holds what it did when the begin was over, the old block of a reallocation too; its count is
-- as great as can be
pub record IsExhausted (setup : Setup) (turns : List ℕ) (s : ℕ) (x : Entry) (need looked : ℕ)
    (why : NoCarrier) : Type 0 where
  pub before : List ℕ
  pub since : List ℕ
  pub split : turns ++ s ∷ [] ≡ before ++ s ∷ since
  pub finds : FindsNoPlace setup before s since need looked why
  pub fails : IsFailOf (begun setup before s).todo need looked why x
  pub log : log_after setup (turns ++ s ∷ []) s ≡ (begun setup before s).log ++ x ∷ []
  pub instance : (actor_after setup (turns ++ s ∷ []) s).instance
      ≡ refilled (begun setup before s).instance
  pub held : (actor_after setup (turns ++ s ∷ []) s).held ≡ (begun setup before s).held

-- where no place is found, the log says so
abbrev pub FailsIfExhausted : Setup → Type 0
FailsIfExhausted setup = (before : List ℕ) (s : ℕ) (since : List ℕ) (need looked : ℕ)
    (why : NoCarrier) → FindsNoPlace setup before s since need looked why
    → (x : Entry) × IsFailOf (begun setup before s).todo need looked why x
    × (log_after setup (before ++ s ∷ since) s ≡ (begun setup before s).log ++ x ∷ [])
