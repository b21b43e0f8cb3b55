-- What a report says: the figures as they are, and the greatest ones since the last report and ever.
use Rattle.std.specs.Prelude.{◌≡◌, ◌⊎◌, ℕ, ◌≤◌, List, [], ◌∷◌, ◌++◌}
use Rattle.ea_model.specs.declared.carriers.Figures.{Figures}
use Rattle.ea_model.specs.declared.entries.Entry.TheVariants as entry
use Rattle.ea_model.specs.declared.entries.Report.{Report}
use Rattle.ea_model.specs.declared.entries.Reports.{Reports}
use Rattle.ea_model.specs.declared.entries.Triple.{Triple}
use Rattle.ea_model.specs.declared.operations.Op.{Op}
use Rattle.ea_model.specs.declared.operations.Op.TheVariants as op
use Rattle.ea_model.specs.Instance.{figures}
use Rattle.ea_machine.specs.Actor.{Actor}
use Rattle.ea_machine.specs.Machine.{run}
use Rattle.ea_machine.specs.Setup.{Setup}
use Rattle.ea_machine.specs.Statistics.{employed_multis, employed_singles}
use Rattle.ea_sound.specs.Turns.{IsBegun, actor_after, begun, log_after}

-- the first of these operations asks for the allocator information
abbrev pub AsksInfo : List Op → Type 0
AsksInfo ops = (later : List Op) × (ops ≡ op.Info ∷ later)

-- s reports in its step after these: the begin of an operation that asks for the information is
-- over in it
abbrev pub IsReporting : Setup → List ℕ → ℕ → Type 0
IsReporting setup turns s = IsBegun setup (run setup turns) s × AsksInfo (begun setup turns s).todo

-- the moment after these first steps of the turns
abbrev pub IsSinceStart : (turns moment : List ℕ) → Type 0
IsSinceStart turns moment = (later : List ℕ) × (turns ≡ moment ++ later)

-- and s reports in none of the steps after it
abbrev pub IsSinceReport : Setup → ℕ → (turns moment : List ℕ) → Type 0
IsSinceReport setup s turns moment = (later : List ℕ) × (turns ≡ moment ++ later)
    × ((before after : List ℕ) → later ≡ before ++ s ∷ after
    → IsReporting setup (moment ++ before) s → ⊥)

-- n is what f gives at one of these moments, and at none of them does f give more
pub record IsGreatest (At : List ℕ → Type 0) (f : List ℕ → ℕ) (n : ℕ) : Type 0 where
  pub moment : List ℕ
  pub at : At moment
  pub is : f moment ≡ n
  pub most : (other : List ℕ) → At other → f other ≤ n

-- a figure of s in a report that it makes in its step after the turns: as it is after this step,
-- and the greatest one at this moment and those before it since the last report, and ever
pub record IsFigure (setup : Setup) (turns : List ℕ) (s : ℕ) (figure : Actor → ℕ) (t : Triple)
    : Type 0 where
  pub now : t.now ≡ figure (actor_after setup (turns ++ s ∷ []) s)
  pub last : IsGreatest
      (λ m. (m ≡ turns ++ s ∷ []) ⊎ IsSinceReport setup s turns m)
      (λ m. figure (actor_after setup m s)) t.last
  pub ever : IsGreatest (λ m. (m ≡ turns ++ s ∷ []) ⊎ IsSinceStart turns m)
      (λ m. figure (actor_after setup m s)) t.ever

-- the figures of some of its carriers
pub record AreFigures (setup : Setup) (turns : List ℕ) (s : ℕ) (of : Actor → Figures) (r : Report)
    : Type 0 where
  pub blocks : IsFigure setup turns s (λ a. (of a).blocks) r.blocks
  pub blocks_size : IsFigure setup turns s (λ a. (of a).blocks_size) r.blocks_size
  pub carriers : IsFigure setup turns s (λ a. (of a).carriers) r.carriers
  pub carriers_size : IsFigure setup turns s (λ a. (of a).carriers_size) r.carriers_size

-- where s reports it makes an entry of this, which has these figures of the main and multiblock
-- carriers that it employs, and of its singleblock carriers
abbrev pub ReportsGreatest : Setup → Type 0
ReportsGreatest setup = (turns : List ℕ) (s : ℕ) → IsReporting setup turns s
    → (reports : Reports)
    × (log_after setup (turns ++ s ∷ []) s ≡ log_after setup turns s ++ entry.Info reports ∷ [])
    × AreFigures setup turns s (λ a. figures (employed_multis a)) reports.mbcs
    × AreFigures setup turns s (λ a. figures (employed_singles a)) reports.sbcs
