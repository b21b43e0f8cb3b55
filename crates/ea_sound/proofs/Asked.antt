-- In each reached state the numbers of the operations left are in their ranges; and names that are
-- held, by their spots.
use Rattle.std.proofs.Common.{◌≡◌, ℕ, ◌≤◌, List, [], ◌∷◌, sym, ap, ◌∙◌, subst, refl, arith}
use Rattle.std.specs.Prelude.{option_map, All, Option, Some, None}
use Rattle.std.proofs.lemmas.List.Elements.{All-nil, All-cons, All-head, All-weaker}
use Rattle.ea_model.specs.declared.carriers.Spot.{Spot}
use Rattle.ea_model.specs.declared.operations.Op.{Op}
use Rattle.ea_model.specs.declared.settings.Config.{Config}
use Rattle.ea_model.specs.declared.trace.Trace.{Trace}
use Rattle.ea_model.specs.Settings.{IsValidConfig}
use Rattle.ea_model.specs.Trace.{IsOperation, IsValidTrace, greatest_in, greatest_of, operations_of}
use Rattle.ea_model.specs.Trace.{texts_of}
use Rattle.ea_model.proofs.Options.{same-some}
use Rattle.ea_model.proofs.Rising.{item_at-key}
use Rattle.ea_machine.specs.declared.nodes.Named.{Named}
use Rattle.ea_machine.specs.Machine.{IsReached}
use Rattle.ea_machine.specs.Nodes.{named_at, spot_named, name_of}
use Rattle.ea_machine.specs.Setup.{Setup, setup_of, text_for}
use Rattle.ea_machine.specs.State.{State}
use Rattle.ea_sound.specs.Present.{Rule}
use Rattle.ea_sound.proofs.RuleRuns.{rule-run}
use Rattle.ea_sound.proofs.TextTotals.{All-back, text-All}

all-greatest : (ops : List Op) → All (λ o. greatest_in o ≤ greatest_of ops) ops
all-greatest [] = All-nil (λ o. greatest_in o ≤ 0)
all-greatest (o ∷ ops) =
    All-cons (λ p. greatest_in p ≤ greatest_of (o ∷ ops)) o ops (omega arith)
    (All-weaker (λ p. greatest_in p ≤ greatest_of ops) (λ p. greatest_in p ≤ greatest_of (o ∷ ops))
    (λ p le. omega arith) ops (all-greatest ops))

module _ (c : Config) (t : Trace) (made : IsValidTrace c.schedulers t) where
  -- each operation has names up to the greatest one of the trace
  all-upto : All (λ o. greatest_in o ≤ t.greatest) (operations_of t)
  all-upto = subst (λ n. All (λ o. greatest_in o ≤ n) (operations_of t)) (sym made.greatest)
      (all-greatest (operations_of t))

  -- so has each one of a scheduler
  pub text-upto : (me : ℕ) → All (λ o. greatest_in o ≤ t.greatest) (text_for (texts_of t) me)
  text-upto me = text-All (λ o. greatest_in o ≤ t.greatest) (texts_of t) me all-upto

module _ (c : Config) (t : Trace) (valid : IsValidConfig c)
    (made : IsValidTrace c.schedulers t) (w : State) (reached : IsReached (setup_of c t) w) where
  abbrev setup : Setup
  setup = setup_of c t

  pub reached-rule : Rule setup w
  reached-rule = subst (Rule setup) (sym reached.1) (rule-run c t valid made reached.0)

  -- what holds of all operations of the trace holds of the first one that a scheduler has left
  module _ (me : ℕ) (o : Op) (ops : List Op) (first : (w.actors me).todo ≡ o ∷ ops) where
    first-All : (P : Op → Type 0) → All P (operations_of t) → P o
    first-All P all =
        let history = reached-rule.present.history me in
        All-head P o ops (subst (All P) first (All-back P history.done (w.actors me).todo
        (subst (All P) history.split (text-All P (texts_of t) me all))))

    -- so its numbers are in their ranges
    pub first-operation : IsOperation c.schedulers o × (greatest_in o ≤ t.greatest)
    first-operation = (
      first-All (IsOperation c.schedulers) made.operations,
      first-All (λ p. greatest_in p ≤ t.greatest) (all-upto c t made),
    )

-- a name whose spot is found is held with it, and one whose spot isn't found isn't held
pub named-spot : (n : ℕ) (p : Spot) (held : List Named) → spot_named n held ≡ Some p
    → named_at n held ≡ Some (record { name = n; spot = p })
named-spot n p held found = by (named_at n held) refl where
  by : (o : Option Named) → named_at n held ≡ o
      → named_at n held ≡ Some (record { name = n; spot = p })
  by None q = absurd (let none = ap (option_map (λ (x : Named). x.spot)) q in cc)
  by (Some x) q =
      let name = item_at-key name_of n x held q in
      let spot = same-some (spot_named n held) x.spot p
      (ap (option_map (λ (y : Named). y.spot)) q) found in
      q ∙ ap (λ m. Some (record { name = m; spot = x.spot })) name
      ∙ ap (λ r. Some (record { name = n; spot = r })) spot

pub unnamed-spot : (n : ℕ) (held : List Named) → spot_named n held ≡ None
    → named_at n held ≡ None
unnamed-spot n held none = by (named_at n held) refl where
  by : (o : Option Named) → named_at n held ≡ o → named_at n held ≡ None
  by None q = q
  by (Some x) q = absurd (let some = ap (option_map (λ (y : Named). y.spot)) q in cc)
