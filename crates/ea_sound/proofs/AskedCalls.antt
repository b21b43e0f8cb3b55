-- What a scheduler has that asks for a place, in each reached state: the operation is left that
-- asks, its need can be placed, its name is one of the trace and isn't held, and the old block of a
-- reallocation is; and a carrier that is fetched has a choice.
use Rattle.std.proofs.Common.{◌≡◌, ℕ, ◌%◌, ◌≤◌, true, List, [], ◌∷◌, sym, ap, ◌∙◌, subst}
use Rattle.std.proofs.Common.{refl, arith}
use Rattle.std.specs.Prelude.{None, Some}
use Rattle.ea_model.specs.declared.carriers.Spot.{Spot}
use Rattle.ea_model.specs.declared.operations.Op.{Op}
use Rattle.ea_model.specs.declared.operations.Op.TheVariants as op
use Rattle.ea_model.specs.declared.settings.Config.{Config}
use Rattle.ea_model.specs.declared.trace.Trace.{Trace}
use Rattle.ea_model.specs.declared.units.TheConstants.{MIN_BLOCK}
use Rattle.ea_model.specs.Content.{Content}
use Rattle.ea_model.specs.Employment.{employing}
use Rattle.ea_model.specs.Instance.{chosen_spot}
use Rattle.ea_model.specs.Settings.{IsValidConfig}
use Rattle.ea_model.specs.Trace.{IsScheduler, IsValidTrace}
use Rattle.ea_model.proofs.Options.{same-some}
use Rattle.ea_machine.specs.declared.parts.Part.{Part}
use Rattle.ea_machine.specs.declared.asks.Ask.{Ask}
use Rattle.ea_machine.specs.declared.nodes.Named.{Named}
use Rattle.ea_machine.specs.declared.owners.OwnerWord.{OwnerWord}
use Rattle.ea_machine.specs.declared.stages.Stage.TheVariants.{Fetching}
use Rattle.ea_machine.specs.Actor.{Actor}
use Rattle.ea_machine.specs.Machine.{IsReached}
use Rattle.ea_machine.specs.Nodes.{named_at}
use Rattle.ea_machine.specs.Rows.{Won}
use Rattle.ea_machine.specs.Setup.{Setup, is_scheduler, setup_of}
use Rattle.ea_machine.specs.State.{State}
use Rattle.ea_machine.specs.Table.{tried_at}
use Rattle.ea_sound.specs.Present.{Asked, OfAsk, Rule}
use Rattle.ea_sound.specs.Rule.{Kept}
use Rattle.ea_sound.proofs.Asked.{first-operation, reached-rule}
use Rattle.ea_sound.proofs.Entries.{ask-even, ask-least}
use Rattle.ea_sound.proofs.FetchedFits.{won-from}
use Rattle.ea_sound.proofs.HeldBlocks.{not_held}
use Rattle.ea_sound.proofs.Numbered.{scheduler-seat}
use Rattle.ea_sound.proofs.RowLeaves as rows
use Rattle.ea_sound.proofs.SoundRanges.{number-scheduler}
use Rattle.ea_sound.proofs.TraceNames.{IsNameOf}

module _ (c : Config) (t : Trace) (valid : IsValidConfig c)
    (made : IsValidTrace c.schedulers t) (w : State) (reached : IsReached (setup_of c t) w)
    (me : ℕ) (number : IsScheduler c.schedulers me) where
  abbrev e : Setup
  e = setup_of c t

  abbrev a : Actor
  a = w.actors me

  is : is_scheduler e me ≡ true
  is = number-scheduler e me number

  rule : Rule e w
  rule = reached-rule c t valid made w reached

  k : Kept e w
  k = rule.kept

  -- the operation that asks is left
  first-by : (ask : Ask) (todo : List Op) → a.todo ≡ todo → OfAsk ask todo
      → (o : Op) × (ops : List Op) × (a.todo ≡ o ∷ ops)
  first-by ask [] first of = absurd of
  first-by ask (o ∷ ops) first of = (o, ops, first)

  -- so is the old one
  old-by : (ask : Ask) (todo : List Op) → a.todo ≡ todo → OfAsk ask todo → (h : Named)
      → ask.old ≡ Some h → IsNameOf t h.name
  old-by ask (op.Alloc name bytes ∷ ops) first of h old =
      absurd (let never : None ≡ Some h = sym of.2 ∙ old in cc)
  old-by ask (op.Realloc name fresh bytes ∷ ops) first of h old =
      let is = first-operation c t valid made w reached me (op.Realloc name fresh bytes) ops
      first in
      let (g, has, named) = of.2 in
      let same : h.name ≡ name =
      ap (λ (x : Named). x.name) (same-some ask.old h g old has) ∙ named in
      subst (IsNameOf t) (sym same) (is.0.0.0, omega (arith, is.1))
  old-by ask todo first of h old = absurd of

  -- of what is asked for
  module _ (ask : Ask) (asked : Asked e w a ask) where
    pub asked-even : ask.need % 2 ≡ 0
    asked-even = ask-even ask a.todo asked.of

    pub asked-least : MIN_BLOCK ≤ ask.need
    asked-least = ask-least ask a.todo asked.of

    pub asked-first : (o : Op) × (ops : List Op) × (a.todo ≡ o ∷ ops)
    asked-first = first-by ask a.todo refl asked.of

    pub asked-unheld : named_at ask.name a.held ≡ None
    asked-unheld = not_held e w me (scheduler-seat e me is) k a refl ask.name asked.fresh

    -- the old block is held, under a name of the trace
    module _ (old : Named) (of : ask.old ≡ Some old) where
      pub asked-old_name : IsNameOf t old.name
      asked-old_name = old-by ask a.todo refl asked.of old of

  -- before a try to fetch
  module _ (ask : Ask) (n : ℕ) (part : Part) (seen : OwnerWord)
      (now : a.stage ≡ Fetching ask n part seen) where
    -- there is a choice with what it brings
    pub fetched-chosen : (x : Content) → tried_at seen (w.shared.places n) ≡ Won x
        → (spot : Spot) × (chosen_spot (employing a.instance x) ask.need ≡ Some spot)
    fetched-chosen x won =
        let (i, g, word, same) = won-from seen (w.shared.places n) x won in
        rows.fetched-chosen e w me is rule ask n part seen now i g x word same
