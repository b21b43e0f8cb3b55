-- In each reached state an instance has created no more carriers than a trace may have operations,
-- and one; so the carriers that it creates can be counted.
use Rattle.std.proofs.Common.{ℕ, get_or, zero, suc, ◌+◌, ◌<◌, ◌≤◌, ◌^◌, List, [], ◌∷◌, Bool, true}
use Rattle.std.proofs.Common.{false, sym, subst, arith}
use Rattle.std.specs.Prelude.{flat_map, if◌then◌else◌, length, nat_lt}
use Rattle.std.proofs.lemmas.List.{length-append}
use Rattle.ea_model.specs.declared.operations.Op.{Op}
use Rattle.ea_model.specs.declared.settings.Config.{Config}
use Rattle.ea_model.specs.declared.trace.Trace.{Trace}
use Rattle.ea_model.specs.declared.units.TheConstants.{MAX_OPS}
use Rattle.ea_model.specs.Instance.{main_content}
use Rattle.ea_model.specs.Content.{Content}
use Rattle.ea_model.specs.Settings.{IsValidConfig}
use Rattle.ea_model.specs.Trace.{IsValidTrace, texts_of}
use Rattle.ea_machine.specs.Machine.{IsReached}
use Rattle.ea_machine.specs.Setup.{Setup, first_page, setup_of, text_for}
use Rattle.ea_machine.specs.State.{State}
use Rattle.ea_sound.specs.FewCreated.{creations, most_created}
use Rattle.ea_sound.specs.Turns.{advanced}
use Rattle.ea_sound.proofs.Asked.{reached-rule}
use Rattle.ea_sound.proofs.RuleRuns.{rule-run}
use Rattle.ea_sound.proofs.CreationsLeft.{advanced-births, creates-few}

-- the operations of a scheduler are among those of the trace
text-few : (texts : List (List Op)) (i : ℕ)
    → length (get_or texts i []) ≤ length (flat_map (λ text. text) texts)
text-few [] i = omega arith
text-few (text ∷ texts) zero =
    omega (arith, length-append text (flat_map (λ text. text) texts))
text-few (text ∷ texts) (suc i) = omega (
  arith,
  text-few texts i,
  length-append text (flat_map (λ text. text) texts),
)

of-text : (texts : List (List Op)) (i : ℕ)
    → length (text_for texts i) ≤ length (flat_map (λ text. text) texts)
of-text texts zero = omega arith
of-text texts (suc i) = text-few texts i

main-one : (b : Bool) (x : Content) → length (if b then x ∷ [] else []) ≤ 1
main-one true x = omega arith
main-one false x = omega arith

module _ (c : Config) (t : Trace) (valid : IsValidConfig c)
    (made : IsValidTrace c.schedulers t) (w : State) (reached : IsReached (setup_of c t) w) (me : ℕ)
  where
    abbrev setup : Setup
    setup = setup_of c t

    most-few : most_created setup me ≤ MAX_OPS + 1
    most-few = omega (
      arith,
      of-text (texts_of t) me,
      made.few,
      main-one (nat_lt 0 setup.settings.mmbcs)
          (main_content setup.settings me (first_page setup me)),
    )

    few-here : creations (w.actors me) ≤ most_created setup me
    few-here = subst (λ v. creations (v.actors me) ≤ most_created setup me) (sym reached.1)
        (creates-few setup (rule-run c t valid made) reached.0 me)

    -- the instance has created no more carriers than a trace has operations, and one; so one more
    -- can be counted
    pub created-most : (w.actors me).instance.created ≤ MAX_OPS + 1
    created-most = omega (arith, few-here, most-few)

    pub created-counts : (w.actors me).instance.created + 1 < 2 ^ 32
    created-counts = omega (arith, created-most)
