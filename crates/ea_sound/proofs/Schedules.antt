-- The schedule of a trace: its turns, one number for each, and what a valid trace with one has.
use Rattle.std.proofs.Common.{◌≡◌, ℕ, ◌+◌, ◌<◌, true, List, [], ◌∷◌, ◌++◌, length, get_or, take}
use Rattle.std.proofs.Common.{append-nil, sym, ap, ◌∙◌, arith}
use Rattle.std.specs.Prelude.{All, flat_map, replicate}
use Rattle.std.proofs.lemmas.Grind.{flat_map-append}
use Rattle.std.proofs.lemmas.List.{length-map, take_more}
use Rattle.ea_model.specs.declared.operations.Op.{Op}
use Rattle.ea_model.specs.declared.settings.Config.{Config}
use Rattle.ea_model.specs.declared.trace.Mode.{Mode}
use Rattle.ea_model.specs.declared.trace.Mode.TheVariants.{Threads, Schedule, Generated}
use Rattle.ea_model.specs.declared.trace.Trace.{Trace}
use Rattle.ea_model.specs.declared.trace.Turns.{Turns}
use Rattle.ea_model.specs.Lists.{Items}
use Rattle.ea_model.specs.Trace.{HasTexts, IsScheduler, IsValidMode, IsValidTrace, is_scheduled}
use Rattle.ea_model.specs.Trace.{texts_of, turns_of}

abbrev pub turns_from : List Turns → List ℕ
turns_from schedule = flat_map (λ t. replicate t.count t.scheduler) schedule

-- one entry more of a schedule
pub turns-more : (schedule : List Turns) (i : ℕ) (d : Turns) → i < length schedule
    → turns_from (take (i + 1) schedule)
    ≡ turns_from (take i schedule)
    ++ replicate (get_or schedule i d).count (get_or schedule i d).scheduler
turns-more schedule i d within =
    let x = get_or schedule i d in
    let f : Turns → List ℕ = λ t. replicate t.count t.scheduler in
    ap turns_from (take_more schedule i d within)
    ∙ flat_map-append f (take i schedule) (x ∷ [])
    ∙ ap (λ ys. turns_from (take i schedule) ++ ys) (append-nil (f x))

theirs_by : (n : ℕ) (m : Mode) → IsValidMode n m
    → All (λ y. IsScheduler n y.scheduler) (turns_of m)
theirs_by n Threads valid = λ k d h. absurd (omega (arith, h))
theirs_by n (Schedule turns) valid = λ k d h. (valid.0 k d h).0
theirs_by n (Generated seed count) valid = λ k d h. absurd (omega (arith, h))

-- the turns of a valid trace are those of its schedulers
pub turns-theirs : (c : Config) (t : Trace) → IsValidTrace c.schedulers t
    → All (λ y. IsScheduler c.schedulers y.scheduler) (turns_of t.mode)
turns-theirs c t valid = theirs_by c.schedulers t.mode valid.mode

-- each scheduler has a text where the trace has a schedule
pub scheduled-texts : (n : ℕ) (t : Trace) → is_scheduled t.mode ≡ true → IsValidTrace n t
    → length t.texts.items ≡ n
scheduled-texts n t is valid = sym (length-map t.texts.items (λ (x : Items Op). x.items))
    ∙ by t.mode is valid.texts where
      by : (m : Mode) → is_scheduled m ≡ true → HasTexts n m (texts_of t)
          → length (texts_of t) ≡ n
      by Threads q has = has
      by (Schedule turns) q has = has
      by (Generated seed count) q has = absurd cc
