-- What a definition answers for a trace that was read: it is as valid, and has the same setup.
use Rattle.std.proofs.Common.{◌≡◌, ℕ, ◌+◌, ◌≤◌, true, List, length, refl, sym, ap, subst, ◌∙◌}
use Rattle.std.specs.List.{All, count_by, flat_map, list_any, sum_by}
use Rattle.ea_model.specs.declared.operations.Op.{Op}
use Rattle.ea_model.specs.declared.settings.Config.{Config}
use Rattle.ea_model.specs.declared.trace.Mode.{Mode}
use Rattle.ea_model.specs.declared.trace.Mode.TheVariants.{Threads, Schedule, Generated}
use Rattle.ea_model.specs.declared.trace.Stop.{Stop}
use Rattle.ea_model.specs.declared.trace.Trace.{Trace}
use Rattle.ea_model.specs.declared.units.TheConstants.{MAX_ALL_TRIES, MAX_OPS}
use Rattle.ea_model.specs.Settings.{region_pages, settings_of}
use Rattle.ea_model.specs.Trace.{BringsBefore, HasTexts, IsOperation, IsValidMode, IsValidTrace}
use Rattle.ea_model.specs.Trace.{MayStop, gives, gives_to, greatest_of, is_scheduled, makes, plain}
use Rattle.ea_model.specs.Trace.{plain_mode, stop_in, takes, text_at, texts_of, tries_of}
use Rattle.ea_model.proofs.Traces.{plain-texts}
use Rattle.ea_machine.specs.Setup.{setup_of, text_for}

texts-plain : (n : ℕ) (m : Mode) (texts : List (List Op)) → HasTexts n m texts
    → HasTexts n (plain_mode m) texts
texts-plain n Threads texts h = h
texts-plain n (Schedule turns) texts h = h
texts-plain n (Generated seed count) texts h = h

stop-plain : (m : Mode) (stops : List Stop) → MayStop m stops → MayStop (plain_mode m) stops
stop-plain Threads stops h = h
stop-plain (Schedule turns) stops h = h
stop-plain (Generated seed count) stops h = h

mode-plain : (n : ℕ) (m : Mode) → IsValidMode n m → IsValidMode n (plain_mode m)
mode-plain n Threads h = h
mode-plain n (Schedule turns) h = h
mode-plain n (Generated seed count) h = h

abbrev all_of : List (List Op) → List Op
all_of texts = flat_map (λ text. text) texts

pub valid-plain : (n : ℕ) (t : Trace) → IsValidTrace n t → IsValidTrace n (plain t)
valid-plain n t v =
    let e : texts_of t ≡ texts_of (plain t) = sym (plain-texts t) in
    record {
      texts = texts-plain n t.mode (texts_of (plain t)) (subst (HasTexts n t.mode) e v.texts);
      mode = mode-plain n t.mode v.mode;
      stops = v.stops;
      stopped_once = v.stopped_once;
      may_stop = stop-plain t.mode t.stops.items v.may_stop;
      operations = subst (λ xs. All (IsOperation n) (all_of xs)) e v.operations;
      few = subst (λ xs. length (all_of xs) ≤ MAX_OPS) e v.few;
      tries = subst (λ xs. sum_by tries_of (all_of xs) ≤ MAX_ALL_TRIES) e v.tries;
      made_once = λ name. subst (λ xs. count_by (makes name) (all_of xs) ≤ 1) e
          (v.made_once name);
      given_once = λ name. subst (λ xs. count_by (gives name) (all_of xs) ≤ 1) e
          (v.given_once name);
      held = λ i. subst (λ xs. BringsBefore (text_at i xs)) e (v.held i);
      addressed = λ i name. subst (λ xs. list_any (takes name) (text_at i xs) ≡ true
          → list_any (gives_to name (i + 1)) (all_of xs) ≡ true) e (v.addressed i name);
      greatest = v.greatest ∙ ap (λ xs. greatest_of (all_of xs)) e;
    }

pub same-setup : (c : Config) (t : Trace) → setup_of c (plain t) ≡ setup_of c t
same-setup c t = ap (λ texts. record {
  schedulers = c.schedulers;
  settings = settings_of c t.letter;
  pages = region_pages c;
  texts = text_for texts;
  stops = stop_in t.stops.items;
}) (plain-texts t)

pub same-schedule : (m : Mode) → is_scheduled (plain_mode m) ≡ is_scheduled m
same-schedule Threads = refl
same-schedule (Schedule turns) = refl
same-schedule (Generated seed count) = refl
