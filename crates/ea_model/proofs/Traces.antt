-- A trace and what a definition answers for it say the same.
use Rattle.std.proofs.Common.{◌≡◌, ℕ, ◌+◌, ◌≤◌, true, List, [], ◌∷◌, length, map, refl, sym, ap}
use Rattle.std.proofs.Common.{subst, ◌∙◌, ◌==◌}
use Rattle.std.specs.List.{All, count_by, flat_map, list_any, sum_by}
use Rattle.ea_model.specs.Lists.{Items}
use Rattle.ea_model.specs.declared.operations.Op.{Op}
use Rattle.ea_model.specs.declared.trace.Mode.{Mode}
use Rattle.ea_model.specs.declared.trace.Mode.TheVariants.{Threads, Schedule, Generated}
use Rattle.ea_model.specs.declared.trace.Stop.{Stop}
use Rattle.ea_model.specs.declared.trace.Trace.{Trace}
use Rattle.ea_model.specs.declared.units.TheConstants.{MAX_ALL_TRIES, MAX_OPS}
use Rattle.ea_model.specs.Trace.{BringsBefore, HasTexts, IsOperation, IsStop, IsValidMode}
use Rattle.ea_model.specs.Trace.{IsValidTrace, MayStop}
use Rattle.ea_model.specs.Trace.{gives, gives_to, greatest_of, listed, makes, plain, plain_mode}
use Rattle.ea_model.specs.Trace.{takes, text_at, texts_of, tries_of}

same_items : (texts : List (Items Op))
    → map (λ text. text.items) (map (λ text. listed text.items) texts)
    ≡ map (λ text. text.items) texts
same_items [] = refl
same_items (text ∷ texts) = ap (λ rest. text.items ∷ rest) (same_items texts)

pub plain-texts : (t : Trace) → texts_of (plain t) ≡ texts_of t
plain-texts t = same_items t.texts.items

has_texts : (n : ℕ) (m : Mode) (texts : List (List Op)) → HasTexts n (plain_mode m) texts
    → HasTexts n m texts
has_texts n Threads texts h = h
has_texts n (Schedule turns) texts h = h
has_texts n (Generated seed count) texts h = h

may_stop : (m : Mode) (stops : List Stop) → MayStop (plain_mode m) stops → MayStop m stops
may_stop Threads stops h = h
may_stop (Schedule turns) stops h = h
may_stop (Generated seed count) stops h = h

valid_mode : (n : ℕ) (m : Mode) → IsValidMode n (plain_mode m) → IsValidMode n m
valid_mode n Threads h = h
valid_mode n (Schedule turns) h = h
valid_mode n (Generated seed count) h = h

abbrev all_of : List (List Op) → List Op
all_of texts = flat_map (λ text. text) texts

-- validity speaks of the texts and stops alone, beside the mode and the greatest name
alike : (n : ℕ) (s t : Trace) → texts_of s ≡ texts_of t → s.greatest ≡ t.greatest
    → s.stops.items ≡ t.stops.items → HasTexts n t.mode (texts_of t) → IsValidMode n t.mode
    → MayStop t.mode t.stops.items → IsValidTrace n s → IsValidTrace n t
alike n s t e g stops texts mode may v = record {
  texts = texts;
  mode = mode;
  stops = subst (All (IsStop n)) stops v.stops;
  stopped_once = λ i. subst (λ (xs : List Stop). count_by (λ x. i == x.scheduler) xs ≤ 1) stops
      (v.stopped_once i);
  may_stop = may;
  operations = subst (λ xs. All (IsOperation n) (all_of xs)) e v.operations;
  few = subst (λ xs. length (all_of xs) ≤ MAX_OPS) e v.few;
  tries = subst (λ xs. sum_by tries_of (all_of xs) ≤ MAX_ALL_TRIES) e v.tries;
  made_once = λ name. subst (λ xs. count_by (makes name) (all_of xs) ≤ 1) e (v.made_once name);
  given_once = λ name. subst (λ xs. count_by (gives name) (all_of xs) ≤ 1) e (v.given_once name);
  held = λ i. subst (λ xs. BringsBefore (text_at i xs)) e (v.held i);
  addressed = λ i name. subst (λ xs. list_any (takes name) (text_at i xs) ≡ true
      → list_any (gives_to name (i + 1)) (all_of xs) ≡ true) e (v.addressed i name);
  greatest = sym g ∙ v.greatest ∙ ap (λ xs. greatest_of (all_of xs)) e;
}

pub valid_from_plain : (n : ℕ) (t : Trace) → IsValidTrace n (plain t) → IsValidTrace n t
valid_from_plain n t v = alike n (plain t) t (plain-texts t) refl refl
    (has_texts n t.mode (texts_of t)
    (subst (HasTexts n (plain_mode t.mode)) (plain-texts t) v.texts))
    (valid_mode n t.mode v.mode) (may_stop t.mode t.stops.items v.may_stop) v
