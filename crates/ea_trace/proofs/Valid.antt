-- What the language calls a trace is valid.
use Rattle.std.proofs.Common.{◌≡◌, ℕ, ◌+◌, ◌≤◌, true, cond, List, [], ◌∷◌, Option, Some, None, Ok}
use Rattle.std.proofs.Common.{Err, IfOk, inl, length, map, reverse, refl, sym, ap, subst, ◌∙◌}
use Rattle.std.proofs.Common.{arith}
use Rattle.std.specs.List.{All, AllByRecursion, count_by, find, list_any, sum_by}
use Rattle.std.proofs.lemmas.List.{length-reverse}
use Rattle.ea_model.specs.Trace.{BringsBefore, HasTexts, IsOperation, IsValidMode, IsValidTrace}
use Rattle.ea_model.specs.Trace.{MayStop}
use Rattle.ea_model.specs.Trace.{gives, gives_to, greatest_of, listed, makes, operations_of, plain}
use Rattle.ea_model.specs.Trace.{takes, text_at, texts_of, tries_of}
use Rattle.ea_model.proofs.Traces.{valid_from_plain}
use Rattle.ea_model.specs.declared.operations.Op.{Op}
use Rattle.ea_model.specs.declared.settings.Letter.{Letter}
use Rattle.ea_model.specs.declared.trace.Mode.{Mode}
use Rattle.ea_model.specs.declared.trace.Mode.TheVariants as mode
use Rattle.ea_model.specs.declared.trace.Trace.{Trace}
use Rattle.ea_trace.specs.Language.{Answer, Earlier, Gives, WordLines, addressed_or, at_end}
use Rattle.ea_trace.specs.Language.{is_unaddressed}
use Rattle.ea_trace.specs.Language.{letter_after, mode_after, operations, read_after, refusal}
use Rattle.ea_trace.specs.Language.{refused_or, section_operations, sections, stage_after, takes_in}
use Rattle.ea_trace.specs.Language.{texts_after, texts_before, trace_from, trace_of, turns_after}
use Rattle.ea_trace.specs.Language.{stops_after, with_turns}
use Rattle.ea_model.specs.declared.trace.Stop.{Stop}
use Rattle.ea_model.specs.declared.trace.Turns as model
use Rattle.ea_trace.proofs.Stopped.{all_stops, no_section_none, once_stopped}
use Rattle.ea_trace.specs.Lines.{line_of_words}
use Rattle.ea_trace.specs.Ranges.{InRange}
use Rattle.ea_trace.specs.declared.fault.TraceFault.{TraceFault}
use Rattle.ea_trace.specs.declared.stages.Stage.{Stage}
use Rattle.ea_trace.specs.declared.stages.Stage.TheVariants as at
use Rattle.ea_trace.proofs.Addressed.{addressed, taken_each}
use Rattle.ea_trace.proofs.Followed.{Fits, Followed, GoodTurns, all_of, brought_each, counts, laid}
use Rattle.ea_trace.proofs.Followed.{laid_last, length_cases, passes, stays, turns_all}
use Rattle.ea_trace.proofs.Ranges.{words_ranges}
use Rattle.ea_trace.proofs.Turned.{all_turned, any_turned, greatest_turned, sum_turned}

items-listed : (texts : List (List Op)) → map (λ text. text.items) (map (λ text. listed text) texts)
    ≡ texts
items-listed [] = refl
items-listed (text ∷ texts) = ap (λ rest. text ∷ rest) (items-listed texts)

empty : (texts : List (List Op)) → length texts ≡ 0 → texts ≡ []
empty [] e = refl
empty (text ∷ texts) e = absurd (omega arith)

has_texts : (n section : ℕ) (m : Mode) (ts : List _) (texts : List (List Op)) → length texts
    ≡ section → Fits n section (Some m) → HasTexts n (with_turns ts m) texts
has_texts n section mode.Threads ts texts e f = e ∙ f
has_texts n section (mode.Schedule turns) ts texts e f = e ∙ f
has_texts n section (mode.Generated seed count) ts texts e f = inl (empty texts (e ∙ f.0))

valid_mode : (n section : ℕ) (m : Mode) (ts : List _) → GoodTurns n ts → Fits n section (Some m)
    → IsValidMode n (with_turns ts m)
valid_mode n section mode.Threads ts g f = tt
valid_mode n section (mode.Schedule turns) ts g f = (g.good, g.few)
valid_mode n section (mode.Generated seed count) ts g f = (f.1, f.2, f.3)

may_stop : (n section : ℕ) (m : Mode) (ts : List model.Turns) (ss : List Stop)
    → Fits n section (Some m) → (section ≡ 0 → ss ≡ []) → MayStop (with_turns ts m) ss
may_stop n section mode.Threads ts ss fits none = tt
may_stop n section (mode.Schedule turns) ts ss fits none = tt
may_stop n section (mode.Generated seed count) ts ss fits none = none fits.0

pub valid_from : (n : ℕ) (lines : Earlier) (letter : Letter) (m : Mode) → Followed n lines
    → mode_after lines ≡ Some m
    → find (is_unaddressed lines) (takes_in lines) ≡ None
    → IsValidTrace n (trace_from letter m lines)
valid_from n lines letter m f e none =
    let texts : texts_of (trace_from letter m lines) ≡ texts_after lines = items-listed
    (texts_after lines) in
    let all : operations_of (trace_from letter m lines)
    ≡ reverse (operations lines) = ap all_of texts ∙ laid_last lines (laid n lines f) in
    let fits : Fits n (sections lines) (Some m) = subst (Fits n (sections lines)) e
    (stays n lines f).fits in
    let count = counts n lines f in
    let size : length (texts_after lines) ≡ sections lines = length_cases (sections lines)
    (texts_before lines) (reverse (section_operations lines)) (laid n lines f).count in
    record {
      texts = has_texts n (sections lines) m (turns_after lines)
          (texts_of (trace_from letter m lines)) (ap length texts ∙ size) fits;
      mode = valid_mode n (sections lines) m (turns_after lines) (turns_all n lines f) fits;
      stops = all_stops n lines f;
      stopped_once = once_stopped n lines f;
      may_stop = may_stop n (sections lines) m (turns_after lines) (stops_after lines) fits
          (no_section_none n lines f);
      operations = subst (All (IsOperation n)) (sym all)
          (all_turned (IsOperation n) (operations lines) count.good);
      few = omega (arith, ap length all, length-reverse (operations lines), count.few);
      tries = omega (
        arith,
        ap (sum_by tries_of) all,
        sum_turned tries_of
            (operations lines),
        count.tries,
      );
      made_once = λ name. subst (λ k. k ≤ 1) (sym (ap (count_by (makes name)) all
          ∙ sum_turned (λ o. cond (makes name o) 1 0) (operations lines))) (count.made_once name);
      given_once = λ name. subst (λ k. k ≤ 1) (sym (ap (count_by (gives name)) all
          ∙ sum_turned (λ o. cond (gives name o) 1 0) (operations lines))) (count.given_once name);
      held = λ i. subst (λ xs. BringsBefore (text_at i xs)) (sym texts) (brought_each n lines f i);
      addressed = λ i name h. ap (list_any (gives_to name (i + 1))) all
          ∙ any_turned (gives_to name (i + 1)) (operations lines)
          ∙ addressed lines name (i + 1) none (taken_each n lines f i name
          (subst (λ xs. list_any (takes name) (text_at i xs) ≡ true) texts h));
      greatest = sym (ap greatest_of all ∙ greatest_turned (operations lines));
    }

at_end_valid : (n : ℕ) (lines : Earlier) (stage : Stage) (letter : Option Letter) (m : Option Mode)
    (t : Trace) → Followed n lines → mode_after lines ≡ m
    → at_end stage letter m lines ≡ Ok t → IsValidTrace n t
at_end_valid n lines at.Start letter m t f e h = absurd cc
at_end_valid n lines at.Opening letter m t f e h = absurd cc
at_end_valid n lines at.Turns letter m t f e h = absurd cc
at_end_valid n lines at.Closing letter m t f e h = absurd cc
at_end_valid n lines at.Ended None m t f e h = absurd cc
at_end_valid n lines at.Ended (Some letter) None t f e h = absurd cc
at_end_valid n lines at.Ended (Some letter) (Some m) t f e h = given
    (find (is_unaddressed lines) (takes_in lines)) refl h
  where
    given : (found : Option _) → find (is_unaddressed lines) (takes_in lines) ≡ found
        → addressed_or found (trace_from letter m lines) ≡ Ok t → IsValidTrace n t
    given None none k = let same : trace_from letter m lines
        ≡ t = cc in subst (IsValidTrace n) same (valid_from n lines letter m f e none)
    given (Some take) none k = absurd cc

not_refused : {n : ℕ} (found : Option TraceFault) (read : Answer) (t : Trace)
    → refused_or found read ≡ Ok t
    → (found ≡ None → read ≡ Ok t → IsValidTrace n t) → IsValidTrace n t
not_refused None read t h f = f refl h
not_refused (Some fault) read t h f = absurd cc

pub read_valid : (n : ℕ) (earlier later : Earlier) (t : Trace) → Followed n earlier
    → AllByRecursion InRange later
    → read_after n earlier later ≡ Ok t → IsValidTrace n t
read_valid n earlier [] t f r h = at_end_valid n earlier (stage_after earlier)
    (letter_after earlier) (mode_after earlier) t f refl h
read_valid n earlier (line ∷ later) t f r h = not_refused (refusal n earlier line)
    (read_after n (line ∷ earlier) later) t h (λ none. read_valid n (line ∷ earlier) later t
    (f, passes n earlier line none, r.0) r.1)

lines_ranges : (ls : WordLines) → AllByRecursion InRange (map line_of_words ls)
lines_ranges [] = tt
lines_ranges (ws ∷ ls) = (words_ranges ws, lines_ranges ls)

-- what the language calls a trace for n schedulers is valid for them
trace_valid : (ls : WordLines) (n : ℕ) (t : Trace) → trace_of n ls ≡ Ok t → IsValidTrace n t
trace_valid ls n t h = read_valid n [] (map line_of_words ls) t tt (lines_ranges ls) h

pub given_valid : (answer : Answer) (ls : WordLines) (n : ℕ) → Gives answer (trace_of n ls)
    → IfOk answer (IsValidTrace n)
given_valid (Ok t) ls n h = valid_from_plain n t (trace_valid ls n (plain t) h)
given_valid (Err fault) ls n h = tt
