-- What the runs of the types of an input give, as the definition answers for them.
use Rattle.std.proofs.Common.{◌≡◌, ◌≢◌, ℕ, zero, suc, ◌+◌, ◌<◌, List, [], ◌∷◌, ◌++◌, Option, Some}
use Rattle.std.proofs.Common.{None, Ok, Err, flat_map, length, map, replicate, refl, sym, ap, subst}
use Rattle.std.proofs.Common.{◌∙◌, arith}
use Rattle.std.specs.Prelude.{All, slice_get, slice_index_or}
use Rattle.std.specs.List.{AllByRecursion, AllZip}
use Rattle.std.specs.Option.{option_map_or}
use Rattle.std.proofs.lemmas.List.{length-map}
use Rattle.std.proofs.lemmas.List.Elements.{recursion_from_All}
use Rattle.std.proofs.Math.Path.{fun_ext}
use Rattle.ea_model.specs.declared.operations.Op.{Op}
use Rattle.ea_model.specs.declared.outcome.Outcome.{Outcome}
use Rattle.ea_model.specs.declared.settings.Config.{Config}
use Rattle.ea_model.specs.declared.settings.Letter.{Letter}
use Rattle.ea_model.specs.declared.trace.Mode.{Mode}
use Rattle.ea_model.specs.declared.trace.Mode.TheVariants.{Threads, Schedule, Generated}
use Rattle.ea_model.specs.declared.trace.Trace.{Trace}
use Rattle.ea_model.specs.declared.trace.Turns.{Turns}
use Rattle.ea_model.specs.Lists.{Items}
use Rattle.ea_model.specs.Outcome.{plain_outcome}
use Rattle.ea_model.specs.Trace.{listed, plain, plain_mode, texts_of}
use Rattle.ea_model.proofs.Outcomes.{same-logs}
use Rattle.ea_machine.specs.Outcome.{outcome}
use Rattle.ea_machine.specs.Setup.{Setup, setup_of}
use Rattle.ea_sound.proofs.Plain.{same-setup}
use Rattle.ea_report.specs.Text.{outcome_text}
use Rattle.ea_table.specs.Threads.{IsOfRun}
use Rattle.ea_trace.specs.Language.{lines_of}
use Rattle.ea_types.specs.Courses.{IsOwnCourse, lines_for, types_of}
use Rattle.ea_types.specs.Given.{ArePrinted, parts_in}
use Rattle.ea_types.specs.Input.{AreCounted, AreGiven, HaveOneMode, HaveTexts}
use Rattle.ea_types.specs.Language as language
use Rattle.ea_types.specs.Language.{parts_of, traces}
use Rattle.ea_types.specs.Output.{AreOutcomes, IsTypeOutcome, asked_by, asked_for, asked_in}
use Rattle.ea_types.specs.Output.{letters_of, parts_text, part_text}
use Rattle.ea_types.specs.Turning.{Types, complete, own_turns}
use Rattle.ea_types.specs.declared.input.TypedInput.{TypedInput}

-- the runs of the traces, and of those that a definition answers for them, are the same

setups-at : (c : Config) (other : Trace) (ts : List Trace) (x : ℕ)
    → setup_of c (slice_index_or (map plain ts) x other) ≡ setup_of c (slice_index_or ts x other)
setups-at c other [] x = refl
setups-at c other (t ∷ ts) zero = same-setup c t
setups-at c other (t ∷ ts) (suc x) = setups-at c other ts x

abbrev types_by : ℕ → Config → (ℕ → Setup) → List (List ℕ) → Types
types_by count c setups parts = record {
  types = count;
  schedulers = c.schedulers;
  setups = setups;
  lines = lines_for parts;
}

plain-types : (c : Config) (other : Trace) (ts : List Trace) (parts : List (List ℕ))
    → types_of c other (map plain ts) parts ≡ types_of c other ts parts
plain-types c other ts parts =
    ap (λ k. types_by k c (λ x. setup_of c (slice_index_or (map plain ts) x other)) parts)
    (length-map ts plain)
    ∙ ap (λ f. types_by (length ts) c f parts) (fun_ext (λ x. setups-at c other ts x))

-- each trace has the mode of the first one

mode-in : (m : Mode) (ts : List Trace) → AllByRecursion (λ u. plain_mode u.mode ≡ m) ts → (x : ℕ)
    (other : Trace) → x < length ts → (slice_index_or (map plain ts) x other).mode ≡ m
mode-in m [] h x other less = absurd (omega (arith, less))
mode-in m (t ∷ ts) h zero other less = h.0
mode-in m (t ∷ ts) h (suc x) other less = mode-in m ts h.1 x other (omega (arith, less))

pub mode-at : (ts : List Trace) (first : Trace) → slice_get ts 0 ≡ Some first → HaveOneMode ts
    → (x : ℕ) (other : Trace) → x < length ts
    → (slice_index_or (map plain ts) x other).mode ≡ plain_mode first.mode
mode-at [] first e h x other less = absurd (omega (arith, less))
mode-at (t ∷ ts) first e h x other less =
    let same : t ≡ first = cc in
    subst (λ u. (slice_index_or (map plain (t ∷ ts)) x other).mode ≡ plain_mode u.mode) same
    (mode-in (plain_mode t.mode) (t ∷ ts) (refl, recursion_from_All _ ts h) x other less)

outcome-at : (os : List Outcome) (x : ℕ) (d : Outcome) → x < length os
    → slice_index_or (map plain_outcome os) x d ≡ plain_outcome (slice_index_or os x d)
outcome-at [] x d less = absurd (omega (arith, less))
outcome-at (o ∷ os) zero d less = refl
outcome-at (o ∷ os) (suc x) d less = outcome-at os x d (omega (arith, less))

module _ (c : Config) (ts : List Trace) (parts : List (List ℕ)) (first : Trace)
    (found : slice_get ts 0 ≡ Some first) (modes : HaveOneMode ts) where
  -- it is the outcome of a course of type x, in a run of this mode
  abbrev IsOf : Trace → ℕ → Outcome → Types → Mode → Type 0
  IsOf other x o t m = (turns : List ℕ) × IsOwnCourse t m x turns
      × (o ≡ outcome (t.setups x) turns)

  moved : (other : Trace) (x : ℕ) (o : Outcome) (m : Mode) → x < length ts
      → plain_mode first.mode ≡ m → IsOf other x o (types_of c other ts parts) m
      → IsOf other x o (types_of c other (map plain ts) parts)
      (slice_index_or (map plain ts) x other).mode
  moved other x o m less is h =
      subst (IsOf other x o (types_of c other (map plain ts) parts))
      (sym (mode-at ts first found modes x other less ∙ is))
      (subst (λ t. IsOf other x o t m) (sym (plain-types c other ts parts)) h)

  -- by a schedule
  scheduled : (turns : Items Turns) (os : List Outcome) → first.mode ≡ Schedule turns
      → ((other : Trace) → ArePrinted (types_of c other ts parts)
      (complete (types_of c other ts parts)
      (flat_map (λ t. replicate t.count t.scheduler) turns.items)) os)
      → (letters : List Letter)
      → AreOutcomes c (record { letters = letters; traces = map plain ts; parts = parts })
      (map plain_outcome os)
  scheduled turns os is printed letters = record {
    count = length-map os plain_outcome ∙ (printed first).0 ∙ sym (length-map ts plain);
    each = λ x other d less.
        let within : x < length ts = subst (λ k. x < k) (length-map ts plain) less in
        let among : x < length os = subst (λ k. x < k) (sym (printed first).0) within in
        moved other x (slice_index_or (map plain_outcome os) x d) (Schedule (listed turns.items))
        within (ap plain_mode is) (
          own_turns (types_of c other ts parts) x (complete (types_of c other ts parts)
              (flat_map (λ t. replicate t.count t.scheduler) turns.items)),
          refl,
          outcome-at os x d among ∙ (printed other).1 x d within,
        );
  }

  -- by threads

  ran-at : (us : List Trace) (os : List Outcome) → AllZip (IsOfRun c) us os → (x : ℕ)
      (other : Trace) (d : Outcome) → x < length us
      → IsOfRun c (slice_index_or us x other) (slice_index_or os x d)
  ran-at [] os h x other d less = absurd (omega (arith, less))
  ran-at (u ∷ us) [] h x other d less = absurd h
  ran-at (u ∷ us) (o ∷ os) h zero other d less = h.0
  ran-at (u ∷ us) (o ∷ os) h (suc x) other d less = ran-at us os h.1 x other d (omega (arith, less))

  ran-count : (us : List Trace) (os : List Outcome) → AllZip (IsOfRun c) us os
      → length os ≡ length us
  ran-count [] [] h = refl
  ran-count [] (o ∷ os) h = absurd h
  ran-count (u ∷ us) [] h = absurd h
  ran-count (u ∷ us) (o ∷ os) h = ap suc (ran-count us os h.1)

  threaded : (os : List Outcome) → first.mode ≡ Threads → AllZip (IsOfRun c) ts os
      → (letters : List Letter)
      → AreOutcomes c (record { letters = letters; traces = map plain ts; parts = parts })
      (map plain_outcome os)
  threaded os is ran letters = record {
    count = length-map os plain_outcome ∙ ran-count ts os ran ∙ sym (length-map ts plain);
    each = λ x other d less.
        let within : x < length ts = subst (λ k. x < k) (length-map ts plain) less in
        let among : x < length os = subst (λ k. x < k) (sym (ran-count ts os ran)) within in
        let h = ran-at ts os ran x other d within in
        moved other x (slice_index_or (map plain_outcome os) x d) Threads within
        (ap plain_mode is) (
          h.turns,
          (h.steps, h.within, h.rest),
          outcome-at os x d among ∙ h.printed,
        );
  }

-- they are printed of the run by a schedule of these turns
abbrev pub PrintedBy : Config → List Outcome → List Trace → List (List ℕ) → List Turns → Type 0
PrintedBy c os ts parts turns = (other : Trace) → ArePrinted (types_of c other ts parts)
    (complete (types_of c other ts parts) (flat_map (λ t. replicate t.count t.scheduler) turns)) os

pub scheduled-all : (c : Config) (i : TypedInput) (first : Trace) (turns : Items Turns)
    (os : List Outcome) (ts : List Trace) (parts : List (Items ℕ)) (schedule : List Turns)
    → ts ≡ i.traces.items → parts ≡ i.parts.items → schedule ≡ turns.items
    → slice_get ts 0 ≡ Some first → HaveOneMode i.traces.items → first.mode ≡ Schedule turns
    → PrintedBy c os ts (parts_in parts) schedule
    → AreOutcomes c (asked_in i) (map plain_outcome os)
scheduled-all c i first turns os ts parts schedule of_traces of_parts of_turns found modes is
    printed = scheduled c i.traces.items (map (λ part. part.items) i.parts.items) first
    (subst (λ xs. slice_get xs 0 ≡ Some first) of_traces found) modes turns os is
    (subst (λ xs. PrintedBy c os xs (parts_in i.parts.items) turns.items) of_traces
    (subst (λ ps. PrintedBy c os ts (parts_in ps) turns.items) of_parts
    (subst (PrintedBy c os ts (parts_in parts)) of_turns printed))) i.letters.items

pub threaded-all : (c : Config) (i : TypedInput) (first : Trace) (os : List Outcome)
    (ts : List Trace) → ts ≡ i.traces.items → slice_get ts 0 ≡ Some first
    → HaveOneMode i.traces.items → first.mode ≡ Threads → AllZip (IsOfRun c) ts os
    → AreOutcomes c (asked_in i) (map plain_outcome os)
threaded-all c i first os ts of_traces found modes is ran =
    threaded c i.traces.items (map (λ part. part.items) i.parts.items) first
    (subst (λ xs. slice_get xs 0 ≡ Some first) of_traces found) modes os is
    (subst (λ xs. AllZip (IsOfRun c) xs os) of_traces ran) i.letters.items

-- what holds of the first trace

first-of : (P : Trace → Type 0) (ts : List Trace) (first : Trace) → slice_get ts 0 ≡ Some first
    → AllByRecursion P ts → P first
first-of P [] first e h = absurd cc
first-of P (t ∷ ts) first e h = let same : t ≡ first = cc in subst P same h.0

pub first-given : (ts : List Trace) (first : Trace) → slice_get ts 0 ≡ Some first → AreGiven ts
    → (seed count : ℕ) → first.mode ≢ Generated seed count
first-given ts first e h =
    let P : Trace → Type 0 = λ t. (seed count : ℕ) → t.mode ≢ Generated seed count in
    first-of P ts first e (recursion_from_All P ts h)

-- there are lines of each scheduler
pub all-parts : (n : ℕ) (ts : List Trace) (first : Trace) (parts : List (List ℕ))
    → slice_get ts 0 ≡ Some first → HaveTexts n ts → AreCounted ts parts → length parts ≡ n
all-parts n [] first parts e h k = absurd cc
all-parts n (t ∷ ts) first parts e h k =
    sym (length-map parts _)
    ∙ sym (ap length (k 0 t (omega arith)))
    ∙ length-map (texts_of t) length
    ∙ length-map t.texts.items (λ (x : Items Op). x.items)
    ∙ (recursion_from_All (λ u. length u.texts.items ≡ n) (t ∷ ts) h).0

-- an outcome has the text that it has as a definition answers it

same-part : (x : Letter) (o : Outcome) → part_text x (plain_outcome o) ≡ part_text x o
same-part x o = rw (same-logs o) refl

pub same-text : (letters : List Letter) (os : List Outcome)
    → parts_text letters (map plain_outcome os) ≡ parts_text letters os
same-text [] os = refl
same-text (x ∷ xs) [] = refl
same-text (x ∷ xs) (o ∷ os) =
    ap (λ a. a ++ parts_text xs (map plain_outcome os)) (same-part x o)
    ∙ ap (λ b. part_text x o ++ b) (same-text xs os)

-- there are no parts where there are no types, or no outcomes

pub no-letters : (letters : List Letter) (os : List Outcome) → length letters ≡ 0
    → parts_text letters os ≡ []
no-letters [] os e = refl
no-letters (x ∷ xs) os e = absurd (omega (arith, e))

pub no-outcomes : (letters : List Letter) (os : List Outcome) → length os ≡ 0
    → parts_text letters os ≡ []
no-outcomes [] os e = refl
no-outcomes (x ∷ xs) [] e = refl
no-outcomes (x ∷ xs) (o ∷ os) e = absurd (omega (arith, e))

-- an input that was read asks for what it was read as
pub asked-read : (c : Config) (input : List ℕ) (i : TypedInput)
    → traces c input ≡ Ok (map plain i.traces.items)
    → language.types_of (lines_of input) ≡ Some i.letters.items
    → map (λ part. part.items) i.parts.items ≡ parts_of i.letters.items (lines_of input)
    → asked_for c input ≡ Ok (asked_in i)
asked-read c input i given letters parts =
    let ls = lines_of input in
    let ts = map plain i.traces.items in
    ap (λ read. asked_by (letters_of ls) ls read) given
    ∙ ap (λ (l : List Letter). asked_by l ls (Ok ts))
    (ap (λ o. option_map_or (λ (l : List Letter). l) o []) letters)
    ∙ ap (λ p. Ok (record { letters = i.letters.items; traces = ts; parts = p })) (sym parts)
