-- What holds after lines of which none is refused.
use Rattle.std.proofs.Common.{◌≡◌, ℕ, ◌+◌, ◌-◌, ◌*◌, ◌<◌, ◌≤◌, Bool, true, false, ◌||◌, ◌&&◌, not}
use Rattle.std.proofs.Common.{nat_lt, ◌==◌, if◌then◌else◌, List, [], ◌∷◌, ◌++◌, Option, Some, None}
use Rattle.std.proofs.Common.{length, reverse, refl, sym, ap, subst, ◌∙◌, arith, rules, tests}
use Rattle.std.proofs.Common.{append-nil, append_assoc}
use Rattle.std.specs.List.{All, AllByRecursion, count_by, flat_map, list_any, sum_by}
use Rattle.std.proofs.lemmas.Grind.{flat_map-append}
use Rattle.std.proofs.lemmas.List.{length-append}
use Rattle.std.proofs.lemmas.List.Elements.{All-append, All-cons, All-from_recursion, All-nil}
use Rattle.std.proofs.lemmas.List.Elements.{recursion_from_All}
use Rattle.std.proofs.lemmas.List.Sums.{sum_by-append, sum_by-cons}
use Rattle.ea_model.proofs.Splits.{or_false}
use Rattle.ea_model.specs.Trace.{BringsBefore, IsOperation, IsTurns, brings, gives, gives_outside}
use Rattle.ea_model.specs.Trace.{is_outside, makes, needs, text_at, tries_of}
use Rattle.ea_model.specs.declared.operations.Op.{Op}
use Rattle.ea_model.specs.declared.operations.Op.TheVariants.{Alloc, Free, Realloc, Give, Take}
use Rattle.ea_model.specs.declared.operations.Op.TheVariants.{Info, Idle}
use Rattle.ea_model.specs.declared.settings.Letter as Letter
use Rattle.ea_model.specs.declared.trace.Mode.{Mode}
use Rattle.ea_model.specs.declared.trace.Mode.TheVariants as mode
use Rattle.ea_model.specs.declared.trace.Stop.{Stop}
use Rattle.ea_model.specs.declared.trace.Turns as model
use Rattle.ea_model.specs.declared.units.TheConstants.{MAX_ALL_TRIES, MAX_OPS, MAX_SEED, MAX_TURNS}
use Rattle.ea_trace.specs.Language.{Earlier, all_turns, and_last, is_bad_scheduler}
use Rattle.ea_trace.specs.Language.{is_given, is_held, is_made, is_many, is_not_held}
use Rattle.ea_trace.specs.Language.{is_reused, lacks, may_stand, mode_after, operations, refusal}
use Rattle.ea_trace.specs.Language.{reuses, section_operations, sections, stage_after, texts_after}
use Rattle.ea_trace.specs.Language.{no_stops, stops_after, texts_before, turns_after}
use Rattle.ea_trace.specs.Lines.{Said}
use Rattle.ea_trace.specs.Ranges.{HasRanges, InRange, IsCount}
use Rattle.ea_trace.specs.declared.lines.Line.TheVariants.{Skipped, Letter, Section, Operation}
use Rattle.ea_trace.specs.declared.lines.Line.TheVariants as lines
use Rattle.ea_trace.specs.declared.lines.Line.TheVariants.{Threads, Schedule, Turns, Generate, End}
use Rattle.ea_trace.specs.declared.lines.Line.TheVariants.{Unreadable}
use Rattle.ea_trace.specs.declared.stages.Stage.{Stage}
use Rattle.ea_trace.specs.declared.stages.Stage.TheVariants as at
use Rattle.ea_trace.proofs.Turned.{any_turned, brings_more, brings_none, counts_one, each_more}
use Rattle.ea_trace.proofs.Turned.{turned_more}

-- a line that isn't refused passes each test
pub record Passes (n : ℕ) (older : Earlier) (line : Said) : Type 0 where
  pub stands : may_stand n (stage_after older) (sections older) (stops_after older) line ≡ true
  pub good : is_bad_scheduler n (sections older) (stops_after older) line ≡ false
  pub few : is_many n older line ≡ false
  pub fresh : is_reused older line ≡ false
  pub held : is_not_held older line ≡ false

module _ {A : Type 0} where
  pub first_none : (a b c d e : Bool) (f g h i j : A)
      → (if not a then Some f else (if b then Some g else (if c then Some h else (
      if d then Some i else (if e then Some j else None))))) ≡ None
      → (a ≡ true) × (b ≡ false) × (c ≡ false) × (d ≡ false) × (e ≡ false)
  first_none false b c d e f g h i j k = absurd cc
  first_none true true c d e f g h i j k = absurd cc
  first_none true false true d e f g h i j k = absurd cc
  first_none true false false true e f g h i j k = absurd cc
  first_none true false false false true f g h i j k = absurd cc
  first_none true false false false false f g h i j k = (refl, refl, refl, refl, refl)

pub passes : (n : ℕ) (older : Earlier) (line : Said) → refusal n older line ≡ None
    → Passes n older line
passes n older line h =
    let t = first_none (may_stand n (stage_after older) (sections older) (stops_after older) line)
    (is_bad_scheduler n (sections older) (stops_after older) line) (is_many n older line)
    (is_reused older line)
    (is_not_held older line) _ _ _ _ _ h in
    record { stands = t.0; good = t.1; few = t.2; fresh = t.3; held = t.4 }

-- none of the lines is refused, and their numbers are in their ranges
abbrev pub Followed : ℕ → Earlier → Type 0
Followed n [] = Unit {0}
Followed n (line ∷ older) = Followed n older × Passes n older line × InRange line

-- both hold
first-of : (a b c : Bool) (section : ℕ) → ((a && b) || c) ≡ true → c ≡ false → nat_lt 0 section ≡ a
    → 0 < section
first-of true b c section h g e = grind (arith, e)
first-of false b true section h g e = absurd cc
first-of false b false section h g e = absurd cc

-- an operation stands in a section
begun : (n : ℕ) (stage : Stage) (section : ℕ) (ss : List Stop) (op : Op)
    → may_stand n stage section ss (Operation op)
    ≡ true → gives_outside n op ≡ false → 0 < section
begun n at.Start section ss op h g = absurd cc
begun n at.Opening section ss op h g =
    first-of (nat_lt 0 section) (no_stops ss) (gives_outside n op) section h g refl
begun n at.Turns section ss op h g = absurd cc
begun n at.Closing section ss op h g = absurd cc
begun n at.Ended section ss op h g = absurd cc

-- before its mode is said, a trace is in its opening part
abbrev pub Early : Stage → Option Mode → Type 0
Early at.Start mode = mode ≡ None
Early at.Opening mode = mode ≡ None
Early stage mode = Unit {0}

-- how many of n sections have begun, under the mode that was said
abbrev pub Fits : ℕ → ℕ → Option Mode → Type 0
Fits n section None = section ≤ n
Fits n section (Some mode.Threads) = section ≡ n
Fits n section (Some (mode.Schedule turns)) = section ≡ n
Fits n section (Some (mode.Generated seed count)) = (section ≡ 0) × (seed ≤ MAX_SEED) × (1 ≤ count)
    × (n * count ≤ MAX_OPS)

early_letter : (n : ℕ) (stage : Stage) (section : ℕ) (ss : List Stop) (m : Option Mode)
    (l : Letter.Letter)
    → may_stand n stage section ss (Letter l) ≡ true → Early stage m → m ≡ None
early_letter n at.Start section ss m l h e = e
early_letter n at.Opening section ss m l h e = e
early_letter n at.Turns section ss m l h e = absurd cc
early_letter n at.Closing section ss m l h e = absurd cc
early_letter n at.Ended section ss m l h e = absurd cc

early_section : (n : ℕ) (stage : Stage) (section : ℕ) (ss : List Stop) (m : Option Mode) (k : ℕ)
    → may_stand n stage section ss (Section k) ≡ true → Early stage m → m ≡ None
early_section n at.Start section ss m k h e = absurd cc
early_section n at.Opening section ss m k h e = e
early_section n at.Turns section ss m k h e = absurd cc
early_section n at.Closing section ss m k h e = absurd cc
early_section n at.Ended section ss m k h e = absurd cc

early_threads : (n : ℕ) (stage : Stage) (section : ℕ) (ss : List Stop) (m : Option Mode)
    → may_stand n stage section ss Threads ≡ true → Early stage m → m ≡ None
early_threads n at.Start section ss m h e = absurd cc
early_threads n at.Opening section ss m h e = e
early_threads n at.Turns section ss m h e = absurd cc
early_threads n at.Closing section ss m h e = absurd cc
early_threads n at.Ended section ss m h e = absurd cc

early_schedule : (n : ℕ) (stage : Stage) (section : ℕ) (ss : List Stop) (m : Option Mode)
    → may_stand n stage section ss Schedule ≡ true → Early stage m → m ≡ None
early_schedule n at.Start section ss m h e = absurd cc
early_schedule n at.Opening section ss m h e = e
early_schedule n at.Turns section ss m h e = absurd cc
early_schedule n at.Closing section ss m h e = absurd cc
early_schedule n at.Ended section ss m h e = absurd cc

no_section : (n : ℕ) (stage : Stage) (section : ℕ) (ss : List Stop) (seed count : ℕ)
    → may_stand n stage section ss (Generate seed count) ≡ true → section ≡ 0
no_section n at.Start section ss seed count h = absurd cc
no_section n at.Opening section ss seed count h = grind arith
no_section n at.Turns section ss seed count h = absurd cc
no_section n at.Closing section ss seed count h = absurd cc
no_section n at.Ended section ss seed count h = absurd cc

due : (n section number : ℕ) (ss : List Stop) → is_bad_scheduler n section ss (Section number)
    ≡ false
    → section + 1 ≤ n
due n section number ss h = grind arith

all_begun : (n section : ℕ) → nat_lt section n ≡ false → section ≤ n → section ≡ n
all_begun n section h le = grind arith

few_made : (n count : ℕ) → nat_lt MAX_OPS (n * count) ≡ false → n * count ≤ MAX_OPS
few_made n count h = search (rules, tests)

none_yet : (n section : ℕ) (m : Option Mode) → m ≡ None → Fits n section m → section ≤ n
none_yet n section m e f = subst (Fits n section) e f

pub record Stays (n : ℕ) (lines : Earlier) : Type 0 where
  pub early : Early (stage_after lines) (mode_after lines)
  pub fits : Fits n (sections lines) (mode_after lines)

pub stays : (n : ℕ) (lines : Earlier) → Followed n lines → Stays n lines
stays n [] f = record { early = refl; fits = omega arith }
stays n (Skipped ∷ older) f = let h = stays n older f.0 in record { early = h.early; fits = h.fits }
stays n (Letter l ∷ older) f =
    let h = stays n older f.0 in
    record {
      early = early_letter n (stage_after older) (sections older) (stops_after older)
          (mode_after older) l f.1.stands h.early;
      fits = h.fits;
    }
stays n (Section k ∷ older) f =
    let h = stays n older f.0 in
    let none = early_section n (stage_after older) (sections older) (stops_after older)
    (mode_after older) k f.1.stands h.early in
    record {
      early = h.early;
      fits = subst (Fits n (sections older + 1)) (sym none)
          (due n (sections older) k (stops_after older) f.1.good);
    }
stays n (Operation op ∷ older) f =
    let h = stays n older f.0 in record { early = h.early; fits = h.fits }
stays n (lines.Stop stop ∷ older) f =
    let h = stays n older f.0 in record { early = h.early; fits = h.fits }
stays n (Threads ∷ older) f =
    let h = stays n older f.0 in
    let none = early_threads n (stage_after older) (sections older) (stops_after older)
    (mode_after older) f.1.stands h.early in
    record {
      early = tt;
      fits = all_begun n (sections older) f.1.good
          (none_yet n (sections older) (mode_after older) none h.fits);
    }
stays n (Schedule ∷ older) f =
    let h = stays n older f.0 in
    let none = early_schedule n (stage_after older) (sections older) (stops_after older)
    (mode_after older) f.1.stands h.early in
    record {
      early = tt;
      fits = all_begun n (sections older) f.1.good
          (none_yet n (sections older) (mode_after older) none h.fits);
    }
stays n (Turns ts ∷ older) f =
    let h = stays n older f.0 in record { early = h.early; fits = h.fits }
stays n (Generate seed count ∷ older) f =
    record {
      early = tt;
      fits = (
        no_section n (stage_after older)
            (sections older) (stops_after older) seed count f.1.stands,
        f.2.0,
        f.2.1,
        few_made n count f.1.few,
      );
    }
stays n (End ∷ older) f = let h = stays n older f.0 in record { early = tt; fits = h.fits }
stays n (Unreadable ∷ older) f =
    let h = stays n older f.0 in record { early = h.early; fits = h.fits }

-- the texts so far

abbrev pub all_of : List (List Op) → List Op
all_of texts = flat_map (λ text. text) texts

last_cases : (b : Bool) (texts : List (List Op)) (last : List Op) → (b ≡ false → last ≡ [])
    → all_of (if b then texts ++ last ∷ [] else texts) ≡ all_of texts ++ last
last_cases true texts last h = flat_map-append (λ text. text) texts (last ∷ [])
    ∙ ap (λ xs. all_of texts ++ xs) (append-nil last)
last_cases false texts last h = sym (append-nil (all_of texts))
    ∙ ap (λ xs. all_of texts ++ xs) (sym (h refl))

nothing_begun : (section : ℕ) → nat_lt 0 section ≡ false → section ≡ 0
nothing_begun section h = grind arith

some_begun : (section : ℕ) → nat_lt 0 section ≡ true → 0 < section
some_begun section h = search (rules, tests)

length_of : (b : Bool) (section : ℕ) (texts : List (List Op)) (last : List Op)
    → nat_lt 0 section ≡ b → length texts ≡ section - 1
    → length (if b then texts ++ last ∷ [] else texts) ≡ section
length_of true section texts last e h =
    let k = some_begun section e in omega (arith, length-append texts (last ∷ []))
length_of false section texts last e h = let k = nothing_begun section e in omega arith

pub length_cases : (section : ℕ) (texts : List (List Op)) (last : List Op)
    → length texts ≡ section - 1 → length (and_last section texts last) ≡ section
length_cases section texts last h = length_of (nat_lt 0 section) section texts last refl h

pub record Laid (lines : Earlier) : Type 0 where
  pub all : all_of (texts_before lines) ++ reverse (section_operations lines)
      ≡ reverse (operations lines)
  pub none : sections lines ≡ 0 → section_operations lines ≡ []
  pub count : length (texts_before lines) ≡ sections lines - 1

pub laid_last : (lines : Earlier) → Laid lines → all_of (texts_after lines)
    ≡ reverse (operations lines)
laid_last lines h = last_cases (nat_lt 0 (sections lines)) (texts_before lines)
    (reverse (section_operations lines)) (λ e. ap reverse
    (h.none (nothing_begun (sections lines) e))) ∙ h.all

laid_section : (k : ℕ) (older : Earlier) → Laid older → Laid (Section k ∷ older)
laid_section k older h = record {
  all = append-nil (all_of (texts_after older)) ∙ laid_last older h;
  none = λ e. refl;
  count = length_cases (sections older) (texts_before older)
      (reverse (section_operations older)) h.count ∙ omega arith;
}

laid_operation : (op : Op) (older : Earlier) → 0 < sections older → Laid older
    → Laid (Operation op ∷ older)
laid_operation op older begun h = record {
  all = ap (λ xs. all_of (texts_before older) ++ xs) (turned_more op (section_operations older))
      ∙ sym (append_assoc (all_of (texts_before older)) (reverse (section_operations older))
      (op ∷ []))
      ∙ ap (λ xs. xs ++ op ∷ []) h.all ∙ sym (turned_more op (operations older));
  none = λ e. absurd (omega arith);
  count = h.count;
}

pub laid : (n : ℕ) (lines : Earlier) → Followed n lines → Laid lines
laid n [] f = record { all = refl; none = λ e. refl; count = refl }
laid n (Skipped ∷ older) f =
    let h = laid n older f.0 in record { all = h.all; none = h.none; count = h.count }
laid n (Letter l ∷ older) f =
    let h = laid n older f.0 in record { all = h.all; none = h.none; count = h.count }
laid n (Section k ∷ older) f = laid_section k older (laid n older f.0)
laid n (Operation op ∷ older) f = laid_operation op older
    (begun n (stage_after older) (sections older) (stops_after older) op f.1.stands f.1.good)
    (laid n older f.0)
laid n (lines.Stop stop ∷ older) f =
    let h = laid n older f.0 in record { all = h.all; none = h.none; count = h.count }
laid n (Threads ∷ older) f =
    let h = laid n older f.0 in record { all = h.all; none = h.none; count = h.count }
laid n (Schedule ∷ older) f =
    let h = laid n older f.0 in record { all = h.all; none = h.none; count = h.count }
laid n (Turns ts ∷ older) f =
    let h = laid n older f.0 in record { all = h.all; none = h.none; count = h.count }
laid n (Generate seed count ∷ older) f =
    let h = laid n older f.0 in record { all = h.all; none = h.none; count = h.count }
laid n (End ∷ older) f =
    let h = laid n older f.0 in record { all = h.all; none = h.none; count = h.count }
laid n (Unreadable ∷ older) f =
    let h = laid n older f.0 in record { all = h.all; none = h.none; count = h.count }

-- each name that an operation of a text needs was brought by an earlier one

abbrev Needed : Earlier → Op → Type 0
Needed older op = (name : ℕ) → needs name op ≡ true → is_held name older ≡ true

same_name : (P : ℕ → Bool) (k name : ℕ) → (k == name) ≡ true → not (P name) ≡ false → P k ≡ true
same_name P k name e h = grind arith

needed : (older : Earlier) (op : Op) → lacks older op ≡ false → Needed older op
needed older (Alloc name bytes) h = λ k e. absurd cc
needed older (Free name) h = λ k e. same_name (λ j. is_held j older) k name e h
needed older (Realloc old fresh bytes) h = λ k e. same_name (λ j. is_held j older) k old e h
needed older (Give name to) h = λ k e. same_name (λ j. is_held j older) k name e h
needed older (Take name tries) h = λ k e. absurd cc
needed older Info h = λ k e. absurd cc
needed older Idle h = λ k e. absurd cc

pub brought : (n : ℕ) (lines : Earlier) → Followed n lines
    → BringsBefore (reverse (section_operations lines))
brought n [] f = brings_none
brought n (Skipped ∷ older) f = brought n older f.0
brought n (Letter l ∷ older) f = brought n older f.0
brought n (Section k ∷ older) f = brings_none
brought n (Operation op ∷ older) f = subst BringsBefore
    (sym (turned_more op (section_operations older)))
    (brings_more (reverse (section_operations older)) op (brought n older f.0)
    (λ name e. any_turned (brings name) (section_operations older)
    ∙ needed older op f.1.held name e))
brought n (lines.Stop stop ∷ older) f = brought n older f.0
brought n (Threads ∷ older) f = brought n older f.0
brought n (Schedule ∷ older) f = brought n older f.0
brought n (Turns ts ∷ older) f = brought n older f.0
brought n (Generate seed count ∷ older) f = brought n older f.0
brought n (End ∷ older) f = brought n older f.0
brought n (Unreadable ∷ older) f = brought n older f.0

-- what holds of each text, with the last one
pub each_last : (P : ℕ → List Op → Type 0) (section : ℕ) (texts : List (List Op)) (last : List Op)
    → length texts ≡ section - 1 → ((i : ℕ) → P i []) → ((i : ℕ) → P i (text_at i texts))
    → (0 < section → P (section - 1) last) → (i : ℕ) → P i (text_at i (and_last section texts last))
each_last P section texts last e none h k = each_of (nat_lt 0 section) refl
  where
    each_of : (b : Bool) → nat_lt 0 section ≡ b → (i : ℕ)
        → P i (text_at i (if b then texts ++ last ∷ [] else texts))
    each_of true t = each_more P texts last none h (subst (λ j. P j last) (sym e)
        (k (some_begun section t)))
    each_of false t = h

pub brought_before : (n : ℕ) (lines : Earlier) → Followed n lines → (i : ℕ)
    → BringsBefore (text_at i (texts_before lines))
brought_before n [] f i = brings_none
brought_before n (Skipped ∷ older) f i = brought_before n older f.0 i
brought_before n (Letter l ∷ older) f i = brought_before n older f.0 i
brought_before n (Section k ∷ older) f i = each_last (λ j text. BringsBefore text) (sections older)
    (texts_before older) (reverse (section_operations older)) (laid n older f.0).count
    (λ j. brings_none)
    (brought_before n older f.0) (λ b. brought n older f.0) i
brought_before n (Operation op ∷ older) f i = brought_before n older f.0 i
brought_before n (lines.Stop stop ∷ older) f i = brought_before n older f.0 i
brought_before n (Threads ∷ older) f i = brought_before n older f.0 i
brought_before n (Schedule ∷ older) f i = brought_before n older f.0 i
brought_before n (Turns ts ∷ older) f i = brought_before n older f.0 i
brought_before n (Generate seed count ∷ older) f i = brought_before n older f.0 i
brought_before n (End ∷ older) f i = brought_before n older f.0 i
brought_before n (Unreadable ∷ older) f i = brought_before n older f.0 i

pub brought_each : (n : ℕ) (lines : Earlier) → Followed n lines → (i : ℕ)
    → BringsBefore (text_at i (texts_after lines))
brought_each n lines f i = each_last (λ j text. BringsBefore text) (sections lines)
    (texts_before lines) (reverse (section_operations lines)) (laid n lines f).count
    (λ j. brings_none)
    (brought_before n lines f) (λ b. brought n lines f) i

-- a name is made once at most, and given once at most

pub same_number : (k j : ℕ) → (k == j) ≡ true → k ≡ j
same_number k j e = grind arith

first_part : (a b : Bool) → (a || b) ≡ false → a ≡ false
first_part true b h = absurd cc
first_part false b h = refl

other_name : (P : ℕ → Bool) (k j : ℕ) → (k == j) ≡ true → P j ≡ false → P k ≡ false
other_name P k j e h = subst (λ i. P i ≡ false) (sym (same_number k j e)) h

made_fresh : (older : Earlier) (op : Op) → reuses older op ≡ false → (k : ℕ) → makes k op ≡ true
    → is_made k older ≡ false
made_fresh older (Alloc name bytes) h k e = other_name (λ j. is_made j older) k name e h
made_fresh older (Free name) h k e = absurd cc
made_fresh older (Realloc old fresh bytes) h k e = other_name (λ j. is_made j older) k fresh e
    (first_part (is_made fresh older) ((old == fresh) && is_held old older) h)
made_fresh older (Give name to) h k e = absurd cc
made_fresh older (Take name tries) h k e = absurd cc
made_fresh older Info h k e = absurd cc
made_fresh older Idle h k e = absurd cc

given_fresh : (older : Earlier) (op : Op) → reuses older op ≡ false → (k : ℕ) → gives k op ≡ true
    → is_given k older ≡ false
given_fresh older (Alloc name bytes) h k e = absurd cc
given_fresh older (Free name) h k e = absurd cc
given_fresh older (Realloc old fresh bytes) h k e = absurd cc
given_fresh older (Give name to) h k e = other_name (λ j. is_given j older) k name e h
given_fresh older (Take name tries) h k e = absurd cc
given_fresh older Info h k e = absurd cc
given_fresh older Idle h k e = absurd cc

-- the numbers of an operation

somebody : (n to : ℕ) → is_outside n to ≡ false → (1 ≤ to) × (to ≤ n)
somebody n to h = (grind arith, grind arith)

operation_good : (n : ℕ) (op : Op) → HasRanges op → gives_outside n op ≡ false → IsOperation n op
operation_good n (Alloc name bytes) r g = r
operation_good n (Free name) r g = r
operation_good n (Realloc old fresh bytes) r g = r
operation_good n (Give name to) r g = (r, somebody n to g)
operation_good n (Take name tries) r g = r
operation_good n Info r g = tt
operation_good n Idle r g = tt

few_operations : (count tries more : ℕ)
    → (nat_lt MAX_OPS (count + 1) || nat_lt MAX_ALL_TRIES (tries + more)) ≡ false
    → (count + 1 ≤ MAX_OPS) × (tries + more ≤ MAX_ALL_TRIES)
few_operations count tries more h = (grind arith, grind arith)

-- what is counted over all operations
pub record Counts (n : ℕ) (lines : Earlier) : Type 0 where
  pub good : All (IsOperation n) (operations lines)
  pub few : length (operations lines) ≤ MAX_OPS
  pub tries : sum_by tries_of (operations lines) ≤ MAX_ALL_TRIES
  pub made_once : (name : ℕ) → count_by (makes name) (operations lines) ≤ 1
  pub given_once : (name : ℕ) → count_by (gives name) (operations lines) ≤ 1

same_counts : (n : ℕ) (lines older : Earlier) → operations lines ≡ operations older → Counts n older
    → Counts n lines
same_counts n lines older e h = record {
  good = subst (All (IsOperation n)) (sym e) h.good;
  few = omega (arith, ap length e, h.few);
  tries = omega (arith, ap (sum_by tries_of) e, h.tries);
  made_once = λ name. omega (arith, ap (count_by (makes name)) e, h.made_once name);
  given_once = λ name. omega (arith, ap (count_by (gives name)) e, h.given_once name);
}

counts_more : (n : ℕ) (op : Op) (older : Earlier) → Passes n older (Operation op) → HasRanges op
    → Counts n older → Counts n (Operation op ∷ older)
counts_more n op older p r h =
    let few = few_operations (length (operations older)) (sum_by tries_of (operations older))
    (tries_of op) p.few in
    record {
      good = All-cons (IsOperation n) op (operations older) (operation_good n op r p.good) h.good;
      few = omega (arith, few.0);
      tries = omega (arith, few.1, sum_by-cons tries_of op (operations older));
      made_once = λ name. counts_one (makes name) op (operations older) (h.made_once name)
          (made_fresh older op p.fresh name);
      given_once = λ name. counts_one (gives name) op (operations older) (h.given_once name)
          (given_fresh older op p.fresh name);
    }

pub counts : (n : ℕ) (lines : Earlier) → Followed n lines → Counts n lines
counts n [] f = record {
  good = All-nil (IsOperation n);
  few = omega arith;
  tries = omega arith;
  made_once = λ name. omega arith;
  given_once = λ name. omega arith;
}
counts n (Skipped ∷ older) f = same_counts n (Skipped ∷ older) older refl (counts n older f.0)
counts n (Letter l ∷ older) f = same_counts n (Letter l ∷ older) older refl (counts n older f.0)
counts n (Section k ∷ older) f = same_counts n (Section k ∷ older) older refl (counts n older f.0)
counts n (Operation op ∷ older) f = counts_more n op older f.1 f.2 (counts n older f.0)
counts n (lines.Stop stop ∷ older) f =
    same_counts n (lines.Stop stop ∷ older) older refl (counts n older f.0)
counts n (Threads ∷ older) f = same_counts n (Threads ∷ older) older refl (counts n older f.0)
counts n (Schedule ∷ older) f = same_counts n (Schedule ∷ older) older refl (counts n older f.0)
counts n (Turns ts ∷ older) f = same_counts n (Turns ts ∷ older) older refl (counts n older f.0)
counts n (Generate seed count ∷ older) f = same_counts n (Generate seed count ∷ older) older refl
    (counts n older f.0)
counts n (End ∷ older) f = same_counts n (End ∷ older) older refl (counts n older f.0)
counts n (Unreadable ∷ older) f = same_counts n (Unreadable ∷ older) older refl (counts n older f.0)

-- turns

turns_good : (n : ℕ) (ts : List model.Turns) → list_any (λ t. is_outside n t.scheduler) ts ≡ false
    → All IsCount ts → All (IsTurns n) ts
turns_good n ts h c = All-from_recursion (IsTurns n) ts
    (each_good ts h (recursion_from_All IsCount ts c))
  where
    each_good : (us : List model.Turns) → list_any (λ t. is_outside n t.scheduler) us ≡ false
        → AllByRecursion IsCount us → AllByRecursion (IsTurns n) us
    each_good [] e a = tt
    each_good (u ∷ us) e a =
        let parts = or_false (is_outside n u.scheduler)
        (list_any (λ t. is_outside n t.scheduler) us) e in
        ((somebody n u.scheduler parts.0, a.0.0, a.0.1), each_good us parts.1 a.1)

pub record GoodTurns (n : ℕ) (ts : List model.Turns) : Type 0 where
  pub good : All (IsTurns n) ts
  pub few : all_turns ts ≤ MAX_TURNS

few_turns : (so_far more : ℕ) → nat_lt MAX_TURNS (so_far + more) ≡ false → so_far + more ≤ MAX_TURNS
few_turns so_far more h = search (rules, tests)

turns_more : (n : ℕ) (ts : List model.Turns) (older : Earlier) → Passes n older (Turns ts)
    → All IsCount ts → GoodTurns n (turns_after older) → GoodTurns n (turns_after older ++ ts)
turns_more n ts older p c h = record {
  good = All-append (IsTurns n) (turns_after older) ts h.good (turns_good n ts p.good c);
  few = omega (
    arith,
    sum_by-append (λ t. t.count) (turns_after older) ts,
    few_turns (all_turns (turns_after older)) (all_turns ts) p.few,
  );
}

pub turns_all : (n : ℕ) (lines : Earlier) → Followed n lines → GoodTurns n (turns_after lines)
turns_all n [] f = record { good = All-nil (IsTurns n); few = omega arith }
turns_all n (Skipped ∷ older) f = turns_all n older f.0
turns_all n (Letter l ∷ older) f = turns_all n older f.0
turns_all n (Section k ∷ older) f = turns_all n older f.0
turns_all n (Operation op ∷ older) f = turns_all n older f.0
turns_all n (lines.Stop stop ∷ older) f = turns_all n older f.0
turns_all n (Threads ∷ older) f = turns_all n older f.0
turns_all n (Schedule ∷ older) f = turns_all n older f.0
turns_all n (Turns ts ∷ older) f = turns_more n ts older f.1 f.2 (turns_all n older f.0)
turns_all n (Generate seed count ∷ older) f = turns_all n older f.0
turns_all n (End ∷ older) f = turns_all n older f.0
turns_all n (Unreadable ∷ older) f = turns_all n older f.0
