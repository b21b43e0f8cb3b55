-- The lines of the trace: each is said, and they make a trace with a schedule and without stops.
use Rattle.std.proofs.Common.{◌≡◌, ◌≢◌, ℕ, zero, suc, ◌+◌, ◌<◌, ◌≤◌, ◌==◌, ◌&&◌, Bool, true, false, List}
use Rattle.std.proofs.Common.{[], ◌∷◌, ◌++◌, Option, Some, None, Ok, Err, length, map, refl, sym, ap}
use Rattle.std.proofs.Common.{subst, ◌∙◌, arith, inl, inr}
use Rattle.std.proofs.lemmas.Bool.{cases_eq}
use Rattle.std.proofs.lemmas.List.{append_assoc, append-nil, length-map, map-append}
use Rattle.std.specs.Prelude.{All, IfOk, Result, filter, get_or, take}
use Rattle.std.specs.Fmt.{digits}
use Rattle.std.specs.List.{find}
use Rattle.std.proofs.lemmas.List.{get_or-map, take_more}
use Rattle.std.proofs.lemmas.List.Elements.{All-append, All-cons, All-get_or, All-head, All-nil}
use Rattle.std.proofs.lemmas.List.Elements.{All-tail, filter-append}
use Rattle.ea_model.specs.declared.operations.Op.{Op}
use Rattle.ea_model.specs.declared.operations.Op.TheVariants.{Info}
use Rattle.ea_model.specs.declared.settings.Letter.{Letter}
use Rattle.ea_model.specs.declared.settings.Letter.TheVariants.{B, D, E, H, L, R, S, T}
use Rattle.ea_model.specs.declared.trace.Mode.{Mode}
use Rattle.ea_model.specs.declared.trace.Mode.TheVariants as mode
use Rattle.ea_model.specs.declared.trace.Trace.{Trace}
use Rattle.ea_model.specs.declared.trace.Turns.{Turns}
use Rattle.ea_model.specs.Lists.{Items}
use Rattle.ea_model.specs.Trace.{HasTexts, IsValidTrace, listed, plain, plain_mode, texts_of}
use Rattle.ea_trace.specs.Language.{Answer, Gives, addressed_or, at_end, is_unaddressed}
use Rattle.ea_trace.specs.Language.{letter_after, mode_after, read_after, refusal, refused_or}
use Rattle.ea_trace.specs.Language.{stage_after, stops_after, takes_in, trace_from, trace_of}
use Rattle.ea_trace.specs.Language.{turns_after, with_turns}
use Rattle.ea_trace.specs.Lines.{Said, line_of_words, type_line}
use Rattle.ea_trace.specs.declared.fault.TraceFault.{TraceFault}
use Rattle.ea_trace.specs.declared.lines.Line.TheVariants as said
use Rattle.ea_trace.specs.declared.stages.Stage.{Stage}
use Rattle.ea_trace.specs.declared.stages.Stage.TheVariants as at
use Rattle.ea_trace.specs.declared.takes.TakeLine.{TakeLine}
use Rattle.ea_trace.specs.Ranges.{HasRanges}
use Rattle.ea_recorded.specs.Language.{Placed, Told, answer_in, end_line, is_of, own_of, placed}
use Rattle.ea_recorded.specs.Language.{schedule_line, section, section_line, sections, trace_lines}
use Rattle.ea_recorded.specs.Language.{unplaced, words_of}
use Rattle.ea_recorded.specs.Told.{AreTold, IsInRange, IsSaid}
use Rattle.ea_recorded.specs.declared.lines.OwnLine.{OwnLine}

-- what the lines say that aren't in the input

pub type-said : (x : Letter) → said.Letter x ≡ line_of_words (type_line x)
type-said B = refl
type-said D = refl
type-said E = refl
type-said H = refl
type-said L = refl
type-said R = refl
type-said S = refl
type-said T = refl

abbrev is_section : ℕ → Said → Bool
is_section me (said.Section number) = number == me
is_section me other = false

-- each of so many numbers is said as that section
abbrev all_said : ℕ → ℕ → Bool
all_said low zero = true
all_said low (suc count) = is_section low (line_of_words (section_line low))
    && all_said (suc low) count

said-all : all_said 0 65 ≡ true
unfolding digits
said-all = refl

both-left : (a b : Bool) → (a && b) ≡ true → a ≡ true
both-left true b e = refl
both-left false b e = absurd cc

both-right : (a b : Bool) → (a && b) ≡ true → b ≡ true
both-right true b e = e
both-right false b e = absurd cc

said-each : (low count me : ℕ) → all_said low count ≡ true → low ≤ me → me < low + count
    → is_section me (line_of_words (section_line me)) ≡ true
said-each low zero me all from to = absurd (omega (arith, from, to))
said-each low (suc count) me all from to =
    let here = is_section low (line_of_words (section_line low)) in
    let rest = all_said (suc low) count in
    elim (cases_eq low me) [
      | inl same ↦ subst (λ i. is_section i (line_of_words (section_line i)) ≡ true) same
          (both-left here rest all)
      | inr other ↦ said-each (suc low) count me (both-right here rest all)
          (omega (arith, from, other)) (omega (arith, to))
    ]

same-number : (k j : ℕ) → (k == j) ≡ true → k ≡ j
same-number k j e = grind arith

section-is : (me : ℕ) (s : Said) → is_section me s ≡ true → said.Section me ≡ s
section-is me (said.Section number) e = ap said.Section (sym (same-number number me e))
section-is me said.Skipped e = absurd cc
section-is me (said.Letter x) e = absurd cc
section-is me (said.Operation op) e = absurd cc
section-is me (said.Stop stop) e = absurd cc
section-is me said.Threads e = absurd cc
section-is me said.Schedule e = absurd cc
section-is me (said.Turns turns) e = absurd cc
section-is me (said.Generate seed count) e = absurd cc
section-is me said.End e = absurd cc
section-is me said.Unreadable e = absurd cc

pub section-said : (me : ℕ) → me ≤ 64 → said.Section me ≡ line_of_words (section_line me)
section-said me few = section-is me (line_of_words (section_line me))
    (said-each 0 65 me said-all (omega arith) (omega (arith, few)))

-- the lines of a section

abbrev pub nobody : Told
nobody = record { own = record { number = 0; scheduler = 0; op = Info }; words = [] }

-- the lines of a scheduler up to a place
abbrev pub own_upto : ℕ → ℕ → List Told → List Placed
own_upto me k told = own_of me (take k told)

module _ (told : List Told) (lines : List OwnLine) (are : AreTold told lines) (k : ℕ)
    (below : k < length lines) where
  abbrev pub at_place : Told
  at_place = get_or told k nobody

  within : k < length told
  within = omega (arith, below, ap length are.own, length-map told (λ (t : Told). t.own))

  pub own-is : (d : OwnLine) → get_or lines k d ≡ at_place.own
  own-is d = ap (λ ls. get_or ls k d) are.own
      ∙ get_or-map (λ (t : Told). t.own) told k nobody d within

  pub own-said : IsSaid at_place
  own-said = All-get_or IsSaid told k nobody within are.said

  pub own-range : (d : OwnLine) → HasRanges (get_or lines k d).op
  own-range d = All-get_or IsInRange lines k d below are.ranges

  pub own-more : (me : ℕ)
      → own_upto me (k + 1) told ≡ own_upto me k told ++ own_of me (at_place ∷ [])
  own-more me = ap (λ ts. map placed (filter (is_of me) ts)) (take_more told k nobody within)
      ∙ ap (map placed) (filter-append (is_of me) (take k told) (at_place ∷ []))
      ∙ map-append placed (filter (is_of me) (take k told)) (filter (is_of me) (at_place ∷ []))

-- one line, which is the scheduler's or not
pub own-one : (me : ℕ) (t : Told) → (t.own.scheduler == me) ≡ true
    → own_of me (t ∷ []) ≡ placed t ∷ []
own-one me t e = rw e refl

pub own-none : (me : ℕ) (t : Told) → (t.own.scheduler == me) ≡ false → own_of me (t ∷ []) ≡ []
own-none me t e = rw e refl

-- one section more
no-more : (me : ℕ) → me ≡ me + 0
no-more me = omega arith

one-later : (me count : ℕ) → suc me + count ≡ me + suc count
one-later me count = omega arith

sections-by : (count me : ℕ) (told : List Told)
    → sections (suc count) me told ≡ sections count me told ++ section (me + count) told
sections-by zero me told = append-nil (section me told) ∙ ap (λ i. section i told) (no-more me)
sections-by (suc count) me told =
    ap (λ ls. section me told ++ ls) (sections-by count (suc me) told)
    ∙ sym (append_assoc (section me told) (sections count (suc me) told)
    (section (suc me + count) told))
    ∙ ap (λ i. (section me told ++ sections count (suc me) told) ++ section i told)
    (one-later me count)

next-count : (count : ℕ) → count + 1 ≡ suc count
next-count count = omega arith

pub sections-more : (count me : ℕ) (told : List Told)
    → sections (count + 1) me told ≡ sections count me told ++ section (me + count) told
sections-more count me told = ap (λ n. sections n me told) (next-count count)
    ∙ sections-by count me told

turned-sum : (k : ℕ) → k + 1 ≡ 1 + k
turned-sum k = omega arith

pub front-more : (x : Letter) (k : ℕ) (told : List Told)
    → (unplaced (type_line x) ∷ sections k 1 told) ++ section (k + 1) told
    ≡ unplaced (type_line x) ∷ sections (k + 1) 1 told
front-more x k told = ap (λ i. unplaced (type_line x) ∷ (sections k 1 told ++ section i told))
    (turned-sum k) ∙ ap (λ ls. unplaced (type_line x) ∷ ls) (sym (sections-more k 1 told))

-- the trace that lines give

-- the lines after some, newest first
abbrev pub all_lines : List Said → List Said → List Said
all_lines earlier [] = earlier
all_lines earlier (l ∷ ls) = all_lines (l ∷ earlier) ls

-- the mode and the stops of a trace are those of its lines
pub record HasMode (lines : List Said) (t : Trace) : Type 0 where
  pub mode : Mode
  pub is : mode_after lines ≡ Some mode
  pub same : t.mode ≡ with_turns (turns_after lines) mode
  pub stops : t.stops ≡ listed (stops_after lines)

addressed-is : (found : Option TakeLine) (t u : Trace) → addressed_or found t ≡ Ok u → t ≡ u
addressed-is None t u e = cc
addressed-is (Some take) t u e = absurd cc

end-mode : (stage : Stage) (letter : Option Letter) (m : Option Mode) (lines : List Said)
    (t : Trace) → mode_after lines ≡ m → at_end stage letter m lines ≡ Ok t → HasMode lines t
end-mode at.Start letter m lines t e h = absurd cc
end-mode at.Opening letter m lines t e h = absurd cc
end-mode at.Turns letter m lines t e h = absurd cc
end-mode at.Closing letter m lines t e h = absurd cc
end-mode at.Ended None m lines t e h = absurd cc
end-mode at.Ended (Some letter) None lines t e h = absurd cc
end-mode at.Ended (Some letter) (Some m) lines t e h = record {
  mode = m;
  is = e;
  same = sym (ap (λ u. u.mode) (addressed-is (find (is_unaddressed lines) (takes_in lines))
      (trace_from letter m lines) t h));
  stops = sym (ap (λ u. u.stops) (addressed-is (find (is_unaddressed lines) (takes_in lines))
      (trace_from letter m lines) t h));
}

not-refused : (found : Option TraceFault) (read : Answer) (t : Trace)
    → refused_or found read ≡ Ok t → read ≡ Ok t
not-refused None read t h = h
not-refused (Some fault) read t h = absurd cc

read-mode : (n : ℕ) (earlier later : List Said) (t : Trace) → read_after n earlier later ≡ Ok t
    → HasMode (all_lines earlier later) t
read-mode n earlier [] t h = end-mode (stage_after earlier) (letter_after earlier)
    (mode_after earlier) earlier t refl h
read-mode n earlier (l ∷ later) t h = read-mode n (l ∷ earlier) later t
    (not-refused (refusal n earlier l) (read_after n (l ∷ earlier) later) t h)

-- a line that is no stop
abbrev IsOn : Said → Type 0
IsOn l = (older : List Said) → stops_after (l ∷ older) ≡ stops_after older

-- lines of which none is a stop
abbrev AreOn : List Placed → Type 0
AreOn ls = All (λ p. IsOn (line_of_words p.words)) ls

on-stops : (ls : List Placed) (earlier more : List Said) → AreOn ls
    → ((older : List Said) → stops_after (all_lines older more) ≡ stops_after older)
    → stops_after (all_lines earlier (map line_of_words (words_of ls) ++ more))
    ≡ stops_after earlier
on-stops [] earlier more on rest = rest earlier
on-stops (p ∷ ls) earlier more on rest =
    on-stops ls (line_of_words p.words ∷ earlier) more (All-tail (λ (p : Placed). IsOn (line_of_words p.words)) p ls on)
    rest
    ∙ All-head (λ (p : Placed). IsOn (line_of_words p.words)) p ls on earlier

one-on : (me : ℕ) (x : Told) (told : List Told) → IsOn (line_of_words x.words)
    → AreOn (own_of me told) → (b : Bool) → is_of me x ≡ b → AreOn (own_of me (x ∷ told))
one-on me x told here rest true e =
    rw e (All-cons (λ (p : Placed). IsOn (line_of_words p.words)) (placed x) (own_of me told) here
    rest)
one-on me x told here rest false e = rw e rest

placed-on : (me : ℕ) (told : List Told) → All IsSaid told → AreOn (own_of me told)
placed-on me [] said = All-nil (λ (p : Placed). IsOn (line_of_words p.words))
placed-on me (x ∷ told) said = one-on me x told
    (subst IsOn (sym (All-head IsSaid x told said)) (λ older. refl))
    (placed-on me told (All-tail IsSaid x told said)) (is_of me x) refl

sections-on : (count me : ℕ) (told : List Told) → All IsSaid told → me + count ≤ 65
    → AreOn (sections count me told)
sections-on zero me told said few = All-nil (λ (p : Placed). IsOn (line_of_words p.words))
sections-on (suc count) me told said few =
    All-append (λ (p : Placed). IsOn (line_of_words p.words)) (section me told)
    (sections count (suc me) told)
    (All-cons (λ (p : Placed). IsOn (line_of_words p.words)) (unplaced (section_line me))
    (own_of me told)
    (subst IsOn (section-said me (omega (arith, few))) (λ older. refl))
    (placed-on me told said))
    (sections-on count (suc me) told said (omega (arith, few)))

-- the last two lines
abbrev last : List Said
last = said.Schedule ∷ said.End ∷ []

last-mode : (earlier ls : List Said)
    → mode_after (all_lines earlier (ls ++ last)) ≡ Some (mode.Schedule (listed []))
last-mode earlier [] = refl
last-mode earlier (l ∷ ls) = last-mode (l ∷ earlier) ls

module _ (n : ℕ) (x : Letter) (told : List Told) (said : All IsSaid told) (few : n ≤ 64) where
  abbrev ls : List Placed
  ls = trace_lines n x told

  abbrev front : List Placed
  front = unplaced (type_line x) ∷ sections n 1 told

  all-said : map line_of_words (words_of ls) ≡ map line_of_words (words_of front) ++ last
  all-said = ap (λ rest. line_of_words (type_line x) ∷ rest)
      (ap (map line_of_words) (map-append (λ (p : Placed). p.words) (sections n 1 told)
      (unplaced schedule_line ∷ unplaced end_line ∷ []))
      ∙ map-append line_of_words (words_of (sections n 1 told))
      (schedule_line ∷ end_line ∷ []))

  front-on : AreOn front
  front-on = All-cons (λ (p : Placed). IsOn (line_of_words p.words)) (unplaced (type_line x))
      (sections n 1 told)
      (subst IsOn (type-said x) (λ older. refl)) (sections-on n 1 told said (omega (arith, few)))

  module _ (t : Trace) (is : trace_of n (words_of ls) ≡ Ok t) where
    known : HasMode (all_lines [] (map line_of_words (words_of front) ++ last)) t
    known = read-mode n [] (map line_of_words (words_of front) ++ last) t
        (ap (read_after n []) (sym all-said) ∙ is)

    stops-none : t.stops.items ≡ []
    stops-none = ap (λ s. s.items) known.stops
        ∙ on-stops front [] last front-on (λ older. refl)

    some-is : (m k : Mode) → Some m ≡ Some k → m ≡ k
    some-is m k e = cc

    mode-is : t.mode ≡ with_turns
        (turns_after (all_lines [] (map line_of_words (words_of front) ++ last)))
        (mode.Schedule (listed []))
    mode-is = known.same
        ∙ ap (with_turns (turns_after (all_lines [] (map line_of_words (words_of front) ++ last))))
        (some-is known.mode (mode.Schedule (listed [])) (sym known.is
        ∙ last-mode [] (map line_of_words (words_of front))))

  answer-is : (read : Answer) (t : Trace) → answer_in ls read ≡ Ok t → read ≡ Ok t
  answer-is (Ok u) t e = e
  answer-is (Err f) t e = absurd cc

  no-stops : (t : Trace) → Gives (Ok t) (answer_in ls (trace_of n (words_of ls)))
      → t.stops.items ≡ []
  no-stops t gives = stops-none (plain t) (answer-is (trace_of n (words_of ls)) (plain t) gives)

  texts-by : (m : Mode) (turns : Items Turns) (texts : List (List Op))
      → plain_mode m ≡ mode.Schedule turns → HasTexts n m texts → length texts ≡ n
  texts-by mode.Threads turns texts e h = h
  texts-by (mode.Schedule given) turns texts e h = h
  texts-by (mode.Generated seed count) turns texts e h = absurd cc

  texts-one : (t : Trace) → Gives (Ok t) (answer_in ls (trace_of n (words_of ls)))
      → IsValidTrace n t → length t.texts.items ≡ n
  texts-one t gives valid =
      sym (length-map t.texts.items (λ (text : Items Op). text.items))
      ∙ texts-by t.mode _ (texts_of t)
      (mode-is (plain t) (answer-is (trace_of n (words_of ls)) (plain t) gives)) valid.texts

  pub all-unstopped : (r : Result Trace TraceFault)
      → Gives r (answer_in ls (trace_of n (words_of ls))) → IfOk r (λ t. t.stops.items ≡ [])
  all-unstopped (Ok t) gives = no-stops t gives
  all-unstopped (Err f) gives = tt

  pub all-texts : (r : Result Trace TraceFault)
      → Gives r (answer_in ls (trace_of n (words_of ls))) → IfOk r (IsValidTrace n)
      → IfOk r (λ t. length t.texts.items ≡ n)
  all-texts (Ok t) gives valid = texts-one t gives valid
  all-texts (Err f) gives valid = tt

-- two numbers that are compared
pub is-other : (a b : ℕ) → a ≢ b → (a == b) ≡ false
is-other a b n = grind (arith, n)

pub is-one : (a b : ℕ) → a ≡ b → (a == b) ≡ true
is-one a b e = grind (arith, e)
