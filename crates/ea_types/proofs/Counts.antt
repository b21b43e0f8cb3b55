-- Of each scheduler, as many lines are a type's as it has operations in the trace of the type.
use Rattle.std.proofs.Common.{◌≡◌, ◌≢◌, ℕ, zero, suc, ◌+◌, ◌<◌, ◌==◌, ◌⊎◌, inl, inr, Bool, true}
use Rattle.std.proofs.Common.{false, cond, List, [], ◌∷◌, ◌++◌, Option, Some, None, Ok}
use Rattle.std.proofs.Common.{if◌then◌else◌, bytes_eq, codes, is_some, get_or, length, map}
use Rattle.std.proofs.Common.{nat_lt, reverse, refl, sym, ap, subst, ◌∙◌, append-nil, append_assoc}
use Rattle.std.proofs.Common.{arith}
use Rattle.std.specs.Prelude.{◌&&◌, ◌||◌, not, unwrap_or}
use Rattle.std.specs.List.{AllByRecursion, count_by, find, position_from}
use Rattle.std.specs.Option.{option_and_then, option_map}
use Rattle.std.proofs.lemmas.Bool.{cases_eq}
use Rattle.std.proofs.lemmas.List.{length-reverse, map-append}
use Rattle.std.proofs.lemmas.List.Elements.{recursion_from_All}
use Rattle.std.proofs.lemmas.List.Sums.{sum_by-cons}
use Rattle.std.proofs.lemmas.Slice.Eq.{bytes_eq-Decides}
use Rattle.ea_model.specs.Lists.{Items}
use Rattle.ea_model.specs.Trace.{gives_outside, listed, plain, texts_of}
use Rattle.ea_model.specs.declared.operations.Op.{Op}
use Rattle.ea_model.specs.declared.settings.Letter.{Letter}
use Rattle.ea_model.specs.declared.settings.Letter.TheVariants.{B}
use Rattle.ea_model.specs.declared.trace.Mode.{Mode}
use Rattle.ea_model.specs.declared.trace.Stop.{Stop}
use Rattle.ea_model.specs.declared.trace.Trace.{Trace}
use Rattle.ea_model.specs.declared.trace.Turns.{Turns}
use Rattle.ea_trace.specs.Language.{Answer, LineWords, WordLines, addressed_or, and_last, at_end}
use Rattle.ea_trace.specs.Language.{is_bad_scheduler, is_many, is_not_held}
use Rattle.ea_trace.specs.Language.{is_reused, is_unaddressed, letter_after, may_stand, mode_after}
use Rattle.ea_trace.specs.Language.{next, no_stops, read_after, refusal, refused_or}
use Rattle.ea_trace.specs.Language.{section_operations, sections, stage_after, stops_after}
use Rattle.ea_trace.specs.Language.{takes_in, texts_after, texts_before, trace_from, trace_of}
use Rattle.ea_trace.specs.Lines.{Said, alloc_in, bare, command, command_of, free_in, give_in}
use Rattle.ea_trace.specs.Lines.{is_comment, keyword_in, kind_in, letter_in, letter_line}
use Rattle.ea_trace.specs.Lines.{letter_word, line_of_words, one_of, only_word, operation_in}
use Rattle.ea_trace.specs.Lines.{realloc_in, scheduler_in, section_line, take_in, turns_in}
use Rattle.ea_trace.specs.Lines.{turns_line, type_line}
use Rattle.ea_trace.specs.declared.fault.TraceFault.{TraceFault}
use Rattle.ea_trace.specs.declared.keywords.Keyword.{Keyword}
use Rattle.ea_trace.specs.declared.keywords.Keyword.TheVariants as keyword
use Rattle.ea_trace.specs.declared.lines.Line.TheVariants as line
use Rattle.ea_trace.specs.declared.stages.Stage.{Stage}
use Rattle.ea_trace.specs.declared.stages.Stage.TheVariants as at
use Rattle.ea_trace.specs.declared.takes.TakeLine.{TakeLine}
use Rattle.ea_types.specs.Input.{AreCounted}
use Rattle.ea_types.specs.Language.{are_different, before_first, begins, begins_by, inside_after}
use Rattle.ea_types.specs.Language.{inside_by, is_barred, is_border, is_letter_of, is_own}
use Rattle.ea_types.specs.Language.{is_skipped, is_wrong, left_of, left_on, names_operation}
use Rattle.ea_types.specs.Language.{parts_of, place_in, places_in, projection, traces_by}
use Rattle.ea_types.specs.Language.{types_in, types_of, wrong_at}
use Rattle.ea_types.specs.Readers.{TypeLines}
use Rattle.ea_types.proofs.Beginning.{before-skipped, comment-keyword, parts-first, skipped-line}
use Rattle.ea_types.proofs.Beginning.{type-said, types-found}
use Rattle.ea_types.proofs.Modes.{AreFine, chosen, fine-line, parted}
use Rattle.ea_types.proofs.Steps.{begins-inside, common-left, fine-more, none-own, one-own}
use Rattle.ea_types.proofs.Steps.{own-inside, own-words}

-- a line that is neither the begin of a section nor an operation
record IsStill (m : Said) : Type 0 where
  section : (older : List Said) → sections (m ∷ older) ≡ sections older
  texts : (older : List Said) → texts_before (m ∷ older) ≡ texts_before older
  text : (older : List Said) → section_operations (m ∷ older) ≡ section_operations older

still-skipped : IsStill line.Skipped
still-skipped = record { section = λ o. refl; texts = λ o. refl; text = λ o. refl }

still-letter : (x : Letter) → IsStill (line.Letter x)
still-letter x = record { section = λ o. refl; texts = λ o. refl; text = λ o. refl }

still-threads : IsStill line.Threads
still-threads = record { section = λ o. refl; texts = λ o. refl; text = λ o. refl }

still-schedule : IsStill line.Schedule
still-schedule = record { section = λ o. refl; texts = λ o. refl; text = λ o. refl }

still-turns : (ts : List Turns) → IsStill (line.Turns ts)
still-turns ts = record { section = λ o. refl; texts = λ o. refl; text = λ o. refl }

still-end : IsStill line.End
still-end = record { section = λ o. refl; texts = λ o. refl; text = λ o. refl }

-- after these lines, of which none is refused, no operation may stand
abbrev pub IsPast : Stage → Type 0
IsPast at.Start = ⊥
IsPast at.Opening = ⊥
IsPast at.Turns = Unit {0}
IsPast at.Closing = Unit {0}
IsPast at.Ended = Unit {0}

-- where operation lines stand, a section has begun; elsewhere none has, or all are over
abbrev pub Stand : Bool → List Said → Type 0
Stand true earlier = 0 < sections earlier
Stand false earlier = (sections earlier ≡ 0) ⊎ IsPast (stage_after earlier)

may-of : (b c d e f : Bool) (x y z u v : TraceFault) → (if not b then Some x else (
    if c then Some y else (if d then Some z else (if e then Some u else (
    if f then Some v else None))))) ≡ None → (b ≡ true) × (c ≡ false)
may-of true false d e f x y z u v h = (refl, refl)
may-of true true d e f x y z u v h = absurd cc
may-of false c d e f x y z u v h = absurd cc

-- a line that isn't refused may stand there, and has no bad scheduler
may : (n : ℕ) (earlier : List Said) (m : Said) → refusal n earlier m ≡ None
    → (may_stand n (stage_after earlier) (sections earlier) (stops_after earlier) m ≡ true)
    × (is_bad_scheduler n (sections earlier) (stops_after earlier) m ≡ false)
may n earlier m h = may-of
    (may_stand n (stage_after earlier) (sections earlier) (stops_after earlier) m)
    (is_bad_scheduler n (sections earlier) (stops_after earlier) m) (is_many n earlier m)
    (is_reused earlier m) (is_not_held earlier m) _ _ _ _ _ h

unreadable-nowhere : (n : ℕ) (stage : Stage) (section : ℕ) (ss : List Stop)
    → may_stand n stage section ss line.Unreadable ≡ false
unreadable-nowhere n at.Start section ss = refl
unreadable-nowhere n at.Opening section ss = refl
unreadable-nowhere n at.Turns section ss = refl
unreadable-nowhere n at.Closing section ss = refl
unreadable-nowhere n at.Ended section ss = refl

unreadable-refused : (n : ℕ) (earlier : List Said) → refusal n earlier line.Unreadable ≡ None → ⊥
unreadable-refused n earlier h =
    let stands = (may n earlier line.Unreadable h).0 in
    let nowhere = unreadable-nowhere n (stage_after earlier) (sections earlier)
    (stops_after earlier) in absurd cc

opening-none : (section : ℕ) (b c : Bool) → section ≡ 0
    → ((nat_lt 0 section && b) || c) ≡ true → c ≡ false → ⊥
opening-none section b c z h g = let k = rw (z, g) at h in absurd cc

operation-nowhere : (n : ℕ) (stage : Stage) (section : ℕ) (ss : List Stop) (op : Op)
    → (section ≡ 0) ⊎ IsPast stage → may_stand n stage section ss (line.Operation op) ≡ true
    → is_bad_scheduler n section ss (line.Operation op) ≡ false → ⊥
operation-nowhere n at.Start section ss op s h g = absurd cc
operation-nowhere n at.Opening section ss op (inl z) h g = opening-none section (no_stops ss)
    (gives_outside n op) z h g
operation-nowhere n at.Opening section ss op (inr p) h g = absurd p
operation-nowhere n at.Turns section ss op s h g = absurd cc
operation-nowhere n at.Closing section ss op s h g = absurd cc
operation-nowhere n at.Ended section ss op s h g = absurd cc

letter-nowhere : (n : ℕ) (stage : Stage) (section : ℕ) (ss : List Stop) (x : Letter)
    → IsPast stage → may_stand n stage section ss (line.Letter x) ≡ true → ⊥
letter-nowhere n at.Start section ss x p h = p
letter-nowhere n at.Opening section ss x p h = p
letter-nowhere n at.Turns section ss x p h = absurd cc
letter-nowhere n at.Closing section ss x p h = absurd cc
letter-nowhere n at.Ended section ss x p h = absurd cc

-- after a line that begins no section operation lines stand as before
kept : (inside : Bool) (earlier : List Said) (m : Said) → IsStill m
    → (IsPast (stage_after earlier) → IsPast (stage_after (m ∷ earlier))) → Stand inside earlier
    → Stand inside (m ∷ earlier)
kept true earlier m s p h = subst (λ k. 0 < k) (sym (s.section earlier)) h
kept false earlier m s p (inl z) = inl (s.section earlier ∙ z)
kept false earlier m s p (inr q) = inr (p q)

-- a line of all types that begins no section is still, and operation lines stand after it as said
record Passes (inside : Bool) (earlier : List Said) (m : Said) : Type 0 where
  still : IsStill m
  stand : Stand inside (m ∷ earlier)

module _ (n : ℕ) (earlier : List Said) (inside : Bool) (h : Stand inside earlier) where
  passes-skipped : Passes inside earlier line.Skipped
  passes-skipped = record {
    still = still-skipped;
    stand = kept inside earlier line.Skipped still-skipped (λ p. p) h;
  }

  -- a line that is its keyword alone, after which no operation may stand
  passes-bare : (m : Said) (ws : LineWords) → IsStill m → IsPast (next (stage_after earlier) m)
      → refusal n earlier (unwrap_or (bare m ws) line.Unreadable) ≡ None
      → Passes false earlier (unwrap_or (bare m ws) line.Unreadable)
  passes-bare m [] s p r = record { still = s; stand = inr p }
  passes-bare m (w ∷ ws) s p r = absurd (unreadable-refused n earlier r)

  passes-letter : (o : Option Letter)
      → refusal n earlier (unwrap_or (option_map letter_line o) line.Unreadable) ≡ None
      → Passes inside earlier (unwrap_or (option_map letter_line o) line.Unreadable)
  passes-letter None r = absurd (unreadable-refused n earlier r)
  passes-letter (Some x) r = record {
    still = still-letter x;
    stand = kept inside earlier (line.Letter x) (still-letter x)
        (λ p. absurd (letter-nowhere n (stage_after earlier) (sections earlier)
        (stops_after earlier) x p (may n earlier (line.Letter x) r).0)) h;
  }

  passes-turns : (ts : Option (List Turns))
      → refusal n earlier (unwrap_or (option_map turns_line ts) line.Unreadable) ≡ None
      → Passes inside earlier (unwrap_or (option_map turns_line ts) line.Unreadable)
  passes-turns None r = absurd (unreadable-refused n earlier r)
  passes-turns (Some ts) r = record {
    still = still-turns ts;
    stand = kept inside earlier (line.Turns ts) (still-turns ts) (λ p. p) h;
  }

-- outside the sections an operation is refused
passes-outside : (n : ℕ) (earlier : List Said) → Stand false earlier → (o : Option Op)
    (ts : Option (List Turns))
    → refusal n earlier (unwrap_or (one_of o ts) line.Unreadable) ≡ None
    → Passes false earlier (unwrap_or (one_of o ts) line.Unreadable)
passes-outside n earlier h (Some op) ts r =
    let m = may n earlier (line.Operation op) r in
    absurd (operation-nowhere n (stage_after earlier) (sections earlier) (stops_after earlier) op h
    m.0 m.1)
passes-outside n earlier h None ts r = passes-turns n earlier false h ts r

passes-by : (n : ℕ) (earlier : List Said) (inside : Bool) → Stand inside earlier
    → (k : Option Keyword) (w : List ℕ) (ws : LineWords) → begins_by k ≡ false
    → is_barred k ≡ false → (inside && not (false || is_border k)) ≡ false
    → refusal n earlier (unwrap_or (command_of k w ws) line.Unreadable) ≡ None
    → Passes (inside_by inside k) earlier (unwrap_or (command_of k w ws) line.Unreadable)
passes-by n earlier true h None w ws b f o r = absurd cc
passes-by n earlier false h None w ws b f o r = passes-outside n earlier h (operation_in w ws)
    (turns_in (w ∷ ws)) r
passes-by n earlier inside h (Some keyword.Letter) w ws b f o r = passes-letter n earlier inside h
    (option_and_then letter_in (only_word ws)) r
passes-by n earlier inside h (Some keyword.Section) w ws b f o r = absurd cc
passes-by n earlier inside h (Some keyword.Stop) w ws b f o r = absurd cc
passes-by n earlier inside h (Some keyword.Threads) w ws b f o r = passes-bare n earlier inside h
    line.Threads ws still-threads tt r
passes-by n earlier inside h (Some keyword.Schedule) w ws b f o r = passes-bare n earlier inside h
    line.Schedule ws still-schedule tt r
passes-by n earlier inside h (Some keyword.Generate) w ws b f o r = absurd cc
passes-by n earlier inside h (Some keyword.End) w ws b f o r = passes-bare n earlier inside h
    line.End ws still-end tt r

passes-line : (n : ℕ) (earlier : List Said) (inside : Bool) (w : List ℕ) (ws : LineWords)
    → Stand inside earlier → (comment : Bool) → is_comment w ≡ comment
    → begins (w ∷ ws) ≡ false → is_barred (keyword_in w) ≡ false
    → (inside && not (comment || is_border (keyword_in w))) ≡ false
    → refusal n earlier (if comment then line.Skipped
    else unwrap_or (command w ws) line.Unreadable) ≡ None
    → Passes (inside_by inside (keyword_in w)) earlier (if comment then line.Skipped
    else unwrap_or (command w ws) line.Unreadable)
passes-line n earlier inside w ws h true q b f o r =
    subst (λ k. Passes (inside_by inside k) earlier line.Skipped) (sym (comment-keyword w q))
    (passes-skipped n earlier inside h)
passes-line n earlier inside w ws h false q b f o r = passes-by n earlier inside h (keyword_in w) w
    ws b f o r

-- the first line of a section

begins-line : (n : ℕ) (earlier : List Said) (o : Option ℕ)
    → refusal n earlier (unwrap_or (option_map section_line o) line.Unreadable) ≡ None
    → (number : ℕ) × (unwrap_or (option_map section_line o) line.Unreadable ≡ line.Section number)
begins-line n earlier None r = absurd (unreadable-refused n earlier r)
begins-line n earlier (Some number) r = (number, refl)

section-keyword : (k : Option Keyword) → begins_by k ≡ true → k ≡ Some keyword.Section
section-keyword None e = absurd cc
section-keyword (Some keyword.Letter) e = absurd cc
section-keyword (Some keyword.Section) e = refl
section-keyword (Some keyword.Stop) e = absurd cc
section-keyword (Some keyword.Threads) e = absurd cc
section-keyword (Some keyword.Schedule) e = absurd cc
section-keyword (Some keyword.Generate) e = absurd cc
section-keyword (Some keyword.End) e = absurd cc

begins-words : (n : ℕ) (earlier : List Said) (w : List ℕ) (ws : LineWords) (comment : Bool)
    → is_comment w ≡ comment → keyword_in w ≡ Some keyword.Section
    → refusal n earlier (if comment then line.Skipped
    else unwrap_or (command_of (Some keyword.Section) w ws) line.Unreadable) ≡ None
    → (number : ℕ) × ((if comment then line.Skipped
    else unwrap_or (command_of (Some keyword.Section) w ws) line.Unreadable)
    ≡ line.Section number)
begins-words n earlier w ws true q k r = absurd (let none = comment-keyword w q in cc)
begins-words n earlier w ws false q k r = begins-line n earlier
    (option_and_then scheduler_in (only_word ws)) r

begins-said : (n : ℕ) (earlier : List Said) (l : LineWords) → begins l ≡ true
    → refusal n earlier (line_of_words l) ≡ None
    → (number : ℕ) × (line_of_words l ≡ line.Section number)
begins-said n earlier [] b r = absurd cc
begins-said n earlier (w ∷ ws) b r =
    let k : keyword_in w ≡ Some keyword.Section = section-keyword (keyword_in w) b in
    let said : line_of_words (w ∷ ws) ≡ (if is_comment w then line.Skipped
    else unwrap_or (command_of (Some keyword.Section) w ws) line.Unreadable) =
    ap (λ j. if is_comment w then line.Skipped
    else unwrap_or (command_of j w ws) line.Unreadable) k in
    let found = begins-words n earlier w ws (is_comment w) refl k
    (subst (λ m. refusal n earlier m ≡ None) said r) in (found.0, said ∙ found.1)

-- what an operation line is to its type

abbrev IsOperation : Said → Type 0
IsOperation m = ((op : Op) × (m ≡ line.Operation op)) ⊎ (m ≡ line.Unreadable)

operation-one : (o : Option Op) → IsOperation (unwrap_or (one_of o None) line.Unreadable)
operation-one None = inr refl
operation-one (Some op) = inl (op, refl)

operation-named : (w : List ℕ) (ws : LineWords) → is_some (kind_in w) ≡ true
    → IsOperation (line_of_words (w ∷ ws))
operation-named w ws =
    let P : List ℕ → Type 0 = λ v. IsOperation (line_of_words (v ∷ ws)) in
    chosen w (codes "alloc") _ _ P (operation-one (alloc_in ws)) (
    chosen w (codes "free") _ _ P (operation-one (free_in ws)) (
    chosen w (codes "realloc") _ _ P (operation-one (realloc_in ws)) (
    chosen w (codes "give") _ _ P (operation-one (give_in ws)) (
    chosen w (codes "take") _ _ P (operation-one (take_in ws)) (
    chosen w (codes "info") _ _ P (operation-one _) (
    chosen w (codes "idle") _ _ P (operation-one _) (λ e. absurd cc)))))))

operation-names : (ws : LineWords) → names_operation ws ≡ true → IsOperation (line_of_words ws)
operation-names [] e = absurd cc
operation-names (w ∷ ws) e = operation-named w ws e

operation-said : (n : ℕ) (earlier : List Said) (m : Said) → IsOperation m
    → refusal n earlier m ≡ None → (op : Op) × (m ≡ line.Operation op)
operation-said n earlier m (inl o) r = o
operation-said n earlier m (inr e) r = absurd (unreadable-refused n earlier
    (subst (λ x. refusal n earlier x ≡ None) e r))

-- how many operations each section has, with those of the lines that are left in the last one and
-- in those after it
abbrev left_counts : ℕ → List (List Op) → List Op → ℕ → List ℕ → List ℕ
left_counts section texts text more after = if nat_lt 0 section
    then map length texts ++ (length text + more) ∷ after else map length texts ++ after

last-count : (b : Bool) (texts : List (List Op)) (text : List Op)
    → map length (if b then texts ++ reverse text ∷ [] else texts)
    ≡ (if b then map length texts ++ (length text + 0) ∷ [] else map length texts ++ [])
last-count true texts text = map-append length texts (reverse text ∷ [])
    ∙ ap (λ m. map length texts ++ m ∷ []) (omega (arith, length-reverse text))
last-count false texts text = sym (append-nil (map length texts))

section-count : (b : Bool) (texts : List (List Op)) (text : List Op) (p : ℕ) (after : List ℕ)
    → map length (if b then texts ++ reverse text ∷ [] else texts) ++ p ∷ after
    ≡ (if b then map length texts ++ (length text + 0) ∷ p ∷ after
    else map length texts ++ p ∷ after)
section-count true texts text p after =
    let e : length (reverse text) ≡ length text + 0 = omega (arith, length-reverse text) in
    ap (λ ms. ms ++ p ∷ after) (map-append length texts (reverse text ∷ []))
    ∙ append_assoc (map length texts) (length (reverse text) ∷ []) (p ∷ after)
    ∙ ap (λ m. map length texts ++ m ∷ p ∷ after) e
section-count false texts text p after = refl

zero-more : (p : ℕ) → 0 + p ≡ p
zero-more p = omega arith

begun-section : (s : ℕ) → nat_lt 0 (s + 1) ≡ true
begun-section s = grind arith

-- the texts of a trace are those of its lines

listed-texts : (texts : List (List Op)) → map (λ text. text.items) (map (λ text. listed text) texts)
    ≡ texts
listed-texts [] = refl
listed-texts (text ∷ texts) = ap (λ rest. text ∷ rest) (listed-texts texts)

addressed-same : (found : Option TakeLine) (t u : Trace) → addressed_or found t ≡ Ok u → t ≡ u
addressed-same None t u e = cc
addressed-same (Some take) t u e = absurd cc

end-texts : (stage : Stage) (letter : Option Letter) (m : Option Mode) (lines : List Said)
    (t : Trace) → at_end stage letter m lines ≡ Ok t → texts_of t ≡ texts_after lines
end-texts at.Start letter m lines t h = absurd cc
end-texts at.Opening letter m lines t h = absurd cc
end-texts at.Turns letter m lines t h = absurd cc
end-texts at.Closing letter m lines t h = absurd cc
end-texts at.Ended None m lines t h = absurd cc
end-texts at.Ended (Some letter) None lines t h = absurd cc
end-texts at.Ended (Some letter) (Some m) lines t h = sym (ap texts_of (addressed-same
    (find (is_unaddressed lines) (takes_in lines)) (trace_from letter m lines) t h))
    ∙ listed-texts (texts_after lines)

record IsTaken (found : Option TraceFault) (read : Answer) (t : Trace) : Type 0 where
  none : found ≡ None
  later : read ≡ Ok t

is-taken : (found : Option TraceFault) (read : Answer) (t : Trace) → refused_or found read ≡ Ok t
    → IsTaken found read t
is-taken None read t h = record { none = refl; later = h }
is-taken (Some f) read t h = absurd cc

left-same : (s : ℕ) (texts : List (List Op)) (after : List ℕ) (a b : List Op) (p q : ℕ)
    → length a + p ≡ length b + q → left_counts s texts a p after ≡ left_counts s texts b q after
left-same s texts after a b p q e = ap (λ m. if nat_lt 0 s then map length texts ++ m ∷ after
    else map length texts ++ after) e

own-count : (k j : ℕ) (b : Bool) (js : List ℕ) → (j == k) ≡ b
    → count_by (λ i. i == k) (j ∷ js) ≡ (if b then 1 else 0) + count_by (λ i. i == k) js
own-count k j b js e = sum_by-cons (λ i. cond (i == k) 1 0) j js ∙ rw e refl

some-place : (o : Option ℕ) → is_some o ≡ true → (j : ℕ) × (o ≡ Some j)
some-place None e = absurd cc
some-place (Some j) e = (j, refl)

fine-words : (barred own letter named : Bool) → (barred || (own && not (letter && named))) ≡ false
    → (barred ≡ false) × (own ≡ true → (letter ≡ true) × (named ≡ true))
fine-words true own letter named e = absurd cc
fine-words false false letter named e = (refl, λ o. absurd cc)
fine-words false true true true e = (refl, λ o. (refl, refl))
fine-words false true true false e = absurd cc
fine-words false true false named e = absurd cc

-- the type at a place, by the word of its letter
abbrev pub IsAt : List Letter → Letter → ℕ → Type 0
IsAt types x k = (w : List ℕ) (j : ℕ) → place_in types w ≡ Some j
    → (j == k) ≡ bytes_eq w (letter_word x)

module _ (n : ℕ) (types : List Letter) (x : Letter) (k : ℕ) (there : IsAt types x k) where
  abbrev own : List ℕ → ℕ
  own js = count_by (λ j. j == k) js

  abbrev Counted : Bool → List Said → WordLines → Trace → Type 0
  Counted inside e ls t = map length (texts_of t) ≡ left_counts (sections e) (texts_before e)
      (section_operations e) (own (places_in types inside ls)) (map own (parts_of types ls))

  counted-section : (inside : Bool) (e : List Said) (l : LineWords) (ls : WordLines) (t : Trace)
      (number : ℕ) → begins l ≡ true → Counted true (line.Section number ∷ e) ls t
      → Counted inside e (l ∷ ls) t
  counted-section inside e l ls t number b h =
      let more = rw (begun-section (sections e)) at h in
      more ∙ ap (λ m. map length (and_last (sections e) (texts_before e)
      (reverse (section_operations e))) ++ m ∷ map own (parts_of types ls))
      (zero-more (own (places_in types true ls))) ∙ rw b
      (section-count (nat_lt 0 (sections e)) (texts_before e) (section_operations e)
      (own (places_in types true ls)) (map own (parts_of types ls)))

  counted-still : (inside : Bool) (e : List Said) (l : LineWords) (ls : WordLines) (t : Trace)
      (m : Said) → begins l ≡ false → is_own inside l ≡ false → IsStill m
      → Counted (inside_after inside l) (m ∷ e) ls t → Counted inside e (l ∷ ls) t
  counted-still inside e l ls t m b o s h =
      rw (b, none-own types inside l o) (rw (s.section e, s.texts e, s.text e) at h)

  counted-own : (e : List Said) (w : List ℕ) (ws : LineWords) (ls : WordLines) (t : Trace) (j : ℕ)
      (inside : Bool) (mine : Bool) → is_own inside (w ∷ ws) ≡ true
      → begins (w ∷ ws) ≡ false → place_in types w ≡ Some j → (j == k) ≡ mine
      → map length (texts_of t) ≡ left_counts (sections e) (texts_before e) (section_operations e)
      ((if mine then 1 else 0) + own (places_in types (inside_after inside (w ∷ ws)) ls))
      (map own (parts_of types ls)) → Counted inside e ((w ∷ ws) ∷ ls) t
  counted-own e w ws ls t j inside mine o b p q h =
      rw (
        b,
        one-own types inside w ws j o p,
        own-count k j mine
            (places_in types (inside_after inside (w ∷ ws)) ls) q,
      ) h

  -- what holds of the lines that are left
  abbrev Rest : ℕ → WordLines → Trace → Type 0
  Rest number ls t = (inside : Bool) (e : List Said) → Stand inside e
      → wrong_at types number inside ls ≡ None
      → read_after n e (map line_of_words (left_on x inside ls)) ≡ Ok t → Counted inside e ls t

  module _ (number : ℕ) (inside : Bool) (ls : WordLines) (e : List Said) (t : Trace)
      (rest : Rest (number + 1) ls t) (h : Stand inside e) where
    step-own : (w : List ℕ) (ws : LineWords) → is_own inside (w ∷ ws) ≡ true
        → wrong_at types (number + 1) (inside_after inside (w ∷ ws)) ls ≡ None
        → names_operation ws ≡ true → (j : ℕ) → place_in types w ≡ Some j → (mine : Bool)
        → (j == k) ≡ mine
        → read_after n e (line_of_words (if mine then ws else [])
        ∷ map line_of_words (left_on x (inside_after inside (w ∷ ws)) ls)) ≡ Ok t
        → Counted inside e ((w ∷ ws) ∷ ls) t
    step-own w ws o f named j p true q r =
        let i = own-inside inside w ws o in
        let taken = is-taken (refusal n e (line_of_words ws)) _ t r in
        let found = operation-said n e (line_of_words ws) (operation-names ws named) taken.none in
        let op = found.0 in
        let begun : 0 < sections e = subst (λ b. Stand b e) i.here h in
        counted-own e w ws ls t j inside true o i.section p q
        (rest (inside_after inside (w ∷ ws)) (line.Operation op ∷ e)
        (subst (λ b. Stand b (line.Operation op ∷ e)) (sym (i.after ∙ i.here)) begun) f
        (subst (λ m. read_after n (m ∷ e) (map line_of_words
        (left_on x (inside_after inside (w ∷ ws)) ls)) ≡ Ok t) found.1 taken.later)
        ∙ left-same (sections e) (texts_before e) (map own (parts_of types ls))
        (op ∷ section_operations e) (section_operations e)
        (own (places_in types (inside_after inside (w ∷ ws)) ls))
        (1 + own (places_in types (inside_after inside (w ∷ ws)) ls)) (omega arith))
    step-own w ws o f named j p false q r =
        let i = own-inside inside w ws o in
        let taken = is-taken (refusal n e line.Skipped) _ t r in
        let begun : 0 < sections e = subst (λ b. Stand b e) i.here h in
        counted-own e w ws ls t j inside false o i.section p q
        (rest (inside_after inside (w ∷ ws)) (line.Skipped ∷ e)
        (subst (λ b. Stand b (line.Skipped ∷ e)) (sym (i.after ∙ i.here)) begun) f taken.later
        ∙ left-same (sections e) (texts_before e) (map own (parts_of types ls))
        (section_operations e) (section_operations e)
        (own (places_in types (inside_after inside (w ∷ ws)) ls))
        (0 + own (places_in types (inside_after inside (w ∷ ws)) ls)) (omega arith))

    step-common : (l : LineWords) → is_own inside l ≡ false → is_wrong types inside l ≡ false
        → wrong_at types (number + 1) (inside_after inside l) ls ≡ None
        → read_after n e (line_of_words l
        ∷ map line_of_words (left_on x (inside_after inside l) ls)) ≡ Ok t → (b : Bool)
        → begins l ≡ b → Counted inside e (l ∷ ls) t
    step-common l o fine f r true b =
        let taken = is-taken (refusal n e (line_of_words l)) _ t r in
        let found = begins-said n e l b taken.none in
        let after : inside_after inside l ≡ true = begins-inside inside l b in
        counted-section inside e l ls t found.0 b (rest true (line.Section found.0 ∷ e)
        (omega arith) (subst (λ j. wrong_at types (number + 1) j ls ≡ None) after f)
        (subst (λ j. read_after n (line.Section found.0 ∷ e)
        (map line_of_words (left_on x j ls)) ≡ Ok t) after
        (subst (λ m. read_after n (m ∷ e)
        (map line_of_words (left_on x (inside_after inside l) ls)) ≡ Ok t) found.1 taken.later)))
    step-common [] o fine f r false b =
        let taken = is-taken (refusal n e line.Skipped) _ t r in
        let p = passes-skipped n e inside h in
        counted-still inside e [] ls t line.Skipped refl refl p.still
        (rest inside (line.Skipped ∷ e) p.stand f taken.later)
    step-common (w ∷ ws) o fine f r false b =
        let taken = is-taken (refusal n e (line_of_words (w ∷ ws))) _ t r in
        let p = passes-line n e inside w ws h (is_comment w) refl b (fine-words
        (is_barred (keyword_in w)) (is_own inside (w ∷ ws)) (is_letter_of types w)
        (names_operation ws) fine).0 o taken.none in
        counted-still inside e (w ∷ ws) ls t (line_of_words (w ∷ ws)) b o p.still
        (rest (inside_after inside (w ∷ ws)) (line_of_words (w ∷ ws) ∷ e) p.stand f taken.later)

    step : (l : LineWords) → wrong_at types number inside (l ∷ ls) ≡ None
        → read_after n e (line_of_words (left_of x inside l)
        ∷ map line_of_words (left_on x (inside_after inside l) ls)) ≡ Ok t → (o : Bool)
        → is_own inside l ≡ o → Counted inside e (l ∷ ls) t
    step l w r false o =
        let fine = fine-line types number inside l ls w (is_wrong types inside l) refl in
        step-common l o fine (sym (fine-more types number inside l ls fine) ∙ w)
        (subst (λ m. read_after n e (line_of_words m
        ∷ map line_of_words (left_on x (inside_after inside l) ls)) ≡ Ok t)
        (common-left x inside l o) r) (begins l) refl
    step [] w r true o = absurd cc
    step (v ∷ vs) w r true o =
        let fine = fine-line types number inside (v ∷ vs) ls w (is_wrong types inside (v ∷ vs))
        refl in
        let both = (fine-words (is_barred (keyword_in v)) (is_own inside (v ∷ vs))
        (is_letter_of types v) (names_operation vs) fine).1 o in
        let place = some-place (place_in types v) both.0 in
        step-own v vs o (sym (fine-more types number inside (v ∷ vs) ls fine) ∙ w) both.1 place.0
        place.1 (bytes_eq v (letter_word x)) (there v place.0 place.1)
        (subst (λ m. read_after n e (line_of_words m
        ∷ map line_of_words (left_on x (inside_after inside (v ∷ vs)) ls)) ≡ Ok t)
        (own-words x inside v vs o) r)

  counted : (number : ℕ) (ls : WordLines) (t : Trace) → Rest number ls t
  counted number [] t inside e h w r = ap (map length) (end-texts (stage_after e) (letter_after e)
      (mode_after e) e t r)
      ∙ last-count (nat_lt 0 (sections e)) (texts_before e) (section_operations e)
  counted number (l ∷ ls) t inside e h w r = step number inside ls e t (counted (number + 1) ls t) h
      l w r (is_own inside l) refl

-- the lines before the first section

record IsEarly (e : List Said) : Type 0 where
  section : sections e ≡ 0
  texts : texts_before e ≡ []
  text : section_operations e ≡ []

early-more : (e : List Said) (m : Said) → IsStill m → IsEarly e → IsEarly (m ∷ e)
early-more e m s h = record {
  section = s.section e ∙ h.section;
  texts = s.texts e ∙ h.texts;
  text = s.text e ∙ h.text;
}

early-none : IsEarly []
early-none = record { section = refl; texts = refl; text = refl }

-- what is left after some lines before the first section
record IsLeft (n : ℕ) (ps : WordLines) (t : Trace) : Type 0 where
  earlier : List Said
  early : IsEarly earlier
  later : read_after n earlier (map line_of_words ps) ≡ Ok t

left-after : (n : ℕ) (before ps : WordLines) (e : List Said) (t : Trace)
    → AllByRecursion (λ l. is_skipped l ≡ true) before → IsEarly e
    → read_after n e (map line_of_words (before ++ ps)) ≡ Ok t → IsLeft n ps t
left-after n [] ps e t s h r = record { earlier = e; early = h; later = r }
left-after n (l ∷ before) ps e t s h r =
    let said = skipped-line l s.0 in
    let taken = is-taken (refusal n e (line_of_words l)) _ t r in
    left-after n before ps (line.Skipped ∷ e) t s.1 (early-more e line.Skipped still-skipped h)
    (subst (λ m. read_after n (m ∷ e) (map line_of_words (before ++ ps)) ≡ Ok t) said taken.later)

left-early : (n : ℕ) (types : List Letter) (x : Letter) (k : ℕ) (e : List Said) (ls : WordLines)
    (t : Trace) → IsEarly e → map length (texts_of t) ≡ left_counts (sections e) (texts_before e)
    (section_operations e) (count_by (λ j. j == k) (places_in types false ls))
    (map (count_by (λ j. j == k)) (parts_of types ls))
    → map length (texts_of t) ≡ map (count_by (λ j. j == k)) (parts_of types ls)
left-early n types x k e ls t h c =
    let p = count_by (λ j. j == k) (places_in types false ls) in
    let q = map (count_by (λ j. j == k)) (parts_of types ls) in
    let a = subst (λ s. map length (texts_of t) ≡ left_counts s (texts_before e)
    (section_operations e) p q) h.section c in
    subst (λ ts. map length (texts_of t) ≡ left_counts 0 ts (section_operations e) p q) h.texts a

-- the trace of a type has as many operations of each scheduler as lines of it are the type's
pub counted-all : (n : ℕ) (types : List Letter) (ls : WordLines) → AreFine types ls
    → types_of ls ≡ Some types → (x : Letter) (k : ℕ) → IsAt types x k → (t : Trace)
    → trace_of n (projection x ls) ≡ Ok t
    → map length (texts_of t) ≡ map (count_by (λ j. j == k)) (parts_of types ls)
counted-all n types ls fine known x k there t r =
    let found : types_in fine.first ≡ Some types = sym (types-found ls fine.first fine.after
    fine.from) ∙ known in
    let ps : WordLines = type_line x ∷ left_on x false fine.after in
    let whole : read_after n [] (map line_of_words (before_first ls ++ ps)) ≡ Ok t =
    rw fine.from at r in
    let a = left-after n (before_first ls) ps [] t (recursion_from_All (λ l. is_skipped l ≡ true)
    (before_first ls) (before-skipped ls)) early-none whole in
    let taken = is-taken (refusal n a.earlier (line_of_words (type_line x))) _ t a.later in
    let e = line.Letter x ∷ a.earlier in
    let early : IsEarly e = early-more a.earlier (line.Letter x) (still-letter x) a.early in
    let later : read_after n e (map line_of_words (left_on x false fine.after)) ≡ Ok t =
    subst (λ m. read_after n (m ∷ a.earlier) (map line_of_words (left_on x false fine.after))
    ≡ Ok t) (type-said x) taken.later in
    left-early n types x k e fine.after t early (counted n types x k there fine.number fine.after t
    false e (inl early.section) fine.fine later)
    ∙ ap (map (count_by (λ j. j == k)))
    (sym (parts-first types types fine.first fine.after ls fine.from found))

-- a letter is at its place

pub record IsFoundAt (p : Letter → Bool) (i m : ℕ) (xs : List Letter) (d : Letter) : Type 0 where
  pub index : ℕ
  pub same : m ≡ i + index
  pub within : index < length xs
  pub passes : p (get_or xs index d) ≡ true

pub found-at : (p : Letter → Bool) (i m : ℕ) (xs : List Letter) (d : Letter)
    → position_from p i xs ≡ Some m → IsFoundAt p i m xs d
found-at p i m [] d e = absurd cc
found-at p i m (x ∷ xs) d e = found-one p i m x xs d (λ h. found-at p (i + 1) m xs d h) (p x) refl e
  where
    found-one : (p : Letter → Bool) (i m : ℕ) (x : Letter) (xs : List Letter) (d : Letter)
        → (position_from p (i + 1) xs ≡ Some m → IsFoundAt p (i + 1) m xs d) → (b : Bool) → p x ≡ b
        → cond b (Some i) (position_from p (i + 1) xs) ≡ Some m → IsFoundAt p i m (x ∷ xs) d
    found-one p i m x xs d h true q e =
        let first : i ≡ m = cc in
        record { index = zero; same = omega (arith, first); within = omega arith; passes = q }
    found-one p i m x xs d h false q e =
        let f = h e in
        record {
          index = suc f.index;
          same = omega (arith, f.same);
          within = omega (arith, f.within);
          passes = f.passes;
        }

none-at : (p : Letter → Bool) (i : ℕ) (xs : List Letter) (d : Letter) → position_from p i xs ≡ None
    → (j : ℕ) → j < length xs → p (get_or xs j d) ≡ false
none-at p i [] d e j less = absurd (omega (arith, less))
none-at p i (x ∷ xs) d e j less = none-one (p x) refl e j less
    (λ h k below. none-at p (i + 1) xs d h k below)
  where
    none-one : (b : Bool) → p x ≡ b → cond b (Some i) (position_from p (i + 1) xs) ≡ None → (j : ℕ)
        → j < length (x ∷ xs) → (position_from p (i + 1) xs ≡ None → (k : ℕ) → k < length xs
        → p (get_or xs k d) ≡ false) → p (get_or (x ∷ xs) j d) ≡ false
    none-one true q e j less h = absurd cc
    none-one false q e zero less h = q
    none-one false q e (suc k) less h = h e k (omega (arith, less))

and-parts : (a b : Bool) → (a && b) ≡ true → (a ≡ true) × (b ≡ true)
and-parts true true e = (refl, refl)
and-parts true false e = absurd cc
and-parts false b e = absurd cc

absent : (o : Option ℕ) → not (is_some o) ≡ true → o ≡ None
absent None e = refl
absent (Some k) e = absurd cc

same-word : (v w : List ℕ) → bytes_eq v w ≡ true → bytes_eq w v ≡ true
same-word v w e = (bytes_eq-Decides w v).1 (sym ((bytes_eq-Decides v w).0 e))

different-at : (xs : List Letter) (i j : ℕ) (d : Letter) → are_different xs ≡ true → i < length xs
    → j < length xs → bytes_eq (letter_word (get_or xs i d)) (letter_word (get_or xs j d)) ≡ true
    → i ≡ j
different-at [] i j d e a b h = absurd (omega (arith, a))
different-at (x ∷ xs) zero zero d e a b h = refl
different-at (x ∷ xs) zero (suc j) d e a b h =
    let none = absent (place_in xs (letter_word x)) (and-parts _ (are_different xs) e).0 in
    let other = none-at (λ y. bytes_eq (letter_word x) (letter_word y)) 0 xs d none j
    (omega (arith, b)) in absurd cc
different-at (x ∷ xs) (suc i) zero d e a b h =
    let none = absent (place_in xs (letter_word x)) (and-parts _ (are_different xs) e).0 in
    let other = none-at (λ y. bytes_eq (letter_word x) (letter_word y)) 0 xs d none i
    (omega (arith, a)) in
    let same = same-word (letter_word (get_or xs i d)) (letter_word x) h in absurd cc
different-at (x ∷ xs) (suc i) (suc j) d e a b h = ap suc (different-at xs i j d
    (and-parts (not (is_letter_of xs (letter_word x))) (are_different xs) e).1 (omega (arith, a))
    (omega (arith, b)) h)

is-at : (types : List Letter) (k : ℕ) (d : Letter) → are_different types ≡ true → k < length types
    → IsAt types (get_or types k d) k
is-at types k d e less w j p =
    let f = found-at (λ y. bytes_eq w (letter_word y)) 0 j types d p in
    let same : j ≡ f.index = omega (arith, f.same) in
    let at : bytes_eq w (letter_word (get_or types j d)) ≡ true = rw same f.passes in
    by at (omega (arith, f.within, same)) (cases_eq j k)
  where
    other : (b : Bool) → bytes_eq w (letter_word (get_or types k d)) ≡ b
        → bytes_eq w (letter_word (get_or types j d)) ≡ true → j < length types → j ≢ k
        → bytes_eq w (letter_word (get_or types k d)) ≡ false
    other true h at within q =
        let mine : w ≡ letter_word (get_or types k d) = (bytes_eq-Decides w _).0 h in
        let same : j ≡ k = different-at types j k d e within less (subst
        (λ v. bytes_eq (letter_word (get_or types j d)) v ≡ true) mine (same-word w _ at)) in
        absurd (q same)
    other false h at within q = h

    by : bytes_eq w (letter_word (get_or types j d)) ≡ true → j < length types
        → (j ≡ k) ⊎ (j ≢ k) → (j == k) ≡ bytes_eq w (letter_word (get_or types k d))
    by at within (inl q) =
        let yes : (j == k) ≡ true = grind arith in
        yes ∙ sym (subst (λ i. bytes_eq w (letter_word (get_or types i d)) ≡ true) q at)
    by at within (inr q) =
        let no : (j == k) ≡ false = grind arith in no ∙ sym (other
        (bytes_eq w (letter_word (get_or types k d))) refl at within q)

-- the trace of the type at a place

plain-texts : (texts : List (Items Op)) → map (λ text. text.items) (map (λ text. listed text.items)
    texts) ≡ map (λ text. text.items) texts
plain-texts [] = refl
plain-texts (text ∷ texts) = ap (λ rest. text.items ∷ rest) (plain-texts texts)

record IsTraceAt (n : ℕ) (lines : TypeLines) (xs : List Letter) (ts : List Trace) (k : ℕ)
    (d : Trace) : Type 0 where
  within : k < length xs
  trace : trace_of n (lines (get_or xs k B)) ≡ Ok (plain (get_or ts k d))

trace-at : (n : ℕ) (lines : TypeLines) (xs : List Letter) (ts : List Trace)
    → traces_by n lines xs ≡ Ok (map plain ts) → (k : ℕ) (d : Trace) → k < length ts
    → IsTraceAt n lines xs ts k d
trace-at n lines xs [] e k d less = absurd (omega (arith, less))
trace-at n lines [] (t ∷ ts) e k d less = absurd cc
trace-at n lines (x ∷ xs) (t ∷ ts) e zero d less = record {
  within = omega arith;
  trace = (parted (trace_of n (lines x)) (traces_by n lines xs) (plain t) (map plain ts) e).one;
}
trace-at n lines (x ∷ xs) (t ∷ ts) e (suc k) d less =
    let p = parted (trace_of n (lines x)) (traces_by n lines xs) (plain t) (map plain ts) e in
    let h = trace-at n lines xs ts p.others k d (omega (arith, less)) in
    record { within = omega (arith, h.within); trace = h.trace }

-- as many lines are each type's as it has operations
pub all-counted : (n : ℕ) (types : List Letter) (ls : WordLines) → AreFine types ls
    → types_of ls ≡ Some types → are_different types ≡ true → (ts : List Trace)
    → traces_by n (λ x. projection x ls) types ≡ Ok (map plain ts)
    → AreCounted ts (parts_of types ls)
all-counted n types ls fine known different ts e = λ k d less.
    let h = trace-at n (λ x. projection x ls) types ts e k d less in
    let t : Trace = get_or ts k d in
    ap (map length) (sym (plain-texts t.texts.items))
    ∙ counted-all n types ls fine known (get_or types k B) k (is-at types k B different h.within)
    (plain t) h.trace
