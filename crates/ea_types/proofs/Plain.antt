-- The traces of the types have no stops, none of them is generated, and each line is of a type.
use Rattle.std.proofs.Common.{◌≡◌, ◌≢◌, ℕ, suc, ◌+◌, ◌<◌, ◌++◌, Bool, true, false, List, [], ◌∷◌}
use Rattle.std.proofs.Common.{Option, Some, None, Ok, Err, bytes_eq, codes, is_some, length, map, refl}
use Rattle.std.proofs.Common.{sym, ap, subst, ◌∙◌, if◌then◌else◌, arith}
use Rattle.std.specs.Prelude.{All, option_to_list, unwrap_or, ◌&&◌, ◌||◌, not}
use Rattle.std.specs.List.{AllByRecursion}
use Rattle.std.specs.Option.{option_and_then, option_map}
use Rattle.std.proofs.lemmas.List.Elements.{All-from_recursion, recursion_from_All}
use Rattle.ea_model.specs.Trace.{listed, plain, plain_mode}
use Rattle.ea_model.specs.declared.operations.Op.{Op}
use Rattle.ea_model.specs.declared.settings.Letter.{Letter}
use Rattle.ea_model.specs.declared.settings.Letter.TheVariants.{B}
use Rattle.ea_model.specs.declared.trace.Mode.{Mode}
use Rattle.ea_model.specs.declared.trace.Mode.TheVariants as mode
use Rattle.ea_model.specs.declared.trace.Trace.{Trace}
use Rattle.ea_model.specs.declared.trace.Turns.{Turns}
use Rattle.ea_trace.specs.Language.{Answer, LineWords, WordLines, mode_after, stops_after, trace_of}
use Rattle.ea_trace.specs.Language.{with_turns}
use Rattle.ea_trace.specs.Lines.{Said, alloc_in, bare, command_of, free_in, give_in, is_comment}
use Rattle.ea_trace.specs.Lines.{keyword_in, kind_in, letter_in, letter_line, letter_word}
use Rattle.ea_trace.specs.Lines.{line_of_words, one_of, only_word, operation_in, realloc_in}
use Rattle.ea_trace.specs.Lines.{scheduler_in, section_line, take_in, turns_in, turns_line}
use Rattle.ea_trace.specs.declared.keywords.Keyword.{Keyword}
use Rattle.ea_trace.specs.declared.keywords.Keyword.TheVariants as keyword
use Rattle.ea_trace.specs.declared.lines.Line.TheVariants as line
use Rattle.ea_types.specs.Courses.{AreParts}
use Rattle.ea_types.specs.Input.{AreGiven, AreUnstopped}
use Rattle.ea_types.specs.Language.{Answers, and_trace, before_first, begins, from_first}
use Rattle.ea_types.specs.Language.{inside_after, is_barred, own_place, parts_of, place_in}
use Rattle.ea_types.specs.Language.{places_in}
use Rattle.ea_types.specs.Language.{is_letter_of, is_own, is_skipped, is_wrong, left_of, left_on}
use Rattle.ea_types.specs.Language.{names_operation, projection, projection_from, traces_by}
use Rattle.ea_types.specs.Language.{wrong_at}
use Rattle.ea_types.proofs.Beginning.{before-skipped, skipped-line, type-said}
use Rattle.ea_types.proofs.Counts.{found-at}
use Rattle.ea_types.proofs.Modes.{AreFine, all_lines, chosen, fine-line, named-own, parted}
use Rattle.ea_types.proofs.Modes.{read-mode}
use Rattle.ea_types.proofs.Steps.{common-left, fine-more, own-words}

-- a line that neither stops a scheduler nor has operations generated
abbrev pub IsPlain : Said → Type 0
IsPlain (line.Stop stop) = ⊥
IsPlain (line.Generate seed count) = ⊥
IsPlain l = Unit {0}

abbrev pub ArePlain : List Said → Type 0
ArePlain ls = AllByRecursion IsPlain ls

plain-lines : (earlier later : List Said) → ArePlain earlier → ArePlain later
    → ArePlain (all_lines earlier later)
plain-lines earlier [] h k = h
plain-lines earlier (l ∷ later) h k = plain-lines (l ∷ earlier) later (k.0, h) k.1

-- such lines have no stops, and their mode isn't that of a generated trace

plain-stops : (ls : List Said) → ArePlain ls → stops_after ls ≡ []
plain-stops [] h = refl
plain-stops (line.Skipped ∷ ls) h = plain-stops ls h.1
plain-stops (line.Letter letter ∷ ls) h = plain-stops ls h.1
plain-stops (line.Section number ∷ ls) h = plain-stops ls h.1
plain-stops (line.Operation op ∷ ls) h = plain-stops ls h.1
plain-stops (line.Stop stop ∷ ls) h = absurd h.0
plain-stops (line.Threads ∷ ls) h = plain-stops ls h.1
plain-stops (line.Schedule ∷ ls) h = plain-stops ls h.1
plain-stops (line.Turns turns ∷ ls) h = plain-stops ls h.1
plain-stops (line.Generate seed count ∷ ls) h = absurd h.0
plain-stops (line.End ∷ ls) h = plain-stops ls h.1
plain-stops (line.Unreadable ∷ ls) h = plain-stops ls h.1

-- it isn't made from a seed
abbrev pub IsGiven : Mode → Type 0
IsGiven mode.Threads = Unit {0}
IsGiven (mode.Schedule turns) = Unit {0}
IsGiven (mode.Generated seed count) = ⊥

abbrev pub IfGiven : Option Mode → Type 0
IfGiven None = Unit {0}
IfGiven (Some m) = IsGiven m

plain-mode : (ls : List Said) → ArePlain ls → IfGiven (mode_after ls)
plain-mode [] h = tt
plain-mode (line.Skipped ∷ ls) h = plain-mode ls h.1
plain-mode (line.Letter letter ∷ ls) h = plain-mode ls h.1
plain-mode (line.Section number ∷ ls) h = plain-mode ls h.1
plain-mode (line.Operation op ∷ ls) h = plain-mode ls h.1
plain-mode (line.Stop stop ∷ ls) h = absurd h.0
plain-mode (line.Threads ∷ ls) h = tt
plain-mode (line.Schedule ∷ ls) h = tt
plain-mode (line.Turns turns ∷ ls) h = plain-mode ls h.1
plain-mode (line.Generate seed count ∷ ls) h = absurd h.0
plain-mode (line.End ∷ ls) h = plain-mode ls h.1
plain-mode (line.Unreadable ∷ ls) h = plain-mode ls h.1

-- a line that begins with no barred keyword is plain

mapped : {A : Type 0} (f : A → Said) → ((x : A) → IsPlain (f x)) → (o : Option A)
    → IsPlain (unwrap_or (option_map f o) line.Unreadable)
mapped f h None = tt
mapped f h (Some x) = h x

plain-bare : (l : Said) → IsPlain l → (ws : List (List ℕ))
    → IsPlain (unwrap_or (bare l ws) line.Unreadable)
plain-bare l h [] = h
plain-bare l h (w ∷ ws) = tt

plain-one : (o : Option Op) (ts : Option (List Turns))
    → IsPlain (unwrap_or (one_of o ts) line.Unreadable)
plain-one (Some o) ts = tt
plain-one None ts = mapped turns_line (λ x. tt) ts

plain-command : (k : Option Keyword) (w : List ℕ) (ws : List (List ℕ)) → is_barred k ≡ false
    → IsPlain (unwrap_or (command_of k w ws) line.Unreadable)
plain-command None w ws e = plain-one (operation_in w ws) (turns_in (w ∷ ws))
plain-command (Some keyword.Threads) w ws e = plain-bare line.Threads tt ws
plain-command (Some keyword.Schedule) w ws e = plain-bare line.Schedule tt ws
plain-command (Some keyword.End) w ws e = plain-bare line.End tt ws
plain-command (Some keyword.Letter) w ws e = mapped letter_line (λ x. tt)
    (option_and_then letter_in (only_word ws))
plain-command (Some keyword.Section) w ws e = mapped section_line (λ x. tt)
    (option_and_then scheduler_in (only_word ws))
plain-command (Some keyword.Stop) w ws e = absurd cc
plain-command (Some keyword.Generate) w ws e = absurd cc

plain-common : (w : List ℕ) (ws : List (List ℕ)) → is_barred (keyword_in w) ≡ false
    → IsPlain (line_of_words (w ∷ ws))
plain-common w ws e = by (is_comment w)
  where
    by : (b : Bool) → IsPlain (if b then line.Skipped
        else unwrap_or (command_of (keyword_in w) w ws) line.Unreadable)
    by true = tt
    by false = plain-command (keyword_in w) w ws e

plain-named : (w : List ℕ) (ws : LineWords) → is_some (kind_in w) ≡ true
    → IsPlain (line_of_words (w ∷ ws))
plain-named w ws =
    let P : List ℕ → Type 0 = λ v. IsPlain (line_of_words (v ∷ ws)) in
    chosen w (codes "alloc") _ _ P (plain-one (alloc_in ws) _) (
    chosen w (codes "free") _ _ P (plain-one (free_in ws) _) (
    chosen w (codes "realloc") _ _ P (plain-one (realloc_in ws) _) (
    chosen w (codes "give") _ _ P (plain-one (give_in ws) _) (
    chosen w (codes "take") _ _ P (plain-one (take_in ws) _) (
    chosen w (codes "info") _ _ P (plain-one _ _) (
    chosen w (codes "idle") _ _ P (plain-one _ _) (λ e. absurd cc)))))))

plain-names : (ws : LineWords) → names_operation ws ≡ true → IsPlain (line_of_words ws)
plain-names [] e = absurd cc
plain-names (w ∷ ws) e = plain-named w ws e

plain-either : (b : Bool) (ws : LineWords) → IsPlain (line_of_words ws)
    → IsPlain (line_of_words (if b then ws else []))
plain-either true ws h = h
plain-either false ws h = tt

-- the lines of a type are plain, where none is wrong by itself

not-barred : (barred rest : Bool) → (barred || rest) ≡ false → barred ≡ false
not-barred true rest e = absurd cc
not-barred false rest e = refl

plain-left : (x : Letter) (types : List Letter) (inside : Bool) (l : LineWords)
    → is_wrong types inside l ≡ false → IsPlain (line_of_words (left_of x inside l))
plain-left x types inside [] e = tt
plain-left x types inside (w ∷ ws) e = by (is_own inside (w ∷ ws)) refl
  where
    by : (b : Bool) → is_own inside (w ∷ ws) ≡ b
        → IsPlain (line_of_words (left_of x inside (w ∷ ws)))
    by false o = subst (λ m. IsPlain (line_of_words m)) (sym (common-left x inside (w ∷ ws) o))
        (plain-common w ws (not-barred (is_barred (keyword_in w)) (is_own inside (w ∷ ws)
        && not (is_letter_of types w && names_operation ws)) e))
    by true o = subst (λ m. IsPlain (line_of_words m)) (sym (own-words x inside w ws o))
        (plain-either (bytes_eq w (letter_word x)) ws (plain-names ws
        (named-own (is_barred (keyword_in w)) (is_own inside (w ∷ ws)) (is_letter_of types w)
        (names_operation ws) e o)))

plain-on : (x : Letter) (types : List Letter) (number : ℕ) (inside : Bool) (ls : WordLines)
    → wrong_at types number inside ls ≡ None
    → ArePlain (map line_of_words (left_on x inside ls))
plain-on x types number inside [] e = tt
plain-on x types number inside (l ∷ ls) e =
    let fine = fine-line types number inside l ls e (is_wrong types inside l) refl in (
      plain-left x types inside l fine,
      plain-on x types (number + 1) (inside_after inside l) ls
          (sym (fine-more types number inside l ls fine) ∙ e),
    )

plain-after : (before p : WordLines) → AllByRecursion (λ l. is_skipped l ≡ true) before
    → ArePlain (map line_of_words p) → ArePlain (map line_of_words (before ++ p))
plain-after [] p s h = h
plain-after (l ∷ before) p s h = (
  subst IsPlain (sym (skipped-line l s.0)) tt,
  plain-after before p s.1 h,
)

plain-from : (x : Letter) (types : List Letter) (number : ℕ) (l : LineWords) (after : WordLines)
    → wrong_at types number false after ≡ None
    → ArePlain (map line_of_words (projection_from x (l ∷ after)))
plain-from x types number l after e = (
  subst IsPlain (sym (type-said x)) tt,
  plain-on x types number false after e,
)

plain-projection : (x : Letter) (types : List Letter) (ls : WordLines) → AreFine types ls
    → ArePlain (map line_of_words (projection x ls))
plain-projection x types ls h = plain-after (before_first ls) (projection_from x (from_first ls))
    (recursion_from_All (λ l. is_skipped l ≡ true) (before_first ls) (before-skipped ls))
    (rw h.from (plain-from x types h.number h.first h.after h.fine))

-- so is its trace

given-mode : (turns : List Turns) (m k : Mode) → IsGiven m → plain_mode k ≡ with_turns turns m
    → (seed count : ℕ) → k ≡ mode.Generated seed count → ⊥
given-mode turns mode.Threads k h e seed count g =
    let no : plain_mode (mode.Generated seed count) ≡ mode.Threads = sym (ap plain_mode g) ∙ e in
    absurd cc
given-mode turns (mode.Schedule ts) k h e seed count g =
    let no : plain_mode (mode.Generated seed count) ≡ mode.Schedule (listed turns) =
    sym (ap plain_mode g) ∙ e in absurd cc
given-mode turns (mode.Generated a b) k h e seed count g = absurd h

pub record IsOrdinary (t : Trace) : Type 0 where
  pub stops : t.stops.items ≡ []
  pub given : (seed count : ℕ) → t.mode ≢ mode.Generated seed count

ordinary : (n : ℕ) (ls : WordLines) (t : Trace) → ArePlain (map line_of_words ls)
    → trace_of n ls ≡ Ok (plain t) → IsOrdinary t
ordinary n ls t h e =
    let m = read-mode n [] (map line_of_words ls) (plain t) e in
    let all = plain-lines [] (map line_of_words ls) tt h in
    record {
      stops = ap (λ s. s.items) m.stops ∙ plain-stops (all_lines [] (map line_of_words ls)) all;
      given = given-mode _ m.mode t.mode (subst IfGiven m.said
          (plain-mode (all_lines [] (map line_of_words ls)) all)) m.same;
    }

ordinary-from : (n : ℕ) (all : List Letter) (ls : WordLines) → AreFine all ls
    → (xs : List Letter) (ts : List Trace)
    → traces_by n (λ x. projection x ls) xs ≡ Ok (map plain ts) → AllByRecursion IsOrdinary ts
ordinary-from n all ls fine xs [] e = tt
ordinary-from n all ls fine [] (t ∷ ts) e = absurd cc
ordinary-from n all ls fine (x ∷ xs) (t ∷ ts) e =
    let p = parted (trace_of n (projection x ls)) (traces_by n (λ y. projection y ls) xs) (plain t)
    (map plain ts) e in (
      ordinary n (projection x ls) t (plain-projection x all ls fine) p.one,
      ordinary-from n all ls fine xs ts p.others,
    )

weaker : {A : Type 0} (P Q : A → Type 0) → ((x : A) → P x → Q x) → (xs : List A)
    → AllByRecursion P xs → AllByRecursion Q xs
weaker P Q f [] h = tt
weaker P Q f (x ∷ xs) h = (f x h.0, weaker P Q f xs h.1)

pub all-unstopped : (n : ℕ) (types : List Letter) (ls : WordLines) → AreFine types ls
    → (ts : List Trace) → traces_by n (λ x. projection x ls) types ≡ Ok (map plain ts)
    → AreUnstopped ts
all-unstopped n types ls fine ts e = All-from_recursion (λ t. t.stops.items ≡ []) ts
    (weaker IsOrdinary (λ t. t.stops.items ≡ []) (λ t o. o.stops) ts
    (ordinary-from n types ls fine types ts e))

pub all-given : (n : ℕ) (types : List Letter) (ls : WordLines) → AreFine types ls
    → (ts : List Trace) → traces_by n (λ x. projection x ls) types ≡ Ok (map plain ts)
    → AreGiven ts
all-given n types ls fine ts e =
    All-from_recursion (λ t. (seed count : ℕ) → t.mode ≢ mode.Generated seed count) ts
    (weaker IsOrdinary (λ t. (seed count : ℕ) → t.mode ≢ mode.Generated seed count)
    (λ t o. o.given) ts (ordinary-from n types ls fine types ts e))

-- there is a trace of each type, and each place is that of a type

pub count-all : (n : ℕ) (lines : Letter → WordLines) (xs : List Letter) (ts : List Trace)
    → traces_by n lines xs ≡ Ok (map plain ts) → length ts ≡ length xs
count-all n lines [] [] e = refl
count-all n lines [] (t ∷ ts) e = absurd cc
count-all n lines (x ∷ xs) [] e = absurd (none (trace_of n (lines x)) (traces_by n lines xs) e)
  where
    none : (answer : Answer) (rest : Answers) → and_trace answer rest ≡ Ok [] → ⊥
    none (Ok t) (Ok us) h = absurd cc
    none (Ok t) (Err f) h = absurd cc
    none (Err f) rest h = absurd cc
count-all n lines (x ∷ xs) (t ∷ ts) e =
    let p = parted (trace_of n (lines x)) (traces_by n lines xs) (plain t) (map plain ts) e in
    ap suc (count-all n lines xs ts p.others)

abbrev pub IsPlaceIn : List Letter → ℕ → Type 0
IsPlaceIn types x = x < length types

place-listed : (types : List Letter) (w : List ℕ) (o : Option ℕ) → place_in types w ≡ o
    → AllByRecursion (IsPlaceIn types) (option_to_list o)
place-listed types w None e = tt
place-listed types w (Some k) e =
    let f = found-at (λ x. bytes_eq w (letter_word x)) 0 k types B e in
    (omega (arith, f.same, f.within), tt)

own-placed : (types : List Letter) (inside : Bool) (l : LineWords)
    → AllByRecursion (IsPlaceIn types) (own_place types inside l)
own-placed types inside [] = tt
own-placed types inside (w ∷ ws) = by (is_own inside (w ∷ ws))
  where
    by : (b : Bool) → AllByRecursion (IsPlaceIn types)
        (if b then option_to_list (place_in types w) else [])
    by true = place-listed types w (place_in types w) refl
    by false = tt

both-placed : (types : List Letter) (a b : List ℕ) → AllByRecursion (IsPlaceIn types) a
    → AllByRecursion (IsPlaceIn types) b → AllByRecursion (IsPlaceIn types) (a ++ b)
both-placed types [] b h k = k
both-placed types (x ∷ a) b h k = (h.0, both-placed types a b h.1 k)

section-placed : (types : List Letter) (inside : Bool) (ls : WordLines)
    → AllByRecursion (IsPlaceIn types) (places_in types inside ls)
section-placed types inside [] = tt
section-placed types inside (l ∷ ls) = by (begins l)
    (section-placed types (inside_after inside l) ls)
  where
    by : (b : Bool) → AllByRecursion (IsPlaceIn types) (places_in types (inside_after inside l) ls)
        → AllByRecursion (IsPlaceIn types) (if b then []
        else own_place types inside l ++ places_in types (inside_after inside l) ls)
    by true h = tt
    by false h = both-placed types (own_place types inside l)
        (places_in types (inside_after inside l) ls) (own-placed types inside l) h

all-placed : (types : List Letter) (ls : WordLines)
    → AllByRecursion (λ part. All (IsPlaceIn types) part) (parts_of types ls)
all-placed types [] = tt
all-placed types (l ∷ ls) = by (begins l) (all-placed types ls)
  where
    by : (b : Bool) → AllByRecursion (λ part. All (IsPlaceIn types) part) (parts_of types ls)
        → AllByRecursion (λ part. All (IsPlaceIn types) part)
        (if b then places_in types true ls ∷ parts_of types ls else parts_of types ls)
    by true h = (
      All-from_recursion (IsPlaceIn types) (places_in types true ls)
          (section-placed types true ls),
      h,
    )
    by false h = h

pub are-parts : (types : List Letter) (ls : WordLines) → AreParts (length types) (parts_of types ls)
are-parts types ls = All-from_recursion (λ part. All (IsPlaceIn types) part) (parts_of types ls)
    (all-placed types ls)
