-- No trace of a type is generated, so each has a text of each scheduler.
use Rattle.std.proofs.Common.{◌≡◌, ℕ, ◌+◌, Bool, true, false, List, [], ◌∷◌, ◌++◌, Option, Some}
use Rattle.std.proofs.Common.{None, Ok, if◌then◌else◌, bytes_eq, length, map, refl, sym, subst, ◌∙◌}
use Rattle.std.specs.Prelude.{◌||◌, unwrap_or}
use Rattle.std.specs.List.{All, AllByRecursion}
use Rattle.std.specs.Option.{option_and_then, option_map}
use Rattle.std.proofs.lemmas.List.{length-map}
use Rattle.std.proofs.lemmas.List.Elements.{All-from_recursion, recursion_from_All}
use Rattle.ea_model.specs.Trace.{HasTexts, IsValidTrace, plain, plain_mode, texts_of}
use Rattle.ea_model.specs.declared.operations.Op.{Op}
use Rattle.ea_model.specs.declared.settings.Letter.{Letter}
use Rattle.ea_model.specs.declared.trace.Mode.{Mode}
use Rattle.ea_model.specs.declared.trace.Mode.TheVariants as mode
use Rattle.ea_model.specs.declared.trace.Trace.{Trace}
use Rattle.ea_model.specs.declared.trace.Turns.{Turns}
use Rattle.ea_trace.specs.Language.{LineWords, WordLines, mode_after, trace_of, turns_after}
use Rattle.ea_trace.specs.Language.{with_turns}
use Rattle.ea_trace.specs.Lines.{Said, bare, command, command_of, is_comment, keyword_in, letter_in}
use Rattle.ea_trace.specs.Lines.{letter_line, letter_word, line_of_words, one_of, only_word}
use Rattle.ea_trace.specs.Lines.{operation_in}
use Rattle.ea_trace.specs.Lines.{scheduler_in, section_line, turns_in, type_line}
use Rattle.ea_trace.specs.declared.keywords.Keyword.{Keyword}
use Rattle.ea_trace.specs.declared.keywords.Keyword.TheVariants as keyword
use Rattle.ea_trace.specs.declared.lines.Line.TheVariants as line
use Rattle.ea_types.specs.Input.{HaveTexts}
use Rattle.ea_types.specs.Language.{before_first, is_barred, is_own, is_skipped, is_wrong, left_of}
use Rattle.ea_types.specs.Language.{inside_after, is_letter_of, left_on, names_operation}
use Rattle.ea_types.specs.Language.{projection, traces_by, wrong_at}
use Rattle.ea_types.proofs.Beginning.{before-skipped, skipped-line, type-said}
use Rattle.ea_types.proofs.Modes.{AreFine, IsQuiet, all_lines, fine-line, named-own}
use Rattle.ea_types.proofs.Modes.{parted}
use Rattle.ea_types.proofs.Modes.{quiet-either, quiet-names, read-mode}
use Rattle.ea_types.proofs.Steps.{common-left, fine-more, own-words}

-- a mode, if there is one, in which no operations are generated
abbrev pub IsGiven : Option Mode → Type 0
IsGiven None = Unit {0}
IsGiven (Some mode.Threads) = Unit {0}
IsGiven (Some (mode.Schedule turns)) = Unit {0}
IsGiven (Some (mode.Generated seed count)) = ⊥

-- a line that generates none
record KeepsGiven (m : Said) : Type 0 where
  after : (older : List Said) → IsGiven (mode_after older) → IsGiven (mode_after (m ∷ older))

keeps-quiet : (m : Said) → IsQuiet m → KeepsGiven m
keeps-quiet m q = record { after = λ older h. subst IsGiven (sym (q.mode older)) h }

keeps-bare : (m : Said) (ws : LineWords) → KeepsGiven m
    → KeepsGiven (unwrap_or (bare m ws) line.Unreadable)
keeps-bare m [] h = h
keeps-bare m (w ∷ ws) h = record { after = λ older g. g }

keeps-letter : (o : Option Letter)
    → KeepsGiven (unwrap_or (option_map letter_line o) line.Unreadable)
keeps-letter None = record { after = λ older g. g }
keeps-letter (Some x) = record { after = λ older g. g }

keeps-section : (o : Option ℕ) → KeepsGiven (unwrap_or (option_map section_line o) line.Unreadable)
keeps-section None = record { after = λ older g. g }
keeps-section (Some x) = record { after = λ older g. g }

keeps-other : (o : Option Op) (ts : Option (List Turns))
    → KeepsGiven (unwrap_or (one_of o ts) line.Unreadable)
keeps-other (Some op) ts = record { after = λ older g. g }
keeps-other None None = record { after = λ older g. g }
keeps-other None (Some ts) = record { after = λ older g. g }

keeps-by : (k : Option Keyword) (w : List ℕ) (ws : LineWords) → is_barred k ≡ false
    → KeepsGiven (unwrap_or (command_of k w ws) line.Unreadable)
keeps-by None w ws e = keeps-other (operation_in w ws) (turns_in (w ∷ ws))
keeps-by (Some keyword.Letter) w ws e = keeps-letter (option_and_then letter_in (only_word ws))
keeps-by (Some keyword.Section) w ws e = keeps-section (option_and_then scheduler_in (only_word ws))
keeps-by (Some keyword.Stop) w ws e = absurd cc
keeps-by (Some keyword.Threads) w ws e = keeps-bare line.Threads ws
    (record { after = λ older g. tt })
keeps-by (Some keyword.Schedule) w ws e = keeps-bare line.Schedule ws
    (record { after = λ older g. tt })
keeps-by (Some keyword.Generate) w ws e = absurd cc
keeps-by (Some keyword.End) w ws e = keeps-bare line.End ws (record { after = λ older g. g })

keeps-words : (comment : Bool) (w : List ℕ) (ws : LineWords) → is_barred (keyword_in w) ≡ false
    → KeepsGiven (if comment then line.Skipped else unwrap_or (command w ws) line.Unreadable)
keeps-words true w ws e = record { after = λ older g. g }
keeps-words false w ws e = keeps-by (keyword_in w) w ws e

barred-none : (barred rest : Bool) → (barred || rest) ≡ false → barred ≡ false
barred-none true rest e = absurd cc
barred-none false rest e = refl

keeps-left : (x : Letter) (types : List Letter) (inside : Bool) (l : LineWords)
    → is_wrong types inside l ≡ false → (o : Bool) → is_own inside l ≡ o
    → KeepsGiven (line_of_words (left_of x inside l))
keeps-left x types inside [] e o q = record { after = λ older g. g }
keeps-left x types inside (w ∷ ws) e false q =
    subst (λ m. KeepsGiven (line_of_words m)) (sym (common-left x inside (w ∷ ws) q))
    (keeps-words (is_comment w) w ws (barred-none (is_barred (keyword_in w)) _ e))
keeps-left x types inside (w ∷ ws) e true q =
    let named = named-own (is_barred (keyword_in w)) (is_own inside (w ∷ ws))
    (is_letter_of types w) (names_operation ws) e q in
    subst (λ m. KeepsGiven (line_of_words m)) (sym (own-words x inside w ws q))
    (keeps-quiet _ (quiet-either (bytes_eq w (letter_word x)) ws (quiet-names ws named)))

keeps-on : (x : Letter) (types : List Letter) (number : ℕ) (inside : Bool) (ls : WordLines)
    → wrong_at types number inside ls ≡ None
    → AllByRecursion KeepsGiven (map line_of_words (left_on x inside ls))
keeps-on x types number inside [] e = tt
keeps-on x types number inside (l ∷ ls) e =
    let fine = fine-line types number inside l ls e (is_wrong types inside l) refl in (
      keeps-left x types inside l fine (is_own inside l) refl,
      keeps-on x types (number + 1) (inside_after inside l) ls
          (sym (fine-more types number inside l ls fine) ∙ e),
    )

keeps-before : (before ps : WordLines) → AllByRecursion (λ l. is_skipped l ≡ true) before
    → AllByRecursion KeepsGiven (map line_of_words ps)
    → AllByRecursion KeepsGiven (map line_of_words (before ++ ps))
keeps-before [] ps s h = h
keeps-before (l ∷ before) ps s h = (
  subst KeepsGiven (sym (skipped-line l s.0)) (record { after = λ older g. g }),
  keeps-before before ps s.1 h,
)

keeps-projection : (x : Letter) (types : List Letter) (ls : WordLines) → AreFine types ls
    → AllByRecursion KeepsGiven (map line_of_words (projection x ls))
keeps-projection x types ls fine = rw fine.from (keeps-before (before_first ls)
    (type_line x ∷ left_on x false fine.after)
    (recursion_from_All (λ l. is_skipped l ≡ true) (before_first ls) (before-skipped ls)) (
      subst KeepsGiven (sym (type-said x)) (record { after = λ older g. g }),
      keeps-on x types fine.number false fine.after fine.fine,
    ))

given-lines : (ms earlier : List Said) → AllByRecursion KeepsGiven ms
    → IsGiven (mode_after earlier) → IsGiven (mode_after (all_lines earlier ms))
given-lines [] earlier k h = h
given-lines (m ∷ ms) earlier k h = given-lines ms (m ∷ earlier) k.1 (k.0.after earlier h)

given-turns : (ts : List Turns) (m : Mode) → IsGiven (Some m) → IsGiven (Some (with_turns ts m))
given-turns ts mode.Threads h = tt
given-turns ts (mode.Schedule turns) h = tt
given-turns ts (mode.Generated seed count) h = h

given-trace : (n : ℕ) (x : Letter) (types : List Letter) (ls : WordLines) (t : Trace)
    → AreFine types ls → trace_of n (projection x ls) ≡ Ok t → IsGiven (Some t.mode)
given-trace n x types ls t fine e =
    let ms = map line_of_words (projection x ls) in
    let m = read-mode n [] ms t e in
    let given : IsGiven (Some m.mode) = subst IsGiven m.said
    (given-lines ms [] (keeps-projection x types ls fine) tt) in
    subst (λ k. IsGiven (Some k)) (sym m.same) (given-turns (turns_after (all_lines [] ms)) m.mode
    given)

given-texts : (n : ℕ) (m : Mode) (texts : List (List Op)) → IsGiven (Some (plain_mode m))
    → HasTexts n m texts → length texts ≡ n
given-texts n mode.Threads texts g h = h
given-texts n (mode.Schedule turns) texts g h = h
given-texts n (mode.Generated seed count) texts g h = absurd g

all-given : (n : ℕ) (types : List Letter) (ls : WordLines) → AreFine types ls → (xs : List Letter)
    (ts : List Trace) → traces_by n (λ x. projection x ls) xs ≡ Ok (map plain ts)
    → AllByRecursion (IsValidTrace n) ts
    → AllByRecursion (λ t. length t.texts.items ≡ n) ts
all-given n types ls fine xs [] e v = tt
all-given n types ls fine [] (t ∷ ts) e v = absurd cc
all-given n types ls fine (x ∷ xs) (t ∷ ts) e v =
    let p = parted (trace_of n (projection x ls)) (traces_by n (λ y. projection y ls) xs) (plain t)
    (map plain ts) e in (
      sym (length-map t.texts.items (λ text. text.items)) ∙ given-texts n t.mode (texts_of t)
          (given-trace n x types ls (plain t) fine p.one) v.0.texts,
      all-given n types ls fine xs ts p.others v.1,
    )

-- each trace has a text of each scheduler
pub all-texts : (n : ℕ) (types : List Letter) (ls : WordLines) → AreFine types ls
    → (xs : List Letter) (ts : List Trace)
    → traces_by n (λ x. projection x ls) xs ≡ Ok (map plain ts) → All (IsValidTrace n) ts
    → HaveTexts n ts
all-texts n types ls fine xs ts e v = All-from_recursion (λ t. length t.texts.items ≡ n) ts
    (all-given n types ls fine xs ts e (recursion_from_All (IsValidTrace n) ts v))
