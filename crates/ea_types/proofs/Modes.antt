-- All types have the same mode: their lines differ only in operations.
use Rattle.std.proofs.Common.{◌≡◌, ℕ, ◌+◌, ◌++◌, ◌⊎◌, inl, inr, Bool, true, false, List, [], ◌∷◌}
use Rattle.std.proofs.Common.{Option, Some, None, Ok, Err, bytes_eq, codes, is_some, map, refl, sym}
use Rattle.std.proofs.Common.{ap, subst, ◌∙◌, if◌then◌else◌}
use Rattle.std.specs.Prelude.{not, unwrap_or, ◌&&◌, ◌||◌}
use Rattle.std.specs.List.{AllByRecursion, find}
use Rattle.std.proofs.lemmas.List.Elements.{All-from_recursion}
use Rattle.std.proofs.lemmas.Slice.Eq.{bytes_eq-Decides}
use Rattle.ea_model.specs.Trace.{listed, plain, plain_mode}
use Rattle.ea_model.specs.declared.operations.Op.{Op}
use Rattle.ea_model.specs.declared.settings.Letter.{Letter}
use Rattle.ea_model.specs.declared.settings.Letter.TheVariants.{B, D, E, H, L, R, S, T}
use Rattle.ea_model.specs.declared.trace.Mode.{Mode}
use Rattle.ea_model.specs.declared.trace.Trace.{Trace}
use Rattle.ea_trace.specs.Language.{Answer, LineWords, WordLines, addressed_or, at_end}
use Rattle.ea_trace.specs.Language.{is_unaddressed, letter_after, mode_after, read_after, refusal}
use Rattle.ea_trace.specs.Language.{refused_or, stage_after, stops_after, takes_in, trace_from}
use Rattle.ea_trace.specs.Language.{trace_of}
use Rattle.ea_trace.specs.Language.{turns_after, with_turns}
use Rattle.ea_trace.specs.Lines.{Said, alloc_in, free_in, give_in}
use Rattle.ea_trace.specs.Lines.{keyword_in, kind_in, letter_word, line_of_words, one_of}
use Rattle.ea_trace.specs.Lines.{realloc_in, take_in, type_line}
use Rattle.ea_types.specs.Input.{HaveOneMode}
use Rattle.ea_types.specs.Language.{Answers, and_trace, before_first, from_first, inside_after}
use Rattle.ea_types.specs.Language.{is_barred, is_letter_of, is_own, is_wrong, left_of, left_on}
use Rattle.ea_types.specs.Language.{names_operation, projection, projection_from, traces_by}
use Rattle.ea_types.specs.Language.{wrong_at}
use Rattle.ea_types.proofs.Steps.{common-left, fine-more, own-words, wrong-here}
use Rattle.ea_trace.specs.declared.fault.TraceFault.{TraceFault}
use Rattle.ea_trace.specs.declared.keywords.OpKind.{OpKind}
use Rattle.ea_trace.specs.declared.lines.Line.TheVariants as line
use Rattle.ea_trace.specs.declared.stages.Stage.{Stage}
use Rattle.ea_trace.specs.declared.stages.Stage.TheVariants as at
use Rattle.ea_trace.specs.declared.takes.TakeLine.{TakeLine}

-- the lines after some, newest first
abbrev pub all_lines : List Said → List Said → List Said
all_lines earlier [] = earlier
all_lines earlier (l ∷ ls) = all_lines (l ∷ earlier) ls

-- the mode and the stops of a trace are those of its lines
pub record HasMode (lines : List Said) (t : Trace) : Type 0 where
  pub mode : Mode
  pub said : mode_after lines ≡ Some mode
  pub same : t.mode ≡ with_turns (turns_after lines) mode
  pub stops : t.stops ≡ listed (stops_after lines)

addressed-mode : (found : Option TakeLine) (t u : Trace) → addressed_or found t ≡ Ok u → t ≡ u
addressed-mode None t u e = cc
addressed-mode (Some take) t u e = absurd cc

end-mode : (stage : Stage) (letter : Option Letter) (m : Option Mode) (lines : List Said)
    (t : Trace) → mode_after lines ≡ m → at_end stage letter m lines ≡ Ok t → HasMode lines t
end-mode at.Start letter m lines t e h = absurd cc
end-mode at.Opening letter m lines t e h = absurd cc
end-mode at.Turns letter m lines t e h = absurd cc
end-mode at.Closing letter m lines t e h = absurd cc
end-mode at.Ended None m lines t e h = absurd cc
end-mode at.Ended (Some letter) None lines t e h = absurd cc
end-mode at.Ended (Some letter) (Some m) lines t e h = record {
  mode = m;
  said = e;
  same = sym (ap (λ u. u.mode) (addressed-mode (find (is_unaddressed lines) (takes_in lines))
      (trace_from letter m lines) t h));
  stops = sym (ap (λ u. u.stops) (addressed-mode (find (is_unaddressed lines) (takes_in lines))
      (trace_from letter m lines) t h));
}

not-refused : (found : Option TraceFault) (read : Answer) (t : Trace)
    → refused_or found read ≡ Ok t → read ≡ Ok t
not-refused None read t h = h
not-refused (Some fault) read t h = absurd cc

pub read-mode : (n : ℕ) (earlier later : List Said) (t : Trace) → read_after n earlier later ≡ Ok t
    → HasMode (all_lines earlier later) t
read-mode n earlier [] t h = end-mode (stage_after earlier) (letter_after earlier)
    (mode_after earlier) earlier t refl h
read-mode n earlier (l ∷ later) t h = read-mode n (l ∷ earlier) later t
    (not-refused (refusal n earlier l) (read_after n (l ∷ earlier) later) t h)

-- a line that says nothing of the mode
pub record IsQuiet (l : Said) : Type 0 where
  pub mode : (older : List Said) → mode_after (l ∷ older) ≡ mode_after older
  pub turns : (older : List Said) → turns_after (l ∷ older) ≡ turns_after older

quiet-skipped : IsQuiet line.Skipped
quiet-skipped = record { mode = λ older. refl; turns = λ older. refl }

quiet-unreadable : IsQuiet line.Unreadable
quiet-unreadable = record { mode = λ older. refl; turns = λ older. refl }

quiet-operation : (o : Op) → IsQuiet (line.Operation o)
quiet-operation o = record { mode = λ older. refl; turns = λ older. refl }

quiet-letter : (x : Letter) → IsQuiet (line.Letter x)
quiet-letter x = record { mode = λ older. refl; turns = λ older. refl }

-- lines that are the same, or say nothing of the mode
abbrev pub AreAlike : Said → Said → Type 0
AreAlike a b = (a ≡ b) ⊎ (IsQuiet a × IsQuiet b)

abbrev pub AllAlike : List Said → List Said → Type 0
AllAlike [] [] = Unit {0}
AllAlike [] (m ∷ ms) = ⊥
AllAlike (l ∷ ls) [] = ⊥
AllAlike (l ∷ ls) (m ∷ ms) = AreAlike l m × AllAlike ls ms

record SameModes (a b : List Said) : Type 0 where
  mode : mode_after a ≡ mode_after b
  turns : turns_after a ≡ turns_after b

same-line : (l : Said) (a b : List Said) → SameModes a b → SameModes (l ∷ a) (l ∷ b)
same-line line.Skipped a b h = record { mode = h.mode; turns = h.turns }
same-line (line.Letter letter) a b h = record { mode = h.mode; turns = h.turns }
same-line (line.Section number) a b h = record { mode = h.mode; turns = h.turns }
same-line (line.Operation op) a b h = record { mode = h.mode; turns = h.turns }
same-line (line.Stop stop) a b h = record { mode = h.mode; turns = h.turns }
same-line line.Threads a b h = record { mode = refl; turns = h.turns }
same-line line.Schedule a b h = record { mode = refl; turns = h.turns }
same-line (line.Turns turns) a b h = record {
  mode = h.mode;
  turns = ap (λ ts. ts ++ turns) h.turns;
}
same-line (line.Generate seed count) a b h = record { mode = refl; turns = h.turns }
same-line line.End a b h = record { mode = h.mode; turns = h.turns }
same-line line.Unreadable a b h = record { mode = h.mode; turns = h.turns }

alike-line : (l m : Said) (a b : List Said) → AreAlike l m → SameModes a b
    → SameModes (l ∷ a) (m ∷ b)
alike-line l m a b (inl e) h = subst (λ k. SameModes (l ∷ a) (k ∷ b)) e (same-line l a b h)
alike-line l m a b (inr q) h = record {
  mode = q.0.mode a ∙ h.mode ∙ sym (q.1.mode b);
  turns = q.0.turns a ∙ h.turns ∙ sym (q.1.turns b);
}

alike-modes : (ls ms a b : List Said) → AllAlike ls ms → SameModes a b
    → SameModes (all_lines a ls) (all_lines b ms)
alike-modes [] [] a b k h = h
alike-modes [] (m ∷ ms) a b k h = absurd k
alike-modes (l ∷ ls) [] a b k h = absurd k
alike-modes (l ∷ ls) (m ∷ ms) a b k h = alike-modes ls ms (l ∷ a) (m ∷ b) k.1
    (alike-line l m a b k.0 h)

-- traces of lines that are alike have the same mode
pub alike-traces : (n : ℕ) (ls ms : WordLines) (t u : Trace)
    → AllAlike (map line_of_words ls) (map line_of_words ms) → trace_of n ls ≡ Ok t
    → trace_of n ms ≡ Ok u → t.mode ≡ u.mode
alike-traces n ls ms t u k h g =
    let a = read-mode n [] (map line_of_words ls) t h in
    let b = read-mode n [] (map line_of_words ms) u g in
    let same = alike-modes (map line_of_words ls) (map line_of_words ms) [] []
    k (record { mode = refl; turns = refl }) in
    let mode : a.mode ≡ b.mode = some-same a.mode b.mode (sym a.said ∙ same.mode ∙ b.said) in
    a.same ∙ rw (same.turns, mode) refl ∙ sym b.same
  where
    some-same : (x y : Mode) → Some x ≡ Some y → x ≡ y
    some-same x y e = cc

-- a line that begins with the name of an operation says nothing of the mode

pub chosen : (w v : List ℕ) (k : OpKind) (rest : Option OpKind) (P : List ℕ → Type 0) → P v
    → (is_some rest ≡ true → P w) → is_some (if bytes_eq w v then Some k else rest) ≡ true → P w
chosen w v k rest P h g = by (bytes_eq w v) refl
  where
    by : (b : Bool) → bytes_eq w v ≡ b → is_some (if b then Some k else rest) ≡ true → P w
    by true e s = subst P (sym ((bytes_eq-Decides w v).0 e)) h
    by false e s = g s

quiet-one : (o : Option Op) → IsQuiet (unwrap_or (one_of o None) line.Unreadable)
quiet-one None = quiet-unreadable
quiet-one (Some o) = quiet-operation o

pub quiet-named : (w : List ℕ) (ws : LineWords) → is_some (kind_in w) ≡ true
    → IsQuiet (line_of_words (w ∷ ws))
quiet-named w ws =
    let P : List ℕ → Type 0 = λ v. IsQuiet (line_of_words (v ∷ ws)) in
    chosen w (codes "alloc") _ _ P (quiet-one (alloc_in ws)) (
    chosen w (codes "free") _ _ P (quiet-one (free_in ws)) (
    chosen w (codes "realloc") _ _ P (quiet-one (realloc_in ws)) (
    chosen w (codes "give") _ _ P (quiet-one (give_in ws)) (
    chosen w (codes "take") _ _ P (quiet-one (take_in ws)) (
    chosen w (codes "info") _ _ P (quiet-one _) (
    chosen w (codes "idle") _ _ P (quiet-one _) (λ e. absurd cc)))))))

-- the lines of two types are alike

pub quiet-either : (b : Bool) (ws : LineWords) → IsQuiet (line_of_words ws)
    → IsQuiet (line_of_words (if b then ws else []))
quiet-either true ws q = q
quiet-either false ws q = quiet-skipped

pub quiet-names : (ws : LineWords) → names_operation ws ≡ true → IsQuiet (line_of_words ws)
quiet-names [] e = absurd cc
quiet-names (w ∷ ws) e = quiet-named w ws e

pub named-own : (barred own letter named : Bool)
    → (barred || (own && not (letter && named))) ≡ false → own ≡ true → named ≡ true
named-own true own letter named e o = absurd cc
named-own false own letter true e o = refl
named-own false false letter false e o = absurd cc
named-own false true true false e o = absurd cc
named-own false true false false e o = absurd cc

alike-left : (x y : Letter) (types : List Letter) (inside : Bool) (l : LineWords)
    → is_wrong types inside l ≡ false
    → AreAlike (line_of_words (left_of x inside l)) (line_of_words (left_of y inside l))
alike-left x y types inside [] e = inl refl
alike-left x y types inside (w ∷ ws) e = by (is_own inside (w ∷ ws)) refl
  where
    by : (b : Bool) → is_own inside (w ∷ ws) ≡ b → AreAlike
        (line_of_words (left_of x inside (w ∷ ws))) (line_of_words (left_of y inside (w ∷ ws)))
    by false o = inl (ap line_of_words (common-left x inside (w ∷ ws) o
        ∙ sym (common-left y inside (w ∷ ws) o)))
    by true o =
        let q = quiet-names ws (named-own (is_barred (keyword_in w)) (is_own inside (w ∷ ws))
        (is_letter_of types w) (names_operation ws) e o) in
        inr (
          subst (λ m. IsQuiet (line_of_words m)) (sym (own-words x inside w ws o))
              (quiet-either (bytes_eq w (letter_word x)) ws q),
          subst (λ m. IsQuiet (line_of_words m)) (sym (own-words y inside w ws o))
              (quiet-either (bytes_eq w (letter_word y)) ws q),
        )

-- a line among those of which none is wrong isn't
pub fine-line : (types : List Letter) (number : ℕ) (inside : Bool) (l : LineWords) (ls : WordLines)
    → wrong_at types number inside (l ∷ ls) ≡ None → (b : Bool) → is_wrong types inside l ≡ b
    → is_wrong types inside l ≡ false
fine-line types number inside l ls e true w = absurd
    (let some = wrong-here types number inside l ls w in cc)
fine-line types number inside l ls e false w = w

alike-on : (x y : Letter) (types : List Letter) (number : ℕ) (inside : Bool) (ls : WordLines)
    → wrong_at types number inside ls ≡ None
    → AllAlike (map line_of_words (left_on x inside ls)) (map line_of_words (left_on y inside ls))
alike-on x y types number inside [] e = tt
alike-on x y types number inside (l ∷ ls) e =
    let fine = fine-line types number inside l ls e (is_wrong types inside l) refl in (
      alike-left x y types inside l fine,
      alike-on x y types (number + 1) (inside_after inside l) ls
          (sym (fine-more types number inside l ls fine) ∙ e),
    )

alike-after : (before p q : WordLines) → AllAlike (map line_of_words p) (map line_of_words q)
    → AllAlike (map line_of_words (before ++ p)) (map line_of_words (before ++ q))
alike-after [] p q h = h
alike-after (l ∷ before) p q h = (inl refl, alike-after before p q h)

quiet-type : (x : Letter) → IsQuiet (line_of_words (type_line x))
quiet-type B = quiet-letter B
quiet-type D = quiet-letter D
quiet-type E = quiet-letter E
quiet-type H = quiet-letter H
quiet-type L = quiet-letter L
quiet-type R = quiet-letter R
quiet-type S = quiet-letter S
quiet-type T = quiet-letter T

alike-from : (x y : Letter) (types : List Letter) (number : ℕ) (l : LineWords)
    (after : WordLines) → wrong_at types number false after ≡ None
    → AllAlike (map line_of_words (projection_from x (l ∷ after)))
    (map line_of_words (projection_from y (l ∷ after)))
alike-from x y types number l after e = (
  inr (quiet-type x, quiet-type y),
  alike-on x y types number false after e,
)

-- lines of which none is wrong by itself
pub record AreFine (types : List Letter) (ls : WordLines) : Type 0 where
  pub number : ℕ
  pub first : LineWords
  pub after : WordLines
  pub from : from_first ls ≡ first ∷ after
  pub fine : wrong_at types number false after ≡ None

alike-projections : (x y : Letter) (types : List Letter) (ls : WordLines) → AreFine types ls
    → AllAlike (map line_of_words (projection x ls)) (map line_of_words (projection y ls))
alike-projections x y types ls h = alike-after (before_first ls) (projection_from x (from_first ls))
    (projection_from y (from_first ls)) (rw h.from
    (alike-from x y types h.number h.first h.after h.fine))

-- each trace, and those after it
pub record Parted (answer : Answer) (rest : Answers) (t : Trace) (ts : List Trace) : Type 0 where
  pub one : answer ≡ Ok t
  pub others : rest ≡ Ok ts

pub parted : (answer : Answer) (rest : Answers) (t : Trace) (ts : List Trace)
    → and_trace answer rest ≡ Ok (t ∷ ts) → Parted answer rest t ts
parted (Ok u) (Ok us) t ts e = record { one = cc; others = cc }
parted (Ok u) (Err f) t ts e = absurd cc
parted (Err f) rest t ts e = absurd cc

modes-from : (n : ℕ) (all : List Letter) (ls : WordLines) → AreFine all ls → (x : Letter)
    (t : Trace) → trace_of n (projection x ls) ≡ Ok (plain t) → (xs : List Letter)
    (us : List Trace) → traces_by n (λ y. projection y ls) xs ≡ Ok (map plain us)
    → AllByRecursion (λ u. plain_mode u.mode ≡ plain_mode t.mode) us
modes-from n all ls fine x t one xs [] e = tt
modes-from n all ls fine x t one [] (u ∷ us) e = absurd cc
modes-from n all ls fine x t one (y ∷ ys) (u ∷ us) e =
    let p = parted (trace_of n (projection y ls)) (traces_by n (λ z. projection z ls) ys) (plain u)
    (map plain us) e in (
      alike-traces n (projection y ls) (projection x ls) (plain u) (plain t)
          (alike-projections y x all ls fine) p.one one,
      modes-from n all ls fine x t one ys us p.others,
    )

-- all types have the mode of the first one
pub one-mode : (n : ℕ) (types : List Letter) (ls : WordLines) → AreFine types ls
    → (xs : List Letter) (ts : List Trace)
    → traces_by n (λ x. projection x ls) xs ≡ Ok (map plain ts) → HaveOneMode ts
one-mode n types ls fine xs [] e = tt
one-mode n types ls fine [] (t ∷ ts) e = absurd cc
one-mode n types ls fine (x ∷ xs) (t ∷ ts) e =
    let p = parted (trace_of n (projection x ls)) (traces_by n (λ y. projection y ls) xs) (plain t)
    (map plain ts) e in
    All-from_recursion (λ u. plain_mode u.mode ≡ plain_mode t.mode) ts
    (modes-from n types ls fine x t p.one xs ts p.others)
