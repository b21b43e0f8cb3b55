-- The lines before the first section: skipped ones, and the `types` line.
use Rattle.std.proofs.Common.{◌≡◌, ◌≢◌, ℕ, ◌+◌, ◌<◌, ◌==◌, ◌⊎◌, inl, inr, Bool, true, false, List}
use Rattle.std.proofs.Common.{[], ◌∷◌, ◌++◌, Some, None, if◌then◌else◌, bytes_eq, codes}
use Rattle.std.proofs.Common.{length, get_or, take, refl, sym, ap, subst, ◌∙◌, append_assoc, arith}
use Rattle.std.specs.Option.{option_and_then}
use Rattle.std.proofs.lemmas.Bool.{cases_eq}
use Rattle.std.proofs.lemmas.List.{take_more}
use Rattle.std.proofs.lemmas.List.Elements.{All-cons, All-get_or, All-nil}
use Rattle.std.proofs.lemmas.Slice.Eq.{bytes_eq-Decides}
use Rattle.ea_model.specs.declared.settings.Config.{Config}
use Rattle.ea_model.specs.declared.settings.Letter.{Letter}
use Rattle.ea_model.specs.declared.settings.Letter.TheVariants.{B, D, E, H, L, R, S, T}
use Rattle.ea_trace.specs.Language.{LineWords, WordLines}
use Rattle.ea_trace.specs.Lines.{is_comment, keyword_in, line_of_words, type_line}
use Rattle.ea_trace.specs.Taken.{HasTaken}
use Rattle.ea_trace.specs.declared.lines.Line.TheVariants as line
use Rattle.ea_trace.specs.declared.reader.TraceReader.{TraceReader}
use Rattle.ea_types.specs.Language.{AreSkipped, are_types, before_first, begins, begins_by}
use Rattle.ea_types.specs.Language.{from_first}
use Rattle.ea_types.specs.Language.{is_skipped, left_on, letters_in, parts_of}
use Rattle.ea_types.specs.Language.{projection_from, read_rest, traces_of, types_in}
use Rattle.ea_types.specs.Language.{types_of, wrong_at}
use Rattle.ea_types.specs.Reading.{BeginsWith, whole_of}

pub skipped-line : (l : LineWords) → is_skipped l ≡ true → line_of_words l ≡ line.Skipped
skipped-line [] e = refl
skipped-line (w ∷ ws) e = rw e refl

pub type-said : (x : Letter) → line_of_words (type_line x) ≡ line.Letter x
type-said B = refl
type-said D = refl
type-said E = refl
type-said H = refl
type-said L = refl
type-said R = refl
type-said S = refl
type-said T = refl

-- a skipped line more
pub skipped-more : (n : ℕ) (lines : WordLines) (k : ℕ) (r s : TraceReader) → AreSkipped lines
    → k < length lines → HasTaken n (take k lines) r
    → ((words : LineWords) → HasTaken n (take k lines) r → line.Skipped ≡ line_of_words words
    → HasTaken n (take k lines ++ words ∷ []) s) → HasTaken n (take (k + 1) lines) s
skipped-more n lines k r s skipped less h f =
    let next : is_skipped (get_or lines k []) ≡ true = All-get_or (λ l. is_skipped l ≡ true) lines k
    [] less skipped in
    subst (λ ls. HasTaken n ls s) (sym (take_more lines k [] less))
    (f (get_or lines k []) h (sym (skipped-line (get_or lines k []) next)))

one-skipped : (l : LineWords) (before : WordLines) → AreSkipped before → (b : Bool)
    → is_skipped l ≡ b → AreSkipped (if b then l ∷ before else [])
one-skipped l before h true e = All-cons (λ m. is_skipped m ≡ true) l before e h
one-skipped l before h false e = All-nil (λ m. is_skipped m ≡ true)

pub before-skipped : (ls : WordLines) → AreSkipped (before_first ls)
before-skipped [] = All-nil (λ l. is_skipped l ≡ true)
before-skipped (l ∷ ls) = one-skipped l (before_first ls) (before-skipped ls) (is_skipped l) refl

-- neither a comment nor the `types` line begins a section

-- a comment's first word is no keyword
pub comment-keyword : (w : List ℕ) → is_comment w ≡ true → keyword_in w ≡ None
comment-keyword [] e = absurd cc
comment-keyword (b ∷ bs) e = by (cases_eq b 35) e
  where
    by : (b ≡ 35) ⊎ (b ≢ 35) → (b == 35) ≡ true → keyword_in (b ∷ bs) ≡ None
    by (inl q) t = subst (λ k. keyword_in (k ∷ bs) ≡ None) (sym q) refl
    by (inr q) t = absurd (let no : (b == 35) ≡ false = grind arith in cc)

skipped-begins : (l : LineWords) → is_skipped l ≡ true → begins l ≡ false
skipped-begins [] e = refl
skipped-begins (w ∷ ws) e = ap begins_by (comment-keyword w e)

types-begins : (l : LineWords) (types : List Letter) → types_in l ≡ Some types → begins l ≡ false
types-begins [] types e = absurd cc
types-begins (w ∷ ws) types e = by (bytes_eq w (codes "types")) refl e
  where
    by : (b : Bool) → bytes_eq w (codes "types") ≡ b
        → (if b then option_and_then (λ xs. if are_types xs then Some xs else None) (letters_in ws)
        else None) ≡ Some types → begins (w ∷ ws) ≡ false
    by true q s = subst (λ v. begins (v ∷ ws) ≡ false)
        (sym ((bytes_eq-Decides w (codes "types")).0 q)) refl
    by false q s = absurd cc

first-parts : (types of : List Letter) (l : LineWords) (after : WordLines) (m : LineWords)
    (ms : WordLines) → types_in l ≡ Some of
    → (from_first ms ≡ l ∷ after → parts_of types ms ≡ parts_of types after) → (b : Bool)
    → is_skipped m ≡ b → (if b then from_first ms else m ∷ ms) ≡ l ∷ after
    → parts_of types (m ∷ ms) ≡ parts_of types after
first-parts types of l after m ms t h true s g = rw (skipped-begins m s) (h g)
first-parts types of l after m ms t h false s g =
    let first : m ≡ l = cc in
    let rest : ms ≡ after = cc in
    rw (types-begins m of (ap types_in first ∙ t)) (ap (parts_of types) rest)

-- so the sections are those of the lines after it
pub parts-first : (types of : List Letter) (l : LineWords) (after ls : WordLines)
    → from_first ls ≡ l ∷ after → types_in l ≡ Some of → parts_of types ls ≡ parts_of types after
parts-first types of l after [] f t = absurd cc
parts-first types of l after (m ∷ ms) f t = first-parts types of l after m ms t
    (λ g. parts-first types of l after ms g t) (is_skipped m) refl f

-- where the reading begins
pub begins-with : (types : List Letter) (ls : WordLines) (l : LineWords) (after : WordLines)
    (number : ℕ) → from_first ls ≡ l ∷ after → types_in l ≡ Some types
    → number ≡ length (before_first ls) + 1
    → BeginsWith types (before_first ls) after (whole_of types ls number after)
begins-with types ls l after number f t e = record {
  each = λ x. append_assoc (before_first ls) (type_line x ∷ []) (left_on x false after)
      ∙ ap (λ m. before_first ls ++ projection_from x m) (sym f);
  parts = sym (parts-first types types l after ls f t);
  wrong = ap (λ k. wrong_at types k false after) (omega (arith, e));
}

-- the answer by the first line and its types

pub with-types : (c : Config) (ls : WordLines) (l : LineWords) (after : WordLines) (number : ℕ)
    (types : List Letter) → from_first ls ≡ l ∷ after → number ≡ length (before_first ls) + 1
    → types_in l ≡ Some types → traces_of c ls
    ≡ read_rest c types number ls (wrong_at types (number + 1) false after)
with-types c ls l after number types f e t = rw (f, t, sym e) refl

pub types-found : (ls : WordLines) (l : LineWords) (after : WordLines) → from_first ls ≡ l ∷ after
    → types_of ls ≡ types_in l
types-found ls l after f = rw f refl
