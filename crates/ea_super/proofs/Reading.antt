-- The lines of a text, one by one.
use Rattle.std.proofs.Common.{◌≡◌, ℕ, ◌+◌, ◌<◌, ◌≤◌, List, [], ◌∷◌, Option, Some, None}
use Rattle.std.proofs.Common.{Bool, length, map, true, false, refl, sym, ap, subst, ◌∙◌, ◌≢◌, arith}
use Rattle.std.specs.Borrow.{Bor}
use Rattle.std.specs.Option.{option_map_or}
use Rattle.std.specs.Prelude.{IfSome, Result, Err}
use Rattle.ea_model.specs.Words.{lines, words}
use Rattle.ea_trace.specs.Language.{lines_of}
use Rattle.ea_trace.specs.declared.fault.TraceFault.{TraceFault}
use Rattle.ea_trace.specs.declared.fault.TraceFault.TheVariants as fault
use Rattle.ea_frame.specs.Lines.{rest_lines}
use Rattle.ea_super.specs.Knows.{IsRefusal}
use Rattle.ea_super.specs.Language.{Answer, Earlier, is_bad_scheduler, is_many, is_not_held}
use Rattle.ea_super.specs.Language.{is_reused, may_stand, read_after, refusal, refused_or}
use Rattle.ea_super.specs.Language.{sections, stage_after}
use Rattle.ea_super.specs.Lines.{line_of_words}
use Rattle.ea_super.specs.Reading.{early_refusal, end_refusal, is_kept, or_later}
use Rattle.ea_super.specs.declared.lines.Line.{Line}

-- what these give after the earlier ones
abbrev pub read_rest : ℕ → Earlier → Option (Bor (List ℕ)) → Answer
read_rest n earlier rest = read_after n earlier (map line_of_words (rest_lines rest))

-- the rest after a line feed is shorter than what stood before it
pub fewer-left : (rest : Option (Bor (List ℕ))) (number size all : ℕ)
    → IfSome rest (λ r. length r.now < size) → number + size ≤ all
    → option_map_or (λ r. (number + 1) + length r.now) rest 0 ≤ all
fewer-left None number size all h le = omega arith
fewer-left (Some r) number size all h le = omega (arith, h, le)

-- what is left gives what its first line and the rest give
first-lines : (n : ℕ) (earlier : Earlier) (text first : List ℕ) (rest : Option (Bor (List ℕ)))
    → lines text ≡ first ∷ option_map_or (λ r. lines r.now) rest []
    → read_after n earlier (map line_of_words (lines_of text))
    ≡ refused_or (refusal n earlier (line_of_words (words first)))
    (read_rest n (line_of_words (words first) ∷ earlier) rest)
first-lines n earlier text first None e =
    ap (λ ls. read_after n earlier (map line_of_words (map words ls))) e
first-lines n earlier text first (Some r) e =
    ap (λ ls. read_after n earlier (map line_of_words (map words ls))) e

pub first-read : (n : ℕ) (earlier : Earlier) (text first : List ℕ) (rest : Option (Bor (List ℕ)))
    (line : Line) (whole : Answer)
    → lines text ≡ first ∷ option_map_or (λ r. lines r.now) rest []
    → line ≡ line_of_words (words first)
    → read_after n earlier (map line_of_words (lines_of text)) ≡ whole
    → refused_or (refusal n earlier line) (read_rest n (line ∷ earlier) rest) ≡ whole
first-read n earlier text first rest line whole e same is = subst (λ l.
    refused_or (refusal n earlier l) (read_rest n (l ∷ earlier) rest) ≡ whole) (sym same)
    (sym (first-lines n earlier text first rest e) ∙ is)

-- a line that isn't refused leaves it to the rest
pub accepted-read : (o : Option TraceFault) (later whole : Answer) → o ≡ None
    → refused_or o later ≡ whole → later ≡ whole
accepted-read o later whole none e = sym (ap (λ p. refused_or p later) none) ∙ e

-- a line that passes each test isn't refused
pub accepted : (n : ℕ) (earlier : Earlier) (line : Line)
    → may_stand (stage_after earlier) (sections earlier) line ≡ true
    → is_bad_scheduler n (sections earlier) line ≡ false → is_many earlier line ≡ false
    → is_reused earlier line ≡ false → is_not_held earlier line ≡ false
    → refusal n earlier line ≡ None
accepted n earlier line a b c d e = rw (a, b, c, d, e) refl

-- refusals that need no memory

-- that of what is left after the earlier lines
abbrev pub rest_early : ℕ → Earlier → Option (Bor (List ℕ)) → Option TraceFault
rest_early n earlier rest = early_refusal n earlier (map line_of_words (rest_lines rest))

-- that of the whole text is that of what is left
abbrev pub IsLeft : ℕ → Earlier → Option (Bor (List ℕ)) → Option TraceFault → Type 0
IsLeft n earlier rest whole = IfSome whole (λ f. rest_early n earlier rest ≡ Some f)

pub left-first : (o : Option TraceFault) → IfSome o (λ f. o ≡ Some f)
left-first None = tt
left-first (Some f) = refl

first-early : (n : ℕ) (earlier : Earlier) (text first : List ℕ) (rest : Option (Bor (List ℕ)))
    → lines text ≡ first ∷ option_map_or (λ r. lines r.now) rest []
    → early_refusal n earlier (map line_of_words (lines_of text))
    ≡ or_later (refusal n earlier (line_of_words (words first)))
    (is_kept (line_of_words (words first)))
    (rest_early n (line_of_words (words first) ∷ earlier) rest)
first-early n earlier text first None e =
    ap (λ ls. early_refusal n earlier (map line_of_words (map words ls))) e
first-early n earlier text first (Some r) e =
    ap (λ ls. early_refusal n earlier (map line_of_words (map words ls))) e

module _ (n : ℕ) (earlier : Earlier) (text first : List ℕ) (rest : Option (Bor (List ℕ)))
    (line : Line) (e : lines text ≡ first ∷ option_map_or (λ r. lines r.now) rest [])
    (same : line ≡ line_of_words (words first)) where
  line-early : early_refusal n earlier (map line_of_words (lines_of text))
      ≡ or_later (refusal n earlier line) (is_kept line) (rest_early n (line ∷ earlier) rest)
  line-early = subst (λ l. early_refusal n earlier (map line_of_words (lines_of text))
      ≡ or_later (refusal n earlier l) (is_kept l) (rest_early n (l ∷ earlier) rest)) (sym same)
      (first-early n earlier text first rest e)

  later-early : (o later : Option TraceFault) (kept : Bool) (f : TraceFault) → o ≡ None
      → or_later o kept later ≡ Some f → later ≡ Some f
  later-early None later true f none is = absurd cc
  later-early None later false f none is = is
  later-early (Some g) later kept f none is = absurd cc

  -- a line that isn't refused leaves it to the rest
  pub left-next : (whole : Option TraceFault) → refusal n earlier line ≡ None
      → IfSome whole (λ f. early_refusal n earlier (map line_of_words (lines_of text)) ≡ Some f)
      → IsLeft n (line ∷ earlier) rest whole
  left-next None none left = tt
  left-next (Some f) none left =
      later-early (refusal n earlier line) (rest_early n (line ∷ earlier) rest) (is_kept line) f
      none (sym line-early ∙ left)

  some-same : (f g : TraceFault) → Some f ≡ Some g → f ≡ g
  some-same f g is = cc

  err-same : (f g : TraceFault) → ◌≡◌ {A = Result (Unit {0}) TraceFault} (Err f) (Err g) → f ≡ g
  err-same f g is = cc

  early-now : (o later : Option TraceFault) (kept : Bool) (f g : TraceFault)
      → IfSome o (λ h. ◌≡◌ {A = Result (Unit {0}) TraceFault} (Err g) (Err h)) → (kept ≡ false → g ≢ fault.OutOfMemory) → IsRefusal g o
      → or_later o kept later ≡ Some f → g ≡ f
  early-now (Some h) later kept f g sure free refused is = err-same g h sure ∙ some-same h f is
  early-now None later true f g sure free refused is = absurd cc
  early-now None later false f fault.OutOfMemory sure free refused is = absurd (free refl refl)
  early-now None later false f (fault.Syntax k) sure free refused is = absurd cc
  early-now None later false f (fault.BadScheduler k) sure free refused is = absurd cc
  early-now None later false f (fault.NameReused k) sure free refused is = absurd cc
  early-now None later false f (fault.NotHeld k) sure free refused is = absurd cc
  early-now None later false f (fault.NotAddressed k) sure free refused is = absurd cc
  early-now None later false f (fault.TooMany k) sure free refused is = absurd cc
  early-now None later false f fault.NoEnd sure free refused is = absurd cc

  -- a line that fails was refused, or was kept
  pub left-fails : (A : Type 0) (whole : Option TraceFault) (g : TraceFault)
      → IfSome (refusal n earlier line)
      (λ h. ◌≡◌ {A = Result (Unit {0}) TraceFault} (Err g) (Err h))
      → (is_kept line ≡ false → g ≢ fault.OutOfMemory) → IsRefusal g (refusal n earlier line)
      → IfSome whole (λ f. early_refusal n earlier (map line_of_words (lines_of text)) ≡ Some f)
      → IfSome whole (λ f. ◌≡◌ {A = Result A TraceFault} (Err g) (Err f))
  left-fails A None g sure free refused left = tt
  left-fails A (Some f) g sure free refused left = ap Err
      (early-now (refusal n earlier line) (rest_early n (line ∷ earlier) rest) (is_kept line) f g
      sure free refused (sym line-early ∙ left))

-- at the end of the text
pub left-ends : {A : Type 0} (n : ℕ) (earlier : Earlier) (rest : Option (Bor (List ℕ)))
    (whole : Option TraceFault) (result : Result A TraceFault) → rest ≡ None
    → IfSome (end_refusal (stage_after earlier)) (λ f. result ≡ Err f)
    → IsLeft n earlier rest whole → IfSome whole (λ f. result ≡ Err f)
left-ends n earlier rest None result none sure left = tt
left-ends n earlier rest (Some f) result none sure left =
    subst (λ o. IfSome o (λ f. result ≡ Err f))
    (sym (ap (rest_early n earlier) none) ∙ left) sure
