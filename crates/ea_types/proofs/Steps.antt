-- One line more is read.
use Rattle.std.proofs.Common.{◌≡◌, ℕ, ◌+◌, Bool, true, false, ◌&&◌, ◌||◌, List, [], ◌∷◌, ◌++◌}
use Rattle.std.proofs.Common.{Option, Some, None, length, refl, sym, ap, subst, ◌∙◌, arith}
use Rattle.std.proofs.Common.{append_assoc, append-nil, length-append}
use Rattle.std.specs.Prelude.{bytes_eq, if◌then◌else◌, not}
use Rattle.std.specs.List.{All}
use Rattle.ea_model.specs.declared.settings.Letter.{Letter}
use Rattle.ea_trace.specs.Language.{LineWords, WordLines}
use Rattle.ea_trace.specs.Lines.{is_comment, keyword_in, letter_word}
use Rattle.ea_trace.specs.declared.keywords.Keyword.{Keyword}
use Rattle.ea_trace.specs.declared.keywords.Keyword.TheVariants.{Letter as OfType, Section, Stop}
use Rattle.ea_trace.specs.declared.keywords.Keyword.TheVariants.{Threads, Schedule, Generate, End}
use Rattle.ea_types.specs.Language.{begins, begins_by, inside_after, inside_by, is_border, is_own}
use Rattle.ea_types.specs.Language.{is_wrong, left_of, left_on, own_place, parts_of, place_in}
use Rattle.ea_types.specs.Language.{places_in, wrong_at}
use Rattle.ea_types.specs.Reading.{Reads, Whole}
use Rattle.ea_types.specs.Readers.{HasRead, TypeLines, and_line, is_others, left_by}
use Rattle.ea_types.specs.Readers.{letters_of}
use Rattle.ea_types.specs.Sections.{AreParts, all_parts, and_part, parts_over, parts_with}
use Rattle.ea_types.specs.Sorting.{IsCommon, IsOwn}
use Rattle.ea_types.specs.declared.reader.Reading.{Reading}
use Rattle.ea_types.specs.declared.sections.Sections.{Sections}

-- what a line is to a type

pub common-left : (x : Letter) (inside : Bool) (l : LineWords) → is_own inside l ≡ false
    → left_of x inside l ≡ l
common-left x inside [] e = refl
common-left x inside (w ∷ ws) e = rw e refl

turned : (b : Bool) (ws : LineWords) → (if b then ws else []) ≡ (if not b then [] else ws)
turned true ws = refl
turned false ws = refl

pub own-words : (x : Letter) (inside : Bool) (w : List ℕ) (ws : LineWords)
    → is_own inside (w ∷ ws) ≡ true
    → left_of x inside (w ∷ ws) ≡ (if bytes_eq w (letter_word x) then ws else [])
own-words x inside w ws e = rw e refl

own-left : (x : Letter) (inside : Bool) (w : List ℕ) (ws : LineWords)
    → is_own inside (w ∷ ws) ≡ true → left_of x inside (w ∷ ws) ≡ left_by x (Some w) ws
own-left x inside w ws e = rw e (turned (bytes_eq w (letter_word x)) ws)

pub left-others : (x : Letter) (word : Option (List ℕ)) (ws : LineWords)
    → is_others x word ≡ true → left_by x word ws ≡ []
left-others x word ws e = rw e refl

pub left-own : (x : Letter) (word : Option (List ℕ)) (ws : LineWords)
    → is_others x word ≡ false → left_by x word ws ≡ ws
left-own x word ws e = rw e refl

-- the line is taken, and those after it are left
taken-left : (x : Letter) (inside : Bool) (l ws : LineWords) (word : Option (List ℕ))
    (before left all : WordLines) → left_of x inside l ≡ left_by x word ws
    → before ++ left_on x inside (l ∷ left) ≡ all
    → (before ++ left_by x word ws ∷ []) ++ left_on x (inside_after inside l) left ≡ all
taken-left x inside l ws word before left all e h =
    append_assoc before (left_by x word ws ∷ []) (left_on x (inside_after inside l) left)
    ∙ ap (λ m. before ++ m ∷ left_on x (inside_after inside l) left) (sym e) ∙ h

count-more : (before : WordLines) (l : LineWords) (number : ℕ) → length before + 1 ≡ number
    → length (before ++ l ∷ []) + 1 ≡ number + 1
count-more before l number e = omega (arith, length-append before (l ∷ []))

-- the first wrong line

pub fine-more : (types : List Letter) (number : ℕ) (inside : Bool) (l : LineWords)
    (left : WordLines) → is_wrong types inside l ≡ false → wrong_at types number inside (l ∷ left)
    ≡ wrong_at types (number + 1) (inside_after inside l) left
fine-more types number inside l left e = rw e refl

pub wrong-here : (types : List Letter) (number : ℕ) (inside : Bool) (l : LineWords)
    (left : WordLines) → is_wrong types inside l ≡ true
    → wrong_at types number inside (l ∷ left) ≡ Some number
wrong-here types number inside l left e = rw e refl

-- an operation line begins no section, and others may follow it

pub record IsInside (inside : Bool) (k : Option Keyword) : Type 0 where
  pub here : inside ≡ true
  pub after : inside_by inside k ≡ inside
  pub section : begins_by k ≡ false

own-by : (inside comment : Bool) (k : Option Keyword)
    → (inside && not (comment || is_border k)) ≡ true → IsInside inside k
own-by false comment k e = absurd cc
own-by true true k e = absurd cc
own-by true false None e = record { here = refl; after = refl; section = refl }
own-by true false (Some OfType) e = record { here = refl; after = refl; section = refl }
own-by true false (Some Section) e = absurd cc
own-by true false (Some Stop) e = record { here = refl; after = refl; section = refl }
own-by true false (Some Threads) e = absurd cc
own-by true false (Some Schedule) e = absurd cc
own-by true false (Some Generate) e = record { here = refl; after = refl; section = refl }
own-by true false (Some End) e = absurd cc

pub own-inside : (inside : Bool) (w : List ℕ) (ws : LineWords) → is_own inside (w ∷ ws) ≡ true
    → IsInside inside (keyword_in w)
own-inside inside w ws e = own-by inside (is_comment w) (keyword_in w) e

-- before the first section no operation lines stand, until one begins
outside-by : (k : Option Keyword) → begins_by k ≡ false → inside_by false k ≡ false
outside-by None e = refl
outside-by (Some OfType) e = refl
outside-by (Some Section) e = absurd cc
outside-by (Some Stop) e = refl
outside-by (Some Threads) e = refl
outside-by (Some Schedule) e = refl
outside-by (Some Generate) e = refl
outside-by (Some End) e = refl

section-by : (inside : Bool) (k : Option Keyword) → begins_by k ≡ true → inside_by inside k ≡ true
section-by inside None e = absurd cc
section-by inside (Some OfType) e = absurd cc
section-by inside (Some Section) e = refl
section-by inside (Some Stop) e = absurd cc
section-by inside (Some Threads) e = absurd cc
section-by inside (Some Schedule) e = absurd cc
section-by inside (Some Generate) e = absurd cc
section-by inside (Some End) e = absurd cc

-- where a section begins operation lines stand
pub begins-inside : (inside : Bool) (l : LineWords) → begins l ≡ true → inside_after inside l ≡ true
begins-inside inside [] e = absurd cc
begins-inside inside (w ∷ ws) e = section-by inside (keyword_in w) e

-- whose each line is

pub none-own : (types : List Letter) (inside : Bool) (l : LineWords) → is_own inside l ≡ false
    → own_place types inside l ≡ []
none-own types inside [] e = refl
none-own types inside (w ∷ ws) e = rw e refl

pub one-own : (types : List Letter) (inside : Bool) (w : List ℕ) (ws : LineWords) (k : ℕ)
    → is_own inside (w ∷ ws) ≡ true → place_in types w ≡ Some k
    → own_place types inside (w ∷ ws) ≡ k ∷ []
one-own types inside w ws k e p = rw (e, p) refl

module _ (ps : List (List ℕ)) (p : List ℕ) (types : List Letter) (inside : Bool) (l : LineWords)
    (left : WordLines) where
  with-common : (begun : Bool) → begins l ≡ false → own_place types inside l ≡ []
      → parts_with begun ps p types inside (l ∷ left)
      ≡ parts_with begun ps p types (inside_after inside l) left
  with-common true b o = rw (b, o) refl
  with-common false b o = rw b refl

  with-begin : (begun : Bool) → begins l ≡ true → parts_with begun ps p types inside (l ∷ left)
      ≡ parts_with true (and_part begun ps p) [] types true left
  with-begin true b = rw (b, append-nil p)
      (sym (append_assoc ps (p ∷ []) (places_in types true left ∷ parts_of types left)))
  with-begin false b = rw b refl

  with-own : (k : ℕ) → begins l ≡ false → own_place types inside l ≡ k ∷ []
      → parts_with true ps p types inside (l ∷ left)
      ≡ parts_with true ps (p ++ k ∷ []) types (inside_after inside l) left
  with-own k b o = rw (b, o, append_assoc p (k ∷ []) (places_in types (inside_after inside l) left))
      refl

module _ (types : List Letter) (inside : Bool) (l : LineWords) (left : WordLines)
    (parts : List (List ℕ)) (s : Sections) (h : AreParts types inside (l ∷ left) parts s) where
  pub parts-common : (k : Option Keyword) → IsCommon inside l k → begins_by k ≡ false
      → AreParts types (inside_by inside k) left parts s
  parts-common k e b = record {
    all = ap (λ i. parts_with s.begun (parts_over s) s.part.items types i left) (sym e.after)
        ∙ sym (with-common (parts_over s) s.part.items types inside l left s.begun
        (e.section ∙ b) (none-own types inside l e.own)) ∙ h.all;
    outside = λ none. (
      ap (λ i. inside_by i k) (h.outside none).0 ∙ outside-by k b,
      (h.outside none).1,
    );
  }

  pub parts-begin : (k : Option Keyword) → IsCommon inside l k → begins_by k ≡ true
      → (t : Sections) → parts_over t ≡ all_parts s → t.part.items ≡ [] → t.begun ≡ true
      → AreParts types (inside_by inside k) left parts t
  parts-begin k e b t over part begun = record {
    all = rw (begun, over, part, section-by inside k b)
        (sym (with-begin (parts_over s) s.part.items types inside l left s.begun (e.section ∙ b)))
        ∙ h.all;
    outside = λ none. absurd cc;
  }

module _ (types : List Letter) (inside : Bool) (w : List ℕ) (ws : LineWords) (left : WordLines)
    (parts : List (List ℕ)) (s : Sections) (h : AreParts types inside ((w ∷ ws) ∷ left) parts s)
  where
    begun-by : is_own inside (w ∷ ws) ≡ true → (b : Bool) → s.begun ≡ b → s.begun ≡ true
    begun-by own true e = e
    begun-by own false e =
        let out : inside ≡ false = (h.outside e).0 in
        let here : inside ≡ true = (own-inside inside w ws own).here in absurd cc

    pub parts-own : (k : ℕ) → is_own inside (w ∷ ws) ≡ true → place_in types w ≡ Some k
        → (t : Sections) → parts_over t ≡ parts_over s → t.part.items ≡ s.part.items ++ k ∷ []
        → t.begun ≡ s.begun → AreParts types inside left parts t
    parts-own k own p t over part begun =
        let i = own-inside inside w ws own in
        let b = begun-by own s.begun refl in
        let known = rw b at h.all in
        record {
          all = rw (begun, b, over, part) (ap (λ j. parts_with true (parts_over s)
              (s.part.items ++ k ∷ []) types j left) (sym i.after)
              ∙ sym (with-own (parts_over s) s.part.items types inside (w ∷ ws) left k i.section
              (one-own types inside w ws k own p)) ∙ known);
          outside = λ none. absurd (let same : s.begun ≡ false = sym begun ∙ none in cc);
        }

-- what is known after a line

module _ (n number : ℕ) (types : List Letter) (whole : Whole) (left : WordLines) (r s : Reading)
  where
    pub reads-common : (l : LineWords) (k : Option Keyword)
        → Reads n types whole number (l ∷ left) r → is_wrong types r.inside l ≡ false
        → IsCommon r.inside l k → letters_of s.readers.items ≡ letters_of r.readers.items
        → ((lines : TypeLines) → All (HasRead n lines) r.readers.items
        → All (HasRead n (and_line lines None l)) s.readers.items)
        → s.inside ≡ inside_by r.inside k
        → AreParts types (inside_by r.inside k) left whole.parts s.sections
        → Reads n types whole (number + 1) left s
    reads-common l k h fine e same taken i parts =
        let inside : inside_after r.inside l ≡ s.inside = e.after ∙ sym i in
        record {
          letters = same ∙ h.letters;
          lines = and_line h.lines None l;
          taken = taken h.lines h.taken;
          count = λ x. count-more (h.lines x) l number (h.count x);
          each = λ x. subst (λ j. (h.lines x ++ l ∷ []) ++ left_on x j left ≡ whole.lines x) inside
              (taken-left x r.inside l l None (h.lines x) left (whole.lines x)
              (common-left x r.inside l e.own) (h.each x));
          parts = subst (λ j. AreParts types j left whole.parts s.sections) (sym i) parts;
          wrong = subst (λ j. wrong_at types (number + 1) j left ≡ whole.wrong) inside
              (sym (fine-more types number r.inside l left fine) ∙ h.wrong);
        }

    reads-words : (w : List ℕ) (k : ℕ) (ws : LineWords)
        → Reads n types whole number ((w ∷ ws) ∷ left) r → is_wrong types r.inside (w ∷ ws) ≡ false
        → is_own r.inside (w ∷ ws) ≡ true → place_in types w ≡ Some k
        → letters_of s.readers.items ≡ letters_of r.readers.items
        → ((lines : TypeLines) → All (HasRead n lines) r.readers.items
        → All (HasRead n (and_line lines (Some w) ws)) s.readers.items)
        → s.inside ≡ r.inside → parts_over s.sections ≡ parts_over r.sections
        → s.sections.part.items ≡ r.sections.part.items ++ k ∷ []
        → s.sections.begun ≡ r.sections.begun → Reads n types whole (number + 1) left s
    reads-words w k ws h fine own p same taken i over part begun =
        let inside : inside_after r.inside (w ∷ ws) ≡ s.inside =
        (own-inside r.inside w ws own).after ∙ sym i in
        record {
          letters = same ∙ h.letters;
          lines = and_line h.lines (Some w) ws;
          taken = taken h.lines h.taken;
          count = λ x. count-more (h.lines x) (left_by x (Some w) ws) number (h.count x);
          each = λ x. subst (λ j. (h.lines x ++ left_by x (Some w) ws ∷ []) ++ left_on x j left
              ≡ whole.lines x) inside (taken-left x r.inside (w ∷ ws) ws (Some w) (h.lines x) left
              (whole.lines x) (own-left x r.inside w ws own) (h.each x));
          parts = subst (λ j. AreParts types j left whole.parts s.sections) (sym i)
              (parts-own types r.inside w ws left whole.parts r.sections h.parts k own p s.sections
              over part begun);
          wrong = subst (λ j. wrong_at types (number + 1) j left ≡ whole.wrong) inside
              (sym (fine-more types number r.inside (w ∷ ws) left fine) ∙ h.wrong);
        }

    pub reads-own : (l : LineWords) (w : List ℕ) (k : ℕ) (ws : LineWords)
        → Reads n types whole number (l ∷ left) r → is_wrong types r.inside l ≡ false
        → IsOwn types r.inside l w k ws
        → letters_of s.readers.items ≡ letters_of r.readers.items
        → ((lines : TypeLines) → All (HasRead n lines) r.readers.items
        → All (HasRead n (and_line lines (Some w) ws)) s.readers.items)
        → s.inside ≡ r.inside → parts_over s.sections ≡ parts_over r.sections
        → s.sections.part.items ≡ r.sections.part.items ++ k ∷ []
        → s.sections.begun ≡ r.sections.begun → Reads n types whole (number + 1) left s
    reads-own l w k ws h fine own = reads-words w k ws
        (subst (λ m. Reads n types whole number (m ∷ left) r) own.all h)
        (subst (λ m. is_wrong types r.inside m ≡ false) own.all fine)
        (subst (λ m. is_own r.inside m ≡ true) own.all own.own) own.among
