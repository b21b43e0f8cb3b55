-- A line more of an input is read.
use Rattle.std.proofs.Common.{◌≡◌, ℕ, zero, suc, ◌+◌, ◌<◌, ◌≤◌, Bool, true, false, ◌&&◌, ◌||◌, ◌==◌, not}
use Rattle.std.proofs.Common.{if◌then◌else◌, List, [], ◌∷◌, ◌++◌, Option, Some, None}
use Rattle.std.proofs.Common.{is_some, length, map, refl, sym, ap, subst, ◌∙◌, append_assoc}
use Rattle.std.proofs.Common.{arith}
use Rattle.std.specs.Prelude.{All, bytes_eq, codes, nat_lt, option_to_list}
use Rattle.std.proofs.lemmas.List.{length-map, length-reverse, length-set}
use Rattle.ea_model.specs.Trace.{IsScheduler}
use Rattle.ea_trace.specs.Between.{earlier_of, in_section, is_opening}
use Rattle.ea_trace.specs.Language.{Earlier, LineWords, WordLines, is_held, section_operations}
use Rattle.ea_trace.specs.Language.{no_stops, sections, stage_after, stops_after}
use Rattle.ea_trace.specs.Lines.{line_of_words}
use Rattle.ea_contents.specs.Language.{access_in, accesses_from, and_line, blanked}
use Rattle.ea_contents.specs.Language.{first_so, is_access, is_misplaced, is_unheld, name_of}
use Rattle.ea_contents.specs.Language.{read_in, write_in}
use Rattle.ea_contents.specs.Reading.{AddsTo, Finds, Found, Places, Stand, first_of, lists_of}
use Rattle.ea_contents.specs.Script.{IsRising, list_for, script_of}
use Rattle.ea_contents.specs.declared.access.Access.{Access}
use Rattle.ea_contents.specs.declared.accesses.Accesses.{Accesses}
use Rattle.ea_contents.specs.declared.input.Placed.{Placed}
use Rattle.ea_contents.proofs.Adding.{added, all-rise, only_if, script-more, stand-added, stand-more}

-- a line of the trace

neither : (a b : Bool) (x y : Option Access) → (a || b) ≡ false
    → (if a then x else (if b then y else None)) ≡ None
neither false false x y e = refl
neither false true x y e = absurd cc
neither true b x y e = absurd cc

pub no-access : (l : LineWords) → is_access l ≡ false → access_in l ≡ None
no-access [] e = refl
no-access (w ∷ ws) e = neither (bytes_eq w (codes "write")) (bytes_eq w (codes "read")) (write_in ws)
    (read_in ws) e

not-misplaced : (earlier : Earlier) (l : LineWords) → is_access l ≡ false
    → is_misplaced earlier l ≡ false
not-misplaced earlier l e = rw e refl

not-unheld : (earlier : Earlier) (l : LineWords) → access_in l ≡ None → is_unheld earlier l ≡ false
not-unheld earlier l e = rw e refl

first-later : (is : Earlier → LineWords → Bool) (earlier : Earlier) (l : LineWords)
    (left : WordLines) → is earlier l ≡ false
    → first_so is earlier (l ∷ left) ≡ first_so is (and_line earlier l) left
first-later is earlier l left e = rw e refl

none-if : (b : Bool) (rest : List Access) → (if b then option_to_list None else []) ++ rest ≡ rest
none-if true rest = refl
none-if false rest = refl

accesses-later : (earlier : Earlier) (l : LineWords) (left : WordLines) → access_in l ≡ None
    → (i d : ℕ) → accesses_from earlier (l ∷ left) i d ≡ accesses_from (and_line earlier l) left i d
accesses-later earlier l left e i d = rw e (none-if _ (accesses_from (and_line earlier l) left i d))

finds-other : (n : ℕ) (all : WordLines) (earlier : Earlier) (l : LineWords) (left : WordLines)
    (a : Accesses) → is_access l ≡ false → Finds n all earlier (l ∷ left) a
    → Finds n all (and_line earlier l) left a
finds-other n all earlier l left a e h =
    let none = no-access l e in
    record {
      misplaced = h.misplaced
          ∙ first-later is_misplaced earlier l left (not-misplaced earlier l e);
      unheld = h.unheld
          ∙ ap (first_of a.unheld)
          (first-later is_unheld earlier l left (not-unheld earlier l none));
      script = λ i d. h.script i d
          ∙ ap (λ xs. script_of (lists_of a.sections.items) i d ++ xs)
          (accesses-later earlier l left none i d);
      stand = stand-more (lists_of a.sections.items) earlier (line_of_words (blanked l)) h.stand;
      count = h.count;
    }

pub found-other : (n : ℕ) (all : WordLines) (earlier : Earlier) (l : LineWords) (left : WordLines)
    (a : Accesses) (o : Option ℕ) → is_access l ≡ false → Found n all earlier (l ∷ left) a o
    → Found n all (and_line earlier l) left a o
found-other n all earlier l left a None e h = finds-other n all earlier l left a e h
found-other n all earlier l left a (Some k) e h = h

-- nothing is refused so far
pub finds : (n : ℕ) (all : WordLines) (earlier : Earlier) (left : WordLines) (a : Accesses)
    (o : Option ℕ) → is_some o ≡ false → Found n all earlier left a o → Finds n all earlier left a
finds n all earlier left a None none h = h
finds n all earlier left a (Some k) none h = absurd cc

pub none-so : (o : Option ℕ) → is_some o ≡ false → o ≡ None
none-so None e = refl
none-so (Some k) e = absurd cc

pub from-finds : (n : ℕ) (all : WordLines) (earlier : Earlier) (left : WordLines) (a : Accesses)
    (o : Option ℕ) → o ≡ None → Finds n all earlier left a → Found n all earlier left a o
from-finds n all earlier left a None e h = h
from-finds n all earlier left a (Some k) e h = absurd cc

-- a malformed or misplaced line is the first
pub misplaced-first : (n : ℕ) (all : WordLines) (earlier : Earlier) (l : LineWords)
    (left : WordLines) (a : Accesses) → is_misplaced earlier l ≡ true
    → Finds n all earlier (l ∷ left) a → first_so is_misplaced [] all ≡ Some (length earlier + 1)
misplaced-first n all earlier l left a e h = h.misplaced ∙ rw e refl

pub outside : (earlier : Earlier) (l : LineWords) → is_access l ≡ true
    → in_section earlier ≡ false → is_misplaced earlier l ≡ true
outside earlier l access out = rw (access, out) refl

-- lines are counted
pub count-earlier : (taken : WordLines) → length (earlier_of taken) ≡ length taken
count-earlier taken = length-reverse (map line_of_words taken) ∙ length-map taken line_of_words

begun-by : (a c : Bool) (k : ℕ) → (a && (nat_lt 0 k && c)) ≡ true → 0 < k
begun-by true c zero e = absurd cc
begun-by false c zero e = absurd cc
begun-by a c (suc k) e = omega arith

-- in a section one has begun
pub begun : (earlier : Earlier) → in_section earlier ≡ true → 0 < sections earlier
begun earlier e = begun-by (is_opening (stage_after earlier)) (no_stops (stops_after earlier))
    (sections earlier) e

-- a write or a read is noted
pub places : (n : ℕ) (earlier : Earlier) (access : Access) (old new : Accesses) (s d : ℕ)
    → new.misplaced ≡ old.misplaced
    → new.unheld ≡ first_of old.unheld
    (if is_held (name_of access) earlier then None else Some (length earlier + 1))
    → s ≡ sections earlier → d ≡ length (section_operations earlier) → s ≤ n
    → in_section earlier ≡ true
    → AddsTo s (record { after = d; access = access }) (lists_of old.sections.items)
    (lists_of new.sections.items)
    → Places n earlier access old new
places n earlier access old new s d misplaced unheld is at few inside adds = record {
  misplaced = misplaced;
  unheld = unheld;
  within = (begun earlier inside, omega (arith, is, few));
  added = subst (λ k. AddsTo k (record {
    after = length (section_operations earlier);
    access = access;
  }) (lists_of old.sections.items) (lists_of new.sections.items)) is
      (subst (λ k. AddsTo s (record { after = k; access = access })
      (lists_of old.sections.items) (lists_of new.sections.items)) at adds);
}

-- a write or a read in its place
module _ (n : ℕ) (all : WordLines) (earlier : Earlier) (l : LineWords) (left : WordLines)
    (access : Access) (a b : Accesses) (is : is_access l ≡ true) (says : access_in l ≡ Some access)
    (stands : in_section earlier ≡ true) (places : Places n earlier access a b)
    (h : Finds n all earlier (l ∷ left) a) where
  in-place : is_misplaced earlier l ≡ false
  in-place = rw (is, says, stands) refl

  unheld-is : is_unheld earlier l ≡ not (is_held (name_of access) earlier)
  unheld-is = rw says refl

  unheld-by : (o : Option ℕ) (held : Bool) (k : ℕ) (later : Option ℕ)
      → first_of o (if not held then Some k else later)
      ≡ first_of (first_of o (if held then None else Some k)) later
  unheld-by (Some j) held k later = refl
  unheld-by None true k later = refl
  unheld-by None false k later = refl

  unheld-noted : first_so is_unheld [] all
      ≡ first_of b.unheld (first_so is_unheld (and_line earlier l) left)
  unheld-noted = h.unheld
      ∙ ap (λ u. first_of a.unheld (if u then Some (length earlier + 1)
      else first_so is_unheld (and_line earlier l) left)) unheld-is
      ∙ unheld-by a.unheld (is_held (name_of access) earlier) (length earlier + 1)
      (first_so is_unheld (and_line earlier l) left)
      ∙ ap (λ o. first_of o (first_so is_unheld (and_line earlier l) left)) (sym places.unheld)

  abbrev old : List (List Placed)
  old = lists_of a.sections.items

  abbrev new : List (List Placed)
  new = lists_of b.sections.items

  abbrev placed : Placed
  placed = record { after = length (section_operations earlier); access = access }

  within : IsScheduler (length old) (sections earlier)
  within = (places.within.0, omega (arith, places.within.1, h.count))

  is-added : new ≡ added (sections earlier) placed old
  is-added = places.added within

  list-is : (c : Bool) → (if c then option_to_list (access_in l) else []) ≡ only_if c access
  list-is true = ap option_to_list says
  list-is false = refl

  script-noted : (i d : ℕ) → accesses_from [] all i d
      ≡ script_of new i d ++ accesses_from (and_line earlier l) left i d
  script-noted i d =
      let c = (sections earlier == i) && (length (section_operations earlier) == d) in
      h.script i d
      ∙ ap (λ xs. script_of old i d ++ (xs ++ accesses_from (and_line earlier l) left i d))
      (list-is c)
      ∙ sym (append_assoc (script_of old i d) (only_if c access)
      (accesses_from (and_line earlier l) left i d))
      ∙ ap (λ xs. xs ++ accesses_from (and_line earlier l) left i d)
      (sym (script-more (sections earlier) placed old within i d))
      ∙ ap (λ ls. script_of ls i d ++ accesses_from (and_line earlier l) left i d) (sym is-added)

  count-noted : length new ≡ n
  count-noted = ap length is-added
      ∙ length-set old _ (list_for old (sections earlier) ++ placed ∷ []) ∙ h.count

  pub finds-noted : Finds n all (and_line earlier l) left b
  finds-noted = record {
    misplaced = h.misplaced ∙ first-later is_misplaced earlier l left in-place;
    unheld = unheld-noted;
    script = script-noted;
    stand = stand-more new earlier (line_of_words (blanked l))
        (subst (Stand earlier) (sym is-added)
        (stand-added earlier placed old within refl h.stand));
    count = count-noted;
  }

-- the lists of all sections rise
pub rising : (n : ℕ) (all : WordLines) (earlier : Earlier) (a : Accesses)
    → Finds n all earlier [] a → All IsRising (lists_of a.sections.items)
rising n all earlier a h = all-rise (lists_of a.sections.items) (λ i. h.stand.rising (suc i))
