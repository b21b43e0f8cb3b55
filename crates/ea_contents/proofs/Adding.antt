-- Writes and reads are put to those of their section.
use Rattle.std.proofs.Common.{◌≡◌, ℕ, zero, suc, ◌+◌, ◌-◌, ◌<◌, ◌≤◌, Bool, true, false, ◌&&◌}
use Rattle.std.proofs.Common.{◌==◌, if◌then◌else◌, List, [], ◌∷◌, ◌++◌, length, map, refl, sym, ap}
use Rattle.std.proofs.Common.{subst, ◌∙◌, append-nil, arith, inl, inr}
use Rattle.std.specs.Prelude.{All, cond, filter, slice_index_or, slice_set}
use Rattle.std.proofs.lemmas.Bool.{cases_eq}
use Rattle.std.proofs.lemmas.Grind.{get_or-set_at}
use Rattle.std.proofs.lemmas.List.{get_or-set_other, map-append, map-set}
use Rattle.std.proofs.lemmas.List.Elements.{All-cons, All-nil, filter-append}
use Rattle.ea_model.specs.Lists.{Items}
use Rattle.ea_model.specs.Trace.{IsScheduler}
use Rattle.ea_trace.specs.Language.{Earlier, section_operations, sections}
use Rattle.ea_trace.specs.Lines.{Said}
use Rattle.ea_trace.specs.declared.lines.Line.TheVariants as says
use Rattle.ea_contents.specs.Reading.{AddsTo, Stand, last_after, lists_of}
use Rattle.ea_contents.specs.Script.{IsRising, RisesFrom, accesses_at, script_of, list_for}
use Rattle.ea_contents.specs.declared.access.Access.{Access}
use Rattle.ea_contents.specs.declared.input.Placed.{Placed}

-- the lists, where that of a scheduler gets one more
abbrev pub added : ℕ → Placed → List (List Placed) → List (List Placed)
added s p lists = slice_set lists (s - 1) (list_for lists s ++ p ∷ [])

pred : (k : ℕ) → suc k - 1 ≡ k
pred k = omega arith

-- its own list has it
pub own-added : (s : ℕ) (p : Placed) (lists : List (List Placed)) → IsScheduler (length lists) s
    → list_for (added s p lists) s ≡ list_for lists s ++ p ∷ []
own-added zero p lists is = absurd (omega (arith, is.0))
own-added (suc k) p lists is = get_or-set_at lists (suc k - 1) k (list_for lists (suc k) ++ p ∷ [])
    [] (sym (pred k)) (omega (arith, is.1))

-- the others stay
pub other-added : (s : ℕ) (p : Placed) (lists : List (List Placed)) → IsScheduler (length lists) s
    → (i : ℕ) → (i ≡ s → ⊥) → list_for (added s p lists) i ≡ list_for lists i
other-added zero p lists is i differs = absurd (omega (arith, is.0))
other-added (suc k) p lists is zero differs = refl
other-added (suc k) p lists is (suc j) differs =
    get_or-set_other lists (suc k - 1) j (list_for lists (suc k) ++ p ∷ []) []
    (λ e. differs (ap suc (e ∙ pred k)))

pub length-items : (lists : List (Items Placed)) → length (lists_of lists) ≡ length lists
length-items [] = refl
length-items (l ∷ lists) = ap suc (length-items lists)

slot : (old : List (Items Placed)) (k : ℕ) (d : Items Placed) → k < length old
    → (slice_index_or old k d).items ≡ slice_index_or (lists_of old) k []
slot [] k d less = absurd (omega (arith, less))
slot (l ∷ old) zero d less = refl
slot (l ∷ old) (suc k) d less = slot old k d (omega (arith, less))

-- a slot of the lists is pushed to
pub adds : (old : List (Items Placed)) (s : ℕ) (p : Placed) (item d : Items Placed)
    → item.items ≡ (slice_index_or old (s - 1) d).items ++ p ∷ []
    → AddsTo s p (lists_of old) (lists_of (slice_set old (s - 1) item))
adds old zero p item d e = λ is. absurd (omega (arith, is.0))
adds old (suc k) p item d e = λ is.
    let within : suc k - 1 < length old = omega (arith, is.1, length-items old) in
    map-set (λ (l : Items Placed). l.items) old (suc k - 1) item
    ∙ ap (slice_set (lists_of old) (suc k - 1)) (e
    ∙ ap (λ ps. ps ++ p ∷ []) (slot old (suc k - 1) d within
    ∙ ap (λ j. slice_index_or (lists_of old) j []) (pred k)))

-- one write or read, where it is so
abbrev pub only_if : Bool → Access → List Access
only_if b a = if b then a ∷ [] else []

at-by : (b : Bool) (p : Placed) → map (λ (q : Placed). q.access) (cond b (p ∷ []) [])
    ≡ only_if b p.access
at-by true p = refl
at-by false p = refl

-- what stands after d operations, with one more
pub at-more : (d : ℕ) (ps : List Placed) (p : Placed)
    → accesses_at d (ps ++ p ∷ []) ≡ accesses_at d ps ++ only_if (p.after == d) p.access
at-more d ps p = ap (map (λ q. q.access)) (filter-append (λ q. q.after == d) ps (p ∷ []))
    ∙ map-append (λ q. q.access) (filter (λ q. q.after == d) ps)
    (filter (λ q. q.after == d) (p ∷ []))
    ∙ ap (λ xs. accesses_at d ps ++ xs) (at-by (p.after == d) p)

same-is : (i : ℕ) → (i == i) ≡ true
same-is i = grind arith

other-is : (s i : ℕ) → (i ≡ s → ⊥) → (s == i) ≡ false
other-is s i differs = grind (arith, differs)

-- the script, with one more
pub script-more : (s : ℕ) (p : Placed) (lists : List (List Placed)) → IsScheduler (length lists) s
    → (i d : ℕ) → script_of (added s p lists) i d
    ≡ script_of lists i d ++ only_if ((s == i) && (p.after == d)) p.access
script-more s p lists is i d = elim (cases_eq i s) [
  | inl e ↦ subst (λ j. script_of (added s p lists) j d
      ≡ script_of lists j d ++ only_if ((s == j) && (p.after == d)) p.access) (sym e)
      (ap (accesses_at d) (own-added s p lists is) ∙ at-more d (list_for lists s) p
      ∙ ap (λ b. script_of lists s d ++ only_if (b && (p.after == d)) p.access)
      (sym (same-is s)))
  | inr differs ↦ ap (accesses_at d) (other-added s p lists is i differs)
      ∙ sym (append-nil (script_of lists i d))
      ∙ ap (λ b. script_of lists i d ++ only_if (b && (p.after == d)) p.access)
      (sym (other-is s i differs))
]

-- one more at the end, after as many operations or more
rising-more : (least : ℕ) (ps : List Placed) (p : Placed) → RisesFrom least ps
    → last_after least ps ≤ p.after → RisesFrom least (ps ++ p ∷ [])
rising-more least [] p h le = (le, tt)
rising-more least (q ∷ ps) p h le = (h.0, rising-more q.after ps p h.1 le)

last-more : (least : ℕ) (ps : List Placed) (p : Placed) → last_after least (ps ++ p ∷ []) ≡ p.after
last-more least [] p = refl
last-more least (q ∷ ps) p = last-more q.after ps p

-- a write or a read of the present section stands after its operations
pub stand-added : (earlier : Earlier) (p : Placed) (lists : List (List Placed))
    → IsScheduler (length lists) (sections earlier)
    → p.after ≡ length (section_operations earlier) → Stand earlier lists
    → Stand earlier (added (sections earlier) p lists)
stand-added earlier p lists is after stand =
    let s = sections earlier in
    record {
      rising = λ i. elim (cases_eq i s) [
        | inl e ↦ subst (λ j. IsRising (list_for (added s p lists) j)) (sym e)
            (subst IsRising (sym (own-added s p lists is))
            (rising-more 0 (list_for lists s) p (stand.rising s)
            (omega (arith, stand.before, after))))
        | inr differs ↦ subst IsRising (sym (other-added s p lists is i differs)) (stand.rising i)
      ];
      before = omega (
        arith,
        ap (last_after 0) (own-added s p lists is),
        last-more 0 (list_for lists s) p,
        after,
      );
      none = λ i less. other-added s p lists is i (λ e. omega (arith, less, e)) ∙ stand.none i less;
    }

-- a line of the trace is read
pub stand-more : (lists : List (List Placed)) (earlier : Earlier) (line : Said)
    → Stand earlier lists → Stand (line ∷ earlier) lists
stand-more lists earlier (says.Section number) stand = record {
  rising = stand.rising;
  before = omega (
    arith,
    ap (last_after 0) (stand.none (sections earlier + 1) (omega arith)),
  );
  none = λ i less. stand.none i (omega (arith, less));
}
stand-more lists earlier (says.Operation op) stand = record {
  rising = stand.rising;
  before = omega (arith, stand.before);
  none = stand.none;
}
stand-more lists earlier says.Skipped stand = record {
  rising = stand.rising;
  before = stand.before;
  none = stand.none;
}
stand-more lists earlier (says.Letter letter) stand = record {
  rising = stand.rising;
  before = stand.before;
  none = stand.none;
}
stand-more lists earlier (says.Stop stop) stand = record {
  rising = stand.rising;
  before = stand.before;
  none = stand.none;
}
stand-more lists earlier says.Threads stand = record {
  rising = stand.rising;
  before = stand.before;
  none = stand.none;
}
stand-more lists earlier says.Schedule stand = record {
  rising = stand.rising;
  before = stand.before;
  none = stand.none;
}
stand-more lists earlier (says.Turns turns) stand = record {
  rising = stand.rising;
  before = stand.before;
  none = stand.none;
}
stand-more lists earlier (says.Generate seed count) stand = record {
  rising = stand.rising;
  before = stand.before;
  none = stand.none;
}
stand-more lists earlier says.End stand = record {
  rising = stand.rising;
  before = stand.before;
  none = stand.none;
}
stand-more lists earlier says.Unreadable stand = record {
  rising = stand.rising;
  before = stand.before;
  none = stand.none;
}

-- all lists rise, if each one does
pub all-rise : (lists : List (List Placed)) → ((i : ℕ) → IsRising (slice_index_or lists i []))
    → All IsRising lists
all-rise [] f = All-nil IsRising
all-rise (ps ∷ lists) f = All-cons IsRising ps lists (f 0) (all-rise lists (λ i. f (suc i)))
