-- Each take of a text is noted, and its name is given to its scheduler if none is unaddressed.
use Rattle.std.proofs.Common.{◌≡◌, ℕ, ◌+◌, ◌-◌, ◌<◌, Bool, true, false, ◌||◌, ◌&&◌, not, ◌==◌, List}
use Rattle.std.proofs.Common.{[], ◌∷◌, None, reverse, refl, sym, subst, ◌∙◌, arith}
use Rattle.std.specs.List.{find, list_any}
use Rattle.std.proofs.lemmas.List.Folds.{list_any-append}
use Rattle.ea_model.specs.Trace.{takes, text_at}
use Rattle.ea_model.specs.declared.operations.Op.{Op}
use Rattle.ea_model.specs.declared.operations.Op.TheVariants.{Alloc, Free, Realloc, Give, Take}
use Rattle.ea_model.specs.declared.operations.Op.TheVariants.{Info, Idle}
use Rattle.ea_trace.specs.Language.{Earlier, is_given_to, is_unaddressed, section_operations}
use Rattle.ea_trace.specs.Language.{sections, takes_in, texts_after, texts_before}
use Rattle.ea_trace.specs.declared.lines.Line.TheVariants as lines
use Rattle.ea_trace.specs.declared.lines.Line.TheVariants.{Skipped, Letter, Section, Operation}
use Rattle.ea_trace.specs.declared.lines.Line.TheVariants.{Threads, Schedule, Turns, Generate, End}
use Rattle.ea_trace.specs.declared.lines.Line.TheVariants.{Unreadable}
use Rattle.ea_trace.specs.declared.takes.TakeLine.{TakeLine}
use Rattle.ea_trace.proofs.Followed.{Followed, each_last, laid, same_number}
use Rattle.ea_trace.proofs.Turned.{any_turned, found_none}

abbrev pub is_take : ℕ → ℕ → TakeLine → Bool
is_take k i t = (k == t.name) && (i == t.scheduler)

-- a line of scheduler i takes the name
abbrev pub is_taken : ℕ → ℕ → Earlier → Bool
is_taken k i lines = list_any (is_take k i) (takes_in lines)

or_more : (a b : Bool) → a ≡ true → (a || b) ≡ true
or_more true b h = refl
or_more false b h = absurd cc

last_part : (a b : Bool) → b ≡ true → (a || b) ≡ true
last_part true b h = refl
last_part false b h = h

both_parts : (a b : Bool) → (a && b) ≡ true → (a ≡ true) × (b ≡ true)
both_parts true b h = (refl, h)
both_parts false b h = absurd cc

given_not : (b : Bool) → not b ≡ false → b ≡ true
given_not true h = refl
given_not false h = absurd cc

found_now : (k name i : ℕ) → (k == name) ≡ true → (((k == name) && (i == i)) || false) ≡ true
found_now k name i h = grind arith

taken_more : (k i : ℕ) (op : Op) (older : Earlier) → is_taken k i older ≡ true
    → is_taken k i (Operation op ∷ older) ≡ true
taken_more k i (Alloc name bytes) older h = h
taken_more k i (Free name) older h = h
taken_more k i (Realloc old fresh bytes) older h = h
taken_more k i (Give name to) older h = h
taken_more k i (Take name tries) older h = list_any-append (is_take k i) (takes_in older) _
    ∙ or_more (is_taken k i older) _ h
taken_more k i Info older h = h
taken_more k i Idle older h = h

taken_now : (k : ℕ) (op : Op) (older : Earlier) → takes k op ≡ true
    → is_taken k (sections older) (Operation op ∷ older) ≡ true
taken_now k (Alloc name bytes) older h = absurd cc
taken_now k (Free name) older h = absurd cc
taken_now k (Realloc old fresh bytes) older h = absurd cc
taken_now k (Give name to) older h = absurd cc
taken_now k (Take name tries) older h = list_any-append (is_take k (sections older))
    (takes_in older) _
    ∙ last_part (is_taken k (sections older) older) _ (found_now k name (sections older) h)
taken_now k Info older h = absurd cc
taken_now k Idle older h = absurd cc

either_taken : (a b : Bool) (P : Bool) → (a || b) ≡ true → (a ≡ true → P ≡ true)
    → (b ≡ true → P ≡ true) → P ≡ true
either_taken true b P h f g = f refl
either_taken false b P h f g = g h

-- the takes of the section that was begun last
taken_here : (lines : Earlier) (k : ℕ) → list_any (takes k) (section_operations lines) ≡ true
    → is_taken k (sections lines) lines ≡ true
taken_here [] k h = absurd cc
taken_here (Skipped ∷ older) k h = taken_here older k h
taken_here (Letter l ∷ older) k h = taken_here older k h
taken_here (Section number ∷ older) k h = absurd cc
taken_here (Operation op ∷ older) k h = either_taken (takes k op)
    (list_any (takes k) (section_operations older)) (is_taken k (sections older)
    (Operation op ∷ older)) h
    (taken_now k op older) (λ e. taken_more k (sections older) op older (taken_here older k e))
taken_here (lines.Stop stop ∷ older) k h = taken_here older k h
taken_here (Threads ∷ older) k h = taken_here older k h
taken_here (Schedule ∷ older) k h = taken_here older k h
taken_here (Turns ts ∷ older) k h = taken_here older k h
taken_here (Generate seed count ∷ older) k h = taken_here older k h
taken_here (End ∷ older) k h = taken_here older k h
taken_here (Unreadable ∷ older) k h = taken_here older k h

-- each take of a scheduler's text is a line of that scheduler
abbrev pub AreTaken : Earlier → ℕ → List Op → Type 0
AreTaken lines i text = (k : ℕ) → list_any (takes k) text ≡ true → is_taken k (i + 1) lines ≡ true

none_taken : (lines : Earlier) (i : ℕ) → AreTaken lines i []
none_taken lines i = λ k h. absurd cc

last_taken : (lines : Earlier) → 0 < sections lines → AreTaken lines (sections lines - 1)
    (reverse (section_operations lines))
last_taken lines begun = λ k h.
    let same : sections lines - 1 + 1 ≡ sections lines = omega arith in
    subst (λ i. is_taken k i lines ≡ true) (sym same) (taken_here lines k
    (sym (any_turned (takes k) (section_operations lines)) ∙ h))

taken_before : (n : ℕ) (lines : Earlier) → Followed n lines → (i : ℕ)
    → AreTaken lines i (text_at i (texts_before lines))
taken_before n [] f i = none_taken [] i
taken_before n (Skipped ∷ older) f i = taken_before n older f.0 i
taken_before n (Letter l ∷ older) f i = taken_before n older f.0 i
taken_before n (Section number ∷ older) f i = each_last (AreTaken older) (sections older)
    (texts_before older) (reverse (section_operations older)) (laid n older f.0).count
    (none_taken older) (taken_before n older f.0) (last_taken older) i
taken_before n (Operation op ∷ older) f i = λ k h. taken_more k (i + 1) op older
    (taken_before n older f.0 i k h)
taken_before n (lines.Stop stop ∷ older) f i = taken_before n older f.0 i
taken_before n (Threads ∷ older) f i = taken_before n older f.0 i
taken_before n (Schedule ∷ older) f i = taken_before n older f.0 i
taken_before n (Turns ts ∷ older) f i = taken_before n older f.0 i
taken_before n (Generate seed count ∷ older) f i = taken_before n older f.0 i
taken_before n (End ∷ older) f i = taken_before n older f.0 i
taken_before n (Unreadable ∷ older) f i = taken_before n older f.0 i

pub taken_each : (n : ℕ) (lines : Earlier) → Followed n lines → (i : ℕ)
    → AreTaken lines i (text_at i (texts_after lines))
taken_each n lines f i = each_last (AreTaken lines) (sections lines) (texts_before lines)
    (reverse (section_operations lines)) (laid n lines f).count (none_taken lines)
    (taken_before n lines f) (last_taken lines) i

given_if : (lines : Earlier) (k i : ℕ) (t : TakeLine) → is_take k i t ≡ true
    → is_unaddressed lines t ≡ false → is_given_to k i lines ≡ true
given_if lines k i t h u =
    let parts = both_parts (k == t.name) (i == t.scheduler) h in
    rw (same_number k t.name parts.0, same_number i t.scheduler parts.1)
    (given_not (is_given_to t.name t.scheduler lines) u)

pub addressed : (lines : Earlier) (k i : ℕ) → find (is_unaddressed lines) (takes_in lines) ≡ None
    → is_taken k i lines ≡ true → is_given_to k i lines ≡ true
addressed lines k i none h = found_none (is_unaddressed lines) (is_take k i) (is_given_to k i lines)
    (given_if lines k i) (takes_in lines) none h
