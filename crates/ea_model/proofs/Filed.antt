-- Entries of a log, whose reports lie beside them.
use Rattle.std.proofs.Common.{◌≡◌, ℕ, ◌<◌, List, [], ◌∷◌, ◌++◌, length, map, get_or, refl, ap, sym}
use Rattle.std.proofs.Common.{◌∙◌, arith, length-append}
use Rattle.std.specs.Prelude.{All, Some, slice_get}
use Rattle.std.proofs.lemmas.List.{get_or_append_left, map-append}
use Rattle.std.proofs.lemmas.List.Elements.{All-head, All-tail}
use Rattle.std.proofs.lemmas.Option.{slice_get-get_or}
use Rattle.std.proofs.Math.Seq.{get_or-append_seam}
use Rattle.ea_model.specs.declared.entries.Entry as declared
use Rattle.ea_model.specs.declared.entries.Entry.TheVariants.{Alloc, AllocFail, Free, FreeQueued}
use Rattle.ea_model.specs.declared.entries.Entry.TheVariants.{FreeSkipped, ReallocHere}
use Rattle.ea_model.specs.declared.entries.Entry.TheVariants.{ReallocMoved, ReallocQueued}
use Rattle.ea_model.specs.declared.entries.Entry.TheVariants.{ReallocFail, ReallocSkipped, Give}
use Rattle.ea_model.specs.declared.entries.Entry.TheVariants.{GiveSkipped, Take, TakeAbsent, Info}
use Rattle.ea_model.specs.declared.entries.Entry.TheVariants.{Idle, Stopped}
use Rattle.ea_model.specs.declared.entries.Reports.{Reports}
use Rattle.ea_model.specs.Entries.{Entry, IsWithin, informed, kept_at, reports_in, told}

within-more : {A : Type 0} (xs more : List A) (n : ℕ) → n < length xs → n < length (xs ++ more)
within-more xs more n h = grind (arith, length-append)

got-before : {A : Type 0} (xs more : List A) (n : ℕ) → n < length xs
    → slice_get (xs ++ more) n ≡ slice_get xs n
got-before [] more n h = absurd (omega (arith, h))
got-before (x ∷ xs) more n h = slice_get-get_or (x ∷ xs ++ more) n x (within-more (x ∷ xs) more n h)
    ∙ ap Some (get_or_append_left (x ∷ xs) more x n h) ∙ sym (slice_get-get_or (x ∷ xs) n x h)

got-last : {A : Type 0} (xs : List A) (x : A) → slice_get (xs ++ x ∷ []) (length xs) ≡ Some x
got-last xs x = slice_get-get_or (xs ++ x ∷ []) (length xs) x (grind (arith, length-append))
    ∙ ap Some (get_or-append_seam xs x [] x)

module _ (rs more : List Reports) where
  -- more reports after those that are there change no entry
  told-before : (e : declared.Entry ℕ) → IsWithin (length rs) e → told (rs ++ more) e ≡ told rs e
  told-before (Alloc name place) w = refl
  told-before (AllocFail name need looked why) w = refl
  told-before (Free name) w = refl
  told-before (FreeQueued name to) w = refl
  told-before (FreeSkipped name) w = refl
  told-before (ReallocHere old fresh place) w = refl
  told-before (ReallocMoved old fresh place) w = refl
  told-before (ReallocQueued old fresh place to) w = refl
  told-before (ReallocFail old fresh need looked why) w = refl
  told-before (ReallocSkipped old fresh) w = refl
  told-before (Give name to) w = refl
  told-before (GiveSkipped name to) w = refl
  told-before (Take name) w = refl
  told-before (TakeAbsent name tries) w = refl
  told-before (Info at) w = ap informed (got-before rs more at w)
  told-before Idle w = refl
  told-before (Stopped steps) w = refl

  map-before : (es : List (declared.Entry ℕ)) → All (IsWithin (length rs)) es
      → map (told (rs ++ more)) es ≡ map (told rs) es
  map-before [] ws = refl
  map-before (e ∷ es) ws = rw (told-before e (All-head (IsWithin (length rs)) e es ws))
      (rw (map-before es (All-tail (IsWithin (length rs)) e es ws)) refl)

-- the entry that is kept with its reports after the others is the one that was to be kept
told-kept : (rs : List Reports) (e : Entry) → told (rs ++ reports_in e) (kept_at (length rs) e) ≡ e
told-kept rs (Alloc name place) = refl
told-kept rs (AllocFail name need looked why) = refl
told-kept rs (Free name) = refl
told-kept rs (FreeQueued name to) = refl
told-kept rs (FreeSkipped name) = refl
told-kept rs (ReallocHere old fresh place) = refl
told-kept rs (ReallocMoved old fresh place) = refl
told-kept rs (ReallocQueued old fresh place to) = refl
told-kept rs (ReallocFail old fresh need looked why) = refl
told-kept rs (ReallocSkipped old fresh) = refl
told-kept rs (Give name to) = refl
told-kept rs (GiveSkipped name to) = refl
told-kept rs (Take name) = refl
told-kept rs (TakeAbsent name tries) = refl
told-kept rs (Info reports) = ap informed (got-last rs reports)
told-kept rs Idle = refl
told-kept rs (Stopped steps) = refl

pub added : (rs : List Reports) (es : List (declared.Entry ℕ)) (e : Entry)
    → All (IsWithin (length rs)) es
    → map (told (rs ++ reports_in e)) (es ++ kept_at (length rs) e ∷ []) ≡ map (told rs) es ++ e ∷ []
added rs es e ws = map-append (told (rs ++ reports_in e)) es (kept_at (length rs) e ∷ [])
    ∙ rw (map-before rs (reports_in e) es ws) (rw (told-kept rs e) refl)
