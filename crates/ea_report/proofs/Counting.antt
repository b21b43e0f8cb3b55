-- Which entries are counted doesn't hang on their reports.
use Rattle.std.proofs.Common.{◌≡◌, ℕ, ◌+◌, cond, List, [], ◌∷◌, false, map, refl, sym, ap, ◌∙◌}
use Rattle.std.specs.List.{fold}
use Rattle.std.specs.Prelude.{Option, Some, None, count_by, slice_get}
use Rattle.ea_model.specs.declared.entries.Entry as declared
use Rattle.ea_model.specs.declared.entries.Entry.TheVariants.{Alloc, AllocFail, Free, FreeQueued}
use Rattle.ea_model.specs.declared.entries.Entry.TheVariants.{FreeSkipped, ReallocHere}
use Rattle.ea_model.specs.declared.entries.Entry.TheVariants.{ReallocMoved, ReallocQueued}
use Rattle.ea_model.specs.declared.entries.Entry.TheVariants.{ReallocFail, ReallocSkipped, Give}
use Rattle.ea_model.specs.declared.entries.Entry.TheVariants.{GiveSkipped, Take, TakeAbsent, Info}
use Rattle.ea_model.specs.declared.entries.Entry.TheVariants.{Idle, Stopped}
use Rattle.ea_model.specs.declared.entries.Reports.{Reports}
use Rattle.ea_model.specs.Entries.{informed, told}
use Rattle.ea_report.specs.declared.summary.Counted.{Counted}
use Rattle.ea_report.specs.declared.summary.Counted.TheVariants as counted
use Rattle.ea_report.specs.Text.{is_of}

-- the allocator information is of none
info-none : (k : Counted) (o : Option Reports) → is_of k (informed o) ≡ false
info-none counted.Alloc None = refl
info-none counted.Alloc (Some r) = refl
info-none counted.Fail None = refl
info-none counted.Fail (Some r) = refl
info-none counted.Free None = refl
info-none counted.Free (Some r) = refl
info-none counted.Queued None = refl
info-none counted.Queued (Some r) = refl
info-none counted.Give None = refl
info-none counted.Give (Some r) = refl
info-none counted.Take None = refl
info-none counted.Take (Some r) = refl

module _ (k : Counted) (rs : List Reports) where
  told-alike : (e : declared.Entry ℕ) → is_of k (told rs e) ≡ is_of k (told [] e)
  told-alike (Alloc name place) = refl
  told-alike (AllocFail name need looked why) = refl
  told-alike (Free name) = refl
  told-alike (FreeQueued name to) = refl
  told-alike (FreeSkipped name) = refl
  told-alike (ReallocHere old fresh place) = refl
  told-alike (ReallocMoved old fresh place) = refl
  told-alike (ReallocQueued old fresh place to) = refl
  told-alike (ReallocFail old fresh need looked why) = refl
  told-alike (ReallocSkipped old fresh) = refl
  told-alike (Give name to) = refl
  told-alike (GiveSkipped name to) = refl
  told-alike (Take name) = refl
  told-alike (TakeAbsent name tries) = refl
  told-alike (Info at) = info-none k (slice_get rs at) ∙ sym (info-none k (slice_get [] at))
  told-alike Idle = refl
  told-alike (Stopped steps) = refl

  counted-on : (n : ℕ) (es : List (declared.Entry ℕ))
      → fold (λ a x. a + cond (is_of k x) 1 0) n (map (told rs) es)
      ≡ fold (λ a e. a + cond (is_of k (told [] e)) 1 0) n es
  counted-on n [] = refl
  counted-on n (e ∷ es) = ap (λ b. fold (λ a x. a + cond (is_of k x) 1 0) (n + cond b 1 0)
      (map (told rs) es)) (told-alike e)
      ∙ counted-on (n + cond (is_of k (told [] e)) 1 0) es

  pub counted-alike : (es : List (declared.Entry ℕ))
      → count_by (is_of k) (map (told rs) es) ≡ count_by (λ e. is_of k (told [] e)) es
  counted-alike es = counted-on 0 es
