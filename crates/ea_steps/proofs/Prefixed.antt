-- Words before each line of texts that follow one another.
use Rattle.std.proofs.Common.{◌≡◌, ℕ, ◌==◌, Bool, true, false, List, [], ◌∷◌, ◌++◌, codes, decimal}
use Rattle.std.proofs.Common.{append_assoc, flat_map, refl, sym, ap, ◌∙◌}
use Rattle.std.proofs.lemmas.List.Concat.{flat_map-append}
use Rattle.ea_model.specs.Entries.{Entry}
use Rattle.ea_model.specs.declared.entries.Entry.TheVariants as entry
use Rattle.ea_model.specs.declared.entries.Report.{Report}
use Rattle.ea_report.specs.Text.{entry_text, fail_words, line, report_text}
use Rattle.ea_steps.specs.Text.{log_text, with_each_line}

-- whether a line begins after these bytes
abbrev pub begins_after : Bool → List ℕ → Bool
begins_after begins [] = begins
begins_after begins (b ∷ bs) = begins_after (b == 10) bs

-- whole lines: a line begins after them, if one began before
pub whole-line : (begins : Bool) (bs : List ℕ) → begins_after begins (bs ++ 10 ∷ []) ≡ true
whole-line begins [] = refl
whole-line begins (b ∷ bs) = whole-line (b == 10) bs

pub whole-append : (begins : Bool) (a b : List ℕ)
    → begins_after begins (a ++ b) ≡ begins_after (begins_after begins a) b
whole-append begins [] b = refl
whole-append begins (x ∷ a) b = whole-append (x == 10) a b

module _ (words : List ℕ) where
  pub before-append : (begins : Bool) (a b : List ℕ) → with_each_line words begins (a ++ b)
      ≡ with_each_line words begins a ++ with_each_line words (begins_after begins a) b
  before-append begins [] b = refl
  before-append true (x ∷ a) b =
      ap (λ l. words ++ x ∷ l) (before-append (x == 10) a b)
      ∙ sym (append_assoc words (x ∷ with_each_line words (x == 10) a)
      (with_each_line words (begins_after (x == 10) a) b))
  before-append false (x ∷ a) b = ap (λ l. x ∷ l) (before-append (x == 10) a b)

  -- after whole lines
  pub before-whole : (a b : List ℕ) → begins_after true a ≡ true
      → with_each_line words true (a ++ b)
      ≡ with_each_line words true a ++ with_each_line words true b
  before-whole a b e = before-append true a b
      ∙ ap (λ begins. with_each_line words true a ++ with_each_line words begins b) e

-- each entry is whole lines
pub line-whole : (begins : Bool) (first : List ℕ) (words : List (List ℕ))
    → begins_after begins (line first words) ≡ true
line-whole begins first words = whole-line begins (first ++ flat_map (λ w. 32 ∷ w) words)

report-whole : (begins : Bool) (class : List ℕ) (r : Report)
    → begins_after begins (report_text class r) ≡ true
report-whole begins class r = line-whole begins (codes "info") (class
    ∷ codes "blocks" ∷ decimal r.blocks.now ∷ decimal r.blocks.last ∷ decimal r.blocks.ever
    ∷ codes "blocks_size" ∷ decimal r.blocks_size.now ∷ decimal r.blocks_size.last
    ∷ decimal r.blocks_size.ever
    ∷ codes "carriers" ∷ decimal r.carriers.now ∷ decimal r.carriers.last ∷ decimal r.carriers.ever
    ∷ codes "carriers_size" ∷ decimal r.carriers_size.now ∷ decimal r.carriers_size.last
    ∷ decimal r.carriers_size.ever ∷ [])

entry-whole : (e : Entry) → begins_after true (entry_text e) ≡ true
entry-whole (entry.Alloc name p) = line-whole true (codes "alloc")
    (decimal name ∷ decimal p.carrier ∷ decimal p.offset ∷ decimal p.size ∷ [])
entry-whole (entry.AllocFail name need looked why) = line-whole true (codes "alloc")
    (decimal name ∷ fail_words need looked why)
entry-whole (entry.Free name) = line-whole true (codes "free") (decimal name ∷ codes "done" ∷ [])
entry-whole (entry.FreeQueued name to) = line-whole true (codes "free")
    (decimal name ∷ codes "queued" ∷ decimal to ∷ [])
entry-whole (entry.FreeSkipped name) = line-whole true (codes "free")
    (decimal name ∷ codes "skipped" ∷ [])
entry-whole (entry.ReallocHere old fresh p) = line-whole true (codes "realloc") (decimal old
    ∷ decimal fresh ∷ decimal p.carrier ∷ decimal p.offset ∷ decimal p.size ∷ codes "here" ∷ [])
entry-whole (entry.ReallocMoved old fresh p) = line-whole true (codes "realloc") (decimal old
    ∷ decimal fresh ∷ decimal p.carrier ∷ decimal p.offset ∷ decimal p.size
    ∷ codes "moved" ∷ codes "done" ∷ [])
entry-whole (entry.ReallocQueued old fresh p to) = line-whole true (codes "realloc") (decimal old
    ∷ decimal fresh ∷ decimal p.carrier ∷ decimal p.offset ∷ decimal p.size
    ∷ codes "moved" ∷ codes "queued" ∷ decimal to ∷ [])
entry-whole (entry.ReallocFail old fresh need looked why) = line-whole true (codes "realloc")
    (decimal old ∷ decimal fresh ∷ fail_words need looked why)
entry-whole (entry.ReallocSkipped old fresh) = line-whole true (codes "realloc")
    (decimal old ∷ decimal fresh ∷ codes "skipped" ∷ [])
entry-whole (entry.Give name to) = line-whole true (codes "give") (decimal name ∷ decimal to ∷ [])
entry-whole (entry.GiveSkipped name to) = line-whole true (codes "give")
    (decimal name ∷ decimal to ∷ codes "skipped" ∷ [])
entry-whole (entry.Take name) = line-whole true (codes "take") (decimal name ∷ codes "got" ∷ [])
entry-whole (entry.TakeAbsent name tries) = line-whole true (codes "take")
    (decimal name ∷ codes "absent" ∷ decimal tries ∷ [])
entry-whole (entry.Info reports) = whole-append true (report_text (codes "mbcs") reports.mbcs)
    (report_text (codes "sbcs") reports.sbcs)
    ∙ report-whole (begins_after true (report_text (codes "mbcs") reports.mbcs)) (codes "sbcs")
    reports.sbcs
entry-whole entry.Idle = line-whole true (codes "idle") []
entry-whole (entry.Stopped steps) = line-whole true (codes "stopped") (decimal steps ∷ [])

entries-whole : (es : List Entry) → begins_after true (flat_map entry_text es) ≡ true
entries-whole [] = refl
entries-whole (e ∷ es) = whole-append true (entry_text e) (flat_map entry_text es)
    ∙ ap (λ begins. begins_after begins (flat_map entry_text es)) (entry-whole e)
    ∙ entries-whole es

-- the lines of entries, some after others
pub log-append : (me : ℕ) (es fs : List Entry)
    → log_text me (es ++ fs) ≡ log_text me es ++ log_text me fs
log-append me es fs =
    let words = codes "log " ++ decimal me ++ codes " " in
    ap (with_each_line words true) (flat_map-append entry_text es fs)
    ∙ before-whole words (flat_map entry_text es) (flat_map entry_text fs) (entries-whole es)
