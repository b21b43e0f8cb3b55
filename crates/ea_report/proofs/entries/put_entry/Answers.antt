use Rattle.std.proofs.Common.{◌∷◌, [], ◌∙◌, sym, ap, codes, decimal, rules}
use Rattle.ea_model.specs.Entries.{informed, told}
use Rattle.ea_report.specs.Text.{entry_text, fail_words}
use Rattle.ea_report.proofs.Spaced.{line_alone}
use Rattle.ea_report.proofs.entries.put_entry.Goals as goal

pub returns-in-AllocFail : goal.returns-in-AllocFail
returns-in-AllocFail c =
    let it = c.in-AllocFail in
    search rules
    ∙ sym (line_alone (codes "alloc") (decimal it.name ∷ fail_words it.need it.looked it.why))
    ∙ sym (ap (λ e. entry_text (told c.args.reports.now e)) it.is)

pub returns-in-ReallocFail : goal.returns-in-ReallocFail
returns-in-ReallocFail c =
    let it = c.in-ReallocFail in
    search rules
    ∙ sym (line_alone (codes "realloc")
    (decimal it.old ∷ decimal it.fresh ∷ fail_words it.need it.looked it.why))
    ∙ sym (ap (λ e. entry_text (told c.args.reports.now e)) it.is)

pub returns-in-ReallocMoved : goal.returns-in-ReallocMoved
returns-in-ReallocMoved c =
    let it = c.in-ReallocMoved in
    search rules
    ∙ sym (line_alone (codes "realloc")
    (decimal it.old ∷ decimal it.fresh ∷ decimal it.place.carrier ∷ decimal it.place.offset
    ∷ decimal it.place.size ∷ codes "moved" ∷ codes "done" ∷ []))
    ∙ sym (ap (λ e. entry_text (told c.args.reports.now e)) it.is)

pub returns-in-ReallocQueued : goal.returns-in-ReallocQueued
returns-in-ReallocQueued c =
    let it = c.in-ReallocQueued in
    search rules
    ∙ sym (line_alone (codes "realloc")
    (decimal it.old ∷ decimal it.fresh ∷ decimal it.place.carrier ∷ decimal it.place.offset
    ∷ decimal it.place.size ∷ codes "moved" ∷ codes "queued" ∷ decimal it.to ∷ []))
    ∙ sym (ap (λ e. entry_text (told c.args.reports.now e)) it.is)

pub returns-in-Info : goal.returns-in-Info
returns-in-Info c =
    c.put_info.ensures ∙ ap (λ r. entry_text (informed r)) (sym c.reports_at.ensures)
    ∙ sym (ap (λ e. entry_text (told c.args.reports.now e)) c.in-Info.is)
