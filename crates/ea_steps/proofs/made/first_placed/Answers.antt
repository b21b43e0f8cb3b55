use Rattle.std.proofs.Common.{◌∙◌, sym, ap}
use Rattle.std.proofs.lemmas.List.{drop_all}
use Rattle.ea_steps.specs.Entered.{carriers_with}
use Rattle.ea_steps.specs.FoundCarriers.{first_number}
use Rattle.ea_steps.proofs.MadeNumbers.{carriers-more}
use Rattle.ea_steps.proofs.made.first_placed.Goals as goal

pub returns-in-Some : goal.returns-in-Some
returns-in-Some c = λ reports.
    sym (ap first_number (carriers-more reports c.args.entries.now c.loop-entry.entry-index _
    c.loop-entry-test.true _ (c.in-Some.ensures reports)))
    ∙ c.loop-entry.invariant reports

pub loop-entry-preserved : goal.loop-entry-preserved
loop-entry-preserved c = λ reports.
    sym (ap first_number (carriers-more reports c.args.entries.now c.loop-entry.entry-index _
    c.loop-entry-test.true _ (c.in_default.ensures reports)))
    ∙ c.loop-entry.invariant reports

pub returns : goal.returns
returns c = λ reports.
    ap (λ l. first_number (carriers_with reports l))
    (sym (drop_all c.loop-entry.entry-index c.args.entries.now c.loop-entry-test.false))
    ∙ c.loop-entry.invariant reports
