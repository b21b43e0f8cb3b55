use Rattle.std.proofs.Common.{ap, ◌∙◌}
use Rattle.std.specs.List.{flat_map}
use Rattle.ea_model.specs.declared.lists.OutOfMemory.{OutOfMemory}
use Rattle.ea_report.specs.Text.{entry_text}
use Rattle.ea_report.proofs.Headed.{gave_all}
use Rattle.ea_report.proofs.beside.log_texts.Goals as goal

pub returns : goal.returns
returns g c =
    let slice = ap (λ it. it.base.slice.now) c.map.ensures.base
    ∙ ap (λ it. it.slice.now) c.with_min_len.ensures.base ∙ c.par_iter.ensures in
    let (results, chain, made) = c.in_ok-collect.ensures in
    gave_all OutOfMemory (λ log. flat_map entry_text log.items) (λ text. text.items)
    (λ texts. texts.items) c.args.logs.now c.in_ok-collect.field-0 chain.0 results
    (chain.1 ∙ slice) chain.2 made
