use Rattle.std.proofs.Common.{◌≡◌, ◌++◌, ◌∙◌, drop, sym, ap, subst}
use Rattle.std.specs.List.{flat_map}
use Rattle.std.specs.Prelude.{OnOk}
use Rattle.std.proofs.lemmas.List.{drop-map, take_rest}
use Rattle.std.proofs.lemmas.List.Folds.{flat_map-map}
use Rattle.ea_model.specs.Entries.{told}
use Rattle.ea_report.specs.Text.{entry_text}
use Rattle.ea_report.proofs.entries.put_log_from.Goals as goal

pub returns : goal.returns
returns c =
    let put = c.put_entries in
    let tell = told c.parts.result.1.now in
    let entries = c.parts.result.0.now in
    let from = c.args.from in
    subst (λ l. OnOk put.result (put.new.text.items ≡ c.args.text.now.items ++ l))
    (ap (flat_map (λ e. entry_text (tell e))) (take_rest entries from)
    ∙ sym (flat_map-map entry_text tell (drop from entries))
    ∙ ap (flat_map entry_text) (sym (drop-map tell from entries) ∙ ap (drop from)
    c.parts.ensures.told)) put.ensures
