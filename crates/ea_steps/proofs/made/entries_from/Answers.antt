use Rattle.std.proofs.Common.{◌∙◌, sym, ap, drop, map}
use Rattle.std.proofs.lemmas.List.{drop-map, take_rest}
use Rattle.ea_model.specs.Entries.{told}
use Rattle.ea_steps.proofs.made.entries_from.Goals as goal

pub returns : goal.returns
returns c =
    let reports = c.parts.result.1.now in
    let entries = c.parts.result.0.now in
    let from = c.args.from in (
      reports,
      ap (map (told reports)) (take_rest entries from)
          ∙ sym (drop-map (told reports) from entries)
          ∙ ap (drop from) c.parts.ensures.told,
    )
