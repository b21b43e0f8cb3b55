use Rattle.std.proofs.Common.{ℕ, List, ◌∷◌, [], ◌++◌, ◌∙◌, sym, ap, codes, decimal}
use Rattle.ea_model.specs.declared.entries.Triple.{Triple}
use Rattle.ea_report.specs.Printed.{spaced}
use Rattle.ea_report.proofs.Spaced.{report_before}
use Rattle.ea_report.proofs.entries.put_report.Goals as goal

-- a figure before a rest
abbrev figure : List ℕ → Triple → List ℕ → List ℕ
figure word f rest = word ++ spaced (decimal f.now ∷ decimal f.last ∷ decimal f.ever ∷ []) rest

pub returns-clause-bytes : goal.returns-clause-bytes
returns-clause-bytes c =
    let class = c.args.class.now in
    let r = c.args.report.now in
    c.text-3.ensures.bytes
    ∙ ap (λ l. codes "info " ++ l) (c.text-2.ensures.bytes
    ∙ ap (λ l. class ++ l) (c.put_figure-4.ensures.bytes
    ∙ ap (figure (codes " blocks") _) (c.put_figure-3.ensures.bytes
    ∙ ap (figure (codes " blocks_size") r.blocks_size) (c.put_figure-2.ensures.bytes
    ∙ ap (figure (codes " carriers") r.carriers) (c.put_figure.ensures.bytes
    ∙ ap (figure (codes " carriers_size") r.carriers_size) c.text.ensures.bytes)))))
    ∙ sym (report_before class r c.args.tail.now)
