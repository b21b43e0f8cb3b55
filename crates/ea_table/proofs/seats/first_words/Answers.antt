use Rattle.std.proofs.Common.{◌≡◌, length, drop, sym, ap, ◌∙◌, subst}
use Rattle.std.proofs.lemmas.List.{take_at}
use Rattle.ea_table.specs.Start.{AreFirst}
use Rattle.ea_table.proofs.MainWords.{all-mains, some-acul}
use Rattle.ea_table.proofs.seats.first_words.Goals as goal

pub returns : goal.returns
returns c =
    let has = c.employ_mains.ensures.mains in
    let new = c.employ_mains.new.words in
    let words = c.in_ok-words.words in
    let same = c.of-settings.ensures in
    let many : length new ≡ words.len = has.count ∙ sym c.count_words.ensures
    ∙ sym c.in_ok-words.ensures.len in
    subst (AreFirst c.args.config c.args.trace.now)
    (sym (take_at new (drop (length new) words.items) words.len many))
    (all-mains c.args.config c.args.trace.now new
    (λ q. some-acul c.of-settings.result c.lets_migrate.result c.lets_migrate.ensures
    c.if-not-lets_migrate.false (ap (λ s. s.acul) same ∙ q))
    (λ q. c.if-settings-eq0.false (ap (λ s. s.mmbcs) same ∙ q)) has)
