use Rattle.std.proofs.Common.{◌≡◌, true, false, sym, ◌∙◌}
use Rattle.std.specs.Prelude.{None}
use Rattle.ea_super.specs.Language.{is_bad_scheduler, may_stand, refusal, sections, stage_after}
use Rattle.ea_super.proofs.Reading.{accepted}
use Rattle.ea_super.proofs.seen.Seen.take.Goals as goal

pub returns-clause-ok : goal.returns-clause-ok
returns-clause-ok c = λ n earlier k number.
    let line = c.args.line in
    let stands : may_stand (stage_after earlier) (sections earlier) line ≡ true =
    rw (sym k.stage, sym k.section) (sym c.admits.ensures.exact ∙ c.if-not-admits.false) in
    let good : is_bad_scheduler n (sections earlier) line ≡ false =
    rw (sym k.schedulers, sym k.section) (sym c.is_bad.ensures ∙ c.if-is_bad.false) in
    record {
      accepted = accepted n earlier line stands good
          (sym (c.is_full.ensures.many n earlier k) ∙ c.if-is_full.false)
          (sym (c.reuses.ensures n earlier k) ∙ c.if-reuses.false)
          (sym (c.lacks.ensures n earlier k) ∙ c.if-lacks.false);
      known = c.in_ok-add.ensures.known n earlier k;
    }

pub returns-clause-sure : goal.returns-clause-sure
returns-clause-sure c = λ n earlier k number.
    let line = c.args.line in
    let stands : may_stand (stage_after earlier) (sections earlier) line ≡ true =
    rw (sym k.stage, sym k.section) (sym c.admits.ensures.exact ∙ c.if-not-admits.false) in
    let good : is_bad_scheduler n (sections earlier) line ≡ false =
    rw (sym k.schedulers, sym k.section) (sym c.is_bad.ensures ∙ c.if-is_bad.false) in
    let none : refusal n earlier line ≡ None = accepted n earlier line stands good
    (sym (c.is_full.ensures.many n earlier k) ∙ c.if-is_full.false)
    (sym (c.reuses.ensures n earlier k) ∙ c.if-reuses.false)
    (sym (c.lacks.ensures n earlier k) ∙ c.if-lacks.false) in
    rw none tt
