use Rattle.std.proofs.Common.{◌≡◌, true, false, sym, ◌∙◌}
use Rattle.ea_trace.specs.Language.{is_bad_scheduler, may_stand, sections, stage_after, stops_after}
use Rattle.ea_trace.specs.Says.{said}
use Rattle.ea_trace.proofs.Reading.{accepted, without_names}
use Rattle.ea_trace.proofs.seen.Seen.take.Goals as goal

pub returns : goal.returns
returns c = λ n earlier k number.
    let line = said c.args.line in
    let stands : may_stand n (stage_after earlier) (sections earlier) (stops_after earlier) line
    ≡ true =
    rw (sym k.schedulers, sym k.stage, sym k.section, sym k.stops)
    (sym c.admits.ensures.exact ∙ c.if-not-admits.false) in
    let good : is_bad_scheduler n (sections earlier) (stops_after earlier) line ≡ false =
    rw (sym k.schedulers, sym k.section, sym k.stops) (sym c.is_bad.ensures ∙ c.if-is_bad.false) in
    let without = without_names c.args.line earlier c.in_default.not-Operation in
    record {
      refused = sym (accepted n earlier line stands good
          (sym (c.is_full.ensures.many n earlier k) ∙ c.if-is_full.false) without.0 without.1);
      known = c.in_ok-add.ensures n earlier k without.0 number;
    }
