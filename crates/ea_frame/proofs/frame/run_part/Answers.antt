use Rattle.std.proofs.Common.{◌≡◌, refl, sym, ap, subst}
use Rattle.std.specs.Prelude.{Err, IsErrOf}
use Rattle.ea_frame.specs.declared.faults.Fault.{Fault}
use Rattle.ea_frame.specs.declared.faults.Fault.TheVariants.{ReadFailed, WriteFailed}
use Rattle.ea_frame.specs.Answered.{Answered, end_of}
use Rattle.ea_frame.specs.Faults.{status_of}
use Rattle.ea_frame.proofs.Ending as ending
use Rattle.ea_frame.proofs.Statuses.{ends_with_3, ends_with_4, ends_with_7, in_range, is_some}
use Rattle.ea_frame.proofs.frame.run_part.Goals as goal

same_status : (f known : Fault) → IsErrOf {T = Unit {0}} (Err f) known
    → status_of f ≡ status_of known
same_status f known e = let is : f ≡ known = cc in ap status_of is

pub returns-in-Err : goal.returns-in-Err
returns-in-Err g c =
    let language = g.P.Part.language in
    let words = c.args.words.now in
    let source = end_of g.S.Source.left g.S.Source.faults c.args.source.now c.attempt.new.source in
    let out = end_of g.O.Sink.taken g.O.Sink.faults c.args.out.now c.attempt.new.out in
    let err = end_of g.E.Sink.taken g.E.Sink.faults c.args.err.now c.complain.new.err in
    let f = c.in-Err.fault in
    let tried = c.in-Err.ensures in
    let why = tried.why in
    subst (Answered language words source out err) (sym c.status.ensures) (record {
      statuses = in_range f;
      done = λ zero. absurd (is_some f zero);
      end = λ zero. absurd (is_some f zero);
      promised = λ zero. absurd (is_some f zero);
      bad_words = ending.bad_words language words _ _ _ _ f why;
      good_words = ending.good_words language words _ _ _ _ f why;
      unread = tried.unread;
      bad_input = ending.bad_input language words _ _ _ _ f why;
      refuses = λ good calm. ending.refuses language words _ _ _ good
          (ending.no_read_failed source calm) _ f why;
      declined_input = λ seven. ending.declined_input language words _ _ _ _ f why
          (ends_with_7 f seven);
      declines = λ good calm. ending.declines language words _ _ _ good
          (ending.no_read_failed source calm) _ f why;
      taken = tried.taken;
      read_failed = λ three. ending.read_failed language words _ _ _ _ f why (ends_with_3 f three);
      read_told = λ rose. same_status f ReadFailed (tried.read_told rose);
      write_failed = λ four. tried.write_stops (ap Err (ends_with_4 f four));
      write_told = λ rose. same_status f WriteFailed (tried.write_told rose);
      front = λ four. tried.front (ap Err (ends_with_4 f four));
      untouched = λ some other. tried.untouched (λ is. other (ap status_of is));
      complete = λ good calm dry. ending.complete language words _ _ _ good
          (ending.no_read_failed source calm) (ending.no_write_failed out dry) _ f why;
      quiet = λ zero. absurd (is_some f zero);
      reason = λ some. (f, refl, c.complain.ensures.line, why);
      stops = c.complain.ensures.stops;
    })
