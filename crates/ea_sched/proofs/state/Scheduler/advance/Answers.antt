use Rattle.std.proofs.Common.{◌∙◌}
use Rattle.std.proofs.lemmas.Result.{on_ok_weaker}
use Rattle.ea_sched.proofs.Seeking.{search-observed}
use Rattle.ea_sched.proofs.state.Scheduler.advance.Goals as goal

pub returns-in-Searching-clause-row : goal.returns-in-Searching-clause-row
returns-in-Searching-clause-row g c =
    on_ok_weaker c.search.result
    (search-observed c.args.self.now c.requires.starts.ready c.in-Searching.ask c.in-Searching.at
    c.in-Searching.part c.in-Searching.is)
    c.search.ensures.row

pub returns : goal.returns
returns g c =
    let did = c.in_ok-do_row.ensures in
    let seen = c.observe.ensures in
    record {
      stays = did.stays;
      same = record {
        config = seen.same.config ∙ did.same.config;
        trace = seen.same.trace ∙ did.same.trace;
        number = seen.same.number ∙ did.same.number;
        text = seen.same.text ∙ did.same.text;
        left = seen.same.left ∙ did.same.left;
        failed = seen.same.failed ∙ did.same.failed;
      };
      row = record { gone_on = c.do_row.new.self; row = did.row; is = seen.actor };
      memory = tt;
    }
