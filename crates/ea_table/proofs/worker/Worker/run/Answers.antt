use Rattle.std.proofs.Common.{sym, ap, ◌∙◌}
use Rattle.ea_sched.specs.declared.state.Scheduler.{Scheduler}
use Rattle.ea_table.specs.declared.pass.Pass.{Pass}
use Rattle.ea_table.proofs.WorkerSteps.{sits}
use Rattle.ea_table.proofs.worker.Worker.run.Goals as goal

pub run_out-requires : goal.run_out-requires
run_out-requires g c =
    let s = c.args.self.scheduler in
    let id = c.args.board.now.table.shared.table_id in
    record {
      works = (
        s.config,
        s.trace.now,
        id,
        s.number,
        sits id c.args.self c.new-shared.result c.new-shared.ensures.pass
            c.new-shared.ensures.board c.requires.config c.requires.trace c.requires.ready
            c.requires.counted,
      );
    }

pub finish-requires-clause-works : goal.finish-requires-clause-works
finish-requires-clause-works g c =
    let s = c.args.self.scheduler in
    let id = c.args.board.now.table.shared.table_id in
    let at = c.run_out.ensures.works s.config s.trace.now id s.number
    (sits id c.args.self c.new-shared.result c.new-shared.ensures.pass c.new-shared.ensures.board
    c.requires.config c.requires.trace c.requires.ready c.requires.counted) in (
      s.config,
      s.trace.now,
      id,
      s.number,
      at,
    )

pub returns-clause-seated : goal.returns-clause-seated
returns-clause-seated g c =
    let s = c.args.self.scheduler in
    let id = c.args.board.now.table.shared.table_id in
    let at = c.run_out.ensures.works s.config s.trace.now id s.number
    (sits id c.args.self c.new-shared.result c.new-shared.ensures.pass c.new-shared.ensures.board
    c.requires.config c.requires.trace c.requires.ready c.requires.counted) in
    ap (λ (p : Pass). p.seat.table_id) c.finish.ensures.pass
    ∙ c.run_out.new.self.shared.seated.table ∙ at.table

pub returns-clause-same : goal.returns-clause-same
returns-clause-same g c =
    let s = c.args.self.scheduler in
    let id = c.args.board.now.table.shared.table_id in
    let at = c.run_out.ensures.works s.config s.trace.now id s.number
    (sits id c.args.self c.new-shared.result c.new-shared.ensures.pass c.new-shared.ensures.board
    c.requires.config c.requires.trace c.requires.ready c.requires.counted) in
    let same = c.finish.ensures.scheduler in (
      ap (λ (x : Scheduler). x.number) same ∙ at.number,
      ap (λ (x : Scheduler). x.config) same ∙ at.config,
      ap (λ (x : Scheduler). x.trace) same ∙ c.run_out.ensures.trace,
    )

pub returns-clause-run : goal.returns-clause-run
returns-clause-run g c =
    let s = c.args.self.scheduler in
    let id = c.args.board.now.table.shared.table_id in
    let at = c.run_out.ensures.works s.config s.trace.now id s.number
    (sits id c.args.self c.new-shared.result c.new-shared.ensures.pass c.new-shared.ensures.board
    c.requires.config c.requires.trace c.requires.ready c.requires.counted) in
    let pass = c.finish.ensures.pass in (
      ap (λ (p : Pass). p.seat.me.0.config) pass ∙ at.known_config ∙ sym c.requires.config,
      ap (λ (p : Pass). p.seat.me.0.trace) pass ∙ at.known_trace ∙ sym c.requires.trace,
    )

pub returns-clause-number : goal.returns-clause-number
returns-clause-number g c = λ none.
    let s = c.args.self.scheduler in
    let id = c.args.board.now.table.shared.table_id in
    let at = c.run_out.ensures.works s.config s.trace.now id s.number
    (sits id c.args.self c.new-shared.result c.new-shared.ensures.pass c.new-shared.ensures.board
    c.requires.config c.requires.trace c.requires.ready c.requires.counted) in
    let rest = c.finish.ensures.rest s.config s.trace.now id s.number at in
    (rest.last none).number
    ∙ sym (ap (λ (x : Scheduler). x.number) c.finish.ensures.scheduler ∙ at.number)

pub returns-clause-actor : goal.returns-clause-actor
returns-clause-actor g c = λ none.
    let s = c.args.self.scheduler in
    let id = c.args.board.now.table.shared.table_id in
    let at = c.run_out.ensures.works s.config s.trace.now id s.number
    (sits id c.args.self c.new-shared.result c.new-shared.ensures.pass c.new-shared.ensures.board
    c.requires.config c.requires.trace c.requires.ready c.requires.counted) in
    let rest = c.finish.ensures.rest s.config s.trace.now id s.number at in
    (rest.last none).actor

pub returns-clause-counted : goal.returns-clause-counted
returns-clause-counted g c = λ none.
    let s = c.args.self.scheduler in
    let id = c.args.board.now.table.shared.table_id in
    let at = c.run_out.ensures.works s.config s.trace.now id s.number
    (sits id c.args.self c.new-shared.result c.new-shared.ensures.pass c.new-shared.ensures.board
    c.requires.config c.requires.trace c.requires.ready c.requires.counted) in
    let rest = c.finish.ensures.rest s.config s.trace.now id s.number at in
    (rest.last none).counted

pub returns-clause-rests : goal.returns-clause-rests
returns-clause-rests g c = λ none.
    let s = c.args.self.scheduler in
    let id = c.args.board.now.table.shared.table_id in
    let at = c.run_out.ensures.works s.config s.trace.now id s.number
    (sits id c.args.self c.new-shared.result c.new-shared.ensures.pass c.new-shared.ensures.board
    c.requires.config c.requires.trace c.requires.ready c.requires.counted) in
    let rest = c.finish.ensures.rest s.config s.trace.now id s.number at in
    rest.rest none
