use Rattle.std.proofs.Common.{◌&&◌, nat_lt, ap, ◌∙◌}
use Rattle.ea_model.specs.declared.settings.Settings.{Settings}
use Rattle.ea_model.specs.Instance.{owner_of}
use Rattle.ea_machine.specs.Owners.{employed_if}
use Rattle.ea_machine.specs.Setup.{setup_of}
use Rattle.ea_shared.specs.Carriers.{is_first_upto}
use Rattle.ea_mem_shared.proofs.Mains.{mains-first}
use Rattle.ea_mem_shared.proofs.Rows.{start-shared}
use Rattle.ea_mem_shared.proofs.mem.MemShared.new.Goals as goal

pub returns-clause-start : goal.returns-clause-start
returns-clause-start g c =
    let e = setup_of c.args.config c.args.trace.now in
    start-shared e c.in_ok-queues.queues c.in_ok-given.given.held c.in_ok-places.places
    c.lets_migrate-migrates.result c.in_ok-queues.ensures.queues c.in_ok-queues.ensures.rests
    c.in_ok-given.ensures.none
    (λ n. c.in_ok-places.ensures.places n
    ∙ ap (λ m. employed_if ((m && nat_lt 0 c.of-settings.result.mmbcs)
    && is_first_upto c.args.config.schedulers n) (owner_of n)) c.lets_migrate-migrates.ensures
    ∙ ap (λ (s : Settings). employed_if ((nat_lt 0 s.acul && nat_lt 0 s.mmbcs)
    && is_first_upto c.args.config.schedulers n) (owner_of n)) c.of-settings.ensures
    ∙ mains-first e n)
