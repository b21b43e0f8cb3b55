use Rattle.std.proofs.Common.{◌≡◌, ◌+◌, ◌*◌, length, set, refl, ap, ◌∙◌, arith}
use Rattle.ea_model.specs.declared.units.TheConstants.{NUMBERS}
use Rattle.std.proofs.lemmas.List.{length-set}
use Rattle.ea_machine.specs.Owners.{Employed}
use Rattle.ea_mem_shared.proofs.Mains.{next-main, no-main}
use Rattle.ea_mem_shared.proofs.mem.employ_mains.Goals as goal

pub loop-before-init : goal.loop-before-init
loop-before-init g c = record { mains = λ n. c.requires.absent n ∙ no-main n; count = refl }

pub loop-before-preserved : goal.loop-before-preserved
loop-before-preserved g c =
    let k = c.loop-before.before in
    let ps = c.loop-before.places in
    let at : c.first_number.result ≡ NUMBERS * k + 1 =
    omega (arith, c.first_number.ensures.first) in
    record {
      mains = next-main k ps c.put.new.self
          (omega (arith, c.loop-before-test.true, c.requires.within, c.loop-before.invariant.count))
          c.loop-before.invariant.mains
          (c.put.ensures ∙ ap (λ n. set ps n (Employed (k + 1))) at);
      count = ap length c.put.ensures
          ∙ length-set ps c.first_number.result (Employed (k + 1))
          ∙ c.loop-before.invariant.count;
    }
