use Rattle.std.proofs.Common.{slice_index_or, sym, subst, arith}
use Rattle.ea_segments.specs.declared.pass.Pass.{Pass}
use Rattle.ea_segments.specs.Seating.{MayPlay, Played, known}
use Rattle.ea_segments.proofs.playing.play_all.Goals as goal

pub for_each_mut-requires-clause-accepts : goal.for_each_mut-requires-clause-accepts
for_each_mut-requires-clause-accepts g c = λ κs bound i p within is. (
  omega (arith, within, c.requires.all),
  λ e. subst (MayPlay c.args.desk.now (slice_index_or c.args.sections.now i e).items) (sym is)
      (c.requires.may i p.now e (omega (arith, within, c.requires.all))),
)

pub returns-clause-played : goal.returns-clause-played
returns-clause-played g c = λ k d e less.
    let j = (c.for_each_mut.ensures k d (omega (arith, less, c.requires.all))).1 in
    subst (λ (p : Pass). Played (slice_index_or c.args.sections.now k e).items
    (known (slice_index_or c.args.passes.now k d)) (known p)) j.left
    (subst (λ (p : Pass). Played (slice_index_or c.args.sections.now k e).items
    (known p) (known j.after_call.now)) j.argument_is (j.call.1 e))
