use Rattle.std.proofs.Common.{◌≡◌, slice_index_or, sym, ◌∙◌, subst, arith}
use Rattle.ea_segments.specs.Seating.{MayPlay, Played, known}
use Rattle.ea_segments.proofs.Passing.{whole}
use Rattle.ea_segments.proofs.playing.play_passes.Goals as goal

pub play_all-requires-clause-may : goal.play_all-requires-clause-may
play_all-requires-clause-may g c = λ κs bound k d e less.
    subst (λ ps. MayPlay c.args.desk.now (slice_index_or c.args.sections.now k e).items
    (slice_index_or ps k d)) (sym (c.deref_mut.ensures.value ∙ c.into_vec-passes.ensures))
    (c.requires.may k d e less)

pub returns-clause-played : goal.returns-clause-played
returns-clause-played g c = λ k d e less.
    let same : c.from_vec.result.items ≡ c.play_all.new.passes =
    c.from_vec.ensures ∙ whole _ c.play_all.new.passes _
    (omega (arith, c.play_all.auto.passes, c.deref_mut.ensures.len)) in
    let was : c.deref_mut.result.now ≡ c.args.passes.items = c.deref_mut.ensures.value
    ∙ c.into_vec-passes.ensures in
    subst (λ ps. Played (slice_index_or c.args.sections.now k e).items
    (known (slice_index_or c.args.passes.items k d)) (known (slice_index_or ps k d))) (sym same)
    (subst (λ ps. Played (slice_index_or c.args.sections.now k e).items
    (known (slice_index_or ps k d)) (known (slice_index_or c.play_all.new.passes k d))) was
    (c.play_all.ensures.played k d e less))
