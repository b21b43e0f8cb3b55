use Rattle.std.proofs.Common.{ap, ◌∙◌, arith}
use Rattle.std.specs.Prelude.{slice_index}
use Rattle.std.proofs.lemmas.List.{get_or_read}
use Rattle.ea_tags.proofs.Pages.{end-whole, page-within, place-within, read-none, read-some}
use Rattle.ea_tags.proofs.Pages.{within-numbers}
use Rattle.ea_tags.proofs.paged.PagedArray.get.Goals as goal

pub index-end-requires : goal.index-end-requires
index-end-requires c =
    let lt = within-numbers _ _ _ _ c.args.at c.self.view_is c.requires in
    omega (arith, page-within _ _ _ _ c.args.at c.self.invariant lt, c.self.inside.ends.ok)

pub returns-then-end-eq0 : goal.returns-then-end-eq0
returns-then-end-eq0 c =
    let lt = within-numbers _ _ _ _ c.args.at c.self.view_is c.requires in
    let held = get_or_read c.self.inside.ends.items _ _
    (page-within _ _ _ _ c.args.at c.self.invariant lt) c.index-end.ensures 0 in
    read-none _ _ _ c.args.at _ held lt c.if-end-eq0.true
    ∙ ap (λ xs. slice_index xs c.args.at) c.self.view_is

pub overflow_sub-end : goal.overflow_sub-end
overflow_sub-end c =
    let lt = within-numbers _ _ _ _ c.args.at c.self.view_is c.requires in
    let held = get_or_read c.self.inside.ends.items _ _
    (page-within _ _ _ _ c.args.at c.self.invariant lt) c.index-end.ensures 0 in
    end-whole _ _ _ c.args.at _ c.self.invariant.paged held c.if-end-eq0.false

pub index-requires : goal.index-requires
index-requires c =
    let lt = within-numbers _ _ _ _ c.args.at c.self.view_is c.requires in
    let held = get_or_read c.self.inside.ends.items _ _
    (page-within _ _ _ _ c.args.at c.self.invariant lt) c.index-end.ensures 0 in
    omega (
      arith,
      place-within _ _ _ c.args.at _ c.self.invariant.paged held c.if-end-eq0.false,
      c.self.inside.used.ok,
    )

pub returns : goal.returns
returns c =
    let lt = within-numbers _ _ _ _ c.args.at c.self.view_is c.requires in
    let held = get_or_read c.self.inside.ends.items _ _
    (page-within _ _ _ _ c.args.at c.self.invariant lt) c.index-end.ensures 0 in
    get_or_read c.self.inside.used.items _ _
    (place-within _ _ _ c.args.at _ c.self.invariant.paged held c.if-end-eq0.false)
    c.index.ensures 0
    ∙ read-some _ _ _ c.args.at _ c.self.invariant.paged held c.if-end-eq0.false _ lt
    ∙ ap (λ xs. slice_index xs c.args.at) c.self.view_is
