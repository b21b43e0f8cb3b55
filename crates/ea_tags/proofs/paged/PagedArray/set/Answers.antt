use Rattle.std.proofs.Common.{set, sym, ap, ◌∙◌, arith}
use Rattle.ea_tags.proofs.Pages.{end-whole, numbers-same, numbers-written, page-within}
use Rattle.ea_tags.proofs.Pages.{paged-written, place-within, within-numbers}
use Rattle.ea_tags.proofs.paged.PagedArray.set.Goals as goal

pub use_page-end-requires-clause-within : goal.use_page-end-requires-clause-within
use_page-end-requires-clause-within c =
    page-within _ _ _ _ c.args.at c.self.invariant
    (within-numbers _ _ _ _ c.args.at c.self.view_is c.requires)

pub overflow_sub-end : goal.overflow_sub-end
overflow_sub-end c =
    let its = c.use_page-end.ensures in
    end-whole _ _ _ c.args.at _ its.paged (sym its.end) (λ e. omega (arith, e, its.some))

pub index_mut-requires : goal.index_mut-requires
index_mut-requires c =
    let its = c.use_page-end.ensures in
    omega (
      arith,
      place-within _ _ _ c.args.at _ its.paged (sym its.end) (λ e. omega (arith, e, its.some)),
      c.use_page-end.new.used.ok,
    )

pub invariant_of-self : goal.invariant_of-self
invariant_of-self c =
    let its = c.use_page-end.ensures in
    record {
      paged = paged-written _ _ _ c.args.at _ its.paged (sym its.end)
          (λ e. omega (arith, e, its.some)) c.args.value;
      enough = omega (arith, c.self.invariant.enough, its.pages);
    }

pub returns : goal.returns
returns c =
    let its = c.use_page-end.ensures in
    numbers-written _ _ _ c.args.at _ its.paged (sym its.end) (λ e. omega (arith, e, its.some))
    c.args.value _ (within-numbers _ _ _ _ c.args.at c.self.view_is c.requires)
    ∙ ap (λ xs. set xs c.args.at c.args.value)
    (numbers-same _ _ _ _ _ its.same ∙ c.self.view_is)
