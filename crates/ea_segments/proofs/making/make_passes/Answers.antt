use Rattle.std.proofs.Common.{◌≡◌, ◌≤◌, ◌∷◌, ◌++◌, [], ℕ, List, sym, ap, ◌∙◌, subst, arith}
use Rattle.std.specs.Prelude.{sum_by}
use Rattle.atomic_table.specs.Table.{opening}
use Rattle.ea_segments.specs.Accounts.{Account}
use Rattle.ea_segments.specs.declared.views.About.{About}
use Rattle.ea_segments.specs.Ruling.{first, holds}
use Rattle.ea_segments.proofs.Dealing.{opens}
use Rattle.ea_segments.proofs.Passing.{counted}
use Rattle.ea_segments.proofs.making.make_passes.Goals as goal

pub new-requires-2 : goal.new-requires-2
new-requires-2 c =
    let about : About = record {
      pages = c.args.pages;
      most = c.loop-count.most;
      calls = c.extend_from_slice.new.self;
    } in
    let ledger : Account = c.in_ok-new.field-0 in
    let is = c.in_ok-new.ensures in
    let calls : c.extend_from_slice.new.self.items ≡ c.args.calls.now.items =
    c.in_ok-extend_from_slice.ensures.ok
    ∙ ap (λ (xs : List ℕ). xs ++ c.as_slice.result.now) c.new-own.ensures ∙ c.as_slice.ensures in
    let slots : c.push.new.self.items ≡ ledger ∷ [] =
    c.in_ok-push.ensures.items
    ∙ ap (λ (xs : List Account). xs ++ ledger ∷ []) c.new-slots.ensures.items in
    subst (λ xs. holds about (opening (0 ∷ []) xs (first about))) (sym slots)
    (opens about ledger (record {
      pages = ap (λ (x : Account). x.pages) is;
      most = ap (λ (x : Account). x.most) is;
      history = ap (λ (x : Account). x.history) is;
    }) (subst (λ ns. sum_by (λ (n : ℕ). n) ns ≤ c.loop-count.most) (sym calls)
    (counted c.loop-count.most c.loop-count.count-index
    (sum_by (λ (n : ℕ). n) c.args.calls.now.items)
    c.as_slice-count-items.result.now c.loop-count.invariant
    (omega (arith, c.loop-count-test.false)))))
