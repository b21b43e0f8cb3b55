use Rattle.std.proofs.Common.{◌≡◌, [], ◌∷◌, ◌++◌, length, sym, ap, ◌∙◌, arith}
use Rattle.std.proofs.lemmas.List.{append-nil, append_assoc, nil_from_length}
use Rattle.ea_types.proofs.Finds.{printed-all, printed-more}
use Rattle.ea_types.proofs.given.TypedRun.outcomes.Goals as goal

pub loop-run-init : goal.loop-run-init
loop-run-init c = (
  c.into_iter-run-iterator.ensures.into_iter_gives.0,
  ap length c.new-outcomes.ensures,
  λ x r o below. absurd (omega (arith, below)),
)

pub loop-run-preserved : goal.loop-run-preserved
loop-run-preserved c =
    let (all, many, each) = c.loop-run.invariant in
    let more = printed-more c.loop-run.yielded c.loop-run.outcomes.items c.push.new.self.items
    c.in-Some.run' c.in_ok-outcome.field-0 many each c.in_ok-outcome.ensures
    c.in_ok-push.ensures.ok in (
      append_assoc c.loop-run.yielded (c.in-Some.run' ∷ []) c.next.new.self.rest.items
          ∙ ap (λ us. c.loop-run.yielded ++ us) (sym c.in-Some.ensures.steps.0) ∙ all,
      more.0,
      more.1,
    )

pub returns : goal.returns
returns c = λ d other traces parts turns at.
    let (all, many, each) = c.loop-run.invariant in
    let rest = c.loop-run.run-iterator.rest in
    let none : rest.items ≡ [] = nil_from_length rest.items
    (omega (arith, c.in-None.ensures.steps.0, rest.ok.0)) in
    printed-all d other traces parts turns c.args.self at c.loop-run.yielded
    c.loop-run.outcomes.items
    (sym (append-nil c.loop-run.yielded) ∙ ap (λ us. c.loop-run.yielded ++ us) (sym none) ∙ all)
    many each
