use Rattle.std.proofs.Common.{◌≡◌, ◌+◌, ◌≤◌, [], ◌∷◌, ◌++◌, length, map, sym, ap, ◌∙◌, subst, arith}
use Rattle.std.proofs.lemmas.List.{append-nil, append_assoc, length-append}
use Rattle.std.proofs.lemmas.List.{length-map, map-append, nil_from_length}
use Rattle.ea_table.specs.declared.worker.Worker.{Worker}
use Rattle.ea_table.specs.Threads.{IsFirst}
use Rattle.ea_table.proofs.Threading.{dealt-at, first-is, one-more}
use Rattle.ea_table.proofs.threads.workers_of.Goals as goal

pub loop-pass-init : goal.loop-pass-init
loop-pass-init c = record {
  all = c.into_iter-pass-iterator.ensures.into_iter_gives.0 ∙ c.into_vec-pass-items.ensures;
  number = ap length c.new-workers.ensures.items;
  passes = ap (map (λ (w : Worker). w.pass)) c.new-workers.ensures.items;
  first = λ k d less. absurd (omega (arith, less));
}

more : (c : goal.In-Some) → c.loop-pass.number + 1 ≤ c.args.config.schedulers
more c =
    let i = c.loop-pass.invariant in
    let ws = c.loop-pass.workers.items in
    omega (
      arith,
      i.number,
      length-map ws (λ (w : Worker). w.pass),
      ap length i.passes,
      length-append c.loop-pass.yielded c.loop-pass.pass-iterator.rest.items,
      ap length i.all,
      c.requires.all,
      ap length c.in-Some.ensures.steps.0,
    )

pub overflow_add-number : goal.overflow_add-number
overflow_add-number c = omega (arith, more c, c.requires.config.schedulers.1)

pub new-requires-clause-to : goal.new-requires-clause-to
new-requires-clause-to c = more c

pub loop-pass-preserved : goal.loop-pass-preserved
loop-pass-preserved c =
    let i = c.loop-pass.invariant in
    let ws = c.loop-pass.workers.items in
    let p = c.in-Some.pass in
    let s = c.in_ok-scheduler.scheduler in
    let e = c.in_ok-scheduler.ensures in
    let w : Worker = c.new-in-loop-pass.result in
    let steps = c.in-Some.ensures.steps.0 in
    record {
      all = append_assoc c.loop-pass.yielded (p ∷ []) c.next.new.self.rest.items
          ∙ ap (λ xs. c.loop-pass.yielded ++ xs) (sym steps) ∙ i.all;
      number = ap length c.in_ok-push.ensures.items ∙ length-append ws (w ∷ [])
          ∙ ap (λ n. n + 1) i.number;
      passes = ap (map (λ (x : Worker). x.pass)) c.in_ok-push.ensures.items
          ∙ map-append (λ (x : Worker). x.pass) ws (w ∷ [])
          ∙ ap (λ xs. xs ++ w.pass ∷ []) i.passes
          ∙ ap (λ x. c.loop-pass.yielded ++ x ∷ []) c.new-in-loop-pass.ensures.1;
      first = one-more (λ k x. IsFirst c.args.config c.args.trace.now k x.scheduler)
          c.loop-pass.number ws i.number i.first w
          (subst (IsFirst c.args.config c.args.trace.now (c.loop-pass.number + 1))
          (sym c.new-in-loop-pass.ensures.0) (first-is c.args.config c.args.trace.now
          (c.loop-pass.number + 1) s e.config e.trace e.number e.failed e.left e.actor))
          c.push.new.self.items c.in_ok-push.ensures.items;
    }

none-left : (c : goal.After-drop-pass-iterator-2) → c.loop-pass.pass-iterator.rest.items ≡ []
none-left c =
    nil_from_length c.loop-pass.pass-iterator.rest.items
    (sym c.loop-pass.pass-iterator.rest.ok.0 ∙ c.in-None.ensures.steps.0)

whole : (c : goal.After-drop-pass-iterator-2) → c.loop-pass.yielded ≡ c.args.passes.items
whole c =
    sym (append-nil c.loop-pass.yielded)
    ∙ ap (λ xs. c.loop-pass.yielded ++ xs) (sym (none-left c)) ∙ c.loop-pass.invariant.all

pub returns-clause-all : goal.returns-clause-all
returns-clause-all c =
    sym (length-map c.loop-pass.workers.items (λ (w : Worker). w.pass))
    ∙ ap length (c.loop-pass.invariant.passes ∙ whole c) ∙ c.requires.all

pub returns-clause-each : goal.returns-clause-each
returns-clause-each c = λ id dealt k d less.
    let i = c.loop-pass.invariant in
    record {
      scheduler = i.first k d (omega (arith, less, returns-clause-all c, i.number));
      pass = dealt-at c.args.config c.args.trace.now id c.loop-pass.workers.items
          c.args.passes.items (i.passes ∙ whole c) dealt k d less;
    }
