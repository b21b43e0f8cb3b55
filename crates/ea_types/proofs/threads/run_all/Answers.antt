use Rattle.std.proofs.Common.{rules, ℕ, ◌+◌, slice_index_or, sym, subst}
use Rattle.std.specs.Prelude.{IfOk}
use Rattle.std.proofs.lemmas.Result.{IfOk-weaker}
use Rattle.ea_types.specs.Tables.{AreAtRest, AreFresh}
use Rattle.ea_types.proofs.threads.run_all.Goals as goal

pub map_vec-requires-after_bounds : goal.map_vec-requires-after_bounds
map_vec-requires-after_bounds g c κs within = λ i x less is. (
  c.requires.valid,
  (
    i + 1,
    subst (λ ws. AreFresh c.args.boards.now (i + 1) ws.items) (sym is)
        (c.requires.fresh i x less),
  ),
)

pub returns-clause-rest : goal.returns-clause-rest
returns-clause-rest g c = λ j d less.
    let bs = c.args.boards.now in
    let x = (c.in_ok-map_vec.ensures.each j d less).1 in
    let r = slice_index_or c.in_ok-map_vec.field-0.items j d in
    let m = x.call.met in
    let fresh = subst (λ ws. AreFresh bs (j + 1) ws.items) (sym x.job_read)
    (c.requires.fresh j x.job less) in
    let said : IfOk r (λ fs. (i : ℕ) → AreFresh bs i x.job.items → AreAtRest bs i fs.items) =
    search (rules, m) in
    IfOk-weaker r (λ fs. (i : ℕ) → AreFresh bs i x.job.items → AreAtRest bs i fs.items)
    (λ fs. AreAtRest bs (j + 1) fs.items) (λ fs rest. rest (j + 1) fresh) said
