use Rattle.std.proofs.Common.{◌≡◌, ◌+◌, ◌<◌, ◌≤◌, ◌↔◌, All, sym, subst, arith}
use Rattle.std.specs.Prelude.{IfSome, IsNone}
use Rattle.std.proofs.lemmas.Grind.{common_steps}
use Rattle.ea_model.specs.Region.{runs_of, place_in, Laid}
use Rattle.ea_model.specs.Region.{AreFree}
use Rattle.ea_model.proofs.Options.{if_some}
use Rattle.ea_laws.proofs.FreeRuns.{Fits, place-Fits, place-none}
use Rattle.ea_space.proofs.region.Region.find.Goals as goal

-- the answer is the base of a run that is long enough, or of the end of one
found : (c : goal.After-start)
    → c.start.result ≡ place_in c.args.falling c.args.pages (runs_of c.args.self.now)
found c = grind (arith, common_steps)

fits : (c : goal.After-start)
    → IfSome c.start.result
    (λ base. Fits c.args.self.now.first c.args.self.now.end base c.args.pages c.args.self.now.taken)
fits c =
    subst (λ r. IfSome r
    (λ base. Fits c.args.self.now.first c.args.self.now.end base c.args.pages
    c.args.self.now.taken)) (sym (found c))
    (place-Fits c.args.falling c.args.self.now.first c.args.self.now.end c.args.pages c.args.self.now.taken
    (subst (λ r. Laid r.first r.end r.taken) c.self.view_is c.self.invariant.laid))

pub returns-clause-none : goal.returns-clause-none
returns-clause-none c = subst
    (λ r. IsNone r ↔ All (λ s. s.pages < c.args.pages) (runs_of c.args.self.now)) (sym (found c))
    (place-none c.args.falling c.args.pages (runs_of c.args.self.now))

pub returns-clause-inside : goal.returns-clause-inside
returns-clause-inside c = if_some c.start.result
    (λ base. Fits c.args.self.now.first c.args.self.now.end base c.args.pages c.args.self.now.taken)
    (λ base. (c.args.self.now.first ≤ base) × (base + c.args.pages ≤ c.args.self.now.end))
    (λ base f. (f.behind, f.before)) (fits c)

pub returns-clause-apart : goal.returns-clause-apart
returns-clause-apart c = if_some c.start.result
    (λ base. Fits c.args.self.now.first c.args.self.now.end base c.args.pages c.args.self.now.taken)
    (λ base. AreFree base c.args.pages c.args.self.now.taken) (λ base f. f.apart) (fits c)
