use Rattle.std.proofs.Common.{◌≡◌, ℕ, true, ap, sym, ◌∙◌, arith}
use Rattle.std.specs.Prelude.{max}
use Rattle.std.proofs.lemmas.Bool.{cond-true}
use Rattle.ea_model.specs.declared.units.TheConstants.{MIN_POWER_PAGES}
use Rattle.ea_model.specs.Instance.{Instance, growth, multis, power_from, rounded}
use Rattle.ea_model.specs.Units.{pages_for}
use Rattle.ea_laws.proofs.Powers.{power-raised}
use Rattle.ea_instance.proofs.Keeping.{kept-few}
use Rattle.ea_instance.proofs.instance.Instance.next_pages.Goals as goal

pub growth-requires-clause-count : goal.growth-requires-clause-count
growth-requires-clause-count c =
    omega (arith, kept-few _ _ _ _ _ _ _ c.self.invariant, c.multi_count.ensures.within)

pub returns-then-self : goal.returns-then-self
returns-then-self c =
    let i = c.args.self.now in
    let n : ℕ = c.max-pages.result in
    let p : ℕ = c.next_power_of_two.result in
    let is : n ≡ max c.args.least (pages_for (growth i.settings (multis i.contents))) =
    c.max-pages.ensures ∙ ap (max c.args.least) (c.pages_for.ensures
    ∙ ap pages_for (c.growth.ensures.units
    ∙ ap (growth c.self.inside.settings) c.multi_count.ensures.count))
    ∙ ap (λ (j : Instance). max c.args.least (pages_for (growth j.settings (multis j.contents))))
    c.self.view_is in
    let powers : i.settings.rules.powers ≡ true =
    sym (ap (λ (j : Instance). j.settings.rules.powers) c.self.view_is) ∙ c.if-self.true in
    c.max.ensures
    ∙ power-raised n p (
      c.next_power_of_two.ensures.power,
      c.next_power_of_two.ensures.lower_bound,
      c.next_power_of_two.ensures.upper_bound,
    )
    ∙ sym (cond-true i.settings.rules.powers (power_from n MIN_POWER_PAGES n) n powers)
    ∙ ap (rounded i.settings) is
