use Rattle.std.proofs.Common.{◌≡◌, ◌+◌, ◌<◌, ◌≤◌, ◌↔◌, All, sym, ap, ◌∙◌, subst}
use Rattle.std.specs.Prelude.{IfSome, IsNone}
use Rattle.ea_model.specs.Content.{gaps_of, gap_at}
use Rattle.ea_model.specs.Choice.{before, fitting, choice, IsFirst}
use Rattle.ea_laws.proofs.Chosen.{choice-fits, choice-sized, choice-none}
use Rattle.ea_mbc.proofs.Figures.{known}
use Rattle.ea_mbc.proofs.Least.{choice-IsFirst, choice-within}
use Rattle.ea_mbc.proofs.carrier.Mbc.choose.Goals as goal

chosen : (c : goal.After-best_gap)
    → c.best_gap.result ≡ choice c.args.inner c.args.need (gaps_of c.args.self.now)
chosen c =
    c.best_gap.ensures ∙ ap (λ m. choice c.args.inner c.args.need (gaps_of m)) c.self.view_is

pub returns-clause-none : goal.returns-clause-none
returns-clause-none c =
    subst (λ r. IsNone r ↔ All (λ g. g.size < c.args.need) (gaps_of c.args.self.now))
    (sym (chosen c)) (choice-none c.args.inner c.args.need (gaps_of c.args.self.now))

pub returns-clause-fits : goal.returns-clause-fits
returns-clause-fits c =
    subst (λ r. IfSome r (λ g. c.args.need ≤ g.size)) (sym (chosen c))
    (choice-fits c.args.inner c.args.need (gaps_of c.args.self.now))

pub returns-clause-gap : goal.returns-clause-gap
returns-clause-gap c =
    let now = c.args.self.now in
    let k = known _ _ _ _ _ _ _ _ now c.self.view_is c.self.invariant in
    subst (λ r. IfSome r (λ g. gap_at (gaps_of now) g.offset ≡ g.size)) (sym (chosen c))
    (choice-sized c.args.inner c.args.need 8 now.units now.blocks k.tiled)

pub returns-clause-within : goal.returns-clause-within
returns-clause-within c =
    let now = c.args.self.now in
    let k = known _ _ _ _ _ _ _ _ now c.self.view_is c.self.invariant in
    subst (λ r. IfSome r (λ g. g.offset + g.size ≤ now.units)) (sym (chosen c))
    (choice-within c.args.inner c.args.need 8 now.units now.blocks k.tiled)

pub returns-clause-first : goal.returns-clause-first
returns-clause-first c =
    let gs = gaps_of c.args.self.now in
    subst (λ r. IfSome r (IsFirst (before c.args.inner) (fitting c.args.need gs))) (sym (chosen c))
    (choice-IsFirst c.args.inner c.args.need gs)
