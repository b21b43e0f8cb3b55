use Rattle.std.proofs.Common.{inl, inr, ◌≤◌, ◌∙◌, refl, subst, sym, arith}
use Rattle.std.specs.Prelude.{All}
use Rattle.ea_mbc.specs.Layout.{Layout}
use Rattle.ea_mbc.proofs.Finding.{nothing-there, unnamed-IsCoded}
use Rattle.ea_mbc.proofs.Naming.{none-named}
use Rattle.ea_mbc.proofs.Seen.{seen}
use Rattle.ea_mbc.proofs.Walking.{none-iff}
use Rattle.ea_mbc.proofs.units.CarrierUnits.begins.Goals as goal

pub returns-then-offset-ne0 : goal.returns-then-offset-ne0
returns-then-offset-ne0 c =
    let s = seen _ _ _ c.args.self.now c.self.view_is c.self.invariant.coded in
    none-iff _
    (nothing-there _ c.args.offset _ s.coded.tiled (inl (omega (arith, c.if-offset-ne0.true))))

pub returns-then-offset-self : goal.returns-then-offset-self
returns-then-offset-self c =
    let s = seen _ _ _ c.args.self.now c.self.view_is c.self.invariant.coded in
    none-iff _
    (nothing-there _ c.args.offset _ s.coded.tiled
    (inr (inr (omega (arith, c.if-offset-self.true, s.same)))))

pub returns-then-get-ne0 : goal.returns-then-get-ne0
returns-then-get-ne0 c =
    let s = seen _ _ _ c.args.self.now c.self.view_is c.self.invariant.coded in
    let there = unnamed-IsCoded _ _ _ c.args.offset _ s.coded c.if-offset-ne0.false
    (omega (arith, s.same, c.if-offset-self.false))
    (λ e. absurd (c.if-get-ne0.true (c.get.ensures ∙ e))) in
    (λ _. there, λ _. refl)

pub get-requires : goal.get-requires
get-requires c =
    let s = seen _ _ _ c.args.self.now c.self.view_is c.self.invariant.coded in
    omega (arith, s.coded.half, s.same, c.if-offset-self.false)

pub returns-then-self : goal.returns-then-self
returns-then-self c =
    let s = seen _ _ _ c.args.self.now c.self.view_is c.self.invariant.coded in
    none-iff _ (none-named _ _ _ c.args.self.now c.args.offset s
    (subst (λ (l : Layout). All (λ b. 1 ≤ b.name) l.blocks) c.self.view_is
    (c.self.invariant.named c.if-self.true)) (sym c.get.ensures ∙ c.if-get-ne0.false))
