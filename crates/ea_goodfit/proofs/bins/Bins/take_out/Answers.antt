use Rattle.std.proofs.Common.{◌≡◌, sym, ap, ◌∙◌, subst, refl, arith}
use Rattle.std.specs.Prelude.{Contains, IsTrue, Some}
use Rattle.ea_model.specs.Keyed.{without}
use Rattle.ea_goodfit.specs.declared.gaps.BinnedGap.{BinnedGap}
use Rattle.ea_goodfit.specs.Gaps.{HeldGaps, address_of, is_held}
use Rattle.ea_goodfit.proofs.Holding.{AreHeld-same, gap_at, held_key, key_within, same_address}
use Rattle.ea_goodfit.proofs.Holding.{take-AreHeld}
use Rattle.ea_goodfit.proofs.Holding.{take-count, take-held, view-same}
use Rattle.ea_goodfit.proofs.bins.Bins.take_out.Goals as goal

held : (v w : HeldGaps) (g : BinnedGap) → v ≡ w → IsTrue (is_held g w.held)
    → IsTrue (is_held g v.held)
held v w g e h = subst (λ (s : HeldGaps). IsTrue (is_held g s.held)) (sym e) h

pub remove-position-requires : goal.remove-position-requires
remove-position-requires c =
    subst (λ n. Contains c.self.inside.tree.keys (Some n)) (sym c.key.ensures.key)
    (held_key _ _ _ _ _ _ _ c.self.invariant c.args.gap
    (held _ _ c.args.gap c.self.view_is c.requires))

pub push_reserved-requires : goal.push_reserved-requires
push_reserved-requires c =
    let p = c.remove-position.result in
    let g = gap_at _ _ _ _ _ _ _ c.self.invariant p c.key.result c.remove-position.ensures.held in
    omega (
      arith,
      take-count _ _ _ _ _ _ _ c.self.invariant p g.0 g.0.address
          (key_within _ _ _ _ _ _ _ c.self.invariant p c.remove-position.ensures.within) g.1 refl
          c.remove-position.new.self c.remove-position.ensures.keys,
      c.self.invariant.free_room,
    )

pub invariant_of-self : goal.invariant_of-self
invariant_of-self c =
    let p = c.remove-position.result in
    let g = gap_at _ _ _ _ _ _ _ c.self.invariant p c.key.result c.remove-position.ensures.held in
    AreHeld-same _ _ _ _ _ _ _ _ _ _ _ refl c.push_reserved.ensures.items refl
    c.push_reserved.ensures.capacity
    (take-AreHeld _ _ _ _ _ _ _ c.self.invariant p g.0 g.0.address
    (key_within _ _ _ _ _ _ _ c.self.invariant p c.remove-position.ensures.within) g.1 refl
    c.remove-position.new.self c.remove-position.ensures.keys)

pub returns-clause-held : goal.returns-clause-held
returns-clause-held c =
    let p = c.remove-position.result in
    let g = gap_at _ _ _ _ _ _ _ c.self.invariant p c.key.result c.remove-position.ensures.held in
    view-same _ _ _ _ _ _ (ap (λ (s : HeldGaps). s.fit) c.self.view_is)
    (take-held _ _ _ _ _ _ _ c.self.invariant p g.0 c.args.gap.address
    (key_within _ _ _ _ _ _ _ c.self.invariant p c.remove-position.ensures.within) g.1
    (same_address _ _ _ _ _ _ _ c.self.invariant p c.args.gap g.0
    (held _ _ c.args.gap c.self.view_is c.requires) g.1 (g.2 ∙ c.key.ensures.key))
    c.remove-position.new.self c.remove-position.ensures.keys
    ∙ ap (λ (s : HeldGaps). without address_of c.args.gap.address s.held) c.self.view_is)
    (omega (arith, c.push_reserved.ensures.len, ap (λ (s : HeldGaps). s.room) c.self.view_is))
