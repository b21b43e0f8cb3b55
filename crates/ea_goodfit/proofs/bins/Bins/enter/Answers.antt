use Rattle.std.proofs.Common.{◌≡◌, ◌≢◌, ◌+◌, ◌^◌, ◌<◌, sym, ap, ◌∙◌, append-nil, subst, refl, arith}
use Rattle.std.specs.Prelude.{All, AllPairs, Some}
use Rattle.ea_model.specs.Keyed.{entered}
use Rattle.ea_goodfit.specs.declared.gaps.BinnedGap.{BinnedGap}
use Rattle.ea_goodfit.specs.declared.fits.Fit.TheVariants.{Good}
use Rattle.ea_goodfit.specs.Gaps.{address_of, HeldGaps, IsBelow}
use Rattle.ea_goodfit.specs.Keys.{by_address}
use Rattle.ea_goodfit.proofs.Holding.{AreHeld-same, new_key, new_key_more, put-held, put-AreHeld}
use Rattle.ea_goodfit.proofs.Holding.{last_free, more-AreHeld, new_free, view-same}
use Rattle.ea_goodfit.proofs.Positioned.{by_address-more}
use Rattle.ea_goodfit.proofs.bins.Bins.enter.Goals as goal

new : (v w : HeldGaps) (g : BinnedGap) → v ≡ w → All (λ h. h.address ≢ g.address) w.held
    → All (λ h. h.address ≢ g.address) v.held
new v w g e a = subst (λ (s : HeldGaps). All (λ h. h.address ≢ g.address) s.held) (sym e) a

fits : (v w : HeldGaps) (g : BinnedGap) → v ≡ w → (w.fit ≢ Good → g.size + 1 < 2 ^ 32)
    → v.fit ≢ Good → g.size + 1 < 2 ^ 32
fits v w g e f = subst (λ (s : HeldGaps). s.fit ≢ Good → g.size + 1 < 2 ^ 32) (sym e) f

pub insert-requires-clause-within : goal.insert-requires-clause-within
insert-requires-clause-within c =
    (last_free _ _ _ _ _ _ _ c.self.invariant _ c.pop.new.self.items c.in-Some.ensures.items).1

pub insert-requires-clause-free : goal.insert-requires-clause-free
insert-requires-clause-free c =
    (last_free _ _ _ _ _ _ _ c.self.invariant _ c.pop.new.self.items c.in-Some.ensures.items).2

pub insert-requires-clause-key : goal.insert-requires-clause-key
insert-requires-clause-key c = subst (λ n. c.key-key.result < n) (sym c.self.invariant.width)
    (c.key-key.ensures.within (fits _ _ c.args.gap c.self.view_is c.requires.size))

pub insert-requires-clause-new : goal.insert-requires-clause-new
insert-requires-clause-new c =
    subst (λ n. All (λ o. o ≢ Some n) c.self.inside.tree.keys) (sym c.key-key.ensures.key)
    (new_key _ _ _ _ _ _ _ c.self.invariant c.args.gap c.key-key.ensures.bounded
    (new _ _ c.args.gap c.self.view_is c.requires.address))

pub index_mut-requires : goal.index_mut-requires
index_mut-requires c =
    let free = last_free _ _ _ _ _ _ _ c.self.invariant _ c.pop.new.self.items
    c.in-Some.ensures.items in omega (arith, free.0)

pub invariant_of-self : goal.invariant_of-self
invariant_of-self c =
    AreHeld-same _ _ _ _ _ _ _ _ _ _ _ refl refl refl c.in-Some.ensures.capacity
    (put-AreHeld _ _ _ _ _ _ _ c.self.invariant c.in-Some.position c.args.gap
    c.pop.new.self.items c.in-Some.ensures.items c.key-key.ensures.bounded
    (new _ _ c.args.gap c.self.view_is c.requires.address) c.insert.new.self c.key-key.result
    c.key-key.ensures.key c.insert.ensures)

pub returns-in-Some-clause-held : goal.returns-in-Some-clause-held
returns-in-Some-clause-held c =
    view-same _ _ _ _ _ _ (ap (λ (s : HeldGaps). s.fit) c.self.view_is)
    (put-held _ _ _ _ _ _ _ c.self.invariant c.in-Some.position c.args.gap
    c.pop.new.self.items c.in-Some.ensures.items c.key-key.ensures.bounded
    (new _ _ c.args.gap c.self.view_is c.requires.address) c.insert.new.self c.key-key.result
    c.key-key.ensures.key c.insert.ensures
    ∙ ap (λ (s : HeldGaps). entered address_of c.args.gap s.held) c.self.view_is)
    (omega (arith, c.in-Some.ensures.len, ap (λ (s : HeldGaps). s.room) c.self.view_is))

pub returns-in-Some-clause-rising : goal.returns-in-Some-clause-rising
returns-in-Some-clause-rising c = subst (λ (s : HeldGaps). AllPairs IsBelow s.held)
    c.self.view_is c.self.invariant.rising

pub overflow_cast-position-2 : goal.overflow_cast-position-2
overflow_cast-position-2 c = omega (arith, c.self.invariant.few, c.len-position.ensures)

pub insert-requires-2-clause-within : goal.insert-requires-2-clause-within
insert-requires-2-clause-within c =
    (new_free _ _ _ _ _ _ _ c.self.invariant _ c.push.new.self.keys c.push.ensures.keys
    (omega (arith, c.len-position.ensures))).0

pub insert-requires-2-clause-free : goal.insert-requires-2-clause-free
insert-requires-2-clause-free c =
    (new_free _ _ _ _ _ _ _ c.self.invariant _ c.push.new.self.keys c.push.ensures.keys
    (omega (arith, c.len-position.ensures))).1

pub insert-requires-2-clause-key : goal.insert-requires-2-clause-key
insert-requires-2-clause-key c =
    subst (λ n. c.key-key.result < n) (sym (c.push.ensures.width ∙ c.self.invariant.width))
    (c.key-key.ensures.within (fits _ _ c.args.gap c.self.view_is c.requires.size))

pub insert-requires-2-clause-new : goal.insert-requires-2-clause-new
insert-requires-2-clause-new c =
    new_key_more _ _ _ _ _ _ _ c.self.invariant c.args.gap c.key-key.ensures.bounded
    (new _ _ c.args.gap c.self.view_is c.requires.address) c.key-key.result c.key-key.ensures.key
    c.push.new.self.keys c.push.ensures.keys

pub invariant_of-self-2 : goal.invariant_of-self-2
invariant_of-self-2 c =
    AreHeld-same _ _ _ _ _ _ _ _ _ _ _ c.push_reserved.ensures.items
    (sym (c.in_default.ensures.items ∙ append-nil c.pop.new.self.items))
    c.push_reserved.ensures.capacity c.in_default.ensures.capacity
    (more-AreHeld _ _ _ _ _ _ _ c.self.invariant c.args.gap c.key-key.ensures.bounded
    (new _ _ c.args.gap c.self.view_is c.requires.address) c.push.new.self c.insert-2.new.self
    c.push.ensures.width c.push.ensures.keys c.push.ensures.room _ c.key-key.result
    (omega (arith, c.len-position.ensures)) c.key-key.ensures.key c.insert-2.ensures
    (omega (
      arith,
      c.requires.room,
      c.in_default.ensures.cases.0,
      ap (λ (s : HeldGaps). s.room) c.self.view_is,
    )))

pub returns-clause-held : goal.returns-clause-held
returns-clause-held c =
    view-same _ _ _ _ _ _ (ap (λ (s : HeldGaps). s.fit) c.self.view_is)
    (ap by_address c.push_reserved.ensures.items
    ∙ by_address-more c.self.inside.gaps.items c.args.gap
    (new _ _ c.args.gap c.self.view_is c.requires.address)
    ∙ ap (λ (s : HeldGaps). entered address_of c.args.gap s.held) c.self.view_is)
    (omega (
      arith,
      c.in_default.ensures.len,
      c.in_default.ensures.cases.0,
      ap (λ (s : HeldGaps). s.room) c.self.view_is,
    ))

pub returns-clause-rising : goal.returns-clause-rising
returns-clause-rising c = subst (λ (s : HeldGaps). AllPairs IsBelow s.held)
    c.self.view_is c.self.invariant.rising
