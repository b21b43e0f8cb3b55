use Rattle.std.proofs.Common.{arith, ap, refl}
use Rattle.ea_keytree.specs.Keys.{KeysHeld}
use Rattle.ea_keytree.proofs.Holding.{last_found, last_none}
use Rattle.ea_keytree.proofs.tree.KeyTree.last_up_to.Goals as goal

pub returns-then-last-eq0-clause-none : goal.returns-then-last-eq0-clause-none
returns-then-last-eq0-clause-none c = (
  λ _. last_none _ _ _ _ _ _ _ _ (ap (λ (v : KeysHeld). v.keys) c.self.view_is)
      c.self.invariant c.deref.ensures.value c.last_up_to-last.ensures c.if-last-eq0.true,
  λ _. refl,
)

pub returns-clause-found : goal.returns-clause-found
returns-clause-found c =
    last_found _ _ _ _ _ _ _ _ (ap (λ (v : KeysHeld). v.keys) c.self.view_is)
    c.self.invariant (omega arith) c.deref.ensures.value refl c.last_up_to-last.ensures
    c.if-last-eq0.false

pub returns-clause-none : goal.returns-clause-none
returns-clause-none c = (
  λ e. cc,
  λ a.
      let f = last_found _ _ _ _ _ _ _ _ (ap (λ (v : KeysHeld). v.keys) c.self.view_is)
      c.self.invariant (omega arith) c.deref.ensures.value refl c.last_up_to-last.ensures
      c.if-last-eq0.false in
      absurd (omega (arith, f.small, a _ _ f.held)),
)
