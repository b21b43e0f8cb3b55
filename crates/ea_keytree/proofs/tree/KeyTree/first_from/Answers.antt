use Rattle.std.proofs.Common.{arith, ap, refl}
use Rattle.ea_keytree.specs.Keys.{KeysHeld}
use Rattle.ea_keytree.proofs.Holding.{first_found, first_none}
use Rattle.ea_keytree.proofs.tree.KeyTree.first_from.Goals as goal

pub returns-then-first-clause-none : goal.returns-then-first-clause-none
returns-then-first-clause-none c = (
  λ _. first_none _ _ _ _ _ _ _ _ (ap (λ (v : KeysHeld). v.keys) c.self.view_is)
      c.self.invariant (omega arith) c.deref.ensures.value c.first_from-first.ensures
      c.if-first.true,
  λ _. refl,
)

pub returns-clause-found : goal.returns-clause-found
returns-clause-found c =
    first_found _ _ _ _ _ _ _ _ (ap (λ (v : KeysHeld). v.keys) c.self.view_is)
    c.self.invariant (omega arith) c.deref.ensures.value refl c.first_from-first.ensures
    c.if-first.false

pub returns-clause-none : goal.returns-clause-none
returns-clause-none c = (
  λ e. cc,
  λ a.
      let f = first_found _ _ _ _ _ _ _ _ (ap (λ (v : KeysHeld). v.keys) c.self.view_is)
      c.self.invariant (omega arith) c.deref.ensures.value refl c.first_from-first.ensures
      c.if-first.false in
      absurd (omega (arith, f.great, a _ _ f.held)),
)
