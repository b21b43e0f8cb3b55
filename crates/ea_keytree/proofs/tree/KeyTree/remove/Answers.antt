use Rattle.std.proofs.Common.{arith, ap}
use Rattle.std.proofs.lemmas.List.{take_at}
use Rattle.ea_keytree.specs.Keys.{KeysHeld}
use Rattle.ea_keytree.proofs.Holding.{take_may, taken_from, taken, seen_with}
use Rattle.ea_keytree.proofs.tree.KeyTree.remove.Goals as goal

pub take_out-taken-requires-clause-may : goal.take_out-taken-requires-clause-may
take_out-taken-requires-clause-may c =
    take_may _ _ _ _ _ _ (ap (λ (v : KeysHeld). v.keys) c.self.view_is) c.self.invariant
    c.requires c.deref_mut.ensures.value

pub index_mut-requires : goal.index_mut-requires
index_mut-requires c =
    let w = taken_from _ _ _ _ _ _ _ (ap (λ (v : KeysHeld). v.keys) c.self.view_is)
    c.self.invariant (omega arith) c.requires c.deref_mut.ensures.value
    c.take_out-taken.ensures.position in
    omega (arith, w.0, c.self.inside.nodes.ok.0)

pub invariant_of-self : goal.invariant_of-self
invariant_of-self c =
    (taken _ _ _ _ _ _ _ _ _ _ _ _ (ap (λ (v : KeysHeld). v.keys) c.self.view_is)
    c.self.invariant c.requires c.deref_mut.ensures.value c.take_out-taken.ensures.tree
    c.take_out-taken.ensures.position
    (take_at c.take_out-taken.new.nodes _ c.self.inside.nodes.len (omega arith))).0

pub returns-clause-within : goal.returns-clause-within
returns-clause-within c =
    (taken_from _ _ _ _ _ _ _ (ap (λ (v : KeysHeld). v.keys) c.self.view_is)
    c.self.invariant (omega arith) c.requires c.deref_mut.ensures.value
    c.take_out-taken.ensures.position).1

pub returns-clause-held : goal.returns-clause-held
returns-clause-held c =
    (taken_from _ _ _ _ _ _ _ (ap (λ (v : KeysHeld). v.keys) c.self.view_is)
    c.self.invariant (omega arith) c.requires c.deref_mut.ensures.value
    c.take_out-taken.ensures.position).2

pub returns-clause-keys : goal.returns-clause-keys
returns-clause-keys c =
    seen_with _ _ _ _ c.self.view_is
    (taken _ _ _ _ _ _ _ _ _ _ _ _ (ap (λ (v : KeysHeld). v.keys) c.self.view_is)
    c.self.invariant c.requires c.deref_mut.ensures.value c.take_out-taken.ensures.tree
    c.take_out-taken.ensures.position
    (take_at c.take_out-taken.new.nodes _ c.self.inside.nodes.len (omega arith))).1
