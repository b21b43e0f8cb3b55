use Rattle.std.proofs.Common.{arith, ap}
use Rattle.std.proofs.lemmas.List.{take_at}
use Rattle.ea_keytree.specs.Keys.{KeysHeld}
use Rattle.ea_keytree.proofs.Holding.{put_may, put, seen_with}
use Rattle.ea_keytree.proofs.tree.KeyTree.insert.Goals as goal

pub put_in-self-inside-requires-clause-may : goal.put_in-self-inside-requires-clause-may
put_in-self-inside-requires-clause-may c =
    put_may _ _ _ _ _ _ _ (ap (λ (v : KeysHeld). v.keys) c.self.view_is) c.self.invariant
    (omega arith) c.requires.within c.requires.free
    (omega (arith, c.requires.key, ap (λ (v : KeysHeld). v.width) c.self.view_is))
    c.requires.new c.deref_mut.ensures.value

pub invariant_of-self : goal.invariant_of-self
invariant_of-self c =
    (put _ _ _ _ _ _ _ _ _ _ (ap (λ (v : KeysHeld). v.keys) c.self.view_is) c.self.invariant
    (omega arith) c.requires.within c.requires.free
    (omega (arith, c.requires.key, ap (λ (v : KeysHeld). v.width) c.self.view_is))
    c.requires.new c.deref_mut.ensures.value c.put_in-self-inside.ensures
    (take_at c.put_in-self-inside.new.nodes _ c.self.inside.nodes.len (omega arith))).0

pub returns : goal.returns
returns c =
    seen_with _ _ _ _ c.self.view_is
    (put _ _ _ _ _ _ _ _ _ _ (ap (λ (v : KeysHeld). v.keys) c.self.view_is) c.self.invariant
    (omega arith) c.requires.within c.requires.free
    (omega (arith, c.requires.key, ap (λ (v : KeysHeld). v.width) c.self.view_is))
    c.requires.new c.deref_mut.ensures.value c.put_in-self-inside.ensures
    (take_at c.put_in-self-inside.new.nodes _ c.self.inside.nodes.len (omega arith))).1
