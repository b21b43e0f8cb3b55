use Rattle.std.proofs.Common.{rules, ◌≡◌, ◌≢◌, ◌<◌, true, false, All, get_or, length, map, sym, ap}
use Rattle.std.proofs.Common.{◌∙◌, subst, arith}
use Rattle.std.specs.Prelude.{Contains, None, Some, is_some, set}
use Rattle.std.proofs.lemmas.List.{length-map}
use Rattle.ea_keytree.specs.Keys.{KeysHeld}
use Rattle.ea_mem_shared.proofs.Lasts.{counted-set, is-free, is-held, is-new}
use Rattle.ea_mem_shared.proofs.counted.Counted.note.Goals as goal

pub insert-requires-clause-new : goal.insert-requires-clause-new
insert-requires-clause-new c =
    let keys = c.self.inside.numbers.keys in
    let n = c.args.number in
    let out : c.has.result ≡ false = search rules in
    subst (λ m. All (λ k. k ≢ Some m) keys) (sym c.from.ensures)
    (is-new keys c.self.invariant.1 n (is-free keys c.self.invariant.1 n (sym out ∙ c.has.ensures
    ∙ ap (λ xs. get_or xs n false) (sym c.self.view_is))))

pub remove-requires : goal.remove-requires
remove-requires c =
    let keys = c.self.inside.numbers.keys in
    let n = c.args.number in
    let held : c.has.result ≡ true = search rules in
    let within : n < length keys = omega (
      arith,
      c.requires,
      ap length c.self.view_is,
      length-map keys is_some,
    ) in
    subst (λ m. Contains keys (Some m)) (sym c.from-else-counts.ensures)
    (is-held keys c.self.invariant.1 n within (sym held ∙ c.has.ensures
    ∙ ap (λ xs. get_or xs n false) (sym c.self.view_is)))

pub returns-then-counts : goal.returns-then-counts
returns-then-counts c =
    let n = c.args.number in
    let held : c.args.counts ≡ true = search rules in
    ap (λ (t : KeysHeld). map is_some t.keys) c.insert.ensures
    ∙ counted-set c.self.inside.numbers.keys n (Some c.from.result)
    ∙ ap (λ xs. set xs n true) c.self.view_is ∙ ap (set c.args.self.now n) (sym held)

pub returns-else-counts : goal.returns-else-counts
returns-else-counts c =
    let keys = c.self.inside.numbers.keys in
    let n = c.args.number in
    let out : c.args.counts ≡ false = search rules in
    let same : c.remove.result ≡ n = sym (c.self.invariant.1 c.remove.result
    c.from-else-counts.result c.remove.ensures.held) ∙ c.from-else-counts.ensures in
    ap (λ (t : KeysHeld). map is_some t.keys) c.remove.ensures.keys
    ∙ counted-set keys c.remove.result None
    ∙ ap (λ m. set (map is_some keys) m false) same
    ∙ ap (λ xs. set xs n false) c.self.view_is ∙ ap (set c.args.self.now n) (sym out)
