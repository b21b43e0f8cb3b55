use Rattle.std.proofs.Common.{◌≡◌, ◌+◌, ◌-◌, ℕ, List, length, replicate, take, ap, ◌∙◌, arith}
use Rattle.std.specs.Prelude.{min}
use Rattle.ea_contents.specs.Agreeing.{source_in}
use Rattle.ea_contents.specs.Memory.{with_words}
use Rattle.ea_contents.proofs.Storing.{brought}
use Rattle.ea_contents.proofs.memory.Memory.bring.Goals as goal

pub returns-clause-words : goal.returns-clause-words
returns-clause-words c =
    let at : ℕ = c.args.block.first + 1 in
    let n : ℕ = c.args.block.units - 1 in
    let k = c.carry-carried.result in
    let from = c.args.from in
    let now : List ℕ = c.args.self.now.words in
    let held : c.hold.new.self.words ≡ now =
    c.hold.ensures.words ∙ ap (λ p. p.words) c.self.view_is in
    c.clear.ensures.words
    ∙ ap (λ p. with_words (at + k) (replicate (n - k) 0) p.words) c.self-2.view_is
    ∙ ap (with_words (at + k) (replicate (n - k) 0)) c.carry-carried.ensures.carried
    ∙ ap (λ m. with_words (at + k) (replicate (n - k) 0) (with_words at (take n (source_in m from))
    m)) held
    ∙ brought now (source_in now from) at n k
    (c.carry-carried.ensures.count ∙ ap (λ m. min n (length (source_in m from))) held)
    (omega (arith, c.requires.stored.0, c.requires.stored.1))
