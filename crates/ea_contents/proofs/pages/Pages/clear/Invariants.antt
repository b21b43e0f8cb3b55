use Rattle.std.proofs.Common.{◌≡◌, length, replicate}
use Rattle.ea_contents.specs.Memory.{with_words}
use Rattle.ea_contents.proofs.pages.Pages.clear.Given as goal

-- the first of these words are written, and no page came or went
abbrev pub invariant-loop-k : goal.invariant-loop-k
invariant-loop-k l = (l.self.words ≡ with_words l.at (replicate l.k 0) l.initial.self.words)
    × (length l.self.words ≡ length l.initial.self.words)
    × (l.self.there ≡ l.initial.self.there)
