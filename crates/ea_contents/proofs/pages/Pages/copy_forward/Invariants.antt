use Rattle.std.proofs.Common.{◌≡◌, drop, length, take}
use Rattle.ea_contents.specs.Memory.{with_words}
use Rattle.ea_contents.proofs.pages.Pages.copy_forward.Given as goal

-- the first of these words are written, and no page came or went
abbrev pub invariant-loop-k : goal.invariant-loop-k
invariant-loop-k l = (l.self.words ≡ with_words l.at (take l.k (drop l.from l.initial.self.words)) l.initial.self.words)
    × (length l.self.words ≡ length l.initial.self.words)
    × (l.self.there ≡ l.initial.self.there)
