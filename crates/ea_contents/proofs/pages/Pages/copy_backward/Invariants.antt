use Rattle.std.proofs.Common.{◌≡◌, ◌+◌, ◌≤◌, drop, length, take}
use Rattle.ea_contents.specs.Memory.{with_words}
use Rattle.ea_contents.proofs.pages.Pages.copy_backward.Given as goal

-- the last of these words are written, and no page came or went
abbrev pub invariant-loop-left : goal.invariant-loop-left
invariant-loop-left l = (l.self.words ≡ with_words (l.at + l.left)
    (drop l.left (take l.count (drop l.from l.initial.self.words))) l.initial.self.words)
    × (length l.self.words ≡ length l.initial.self.words)
    × (l.self.there ≡ l.initial.self.there)
    × (l.left ≤ l.count)

abbrev pub decreases-loop-left : goal.decreases-loop-left
decreases-loop-left l = l.left
