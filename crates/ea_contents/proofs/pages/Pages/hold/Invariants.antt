use Rattle.std.proofs.Common.{◌≡◌, ℕ, ◌/◌, ◌<◌, ◌≤◌, false, get_or, true}
use Rattle.ea_contents.specs.declared.page.TheConstants.{PAGE_WORDS}
use Rattle.ea_contents.proofs.pages.Pages.hold.Given as goal

-- no word changed, what was there is there, and so are the pages up to this one
abbrev pub invariant-loop-index : goal.invariant-loop-index
invariant-loop-index l = (l.self.words ≡ l.initial.self.words)
    × ((k : ℕ) → get_or l.initial.self.there k false ≡ true → get_or l.self.there k false ≡ true)
    × ((k : ℕ) → l.at / PAGE_WORDS ≤ k → k < l.index → get_or l.self.there k false ≡ true)
