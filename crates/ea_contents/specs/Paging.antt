-- Words that are kept by pages.
use Rattle.std.specs.Prelude.{◌≡◌, ◌≢◌, ℕ, ◌+◌, ◌/◌, ◌<◌, ◌≤◌, Bool, true, false, List, [], ◌∷◌}
use Rattle.std.specs.Prelude.{◌++◌, get_or, length, map, replicate, take}
use Rattle.ea_model.specs.declared.carriers.Extent.{Extent}
use Rattle.ea_contents.specs.Memory.{word_count, words_from}
use Rattle.ea_contents.specs.declared.page.TheConstants.{PAGE_WORDS}

-- the words, and which pages of them are there
pub record Paged : Type 0 where
  pub words : List ℕ
  pub there : List Bool

-- the page of the word with that index is there
abbrev pub IsThere : ℕ → Paged → Type 0
IsThere at p = get_or p.there (at / PAGE_WORDS) false ≡ true

-- so are those of that many words from there on
abbrev pub AreThere : ℕ → ℕ → Paged → Type 0
AreThere at count p = (k : ℕ) → at ≤ k → k < at + count → IsThere k p

-- so are those of all words of a block with these units
abbrev pub HasWords : Extent → Paged → Type 0
HasWords r p = AreThere (words_from r) (word_count r) p

-- what was there stays there
abbrev pub StaysThere : Paged → Paged → Type 0
StaysThere before after = (k : ℕ) → IsThere k before → IsThere k after

-- a page that isn't there has no words of its own; another one has all of them
abbrev pub IsPage : ℕ → List ℕ → Type 0
IsPage size page = page ≢ [] → length page ≡ size

-- whether a page is there
abbrev pub is_there : List ℕ → Bool
is_there [] = false
is_there (word ∷ words) = true

-- which pages are there
abbrev pub there_in : List (List ℕ) → List Bool
there_in pages = map is_there pages

-- what is read of a page: zeros, where it isn't there
abbrev pub read_of : ℕ → List ℕ → List ℕ
read_of size [] = replicate size 0
read_of size (word ∷ words) = word ∷ words

-- what is read of pages, one after another
abbrev pub joined : ℕ → List (List ℕ) → List ℕ
joined size [] = []
joined size (page ∷ pages) = read_of size page ++ joined size pages

-- the first words of these pages, that many
abbrev pub words_in : ℕ → List (List ℕ) → List ℕ
words_in units pages = take units (joined PAGE_WORDS pages)
