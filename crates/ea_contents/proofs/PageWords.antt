-- What is read of pages, where a page is taken and where a word is written.
use Rattle.std.proofs.Common.{zero, suc, ◌≡◌, ◌≢◌, ℕ, ◌+◌, ◌-◌, ◌*◌, ◌<◌, ◌≤◌, Bool, true, false}
use Rattle.std.proofs.Common.{List, [], ◌∷◌, ◌++◌, get_or, length, map, replicate, set, take}
use Rattle.std.proofs.Common.{Vec, Global, sym, ap, ◌∙◌, refl, subst, arith}
use Rattle.std.specs.Prelude.{◌==◌, All}
use Rattle.std.specs.Vec.{vec_len, with_item}
use Rattle.std.proofs.lemmas.Bool.{eqb-true}
use Rattle.std.proofs.lemmas.List.{get_or-map, get_or-set_same, length-map, length-replicate}
use Rattle.std.proofs.lemmas.List.{length-append, length-set, length-take-le, map-set}
use Rattle.std.proofs.lemmas.List.{get_or-append_right, get_or-take, get_or_append_left}
use Rattle.std.proofs.lemmas.List.{replicate-append-replicate, set-append_left, set-append_right}
use Rattle.std.proofs.Math.Seq.{map-set_same}
use Rattle.std.proofs.lemmas.List.Elements.{All-cons, All-head, All-nil, All-set, All-tail}
use Rattle.ea_contents.specs.Paging.{IsPage, is_there, joined, read_of, there_in, words_in}
use Rattle.ea_contents.specs.declared.page.TheConstants.{PAGE_WORDS}
use Rattle.ea_contents.proofs.Windows.{set-within}

abbrev Page : Type 0
Page = List ℕ

module _ (size : ℕ) where
  read-length : (p : Page) → IsPage size p → length (read_of size p) ≡ size
  read-length [] is = length-replicate {A = ℕ} size 0
  read-length (w ∷ ws) is = is (λ e. absurd cc)

  read-full : (p : Page) → 0 < length p → read_of size p ≡ p
  read-full [] some = absurd (omega (arith, some))
  read-full (w ∷ ws) some = refl

  one-more : (n : ℕ) → size + n * size ≡ suc n * size
  one-more n = omega arith

  pub joined-length : (ps : List Page) → All (IsPage size) ps
      → length (joined size ps) ≡ length ps * size
  joined-length [] are = let none : 0 ≡ 0 * size = omega arith in none
  joined-length (p ∷ ps) are =
      length-append (read_of size p) (joined size ps)
      ∙ ap (λ n. n + length (joined size ps)) (read-length p (All-head (IsPage size) p ps are))
      ∙ ap (λ n. size + n) (joined-length ps (All-tail (IsPage size) p ps are))
      ∙ one-more (length ps)

  -- the word with that index is in the page of its quotient
  pub joined-at : (at i j : ℕ) (ps : List Page) → All (IsPage size) ps → at ≡ i * size + j
      → j < size → i < length ps
      → get_or (joined size ps) at 0 ≡ get_or (read_of size (get_or ps i [])) j 0
  joined-at at i j [] are e lt within = absurd (omega (arith, within))
  joined-at at zero j (p ∷ ps) are e lt within =
      ap (λ n. get_or (read_of size p ++ joined size ps) n 0)
      (let same : at ≡ j = omega (arith, e) in same)
      ∙ get_or_append_left (read_of size p) (joined size ps) 0 j
      (omega (arith, lt, read-length p (All-head (IsPage size) p ps are)))
  joined-at at (suc i) j (p ∷ ps) are e lt within =
      get_or-append_right (read_of size p) (joined size ps) size at 0
      (read-length p (All-head (IsPage size) p ps are)) (past i e)
      ∙ joined-at (at - size) i j ps (All-tail (IsPage size) p ps are) (rest i e) lt
      (omega (arith, within))
    where
      past : (i : ℕ) → at ≡ suc i * size + j → size ≤ at
      past i e = omega (arith, e)

      rest : (i : ℕ) → at ≡ suc i * size + j → at - size ≡ i * size + j
      rest i e = omega (arith, e)

  -- it is written in that page, if it is there
  pub joined-set : (at i j v : ℕ) (ps : List Page) → All (IsPage size) ps → at ≡ i * size + j
      → j < size → i < length ps → length (get_or ps i []) ≡ size
      → joined size (set ps i (set (get_or ps i []) j v)) ≡ set (joined size ps) at v
  joined-set at i j v [] are e lt within full = absurd (omega (arith, within))
  joined-set at zero j v (p ∷ ps) are e lt within full =
      ap (λ ws. ws ++ joined size ps)
      (read-full (set p j v) (omega (arith, lt, full, length-set p j v))
      ∙ ap (λ ws. set ws j v) (sym (read-full p (omega (arith, lt, full)))))
      ∙ sym (set-append_left (read_of size p) (joined size ps) j v
      (omega (arith, lt, read-length p (All-head (IsPage size) p ps are))))
      ∙ ap (λ n. set (read_of size p ++ joined size ps) n v)
      (let same : j ≡ at = omega (arith, e) in same)
  joined-set at (suc i) j v (p ∷ ps) are e lt within full =
      ap (λ ws. read_of size p ++ ws) (joined-set (at - size) i j v ps
      (All-tail (IsPage size) p ps are) (rest i e) lt (omega (arith, within)) full)
      ∙ sym (set-append_right (read_of size p) (joined size ps) size at v
      (read-length p (All-head (IsPage size) p ps are)) (past i e))
    where
      past : (i : ℕ) → at ≡ suc i * size + j → size ≤ at
      past i e = omega (arith, e)

      rest : (i : ℕ) → at ≡ suc i * size + j → at - size ≡ i * size + j
      rest i e = omega (arith, e)

  -- a page of zeros is read like one that isn't there
  read-zeros : (n : ℕ) → n ≡ size → read_of size (replicate n 0) ≡ replicate n 0
  read-zeros zero e = ap (λ n. replicate {A = ℕ} n 0) (sym e)
  read-zeros (suc n) e = refl

  pub joined-taken : (i : ℕ) (ps : List Page) → get_or ps i [] ≡ []
      → joined size (set ps i (replicate size 0)) ≡ joined size ps
  joined-taken i [] none = refl
  joined-taken zero (p ∷ ps) none = ap (λ ws. ws ++ joined size ps)
      (read-zeros size refl ∙ sym (ap (read_of size) none))
  joined-taken (suc i) (p ∷ ps) none = ap (λ ws. read_of size p ++ ws) (joined-taken i ps none)

  pub joined-none : (n : ℕ) → joined size (replicate n []) ≡ replicate (n * size) 0
  joined-none zero =
      ap (λ n. replicate {A = ℕ} n 0) (let none : 0 ≡ 0 * size = omega arith in none)
  joined-none (suc n) =
      ap (λ ws. replicate size 0 ++ ws) (joined-none n)
      ∙ replicate-append-replicate size (n * size) 0
      ∙ ap (λ n. replicate {A = ℕ} n 0) (one-more n)

  get-is : (i : ℕ) (ps : List Page) → All (IsPage size) ps → IsPage size (get_or ps i [])
  get-is i [] are = λ some. absurd (some refl)
  get-is zero (p ∷ ps) are = All-head (IsPage size) p ps are
  get-is (suc i) (p ∷ ps) are = get-is i ps (All-tail (IsPage size) p ps are)

  set-is : (j v : ℕ) (p : Page) → IsPage size p → IsPage size (set p j v)
  set-is j v [] is = is
  set-is j v (w ∷ ws) is = λ some. length-set (w ∷ ws) j v ∙ is (λ e. absurd cc)

  -- a page that is there is one of the table, and has all its words
  pub there-full : (i : ℕ) (ps : List Page) → All (IsPage size) ps
      → get_or (there_in ps) i false ≡ true
      → (i < length ps) × (length (get_or ps i []) ≡ size)
  there-full i [] are has = absurd cc
  there-full zero ([] ∷ ps) are has = absurd cc
  there-full zero ((w ∷ ws) ∷ ps) are has =
      (omega arith, All-head (IsPage size) (w ∷ ws) ps are (λ e. absurd cc))
  there-full (suc i) (p ∷ ps) are has =
      let later = there-full i ps (All-tail (IsPage size) p ps are) has in
      (omega (arith, later.0), later.1)

set-there : (j v : ℕ) (p : Page) → is_there (set p j v) ≡ is_there p
set-there j v [] = refl
set-there zero v (w ∷ ws) = refl
set-there (suc j) v (w ∷ ws) = refl

zeros-there : (n : ℕ) → 0 < n → is_there (replicate n 0) ≡ true
zeros-there zero some = absurd (omega (arith, some))
zeros-there (suc n) some = refl

has-there : (p : Page) → p ≢ [] → is_there p ≡ true
has-there [] some = absurd (some refl)
has-there (w ∷ ws) some = refl

-- where a page is taken, those that are there stay
stays : (i k : ℕ) (bs : List Bool) → get_or bs k false ≡ true
    → get_or (set bs i true) k false ≡ true
stays i k [] has = has
stays zero zero (b ∷ bs) has = refl
stays zero (suc k) (b ∷ bs) has = has
stays (suc i) zero (b ∷ bs) has = has
stays (suc i) (suc k) (b ∷ bs) has = stays i k bs has

pub none-there : (n : ℕ) → there_in (replicate n []) ≡ replicate n false
none-there zero = refl
none-there (suc n) = ap (λ bs. false ∷ bs) (none-there n)

abbrev pub pages_of : List (Vec ℕ Global) → List Page
pages_of vs = map (λ page. page.items) vs

pub pages-length : (vs : List (Vec ℕ Global)) → length (pages_of vs) ≡ length vs
pages-length vs = length-map vs (λ (page : Vec ℕ Global). page.items)

-- whether a page is empty
no-items : (p : Page) → length p ≡ 0 → p ≡ []
no-items [] none = refl
no-items (w ∷ ws) none = absurd (omega (arith, none))

module _ (v : Vec ℕ Global) where
  is-empty : true ≡ (vec_len v == 0) → v.items ≡ []
  is-empty is = no-items v.items (omega (arith, eqb-true (vec_len v) 0 (sym is), v.ok.0))

  pub not-empty : false ≡ (vec_len v == 0) → v.items ≢ []
  not-empty is none =
      let zero_long : vec_len v ≡ 0 = omega (arith, ap length none, v.ok.0) in
      let never : false ≡ true = is ∙ ap (λ n. n == 0) zero_long in cc

-- a page of a table
module _ (vs : List (Vec ℕ Global)) (i : ℕ) (v : Vec ℕ Global) (within : i < length vs)
    (at : v ≡ get_or vs i v) where
  pub page-at : v.items ≡ get_or (pages_of vs) i []
  page-at = ap (λ (page : Vec ℕ Global). page.items) at
      ∙ sym (get_or-map (λ (page : Vec ℕ Global). page.items) vs i v [] within)

  pub page-full : (size : ℕ) → All (IsPage size) (pages_of vs) → v.items ≢ []
      → length v.items ≡ size
  page-full size are = subst (IsPage size) (sym page-at) (get-is size i (pages_of vs) are)

  -- one of its words is written
  module _ (j x : ℕ) where
    abbrev with-word : List (Vec ℕ Global)
    with-word = set vs i (with_item v j x)

    pub word-pages : pages_of with-word ≡ set (pages_of vs) i (set (get_or (pages_of vs) i []) j x)
    word-pages = map-set (λ (page : Vec ℕ Global). page.items) vs i (with_item v j x)
        ∙ ap (λ page. set (pages_of vs) i (set page j x)) page-at

    pub word-length : length with-word ≡ length vs
    word-length = length-set vs i (with_item v j x)

    pub word-are : (size : ℕ) → All (IsPage size) (pages_of vs)
        → All (IsPage size) (pages_of with-word)
    word-are size are = subst (All (IsPage size)) (sym word-pages)
        (All-set (IsPage size) (pages_of vs) i (set (get_or (pages_of vs) i []) j x)
        (set-is size j x (get_or (pages_of vs) i []) (get-is size i (pages_of vs) are)) are)

    pub word-stays : there_in (pages_of with-word) ≡ there_in (pages_of vs)
    word-stays = ap there_in word-pages
        ∙ map-set_same is_there (pages_of vs) i (set (get_or (pages_of vs) i []) j x) []
        (set-there j x (get_or (pages_of vs) i []))

  -- it isn't there
  module _ (empty : true ≡ (vec_len v == 0)) where
    pub none-at : get_or (pages_of vs) i [] ≡ []
    none-at = sym page-at ∙ is-empty v empty

    -- and is taken
    module _ (size : ℕ) (w : Vec ℕ Global) (zeros : w.items ≡ replicate size 0) where
      taken : pages_of (set vs i w) ≡ set (pages_of vs) i (replicate size 0)
      taken = map-set (λ (page : Vec ℕ Global). page.items) vs i w
          ∙ ap (set (pages_of vs) i) zeros

      pub taken-length : length (set vs i w) ≡ length vs
      taken-length = length-set vs i w

      pub taken-are : All (IsPage size) (pages_of vs) → All (IsPage size) (pages_of (set vs i w))
      taken-are are = subst (All (IsPage size)) (sym taken) (All-set (IsPage size) (pages_of vs) i
          (replicate size 0) (λ some. length-replicate {A = ℕ} size 0) are)

      pub taken-words : joined size (pages_of (set vs i w)) ≡ joined size (pages_of vs)
      taken-words = ap (joined size) taken ∙ joined-taken size i (pages_of vs) none-at

      taken-there : 0 < size
          → there_in (pages_of (set vs i w)) ≡ set (there_in (pages_of vs)) i true
      taken-there some = ap there_in taken
          ∙ map-set is_there (pages_of vs) i (replicate size 0)
          ∙ ap (set (there_in (pages_of vs)) i) (zeros-there size some)

      pub taken-here : 0 < size → get_or (there_in (pages_of (set vs i w))) i false ≡ true
      taken-here some = ap (λ bs. get_or bs i false) (taken-there some)
          ∙ get_or-set_same (there_in (pages_of vs)) i true false (omega (
            arith,
            within,
            pages-length vs,
            length-map (pages_of vs) is_there,
          ))

      pub taken-stays : 0 < size → (k : ℕ) → get_or (there_in (pages_of vs)) k false ≡ true
          → get_or (there_in (pages_of (set vs i w))) k false ≡ true
      taken-stays some k has = ap (λ bs. get_or bs k false) (taken-there some)
          ∙ stays i k (there_in (pages_of vs)) has

  -- or is there
  module _ (some : false ≡ (vec_len v == 0)) where
    pub page-there : get_or (there_in (pages_of vs)) i false ≡ true
    page-there = get_or-map is_there (pages_of vs) i [] false
        (omega (arith, within, pages-length vs))
        ∙ ap is_there (sym page-at) ∙ has-there v.items (not-empty v some)

zeros-at : (n j z : ℕ) → get_or (replicate n z) j z ≡ z
zeros-at zero j z = refl
zeros-at (suc n) zero z = refl
zeros-at (suc n) (suc j) z = zeros-at n j z

-- the words that are read of a table
module _ (units : ℕ) (vs : List (Vec ℕ Global)) (fits : units ≤ length vs * PAGE_WORDS)
    (are : All (IsPage PAGE_WORDS) (pages_of vs)) where
  pub words-length : length (words_in units (pages_of vs)) ≡ units
  words-length = length-take-le units (joined PAGE_WORDS (pages_of vs))
      (omega (arith, fits, pages-length vs, joined-length PAGE_WORDS (pages_of vs) are))

  module _ (at i j : ℕ) (e : at ≡ i * PAGE_WORDS + j) (lt : j < PAGE_WORDS)
      (less : at < units) where
    pub page-within : i < length vs
    page-within = omega (arith, e, less, fits)

    word-at : get_or (words_in units (pages_of vs)) at 0
        ≡ get_or (read_of PAGE_WORDS (get_or (pages_of vs) i [])) j 0
    word-at = get_or-take units (joined PAGE_WORDS (pages_of vs)) at 0 less
        ∙ joined-at PAGE_WORDS at i j (pages_of vs) are e lt
        (omega (arith, page-within, pages-length vs))

    pub word-set : (v : ℕ) → length (get_or (pages_of vs) i []) ≡ PAGE_WORDS
        → words_in units (set (pages_of vs) i (set (get_or (pages_of vs) i []) j v))
        ≡ set (words_in units (pages_of vs)) at v
    word-set v full =
        ap (take units) (joined-set PAGE_WORDS at i j v (pages_of vs) are e lt
        (omega (arith, page-within, pages-length vs)) full)
        ∙ set-within (joined PAGE_WORDS (pages_of vs)) 0 units at at v
        (let same : at ≡ 0 + at = omega arith in same) less

    module _ (v : Vec ℕ Global) (here : v ≡ get_or vs i v) where
      -- 0, where the page isn't there
      pub word-none : true ≡ (vec_len v == 0) → get_or (words_in units (pages_of vs)) at 0 ≡ 0
      word-none empty = word-at
          ∙ ap (λ p. get_or (read_of PAGE_WORDS p) j 0)
          (none-at vs i v page-within here empty)
          ∙ zeros-at PAGE_WORDS j 0

      -- the word of the page, where it is there
      pub full-there : false ≡ (vec_len v == 0) → length v.items ≡ PAGE_WORDS
      full-there some = page-full vs i v page-within here PAGE_WORDS are (not-empty v some)

      pub word-there : false ≡ (vec_len v == 0)
          → get_or v.items j 0 ≡ get_or (words_in units (pages_of vs)) at 0
      word-there some =
          ap (λ p. get_or p j 0)
          (sym (read-full PAGE_WORDS v.items (omega (arith, lt, full-there some)))
          ∙ ap (read_of PAGE_WORDS) (page-at vs i v page-within here))
          ∙ sym word-at
