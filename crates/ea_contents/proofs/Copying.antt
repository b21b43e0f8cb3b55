-- Words of a memory that are copied within it, one after another.
use Rattle.std.proofs.Common.{◌≡◌, ℕ, zero, suc, ◌+◌, ◌<◌, ◌≤◌, List, [], ◌∷◌, ◌++◌, drop}
use Rattle.std.proofs.Common.{get_or, length, set, take, refl, sym, ap, ◌∙◌, arith}
use Rattle.std.proofs.lemmas.List.{drop_more, get_or-drop, get_or-take, get_or_append_left}
use Rattle.std.proofs.lemmas.List.{length-drop, length-take-le, take_more}
use Rattle.ea_contents.specs.Memory.{with_words}
use Rattle.ea_contents.proofs.Windows.{behind}

-- one word more after those that are written
with-more : (m ws : List ℕ) (at k end v : ℕ) → length ws ≡ k → end ≡ at + k → end < length m
    → set (take at m ++ (ws ++ drop end m)) end v
    ≡ take at m ++ ((ws ++ v ∷ []) ++ drop (suc end) m)
with-more [] ws at k end v many e less = absurd (omega (arith, less))
with-more (x ∷ m) [] zero zero zero v many e less = refl
with-more (x ∷ m) [] zero zero (suc end) v many e less = absurd (omega (arith, e))
with-more (x ∷ m) [] zero (suc k) end v many e less = absurd (omega (arith, many))
with-more (x ∷ m) (w ∷ ws) zero zero end v many e less = absurd (omega (arith, many))
with-more (x ∷ m) (w ∷ ws) zero (suc k) zero v many e less = absurd (omega (arith, e))
with-more (x ∷ m) (w ∷ ws) zero (suc k) (suc end) v many e less = ap (λ ys. w ∷ ys)
    (with-more m ws zero k end v (omega (arith, many)) (omega (arith, e)) (omega (arith, less)))
with-more (x ∷ m) ws (suc at) k zero v many e less = absurd (omega (arith, e))
with-more (x ∷ m) ws (suc at) k (suc end) v many e less = ap (λ ys. x ∷ ys)
    (with-more m ws at k end v many (omega (arith, e)) (omega (arith, less)))

-- or before them
with-before : (m xs : List ℕ) (at v : ℕ) → at < length m
    → set (take (suc at) m ++ xs) at v ≡ take at m ++ (v ∷ xs)
with-before [] xs at v less = absurd (omega (arith, less))
with-before (x ∷ m) xs zero v less = refl
with-before (x ∷ m) xs (suc at) v less =
    ap (λ ys. x ∷ ys) (with-before m xs at v (omega (arith, less)))

first-of : (l : List ℕ) (n : ℕ) → get_or l n 0 ≡ get_or (drop n l) 0 0
first-of l zero = refl
first-of [] (suc n) = refl
first-of (x ∷ l) (suc n) = first-of l n

-- a word that is read behind those that are written, or before them
read-behind : (m ws : List ℕ) (at k i : ℕ) → length ws ≡ k → at + k ≤ i → at + k ≤ length m
    → get_or (with_words at ws m) i 0 ≡ get_or m i 0
read-behind m ws at k i many le fits =
    first-of (with_words at ws m) i
    ∙ ap (λ l. get_or l 0 0) (behind m ws i at k (at + length ws) many (omega (arith, many))
    (omega (arith, many, le)) (omega (arith, many, fits)))
    ∙ sym (first-of m i)

read-before : (m xs : List ℕ) (at i : ℕ) → i < at → at ≤ length m
    → get_or (take at m ++ xs) i 0 ≡ get_or m i 0
read-before m xs at i less fits =
    get_or_append_left (take at m) xs 0 i (omega (arith, less, length-take-le at m fits))
    ∙ get_or-take at m i 0 less

-- the words are copied to a place before theirs, the first one first
pub forward-more : (m : List ℕ) (from at k : ℕ) → at ≤ from → from + k < length m
    → set (with_words at (take k (drop from m)) m) (at + k)
    (get_or (with_words at (take k (drop from m)) m) (from + k) 0)
    ≡ with_words at (take (k + 1) (drop from m)) m
forward-more m from at k order fits =
    let s = drop from m in
    let room : k < length s = omega (arith, fits, length-drop from m) in
    let many : length (take k s) ≡ k = length-take-le k s (omega (arith, room)) in
    let more : length (take (k + 1) s) ≡ k + 1 = length-take-le (k + 1) s (omega (arith, room)) in
    ap (set (with_words at (take k s) m) (at + k))
    (read-behind m (take k s) at k (from + k) many (omega (arith, order))
    (omega (arith, order, fits)) ∙ sym (get_or-drop from m k 0))
    ∙ ap (λ i. set (take at m ++ (take k s ++ drop i m)) (at + k) (get_or s k 0))
    (let same : at + length (take k s) ≡ at + k = omega (arith, many) in same)
    ∙ with-more m (take k s) at k (at + k) (get_or s k 0) many refl (omega (arith, order, fits))
    ∙ ap (λ ws. take at m ++ (ws ++ drop (suc (at + k)) m)) (sym (take_more s k 0 room))
    ∙ ap (λ i. take at m ++ (take (k + 1) s ++ drop i m))
    (let same : suc (at + k) ≡ at + length (take (k + 1) s) = omega (arith, more) in same)

-- or to a place after theirs, the last one first
pub backward-more : (m : List ℕ) (from at count left more : ℕ) → from ≤ at
    → at + count ≤ length m → more ≡ left + 1 → more ≤ count
    → set (with_words (at + more) (drop more (take count (drop from m))) m) (at + left)
    (get_or (with_words (at + more) (drop more (take count (drop from m))) m) (from + left) 0)
    ≡ with_words (at + left) (drop left (take count (drop from m))) m
backward-more m from at count left more order fits e le =
    let ws = take count (drop from m) in
    let many : length ws ≡ count =
    length-take-le count (drop from m) (omega (arith, order, fits, length-drop from m)) in
    let v = get_or ws left 0 in
    let tail = drop more ws ++ drop (at + more + length (drop more ws)) m in
    ap (set (take (at + more) m ++ tail) (at + left))
    (read-before m tail (at + more) (from + left) (omega (arith, order, e))
    (omega (arith, fits, le))
    ∙ sym (get_or-drop from m left 0)
    ∙ sym (get_or-take count (drop from m) left 0 (omega (arith, e, le))))
    ∙ ap (λ k. set (take k m ++ tail) (at + left) v)
    (let same : at + more ≡ suc (at + left) = omega (arith, e) in same)
    ∙ with-before m tail (at + left) v (omega (arith, e, le, fits))
    ∙ ap (λ i. take (at + left) m ++ (v ∷ (drop more ws ++ drop i m)))
    (let same : at + more + length (drop more ws) ≡ at + left + length (v ∷ drop more ws) =
    omega (arith, e) in same)
    ∙ ap (λ l. with_words (at + left) l m)
    (ap (λ k. v ∷ drop k ws) e ∙ sym (drop_more ws left 0 (omega (arith, many, e, le))))
