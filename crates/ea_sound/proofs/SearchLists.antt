-- Searches as lists of what they saw: one goes on where another stands.
use Rattle.std.proofs.Common.{◌≡◌, ℕ, ◌+◌, List, [], ◌∷◌, ◌++◌, true, false}
use Rattle.std.proofs.Common.{refl, sym, ap, ◌∙◌, subst, arith}
use Rattle.std.specs.Prelude.{◌==◌, count_by}
use Rattle.std.proofs.lemmas.List.{append_assoc, append-nil}
use Rattle.ea_machine.specs.declared.owners.OwnerWord.{OwnerWord}
use Rattle.ea_machine.specs.Machine.{run_on, step}
use Rattle.ea_machine.specs.Owners.{same_word}
use Rattle.ea_machine.specs.Searches.{Search, fits, goes_on}
use Rattle.ea_sound.specs.Searches.{Missed, Searched, Shown, Sight, past, sight_if, sights}
use Rattle.ea_machine.specs.Setup.{Setup}
use Rattle.ea_machine.specs.State.{State}
use Rattle.ea_machine.specs.Sums.{one_if, sum_over}
use Rattle.ea_sound.specs.Turns.{answered}
use Rattle.ea_sound.proofs.Weights.{sum-append, sum_by-sum_over}

pub searched-on : (g need : ℕ) (x mid last : Search) (xs ys : List Sight)
    → Searched g need x mid xs → Searched g need mid last ys → Searched g need x last (xs ++ ys)
searched-on g need x mid last [] ys s t =
    subst (λ (y : Search). Searched g need y last ys) (sym s) t
searched-on g need x mid last (Missed m v ∷ xs) ys s t = absurd s
searched-on g need x mid last (Shown m v ∷ Missed p u ∷ xs) ys s t =
    (s.0, s.1, s.2, s.3, searched-on g need (past g x v u) mid last xs ys s.4 t)
searched-on g need x mid last (Shown m v ∷ Shown p u ∷ xs) ys s t =
    (s.0, s.1, searched-on g need (past g x v v) mid last (Shown p u ∷ xs) ys s.2 t)
searched-on g need x mid last (Shown m v ∷ []) ys s t =
    onto ys (searched-on g need (past g x v v) mid last [] ys s.2 t)
  where
    onto : (ys : List Sight) → Searched g need (past g x v v) last ys
        → Searched g need x last (Shown m v ∷ ys)
    onto [] t = (s.0, s.1, t)
    onto (Shown p u ∷ ys) t = (s.0, s.1, t)
    onto (Missed p u ∷ ys) t = absurd t

-- one look that doesn't fit
pub searched-look : (g need : ℕ) (x : Search) (v : OwnerWord) → goes_on x.part ≡ true
    → fits need v ≡ false → Searched g need x (past g x v v) (Shown x.at v ∷ [])
searched-look g need x v l f = ((refl, l), f, refl)

-- one look that fits, and the lost try to fetch the carrier
pub searched-lost : (g need : ℕ) (x : Search) (v u : OwnerWord) → goes_on x.part ≡ true
    → fits need v ≡ true → same_word u v ≡ false
    → Searched g need x (past g x v u) (Shown x.at v ∷ Missed x.at u ∷ [])
searched-lost g need x v u l f d = ((refl, l), f, refl, d, refl)

pub sights-snoc : (e : Setup) (w : State) (s : ℕ) (js : List ℕ) (j : ℕ)
    → sights e w s (js ++ j ∷ []) ≡ sights e w s js
    ++ sight_if (j == s) ((run_on e w js).actors s).stage (answered (run_on e w js) s)
sights-snoc e w s [] j = append-nil (sight_if (j == s) (w.actors s).stage (answered w s))
sights-snoc e w s (i ∷ js) j =
    let first = sight_if (i == s) (w.actors s).stage (answered w s) in
    let last = sight_if (j == s) ((run_on e (step e w i) js).actors s).stage
    (answered (run_on e (step e w i) js) s) in
    ap (λ xs. first ++ xs) (sights-snoc e (step e w i) s js j)
    ∙ sym (append_assoc first (sights e (step e w i) s js) last)

-- how many of these turns are the scheduler's
pub count-snoc : (s : ℕ) (js : List ℕ) (j : ℕ) → count_by (λ i. i == s) (js ++ j ∷ [])
    ≡ count_by (λ i. i == s) js + one_if (j == s)
count-snoc s js j =
    let f : ℕ → ℕ = λ i. one_if (i == s) in
    sum_by-sum_over f (js ++ j ∷ []) ∙ sum-append f js (j ∷ [])
    ∙ (let q : sum_over f (j ∷ []) ≡ one_if (j == s) = omega arith in
    omega (arith, sum_by-sum_over f js, q))
