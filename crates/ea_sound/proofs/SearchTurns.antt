-- What turns see of a search, step by step.
use Rattle.std.proofs.Common.{◌≡◌, ◌≢◌, ◌⊎◌, ℕ, suc, ◌+◌, ◌≤◌, List, [], ◌∷◌, ◌++◌, Bool, true}
use Rattle.std.proofs.Common.{false, refl, sym, ap, ◌∙◌, inl, inr, arith}
use Rattle.std.specs.Prelude.{◌==◌, count_by, length}
use Rattle.std.proofs.lemmas.Bool.{cases_eq}
use Rattle.std.proofs.lemmas.List.{length-append}
use Rattle.ea_model.specs.Content.{Content}
use Rattle.ea_machine.specs.declared.owners.OwnerWord.{OwnerWord}
use Rattle.ea_machine.specs.declared.owners.OwnerWord.TheVariants as word
use Rattle.ea_machine.specs.declared.stages.Stage.{Stage}
use Rattle.ea_machine.specs.declared.stages.Stage.TheVariants.{Begin, Routed, Collecting, Searching}
use Rattle.ea_machine.specs.declared.stages.Stage.TheVariants.{Fetching, Creating, Giving, Taking}
use Rattle.ea_machine.specs.declared.stages.Stage.TheVariants.{Ended, Ready}
use Rattle.ea_machine.specs.Machine.{step}
use Rattle.ea_machine.specs.Owners.{CarrierAt, Absent, Employed, Pooled, Busy, Returning, same_word}
use Rattle.ea_machine.specs.Owners.{word_of}
use Rattle.ea_machine.specs.Searches.{Search, fits}
use Rattle.ea_machine.specs.Rows.{Answer, Done, Head, Rests, Passes, Saw, Won, Lost, Home, Got}
use Rattle.ea_machine.specs.Rows.{BusyTry, FetchTry, Look}
use Rattle.ea_sound.specs.Searches.{Missed, Searched, Shown, Sight, past, sight, sight_if, sights}
use Rattle.ea_machine.specs.Setup.{Setup}
use Rattle.ea_machine.specs.Shared.{Shared}
use Rattle.ea_machine.specs.State.{State}
use Rattle.ea_machine.specs.Sums.{one_if}
use Rattle.ea_machine.specs.Table.{answer, tried_at, won_if}
use Rattle.ea_sound.specs.Turns.{answered}
use Rattle.ea_sound.proofs.Weights.{sum_by-sum_over}

-- a step sees one thing at most
pub sight-most : (st : Stage Content) (r : Answer) → length (sight st r) ≤ 1
sight-most (Searching ask n part) Done = omega arith
sight-most (Searching ask n part) (Head x) = omega arith
sight-most (Searching ask n part) Rests = omega arith
sight-most (Searching ask n part) (Passes x) = omega arith
sight-most (Searching ask n part) (Saw x) = omega arith
sight-most (Searching ask n part) (Won x) = omega arith
sight-most (Searching ask n part) (Lost x) = omega arith
sight-most (Searching ask n part) (Home x) = omega arith
sight-most (Searching ask n part) (Got x) = omega arith
sight-most (Fetching ask n part seen) Done = omega arith
sight-most (Fetching ask n part seen) (Head x) = omega arith
sight-most (Fetching ask n part seen) Rests = omega arith
sight-most (Fetching ask n part seen) (Passes x) = omega arith
sight-most (Fetching ask n part seen) (Saw x) = omega arith
sight-most (Fetching ask n part seen) (Won x) = omega arith
sight-most (Fetching ask n part seen) (Lost x) = omega arith
sight-most (Fetching ask n part seen) (Home x) = omega arith
sight-most (Fetching ask n part seen) (Got x) = omega arith
sight-most Begin z = omega arith
sight-most (Routed r y g) z = omega arith
sight-most (Collecting c) z = omega arith
sight-most (Creating ask p) z = omega arith
sight-most (Giving h to) z = omega arith
sight-most (Taking n tries left) z = omega arith
sight-most Ended z = omega arith
sight-most Ready z = omega arith

module _ (e : Setup) (s : ℕ) where
  count-cons : (j : ℕ) (js : List ℕ) → count_by (λ i. i == s) (j ∷ js)
      ≡ one_if (j == s) + count_by (λ i. i == s) js
  count-cons j js =
      let f : ℕ → ℕ = λ i. one_if (i == s) in
      sum_by-sum_over f (j ∷ js) ∙ ap (λ n. one_if (j == s) + n) (sym (sum_by-sum_over f js))

  self-is : (j : ℕ) → j ≡ s → (j == s) ≡ true
  self-is j q = grind (arith, q)

  other-is : (j : ℕ) → j ≢ s → (j == s) ≡ false
  other-is j ne = grind (arith, ne)

  -- what a step of s saw, and then the others
  pub sights-mine : (w : State) (j : ℕ) (js : List ℕ) → j ≡ s → sights e w s (j ∷ js)
      ≡ sight (w.actors s).stage (answered w s) ++ sights e (step e w j) s js
  sights-mine w j js q = ap (λ b. sight_if b (w.actors s).stage (answered w s)
      ++ sights e (step e w j) s js) (self-is j q)

  pub sights-other : (w : State) (j : ℕ) (js : List ℕ) → j ≢ s
      → sights e w s (j ∷ js) ≡ sights e (step e w j) s js
  sights-other w j js ne = ap (λ b. sight_if b (w.actors s).stage (answered w s)
      ++ sights e (step e w j) s js) (other-is j ne)

  pub count-mine : (j : ℕ) (js : List ℕ) → j ≡ s → count_by (λ i. i == s) (j ∷ js)
      ≡ suc (count_by (λ i. i == s) js)
  count-mine j js q = count-cons j js ∙ omega (arith, ap (λ b. one_if b) (self-is j q))

  pub count-other : (j : ℕ) (js : List ℕ) → j ≢ s
      → count_by (λ i. i == s) (j ∷ js) ≡ count_by (λ i. i == s) js
  count-other j js ne = count-cons j js ∙ omega (arith, ap (λ b. one_if b) (other-is j ne))

  pub sights-most : (w : State) (js : List ℕ) → length (sights e w s js) ≤ count_by (λ i. i == s) js
  sights-most w [] = omega arith
  sights-most w (j ∷ js) =
      elim (cases_eq j s) [
        | inl q ↦ omega (
          arith,
          ap length (sights-mine w j js q),
          count-mine j js q,
          sights-most (step e w j) js,
          sight-most (w.actors s).stage (answered w s),
          length-append (sight (w.actors s).stage (answered w s)) (sights e (step e w j) s js),
        )
        | inr ne ↦ omega (
          arith,
          ap length (sights-other w j js ne),
          count-other j js ne,
          sights-most (step e w j) js,
        )
      ]

-- the answers of a look, and of a try to fetch a carrier or to make it busy
pub look-saw : (me number : ℕ) (s : Shared)
    → answer me (Look number) s ≡ Saw (word_of (s.places number))
unfolding answer
look-saw me number s = refl

pub fetch-tries : (me number : ℕ) (seen : OwnerWord) (s : Shared)
    → answer me (FetchTry number seen) s ≡ tried_at seen (s.places number)
unfolding answer
fetch-tries me number seen s = refl

pub busy-tries : (me number : ℕ) (seen : OwnerWord) (s : Shared)
    → answer me (BusyTry number seen) s ≡ tried_at seen (s.places number)
unfolding answer
busy-tries me number seen s = refl

-- such a try is won or lost
abbrev pub WonOrLost : Answer → Type 0
WonOrLost r = ((x : Content) × (r ≡ Won x)) ⊎ ((u : OwnerWord) × (r ≡ Lost u))

pub won-or_lost : (seen : OwnerWord) (p : CarrierAt) → WonOrLost (tried_at seen p)
won-or_lost seen p = by (same_word (word_of p) seen) p
  where
    by : (b : Bool) (p : CarrierAt) → WonOrLost (won_if b p)
    by true (Pooled i g x) = inl (x, refl)
    by true Absent = inr (word_of Absent, refl)
    by true (Employed i) = inr (word_of (Employed i), refl)
    by true (Busy i) = inr (word_of (Busy i), refl)
    by true (Returning i x) = inr (word_of (Returning i x), refl)
    by false p = inr (word_of p, refl)

-- of two words that are the same both fit
same-fits : (need : ℕ) (v w : OwnerWord) → same_word v w ≡ true → fits need w ≡ true
    → fits need v ≡ true
same-fits need v word.Absent s f = absurd cc
same-fits need v (word.Employed j) s f = absurd cc
same-fits need v (word.Busy j) s f = absurd cc
same-fits need v (word.Returning j) s f = absurd cc
same-fits need word.Absent (word.Pooled j h) s f = absurd cc
same-fits need (word.Employed i) (word.Pooled j h) s f = absurd cc
same-fits need (word.Busy i) (word.Pooled j h) s f = absurd cc
same-fits need (word.Returning i) (word.Pooled j h) s f = absurd cc
same-fits need (word.Pooled i g) (word.Pooled j h) s f = grind (arith, s, f)

-- a lost try for a word that fits found another one
pub lost-other : (need : ℕ) (seen u : OwnerWord) (p : CarrierAt) → fits need seen ≡ true
    → tried_at seen p ≡ Lost u → same_word u seen ≡ false
lost-other need seen u p fit lost = by (same_word (word_of p) seen) p refl lost
  where
    none : (v : OwnerWord) → same_word v seen ≡ true → fits need v ≡ false → ⊥
    none v s f = let t : true ≡ false = sym (same-fits need v seen s fit) ∙ f in cc

    by : (b : Bool) (q : CarrierAt) → same_word (word_of q) seen ≡ b → won_if b q ≡ Lost u
        → same_word u seen ≡ false
    by false q s l =
        let is : word_of q ≡ u = cc in ap (λ (v : OwnerWord). same_word v seen) (sym is) ∙ s
    by true (Pooled i g x) s l = absurd cc
    by true Absent s l = absurd (none word.Absent s refl)
    by true (Employed i) s l = absurd (none (word.Employed i) s refl)
    by true (Busy i) s l = absurd (none (word.Busy i) s refl)
    by true (Returning i x) s l = absurd (none (word.Returning i) s refl)

-- after a look: the word doesn't fit, or the try that follows is lost
pub record ThenMissed (g need : ℕ) (x last : Search) (v : OwnerWord) (rest : List Sight) : Type 0
  where
    pub number : ℕ
    pub present : OwnerWord
    pub later : List Sight
    pub is : rest ≡ Missed number present ∷ later
    pub saw : Searched g need (past g x v present) last later

abbrev pub Next : ℕ → ℕ → Search → Search → OwnerWord → List Sight → Type 0
Next g need x last v rest =
    ((fits need v ≡ false) × Searched g need (past g x v v) last rest)
    ⊎ ((fits need v ≡ true) × ThenMissed g need x last v rest)

pub next : (g need : ℕ) (x last : Search) (m : ℕ) (v : OwnerWord) (rest : List Sight)
    → Searched g need x last (Shown m v ∷ rest) → Next g need x last v rest
next g need x last m v [] h = inl (h.1, h.2)
next g need x last m v (Shown p u ∷ rest) h = inl (h.1, h.2)
next g need x last m v (Missed p u ∷ rest) h = inr
    (h.1, record { number = p; present = u; later = rest; is = refl; saw = h.4 })

-- the first of two lists that are the same
pub same-missed : (m p : ℕ) (v u : OwnerWord) (xs ys : List Sight)
    → Missed m v ∷ xs ≡ Missed p u ∷ ys → v ≡ u
same-missed m p v u xs ys q = cc

pub tails : (x y : Sight) (xs ys : List Sight) → x ∷ xs ≡ y ∷ ys → xs ≡ ys
tails x y xs ys q = cc
