-- The run of each type is that of its own turns.
use Rattle.std.proofs.Common.{◌≡◌, ◌≢◌, ℕ, List, [], ◌∷◌, ◌++◌, true, false, refl, sym, ap, ◌∙◌}
use Rattle.std.proofs.Common.{inl, inr, arith}
use Rattle.std.specs.Prelude.{Option, Some, None, ◌==◌}
use Rattle.std.proofs.lemmas.Bool.{cases_eq}
use Rattle.ea_machine.specs.Machine.{run_on, step}
use Rattle.ea_machine.specs.State.{State}
use Rattle.ea_sound.proofs.Totals.{put-here, put-other}
use Rattle.ea_types.specs.Turning.{AreOwnRuns, Standing, Types, at_start, own_by, own_if, own_on}
use Rattle.ea_types.specs.Turning.{turn_of, turned, turned_by, turned_on}

pub is-same : (y x : ℕ) → y ≡ x → (y == x) ≡ true
is-same y x q = grind (arith, q)

pub is-other : (y x : ℕ) → y ≢ x → (y == x) ≡ false
is-other y x n = grind (arith, n)

module _ (t : Types) (x : ℕ) where
  abbrev after : Standing → List ℕ → State
  after p js = run_on (t.setups x) (p.states x) js

  one : (p : Standing) (me : ℕ) (js : List ℕ) (o : Option ℕ)
      → after p (own_if t x me o ++ js) ≡ after (turned_by t p me o) js
  one p me js None = refl
  one p me js (Some y) = elim (cases_eq y x) [
    | inl q ↦
        let v = step (t.setups y) (p.states y) me in
        ap (λ b. after p (own_by t b me ++ js)) (is-same y x q)
        ∙ sym (ap (λ w. run_on (t.setups x) w js)
        (put-here p.states y v x (sym q) ∙ ap (λ i. step (t.setups i) (p.states i) me) q))
    | inr n ↦
        let v = step (t.setups y) (p.states y) me in
        ap (λ b. after p (own_by t b me ++ js)) (is-other y x n)
        ∙ sym (ap (λ w. run_on (t.setups x) w js) (put-other p.states y v x (λ q. n (sym q))))
  ]

  pub own-on : (p : Standing) (turns : List ℕ)
      → (turned_on t p turns).states x ≡ after p (own_on t x p turns)
  own-on p [] = refl
  own-on p (me ∷ turns) = own-on (turned t p me) turns
      ∙ sym (one p me (own_on t x (turned t p me) turns) (turn_of t p me))

pub are-own_runs : (t : Types) → AreOwnRuns t
are-own_runs t x turns = own-on t x (at_start t) turns
