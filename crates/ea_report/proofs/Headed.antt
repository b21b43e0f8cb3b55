-- The texts of logs that were made one by one.
use Rattle.std.proofs.Common.{◌≡◌, ℕ, ◌+◌, List, [], ◌∷◌, ◌++◌, Bor, map, codes, decimal, refl}
use Rattle.std.proofs.Common.{ap, ◌∙◌, subst}
use Rattle.std.specs.Prelude.{Result, Ok, Err, IfOk, MatchResult, Contains}
use Rattle.std.specs.List.{flat_map, AllZip}
use Rattle.ea_model.specs.Entries.{Entry}
use Rattle.ea_report.specs.Printed.{headed_texts}
use Rattle.ea_report.specs.Text.{line, entry_text, logs_text}

-- each after the line of its scheduler, they are the text of the logs
pub headed_logs : {A : Type 0} (of : A → List Entry) (i : ℕ) (logs : List A)
    → headed_texts i (map (λ log. flat_map entry_text (of log)) logs) ≡ logs_text i (map of logs)
headed_logs of i [] = refl
headed_logs of i (log ∷ logs) =
    ap (λ l. line (codes "scheduler") (decimal i ∷ []) ++ flat_map entry_text (of log) ++ l)
    (headed_logs of (i + 1) logs)

module _ {X Y Z : Type 0} (E : Type 0) (f : X → Z) (g : Y → Z) where
  -- calls that were all done gave what each was to give
  pub gave_each : (xs : List (Bor X)) (ys : List Y)
      → AllZip (λ (x : Bor X) r. IfOk r (λ y. g y ≡ f x.now)) xs (map {B = Result Y E} Ok ys)
      → map g ys ≡ map f (map (λ (x : Bor X). x.now) xs)
  gave_each [] [] h = refl
  gave_each [] (y ∷ ys) h = absurd h
  gave_each (x ∷ xs) [] h = absurd h
  gave_each (x ∷ xs) (y ∷ ys) h = cc (h.0, gave_each xs ys h.1)

  -- so what was collected of calls at each item of a list is what each was to give
  pub gave_all : {V : Type 0} (items : V → List Y) (s : List X) (r : Result V E)
      (xs : List (Bor X)) (rs : List (Result Y E)) → map (λ (x : Bor X). x.now) xs ≡ s
      → AllZip (λ (x : Bor X) r. IfOk r (λ y. g y ≡ f x.now)) xs rs
      → MatchResult r (λ v. (ys : List Y) × (rs ≡ map Ok ys) × (items v ≡ ys))
      (λ e. Contains rs (Err e))
      → IfOk r (λ v. map g (items v) ≡ map f s)
  gave_all items s (Ok v) xs rs shown each made =
      ap (map g) made.2
      ∙ gave_each xs made.0
      (subst (AllZip (λ (x : Bor X) r. IfOk r (λ y. g y ≡ f x.now)) xs) made.1 each)
      ∙ ap (map f) shown
  gave_all items s (Err e) xs rs shown each made = tt
