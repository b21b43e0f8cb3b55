-- No name is released twice; a released name stays so, and a failed one.
use Rattle.std.proofs.Common.{◌≡◌, ℕ, zero, suc, ◌+◌, ◌<◌, ◌≤◌, List, [], ◌∷◌, ◌++◌, Bool, true}
use Rattle.std.proofs.Common.{false, refl, sym, ap, ◌∙◌, subst, inl, inr, arith}
use Rattle.std.specs.Prelude.{◌||◌}
use Rattle.std.specs.List.{AllZip, list_any}
use Rattle.std.proofs.lemmas.Bool.{cases_Bool, cases_eq}
use Rattle.std.proofs.lemmas.List.{append_assoc}
use Rattle.std.proofs.lemmas.List.Folds.{list_any-append}
use Rattle.ea_model.specs.Entries.{Entry}
use Rattle.ea_model.specs.declared.operations.Op.{Op}
use Rattle.ea_model.specs.Trace.{makes}
use Rattle.ea_sound.specs.Turns.{log_after}
use Rattle.ea_model.specs.Content.{Content}
use Rattle.ea_machine.specs.declared.stages.Stage.{Stage}
use Rattle.ea_machine.specs.declared.stages.Stage.TheVariants.{Begin, Collecting, Creating, Ended}
use Rattle.ea_machine.specs.declared.stages.Stage.TheVariants.{Fetching, Giving, Ready, Routed}
use Rattle.ea_machine.specs.declared.stages.Stage.TheVariants.{Searching, Taking}
use Rattle.ea_machine.specs.Actor.{Actor}
use Rattle.ea_machine.specs.declared.tasks.Task.TheVariants.{Freeing, Moving}
use Rattle.ea_machine.specs.declared.tasks.Why.TheVariants.{Walk, For}
use Rattle.ea_sound.specs.Contents.{seats}
use Rattle.ea_sound.specs.Entries.{LogsEach, Makes}
use Rattle.ea_machine.specs.Machine.{first_stage, run}
use Rattle.ea_sound.specs.Names.{made_in, to_make, unplaced}
use Rattle.ea_sound.specs.Released.{FailedHaveNone, IsGone, ReleasesOnce, StaysGone, blocks_named}
use Rattle.ea_sound.specs.Released.{says_failed, says_made}
use Rattle.ea_machine.specs.Setup.{Setup, is_scheduler}
use Rattle.ea_machine.specs.Sums.{one_if, total}
use Rattle.ea_sound.specs.Present.{Fits, Rule}
use Rattle.ea_sound.proofs.Chronicled.{enters-one, other-turn, turn-told}
use Rattle.ea_sound.proofs.Fading.{make-fades, stays-gone}
use Rattle.ea_sound.proofs.FewBlocks.{all_of}
use Rattle.ea_sound.proofs.Numbered.{scheduler-seat}
use Rattle.ea_sound.proofs.StillMoves.{todo-later}
use Rattle.ea_sound.proofs.Totals.{total-part}
use Rattle.ea_sound.proofs.TurnLists.{by-turns, on-from, run-snoc}
use Rattle.ea_sound.proofs.Weights.{sum-append}

-- an entry that says that a name was made, or that it wasn't, is of an operation that makes it
pub made-makes : (n : ℕ) (o : Op) (x : Entry) → Makes o x → says_made n x ≡ true → makes n o ≡ true
made-makes n o x of said = grind (arith, of, said)

pub failed-makes : (n : ℕ) (o : Op) (x : Entry) → Makes o x → says_failed n x ≡ true
    → makes n o ≡ true
failed-makes n o x of said = grind (arith, of, said)

-- so the operations done make it
done-makes : (n : ℕ) (says : Entry → Bool)
    → ((o : Op) (x : Entry) → Makes o x → says x ≡ true → makes n o ≡ true)
    → (done : List Op) (log : List Entry) → AllZip Makes done log → list_any says log ≡ true
    → 1 ≤ made_in n done
done-makes n says of [] [] each said = absurd cc
done-makes n says of [] (x ∷ log) each said = absurd each
done-makes n says of (o ∷ done) [] each said = absurd each
done-makes n says of (o ∷ done) (x ∷ log) each said =
    by (says x) refl said (λ later. done-makes n says of done log each.1 later) where
      by : (b : Bool) → says x ≡ b → (b || list_any says log) ≡ true
          → (list_any says log ≡ true → 1 ≤ made_in n done) → 1 ≤ made_in n (o ∷ done)
      by true is said others = omega (arith, ap one_if (of o x each.0 is))
      by false is said others = omega (arith, others said)

-- the names that are made beside others
pub total-beside : {A B : Type 0} (f : A → ℕ) (g : B → ℕ) (m : ℕ → A) (o : ℕ → B) (d : ℕ → ℕ)
    (n : ℕ) → ((i : ℕ) → f (m i) + d i ≤ g (o i)) → total n f m + total n (λ k. k) d ≤ total n g o
total-beside f g m o d zero less = omega arith
total-beside f g m o d (suc n) less = omega (arith, less n, total-beside f g m o d n less)

pub unplaced-fewer : (n : ℕ) (s : Stage Content) (ops : List Op)
    → made_in n (unplaced s ops) ≤ made_in n ops
unplaced-fewer n (Routed r Walk gone) ops = omega arith
unplaced-fewer n (Routed r (For (Freeing m)) gone) ops = omega arith
unplaced-fewer n (Routed r (For (Moving o m p)) gone) ops = todo-later ops n
unplaced-fewer n Begin ops = omega arith
unplaced-fewer n (Collecting c) ops = omega arith
unplaced-fewer n (Searching ask at part) ops = omega arith
unplaced-fewer n (Fetching ask at part seen) ops = omega arith
unplaced-fewer n (Creating ask p) ops = omega arith
unplaced-fewer n (Giving given to) ops = omega arith
unplaced-fewer n (Taking m tries left) ops = omega arith
unplaced-fewer n Ended ops = omega arith
unplaced-fewer n Ready ops = omega arith

pub first-unplaced : (e : Setup) (b : Bool) (ops : List Op) → unplaced (first_stage e b) ops ≡ ops
first-unplaced e true ops = refl
first-unplaced e false ops = refl

module _ (e : Setup) (rules : (L : List ℕ) → Rule e (run e L)) where
  -- a name that has a block is made no more
  pub made : (n : ℕ) (L : List ℕ) → 0 < blocks_named e n (run e L) → to_make e n (run e L) ≡ 0
  made n L some = omega (arith, some, (rules L).present.later n)

  pub releases-once : ReleasesOnce e
  releases-once n L M s t first again = omega (
    arith,
    again.was,
    ap (λ K. blocks_named e n (run e K)) (sym (append_assoc L (s ∷ []) M)),
    stays-gone e rules (all_of n) (L ++ s ∷ []) M
        (ap (blocks_named e n) (run-snoc e L s) ∙ first.gone)
        (omega (arith, make-fades e rules n L (s ∷ []), made n L first.was)),
  )

  pub texts-once : (n : ℕ) → total (seats e) (made_in n) e.texts ≤ 1
  texts-once n = omega (
    arith,
    (rules []).present.later n,
    total-beside (made_in n) (λ (a : Actor). made_in n (unplaced a.stage a.todo)) e.texts
        (run e []).actors (λ i. 0) (seats e)
        (λ i. omega (arith, ap (made_in n) (first-unplaced e (is_scheduler e i) (e.texts i)))),
  )

  -- who is no scheduler has no operations
  pub nobody-texts : (i : ℕ) → is_scheduler e i ≡ false → e.texts i ≡ []
  nobody-texts i none = subst (Fits e (run e []) i ((run e []).actors i))
      ((rules []).present.nobody i none).stage ((rules []).present.fits i)

  -- a log keeps its entries
  said-more : (says : Entry → Bool) (K : List ℕ) (j i : ℕ)
      → list_any says (log_after e K i) ≡ true
      → list_any says (log_after e (K ++ j ∷ []) i) ≡ true
  said-more says K j i is = elim (enters-one e rules K j i) [
    | inl same ↦ ap (list_any says) same ∙ is
    | inr more ↦
        let x = more.1.0 in
        let said = subst (λ k. list_any says (log_after e K k) ≡ true) more.0 is in
        subst (λ k. list_any says (log_after e (K ++ j ∷ []) k) ≡ true) (sym more.0)
        (ap (list_any says) more.1.1 ∙ list_any-append says (log_after e K j) (x ∷ [])
        ∙ ap (λ b. b || list_any says (x ∷ [])) said)
  ]

  -- a name of which an entry says so is made no more
  module _ (n : ℕ) (says : Entry → Bool)
      (of : (o : Op) (x : Entry) → Makes o x → says x ≡ true → makes n o ≡ true) (L : List ℕ) where
    module _ (gone : IsGone e says n (run e L)) where
      abbrev history : (i : ℕ) → LogsEach e (run e L) i
      history i = (rules L).present.history i

      abbrev done : ℕ → ℕ
      done i = made_in n (history i).done

      split : (i : ℕ) → made_in n (unplaced ((run e L).actors i).stage ((run e L).actors i).todo)
          + done i ≤ made_in n (e.texts i)
      split i =
          let a = (run e L).actors i in
          omega (
            arith,
            unplaced-fewer n a.stage a.todo,
            sum-append (λ o. one_if (makes n o)) (history i).done a.todo,
            ap (made_in n) (history i).split,
          )

      said : 1 ≤ done gone.scheduler
      said = done-makes n says of (history gone.scheduler).done
          ((run e L).actors gone.scheduler).log (history gone.scheduler).each gone.said

      seat : gone.scheduler < seats e
      seat = elim (cases_Bool (is_scheduler e gone.scheduler)) [
        | inl is ↦ scheduler-seat e gone.scheduler is
        | inr none ↦ absurd (omega (
          arith,
          said,
          split gone.scheduler,
          ap (made_in n) (nobody-texts gone.scheduler none),
        ))
      ]

      never : to_make e n (run e L) ≡ 0
      never = omega (
        arith,
        said,
        texts-once n,
        total-part (λ k. k) done gone.scheduler (seats e) seat,
        total-beside (λ (a : Actor). made_in n (unplaced a.stage a.todo)) (made_in n)
            (run e L).actors e.texts done (seats e) split,
      )

      said-later : (M : List ℕ)
          → list_any says ((run e (L ++ M)).actors gone.scheduler).log ≡ true
      said-later M = on-from
          (λ K. list_any says ((run e K).actors gone.scheduler).log ≡ true)
          (λ K j is. said-more says K j gone.scheduler is) M L gone.said

      goes-on : (M : List ℕ) → IsGone e says n (run e (L ++ M))
      goes-on M = record {
        scheduler = gone.scheduler;
        said = said-later M;
        none = stays-gone e rules (all_of n) L M gone.none never;
      }

  pub names-stay_gone : StaysGone e
  names-stay_gone n L M = (
    (λ gone. goes-on n (says_made n) (made-makes n) L gone M),
    λ gone. goes-on n (says_failed n) (failed-makes n) L gone M,
  )

  -- a name that failed has no block
  abbrev HasNone : List ℕ → ℕ → ℕ → Type 0
  HasNone L n i = list_any (says_failed n) (log_after e L i) ≡ true
      → blocks_named e n (run e L) ≡ 0

  -- where an entry said so before
  none-later : (L : List ℕ) (j n i : ℕ) → HasNone L n i
      → list_any (says_failed n) (log_after e L i) ≡ true
      → blocks_named e n (run e (L ++ j ∷ [])) ≡ 0
  none-later L j n i none said =
      ((names-stay_gone n L (j ∷ [])).1
      (record { scheduler = i; said = said; none = none said })).none

  none-next : (L : List ℕ) (j n i : ℕ) → HasNone L n i → HasNone (L ++ j ∷ []) n i
  none-next L j n i none said =
      elim (cases_eq j i) [
        | inr ne ↦ none-later L j n i none
            (ap (λ (a : Actor). list_any (says_failed n) a.log)
            (sym (other-turn e rules L i j ne)) ∙ said)
        | inl q ↦ elim (turn-told e rules L j) [
          | inl same ↦ none-later L j n i none
              (ap (list_any (says_failed n)) (sym (subst (λ k. log_after e (L ++ j ∷ []) k
              ≡ log_after e L k) q same.0)) ∙ said)
          | inr m ↦ by m.entry (m.none n)
              (subst (λ k. log_after e (L ++ j ∷ []) k ≡ log_after e L k ++ m.entry ∷ []) q m.log)
              (list_any (says_failed n) (log_after e L i)) refl
        ]
      ] where
        by : (x : Entry)
            → (says_failed n x ≡ true → blocks_named e n (run e (L ++ j ∷ [])) ≡ 0)
            → log_after e (L ++ j ∷ []) i ≡ log_after e L i ++ x ∷ []
            → (b : Bool) → list_any (says_failed n) (log_after e L i) ≡ b
            → blocks_named e n (run e (L ++ j ∷ [])) ≡ 0
        by x now log true before = none-later L j n i none before
        by x now log false before = now (last (says_failed n x)
            (sym (list_any-append (says_failed n) (log_after e L i) (x ∷ [])
            ∙ ap (λ b. b || list_any (says_failed n) (x ∷ [])) before)
            ∙ ap (list_any (says_failed n)) (sym log) ∙ said)) where
              last : (b : Bool) → (false || (b || false)) ≡ true → b ≡ true
              last true q = refl
              last false q = absurd cc

  pub failed-none : (L : List ℕ) → FailedHaveNone e (run e L)
  failed-none = by-turns (λ L. FailedHaveNone e (run e L))
      (λ L j none n i. none-next L j n i (none n i)) (λ n i said. absurd cc)
