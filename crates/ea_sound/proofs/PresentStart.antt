-- What every scheduler is in the middle of before the first step.
use Rattle.std.proofs.Common.{◌≡◌, ℕ, zero, suc, ◌≤◌, List, [], ◌∷◌, Bool, true, false, refl, sym}
use Rattle.std.proofs.Common.{ap, subst, inl, inr, length, arith}
use Rattle.std.proofs.lemmas.List.{get_or_past}
use Rattle.std.proofs.lemmas.List.Elements.{All-cons, All-nil, All-weaker}
use Rattle.std.specs.Prelude.{All, nat_lt, nat_le, ◌&&◌, if◌then◌else◌}
use Rattle.ea_model.specs.declared.operations.Op.{Op}
use Rattle.ea_model.specs.declared.operations.Op.TheVariants as op
use Rattle.ea_model.specs.declared.settings.Config.{Config}
use Rattle.ea_model.specs.declared.trace.Mode.{Mode}
use Rattle.ea_model.specs.declared.trace.Mode.TheVariants.{Threads, Schedule, Generated}
use Rattle.ea_model.specs.declared.trace.Trace.{Trace}
use Rattle.ea_model.specs.Keyed.{IsBelow}
use Rattle.ea_model.specs.Settings.{IsValidConfig}
use Rattle.ea_model.specs.Trace.{HasTexts, IsOperation, IsValidTrace, operations_of, texts_of}
use Rattle.ea_model.proofs.Pairs.{pairs_nil}
use Rattle.ea_laws.specs.Kept.{Stands}
use Rattle.ea_machine.specs.Actor.{Actor}
use Rattle.ea_machine.specs.Machine.{first_actor, first_stage, instance_by, start}
use Rattle.ea_machine.specs.Nodes.{name_of}
use Rattle.ea_sound.specs.Names.{made_in, only, to_make, unplaced}
use Rattle.ea_sound.specs.Places.{MayStay}
use Rattle.ea_machine.specs.Setup.{Setup, is_scheduler, setup_of, text_for}
use Rattle.ea_sound.specs.Sound.{HasNothing}
use Rattle.ea_sound.specs.Contents.{seats}
use Rattle.ea_machine.specs.Sums.{total}
use Rattle.ea_sound.specs.Blocks.{EmploysMain}
use Rattle.ea_sound.proofs.MainCarriers.{first-main}
use Rattle.ea_sound.specs.Present.{Fits, HasTry, Present, Rule}
use Rattle.ea_sound.proofs.StartKept.{all-none, main_of, setup-MayStart, start-Kept}
use Rattle.ea_sound.proofs.TextTotals.{made-each, text-All, total-text_for}

-- who is no scheduler has no text
beyond-text : (n : ℕ) (mode : Mode) (texts : List (List Op)) → HasTexts n mode texts → (i : ℕ)
    → (nat_lt 0 i && nat_le i n) ≡ false → text_for texts i ≡ []
beyond-text n mode texts has zero none = refl
beyond-text n mode texts has (suc i) none =
    get_or_past texts i [] (omega (arith, at_most mode has, past n none)) where
      at_most : (mode : Mode) → HasTexts n mode texts → length texts ≤ n
      at_most Threads h = omega (arith, h)
      at_most (Schedule turns) h = omega (arith, h)
      at_most (Generated seed count) h = elim h [
        | inl none ↦ omega (arith, ap length none)
        | inr same ↦ omega (arith, same)
      ]

      past : (n : ℕ) → (nat_lt 0 (suc i) && nat_le (suc i) n) ≡ false → n ≤ i
      past n none = grind (arith, none)

-- a valid operation that takes a name has a try
has-try : (n : ℕ) (o : Op) → IsOperation n o → HasTry o
has-try n (op.Alloc m bytes) is = tt
has-try n (op.Free m) is = tt
has-try n (op.Realloc old m bytes) is = tt
has-try n (op.Give m to) is = tt
has-try n (op.Take m tries) is = is.1
has-try n op.Info is = tt
has-try n op.Idle is = tt

module _ (c : Config) (t : Trace) (valid : IsValidConfig c) (trace : IsValidTrace c.schedulers t)
  where
    abbrev e : Setup
    e = setup_of c t

    start-fits : (i : ℕ) → Fits e (start e) i (first_actor e i) (first_actor e i).stage
    start-fits i = by (is_scheduler e i) refl where
      by : (b : Bool) → is_scheduler e i ≡ b
          → Fits e (start e) i (first_actor e i) (first_stage e b)
      by true is = tt
      by false none = beyond-text c.schedulers t.mode (texts_of t) trace.texts i none

    -- a main carrier stays
    main-stays : (i : ℕ) → MayStay i (main_of e i)
    main-stays i = (refl, inr refl)

    start-stays : (i : ℕ) → All (MayStay i) (first_actor e i).instance.contents
        × All (MayStay i) (first_actor e i).instance.singles
    start-stays i = by (is_scheduler e i) (nat_lt 0 e.settings.mmbcs) refl where
      by : (b d : Bool) → nat_lt 0 e.settings.mmbcs ≡ d
          → All (MayStay i) (instance_by e b i).contents
          × All (MayStay i) (instance_by e b i).singles
      by false d q = (All-nil (MayStay i), All-nil (MayStay i))
      by true true q = (
        subst (λ d. All (MayStay i) (if d then main_of e i ∷ [] else [])) (sym q)
            (All-cons (MayStay i) (main_of e i) [] (main-stays i) (All-nil (MayStay i))),
        All-nil (MayStay i),
      )
      by true false q = (
        subst (λ d. All (MayStay i) (if d then main_of e i ∷ [] else [])) (sym q)
            (All-nil (MayStay i)),
        All-nil (MayStay i),
      )

    start-nothing : (i : ℕ) → is_scheduler e i ≡ false → HasNothing i (start e)
    start-nothing i none =
        let has = (start-Kept e (setup-MayStart c t valid)).ranges.nobody i none in
        record {
          own = has.own;
          contents = has.contents;
          singles = has.singles;
          held = refl;
          passed = refl;
          stage = has.stage;
          queue = refl;
          rest = refl;
        }

    unplaced-first : (b : Bool) (ops : List Op) → unplaced (first_stage e b) ops ≡ ops
    unplaced-first true ops = refl
    unplaced-first false ops = refl

    start-later : (n : ℕ) → to_make e n (start e) ≤ 1
    start-later n = omega (
      arith,
      total_same (λ (a : Actor). made_in n (unplaced a.stage a.todo)) (made_in n) (first_actor e)
          (text_for (texts_of t)) (seats e)
          (λ i. ap (made_in n) (unplaced-first (is_scheduler e i) (text_for (texts_of t) i))),
      total-text_for (made_in n) refl (texts_of t) c.schedulers,
      made-each n (texts_of t),
      trace.made_once n,
    ) where
      total_same : {A B : Type 0} (f : A → ℕ) (g : B → ℕ) (m : ℕ → A) (l : ℕ → B) (n : ℕ)
          → ((i : ℕ) → f (m i) ≡ g (l i)) → total n f m ≡ total n g l
      total_same f g m l zero h = refl
      total_same f g m l (suc n) h = omega (arith, total_same f g m l n h, h n)

    start-Present : Present e (start e)
    start-Present = record {
      walking = λ i. refl;
      fits = start-fits;
      contents = λ i. (start-stays i).0;
      singles = λ i. (start-stays i).1;
      history = λ i. record { done = []; split = refl; each = tt };
      later = λ n. omega (arith, all-none e (only n), start-later n);
      held = λ i. pairs_nil (IsBelow name_of);
      given = pairs_nil (IsBelow name_of);
      nobody = start-nothing;
      stands = λ off i is. subst (λ b. Stands (instance_by e b i)) (sym is)
          (setup-MayStart c t valid i is);
      main = λ i is. subst (λ b. EmploysMain e i (instance_by e b i)) (sym is) (first-main e i);
      tries = λ i. text-All HasTry (texts_of t) i
          (All-weaker (IsOperation c.schedulers) HasTry (has-try c.schedulers) (operations_of t)
          trace.operations);
    }

    pub start-Rule : Rule e (start e)
    start-Rule = record {
      kept = start-Kept e (setup-MayStart c t valid);
      present = start-Present;
    }
