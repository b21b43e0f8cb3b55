-- Entries and names of the present operation.
use Rattle.std.proofs.Common.{◌≡◌, ℕ, ◌+◌, ◌%◌, ◌≤◌, List, [], ◌∷◌, ◌++◌, refl, sym, ap, ◌∙◌, arith}
use Rattle.std.specs.List.{AllZip}
use Rattle.std.specs.Prelude.{Option, None, Some, ◌==◌}
use Rattle.ea_model.specs.declared.carriers.Place.{Place}
use Rattle.ea_model.specs.Entries.{Entry}
use Rattle.ea_model.specs.declared.entries.Entry.TheVariants as entry
use Rattle.ea_model.specs.declared.entries.NoCarrier.{NoCarrier}
use Rattle.ea_model.specs.declared.operations.Op.{Op}
use Rattle.ea_model.specs.declared.operations.Op.TheVariants as op
use Rattle.ea_model.proofs.Options.{same-some}
use Rattle.ea_model.proofs.Needs.{need-even, need-least}
use Rattle.ea_machine.specs.declared.tasks.Task.{Task}
use Rattle.ea_machine.specs.declared.tasks.Task.TheVariants.{Freeing, Moving}
use Rattle.ea_machine.specs.declared.tasks.Why.TheVariants.{For}
use Rattle.ea_machine.specs.declared.tasks.Gone.{Gone}
use Rattle.ea_machine.specs.declared.tasks.Gone.TheVariants.{Open, Here, Queued}
use Rattle.ea_machine.specs.declared.asks.Ask.{Ask}
use Rattle.ea_sound.specs.Entries.{Makes}
use Rattle.ea_sound.specs.Names.{made_in, unplaced_by}
use Rattle.ea_machine.specs.declared.nodes.Named.{Named}
use Rattle.ea_machine.specs.Placements.{failed}
use Rattle.ea_machine.specs.Sums.{one_if}
use Rattle.ea_machine.specs.Tasks.{entry_of, later}
use Rattle.ea_sound.specs.Present.{OfAsk, OfTask}

-- the entry is of the first operation
abbrev pub OfFirst : List Op → Entry → Type 0
OfFirst [] x = ⊥
OfFirst (o ∷ ops) x = Makes o x

-- one more of each
pub entries-more : (done : List Op) (log : List Entry) (o : Op) (x : Entry) → AllZip Makes done log
    → Makes o x → AllZip Makes (done ++ o ∷ []) (log ++ x ∷ [])
entries-more [] [] o x are is = (is, tt)
entries-more [] (y ∷ ys) o x are is = absurd are
entries-more (p ∷ ps) [] o x are is = absurd are
entries-more (p ∷ ps) (y ∷ ys) o x are is = (are.0, entries-more ps ys o x are.1 is)

pub append-one : {A : Type 0} (xs : List A) (o : A) (ys : List A)
    → xs ++ o ∷ ys ≡ (xs ++ o ∷ []) ++ ys
append-one [] o ys = refl
append-one (x ∷ xs) o ys = ap (λ zs. x ∷ zs) (append-one xs o ys)

-- names that are still to be made
pub later-made : (n : ℕ) (ops : List Op) → made_in n (later ops) ≤ made_in n ops
later-made n [] = omega arith
later-made n (o ∷ ops) = omega arith

pub task-made : (n : ℕ) (task : Task) (ops : List Op)
    → made_in n (later ops) ≤ made_in n (unplaced_by (For task) ops)
task-made n (Freeing m) ops = later-made n ops
task-made n (Moving old fresh place) ops = omega arith

pub ask-made : (ask : Ask) (ops : List Op) → OfAsk ask ops → (n : ℕ)
    → made_in n ops ≡ one_if (n == ask.name) + made_in n (later ops)
ask-made ask [] of n = absurd of
ask-made ask (op.Alloc name bytes ∷ ops) of n =
    ap (λ m. one_if (n == m) + made_in n ops) (sym of.0)
ask-made ask (op.Realloc old name bytes ∷ ops) of n =
    ap (λ m. one_if (n == m) + made_in n ops) (sym of.0)
ask-made ask (op.Free name ∷ ops) of n = absurd of
ask-made ask (op.Give name to ∷ ops) of n = absurd of
ask-made ask (op.Take name tries ∷ ops) of n = absurd of
ask-made ask (op.Info ∷ ops) of n = absurd of
ask-made ask (op.Idle ∷ ops) of n = absurd of

-- what is asked for may be placed
pub ask-least : (ask : Ask) (ops : List Op) → OfAsk ask ops → 6 ≤ ask.need
ask-least ask [] of = absurd of
ask-least ask (op.Alloc name bytes ∷ ops) of = omega (arith, of.1, need-least bytes)
ask-least ask (op.Realloc old name bytes ∷ ops) of = omega (arith, of.1, need-least bytes)
ask-least ask (op.Free name ∷ ops) of = absurd of
ask-least ask (op.Give name to ∷ ops) of = absurd of
ask-least ask (op.Take name tries ∷ ops) of = absurd of
ask-least ask (op.Info ∷ ops) of = absurd of
ask-least ask (op.Idle ∷ ops) of = absurd of

pub ask-even : (ask : Ask) (ops : List Op) → OfAsk ask ops → ask.need % 2 ≡ 0
ask-even ask [] of = absurd of
ask-even ask (op.Alloc name bytes ∷ ops) of = ap (λ n. n % 2) of.1 ∙ need-even bytes
ask-even ask (op.Realloc old name bytes ∷ ops) of = ap (λ n. n % 2) of.1 ∙ need-even bytes
ask-even ask (op.Free name ∷ ops) of = absurd of
ask-even ask (op.Give name to ∷ ops) of = absurd of
ask-even ask (op.Take name tries ∷ ops) of = absurd of
ask-even ask (op.Info ∷ ops) of = absurd of
ask-even ask (op.Idle ∷ ops) of = absurd of

no-old : (h : Named) → None ≡ Some h → ⊥
no-old h q = cc

same-name : (g h : Named) (o : Option Named) → o ≡ Some g → o ≡ Some h → h.name ≡ g.name
same-name g h o p q = ap (λ (x : Named). x.name) (same-some o h g q p)

-- the entries of an ask
pub ask-failed : (ask : Ask) (ops : List Op) (looked : ℕ) (why : NoCarrier) (o : Option Named)
    → ask.old ≡ o → OfAsk ask ops → OfFirst ops (failed ask looked why o)
ask-failed ask [] looked why o q of = absurd of
ask-failed ask (op.Alloc name bytes ∷ ops) looked why None q of = (of.0, of.1)
ask-failed ask (op.Alloc name bytes ∷ ops) looked why (Some h) q of =
    absurd (no-old h (sym of.2 ∙ q))
ask-failed ask (op.Realloc old name bytes ∷ ops) looked why None q of =
    absurd (no-old of.2.0 (sym q ∙ of.2.1))
ask-failed ask (op.Realloc old name bytes ∷ ops) looked why (Some h) q of =
    (sym (same-name h of.2.0 ask.old q of.2.1) ∙ of.2.2, of.0, of.1)
ask-failed ask (op.Free name ∷ ops) looked why o q of = absurd of
ask-failed ask (op.Give name to ∷ ops) looked why o q of = absurd of
ask-failed ask (op.Take name tries ∷ ops) looked why o q of = absurd of
ask-failed ask (op.Info ∷ ops) looked why o q of = absurd of
ask-failed ask (op.Idle ∷ ops) looked why o q of = absurd of

pub ask-allocated : (ask : Ask) (ops : List Op) (place : Place) → ask.old ≡ None → OfAsk ask ops
    → OfFirst ops (entry.Alloc ask.name place)
ask-allocated ask [] place q of = absurd of
ask-allocated ask (op.Alloc name bytes ∷ ops) place q of = of.0
ask-allocated ask (op.Realloc old name bytes ∷ ops) place q of =
    absurd (no-old of.2.0 (sym q ∙ of.2.1))
ask-allocated ask (op.Free name ∷ ops) place q of = absurd of
ask-allocated ask (op.Give name to ∷ ops) place q of = absurd of
ask-allocated ask (op.Take name tries ∷ ops) place q of = absurd of
ask-allocated ask (op.Info ∷ ops) place q of = absurd of
ask-allocated ask (op.Idle ∷ ops) place q of = absurd of

pub ask-moving : (ask : Ask) (ops : List Op) (place : Place) (h : Named) → ask.old ≡ Some h
    → OfAsk ask ops → OfTask (Moving h.name ask.name place) ops
ask-moving ask [] place h q of = absurd of
ask-moving ask (op.Alloc name bytes ∷ ops) place h q of = absurd (no-old h (sym of.2 ∙ q))
ask-moving ask (op.Realloc old name bytes ∷ ops) place h q of =
    (sym (same-name h of.2.0 ask.old q of.2.1) ∙ of.2.2, of.0)
ask-moving ask (op.Free name ∷ ops) place h q of = absurd of
ask-moving ask (op.Give name to ∷ ops) place h q of = absurd of
ask-moving ask (op.Take name tries ∷ ops) place h q of = absurd of
ask-moving ask (op.Info ∷ ops) place h q of = absurd of
ask-moving ask (op.Idle ∷ ops) place h q of = absurd of

-- the entry of a task
pub task-entry : (task : Task) (gone : Gone) (ops : List Op) → OfTask task ops
    → OfFirst ops (entry_of task gone)
task-entry (Freeing n) gone [] of = absurd of
task-entry (Freeing n) Open (op.Free m ∷ ops) of = of
task-entry (Freeing n) Here (op.Free m ∷ ops) of = of
task-entry (Freeing n) (Queued to) (op.Free m ∷ ops) of = of
task-entry (Freeing n) gone (op.Alloc m bytes ∷ ops) of = absurd of
task-entry (Freeing n) gone (op.Realloc old m bytes ∷ ops) of = absurd of
task-entry (Freeing n) gone (op.Give m to ∷ ops) of = absurd of
task-entry (Freeing n) gone (op.Take m tries ∷ ops) of = absurd of
task-entry (Freeing n) gone (op.Info ∷ ops) of = absurd of
task-entry (Freeing n) gone (op.Idle ∷ ops) of = absurd of
task-entry (Moving o n place) gone [] of = absurd of
task-entry (Moving o n place) Open (op.Realloc old m bytes ∷ ops) of = of
task-entry (Moving o n place) Here (op.Realloc old m bytes ∷ ops) of = of
task-entry (Moving o n place) (Queued to) (op.Realloc old m bytes ∷ ops) of = of
task-entry (Moving o n place) gone (op.Alloc m bytes ∷ ops) of = absurd of
task-entry (Moving o n place) gone (op.Free m ∷ ops) of = absurd of
task-entry (Moving o n place) gone (op.Give m to ∷ ops) of = absurd of
task-entry (Moving o n place) gone (op.Take m tries ∷ ops) of = absurd of
task-entry (Moving o n place) gone (op.Info ∷ ops) of = absurd of
task-entry (Moving o n place) gone (op.Idle ∷ ops) of = absurd of
