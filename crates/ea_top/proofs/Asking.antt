-- Each good input in the language of traces is run, and none is declined.
use Rattle.std.proofs.Common.{ℕ, List, refl, subst}
use Rattle.std.specs.Prelude.{Option, IfSome, Result, Ok, Err, IsOkAnd}
use Rattle.std.specs.declared.string.String.{String}
use Rattle.std.proofs.lemmas.Option.{IfSome_then}
use Rattle.ea_flags.specs.Flags.{flags}
use Rattle.ea_frame.specs.Inputs.{DeclinedInput, OfInput, RunInput, Under, spelled}
use Rattle.ea_frame.specs.Language.{IsDeclined, IsGood, IsRun}
use Rattle.ea_machine.specs.Setup.{Setup}
use Rattle.ea_trace.specs.Language.{trace}
use Rattle.ea_top.specs.Answers.{GoodInput}
use Rattle.ea_top.specs.EachTrace.{EachTrace, ForEachTrace}
use Rattle.ea_top.specs.Language.{traces}

weaker : {A E : Type 0} (r : Result A E) (P Q : A → Type 0) → ((x : A) → P x → Q x) → IsOkAnd r P
    → IsOkAnd r Q
weaker (Ok x) P Q f h = f x h
weaker (Err e) P Q f h = absurd h

never : {A E : Type 0} (r : Result A E) (P : A → Type 0) → ((x : A) → P x → ⊥) → IsOkAnd r P → ⊥
never (Ok x) P f h = f x h
never (Err e) P f h = h

module _ {Z : Type 0} (words : List (String Z)) where
  runs : (input : List ℕ) → GoodInput words input → RunInput traces words input
  runs input h = (
    h.0,
    weaker (flags (spelled words)) (λ c. IsGood traces c input) (λ c. IsRun traces c input)
        (λ c. weaker (trace input c.schedulers) _ _ (λ t good. refl)) h.1,
  )

  -- what holds of an input that is run holds of a good one
  pub of_good : (A : Type 0) (told : Option (List ℕ))
      → IfSome told (λ input. RunInput traces words input → A)
      → IfSome told (λ input. GoodInput words input → A)
  of_good A told h = IfSome_then told h (λ input f good. f (runs input good))

  pub never_declined : (told : Option (List ℕ)) → OfInput told (DeclinedInput traces words) → ⊥
  never_declined told h = never (flags (spelled words)) (λ c. IsDeclined traces c h.0)
      (λ c. never (trace h.0 c.schedulers) _ (λ t no. absurd cc)) h.2.1

  -- what is promised under the configuration of the words is so whichever it is
  pub each_trace : (P : Setup → Type 0) → Under words (λ c. EachTrace P c) → ForEachTrace P words
  each_trace P h = λ config read. subst (λ r. IsOkAnd r (λ c. EachTrace P c)) read h
