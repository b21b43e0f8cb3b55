-- What comes of writes and reads in a session.
use Rattle.std.proofs.Common.{◌≡◌, ℕ, ◌+◌, ◌<◌, ◌≤◌, List, Bool, true, false, refl, sym, ap, ◌∙◌}
use Rattle.std.proofs.Common.{subst, arith}
use Rattle.std.specs.Prelude.{get_or, nat_lt}
use Rattle.ea_model.specs.declared.settings.Config.{Config}
use Rattle.ea_model.specs.declared.trace.Trace.{Trace}
use Rattle.ea_machine.specs.Machine.{run}
use Rattle.ea_machine.specs.Setup.{setup_of}
use Rattle.ea_sound.specs.Over.{units_named}
use Rattle.ea_contents.specs.declared.access.Access.TheVariants.{Read, Write}
use Rattle.ea_contents.specs.declared.access.AccessEntry.TheVariants.{Found, ReadOutside, ReadSkipped}
use Rattle.ea_contents.specs.declared.access.AccessEntry.TheVariants.{WriteOutside, WriteSkipped, Wrote}
use Rattle.ea_contents.specs.declared.session.Session.{Session}
use Rattle.ea_contents.specs.Entering.{lists_if, read_entry, write_entry}
use Rattle.ea_contents.specs.Model.{holds, is_within}
use Rattle.ea_contents.specs.Playing.{HasMade, TellsOf}
use Rattle.ea_contents.specs.Sessions.{HasWord, HasWritten, SessionTells, StandsWith}

below : (n k : ℕ) → n < k → nat_lt n k ≡ true
below n k less = grind (arith, less)

past : (n k : ℕ) → k ≤ n → nat_lt n k ≡ false
past n k less = grind (arith, less)

-- by whether the name is held and the index is within its words
written-by : (name index : ℕ) (a b x y : Bool) → a ≡ x → b ≡ y
    → write_entry a b name index ≡ write_entry x y name index
written-by name index a b x y held within = ap (λ z. write_entry z b name index) held
    ∙ ap (λ z. write_entry x z name index) within

read-by : (name index value : ℕ) (a b x y : Bool) → a ≡ x → b ≡ y
    → read_entry a b name index value ≡ read_entry x y name index value
read-by name index value a b x y held within =
    ap (λ z. read_entry z b name index value) held
    ∙ ap (λ z. read_entry x z name index value) within

lists-by : (lists : ℕ → List ℕ) (name index value : ℕ) (a b x y : Bool) → a ≡ x → b ≡ y
    → lists_if a b lists name index value ≡ lists_if x y lists name index value
lists-by lists name index value a b x y held within =
    ap (λ z. lists_if z b lists name index value) held
    ∙ ap (λ z. lists_if x z lists name index value) within

module _ (s : Session) (i name index : ℕ) where
  abbrev has : Config → Trace → List ℕ → Bool
  has c t turns = holds (run (setup_of c t) turns) i name

  abbrev fits : Config → Trace → List ℕ → Bool
  fits c t turns = is_within (setup_of c t) (run (setup_of c t) turns) name index

  -- the scheduler doesn't hold the name
  module _ (held : SessionTells (λ setup turns lists. false ≡ holds (run setup turns) i name) s)
    where
      pub write-skipped : (value : ℕ) → TellsOf i (Write name index value) (WriteSkipped name) s
      write-skipped value = λ c t turns lists at. written-by name index false (fits c t turns)
          (has c t turns) (fits c t turns) (held c t turns lists at) refl

      pub none-written : (value : ℕ) → HasMade i (Write name index value) s s
      none-written value = λ c t turns lists at. subst (λ ls. StandsWith c t turns ls s)
          (lists-by lists name index value false (fits c t turns) (has c t turns) (fits c t turns)
          (held c t turns lists at) refl) at

      pub read-skipped : TellsOf i (Read name index) (ReadSkipped name) s
      read-skipped = λ c t turns lists at. read-by name index (get_or (lists name) index 0) false
          (fits c t turns) (has c t turns) (fits c t turns) (held c t turns lists at) refl

  -- it holds it, and its block has that many units
  module _ (units : ℕ)
      (held : SessionTells (λ setup turns lists. true ≡ holds (run setup turns) i name) s)
      (size : SessionTells (λ setup turns lists. units ≡ units_named setup name (run setup turns))
      s) where
    module _ (many : units ≤ index + 1) where
      outside : SessionTells (λ setup turns lists. false
          ≡ is_within setup (run setup turns) name index) s
      outside = λ c t turns lists at. sym (past (index + 1) units many)
          ∙ ap (nat_lt (index + 1)) (size c t turns lists at)

      pub write-outside : (value : ℕ) → TellsOf i (Write name index value)
          (WriteOutside name index) s
      write-outside value = λ c t turns lists at. written-by name index true false (has c t turns)
          (fits c t turns) (held c t turns lists at) (outside c t turns lists at)

      pub none-outside : (value : ℕ) → HasMade i (Write name index value) s s
      none-outside value = λ c t turns lists at. subst (λ ls. StandsWith c t turns ls s)
          (lists-by lists name index value true false (has c t turns) (fits c t turns)
          (held c t turns lists at) (outside c t turns lists at)) at

      pub read-outside : TellsOf i (Read name index) (ReadOutside name index) s
      read-outside = λ c t turns lists at. read-by name index (get_or (lists name) index 0) true
          false (has c t turns) (fits c t turns) (held c t turns lists at)
          (outside c t turns lists at)

    module _ (within : index + 1 < units) where
      inside : SessionTells (λ setup turns lists. true
          ≡ is_within setup (run setup turns) name index) s
      inside = λ c t turns lists at. sym (below (index + 1) units within)
          ∙ ap (nat_lt (index + 1)) (size c t turns lists at)

      pub has-word : HasWord name index s
      has-word = λ c t turns lists at. (
        (i, sym (held c t turns lists at)),
        subst (λ k. index + 1 < k) (size c t turns lists at) within,
      )

      pub wrote : (value : ℕ) → TellsOf i (Write name index value) (Wrote name index) s
      wrote value = λ c t turns lists at. written-by name index true true (has c t turns)
          (fits c t turns) (held c t turns lists at) (inside c t turns lists at)

      pub has-written : (value : ℕ) (q : Session) → HasWritten name index value s q
          → HasMade i (Write name index value) s q
      has-written value q written = λ c t turns lists at.
          subst (λ ls. StandsWith c t turns ls q)
          (lists-by lists name index value true true (has c t turns) (fits c t turns)
          (held c t turns lists at) (inside c t turns lists at)) (written c t turns lists at)

      pub found : (value : ℕ)
          → SessionTells (λ setup turns lists. value ≡ get_or (lists name) index 0) s
          → TellsOf i (Read name index) (Found name index value) s
      found value is = λ c t turns lists at. ap (Found name index) (is c t turns lists at)
          ∙ read-by name index (get_or (lists name) index 0) true true (has c t turns)
          (fits c t turns) (held c t turns lists at) (inside c t turns lists at)
