-- A step of a session that stands after some turns.
use Rattle.std.proofs.Common.{◌≡◌, ℕ, ◌+◌, ◌<◌, ◌≤◌, Bool, List}
use Rattle.std.proofs.Common.{[], ◌∷◌, ◌++◌, length, set, refl, sym, ap, ◌∙◌, subst, inl, inr}
use Rattle.std.proofs.Common.{arith}
use Rattle.std.specs.Prelude.{Option, Some, None, IfSome, max}
use Rattle.std.proofs.lemmas.Bool.{cases_eq}
use Rattle.std.proofs.lemmas.List.{get_or-set_other, get_or-set_same, length-set}
use Rattle.ea_model.specs.declared.carriers.Extent.{Extent}
use Rattle.ea_model.specs.declared.operations.Op.{Op}
use Rattle.ea_model.specs.declared.operations.Op.TheVariants as op
use Rattle.ea_model.specs.declared.settings.Config.{Config}
use Rattle.ea_model.specs.declared.trace.Trace.{Trace}
use Rattle.ea_model.specs.Trace.{greatest_in}
use Rattle.ea_machine.specs.Machine.{run}
use Rattle.ea_machine.specs.Setup.{Setup, setup_of}
use Rattle.ea_machine.specs.State.{State}
use Rattle.ea_sound.specs.MachineLaws.{Protocol}
use Rattle.ea_sound.specs.Over.{LiesOver}
use Rattle.ea_sound.specs.Present.{Rule}
use Rattle.ea_sound.proofs.Asked.{first-operation}
use Rattle.ea_sound.proofs.TurnLists.{run-snoc}
use Rattle.ea_given.specs.declared.run.GivenRun.{GivenRun}
use Rattle.ea_given.specs.Runs.{HasScheduler, HasTaken, holds_after}
use Rattle.ea_contents.specs.Agreeing.{Agree, HasSource, IsWhole, MadeAt, memory_made}
use Rattle.ea_contents.specs.Agreeing.{source_in}
use Rattle.ea_contents.specs.declared.access.Making.{Making}
use Rattle.ea_contents.specs.declared.session.Session.{Session}
use Rattle.ea_contents.specs.Memory.{fitted, word_count, words_from}
use Rattle.ea_contents.specs.Model.{holds, if_new, lists_after, made}
use Rattle.ea_contents.specs.Model.{making_by, making_of}
use Rattle.ea_contents.specs.Paging.{HasWords, Paged, StaysThere}
use Rattle.ea_contents.specs.Sessions.{AreBrought, KeepsExtents}
use Rattle.ea_contents.specs.Sessions.{StandsWith}
use Rattle.ea_contents.specs.Sessions.{kept, kept_if, yet_made_by}
use Rattle.ea_contents.specs.Stored.{IsStored}
use Rattle.ea_contents.proofs.Kept.{had-or-made, keeps-agreement}
use Rattle.ea_contents.proofs.Standing.{laws, lies-stored, made-if, made-none, yet-parts, rules, unstopped}
use Rattle.ea_contents.proofs.Sources.{source-lies}
use Rattle.ea_contents.proofs.Windows.{fitted-length, with-length}

-- the memory after what a step makes has as many words
made-length : (memory : List ℕ) (r from : Option Extent) → IfSome r (λ q. IsStored q memory)
    → length (memory_made memory r from) ≡ length memory
made-length memory None from fits = refl
made-length memory (Some q) from fits =
    let ws = fitted (word_count q) (source_in memory from) in
    let many = fitted-length (word_count q) (source_in memory from) in
    with-length memory ws (words_from q) (word_count q) (words_from q + length ws) many
    (omega (arith, many)) (omega (arith, many, fits.0, fits.1))

-- the name that an operation makes is one of its names
making-upto : (o : Op) (m : Making) → making_by o ≡ Some m → m.fresh ≤ greatest_in o
making-upto (op.Alloc name bytes) m q =
    subst (λ (k : Making). k.fresh ≤ name) (same (record { fresh = name; source = None }) m q)
    (omega arith) where
      same : (a b : Making) → Some a ≡ Some b → a ≡ b
      same a b q = cc
making-upto (op.Realloc old name bytes) m q =
    subst (λ (k : Making). k.fresh ≤ max old name)
    (same (record { fresh = name; source = Some old }) m q) (grind arith) where
      same : (a b : Making) → Some a ≡ Some b → a ≡ b
      same a b q = cc
making-upto (op.Free name) m q = absurd cc
making-upto (op.Give name to) m q = absurd cc
making-upto (op.Take name tries) m q = absurd cc
making-upto op.Info m q = absurd cc
making-upto op.Idle m q = absurd cc

-- a step of a session that stands
module _ (c : Config) (t : Trace) (turns : List ℕ) (lists : ℕ → List ℕ) (s : Session)
    (at : StandsWith c t turns lists s) (me : ℕ) where
  abbrev setup : Setup
  setup = setup_of c t

  abbrev w : State
  w = run setup turns

  abbrev later : List ℕ
  later = turns ++ me ∷ []

  abbrev todo : List Op
  todo = (w.actors me).todo

  abbrev own_laws : Protocol setup
  own_laws = laws c t turns lists s at

  abbrev own_rules : (L : List ℕ) → Rule setup (run setup L)
  own_rules = rules c t turns lists s at

  -- what is made has a name up to the greatest one
  pub fresh-upto : (m : Making) → making_of todo ≡ Some m → m.fresh ≤ t.greatest
  fresh-upto m q = by todo refl q where
    by : (ops : List Op) → todo ≡ ops → making_of ops ≡ Some m → m.fresh ≤ t.greatest
    by [] is q = absurd cc
    by (o ∷ ops) is q = omega (
      arith,
      making-upto o m q,
      (first-operation c t at.run.shared.config at.run.shared.trace w (turns, refl) me o ops is).1,
    )

  -- where the block lies whose words are taken over
  pub source-kept : (m : Making) → made setup w me ≡ Some m
      → HasSource setup w m.source (kept_if s.extents.items m.source)
  source-kept m is = by m.source refl where
    by : (o : Option ℕ) → m.source ≡ o → HasSource setup w o (kept_if s.extents.items o)
    by None q = tt
    by (Some old) q =
        let lies = source-lies setup own_laws own_rules turns me m is old q in
        subst (HasSource setup w (Some old)) (sym (at.extents old lies.0 lies.1)) lies.1

  pub source-stored : (m : Making) → made setup w me ≡ Some m
      → IfSome (kept_if s.extents.items m.source) (λ old. IsStored old s.memory.words)
  source-stored m is = by m.source (kept_if s.extents.items m.source) (source-kept m is) where
    by : (o : Option ℕ) (x : Option Extent) → HasSource setup w o x
        → IfSome x (λ old. IsStored old s.memory.words)
    by o None has = tt
    by None (Some x) has = absurd has
    by (Some old) (Some x) has = lies-stored c t turns lists s at old x has

  -- a block that lies somewhere after the step
  pub block-stored : (name : ℕ) (x : Extent) → LiesOver setup name x (run setup later)
      → IsStored x s.memory.words
  block-stored name x lies =
      let some = (own_laws.apart later).some name x lies in
      let within = (own_laws.apart later).within name x lies in
      (omega (arith, some), omega (arith, within, at.whole))

  -- what was made, by what was yet to be made and whether it is held after the step
  pub unmade-yet : (yet : Option Making) → yet ≡ yet_made_by w me (making_of todo) → yet ≡ None
      → made setup w me ≡ None
  unmade-yet yet same none = made-none setup w me (making_of todo) (sym same ∙ none)

  module _ (yet : Option Making) (m : Making) (same : yet ≡ yet_made_by w me (making_of todo))
      (is : yet ≡ Some m) where
    pub yet-upto : m.fresh < length s.extents.items
    yet-upto = omega (
      arith,
      fresh-upto m (yet-parts w me (making_of todo) m (sym same ∙ is)).0,
      at.places,
    )

    pub made-held : (held : Bool) → held ≡ holds_after setup later me m.fresh
        → made setup w me ≡ if_new held m
    made-held held known = made-if setup w me (making_of todo) m (sym same ∙ is)
        ∙ ap (λ b. if_new b m) (ap (λ (v : State). holds v me m.fresh)
        (sym (unstopped c t at.stops later ∙ run-snoc setup turns me)) ∙ sym known)

  pub still-has : (v : GivenRun) → HasTaken (me ∷ []) s.run v → HasScheduler me s.run
      → HasScheduler me v
  still-has v taken has = subst (λ (x : Config). (1 ≤ me) × (me ≤ x.schedulers))
      (at.run.config ∙ sym (taken c t turns at.run).config) has

  -- the session after the step
  module _ (v : Session) (run-on : HasTaken (me ∷ []) s.run v.run) (trace : v.trace ≡ s.trace)
      (failed : v.failed ≡ s.failed) where
    stands-by : (r from : Option Extent)
        → MadeAt setup w (run setup later) (made setup w me) r from
        → IfSome r (λ q. IsStored q s.memory.words)
        → v.memory.words ≡ memory_made s.memory.words r from
        → AreBrought setup (run setup later) v.memory
        → length v.extents.items ≡ length s.extents.items
        → KeepsExtents setup (run setup later) v.extents.items
        → StandsWith c t later (lists_after setup w me lists) v
    stands-by r from made-at fits memory brought places extents = record {
      run = run-on c t turns at.run;
      trace = ap (λ (b : _). b.now) trace ∙ at.trace;
      texts = at.texts;
      stops = at.stops;
      going = failed ∙ at.going;
      whole = subst (IsWhole setup) (sym memory)
          (omega (arith, at.whole, made-length s.memory.words r from fits));
      agrees = subst (λ m. Agree setup (run setup later) m (lists_after setup w me lists))
          (sym memory) ((keeps-agreement setup own_laws).steps turns me s.memory.words lists r from
          at.whole made-at at.agrees);
      there = brought;
      places = places ∙ at.places;
      extents = extents;
    }

    -- nothing was made
    pub stands-unmade : made setup w me ≡ None → v.memory ≡ s.memory → v.extents ≡ s.extents
        → StandsWith c t later (lists_after setup w me lists) v
    stands-unmade none memory same =
        stands-by None None (subst (λ o. MadeAt setup w (run setup later) o None None) (sym none) tt)
        tt (ap (λ (m : Paged). m.words) memory)
        (λ n q lies. subst (HasWords q) (sym memory)
        (elim (had-or-made setup own_laws turns me n q lies) [
          | inl had ↦ at.there n q had
          | inr new ↦ absurd (let never : None ≡ Some new.0 = sym none ∙ new.1 in cc)
        ])) (ap (λ (l : _). length l.items) same)
        (λ n q lies. ap (λ (l : _). kept l.items n) same
        ∙ elim (had-or-made setup own_laws turns me n q lies) [
          | inl had ↦ at.extents n q had
          | inr new ↦ absurd (let never : None ≡ Some new.0 = sym none ∙ new.1 in cc)
        ])

    -- a block was made
    pub stands-made : (m : Making) (x : Extent) → made setup w me ≡ Some m
        → LiesOver setup m.fresh x (run setup later)
        → v.memory.words ≡ memory_made s.memory.words (Some x) (kept_if s.extents.items m.source)
        → HasWords x v.memory → StaysThere s.memory v.memory
        → v.extents.items ≡ set s.extents.items m.fresh (Some x)
        → m.fresh < length s.extents.items
        → StandsWith c t later (lists_after setup w me lists) v
    stands-made m x is there memory brought stays placed below =
        stands-by (Some x) (kept_if s.extents.items m.source)
        (subst (λ o. MadeAt setup w (run setup later) o (Some x)
        (kept_if s.extents.items m.source)) (sym is) (there, source-kept m is))
        (block-stored m.fresh x there) memory
        (λ n q lies. elim (cases_eq n m.fresh) [
          | inl e ↦ subst (λ r. HasWords r v.memory)
              (sym ((own_laws.apart later).one m.fresh q x
              (subst (λ k. LiesOver setup k q (run setup later)) e lies) there)) brought
          | inr other ↦ elim (had-or-made setup own_laws turns me n q lies) [
            | inl had ↦ λ k from upto. stays k (at.there n q had k from upto)
            | inr new ↦ absurd (other (sym new.2
                ∙ ap (λ (k : Making). k.fresh) (same-made new.0 m (sym new.1 ∙ is))))
          ]
        ])
        (omega (arith, ap length placed, length-set s.extents.items m.fresh (Some x)))
        (λ n q lies. ap (λ l. kept l n) placed ∙ elim (cases_eq n m.fresh) [
          | inl e ↦ ap (kept (set s.extents.items m.fresh (Some x))) e
              ∙ get_or-set_same s.extents.items m.fresh (Some x) None below
              ∙ ap Some (sym ((own_laws.apart later).one m.fresh q x
              (subst (λ k. LiesOver setup k q (run setup later)) e lies) there))
          | inr other ↦ get_or-set_other s.extents.items m.fresh n (Some x) None other
              ∙ elim (had-or-made setup own_laws turns me n q lies) [
                | inl had ↦ at.extents n q had
                | inr new ↦ absurd (other (sym new.2
                    ∙ ap (λ (k : Making). k.fresh) (same-made new.0 m (sym new.1 ∙ is))))
              ]
        ]) where
          same-made : (a b : Making) → Some a ≡ Some b → a ≡ b
          same-made a b q = cc
