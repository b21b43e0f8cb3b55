-- Sessions that stand after some turns: what their steps, writes and reads come to.
use Rattle.std.proofs.Common.{◌≡◌, ℕ, ◌+◌, ◌-◌, ◌/◌, ◌<◌, ◌≤◌, Bool, true, false, List}
use Rattle.std.proofs.Common.{[], drop, length, set, refl, sym, ap, ◌∙◌, subst, arith}
use Rattle.std.specs.Prelude.{Option, Some, None, slice_index_or, get_or, not, ◌&&◌}
use Rattle.std.proofs.lemmas.List.{length-set}
use Rattle.std.proofs.lemmas.Slice.Zip.{AllZip-long}
use Rattle.std.proofs.Math.Seq.{drop-append_seam}
use Rattle.ea_model.specs.Lists.{Items}
use Rattle.ea_model.specs.declared.carriers.Extent.{Extent}
use Rattle.ea_model.specs.declared.operations.Op.{Op}
use Rattle.ea_model.specs.declared.settings.Config.{Config}
use Rattle.ea_model.specs.declared.trace.Trace.{Trace}
use Rattle.ea_model.specs.Trace.{stop_in}
use Rattle.ea_machine.specs.Machine.{run, start, step}
use Rattle.ea_machine.specs.Setup.{Setup, setup_of}
use Rattle.ea_machine.specs.State.{State}
use Rattle.ea_machine.specs.Stops.{cut, run_with_stops}
use Rattle.ea_sound.specs.Entries.{Makes}
use Rattle.ea_sound.specs.MachineLaws.{Protocol}
use Rattle.ea_sound.specs.Names.{only}
use Rattle.ea_sound.specs.Over.{LiesOver, units_named}
use Rattle.ea_sound.specs.Present.{Rule}
use Rattle.ea_sound.proofs.Protocols.{protocol}
use Rattle.ea_sound.proofs.RuleRuns.{rule-run}
use Rattle.ea_sound.proofs.StartKept.{all-none}
use Rattle.ea_given.specs.Runs.{StandsAfter, done_after, holds_after}
use Rattle.ea_sound.proofs.Stopping.{cut-none}
use Rattle.ea_sound.proofs.Texts.{text-is}
use Rattle.ea_contents.specs.Agreeing.{Agree, IsWhole}
use Rattle.ea_contents.specs.declared.access.Making.{Making}
use Rattle.ea_contents.specs.declared.session.Session.{Session}
use Rattle.ea_contents.specs.Memory.{words_from, words_of}
use Rattle.ea_contents.specs.Model.{holds, if_new, lists_written, made_by, making_of}
use Rattle.ea_contents.specs.Paging.{HasWords}
use Rattle.ea_contents.specs.declared.page.TheConstants.{PAGE_WORDS}
use Rattle.ea_contents.specs.Sessions.{IsHeld, KeepsExtents, SessionHas, StandsWith}
use Rattle.ea_contents.specs.Sessions.{if_absent, kept, yet_made_by}
use Rattle.ea_contents.specs.Stored.{IsStored}
use Rattle.ea_contents.proofs.Kept.{keeps-agreement, over-named}
use Rattle.ea_contents.proofs.Lying.{held-lies}

-- a trace without stops
module _ (c : Config) (t : Trace) (none : t.stops.items ≡ []) where
  abbrev e : Setup
  e = setup_of c t

  -- each turn is taken
  pub uncut : (turns : List ℕ) → cut e.stops turns ≡ turns
  uncut turns = cut-none e.stops (λ i. ap (λ stops. stop_in stops i) none) turns

  pub unstopped : (turns : List ℕ) → run_with_stops e turns ≡ run e turns
  unstopped turns = ap (run e) (uncut turns)

-- before the first turn no block lies anywhere
pub start-empty : (c : Config) (t : Trace) (name : ℕ) (r : Extent)
    → LiesOver (setup_of c t) name r (run (setup_of c t) []) → ⊥
start-empty c t name r lies = omega (
  arith,
  over-named (setup_of c t) (start (setup_of c t)) name r lies,
  all-none (setup_of c t) (only name),
)

-- the operations left are those after as many as the log has entries
pub todo-left : (e : Setup) (w : State) (i : ℕ) → Rule e w
    → drop (length (w.actors i).log) (e.texts i) ≡ (w.actors i).todo
todo-left e w i rule =
    let history = rule.present.history i in
    ap (λ k. drop k (e.texts i)) (AllZip-long Makes history.done (w.actors i).log history.each)
    ∙ ap (drop (length history.done)) history.split
    ∙ drop-append_seam history.done (w.actors i).todo

pub same-extent : (x y : Extent) → Some x ≡ Some y → x ≡ y
same-extent x y q = cc

-- what is yet to be made
pub yet-parts : (w : State) (i : ℕ) (o : Option Making) (m : Making) → yet_made_by w i o ≡ Some m
    → (o ≡ Some m) × (holds w i m.fresh ≡ false)
yet-parts w i None m q = absurd cc
yet-parts w i (Some k) m q = by (holds w i k.fresh) refl q where
  same : (a b : Making) → Some a ≡ Some b → a ≡ b
  same a b q = cc

  by : (b : Bool) → holds w i k.fresh ≡ b → if_absent b k ≡ Some m
      → (Some k ≡ Some m) × (holds w i m.fresh ≡ false)
  by true is q = absurd cc
  by false is q = (q, subst (λ (j : Making). holds w i j.fresh ≡ false) (same k m q) is)

-- whether the step makes it
module _ (e : Setup) (w : State) (i : ℕ) where
  pub made-if : (o : Option Making) (m : Making) → yet_made_by w i o ≡ Some m
      → made_by e w i o ≡ if_new (holds (step e w i) i m.fresh) m
  made-if None m q = absurd cc
  made-if (Some k) m q = by (yet-parts w i (Some k) m q) where
    same : (a b : Making) → Some a ≡ Some b → a ≡ b
    same a b q = cc

    new : (a b : Bool) → a ≡ false → (not a && b) ≡ b
    new a b q = grind (arith, q)

    by : (Some k ≡ Some m) × (holds w i m.fresh ≡ false)
        → made_by e w i (Some k) ≡ if_new (holds (step e w i) i m.fresh) m
    by (is, absent) = ap (made_by e w i) is
        ∙ ap (λ b. if_new b m) (new (holds w i m.fresh) (holds (step e w i) i m.fresh) absent)

  pub made-none : (o : Option Making) → yet_made_by w i o ≡ None → made_by e w i o ≡ None
  made-none None q = refl
  made-none (Some k) q = by (holds w i k.fresh) refl q where
    by : (b : Bool) → holds w i k.fresh ≡ b → if_absent b k ≡ None
        → if_new (not (holds w i k.fresh) && holds (step e w i) i k.fresh) k ≡ None
    by true is q = ap (λ b. if_new (not b && holds (step e w i) i k.fresh) k) is
    by false is q = absurd cc

-- a session that stands
module _ (c : Config) (t : Trace) (turns : List ℕ) (lists : ℕ → List ℕ) (s : Session)
    (at : StandsWith c t turns lists s) where
  abbrev setup : Setup
  setup = setup_of c t

  abbrev w : State
  w = run setup turns

  pub laws : Protocol setup
  laws = protocol c t at.run.shared.config at.run.shared.trace

  pub rules : (L : List ℕ) → Rule setup (run setup L)
  rules = rule-run c t at.run.shared.config at.run.shared.trace

  -- a block lies within the memory
  pub lies-stored : (name : ℕ) (x : Extent) → LiesOver setup name x w → IsStored x s.memory.words
  lies-stored name x lies =
      let some = (laws.apart turns).some name x lies in
      let within = (laws.apart turns).within name x lies in
      (omega (arith, some), omega (arith, within, at.whole))

  -- the extent of a held name
  pub held-kept : (name : ℕ) → IsHeld w name
      → (x : Extent) × (kept s.extents.items name ≡ Some x) × LiesOver setup name x w
  held-kept name held =
      let lies = held-lies setup w held.0 name (rules turns) held.1 in
      (lies.0, at.extents name lies.0 lies.1, lies.1)

  module _ (name : ℕ) (x : Extent) (lies : LiesOver setup name x w) where
    pub lies-units : x.units ≡ units_named setup name w
    lies-units = sym ((laws.apart turns).sized name x lies)

    pub word-stored : IsStored x s.memory.words
    word-stored = lies-stored name x lies

    pub word-there : HasWords x s.memory
    word-there = at.there name x lies

    pub word-within : (index : ℕ) → index + 1 < units_named setup name w → index + 1 < x.units
    word-within index less = omega (arith, less, lies-units)

    pub word-read : (index value : ℕ) → value ≡ get_or (words_of x s.memory.words) index 0
        → value ≡ get_or (lists name) index 0
    word-read index value is = is ∙ ap (λ ws. get_or ws index 0) (at.agrees name x lies)

    -- one word is written
    pub word-written : (index value : ℕ) → index + 1 < x.units → (v : Session)
        → v.run ≡ s.run → v.trace ≡ s.trace → v.failed ≡ s.failed → v.extents ≡ s.extents
        → v.memory.words ≡ set s.memory.words (words_from x + index) value
        → v.memory.there ≡ s.memory.there
        → StandsWith c t turns (lists_written lists name index value) v
    word-written index value within v same trace failed extents memory there = record {
      run = subst (StandsAfter c t turns) (sym same) at.run;
      trace = ap (λ (b : _). b.now) trace ∙ at.trace;
      texts = at.texts;
      stops = at.stops;
      going = failed ∙ at.going;
      whole = subst (IsWhole setup) (sym memory) (omega (
        arith,
        at.whole,
        length-set s.memory.words (words_from x + index) value,
      ));
      agrees = subst (λ m. Agree setup w m (lists_written lists name index value)) (sym memory)
          ((keeps-agreement setup laws).writes turns s.memory.words lists name index value x lies
          within at.agrees);
      there = λ n r lies k from upto. ap (λ bs. get_or bs (k / PAGE_WORDS) false) there
          ∙ at.there n r lies k from upto;
      places = ap (λ (l : _). length l.items) extents ∙ at.places;
      extents = subst (λ (l : _). KeepsExtents setup w l.items) (sym extents) at.extents;
    }

  -- what the next operation makes
  module _ (me : ℕ) (has : SessionHas me s) (text : Items Op) (done : ℕ) (making : Option Making)
      (from : text ≡ slice_index_or s.trace.now.texts.items (me - 1) text)
      (same : done ≡ done_after setup turns me) (is : making ≡ making_of (drop done text.items))
    where
      theirs : me ≤ length t.texts.items
      theirs = omega (
        arith,
        has.1,
        at.texts,
        ap (λ (x : Config). x.schedulers) at.run.config,
      )

      pub next-making : making ≡ making_of (w.actors me).todo
      next-making =
          is ∙ ap (λ ops. making_of (drop done ops)) (text-is t.texts.items me text has.0 theirs
          (from ∙ ap (λ (x : Trace). slice_index_or x.texts.items (me - 1) text) at.trace))
          ∙ ap (λ k. making_of (drop k (setup.texts me))) (same
          ∙ ap (λ (v : State). length (v.actors me).log) (unstopped c t at.stops turns))
          ∙ ap making_of (todo-left setup w me (rules turns))

      pub yet-none : making ≡ None → None ≡ yet_made_by w me (making_of (w.actors me).todo)
      yet-none none = ap (yet_made_by w me) (sym none ∙ next-making)

      pub yet-held : (m : Making) → making ≡ Some m → (held : Bool)
          → held ≡ holds_after setup turns me m.fresh
          → if_absent held m ≡ yet_made_by w me (making_of (w.actors me).todo)
      yet-held m found held known =
          ap (λ b. if_absent b m) (known
          ∙ ap (λ (v : State). holds v me m.fresh) (unstopped c t at.stops turns))
          ∙ ap (yet_made_by w me) (sym found ∙ next-making)
