-- The memory keeps the words of each block the list of its name.
use Rattle.std.proofs.Common.{◌≡◌, ◌≢◌, ◌⊎◌, ℕ, ◌+◌, ◌<◌, ◌≤◌}
use Rattle.std.proofs.Common.{List, [], ◌∷◌, ◌++◌, drop, length, take}
use Rattle.std.proofs.Common.{set, refl, sym, ap, ◌∙◌, subst, inl, inr, arith}
use Rattle.std.proofs.Common.{true, ◌*◌, get_or}
use Rattle.std.specs.Prelude.{Option, None, Some, is_some, not, ◌&&◌, ◌==◌}
use Rattle.std.proofs.lemmas.Bool.{cases_eq, cases_lt, eqb-true}
use Rattle.ea_model.specs.declared.carriers.BlockAt.{BlockAt}
use Rattle.ea_model.specs.declared.carriers.Extent.{Extent}
use Rattle.ea_model.specs.declared.operations.Op.{Op}
use Rattle.ea_model.specs.declared.operations.Op.TheVariants as op
use Rattle.ea_model.specs.Trace.{makes}
use Rattle.ea_laws.specs.InOrder.{ExtentsApart}
use Rattle.ea_machine.specs.declared.nodes.Named.{Named}
use Rattle.ea_machine.specs.Machine.{run, step}
use Rattle.ea_machine.specs.Nodes.{named_at}
use Rattle.ea_machine.specs.Setup.{Setup, setup_of}
use Rattle.ea_machine.specs.Shared.{put}
use Rattle.ea_machine.specs.State.{State}
use Rattle.ea_machine.specs.Sums.{one_if, sum_over}
use Rattle.ea_sound.specs.Made.{IsMadeBy}
use Rattle.ea_sound.specs.MachineLaws.{Protocol}
use Rattle.ea_sound.specs.Names.{of_block, of_content, only, to_make}
use Rattle.ea_sound.specs.Over.{LieApart, LiesOver, is_over, units_named}
use Rattle.ea_sound.specs.Released.{blocks_named}
use Rattle.ea_sound.proofs.ActorWeights.{everywhere-less}
use Rattle.ea_sound.proofs.Protocols.{protocol}
use Rattle.ea_sound.proofs.TurnLists.{run-snoc}
use Rattle.ea_sound.proofs.Weights.{sum-less}
use Rattle.ea_contents.specs.Agreeing.{Agree, AlwaysKeepsAgreement, HasSource, IsWhole}
use Rattle.ea_contents.specs.Agreeing.{KeepsAgreement, MadeAt, memory_made, source_in}
use Rattle.ea_contents.specs.Memory.{fitted, with_words, word_count, words_from, words_of}
use Rattle.ea_contents.specs.declared.access.Making.{Making}
use Rattle.ea_contents.specs.Model.{if_new, is_new, lists_made, lists_written, made, made_by}
use Rattle.ea_contents.specs.Model.{making_of, source_words, units_made}
use Rattle.ea_contents.proofs.Windows.{before, behind, fitted-length, set-outside, set-within}
use Rattle.ea_contents.proofs.Windows.{written}

-- the units of an extent, or 0
abbrev units_of : Option Extent → ℕ
units_of None = 0
units_of (Some r) = r.units

put-here : (f : ℕ → List ℕ) (k : ℕ) (v : List ℕ) → put f k v k ≡ v
put-here f k v = grind arith

put-other : (f : ℕ → List ℕ) (k n : ℕ) (v : List ℕ) → n ≢ k → put f k v n ≡ f n
put-other f k n v other = grind (arith, other)

-- words that are written at units that are apart from those of a block
apart-words : (memory ws : List ℕ) (r q : Extent) → ExtentsApart r q → 1 ≤ r.units → 1 ≤ q.units
    → length ws ≡ word_count q → q.first + q.units ≤ length memory
    → words_of r (with_words (words_from q) ws memory) ≡ words_of r memory
apart-words memory ws r q apart some some' many fits = elim apart [
  | inl le ↦ before memory (ws ++ drop (words_from q + length ws) memory) (words_from r)
      (word_count r) (words_from q) (omega (arith, le, some)) (omega (arith, fits, some'))
  | inr le ↦ ap (take (word_count r)) (behind memory ws (words_from r) (words_from q)
      (word_count q) (words_from q + length ws) many (omega (arith, many))
      (omega (arith, le, many, some')) (omega (arith, many, fits, some')))
]

source-agrees : (setup : Setup) (w : State) (memory : List ℕ) (lists : ℕ → List ℕ)
    (source : Option ℕ) (from : Option Extent) → HasSource setup w source from
    → Agree setup w memory lists → source_in memory from ≡ source_words lists source
source-agrees setup w memory lists None None has agree = refl
source-agrees setup w memory lists None (Some r) has agree = absurd has
source-agrees setup w memory lists (Some old) None has agree = absurd has
source-agrees setup w memory lists (Some old) (Some r) has agree = agree old r has

module _ (setup : Setup) (w v : State) (memory : List ℕ) (lists : ℕ → List ℕ)
    (whole : IsWhole setup memory) (next : LieApart setup v)
    (agree : Agree setup w memory lists) where
  made-agrees : (o : Option Making) (r from : Option Extent) → MadeAt setup w v o r from
      → ((n : ℕ) (q : Extent) → LiesOver setup n q v
      → LiesOver setup n q w ⊎ ((m : Making) × (o ≡ Some m) × (m.fresh ≡ n)))
      → Agree setup v (memory_made memory r from) (lists_made lists (units_of r) o)
  made-agrees None None from at kept n q lies = elim (kept n q lies) [
    | inl was ↦ agree n q was
    | inr new ↦ absurd (let never : None ≡ Some new.0 = new.1 in cc)
  ]
  made-agrees None (Some r) from at kept n q lies = absurd at
  made-agrees (Some m) None from at kept n q lies = absurd at
  made-agrees (Some m) (Some r) from at kept n q lies =
      let ws = fitted (word_count r) (source_in memory from) in
      let ws-many = fitted-length (word_count r) (source_in memory from) in
      let fits : r.first + r.units ≤ length memory =
      omega (arith, whole, next.within m.fresh r at.0) in
      elim (cases_eq n m.fresh) [
        | inl e ↦
            let same = next.one m.fresh q r (subst (λ k. LiesOver setup k q v) e lies) at.0 in
            ap (λ z. words_of z (with_words (words_from r) ws memory)) same
            ∙ written memory ws (words_from r) (word_count r)
            (omega (arith, fits, next.some m.fresh r at.0)) ws-many
            ∙ ap (fitted (word_count r)) (source-agrees setup w memory lists m.source from
            at.1 agree)
            ∙ sym (put-here lists m.fresh (fitted (word_count r) (source_words lists m.source)))
            ∙ ap (put lists m.fresh (fitted (word_count r) (source_words lists m.source))) (sym e)
        | inr other ↦
            apart-words memory ws q r (next.apart n m.fresh q r other lies at.0)
            (next.some n q lies) (next.some m.fresh r at.0) ws-many fits
            ∙ elim (kept n q lies) [
              | inl was ↦ agree n q was
              | inr new ↦ absurd (other (sym new.2 ∙ ap made_fresh (some-fresh m new.0 new.1)))
            ]
            ∙ sym (put-other lists m.fresh n (fitted (word_count r) (source_words lists m.source))
            other)
      ] where
        made_fresh : Making → ℕ
        made_fresh m = m.fresh

        some-fresh : (m k : Making) → Some m ≡ Some k → k ≡ m
        some-fresh m k q = cc

module _ (setup : Setup) (w : State) (memory : List ℕ) (lists : ℕ → List ℕ)
    (now : LieApart setup w) (agree : Agree setup w memory lists) where
  write-agrees : (name index value : ℕ) (r : Extent) → LiesOver setup name r w
      → index + 1 < r.units → Agree setup w (set memory (words_from r + index) value)
      (lists_written lists name index value)
  write-agrees name index value r there within n q lies =
      elim (cases_eq n name) [
        | inl e ↦
            let same = now.one name q r (subst (λ k. LiesOver setup k q w) e lies) there in
            ap (λ z. words_of z (set memory (words_from r + index) value)) same
            ∙ set-within memory (words_from r) (word_count r) index (words_from r + index) value
            refl (omega (arith, within))
            ∙ ap (λ ws. set ws index value) (agree name r there)
            ∙ sym (put-here lists name (set (lists name) index value))
            ∙ ap (put lists name (set (lists name) index value)) (sym e)
        | inr other ↦
            set-outside memory (words_from q) (word_count q) (words_from r + index) value
            (outside q r (now.apart n name q r other lies there) (now.some n q lies) index within)
            ∙ agree n q lies
            ∙ sym (put-other lists name n (set (lists name) index value) other)
      ] where
        outside : (q r : Extent) → ExtentsApart q r → 1 ≤ q.units → (index : ℕ)
            → index + 1 < r.units → (words_from r + index < words_from q)
            ⊎ (words_from q + word_count q ≤ words_from r + index)
        outside q r apart some index within = elim apart [
          | inl le ↦ inr (omega (arith, le, some))
          | inr le ↦ inl (omega (arith, le, within))
        ]

-- what the law says of the step that makes a name is what is made
new-so : (a b : Option Named) (n : Named) → a ≡ None → b ≡ Some n
    → (not (is_some a) && is_some b) ≡ true
new-so a b n none there =
    ap (λ o. not (is_some o) && is_some b) none ∙ ap (λ o. true && is_some o) there

module _ (setup : Setup) (turns : List ℕ) (i n : ℕ) where
  abbrev Made : Type 0
  Made = (m : Making) × (made setup (run setup turns) i ≡ Some m) × (m.fresh ≡ n)

  made-is : IsMadeBy setup turns i n → Made
  made-is is = by is.first is.makes is.todo where
    w : State
    w = run setup turns

    new : is_new setup w i n ≡ true
    new = new-so (named_at n (w.actors i).held) (named_at n ((step setup w i).actors i).held)
        is.holds.0 is.absent
        (ap (λ (v : State). named_at n (v.actors i).held) (sym (run-snoc setup turns i))
        ∙ is.holds.1)

    one : (m : Making) → making_of (w.actors i).todo ≡ Some m → m.fresh ≡ n → Made
    one m q fresh = (
      m,
      ap (made_by setup w i) q
          ∙ ap (λ b. if_new b m) (ap (is_new setup w i) fresh ∙ new),
      fresh,
    )

    by : (o : Op) → makes n o ≡ true → (w.actors i).todo ≡ o ∷ is.others → Made
    by (op.Alloc name bytes) makes todo = one (record { fresh = name; source = None })
        (ap making_of todo) (sym (eqb-true n name makes))
    by (op.Realloc old name bytes) makes todo = one (record { fresh = name; source = Some old })
        (ap making_of todo) (sym (eqb-true n name makes))
    by (op.Free name) makes todo = absurd cc
    by (op.Give name to) makes todo = absurd cc
    by (op.Take name tries) makes todo = absurd cc
    by op.Info makes todo = absurd cc
    by op.Idle makes todo = absurd cc

-- a block that lies over these units is one of its name
pub over-named : (setup : Setup) (w : State) (n : ℕ) (q : Extent) → LiesOver setup n q w
    → 0 < blocks_named setup n w
over-named setup w n q lies = omega (
  arith,
  lies,
  everywhere-less (λ x. sum_over (λ b. one_if (is_over n q x.base b)) x.blocks)
      (of_content (only n))
      (λ x. sum-less (λ b. one_if (is_over n q x.base b)) (of_block (only n) x.number) x.blocks
      (λ j d within. small x.base (get_or x.blocks j d))) setup w,
) where
  small : (base : ℕ) (b : BlockAt) → one_if (is_over n q base b) ≤ one_if (b.name == n)
  small base b = by (512 * base + b.offset) where
    by : (at : ℕ) → one_if ((b.name == n) && ((at == q.first) && (b.size == q.units)))
        ≤ one_if (b.name == n)
    by at = grind arith

module _ (setup : Setup) (laws : Protocol setup) where
  -- a block that lies over these units is one of its name
  named-over : (turns : List ℕ) (i n : ℕ) (q : Extent)
      → LiesOver setup n q (run setup (turns ++ i ∷ []))
      → 0 < blocks_named setup n (run setup (turns ++ i ∷ []))
  named-over turns i n q lies = over-named setup (run setup (turns ++ i ∷ [])) n q lies

  -- a block was there with the same units, or its name is the one that was made
  pub had-or-made : (turns : List ℕ) (i : ℕ) (n : ℕ) (q : Extent)
      → LiesOver setup n q (run setup (turns ++ i ∷ []))
      → LiesOver setup n q (run setup turns)
      ⊎ ((m : Making) × (made setup (run setup turns) i ≡ Some m) × (m.fresh ≡ n))
  had-or-made turns i n q lies =
      elim (cases_lt 0 (to_make setup n (run setup turns))) [
        | inl some ↦ inr (made-is setup turns i n
            (laws.makes n turns i some (named-over turns i n q lies)))
        | inr none ↦ inl (laws.had n q turns (i ∷ []) (omega (arith, none)) lies)
      ]

  -- the units of what was made are those of its block
  units-are : (turns : List ℕ) (i : ℕ) (o : Option Making) (r from : Option Extent)
      → MadeAt setup (run setup turns) (run setup (turns ++ i ∷ [])) o r from
      → units_of r ≡ units_made setup (step setup (run setup turns) i) o
  units-are turns i None None from at = refl
  units-are turns i None (Some r) from at = absurd at
  units-are turns i (Some m) None from at = absurd at
  units-are turns i (Some m) (Some r) from at =
      sym ((laws.apart (turns ++ i ∷ [])).sized m.fresh r at.0)
      ∙ ap (units_named setup m.fresh) (run-snoc setup turns i)

  pub keeps-agreement : KeepsAgreement setup
  keeps-agreement = record {
    steps = λ turns i memory lists r from whole at agree.
        subst (λ n. Agree setup (run setup (turns ++ i ∷ [])) (memory_made memory r from)
        (lists_made lists n (made setup (run setup turns) i)))
        (units-are turns i (made setup (run setup turns) i) r from at)
        (made-agrees setup (run setup turns) (run setup (turns ++ i ∷ [])) memory lists whole
        (laws.apart (turns ++ i ∷ [])) agree (made setup (run setup turns) i) r from at
        (had-or-made turns i));
    writes = λ turns memory lists name index value r there within agree.
        write-agrees setup (run setup turns) memory lists (laws.apart turns) agree name index value
        r there within;
  }

pub always-agrees : AlwaysKeepsAgreement
always-agrees c t valid made = keeps-agreement (setup_of c t) (protocol c t valid made)
