-- The carriers that are there before a step and after it, number by number.
use Rattle.std.proofs.Common.{◌≡◌, ◌≢◌, ◌⊎◌, ℕ, ◌+◌, ◌≤◌, List, [], ◌∷◌, ◌++◌, true, false}
use Rattle.std.proofs.Common.{map, refl, sym, ap, ◌∙◌, subst, inl, inr, arith}
use Rattle.std.specs.Prelude.{Option, None, Some, drop, flat_map, is_some, length, not, ◌==◌, ◌&&◌}
use Rattle.std.proofs.Math.Seq.{drop-append_seam, drop-length}
use Rattle.std.proofs.lemmas.Bool.{cases_eq}
use Rattle.ea_model.specs.declared.carriers.CarrierPlan.{CarrierPlan}
use Rattle.ea_model.specs.declared.carriers.Place.{Place}
use Rattle.ea_model.specs.Content.{Content}
use Rattle.ea_model.specs.Entries.{Entry}
use Rattle.ea_model.specs.Instance.{content_of, owner_of}
use Rattle.ea_machine.specs.declared.nodes.Node.{Node}
use Rattle.ea_machine.specs.declared.stages.Route.TheVariants.{Looking, Trying, Settling}
use Rattle.ea_machine.specs.declared.stages.Route.TheVariants.{Abandoning, Sending, Clearing}
use Rattle.ea_machine.specs.declared.stages.Route.TheVariants.{Pushing, Linking}
use Rattle.ea_machine.specs.declared.stages.Stage.{Stage}
use Rattle.ea_machine.specs.declared.stages.Stage.TheVariants.{Begin, Routed, Collecting, Searching}
use Rattle.ea_machine.specs.declared.stages.Stage.TheVariants.{Fetching, Creating, Giving, Taking}
use Rattle.ea_machine.specs.declared.stages.Stage.TheVariants.{Ended, Ready}
use Rattle.ea_machine.specs.Actor.{Actor}
use Rattle.ea_machine.specs.Machine.{begins, step, wants_at}
use Rattle.ea_machine.specs.Setup.{Setup, is_scheduler}
use Rattle.ea_machine.specs.State.{State}
use Rattle.ea_machine.specs.Sums.{one_if}
use Rattle.ea_sound.specs.Contents.{sum_everywhere}
use Rattle.ea_sound.specs.Present.{Rule}
use Rattle.ea_sound.specs.Rule.{Kept}
use Rattle.ea_sound.proofs.Global.{working-scheduler}
use Rattle.ea_sound.proofs.OffStages.{IsOffStage, is-off}
use Rattle.ea_sound.proofs.PresentStep.{step-rule}
use Rattle.ea_sound.proofs.TurnLists.{step-other}
use Rattle.ea_steps.specs.Changes.{contents}
use Rattle.ea_steps.specs.FoundCarriers.{created_after, created_before, first_number, made_if}
use Rattle.ea_steps.specs.FoundCarriers.{made_number, makes}
use Rattle.ea_steps.specs.Steps.{Step, step_of}
use Rattle.ea_steps.specs.Touched.{created_by, may_come, moved_at, placed, placed_by}
use Rattle.ea_steps.proofs.CarrierSums.{of_birth}
use Rattle.ea_steps.proofs.CarrierWeights.{own_times}
use Rattle.ea_steps.proofs.ChangedCarriers.{Makes, MakesNone, changes}
use Rattle.ea_steps.proofs.GoneCarriers.{Cleared, Cut}
use Rattle.ea_steps.proofs.KnownBirths.{KnowsBirths, not-number, not-same}
use Rattle.ea_steps.proofs.ShownCarriers.{birth-shown, owned-shown, shown-birth, shown-owned}
use Rattle.ea_steps.proofs.ShownCarriers.{shown-units, units-shown}

same-found : (o : Option Content) (x y : Content) → o ≡ Some x → o ≡ Some y → x ≡ y
same-found o x y p q = let both : Some x ≡ Some y = sym p ∙ q in cc

-- where carriers don't migrate no row creates one
begin-none : (o : Option Node) → created_by (begins o) ≡ []
begin-none None = refl
begin-none (Some node) = refl

row-none : (next : Option Node) (st : Stage Content) → IsOffStage st
    → created_by (wants_at next st) ≡ []
row-none next Begin h = begin-none next
row-none next (Routed (Pushing node to) why gone) h = refl
row-none next (Routed (Linking node to) why gone) h = refl
row-none next (Routed (Looking hand) why gone) h = absurd h
row-none next (Routed (Trying hand seen) why gone) h = absurd h
row-none next (Routed (Settling x) why gone) h = absurd h
row-none next (Routed (Abandoning x) why gone) h = absurd h
row-none next (Routed (Sending x) why gone) h = absurd h
row-none next (Routed (Clearing x) why gone) h = absurd h
row-none next (Collecting n) h = absurd h
row-none next (Searching ask n part) h = absurd h
row-none next (Fetching ask n part seen) h = absurd h
row-none next (Creating ask p) h = absurd h
row-none next (Giving given to) h = refl
row-none next (Taking n tries left) h = refl
row-none next Ended h = refl
row-none next Ready h = absurd h

module _ (e : Setup) (w : State) (rule : Rule e w) (knows : KnowsBirths e w) (me count own : ℕ)
    (goes : (w.actors me).stage ≢ Ended) where
  abbrev pub s : Step
  s = step_of e w count own me

  abbrev pub is : is_scheduler e me ≡ true
  is = working-scheduler e w rule.kept me goes

  abbrev pub k : Kept e w
  k = rule.kept

  abbrev pub kv : Kept e (step e w me)
  kv = (step-rule e w me rule).kept

  abbrev pub before : ℕ → Option Content
  before n = content_of (contents e w) n

  abbrev pub after : ℕ → Option Content
  after n = content_of (contents e (step e w me)) n

  abbrev pub MayGo : ℕ → Type 0
  MayGo n = Cleared e w rule me is n

  abbrev pub MayShrink : ℕ → Type 0
  MayShrink n = Cut e w rule me is n

  -- m is the number of the carrier that was made, if one was
  pub record Steps (m : Option ℕ) : Type 0 where
    pub number : made_number s ≡ m
    pub counted : makes s ≡ is_some m
    -- every other one was there
    pub kept : (n : ℕ) (y : Content) → m ≢ Some n → after n ≡ Some y
        → (x : Content) × (before n ≡ Some x) × (x.birth ≡ y.birth)
    -- it is there, and wasn't
    pub new : (n : ℕ) → m ≡ Some n → (y : Content) × (after n ≡ Some y)
        × ((x : Content) → before n ≡ Some x → x.birth ≢ y.birth)
    -- one that may not go stays
    pub stays : (n : ℕ) (x : Content) → (MayGo n → ⊥) → before n ≡ Some x
        → (m ≢ Some n) × ((y : Content) × (after n ≡ Some y))
    -- and keeps its units if it may not shrink
    pub sizes : (n : ℕ) (x y : Content) → (MayShrink n → ⊥) → before n ≡ Some x
        → after n ≡ Some y → x.birth ≡ y.birth → x.units ≡ y.units

  -- what another scheduler owns
  other-owned : (n : ℕ) (x : Content) → owner_of n ≢ me → before n ≡ Some x
      → (y : Content) × (after n ≡ Some y)
  other-owned n x other there = owned-shown e (step e w me) kv n (omega (
    arith,
    shown-owned e w k n x there,
    ap (λ (b : Actor). own_times n b.instance) (step-other e w me (owner_of n) other),
  ))

  own-owned : (n : ℕ) (x : Content) → owner_of n ≡ me → before n ≡ Some x
      → 1 ≤ own_times n (w.actors me).instance
  own-owned n x mine there = omega (
    arith,
    shown-owned e w k n x there,
    ap (λ i. own_times n (w.actors i).instance) mine,
  )

  mine-owned : (n : ℕ) → owner_of n ≡ me → 1 ≤ own_times n ((step e w me).actors me).instance
      → (y : Content) × (after n ≡ Some y)
  mine-owned n mine some = owned-shown e (step e w me) kv n (omega (
    arith,
    some,
    ap (λ i. own_times n ((step e w me).actors i).instance) mine,
  ))

  unmade : (a b : ℕ) → a ≡ b → not (a == b) ≡ false
  unmade a b same = grind (arith, same)

  made-more : (a b : ℕ) → a ≡ b + 1 → not (a == b) ≡ true
  made-more a b more = grind (arith, more)

  -- no carrier was made
  module _ (none : MakesNone e w rule me is goes) where
    none-stays : (n : ℕ) (x : Content) → (MayGo n → ⊥) → before n ≡ Some x
        → (None ≢ Some n) × ((y : Content) × (after n ≡ Some y))
    none-stays n x stay there = (
      (λ q. absurd cc),
      elim (cases_eq (owner_of n) me) [
        | inl mine ↦ mine-owned n mine
            (omega (arith, own-owned n x mine there, none.owns n stay))
        | inr other ↦ other-owned n x other there
      ],
    )

    none-sizes : (n : ℕ) (x y : Content) → (MayShrink n → ⊥) → before n ≡ Some x
        → after n ≡ Some y → x.birth ≡ y.birth → x.units ≡ y.units
    none-sizes n x y stay was now birth =
        let (z, there, units) = shown-units e w k n y.birth y.units (omega (
          arith,
          units-shown e (step e w me) kv n y now,
          none.units n y.birth y.units stay,
        )) in
        ap (λ (c : Content). c.units) (same-found (before n) x z was there) ∙ units

    none-steps : Steps None
    none-steps = record {
      number = ap (λ b. made_if b s)
          (unmade (created_after s) (created_before s) none.created);
      counted = unmade (created_after s) (created_before s) none.created;
      kept = λ n y other now. shown-birth e w k n y.birth (omega (
        arith,
        birth-shown e (step e w me) kv n y now,
        none.births n y.birth,
      ));
      new = λ n q. absurd (let never : None ≡ Some n = q in cc);
      stays = none-stays;
      sizes = none-sizes;
    }

  -- one was
  module _ (p : CarrierPlan) (made : Makes e w rule me is goes p) where
    entries-told : (log after : List Entry) (moved : List Place) (q : Place)
        → (((x : Entry) × (after ≡ log ++ x ∷ []) × (placed_by x ≡ q ∷ []) × (moved ≡ []))
        ⊎ ((after ≡ log) × (moved ≡ q ∷ [])))
        → moved ++ flat_map placed_by (drop (length log) after) ≡ q ∷ []
    entries-told log after moved q (inl (x, same, placed, none)) =
        ap (λ ps. ps ++ flat_map placed_by (drop (length log) after)) none
        ∙ ap (λ l. flat_map placed_by (drop (length log) l)) same
        ∙ ap (flat_map placed_by) (drop-append_seam log (x ∷ []))
        ∙ ap (λ ps. ps ++ []) placed
    entries-told log after moved q (inr (same, one)) =
        ap (λ ps. ps ++ flat_map placed_by (drop (length log) after)) one
        ∙ ap (λ l. q ∷ flat_map placed_by (drop (length log) l)) same
        ∙ ap (λ l. q ∷ flat_map placed_by l) (drop-length log)

    first-made : first_number (may_come s) ≡ Some p.number
    first-made = elim made.told [
      | inl row ↦ ap (λ r. first_number (created_by r ++ map (λ (q : Place). q.carrier) (placed s)))
          row
      | inr (off, (q, told, number)) ↦
          ap (λ ns. first_number (ns ++ map (λ (q : Place). q.carrier) (placed s)))
          (row-none (w.actors me).next (w.actors me).stage (is-off e w rule me is off))
          ∙ ap (λ ps. first_number (map (λ (q : Place). q.carrier) ps))
          (entries-told (w.actors me).log ((step e w me).actors me).log
          (moved_at ((step e w me).actors me).stage) q told)
          ∙ ap Some number
    ]

    later : (n : ℕ) (x : Content) → n ≡ p.number → before n ≡ Some x → x.birth ≢ p.birth
    later n x same there birth = absurd (omega (
      arith,
      birth-shown e w k n x there,
      knows n x.birth (omega (
        arith,
        birth,
        made.birth,
        ap (λ i. (w.actors i).instance.created) (ap owner_of same ∙ made.owner),
      )),
    ))

    born : (n : ℕ) (y : Content) → n ≡ p.number → after n ≡ Some y → y.birth ≡ p.birth
    born n y same now = by p.birth y.birth (omega (
      arith,
      birth-shown e (step e w me) kv n y now,
      ap (λ m. sum_everywhere e (of_birth m y.birth) (step e w me)) same,
      made.only y.birth,
    )) where
      by : (b d : ℕ) → 1 ≤ one_if (b == d) → d ≡ b
      by b d one = grind (arith, one)

    other-number : (n : ℕ) → Some p.number ≢ Some n → p.number ≢ n
    other-number n other same = other (ap Some same)

    made-kept : (n : ℕ) (y : Content) → Some p.number ≢ Some n → after n ≡ Some y
        → (x : Content) × (before n ≡ Some x) × (x.birth ≡ y.birth)
    made-kept n y other now = shown-birth e w k n y.birth (omega (
      arith,
      birth-shown e (step e w me) kv n y now,
      made.births n y.birth,
      not-number p.number n p.birth y.birth (other-number n other),
    ))

    made-new : (n : ℕ) → Some p.number ≡ Some n → (y : Content) × (after n ≡ Some y)
        × ((x : Content) → before n ≡ Some x → x.birth ≢ y.birth)
    made-new n q =
        let same : n ≡ p.number = cc in
        let (y, now) = mine-owned n (ap owner_of same ∙ made.owner)
        (omega (
          arith,
          made.used,
          ap (λ m. own_times m ((step e w me).actors me).instance) same,
        )) in (
          y,
          now,
          λ x there birth. later n x same there (birth ∙ born n y same now),
        )

    made-stays : (n : ℕ) (x : Content) → (MayGo n → ⊥) → before n ≡ Some x
        → (Some p.number ≢ Some n) × ((y : Content) × (after n ≡ Some y))
    made-stays n x stay there = (
      (λ q.
          let same : p.number ≡ n = cc in
          absurd (omega (
            arith,
            own-owned n x (sym (ap owner_of same) ∙ made.owner) there,
            made.unused (subst (λ m. MayGo m → ⊥) (sym same) stay),
            ap (λ m. own_times m (w.actors me).instance) same,
          ))),
      elim (cases_eq (owner_of n) me) [
        | inl mine ↦ mine-owned n mine
            (omega (arith, own-owned n x mine there, made.owns n stay))
        | inr other ↦ other-owned n x other there
      ],
    )

    made-sizes : (n : ℕ) (x y : Content) → (MayShrink n → ⊥) → before n ≡ Some x
        → after n ≡ Some y → x.birth ≡ y.birth → x.units ≡ y.units
    made-sizes n x y stay was now birth =
        let apart : one_if ((p.number == n) && (p.birth == y.birth)) ≡ 0 =
        elim (cases_eq p.number n) [
          | inr other ↦ not-number p.number n p.birth y.birth other
          | inl same ↦ not-same p.number n p.birth y.birth
              (λ q. later n x (sym same) was (birth ∙ sym q))
        ] in
        let (z, there, units) = shown-units e w k n y.birth y.units (omega (
          arith,
          units-shown e (step e w me) kv n y now,
          made.units n y.birth y.units stay,
          apart,
        )) in
        ap (λ (c : Content). c.units) (same-found (before n) x z was there) ∙ units

    made-steps : Steps (Some p.number)
    made-steps = record {
      number = ap (λ b. made_if b s)
          (made-more (created_after s) (created_before s) (made.created ∙ made.birth))
          ∙ first-made;
      counted = made-more (created_after s) (created_before s) (made.created ∙ made.birth);
      kept = made-kept;
      new = made-new;
      stays = made-stays;
      sizes = made-sizes;
    }

  pub steps : (m : Option ℕ) × Steps m
  steps = elim (changes e w rule me is goes) [
    | inl none ↦ (None, none-steps none)
    | inr (p, made) ↦ (Some p.number, made-steps p made)
  ]
