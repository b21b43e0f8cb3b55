-- What a step changes of the carriers that are there, as they are counted: none comes, or the one
-- that its scheduler made.
use Rattle.std.proofs.Common.{◌≡◌, ◌≢◌, ◌⊎◌, ℕ, ◌+◌, ◌<◌, ◌≤◌, List, Bool, true, false, refl, sym}
use Rattle.std.proofs.Common.{ap, ◌∙◌, subst, inl, inr, arith}
use Rattle.std.specs.Prelude.{IsSome, None, Option, Some, ◌==◌, ◌&&◌, not}
use Rattle.std.proofs.lemmas.Bool.{cases_eq, true≢false}
use Rattle.std.proofs.lemmas.List.Elements.{All-weaker}
use Rattle.ea_model.specs.declared.carriers.CarrierPlan.{CarrierPlan}
use Rattle.ea_model.specs.declared.carriers.OwnCarrier.{OwnCarrier}
use Rattle.ea_model.specs.declared.carriers.Place.{Place}
use Rattle.ea_model.specs.Content.{Content, is_vacant}
use Rattle.ea_model.specs.Entries.{Entry}
use Rattle.ea_model.specs.Instance.{Instance, own_at, owner_of, planned_own}
use Rattle.ea_laws.specs.Kept.{own_number}
use Rattle.ea_machine.specs.declared.asks.Ask.{Ask}
use Rattle.ea_machine.specs.declared.nodes.Named.{Named}
use Rattle.ea_machine.specs.declared.stages.Route.TheVariants.{Looking, Trying, Settling}
use Rattle.ea_machine.specs.declared.stages.Route.TheVariants.{Abandoning, Sending, Clearing}
use Rattle.ea_machine.specs.declared.stages.Route.TheVariants.{Pushing, Linking}
use Rattle.ea_machine.specs.declared.stages.Stage.{Stage}
use Rattle.ea_machine.specs.declared.stages.Stage.TheVariants.{Begin, Routed, Collecting, Searching}
use Rattle.ea_machine.specs.declared.stages.Stage.TheVariants.{Fetching, Creating, Giving, Taking}
use Rattle.ea_machine.specs.declared.stages.Stage.TheVariants.{Ended, Ready}
use Rattle.ea_machine.specs.Actor.{Actor}
use Rattle.ea_machine.specs.Machine.{step, wants, wants_at}
use Rattle.ea_machine.specs.Nodes.{named_at}
use Rattle.ea_machine.specs.Rows.{Create}
use Rattle.ea_machine.specs.Setup.{Setup, is_scheduler, migration}
use Rattle.ea_machine.specs.Shared.{Shared}
use Rattle.ea_machine.specs.State.{State}
use Rattle.ea_machine.specs.Sums.{one_if}
use Rattle.ea_machine.specs.Table.{effect}
use Rattle.ea_sound.specs.Blocks.{employed_sum}
use Rattle.ea_sound.specs.Contents.{actor_sum, hand_sum, seats, sum_everywhere}
use Rattle.ea_sound.specs.Here.{Here}
use Rattle.ea_sound.specs.Leaves.{InWalk}
use Rattle.ea_sound.specs.Moments.{at, with_actor}
use Rattle.ea_sound.specs.Places.{MayStay, has_number}
use Rattle.ea_sound.specs.Present.{Fits as FitsStage, Rule}
use Rattle.ea_sound.specs.Rule.{Standing}
use Rattle.ea_sound.specs.Turns.{advanced, answered}
use Rattle.ea_sound.proofs.ActorWeights.{everywhere-less}
use Rattle.ea_sound.proofs.Created.{created-owner}
use Rattle.ea_sound.proofs.Creations.{plan-birth}
use Rattle.ea_sound.proofs.Global.{IsOf, sum-here}
use Rattle.ea_sound.proofs.KeyedWeights.{counts, counts-key, counts-other, sum-missing}
use Rattle.ea_sound.proofs.Numbered.{scheduler-seat}
use Rattle.ea_sound.proofs.OffStages.{IsOffStage, is-off}
use Rattle.ea_sound.proofs.OffWalks.{walk-own}
use Rattle.ea_sound.proofs.Operating.{begun-kept}
use Rattle.ea_sound.proofs.Plans.{planned-unused}
use Rattle.ea_sound.proofs.PresentStep.{step-rule}
use Rattle.ea_sound.proofs.RowLeaves.{row-left}
use Rattle.ea_sound.proofs.Totals.{put-here, total-put}
use Rattle.ea_sound.proofs.TurnLists.{step-is, step-mine}
use Rattle.ea_sound.proofs.Weights.{sum-less}
use Rattle.ea_steps.proofs.CarrierSums.{birth_weight, numbers-own, of_birth, of_units, staying}
use Rattle.ea_steps.proofs.CarrierSums.{staying_weight, sum-step, units_weight}
use Rattle.ea_steps.proofs.CarrierWeights.{Weight, own_times}
use Rattle.ea_steps.proofs.GoneCarriers.{Cleared, Cut, Going, going-may, work-does, worked}
use Rattle.ea_steps.proofs.KeptCarriers.{Comes, Fits, Keeps, hand_of, keeps-less, keeps-on, nothing}
use Rattle.ea_steps.proofs.MadeCarriers.{Any, Grows, Never, OldGone, TellsPlace}
use Rattle.ea_steps.proofs.StepCarriers.{Does, Unmade, Begun, Created, left_at}

-- where carriers don't migrate, an own carrier isn't one that is to go
module _ (e : Setup) (z : State) (rule : Rule e z) (me : ℕ) (is : is_scheduler e me ≡ true)
    (off : migration e ≡ false) (c : ℕ) (owned : owner_of c ≡ me) where
  number-only : IsOf c (has_number c)
  number-only x other = by x.number other where
    by : (m : ℕ) → m ≢ c → one_if (m == c) ≡ 0
    by m other = grind (arith, other)

  staying-only : IsOf c (staying c)
  staying-only x other = by x.number (not (is_vacant x)) other where
    by : (m : ℕ) (t : Bool) → m ≢ c → one_if ((m == c) && t) ≡ 0
    by m t other = grind (arith, other)

  stays-as : (x : Content) → MayStay me x → has_number c x ≤ staying c x
  stays-as x may = by x.number (is_vacant x) may.0 where
    by : (m : ℕ) (t : Bool) → t ≡ false → one_if (m == c) ≤ one_if ((m == c) && not t)
    by m true q = absurd cc
    by m false q = same (m == c) where
      same : (t : Bool) → one_if t ≤ one_if (t && true)
      same true = omega arith
      same false = omega arith

  no-hand : (f : Content → ℕ) (st : Stage Content) → IsOffStage st → hand_sum f f st ≡ 0
  no-hand f Begin h = refl
  no-hand f (Routed (Pushing node to) why gone) h = refl
  no-hand f (Routed (Linking node to) why gone) h = refl
  no-hand f (Routed (Looking hand) why gone) h = absurd h
  no-hand f (Routed (Trying hand seen) why gone) h = absurd h
  no-hand f (Routed (Settling x) why gone) h = absurd h
  no-hand f (Routed (Abandoning x) why gone) h = absurd h
  no-hand f (Routed (Sending x) why gone) h = absurd h
  no-hand f (Routed (Clearing x) why gone) h = absurd h
  no-hand f (Collecting n) h = absurd h
  no-hand f (Searching ask n part) h = absurd h
  no-hand f (Fetching ask n part seen) h = absurd h
  no-hand f (Creating ask p) h = absurd h
  no-hand f (Giving given to) h = refl
  no-hand f (Taking n tries left) h = refl
  no-hand f Ended h = refl
  no-hand f Ready h = absurd h

  pub own-stays_there : own_times c (z.actors me).instance ≤ sum_everywhere e (staying c) z
  own-stays_there =
      let b = z.actors me in
      let here : Here e z.shared me c = inr (off, owned) in
      omega (
        arith,
        numbers-own e z rule.kept c,
        ap (λ i. own_times c (z.actors i).instance) owned,
        sum-here e z rule.kept (has_number c) c number-only me here,
        sum-here e z rule.kept (staying c) c staying-only me here,
        sum-less (has_number c) (staying c) b.instance.contents
            (All-weaker (MayStay me) (λ x. has_number c x ≤ staying c x) stays-as
            b.instance.contents (rule.present.contents me)),
        sum-less (has_number c) (staying c) b.instance.singles
            (All-weaker (MayStay me) (λ x. has_number c x ≤ staying c x) stays-as
            b.instance.singles (rule.present.singles me)),
        no-hand (has_number c) b.stage (is-off e z rule me is off),
      )

-- the identity of a new carrier, as it was planned
new-birth : (x : Content) (p : CarrierPlan) (n b : ℕ) → x.number ≡ p.number → x.birth ≡ p.birth
    → of_birth n b x ≡ one_if ((p.number == n) && (p.birth == b))
new-birth x p n b number birth =
    ap (λ m. one_if ((m == n) && (x.birth == b))) number
    ∙ ap (λ d. one_if ((p.number == n) && (d == b))) birth

new-units : (n b u : ℕ) (x : Content) → of_units n b u x ≤ of_birth n b x
new-units n b u x = by ((x.number == n) && (x.birth == b)) (x.units == u) where
  by : (s t : Bool) → one_if (s && t) ≤ one_if s
  by true true = omega arith
  by true false = omega arith
  by false true = omega arith
  by false false = omega arith

-- a vacant carrier doesn't stay
new-vacant : (n : ℕ) (x : Content) → is_vacant x ≡ true → staying n x ≡ 0
new-vacant n x vacant = by (x.number == n) (is_vacant x) vacant where
  by : (s t : Bool) → t ≡ true → one_if (s && not t) ≡ 0
  by true true q = refl
  by false true q = refl
  by s false q = absurd cc

staying-number : (n : ℕ) (x : Content) → staying n x ≤ has_number n x
staying-number n x = by (x.number == n) (not (is_vacant x)) where
  by : (s t : Bool) → one_if (s && t) ≤ one_if s
  by true true = omega arith
  by true false = omega arith
  by false true = omega arith
  by false false = omega arith

some≢none : (o : Option OwnCarrier) → IsSome o → o ≡ None → ⊥
some≢none None some none = absurd cc
some≢none (Some o) some none = absurd cc

birth-number : (n b : ℕ) (x : Content) → of_birth n b x ≤ has_number n x
birth-number n b x = by (x.number == n) (x.birth == b) where
  by : (s t : Bool) → one_if (s && t) ≤ one_if s
  by true true = omega arith
  by true false = omega arith
  by false true = omega arith
  by false false = omega arith

itself-birth : (n b : ℕ) → one_if ((n == n) && (b == b)) ≡ 1
itself-birth n b = grind arith

same-birth : (n m b d : ℕ) → one_if ((n == m) && (b == d)) ≤ one_if (b == d)
same-birth n m b d = by (n == m) (b == d) where
  by : (s t : Bool) → one_if (s && t) ≤ one_if t
  by true true = omega arith
  by true false = omega arith
  by false true = omega arith
  by false false = omega arith

-- the weights of identities go by whatever is placed, and wherever
birth-fits : (Placed Shortened Gone : ℕ → Type 0) (n b : ℕ)
    → Fits Placed Shortened Gone (birth_weight n b)
birth-fits Placed Shortened Gone n b = record { places = λ c h. tt; shortens = λ c h. tt }

units-fits : (Placed Shortened Gone : ℕ → Type 0) (n b u : ℕ) → (Shortened n → ⊥)
    → Fits Placed Shortened Gone (units_weight n b u)
units-fits Placed Shortened Gone n b u never = record {
  places = λ c h. tt;
  shortens = λ c h q. never (subst Shortened q h);
}

module _ (e : Setup) (w : State) (rule : Rule e w) (me : ℕ) (is : is_scheduler e me ≡ true)
    (goes : (w.actors me).stage ≢ Ended) where
  abbrev pub a : Actor
  a = w.actors me

  abbrev pub v : State
  v = step e w me

  abbrev NotCleared : ℕ → Type 0
  NotCleared c = Cleared e w rule me is c → ⊥

  abbrev NotCut : ℕ → Type 0
  NotCut c = Cut e w rule me is c → ⊥

  -- no carrier was made
  pub record MakesNone : Type 0 where
    pub created : (v.actors me).instance.created ≡ a.instance.created
    pub owns : (c : ℕ) → NotCleared c
        → own_times c a.instance ≤ own_times c (v.actors me).instance
    pub births : (n b : ℕ)
        → sum_everywhere e (of_birth n b) v ≤ sum_everywhere e (of_birth n b) w
    pub units : (n b u : ℕ) → NotCut n
        → sum_everywhere e (of_units n b u) v ≤ sum_everywhere e (of_units n b u) w

  -- the one of this plan was
  pub record Makes (p : CarrierPlan) : Type 0 where
    pub created : (v.actors me).instance.created ≡ p.birth
    pub birth : p.birth ≡ a.instance.created + 1
    pub owner : owner_of p.number ≡ me
    pub owns : (c : ℕ) → NotCleared c
        → own_times c a.instance ≤ own_times c (v.actors me).instance
    pub unused : NotCleared p.number → own_times p.number a.instance ≡ 0
    pub used : 1 ≤ own_times p.number (v.actors me).instance
    pub births : (n b : ℕ) → sum_everywhere e (of_birth n b) v
        ≤ sum_everywhere e (of_birth n b) w + one_if ((p.number == n) && (p.birth == b))
    pub units : (n b u : ℕ) → NotCut n → sum_everywhere e (of_units n b u) v
        ≤ sum_everywhere e (of_units n b u) w + one_if ((p.number == n) && (p.birth == b))
    pub only : (b : ℕ) → sum_everywhere e (of_birth p.number b) v ≤ one_if (p.birth == b)
    pub told : (wants a ≡ Create p.number)
        ⊎ ((migration e ≡ false) × ((q : Place) × TellsPlace a.log (v.actors me) q
        × (q.carrier ≡ p.number)))

  abbrev s : Shared
  s = effect me (wants a) w.shared

  abbrev b : Actor
  b = worked e w rule me is

  seat : me < seats e
  seat = scheduler-seat e me is

  mine : v.actors me ≡ b
  mine = step-mine e w me goes

  is-now : v ≡ with_actor w s me b
  is-now =
      let t = step-is e w me goes in
      t.1 ∙ ap (with_actor w s me)
      (sym (put-here w.actors me t.0 me refl) ∙ sym (ap (λ (z : State). z.actors me) t.1) ∙ mine)

  -- what contents weigh, with what the work adds
  sum-now : (f : Content → ℕ) (more : ℕ)
      → actor_sum f f b ≤ employed_sum f a.instance + left_at a.stage (answered w me) f + more
      → sum_everywhere e f v ≤ sum_everywhere e f w + more
  sum-now f more less = omega (
    arith,
    ap (sum_everywhere e f) is-now,
    sum-step e w rule.kept f me a.next a.stage seat refl b more less,
  )

  abbrev C : ℕ → Type 0
  C = Cleared e w rule me is

  abbrev K : ℕ → Type 0
  K = Cut e w rule me is

  abbrev H : Named → Type 0
  H = Going e w rule me is

  none-made : Comes Any K C a.instance (left_at a.stage (answered w me)) b → MakesNone
  none-made stays = record {
    created = ap (λ (z : Actor). z.instance.created) mine ∙ stays.created;
    owns = λ c no. omega (
      arith,
      stays.owns c no,
      ap (λ (z : Actor). own_times c z.instance) mine,
    );
    births = λ n d. omega (
      arith,
      sum-now (of_birth n d) 0
          (omega (arith, stays.weighs (birth_weight n d) (birth-fits Any K C n d))),
    );
    units = λ n d u no. omega (
      arith,
      sum-now (of_units n d u) 0
          (omega (arith, stays.weighs (units_weight n d u) (units-fits Any K C n d u no))),
    );
  }

  -- one was made, by the instance that there was then
  module _ (i : Instance) (p : CarrierPlan) (log : List Entry) (grows : Grows e me H i log p b)
      (before : Keeps Any K C a.instance (left_at a.stage (answered w me)) i nothing)
      (stands : Standing e me i)
      (no_old : OldGone e me H p.number → ⊥) where
    grown-sum : (f : Weight) → Fits Any K C f
        → Fits (λ c. c ≡ grows.place.carrier) Never (OldGone e me H) f
        → sum_everywhere e f.of v ≤ sum_everywhere e f.of w + f.of grows.new
    grown-sum f first then = sum-now f.of (f.of grows.new) (omega (
      arith,
      before.weighs f first,
      grows.sums f.of,
      grows.keeps.weighs f then,
    ))

    none-before : own_times p.number i ≡ 0
    none-before = sum-missing own_number (counts own_number p.number) p.number i.own
        (counts-other own_number p.number) (planned-unused i grows.need p grows.planned)

    one-after : 1 ≤ own_times p.number (v.actors me).instance
    one-after = omega (
      arith,
      grows.owns p.number,
      counts-key own_number p.number (planned_own p) refl,
      grows.keeps.owns p.number no_old,
      ap (λ (z : Actor). own_times p.number z.instance) mine,
    )

    makes : ((d : ℕ) → sum_everywhere e (of_birth p.number d) v ≤ one_if (p.birth == d))
        → ((wants a ≡ Create p.number)
        ⊎ ((migration e ≡ false) × ((q : Place) × TellsPlace a.log (v.actors me) q
        × (q.carrier ≡ p.number)))) → Makes p
    makes only told = record {
      created = ap (λ (z : Actor). z.instance.created) mine ∙ grows.keeps.created ∙ grows.counted;
      birth = plan-birth i grows.need p grows.planned ∙ ap (λ n. n + 1) before.created;
      owner = created-owner e me i stands grows.need p grows.planned;
      owns = by;
      unused = λ no. omega (arith, before.owns p.number no, none-before);
      used = one-after;
      births = λ n d. omega (
        arith,
        grown-sum (birth_weight n d) (birth-fits Any K C n d)
            (birth-fits (λ c. c ≡ grows.place.carrier) Never (OldGone e me H) n d),
        new-birth grows.new p n d grows.number grows.birth,
      );
      units = λ n d u no. omega (
        arith,
        grown-sum (units_weight n d u) (units-fits Any K C n d u no)
            (units-fits (λ c. c ≡ grows.place.carrier) Never (OldGone e me H) n d u
            (λ never. never)),
        new-units n d u grows.new,
        new-birth grows.new p n d grows.number grows.birth,
      );
      only = only;
      told = told;
    } where
      -- what goes with the old block may go
      by : (c : ℕ) → NotCleared c → own_times c a.instance ≤ own_times c (v.actors me).instance
      by c never = omega (
        arith,
        before.owns c never,
        grows.owns c,
        grows.keeps.owns c (λ (h, going, off, own, same). never (subst C same (going.2 off))),
        ap (λ (z : Actor). own_times c z.instance) mine,
      )

  -- where carriers don't migrate: by the operation that began in the step
  module _ (off : migration e ≡ false) (ready : (advanced e w me).stage ≡ Ready)
      (held : (advanced e w me).held ≡ a.held) (p : CarrierPlan)
      (before : Comes Any K C a.instance (left_at a.stage (answered w me)) (advanced e w me))
      (grows : Grows e me H (advanced e w me).instance a.log p b) where
    abbrev mid : Actor
    mid = advanced e w me

    abbrev u : State
    u = with_actor w s me (at Begin mid)

    walks : InWalk e w s me (at Begin mid)
    walks = begun-kept e w s me is a (answered w me) a.stage
        (row-left e w me is rule a.stage goes refl) ready

    there : u.actors me ≡ at Begin mid
    there = put-here w.actors me (at Begin mid) me refl

    begun-stands : Standing e me mid.instance
    begun-stands = subst (λ (z : Actor). Standing e me z.instance) there
        (walks.kept.ranges.instances me is)

    empty-hand : Keeps Any K C mid.instance (hand_of mid) mid.instance nothing
    empty-hand = keeps-less Any K C mid.instance (hand_of mid) nothing (λ f. omega arith)

    started : Keeps Any K C a.instance (left_at a.stage (answered w me)) mid.instance nothing
    started = keeps-on Any K C a.instance mid.instance mid.instance
        (left_at a.stage (answered w me)) (hand_of mid) nothing before empty-hand

    -- the old block's carrier isn't one that can be made
    other-old : OldGone e me H p.number → ⊥
    other-old (h, going, _, own, same) =
        let some = walk-own e w s me is off mid walks going.0 h
        (ap (named_at going.0) held ∙ going.1) own in
        let none = planned-unused mid.instance grows.need p grows.planned in
        absurd (some≢none (own_at mid.instance.own p.number)
        (subst (λ c. IsSome (own_at mid.instance.own c)) same some) none)

    -- contents weigh no more than before the operation, with the new one
    sum-mid : (f : Weight) → Fits (λ c. c ≡ grows.place.carrier) Never (OldGone e me H) f
        → sum_everywhere e f.of v ≤ sum_everywhere e f.of u + f.of grows.new
    sum-mid f fit = omega (
      arith,
      ap (sum_everywhere e f.of) is-now,
      total-put (actor_sum f.of f.of) w.actors me b (seats e) seat,
      total-put (actor_sum f.of f.of) w.actors me (at Begin mid) (seats e) seat,
      grows.sums f.of,
      grows.keeps.weighs f fit,
    )

    owner-now : owner_of p.number ≡ me
    owner-now = created-owner e me mid.instance begun-stands grows.need p grows.planned

    none-mid : sum_everywhere e (has_number p.number) u ≡ 0
    none-mid = omega (
      arith,
      numbers-own e u walks.kept p.number,
      ap (λ i. own_times p.number (u.actors i).instance) owner-now,
      ap (λ (z : Actor). own_times p.number z.instance) there,
      none-before mid.instance p a.log grows started begun-stands other-old,
    )

    begun-only : (d : ℕ) → sum_everywhere e (of_birth p.number d) v ≤ one_if (p.birth == d)
    begun-only d = omega (
      arith,
      sum-mid (birth_weight p.number d)
          (birth-fits (λ c. c ≡ grows.place.carrier) Never (OldGone e me H) p.number d),
      everywhere-less (of_birth p.number d) (has_number p.number) (birth-number p.number d) e u,
      none-mid,
      new-birth grows.new p p.number d grows.number grows.birth,
      same-birth p.number p.number p.birth d,
    )

    -- the block was placed in it, or it would be vacant
    within-it : grows.place.carrier ≡ p.number
    within-it = elim grows.within [
      | inl same ↦ same
      | inr vacant ↦ elim (cases_eq grows.place.carrier p.number) [
        | inl same ↦ same
        | inr other ↦ absurd (omega (
          arith,
          one-after mid.instance p a.log grows started begun-stands other-old,
          own-stays_there e v (step-rule e w me rule) me is off p.number owner-now,
          sum-mid (staying_weight p.number) (record {
            places = λ c q same. other (sym q ∙ same);
            shortens = λ c q. tt;
          }),
          everywhere-less (staying p.number) (has_number p.number) (staying-number p.number) e u,
          none-mid,
          new-vacant p.number grows.new vacant,
        ))
      ]
    ]

    begun-makes : Makes p
    begun-makes = makes mid.instance p a.log grows started begun-stands other-old begun-only
        (inr (
          off,
          (
            grows.place,
            subst (λ (z : Actor). TellsPlace a.log z grows.place) (sym mine) grows.told,
            within-it,
          ),
        ))

  -- by its own row
  module _ (ask : Ask) (p : CarrierPlan) (now : a.stage ≡ Creating ask p)
      (grows : Grows e me H a.instance a.log p b) where
    on : migration e ≡ true
    on = (subst (FitsStage e w me a) now (rule.present.fits me)).2

    stands-now : Standing e me a.instance
    stands-now = rule.kept.ranges.instances me is

    no-old : OldGone e me H p.number → ⊥
    no-old (h, going, off, own, same) = true≢false (sym on ∙ off)

    empty-left : Keeps Any K C a.instance (left_at a.stage (answered w me)) a.instance nothing
    empty-left = keeps-less Any K C a.instance (left_at a.stage (answered w me)) nothing
        (λ f. omega arith)

    none-now : sum_everywhere e (has_number p.number) w ≡ 0
    none-now = omega (
      arith,
      numbers-own e w rule.kept p.number,
      ap (λ i. own_times p.number (w.actors i).instance)
          (created-owner e me a.instance stands-now grows.need p grows.planned),
      none-before a.instance p a.log grows empty-left stands-now no-old,
    )

    row-only : (d : ℕ) → sum_everywhere e (of_birth p.number d) v ≤ one_if (p.birth == d)
    row-only d = omega (
      arith,
      grown-sum a.instance p a.log grows empty-left stands-now no-old
          (birth_weight p.number d) (birth-fits Any K C p.number d)
          (birth-fits (λ c. c ≡ grows.place.carrier) Never (OldGone e me H) p.number d),
      everywhere-less (of_birth p.number d) (has_number p.number) (birth-number p.number d) e w,
      none-now,
      new-birth grows.new p p.number d grows.number grows.birth,
      same-birth p.number p.number p.birth d,
    )

    row-makes : Makes p
    row-makes = makes a.instance p a.log grows empty-left stands-now no-old row-only
        (inl (ap (wants_at a.next) now))

  -- so a step makes no carrier, or one
  pub changes : MakesNone ⊎ ((p : CarrierPlan) × Makes p)
  changes = by (work-does e w rule me is goes) where
    by : Does e me H K C (going-may e w rule me is) a (answered w me) a.stage b
        → MakesNone ⊎ ((p : CarrierPlan) × Makes p)
    by (Unmade stays) = inl (none-made stays)
    by (Begun off ready held before p grows) =
        inr (p, begun-makes off ready held p before grows)
    by (Created ask p now grows) = inr (p, row-makes ask p now grows)
