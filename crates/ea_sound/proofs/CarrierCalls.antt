-- What the calls of a scheduler on carriers ask for, and what it has of a carrier that it gets, in
-- each reached state: carriers are of the schedulers; one that is settled is busy, one that is
-- abandoned, sent home or cleared is employed, one that is collected has returned; the block in the
-- hand is in a carrier that its scheduler employs, and in one that it makes busy; and a carrier
-- that it fetches fits into its instance.
use Rattle.std.proofs.Common.{◌≡◌, ◌≢◌, ℕ, ◌<◌, true, false, refl, sym, ap, ◌∙◌, subst, inl, inr}
use Rattle.std.proofs.Common.{arith}
use Rattle.std.specs.Prelude.{All, None, Some}
use Rattle.std.proofs.lemmas.Bool.{cases_eq, cases_lt}
use Rattle.ea_model.specs.declared.carriers.BlockAt.{BlockAt}
use Rattle.ea_model.specs.declared.carriers.CarrierPlan.{CarrierPlan}
use Rattle.ea_model.specs.declared.carriers.Kind.TheVariants.{Multi}
use Rattle.ea_model.specs.declared.settings.Config.{Config}
use Rattle.ea_model.specs.declared.trace.Trace.{Trace}
use Rattle.ea_model.specs.Content.{Content, block_at, gaps_of, largest}
use Rattle.ea_model.specs.Instance.{content_of, employed, own_at, own_of, owner_of}
use Rattle.ea_model.specs.Settings.{IsValidConfig}
use Rattle.ea_model.specs.Trace.{IsScheduler, IsValidTrace}
use Rattle.ea_model.proofs.Merged.{merged-All}
use Rattle.ea_model.proofs.Rising.{none-other}
use Rattle.ea_laws.specs.Kept.{ContentsApart, IsForeign, IsLaidOut, IsSomeones, number_of}
use Rattle.ea_machine.specs.declared.parts.Part.{Part}
use Rattle.ea_machine.specs.declared.asks.Ask.{Ask}
use Rattle.ea_machine.specs.declared.nodes.Named.{Named}
use Rattle.ea_machine.specs.declared.owners.OwnerWord.{OwnerWord}
use Rattle.ea_machine.specs.declared.owners.OwnerWord.TheVariants as word
use Rattle.ea_machine.specs.declared.tasks.Gone.{Gone}
use Rattle.ea_machine.specs.declared.tasks.Why.{Why}
use Rattle.ea_machine.specs.declared.stages.Stage.{Stage}
use Rattle.ea_machine.specs.declared.stages.Stage.TheVariants.{Collecting, Creating, Fetching}
use Rattle.ea_machine.specs.declared.stages.Stage.TheVariants.{Routed, Searching}
use Rattle.ea_machine.specs.declared.stages.Route.{Route}
use Rattle.ea_machine.specs.declared.stages.Route.TheVariants.{Clearing, Looking, Settling, Trying}
use Rattle.ea_machine.specs.Actor.{Actor}
use Rattle.ea_machine.specs.Machine.{IsReached}
use Rattle.ea_machine.specs.Owners.{CarrierAt, Absent, Busy, Employed, Pooled, Returning, word_of}
use Rattle.ea_machine.specs.Rows.{Answer, Won}
use Rattle.ea_machine.specs.Setup.{Setup, is_scheduler, setup_of}
use Rattle.ea_machine.specs.Shared.{Shared}
use Rattle.ea_machine.specs.State.{State}
use Rattle.ea_machine.specs.Sums.{one_if}
use Rattle.ea_machine.specs.Table.{tried_at}
use Rattle.ea_machine.specs.Words.{IsLargest}
use Rattle.ea_machine.specs.Machine.{wants_on}
use Rattle.ea_machine.specs.Releases.{turned}
use Rattle.ea_machine.specs.Table.{answer, effect}
use Rattle.ea_machine.specs.declared.tasks.Why.TheVariants.{Walk}
use Rattle.ea_sound.specs.Listed.{KeepsLists}
use Rattle.ea_sound.specs.Contents.{AtHome, Everywhere, InHand, hand_sum, home_sum, seats}
use Rattle.ea_sound.specs.Names.{of_hand, only_at}
use Rattle.ea_sound.specs.Places.{IsNumber, has_number, is_there, none}
use Rattle.ea_sound.specs.Ranges.{IsApartFrom, IsLaidOutAsKind}
use Rattle.ea_sound.specs.Present.{Fits, HasEmployer, HasOther, Rule, StillPooled}
use Rattle.ea_sound.specs.Rule.{Belongs, Kept, Standing, of_owner}
use Rattle.ea_sound.specs.Leaves.{InWalk}
use Rattle.ea_sound.specs.Steady.{AreSteady, IsShown, IsSteadyStage}
use Rattle.ea_sound.proofs.RuleRuns.{lists-run}
use Rattle.ea_sound.proofs.SoundLists.{looks-number}
use Rattle.ea_sound.proofs.Created.{scheduler-number}
use Rattle.ea_sound.proofs.Starting.{regions-apart}
use Rattle.ea_sound.proofs.Asked.{reached-rule}
use Rattle.ea_sound.proofs.BlockWeights.{only_at-itself}
use Rattle.ea_sound.proofs.CarrierRows.{create_absent}
use Rattle.ea_sound.proofs.Created.{created-owner}
use Rattle.ea_sound.proofs.Employers.{busy-place, there-on}
use Rattle.ea_sound.proofs.FetchedFits.{won-from}
use Rattle.ea_sound.proofs.Hits.{HasBlock, hit}
use Rattle.ea_sound.proofs.Homes.{pooled-belongs, pooled-hit, pooled-laid, pooled-number, sum-there}
use Rattle.ea_sound.proofs.NodeSeats.{collecting-home, returning-on}
use Rattle.ea_sound.proofs.Numbered.{scheduler-seat}
use Rattle.ea_sound.proofs.OwnEntries.{IsSomewhere, not_here-none, owner-has, owner-scheduler}
use Rattle.ea_sound.proofs.OwnEntries.{somewhere-hand, somewhere-home, somewhere-returning, this}
use Rattle.ea_sound.proofs.Assembly.{Closed, Holds, turned-holds}
use Rattle.ea_sound.proofs.CarrierMoves.{closed}
use Rattle.ea_sound.proofs.LargestGaps.{laid-largest}
use Rattle.ea_sound.proofs.RuleRuns.{steady-run}
use Rattle.ea_sound.proofs.StillMoves.{keeps-walk}
use Rattle.ea_sound.proofs.RowLeaves.{creating-bare, row-left}
use Rattle.ea_sound.proofs.SoundOwners.{content-number}
use Rattle.ea_sound.proofs.SoundRanges.{number-scheduler, sound-ranges}
use Rattle.ea_sound.proofs.Weights.{one-itself}

employer-there : (me : ℕ) (p : CarrierAt) → HasEmployer me p → p ≢ Absent
employer-there me Absent has q = has
employer-there me (Employed i) has q = cc
employer-there me (Pooled i g x) has q = cc
employer-there me (Busy i) has q = cc
employer-there me (Returning i x) has q = cc

other-there : (me : ℕ) (p : CarrierAt) → HasOther me p → p ≢ Absent
other-there me Absent has q = has
other-there me (Employed i) has q = cc
other-there me (Pooled i g x) has q = cc
other-there me (Busy i) has q = cc
other-there me (Returning i x) has q = cc

still-there : (me : ℕ) (seen : OwnerWord) (p : CarrierAt) → StillPooled me seen p → p ≢ Absent
still-there me seen p still q =
    let never : word.Absent ≡ word.Pooled me still.1.0 =
    ap word_of (sym q) ∙ still.0 ∙ still.1.1 in cc

there-is : (p : CarrierAt) → p ≢ Absent → is_there p ≡ true
there-is Absent there = absurd (there refl)
there-is (Employed i) there = refl
there-is (Pooled i g x) there = refl
there-is (Busy i) there = refl
there-is (Returning i x) there = refl

-- a block in the hand, in a carrier that its scheduler employs by the words, is a block of it
module _ (c : Config) (t : Trace) (valid : IsValidConfig c)
    (made : IsValidTrace c.schedulers t) (w : State) (reached : IsReached (setup_of c t) w) where
  abbrev e : Setup
  e = setup_of c t

  rule : Rule e w
  rule = reached-rule c t valid made w reached

  k : Kept e w
  k = rule.kept

  steady : AreSteady e w
  steady = subst (AreSteady e) (sym reached.1) (steady-run c t valid made reached.0)

  lists : KeepsLists e w
  lists = subst (KeepsLists e) (sym reached.1) (lists-run c t valid made reached.0)

  -- a carrier that is somewhere has a number
  pub there-number : (n : ℕ) → w.shared.places n ≢ Absent → IsNumber e n
  there-number n there = content-number e w k n (omega (
    arith,
    sum-there e w k n (there-on e w k n there),
    ap one_if (there-is (w.shared.places n) there),
  ))

  module _ (me : ℕ) (number : IsScheduler c.schedulers me) where
    abbrev a : Actor
    a = w.actors me

    is : is_scheduler e me ≡ true
    is = number-scheduler e me number

    seat : me < seats e
    seat = scheduler-seat e me is

    fits : (stage : Stage Content) → a.stage ≡ stage → Fits e w me a stage
    fits stage now = subst (Fits e w me a) now (rule.present.fits me)

    module _ (why : Why) (gone : Gone) where
      -- the carrier of the block in the hand
      module _ (hand : Named) where
        abbrev there : CarrierAt
        there = w.shared.places hand.spot.carrier

        pub look-number : a.stage ≡ Routed (Looking hand) why gone → IsNumber e hand.spot.carrier
        look-number now = there-number hand.spot.carrier
            (employer-there me there (fits (Routed (Looking hand) why gone) now).0.0)

        pub look-block : a.stage ≡ Routed (Looking hand) why gone → there ≡ Employed me
            → HasBlock a.instance hand.name hand.spot
        look-block now mine = hit e w me seat k a refl hand.name hand.spot
            (inl ((fits (Routed (Looking hand) why gone) now).0.1, mine))
            (omega (
              arith,
              ap (of_hand (only_at hand.name hand.spot)) now,
              only_at-itself hand.name hand.spot,
            ))
            (ap (hand_sum _ _) now)

        module _ (seen : OwnerWord) (now : a.stage ≡ Routed (Trying hand seen) why gone) where
          try-there : there ≢ Absent
          try-there = elim (fits (Routed (Trying hand seen) why gone) now).0 [
            | inl still ↦ still-there me seen there still
            | inr other ↦ other-there me there other
          ]

          pub try-number : IsNumber e hand.spot.carrier
          try-number = there-number hand.spot.carrier try-there

          -- the word that was seen can be coded
          pub try-seen : (g : ℕ) × (seen ≡ word.Pooled me g) × IsLargest g
          try-seen =
              let s = subst (IsSteadyStage e me a.instance.count a.instance.contents) now
              (steady me).route in
              let (g, q) = s.0 in
              (g, q, (subst (IsShown e) q s.1).1)

          -- what a try that is won brings
          pub won-block : (x : Content) → tried_at seen there ≡ Won x
              → (x.number ≡ hand.spot.carrier) × (x.kind ≡ Multi)
              × ((b : BlockAt) × (block_at x.blocks hand.spot.offset ≡ Some b)
              × (b.name ≡ hand.name))
          won-block x won =
              let (i, g, pooled, same) = won-from seen there x won in
              let facts = k.placed.pooled hand.spot.carrier i g x pooled in (
                facts.0,
                facts.1,
                pooled-hit e w k hand.spot.carrier i g x pooled me seat a refl hand refl (omega (
                  arith,
                  ap (of_hand (only_at hand.name hand.spot)) now,
                  only_at-itself hand.name hand.spot,
                )),
              )

      module _ (x : Content) where
        -- a carrier that is settled
        pub settle-many : a.stage ≡ Routed (Settling x) why gone → x.kind ≡ Multi
        settle-many now = (fits (Routed (Settling x) why gone) now).0.0

        pub settle-place : a.stage ≡ Routed (Settling x) why gone
            → w.shared.places x.number ≡ Busy me
        settle-place now = busy-place e w k me x.number (omega
            (arith, ap (hand_sum (has_number x.number) none) now, one-itself x.number))

        pub settle-number : a.stage ≡ Routed (Settling x) why gone → IsNumber e x.number
        settle-number now = there-number x.number
            (λ q. let never : Busy me ≡ Absent = sym (settle-place now) ∙ q in cc)

        pub settle-laid : a.stage ≡ Routed (Settling x) why gone → IsLaidOut x
        settle-laid now = let laid = k.ranges.hand_laid me in by a.stage now laid where
          by : (stage : Stage Content) → stage ≡ Routed (Settling x) why gone
              → InHand IsLaidOut IsLaidOutAsKind stage
              → IsLaidOut x
          by stage q laid = subst (InHand IsLaidOut IsLaidOutAsKind) q laid

        pub settle-largest : a.stage ≡ Routed (Settling x) why gone
            → IsLargest (largest (gaps_of x))
        settle-largest now = laid-largest x (settle-laid now)

        -- one that is cleared is owned
        pub clear-own : a.stage ≡ Routed (Clearing x) why gone
            → own_at a.instance.own x.number ≡ Some (own_of x)
        clear-own now =
            let f = (fits (Routed (Clearing x) why gone) now).0 in
            let owner : x.owner ≡ me = belongs.owner ∙ f.2 in
            subst (λ i. own_at (w.actors i).instance.own x.number ≡ Some (own_of x)) owner
            (owner-has e w k x (somewhere-hand e w k x me (ap (hand_sum _ _) now)))
          where
            belongs : Belongs e me x
            belongs = subst (InHand (Belongs e me) (Belongs e me)) now (k.ranges.in_hand me)

    -- a carrier that is collected: it has returned, its owner has it, and employs none of its
    -- number
    module _ (n : ℕ) (now : a.stage ≡ Collecting n) where
      pub collect-home : (x : Content) × (w.shared.places n ≡ Returning me x)
      collect-home = collecting-home e w k me seat n now

      pub collect-mine : owner_of n ≡ me
      collect-mine = fits (Collecting n) now

      pub collect-number : IsNumber e n
      collect-number = there-number n (λ q.
          let never : Returning me collect-home.0 ≡ Absent = sym collect-home.1 ∙ q in cc)

      pub collect-own : own_at a.instance.own n ≡ Some (own_of collect-home.0)
      collect-own =
          let (x, home) = collect-home in
          let placed = k.placed.returning n me x home in
          let belongs : Belongs e x.owner x =
          subst (AtHome (λ y. Belongs e y.owner y)) home (k.ranges.home n) in
          let owner : x.owner ≡ me = belongs.owner ∙ ap owner_of placed.0
          ∙ sym (k.returns.to_owner n me x home).0 in
          subst (λ i. own_at (w.actors i).instance.own n ≡ Some (own_of x)) owner
          (subst (λ m. own_at (w.actors x.owner).instance.own m ≡ Some (own_of x)) placed.0
          (owner-has e w k x (somewhere-returning e w k n me x home)))

      pub collect-none : content_of (employed a.instance) n ≡ None
      collect-none = not_here-none e w k n me (λ here. elim here [
        | inl on ↦ let never : Returning me collect-home.0 ≡ Employed me =
            sym collect-home.1 ∙ on.1 in cc
        | inr off ↦
            let never : true ≡ false = sym (returning-on e w k n me collect-home.0 collect-home.1)
            ∙ off.0 in cc
      ])

    pub search-number : (ask : Ask) (n : ℕ) (part : Part) → a.stage ≡ Searching ask n part
        → IsNumber e n
    search-number ask n part now =
        looks-number e w rule lists me n part (fits (Searching ask n part) now).5

    -- a carrier that is fetched
    module _ (ask : Ask) (n : ℕ) (part : Part) (seen : OwnerWord)
        (now : a.stage ≡ Fetching ask n part seen) where
      pub fetch-number : IsNumber e n
      fetch-number = looks-number e w rule lists me n part (fits (Fetching ask n part seen) now).5

      pub fetch-seen : (i g : ℕ) × (seen ≡ word.Pooled i g) × (is_scheduler e i ≡ true)
          × IsLargest g
      fetch-seen =
          let (i, g, q, room) = (fits (Fetching ask n part seen) now).4 in
          let s = subst (IsSteadyStage e me a.instance.count a.instance.contents) now
          (steady me).route in
          let shown = subst (IsShown e) q s in
          (i, g, q, shown.0, shown.1)

      module _ (x : Content) (won : tried_at seen (w.shared.places n) ≡ Won x) where
        fetched : (i g : ℕ) × (w.shared.places n ≡ Pooled i g x)
        fetched = let f = won-from seen (w.shared.places n) x won in (f.0, f.1, f.2)

        pub fetched-number : x.number ≡ n
        fetched-number = pooled-number e w k n fetched.0 fetched.1 x fetched.2

        pub fetched-many : x.kind ≡ Multi
        fetched-many = (k.placed.pooled n fetched.0 fetched.1 x fetched.2).1

        pub fetched-laid : IsLaidOut x
        fetched-laid = pooled-laid e w k n fetched.0 fetched.1 x fetched.2

        pub fetched-belongs : Belongs e x.owner x
        fetched-belongs = pooled-belongs e w k n fetched.0 fetched.1 x fetched.2

        pub fetched-none : content_of (employed a.instance) n ≡ None
        fetched-none = not_here-none e w k n me (λ here. elim here [
          | inl on ↦ let never : Pooled fetched.0 fetched.1 x ≡ Employed me =
              sym fetched.2 ∙ on.1 in cc
          | inr off ↦ absurd
              (let never : true ≡ false =
              sym (fits (Fetching ask n part seen) now).3 ∙ off.0 in cc)
        ])

        -- apart from all that the instance employs
        pub fetched-apart : All (IsApartFrom x) (employed a.instance)
        fetched-apart =
            let all = subst (AtHome (λ y. Everywhere (IsApartFrom y) w)) fetched.2
            ((sound-ranges e w k).apart.home n) in
            merged-All number_of (IsApartFrom x) a.instance.contents a.instance.singles
            (all.contents me) (all.singles me)

        fetched-other : All (λ y. y.number ≢ x.number) (employed a.instance)
        fetched-other = none-other number_of x.number (employed a.instance)
            (ap (content_of (employed a.instance)) fetched-number ∙ fetched-none)

        pub fetched-away : All (ContentsApart x) (employed a.instance)
        fetched-away = λ j d within. fetched-apart j d within
            (λ same. fetched-other j d within (sym same))

        -- it is the scheduler's own, as its instance knows it, or another's
        standing : Standing e me a.instance
        standing = k.ranges.instances me is

        fetched-somewhere : IsSomewhere e w x
        fetched-somewhere = somewhere-home e w k x n
            (λ q. let never : Pooled fetched.0 fetched.1 x ≡ Absent = sym fetched.2 ∙ q in cc)
            (ap (home_sum (of_owner (this x))) fetched.2)

        fetched-foreign : x.owner ≢ me
            → IsForeign a.instance.number a.instance.first a.instance.end (own_of x)
        fetched-foreign other = record {
          other = λ has. other (omega (
            arith,
            has.0,
            has.1,
            standing.number,
            fetched-belongs.owner,
            number.0,
          ));
          numbered = (
            omega (arith, fetched-number, fetch-number.0),
            omega (arith, fetched-number, fetch-number.1, valid.schedulers),
          );
          outside = elim (cases_lt x.owner me) [
            | inl before ↦ inl (omega (
              arith,
              fetched-belongs.high,
              standing.first,
              regions-apart e x.owner me
                  (scheduler-number e x.owner (owner-scheduler e w k x fetched-somewhere)).0 before,
            ))
            | inr after ↦ inr (omega (
              arith,
              fetched-belongs.low,
              standing.end,
              regions-apart e me x.owner number.0 (omega (arith, after, other)),
            ))
          ];
        }

        pub fetched-someones : IsSomeones a.instance (own_of x)
        fetched-someones = elim (cases_eq x.owner me) [
          | inl mine ↦ inl (subst (λ i. own_at (w.actors i).instance.own x.number ≡ Some (own_of x))
              mine (owner-has e w k x fetched-somewhere))
          | inr other ↦ inr (fetched-foreign other)
        ]

    -- what follows the row of a route is in the middle of a step
    module _ (route : Route Content) (gone : Gone) where
      abbrev moved : Shared
      moved = effect me (wants_on route) w.shared

      abbrev got : Answer
      got = answer me (wants_on route) w.shared

      pub walks : Closed e moved me (InWalk e w moved me)
      walks = closed e w moved me is (InWalk e w moved me) (keeps-walk e w moved me is)

      pub turned-walk : a.stage ≡ Routed route Walk gone
          → Holds e w moved me (InWalk e w moved me) walks Walk a.passed
          (turned e me route gone a got)
      turned-walk now = turned-holds e w moved me (InWalk e w moved me) walks route Walk gone a
          got (row-left e w me is rule (Routed route Walk gone) (λ q. cc) now)

    -- a carrier that is created
    module _ (ask : Ask) (p : CarrierPlan) (now : a.stage ≡ Creating ask p) where
      pub create-number : (owner_of p.number ≡ me) × (w.shared.places p.number ≡ Absent)
      create-number =
          let f = fits (Creating ask p) now in (
            created-owner e me a.instance (k.ranges.instances me is) ask.need p f.1,
            create_absent e w me is k (Creating ask p) (creating-bare ask p) now f.2 ask.need p f.1,
          )
