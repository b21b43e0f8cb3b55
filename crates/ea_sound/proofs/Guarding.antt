-- No scheduler wants a row that it may not do.
use Rattle.std.proofs.Common.{◌≡◌, ◌≢◌, ℕ, ◌<◌, ◌≤◌, Bool, true, false, [], ◌∷◌, ◌++◌, refl, sym}
use Rattle.std.proofs.Common.{ap, ◌∙◌, subst, inl, inr, arith}
use Rattle.std.specs.Prelude.{Option, Some, None, filter, not}
use Rattle.std.proofs.lemmas.Bool.{cond_both, true≢false}
use Rattle.ea_model.specs.declared.carriers.Kind.{Kind}
use Rattle.ea_model.specs.declared.carriers.Kind.TheVariants.{Main, Multi, Single}
use Rattle.ea_model.specs.Content.{Content}
use Rattle.ea_machine.specs.declared.nodes.Node.{Node}
use Rattle.ea_machine.specs.declared.owners.OwnerWord.TheVariants as word
use Rattle.ea_model.specs.Abandonment.{is_due}
use Rattle.ea_machine.specs.declared.stages.Stage.{Stage}
use Rattle.ea_machine.specs.declared.stages.Stage.TheVariants.{Begin, Routed, Collecting, Searching}
use Rattle.ea_machine.specs.declared.stages.Stage.TheVariants.{Fetching, Creating, Giving, Taking}
use Rattle.ea_machine.specs.declared.stages.Stage.TheVariants.{Ended, Ready}
use Rattle.ea_machine.specs.declared.stages.Route.{Route}
use Rattle.ea_machine.specs.declared.stages.Route.TheVariants.{Looking, Trying, Settling}
use Rattle.ea_machine.specs.declared.stages.Route.TheVariants.{Abandoning, Sending, Clearing}
use Rattle.ea_machine.specs.declared.stages.Route.TheVariants.{Pushing, Linking}
use Rattle.ea_machine.specs.Actor.{Actor}
use Rattle.ea_machine.specs.declared.tasks.Why.{Why}
use Rattle.ea_machine.specs.declared.tasks.Gone.{Gone}
use Rattle.ea_sound.specs.Contents.{hand_sum, seats}
use Rattle.ea_sound.specs.Guarded.{IsGuarded, is_on_word}
use Rattle.ea_machine.specs.Guards.{Guard}
use Rattle.ea_machine.specs.Machine.{begins, wants_at, wants_on}
use Rattle.ea_machine.specs.Owners.{Employed}
use Rattle.ea_machine.specs.Searches.{fits}
use Rattle.ea_sound.specs.Places.{has_number, none}
use Rattle.ea_machine.specs.Setup.{Setup, is_scheduler, migration}
use Rattle.ea_machine.specs.State.{State}
use Rattle.ea_machine.specs.Statistics.{employed_multis, is_single, leaving_at}
use Rattle.ea_sound.specs.Present.{Fits, FitsRoute, Rule}
use Rattle.ea_sound.specs.Rule.{Kept}
use Rattle.ea_sound.specs.Steady.{AreSteady, IsSteadyStage, works_off}
use Rattle.ea_sound.proofs.CarrierRows.{create_absent}
use Rattle.ea_sound.proofs.Created.{created-owner}
use Rattle.ea_sound.proofs.Employers.{busy-place, employed-place, there-on}
use Rattle.ea_sound.proofs.Global.{working-scheduler}
use Rattle.ea_sound.proofs.NodeSeats.{collecting-home, returning-on}
use Rattle.ea_sound.proofs.NodeSpots.{linking-unlinked, pushing-nowhere}
use Rattle.ea_sound.proofs.Numbered.{scheduler-seat}
use Rattle.ea_sound.proofs.OtherRows.{tried-there}
use Rattle.ea_sound.proofs.RowLeaves.{creating-bare, no_first}
use Rattle.ea_sound.proofs.Weights.{one-itself}
use Rattle.std.specs.Prelude.{List}

fits-large : (need i largest : ℕ) → need ≤ largest → fits need (word.Pooled i largest) ≡ true
fits-large need i largest large = grind (arith, large)

is_many : (kind : Kind) → kind ≡ Multi → not (is_single kind) ≡ true
is_many Main multi = refl
is_many Multi multi = refl
is_many Single multi = absurd cc

-- the multiblock carrier in the hand is in front of the others
front-due : (s : Setup) (x : Content) (a : Actor) (why : Why) (gone : Gone) → x.kind ≡ Multi
    → a.stage ≡ Routed (Abandoning x) why gone
    → is_due s.settings a.instance.count (x ∷ a.instance.contents) x ≡ true
    → is_due s.settings a.instance.count (employed_multis a) x ≡ true
front-due s x a why gone multi now due =
    let many : Content → Bool = λ y. not (is_single y.kind) in
    let is : List Content → Bool = λ xs.
    is_due s.settings a.instance.count (xs ++ a.instance.contents) x in
    ap (λ stage. is (filter many (leaving_at stage))) now
    ∙ cond_both (many x) (x ∷ []) [] (λ xs. is xs ≡ true)
    (λ _. due) (λ one. absurd (true≢false (sym (is_many x.kind multi) ∙ one)))

module _ (e : Setup) (w : State) (rule : Rule e w) (steady : AreSteady e w) (me : ℕ) where
  abbrev a : Actor
  a = w.actors me

  k : Kept e w
  k = rule.kept

  fits-at : (stage : Stage Content) → a.stage ≡ stage → Fits e w me a stage
  fits-at stage now = subst (Fits e w me a) now (rule.present.fits me)

  steady-at : (stage : Stage Content) → a.stage ≡ stage
      → IsSteadyStage e me a.instance.count a.instance.contents stage
  steady-at stage now =
      subst (IsSteadyStage e me a.instance.count a.instance.contents) now (steady me).route

  is-one : (stage : Stage Content) → a.stage ≡ stage → stage ≢ Ended → is_scheduler e me ≡ true
  is-one stage now works = working-scheduler e w k me (λ z. works (sym now ∙ z))

  seat-at : (stage : Stage Content) → a.stage ≡ stage → stage ≢ Ended → me < seats e
  seat-at stage now works = scheduler-seat e me (is-one stage now works)

  abbrev May : Stage Content → Type 0
  May stage = Guard e me a w.shared (wants_at a.next stage)

  -- a content in the hand that is employed has the word
  hand-employed : (x : Content) (stage : Stage Content) → a.stage ≡ stage → migration e ≡ true
      → hand_sum none (has_number x.number) stage ≡ has_number x.number x
      → w.shared.places x.number ≡ Employed me
  hand-employed x stage now on is = employed-place e w k me x.number
      (omega (
        arith,
        ap (hand_sum none (has_number x.number)) now,
        is,
        one-itself x.number,
      )) on

  begin-may : (o : Option Node) → a.next ≡ o → a.stage ≡ Begin
      → Guard e me a w.shared (begins o)
  begin-may None q now = (
    (steady me).walk (ap works_off now) q,
    no_first (w.shared.rests me) (sym (rule.present.walking me) ∙ q),
  )
  begin-may (Some node) q now = (
    (λ z. let never : Some node ≡ None = sym q ∙ z in cc),
    sym (rule.present.walking me),
  )

  module _ (why : Why) (gone : Gone) where
    route-may : (route : Route Content) → a.stage ≡ Routed route why gone
        → FitsRoute e w.shared me route → Guard e me a w.shared (wants_on route)
    route-may (Looking hand) now fit = tt
    route-may (Trying hand seen) now fit = (steady-at (Routed (Trying hand seen) why gone) now).0
    route-may (Settling x) now fit = busy-place e w k me x.number (omega (
      arith,
      ap (hand_sum (has_number x.number) none) now,
      one-itself x.number,
    ))
    route-may (Abandoning x) now fit = (
      hand-employed x (Routed (Abandoning x) why gone) now fit.2 refl,
      front-due e x a why gone fit.0 now
          (steady-at (Routed (Abandoning x) why gone) now),
    )
    route-may (Sending x) now fit =
        (hand-employed x (Routed (Sending x) why gone) now fit.3 refl, fit.1, fit.2)
    route-may (Clearing x) now fit = (
      fit.2,
      inl (record {
        content = x;
        in_hand = ap leaving_at now;
        is = refl;
        empty = fit.1;
        leaves = fit.0;
        employed = hand-employed x (Routed (Clearing x) why gone) now fit.3 refl;
      }),
    )
    route-may (Pushing node to) now fit = pushing-nowhere e w rule me
        (seat-at (Routed (Pushing node to) why gone) now (λ z. cc)) why gone node to now
    route-may (Linking node to) now fit = linking-unlinked e w rule me
        (seat-at (Routed (Linking node to) why gone) now (λ z. cc)) why gone node to now

  stage-may : (stage : Stage Content) → a.stage ≡ stage → May stage
  stage-may Begin now = begin-may a.next refl now
  stage-may (Routed route why gone) now =
      route-may why gone route now (fits-at (Routed route why gone) now).0
  stage-may (Collecting number) now =
      let home = collecting-home e w k me (seat-at (Collecting number) now (λ z. cc)) number now
      in (
        fits-at (Collecting number) now,
        inr (record { content = home.0; collects = now; returning = home.1 }),
      )
  stage-may (Searching ask at part) now = tt
  stage-may (Fetching ask at part seen) now =
      let f = fits-at (Fetching ask at part seen) now in
      record {
        ask = ask;
        at = at;
        part = part;
        fetches = now;
        large = ap (fits ask.need) f.4.2 ∙ fits-large ask.need f.4.0 f.4.1 f.4.3;
      }
  stage-may (Creating ask p) now =
      let f = fits-at (Creating ask p) now in
      let is = is-one (Creating ask p) now (λ z. cc) in (
        create_absent e w me is k (Creating ask p) (creating-bare ask p) now f.2 ask.need p f.1,
        created-owner e me a.instance (k.ranges.instances me is) ask.need p f.1,
      )
  stage-may (Giving given to) now = (fits-at (Giving given to) now).0
  stage-may (Taking name tries left) now = tt
  stage-may Ended now = tt
  stage-may Ready now = tt

  -- where carriers don't migrate
  module _ (off : migration e ≡ false) where
    never-on : migration e ≡ true → ⊥
    never-on on = true≢false (sym on ∙ off)

    route-off : (route : Route Content) → FitsRoute e w.shared me route
        → is_on_word (wants_on route) ≡ false
    route-off (Looking hand) fit = absurd (never-on fit.1)
    route-off (Trying hand seen) fit = absurd (never-on (there-on e w k hand.spot.carrier
        (tried-there me seen (w.shared.places hand.spot.carrier) fit)))
    route-off (Settling x) fit = absurd (never-on fit.1)
    route-off (Abandoning x) fit = absurd (never-on fit.2)
    route-off (Sending x) fit = absurd (never-on fit.3)
    route-off (Clearing x) fit = absurd (never-on fit.3)
    route-off (Pushing node to) fit = refl
    route-off (Linking node to) fit = refl

    begin-off : (o : Option Node) → is_on_word (begins o) ≡ false
    begin-off None = refl
    begin-off (Some node) = refl

    stage-off : (stage : Stage Content) → a.stage ≡ stage
        → is_on_word (wants_at a.next stage) ≡ false
    stage-off Begin now = begin-off a.next
    stage-off (Routed route why gone) now =
        route-off route (fits-at (Routed route why gone) now).0
    stage-off (Collecting number) now =
        let home = collecting-home e w k me (seat-at (Collecting number) now (λ z. cc)) number now
        in absurd (never-on (returning-on e w k number me home.0 home.1))
    stage-off (Searching ask at part) now =
        absurd (never-on (fits-at (Searching ask at part) now).4)
    stage-off (Fetching ask at part seen) now =
        absurd (never-on (fits-at (Fetching ask at part seen) now).3)
    stage-off (Creating ask p) now = absurd (never-on (fits-at (Creating ask p) now).2)
    stage-off (Giving given to) now = refl
    stage-off (Taking name tries left) now = refl
    stage-off Ended now = refl
    stage-off Ready now = refl

pub is-guarded : (e : Setup) (w : State) → Rule e w → AreSteady e w → IsGuarded e w
is-guarded e w rule steady = record {
  guard = λ s. stage-may e w rule steady s (w.actors s).stage refl;
  words = λ off s. stage-off e w rule steady s off (w.actors s).stage refl;
}
