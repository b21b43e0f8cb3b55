-- What holds of each content that is laid out, belongs to an owner and counts: it holds of all.
use Rattle.std.proofs.Common.{◌≡◌, ◌≢◌, ℕ, ◌+◌, ◌<◌, ◌∙◌, List, Bool, true, false, refl, sym, ap}
use Rattle.std.proofs.Common.{subst, inl, inr, arith, get_or}
use Rattle.std.specs.Prelude.{All}
use Rattle.std.proofs.lemmas.List.Elements.{All-nil, All-weaker}
use Rattle.ea_model.specs.Content.{Content}
use Rattle.ea_laws.specs.Kept.{IsLaidOut, IsLaidOutAlone}
use Rattle.ea_machine.specs.declared.stages.Stage.{Stage}
use Rattle.ea_machine.specs.declared.stages.Stage.TheVariants.{Begin, Routed, Collecting, Searching}
use Rattle.ea_machine.specs.declared.stages.Stage.TheVariants.{Fetching, Creating, Giving, Taking}
use Rattle.ea_machine.specs.declared.stages.Stage.TheVariants.{Ended, Ready}
use Rattle.ea_machine.specs.declared.stages.Route.{Route}
use Rattle.ea_machine.specs.declared.stages.Route.TheVariants.{Looking, Trying, Settling}
use Rattle.ea_machine.specs.declared.stages.Route.TheVariants.{Abandoning, Sending, Clearing}
use Rattle.ea_machine.specs.declared.stages.Route.TheVariants.{Pushing, Linking}
use Rattle.ea_machine.specs.Actor.{Actor}
use Rattle.ea_sound.specs.Contents.{AtHome, Everywhere, InHand, OnRoute, hand_sum, home_sum}
use Rattle.ea_sound.specs.Contents.{route_sum, seats}
use Rattle.ea_machine.specs.Owners.{CarrierAt, Absent, Employed, Pooled, Busy, Returning}
use Rattle.ea_sound.specs.Ranges.{IsLaidOutAsKind}
use Rattle.ea_machine.specs.Setup.{Setup, is_scheduler}
use Rattle.ea_machine.specs.State.{State}
use Rattle.ea_machine.specs.Sums.{sum_over}
use Rattle.ea_sound.specs.Rule.{Belongs, Kept}
use Rattle.ea_sound.proofs.ActorWeights.{hand-none}
use Rattle.ea_sound.proofs.Counted.{Counts, CountsIn, at_actor, counts-all, counts-home}
use Rattle.ea_sound.proofs.Counted.{counts-more, counts-seat, list_sum}
use Rattle.ea_sound.proofs.Employers.{there-slot}
use Rattle.ea_sound.proofs.Numbered.{scheduler-seat}
use Rattle.ea_sound.proofs.Weights.{sum-none}

module _ (e : Setup) (w : State) (k : Kept e w) (P : Content → Type 0)
    (has : (i : ℕ) (x : Content) → Belongs e i x → IsLaidOutAsKind x → Counts e w x → P x) where
  module _ (i : ℕ) (is : is_scheduler e i ≡ true) where
    abbrev a : Actor
    a = w.actors i

    seat : i < seats e
    seat = scheduler-seat e i is

    in_contents : All (CountsIn (at_actor a)) a.instance.contents
    in_contents = All-weaker (CountsIn (list_sum a.instance.contents)) (CountsIn (at_actor a))
        (λ x c. counts-more (list_sum a.instance.contents) (at_actor a)
        (λ f. sum_over f a.instance.singles + hand_sum f f a.stage) x (λ f. omega arith)
        (λ g f h z. omega (
          arith,
          sum-none g f a.instance.singles h (omega (arith, z)),
          hand-none g g f f h h a.stage (omega (arith, z)),
        )) c) a.instance.contents (counts-all a.instance.contents)

    in_singles : All (CountsIn (at_actor a)) a.instance.singles
    in_singles = All-weaker (CountsIn (list_sum a.instance.singles)) (CountsIn (at_actor a))
        (λ x c. counts-more (list_sum a.instance.singles) (at_actor a)
        (λ f. sum_over f a.instance.contents + hand_sum f f a.stage) x (λ f. omega arith)
        (λ g f h z. omega (
          arith,
          sum-none g f a.instance.contents h (omega (arith, z)),
          hand-none g g f f h h a.stage (omega (arith, z)),
        )) c) a.instance.singles (counts-all a.instance.singles)

    in_hand : (x : Content) → ((f : Content → ℕ) → hand_sum f f a.stage ≡ f x)
        → CountsIn (at_actor a) x
    in_hand x one = record {
      rest = λ f. sum_over f a.instance.contents + sum_over f a.instance.singles;
      whole = λ f. omega (arith, one f);
      counted = λ g f h z. omega (
        arith,
        sum-none g f a.instance.contents h (omega (arith, z)),
        sum-none g f a.instance.singles h (omega (arith, z)),
      );
    }

    list-has : (xs : List Content) → All (Belongs e i) xs → All IsLaidOutAsKind xs
        → All (CountsIn (at_actor a)) xs → All P xs
    list-has xs belongs laid counts = λ n d within. has i (get_or xs n d) (belongs n d within)
        (laid n d within) (counts-seat e w i (get_or xs n d) seat (counts n d within))

    hand-one : (x : Content) → Belongs e i x → IsLaidOutAsKind x
        → ((f : Content → ℕ) → hand_sum f f a.stage ≡ f x) → P x
    hand-one x belongs laid one =
        has i x belongs laid (counts-seat e w i x seat (in_hand x one))

    route-has : (r : Route Content) → ((f : Content → ℕ) → hand_sum f f a.stage ≡ route_sum f f r)
        → OnRoute (Belongs e i) (Belongs e i) r → OnRoute IsLaidOut IsLaidOutAsKind r
        → OnRoute P P r
    route-has (Looking hand) one belongs laid = tt
    route-has (Trying hand seen) one belongs laid = tt
    route-has (Settling x) one belongs laid = hand-one x belongs (inl laid) one
    route-has (Abandoning x) one belongs laid = hand-one x belongs laid one
    route-has (Sending x) one belongs laid = hand-one x belongs laid one
    route-has (Clearing x) one belongs laid = hand-one x belongs laid one
    route-has (Pushing node to) one belongs laid = tt
    route-has (Linking node to) one belongs laid = tt

    hand-has : (s : Stage Content) → a.stage ≡ s → InHand (Belongs e i) (Belongs e i) s
        → InHand IsLaidOut IsLaidOutAsKind s → InHand P P s
    hand-has Begin at belongs laid = tt
    hand-has (Routed r why gone) at belongs laid =
        route-has r (λ f. ap (hand_sum f f) at) belongs laid
    hand-has (Collecting number) at belongs laid = tt
    hand-has (Searching ask n part) at belongs laid = tt
    hand-has (Fetching ask n part seen) at belongs laid = tt
    hand-has (Creating ask p) at belongs laid = tt
    hand-has (Giving given to) at belongs laid = tt
    hand-has (Taking name tries left) at belongs laid = tt
    hand-has Ended at belongs laid = tt
    hand-has Ready at belongs laid = tt

  home-one : (c : ℕ) (x : Content) (p : CarrierAt) → w.shared.places c ≡ p → p ≢ Absent
      → ((f : Content → ℕ) → home_sum f p ≡ f x) → Belongs e x.owner x → IsLaidOut x → P x
  home-one c x p at there one belongs laid = has x.owner x belongs (inl laid)
      (counts-home e w c x (there-slot e w k c (λ q. there (sym at ∙ q)))
      (λ f. ap (home_sum f) at ∙ one f))

  home-has : (c : ℕ) (p : CarrierAt) → w.shared.places c ≡ p
      → AtHome (λ x. Belongs e x.owner x) p → AtHome IsLaidOut p → AtHome P p
  home-has c Absent at belongs laid = tt
  home-has c (Employed i) at belongs laid = tt
  home-has c (Pooled i g x) at belongs laid =
      home-one c x (Pooled i g x) at (λ q. cc) (λ f. refl) belongs laid
  home-has c (Busy i) at belongs laid = tt
  home-has c (Returning i x) at belongs laid =
      home-one c x (Returning i x) at (λ q. cc) (λ f. refl) belongs laid

  contents-have : (i : ℕ) (b : Bool) → is_scheduler e i ≡ b → All P (w.actors i).instance.contents
  contents-have i false none =
      subst (All P) (sym (k.ranges.nobody i none).contents) (All-nil P)
  contents-have i true is = list-has i is (w.actors i).instance.contents (k.ranges.contents i)
      (All-weaker IsLaidOut IsLaidOutAsKind (λ x laid. inl laid) (w.actors i).instance.contents
      (k.ranges.instances i is).order.laid) (in_contents i is)

  singles-have : (i : ℕ) (b : Bool) → is_scheduler e i ≡ b → All P (w.actors i).instance.singles
  singles-have i false none =
      subst (All P) (sym (k.ranges.nobody i none).singles) (All-nil P)
  singles-have i true is = list-has i is (w.actors i).instance.singles (k.ranges.singles i)
      (All-weaker IsLaidOutAlone IsLaidOutAsKind (λ x laid. inr laid)
      (w.actors i).instance.singles (k.ranges.instances i is).order.alone) (in_singles i is)

  hands-have : (i : ℕ) (b : Bool) → is_scheduler e i ≡ b → InHand P P (w.actors i).stage
  hands-have i false none = subst (InHand P P) (sym (k.ranges.nobody i none).stage) tt
  hands-have i true is = hand-has i is (w.actors i).stage refl (k.ranges.in_hand i)
      (k.ranges.hand_laid i)

  pub everywhere : Everywhere P w
  everywhere = record {
    contents = λ i. contents-have i (is_scheduler e i) refl;
    singles = λ i. singles-have i (is_scheduler e i) refl;
    in_hand = λ i. hands-have i (is_scheduler e i) refl;
    home = λ c. home-has c (w.shared.places c) refl (k.ranges.home c) (k.ranges.home_laid c);
  }
