-- Answers that never come, from what every moment keeps.
use Rattle.std.proofs.Common.{◌≡◌, ◌≢◌, ℕ, ◌<◌, ◌≤◌, Bool, true, false, refl, sym, ap, ◌∙◌, subst}
use Rattle.std.proofs.Common.{inl, inr, arith}
use Rattle.std.specs.Prelude.{◌==◌, ◌&&◌}
use Rattle.std.proofs.lemmas.Bool.{cases_Bool}
use Rattle.ea_model.specs.declared.carriers.Spot.{Spot}
use Rattle.ea_model.specs.Content.{Content}
use Rattle.ea_machine.specs.declared.owners.OwnerWord.{OwnerWord}
use Rattle.ea_machine.specs.declared.owners.OwnerWord.TheVariants as word
use Rattle.ea_machine.specs.declared.stages.Stage.{Stage}
use Rattle.ea_machine.specs.declared.stages.Stage.TheVariants.{Collecting, Ended, Ready, Routed}
use Rattle.ea_machine.specs.declared.stages.Route.TheVariants.{Looking, Trying}
use Rattle.ea_machine.specs.Actor.{Actor}
use Rattle.ea_machine.specs.declared.tasks.Why.{Why}
use Rattle.ea_machine.specs.declared.tasks.Gone.{Gone}
use Rattle.ea_sound.specs.Contents.{seats}
use Rattle.ea_sound.specs.Heard.{HearsNoOther, NamesAnother, NamesEmployer, on_its_way}
use Rattle.ea_machine.specs.Machine.{wants_at}
use Rattle.ea_sound.specs.Names.{allocated, of_block, of_content, of_hand, of_node, only, only_at}
use Rattle.ea_machine.specs.Nodes.{same_spot}
use Rattle.ea_machine.specs.declared.nodes.Named.{Named}
use Rattle.ea_machine.specs.Owners.{CarrierAt, Absent, Employed, Pooled, Busy, Returning, same_word}
use Rattle.ea_machine.specs.Owners.{word_of}
use Rattle.ea_machine.specs.Rows.{Lost, Saw}
use Rattle.ea_machine.specs.Setup.{Setup, is_scheduler}
use Rattle.ea_machine.specs.State.{State}
use Rattle.ea_machine.specs.Sums.{one_if, sum_over}
use Rattle.ea_machine.specs.Table.{answer, won_if, tried_at}
use Rattle.ea_sound.specs.Turns.{answered}
use Rattle.ea_sound.specs.Present.{Fits, FitsRoute, HasEmployer, HasOther, Rule, StillPooled}
use Rattle.ea_sound.proofs.ActorWeights.{everywhere-less}
use Rattle.ea_sound.proofs.Global.{working-scheduler}
use Rattle.ea_sound.proofs.Hits.{stands-allocated}
use Rattle.ea_sound.proofs.NodeSeats.{collecting-home}
use Rattle.ea_sound.proofs.Numbered.{scheduler-seat}
use Rattle.ea_sound.proofs.RouteLeaves.{not_seen}
use Rattle.ea_sound.proofs.Weights.{sum-less}

-- the word of a carrier that has an employer names it
names-employer : (me : ℕ) (p : CarrierAt) → HasEmployer me p → NamesEmployer me (word_of p)
names-employer me Absent has = has
names-employer me (Employed i) has = has
names-employer me (Pooled i g x) has = has
names-employer me (Busy i) has = has
names-employer me (Returning i x) has = has

names-another : (me : ℕ) (p : CarrierAt) → HasOther me p → NamesAnother me (word_of p)
names-another me Absent has = has
names-another me (Employed i) has = has
names-another me (Pooled i g x) has = has
names-another me (Busy i) has = has
names-another me (Returning i x) has = has

-- a lost try tells the word
lost-word : (same : Bool) (p : CarrierAt) (present : OwnerWord)
    → won_if same p ≡ Lost present → word_of p ≡ present
lost-word true Absent present q = cc
lost-word true (Employed i) present q = cc
lost-word true (Pooled i g x) present q = absurd cc
lost-word true (Busy i) present q = cc
lost-word true (Returning i x) present q = cc
lost-word false p present q = cc

-- a try for the word of a pooled carrier that still stands isn't lost
still-won : (me : ℕ) (seen : OwnerWord) (p : CarrierAt) (present : OwnerWord) (same : Bool)
    → StillPooled me seen p → same_word (word_of p) seen ≡ same → won_if same p ≢ Lost present
still-won me seen p present false still is q = not_seen me seen p is still
still-won me seen Absent present true still is q =
    let never : word.Absent ≡ word.Pooled me still.1.0 = still.0 ∙ still.1.1 in cc
still-won me seen (Employed i) present true still is q =
    let never : word.Employed i ≡ word.Pooled me still.1.0 = still.0 ∙ still.1.1 in cc
still-won me seen (Pooled i g x) present true still is q = absurd cc
still-won me seen (Busy i) present true still is q =
    let never : word.Busy i ≡ word.Pooled me still.1.0 = still.0 ∙ still.1.1 in cc
still-won me seen (Returning i x) present true still is q =
    let never : word.Returning i ≡ word.Pooled me still.1.0 = still.0 ∙ still.1.1 in cc

saw-same : (v u : OwnerWord) → Saw v ≡ Saw u → v ≡ u
saw-same v u q = cc

collecting-works : (number : ℕ) (stage : Stage Content) → stage ≡ Collecting number → stage ≢ Ended
collecting-works number stage now q = cc

only_at-only : (name : ℕ) (spot : Spot) (n : ℕ) (p : Spot) → only_at name spot n p ≤ only name n p
only_at-only name spot n p = by (n == name) (same_spot p spot) where
  by : (b c : Bool) → one_if (b && c) ≤ one_if b
  by true true = omega arith
  by true false = omega arith
  by false c = omega arith

module _ (e : Setup) (w : State) (rule : Rule e w) (s : ℕ) where
  abbrev a : Actor
  a = w.actors s

  at_work : a.stage ≢ Ended → s < seats e
  at_work working = scheduler-seat e s (working-scheduler e w rule.kept s working)

  fits-at : (stage : Stage Content) → a.stage ≡ stage → Fits e w s a stage
  fits-at stage q = subst (Fits e w s a) q (rule.present.fits s)

  looks-answer : (hand : Named) (why : Why) (gone : Gone) → a.stage ≡ Routed (Looking hand) why gone
      → answered w s ≡ Saw (word_of (w.shared.places hand.spot.carrier))
  unfolding answer
  looks-answer hand why gone q = ap (λ stage. answer s (wants_at a.next stage) w.shared) q

  tries-answer : (hand : Named) (seen : OwnerWord) (why : Why) (gone : Gone)
      → a.stage ≡ Routed (Trying hand seen) why gone
      → answered w s ≡ tried_at seen (w.shared.places hand.spot.carrier)
  unfolding answer
  tries-answer hand seen why gone q = ap (λ stage. answer s (wants_at a.next stage) w.shared) q

  looks : (hand : Named) (why : Why) (gone : Gone) (seen : OwnerWord)
      → a.stage ≡ Routed (Looking hand) why gone → answered w s ≡ Saw seen → NamesEmployer s seen
  looks hand why gone seen q is =
      let p = w.shared.places hand.spot.carrier in
      subst (NamesEmployer s)
      (saw-same (word_of p) seen (sym (looks-answer hand why gone q) ∙ is))
      (names-employer s p (fits-at (Routed (Looking hand) why gone) q).0.0)

  tries : (hand : Named) (tried : OwnerWord) (why : Why) (gone : Gone) (present : OwnerWord)
      → a.stage ≡ Routed (Trying hand tried) why gone → answered w s ≡ Lost present
      → NamesAnother s present
  tries hand tried why gone present q is = by (fits-at (Routed (Trying hand tried) why gone) q).0
    where
      p : CarrierAt
      p = w.shared.places hand.spot.carrier

      lost : tried_at tried p ≡ Lost present
      lost = sym (tries-answer hand tried why gone q) ∙ is

      by : FitsRoute e w.shared s (Trying hand tried) → NamesAnother s present
      by (inl still) = absurd
          (still-won s tried p present (same_word (word_of p) tried) still refl lost)
      by (inr has) = subst (NamesAnother s)
          (lost-word (same_word (word_of p) tried) p present lost) (names-another s p has)

  -- a block on its way is allocated once
  blocks : s < seats e → (name : ℕ) (spot : Spot) → 0 < on_its_way name spot w s
      → allocated e (only_at name spot) w ≡ 1
  blocks seat name spot some =
      let f = only_at name spot in
      omega (
        arith,
        some,
        stands-allocated e w s seat rule.kept a refl f,
        everywhere-less (of_content f) (of_content (only name))
            (λ x. sum-less (of_block f x.number) (of_block (only name) x.number) x.blocks
            (λ i d within. only_at-only name spot _ _)) e w,
        rule.kept.names.once name,
      )

  -- who has one on its way is a scheduler
  way-seat : (name : ℕ) (spot : Spot) → 0 < on_its_way name spot w s → s < seats e
  way-seat name spot some = elim (cases_Bool (is_scheduler e s)) [
    | inl is ↦ scheduler-seat e s is
    | inr none ↦
        let has = rule.present.nobody s none in
        absurd (omega (
          arith,
          some,
          ap (sum_over (of_node (only_at name spot))) has.passed,
          ap (of_hand (only_at name spot)) has.stage,
        ))
  ]

pub hears-no_other : (e : Setup) (w : State) → Rule e w → HearsNoOther e w
hears-no_other e w rule = record {
  looks = looks e w rule;
  tries = tries e w rule;
  blocks = λ s name spot some.
      blocks e w rule s (way-seat e w rule s name spot some) name spot some;
  collected = λ s number q. collecting-home e w rule.kept s
      (at_work e w rule s (collecting-works number _ q)) number q;
  ended = λ s q. fits-at e w rule s Ended q;
  resting = λ s q. fits-at e w rule s Ready q;
}
