-- Where the row of a route leaves a scheduler.
use Rattle.std.proofs.Common.{◌≡◌, ◌≢◌, ◌⊎◌, ℕ, ◌+◌, ◌≤◌, List, Bool, true, false, refl, sym, ap}
use Rattle.std.proofs.Common.{◌∙◌, subst, inl, inr, arith}
use Rattle.std.specs.Prelude.{◌==◌}
use Rattle.std.proofs.lemmas.Bool.{eqb-false, eqb-true, true≢false}
use Rattle.ea_model.specs.declared.carriers.Kind.TheVariants.{Multi, Single}
use Rattle.ea_model.specs.declared.operations.Op.{Op}
use Rattle.ea_model.specs.Content.{Content, can_go, is_nil, released}
use Rattle.ea_model.specs.Instance.{owner_of}
use Rattle.ea_machine.specs.Releases.{struck}
use Rattle.ea_machine.specs.declared.owners.OwnerWord.{OwnerWord}
use Rattle.ea_machine.specs.declared.owners.OwnerWord.TheVariants as word
use Rattle.ea_machine.specs.declared.stages.Stage.TheVariants.{Routed}
use Rattle.ea_machine.specs.declared.stages.Route.{Route}
use Rattle.ea_machine.specs.declared.stages.Route.TheVariants.{Looking, Trying, Settling}
use Rattle.ea_machine.specs.declared.stages.Route.TheVariants.{Abandoning, Sending, Clearing}
use Rattle.ea_machine.specs.declared.stages.Route.TheVariants.{Pushing, Linking}
use Rattle.ea_machine.specs.Actor.{Actor}
use Rattle.ea_machine.specs.declared.tasks.Why.{Why}
use Rattle.ea_machine.specs.declared.tasks.Gone.{Gone}
use Rattle.ea_machine.specs.Machine.{wants_on}
use Rattle.ea_machine.specs.declared.nodes.Named.{Named}
use Rattle.ea_machine.specs.Nodes.{first_node}
use Rattle.ea_machine.specs.Owners.{CarrierAt, Absent, Employed, Pooled, Busy, Returning, same_word}
use Rattle.ea_machine.specs.Owners.{word_of}
use Rattle.ea_machine.specs.Releases.{Turned, employed_by, looked, pooled_by, sent_to, settled}
use Rattle.ea_machine.specs.Releases.{tried, turned}
use Rattle.ea_machine.specs.Setup.{Setup, is_scheduler, migration}
use Rattle.ea_machine.specs.Shared.{Shared, at_place}
use Rattle.ea_machine.specs.State.{State}
use Rattle.ea_machine.specs.Table.{answer, effect, moved_if, pooled, settled_at, won_if}
use Rattle.ea_sound.specs.Contents.{home_sum, slots}
use Rattle.ea_sound.specs.Names.{unplaced_by}
use Rattle.ea_sound.specs.Present.{Fits, FitsRoute, HasEmployer, HasOther, OfWhy, Rule, StillPooled}
use Rattle.ea_sound.specs.Rule.{Kept}
use Rattle.ea_sound.proofs.Assembly.{nil-is}
use Rattle.ea_sound.proofs.Employers.{busy-scheduler, employed-scheduler, there-on}
use Rattle.ea_sound.proofs.FewBlocks.{Counting, blocks_named, released-fewer}
use Rattle.ea_sound.proofs.Hits.{found-belongs}
use Rattle.ea_sound.proofs.Homes.{pooled-slot}
use Rattle.ea_sound.proofs.OtherRows.{linked-first, linked-rest, tried-there}
use Rattle.ea_sound.proofs.ReleaseRoutes.{IsOwn, here-good, leaving-good, sent-good}
use Rattle.ea_sound.proofs.RouteLeaves.{not_seen}
use Rattle.ea_sound.proofs.RowCores.{bound_of, core, disowned-bare, hand_named, home_of, own}
use Rattle.ea_sound.proofs.RowCores.{put-more, seat, still}
use Rattle.ea_sound.proofs.Suits.{Bare, CoreOf, TurnedGood}
use Rattle.ea_sound.proofs.Totals.{total-put}
use Rattle.ea_sound.proofs.RowCores.{counted-core}
use Rattle.std.proofs.Common.{◌-◌}
use Rattle.ea_model.specs.declared.units.TheConstants.{RELEASED_COUNT}

module _ (e : Setup) (w : State) (me : ℕ) (is : is_scheduler e me ≡ true) (rule : Rule e w)
    (y : Why) (g : Gone) where
  abbrev a : Actor
  a = w.actors me

  abbrev IsRoute : Shared → Turned → Type 0
  IsRoute s t = TurnedGood e s me (home_of e s) (bound_of e w me) y t

  abbrev left : List Op
  left = unplaced_by y (w.actors me).todo

  abbrev CoreAt : Shared → (Counting → ℕ) → Type 0
  CoreAt s x = CoreOf e s me (home_of e s) (bound_of e w me) left x a

  abbrev BareAt : Shared → Type 0
  BareAt s = Bare e s me (home_of e s) (bound_of e w me) left a

  k : Kept e w
  k = rule.kept

  module _ (r : Route Content) (now : a.stage ≡ Routed r y g) where
    fitting : Fits e w me a (Routed r y g)
    fitting = subst (Fits e w me a) now (rule.present.fits me)

    its : FitsRoute e w.shared me r
    its = fitting.0

    why : OfWhy y a.todo
    why = fitting.1

    -- a carrier comes to another place
    moved : (c : ℕ) (p : CarrierAt) (x : Counting → ℕ)
        → ((n : Counting) → x n + home_sum (blocks_named n) p ≤ hand_named (Routed r y g) n)
        → CoreAt (at_place c p w.shared) x
    moved c p x less = core e w me is rule (Routed r y g) now (at_place c p w.shared) x
        (rule.present.walking me)
        (λ n. omega
        (arith, less n, put-more (home_sum (blocks_named n)) w.shared.places c p (slots e)))

    bare : ((n : Counting) → hand_named (Routed r y g) n ≡ 0) → BareAt w.shared
    bare none = record {
      core = core e w me is rule (Routed r y g) now w.shared (λ n. 0) (rule.present.walking me)
          (λ n. omega arith);
      own = own e w me is rule;
    }

  -- the block in the hand, where carriers migrate
  module _ (h : Named) (on : migration e ≡ true) where
    abbrev c : ℕ
    c = h.spot.carrier

    owns : IsOwn e me h.spot a.instance
    owns z there single =
        let belongs = found-belongs e w me (seat e w me is rule) k a refl c z there in
        elim single [
          | inl one ↦ elim belongs.stays [
            | inl multi ↦ absurd (let never : Multi ≡ Single = sym multi ∙ one in cc)
            | inr mine ↦ sym belongs.owner ∙ mine
          ]
          | inr off ↦ absurd (true≢false (sym on ∙ off))
        ]

    sent : (i : ℕ) → i ≢ me → is_scheduler e i ≡ true → BareAt w.shared → OfWhy y a.todo
        → IsRoute w.shared (sent_to h i g a)
    sent i other scheduler b why = sent-good e w.shared me (home_of e w.shared) (bound_of e w me) y
        h i g a other (inl scheduler) b why

  looking-good : (h : Named) → a.stage ≡ Routed (Looking h) y g → (p : CarrierAt)
      → w.shared.places h.spot.carrier ≡ p → IsRoute w.shared (looked e me h g a (word_of p))
  looking-good h now p there = by p there (subst (HasEmployer me) there (its r now).0) where
    r : Route Content
    r = Looking h

    on : migration e ≡ true
    on = (its r now).1

    b : BareAt w.shared
    b = bare r now (λ n. refl)

    go : (i : ℕ) → i ≢ me → is_scheduler e i ≡ true → IsRoute w.shared (sent_to h i g a)
    go i other scheduler = sent h on i other scheduler b (why r now)

    employed : (i : ℕ) (mine : Bool) → (i == me) ≡ mine
        → w.shared.places h.spot.carrier ≡ Employed i
        → IsRoute w.shared (employed_by e me mine i h g a)
    employed i true q there = here-good e w.shared me (home_of e w.shared) (bound_of e w me) y h a b
        (why r now) g (owns h on)
    employed i false q there =
        go i (eqb-false i me q) (employed-scheduler e w k h.spot.carrier i there)

    pooled : (i largest : ℕ) (x : Content) (mine : Bool) → (i == me) ≡ mine
        → w.shared.places h.spot.carrier ≡ Pooled i largest x
        → IsRoute w.shared (pooled_by mine i largest h g a)
    pooled i largest x true q there = (
      b.core,
      (
        inl (ap word_of there, (largest, ap (λ j. word.Pooled j largest) (eqb-true i me q))),
        why r now,
      ),
    )
    pooled i largest x false q there =
        go i (eqb-false i me q) (k.placed.pooled h.spot.carrier i largest x there).4

    by : (p : CarrierAt) → w.shared.places h.spot.carrier ≡ p → HasEmployer me p
        → IsRoute w.shared (looked e me h g a (word_of p))
    by Absent there has = absurd has
    by (Returning j x) there has = absurd has
    by (Busy j) there has = go j has (busy-scheduler e w k h.spot.carrier j there)
    by (Employed j) there has = employed j (j == me) refl there
    by (Pooled j largest x) there has = pooled j largest x (j == me) refl there

  trying-good : (h : Named) (seen : OwnerWord) → a.stage ≡ Routed (Trying h seen) y g
      → (p : CarrierAt) → w.shared.places h.spot.carrier ≡ p → (b : Bool)
      → same_word (word_of p) seen ≡ b
      → IsRoute (moved_if (won_if b p) h.spot.carrier (Busy me) w.shared) (tried h g a (won_if b p))
  trying-good h seen now p there b same =
      by p there (subst (λ q. StillPooled me seen q ⊎ HasOther me q) there (its r now)) b same where
        r : Route Content
        r = Trying h seen

        on : migration e ≡ true
        on = there-on e w k h.spot.carrier
            (tried-there me seen (w.shared.places h.spot.carrier) (its r now))

        go : (i : ℕ) → i ≢ me → is_scheduler e i ≡ true → IsRoute w.shared (sent_to h i g a)
        go i other scheduler =
            sent h on i other scheduler (bare r now (λ n. refl)) (why r now)

        by : (p : CarrierAt) → w.shared.places h.spot.carrier ≡ p
            → StillPooled me seen p ⊎ HasOther me p → (b : Bool) → same_word (word_of p) seen ≡ b
            → IsRoute (moved_if (won_if b p) h.spot.carrier (Busy me) w.shared)
            (tried h g a (won_if b p))
        by Absent there (inl still) b same = absurd (let never = still.0 ∙ still.1.1 in cc)
        by Absent there (inr has) b same = absurd has
        by (Returning j x) there (inl still) b same = absurd (let never = still.0 ∙ still.1.1 in cc)
        by (Returning j x) there (inr has) b same = absurd has
        by (Employed j) there (inl still) b same = absurd (let never = still.0 ∙ still.1.1 in cc)
        by (Employed j) there (inr has) true same =
            go j has (employed-scheduler e w k h.spot.carrier j there)
        by (Employed j) there (inr has) false same =
            go j has (employed-scheduler e w k h.spot.carrier j there)
        by (Busy j) there (inl still) b same = absurd (let never = still.0 ∙ still.1.1 in cc)
        by (Busy j) there (inr has) true same =
            go j has (busy-scheduler e w k h.spot.carrier j there)
        by (Busy j) there (inr has) false same =
            go j has (busy-scheduler e w k h.spot.carrier j there)
        by (Pooled j l x) there f true same = (
          counted-core e (at_place h.spot.carrier (Busy me) w.shared) me
              (home_of e (at_place h.spot.carrier (Busy me) w.shared)) (bound_of e w me) _
              (a.instance.count - RELEASED_COUNT) a
              (λ n. blocks_named n (released x h.spot.offset))
              (core e w me is rule (Routed r y g) now (at_place h.spot.carrier (Busy me) w.shared)
              (λ n. blocks_named n (released x h.spot.offset)) (rule.present.walking me)
              (λ n. omega (
                arith,
                total-put (home_sum (blocks_named n)) w.shared.places h.spot.carrier (Busy me)
                    (slots e) (pooled-slot e w k h.spot.carrier j l x there),
                ap (home_sum (blocks_named n)) there,
                released-fewer n x h.spot.offset,
              ))),
          (((k.placed.pooled h.spot.carrier j l x there).1, on), why r now),
        )
        by (Pooled j l x) there (inr has) false same =
            go j has (k.placed.pooled h.spot.carrier j l x there).4
        by (Pooled j l x) there (inl still) false same =
            absurd (not_seen me seen (Pooled j l x) same still)

  settling-good : (x : Content) → a.stage ≡ Routed (Settling x) y g → (empty : Bool)
      → is_nil x.blocks ≡ empty
      → IsRoute (at_place x.number (settled_at me x empty) w.shared) (settled e me empty x g a)
  settling-good x now true nil =
      let s = at_place x.number (Employed me) w.shared in
      let multi = (its (Settling x) now).0 in
      let on = (its (Settling x) now).1 in
      leaving-good e s me (home_of e s) (bound_of e w me) y (owner_of x.number == me)
      (migration e) x g (struck x.number a) refl refl (ap can_go multi) (λ other. (multi, on))
      (λ on. nil-is x.blocks nil)
      (λ on. moved (Settling x) now x.number (Employed me) (λ n. blocks_named n x)
      (λ n. omega arith))
      (λ off. absurd (true≢false (sym on ∙ off))) (why (Settling x) now)
  settling-good x now false nil = (
    record {
      core = moved (Settling x) now x.number (pooled me x) (λ n. 0) (λ n. omega arith);
      own = own e w me is rule;
    },
    why (Settling x) now,
  )

  -- where a carrier comes to another place the route is over, or goes on
  placed-bare : (r : Route Content) → a.stage ≡ Routed r y g → (c : ℕ) (p : CarrierAt)
      → ((n : Counting) → home_sum (blocks_named n) p ≤ hand_named (Routed r y g) n)
      → BareAt (at_place c p w.shared)
  placed-bare r now c p less = record {
    core = moved r now c p (λ n. 0) (λ n. omega (arith, less n));
    own = own e w me is rule;
  }

  pub turned-good : (r : Route Content) → a.stage ≡ Routed r y g
      → IsRoute (effect me (wants_on r) w.shared)
      (turned e me r g a (answer me (wants_on r) w.shared))
  unfolding effect answer
  turned-good (Looking h) now = looking-good h now (w.shared.places h.spot.carrier) refl
  turned-good (Trying h seen) now = trying-good h seen now (w.shared.places h.spot.carrier) refl
      (same_word (word_of (w.shared.places h.spot.carrier)) seen) refl
  turned-good (Settling x) now = settling-good x now (is_nil x.blocks) refl
  turned-good (Abandoning x) now =
      let b = placed-bare (Abandoning x) now x.number (pooled me x) (λ n. omega arith) in
      (record { core = b.core; own = b.own }, why (Abandoning x) now)
  turned-good (Sending x) now = (
    moved (Sending x) now x.number (Returning (owner_of x.number) x) (λ n. 0) (λ n. omega arith),
    ((refl, (its (Sending x) now).2), why (Sending x) now),
  )
  turned-good (Clearing x) now =
      let b = placed-bare (Clearing x) now x.number Absent (λ n. omega arith) in (
        disowned-bare e (at_place x.number Absent w.shared) me _ (bound_of e w me) left x.number a
            (its (Clearing x) now).3 b,
        why (Clearing x) now,
      )
  turned-good (Pushing node to) now = (
    core e w me is rule (Routed (Pushing node to) y g) now _ (λ n. 0) (rule.present.walking me)
        (λ n. omega arith),
    (tt, why (Pushing node to) now),
  )
  turned-good (Linking node to) now = (
    record {
      core = core e w me is rule (Routed (Linking node to) y g) now _ (λ n. 0)
          (rule.present.walking me
          ∙ sym (linked-rest first_node linked-first node to me w.shared.rests))
          (λ n. omega arith);
      own = own e w me is rule;
    },
    why (Linking node to) now,
  )
