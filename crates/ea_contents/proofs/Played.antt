-- A play has gone on by turns of all kinds.
use Rattle.std.proofs.Common.{◌≡◌, ℕ, zero, suc, ◌+◌, ◌-◌, ◌<◌, ◌≤◌, List, [], ◌∷◌}
use Rattle.std.proofs.Common.{◌++◌, Bool, true, false, refl, sym, ap, ◌∙◌, subst, arith, length}
use Rattle.std.proofs.Common.{get_or}
use Rattle.std.specs.Prelude.{◌&&◌, All, Option, None, Some, is_none, is_some, map}
use Rattle.std.specs.Prelude.{not, replicate, take}
use Rattle.std.specs.List.{range_with_len}
use Rattle.std.proofs.lemmas.List.{length-map, length-replicate, replicate-append-replicate}
use Rattle.std.proofs.lemmas.List.{take_all}
use Rattle.ea_model.specs.declared.outcome.Outcome.{Outcome}
use Rattle.ea_model.specs.declared.settings.Config.{Config}
use Rattle.ea_model.specs.declared.trace.Trace.{Trace}
use Rattle.ea_model.specs.declared.trace.Turns.{Turns}
use Rattle.ea_model.specs.Lists.{Items}
use Rattle.ea_machine.specs.Machine.{run}
use Rattle.ea_machine.specs.Outcome.{outcome}
use Rattle.ea_machine.specs.Setup.{Setup, setup_of}
use Rattle.ea_machine.specs.State.{State}
use Rattle.ea_sound.specs.Turns.{is_ended}
use Rattle.ea_sound.proofs.Schedules.{turns-more, turns_from}
use Rattle.ea_sound.proofs.TurnLists.{ended-is, not-ended}
use Rattle.ea_contents.specs.declared.access.Access.{Access}
use Rattle.ea_contents.specs.declared.access.AccessEntry.{AccessEntry}
use Rattle.ea_contents.specs.declared.input.Placed.{Placed}
use Rattle.ea_contents.specs.declared.playing.Play.{Play}
use Rattle.ea_contents.specs.Model.{Moment, Script, complete, completing, finishing, opening, play}
use Rattle.ea_contents.specs.Model.{play_on, steps_in, turn, waiting}
use Rattle.ea_contents.specs.Placing.{first_of}
use Rattle.ea_contents.specs.Playing.{HasCompleted, HasPlayed, HasPlayedOut, IsPlay, PlayHas}
use Rattle.ea_contents.specs.Playing.{IsOutcome, PlayTells, PlaysAs, outcome_played}
use Rattle.ea_contents.specs.Playing.{shown_played, turns_to}
use Rattle.ea_contents.specs.Script.{IsRising, list_for, script_of}
use Rattle.ea_contents.specs.Sessions.{IsSession, SessionTells, StandsWith}
use Rattle.ea_contents.proofs.Endings.{CompletesTo, LeadsTo, completes-first, completes-last}
use Rattle.ea_contents.proofs.Endings.{completes-next, leads-first, leads-last, leads-next}
use Rattle.ea_contents.proofs.Moments.{play-append, play-state}
use Rattle.ea_contents.proofs.Places.{at-first}
use Rattle.ea_contents.proofs.Plays.{has-is, has-trace, has-valid, is-has, lists-are, no-stops}
use Rattle.ea_contents.proofs.Plays.{outcome-same, place, rests-stays, turn-left, turns-are}

abbrev pub Taken : List ℕ → Play → Play → Type 0
Taken turns = HasPlayed (λ setup script m. turns)

module _ (p q : Play) (turns : Setup → Script → Moment → List ℕ) (is : IsPlay p)
    (goes : HasPlayed turns p q) where
  pub goes-is : IsPlay q
  goes-is =
      let (c, t, ss, m, at) = is in (
        c,
        t,
        ss,
        play_on (setup_of c t) (script_of ss) m (turns (setup_of c t) (script_of ss) m),
        goes c t ss m at,
      )

  pub goes-has : (i : ℕ) → PlayHas i p → PlayHas i q
  goes-has i has =
      let (c, t, ss, m, at) = is in
      is-has c t ss (play_on (setup_of c t) (script_of ss) m
      (turns (setup_of c t) (script_of ss) m)) q (goes c t ss m at) i (has-is c t ss m p at i has)

-- its session
pub session-is : (p : Play) → IsPlay p → IsSession p.session
session-is p is =
    let (c, t, ss, m, at) = is in
    (c, t, at.taken, m.lists, at.session)

pub ended-told : (p : Play) (i : ℕ) (ends : Bool)
    → SessionTells (λ setup turns lists. ends ≡ is_ended ((run setup turns).actors i).stage)
    p.session → PlayTells (λ setup script m. ends ≡ is_ended (m.state.actors i).stage) p
ended-told p i ends told = λ c t ss m at. told c t at.taken m.lists at.session
    ∙ ap (λ (w : State). is_ended (w.actors i).stage) (sym at.state)

both-so : (a b : Bool) → (a && b) ≡ true → (a ≡ true) × (b ≡ true)
both-so true b is = (refl, is)
both-so false b is = absurd cc

none-is : (o : Option Access) → is_none o ≡ true → o ≡ None
none-is None is = refl
none-is (Some a) is = absurd cc

-- whether more turns change nothing
pub rests-not : (p : Play) (i : ℕ) (ends : Bool)
    → PlayTells (λ setup script m. ends ≡ is_ended (m.state.actors i).stage) p → ends ≡ false
    → PlayTells (λ setup script m. false
    ≡ (is_ended (m.state.actors i).stage && is_none (first_of (waiting setup script m i)))) p
rests-not p i ends told going = λ c t ss m at.
    ap (λ b. b && is_none (first_of (waiting (setup_of c t) (script_of ss) m i)))
    (sym going ∙ told c t ss m at)

none-by : (o : Option Access) (rests : Bool) → is_some o ≡ not rests → rests ≡ is_none o
none-by None true is = refl
none-by None false is = absurd cc
none-by (Some a) true is = absurd cc
none-by (Some a) false is = refl

pub rests-so : (p : Play) (i : ℕ) (ends : Bool)
    → PlayTells (λ setup script m. ends ≡ is_ended (m.state.actors i).stage) p → ends ≡ true
    → (next : Option Access)
    → PlayTells (λ setup script m. next ≡ first_of (waiting setup script m i)) p
    → (rests : Bool) → is_some next ≡ not rests
    → PlayTells (λ setup script m. rests
    ≡ (is_ended (m.state.actors i).stage && is_none (first_of (waiting setup script m i)))) p
rests-so p i ends told over next seen rests is = λ c t ss m at.
    none-by next rests is ∙ ap is_none (seen c t ss m at)
    ∙ ap (λ b. b && is_none (first_of (waiting (setup_of c t) (script_of ss) m i)))
    (sym over ∙ told c t ss m at)

-- no turns
pub taken-none : (p : Play) (k : ℕ) (i : ℕ) → k ≡ 0 → Taken (replicate k i) p p
taken-none p k i none = λ c t ss m at.
    subst (λ j. PlaysAs c t ss (play_on (setup_of c t) (script_of ss) m (replicate j i)) p)
    (sym none) at

-- turns, and more
pub taken-append : (p q r : Play) (xs ys : List ℕ) → Taken xs p q → Taken ys q r
    → Taken (xs ++ ys) p r
taken-append p q r xs ys first then = λ c t ss m at.
    let e = setup_of c t in
    let script = script_of ss in
    subst (λ n. PlaysAs c t ss n r) (sym (play-append e script m xs ys))
    (then c t ss (play_on e script m xs) (first c t ss m at))

pub taken-count : (p q : Play) (i k count : ℕ) → k ≡ count → Taken (replicate k i) p q
    → Taken (replicate count i) p q
taken-count p q i k count same = subst (λ j. Taken (replicate j i) p q) same

-- one turn more
pub taken-more : (p q r : Play) (i k : ℕ) → Taken (replicate k i) p q → Taken (i ∷ []) q r
    → Taken (replicate (k + 1) i) p r
taken-more p q r i k first then =
    subst (λ xs. Taken xs p r) (replicate-append-replicate k 1 i)
    (taken-append p q r (replicate k i) (replicate 1 i) first then)

-- those that change nothing are left out
pub taken-rest : (p q : Play) (i k count : ℕ) → k ≤ count → PlayHas i q → (rests : Bool)
    → rests ≡ true → PlayTells (λ setup script m. rests
    ≡ (is_ended (m.state.actors i).stage && is_none (first_of (waiting setup script m i)))) q
    → Taken (replicate k i) p q → Taken (replicate count i) p q
taken-rest p q i k count few has rests is told first = λ c t ss m at.
    let e = setup_of c t in
    let script = script_of ss in
    let n = play_on e script m (replicate k i) in
    let then = first c t ss m at in
    let both = both-so (is_ended (n.state.actors i).stage)
    (is_none (first_of (waiting e script n i))) (sym (told c t ss n then) ∙ is) in
    let stays = rests-stays c t ss n q then i has (count - k) both.0
    (none-is (first_of (waiting e script n i)) both.1) in
    subst (λ o. PlaysAs c t ss o q)
    (sym (ap (λ j. play_on e script m (replicate j i)) (sum k count few)
    ∙ ap (play_on e script m) (sym (replicate-append-replicate k (count - k) i))
    ∙ play-append e script m (replicate k i) (replicate (count - k) i) ∙ stays)) then
  where
    sum : (k count : ℕ) → k ≤ count → count ≡ k + (count - k)
    sum k count few = omega (arith, few)

-- those of one entry more of a schedule
pub schedule-more : (p q r : Play) (schedule : List Turns) (i : ℕ) (d : Turns)
    → i < length schedule → Taken (turns_from (take i schedule)) p q
    → Taken (replicate (get_or schedule i d).count (get_or schedule i d).scheduler) q r
    → Taken (turns_from (take (i + 1) schedule)) p r
schedule-more p q r schedule i d within first then =
    let x = get_or schedule i d in
    subst (λ xs. Taken xs p r) (sym (turns-more schedule i d within))
    (taken-append p q r (turns_from (take i schedule)) (replicate x.count x.scheduler) first then)

pub schedule-all : (p q : Play) (schedule : List Turns) (i : ℕ) → length schedule ≤ i
    → Taken (turns_from (take i schedule)) p q → Taken (turns_from schedule) p q
schedule-all p q schedule i all =
    subst (λ xs. Taken (turns_from xs) p q) (take_all i schedule all)

-- turns of a scheduler to its end: of those from where p stood, q has taken the first ones
abbrev pub IsEnding : ℕ → Play → Play → Type 0
IsEnding i p q = (c : Config) (t : Trace) (ss : List (List Placed)) (m : Moment)
    → PlaysAs c t ss m p → (now : Moment) × PlaysAs c t ss now q
    × LeadsTo (setup_of c t) (script_of ss) i
    (play_on (setup_of c t) (script_of ss) m (finishing (setup_of c t) (script_of ss) m i)) now

pub ending-first : (i : ℕ) (p : Play) → IsEnding i p p
ending-first i p = λ c t ss m at. (m, at, leads-first (setup_of c t) (script_of ss) i m)

module _ (i : ℕ) (p q : Play) (is : IsPlay p) (has : PlayHas i p) (goes : IsEnding i p q) where
  pub ending-is : IsPlay q
  ending-is =
      let (c, t, ss, m, at) = is in
      let (now, then, leads) = goes c t ss m at in
      (c, t, ss, now, then)

  pub ending-has : PlayHas i q
  ending-has =
      let (c, t, ss, m, at) = is in
      let (now, then, leads) = goes c t ss m at in
      is-has c t ss now q then i (has-is c t ss m p at i has)

  module _ (ends : Bool)
      (told : PlayTells (λ setup script m. ends ≡ is_ended (m.state.actors i).stage) q) where
    module _ (r : Play) (going : ends ≡ false) (taken : Taken (i ∷ []) q r) where
      pub ending-next : IsEnding i p r
      ending-next = λ c t ss m at.
          let e = setup_of c t in
          let script = script_of ss in
          let (now, then, leads) = goes c t ss m at in
          let stage = not-ended (now.state.actors i).stage (sym (told c t ss now then) ∙ going) in (
            turn e script now i,
            taken c t ss now then,
            leads-next c t (has-valid c t ss now q then) (has-trace c t ss now q then) script i now
                then.taken then.state (place c t ss now q then i ending-has).few stage
                (play_on e script m (finishing e script m i)) leads,
          )

      pub ending-less : turns_to i r < turns_to i q
      ending-less =
          let (c, t, ss, m, at) = is in
          let e = setup_of c t in
          let script = script_of ss in
          let (now, then, leads) = goes c t ss m at in
          let stage = not-ended (now.state.actors i).stage (sym (told c t ss now then) ∙ going) in
          let next = taken c t ss now then in
          omega (
            arith,
            turn-left c t ss now q then i ending-has stage,
            turns-are c t ss now q then i ending-has,
            turns-are c t ss (turn e script now i) r next i
                (goes-has q r (λ setup script m. i ∷ []) ending-is taken i ending-has),
          )

    pub ending-last : ends ≡ true → HasPlayedOut i p q
    ending-last over = λ c t ss m at.
        let e = setup_of c t in
        let script = script_of ss in
        let (now, then, leads) = goes c t ss m at in
        subst (λ n. PlaysAs c t ss n q)
        (sym (leads-last e script i (play_on e script m (finishing e script m i)) now
        (ended-is (now.state.actors i).stage (sym (told c t ss now then) ∙ over)) leads)) then

-- those of all schedulers
abbrev pub IsCompleting : ℕ → Play → Play → Type 0
IsCompleting first p q = (c : Config) (t : Trace) (ss : List (List Placed)) (m : Moment)
    → PlaysAs c t ss m p → (now : Moment) × PlaysAs c t ss now q
    × CompletesTo (setup_of c t) (script_of ss) first
    (play_on (setup_of c t) (script_of ss) m
    (completing (setup_of c t) (script_of ss) c.schedulers 1 m)) now

pub completing-first : (p : Play) → IsCompleting 0 p p
completing-first p = λ c t ss m at. (m, at, completes-first (setup_of c t) (script_of ss) m)

module _ (count first : ℕ) (p q : Play) (is : IsPlay p)
    (all : PlayTells (λ setup script m. count ≡ setup.schedulers) p)
    (goes : IsCompleting first p q) where
  pub completing-is : IsPlay q
  completing-is =
      let (c, t, ss, m, at) = is in
      let (now, then, leads) = goes c t ss m at in
      (c, t, ss, now, then)

  pub completing-has : first < count → PlayHas (first + 1) q
  completing-has below =
      let (c, t, ss, m, at) = is in
      let (now, then, leads) = goes c t ss m at in
      is-has c t ss now q then (first + 1)
      (omega arith, omega (arith, below, all c t ss m at))

  pub completing-next : (r : Play) → first < count → HasPlayedOut (first + 1) q r
      → IsCompleting (first + 1) p r
  completing-next r below out = λ c t ss m at.
      let e = setup_of c t in
      let script = script_of ss in
      let (now, then, leads) = goes c t ss m at in (
        play_on e script now (finishing e script now (first + 1)),
        out c t ss now then,
        completes-next e script first
            (play_on e script m (completing e script c.schedulers 1 m)) now
            (omega (arith, below, all c t ss m at)) leads,
      )

  pub completing-last : count ≤ first → HasCompleted p q
  completing-last past = λ c t ss m at.
      let e = setup_of c t in
      let script = script_of ss in
      let (now, then, leads) = goes c t ss m at in
      subst (λ n. PlaysAs c t ss n q)
      (sym (completes-last e script first
      (play_on e script m (completing e script c.schedulers 1 m)) now
      (omega (arith, past, all c t ss m at)) leads)) then

-- a play has schedulers of one run
pub same-many : (c : Config) (p : Play) (t : Trace) (ss : List (List Placed)) (m : Moment)
    → PlaysAs c t ss m p → PlayTells (λ setup script n. c.schedulers ≡ setup.schedulers) p
same-many c p t ss m at = λ d u rr n then. sym at.each ∙ then.each

-- before its first turn
none-listed : {A : Type 0} (n i : ℕ) → list_for {A = A} (replicate n []) i ≡ []
none-listed n zero = refl
none-listed zero (suc i) = refl
none-listed (suc n) (suc zero) = refl
none-listed (suc n) (suc (suc i)) = none-listed n (suc i)

pub first-stands : (c : Config) (t : Trace) (xs : List (Items Placed)) (p : Play)
    → p.sections.now ≡ xs → length xs ≡ c.schedulers
    → All IsRising (map (λ (s : Items Placed). s.items) xs)
    → map (λ (s : Items AccessEntry). s.items) p.shown.items ≡ replicate c.schedulers []
    → StandsWith c t [] (λ name. []) p.session
    → PlaysAs c t (map (λ (s : Items Placed). s.items) xs) (opening (setup_of c t)) p
first-stands c t xs p sections many rising shown stands = record {
  taken = [];
  session = stands;
  state = refl;
  script = ap (map (λ (s : Items Placed). s.items)) sections;
  many = ap length sections ∙ many;
  each = sym (length-map p.shown.items (λ (s : Items AccessEntry). s.items)) ∙ ap length shown
      ∙ length-replicate c.schedulers [];
  shown = λ i is. ap (λ ys. list_for ys i) shown ∙ none-listed c.schedulers i;
  places = λ i is. at-first (list_for (map (λ (s : Items Placed). s.items) xs) i)
      (rising-at (map (λ (s : Items Placed). s.items) xs) i rising is.0
      (omega (arith, is.1, many, length-map xs (λ (s : Items Placed). s.items))));
}
  where
    rising-at : (ys : List (List Placed)) (i : ℕ) → All IsRising ys → 1 ≤ i → i ≤ length ys
        → IsRising (list_for ys i)
    rising-at ys zero all some upto = absurd (omega (arith, some))
    rising-at ys (suc i) all some upto = all i [] (omega (arith, upto))

-- what is printed of a play
pub outcome-told : (p : Play) (o : Outcome)
    → SessionTells (λ setup turns lists. o ≡ outcome setup turns) p.session
    → PlayTells (λ setup script m. IsOutcome o setup m.state) p
outcome-told p o told c t ss m at turns is =
    told c t at.taken m.lists at.session
    ∙ outcome-same (setup_of c t) (no-stops c t ss m p at) at.taken turns (sym at.state ∙ is)

pub shown-told : (p : Play) → PlayTells (λ setup script m.
    map (λ (s : Items AccessEntry). s.items) p.shown.items
    ≡ map m.shown (range_with_len 1 setup.schedulers)) p
shown-told p c t ss m at = lists-are p.shown.items m.shown c.schedulers at.each at.shown

-- the whole run
module _ (c : Config) (t : Trace) (ss : List (List Placed)) (p q r : Play) (schedule : List Turns)
    (begins : PlaysAs c t ss (opening (setup_of c t)) p)
    (taken : Taken (turns_from schedule) p q) (completed : HasCompleted q r) where
  abbrev e : Setup
  e = setup_of c t

  abbrev script : Script
  script = script_of ss

  abbrev turns : List ℕ
  turns = complete e script (turns_from schedule)

  abbrev last : Moment
  last = play e script turns

  pub all-played : PlaysAs c t ss (play e script (complete e script (turns_from schedule))) r
  all-played =
      let first = turns_from schedule in
      let n = play e script first in
      subst (λ o. PlaysAs c t ss o r)
      (sym (play-append e script (opening e) first (completing e script e.schedulers 1 n)))
      (completed c t ss n (taken c t ss (opening e) begins))

  pub all-outcome : (o : Outcome)
      → PlayTells (λ setup script m. IsOutcome o setup m.state) r
      → o ≡ outcome_played e script (turns_from schedule)
  all-outcome o told = told c t ss last all-played (steps_in e script (opening e) turns)
      (play-state e script (opening e) turns)

  pub all-shown : (xs : List (List AccessEntry))
      → PlayTells (λ setup script m. xs ≡ map m.shown (range_with_len 1 setup.schedulers)) r
      → xs ≡ shown_played e script (turns_from schedule)
  all-shown xs told = told c t ss last all-played
