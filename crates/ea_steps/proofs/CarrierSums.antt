-- A carrier's identity, counted: its number and its birth, and with its units. A row leaves what
-- all contents weigh, with those that come into the hand; and an instance owns a carrier as often
-- as there are contents of its number.
use Rattle.std.proofs.Common.{◌≡◌, ◌≢◌, ℕ, ◌+◌, ◌*◌, ◌<◌, ◌≤◌, List, [], ◌∷◌, Bool, true, false}
use Rattle.std.proofs.Common.{refl, sym, ap, ◌∙◌, inl, inr, arith}
use Rattle.std.specs.Prelude.{Option, None, Some, ◌==◌, ◌&&◌, not}
use Rattle.std.proofs.lemmas.Bool.{cases_lt}
use Rattle.ea_model.specs.declared.carriers.BlockAt.{BlockAt}
use Rattle.ea_model.specs.Content.{Content, can_go, is_nil, is_vacant, placed, released, resized}
use Rattle.ea_model.specs.Instance.{owner_of}
use Rattle.ea_model.specs.Keyed.{changed_at, without}
use Rattle.ea_machine.specs.declared.stages.Route.{Route}
use Rattle.ea_machine.specs.declared.stages.Route.TheVariants.{Looking, Trying, Settling}
use Rattle.ea_machine.specs.declared.stages.Route.TheVariants.{Abandoning, Sending, Clearing}
use Rattle.ea_machine.specs.declared.stages.Route.TheVariants.{Pushing, Linking}
use Rattle.ea_machine.specs.declared.stages.Stage.{Stage}
use Rattle.ea_machine.specs.declared.stages.Stage.TheVariants.{Begin, Routed, Collecting, Searching}
use Rattle.ea_machine.specs.declared.stages.Stage.TheVariants.{Fetching, Creating, Giving, Taking}
use Rattle.ea_machine.specs.declared.stages.Stage.TheVariants.{Ended, Ready}
use Rattle.ea_machine.specs.declared.nodes.Node.{Node}
use Rattle.ea_machine.specs.Actor.{Actor}
use Rattle.ea_machine.specs.Machine.{begins, wants_at, wants_on}
use Rattle.ea_machine.specs.Owners.{CarrierAt, Absent, Employed, Pooled, Busy, Returning, same_word}
use Rattle.ea_machine.specs.Owners.{word_of}
use Rattle.ea_machine.specs.Setup.{Setup}
use Rattle.ea_machine.specs.Shared.{put}
use Rattle.ea_machine.specs.State.{State}
use Rattle.ea_machine.specs.Sums.{one_if, total}
use Rattle.ea_machine.specs.Table.{answer, effect, moved_if, pooled, settled_at}
use Rattle.ea_machine.specs.Table.{won_if}
use Rattle.ea_sound.specs.Blocks.{employed_sum}
use Rattle.ea_sound.specs.Contents.{actor_sum, hand_sum, home_sum, route_sum, seats, slots}
use Rattle.ea_sound.specs.Contents.{sum_everywhere}
use Rattle.ea_sound.specs.Moments.{with_actor}
use Rattle.ea_sound.specs.Places.{has_number}
use Rattle.ea_sound.specs.Rule.{Kept}
use Rattle.ea_sound.proofs.Employers.{there-slot}
use Rattle.ea_sound.proofs.SoundOwners.{number-owned, own-rising, own-used}
use Rattle.ea_sound.proofs.Totals.{total-put, total_at_past}
use Rattle.ea_steps.proofs.CarrierWeights.{Weight, own_times}
use Rattle.ea_steps.proofs.KeptCarriers.{fetched_by, if_empty, left_on}
use Rattle.ea_steps.proofs.StepCarriers.{left_at}

-- 1 for the carrier of that number and birth
abbrev pub of_birth : ℕ → ℕ → Content → ℕ
of_birth n b x = one_if ((x.number == n) && (x.birth == b))

-- with that many units
abbrev pub of_units : ℕ → ℕ → ℕ → Content → ℕ
of_units n b u x = one_if (((x.number == n) && (x.birth == b)) && (x.units == u))

-- for a carrier of the number that may stay as it is
abbrev pub staying : ℕ → Content → ℕ
staying n x = one_if ((x.number == n) && not (is_vacant x))

abbrev pub birth_weight : ℕ → ℕ → Weight
birth_weight n b = record {
  of = of_birth n b;
  Places = λ c. Unit {0};
  Shortens = λ c. Unit {0};
  release = λ x offset. omega arith;
  resize = λ x offset size name. omega arith;
  place = λ x offset need name h. omega arith;
  shorten = λ x pages h. omega arith;
}

-- fewer pages in a carrier of another number
pub units-other : (n b u m d v : ℕ) → m ≢ n → one_if (((m == n) && (d == b)) && (v == u)) ≡ 0
units-other n b u m d v other = grind (arith, other)

abbrev pub units_weight : ℕ → ℕ → ℕ → Weight
units_weight n b u = record {
  of = of_units n b u;
  Places = λ c. Unit {0};
  Shortens = λ c. c ≢ n;
  release = λ x offset. omega arith;
  resize = λ x offset size name. omega arith;
  place = λ x offset need name h. omega arith;
  shorten = λ x pages h. omega (arith, units-other n b u x.number x.birth (512 * pages) h);
}

-- a block fewer
pub nil-without : (offset : ℕ) (bs : List BlockAt) → is_nil bs ≡ true
    → is_nil (without (λ b. b.offset) offset bs) ≡ true
nil-without offset [] q = refl
nil-without offset (b ∷ bs) q = absurd cc

pub nil-changed : (g : BlockAt → BlockAt) (offset : ℕ) (bs : List BlockAt)
    → is_nil (changed_at (λ b. b.offset) g offset bs) ≡ is_nil bs
nil-changed g offset [] = refl
nil-changed g offset (b ∷ bs) = refl

pub staying-less : (m n : ℕ) (goes before after : Bool) → (before ≡ true → after ≡ true)
    → one_if ((m == n) && not (goes && after)) ≤ one_if ((m == n) && not (goes && before))
staying-less m n goes true after more = by after (more refl) where
  by : (after : Bool) → after ≡ true
      → one_if ((m == n) && not (goes && after)) ≤ one_if ((m == n) && not (goes && true))
  by true q = omega arith
  by false q = absurd cc
staying-less m n goes false true more = small (m == n) goes where
  small : (same goes : Bool)
      → one_if (same && not (goes && true)) ≤ one_if (same && not (goes && false))
  small true true = omega arith
  small true false = omega arith
  small false true = omega arith
  small false false = omega arith
staying-less m n goes false false more = omega arith

pub staying-other : (m n : ℕ) (t : Bool) → m ≢ n → one_if ((m == n) && t) ≡ 0
staying-other m n t other = grind (arith, other)

abbrev pub staying_weight : ℕ → Weight
staying_weight n = record {
  of = staying n;
  Places = λ c. c ≢ n;
  Shortens = λ c. Unit {0};
  release = λ x offset. staying-less x.number n (can_go x.kind) (is_nil x.blocks)
      (is_nil (released x offset).blocks) (nil-without offset x.blocks);
  resize = λ x offset size name. staying-less x.number n (can_go x.kind) (is_nil x.blocks)
      (is_nil (resized x offset size name).blocks)
      (λ q. nil-changed (λ b. record { name = name; offset = b.offset; size = size }) offset
      x.blocks ∙ q);
  place = λ x offset need name h. omega (
    arith,
    staying-other x.number n (not (is_vacant (placed x offset need name))) h,
  );
  shorten = λ x pages h. omega arith;
}

module _ (e : Setup) (w : State) (k : Kept e w) where
  -- contents of a number are as many as own carriers of it
  pub numbers-own : (c : ℕ) → sum_everywhere e (has_number c) w
      ≡ own_times c (w.actors (owner_of c)).instance
  numbers-own c = number-owned e w k c
      ∙ sym (own-used c (w.actors (owner_of c)).instance.own (own-rising e w k (owner_of c)))

  module _ (f : Content → ℕ) where
    abbrev at_home : (ℕ → CarrierAt) → ℕ
    at_home places = total (slots e) (home_sum f) places

    -- a carrier comes to another place
    placed-home : (n : ℕ) (p : CarrierAt)
        → at_home (put w.shared.places n p) ≤ at_home w.shared.places + home_sum f p
    placed-home n p = elim (cases_lt n (slots e)) [
      | inl slot ↦ omega (arith, total-put (home_sum f) w.shared.places n p (slots e) slot)
      | inr past ↦ omega (
        arith,
        total_at_past (λ i. home_sum f) w.shared.places n p (slots e) past,
      )
    ]

    won-home : (n i g : ℕ) (x : Content) (p : CarrierAt) → w.shared.places n ≡ Pooled i g x
        → home_sum f p ≡ 0
        → at_home (put w.shared.places n p) + f x ≤ at_home w.shared.places
    won-home n i g x p there none =
        let slot = there-slot e w k n
        (λ q. let never : Pooled i g x ≡ Absent = sym there ∙ q in cc) in
        omega (
          arith,
          total-put (home_sum f) w.shared.places n p (slots e) slot,
          ap (home_sum f) there,
          none,
        )

    tried-home : (n : ℕ) (t : Bool) (p to : CarrierAt) → w.shared.places n ≡ p
        → home_sum f to ≡ 0
        → at_home (moved_if (won_if t p) n to w.shared).places + fetched_by (won_if t p) f
        ≤ at_home w.shared.places
    tried-home n true (Pooled i g x) to there none = won-home n i g x to there none
    tried-home n true Absent to there none = omega arith
    tried-home n true (Employed i) to there none = omega arith
    tried-home n true (Busy i) to there none = omega arith
    tried-home n true (Returning i x) to there none = omega arith
    tried-home n false p to there none = omega arith

    settled-home : (me : ℕ) (x : Content) (empty : Bool)
        → home_sum f (settled_at me x empty) + if_empty empty x f ≡ f x
    settled-home me x true = omega arith
    settled-home me x false = omega arith

    module _ (me : ℕ) (next : Option Node) where
      -- what is at home after the row, with what it leaves in the hand
      abbrev LeavesHome : Stage Content → Type 0
      LeavesHome st = at_home (effect me (wants_at next st) w.shared).places
          + left_at st (answer me (wants_at next st) w.shared) f
          ≤ at_home w.shared.places + hand_sum f f st

      begin-home : (o : Option Node) → at_home (effect me (begins o) w.shared).places
          ≡ at_home w.shared.places
      unfolding effect
      begin-home None = refl
      begin-home (Some node) = refl

      route-home : (z : Route Content) → at_home (effect me (wants_on z) w.shared).places
          + left_on z (answer me (wants_on z) w.shared) f
          ≤ at_home w.shared.places + route_sum f f z
      unfolding effect answer
      route-home (Looking hand) = omega arith
      route-home (Trying hand seen) = omega (
        arith,
        tried-home hand.spot.carrier
            (same_word (word_of (w.shared.places hand.spot.carrier)) seen)
            (w.shared.places hand.spot.carrier) (Busy me) refl refl,
      )
      route-home (Settling x) = omega (
        arith,
        placed-home x.number (settled_at me x (is_nil x.blocks)),
        settled-home me x (is_nil x.blocks),
      )
      route-home (Abandoning x) = omega (arith, placed-home x.number (pooled me x))
      route-home (Sending x) =
          omega (arith, placed-home x.number (Returning (owner_of x.number) x))
      route-home (Clearing x) = omega (arith, placed-home x.number Absent)
      route-home (Pushing node to) = omega arith
      route-home (Linking node to) = omega arith

      pub row-home : (st : Stage Content) → LeavesHome st
      unfolding effect answer
      row-home Begin = omega (arith, begin-home next)
      row-home (Routed z why gone) = route-home z
      row-home (Collecting n) = omega (arith, placed-home n Absent)
      row-home (Searching ask n part) = omega arith
      row-home (Fetching ask n part seen) = omega (
        arith,
        tried-home n (same_word (word_of (w.shared.places n)) seen) (w.shared.places n)
            (Employed me) refl refl,
      )
      row-home (Creating ask p) = omega (arith, placed-home p.number (Employed me))
      row-home (Giving given to) = omega arith
      row-home (Taking n tries left) = omega arith
      row-home Ended = omega arith
      row-home Ready = omega arith

      -- and what all contents weigh once the scheduler has done its work
      pub sum-step : (st : Stage Content) → me < seats e → (w.actors me).stage ≡ st
          → (b : Actor) (more : ℕ) → actor_sum f f b ≤ employed_sum f (w.actors me).instance
          + left_at st (answer me (wants_at next st) w.shared) f + more
          → sum_everywhere e f (with_actor w (effect me (wants_at next st) w.shared) me b)
          ≤ sum_everywhere e f w + more
      sum-step st seat now b more less = omega (
        arith,
        less,
        row-home st,
        total-put (actor_sum f f) w.actors me b (seats e) seat,
        ap (λ (at : Stage Content). hand_sum f f at) now,
      )
