-- What a row leaves of what a scheduler keeps by itself.
use Rattle.std.proofs.Common.{◌≡◌, ℕ, ◌+◌, ◌<◌, ◌≤◌, List, true, refl, sym, ap, ◌∙◌, inl, inr}
use Rattle.std.proofs.Common.{arith}
use Rattle.std.proofs.lemmas.Bool.{cases_lt, true≢false}
use Rattle.ea_model.specs.declared.operations.Op.{Op}
use Rattle.ea_model.specs.Content.{Content}
use Rattle.ea_machine.specs.declared.stages.Stage.{Stage}
use Rattle.ea_machine.specs.Actor.{Actor}
use Rattle.ea_sound.specs.Contents.{actor_sum, hand_sum, home_sum, seats, slots}
use Rattle.ea_sound.specs.Names.{made_in, only, unplaced}
use Rattle.ea_machine.specs.Nodes.{first_node}
use Rattle.ea_machine.specs.Releases.{disowned}
use Rattle.ea_machine.specs.Setup.{Setup, is_scheduler, migration}
use Rattle.ea_machine.specs.Shared.{Shared, put}
use Rattle.ea_machine.specs.State.{State}
use Rattle.ea_machine.specs.Sums.{total}
use Rattle.ea_sound.specs.Present.{Rule}
use Rattle.ea_sound.specs.Rule.{Kept, Standing}
use Rattle.ea_sound.proofs.FewBlocks.{Counting, blocks_named}
use Rattle.ea_sound.proofs.HeldNames.{times_held}
use Rattle.ea_sound.proofs.Hits.{stands-allocated}
use Rattle.ea_sound.proofs.Numbered.{scheduler-seat}
use Rattle.ea_laws.proofs.Orderly.{disowning-IsOrderly}
use Rattle.ea_sound.proofs.Suits.{Bare, CoreOf}
use Rattle.ea_sound.proofs.Totals.{total-part, total-put, total_at_past}
use Rattle.ea_laws.proofs.Standing.{counted-Stands}
use Rattle.ea_model.specs.Settings.{most_count}
use Rattle.ea_laws.proofs.Orderly.{counted-IsOrderly}

-- another value makes a total greater by what it counts, at most
pub put-more : {A : Type 0} (f : A → ℕ) (m : ℕ → A) (k : ℕ) (v : A) (n : ℕ)
    → total n f (put m k v) ≤ total n f m + f v
put-more f m k v n = elim (cases_lt k n) [
  | inl l ↦ omega (arith, total-put f m k v n l)
  | inr past ↦ omega (arith, total_at_past (λ i. f) m k v n past)
]

-- the blocks of a name at home, and the bound of what a scheduler and these may have of it
abbrev pub home_of : Setup → Shared → Counting → ℕ
home_of e s n = total (slots e) (home_sum (blocks_named n)) s.places

abbrev pub bound_of : Setup → State → ℕ → Counting → ℕ
bound_of e w me n = actor_sum (blocks_named n) (blocks_named n) (w.actors me)
    + home_of e w.shared n + made_in n.name (unplaced (w.actors me).stage (w.actors me).todo)

-- the blocks of a name in the hand
abbrev pub hand_named : Stage Content → Counting → ℕ
hand_named stage n = hand_sum (blocks_named n) (blocks_named n) stage

-- where carriers migrate an instance may no longer own one
pub disowned-bare : (e : Setup) (s : Shared) (me : ℕ) (home bound : Counting → ℕ) (left : List Op)
    (c : ℕ) (a : Actor) → migration e ≡ true → Bare e s me home bound left a
    → Bare e s me home bound left (disowned c a)
disowned-bare e s me home bound left c a on b = record {
  core = record {
    stay = b.core.stay;
    history = b.core.history;
    walking = b.core.walking;
    few = b.core.few;
    rising = b.core.rising;
    names = b.core.names;
    stands = λ off. absurd (true≢false (sym on ∙ off));
    main = b.core.main;
  };
  own = record {
    settings = b.own.settings;
    number = b.own.number;
    first = b.own.first;
    end = b.own.end;
    count = b.own.count;
    order = disowning-IsOrderly a.instance c b.own.order;
  };
}

-- a scheduler of another count
module _ (e : Setup) (s : Shared) (me : ℕ) (home bound : Counting → ℕ) (left : List Op) (n : ℕ)
    (a : Actor) where
  pub counted-core : (x : Counting → ℕ) → CoreOf e s me home bound left x a
      → CoreOf e s me home bound left x (record a { instance = record a.instance { count = n } })
  counted-core x c = record {
    stay = c.stay;
    history = c.history;
    walking = c.walking;
    few = c.few;
    rising = c.rising;
    names = c.names;
    stands = λ off. counted-Stands n a.instance (c.stands off);
    main = c.main;
  }

  pub counted-bare : n ≤ most_count e.settings → Bare e s me home bound left a
      → Bare e s me home bound left (record a { instance = record a.instance { count = n } })
  counted-bare most b = record {
    core = counted-core (λ n. 0) b.core;
    own = record {
      settings = b.own.settings;
      number = b.own.number;
      first = b.own.first;
      end = b.own.end;
      count = most;
      order = counted-IsOrderly n a.instance b.own.order;
    };
  }

module _ (e : Setup) (w : State) (me : ℕ) (is : is_scheduler e me ≡ true) (rule : Rule e w) where
  abbrev pub a : Actor
  a = w.actors me

  pub k : Kept e w
  k = rule.kept

  pub seat : me < seats e
  seat = scheduler-seat e me is

  pub own : Standing e me a.instance
  own = k.ranges.instances me is

  abbrev pub CoreAt : Shared → List Op → (Counting → ℕ) → Type 0
  CoreAt s left x = CoreOf e s me (home_of e s) (bound_of e w me) left x a

  pub names : (stage : Stage Content) → a.stage ≡ stage → (n : ℕ)
      → times_held n a.held + made_in n (unplaced stage a.todo) ≤ 1
  names stage now n = omega (
    arith,
    stands-allocated e w me seat k a refl (only n),
    rule.present.later n,
    total-part (λ (b : Actor). made_in n (unplaced b.stage b.todo)) w.actors me (seats e) seat,
    ap (λ st. made_in n (unplaced st a.todo)) now,
  )

  pub core : (stage : Stage Content) → a.stage ≡ stage → (s : Shared) (x : Counting → ℕ)
      → a.next ≡ first_node (s.rests me)
      → ((n : Counting) → x n + home_of e s n ≤ hand_named stage n + home_of e w.shared n)
      → CoreAt s (unplaced stage a.todo) x
  core stage now s x walks less =
      let h = rule.present.history me in
      record {
        stay = (rule.present.contents me, rule.present.singles me);
        history = (h.done, h.split, h.each);
        walking = walks;
        few = λ n. omega (
          arith,
          less n,
          ap (λ st. hand_named st n) now,
          ap (λ st. made_in n.name (unplaced st a.todo)) now,
        );
        rising = rule.present.held me;
        names = names stage now;
        stands = λ off. rule.present.stands off me is;
        main = rule.present.main me is;
      }

  -- a row that leaves places and rests
  pub still : (stage : Stage Content) → a.stage ≡ stage
      → CoreAt w.shared (unplaced stage a.todo) (hand_named stage)
  still stage now = core stage now w.shared (hand_named stage) (rule.present.walking me)
      (λ n. omega arith)
