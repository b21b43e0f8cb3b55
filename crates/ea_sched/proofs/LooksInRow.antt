-- Looks of a search that a scheduler takes in a row.
use Rattle.std.proofs.Common.{◌≡◌, ℕ, ◌-◌, ◌<◌, ◌≤◌, refl, sym, ap, ◌∙◌, subst, arith}
use Rattle.std.specs.Prelude.{Option, None, Some, IfSome, replicate}
use Rattle.ea_machine.specs.declared.asks.Ask.{Ask}
use Rattle.ea_machine.specs.declared.parts.Part.TheVariants.{Pool}
use Rattle.ea_machine.specs.declared.stages.Stage.TheVariants.{Searching}
use Rattle.ea_machine.specs.Lists.{counts}
use Rattle.ea_machine.specs.Machine.{run, run_on}
use Rattle.ea_machine.specs.Owners.{word_of}
use Rattle.ea_machine.specs.Shared.{Shared}
use Rattle.ea_machine.specs.State.{State}
use Rattle.ea_sound.proofs.PassedLooks.{search-passed}
use Rattle.ea_shared.specs.Calls.{Caller, Told}
use Rattle.ea_shared.specs.Carriers.{CountsNone}
use Rattle.ea_sched.specs.declared.state.Scheduler.{Scheduler}
use Rattle.ea_sched.specs.Acting.{actor_of, setup_for, standing_at}
use Rattle.ea_sched.specs.Looks.{AreLeft}
use Rattle.ea_sched.specs.Steps.{IsReady, Stepped}
use Rattle.ea_sched.proofs.Doing.{none-told, telling}

-- fewer steps are left, too
pub fewer-left : (o : Option ℕ) (most k : ℕ) → AreLeft most o → k ≤ most → AreLeft k o
fewer-left None most k left fewer = tt
fewer-left (Some n) most k left fewer = omega (arith, left, fewer)

-- nor do those that a greater number leaves
pub fewer-counted : (o : Option Shared) (last n at : ℕ) → last ≤ n → IfSome o (CountsNone last at)
    → IfSome o (CountsNone n at)
fewer-counted None last n at upto none = tt
fewer-counted (Some s) last n at upto none = λ i low high. none i (omega (arith, upto, low)) high

-- the search is to look at a number of the pool, comes down from it by that many, and has some left
-- then; no word that it passes over counts
module _ (s : Scheduler) (ask : Ask) (at left looked : ℕ)
    (is : s.stage ≡ Searching ask at (Pool left looked)) (last count : ℕ) (some : 1 ≤ count)
    (down : count < at) (fewer : count < left) (over : last ≤ at - count) where
  abbrev me : ℕ
  me = s.number

  -- it is as after that many turns
  pub looks-stepped : (told : Told) → IsReady s told → IfSome told.shared (CountsNone last at)
      → IfSome told.caller (λ x. last ≡ at) → Stepped s.config s.trace.now me count (actor_of s)
      (standing_at (Searching ask (at - count) (Pool (left - count) looked)) s) told told
  looks-stepped told = by told.shared told.caller where
    by : (shared : Option Shared) (caller : Option Caller)
        → IsReady s (telling told shared caller) → IfSome shared (CountsNone last at)
        → IfSome caller (λ x. last ≡ at) → Stepped s.config s.trace.now me count (actor_of s)
        (standing_at (Searching ask (at - count) (Pool (left - count) looked)) s)
        (telling told shared caller) (telling told shared caller)
    by None None h uncounted beside =
        absurd (none-told (telling told None None) refl refl h.some)
    by shared (Some x) h uncounted beside =
        absurd (omega (arith, some, down, over, beside))
    by (Some x) None h uncounted beside =
        let e = setup_for s in
        let w = run e h.turns in
        let n = at - count in
        let back : at - n ≡ count = omega (arith, down) in
        let passed = subst (λ k. let v : State = run_on e w (replicate k me) in
        (v.shared ≡ w.shared)
        × (v.actors me ≡ standing_at (Searching ask n (Pool (left - k) looked)) s)) back
        (search-passed s.config s.trace.now h.config h.trace w (h.turns, refl) me (actor_of s)
        ask at left looked (h.actor ∙ ap (λ st. standing_at st s) is) n (omega (arith, down))
        (omega arith) (omega (arith, back, fewer))
        (λ i low upto. ap (λ (y : Shared). counts (word_of (y.places i))) (sym h.shares)
        ∙ uncounted i (omega (arith, low, over)) upto)) in record {
          turns = h.turns;
          actor = h.actor;
          is = sym passed.1;
          shares = (h.shares, ap Some (h.shares ∙ sym passed.0));
          shares_untold = λ none. none;
          calls = tt;
          calls_untold = λ none. refl;
        }
