-- Where a row of a begin leaves a scheduler.
use Rattle.std.proofs.Common.{◌≡◌, ◌≢◌, ℕ, List, [], ◌∷◌, Bool, true, false, refl, sym, ap, ◌∙◌}
use Rattle.std.proofs.Common.{arith}
use Rattle.std.specs.Prelude.{Option, None, Some}
use Rattle.ea_machine.specs.declared.nodes.Node.{Node}
use Rattle.ea_machine.specs.declared.stages.Stage.TheVariants.{Begin}
use Rattle.ea_machine.specs.Actor.{Actor}
use Rattle.ea_machine.specs.Machine.{begins}
use Rattle.ea_sound.specs.Names.{made_in, unplaced}
use Rattle.ea_machine.specs.Nodes.{Mark, first_node}
use Rattle.ea_machine.specs.Setup.{Setup, is_scheduler}
use Rattle.ea_machine.specs.Shared.{Shared}
use Rattle.ea_machine.specs.State.{State}
use Rattle.ea_machine.specs.Table.{answer, effect, link_answer, link_read, rest_after, rest_by}
use Rattle.ea_machine.specs.Walks.{begun, passed_on, taken, with_passed}
use Rattle.ea_sound.specs.Present.{Rule}
use Rattle.ea_sound.proofs.FewBlocks.{Counting}
use Rattle.ea_sound.proofs.PresentWalks.{GoodAfterRow, ready-good, work-good}
use Rattle.ea_sound.proofs.RowCores.{bound_of, core, hand_named, home_of, names, own}
use Rattle.ea_sound.proofs.Suits.{CoreOf}
use Rattle.ea_sound.proofs.Totals.{put-here}

module _ (e : Setup) (w : State) (me : ℕ) (is : is_scheduler e me ≡ true) (rule : Rule e w) where
  abbrev a : Actor
  a = w.actors me

  abbrev IsGood : Shared → Actor → Type 0
  IsGood s b = GoodAfterRow e s me (home_of e s) (bound_of e w me) b

  -- a begin
  after-begin : (s : Shared) → a.stage ≡ Begin → a.next ≡ first_node (s.rests me)
      → ((n : Counting) → home_of e s n ≡ home_of e w.shared n)
      → CoreOf e s me (home_of e s) (bound_of e w me) a.todo (λ n. 0) a
  after-begin s now walks same =
      core e w me is rule Begin now s (λ n. 0) walks (λ n. omega (arith, same n))

  module _ (s : Shared) (now : a.stage ≡ Begin)
      (same : (n : Counting) → home_of e s n ≡ home_of e w.shared n) where
    -- the walk is at that node then
    walking-core : (o : Option Node) → o ≡ first_node (s.rests me)
        → CoreOf e s me (home_of e s) (bound_of e w me) a.todo (λ n. 0) (record a { next = o })
    walking-core o walks =
        let h = rule.present.history me in
        record {
          stay = (rule.present.contents me, rule.present.singles me);
          history = (h.done, h.split, h.each);
          walking = walks;
          few = λ n. omega (
            arith,
            same n,
            ap (λ st. hand_named st n) now,
            ap (λ st. made_in n.name (unplaced st a.todo)) now,
          );
          rising = rule.present.held me;
          names = names e w me is rule Begin now;
          stands = λ off. rule.present.stands off me is;
          main = rule.present.main me is;
        }

    taken-good : (o : Option Node) → a.next ≡ None → o ≡ first_node (s.rests me)
        → IsGood s (taken a o)
    taken-good None none walks = ready-good e s me (home_of e s) (bound_of e w me) a
        (record { core = after-begin s now (none ∙ walks) same; own = own e w me is rule })
    taken-good (Some node) none walks =
        record { core = walking-core (Some node) walks; suits = tt }

    passed-good : (ms : List Mark) → s.rests me ≡ ms → IsGood s (passed_on e me a (first_node ms))
    passed-good [] rest = work-good e s me (home_of e s) (bound_of e w me)
        (with_passed a.next a.passed) (record a { next = None })
        (record { core = walking-core None (sym (ap first_node rest)); own = own e w me is rule })
    passed-good (m ∷ ms) rest =
        record { core = walking-core (Some m.node) (sym (ap first_node rest)); suits = tt }

    link-good : (ms : List Mark) → s.rests me ≡ rest_after ms → a.next ≡ first_node ms
        → a.next ≢ None → IsGood s (begun e me a (link_answer ms))
    link-good [] rest walks some = absurd (some walks)
    link-good (m ∷ ms) rest walks some = by m.linked rest where
      by : (b : Bool) → s.rests me ≡ rest_by b m ms → IsGood s (begun e me a (link_read b ms))
      by true rest = passed-good ms rest
      by false rest = ready-good e s me (home_of e s) (bound_of e w me) a
          (record {
            core = after-begin s now (walks ∙ sym (ap first_node rest)) same;
            own = own e w me is rule;
          })

  pub begin-good : (o : Option Node) → a.next ≡ o → a.stage ≡ Begin
      → IsGood (effect me (begins o) w.shared) (begun e me a (answer me (begins o) w.shared))
  unfolding effect answer
  begin-good None next now = taken-good _ now (λ n. refl) (first_node (w.shared.queues me)) next
      (sym (ap first_node (put-here w.shared.rests me (w.shared.queues me) me refl)))
  begin-good (Some node) next now = link-good _ now (λ n. refl) (w.shared.rests me)
      (put-here w.shared.rests me (rest_after (w.shared.rests me)) me refl)
      (rule.present.walking me)
      (λ z. let never : Some node ≡ None = sym next ∙ z in cc)
