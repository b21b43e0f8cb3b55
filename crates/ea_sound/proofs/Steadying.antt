-- Every scheduler stays steady through each step.
use Rattle.std.proofs.Common.{◌≡◌, ◌≢◌, ℕ, Bool, true, false, List, [], ◌∷◌, refl, subst, sym}
use Rattle.ea_laws.specs.Kept.{IsLaidOut}
use Rattle.ea_model.specs.Content.{Content}
use Rattle.ea_machine.specs.Nodes.{Mark}
use Rattle.ea_sound.specs.Contents.{AtHome}
use Rattle.ea_machine.specs.Owners.{CarrierAt, Absent, Busy, Employed, Pooled, Returning, same_word}
use Rattle.ea_machine.specs.Owners.{word_of}
use Rattle.ea_machine.specs.Rows.{Abandon, BusyTry, Clear, Create, FetchTry, Give, Link, Look}
use Rattle.ea_machine.specs.Rows.{Nothing, Push, Row, SendHome, Settle, TakeAll, TakeLink, TakeTry}
use Rattle.ea_machine.specs.declared.stages.Stage.{Stage}
use Rattle.ea_machine.specs.declared.stages.Stage.TheVariants.{Ended}
use Rattle.ea_machine.specs.Machine.{after, first_stage, start, step, stepped, wants_at}
use Rattle.ea_machine.specs.Setup.{Setup, is_scheduler}
use Rattle.ea_machine.specs.State.{State}
use Rattle.ea_machine.specs.Table.{answer, link_answer, link_read, won_if}
use Rattle.ea_sound.specs.Rule.{Kept}
use Rattle.ea_machine.specs.Words.{IsLargest}
use Rattle.ea_sound.specs.Steady.{AreSteady, IsShown, IsSteady, IsSteadyStage}
use Rattle.ea_sound.specs.Steady.{TellsShown}
use Rattle.ea_sound.proofs.LargestGaps.{laid-largest}
use Rattle.ea_sound.proofs.SteadyWork.{after-steady}
use Rattle.ea_sound.proofs.StepKept.{step-holds}
use Rattle.ea_sound.proofs.Totals.{put-all}

-- no answer of a walk's link, and none of a try, is what a look shows
link-shown : (e : Setup) (ms : List Mark) → TellsShown e (link_answer ms)
link-shown e [] = tt
link-shown e (m ∷ ms) = by m.linked where
  by : (b : Bool) → TellsShown e (link_read b ms)
  by true = tt
  by false = tt

won-shown : (e : Setup) (b : Bool) (p : CarrierAt) → TellsShown e (won_if b p)
won-shown e true Absent = tt
won-shown e true (Employed i) = tt
won-shown e true (Pooled i g x) = tt
won-shown e true (Busy i) = tt
won-shown e true (Returning i x) = tt
won-shown e false p = tt

module _ (e : Setup) (w : State) (k : Kept e w) where
  -- what a look shows of a carrier
  place-shown : (c : ℕ) (p : CarrierAt) → w.shared.places c ≡ p → IsShown e (word_of p)
  place-shown c Absent q = tt
  place-shown c (Employed i) q = tt
  place-shown c (Pooled i g x) q =
      let pooled = k.placed.pooled c i g x q in (
        pooled.4,
        subst IsLargest (sym pooled.3)
            (laid-largest x (subst (AtHome IsLaidOut) q (k.ranges.home_laid c))),
      )
  place-shown c (Busy i) q = tt
  place-shown c (Returning i x) q = tt

  answer-shown : (me : ℕ) (row : Row) → TellsShown e (answer me row w.shared)
  unfolding answer
  answer-shown me TakeAll = tt
  answer-shown me TakeLink = link-shown e (w.shared.rests me)
  answer-shown me (Look c) = place-shown c (w.shared.places c) refl
  answer-shown me (Push node to) = tt
  answer-shown me (Link node to) = tt
  answer-shown me (BusyTry c seen) =
      won-shown e (same_word (word_of (w.shared.places c)) seen) (w.shared.places c)
  answer-shown me (Settle x) = tt
  answer-shown me (Abandon x) = tt
  answer-shown me (FetchTry c seen) =
      won-shown e (same_word (word_of (w.shared.places c)) seen) (w.shared.places c)
  answer-shown me (Create c) = tt
  answer-shown me (SendHome x) = tt
  answer-shown me (Clear c) = tt
  answer-shown me (Give given) = tt
  answer-shown me (TakeTry name) = tt
  answer-shown me Nothing = tt

module _ (e : Setup) (w : State) (me : ℕ) (k : Kept e w) (steady : AreSteady e w) where
  stepped-steady : is_scheduler e me ≡ true → (stage : Stage Content) → stage ≢ Ended
      → (w.actors me).stage ≡ stage
      → AreSteady e (stepped e w me (w.actors me) stage (wants_at (w.actors me).next stage))
  stepped-steady is stage works now =
      let a = w.actors me in
      put-all (IsSteady e) w.actors me
      (after e me a (answer me (wants_at a.next stage) w.shared) stage)
      (after-steady e me a (answer me (wants_at a.next stage) w.shared) stage
      (λ on. (k.ranges.instances me is).order) (answer-shown e w k me (wants_at a.next stage)) now
      (steady me)) steady

  pub step-steady : AreSteady e (step e w me)
  step-steady = step-holds e w me k (AreSteady e) steady stepped-steady

-- and begins so
first-steady : (e : Setup) (i : ℕ) (b : Bool)
    → IsSteadyStage e i ((start e).actors i).instance.count
    ((start e).actors i).instance.contents (first_stage e b)
first-steady e i true = tt
first-steady e i false = tt

pub start-steady : (e : Setup) → AreSteady e (start e)
start-steady e i = record {
  walk = λ _ _. refl;
  off = λ _. refl;
  route = first-steady e i (is_scheduler e i);
}
