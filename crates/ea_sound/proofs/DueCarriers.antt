-- A carrier that is due after a release is abandoned.
use Rattle.std.proofs.Common.{◌≡◌, ◌≢◌, ℕ, List, [], ◌∷◌, ◌++◌, Bool, true, false, refl, sym, ap}
use Rattle.std.proofs.Common.{◌∙◌, arith}
use Rattle.std.specs.Prelude.{All, ◌==◌, ◌&&◌, not}
use Rattle.std.proofs.lemmas.List.{append_assoc}
use Rattle.ea_model.specs.Abandonment.{are_sparse, has_large_gap, is_due, is_sparse_carrier}
use Rattle.ea_model.specs.Content.{Content, can_go, is_multi, is_nil, is_vacant}
use Rattle.ea_model.specs.declared.settings.Settings.{Settings}
use Rattle.ea_model.specs.Instance.{releasing_at}
use Rattle.ea_machine.specs.declared.owners.OwnerWord.TheVariants as word
use Rattle.ea_machine.specs.declared.stages.Route.TheVariants.{Abandoning, Looking}
use Rattle.ea_machine.specs.declared.stages.Stage.TheVariants.{Ended, Routed}
use Rattle.ea_machine.specs.declared.tasks.Gone.{Gone}
use Rattle.ea_machine.specs.declared.tasks.Gone.TheVariants.{Here}
use Rattle.ea_machine.specs.Actor.{Actor}
use Rattle.ea_machine.specs.Machine.{after_row, onward, run, wants_at}
use Rattle.ea_machine.specs.Owners.{word_of}
use Rattle.ea_machine.specs.Releases.{abandoned_if, after_release, dismissed, employed_by}
use Rattle.ea_machine.specs.Releases.{first_gone, goes_on, lightened, turned}
use Rattle.ea_machine.specs.Rows.{Abandon, Saw}
use Rattle.ea_machine.specs.Setup.{Setup}
use Rattle.ea_machine.specs.Shared.{Shared}
use Rattle.ea_machine.specs.State.{State}
use Rattle.ea_machine.specs.Statistics.{observed}
use Rattle.ea_machine.specs.Table.{answer, effect, pooled}
use Rattle.ea_machine.specs.Tasks.{carried}
use Rattle.ea_machine.specs.Walks.{after_route}
use Rattle.ea_sound.specs.Abandoned.{AbandonsIfDue, IsDueWithout}
use Rattle.ea_sound.specs.Turns.{actor_after, advanced, answered}
use Rattle.ea_sound.proofs.OtherTurns.{actor-since}
use Rattle.ea_sound.proofs.SearchTurns.{look-saw}
use Rattle.ea_sound.proofs.Totals.{put-here}
use Rattle.ea_sound.proofs.TurnLists.{run-snoc, step-mine, step-shared}
use Rattle.std.specs.Prelude.{nat_le}

-- what is due has blocks
due-vacant : (settings : Settings) (count : ℕ) (xs : List Content) (x : Content)
    → is_due settings count xs x ≡ true → is_vacant x ≡ false
due-vacant settings count xs x due = by (nat_le count 0) (is_multi x.kind) (is_nil x.blocks)
    (is_sparse_carrier settings x && are_sparse settings xs && has_large_gap settings x)
    (can_go x.kind) due
  where
    by : (zero multi nil sparse goes : Bool) → (zero && (multi && not nil && sparse)) ≡ true
        → (goes && nil) ≡ false
    by zero multi nil sparse goes due = grind (arith, due)

-- the row that abandons a carrier puts it into the pool
abandons : (s : ℕ) (x : Content) (m : Shared)
    → (effect s (Abandon x) m).places x.number ≡ pooled s x
unfolding effect
abandons s x m = put-here m.places x.number (pooled s x) x.number refl

module _ (e : Setup) (turns : List ℕ) (s : ℕ) (x : Content)
    (h : IsDueWithout e (run e turns) s x) where
  abbrev a : Actor
  a = actor_after e turns s

  -- the scheduler without the block, and what became of that
  abbrev b : Actor
  b = record a { instance = releasing_at a.instance h.block.spot }

  abbrev now : Gone
  now = first_gone h.gone Here

  goes : a.stage ≢ Ended
  goes q = let no : Routed (Looking h.block) h.why h.gone ≡ Ended = sym h.looks ∙ q in absurd cc

  saw : answered (run e turns) s ≡ Saw (word.Employed s)
  saw = ap (λ st. answer s (wants_at a.next st) (run e turns).shared) h.looks
      ∙ look-saw s h.block.spot.carrier (run e turns).shared
      ∙ ap (λ p. Saw (word_of p)) h.employs

  turns-so : turned e s (Looking h.block) h.gone a (Saw (word.Employed s))
      ≡ goes_on (Abandoning x) now (dismissed x.number b)
  turns-so =
      let same : (s == s) ≡ true = grind arith in
      ap (λ own. employed_by e s own s h.block h.gone a) same
      ∙ ap (after_release e s h.gone b) h.content
      ∙ ap (λ vacant. lightened e s vacant x now b)
      (due-vacant e.settings b.instance.count b.instance.contents x h.due)
      ∙ ap (λ due. abandoned_if due x now b) h.due

  -- after the step it is about to abandon the carrier
  stage-after : (actor_after e (turns ++ s ∷ []) s).stage ≡ Routed (Abandoning x) h.why now
  stage-after =
      let is : advanced e (run e turns) s
      ≡ carried h.why (after_route e s h.why)
      (goes_on (Abandoning x) now (dismissed x.number b)) =
      ap (after_row e s a (answered (run e turns) s)) h.looks
      ∙ ap (λ r. after_row e s a r (Routed (Looking h.block) h.why h.gone)) saw
      ∙ ap (carried h.why (after_route e s h.why)) turns-so in
      ap (λ (w : State). (w.actors s).stage) (run-snoc e turns s)
      ∙ ap (λ (c : Actor). c.stage) (step-mine e (run e turns) s goes)
      ∙ ap (λ c. (observed (onward e s c)).stage) is

  module _ (others : List ℕ) (still : All (λ i. i ≢ s) others) where
    abbrev later : List ℕ
    later = (turns ++ s ∷ []) ++ others

    stage-then : (actor_after e later s).stage ≡ Routed (Abandoning x) h.why now
    stage-then = ap (λ (c : Actor). c.stage) (actor-since e s (turns ++ s ∷ []) others still)
        ∙ stage-after

    goes-then : (actor_after e later s).stage ≢ Ended
    goes-then q =
        let no : Routed (Abandoning x) h.why now ≡ Ended = sym stage-then ∙ q in absurd cc

    in-pool : (run e (later ++ s ∷ [])).shared.places x.number ≡ pooled s x
    in-pool = ap (λ (w : State). w.shared.places x.number) (run-snoc e later s)
        ∙ ap (λ (m : Shared). m.places x.number) (step-shared e (run e later) s goes-then)
        ∙ ap (λ st. (effect s (wants_at (actor_after e later s).next st)
        (run e later).shared).places x.number) stage-then
        ∙ abandons s x (run e later).shared

pub abandons-if_due : (e : Setup) → AbandonsIfDue e
abandons-if_due e turns others s x h still =
    ap (λ l. (run e l).shared.places x.number)
    (sym (append_assoc turns (s ∷ []) (others ++ s ∷ []))
    ∙ sym (append_assoc (turns ++ s ∷ []) others (s ∷ [])))
    ∙ in-pool e turns s x h others still
