-- Where another employer of a block's carrier is seen, the block is queued to that, and where the
-- scheduler sees itself, it is released.
use Rattle.std.proofs.Common.{◌≡◌, ◌≢◌, ◌⊎◌, ℕ, List, [], ◌∷◌, ◌++◌, false, refl, sym}
use Rattle.std.proofs.Common.{ap, ◌∙◌, subst, inl, inr, arith}
use Rattle.std.specs.Prelude.{Option, None, Some, ◌==◌, true}
use Rattle.std.proofs.lemmas.Bool.{cases_eq}
use Rattle.std.proofs.lemmas.List.{append_assoc}
use Rattle.ea_model.specs.Entries.{Entry}
use Rattle.ea_model.specs.Content.{Content}
use Rattle.ea_machine.specs.declared.nodes.Named.{Named}
use Rattle.ea_machine.specs.declared.owners.OwnerWord.{OwnerWord}
use Rattle.ea_machine.specs.declared.owners.OwnerWord.TheVariants as word
use Rattle.ea_machine.specs.declared.stages.Stage.{Stage}
use Rattle.ea_machine.specs.declared.stages.Stage.TheVariants.{Ended, Routed}
use Rattle.ea_machine.specs.declared.stages.Route.{Route}
use Rattle.ea_machine.specs.declared.stages.Route.TheVariants.{Looking, Trying}
use Rattle.ea_machine.specs.declared.tasks.Task.{Task}
use Rattle.ea_machine.specs.declared.tasks.Task.TheVariants.{Freeing, Moving}
use Rattle.ea_machine.specs.declared.tasks.Why.TheVariants.{For}
use Rattle.ea_machine.specs.declared.tasks.Gone.{Gone}
use Rattle.ea_machine.specs.declared.tasks.Gone.TheVariants.{Here, Open, Queued}
use Rattle.ea_machine.specs.Actor.{Actor}
use Rattle.ea_machine.specs.Machine.{after_row, onward, run}
use Rattle.ea_machine.specs.Releases.{Turned, employed_by, forwarded, looked, pooled_by, sent_to}
use Rattle.ea_machine.specs.Releases.{release_here, tried, turned}
use Rattle.ea_machine.specs.Rows.{Won}
use Rattle.ea_machine.specs.Setup.{Setup}
use Rattle.ea_machine.specs.State.{State}
use Rattle.ea_machine.specs.Statistics.{observed}
use Rattle.ea_machine.specs.Tasks.{carried, carried_by, entry_of, task_over}
use Rattle.ea_sound.specs.Entries.{QueuesIfSeen, ReleasesIfSeen, SaysDone, SaysQueued}
use Rattle.ea_sound.specs.Present.{Rule}
use Rattle.ea_sound.specs.Shown.{Employs, Looks, Loses, SeesEmployer, SeesItself, ShowsEmployer}
use Rattle.ea_sound.specs.Shown.{Wins}
use Rattle.ea_sound.specs.Turns.{actor_after, answered, log_after}
use Rattle.ea_sound.proofs.Chronicled.{enters-one, other-turn}
use Rattle.ea_sound.proofs.SettledRoutes.{IsReleased, IsSettled, here-released, turned-gone}
use Rattle.ea_sound.proofs.ShortRoutes.{here-short, turned-short}
use Rattle.ea_sound.proofs.TurnLists.{on-from, run-snoc, step-ended, step-mine}

pub says-queued : (task : Task) (to : ℕ) → SaysQueued to (entry_of task (Queued to))
says-queued (Freeing name) to = refl
says-queued (Moving old fresh place) to = refl

pub says-done : (task : Task) (gone : Gone) → (gone ≡ Here) ⊎ (gone ≡ Open)
    → SaysDone (entry_of task gone)
says-done (Freeing name) Here is = tt
says-done (Freeing name) Open is = tt
says-done (Moving old fresh place) Here is = tt
says-done (Moving old fresh place) Open is = tt
says-done (Freeing name) (Queued to) is = absurd (elim is [ inl q ↦ cc | inr q ↦ cc ])
says-done (Moving old fresh place) (Queued to) is = absurd (elim is [ inl q ↦ cc | inr q ↦ cc ])

routed-works : (stage next : Stage Content) → stage ≡ next → next ≢ Ended → stage ≢ Ended
routed-works stage next q works ended = works (sym q ∙ ended)

-- what its log says of an operation
abbrev pub Telling : (Entry → Type 0) → List Entry → List Entry → Type 0
Telling P log now = (now ≡ log)
    ⊎ ((x : Entry) × (later : List Entry) × (now ≡ log ++ x ∷ later) × P x)

module _ (e : Setup) (rules : (L : List ℕ) → Rule e (run e L)) (s : ℕ) (log : List Entry)
    (P : Entry → Type 0) where
  -- it is settled what the entry will say, or the entry is made; or the scheduler has ended
  pub data Goes (a : Actor) : Type 0 where
    OnRoute : (task : Task) (route : Route Content) (gone : Gone)
        (stage : a.stage ≡ Routed route (For task) gone) (settled : IsSettled gone)
        (says : P (entry_of task gone)) (same : a.log ≡ log) → Goes a
    Ends : (stage : a.stage ≡ Ended) (same : a.log ≡ log) → Goes a
    Made : (x : Entry) (later : List Entry) (made : a.log ≡ log ++ x ∷ later) (says : P x)
        → Goes a

  pub seen-goes : (a : Actor) → Goes a → Goes (observed a)
  seen-goes a (OnRoute task route gone stage settled says same) =
      OnRoute task route gone stage settled says same
  seen-goes a (Ends stage same) = Ends stage same
  seen-goes a (Made x later made says) = Made x later made says

  -- a route that goes on or is over
  pub carried-goes : (task : Task) (gone : Gone) (a : Actor) (r : Option (Route Content))
      → IsSettled gone ⊎ (r ≡ None) → P (entry_of task gone) → a.log ≡ log
      → Goes (carried_by (For task) (task_over task) gone a r)
  carried-goes task gone a None is says same =
      Made (entry_of task gone) [] (ap (λ l. l ++ entry_of task gone ∷ []) same) says
  carried-goes task gone a (Some r) (inl settled) says same =
      OnRoute task r gone refl settled says same
  carried-goes task gone a (Some r) (inr over) says same = absurd cc

  onward-carried : (task : Task) (gone : Gone) (a : Actor) (r : Option (Route Content))
      → onward e s (carried_by (For task) (task_over task) gone a r)
      ≡ carried_by (For task) (task_over task) gone a r
  onward-carried task gone a None = refl
  onward-carried task gone a (Some r) = refl

  module _ (L : List ℕ) where
    abbrev acting : Actor
    acting = actor_after e L s

    -- the scheduler after a step, by where it was
    stepped : (stage : Stage Content) → acting.stage ≡ stage → stage ≢ Ended
        → actor_after e (L ++ s ∷ []) s
        ≡ observed (onward e s (after_row e s acting (answered (run e L) s) stage))
    stepped stage q works = ap (λ (w : State). w.actors s) (run-snoc e L s)
        ∙ step-mine e (run e L) s (routed-works acting.stage stage q works)
        ∙ ap (λ st. observed (onward e s (after_row e s acting (answered (run e L) s) st))) q

    -- a step on the route, after which that is settled or over
    turns-route : (task : Task) (route : Route Content) (gone : Gone)
        → acting.stage ≡ Routed route (For task) gone → (t : Turned)
        → turned e s route gone acting (answered (run e L) s) ≡ t
        → IsSettled t.gone ⊎ (t.route ≡ None) → P (entry_of task t.gone) → t.actor.log ≡ log
        → Goes (actor_after e (L ++ s ∷ []) s)
    turns-route task route gone stage t is settled says same =
        subst Goes (sym (stepped (Routed route (For task) gone) stage (λ q. absurd cc)
        ∙ ap (λ u. observed (onward e s (carried (For task) (task_over task) u))) is
        ∙ ap observed (onward-carried task t.gone t.actor t.route)))
        (seen-goes (carried_by (For task) (task_over task) t.gone t.actor t.route)
        (carried-goes task t.gone t.actor t.route settled says same))

    mine : Goes acting → Goes (actor_after e (L ++ s ∷ []) s)
    mine (OnRoute task route gone stage settled says same) =
        let t = turned e s route gone acting (answered (run e L) s) in
        let stays = turned-gone e s gone settled route acting (answered (run e L) s) in
        turns-route task route gone stage t refl
        (inl (subst IsSettled (sym stays) settled))
        (subst (λ g. P (entry_of task g)) (sym stays) says)
        ((turned-short e s route gone acting (answered (run e L) s)).1.3 ∙ same)
    mine (Ends stage same) = subst Goes
        (sym (ap (λ (w : State). w.actors s) (run-snoc e L s ∙ step-ended e (run e L) s stage)))
        (Ends stage same)
    mine (Made x later made says) =
        elim (enters-one e rules L s s) [
          | inl same ↦ Made x later (same ∙ made) says
          | inr more ↦ Made x (later ++ more.1.0 ∷ [])
              (more.1.1 ∙ ap (λ l. l ++ more.1.0 ∷ []) made
              ∙ append_assoc log (x ∷ later) (more.1.0 ∷ [])) says
        ]

    further : (j : ℕ) → Goes acting → Goes (actor_after e (L ++ j ∷ []) s)
    further j g =
        elim (cases_eq j s) [
          | inl q ↦ subst (λ i. Goes (actor_after e (L ++ i ∷ []) s)) (sym q) (mine g)
          | inr ne ↦ subst Goes (sym (other-turn e rules L s j ne)) g
        ]

  -- what its log says then
  tells : (a : Actor) → Goes a → Telling P log a.log
  tells a (OnRoute task route gone stage settled says same) = inl same
  tells a (Ends stage same) = inl same
  tells a (Made x later made says) = inr (x, later, made, says)

  -- so after all further steps
  pub tells-on : (L more : List ℕ) → Goes (actor_after e (L ++ s ∷ []) s)
      → Telling P log (log_after e (L ++ s ∷ more) s)
  tells-on L more g = tells (actor_after e (L ++ s ∷ more) s)
      (subst (λ K. Goes (actor_after e K s)) (append_assoc L (s ∷ []) more)
      (on-from (λ K. Goes (actor_after e K s)) (λ K j h. further K j h) more (L ++ s ∷ []) g))

-- another employer is seen
module _ (e : Setup) (s to : ℕ) where
  module _ (other : to ≢ s) where
    -- by the word that was seen
    looks : (named : Named) (b : Actor) (v : OwnerWord) → ShowsEmployer to v
        → looked e s named Open b v ≡ sent_to named to Open b
    looks named b word.Absent shows = absurd shows
    looks named b (word.Employed i) shows =
        let no : (i == s) ≡ false = grind (arith, other, shows) in
        ap (λ mine. employed_by e s mine i named Open b) no
        ∙ ap (λ i. sent_to named i Open b) shows
    looks named b (word.Pooled i g) shows =
        let no : (i == s) ≡ false = grind (arith, other, shows) in
        ap (λ mine. pooled_by mine i g named Open b) no ∙ ap (λ i. sent_to named i Open b) shows
    looks named b (word.Busy i) shows = ap (λ i. sent_to named i Open b) shows
    looks named b (word.Returning i) shows = absurd shows

    loses : (named : Named) (b : Actor) (v : OwnerWord) → ShowsEmployer to v
        → forwarded named Open b v ≡ sent_to named to Open b
    loses named b word.Absent shows = absurd shows
    loses named b (word.Employed i) shows = ap (λ i. sent_to named i Open b) shows
    loses named b (word.Pooled i g) shows = ap (λ i. sent_to named i Open b) shows
    loses named b (word.Busy i) shows = ap (λ i. sent_to named i Open b) shows
    loses named b (word.Returning i) shows = absurd shows

module _ (e : Setup) (rules : (L : List ℕ) → Rule e (run e L)) (L : List ℕ) (s : ℕ)
    (named : Named) where
  abbrev a : Actor
  a = actor_after e L s

  sees : (to : ℕ) → to ≢ s → SeesEmployer s named to (run e L)
      → Goes e rules s a.log (SaysQueued to) (actor_after e (L ++ s ∷ []) s)
  sees to other (Looks task seen on saw shows) =
      turns-route e rules s a.log (SaysQueued to) L task (Looking named) Open on
      (sent_to named to Open a)
      (ap (turned e s (Looking named) Open a) saw ∙ looks e s to other named a seen shows)
      (inl (λ now. refl)) (says-queued task to) refl
  sees to other (Loses task g present on lost shows) =
      turns-route e rules s a.log (SaysQueued to) L task (Trying named (word.Pooled s g)) Open on
      (sent_to named to Open a)
      (ap (turned e s (Trying named (word.Pooled s g)) Open a) lost
      ∙ loses e s to other named a present shows)
      (inl (λ now. refl)) (says-queued task to) refl

  -- the scheduler sees that it employs the carrier itself
  released-goes : (P : Entry → Type 0) (task : Task) (route : Route Content) (gone : Gone)
      → a.stage ≡ Routed route (For task) gone
      → (t : Turned) → turned e s route gone a (answered (run e L) s) ≡ t → IsReleased t
      → ((g : Gone) → (g ≡ Here) ⊎ (g ≡ Open) → P (entry_of task g)) → t.actor.log ≡ a.log
      → Goes e rules s a.log P (actor_after e (L ++ s ∷ []) s)
  released-goes P task route gone on t is (inl here) says same =
      turns-route e rules s a.log P L task route gone on t is
      (inl (subst IsSettled (sym here) (λ now. refl))) (says t.gone (inl here)) same
  released-goes P task route gone on t is (inr over) says same =
      turns-route e rules s a.log P L task route gone on t is (inr over.1)
      (says t.gone (inr over.0)) same

  itself-seen : looked e s named Open a (word.Employed s) ≡ release_here e s named Open a
  itself-seen = ap (λ mine. employed_by e s mine s named Open a) (same s) where
    same : (n : ℕ) → (n == n) ≡ true
    same n = grind arith

  sees-itself : SeesItself s named (run e L)
      → Goes e rules s a.log SaysDone (actor_after e (L ++ s ∷ []) s)
  sees-itself (Employs task on saw) =
      released-goes SaysDone task (Looking named) Open on (release_here e s named Open a)
      (ap (turned e s (Looking named) Open a) saw ∙ itself-seen)
      (here-released e s named a) (says-done task) (here-short e s named Open a).1.3
  sees-itself (Wins task g x on won) =
      released-goes SaysDone task (Trying named (word.Pooled s g)) Open on
      (tried named Open a (Won x))
      (ap (turned e s (Trying named (word.Pooled s g)) Open a) won)
      (inl refl) (says-done task) refl

pub queues-if_seen : (e : Setup) → ((L : List ℕ) → Rule e (run e L)) → QueuesIfSeen e
queues-if_seen e rules turns more s to named other seen =
    tells-on e rules s (log_after e turns s) (SaysQueued to) turns more
    (sees e rules turns s named to other seen)

pub releases-if_seen : (e : Setup) → ((L : List ℕ) → Rule e (run e L)) → ReleasesIfSeen e
releases-if_seen e rules turns more s named seen =
    tells-on e rules s (log_after e turns s) SaysDone turns more
    (sees-itself e rules turns s named seen)
