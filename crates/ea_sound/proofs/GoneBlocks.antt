-- Blocks that are gone: once its name has left the hand on a release route, no block has it.
use Rattle.std.proofs.Common.{◌≡◌, ◌≢◌, ℕ, ◌+◌, ◌<◌, ◌≤◌, List, [], ◌∷◌, ◌++◌, refl, sym, ap, ◌∙◌}
use Rattle.std.proofs.Common.{subst, arith}
use Rattle.std.specs.Prelude.{Some, ◌==◌}
use Rattle.ea_model.proofs.Rising.{item_at-gone}
use Rattle.ea_model.specs.declared.carriers.Spot.{Spot}
use Rattle.ea_model.specs.Content.{Content}
use Rattle.ea_machine.specs.Searches.{passed}
use Rattle.ea_machine.specs.declared.nodes.Named.{Named}
use Rattle.ea_machine.specs.declared.nodes.Node.{Node}
use Rattle.ea_machine.specs.declared.owners.OwnerWord.{OwnerWord}
use Rattle.ea_machine.specs.declared.stages.Stage.{Stage}
use Rattle.ea_machine.specs.declared.stages.Stage.TheVariants.{Begin, Ended}
use Rattle.ea_machine.specs.Actor.{Actor}
use Rattle.ea_machine.specs.Machine.{run, wants, wants_at}
use Rattle.ea_machine.specs.Nodes.{named_at, pushed, without_name, name_of}
use Rattle.ea_machine.specs.Owners.{Busy, CarrierAt}
use Rattle.ea_machine.specs.Rows.{Answer, BusyTry, Done, Got, Head, Home, Look, Lost, Passes, Push}
use Rattle.ea_machine.specs.Rows.{Rests, Saw, Won}
use Rattle.ea_machine.specs.Setup.{Setup}
use Rattle.ea_machine.specs.Shared.{Shared}
use Rattle.ea_machine.specs.State.{State}
use Rattle.ea_machine.specs.Statistics.{observed}
use Rattle.ea_machine.specs.Sums.{one_if, sum_over, total}
use Rattle.ea_machine.specs.Table.{effect, moved_if, tried_at}
use Rattle.ea_sound.specs.Contents.{seats}
use Rattle.ea_sound.specs.Names.{allocated, of_hand, of_named, of_node, only, to_make}
use Rattle.ea_sound.specs.Released.{blocks_named}
use Rattle.ea_sound.specs.Turns.{actor_after}
use Rattle.ea_sound.specs.Moments.{at, with_actor}
use Rattle.ea_sound.specs.Present.{Rule}
use Rattle.ea_sound.specs.Rule.{Kept, names_of}
use Rattle.ea_sound.proofs.Fading.{make-fades}
use Rattle.ea_sound.proofs.Global.{working-scheduler}
use Rattle.ea_sound.proofs.KeyedWeights.{sum-item, sum-missing}
use Rattle.ea_sound.proofs.NameRows.{names_outside}
use Rattle.ea_sound.proofs.Numbered.{scheduler-seat}
use Rattle.ea_sound.proofs.Totals.{put-here, total-part, total-put}
use Rattle.ea_sound.proofs.TurnLists.{run-snoc, step-is}
use Rattle.ea_sound.proofs.Weights.{one-itself, one-other}

-- looks and tries leave the names in queues and walks, and those that are given
abbrev pub LeavesNames : Setup → (ℕ → Spot → ℕ) → Shared → Shared → Type 0
LeavesNames e f s v = names_outside e f v ≡ names_outside e f s

pub look-names : (e : Setup) (f : ℕ → Spot → ℕ) (me c : ℕ) (s : Shared)
    → LeavesNames e f s (effect me (Look c) s)
unfolding effect
look-names e f me c s = refl

tried-names : (e : Setup) (f : ℕ → Spot → ℕ) (r : Answer) (c : ℕ) (p : CarrierAt) (s : Shared)
    → LeavesNames e f s (moved_if r c p s)
tried-names e f (Won x) c p s = refl
tried-names e f (Lost v) c p s = refl
tried-names e f Done c p s = refl
tried-names e f (Head n) c p s = refl
tried-names e f Rests c p s = refl
tried-names e f (Passes n) c p s = refl
tried-names e f (Saw v) c p s = refl
tried-names e f (Home x) c p s = refl
tried-names e f (Got o) c p s = refl

pub try-names : (e : Setup) (f : ℕ → Spot → ℕ) (me c : ℕ) (seen : OwnerWord) (s : Shared)
    → LeavesNames e f s (effect me (BusyTry c seen) s)
unfolding effect
try-names e f me c seen s = tried-names e f (tried_at seen (s.places c)) c (Busy me) s

-- a pushed node is the first of its queue
pub pushed-after : (me : ℕ) (node : Node) (to : ℕ) (s : Shared)
    → (effect me (Push node to) s).queues to ≡ pushed node ∷ s.queues to
unfolding effect
pushed-after me node to s = put-here s.queues to (pushed node ∷ s.queues to) to refl

-- a name is counted once
pub name-one : (n : ℕ) (h : Named) → h.name ≡ n → of_named (only n) h ≡ 1
name-one n h q = ap (λ m. one_if (m == n)) q ∙ one-itself n

module _ (e : Setup) (rules : (L : List ℕ) → Rule e (run e L)) (L : List ℕ) (me n : ℕ) where
  abbrev acting : Actor
  acting = actor_after e L me

  abbrev turn : List ℕ
  turn = L ++ me ∷ []

  abbrev IsNow : Actor → Type 0
  IsNow b = observed b ≡ actor_after e turn me

  abbrev shared : Shared
  shared = effect me (wants acting) (run e L).shared

  -- after the turn no block has the name, and no operation is to make it
  abbrev pub NoneNow : Type 0
  NoneNow = (blocks_named e n (run e turn) ≡ 0) × (to_make e n (run e turn) ≡ 0)

  module _ (works : acting.stage ≢ Ended) where
    seat : me < seats e
    seat = scheduler-seat e me (working-scheduler e (run e L) (rules L).kept me works)

    -- the name stood with the scheduler alone, and doesn't stand with it after the turn
    none-after : (c : Actor) → IsNow c → names_of (only n) c ≡ 0
        → total (seats e) (names_of (only n)) (run e L).actors + names_outside e (only n) shared
        ≤ names_of (only n) acting
        → blocks_named e n (run e turn) ≡ 0
    none-after c now bare alone =
        let t = step-is e (run e L) me works in
        let q : run e turn ≡ with_actor (run e L) shared me t.0 = run-snoc e L me ∙ t.1 in
        let v : t.0 ≡ observed c =
        sym (put-here (run e L).actors me t.0 me refl)
        ∙ sym (ap (λ (w : State). w.actors me) q) ∙ sym now in
        let k : Kept e (with_actor (run e L) shared me t.0) =
        subst (Kept e) q (rules turn).kept in
        omega (
          arith,
          k.names.balance (only n),
          total-put (names_of (only n)) (run e L).actors me t.0 (seats e) seat,
          ap (names_of (only n)) v,
          bare,
          alone,
          ap (allocated e (only n)) q,
        )

    -- it was in the hand
    pub hand-out : (st : Stage Content) → acting.stage ≡ st → of_hand (only n) st ≡ 1
        → LeavesNames e (only n) (run e L).shared
        (effect me (wants_at acting.next st) (run e L).shared)
        → (c : Actor) → IsNow c → of_hand (only n) c.stage ≡ 0 → c.held ≡ acting.held
        → c.passed ≡ acting.passed → NoneNow
    hand-out st q one leaves c now empty held passed =
        let k = (rules L).kept.names in
        let hand = ap (of_hand (only n)) q ∙ one in
        let part = total-part (names_of (only n)) (run e L).actors me (seats e) seat in
        let same : LeavesNames e (only n) (run e L).shared shared =
        subst (λ st. LeavesNames e (only n) (run e L).shared
        (effect me (wants_at acting.next st) (run e L).shared)) (sym q) leaves in
        let bare : names_of (only n) c ≡ 0 = omega (
          arith,
          k.balance (only n),
          k.once n,
          part,
          hand,
          empty,
          ap (sum_over (of_named (only n))) held,
          ap (λ (ns : List Node). sum_over (of_node (only n)) ns) passed,
        ) in (
          none-after c now bare (omega (arith, k.balance (only n), k.once n, hand, same)),
          omega (
            arith,
            make-fades e rules n L (me ∷ []),
            (rules L).present.later n,
            k.balance (only n),
            part,
            hand,
          ),
        )

    -- it was held in the middle of the turn
    pub held-out : (h : Named) (b : Actor) → h.name ≡ n → named_at n b.held ≡ Some h
        → Kept e (with_actor (run e L) shared me (at Begin b))
        → (c : Actor) → IsNow c → of_hand (only n) c.stage ≡ 0
        → c.held ≡ without_name n b.held → c.passed ≡ b.passed
        → blocks_named e n (run e turn) ≡ 0
    held-out h b name there k c now empty held passed =
        let put = total-put (names_of (only n)) (run e L).actors me (at Begin b) (seats e) seat in
        let part = total-part (names_of (only n))
        (with_actor (run e L) shared me (at Begin b)).actors me (seats e) seat in
        let here = ap (names_of (only n))
        (put-here (run e L).actors me (at Begin b) me refl) in
        let some = sum-item name_of (of_named (only n)) n h b.held there in
        let none : sum_over (of_named (only n)) (without_name n b.held) ≡ 0 =
        sum-missing name_of (of_named (only n)) n (without_name n b.held)
        (λ x other. one-other x.name n other) (item_at-gone name_of n b.held) in
        let bare : names_of (only n) c ≡ 0 = omega (
          arith,
          k.names.balance (only n),
          k.names.once n,
          part,
          here,
          some,
          name-one n h name,
          none,
          empty,
          ap (sum_over (of_named (only n))) held,
          ap (λ (ns : List Node). sum_over (of_node (only n)) ns) passed,
        ) in
        none-after c now bare (omega (
          arith,
          k.names.balance (only n),
          k.names.once n,
          put,
          some,
          name-one n h name,
        ))
