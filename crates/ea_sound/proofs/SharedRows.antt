-- What a row leaves of queues and walks of nobody, and of given names.
use Rattle.std.proofs.Common.{◌≡◌, ◌≢◌, ℕ, [], ◌∷◌, refl, subst, sym, ap, ◌∙◌, inl, inr}
use Rattle.std.specs.Prelude.{AllPairs}
use Rattle.std.proofs.lemmas.Bool.{cases_eq}
use Rattle.ea_model.specs.Keyed.{IsBelow}
use Rattle.ea_model.proofs.Rising.{rising-entered}
use Rattle.ea_machine.specs.Nodes.{link_in, pushed, name_of}
use Rattle.ea_machine.specs.Owners.{CarrierAt, Busy, Employed}
use Rattle.ea_machine.specs.Rows.{Answer, Done, Head, Rests, Passes, Saw, Won, Lost, Home, Got, Row}
use Rattle.ea_machine.specs.Rows.{TakeAll, TakeLink, Look, Push, Link, BusyTry, Settle, Abandon}
use Rattle.ea_machine.specs.Rows.{FetchTry, Create, SendHome, Clear, Give, TakeTry, Nothing}
use Rattle.ea_machine.specs.Shared.{Shared}
use Rattle.ea_machine.specs.Table.{effect, moved_if, tried_at}
use Rattle.ea_sound.proofs.HeldNames.{let_go-rising, times_held}
use Rattle.ea_sound.proofs.KeyedWeights.{times-others}
use Rattle.ea_sound.proofs.Totals.{put-here, put-other}

pub tried-queues : (r : Answer) (c i : ℕ) (p : CarrierAt) (s : Shared)
    → (moved_if r c p s).queues i ≡ s.queues i
tried-queues (Won x) c i p s = refl
tried-queues (Lost v) c i p s = refl
tried-queues Done c i p s = refl
tried-queues (Head n) c i p s = refl
tried-queues Rests c i p s = refl
tried-queues (Passes n) c i p s = refl
tried-queues (Saw v) c i p s = refl
tried-queues (Home x) c i p s = refl
tried-queues (Got o) c i p s = refl

tried-given : (r : Answer) (c : ℕ) (p : CarrierAt) (s : Shared) → (moved_if r c p s).given ≡ s.given
tried-given (Won x) c p s = refl
tried-given (Lost v) c p s = refl
tried-given Done c p s = refl
tried-given (Head n) c p s = refl
tried-given Rests c p s = refl
tried-given (Passes n) c p s = refl
tried-given (Saw v) c p s = refl
tried-given (Home x) c p s = refl
tried-given (Got o) c p s = refl

-- where the row doesn't push there
abbrev pub PushesNot : ℕ → Row → Type 0
PushesNot i (Push node to) = i ≢ to
PushesNot i row = Unit {0}

-- an empty queue stays so
pub row-queue : (me : ℕ) (row : Row) (s : Shared) (i : ℕ) → i ≢ me → PushesNot i row
    → s.queues i ≡ [] → (effect me row s).queues i ≡ []
unfolding effect
row-queue me TakeAll s i other not none = put-other s.queues me [] i other ∙ none
row-queue me TakeLink s i other not none = none
row-queue me (Look c) s i other not none = none
row-queue me (Push node to) s i other not none =
    put-other s.queues to (pushed node ∷ s.queues to) i not ∙ none
row-queue me (Link node to) s i other not none = elim (cases_eq i to) [
  | inl q ↦ put-here s.queues to (link_in node (s.queues to)) i q
      ∙ ap (λ j. link_in node (s.queues j)) (sym q) ∙ ap (link_in node) none
  | inr n ↦ put-other s.queues to (link_in node (s.queues to)) i n ∙ none
]
row-queue me (BusyTry c seen) s i other not none =
    tried-queues (tried_at seen (s.places c)) c i (Busy me) s ∙ none
row-queue me (Settle x) s i other not none = none
row-queue me (Abandon x) s i other not none = none
row-queue me (FetchTry c seen) s i other not none =
    tried-queues (tried_at seen (s.places c)) c i (Employed me) s ∙ none
row-queue me (Create c) s i other not none = none
row-queue me (SendHome x) s i other not none = none
row-queue me (Clear c) s i other not none = none
row-queue me (Give given) s i other not none = none
row-queue me (TakeTry name) s i other not none = none
row-queue me Nothing s i other not none = none

-- a name that is given isn't given already
abbrev pub GivesNew : Shared → Row → Type 0
GivesNew s (Give given) = times_held given.name s.given ≡ 0
GivesNew s row = Unit {0}

-- given names stand by rising name
pub row-given : (me : ℕ) (row : Row) (s : Shared) → GivesNew s row
    → AllPairs (IsBelow name_of) s.given → AllPairs (IsBelow name_of) (effect me row s).given
unfolding effect
row-given me TakeAll s new rising = rising
row-given me TakeLink s new rising = rising
row-given me (Look c) s new rising = rising
row-given me (Push node to) s new rising = rising
row-given me (Link node to) s new rising = rising
row-given me (BusyTry c seen) s new rising =
    subst (AllPairs (IsBelow name_of))
    (sym (tried-given (tried_at seen (s.places c)) c (Busy me) s)) rising
row-given me (Settle x) s new rising = rising
row-given me (Abandon x) s new rising = rising
row-given me (FetchTry c seen) s new rising =
    subst (AllPairs (IsBelow name_of))
    (sym (tried-given (tried_at seen (s.places c)) c (Employed me) s)) rising
row-given me (Create c) s new rising = rising
row-given me (SendHome x) s new rising = rising
row-given me (Clear c) s new rising = rising
row-given me (Give given) s new rising = rising-entered name_of given s.given rising
    (times-others name_of given.name s.given new)
row-given me (TakeTry name) s new rising = let_go-rising name s.given rising
row-given me Nothing s new rising = rising
