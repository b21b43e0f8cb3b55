-- What plain memory does, by what its queues, its names and its places do.
use Rattle.std.proofs.Common.{◌≡◌, ◌≢◌, ℕ, ◌*◌, ◌<◌, Bool, true, false, List, [], ◌∷◌, Option}
use Rattle.std.proofs.Common.{Some, None, length, refl, sym, ap, ◌∙◌, subst, inl, inr, arith}
use Rattle.std.specs.Prelude.{set}
use Rattle.std.proofs.Math.Path.{fun_ext}
use Rattle.std.proofs.lemmas.Bool.{cases_eq}
use Rattle.std.proofs.lemmas.List.{get_or-set_other, get_or-set_same}
use Rattle.ea_model.specs.declared.carriers.BlockAt.{BlockAt}
use Rattle.ea_model.specs.declared.carriers.Spot.{Spot}
use Rattle.ea_model.specs.declared.units.TheConstants.{NUMBERS}
use Rattle.ea_model.specs.Content.{Content, gaps_of, is_nil, largest}
use Rattle.ea_model.specs.Instance.{owner_of}
use Rattle.ea_machine.specs.declared.nodes.Named.{Named}
use Rattle.ea_machine.specs.declared.nodes.Node.{Node}
use Rattle.ea_machine.specs.declared.owners.OwnerWord.{OwnerWord}
use Rattle.ea_machine.specs.Nodes.{Mark, first_node, link_in, pushed}
use Rattle.ea_machine.specs.Nodes.{spot_named, with_name, without_name}
use Rattle.ea_machine.specs.Alike.{HasNoAlike}
use Rattle.ea_machine.specs.Machine.{first_place, start}
use Rattle.ea_machine.specs.Owners.{CarrierAt, Absent, Employed, Pooled, Busy, Returning, word_of}
use Rattle.ea_machine.specs.Setup.{Setup}
use Rattle.ea_machine.specs.Shared.{Shared, at_place, put}
use Rattle.ea_machine.specs.Rows.{Answer, Abandon, BusyTry, Clear, Create, Done, FetchTry, Give}
use Rattle.ea_machine.specs.Rows.{Got, Head, Home, Link, Look, Lost, Passes, Push, Rests, Row}
use Rattle.ea_machine.specs.Rows.{Saw, SendHome, Settle, TakeAll, TakeLink, TakeTry, Won}
use Rattle.ea_machine.specs.Table.{answer, effect, link_answer, moved_if, rest_after, returned}
use Rattle.ea_machine.specs.Table.{settled_at, tried_at}
use Rattle.ea_queues.specs.Chains.{HasNone, Queueing, marks_of}
use Rattle.ea_shared.specs.Calls.{Did}
use Rattle.ea_shared.specs.Carriers.{HasReturned, IsCarrier, home_of}
use Rattle.ea_mem_shared.specs.Memory.{Sharing, shared_of, told_of}
use Rattle.ea_mem_shared.specs.Places.{after_try, place_at}

put-here : {A : Type 0} (f : ℕ → A) (k : ℕ) (v : A) (n : ℕ) → n ≡ k → put f k v n ≡ v
put-here f k v n same = grind (arith, same)

put-there : {A : Type 0} (f : ℕ → A) (k : ℕ) (v : A) (n : ℕ) → n ≢ k → put f k v n ≡ f n
put-there f k v n other = grind (arith, other)

not-nil : (bs : List BlockAt) → bs ≢ [] → is_nil bs ≡ false
not-nil [] some = absurd (some refl)
not-nil (b ∷ bs) some = refl

-- what is told of these places, queues, walks and given names
abbrev told : (ℕ → CarrierAt) → (ℕ → List Mark) → (ℕ → List Mark) → List Named → Shared
told places queues rests given = record {
  places = places;
  queues = queues;
  rests = rests;
  given = given;
}

told-same : {places others_at : ℕ → CarrierAt} {queues others rests walks : ℕ → List Mark}
    {given names : List Named} → places ≡ others_at → queues ≡ others → rests ≡ walks
    → given ≡ names → told places queues rests given ≡ told others_at others walks names
told-same d e f g = rw (d, e, f, g) refl

-- what queues, given names and places are to those who share them
abbrev pub sharing : Queueing → List Named → List CarrierAt → Bool → Sharing
sharing q given places migrates = record {
  queues = q.queues;
  rests = q.rests;
  given = given;
  places = places;
  schedulers = q.schedulers;
  greatest = q.greatest;
  migrates = migrates;
}

module _ (me : ℕ) (row : Row) (got : Answer) where
  -- the row made t of s in plain memory, with this answer
  abbrev Does : Sharing → Sharing → Type 0
  Does s t = Did me row got (told_of s) (told_of t)

  does : (s t : Sharing) → got ≡ answer me row (shared_of s)
      → shared_of t ≡ effect me row (shared_of s) → Does s t
  does s t answered made = record {
    shared = record { answered = answered; made = ap Some made };
    shared_untold = λ e. absurd cc;
    caller = tt;
    caller_untold = λ e. refl;
  }

  -- of what is seen as s
  does-seen : (s now t : Sharing) → now ≡ s → got ≡ answer me row (shared_of now)
      → shared_of t ≡ effect me row (shared_of now) → Does s t
  does-seen s now t view answered made = subst (λ x. Does x t) view (does now t answered made)

-- queues and names become these, which are seen as s before
module _ (me : ℕ) (s : Sharing) (q r : Queueing) (given : List Named) (places : List CarrierAt)
    (migrates : Bool) (view : sharing q given places migrates ≡ s) where
  -- by a row that leaves the given names and the places
  abbrev Requeues : Row → Answer → Type 0
  Requeues row got = Does me row got s (sharing r given places migrates)

  abbrev queued : Shared
  queued = shared_of (sharing q given places migrates)

  queues-do : (row : Row) (got : Answer) → got ≡ answer me row queued
      → shared_of (sharing r given places migrates) ≡ effect me row queued → Requeues row got
  queues-do row got = does-seen me row got s (sharing q given places migrates)
      (sharing r given places migrates) view

  pub took-all : (node : Option Node) → node ≡ first_node (marks_of q.queues me)
      → marks_of r.queues ≡ put (marks_of q.queues) me []
      → marks_of r.rests ≡ put (marks_of q.rests) me (marks_of q.queues me)
      → Requeues TakeAll (Head node)
  unfolding answer effect
  took-all node e f g = queues-do TakeAll (Head node) (ap Head e) (told-same refl f g refl)

  pub took-link : (got : Answer) → got ≡ link_answer (marks_of q.rests me)
      → marks_of r.queues ≡ marks_of q.queues
      → marks_of r.rests ≡ put (marks_of q.rests) me (rest_after (marks_of q.rests me))
      → Requeues TakeLink got
  unfolding answer effect
  took-link got e f g = queues-do TakeLink got e (told-same refl f g refl)

  pub did-push : (to : ℕ) (node : Node)
      → marks_of r.queues ≡ put (marks_of q.queues) to (pushed node ∷ marks_of q.queues to)
      → marks_of r.rests ≡ marks_of q.rests
      → Requeues (Push node to) Done
  unfolding answer effect
  did-push to node f g = queues-do (Push node to) Done refl (told-same refl f g refl)

  pub did-link : (to : ℕ) (node : Node)
      → marks_of r.queues ≡ put (marks_of q.queues) to (link_in node (marks_of q.queues to))
      → marks_of r.rests ≡ put (marks_of q.rests) to (link_in node (marks_of q.rests to))
      → Requeues (Link node to) Done
  unfolding answer effect
  did-link to node f g = queues-do (Link node to) Done refl (told-same refl f g refl)

-- the given names become these
module _ (me : ℕ) (s : Sharing) (q : Queueing) (given names : List Named)
    (places : List CarrierAt) (migrates : Bool) (view : sharing q given places migrates ≡ s)
  where
    -- by a row that leaves the queues, the walks and the places
    abbrev Renames : Row → Answer → Type 0
    Renames row got = Does me row got s (sharing q names places migrates)

    abbrev named : Shared
    named = shared_of (sharing q given places migrates)

    names-do : (row : Row) (got : Answer) → got ≡ answer me row named
        → shared_of (sharing q names places migrates) ≡ effect me row named → Renames row got
    names-do row got = does-seen me row got s (sharing q given places migrates)
        (sharing q names places migrates) view

    pub did-give : (x : Named) → names ≡ with_name x given → Renames (Give x) Done
    unfolding answer effect
    did-give x e = names-do (Give x) Done refl (told-same refl refl refl e)

    pub took-try : (name : ℕ) (spot : Option Spot) → spot ≡ spot_named name given
        → names ≡ without_name name given → Renames (TakeTry name) (Got spot)
    unfolding answer effect
    took-try name spot e f = names-do (TakeTry name) (Got spot) (ap Got e)
        (told-same refl refl refl f)

-- one more place
places-put : (places : List CarrierAt) (number : ℕ) (p : CarrierAt) → number < length places
    → place_at (set places number p) ≡ put (place_at places) number p
places-put places number p within = fun_ext (λ n. elim (cases_eq n number) [
  | inl same ↦ at_it n same
  | inr other ↦ at_other n other
]) where
  at_it : (n : ℕ) → n ≡ number
      → place_at (set places number p) n ≡ put (place_at places) number p n
  at_it n same = ap (place_at (set places number p)) same
      ∙ get_or-set_same places number p Absent within
      ∙ sym (put-here (place_at places) number p n same)

  at_other : (n : ℕ) → n ≢ number
      → place_at (set places number p) n ≡ put (place_at places) number p n
  at_other n other = get_or-set_other places number n p Absent other
      ∙ sym (put-there (place_at places) number p n other)

-- what is shared before the first step
pub start-shared : (e : Setup) (q : Queueing) (given : List Named) (places : List CarrierAt)
    (migrates : Bool) → marks_of q.queues ≡ (λ i. []) → marks_of q.rests ≡ (λ i. []) → given ≡ []
    → ((n : ℕ) → place_at places n ≡ first_place e n)
    → shared_of (sharing q given places migrates) ≡ (start e).shared
start-shared e q given places migrates queues rests none are =
    told-same (fun_ext are) queues rests none

-- an owner word is read, and nothing changes
pub did-look : (me : ℕ) (s : Sharing) (number : ℕ) (got : OwnerWord)
    → got ≡ word_of (place_at s.places number)
    → Does me (Look number) (Saw got) s s
unfolding answer effect
did-look me s number got e = does me (Look number) (Saw got) s s (ap Saw e) refl

-- what is at home of a carrier that is employed, and of one that has returned
pub none-home : (me : ℕ) (p : CarrierAt) → p ≡ Employed me → None ≡ returned p
none-home me p is = sym (ap returned is)

pub some-home : (me : ℕ) (p : CarrierAt) (x : Content) → HasReturned me p → home_of p ≡ Some x
    → Some x ≡ returned p
some-home me p x (y, is) home = sym (ap returned is ∙ (sym (ap home_of is) ∙ home))

-- the places become these
module _ (me : ℕ) (s : Sharing) (q : Queueing) (given : List Named) (places : List CarrierAt)
    (migrates : Bool) (view : sharing q given places migrates ≡ s)
    (room : migrates ≡ true → NUMBERS * q.schedulers < length places) (on : s.migrates ≡ true)
    (number : ℕ) (is_number : IsCarrier s.schedulers number) (new : List CarrierAt) where
  abbrev part : Shared
  part = shared_of (sharing q given places migrates)

  -- by a row that leaves the others
  abbrev Moves : Row → Answer → Type 0
  Moves row got = Does me row got s (sharing q given new migrates)

  moves : (row : Row) (got : Answer) → got ≡ answer me row part
      → shared_of (sharing q given new migrates) ≡ effect me row part → Moves row got
  moves row got = does-seen me row got s (sharing q given places migrates)
      (sharing q given new migrates) view

  -- the number has a place, since carriers migrate
  within : number < length places
  within =
      let roomy = room (ap (λ (x : Sharing). x.migrates) view ∙ on) in
      omega (arith, roomy, is_number.1, ap (λ (x : Sharing). x.schedulers) view)

  abbrev Put : CarrierAt → Type 0
  Put p = new ≡ set places number p

  becomes : (p : CarrierAt) → Put p
      → shared_of (sharing q given new migrates) ≡ at_place number p part
  becomes p is = told-same (ap place_at is ∙ places-put places number p within) refl refl refl

  pub did-create : Put (Employed me) → Moves (Create number) Done
  unfolding answer effect
  did-create is = moves (Create number) Done refl (becomes (Employed me) is)

  pub did-clear : (home : Option Content) → home ≡ returned (place_at places number)
      → Put Absent → Moves (Clear number) (Home home)
  unfolding answer effect
  did-clear home e is = moves (Clear number) (Home home) (ap Home e) (becomes Absent is)

  -- with a content
  module _ (x : Content) (same : x.number ≡ number) where
    at-number : (p : CarrierAt) → at_place number p part ≡ at_place x.number p part
    at-number p = ap (λ n. at_place n p part) (sym same)

    pub did-abandon : (g : ℕ) → g ≡ largest (gaps_of x) → Put (Pooled me g x)
        → Moves (Abandon x) Done
    unfolding answer effect
    did-abandon g e is = moves (Abandon x) Done refl
        (becomes (Pooled me g x) is ∙ at-number (Pooled me g x)
        ∙ ap (λ m. at_place x.number (Pooled me m x) part) e)

    pub did-send : (owner : ℕ) → owner ≡ owner_of number → Put (Returning owner x)
        → Moves (SendHome x) Done
    unfolding answer effect
    did-send owner e is = moves (SendHome x) Done refl
        (becomes (Returning owner x) is ∙ at-number (Returning owner x)
        ∙ ap (λ i. at_place x.number (Returning i x) part) (e ∙ ap owner_of (sym same)))

    pub did-settle : (g : ℕ) → x.blocks ≢ [] → g ≡ largest (gaps_of x) → Put (Pooled me g x)
        → Moves (Settle x) Done
    unfolding answer effect
    did-settle g some e is = moves (Settle x) Done refl
        (becomes (Pooled me g x) is ∙ at-number (Pooled me g x)
        ∙ ap (λ m. at_place x.number (Pooled me m x) part) e
        ∙ ap (λ b. at_place x.number (settled_at me x b) part) (sym (not-nil x.blocks some)))

    pub did-settle_empty : x.blocks ≡ [] → Put (Employed me) → Moves (Settle x) Done
    unfolding answer effect
    did-settle_empty none is = moves (Settle x) Done refl
        (becomes (Employed me) is ∙ at-number (Employed me)
        ∙ ap (λ b. at_place x.number (settled_at me x b) part) (sym (ap is_nil none)))

  -- a try
  module _ (seen : OwnerWord) where
    abbrev tried : Answer
    tried = tried_at seen (place_at places number)

    module _ (to : CarrierAt) (is : new ≡ after_try tried number to places) where
      tried_by : (r : Answer)
          → shared_of (sharing q given (after_try r number to places) migrates)
          ≡ moved_if r number to part
      tried_by (Won x) = told-same (places-put places number to within) refl refl refl
      tried_by Done = refl
      tried_by (Head n) = refl
      tried_by Rests = refl
      tried_by (Passes n) = refl
      tried_by (Saw w) = refl
      tried_by (Lost w) = refl
      tried_by (Home h) = refl
      tried_by (Got g) = refl

      tried-made : shared_of (sharing q given new migrates) ≡ moved_if tried number to part
      tried-made = ap (λ ps. shared_of (sharing q given ps migrates)) is ∙ tried_by tried

    pub did-busy : (got : Answer) → got ≡ tried → new ≡ after_try tried number (Busy me) places
        → Moves (BusyTry number seen) got
    unfolding answer effect
    did-busy got e is = moves (BusyTry number seen) got e (tried-made (Busy me) is)

    pub did-fetch : (got : Answer) → got ≡ tried
        → new ≡ after_try tried number (Employed me) places → Moves (FetchTry number seen) got
    unfolding answer effect
    did-fetch got e is = moves (FetchTry number seen) got e (tried-made (Employed me) is)

-- where no node of a name is in a queue or a walk, none is in the memory's
pub nowhere-seen : (node : Node) (s : Sharing) (q : Queueing) (given : List Named)
    (places : List CarrierAt) (migrates : Bool) → sharing q given places migrates ≡ s
    → HasNoAlike node (shared_of s) → HasNone node q
nowhere-seen node s q given places migrates view none =
    subst (λ x. HasNoAlike node (shared_of x)) (sym view) none
