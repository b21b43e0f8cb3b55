-- What a row leaves, the local work after it keeps.
use Rattle.std.proofs.Common.{◌≡◌, ◌≢◌, ◌⊎◌, ℕ, zero, suc, List, [], ◌∷◌, true, refl, sym, ap}
use Rattle.std.proofs.Common.{◌∙◌, subst, inl, inr, arith}
use Rattle.std.specs.Prelude.{Some, None, ◌==◌}
use Rattle.ea_model.specs.declared.entries.Entry.TheVariants as entry
use Rattle.ea_model.specs.declared.operations.Op.{Op}
use Rattle.ea_model.specs.declared.operations.Op.TheVariants as op
use Rattle.ea_model.specs.Trace.{makes}
use Rattle.ea_model.specs.Content.{Content}
use Rattle.ea_model.specs.Employment.{employing}
use Rattle.ea_machine.specs.Lists.{unlisted}
use Rattle.ea_machine.specs.Placements.{fetches}
use Rattle.ea_machine.specs.Releases.{struck}
use Rattle.ea_machine.specs.Searches.{passed, with_counted}
use Rattle.ea_machine.specs.Setup.{greatest_number}
use Rattle.ea_machine.specs.declared.parts.Part.{Part}
use Rattle.ea_machine.specs.declared.owners.OwnerWord.{OwnerWord}
use Rattle.ea_machine.specs.declared.stages.Stage.{Stage}
use Rattle.ea_machine.specs.declared.stages.Stage.TheVariants.{Begin, Routed, Collecting, Searching}
use Rattle.ea_machine.specs.declared.stages.Stage.TheVariants.{Fetching, Creating, Giving, Taking}
use Rattle.ea_machine.specs.declared.stages.Stage.TheVariants.{Ended, Ready}
use Rattle.ea_machine.specs.Actor.{Actor}
use Rattle.ea_machine.specs.declared.tasks.Why.TheVariants.{Walk, For}
use Rattle.ea_machine.specs.declared.asks.Ask.{Ask}
use Rattle.ea_machine.specs.Machine.{after, after_row, onward_at}
use Rattle.ea_machine.specs.Operations.{took}
use Rattle.ea_machine.specs.Placements.{fetched, holding, searched}
use Rattle.ea_machine.specs.Searches.{fits}
use Rattle.ea_machine.specs.Releases.{disowned, turned}
use Rattle.ea_machine.specs.Rows.{Answer, Done, Head, Rests, Passes, Saw, Won, Lost, Home, Got}
use Rattle.ea_machine.specs.Setup.{Setup}
use Rattle.ea_machine.specs.Shared.{Shared}
use Rattle.ea_machine.specs.State.{State}
use Rattle.ea_machine.specs.Sums.{one_if}
use Rattle.ea_machine.specs.Tasks.{entry_of, let_go}
use Rattle.ea_machine.specs.Walks.{after_route, begun, with_passed}
use Rattle.ea_sound.specs.Names.{made_in}
use Rattle.ea_sound.specs.Leaves.{InOperation, InWalk, IsFresh, Leaves}
use Rattle.ea_sound.specs.Moments.{at}
use Rattle.ea_sound.proofs.Assembly.{Closed, ClosedWalk, carried-holds, turned-holds, worked-holds}
use Rattle.ea_sound.proofs.Working.{ClosedOperation, FirstFresh, created-holds, itself-holds}
use Rattle.ea_sound.proofs.Working.{placed-holds, saw-holds, search-holds}

same-number : (n : ℕ) → (n == n) ≡ true
same-number n = grind arith

module _ (e : Setup) (w : State) (s : Shared) (me : ℕ)
    (v : Closed e s me (InWalk e w s me)) (walk : ClosedWalk (InWalk e w s me))
    (c : Closed e s me (InOperation e w s me)) (o : ClosedOperation e w s me) where
  abbrev V : Actor → Type 0
  V = InWalk e w s me

  abbrev G : Actor → Type 0
  G = InOperation e w s me

  abbrev LeavesAt : Actor → Stage Content → Answer → Type 0
  LeavesAt = Leaves e w s me

  begun-holds : (a : Actor) (r : Answer) → LeavesAt a Begin r → V (begun e me a r)
  begun-holds a (Head None) l = walk.ready a l
  begun-holds a (Head (Some n)) l = walk.next (Some n) a l
  begun-holds a Rests l = walk.ready a l
  begun-holds a (Passes (Some n)) l =
      walk.next (Some n) (record a { passed = with_passed a.next a.passed }) l
  begun-holds a (Passes None) l =
      worked-holds e w s me V v walk (with_passed a.next a.passed) (record a { next = None })
      (walk.next None (record a { passed = with_passed a.next a.passed }) l)
  begun-holds a Done l = absurd l
  begun-holds a (Saw x) l = absurd l
  begun-holds a (Won x) l = absurd l
  begun-holds a (Lost x) l = absurd l
  begun-holds a (Home x) l = absurd l
  begun-holds a (Got x) l = absurd l

  searched-holds : (ask : Ask) (n : ℕ) (part : Part) (a : Actor) (r : Answer)
      → LeavesAt a (Searching ask n part) r → G (searched e me ask n part a r)
  searched-holds ask n part a (Saw x) l =
      saw-holds e w s me c o ask n (with_counted x part) a x (fits ask.need x) l.0 l.1
  searched-holds ask n part a Done l = absurd l
  searched-holds ask n part a (Head x) l = absurd l
  searched-holds ask n part a Rests l = absurd l
  searched-holds ask n part a (Passes x) l = absurd l
  searched-holds ask n part a (Won x) l = absurd l
  searched-holds ask n part a (Lost x) l = absurd l
  searched-holds ask n part a (Home x) l = absurd l
  searched-holds ask n part a (Got x) l = absurd l

  fetched-holds : (ask : Ask) (n : ℕ) (part : Part) (seen : OwnerWord) (a : Actor) (r : Answer)
      → LeavesAt a (Fetching ask n part seen) r → G (fetched e me ask n part a r)
  fetched-holds ask n part seen a (Won x) l =
      let b : Actor = record a { instance = employing a.instance x } in
      placed-holds e w s me c o ask (fetches n x a) l.1.0 (o.listed ask (unlisted n a.lists) b l.0)
      l.1.1 (c.lists (unlisted n a.lists) (at Begin b) (λ q. absurd cc) l.2)
  fetched-holds ask n part seen a (Lost x) l =
      search-holds e w s me c o ask (passed (greatest_number e) a.lists n part x) a l.0 l.1
  fetched-holds ask n part seen a Done l = absurd l
  fetched-holds ask n part seen a (Head x) l = absurd l
  fetched-holds ask n part seen a Rests l = absurd l
  fetched-holds ask n part seen a (Passes x) l = absurd l
  fetched-holds ask n part seen a (Saw x) l = absurd l
  fetched-holds ask n part seen a (Home x) l = absurd l
  fetched-holds ask n part seen a (Got x) l = absurd l

  took-holds : (n tries left : ℕ) (a : Actor) (r : Answer) → LeavesAt a (Taking n tries left) r
      → G (took n tries left a r)
  took-holds n tries left a (Got (Some spot)) l = c.log (entry.Take n) (holding n spot a) l
  took-holds n tries zero a (Got None) l = c.log (entry.TakeAbsent n tries) a l
  took-holds n tries (suc zero) a (Got None) l = c.log (entry.TakeAbsent n tries) a l
  took-holds n tries (suc (suc left)) a (Got None) l = o.rest (Taking n tries (suc left)) a tt l
  took-holds n tries left a Done l = absurd l
  took-holds n tries left a (Head x) l = absurd l
  took-holds n tries left a Rests l = absurd l
  took-holds n tries left a (Passes x) l = absurd l
  took-holds n tries left a (Saw x) l = absurd l
  took-holds n tries left a (Won x) l = absurd l
  took-holds n tries left a (Lost x) l = absurd l
  took-holds n tries left a (Home x) l = absurd l

  after_row-holds : (a : Actor) (r : Answer) (st : Stage Content) → LeavesAt a st r
      → V (after_row e me a r st) ⊎ G (after_row e me a r st)
  after_row-holds a r Begin l = inl (begun-holds a r l)
  after_row-holds a r (Routed z Walk g) l =
      let t = turned e me z g a r in
      inl (carried-holds e w s me V v Walk t.actor.passed (after_route e me Walk) t
      ((turned-holds e w s me V v z Walk g a r l).0, refl)
      (λ h b q k. worked-holds e w s me V v walk b.passed b k))
  after_row-holds a r (Routed z (For task) g) l =
      let t = turned e me z g a r in
      inr (carried-holds e w s me G c (For task) t.actor.passed (after_route e me (For task)) t
      ((turned-holds e w s me G c z (For task) g a r l).0, refl)
      (λ h b q k. c.log (entry_of task h) b k))
  after_row-holds a r (Collecting d) l =
      inl (worked-holds e w s me V v walk a.passed (disowned d (struck d a))
      (v.lists (unlisted d a.lists) (at Begin (disowned d a)) (λ q. absurd cc) l))
  after_row-holds a r (Searching ask n part) l = inr (searched-holds ask n part a r l)
  after_row-holds a r (Fetching ask n part seen) l = inr (fetched-holds ask n part seen a r l)
  after_row-holds a r (Creating ask p) l = inr (created-holds e w s me c o ask p a l.0 l.1 l.2)
  after_row-holds a r (Giving h to) l = inr (c.log (entry.Give h.name to) (let_go h.name a) l)
  after_row-holds a r (Taking n tries left) l = inr (took-holds n tries left a r l)
  after_row-holds a r Ended l = inr l
  after_row-holds a r Ready l = absurd l

  -- the name that is made next is fresh when the begin is over
  first-made : (a : Actor) (n : ℕ) (p : Op) (ops : List Op) → V (at Begin a) → makes n p ≡ true
      → a.todo ≡ p ∷ ops → IsFresh e w s me n (at Begin a)
  first-made a n p ops h m q = h.fresh n (omega (arith, ap (made_in n) q, ap one_if m))

  first-fresh : (a : Actor) (ops : List Op) → V (at Begin a) → a.todo ≡ ops
      → FirstFresh e w s me c o a ops
  first-fresh a [] h q = tt
  first-fresh a (op.Alloc n bytes ∷ ops) h q =
      first-made a n (op.Alloc n bytes) ops h (same-number n) q
  first-fresh a (op.Free n ∷ ops) h q = tt
  first-fresh a (op.Realloc old n bytes ∷ ops) h q =
      first-made a n (op.Realloc old n bytes) ops h (same-number n) q
  first-fresh a (op.Give n to ∷ ops) h q = tt
  first-fresh a (op.Take n tries ∷ ops) h q = tt
  first-fresh a (op.Info ∷ ops) h q = tt
  first-fresh a (op.Idle ∷ ops) h q = tt

  -- once the begin is over, the operation itself
  begins : (a : Actor) → a.stage ≡ Ready → V a → V (at Begin a)
  begins a q h = walk.begin a (subst (λ st. V (at st a)) q h)

  pub begun-walk : (a : Actor) (r : Answer) (st : Stage Content) → LeavesAt a st r
      → (after_row e me a r st).stage ≡ Ready → V (at Begin (after_row e me a r st))
  begun-walk a r st l ready =
      elim (after_row-holds a r st l) [
        | inl h ↦ begins (after_row e me a r st) ready h
        | inr g ↦ absurd (g.busy ready)
      ]

  walked : (a : Actor) → V a → a.stage ≢ Ready → G a
  walked a h busy = record { kept = h.kept; busy = busy }

  onward-holds : (a : Actor) (st : Stage Content) → a.stage ≡ st → V a → G (onward_at e me a st)
  onward-holds a Ready q h =
      let k = begins a q h in
      itself-holds e w s me c o a a.todo (first-fresh a a.todo k refl)
      (record { kept = k.kept; busy = λ r. absurd cc })
  onward-holds a Begin q h = walked a h (λ r. let t = sym q ∙ r in cc)
  onward-holds a (Routed z y g) q h = walked a h (λ r. let t = sym q ∙ r in cc)
  onward-holds a (Collecting d) q h = walked a h (λ r. let t = sym q ∙ r in cc)
  onward-holds a (Searching ask n l) q h = walked a h (λ r. let t = sym q ∙ r in cc)
  onward-holds a (Fetching ask n l x) q h = walked a h (λ r. let t = sym q ∙ r in cc)
  onward-holds a (Creating ask p) q h = walked a h (λ r. let t = sym q ∙ r in cc)
  onward-holds a (Giving x to) q h = walked a h (λ r. let t = sym q ∙ r in cc)
  onward-holds a (Taking n tries l) q h = walked a h (λ r. let t = sym q ∙ r in cc)
  onward-holds a Ended q h = walked a h (λ r. let t = sym q ∙ r in cc)

  already-holds : (a : Actor) (st : Stage Content) → a.stage ≡ st → G a → G (onward_at e me a st)
  already-holds a Ready q g = absurd (g.busy q)
  already-holds a Begin q g = g
  already-holds a (Routed z y h) q g = g
  already-holds a (Collecting d) q g = g
  already-holds a (Searching ask n l) q g = g
  already-holds a (Fetching ask n l x) q g = g
  already-holds a (Creating ask p) q g = g
  already-holds a (Giving x to) q g = g
  already-holds a (Taking n tries l) q g = g
  already-holds a Ended q g = g

  -- all local work
  pub after-holds : (a : Actor) (r : Answer) (st : Stage Content) → LeavesAt a st r
      → G (after e me a r st)
  unfolding after
  after-holds a r st l =
      let b = after_row e me a r st in
      o.observe (onward_at e me b b.stage)
      (elim (after_row-holds a r st l) [
        | inl h ↦ onward-holds b b.stage refl h
        | inr h ↦ already-holds b b.stage refl h
      ])
