-- What stands after legal histories.
use Rattle.std.proofs.Common.{◌≡◌, ◌⊎◌, ℕ, ◌+◌, ◌<◌, ◌≤◌, List, []}
use Rattle.std.proofs.Common.{◌∷◌, ◌++◌, length, sym, ap, ◌∙◌, subst, refl, inl, inr, arith}
use Rattle.std.proofs.Common.{◌==◌, ◌&&◌, if◌then◌else◌, fold}
use Rattle.std.specs.Prelude.{Bool, true, IfSome, Option, Some, None, nat_le}
use Rattle.std.proofs.lemmas.List.Sums.{fold-append, sum_by-cons}
use Rattle.ea_model.specs.Keyed.{entered, item_at, without}
use Rattle.ea_model.specs.Region.{Laid, lowest_run, runs}
use Rattle.ea_model.proofs.Rising.{length-entered}
use Rattle.ea_segments.specs.declared.calls.Call.{Call}
use Rattle.ea_segments.specs.declared.calls.Reply.{Reply}
use Rattle.ea_segments.specs.declared.calls.Reply.TheVariants.{At, Done, Full, NoRun, Skipped}
use Rattle.ea_segments.specs.declared.calls.TheConstants.{MAX_SEGMENTS}
use Rattle.ea_segments.specs.declared.held.Held.{Held}
use Rattle.ea_segments.specs.Histories.{IsLegal, IsLegalFrom, IsSound, IsSoundThroughout}
use Rattle.ea_segments.specs.Histories.{Standing, counted_for, given_back, given_under, gives}
use Rattle.ea_segments.specs.Histories.{held_under, is_of, left_by, taken_under, takes}
use Rattle.ea_segments.specs.Histories.{next, oldest, passed, reply_at, reply_to_back, reply_to_run}
use Rattle.ea_segments.specs.Histories.{reply_to_take, segments, standing, stands, start, start_of}
use Rattle.ea_segments.proofs.Holding.{laid-apart, laid-rising, laid-taken, laid-without}
use Rattle.ea_segments.proofs.Holding.{length-without, oldest-own, sum-entered, sum-without}

-- what is kept from call to call
pub record IsKept (total : ℕ) (s : Standing) : Type 0 where
  pub laid : Laid 0 total (segments s.held)
  pub few : length s.held ≤ MAX_SEGMENTS

-- by the reply, what the call was and what it found

take-cases : (n : ℕ) (x : Reply)
    → ((MAX_SEGMENTS ≤ n) × ((if nat_le MAX_SEGMENTS n then Full else x) ≡ Full))
    ⊎ ((n < MAX_SEGMENTS) × ((if nat_le MAX_SEGMENTS n then Full else x) ≡ x))
take-cases n x = grind arith

kind-cases : (n : ℕ) (x y : Reply)
    → ((n ≡ 0) × ((if n == 0 then x else y) ≡ x)) ⊎ ((1 ≤ n) × ((if n == 0 then x else y) ≡ y))
kind-cases n x y = grind arith

no-back : (o : Option Held) (at : ℕ) → At at ≡ reply_to_back o → ⊥
no-back None at q = cc
no-back (Some h) at q = cc

run-found : (o : Option ℕ) (at : ℕ) → At at ≡ reply_to_run o → o ≡ Some at
run-found None at q = absurd cc
run-found (Some x) at q = cc

pub record IsPlaced (total at pages : ℕ) (hs : List Held) : Type 0 where
  pub some : 1 ≤ pages
  pub room : length hs < MAX_SEGMENTS
  pub found : lowest_run pages (runs 0 total (segments hs)) ≡ Some at

pub placed : (total at : ℕ) (s : Standing) (c : Call) → At at ≡ reply_at total s c
    → IsPlaced total at c.pages s.held
placed total at s c q =
    let run = lowest_run c.pages (runs 0 total (segments s.held)) in
    elim (kind-cases c.pages (reply_to_back (oldest c.scheduler c.name s.held))
    (reply_to_take total c.pages s.held)) [
      | inl b ↦ absurd (no-back (oldest c.scheduler c.name s.held) at (q ∙ b.1))
      | inr t ↦ elim (take-cases (length s.held) (reply_to_run run)) [
        | inl full ↦ absurd (let never : At at ≡ Full = q ∙ t.1 ∙ full.1 in cc)
        | inr free ↦ record {
          some = t.0;
          room = free.0;
          found = run-found run at (q ∙ t.1 ∙ free.1);
        }
      ]
    ]

-- a call whose reply is that its segment went back gave back the oldest under its name
no-run : (o : Option ℕ) → Done ≡ reply_to_run o → ⊥
no-run None q = cc
no-run (Some at) q = cc

gave : (total : ℕ) (s : Standing) (c : Call) → Done ≡ reply_at total s c
    → Done ≡ reply_to_back (oldest c.scheduler c.name s.held)
gave total s c q =
    let run = lowest_run c.pages (runs 0 total (segments s.held)) in
    elim (kind-cases c.pages (reply_to_back (oldest c.scheduler c.name s.held))
    (reply_to_take total c.pages s.held)) [
      | inl b ↦ q ∙ b.1
      | inr t ↦ elim (take-cases (length s.held) (reply_to_run run)) [
        | inl full ↦ absurd (let never : Done ≡ Full = q ∙ t.1 ∙ full.1 in cc)
        | inr free ↦ absurd (no-run run (q ∙ t.1 ∙ free.1))
      ]
    ]

-- a call that changes nothing but the count
kept-passed : (total : ℕ) (s : Standing) → IsKept total s → IsKept total (passed s)
kept-passed total s k = record { laid = k.laid; few = k.few }

-- one more segment
kept-taken : (total : ℕ) (s : Standing) (x : Held) → IsKept total s
    → IsPlaced total x.start x.pages s.held
    → IsKept total (record { held = entered start_of x s.held; calls = s.calls + 1 })
kept-taken total s x k p = record {
  laid = laid-taken total x s.held k.laid p.found p.some;
  few = omega (arith, p.room, length-entered start_of x s.held);
}

-- one that goes back
kept-back : (total : ℕ) (s : Standing) (o : Option Held) → IsKept total s
    → IsKept total (given_back o s)
kept-back total s None k = kept-passed total s k
kept-back total s (Some h) k = record {
  laid = laid-without 0 total h.start s.held k.laid;
  few = omega (arith, k.few, length-without h.start s.held);
}

kept-left : (total : ℕ) (s : Standing) (c : Call) (r : Reply) → IsKept total s
    → r ≡ reply_at total s c → IsKept total (left_by r c s)
kept-left total s c (At at) k q = kept-taken total s _ k (placed total at s c q)
kept-left total s c NoRun k q = kept-passed total s k
kept-left total s c Full k q = kept-passed total s k
kept-left total s c Done k q = kept-back total s (oldest c.scheduler c.name s.held) k
kept-left total s c Skipped k q = kept-passed total s k

pub kept-from : (total : ℕ) (s : Standing) (cs : List Call) → IsKept total s
    → IsLegalFrom total s cs → IsKept total (fold next s cs)
kept-from total s [] k legal = k
kept-from total s (c ∷ cs) k legal =
    kept-from total (next s c) cs (kept-left total s c c.reply k legal.0) legal.1

kept-start : (total : ℕ) → IsKept total start
kept-start total = record { laid = omega arith; few = omega arith }

pub kept : (total : ℕ) (cs : List Call) → IsLegal total cs → IsKept total (stands cs)
kept total cs legal = kept-from total start cs (kept-start total) legal

-- segments under a name, from call to call

module _ (i name : ℕ) where
  -- a call of the scheduler under the name
  abbrev is_under : Call → Bool
  is_under c = (c.scheduler == i) && (c.name == name)

  -- with the reply r of a call as many are taken or went back as before, and one more if it took one
  abbrev IsCounted : Standing → Call → Reply → Type 0
  IsCounted s c r = held_under i name (left_by r c s).held + (if is_under c then gives r else 0)
      ≡ held_under i name s.held + (if is_under c then takes r else 0)

  abbrev one_if : Bool → ℕ
  one_if b = if b then 1 else 0

  abbrev none_if : Bool → ℕ
  none_if b = if b then 0 else 0

  no-reply : (b : Bool) → none_if b ≡ 0
  no-reply b = grind arith

  under-same : (h : Held) (c : Call) → is_of c.scheduler c.name h ≡ true
      → one_if (is_of i name h) ≡ one_if (is_under c)
  under-same h c is = grind (arith, is)

  counted-back : (total : ℕ) (s : Standing) (c : Call) (o : Option Held) → IsKept total s
      → Done ≡ reply_to_back o
      → IfSome o (λ h. (item_at start_of s.held h.start ≡ Some h)
      × (is_of c.scheduler c.name h ≡ true))
      → held_under i name (given_back o s).held + one_if (is_under c)
      ≡ held_under i name s.held + none_if (is_under c)
  counted-back total s c None k q found = absurd cc
  counted-back total s c (Some h) k q found = omega (
    arith,
    sum-without (λ x. if is_of i name x then 1 else 0) h.start h s.held
        (laid-rising 0 total s.held k.laid) found.0,
    under-same h c found.1,
    no-reply (is_under c),
  )

  counted-left : (total : ℕ) (s : Standing) (c : Call) (r : Reply) → IsKept total s
      → r ≡ reply_at total s c → IsCounted s c r
  counted-left total s c (At at) k q = omega (
    arith,
    sum-entered (λ x. if is_of i name x then 1 else 0)
        (record {
          start = at;
          pages = c.pages;
          scheduler = c.scheduler;
          name = c.name;
          turn = s.calls;
        }) s.held,
    no-reply (is_under c),
  )
  counted-left total s c NoRun k q = refl
  counted-left total s c Full k q = refl
  counted-left total s c Done k q =
      counted-back total s c (oldest c.scheduler c.name s.held) k (gave total s c q)
      (oldest-own c.scheduler c.name s.held (laid-rising 0 total s.held k.laid))
  counted-left total s c Skipped k q = refl

  counted-from : (total : ℕ) (s : Standing) (cs : List Call) → IsKept total s
      → IsLegalFrom total s cs
      → held_under i name (fold next s cs).held + given_under i name cs
      ≡ held_under i name s.held + taken_under i name cs
  counted-from total s [] k legal = refl
  counted-from total s (c ∷ cs) k legal = omega (
    arith,
    sum_by-cons (counted_for gives i name) c cs,
    sum_by-cons (counted_for takes i name) c cs,
    counted-left total s c c.reply k legal.0,
    counted-from total (next s c) cs (kept-left total s c c.reply k legal.0) legal.1,
  )

pub sound : (total : ℕ) (cs : List Call) → IsLegal total cs → IsSound total cs
sound total cs legal =
    let k = kept total cs legal in
    record {
      laid = k.laid;
      apart = laid-apart 0 total (stands cs).held k.laid;
      few = k.few;
      once = λ i name. omega (arith, counted-from i name total start cs (kept-start total) legal);
    }

-- a front of a legal history is legal, and so is one with one more call that got its reply

front-from : (total : ℕ) (s : Standing) (cs ds : List Call) → IsLegalFrom total s (cs ++ ds)
    → IsLegalFrom total s cs
front-from total s [] ds legal = tt
front-from total s (c ∷ cs) ds legal = (legal.0, front-from total (next s c) cs ds legal.1)

pub legal-front : (total : ℕ) (cs ds : List Call) → IsLegal total (cs ++ ds) → IsLegal total cs
legal-front total cs ds legal = front-from total start cs ds legal

push-from : (total : ℕ) (s : Standing) (cs : List Call) (c : Call) → IsLegalFrom total s cs
    → c.reply ≡ reply_at total (fold next s cs) c → IsLegalFrom total s (cs ++ c ∷ [])
push-from total s [] c legal q = (q, tt)
push-from total s (d ∷ cs) c legal q = (legal.0, push-from total (next s d) cs c legal.1 q)

pub legal-push : (total : ℕ) (cs : List Call) (c : Call) → IsLegal total cs
    → c.reply ≡ reply_at total (stands cs) c → IsLegal total (cs ++ c ∷ [])
legal-push total cs c legal q = push-from total start cs c legal q

pub stands-push : (cs : List Call) (c : Call) → stands (cs ++ c ∷ []) ≡ next (stands cs) c
stands-push cs c = fold-append next start cs (c ∷ [])

calls-from : (s : Standing) (cs : List Call) → (fold next s cs).calls ≡ s.calls + length cs
calls-from s [] = omega arith
calls-from s (c ∷ cs) = omega (arith, calls-from (next s c) cs, counted c.reply c s) where
  back-counted : (o : Option Held) (s : Standing) → (given_back o s).calls ≡ s.calls + 1
  back-counted None s = refl
  back-counted (Some h) s = refl

  counted : (r : Reply) (c : Call) (s : Standing) → (left_by r c s).calls ≡ s.calls + 1
  counted (At at) c s = refl
  counted NoRun c s = refl
  counted Full c s = refl
  counted Done c s = back-counted (oldest c.scheduler c.name s.held) s
  counted Skipped c s = refl

pub calls-count : (cs : List Call) → (stands cs).calls ≡ length cs
calls-count cs = calls-from start cs ∙ omega arith

-- what is held after a call does not depend on what went back before
back-held : (o : Option Held) (s u : Standing) → s.held ≡ u.held
    → (given_back o s).held ≡ (given_back o u).held
back-held None s u e = e
back-held (Some h) s u e = ap (without start_of h.start) e

left-held : (r : Reply) (c : Call) (s u : Standing) → s.held ≡ u.held → s.calls ≡ u.calls
    → (left_by r c s).held ≡ (left_by r c u).held
left-held (At at) c s u e n = rw (e, n) refl
left-held NoRun c s u e n = e
left-held Full c s u e n = e
left-held Done c s u e n =
    ap (λ hs. (given_back (oldest c.scheduler c.name hs) s).held) e
    ∙ back-held (oldest c.scheduler c.name u.held) s u e
left-held Skipped c s u e n = e

-- the segments that are held after one more call
pub held-push : (hs : List Held) (cs : List Call) (c : Call) (turn : ℕ) → hs ≡ (stands cs).held
    → turn ≡ length cs → (next (standing hs turn) c).held ≡ (stands (cs ++ c ∷ [])).held
held-push hs cs c turn e n =
    left-held c.reply c (standing hs turn) (stands cs) e (n ∙ sym (calls-count cs))
    ∙ ap (λ (s : Standing). s.held) (sym (stands-push cs c))

pub held-laid : (total : ℕ) (cs : List Call) (hs : List Held) → IsLegal total cs
    → hs ≡ (stands cs).held → Laid 0 total (segments hs)
held-laid total cs hs legal e =
    subst (λ xs. Laid 0 total (segments xs)) (sym e) (kept total cs legal).laid

pub held-few : (total : ℕ) (cs : List Call) (hs : List Held) → IsLegal total cs
    → hs ≡ (stands cs).held → length hs ≤ MAX_SEGMENTS
held-few total cs hs legal e =
    subst (λ xs. length xs ≤ MAX_SEGMENTS) (sym e) (kept total cs legal).few

pub sound-throughout : (total : ℕ) (log : List Call) → IsLegal total log
    → IsSoundThroughout total log
sound-throughout total log legal front rest is =
    sound total front (legal-front total front rest (subst (IsLegal total) is legal))
