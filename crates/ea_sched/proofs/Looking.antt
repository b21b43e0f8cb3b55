-- Where a look of a search leaves a scheduler, by the word that it saw.
use Rattle.std.proofs.Common.{◌≡◌, ℕ, true, false, sym, ap, ◌∙◌, subst}
use Rattle.ea_machine.specs.declared.asks.Ask.{Ask}
use Rattle.ea_machine.specs.declared.owners.OwnerWord.{OwnerWord}
use Rattle.ea_machine.specs.declared.parts.Part.{Part}
use Rattle.ea_machine.specs.declared.stages.Stage.TheVariants.{Fetching, Searching}
use Rattle.ea_machine.specs.Actor.{Actor}
use Rattle.ea_machine.specs.Lists.{Lists}
use Rattle.ea_machine.specs.Machine.{after_row, onward}
use Rattle.ea_machine.specs.Placements.{search_on, searched, searched_by}
use Rattle.ea_machine.specs.Rows.{Saw}
use Rattle.ea_machine.specs.Searches as machine
use Rattle.ea_machine.specs.Searches.{fits, goes_on, passed, with_counted}
use Rattle.ea_machine.specs.Setup.{Setup, greatest_number, migration}
use Rattle.ea_search.specs.Looks.{saw_by}
use Rattle.ea_shared.specs.Calls.{Told}
use Rattle.ea_sched.specs.declared.state.Scheduler.{Scheduler}
use Rattle.ea_sched.specs.Acting.{actor_of, ready_of, setup_for, standing_at}
use Rattle.ea_sched.specs.Steps.{IsReady, IsReadyAt, gone_on_by}
use Rattle.ea_sched.proofs.Placing.{onward-skip, onward-try}

module _ (s : Scheduler) (on : migration (setup_for s) ≡ true) (ask : Ask) (at : ℕ) (part : Part)
    (now : s.stage ≡ Searching ask at part) (seen : OwnerWord) where
  abbrev e : Setup
  e = setup_for s

  abbrev start : machine.Search
  start = record { lists = s.lists.lists; at = at; part = part }

  -- its search has seen the word
  abbrev pub after-look : Actor
  after-look = onward e s.number (searched e s.number ask at part (actor_of s) (Saw seen))

  pub by-look : after-look ≡ gone_on_by s (Saw seen)
  by-look =
      ap (λ x. onward e s.number (after_row e s.number (actor_of s) (Saw seen) x)) (sym now)

  -- the carrier fits
  pub looked-try : (highest : ℕ) (x : machine.Search)
      → x ≡ saw_by (fits ask.need seen) highest start seen → fits ask.need seen ≡ true
      → record (standing_at (Fetching ask at x.part seen) s) { lists = x.lists }
      ≡ gone_on_by s (Saw seen)
  looked-try highest x stands fit =
      ap (λ (y : machine.Search).
      record (standing_at (Fetching ask at y.part seen) s) { lists = y.lists })
      (stands ∙ ap (λ b. saw_by b highest start seen) fit)
      ∙ sym (onward-try e s.number on ask at part (actor_of s) seen fit) ∙ by-look

  -- it doesn't, and the search goes on
  looked-skip : fits ask.need seen ≡ false
      → search_on e s.number ask
      (passed (greatest_number e) s.lists.lists at (with_counted seen part) seen) (ready_of s)
      ≡ after-look
  looked-skip unfit = sym (onward-skip e s.number on ask at part (actor_of s) seen unfit)

  pub looked-on : (highest : ℕ) (x : machine.Search) → highest ≡ greatest_number e
      → x ≡ saw_by (fits ask.need seen) highest start seen → fits ask.need seen ≡ false
      → search_on e s.number ask x (ready_of s) ≡ gone_on_by s (Saw seen)
  looked-on highest x greatest stands unfit =
      ap (λ y. search_on e s.number ask y (ready_of s))
      (stands ∙ ap (λ b. saw_by b highest start seen) unfit
      ∙ ap (λ k. passed k s.lists.lists at (with_counted seen part) seen) greatest)
      ∙ looked-skip unfit ∙ by-look

  -- and there is another number
  pub looked-next : (highest : ℕ) → highest ≡ greatest_number e → (to : ℕ) (left : Part)
      → fits ask.need seen ≡ false → goes_on left ≡ true
      → ((l : Lists) → record { lists = l; at = to; part = left }
      ≡ passed highest l at (with_counted seen part) seen)
      → standing_at (Searching ask to left) s ≡ after-look
  looked-next highest greatest to left unfit next stands =
      let x : machine.Search = record { lists = s.lists.lists; at = to; part = left } in
      sym (ap (searched_by e s.number ask x (record (ready_of s) { lists = x.lists })) next)
      ∙ ap (λ y. search_on e s.number ask y (ready_of s)) (stands s.lists.lists
      ∙ ap (λ k. passed k s.lists.lists at (with_counted seen part) seen) greatest)
      ∙ looked-skip unfit

  -- or the search is where it was before
  module _ (to : ℕ) (left : Part) (same : (to ≡ at) × (left ≡ part)) where
    still-there : s.stage ≡ Searching ask to left
    still-there =
        now ∙ sym (ap (λ n. Searching ask n left) same.0 ∙ ap (Searching ask at) same.1)

    pub still-reached : {told : Told} → IsReady s told
        → (told : Told) × IsReadyAt (Searching ask to left) s told
    still-reached {told} h = (told, subst (λ st. IsReadyAt st s told) still-there h)

    pub looked-still : onward e s.number (after_row e s.number
        (standing_at (Searching ask to left) s) (Saw seen) (Searching ask to left)) ≡ after-look
    looked-still = sym (ap (λ st. onward e s.number
        (after_row e s.number (standing_at st s) (Saw seen) st)) still-there) ∙ sym by-look
