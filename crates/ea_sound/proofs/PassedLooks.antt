-- Looks of a search in a row at words that don't count: the search comes down by as many numbers,
-- and nothing else changes.
use Rattle.std.proofs.Common.{◌≡◌, ◌≢◌, ℕ, zero, suc, ◌+◌, ◌-◌, ◌<◌, ◌≤◌, true, false, refl, sym}
use Rattle.std.proofs.Common.{ap, ◌∙◌, subst, arith}
use Rattle.std.specs.Prelude.{◌&&◌, nat_lt, replicate}
use Rattle.ea_model.specs.declared.settings.Config.{Config}
use Rattle.ea_model.specs.declared.trace.Trace.{Trace}
use Rattle.ea_model.specs.declared.units.TheConstants.{SEARCH_LIMIT}
use Rattle.ea_model.specs.Settings.{IsValidConfig}
use Rattle.ea_model.specs.Trace.{IsValidTrace}
use Rattle.ea_machine.specs.Placements.{pass}
use Rattle.ea_machine.specs.Searches.{Search, below, goes_on}
use Rattle.ea_machine.specs.Setup.{greatest_number}
use Rattle.ea_machine.specs.declared.parts.Part.TheVariants.{Pool}
use Rattle.ea_machine.specs.declared.asks.Ask.{Ask}
use Rattle.ea_machine.specs.declared.owners.OwnerWord.{OwnerWord}
use Rattle.ea_machine.specs.declared.owners.OwnerWord.TheVariants as word
use Rattle.ea_machine.specs.declared.stages.Stage.TheVariants.{Ended, Searching}
use Rattle.ea_machine.specs.Actor.{Actor}
use Rattle.ea_machine.specs.Machine.{IsReached, after_row, onward, run_on, step, wants}
use Rattle.ea_machine.specs.Owners.{word_of}
use Rattle.ea_machine.specs.Lists.{counts}
use Rattle.ea_machine.specs.Placements.{saw_by}
use Rattle.ea_machine.specs.Searches.{counted, counted_by, fits}
use Rattle.ea_machine.specs.Placements.{searched, searched_by}
use Rattle.ea_machine.specs.Rows.{Look, Saw}
use Rattle.ea_machine.specs.Setup.{Setup, setup_of}
use Rattle.ea_machine.specs.Shared.{Shared}
use Rattle.ea_machine.specs.State.{State}
use Rattle.ea_machine.specs.Statistics.{observed}
use Rattle.ea_machine.specs.Table.{answer, effect}
use Rattle.ea_sound.specs.Present.{Fits}
use Rattle.ea_sound.proofs.Asked.{reached-rule}
use Rattle.ea_sound.proofs.Observed.{reached-observed, still-observed}
use Rattle.ea_sound.proofs.TurnLists.{step-mine, step-shared}

-- what doesn't count doesn't fit
unfit : (need : ℕ) (v : OwnerWord) → counts v ≡ false → fits need v ≡ false
unfit need word.Absent none = refl
unfit need (word.Employed i) none = refl
unfit need (word.Pooled i largest) none = absurd cc
unfit need (word.Busy i) none = refl
unfit need (word.Returning i) none = refl

goes-on : (left looked : ℕ) → 1 < left → looked < SEARCH_LIMIT
    → goes_on (Pool (left - 1) looked) ≡ true
goes-on left looked more few = grind (arith, more, few)

-- a search that goes on has counted few words
few-words : (left looked : ℕ) → goes_on (Pool left looked) ≡ true → looked < SEARCH_LIMIT
few-words left looked t = by left looked t where
  by : (left looked : ℕ) → (nat_lt 0 left && nat_lt looked SEARCH_LIMIT) ≡ true
      → looked < SEARCH_LIMIT
  by left looked t = grind (arith, t)

one-below : (g n : ℕ) → 1 < n → below g n ≡ n - 1
one-below g n more = grind (arith, more)

looks-at : (me n : ℕ) (s : Shared) → answer me (Look n) s ≡ Saw (word_of (s.places n))
unfolding answer
looks-at me n s = refl

changes-none : (me n : ℕ) (s : Shared) → effect me (Look n) s ≡ s
unfolding effect
changes-none me n s = refl

module _ (e : Setup) (me : ℕ) (ask : Ask) (looked : ℕ) (few : looked < SEARCH_LIMIT) where
  -- a scheduler whose search is to look at the number, in the last part, with so many left
  abbrev to_look : ℕ → ℕ → Actor → Actor
  to_look n left a = record a { stage = Searching ask n (Pool left looked) }

  saw-none : (n left : ℕ) (a : Actor) (v : OwnerWord) → counts v ≡ false → 1 < n → 1 < left
      → searched e me ask n (Pool left looked) a (Saw v) ≡ to_look (n - 1) (left - 1) a
  saw-none n left a v none more some =
      let next : Search = record {
        lists = a.lists;
        at = below (greatest_number e) n;
        part = Pool (left - 1) looked;
      } in
      ap (saw_by e me ask n (Pool left (counted v looked)) a v) (unfit ask.need v none)
      ∙ ap (λ b. pass e me ask n (Pool left (counted_by b looked)) a v) none
      ∙ ap (searched_by e me ask next a) (goes-on left looked some few)
      ∙ ap (λ m. to_look m (left - 1) a) (one-below (greatest_number e) n more)

  -- one look
  look-passed : (n left : ℕ) (a : Actor) (w : State) → w.actors me ≡ to_look n left a
      → observed (to_look n left a) ≡ to_look n left a → 1 < n → 1 < left
      → counts (word_of (w.shared.places n)) ≡ false
      → ((step e w me).actors me ≡ to_look (n - 1) (left - 1) a)
      × ((step e w me).shared ≡ w.shared)
  look-passed n left a w is seen more some none =
      let going : (w.actors me).stage ≢ Ended = λ ended.
      let no : Searching ask n (Pool left looked) ≡ Ended =
      sym (ap (λ (b : Actor). b.stage) is) ∙ ended in cc in (
        step-mine e w me going
            ∙ ap (λ (b : Actor). observed (onward e me
            (after_row e me b (answer me (wants b) w.shared) b.stage))) is
            ∙ ap (λ r. observed (onward e me
            (searched e me ask n (Pool left looked) (to_look n left a) r)))
            (looks-at me n w.shared)
            ∙ ap (λ b. observed (onward e me b))
            (saw-none n left (to_look n left a) (word_of (w.shared.places n)) none more some)
            ∙ still-observed (to_look n left a) seen refl
            (Searching ask (n - 1) (Pool (left - 1) looked)) a.lists a.todo a.log refl,
        step-shared e w me going ∙ ap (λ (b : Actor). effect me (wants b) w.shared) is
            ∙ changes-none me n w.shared,
      )

  -- that many looks
  looks-passed : (k n left : ℕ) (a : Actor) (w : State) → 0 < n → 0 < left
      → w.actors me ≡ to_look (n + k) (left + k) a
      → observed (to_look (n + k) (left + k) a) ≡ to_look (n + k) (left + k) a
      → ((i : ℕ) → n < i → i ≤ n + k → counts (word_of (w.shared.places i)) ≡ false)
      → (let v = run_on e w (replicate k me) in
      (v.shared ≡ w.shared) × (v.actors me ≡ to_look n left a))
  looks-passed zero n left a w some more is seen none =
      let here : n + 0 ≡ n = omega arith in
      let there : left + 0 ≡ left = omega arith in
      (refl, is ∙ ap (λ i. to_look i (left + 0) a) here ∙ ap (λ j. to_look n j a) there)
  looks-passed (suc k) n left a w some more is seen none =
      let high = n + suc k in
      let all = left + suc k in
      let next : high - 1 ≡ n + k = omega arith in
      let fewer : all - 1 ≡ left + k = omega arith in
      let one = look-passed high all a w is seen (omega (arith, some)) (omega (arith, more))
      (none high (omega arith) (omega arith)) in
      let rest = looks-passed k n left a (step e w me) some more
      (one.0 ∙ ap (λ i. to_look i (all - 1) a) next ∙ ap (λ j. to_look (n + k) j a) fewer)
      (still-observed (to_look high all a) seen refl
      (Searching ask (n + k) (Pool (left + k) looked))
      a.lists a.todo a.log refl)
      (λ i low upto. ap (λ (s : Shared). counts (word_of (s.places i))) one.1
      ∙ none i low (omega (arith, upto))) in
      (rest.0 ∙ one.1, rest.1)

-- in a reached state, down to a number, in the last part of a search
module _ (c : Config) (t : Trace) (config : IsValidConfig c) (trace : IsValidTrace c.schedulers t)
    (w : State) (reached : IsReached (setup_of c t) w) (me : ℕ) (a : Actor) (ask : Ask)
    (high left looked : ℕ)
    (is : w.actors me ≡ record a { stage = Searching ask high (Pool left looked) }) where
  abbrev e : Setup
  e = setup_of c t

  searches : Fits e w me (w.actors me) (Searching ask high (Pool left looked))
  searches = subst (Fits e w me (w.actors me)) (ap (λ (b : Actor). b.stage) is)
      ((reached-rule c t config trace w reached).present.fits me)

  pub search-passed : (n : ℕ) → 0 < n → n ≤ high → high - n < left
      → ((i : ℕ) → n < i → i ≤ high → counts (word_of (w.shared.places i)) ≡ false)
      → (let v = run_on e w (replicate (high - n) me) in
      (v.shared ≡ w.shared)
      × (v.actors me ≡ record a { stage = Searching ask n (Pool (left - (high - n)) looked) }))
  search-passed n some upto enough none =
      let k = high - n in
      let all : n + k ≡ high = omega (arith, upto) in
      let many : (left - k) + k ≡ left = omega (arith, enough) in
      let seen = subst (λ (b : Actor). observed b ≡ b) is (reached-observed e me w reached) in
      looks-passed e me ask looked (few-words left looked searches.2) k n (left - k) a w some
      (omega (arith, enough))
      (is ∙ ap (λ i. record a { stage = Searching ask i (Pool left looked) }) (sym all)
      ∙ ap (λ j. record a { stage = Searching ask (n + k) (Pool j looked) }) (sym many))
      (subst (λ j. observed (record a { stage = Searching ask (n + k) (Pool j looked) })
      ≡ record a { stage = Searching ask (n + k) (Pool j looked) }) (sym many)
      (subst (λ i. observed (record a { stage = Searching ask i (Pool left looked) })
      ≡ record a { stage = Searching ask i (Pool left looked) }) (sym all) seen))
      (λ i low within. none i low (omega (arith, within, all)))
