-- A carrier that is fetched has a gap for the block, which is placed there.
use Rattle.std.proofs.Common.{◌≡◌, ℕ, ◌≤◌, ◌∙◌, Bool, true, false, List, [], ◌∷◌, refl, sym, ap}
use Rattle.std.proofs.Common.{subst, inl, inr, arith}
use Rattle.std.specs.Prelude.{Any, Some}
use Rattle.std.proofs.lemmas.Bool.{cases_lt}
use Rattle.ea_model.specs.declared.carriers.Gap.{Gap}
use Rattle.ea_model.specs.declared.carriers.Spot.{Spot}
use Rattle.ea_model.specs.Instance.{chosen_spot}
use Rattle.ea_model.specs.Content.{Content, gaps_of, largest}
use Rattle.ea_laws.proofs.Tails.{any_here, any_later}
use Rattle.ea_machine.specs.Placements.{fetches}
use Rattle.ea_machine.specs.declared.parts.Part.{Part}
use Rattle.ea_machine.specs.declared.owners.OwnerWord.{OwnerWord}
use Rattle.ea_machine.specs.declared.owners.OwnerWord.TheVariants as word
use Rattle.ea_machine.specs.declared.stages.Stage.{Stage}
use Rattle.ea_machine.specs.declared.stages.Stage.TheVariants.{Ended, Fetching}
use Rattle.ea_machine.specs.Actor.{Actor}
use Rattle.ea_machine.specs.declared.asks.Ask.{Ask}
use Rattle.ea_machine.specs.Machine.{after_row, wants_at}
use Rattle.ea_machine.specs.Owners.{CarrierAt, Absent, Employed, Pooled, Busy, Returning, same_word}
use Rattle.ea_machine.specs.Owners.{word_of}
use Rattle.ea_machine.specs.Placements.{placed_by}
use Rattle.ea_machine.specs.Rows.{Answer, Won}
use Rattle.ea_machine.specs.Setup.{Setup, is_scheduler}
use Rattle.ea_machine.specs.State.{State}
use Rattle.ea_machine.specs.Table.{answer, tried_at, won_if}
use Rattle.ea_sound.specs.Fetches.{FetchFits, FetchesFit}
use Rattle.ea_sound.specs.Turns.{answered}
use Rattle.ea_sound.specs.Present.{Fits, Rule}
use Rattle.ea_sound.proofs.Choosing.{chosen-in_fetched}
use Rattle.ea_sound.proofs.Created.{sure-strategy}
use Rattle.ea_sound.proofs.Entries.{ask-least}
use Rattle.ea_sound.proofs.Global.{working-scheduler}
use Rattle.ea_sound.proofs.RowLeaves.{fetched-chosen, seen-room}

-- one of the gaps is the largest
large-gap : (need : ℕ) (gs : List Gap) → 1 ≤ need → need ≤ largest gs
    → Any (λ g. need ≤ g.size) gs
large-gap need [] some fits = absurd (omega (arith, some, fits))
large-gap need (g ∷ gs) some fits = elim (cases_lt g.size need) [
  | inl small ↦ any_later (λ g. need ≤ g.size) g gs
      (large-gap need gs some (omega (arith, small, fits)))
  | inr enough ↦ any_here (λ g. need ≤ g.size) g gs enough
]

-- a try that is won finds the carrier pooled, with the word that was seen
abbrev pub IsWonFrom : OwnerWord → CarrierAt → Content → Type 0
IsWonFrom seen p x = (i g : ℕ) × (p ≡ Pooled i g x) × (same_word (word.Pooled i g) seen ≡ true)

pub won-from : (seen : OwnerWord) (p : CarrierAt) (x : Content) → tried_at seen p ≡ Won x
    → IsWonFrom seen p x
won-from seen p x = by p (same_word (word_of p) seen) refl where
  by : (p : CarrierAt) (b : Bool) → same_word (word_of p) seen ≡ b → won_if b p ≡ Won x
      → IsWonFrom seen p x
  by Absent true same won = absurd cc
  by (Employed i) true same won = absurd cc
  by (Pooled i g y) true same won = (i, g, (let e : y ≡ x = cc in ap (Pooled i g) e), same)
  by (Busy i) true same won = absurd cc
  by (Returning i y) true same won = absurd cc
  by p false same won = absurd cc

module _ (e : Setup) (w : State) (rule : Rule e w) (s at : ℕ) (part : Part) (ask : Ask)
    (seen : OwnerWord) (x : Content) (now : (w.actors s).stage ≡ Fetching ask at part seen)
    (won : answered w s ≡ Won x) where
  abbrev a : Actor
  a = w.actors s

  is : is_scheduler e s ≡ true
  is = working-scheduler e w rule.kept s
      (λ q. let never : Fetching ask at part seen ≡ Ended = sym now ∙ q in cc)

  tried : tried_at seen (w.shared.places at) ≡ Won x
  unfolding answer
  tried = sym (ap (λ (t : Stage Content). answer s (wants_at a.next t) w.shared) now) ∙ won

  -- the carrier is that of the number
  pub fetched-number : x.number ≡ at
  fetched-number =
      let (i, g, word, same) = won-from seen (w.shared.places at) x tried in
      (rule.kept.placed.pooled at i g x word).0

  abbrev with_carrier : Actor
  with_carrier = fetches at x a

  fits : Fits e w s a (Fetching ask at part seen)
  fits = subst (Fits e w s a) now (rule.present.fits s)

  -- and what the strategy chooses then is in it
  chosen-there : (spot : Spot) → chosen_spot with_carrier.instance ask.need ≡ Some spot
      → spot.carrier ≡ x.number
  chosen-there spot chosen = chosen-in_fetched a.instance ask.need x spot
      (sure-strategy e s a.instance (rule.kept.ranges.instances s is) fits.3) fits.2 chosen

  pub fetched-there : (spot : Spot) → chosen_spot with_carrier.instance ask.need ≡ Some spot
      → spot.carrier ≡ at
  fetched-there spot chosen = chosen-there spot chosen ∙ fetched-number

  fetch-fits : FetchFits e w s at ask x
  fetch-fits =
      let (i, g, word, same) = won-from seen (w.shared.places at) x tried in
      let pooled = rule.kept.placed.pooled at i g x word in
      let room = seen-room e w s is rule ask at part seen now i g same in
      let chosen = fetched-chosen e w s is rule ask at part seen now i g x word same in
      record {
        gap = large-gap ask.need (gaps_of x) least (omega (arith, room, pooled.3));
        spot = chosen.0;
        chosen = chosen.1;
        there = chosen-there chosen.0 chosen.1;
        placed = ap (λ (r : Answer). after_row e s a r a.stage) won
            ∙ ap (after_row e s a (Won x)) now
            ∙ ap (placed_by e s ask with_carrier) chosen.1;
      } where
        least : 1 ≤ ask.need
        least = omega (arith, ask-least ask a.todo fits.0.of)

pub rule-FetchesFit : (e : Setup) (w : State) → Rule e w → FetchesFit e w
rule-FetchesFit e w rule s at part ask seen x now won =
    fetch-fits e w rule s at part ask seen x now won
