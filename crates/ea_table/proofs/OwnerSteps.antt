-- The steps and the looks that the calls on carriers take, at the owner words where the table has
-- them.
use Rattle.std.proofs.Common.{◌≡◌, ℕ, ◌≤◌, List, ◌∷◌, None}
use Rattle.std.proofs.Common.{refl, sym, ap, ◌∙◌, arith}
use Rattle.std.specs.Prelude.{◌==◌, ◌*◌}
use mathlib.Core.Option.{none}
use prog.Atomic.{either}
use Rattle.atomic_table.specs.Seated.{TableId}
use Rattle.atomic_table.specs.Table.{Allows, Step, gives, step, takes}
use Rattle.ea_model.specs.declared.units.TheConstants.{NUMBERS}
use Rattle.ea_machine.specs.declared.owners.OwnerWord.{OwnerWord}
use Rattle.ea_machine.specs.Rows.{Look}
use Rattle.ea_shared.specs.Calls.{WantsRow}
use Rattle.ea_shared.specs.Carriers.{IsCarrier, IsPooled}
use Rattle.ea_word.specs.Codes.{IsShown, owner_code}
use Rattle.ea_table.specs.declared.board.Board.{Board}
use Rattle.ea_table.specs.declared.views.About.{About}
use Rattle.ea_table.specs.declared.views.View.{View}
use Rattle.ea_table.specs.Handing.{HasSlot, IsTry, Stores, Wherever, row_in}
use Rattle.ea_table.specs.Ruling.{IsSingle, acting, caller_in, claimed, claims, holds, steps}
use Rattle.ea_table.specs.Ruling.{yields}
use Rattle.ea_table.specs.Seating.{IsAt}
use Rattle.ea_table.specs.Slots.{Has, Slot, slot_at}
use Rattle.ea_table.specs.Words.{owner_at}
use Rattle.ea_table.proofs.Owning.{fits-claims, fits-exchanged, fits-looked, fits-stored}
use Rattle.ea_table.proofs.Owning.{fits-yields, tries-as}
use Rattle.ea_table.proofs.Rows.{allows, allows-look}

module _ (b : Board) (z : TableId) (id : ℕ) (v : View) (xs : List (ℕ × Slot)) (at : IsAt b z v)
    (k : ℕ) (carrier : IsCarrier b.schedulers k) (i : ℕ)
    (there : i ≡ owner_at b.schedulers b.greatest k) where
  abbrev about : About
  about = b.table.shared.key

  abbrev slots : ℕ
  slots = b.table.shared.table_id.slots

  -- the carrier is one of the run, and its word is where it has it
  to : k ≤ NUMBERS * v.config.schedulers
  to = omega (arith, carrier.1, at.schedulers)

  pub there-so : i ≡ owner_at v.config.schedulers v.trace.greatest k
  there-so = there ∙ ap (λ n. owner_at n b.greatest k) (sym at.schedulers)
      ∙ ap (λ g. owner_at v.config.schedulers g k) (sym at.greatest)

  pub looks : (me : ℕ) → IsSingle v → WantsRow me (Look k) (caller_in v) → (st : Step Slot)
      → Allows (holds about) slots id (v, xs) i (λ n. n) (steps st (v, xs))
  looks me is wanted st = allows about slots id i (λ n. n) (λ n. n) v xs st (row_in v) is refl
      (λ q. let never = sym wanted.1 ∙ q in cc)
      (fits-looked v xs k carrier.0 to i there-so wanted.1)

  pub stores : (w : OwnerWord) (code : ℕ) → code ≡ owner_code w → Stores k w (v, xs)
      → (st : Step Slot)
      → Allows (holds about) slots id (v, xs) i (λ _. code) (λ _. steps st (v, xs) code)
  stores w code coded o st = allows about slots id i (λ _. code) (λ _. code) v xs st (row_in v)
      o.single refl o.writes.goes (fits-stored v xs k carrier.0 to i there-so w code coded o)

  pub exchanges : (seen w : OwnerWord) (old new : ℕ) → old ≡ owner_code seen
      → new ≡ owner_code w → IsPooled b.schedulers seen → IsShown seen
      → IsTry (acting v).number (row_in v) k seen w → IsSingle v → (acting v).claim ≡ 0
      → (st : Step Slot)
      → Allows (holds about) slots id (v, xs) i (λ n. either (n == old) new n) (steps st (v, xs))
  exchanges seen w old new old_is new_is pooled shown try is none_yet st =
      let o = tries-as (acting v).number (row_in v) k seen w try in
      allows about slots id i (λ n. either (n == old) new n) (λ n. n) v xs st (row_in v) is refl
      o.row_is.goes
      (fits-exchanged v xs k carrier.0 to i there-so seen w old new old_is new_is pooled.instance
      pooled.largest pooled.is shown o none_yet)

  pub claims-slot : IsSingle v → (acting v).claim ≡ 0
      → Wherever v (λ s. Has (acting v).number k (s.places k))
      → Allows (holds about) slots id (v, xs) i (λ n. n)
      (claims (step slots i 0 0 none) (v, xs))
  claims-slot is none_yet has = allows-look about slots id i v xs is (takes (slot_at k) None) k
      (fits-claims v k carrier.0 to none_yet has xs) (claims (step slots i 0 0 none) (v, xs))
      (λ found number from word_is.
      let same : number ≡ k = omega (arith, from, carrier.0, word_is, there-so) in (
        ap (claimed v) (sym same),
        ap (λ (j : ℕ). (slot_at j, None) ∷ xs) (sym same),
      ))

  pub yields-slot : HasSlot k None (v, xs) → (st : Step Slot)
      → Allows (holds about) slots id (v, xs) i (λ n. n) (yields st (v, xs))
  yields-slot slot st = allows-look about slots id i v xs slot.single gives 0
      (fits-yields v k carrier.0 xs slot) (yields st (v, xs)) (λ found. (refl, refl))
