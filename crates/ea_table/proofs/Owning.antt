-- What the rows on carriers need of words and slots, and what the looks of a seat at an owner word
-- do.
use Rattle.std.proofs.Common.{◌≡◌, ◌≢◌, ℕ, ◌*◌, ◌≤◌, Bool, true, false, List}
use Rattle.std.proofs.Common.{None, Some, slice_index, set}
use Rattle.std.proofs.Common.{refl, sym, ap, ◌∙◌, subst, inl, inr}
use Rattle.std.specs.Prelude.{◌==◌}
use mathlib.Core.Option.{some, none}
use mathlib.Core.Option as maybe
use prog.Atomic.{either}
use Rattle.atomic_table.specs.Table.{Me, Valid, gives, homes_after, put_back}
use Rattle.atomic_table.specs.Table.{takes}
use Rattle.atomic_table.proofs.Lists.{exchanged}
use Rattle.ea_model.specs.declared.units.TheConstants.{NUMBERS}
use Rattle.ea_model.specs.Content.{Content}
use Rattle.ea_model.specs.Settings.{IsValidConfig}
use Rattle.ea_model.specs.Trace.{IsValidTrace}
use Rattle.ea_machine.specs.declared.owners.OwnerWord.{OwnerWord}
use Rattle.ea_machine.specs.declared.owners.OwnerWord.TheVariants as word
use Rattle.ea_machine.specs.Machine.{run}
use Rattle.ea_machine.specs.Owners.{CarrierAt, Absent, Employed, Pooled, Busy, Returning, same_word}
use Rattle.ea_machine.specs.Owners.{word_of}
use Rattle.ea_machine.specs.Rows.{BusyTry, FetchTry, Look, Lost, Nothing, Row, Won}
use Rattle.ea_machine.specs.Shared.{Shared, at_place, put}
use Rattle.ea_machine.specs.Table.{answer, effect, moved_if, tried_at, won_if}
use Rattle.ea_shared.specs.Carriers.{home_of}
use Rattle.ea_word.specs.Codes.{IsShown, owner_code}
use Rattle.ea_table.specs.declared.views.View.{View}
use Rattle.ea_table.specs.Handing.{HasSlot, IsTry, MovesSlot, Stores, Wherever, row_in}
use Rattle.ea_table.specs.Ruling.{Reads, ReadsOwner, acting, older_after, setup_in}
use Rattle.ea_table.specs.Slots.{Claims, Has, Houses, Move, Slot, Stays, Yields, act_of, claim_by}
use Rattle.ea_table.specs.Slots.{move_of, slot_at}
use Rattle.ea_table.specs.Words.{Codes, IsWorded, owner_at, place_code}
use Rattle.ea_table.proofs.Coding.{codes-placed, codes-read}
use Rattle.ea_table.proofs.Housing.{housed-brought, housed-claimed, housed-moved, housed-same}
use Rattle.ea_table.proofs.Housing.{housed-won, housed-yielded}
use Rattle.ea_table.proofs.Laws.{worded}
use Rattle.ea_table.proofs.OwnerCodes.{same-is, same-itself, shown-same}
use Rattle.ea_table.proofs.Rows.{FitsLook, FitsWord}

-- a try at a word that was seen pooled: it is won where the carrier has the word, else it is lost
pub tried-won : (seen : OwnerWord) (place : CarrierAt) (i g : ℕ) → seen ≡ word.Pooled i g
    → word_of place ≡ seen
    → (x : Content) × (home_of place ≡ Some x) × (tried_at seen place ≡ Won x)
tried-won seen Absent i g q is = absurd (let never = is ∙ q in cc)
tried-won seen (Employed j) i g q is = absurd (let never = is ∙ q in cc)
tried-won seen (Pooled j h x) i g q is =
    (x, refl, ap (λ b. won_if b (Pooled j h x)) (ap (λ w. same_word w seen) is ∙ same-itself seen))
tried-won seen (Busy j) i g q is = absurd (let never = is ∙ q in cc)
tried-won seen (Returning j x) i g q is = absurd (let never = is ∙ q in cc)

pub tried-lost : (seen : OwnerWord) (place : CarrierAt) → place_code place ≢ owner_code seen
    → tried_at seen place ≡ Lost (word_of place)
tried-lost seen place other = by (same_word (word_of place) seen) refl where
  by : (b : Bool) → same_word (word_of place) seen ≡ b → won_if b place ≡ Lost (word_of place)
  by true q = absurd (other (ap owner_code (same-is (word_of place) seen q)))
  by false q = refl

-- the row is a try for the carrier at the word seen, and puts it at that place where it is won
pub record TriesFor (me : ℕ) (row : Row) (carrier : ℕ) (seen : OwnerWord) (place : CarrierAt)
    : Type 0 where
  pub goes : row ≢ Nothing
  pub reads : (s : Shared) (found : ℕ) → ReadsOwner (s.places carrier) found
      → Reads me row s found
  pub told : (s : Shared) (found : ℕ) → Reads me row s found
      → ReadsOwner (s.places carrier) found
  pub older : (found was : ℕ) → older_after row found was ≡ was
  pub answers : (s : Shared) → answer me row s ≡ tried_at seen (s.places carrier)
  pub places : (s : Shared)
      → effect me row s ≡ moved_if (tried_at seen (s.places carrier)) carrier place s
  pub won : (x : Content) → move_of row (Won x) ≡ Claims carrier x
  pub lost : (w : OwnerWord) → move_of row (Lost w) ≡ Stays

busy-tries : (me carrier : ℕ) (seen : OwnerWord)
    → TriesFor me (BusyTry carrier seen) carrier seen (Busy me)
unfolding answer effect
busy-tries me carrier seen = record {
  goes = λ q. cc;
  reads = λ s found read. read;
  told = λ s found read. read;
  older = λ found was. refl;
  answers = λ s. refl;
  places = λ s. refl;
  won = λ x. refl;
  lost = λ w. refl;
}

fetch-tries : (me carrier : ℕ) (seen : OwnerWord)
    → TriesFor me (FetchTry carrier seen) carrier seen (Employed me)
unfolding answer effect
fetch-tries me carrier seen = record {
  goes = λ q. cc;
  reads = λ s found read. read;
  told = λ s found read. read;
  older = λ found was. refl;
  answers = λ s. refl;
  places = λ s. refl;
  won = λ x. refl;
  lost = λ w. refl;
}

-- where the carrier is when the try is won
pub record TriesAs (me : ℕ) (row : Row) (carrier : ℕ) (seen w : OwnerWord) : Type 0 where
  pub place : CarrierAt
  pub is : word_of place ≡ w
  pub has : Has me carrier place
  pub row_is : TriesFor me row carrier seen place

pub tries-as : (me : ℕ) (row : Row) (carrier : ℕ) (seen w : OwnerWord)
    → IsTry me row carrier seen w → TriesAs me row carrier seen w
tries-as me row carrier seen w is = elim is [
  | inl busy ↦ record {
    place = Busy me;
    is = sym busy.1;
    has = refl;
    row_is = subst (λ r. TriesFor me r carrier seen (Busy me)) (sym busy.0)
        (busy-tries me carrier seen);
  }
  | inr fetch ↦ record {
    place = Employed me;
    is = sym fetch.1;
    has = refl;
    row_is = subst (λ r. TriesFor me r carrier seen (Employed me)) (sym fetch.0)
        (fetch-tries me carrier seen);
  }
]

-- slots after a step on the carrier
module _ (hs : List (maybe.Option Slot)) (n : ℕ) (claim_of : ℕ → ℕ) (s : Shared)
    (h : Houses hs n claim_of s) (m : Me Slot View)
    (same : claim_of (acting m.0).number ≡ (acting m.0).claim) (k : ℕ) (from : 1 ≤ k)
    (to : k ≤ NUMBERS * n) where
  -- what a move leaves, where what is shared is this then
  abbrev pub Left : Shared → Move → Type 0
  Left u move = Valid hs m.1 (act_of move) × Houses (homes_after hs m.1 (act_of move)) n
      (put claim_of (acting m.0).number (claim_by move (acting m.0).claim)) u

  pub slots-stay : Left s Stays
  slots-stay = (
    tt,
    subst (λ c. Houses hs n (put claim_of (acting m.0).number c) s) same
        (housed-same hs n claim_of s h (acting m.0).number s refl),
  )

  pub slots-moved : (p : CarrierAt) (move : Move) → MovesSlot m k (s.places k) p move
      → Left (at_place k p s) move
  slots-moved p Stays moves = (
    tt,
    subst (λ c. Houses hs n (put claim_of (acting m.0).number c) (at_place k p s)) same
        (housed-moved hs n claim_of s h (acting m.0).number k from to p moves.0 moves.1),
  )
  slots-moved p (Claims number x) moves =
      subst (λ j. Left (at_place k p s) (Claims j x)) (sym moves.0)
      (housed-won hs n claim_of s h (acting m.0).number k from to x moves.1 p moves.2
      (same ∙ moves.3))
  slots-moved p Yields moves = (
    tt,
    subst (λ ys. Houses (put_back hs ys) n (put claim_of (acting m.0).number 0) (at_place k p s))
        (sym moves.2.slots)
        (housed-brought hs n claim_of s h (acting m.0).number k from to moves.0 p moves.1
        (same ∙ moves.2.claim)),
  )

module _ (v : View) (xs : List (ℕ × Slot)) (k : ℕ) (from : 1 ≤ k)
    (to : k ≤ NUMBERS * v.config.schedulers) (i : ℕ)
    (there : i ≡ owner_at v.config.schedulers v.trace.greatest k) where
  abbrev n : ℕ
  n = v.config.schedulers

  abbrev g : ℕ
  g = v.trace.greatest

  abbrev me : ℕ
  me = (acting v).number

  abbrev s_of : List ℕ → Shared
  s_of L = (run (setup_in v) L).shared

  -- at the word that was reckoned
  placed : (f said : ℕ → ℕ) → FitsWord v xs (row_in v) (owner_at n g k) f said
      → FitsWord v xs (row_in v) i f said
  placed f said = subst (λ j. FitsWord v xs (row_in v) j f said) (sym there)

  looked : FitsWord v xs (Look k) (owner_at n g k) (λ z. z) (λ z. z)
  unfolding answer effect
  looked L valid made at rem claim_of same ws codes hs h =
      let fit = worded v.config v.trace valid made L in
      let left = slots-stay hs n claim_of (s_of L) h (v, xs) same k from to in record {
        reads = (codes.owners k from to, fit.owners k);
        codes = codes-read n g (s_of L) fit ws codes (owner_at n g k);
        valid = left.0;
        houses = left.1;
      }

  pub fits-looked : row_in v ≡ Look k → FitsWord v xs (row_in v) i (λ z. z) (λ z. z)
  fits-looked wanted = placed (λ z. z) (λ z. z)
      (subst (λ r. FitsWord v xs r (owner_at n g k) (λ z. z) (λ z. z)) (sym wanted) looked)

  pub fits-stored : (w : OwnerWord) (code : ℕ) → code ≡ owner_code w → Stores k w (v, xs)
      → FitsWord v xs (row_in v) i (λ _. code) (λ _. code)
  fits-stored w code coded o = placed (λ _. code) (λ _. code) (λ L valid made at rem claim_of same
      ws codes hs h.
      let s = s_of L in
      let fit = worded v.config v.trace valid made L in
      let move = move_of (row_in v) (answer me (row_in v) s) in
      let left = slots-moved hs n claim_of s h (v, xs) same k from to o.place move
      (o.slot L valid made at) in record {
        reads = o.writes.blind s code;
        codes = subst (λ u. Codes n g u (set ws (owner_at n g k) code)) (sym (o.writes.places s))
            (subst (λ z. Codes n g (at_place k o.place s) (set ws (owner_at n g k) z))
            (ap owner_code o.is ∙ sym coded)
            (codes-placed n g s fit ws codes k from to o.place));
        valid = left.0;
        houses = subst (λ u. Houses (homes_after hs xs (act_of move)) n
            (put claim_of me (claim_by move (acting v).claim)) u) (sym (o.writes.places s)) left.1;
      })

  module _ (seen w : OwnerWord) (old new : ℕ) (old_is : old ≡ owner_code seen)
      (new_is : new ≡ owner_code w) (j largest : ℕ) (pooled : seen ≡ word.Pooled j largest)
      (shown : IsShown seen) (o : TriesAs me (row_in v) k seen w) (none_yet : (acting v).claim ≡ 0)
    where
      abbrev to_new : ℕ → ℕ
      to_new z = either (z == old) new z

      module _ (L : List ℕ) (valid : IsValidConfig v.config)
          (made : IsValidTrace v.config.schedulers v.trace) (claim_of : ℕ → ℕ)
          (same : claim_of me ≡ (acting v).claim) (ws : List ℕ) (codes : Codes n g (s_of L) ws)
          (hs : List (maybe.Option Slot)) (h : Houses hs n claim_of (s_of L)) where
        abbrev s : Shared
        s = s_of L

        abbrev p : CarrierAt
        p = o.place

        fit : IsWorded n g s
        fit = worded v.config v.trace valid made L

        abbrev move : Move
        move = move_of (row_in v) (answer me (row_in v) s)

        abbrev Done : ℕ → Type 0
        Done z = Codes n g (effect me (row_in v) s) (set ws (owner_at n g k) z)
            × Left hs n claim_of s h (v, xs) same k from to (effect me (row_in v) s) move

        found : slice_index ws (owner_at n g k) ≡ place_code (s.places k)
        found = codes.owners k from to

        -- the step, where what is shared and the move are these
        done : (z : ℕ) (u : Shared) (to_move : Move) → effect me (row_in v) s ≡ u → move ≡ to_move
            → Codes n g u (set ws (owner_at n g k) z)
            → Left hs n claim_of s h (v, xs) same k from to u to_move → Done z
        done z u to_move same_shared same_move coded left = (
          subst (λ x. Codes n g x (set ws (owner_at n g k) z)) (sym same_shared) coded,
          subst (λ x. Left hs n claim_of s h (v, xs) same k from to x move) (sym same_shared)
              (subst (Left hs n claim_of s h (v, xs) same k from to u) (sym same_move) left),
        )

        hit : slice_index ws (owner_at n g k) ≡ old → Done new
        hit is =
            let word_is : word_of (s.places k) ≡ seen =
            shown-same (word_of (s.places k)) seen (fit.owners k) shown
            (sym found ∙ is ∙ old_is) in
            let (x, home, won) = tried-won seen (s.places k) j largest pooled word_is in
            done new (at_place k p s) (Claims k x)
            (o.row_is.places s ∙ ap (λ r. moved_if r k p s) won)
            (ap (move_of (row_in v)) (o.row_is.answers s ∙ won) ∙ o.row_is.won x)
            (subst (λ z. Codes n g (at_place k p s) (set ws (owner_at n g k) z))
            (ap owner_code o.is ∙ sym new_is) (codes-placed n g s fit ws codes k from to p))
            (slots-moved hs n claim_of s h (v, xs) same k from to p (Claims k x)
            (refl, home, o.has, none_yet))

        miss : slice_index ws (owner_at n g k) ≢ old → Done (slice_index ws (owner_at n g k))
        miss other =
            let lost : tried_at seen (s.places k) ≡ Lost (word_of (s.places k)) =
            tried-lost seen (s.places k) (λ q. other (found ∙ q ∙ sym old_is)) in
            done (slice_index ws (owner_at n g k)) s Stays
            (o.row_is.places s ∙ ap (λ r. moved_if r k p s) lost)
            (ap (move_of (row_in v)) (o.row_is.answers s ∙ lost)
            ∙ o.row_is.lost (word_of (s.places k)))
            (codes-read n g s fit ws codes (owner_at n g k))
            (slots-stay hs n claim_of s h (v, xs) same k from to)

        exchange : Done (to_new (slice_index ws (owner_at n g k)))
        exchange = exchanged (slice_index ws (owner_at n g k)) old new Done hit miss

      pub fits-exchanged : FitsWord v xs (row_in v) i to_new (λ z. z)
      fits-exchanged = placed to_new (λ z. z) (λ L valid made at rem claim_of same ws codes hs h.
          let d = exchange L valid made claim_of same ws codes hs h in record {
            reads = o.row_is.reads (s_of L) (slice_index ws (owner_at n g k))
                (codes.owners k from to, (worded v.config v.trace valid made L).owners k);
            codes = d.0;
            valid = d.1.0;
            houses = d.1.1;
          })

-- looks of a seat
module _ (v : View) (k : ℕ) (from : 1 ≤ k) where
  pub fits-claims : k ≤ NUMBERS * v.config.schedulers → (acting v).claim ≡ 0
      → Wherever v (λ s. Has (acting v).number k (s.places k)) → (xs : List (ℕ × Slot))
      → FitsLook v xs (takes (slot_at k) None) k
  fits-claims to none_yet has xs L valid made at claim_of same hs h =
      housed-claimed hs v.config.schedulers claim_of (run (setup_in v) L).shared h
      (acting v).number k from to (has L valid made at) (same ∙ none_yet)

  pub fits-yields : (xs : List (ℕ × Slot)) → HasSlot k None (v, xs) → FitsLook v xs gives 0
  fits-yields xs slot L valid made at claim_of same hs h = (
    tt,
    subst (λ ys. Houses (put_back hs ys) v.config.schedulers (put claim_of (acting v).number 0)
        (run (setup_in v) L).shared) (sym slot.slots)
        (housed-yielded hs v.config.schedulers claim_of (run (setup_in v) L).shared h
        (acting v).number k from (same ∙ slot.claim)),
  )
