-- What the calls on carriers answer, by the words that their steps found and the slots that the
-- seat has then; and that a seat has no slot after them.
use Rattle.std.proofs.Common.{◌≡◌, ◌≢◌, ℕ, ◌≤◌, ◌++◌, [], ◌∷◌, None, Some}
use Rattle.std.proofs.Common.{refl, sym, ap, ◌∙◌, subst, arith}
use Rattle.atomic_table.specs.Seated.{TableId}
use Rattle.atomic_table.specs.Table.{Me, Step, rest}
use Rattle.ea_model.specs.Content.{Content}
use Rattle.ea_model.specs.declared.units.TheConstants.{MAX_SCHEDULERS}
use Rattle.ea_machine.specs.declared.owners.OwnerWord.{OwnerWord}
use Rattle.ea_machine.specs.Machine.{run}
use Rattle.ea_machine.specs.Owners.{CarrierAt, word_of}
use Rattle.ea_machine.specs.Rows.{Answer, Look, Lost, Saw, Won}
use Rattle.ea_machine.specs.Shared.{Shared}
use Rattle.ea_machine.specs.Table.{answer, tried_at}
use Rattle.ea_shared.specs.Calls.{WantsRow}
use Rattle.ea_shared.specs.Carriers.{IsPooled, home_of}
use Rattle.ea_sound.proofs.OtherTurns.{actor-since}
use Rattle.ea_word.specs.Codes.{IsShown, owner_code}
use Rattle.ea_table.specs.declared.board.Board.{Board}
use Rattle.ea_table.specs.declared.pass.Pass.{Pass}
use Rattle.ea_table.specs.declared.views.View.{View}
use Rattle.ea_table.specs.Handing.{Brings, HasSlot, IsTry, MovesSlot, Stores, Wherever, Writes}
use Rattle.ea_table.specs.Handing.{row_in}
use Rattle.ea_table.specs.Ruling.{DidRow, IsSingle, ReadsOwner, Took, acting, caller_in, claimed}
use Rattle.ea_table.specs.Ruling.{claims, move_since, older_after, setup_in, shared_since}
use Rattle.ea_table.specs.Seating.{IsAt}
use Rattle.ea_table.specs.Slots.{Claims, Slot, Stays, Yields, move_of, slot_at}
use Rattle.ea_table.specs.Words.{owner_at}
use Rattle.ea_table.proofs.OwnerCodes.{DecodesOwner, owner-told, shown-same}
use Rattle.ea_table.proofs.Owning.{TriesAs, tried-lost, tried-won, tries-as}
use Rattle.ea_table.proofs.Told.{claim-after, did, older-after, reads-row}
use Rattle.ea_table.proofs.Told.{single-after, single-claimed, slots-after}

-- a seat that has no slot
pub record IsIdle (older : ℕ) (m : Me Slot View) : Type 0 where
  pub bare : m.1 ≡ []
  pub unclaimed : (acting m.0).claim ≡ 0
  pub single : IsSingle m.0
  pub older_is : older ≡ (acting m.0).older

pub idle-of : (p : Pass) → IsIdle p.older p.seat.me
idle-of p = record {
  bare = p.bare;
  unclaimed = p.unclaimed;
  single = p.single;
  older_is = p.older_is;
}

-- a seat of the same table, with the same run
pub at-same : (b : Board) (z y : TableId) (v u : View) → IsAt b z v → y ≡ z
    → u.config ≡ v.config → u.trace ≡ v.trace → IsAt b y u
at-same b z y v u at same config trace = record {
  table = same ∙ at.table;
  schedulers = ap (λ c. c.schedulers) config ∙ at.schedulers;
  greatest = ap (λ t. t.greatest) trace ∙ at.greatest;
}

pub seen-shown : (n : ℕ) (seen : OwnerWord) → n ≤ MAX_SCHEDULERS → IsPooled n seen → IsShown seen
seen-shown n seen few p = subst IsShown (sym p.is) (
  p.scheduler.0,
  omega (arith, p.scheduler.1, few),
  p.units.0,
  omega (arith, p.units.1),
)

-- the slot that the seat has
module _ (k : ℕ) (y : Slot) (m : Me Slot View) (slot : HasSlot k y m) where
  pub held : (i : ℕ) → i ≡ slot_at k → m.1 ≡ (i, y) ∷ rest m.1
  held i there = slot.slots ∙ ap (λ j. (j, y) ∷ []) (sym there)
      ∙ ap (λ ys. (i, y) ∷ ys) (sym (ap rest slot.slots))

  -- something else is put into it
  pub put-in : (n : Me Slot View) (i : ℕ) (z : Slot) → i ≡ slot_at k
      → n ≡ (m.0, (i, z) ∷ rest m.1) → HasSlot k z n
  put-in n i z there is = record {
    single = subst IsSingle (sym (ap (λ (p : Me Slot View). p.0) is)) slot.single;
    claim = ap (λ (p : Me Slot View). (acting p.0).claim) is ∙ slot.claim;
    slots = ap (λ (p : Me Slot View). p.1) is ∙ ap (λ j. (j, z) ∷ rest m.1) there
        ∙ ap (λ ys. (slot_at k, z) ∷ ys) (ap rest slot.slots);
  }

-- the slot of a carrier was claimed
claimed-slot : (older k : ℕ) (m n : Me Slot View) (found : ℕ) (st : Step Slot)
    → IsIdle older m → 1 ≤ k → st.word ≡ owner_at m.0.config.schedulers m.0.trace.greatest k
    → claims st m found n → HasSlot k None n
claimed-slot older k m n found st idle from there did =
    let c = did k from there in record {
      single = subst IsSingle (sym c.0) (single-claimed m.0 idle.single k);
      claim = ap (λ (x : View). (acting x).claim) c.0;
      slots = c.1 ∙ ap (λ ys. (slot_at k, None) ∷ ys) idle.bare;
    }

-- the owner word that was read
word-told : (place : CarrierAt) (found : ℕ) (w : OwnerWord) → ReadsOwner place found
    → DecodesOwner found (Some w) → w ≡ word_of place
word-told place found w reads d =
    let told : Some w ≡ Some (word_of place) =
    owner-told (word_of place) found (Some w) reads.1 reads.0 d in cc

module _ (m n : Me Slot View) (found : ℕ) (took : Took m found n) where
  abbrev i : ℕ
  i = (acting m.0).number

  abbrev pub s_then : Shared
  s_then = shared_since m.0 took.since

  -- what is so wherever the scheduler stands so was so then
  pub so-then : (P : Shared → Type 0) → Wherever m.0 P → P s_then
  so-then P so = so ((acting m.0).turns ++ took.since) took.valid took.made
      (actor-since (setup_in m.0) i (acting m.0).turns took.since took.others)

  module _ (older : ℕ) (keeps : (got was : ℕ) → older_after (row_in m.0) got was ≡ was)
      (older_is : older ≡ (acting m.0).older) where
    pub older-then : older ≡ (acting n.0).older
    older-then = older_is ∙ sym (older-after m n i found (row_in m.0) took (refl, refl)
        ∙ keeps found (acting m.0).older)

    -- a row that leaves the slots
    pub stayed : IsIdle older m → move_since m.0 took.since ≡ Stays → IsIdle older n
    stayed idle moves = record {
      bare = slots-after m n i found (row_in m.0) took (refl, refl) Stays moves ∙ idle.bare;
      unclaimed = claim-after m n i found (row_in m.0) took (refl, refl) Stays moves
          ∙ idle.unclaimed;
      single = single-after m n i found (row_in m.0) took (refl, refl) idle.single;
      older_is = older-then;
    }

    -- one that gives back the slot
    pub yielded : (k : ℕ) (y : Slot) → HasSlot k y m → move_since m.0 took.since ≡ Yields
        → IsIdle older n
    yielded k y slot moves = record {
      bare = slots-after m n i found (row_in m.0) took (refl, refl) Yields moves
          ∙ ap rest slot.slots;
      unclaimed = claim-after m n i found (row_in m.0) took (refl, refl) Yields moves;
      single = single-after m n i found (row_in m.0) took (refl, refl) slot.single;
      older_is = older-then;
    }

  -- one that takes the slot of a carrier with its content
  pub taken-slot : (older k : ℕ) (x : Content) → IsIdle older m
      → move_since m.0 took.since ≡ Claims k x → HasSlot k (Some x) n
  taken-slot older k x idle moves = record {
    single = single-after m n i found (row_in m.0) took (refl, refl) idle.single;
    claim = claim-after m n i found (row_in m.0) took (refl, refl) (Claims k x) moves;
    slots = slots-after m n i found (row_in m.0) took (refl, refl) (Claims k x) moves
        ∙ ap (λ ys. (slot_at k, Some x) ∷ ys) idle.bare;
  }

  -- a try
  module _ (k : ℕ) (seen w : OwnerWord) (count : ℕ) (few : count ≤ MAX_SCHEDULERS)
      (pooled : IsPooled count seen) (try : IsTry i (row_in m.0) k seen w) where
    o : TriesAs i (row_in m.0) k seen w
    o = tries-as i (row_in m.0) k seen w try

    abbrev there : CarrierAt
    there = s_then.places k

    reads-there : ReadsOwner there found
    reads-there = o.row_is.told s_then found took.reads

    module _ (same : found ≡ owner_code seen) where
      won : (x : Content) × (home_of there ≡ Some x) × (tried_at seen there ≡ Won x)
      won = tried-won seen there pooled.instance pooled.largest pooled.is
          (shown-same (word_of there) seen reads-there.1 (seen-shown count seen few pooled)
          (sym reads-there.0 ∙ same))

      won-move : move_since m.0 took.since ≡ Claims k won.0
      won-move = ap (move_of (row_in m.0)) (o.row_is.answers s_then ∙ won.2)
          ∙ o.row_is.won won.0

      pub won-slot : (older : ℕ) → IsIdle older m → (x : Content) × HasSlot k (Some x) n
      won-slot older idle = (won.0, taken-slot older k won.0 idle won-move)

    module _ (other : found ≢ owner_code seen) where
      lost : tried_at seen there ≡ Lost (word_of there)
      lost = tried-lost seen there (λ q. other (reads-there.0 ∙ q))

      pub lost-idle : (older : ℕ) → IsIdle older m → IsIdle older n
      lost-idle older idle = stayed older o.row_is.older idle.older_is idle
          (ap (move_of (row_in m.0)) (o.row_is.answers s_then ∙ lost)
          ∙ o.row_is.lost (word_of there))

      pub lost-row : (got : OwnerWord) → DecodesOwner found (Some got)
          → DidRow i (row_in m.0) (Lost got) m.0 n.0
      lost-row got d = did m n i found (row_in m.0) took (refl, refl) (Lost got)
          (ap Lost (word-told there found got reads-there d)
          ∙ sym (o.row_is.answers s_then ∙ lost))

-- a content is brought home

module _ (v : View) (k : ℕ) (x : Content) (w : OwnerWord) (o : Brings k x w v) (m : Me Slot View)
    (is : m.0 ≡ claimed v k) (slot : HasSlot k (Some x) m) where
  moves-so : (got : Answer) → move_of (row_in m.0) got ≡ Yields
  moves-so got = ap (λ u. move_of (row_in u) got) is ∙ o.yields got

  brought-stores : Stores k w m
  brought-stores = record {
    single = slot.single;
    place = o.place;
    is = o.is;
    writes = subst (λ u. Writes (acting u).number (row_in u) k o.place) (sym is) o.writes;
    slot = λ L valid made at. subst (MovesSlot m k ((run (setup_in m.0) L).shared.places k) o.place)
        (sym (moves-so (answer (acting m.0).number (row_in m.0) (run (setup_in m.0) L).shared)))
        (x, o.home, slot);
  }

  module _ (n : Me Slot View) (found : ℕ) (took : Took m found n) where
    brought-idle : (older : ℕ) → older ≡ (acting v).older → IsIdle older n
    brought-idle older same = yielded m n found took older
        (λ got was. ap (λ u. older_after (row_in u) got was) is ∙ o.writes.older got was)
        (same ∙ sym (ap (λ u. (acting u).older) is)) k (Some x) slot
        (moves-so (answer (acting m.0).number (row_in m.0) (shared_since m.0 took.since)))

-- by a look, an exchange and a store
module _ (older k : ℕ) (x : Content) (w : OwnerWord) (m : Me Slot View) (idle : IsIdle older m)
    (from : 1 ≤ k) (o : Brings k x w m.0) (st : Step Slot)
    (there : st.word ≡ owner_at m.0.config.schedulers m.0.trace.greatest k) (looked : ℕ)
    (l : Me Slot View) (did : claims st m looked l) (j : ℕ) (slot_is : j ≡ slot_at k)
    (n : Me Slot View) (is : n ≡ (l.0, (j, Some x) ∷ rest l.1)) where
  claim-is : n.0 ≡ claimed m.0 k
  claim-is = ap (λ (p : Me Slot View). p.0) is ∙ (did k from there).0

  put : HasSlot k (Some x) n
  put = put-in k None l (claimed-slot older k m l looked st idle from there did) n j (Some x)
      slot_is is

  pub bring-stores : Stores k w n
  bring-stores = brought-stores m.0 k x w o n claim-is put

  pub bring-idle : (u : Me Slot View) (found : ℕ) → Took n found u → IsIdle older u
  bring-idle u found took = brought-idle m.0 k x w o n claim-is put u found took older
      idle.older_is

module _ (m n : Me Slot View) (me found k : ℕ) (took : Took m found n)
    (wanted : WantsRow me (Look k) (caller_in m.0)) where
  pub saw-row : (w : OwnerWord) → DecodesOwner found (Some w)
      → DidRow me (Look k) (Saw w) m.0 n.0
  unfolding answer
  saw-row w d = did m n me found (Look k) took wanted (Saw w)
      (ap Saw (word-told ((s_then m n found took).places k) found w
      (reads-row m n me found (Look k) took wanted) d))
