-- Which rows on carriers the calls are: the place that each leaves, by its guard, and what it
-- answers.
use Rattle.std.proofs.Common.{◌≡◌, ◌≢◌, ℕ, false, List, [], ◌∷◌, None, Some}
use Rattle.std.proofs.Common.{refl, sym, ap, ◌∙◌, subst, inl, inr}
use Rattle.atomic_table.specs.Table.{Me}
use Rattle.ea_model.specs.declared.carriers.BlockAt.{BlockAt}
use Rattle.ea_model.specs.Content.{Content, gaps_of, is_nil, largest}
use Rattle.ea_model.specs.Instance.{owner_of}
use Rattle.ea_machine.specs.declared.owners.OwnerWord.{OwnerWord}
use Rattle.ea_machine.specs.declared.owners.OwnerWord.TheVariants as word
use Rattle.ea_machine.specs.Guards.{Guard}
use Rattle.ea_machine.specs.Machine.{run, wants}
use Rattle.ea_machine.specs.Owners.{CarrierAt, Absent, Employed, Returning, word_of}
use Rattle.ea_machine.specs.Rows.{Abandon, Answer, BusyTry, Clear, Create, Done, FetchTry, Home}
use Rattle.ea_machine.specs.Rows.{Row, SendHome, Settle}
use Rattle.ea_machine.specs.Shared.{Shared}
use Rattle.ea_machine.specs.Statistics.{leaving_at}
use Rattle.ea_machine.specs.Table.{answer, effect, pooled, returned, settled_at}
use Rattle.ea_shared.specs.Calls.{WantsRow}
use Rattle.ea_shared.specs.Carriers.{IsCollecting, IsEmptied, IsFor, IsLeaving}
use Rattle.ea_shared.specs.Carriers.{home_of}
use Rattle.ea_sound.proofs.Protocols.{protocol}
use Rattle.ea_table.specs.declared.views.View.{View}
use Rattle.ea_table.specs.Handing.{Brings, HasSlot, IsTry, MovesSlot, Stores, Wherever, Writes}
use Rattle.ea_table.specs.Handing.{row_in}
use Rattle.ea_table.specs.Ruling.{DidRow, IsSingle, Took, acting, actor_in, caller_in}
use Rattle.ea_table.specs.Ruling.{move_since, setup_in, shared_since}
use Rattle.ea_table.specs.Slots.{Claims, Has, Slot, Yields, move_of, settled_move}
use Rattle.ea_table.proofs.OwnerTold.{IsIdle, so-then, stayed}
use Rattle.ea_table.proofs.OwnerTold.{taken-slot}
use Rattle.ea_table.proofs.Told.{did}

not-nil : (bs : List BlockAt) → bs ≢ [] → is_nil bs ≡ false
not-nil [] some = absurd (some refl)
not-nil (b ∷ bs) some = refl

-- the rows that write an owner word

writes-settle : (me : ℕ) (x : Content) → Writes me (Settle x) x.number
    (settled_at me x (is_nil x.blocks))
unfolding effect
writes-settle me x = record {
  goes = λ q. cc;
  blind = λ s found. tt;
  older = λ found was. refl;
  places = λ s. refl;
}

writes-abandon : (me : ℕ) (x : Content) → Writes me (Abandon x) x.number (pooled me x)
unfolding effect
writes-abandon me x = record {
  goes = λ q. cc;
  blind = λ s found. tt;
  older = λ found was. refl;
  places = λ s. refl;
}

writes-send : (me : ℕ) (x : Content)
    → Writes me (SendHome x) x.number (Returning (owner_of x.number) x)
unfolding effect
writes-send me x = record {
  goes = λ q. cc;
  blind = λ s found. tt;
  older = λ found was. refl;
  places = λ s. refl;
}

writes-create : (me k : ℕ) → Writes me (Create k) k (Employed me)
unfolding effect
writes-create me k = record {
  goes = λ q. cc;
  blind = λ s found. tt;
  older = λ found was. refl;
  places = λ s. refl;
}

writes-clear : (me k : ℕ) → Writes me (Clear k) k Absent
unfolding effect
writes-clear me k = record {
  goes = λ q. cc;
  blind = λ s found. tt;
  older = λ found was. refl;
  places = λ s. refl;
}

-- what they answer

settle-done : (me : ℕ) (x : Content) (s : Shared) → answer me (Settle x) s ≡ Done
unfolding answer
settle-done me x s = refl

abandon-done : (me : ℕ) (x : Content) (s : Shared) → answer me (Abandon x) s ≡ Done
unfolding answer
abandon-done me x s = refl

send-done : (me : ℕ) (x : Content) (s : Shared) → answer me (SendHome x) s ≡ Done
unfolding answer
send-done me x s = refl

create-done : (me k : ℕ) (s : Shared) → answer me (Create k) s ≡ Done
unfolding answer
create-done me k s = refl

clear-home : (me k : ℕ) (s : Shared) → answer me (Clear k) s ≡ Home (returned (s.places k))
unfolding answer
clear-home me k s = refl

module _ (v : View) where
  abbrev i : ℕ
  i = (acting v).number

  -- the guard of the row that the scheduler wants
  guarded : (row : Row) → row_in v ≡ row
      → Wherever v (λ s. Guard (setup_in v) i (actor_in v) s row)
  guarded row wanted L valid made at =
      subst (Guard (setup_in v) i (actor_in v) (run (setup_in v) L).shared) wanted
      (subst (λ a. Guard (setup_in v) i a (run (setup_in v) L).shared (wants a)) at
      (((protocol v.config v.trace valid made).guarded L).guard i))

  -- a content is brought home

  brings-by : (row : Row) → row_in v ≡ row → (k : ℕ) (x : Content) (w : OwnerWord)
      (p : CarrierAt) → word_of p ≡ w → home_of p ≡ Some x → Writes i row k p
      → ((s : Shared) → answer i row s ≡ Done) → ((got : Answer) → move_of row got ≡ Yields)
      → Wherever v (λ s. Has i k (s.places k)) → Brings k x w v
  brings-by row wanted k x w p is home writes answers yields has = record {
    place = p;
    is = is;
    home = home;
    writes = subst (λ r. Writes i r k p) (sym wanted) writes;
    answers = λ s. ap (λ r. answer i r s) wanted ∙ answers s;
    yields = λ got. ap (λ r. move_of r got) wanted ∙ yields got;
    has = has;
  }

  -- the word of a carrier that goes into the pool
  pooled-word : (me g : ℕ) (x : Content) → i ≡ me → g ≡ largest (gaps_of x)
      → word_of (pooled i x) ≡ word.Pooled me g
  pooled-word me g x same is =
      ap (λ j. word.Pooled j (largest (gaps_of x))) same ∙ ap (word.Pooled me) (sym is)

  module _ (me k g : ℕ) (x : Content) (for : IsFor k g x) where
    pub brings-abandon : WantsRow me (Abandon x) (caller_in v) → Brings k x (word.Pooled me g) v
    brings-abandon wanted = subst (λ n. Brings n x (word.Pooled me g) v) for.number
        (brings-by (Abandon x) wanted.1 x.number x (word.Pooled me g) (pooled i x)
        (pooled-word me g x wanted.0 for.is) refl (writes-abandon i x) (abandon-done i x)
        (λ got. refl)
        (λ L valid made at. subst (Has i x.number)
        (sym (guarded (Abandon x) wanted.1 L valid made at).0) refl))

    pub brings-settle : WantsRow me (Settle x) (caller_in v) → Brings k x (word.Pooled me g) v
    brings-settle wanted =
        let some = not-nil x.blocks for.blocks in
        subst (λ n. Brings n x (word.Pooled me g) v) for.number
        (brings-by (Settle x) wanted.1 x.number x (word.Pooled me g) (pooled i x)
        (pooled-word me g x wanted.0 for.is) refl
        (subst (λ b. Writes i (Settle x) x.number (settled_at i x b)) some (writes-settle i x))
        (settle-done i x) (λ got. ap settled_move some)
        (λ L valid made at. subst (Has i x.number)
        (sym (guarded (Settle x) wanted.1 L valid made at)) refl))

  pub brings-send : (me k owner : ℕ) (x : Content) → IsEmptied k x → owner ≡ owner_of k
      → WantsRow me (SendHome x) (caller_in v) → Brings k x (word.Returning owner) v
  brings-send me k owner x emptied is wanted =
      subst (λ n. Brings n x (word.Returning owner) v) emptied.number
      (brings-by (SendHome x) wanted.1 x.number x (word.Returning owner)
      (Returning (owner_of x.number) x)
      (ap word.Returning (ap owner_of emptied.number ∙ sym is)) refl (writes-send i x)
      (send-done i x) (λ got. refl)
      (λ L valid made at. subst (Has i x.number)
      (sym (guarded (SendHome x) wanted.1 L valid made at).0) refl))

  -- tries

  pub busy-try : (me k : ℕ) (seen : OwnerWord) → WantsRow me (BusyTry k seen) (caller_in v)
      → IsTry i (row_in v) k seen (word.Busy me)
  busy-try me k seen wanted = inl (wanted.1, ap word.Busy (sym wanted.0))

  pub fetch-try : (me k : ℕ) (seen : OwnerWord) → WantsRow me (FetchTry k seen) (caller_in v)
      → IsTry i (row_in v) k seen (word.Employed me)
  fetch-try me k seen wanted = inr (wanted.1, ap word.Employed (sym wanted.0))

  -- the place that is told by a clear

  pub leaves-employed : (k : ℕ) → row_in v ≡ Clear k → IsLeaving (caller_in v)
      → Wherever v (λ s. (owner_of k ≡ i) × (s.places k ≡ Employed i))
  leaves-employed k wanted leaves L valid made at =
      let g = guarded (Clear k) wanted L valid made at in (
        g.0,
        elim g.1 [
          | inl emptied ↦ emptied.employed
          | inr home ↦ absurd (let never = sym leaves.1 ∙ ap leaving_at home.collects in cc)
        ],
      )

  pub collects-home : (k : ℕ) → row_in v ≡ Clear k → IsCollecting k (caller_in v)
      → Wherever v (λ s. (x : Content) × (owner_of k ≡ i) × (s.places k ≡ Returning i x))
  collects-home k wanted collects L valid made at =
      let g = guarded (Clear k) wanted L valid made at in
      elim g.1 [
        | inl emptied ↦ absurd
            (let never = sym emptied.in_hand ∙ ap leaving_at collects in cc)
        | inr home ↦ (home.content, g.0, home.returning)
      ]

-- a word is stored
module _ (m : Me Slot View) (is : IsSingle m.0) where
  abbrev who : ℕ
  who = (acting m.0).number

  stores-by : (row : Row) → row_in m.0 ≡ row → (k : ℕ) (w : OwnerWord) (p : CarrierAt)
      → word_of p ≡ w → Writes who row k p
      → Wherever m.0 (λ s. MovesSlot m k (s.places k) p (move_of row (answer who row s)))
      → Stores k w m
  stores-by row wanted k w p word_is writes slot = record {
    single = is;
    place = p;
    is = word_is;
    writes = subst (λ r. Writes who r k p) (sym wanted) writes;
    slot = subst (λ r. Wherever m.0
        (λ s. MovesSlot m k (s.places k) p (move_of r (answer who r s)))) (sym wanted) slot;
  }

  pub stores-settle : (me k : ℕ) (x : Content) → IsEmptied k x
      → WantsRow me (Settle x) (caller_in m.0) → Stores k (word.Employed me) m
  stores-settle me k x emptied wanted =
      let none = ap is_nil emptied.empty in
      subst (λ n. Stores n (word.Employed me) m) emptied.number
      (stores-by (Settle x) wanted.1 x.number (word.Employed me) (Employed who)
      (ap word.Employed wanted.0)
      (subst (λ b. Writes who (Settle x) x.number (settled_at who x b)) none
      (writes-settle who x))
      (λ L valid made at. subst (λ b. MovesSlot m x.number
      ((run (setup_in m.0) L).shared.places x.number) (Employed who) (settled_move b)) (sym none) (
        subst (Has who x.number) (sym (guarded m.0 (Settle x) wanted.1 L valid made at)) refl,
        refl,
      )))

  pub stores-create : (me k : ℕ) → WantsRow me (Create k) (caller_in m.0)
      → Stores k (word.Employed me) m
  stores-create me k wanted =
      stores-by (Create k) wanted.1 k (word.Employed me) (Employed who) (ap word.Employed wanted.0)
      (writes-create who k)
      (λ L valid made at.
      let g = guarded m.0 (Create k) wanted.1 L valid made at in
      (subst (Has who k) (sym g.0) g.1, refl))

  module _ (me k : ℕ) (wanted : WantsRow me (Clear k) (caller_in m.0)) where
    pub stores-clear_own : IsLeaving (caller_in m.0) → Stores k word.Absent m
    stores-clear_own leaves =
        stores-by (Clear k) wanted.1 k word.Absent Absent refl (writes-clear who k)
        (λ L valid made at.
        let s = (run (setup_in m.0) L).shared in
        let e = leaves-employed m.0 k wanted.1 leaves L valid made at in
        subst (λ r. MovesSlot m k (s.places k) Absent (move_of (Clear k) r))
        (sym (clear-home who k s ∙ ap (λ p. Home (returned p)) e.1))
        (subst (Has who k) (sym e.1) refl, e.0))

    pub stores-clear_returned : IsCollecting k (caller_in m.0) → (acting m.0).claim ≡ 0
        → Stores k word.Absent m
    stores-clear_returned collects none_yet =
        stores-by (Clear k) wanted.1 k word.Absent Absent refl (writes-clear who k)
        (λ L valid made at.
        let s = (run (setup_in m.0) L).shared in
        let e = collects-home m.0 k wanted.1 collects L valid made at in
        subst (λ r. MovesSlot m k (s.places k) Absent (move_of (Clear k) r))
        (sym (clear-home who k s ∙ ap (λ p. Home (returned p)) e.2))
        (refl, ap home_of e.2, e.1, none_yet))

-- after the store
module _ (older : ℕ) (m n : Me Slot View) (found : ℕ) (took : Took m found n)
    (idle : IsIdle older m) where
  abbrev then : Shared
  then = shared_since m.0 took.since

  -- the move of the row that was wanted
  move-by : (row : Row) → row_in m.0 ≡ row → (got : Answer)
      → answer (acting m.0).number row then ≡ got
      → move_since m.0 took.since ≡ move_of row got
  move-by row wanted got is = ap (λ r. move_of r (answer (acting m.0).number r then)) wanted
      ∙ ap (move_of row) is

  module _ (me k : ℕ) where
    module _ (x : Content) (emptied : IsEmptied k x)
        (wanted : WantsRow me (Settle x) (caller_in m.0)) where
      pub settled-idle : IsIdle older n
      settled-idle = stayed m n found took older
          (stores-settle m idle.single me k x emptied wanted).writes.older idle.older_is idle
          (move-by (Settle x) wanted.1 Done (settle-done (acting m.0).number x then)
          ∙ ap settled_move (ap is_nil emptied.empty))

      pub settled-row : DidRow me (Settle x) Done m.0 n.0
      settled-row = did m n me found (Settle x) took wanted Done
          (sym (settle-done (acting m.0).number x then))

    module _ (wanted : WantsRow me (Create k) (caller_in m.0)) where
      pub created-idle : IsIdle older n
      created-idle = stayed m n found took older
          (stores-create m idle.single me k wanted).writes.older idle.older_is idle
          (move-by (Create k) wanted.1 Done (create-done (acting m.0).number k then))

      pub created-row : DidRow me (Create k) Done m.0 n.0
      created-row = did m n me found (Create k) took wanted Done
          (sym (create-done (acting m.0).number k then))

    module _ (wanted : WantsRow me (Clear k) (caller_in m.0)) where
      module _ (leaves : IsLeaving (caller_in m.0)) where
        home-none : answer (acting m.0).number (Clear k) then ≡ Home None
        home-none = clear-home (acting m.0).number k then ∙ ap (λ p. Home (returned p))
            (so-then m n found took
            (λ s. (owner_of k ≡ (acting m.0).number) × (s.places k ≡ Employed (acting m.0).number))
            (leaves-employed m.0 k wanted.1 leaves)).1

        pub cleared-idle : IsIdle older n
        cleared-idle = stayed m n found took older
            (stores-clear_own m idle.single me k wanted leaves).writes.older idle.older_is idle
            (move-by (Clear k) wanted.1 (Home None) home-none)

        pub cleared-row : DidRow me (Clear k) (Home None) m.0 n.0
        cleared-row = did m n me found (Clear k) took wanted (Home None) (sym home-none)

      module _ (collects : IsCollecting k (caller_in m.0)) where
        home-some : (x : Content) × (answer (acting m.0).number (Clear k) then ≡ Home (Some x))
        home-some =
            let e = so-then m n found took (λ s. (x : Content) × (owner_of k ≡ (acting m.0).number)
            × (s.places k ≡ Returning (acting m.0).number x))
            (collects-home m.0 k wanted.1 collects) in
            (e.0, clear-home (acting m.0).number k then ∙ ap (λ p. Home (returned p)) e.2)

        moved : move_since m.0 took.since ≡ Claims k home-some.0
        moved = move-by (Clear k) wanted.1 (Home (Some home-some.0)) home-some.1

        pub returned-slot : (x : Content) × HasSlot k (Some x) n
        returned-slot = (home-some.0, taken-slot m n found took older k home-some.0 idle moved)
