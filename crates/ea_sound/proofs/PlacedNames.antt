-- Each name is in one place: what its places count is 1 in all.
use Rattle.std.proofs.Common.{◌≡◌, ℕ, zero, suc, ◌+◌, ◌-◌, ◌<◌, ◌≤◌, List, [], ◌∷◌}
use Rattle.std.proofs.Common.{Bool, true, false, refl, sym, ap, ◌∙◌, subst, inl, inr, arith}
use Rattle.std.specs.Prelude.{Option, None, Some, ◌==◌, ◌||◌}
use Rattle.std.specs.List.{AllZip, list_any}
use Rattle.std.proofs.lemmas.Bool.{cases_eq, cases_lt}
use Rattle.ea_model.specs.declared.carriers.Place.{Place}
use Rattle.ea_model.specs.Entries.{Entry}
use Rattle.ea_model.specs.declared.operations.Op.{Op}
use Rattle.ea_model.specs.declared.operations.Op.TheVariants as op
use Rattle.ea_model.specs.Trace.{makes}
use Rattle.ea_model.proofs.Rising.{item_at-key}
use Rattle.ea_machine.specs.Actor.{Actor}
use Rattle.ea_machine.specs.Machine.{run}
use Rattle.ea_machine.specs.Nodes.{named_at, name_of}
use Rattle.ea_machine.specs.Setup.{Setup, is_scheduler}
use Rattle.ea_machine.specs.State.{State}
use Rattle.ea_machine.specs.Sums.{one_if, sum_over, total}
use Rattle.ea_machine.specs.Tasks.{later}
use Rattle.ea_machine.specs.declared.nodes.Named.{Named}
use Rattle.ea_machine.specs.declared.stages.Stage.TheVariants.{Routed}
use Rattle.ea_machine.specs.declared.tasks.Task.TheVariants.{Moving}
use Rattle.ea_machine.specs.declared.tasks.Why.TheVariants.{For}
use Rattle.ea_sound.specs.Contents.{seats}
use Rattle.ea_sound.specs.Entries.{LogsEach, Makes}
use Rattle.ea_sound.specs.Names.{allocated, made_in, of_hand, of_mark, of_named, of_node, only}
use Rattle.ea_sound.specs.Names.{to_make, unplaced, walked}
use Rattle.ea_sound.specs.OnePlace.{Failed, Given, Held, InHand, IsAmong, IsAt, IsInOnePlace}
use Rattle.ea_sound.specs.OnePlace.{NamePlace, NamesInOnePlace, Queued, Released, Unmade}
use Rattle.ea_sound.specs.OnePlace.{Walked}
use Rattle.ea_sound.specs.Present.{Fits, OfTask, Rule}
use Rattle.ea_sound.specs.Released.{says_failed, says_made}
use Rattle.ea_sound.specs.Sound.{HasNothing}
use Rattle.ea_sound.proofs.Fading.{stays-gone}
use Rattle.ea_sound.proofs.FewBlocks.{all_of}
use Rattle.ea_sound.proofs.GoneNames.{failed-none, nobody-texts, texts-once, total-beside}
use Rattle.ea_sound.proofs.GoneNames.{first-unplaced, unplaced-fewer}
use Rattle.ea_sound.proofs.Hits.{stands-allocated}
use Rattle.ea_sound.proofs.KeyedWeights.{sum-item, sum-missing}
use Rattle.ea_sound.proofs.MadeNames.{unplaced-or}
use Rattle.ea_sound.proofs.MovingNames.{holds-fresh}
use Rattle.ea_sound.proofs.Numbered.{no_scheduler-beyond}
use Rattle.ea_sound.proofs.SoundNames.{standing-allocated, total-both}
use Rattle.ea_sound.proofs.StartKept.{all-none}
use Rattle.ea_sound.proofs.Totals.{total-part}
use Rattle.ea_sound.proofs.Weights.{one-itself, one-other, sum-append}

abbrev itself : ℕ → ℕ
itself i = i

-- a number of these that weighs, and that it is the only one
total-hit : {A : Type 0} (f : A → ℕ) (m : ℕ → A) (n : ℕ) → 1 ≤ total n f m
    → (i : ℕ) × (i < n) × (1 ≤ f (m i))
total-hit f m zero some = absurd (omega (arith, some))
total-hit f m (suc n) some = elim (cases_lt 0 (f (m n))) [
  | inl here ↦ (n, omega arith, omega (arith, here))
  | inr none ↦
      let t = total-hit f m n (omega (arith, some, none)) in (t.0, omega (arith, t.1), t.2)
]

total-one : {A : Type 0} (f : A → ℕ) (m : ℕ → A) (n i j : ℕ) → total n f m ≤ 1 → i < n → j < n
    → 1 ≤ f (m i) → 1 ≤ f (m j) → i ≡ j
total-one f m zero i j one low also first second = absurd (omega (arith, low))
total-one f m (suc n) i j one low also first second = elim (cases_eq i n) [
  | inl last ↦ elim (cases_eq j n) [
    | inl too ↦ last ∙ sym too
    | inr other ↦ absurd (omega (
      arith,
      one,
      first,
      second,
      ap (λ k. f (m k)) last,
      total-part f m j n (omega (arith, also, other)),
    ))
  ]
  | inr other ↦ elim (cases_eq j n) [
    | inl last ↦ absurd (omega (
      arith,
      one,
      first,
      second,
      ap (λ k. f (m k)) last,
      total-part f m i n (omega (arith, low, other)),
    ))
    | inr too ↦ total-one f m n i j (omega (arith, one)) (omega (arith, low, other))
        (omega (arith, also, too)) first second
  ]
]

-- the entries that say of a name that it was made, or that it failed
module _ (n : ℕ) where
  abbrev made : List Entry → ℕ
  made log = sum_over (λ x. one_if (says_made n x)) log

  abbrev failed : List Entry → ℕ
  failed log = sum_over (λ x. one_if (says_failed n x)) log

  says-makes : (o : Op) (x : Entry) → Makes o x
      → one_if (says_made n x) + one_if (says_failed n x) ≡ one_if (makes n o)
  says-makes o x of = grind (arith, of)

  all-say : (done : List Op) (log : List Entry) → AllZip Makes done log
      → made log + failed log ≡ made_in n done
  all-say [] [] each = refl
  all-say [] (x ∷ log) each = absurd each
  all-say (o ∷ done) [] each = absurd each
  all-say (o ∷ done) (x ∷ log) each =
      omega (arith, says-makes o x each.0, all-say done log each.1)

any-counts : (says : Entry → Bool) (log : List Entry) → list_any says log ≡ true
    → 1 ≤ sum_over (λ x. one_if (says x)) log
any-counts says [] is = absurd cc
any-counts says (x ∷ log) is = by (says x) refl is (λ later. any-counts says log later) where
  by : (b : Bool) → says x ≡ b → (b || list_any says log) ≡ true
      → (list_any says log ≡ true → 1 ≤ sum_over (λ x. one_if (says x)) log)
      → 1 ≤ one_if b + sum_over (λ x. one_if (says x)) log
  by true q is others = omega arith
  by false q is others = omega (arith, others is)

counts-any : (says : Entry → Bool) (log : List Entry) → 1 ≤ sum_over (λ x. one_if (says x)) log
    → list_any says log ≡ true
counts-any says [] some = absurd (omega (arith, some))
counts-any says (x ∷ log) some = by (says x) some (λ later. counts-any says log later) where
  by : (b : Bool) → 1 ≤ one_if b + sum_over (λ x. one_if (says x)) log
      → (1 ≤ sum_over (λ x. one_if (says x)) log → list_any says log ≡ true)
      → (b || list_any says log) ≡ true
  by true some others = refl
  by false some others = others (omega (arith, some))

-- a name that is found counts, and one that counts is found
module _ (n : ℕ) (names : List Named) where
  abbrev pub counted : ℕ
  counted = sum_over (of_named (only n)) names

  pub among-counts : IsAmong n names → 0 < counted
  among-counts a = omega (
    arith,
    sum-item name_of (of_named (only n)) n a.0 names a.1,
    ap (λ m. one_if (m == n)) (item_at-key name_of n a.0 names a.1),
    one-itself n,
  )

  counts-among : 0 < counted → IsAmong n names
  counts-among some = by (named_at n names) refl where
    by : (o : Option Named) → named_at n names ≡ o → IsAmong n names
    by (Some x) q = (x, q)
    by None q = absurd (omega (
      arith,
      some,
      sum-missing name_of (of_named (only n)) n names (λ x other. one-other x.name n other) q,
    ))

-- totals that agree
total-same : {A B : Type 0} (f : A → ℕ) (m : ℕ → A) (g : B → ℕ) (o : ℕ → B) (n : ℕ)
    → ((i : ℕ) → f (m i) ≡ g (o i)) → total n f m ≡ total n g o
total-same f m g o zero same = refl
total-same f m g o (suc n) same = omega (arith, same n, total-same f m g o n same)

-- what weighs at 0 alone
abbrev single : ℕ → ℕ → ℕ
single v zero = v
single v (suc i) = 0

total-single : (v n : ℕ) → total (suc n) (single v) itself ≡ v
total-single v zero = omega arith
total-single v (suc n) = omega (arith, total-single v n)

single-some : (v i : ℕ) → 0 < single v i → 0 < v
single-some v zero some = some
single-some v (suc i) some = absurd (omega (arith, some))

-- the places by number
abbrev kind : NamePlace → ℕ
kind Unmade = 0
kind (Held i) = 1
kind Given = 2
kind (Queued i) = 3
kind (Walked i) = 4
kind (InHand i) = 5
kind Released = 6
kind Failed = 7

abbrev index : NamePlace → ℕ
index Unmade = 0
index (Held i) = i
index Given = 0
index (Queued i) = i
index (Walked i) = i
index (InHand i) = i
index Released = 0
index Failed = 0

abbrev place_of : ℕ → ℕ → NamePlace
place_of zero i = Unmade
place_of (suc zero) i = Held i
place_of (suc (suc zero)) i = Given
place_of (suc (suc (suc zero))) i = Queued i
place_of (suc (suc (suc (suc zero)))) i = Walked i
place_of (suc (suc (suc (suc (suc zero))))) i = InHand i
place_of (suc (suc (suc (suc (suc (suc zero)))))) i = Released
place_of (suc (suc (suc (suc (suc (suc (suc k))))))) i = Failed

rebuilt : (p : NamePlace) → place_of (kind p) (index p) ≡ p
rebuilt Unmade = refl
rebuilt (Held i) = refl
rebuilt Given = refl
rebuilt (Queued i) = refl
rebuilt (Walked i) = refl
rebuilt (InHand i) = refl
rebuilt Released = refl
rebuilt Failed = refl

few-kinds : (p : NamePlace) → kind p < 8
few-kinds Unmade = omega arith
few-kinds (Held i) = omega arith
few-kinds Given = omega arith
few-kinds (Queued i) = omega arith
few-kinds (Walked i) = omega arith
few-kinds (InHand i) = omega arith
few-kinds Released = omega arith
few-kinds Failed = omega arith

module _ (e : Setup) (rules : (L : List ℕ) → Rule e (run e L)) (L : List ℕ) (n : ℕ) where
  abbrev w : State
  w = run e L

  abbrev blocks : ℕ
  blocks = allocated e (only n) w

  abbrev left : ℕ
  left = to_make e n w

  -- the operations of all texts that make it, and those of them that are done
  abbrev ever : ℕ
  ever = total (seats e) (made_in n) e.texts

  abbrev history : (i : ℕ) → LogsEach e w i
  history i = (rules L).present.history i

  abbrev done : ℕ → ℕ
  done i = made_in n (history i).done

  abbrev all_done : ℕ
  all_done = total (seats e) itself done

  -- the entries of all logs that say that it was made, or failed
  abbrev all_made : ℕ
  all_made = total (seats e) (λ (a : Actor). made n a.log) w.actors

  abbrev all_failed : ℕ
  all_failed = total (seats e) (λ (a : Actor). failed n a.log) w.actors

  -- of what a scheduler has to make, what is done
  abbrev share : Actor → ℕ
  share a = made_in n (unplaced a.stage a.todo)

  text : (i : ℕ) → made_in n (e.texts i) ≡ done i + made_in n (w.actors i).todo
  text i = ap (made_in n) (history i).split
      ∙ sum-append (λ o. one_if (makes n o)) (history i).done (w.actors i).todo

  done-ever : left + all_done ≤ ever
  done-ever = total-beside share (made_in n) w.actors e.texts done (seats e) (λ i. omega (
    arith,
    text i,
    unplaced-fewer n (w.actors i).stage (w.actors i).todo,
  ))

  said-done : all_made + all_failed ≡ all_done
  said-done = omega (
    arith,
    total-both (λ (a : Actor). made n a.log) (λ (a : Actor). failed n a.log) w.actors (seats e),
    total-same (λ (a : Actor). made n a.log + failed n a.log) w.actors itself done (seats e)
        (λ i. all-say n (history i).done (w.actors i).log (history i).each),
  )

  -- a name that no operation makes has no block
  blocks-ever : blocks + left ≤ ever
  blocks-ever = elim (cases_lt 0 ever) [
    | inl some ↦ omega (arith, some, (rules L).present.later n)
    | inr none ↦ omega (
      arith,
      none,
      done-ever,
      stays-gone e rules (all_of n) [] L (all-none e (only n)) (omega (
        arith,
        none,
        total-beside share (made_in n) (run e []).actors e.texts (λ i. 0) (seats e)
            (λ i. omega (
              arith,
              ap (made_in n) (first-unplaced e (is_scheduler e i) (e.texts i)),
            )),
      )),
    )
  ]

  failed-blocks : all_failed + blocks ≤ 1
  failed-blocks = elim (cases_lt 0 all_failed) [
    | inr none ↦ omega (arith, none, (rules L).present.later n)
    | inl some ↦
        let t = total-hit (λ (a : Actor). failed n a.log) w.actors (seats e) some in
        omega (
          arith,
          said-done,
          done-ever,
          texts-once e rules n,
          failed-none e rules L n t.0 (counts-any (says_failed n) (w.actors t.0).log t.2),
        )
  ]

  -- an operation that makes it, and that isn't done and has nothing left to make, has placed it
  task-makes : (old fresh : ℕ) (place : Place) (ops : List Op)
      → OfTask (Moving old fresh place) ops → 1 ≤ made_in n ops → made_in n (later ops) ≡ 0
      → fresh ≡ n
  task-makes old fresh place [] of some none = absurd of
  task-makes old fresh place (op.Realloc o m bytes ∷ ops) of some none =
      elim (cases_eq n m) [
        | inl same ↦ of.1 ∙ sym same
        | inr other ↦ absurd (omega (arith, some, none, one-other n m other))
      ]
  task-makes old fresh place (op.Alloc m bytes ∷ ops) of some none = absurd of
  task-makes old fresh place (op.Free m ∷ ops) of some none = absurd of
  task-makes old fresh place (op.Give m to ∷ ops) of some none = absurd of
  task-makes old fresh place (op.Take m tries ∷ ops) of some none = absurd of
  task-makes old fresh place (op.Info ∷ ops) of some none = absurd of
  task-makes old fresh place (op.Idle ∷ ops) of some none = absurd of

  moving-blocks : (i : ℕ) → i < seats e → 1 ≤ made_in n (w.actors i).todo
      → share (w.actors i) ≡ 0 → 1 ≤ blocks
  moving-blocks i seat some none = elim (unplaced-or (w.actors i).stage) [
    | inl plain ↦ absurd (omega (arith, some, none, ap (made_in n) (plain (w.actors i).todo)))
    | inr m ↦
        let a = w.actors i in
        let none : made_in n (later a.todo) ≡ 0 =
        sym (ap (λ st. made_in n (unplaced st a.todo)) m.is) ∙ none in
        let is = task-makes m.old m.fresh m.place a.todo
        (subst (Fits e w i a) m.is ((rules L).present.fits i)).1 some none in
        let held = holds-fresh e rules L i n (
          m.route,
          m.old,
          m.place,
          m.gone,
          m.is ∙ ap (λ k. Routed m.route (For (Moving m.old k m.place)) m.gone) is,
        ) in
        omega (
          arith,
          among-counts n a.held held,
          stands-allocated e w i seat (rules L).kept a refl (only n),
        )
  ]

  made-blocks : ever ≤ left + all_done + blocks
  made-blocks = elim (cases_lt (left + all_done + blocks) ever) [
    | inr le ↦ le
    | inl more ↦
        let t = total-hit (made_in n) e.texts (seats e) (omega (arith, more)) in
        let once = texts-once e rules n in
        let undone = total-part itself done t.0 (seats e) t.1 in
        let none = total-part share w.actors t.0 (seats e) t.1 in
        absurd (omega (
          arith,
          more,
          moving-blocks t.0 t.1 (omega (arith, t.2, text t.0, undone, more, once))
              (omega (arith, none, more, once)),
          once,
        ))
  ]

  -- how often the name is at a place
  abbrev weight : ℕ → ℕ → ℕ
  weight zero i = single (left + (1 - ever)) i
  weight (suc zero) i = counted n (w.actors i).held
  weight (suc (suc zero)) i = single (counted n w.shared.given) i
  weight (suc (suc (suc zero))) i = sum_over (of_mark (only n)) (w.shared.queues i)
  weight (suc (suc (suc (suc zero)))) i =
      sum_over (of_mark (only n)) (w.shared.rests i)
      + sum_over (of_node (only n)) (w.actors i).passed
  weight (suc (suc (suc (suc (suc zero))))) i = of_hand (only n) (w.actors i).stage
  weight (suc (suc (suc (suc (suc (suc zero)))))) i = single (all_made - blocks) i
  weight (suc (suc (suc (suc (suc (suc (suc zero))))))) i = single all_failed i
  weight (suc (suc (suc (suc (suc (suc (suc (suc k)))))))) i = 0

  abbrev of_kind : ℕ → ℕ
  of_kind k = total (seats e) (weight k) itself

  -- all names that stand
  walks-both : of_kind 4 ≡ walked e (only n) w
  walks-both = parts (sum_over (of_mark (only n)))
      (λ (a : Actor). sum_over (of_node (only n)) a.passed) w.shared.rests w.actors (seats e) where
        parts : {A B : Type 0} (f : A → ℕ) (g : B → ℕ) (m : ℕ → A) (o : ℕ → B) (k : ℕ)
            → total k (λ i. f (m i) + g (o i)) itself ≡ total k f m + total k g o
        parts f g m o zero = refl
        parts f g m o (suc k) = omega (arith, parts f g m o k)

  stands-by_kind : of_kind 1 + of_kind 2 + of_kind 3 + of_kind 4 + of_kind 5 ≡ blocks
  stands-by_kind = omega (
    arith,
    standing-allocated e w (rules L) (only n),
    total-same (weight 1) itself (λ (a : Actor). counted n a.held) w.actors (seats e) (λ i. refl),
    total-single (counted n w.shared.given) e.schedulers,
    total-same (weight 3) itself (sum_over (of_mark (only n))) w.shared.queues (seats e)
        (λ i. refl),
    walks-both,
    total-same (weight 5) itself (λ (a : Actor). of_hand (only n) a.stage) w.actors (seats e)
        (λ i. refl),
  )

  -- 1 in all
  in-all : total 8 of_kind itself ≡ 1
  in-all = omega (
    arith,
    stands-by_kind,
    total-single (left + (1 - ever)) e.schedulers,
    total-single (all_made - blocks) e.schedulers,
    total-single all_failed e.schedulers,
    said-done,
    done-ever,
    texts-once e rules n,
    blocks-ever,
    failed-blocks,
    made-blocks,
    (rules L).present.later n,
  )

  -- a place that has weight is one where the name is
  weighs-there : (k i : ℕ) → k < 8 → 0 < weight k i → IsAt e n w (place_of k i)
  weighs-there zero i less some =
      let v = single-some (left + (1 - ever)) i some in
      elim (cases_lt 0 left) [
        | inl still ↦ inr still
        | inr none ↦ inl (omega (arith, v, none))
      ]
  weighs-there (suc zero) i less some = counts-among n (w.actors i).held some
  weighs-there (suc (suc zero)) i less some =
      counts-among n w.shared.given (single-some (counted n w.shared.given) i some)
  weighs-there (suc (suc (suc zero))) i less some = some
  weighs-there (suc (suc (suc (suc zero)))) i less some = some
  weighs-there (suc (suc (suc (suc (suc zero))))) i less some = some
  weighs-there (suc (suc (suc (suc (suc (suc zero)))))) i less some =
      let v = single-some (all_made - blocks) i some in
      let t = total-hit (λ (a : Actor). made n a.log) w.actors (seats e) (omega (arith, v)) in
      record {
        scheduler = t.0;
        said = counts-any (says_made n) (w.actors t.0).log t.2;
        none = omega (arith, v, said-done, done-ever, texts-once e rules n);
      }
  weighs-there (suc (suc (suc (suc (suc (suc (suc zero))))))) i less some =
      let v = single-some all_failed i some in
      let t = total-hit (λ (a : Actor). failed n a.log) w.actors (seats e) v in
      record {
        scheduler = t.0;
        said = counts-any (says_failed n) (w.actors t.0).log t.2;
        none = omega (arith, v, failed-blocks);
      }
  weighs-there (suc (suc (suc (suc (suc (suc (suc (suc k)))))))) i less some =
      absurd (omega (arith, some))

  -- who is no scheduler has nothing
  none-beyond : (i : ℕ) → seats e ≤ i → HasNothing i w
  none-beyond i past = (rules L).present.nobody i (no_scheduler-beyond e i past)

  within : (i : ℕ) → (HasNothing i w → ⊥) → i < seats e
  within i some = elim (cases_lt i (seats e)) [
    | inl seat ↦ seat
    | inr past ↦ absurd (some (none-beyond i past))
  ]

  -- and a place where the name is has weight
  abbrev Weighs : NamePlace → Type 0
  Weighs p = (index p < seats e) × (0 < weight (kind p) (index p))

  said-within : (i : ℕ) → 1 ≤ made n (w.actors i).log + failed n (w.actors i).log → i < seats e
  said-within i some = elim (cases_lt i (seats e)) [
    | inl seat ↦ seat
    | inr past ↦ absurd (omega (
      arith,
      some,
      all-say n (history i).done (w.actors i).log (history i).each,
      text i,
      ap (made_in n) (nobody-texts e rules i (no_scheduler-beyond e i past)),
    ))
  ]

  there-weighs : (p : NamePlace) → IsAt e n w p → Weighs p
  there-weighs Unmade (inl never) = (omega arith, omega (arith, never))
  there-weighs Unmade (inr still) = (omega arith, omega (arith, still))
  there-weighs (Held i) at =
      let some = among-counts n (w.actors i).held at in
      (within i (λ nothing. omega (arith, some, ap (counted n) nothing.held)), some)
  there-weighs Given at = (omega arith, among-counts n w.shared.given at)
  there-weighs (Queued i) at = (
    within i (λ nothing. omega (arith, at, ap (sum_over (of_mark (only n))) nothing.queue)),
    at,
  )
  there-weighs (Walked i) at = (
    within i (λ nothing. omega (
      arith,
      at,
      ap (sum_over (of_mark (only n))) nothing.rest,
      ap (sum_over (of_node (only n))) nothing.passed,
    )),
    at,
  )
  there-weighs (InHand i) at =
      (within i (λ nothing. omega (arith, at, ap (of_hand (only n)) nothing.stage)), at)
  there-weighs Released at =
      let some = any-counts (says_made n) (w.actors at.scheduler).log at.said in
      let seat = said-within at.scheduler (omega (arith, some)) in (
        omega arith,
        omega (
          arith,
          some,
          at.none,
          total-part (λ (a : Actor). made n a.log) w.actors at.scheduler (seats e) seat,
        ),
      )
  there-weighs Failed at =
      let some = any-counts (says_failed n) (w.actors at.scheduler).log at.said in
      let seat = said-within at.scheduler (omega (arith, some)) in (
        omega arith,
        omega (
          arith,
          some,
          total-part (λ (a : Actor). failed n a.log) w.actors at.scheduler (seats e) seat,
        ),
      )

  -- so there is one
  kind-some : (p : NamePlace) → Weighs p → 1 ≤ of_kind (kind p)
  kind-some p s =
      omega (arith, s.1, total-part (weight (kind p)) itself (index p) (seats e) s.0)

  same-place : (p q : NamePlace) → Weighs p → Weighs q → p ≡ q
  same-place p q s t =
      let kinds : kind p ≡ kind q =
      total-one of_kind itself 8 (kind p) (kind q) (omega (arith, in-all)) (few-kinds p)
      (few-kinds q) (kind-some p s) (kind-some q t) in
      let once : of_kind (kind p) ≤ 1 = omega
      (arith, in-all, total-part of_kind itself (kind p) 8 (few-kinds p)) in
      let indexes : index p ≡ index q =
      total-one (weight (kind p)) itself (seats e) (index p) (index q) once s.0 t.0
      s.1 (subst (λ k. 0 < weight k (index q)) (sym kinds) t.1) in
      sym (rebuilt p) ∙ ap (λ k. place_of k (index p)) kinds
      ∙ ap (place_of (kind q)) indexes ∙ rebuilt q

  pub in-one_place : IsInOnePlace e w n
  in-one_place =
      let k = total-hit of_kind itself 8 (omega (arith, in-all)) in
      let i = total-hit (weight k.0) itself (seats e) k.2 in
      let place = place_of k.0 i.0 in
      let there = weighs-there k.0 i.0 k.1 i.2 in
      record {
        place = place;
        there = there;
        alone = λ other at.
            same-place other place (there-weighs other at) (there-weighs place there);
      }

pub names-in_one_place : (e : Setup) → ((L : List ℕ) → Rule e (run e L)) → (L : List ℕ)
    → NamesInOnePlace e (run e L)
names-in_one_place e rules L n = in-one_place e rules L n
