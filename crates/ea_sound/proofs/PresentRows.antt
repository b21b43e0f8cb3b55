-- Where each row leaves the scheduler that does it.
use Rattle.std.proofs.Common.{◌≡◌, ◌≢◌, ℕ, zero, suc, ◌+◌, ◌≤◌, List, [], ◌∷◌, Bool, true}
use Rattle.std.proofs.Common.{false, ◌&&◌, refl, sym, ap, ◌∙◌, subst, inl, arith}
use Rattle.std.specs.Prelude.{Option, None, Some, option_map, ◌==◌, nat_le}
use Rattle.std.proofs.lemmas.Bool.{and_right, true≢false}
use Rattle.ea_model.specs.declared.carriers.BlockAt.{BlockAt}
use Rattle.ea_model.specs.declared.carriers.CarrierPlan.{CarrierPlan}
use Rattle.ea_model.specs.declared.entries.Entry.TheVariants as entry
use Rattle.ea_model.specs.declared.operations.Op.TheVariants as op
use Rattle.ea_model.specs.Content.{Content, can_go, is_nil}
use Rattle.ea_model.proofs.Rising.{item_at-key}
use Rattle.ea_machine.specs.Placements.{fetches}
use Rattle.ea_machine.specs.Releases.{struck}
use Rattle.ea_machine.specs.Searches.{passed, with_counted}
use Rattle.ea_machine.specs.Setup.{greatest_number}
use Rattle.ea_machine.specs.declared.parts.Part.{Part}
use Rattle.ea_machine.specs.declared.owners.OwnerWord.{OwnerWord}
use Rattle.ea_machine.specs.declared.owners.OwnerWord.TheVariants as word
use Rattle.ea_machine.specs.declared.stages.Stage.{Stage}
use Rattle.ea_machine.specs.declared.stages.Stage.TheVariants.{Begin, Routed, Collecting, Searching}
use Rattle.ea_machine.specs.declared.stages.Stage.TheVariants.{Fetching, Creating, Giving, Taking}
use Rattle.ea_machine.specs.declared.stages.Stage.TheVariants.{Ended, Ready}
use Rattle.ea_machine.specs.Actor.{Actor}
use Rattle.ea_machine.specs.declared.asks.Ask.{Ask}
use Rattle.ea_machine.specs.Tasks.{let_go, logged}
use Rattle.ea_machine.specs.Machine.{after_row, wants_at, wants_on}
use Rattle.ea_machine.specs.Nodes.{named_at, name_of}
use Rattle.ea_machine.specs.declared.nodes.Named.{Named}
use Rattle.ea_machine.specs.Operations.{gave, took_by}
use Rattle.ea_machine.specs.Owners.{CarrierAt, Absent, Employed, Pooled, Busy, Returning, same_word}
use Rattle.ea_machine.specs.Owners.{word_of}
use Rattle.ea_machine.specs.Placements.{created, holding, fetched}
use Rattle.ea_machine.specs.Placements.{placed_by, saw_by, searched}
use Rattle.ea_machine.specs.Searches.{fits as word_fits}
use Rattle.ea_machine.specs.Releases.{disowned, turned}
use Rattle.ea_machine.specs.Rows.{Lost, Saw, Won}
use Rattle.ea_machine.specs.Setup.{Setup, is_scheduler}
use Rattle.ea_machine.specs.Shared.{Shared, at_place}
use Rattle.ea_machine.specs.State.{State}
use Rattle.ea_machine.specs.Sums.{one_if}
use Rattle.ea_machine.specs.Table.{answer, effect, moved_if, won_if}
use Rattle.ea_machine.specs.Walks.{after_route, collected}
use Rattle.ea_sound.specs.Contents.{home_sum, seats, slots}
use Rattle.ea_sound.specs.Places.{MayStay}
use Rattle.ea_sound.specs.Names.{made_in, of_named, only, unplaced}
use Rattle.ea_sound.specs.Present.{Asked, Fits, Rule}
use Rattle.ea_sound.specs.Rule.{Kept, Standing, names_of}
use Rattle.ea_sound.specs.Leaves.{Leaves}
use Rattle.ea_sound.proofs.SearchParts.{counted-left, counted-looks_at, passed-left}
use Rattle.ea_sound.proofs.SearchParts.{passed-looks_at}
use Rattle.ea_sound.proofs.FewBlocks.{Counting, blocks_named}
use Rattle.ea_sound.proofs.EmployedWeights.{employed_sum-employing}
use Rattle.ea_sound.proofs.HeldNames.{holding-names, holding-rising, let_go-rising, let_go-times}
use Rattle.ea_sound.proofs.HeldNames.{times_held, turned-equal}
use Rattle.ea_sound.proofs.Homes.{pooled-slot}
use Rattle.ea_sound.proofs.KeyedWeights.{sum-item}
use Rattle.ea_sound.proofs.MainCarriers.{employing-main}
use Rattle.ea_sound.proofs.NodeSeats.{collecting-home, returning-on}
use Rattle.ea_sound.proofs.Staying.{employing-stay}
use Rattle.ea_sound.proofs.PresentMoves.{carried-good, created-good, placed-good}
use Rattle.ea_sound.proofs.PresentOperations.{first-good, search-good}
use Rattle.ea_sound.proofs.PresentWalks.{GoodAfterRow, InOrder, route_over-good, work-good}
use Rattle.ea_sound.proofs.RowCores.{bound_of, core, disowned-bare, hand_named, home_of, own}
use Rattle.ea_sound.proofs.RowCores.{put-more, seat}
use Rattle.ea_sound.proofs.BeginRows.{begin-good}
use Rattle.ea_sound.proofs.RouteRows.{turned-good}
use Rattle.ea_sound.proofs.RowLeaves.{creating-bare, row-left}
use Rattle.ea_sound.proofs.CarrierRows.{create_new}
use Rattle.ea_sound.proofs.Suits.{CoreOf, Wants}
use Rattle.ea_sound.proofs.Totals.{put-here, total-part, total-put}

-- a word that fits is pooled, with room
fits-pooled : (need : ℕ) (v : OwnerWord) → word_fits need v ≡ true
    → (i largest : ℕ) × (v ≡ word.Pooled i largest) × (need ≤ largest)
fits-pooled need word.Absent q = absurd cc
fits-pooled need (word.Employed i) q = absurd cc
fits-pooled need (word.Pooled i largest) q = (i, largest, refl, enough need largest q) where
  enough : (n m : ℕ) → nat_le n m ≡ true → n ≤ m
  enough n m q = grind (arith, q)
fits-pooled need (word.Busy i) q = absurd cc
fits-pooled need (word.Returning i) q = absurd cc

some-blocks : (bs : List BlockAt) → bs ≢ [] → is_nil bs ≡ false
some-blocks [] some = absurd (some refl)
some-blocks (b ∷ bs) some = refl

module _ (e : Setup) (w : State) (me : ℕ) (is : is_scheduler e me ≡ true) (rule : Rule e w) where
  abbrev a : Actor
  a = w.actors me

  abbrev CoreAt : Shared → Type 0
  CoreAt s = CoreOf e s me (home_of e s) (bound_of e w me) (w.actors me).todo (λ n. 0) (w.actors me)

  abbrev IsGood : Shared → Actor → Type 0
  IsGood s b = GoodAfterRow e s me (home_of e s) (bound_of e w me) b

  abbrev Wanting : Ask → Type 0
  Wanting ask = Wants e w.shared me (w.actors me) ask

  k : Kept e w
  k = rule.kept

  fits : (stage : Stage Content) → a.stage ≡ stage → Fits e w me a stage
  fits stage now = subst (Fits e w me a) now (rule.present.fits me)

  asked : (ask : Ask) → Asked e w a ask → Wanting ask
  asked ask h = (h.of, h.old)

  -- a row that leaves places and rests
  bare : (stage : Stage Content) → a.stage ≡ stage → unplaced stage a.todo ≡ a.todo
      → ((n : Counting) → hand_named stage n ≡ 0) → CoreAt w.shared
  bare stage now left none = subst
      (λ ops. CoreOf e w.shared me (home_of e w.shared) (bound_of e w me) ops (λ n. 0) a) left
      (core e w me is rule stage now w.shared (λ n. 0) (rule.present.walking me)
      (λ n. omega (arith, none n)))

  module _ (ask : Ask) (at : ℕ) (part : Part) where
    searching-good : a.stage ≡ Searching ask at part → (v : OwnerWord)
        → IsGood w.shared (searched e me ask at part a (Saw v))
    searching-good now v = by (word_fits ask.need v) refl where
      f : Fits e w me a (Searching ask at part)
      f = fits (Searching ask at part) now

      c : CoreAt w.shared
      c = bare (Searching ask at part) now refl (λ n. refl)

      by : (b : Bool) → word_fits ask.need v ≡ b
          → IsGood w.shared (saw_by e me ask at (with_counted v part) a v b)
      by true q = record {
        core = c;
        suits = (
          asked ask f.0,
          counted-left e part v f.1 f.2,
          f.3,
          f.4,
          fits-pooled ask.need v q,
          counted-looks_at e a.lists at part v f.5,
        );
      }
      by false q = search-good e w.shared me (home_of e w.shared) (bound_of e w me)
          (InOrder e me) ask a (asked ask f.0)
          (record { core = c; own = own e w me is rule })
          (passed (greatest_number e) a.lists at (with_counted v part) v)
          (passed-left e a.lists at (with_counted v part) v (counted-left e part v f.1 f.2))
          (passed-looks_at e a.lists at (with_counted v part) v (counted-left e part v f.1 f.2)
          (counted-looks_at e a.lists at part v f.5)) f.4 f.3

    module _ (seen : OwnerWord) (now : a.stage ≡ Fetching ask at part seen) where
      abbrev stage : Stage Content
      stage = Fetching ask at part seen

      f : Fits e w me a (Fetching ask at part seen)
      f = fits (Fetching ask at part seen) now

      lost : (v : OwnerWord) → IsGood w.shared (fetched e me ask at part a (Lost v))
      lost v = search-good e w.shared me (home_of e w.shared) (bound_of e w me)
          (InOrder e me) ask a (asked ask f.0)
          (record {
            core = bare (Fetching ask at part seen) now refl (λ n. refl);
            own = own e w me is rule;
          }) (passed (greatest_number e) a.lists at part v) (passed-left e a.lists at part v f.1)
          (passed-looks_at e a.lists at part v f.1 f.5) f.3 f.2

      won : (j l : ℕ) (x : Content) → w.shared.places at ≡ Pooled j l x
          → Leaves e w (at_place at (Employed me) w.shared) me a (Fetching ask at part seen)
          (Won x)
          → IsGood (at_place at (Employed me) w.shared) (fetched e me ask at part a (Won x))
      won j l x there leaves =
          let s = at_place at (Employed me) w.shared in
          let b : Actor = fetches at x a in
          let pooled = k.placed.pooled at j l x there in
          let stays : MayStay me x = (
            ap (λ empty. can_go x.kind && empty) (some-blocks x.blocks pooled.2)
                ∙ and_right (can_go x.kind) false refl,
            inl pooled.1,
          ) in
          let c = bare (Fetching ask at part seen) now refl (λ n. refl) in
          subst (λ o. IsGood s (placed_by e me ask b o)) (sym leaves.1.1)
          (placed-good e s me (home_of e s) (bound_of e w me)
          (InOrder e me) ask b f.0.of
          (record {
            stay = employing-stay me a.instance x stays c.stay;
            history = c.history;
            walking = c.walking;
            few = λ n. omega (
              arith,
              c.few n,
              employed_sum-employing (blocks_named n) a.instance x,
              total-put (home_sum (blocks_named n)) w.shared.places at (Employed me) (slots e)
                  (pooled-slot e w k at j l x there),
              ap (home_sum (blocks_named n)) there,
            );
            rising = c.rising;
            names = c.names;
            stands = λ off. absurd (true≢false (sym f.3 ∙ off));
            main = employing-main e me a.instance c.main x;
          })
          leaves.1.0 leaves.1.1
          (subst (λ (d : Actor). Standing e me d.instance) (put-here w.actors me _ me refl)
          (leaves.2.kept.ranges.instances me is)))

      fetching-good : (p : CarrierAt) → w.shared.places at ≡ p → (b : Bool)
          → Leaves e w (moved_if (won_if b p) at (Employed me) w.shared) me a
          (Fetching ask at part seen) (won_if b p)
          → IsGood (moved_if (won_if b p) at (Employed me) w.shared)
          (fetched e me ask at part a (won_if b p))
      fetching-good (Pooled j l x) there true leaves = won j l x there leaves
      fetching-good (Pooled j l x) there false leaves = lost (word.Pooled j l)
      fetching-good Absent there true leaves = lost word.Absent
      fetching-good Absent there false leaves = lost word.Absent
      fetching-good (Employed j) there true leaves = lost (word.Employed j)
      fetching-good (Employed j) there false leaves = lost (word.Employed j)
      fetching-good (Busy j) there true leaves = lost (word.Busy j)
      fetching-good (Busy j) there false leaves = lost (word.Busy j)
      fetching-good (Returning j x) there true leaves = lost (word.Returning j)
      fetching-good (Returning j x) there false leaves = lost (word.Returning j)

  creating-good : (ask : Ask) (p : CarrierPlan) → a.stage ≡ Creating ask p
      → IsGood (at_place p.number (Employed me) w.shared) (created e me ask p a)
  creating-good ask p now =
      let s = at_place p.number (Employed me) w.shared in
      let f : Fits e w me a (Creating ask p) = fits (Creating ask p) now in
      created-good e s me (home_of e s) (bound_of e w me)
      (InOrder e me) ask a f.0.of
      (core e w me is rule (Creating ask p) now s (λ n. 0) (rule.present.walking me)
      (λ n. omega (
        arith,
        put-more (home_sum (blocks_named n)) w.shared.places p.number (Employed me) (slots e),
      )))
      p f.1 (own e w me is rule)
      (create_new e w me is k (Creating ask p) (creating-bare ask p) now f.2 ask.need p f.1) f.3

  giving-good : (s : Shared) (given : Named) (to : ℕ) → a.stage ≡ Giving given to → CoreAt s
      → IsGood s (gave given to a)
  giving-good s given to now c =
      let f : Fits e w me a (Giving given to) = fits (Giving given to) now in
      first-good e s me (home_of e s) (bound_of e w me)
      (InOrder e me) (entry.Give given.name to)
      (let_go given.name a) (op.Give given.name to) f.1.0 f.1.1 (refl, refl)
      (record {
        stay = c.stay;
        history = c.history;
        walking = c.walking;
        few = c.few;
        rising = let_go-rising given.name a.held c.rising;
        names = λ n. omega (arith, c.names n, let_go-times given.name n a.held);
        stands = c.stands;
        main = c.main;
      })

  -- a name that is given isn't held, and isn't to be made
  given-names : (name : ℕ) (h : Named) → named_at name w.shared.given ≡ Some h
      → unplaced a.stage a.todo ≡ a.todo → (n : ℕ)
      → times_held n a.held + (one_if (n == name) + made_in n a.todo) ≤ 1
  given-names name h there left n = omega (
    arith,
    k.names.balance (only n),
    rule.present.later n,
    total-part (names_of (only n)) w.actors me (seats e) (seat e w me is rule),
    total-part (λ (b : Actor). made_in n (unplaced b.stage b.todo)) w.actors me (seats e)
        (seat e w me is rule),
    ap (made_in n) left,
    sum-item name_of (of_named (only n)) name h w.shared.given there,
    ap (λ m. one_if (m == n)) (item_at-key name_of name h w.shared.given there),
    turned-equal n name,
  )

  taking-good : (s : Shared) (name tries left : ℕ) → a.stage ≡ Taking name tries left
      → (o : Option Named) → named_at name w.shared.given ≡ o → CoreAt s
      → IsGood s (took_by name tries left a (option_map (λ x. x.spot) o))
  taking-good s name tries left now o given c = by left o given f.0 where
    f : Fits e w me a (Taking name tries left)
    f = fits (Taking name tries left) now

    absent : IsGood s (logged (entry.TakeAbsent name tries) a)
    absent = first-good e s me (home_of e s) (bound_of e w me)
        (InOrder e me) (entry.TakeAbsent name tries) a
        (op.Take name tries) f.1.0 f.1.1 (refl, refl) c

    by : (left : ℕ) (o : Option Named) → named_at name w.shared.given ≡ o → left ≤ tries
        → IsGood s (took_by name tries left a (option_map (λ x. x.spot) o))
    by left (Some h) there few =
        let names = given-names name h there (ap (λ st. unplaced st a.todo) now) in
        first-good e s me (home_of e s) (bound_of e w me)
        (InOrder e me) (entry.Take name) (holding name h.spot a)
        (op.Take name tries) f.1.0 f.1.1 refl
        (record {
          stay = c.stay;
          history = c.history;
          walking = c.walking;
          few = c.few;
          rising = holding-rising name h.spot a.held (λ n. made_in n a.todo) names c.rising;
          names = holding-names name h.spot a.held (λ n. made_in n a.todo) names;
          stands = c.stands;
          main = c.main;
        })
    by zero None there few = absent
    by (suc zero) None there few = absent
    by (suc (suc left)) None there few = record { core = c; suits = (omega (arith, few), f.1) }

  collecting-good : (c : ℕ) → a.stage ≡ Collecting c
      → IsGood (at_place c Absent w.shared) (collected e me c a)
  collecting-good c now =
      let s = at_place c Absent w.shared in
      let home = collecting-home e w k me (seat e w me is rule) c now in
      work-good e s me (home_of e s) (bound_of e w me) a.passed (disowned c (struck c a))
      (disowned-bare e s me (home_of e s) (bound_of e w me) a.todo c (struck c a)
      (returning-on e w k c me home.0 home.1)
      (record {
        core = core e w me is rule (Collecting c) now s (λ n. 0) (rule.present.walking me)
            (λ n. omega
            (arith, put-more (home_sum (blocks_named n)) w.shared.places c Absent (slots e)));
        own = own e w me is rule;
      }))

  pub row-good : (stage : Stage Content) → stage ≢ Ended → a.stage ≡ stage
      → IsGood (effect me (wants_at a.next stage) w.shared)
      (after_row e me a (answer me (wants_at a.next stage) w.shared) stage)
  unfolding effect answer
  row-good Begin goes now = begin-good e w me is rule a.next refl now
  row-good (Routed r y g) goes now =
      let s = effect me (wants_on r) w.shared in
      let t = turned e me r g a (answer me (wants_on r) w.shared) in
      carried-good e s me (home_of e s) (bound_of e w me)
      (InOrder e me) y (after_route e me y) t.gone t.actor t.route
      (turned-good e w me is rule y g r now)
      (λ h b c why. route_over-good e s me (home_of e s) (bound_of e w me) y h b c why)
  row-good (Collecting c) goes now = collecting-good c now
  row-good (Searching ask at part) goes now =
      searching-good ask at part now (word_of (w.shared.places at))
  row-good (Fetching ask at part seen) goes now = fetching-good ask at part seen now
      (w.shared.places at) refl (same_word (word_of (w.shared.places at)) seen)
      (row-left e w me is rule (Fetching ask at part seen) goes now)
  row-good (Creating ask p) goes now = creating-good ask p now
  row-good (Giving given to) goes now = giving-good _ given to now
      (core e w me is rule (Giving given to) now _ (λ n. 0) (rule.present.walking me)
      (λ n. omega arith))
  row-good (Taking name tries left) goes now = taking-good _ name tries left now
      (named_at name w.shared.given) refl
      (core e w me is rule (Taking name tries left) now _ (λ n. 0) (rule.present.walking me)
      (λ n. omega arith))
  row-good Ended goes now = absurd (goes refl)
  row-good Ready goes now = absurd (fits Ready now)
