-- A report tells the figures as they are, and the greatest ones since the last report and ever.
use Rattle.std.proofs.Common.{◌≡◌, ◌≢◌, ◌⊎◌, ℕ, ◌≤◌, List, [], ◌∷◌, ◌++◌, refl, sym, ap, ◌∙◌}
use Rattle.std.proofs.Common.{subst, inl, inr, arith}
use Rattle.std.specs.Prelude.{Bool, filter, max, not}
use Rattle.std.proofs.lemmas.Bool.{cases_eq, cases_lt}
use Rattle.std.proofs.lemmas.Int.{clamps}
use Rattle.std.proofs.lemmas.List.{append-nil, append_assoc}
use Rattle.ea_model.specs.declared.carriers.Figures.{Figures}
use Rattle.ea_model.specs.declared.entries.Entry.TheVariants as entry
use Rattle.ea_model.specs.declared.entries.Reports.{Reports}
use Rattle.ea_model.specs.declared.operations.Op.{Op}
use Rattle.ea_model.specs.declared.operations.Op.TheVariants as op
use Rattle.ea_model.specs.Content.{Content}
use Rattle.ea_model.specs.Instance.{figures}
use Rattle.ea_machine.specs.declared.stages.Stage.{Stage}
use Rattle.ea_machine.specs.declared.stages.Stage.TheVariants.{Begin, Routed, Collecting, Searching}
use Rattle.ea_machine.specs.declared.stages.Stage.TheVariants.{Fetching, Creating, Giving, Taking}
use Rattle.ea_machine.specs.declared.stages.Stage.TheVariants.{Ended, Ready}
use Rattle.ea_machine.specs.Actor.{Actor, Stat}
use Rattle.ea_machine.specs.Machine.{first_actor, onward, onward_at, run}
use Rattle.ea_machine.specs.Operations.{itself}
use Rattle.ea_machine.specs.Setup.{Setup}
use Rattle.ea_machine.specs.State.{State}
use Rattle.ea_machine.specs.Statistics.{employed_multis, employed_singles, greater, informed}
use Rattle.ea_machine.specs.Statistics.{is_single, leaving_at, observed, report, restarted, seen}
use Rattle.ea_machine.specs.Statistics.{triple, unseen}
use Rattle.ea_sound.specs.Present.{Rule}
use Rattle.ea_sound.specs.Reported.{AreFigures, AsksInfo, IsFigure, IsGreatest, IsReporting}
use Rattle.ea_sound.specs.Reported.{IsSinceReport, IsSinceStart, ReportsGreatest}
use Rattle.ea_sound.specs.Turns.{actor_after, answered, begun}
use Rattle.ea_sound.proofs.Chronicled.{begun-going, begun-log, begun-now}
use Rattle.ea_sound.proofs.ObservedWork.{IsStill, onward-kept, row-kept}
use Rattle.ea_sound.proofs.OtherTurns.{last-or}
use Rattle.ea_sound.proofs.TurnLists.{by-turns, ended-or, run-snoc, step-ended, step-mine}
use Rattle.ea_sound.proofs.TurnLists.{step-other}

heads : {i x : ℕ} {xs ys : List ℕ} → i ∷ xs ≡ x ∷ ys → i ≡ x
heads q = cc

tails : {i x : ℕ} {xs ys : List ℕ} → i ∷ xs ≡ x ∷ ys → xs ≡ ys
tails q = cc

some-more : (before later : List ℕ) (s : ℕ) → [] ≡ before ++ s ∷ later → ⊥
some-more [] later s q = absurd cc
some-more (x ∷ before) later s q = absurd cc

-- a front of a list with one turn more: it is the whole, or one without that turn
fronts : (L m later : List ℕ) (j : ℕ) → L ++ j ∷ [] ≡ m ++ later
    → (m ≡ L ++ j ∷ []) ⊎ ((l : List ℕ) × (later ≡ l ++ j ∷ []) × (L ≡ m ++ l))
fronts L [] later j q = inr (L, sym q, refl)
fronts [] (x ∷ []) later j q = inl (ap (λ y. y ∷ []) (sym (heads q)))
fronts [] (x ∷ y ∷ m) later j q =
    absurd (let none : [] ≡ y ∷ m ++ later = tails q in cc)
fronts (y ∷ L) (x ∷ m) later j q = elim (fronts L m later j (tails q)) [
  | inl o ↦ inl (ap (λ l. x ∷ l) o ∙ ap (λ z. z ∷ L ++ j ∷ []) (sym (heads q)))
  | inr o ↦ inr (o.0, o.1, ap (λ l. y ∷ l) o.2 ∙ ap (λ z. z ∷ m ++ o.0) (heads q))
]

-- the greatest with one moment more
grow : (At More : List ℕ → Type 0) (f : List ℕ → ℕ) (n : ℕ) (new : List ℕ)
    → ((m : List ℕ) → More m → (m ≡ new) ⊎ At m) → ((m : List ℕ) → At m → More m) → More new
    → IsGreatest At f n → IsGreatest More f (max n (f new))
grow At More f n new parts keeps here g = elim (cases_lt n (f new)) [
  | inl less ↦ record {
    moment = new;
    at = here;
    is = omega (arith, clamps, less);
    most = most;
  }
  | inr le ↦ record {
    moment = g.moment;
    at = keeps g.moment g.at;
    is = omega (arith, clamps, g.is, le);
    most = most;
  }
] where
  most : (m : List ℕ) → More m → f m ≤ max n (f new)
  most m a = elim (parts m a) [
    | inl q ↦ omega (arith, clamps, ap f q)
    | inr b ↦ omega (arith, clamps, g.most m b)
  ]

module _ (e : Setup) (s : ℕ) where
  -- moments since the start

  start-more : (L : List ℕ) (j : ℕ) (m : List ℕ) → IsSinceStart (L ++ j ∷ []) m
      → (m ≡ L ++ j ∷ []) ⊎ IsSinceStart L m
  start-more L j m (later, q) = elim (fronts L m later j q) [
    | inl o ↦ inl o
    | inr o ↦ inr (o.0, o.2)
  ]

  start-keeps : (L : List ℕ) (j : ℕ) (m : List ℕ) → IsSinceStart L m
      → IsSinceStart (L ++ j ∷ []) m
  start-keeps L j m (later, q) =
      (later ++ j ∷ [], ap (λ l. l ++ j ∷ []) q ∙ append_assoc m later (j ∷ []))

  start-now : (L : List ℕ) → IsSinceStart L L
  start-now L = ([], sym (append-nil L))

  -- and since a report

  report-more : (L : List ℕ) (j : ℕ) (m : List ℕ) → IsSinceReport e s (L ++ j ∷ []) m
      → (m ≡ L ++ j ∷ []) ⊎ IsSinceReport e s L m
  report-more L j m (later, q, none) = elim (fronts L m later j q) [
    | inl o ↦ inl o
    | inr o ↦ inr (
      o.0,
      o.2,
      λ before after split. none before (after ++ j ∷ [])
          (o.1 ∙ ap (λ l. l ++ j ∷ []) split ∙ append_assoc before (s ∷ after) (j ∷ [])),
    )
  ]

  report-keeps : (L : List ℕ) (j : ℕ) (m : List ℕ) → (j ≡ s → IsReporting e L s → ⊥)
      → IsSinceReport e s L m → IsSinceReport e s (L ++ j ∷ []) m
  report-keeps L j m never (later, q, none) = (
    later ++ j ∷ [],
    ap (λ l. l ++ j ∷ []) q ∙ append_assoc m later (j ∷ []),
    λ before after split reports. elim (last-or later before after j s split) [
      | inl o ↦ never (sym o.1)
          (subst (λ l. IsReporting e l s) (ap (λ l. m ++ l) o.0 ∙ sym q) reports)
      | inr o ↦ none before o.0 o.1 reports
    ],
  )

  report-now : (L : List ℕ) → IsSinceReport e s L L
  report-now L = (
    [],
    sym (append-nil L),
    λ before after split. absurd (some-more before after s split),
  )

  -- just after a report there is that moment alone
  report-fresh : (L m : List ℕ) → IsReporting e L s → IsSinceReport e s (L ++ s ∷ []) m
      → m ≡ L ++ s ∷ []
  report-fresh L m reports (later, q, none) = elim (fronts L m later s q) [
    | inl o ↦ o
    | inr o ↦ absurd (none o.0 [] o.1 (subst (λ l. IsReporting e l s) o.2 reports))
  ]

  -- some figures of s, and how they are observed
  module _ (fig : Actor → Figures) (stat : Actor → Stat)
      (first : stat (first_actor e s) ≡ seen (fig (first_actor e s)) unseen)
      (observes : (b : Actor) → stat (observed b) ≡ seen (fig b) (stat b))
      (same : (b : Actor) → fig (observed b) ≡ fig b)
      (still : (a b : Actor) → IsStill e s a b → stat b ≡ stat a)
      (informs : (b : Actor) → b.stage ≡ Ready → (fig (informed b) ≡ fig b)
      × (stat (informed b) ≡ restarted (fig b) (seen (fig b) (stat b)))) where
    -- a step of s by which it doesn't report, and one by which it does
    module _ (L : List ℕ) (goes : (actor_after e L s).stage ≢ Ended) where
      abbrev a : Actor
      a = actor_after e L s

      abbrev b : Actor
      b = actor_after e (L ++ s ∷ []) s

      abbrev mid : Actor
      mid = begun e L s

      now-is : b ≡ observed (onward e s mid)
      now-is = ap (λ (w : State). w.actors s) (run-snoc e L s) ∙ step-mine e (run e L) s goes

      mid-stat : stat mid ≡ stat a
      mid-stat = still a mid (row-kept e s a (answered (run e L) s) a.stage)

      seen-now : (IsReporting e L s → ⊥) → stat b ≡ seen (fig b) (stat a)
      seen-now never =
          let c = onward e s mid in
          let kept : stat c ≡ stat a =
          still mid c (onward-kept e s mid (λ ready asks. never (ready, asks))) ∙ mid-stat in
          ap stat now-is ∙ observes c
          ∙ ap (λ f. seen f (stat c)) (sym (ap fig now-is ∙ same c))
          ∙ ap (seen (fig b)) kept

      module _ (reports : IsReporting e L s) where
        informed-is : b ≡ observed (informed mid)
        informed-is = now-is ∙ ap (λ st. observed (onward_at e s mid st)) reports.0
            ∙ ap (λ ops. observed (itself e s mid ops)) reports.1.1

        fig-now : fig b ≡ fig mid
        fig-now = ap fig informed-is ∙ same (informed mid) ∙ (informs mid reports.0).0

        stat-now : stat b ≡ seen (fig b) (restarted (fig b) (seen (fig b) (stat a)))
        stat-now = ap stat informed-is ∙ observes (informed mid)
            ∙ ap (seen (fig (informed mid))) ((informs mid reports.0).1
            ∙ ap (λ t. restarted (fig mid) (seen (fig mid) t)) mid-stat)
            ∙ ap (λ f. seen f (restarted (fig mid) (seen (fig mid) (stat a))))
            ((informs mid reports.0).0 ∙ sym fig-now)
            ∙ ap (λ f. seen (fig b) (restarted f (seen f (stat a)))) (sym fig-now)

    -- one of the figures
    module _ (part : Figures → ℕ)
        (greater-is : (f g : Figures) → part (greater f g) ≡ max (part f) (part g))
        (none-is : part (figures []) ≡ 0) where
      abbrev at : List ℕ → ℕ
      at m = part (fig (actor_after e m s))

      record Tells (L : List ℕ) : Type 0 where
        last : IsGreatest (IsSinceReport e s L) at (part (stat (actor_after e L s)).last)
        ever : IsGreatest (IsSinceStart L) at (part (stat (actor_after e L s)).ever)

      at-first : Tells []
      at-first = record {
        last = record {
          moment = [];
          at = report-now [];
          is = sym (value (λ t. t.last) refl);
          most = λ m is. omega
              (arith, ap at (bare m is.0 is.1), value (λ t. t.last) refl);
        };
        ever = record {
          moment = [];
          at = start-now [];
          is = sym (value (λ t. t.ever) refl);
          most = λ m is. omega
              (arith, ap at (bare m is.0 is.1), value (λ t. t.ever) refl);
        };
      } where
        bare : (m later : List ℕ) → [] ≡ m ++ later → m ≡ []
        bare [] later q = refl
        bare (x ∷ m) later q = absurd cc

        value : (of : Stat → Figures)
            → of (seen (fig (first_actor e s)) unseen)
            ≡ greater (figures []) (fig (first_actor e s))
            → part (of (stat (first_actor e s))) ≡ at []
        value of is = ap (λ t. part (of t)) first ∙ ap part is
            ∙ greater-is (figures []) (fig (first_actor e s)) ∙ omega (arith, clamps, none-is)

      -- where s stays as it was
      stays : (L : List ℕ) (j : ℕ) → actor_after e (L ++ j ∷ []) s ≡ actor_after e L s
          → (j ≡ s → IsReporting e L s → ⊥) → Tells L → Tells (L ++ j ∷ [])
      stays L j is never t = record {
        last = subst (IsGreatest (IsSinceReport e s (L ++ j ∷ [])) at)
            (omega (
              arith,
              clamps,
              ap (λ b. part (fig b)) is,
              ap (λ b. part (stat b).last) is,
              t.last.most L (report-now L),
            ))
            (grow (IsSinceReport e s L) (IsSinceReport e s (L ++ j ∷ [])) at _ (L ++ j ∷ [])
            (report-more L j) (λ m. report-keeps L j m never) (report-now (L ++ j ∷ [])) t.last);
        ever = subst (IsGreatest (IsSinceStart (L ++ j ∷ [])) at)
            (omega (
              arith,
              clamps,
              ap (λ b. part (fig b)) is,
              ap (λ b. part (stat b).ever) is,
              t.ever.most L (start-now L),
            ))
            (grow (IsSinceStart L) (IsSinceStart (L ++ j ∷ [])) at _ (L ++ j ∷ [])
            (start-more L j) (start-keeps L j) (start-now (L ++ j ∷ [])) t.ever);
      }

      -- where it took a step and observed its figures
      sees : (L : List ℕ) → (actor_after e L s).stage ≢ Ended → (IsReporting e L s → ⊥) → Tells L
          → Tells (L ++ s ∷ [])
      sees L goes never t =
          let M = L ++ s ∷ [] in
          let is = seen-now L goes never in record {
            last = subst (IsGreatest (IsSinceReport e s M) at)
                (sym (ap (λ t. part t.last) is ∙ greater-is _ _))
                (grow (IsSinceReport e s L) (IsSinceReport e s M) at _ M (report-more L s)
                (λ m. report-keeps L s m (λ _. never)) (report-now M) t.last);
            ever = subst (IsGreatest (IsSinceStart M) at)
                (sym (ap (λ t. part t.ever) is ∙ greater-is _ _))
                (grow (IsSinceStart L) (IsSinceStart M) at _ M (start-more L s) (start-keeps L s)
                (start-now M) t.ever);
          }

      -- where it reported
      reports-then : (L : List ℕ) → (actor_after e L s).stage ≢ Ended → IsReporting e L s → Tells L
          → Tells (L ++ s ∷ [])
      reports-then L goes reports t =
          let M = L ++ s ∷ [] in
          let is = stat-now L goes reports in
          let now = fig (actor_after e M s) in record {
            last = record {
              moment = M;
              at = report-now M;
              is = omega
                  (arith, clamps, ap (λ t. part t.last) is, greater-is now now);
              most = λ m since. omega (
                arith,
                clamps,
                ap at (report-fresh L m reports since),
                ap (λ t. part t.last) is,
                greater-is now now,
              );
            };
            ever = subst (IsGreatest (IsSinceStart M) at)
                (omega (
                  arith,
                  clamps,
                  ap (λ t. part t.ever) is,
                  greater-is (greater (stat (actor_after e L s)).ever now) now,
                  greater-is (stat (actor_after e L s)).ever now,
                ))
                (grow (IsSinceStart L) (IsSinceStart M) at _ M (start-more L s) (start-keeps L s)
                (start-now M) t.ever);
          }

      next : (reports-or : (L : List ℕ) → IsReporting e L s ⊎ (IsReporting e L s → ⊥))
          → (L : List ℕ) (j : ℕ) → Tells L → Tells (L ++ j ∷ [])
      next reports-or L j t = elim (ended-or ((run e L).actors j).stage) [
        | inl ended ↦ stays L j
            (ap (λ (w : State). w.actors s) (run-snoc e L j ∙ step-ended e (run e L) j ended))
            (λ q reports. begun-going e L s reports.0
            (ap (λ i. ((run e L).actors i).stage) (sym q) ∙ ended)) t
        | inr goes ↦ elim (cases_eq s j) [
          | inr ne ↦ stays L j
              (ap (λ (w : State). w.actors s) (run-snoc e L j) ∙ step-other e (run e L) j s ne)
              (λ q. absurd (ne (sym q))) t
          | inl q ↦ subst (λ i. Tells (L ++ i ∷ [])) q (elim (reports-or L) [
            | inl reports ↦ reports-then L (works q goes) reports t
            | inr never ↦ sees L (works q goes) never t
          ])
        ]
      ] where
        works : s ≡ j → ((run e L).actors j).stage ≢ Ended
            → ((run e L).actors s).stage ≢ Ended
        works q goes = subst (λ i. ((run e L).actors i).stage ≢ Ended) (sym q) goes

      -- what a report has of it
      figure : (reports-or : (L : List ℕ) → IsReporting e L s ⊎ (IsReporting e L s → ⊥))
          → (L : List ℕ) → IsReporting e L s
          → (let mid = begun e L s in let t = seen (fig mid) (stat mid) in
          IsFigure e L s (λ a. part (fig a))
          (triple (part (fig mid)) (part t.last) (part t.ever)))
      figure reports-or L reports =
          let M = L ++ s ∷ [] in
          let goes = begun-going e L s reports.0 in
          let t = by-turns Tells (next reports-or) at-first L in
          let kept = mid-stat L goes in
          let same-fig = fig-now L goes reports in record {
            now = sym (ap part same-fig);
            last = subst (IsGreatest (λ m. (m ≡ M) ⊎ IsSinceReport e s L m) at)
                (ap (λ n. max (part (stat (actor_after e L s)).last) n) (ap part same-fig)
                ∙ sym (greater-is (stat (actor_after e L s)).last (fig (begun e L s)))
                ∙ ap (λ t. part (greater t.last (fig (begun e L s)))) (sym kept))
                (grow (IsSinceReport e s L) (λ m. (m ≡ M) ⊎ IsSinceReport e s L m) at _ M
                (λ m is. is) (λ m is. inr is) (inl refl) t.last);
            ever = subst (IsGreatest (λ m. (m ≡ M) ⊎ IsSinceStart L m) at)
                (ap (λ n. max (part (stat (actor_after e L s)).ever) n) (ap part same-fig)
                ∙ sym (greater-is (stat (actor_after e L s)).ever (fig (begun e L s)))
                ∙ ap (λ t. part (greater t.ever (fig (begun e L s)))) (sym kept))
                (grow (IsSinceStart L) (λ m. (m ≡ M) ⊎ IsSinceStart L m) at _ M
                (λ m is. is) (λ m is. inr is) (inl refl) t.ever);
          }

    -- so all four
    all-figures : (reports-or : (L : List ℕ) → IsReporting e L s ⊎ (IsReporting e L s → ⊥))
        → (L : List ℕ) → IsReporting e L s
        → (let mid = begun e L s in
        AreFigures e L s fig (report (fig mid) (seen (fig mid) (stat mid))))
    all-figures reports-or L reports = record {
      blocks = figure (λ f. f.blocks) (λ f g. refl) refl reports-or L reports;
      blocks_size = figure (λ f. f.blocks_size) (λ f g. refl) refl reports-or L reports;
      carriers = figure (λ f. f.carriers) (λ f g. refl) refl reports-or L reports;
      carriers_size = figure (λ f. f.carriers_size) (λ f g. refl) refl reports-or L reports;
    }

  -- whether s reports in its next step
  info-or : (ops : List Op) → AsksInfo ops ⊎ (AsksInfo ops → ⊥)
  info-or (op.Info ∷ ops) = inl (ops, refl)
  info-or [] = inr (λ (later, q). absurd cc)
  info-or (op.Alloc n b ∷ ops) = inr (λ (later, q). absurd cc)
  info-or (op.Free n ∷ ops) = inr (λ (later, q). absurd cc)
  info-or (op.Realloc o n b ∷ ops) = inr (λ (later, q). absurd cc)
  info-or (op.Give n to ∷ ops) = inr (λ (later, q). absurd cc)
  info-or (op.Take n tries ∷ ops) = inr (λ (later, q). absurd cc)
  info-or (op.Idle ∷ ops) = inr (λ (later, q). absurd cc)

  ready-or : (st : Stage Content) → (st ≡ Ready) ⊎ (st ≢ Ready)
  ready-or Ready = inl refl
  ready-or Begin = inr (λ q. absurd cc)
  ready-or (Routed r y g) = inr (λ q. absurd cc)
  ready-or (Collecting c) = inr (λ q. absurd cc)
  ready-or (Searching ask n part) = inr (λ q. absurd cc)
  ready-or (Fetching ask n part seen) = inr (λ q. absurd cc)
  ready-or (Creating ask p) = inr (λ q. absurd cc)
  ready-or (Giving given to) = inr (λ q. absurd cc)
  ready-or (Taking name tries left) = inr (λ q. absurd cc)
  ready-or Ended = inr (λ q. absurd cc)

  reporting-or : (L : List ℕ) → IsReporting e L s ⊎ (IsReporting e L s → ⊥)
  reporting-or L = elim (ready-or (begun e L s).stage) [
    | inr never ↦ inr (λ reports. never reports.0)
    | inl ready ↦ elim (info-or (begun e L s).todo) [
      | inl asks ↦ inl (ready, asks)
      | inr never ↦ inr (λ reports. never reports.1)
    ]
  ]

  multis-informed : (b : Actor) → b.stage ≡ Ready
      → figures (employed_multis (informed b)) ≡ figures (employed_multis b)
  multis-informed b ready = let many : Content → Bool = λ x. not (is_single x.kind) in
      ap (λ st. figures (filter many (leaving_at st) ++ b.instance.contents)) (sym ready)

  singles-informed : (b : Actor) → b.stage ≡ Ready
      → figures (employed_singles (informed b)) ≡ figures (employed_singles b)
  singles-informed b ready = let one : Content → Bool = λ x. is_single x.kind in
      ap (λ st. figures (filter one (leaving_at st) ++ b.instance.singles)) (sym ready)

  multis-told : (L : List ℕ) → IsReporting e L s
      → (let mid = begun e L s in let now = figures (employed_multis mid) in
      AreFigures e L s (λ a. figures (employed_multis a)) (report now (seen now mid.mbcs)))
  multis-told = all-figures (λ a. figures (employed_multis a)) (λ a. a.mbcs) refl (λ b. refl)
      (λ b. refl) (λ a b k. k.0) (λ b ready. (multis-informed b ready, refl)) reporting-or

  singles-told : (L : List ℕ) → IsReporting e L s
      → (let mid = begun e L s in let now = figures (employed_singles mid) in
      AreFigures e L s (λ a. figures (employed_singles a)) (report now (seen now mid.sbcs)))
  singles-told = all-figures (λ a. figures (employed_singles a)) (λ a. a.sbcs) refl (λ b. refl)
      (λ b. refl) (λ a b k. k.1) (λ b ready. (singles-informed b ready, refl)) reporting-or

-- a report is what is observed then
abbrev told : Actor → Reports
told a =
    let b = observed a in
    record {
      mbcs = report (figures (employed_multis a)) b.mbcs;
      sbcs = report (figures (employed_singles a)) b.sbcs;
    }

pub reports-greatest : (e : Setup) → ((L : List ℕ) → Rule e (run e L)) → ReportsGreatest e
reports-greatest e rules turns s reports = (
  told (begun e turns s),
  ap (λ (a : Actor). a.log) (begun-now e turns s reports.0
      ∙ ap (λ ops. observed (itself e s (begun e turns s) ops)) reports.1.1)
      ∙ ap (λ log. log ++ entry.Info (told (begun e turns s)) ∷ [])
      (begun-log e rules turns s reports.0),
  multis-told e s turns reports,
  singles-told e s turns reports,
)
