-- What the tables of queues stand for after a row.
use Rattle.ea_machine.proofs.AlikeNodes.{alike-equal, alike-itself, one-true}
use Rattle.std.proofs.Common.{◌≡◌, ◌⊎◌, ℕ, zero, suc, ◌+◌, ◌*◌, ◌<◌, ◌≤◌, Bool, true, false}
use Rattle.std.proofs.Common.{if◌then◌else◌, List, [], ◌∷◌, Option, None, Some, length, get_or, set}
use Rattle.std.proofs.Common.{replicate, refl, sym, ap, subst, ◌∙◌, inl, inr, arith}
use Rattle.std.specs.Prelude.{Contains, ◌==◌}
use Rattle.std.proofs.Math.Path.{fun_ext}
use Rattle.std.proofs.lemmas.Bool.{cases_eq, cases_lt, cond-true, cond-false}
use Rattle.std.proofs.lemmas.List.{get_or-set_other, get_or-set_same, get_or_past, get_or_read}
use Rattle.std.proofs.lemmas.List.{length-replicate, length-set}
use Rattle.ea_model.specs.declared.units.TheConstants.{NUMBERS}
use Rattle.ea_machine.specs.declared.nodes.Node.{Node}
use Rattle.ea_machine.specs.Nodes.{Mark, first_node, link_in, pushed}
use Rattle.ea_machine.specs.Rows.{Passes, Rests}
use Rattle.ea_machine.specs.Shared.{put}
use Rattle.ea_machine.specs.Sums.{one_if, sum_over}
use Rattle.ea_machine.specs.Table.{link_answer, rest_after}
use Rattle.ea_machine.specs.Alike.{IsNode, alike_in, are_alike}
use Rattle.ea_queues.specs.Chains.{alike_among, AreChains, cell_at, count_of, HasSameCounts}
use Rattle.ea_queues.specs.Chains.{IsChain, marks_of, Queueing, queueing_of, number_of, StandFor}
use Rattle.ea_queues.specs.Chains.{standing_in}
use Rattle.ea_queues.specs.declared.cells.Cell.{Cell}
use Rattle.ea_queues.proofs.AlikeNodes.{alike-outside, number-in}
use Rattle.ea_queues.proofs.ChainLaws.{chain-at, chain-first, chain-replaced, chain-set}
use Rattle.ea_queues.proofs.ChainLaws.{chain-stays, chains-are, chains-length, chains-none}
use Rattle.ea_queues.proofs.ChainLaws.{chains-stay, passes-there, rests-there, side-linked}
use Rattle.ea_queues.proofs.ChainLaws.{side-one, side-other, side-sum}
use Rattle.ea_queues.proofs.ListSums.{sum-same, sum-set}

-- the nodes of an instance are others
marks-set : (lists : List (List Mark)) (i : ℕ) (ms : List Mark) → i < length lists
    → marks_of (set lists i ms) ≡ put (marks_of lists) i ms
marks-set lists i ms lt = fun_ext (λ j. elim (cases_eq j i) [
  | inl e ↦ ap (marks_of (set lists i ms)) e ∙ get_or-set_same lists i ms [] lt
      ∙ sym (cond-true (j == i) ms (marks_of lists j) (grind (arith, e)))
  | inr other ↦ get_or-set_other lists i j ms [] other
      ∙ sym (cond-false (j == i) ms (marks_of lists j) (grind (arith, other)))
])

-- or the same
put-same : (f : ℕ → List Mark) (i : ℕ) → f ≡ put f i (f i)
put-same f i = fun_ext (λ j. elim (cases_eq j i) [
  | inl e ↦ ap f e ∙ sym (cond-true (j == i) (f i) (f j) (grind (arith, e)))
  | inr other ↦ sym (cond-false (j == i) (f i) (f j) (grind (arith, other)))
])

marks-none : (n : ℕ) → marks_of (replicate n []) ≡ (λ i. [])
marks-none n = fun_ext (none n) where
  none : (n i : ℕ) → marks_of (replicate n []) i ≡ []
  none zero i = refl
  none (suc n) zero = refl
  none (suc n) (suc i) = none n i

queueing-same : (s : Queueing) (qs rs : List (List Mark)) (n g : ℕ) → qs ≡ s.queues → rs ≡ s.rests
    → n ≡ s.schedulers → g ≡ s.greatest
    → record { queues = qs; rests = rs; schedulers = n; greatest = g } ≡ s
queueing-same s qs rs n g e f m l = rw (e, f, m, l) refl

-- nodes that are alike stand as often
alike-standing : (s : Queueing) (x y : Node) → are_alike x y ≡ true
    → standing_in s x ≡ standing_in s y
alike-standing s x y same =
    ap (λ (f : Node → Bool). sum_over (λ ms. sum_over (λ (m : Mark). one_if (f m.node)) ms) s.queues
    + sum_over (λ ms. sum_over (λ (m : Mark). one_if (f m.node)) ms) s.rests)
    (fun_ext (alike-equal x y same))

-- the tables stand for these queues and rests, of as many schedulers and names as before
pub record Becomes (heads rests : List (Option Node)) (names carriers : List Cell) (s : Queueing)
    (queues walks : ℕ → List Mark) : Type 0 where
  pub now : Queueing
  pub stand : StandFor heads rests names carriers now
  pub queued : marks_of now.queues ≡ queues
  pub rested : marks_of now.rests ≡ walks
  pub same : HasSameCounts s now

module _ (heads rests : List (Option Node)) (names carriers : List Cell) where
  abbrev seen : Queueing
  seen = queueing_of heads rests names carriers

  -- what they stand for is what is seen of them
  pub seen-is : (s : Queueing) → StandFor heads rests names carriers s → seen ≡ s
  seen-is s k = queueing-same s seen.queues seen.rests seen.schedulers seen.greatest
      (chains-are (cell_at names carriers) (length names) (length carriers) heads s.queues
      (λ x. omega (arith, k.once x)) (λ x le. omega (arith, k.within x le)) k.queued)
      (chains-are (cell_at names carriers) (length names) (length carriers) rests s.rests
      (λ x. omega (arith, k.once x)) (λ x le. omega (arith, k.within x le)) k.rested)
      (omega (arith, k.heads_count)) (omega (arith, k.names_count))

  pub laid : (s : Queueing) → StandFor heads rests names carriers s
      → StandFor heads rests names carriers seen
  laid s k = subst (StandFor heads rests names carriers) (sym (seen-is s k)) k

  module _ (s : Queueing) (queues walks : ℕ → List Mark)
      (b : Becomes heads rests names carriers s queues walks) where
    pub becomes-laid : StandFor heads rests names carriers seen
    becomes-laid = laid b.now b.stand

    pub becomes-queues : marks_of seen.queues ≡ queues
    becomes-queues = ap (λ (t : Queueing). marks_of t.queues) (seen-is b.now b.stand) ∙ b.queued

    pub becomes-rests : marks_of seen.rests ≡ walks
    becomes-rests = ap (λ (t : Queueing). marks_of t.rests) (seen-is b.now b.stand) ∙ b.rested

  -- no node stands where no first node does
  pub none-stand : (n g : ℕ) → heads ≡ replicate (n + 1) None → rests ≡ replicate (n + 1) None
      → length names ≡ g + 1 → length carriers ≡ NUMBERS * n + 1
      → StandFor heads rests names carriers (record {
        queues = replicate (n + 1) [];
        rests = replicate (n + 1) [];
        schedulers = n;
        greatest = g;
      })
  none-stand n g e f a b = record {
    queued = subst (λ hs. AreChains (cell_at names carriers) hs (replicate (n + 1) [])) (sym e)
        (chains-none (cell_at names carriers) (n + 1));
    rested = subst (λ hs. AreChains (cell_at names carriers) hs (replicate (n + 1) [])) (sym f)
        (chains-none (cell_at names carriers) (n + 1));
    once = λ x. omega (arith, sum-same (alike_in x) (n + 1) [] refl);
    within = λ x le. omega (arith, sum-same (alike_in x) (n + 1) [] refl);
    heads_count = ap length e ∙ length-replicate (n + 1) None;
    rests_count = ap length f ∙ length-replicate (n + 1) None;
    names_count = a;
    carriers_count = b;
  }

  module _ (s : Queueing) (k : StandFor heads rests names carriers s) where
    abbrev cell : Node → Cell
    cell = cell_at names carriers

    queues-count : length s.queues ≡ s.schedulers + 1
    queues-count = chains-length cell heads s.queues k.queued ∙ k.heads_count

    walks-count : length s.rests ≡ s.schedulers + 1
    walks-count = chains-length cell rests s.rests k.rested ∙ k.rests_count

    in-heads : (i : ℕ) → i ≤ s.schedulers → i < length heads
    in-heads i le = omega (arith, k.heads_count)

    first-read : (i : ℕ) (first : Option Node) → i ≤ s.schedulers
        → first ≡ get_or heads i first → first ≡ get_or heads i None
    first-read i first le e = get_or_read heads i first (in-heads i le) e None

    newest-read : (i : ℕ) (first : Option Node) → i ≤ s.schedulers
        → first ≡ get_or heads i first → first ≡ first_node (marks_of s.queues i)
    newest-read i first le e = first-read i first le e
        ∙ chain-first cell (get_or heads i None) (marks_of s.queues i)
        (chain-at cell heads s.queues i k.queued)

    in-queues : (i : ℕ) → i ≤ s.schedulers → i < length s.queues
    in-queues i le = omega (arith, queues-count)

    in-rests : (i : ℕ) → i ≤ s.schedulers → i < length s.rests
    in-rests i le = omega (arith, walks-count)

    took-standing : (me : ℕ) → me ≤ s.schedulers → marks_of s.rests me ≡ [] → (x : Node)
        → alike_among x (set s.queues me [])
        + alike_among x (set s.rests me (marks_of s.queues me)) ≡ standing_in s x
    took-standing me le walked x = omega (
      arith,
      sum-set (alike_in x) s.queues me [] [] (in-queues me le),
      sum-set (alike_in x) s.rests me (marks_of s.queues me) [] (in-rests me le),
      ap (alike_in x) walked,
    )

    -- an instance takes its queue
    took_all : (me : ℕ) → me ≤ s.schedulers → marks_of s.rests me ≡ []
        → Becomes (set heads me None) (set rests me (get_or heads me None)) names carriers s
        (put (marks_of s.queues) me []) (put (marks_of s.rests) me (marks_of s.queues me))
    took_all me le walked = record {
      now = record s {
        queues = set s.queues me [];
        rests = set s.rests me (marks_of s.queues me);
      };
      stand = record {
        queued = chain-set cell heads s.queues me None [] k.queued refl;
        rested = chain-set cell rests s.rests me (get_or heads me None) (marks_of s.queues me)
            k.rested (chain-at cell heads s.queues me k.queued);
        once = λ x. omega (arith, took-standing me le walked x, k.once x);
        within = λ x out. omega (arith, took-standing me le walked x, k.within x out);
        heads_count = length-set heads me None ∙ k.heads_count;
        rests_count = length-set rests me (get_or heads me None) ∙ k.rests_count;
        names_count = k.names_count;
        carriers_count = k.carriers_count;
      };
      queued = marks-set s.queues me [] (in-queues me le);
      rested = marks-set s.rests me (marks_of s.queues me) (in-rests me le);
      same = (refl, refl);
    }

    -- a walk passes its next node
    module _ (me : ℕ) (node : Node) (le : me ≤ s.schedulers)
        (first : first_node (marks_of s.rests me) ≡ Some node) where
      abbrev rest : List Mark
      rest = marks_of s.rests me

      rest-is : IsChain cell (get_or rests me None) rest
      rest-is = chain-at cell rests s.rests me k.rested

      rest-sum : (x : Node) → (cell node).linked ≡ true
          → alike_among x (set s.rests me (rest_after rest)) ≤ alike_among x s.rests
      rest-sum x so = omega (
        arith,
        sum-set (alike_in x) s.rests me (rest_after rest) [] (in-rests me le),
        (passes-there cell node (get_or rests me None) rest rest-is first so).2 x,
      )

      passed-stands : (cell node).linked ≡ true
          → Becomes heads (set rests me (cell node).older) names carriers s (marks_of s.queues)
          (put (marks_of s.rests) me (rest_after rest))
      passed-stands so = record {
        now = record s { rests = set s.rests me (rest_after rest) };
        stand = record {
          queued = k.queued;
          rested = chain-set cell rests s.rests me (cell node).older (rest_after rest) k.rested
              (passes-there cell node (get_or rests me None) rest rest-is first so).1;
          once = λ x. omega (arith, rest-sum x so, k.once x);
          within = λ x out. omega (arith, rest-sum x so, k.within x out);
          heads_count = k.heads_count;
          rests_count = length-set rests me (cell node).older ∙ k.rests_count;
          names_count = k.names_count;
          carriers_count = k.carriers_count;
        };
        queued = refl;
        rested = marks-set s.rests me (rest_after rest) (in-rests me le);
        same = (refl, refl);
      }

    -- the cell of one node is another one
    module _ (names' carriers' : List Cell) (node : Node) (new : Cell)
        (puts : (x : Node) → cell_at names' carriers' x
        ≡ (if are_alike node x then new else cell_at names carriers x))
        (same_names : length names' ≡ length names)
        (same_carriers : length carriers' ≡ length carriers)
        (is : IsNode s.schedulers s.greatest node) where
      abbrev next : Node → Cell
      next = cell_at names' carriers'

      agrees : (x : Node) → are_alike node x ≡ false → next x ≡ cell x
      agrees x other = puts x ∙ cond-false (are_alike node x) new (cell x) other

      at-node : next node ≡ new
      at-node = puts node ∙ cond-true (are_alike node node) new (cell node)
          (one-true (are_alike node node) (alike-itself node))

      inside : number_of node < count_of (length names) (length carriers) node
      inside = number-in s.schedulers s.greatest (length names) (length carriers) node
          k.names_count k.carriers_count is

      still-within : (x : Node)
          → count_of (length names') (length carriers') x ≤ number_of x
          → count_of (length names) (length carriers) x ≤ number_of x
      still-within x le = subst (λ n. count_of n (length carriers) x ≤ number_of x) same_names
          (subst (λ n. count_of (length names') n x ≤ number_of x) same_carriers le)

      -- the node is put in front of a queue
      module _ (to : ℕ) (le : to ≤ s.schedulers) (nowhere : standing_in s node ≡ 0)
          (made : new ≡ record { older = get_or heads to None; linked = false }) where
        abbrev longer : List Mark
        longer = pushed node ∷ marks_of s.queues to

        queue-sum : (x : Node) (ms : List Mark)
            → alike_among x (set s.queues to ms) + alike_in x (marks_of s.queues to)
            ≡ alike_among x s.queues + alike_in x ms
        queue-sum x ms = sum-set (alike_in x) s.queues to ms [] (in-queues to le)

        once-pushed : (x : Node) (b : Bool) → are_alike x node ≡ b
            → standing_in s x + one_if b ≤ 1
        once-pushed x true same = omega (arith, alike-standing s x node same, nowhere)
        once-pushed x false other = omega (arith, k.once x)

        longer-chain : IsChain next (Some node) longer
        longer-chain =
            let e : next node ≡ record { older = get_or heads to None; linked = false } =
            at-node ∙ made in (
              refl,
              ap (λ (x : Cell). x.linked) e,
              subst (λ (x : Cell). IsChain next x.older (marks_of s.queues to)) (sym e)
                  (chain-stays cell next node agrees (get_or heads to None) (marks_of s.queues to)
                  (omega (arith, queue-sum node [], nowhere))
                  (chain-at cell heads s.queues to k.queued)),
            )

        pushed-stands : Becomes (set heads to (Some node)) rests names' carriers' s
            (put (marks_of s.queues) to longer) (marks_of s.rests)
        pushed-stands = record {
          now = record s { queues = set s.queues to longer };
          stand = record {
            queued = chain-replaced cell next node agrees heads s.queues to (Some node) longer
                (omega (arith, queue-sum node [], nowhere)) k.queued longer-chain;
            rested = chains-stay cell next node agrees rests s.rests (omega (arith, nowhere))
                k.rested;
            once = λ x. omega (arith, queue-sum x longer, once-pushed x (are_alike x node) refl);
            within = λ x out. omega (
              arith,
              queue-sum x longer,
              k.within x (still-within x out),
              alike-outside (length names) (length carriers) x node inside (still-within x out),
            );
            heads_count = length-set heads to (Some node) ∙ k.heads_count;
            rests_count = k.rests_count;
            names_count = same_names ∙ k.names_count;
            carriers_count = same_carriers ∙ k.carriers_count;
          };
          queued = marks-set s.queues to longer (in-queues to le);
          rested = refl;
          same = (refl, refl);
        }

      -- the node is linked
      module _ (to : ℕ) (le : to ≤ s.schedulers)
          (made : new ≡ record { older = (cell node).older; linked = true }) where
        abbrev queue : List Mark
        queue = marks_of s.queues to

        abbrev walk : List Mark
        walk = marks_of s.rests to

        link-standing : (x : Node) → alike_among x (set s.queues to (link_in node queue))
            + alike_among x (set s.rests to (link_in node walk)) ≡ standing_in s x
        link-standing x = omega (
          arith,
          side-sum cell next node agrees (at-node ∙ made) heads s.queues to
              (in-queues to le) k.queued x,
          side-sum cell next node agrees (at-node ∙ made) rests s.rests to
              (in-rests to le) k.rested x,
        )

        linked-by : AreChains next heads (set s.queues to (link_in node queue))
            → AreChains next rests (set s.rests to (link_in node walk))
            → Becomes heads rests names' carriers' s
            (put (marks_of s.queues) to (link_in node queue))
            (put (marks_of s.rests) to (link_in node walk))
        linked-by q r = record {
          now = record s {
            queues = set s.queues to (link_in node queue);
            rests = set s.rests to (link_in node walk);
          };
          stand = record {
            queued = q;
            rested = r;
            once = λ x. omega (arith, link-standing x, k.once x);
            within = λ x out. omega (arith, link-standing x, k.within x (still-within x out));
            heads_count = k.heads_count;
            rests_count = k.rests_count;
            names_count = same_names ∙ k.names_count;
            carriers_count = same_carriers ∙ k.carriers_count;
          };
          queued = marks-set s.queues to (link_in node queue) (in-queues to le);
          rested = marks-set s.rests to (link_in node walk) (in-rests to le);
          same = (refl, refl);
        }

        linked-stands : Contains queue (pushed node) ⊎ Contains walk (pushed node)
            → Becomes heads rests names' carriers' s
            (put (marks_of s.queues) to (link_in node queue))
            (put (marks_of s.rests) to (link_in node walk))
        linked-stands (inl u) =
            let one = side-one cell next node agrees (at-node ∙ made) heads s.queues to
            (in-queues to le) k.queued u in
            linked-by
            (side-linked cell next node agrees (at-node ∙ made) heads s.queues to
            (in-queues to le) k.queued u (omega (arith, k.once node)))
            (side-other cell next node agrees (at-node ∙ made) rests s.rests to
            (in-rests to le) k.rested (omega (arith, one, k.once node)))
        linked-stands (inr u) =
            let one = side-one cell next node agrees (at-node ∙ made) rests s.rests to
            (in-rests to le) k.rested u in
            linked-by
            (side-other cell next node agrees (at-node ∙ made) heads s.queues to
            (in-queues to le) k.queued (omega (arith, one, k.once node)))
            (side-linked cell next node agrees (at-node ∙ made) rests s.rests to
            (in-rests to le) k.rested u (omega (arith, k.once node)))

  module _ (s : Queueing) (view : seen ≡ s) (k : StandFor heads rests names carriers seen) where
    stands : StandFor heads rests names carriers s
    stands = subst (StandFor heads rests names carriers) view k

    -- the newest node of a queue
    pub newest : (i : ℕ) (first : Option Node) → i ≤ s.schedulers → first ≡ get_or heads i first
        → first ≡ first_node (marks_of s.queues i)
    newest = newest-read s stands

    -- an instance takes its queue
    pub taken : (me : ℕ) (first : Option Node) → me ≤ s.schedulers
        → first ≡ get_or heads me first → marks_of s.rests me ≡ []
        → Becomes (set heads me None) (set rests me first) names carriers s
        (put (marks_of s.queues) me []) (put (marks_of s.rests) me (marks_of s.queues me))
    taken me first le e walked = subst (λ f. Becomes (set heads me None) (set rests me f) names
        carriers s (put (marks_of s.queues) me [])
        (put (marks_of s.rests) me (marks_of s.queues me)))
        (sym (first-read s stands me first le e)) (took_all s stands me le walked)

    -- a node is put in front of a queue
    pub put-first : (names' carriers' : List Cell) (node : Node) (to : ℕ) (first : Option Node)
        → ((x : Node) → cell_at names' carriers' x
        ≡ (if are_alike node x then record { older = first; linked = false } else cell_at names
        carriers x))
        → length names' ≡ length names → length carriers' ≡ length carriers
        → IsNode s.schedulers s.greatest node → to ≤ s.schedulers → standing_in s node ≡ 0
        → first ≡ get_or heads to first
        → Becomes (set heads to (Some node)) rests names' carriers' s
        (put (marks_of s.queues) to (pushed node ∷ marks_of s.queues to)) (marks_of s.rests)
    put-first names' carriers' node to first puts same_names same_carriers is le nowhere e =
        pushed-stands s stands names' carriers' node (record { older = first; linked = false }) puts
        same_names same_carriers is to le nowhere
        (ap (λ f. record { older = f; linked = false }) (first-read s stands to first le e))

    -- a node is linked
    pub link-older : (names' carriers' : List Cell) (node : Node) (to : ℕ) (x : Cell)
        → ((y : Node) → cell_at names' carriers' y
        ≡ (if are_alike node y then record { older = x.older; linked = true } else cell_at names
        carriers y))
        → length names' ≡ length names → length carriers' ≡ length carriers
        → IsNode s.schedulers s.greatest node → to ≤ s.schedulers
        → x ≡ cell_at names carriers node
        → Contains (marks_of s.queues to) (pushed node)
        ⊎ Contains (marks_of s.rests to) (pushed node)
        → Becomes heads rests names' carriers' s
        (put (marks_of s.queues) to (link_in node (marks_of s.queues to)))
        (put (marks_of s.rests) to (link_in node (marks_of s.rests to)))
    link-older names' carriers' node to x puts same_names same_carriers is le e there =
        linked-stands s stands names' carriers' node (record { older = x.older; linked = true })
        puts same_names same_carriers is to le
        (ap (λ (y : Cell). record { older = y.older; linked = true }) e) there

    -- whoever has a next node is one of them
    pub walks-within : (me : ℕ) (node : Node) → first_node (marks_of s.rests me) ≡ Some node
        → me ≤ s.schedulers
    walks-within me node next = elim (cases_lt me (length s.rests)) [
      | inl lt ↦ omega (arith, lt, walks-count s stands)
      | inr past ↦
          let none : None ≡ Some node =
          sym (ap first_node (get_or_past s.rests me [] past)) ∙ next in
          absurd cc
    ]

    -- the next node of a walk isn't linked
    module _ (me : ℕ) (node : Node) (x : Cell) (le : me ≤ s.schedulers)
        (next : first_node (marks_of s.rests me) ≡ Some node)
        (is : x ≡ cell_at names carriers node) where
      module _ (not : x.linked ≡ false) where
        not-linked : (link_answer (marks_of s.rests me) ≡ Rests)
            × (rest_after (marks_of s.rests me) ≡ marks_of s.rests me)
        not-linked = rests-there (cell_at names carriers) node (get_or rests me None)
            (marks_of s.rests me) (rest-is s stands me node le next) next
            (ap (λ (y : Cell). y.linked) (sym is) ∙ not)

        pub rests-answer : Rests ≡ link_answer (marks_of s.rests me)
        rests-answer = sym not-linked.0

        pub rests-same : marks_of s.rests
            ≡ put (marks_of s.rests) me (rest_after (marks_of s.rests me))
        rests-same = put-same (marks_of s.rests) me
            ∙ ap (put (marks_of s.rests) me) (sym not-linked.1)

      -- or it is passed
      module _ (so : x.linked ≡ true) where
        is-linked : (cell_at names carriers node).linked ≡ true
        is-linked = ap (λ (y : Cell). y.linked) (sym is) ∙ so

        pub passes-answer : Passes x.older ≡ link_answer (marks_of s.rests me)
        passes-answer = ap (λ (y : Cell). Passes y.older) is
            ∙ sym (passes-there (cell_at names carriers) node (get_or rests me None)
            (marks_of s.rests me) (rest-is s stands me node le next) next is-linked).0

        pub passes : Becomes heads (set rests me x.older) names carriers s (marks_of s.queues)
            (put (marks_of s.rests) me (rest_after (marks_of s.rests me)))
        passes = subst (λ (y : Cell). Becomes heads (set rests me y.older) names carriers s
            (marks_of s.queues) (put (marks_of s.rests) me (rest_after (marks_of s.rests me))))
            (sym is) (passed-stands s stands me node le next is-linked)

  -- no node stands where all is empty
  module _ (n g : ℕ) (no_heads : heads ≡ replicate (n + 1) None)
      (no_rests : rests ≡ replicate (n + 1) None) (to_names : length names ≡ g + 1)
      (to_carriers : length carriers ≡ NUMBERS * n + 1) where
    abbrev empty : Queueing
    empty = record {
      queues = replicate (n + 1) [];
      rests = replicate (n + 1) [];
      schedulers = n;
      greatest = g;
    }

    empty-stands : StandFor heads rests names carriers empty
    empty-stands = none-stand n g no_heads no_rests to_names to_carriers

    pub empty-laid : StandFor heads rests names carriers seen
    empty-laid = laid empty empty-stands

    empty-seen : seen ≡ empty
    empty-seen = seen-is empty empty-stands

    pub empty-queues : marks_of seen.queues ≡ (λ i. [])
    empty-queues = ap (λ (s : Queueing). marks_of s.queues) empty-seen ∙ marks-none (n + 1)

    pub empty-rests : marks_of seen.rests ≡ (λ i. [])
    empty-rests = ap (λ (s : Queueing). marks_of s.rests) empty-seen ∙ marks-none (n + 1)

    pub empty-counts : (seen.schedulers ≡ n) × (seen.greatest ≡ g)
    empty-counts = (
      ap (λ (s : Queueing). s.schedulers) empty-seen,
      ap (λ (s : Queueing). s.greatest) empty-seen,
    )
