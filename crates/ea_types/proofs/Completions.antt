-- A run of several types goes on: turns after turns, one scheduler to its end, and all.
use Rattle.std.proofs.Common.{◌≡◌, ℕ, zero, suc, ◌+◌, ◌<◌, ◌≤◌, List, [], ◌∷◌, ◌++◌, refl, sym, ap}
use Rattle.std.proofs.Common.{◌∙◌, subst, arith, length, get_or}
use Rattle.std.specs.Prelude.{None, replicate, sum_by, take}
use Rattle.std.specs.List.{range_with_len}
use Rattle.std.proofs.lemmas.List.{append-nil, append_assoc, replicate-append-replicate}
use Rattle.std.proofs.lemmas.List.Sums.{sum_by-cons}
use Rattle.ea_model.specs.declared.settings.Config.{Config}
use Rattle.ea_model.specs.declared.trace.Trace.{Trace}
use Rattle.ea_model.specs.declared.trace.Turns.{Turns}
use Rattle.ea_model.specs.Trace.{IsScheduler}
use Rattle.ea_machine.specs.Completion.{work}
use Rattle.ea_machine.specs.State.{State}
use Rattle.ea_sound.proofs.Schedules.{turns-more, turns_from}
use Rattle.ea_given.specs.Runs as one
use Rattle.ea_given.specs.Runs.{left_in}
use Rattle.ea_types.specs.declared.given.TypedRun.{TypedRun}
use Rattle.ea_types.specs.Courses.{types_of}
use Rattle.ea_types.specs.Given.{HasNone, HasScheduler, HasTaken, IsEnding, IsRun}
use Rattle.ea_types.specs.Given.{StandsAfter, all_left}
use Rattle.ea_types.specs.Turning.{Standing, Types, all_work, complete, completing, ending}
use Rattle.ea_types.specs.Turning.{finishing}
use Rattle.ea_types.specs.Turning.{own_on, own_turns, at_start, stands_after, turn_of, turned_by}
use Rattle.ea_types.specs.Turning.{turned_on, own_if}
use Rattle.ea_types.proofs.Rows.{own-append}
use Rattle.ea_types.proofs.Standings.{after-append, state-is}

-- turns after turns
module _ (r q : TypedRun) where
  pub taken-run : (xs : List ℕ) → IsRun r → HasTaken xs r q → IsRun q
  taken-run xs is taken =
      let (c, other, traces, parts, turns, at) = is in
      (c, other, traces, parts, turns ++ xs, taken c other traces parts turns at)

  pub taken-has : (xs : List ℕ) (me : ℕ) → IsRun r → HasTaken xs r q → HasScheduler me r
      → HasScheduler me q
  taken-has xs me is taken has =
      let (c, other, traces, parts, turns, at) = is in
      let then = taken c other traces parts turns at in
      (has.0, omega (arith, has.1, at.schedulers, then.schedulers))

  pub taken-more : (s : TypedRun) (xs ys : List ℕ) → HasTaken xs r q → HasTaken ys q s
      → HasTaken (xs ++ ys) r s
  taken-more s xs ys before more c other traces parts turns at =
      subst (λ js. StandsAfter c other traces parts js s) (append_assoc turns xs ys)
      (more c other traces parts (turns ++ xs) (before c other traces parts turns at))

  pub taken-count : (k count me : ℕ) → k ≡ count → HasTaken (replicate k me) r q
      → HasTaken (replicate count me) r q
  taken-count k count me same taken = subst (λ n. HasTaken (replicate n me) r q) same taken

pub taken-sum : (r q s : TypedRun) (k j me : ℕ) → HasTaken (replicate k me) r q
    → HasTaken (replicate j me) q s → HasTaken (replicate (k + j) me) r s
taken-sum r q s k j me before more =
    subst (λ js. HasTaken js r s) (replicate-append-replicate k j me)
    (taken-more r q s (replicate k me) (replicate j me) before more)

pub taken-none : (r : TypedRun) → HasTaken [] r r
taken-none r c other traces parts turns at =
    subst (λ js. StandsAfter c other traces parts js r) (sym (append-nil turns)) at

-- turns of a scheduler that has ended in each type
module _ (t : Types) (me : ℕ) (p : Standing) (none : turn_of t p me ≡ None) where
  idle-stands : (k : ℕ) → turned_on t p (replicate k me) ≡ p
  idle-stands zero = refl
  idle-stands (suc k) =
      ap (λ o. turned_on t (turned_by t p me o) (replicate k me)) none ∙ idle-stands k

  idle-own : (x k : ℕ) → own_on t x p (replicate k me) ≡ []
  idle-own x zero = refl
  idle-own x (suc k) =
      ap (λ o. own_if t x me o ++ own_on t x (turned_by t p me o) (replicate k me)) none
      ∙ idle-own x k

pub idle-taken : (r : TypedRun) (me k : ℕ) → HasNone me r → HasTaken (replicate k me) r r
idle-taken r me k none c other traces parts turns at =
    let t = types_of c other traces parts in
    let p = stands_after t turns in
    let idle = none c other traces parts turns at in
    let js = replicate k me in
    let same : stands_after t (turns ++ js) ≡ p =
    after-append t turns js ∙ idle-stands t me p idle k in
    record {
      config = at.config;
      made = at.made;
      lines = at.lines;
      schedulers = at.schedulers;
      told = at.told;
      types = at.types;
      all = at.all;
      runs = λ x d there. subst (λ own. one.StandsAfter c (get_or traces x other) own
          (get_or r.runs.items x d))
          (sym (own-append t x (at_start t) turns js
          ∙ ap (λ more. own_turns t x turns ++ more) (idle-own t me p idle x k)
          ∙ append-nil (own_turns t x turns))) (at.runs x d there);
      over = at.over;
      left = λ i below. at.left i below ∙ ap (λ (s : Standing). s.lines (i + 1)) (sym same);
    }

-- one entry more of a schedule
pub schedule-more : (r q s : TypedRun) (schedule : List Turns) (i : ℕ) (d : Turns)
    → i < length schedule → HasTaken (turns_from (take i schedule)) r q
    → HasTaken (replicate (get_or schedule i d).count (get_or schedule i d).scheduler) q s
    → HasTaken (turns_from (take (i + 1) schedule)) r s
schedule-more r q s schedule i d below before more =
    let x = get_or schedule i d in
    subst (λ js. HasTaken js r s) (sym (turns-more schedule i d below))
    (taken-more r q s (turns_from (take i schedule)) (replicate x.count x.scheduler) before more)

-- a scheduler goes on to its end: of the turns that it takes, those from here on are to come
module _ (t : Types) (me : ℕ) where
  pub record LeadsTo (all turns : List ℕ) : Type 0 where
    pub most : ℕ
    pub upto : all_work t (stands_after t turns) me ≤ most
    pub is : all ≡ turns ++ ending t most (stands_after t turns) me
        (turn_of t (stands_after t turns) me)

  pub leads-first : (turns : List ℕ)
      → LeadsTo (turns ++ finishing t (stands_after t turns) me) turns
  leads-first turns = record {
    most = all_work t (stands_after t turns) me;
    upto = omega arith;
    is = refl;
  }

  pub leads-next : (all turns : List ℕ) (count : ℕ) → LeadsTo all turns
      → IsEnding me count t (stands_after t turns) → LeadsTo all (turns ++ replicate count me)
  leads-next all turns count leads next =
      let p = stands_after t turns in
      let js = replicate count me in
      let q = turned_on t p js in
      let (less, rest) = next leads.most leads.upto in
      let same : q ≡ stands_after t (turns ++ js) = sym (after-append t turns js) in
      record {
        most = rest.0;
        upto = subst (λ s. all_work t s me ≤ rest.0) same rest.1;
        is = leads.is ∙ ap (λ more. turns ++ more) rest.2
            ∙ sym (append_assoc turns js (ending t rest.0 q me (turn_of t q me)))
            ∙ ap (λ s. (turns ++ js) ++ ending t rest.0 s me (turn_of t s me)) same;
      }

  ending-none : (most : ℕ) (p : Standing) → ending t most p me None ≡ []
  ending-none zero p = refl
  ending-none (suc most) p = refl

  pub leads-last : (all turns : List ℕ) → LeadsTo all turns
      → turn_of t (stands_after t turns) me ≡ None → all ≡ turns
  leads-last all turns leads none =
      let p = stands_after t turns in
      leads.is ∙ ap (λ o. turns ++ ending t leads.most p me o) none
      ∙ ap (λ more. turns ++ more) (ending-none leads.most p) ∙ append-nil turns

-- all schedulers go on to their ends
module _ (t : Types) where
  -- those after the first ones are to come
  pub record CompletesTo (all turns : List ℕ) (first : ℕ) : Type 0 where
    pub rest : ℕ
    pub many : first + rest ≡ t.schedulers
    pub is : all ≡ turns ++ completing t rest (first + 1) (stands_after t turns)

  pub completes-first : (turns : List ℕ) → CompletesTo (complete t turns) turns 0
  completes-first turns = record { rest = t.schedulers; many = omega arith; is = refl }

  next-by : (rest first : ℕ) (all turns : List ℕ) → first + rest ≡ t.schedulers
      → first < t.schedulers
      → all ≡ turns ++ completing t rest (first + 1) (stands_after t turns)
      → CompletesTo all (turns ++ finishing t (stands_after t turns) (first + 1)) (first + 1)
  next-by zero first all turns many below is = absurd (omega (arith, many, below))
  next-by (suc rest) first all turns many below is =
      let p = stands_after t turns in
      let js = finishing t p (first + 1) in
      let later : ℕ → List ℕ = λ k. completing t rest k (turned_on t p js) in
      record {
        rest = rest;
        many = omega (arith, many);
        is = is ∙ sym (append_assoc turns js (later (suc (first + 1))))
            ∙ ap (λ k. (turns ++ js) ++ later k) (next first)
            ∙ ap (λ s. (turns ++ js) ++ completing t rest (first + 1 + 1) s)
            (sym (after-append t turns js));
      }
    where
      next : (first : ℕ) → suc (first + 1) ≡ first + 1 + 1
      next first = omega arith

  pub completes-next : (all turns : List ℕ) (first : ℕ) → CompletesTo all turns first
      → first < t.schedulers
      → CompletesTo all (turns ++ finishing t (stands_after t turns) (first + 1)) (first + 1)
  completes-next all turns first comes below =
      next-by comes.rest first all turns comes.many below comes.is

  last-by : (rest first : ℕ) (all turns : List ℕ) → first + rest ≡ t.schedulers
      → t.schedulers ≤ first
      → all ≡ turns ++ completing t rest (first + 1) (stands_after t turns) → all ≡ turns
  last-by zero first all turns many past is = is ∙ append-nil turns
  last-by (suc rest) first all turns many past is = absurd (omega (arith, many, past))

  pub completes-last : (all turns : List ℕ) (first : ℕ) → CompletesTo all turns first
      → t.schedulers ≤ first → all ≡ turns
  completes-last all turns first comes past =
      last-by comes.rest first all turns comes.many past comes.is

summed : {A : Type 0} (f : A → ℕ) (g : ℕ → ℕ) (low : ℕ) (xs : List A)
    → ((k : ℕ) (d : A) → k < length xs → f (get_or xs k d) ≡ g (low + k))
    → sum_by f xs ≡ sum_by g (range_with_len low (length xs))
summed f g low [] each = refl
summed f g low (x ∷ xs) each = omega (
  arith,
  sum_by-cons f x xs,
  sum_by-cons g low (range_with_len (low + 1) (length xs)),
  each 0 x (omega arith) ∙ ap g (here low),
  summed f g (low + 1) xs (λ k d below. each (suc k) d (omega (arith, below)) ∙ ap g (next low k)),
) where
  here : (low : ℕ) → low + 0 ≡ low
  here low = omega arith

  next : (low k : ℕ) → low + suc k ≡ low + 1 + k
  next low k = omega arith

-- of all types
pub left-is : (c : Config) (other : Trace) (traces : List Trace) (parts : List (List ℕ))
    (turns : List ℕ) (r : TypedRun) → StandsAfter c other traces parts turns r
    → (me : ℕ) → HasScheduler me r
    → (let t = types_of c other traces parts in
    all_left me r ≡ all_work t (stands_after t turns) me)
left-is c other traces parts turns r at me has =
    let t = types_of c other traces parts in
    let p = stands_after t turns in
    let g : ℕ → ℕ = λ x. work (t.setups x) (p.states x) me in
    summed (left_in me) g 0 r.runs.items (λ x d below.
    let u = get_or r.runs.items x d in
    let there : x < length traces = omega (arith, below, at.types) in
    let mine = at.runs x d there in
    let here : 0 + x ≡ x = omega arith in
    let is : IsScheduler c.schedulers me = (has.0, omega (arith, has.1, at.schedulers)) in
    mine.left me is
    ∙ ap (λ (w : State). work (t.setups x) w me) (state-is c other traces parts turns r at x there)
    ∙ ap g (sym here))
    ∙ ap (λ n. sum_by g (range_with_len 0 n)) at.types

-- no number of schedulers changes
pub stays-has : (c : Config) (other : Trace) (traces : List Trace) (parts : List (List ℕ))
    (turns now : List ℕ) (r q : TypedRun) (me : ℕ) → StandsAfter c other traces parts turns r
    → StandsAfter c other traces parts now q → HasScheduler me r → HasScheduler me q
stays-has c other traces parts turns now r q me at then has =
    (has.0, omega (arith, has.1, at.schedulers, then.schedulers))
