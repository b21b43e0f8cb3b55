-- What a call answers, by the word that its step found.
use Rattle.std.proofs.Common.{◌≡◌, ◌≢◌, ℕ, ◌+◌, ◌≤◌, Bool, true, false, List, [], ◌∷◌, ◌++◌}
use Rattle.std.proofs.Common.{Option, None, Some, refl, sym, ap, ◌∙◌, subst, arith}
use Rattle.std.specs.Prelude.{All, IfSome, option_map}
use Rattle.atomic_table.specs.Table.{Me, carried_after}
use Rattle.ea_model.specs.declared.carriers.Spot.{Spot}
use Rattle.ea_machine.specs.declared.nodes.Node.{Node}
use Rattle.ea_machine.specs.declared.nodes.Node.TheVariants.{Block}
use Rattle.ea_machine.specs.Machine.{wants}
use Rattle.ea_machine.specs.Nodes.{Mark, first_node, spot_named}
use Rattle.ea_machine.specs.Rows.{Answer, Got, Head, Passes, Rests, Row, TakeLink, TakeTry}
use Rattle.ea_machine.specs.Shared.{Shared}
use Rattle.ea_machine.specs.Table.{answer, link_answer, link_read}
use Rattle.ea_shared.specs.Calls.{Did, WantsRow, caller_of}
use Rattle.ea_word.specs.Codes.{IsCodable, code_of, link_code}
use Rattle.ea_table.specs.declared.views.Seated.{Seated}
use Rattle.ea_table.specs.declared.views.View.{View}
use Rattle.ea_table.specs.Ruling.{DidRow, IsSingle, Reads, ReadsHead, ReadsLink, ReadsName, Took}
use Rattle.ea_table.specs.Ruling.{acting, actor_in, caller_in, claimed, move_since, older_after}
use Rattle.ea_table.specs.Ruling.{setup_in, shared_since, stepped, told_in}
use Rattle.ea_table.specs.Slots.{Move, Slot, act_of, claim_by, move_of}
use Rattle.ea_table.specs.Words.{block_spot, mark_code}
use Rattle.ea_table.proofs.Rows.{code-more}

-- the number was decoded
abbrev pub Decodes : ℕ → Option Node → Type 0
Decodes found result = ((node : Node) → IsCodable node → found ≡ code_of node → result ≡ Some node)
    × IfSome result (λ node. IsCodable node × (found ≡ code_of node))

small-none : (found : ℕ) (result : Option Node) → found ≤ 1 → Decodes found result → result ≡ None
small-none found None small d = refl
small-none found (Some node) small d = absurd (omega (arith, small, d.1.1, code-more node))

head-told : (newest : Option Node) (found : ℕ) (result : Option Node) → ReadsHead newest found
    → Decodes found result → result ≡ newest
head-told None found result reads d = small-none found result (omega (arith, reads.0)) d
head-told (Some node) found result reads d = d.0 node reads.1 reads.0

link-rests : (ms : List Mark) (found : ℕ) → ReadsLink ms found → found ≡ 0 → link_answer ms ≡ Rests
link-rests [] found reads z = absurd reads
link-rests (m ∷ ms) found reads z = by m.linked reads.0 where
  more : (o : Option Node) → 1 ≤ link_code o
  more None = omega arith
  more (Some node) = omega (arith, code-more node)

  by : (b : Bool) → found ≡ mark_code b ms → link_read b ms ≡ Rests
  by true q = absurd (omega (arith, z, q, more (first_node ms)))
  by false q = refl

link-passes : (ms : List Mark) (found : ℕ) (result : Option Node) → ReadsLink ms found → found ≢ 0
    → Decodes found result → link_answer ms ≡ Passes result
link-passes [] found result reads some d = absurd reads
link-passes (m ∷ ms) found result reads some d = by m.linked reads.0 where
  next : (o : Option Node) → found ≡ link_code o → IfSome o IsCodable → o ≡ result
  next None q is = sym (small-none found result (omega (arith, q)) d)
  next (Some node) q is = sym (d.0 node is q)

  by : (b : Bool) → found ≡ mark_code b ms → link_read b ms ≡ Passes result
  by true q = ap Passes (next (first_node ms) q reads.1)
  by false q = absurd (some q)

pub name-told : (name : ℕ) (spot : Option Spot) (found : ℕ) (result : Option Node)
    → ReadsName name spot found → Decodes found result
    → result ≡ option_map (λ p. Block name p) spot
name-told name None found result reads d = small-none found result (omega (arith, reads.0)) d
name-told name (Some p) found result reads d = d.0 (Block name p) reads.1 reads.0

-- a seat that has one scheduler has one with another of these
single-with : (v : View) → IsSingle v → (x : Seated) → IsSingle (record v { seated = x ∷ [] })
single-with v is x = ap (λ (l : Bool). record v { seated = x ∷ []; live = l })
    (ap (λ (u : View). u.live) is)

pub single-claimed : (v : View) → IsSingle v → (k : ℕ) → IsSingle (claimed v k)
single-claimed v is k = single-with v is (record (acting v) { claim = k })

module _ (m n : Me Slot View) (me found : ℕ) (row : Row) (took : Took m found n)
    (wanted : WantsRow me row (caller_in m.0)) where
  abbrev pub s : Shared
  s = shared_since m.0 took.since

  abbrev pub got_of : Answer
  got_of = answer (acting m.0).number row s

  pub reads-row : Reads (acting m.0).number row s found
  reads-row = subst (λ r. Reads (acting m.0).number r s found) wanted.1 took.reads

  pub did : (got : Answer) → got ≡ got_of → DidRow me row got m.0 n.0
  did got is = record {
    number = wanted.0;
    since = took.since;
    others = subst (λ i. All (λ j. j ≢ i) took.since) wanted.0 took.others;
    answered = is ∙ ap (λ i. answer i row s) wanted.0;
    older = older_after (wants (actor_in m.0)) found (acting m.0).older;
    claim = claim_by (move_since m.0 took.since) (acting m.0).claim;
    view = took.view;
  }

  pub head-row : (newest : Option Node) (result : Option Node)
      → got_of ≡ Head newest → ReadsHead newest found
      → Decodes found result → DidRow me row (Head result) m.0 n.0
  head-row newest result is reads d = did (Head result)
      (ap Head (head-told newest found result reads d) ∙ sym is)

  -- the slots that the seat has after the row, and the carrier whose slot it has claimed
  module _ (move : Move) (moves : move_of row got_of ≡ move) where
    move-is : move_since m.0 took.since ≡ move
    move-is = ap (λ r. move_of r (answer (acting m.0).number r s)) wanted.1 ∙ moves

    pub slots-after : n.1 ≡ carried_after m.1 (act_of move)
    slots-after = took.slots ∙ ap (λ x. carried_after m.1 (act_of x)) move-is

    pub claim-after : (acting n.0).claim ≡ claim_by move (acting m.0).claim
    claim-after = ap (λ (x : View). (acting x).claim) took.view
        ∙ ap (λ x. claim_by x (acting m.0).claim) move-is

  -- it still has one scheduler
  pub single-after : IsSingle m.0 → IsSingle n.0
  single-after is = subst IsSingle (sym took.view)
      (single-with m.0 is (acting (stepped m.0 took.since
      (older_after (wants (actor_in m.0)) found (acting m.0).older)
      (claim_by (move_since m.0 took.since) (acting m.0).claim))))

  -- the link word that it keeps
  pub older-after : (acting n.0).older ≡ older_after row found (acting m.0).older
  older-after = ap (λ (x : View). (acting x).older) took.view
      ∙ ap (λ r. older_after r found (acting m.0).older) wanted.1

-- after a row the seat knows the same run
pub run-after : (me : ℕ) (row : Row) (got : Answer) (v u : View) → DidRow me row got v u
    → (u.config ≡ v.config) × (u.trace ≡ v.trace)
run-after me row got v u d = (
  ap (λ (x : View). x.config) d.view,
  ap (λ (x : View). x.trace) d.view,
)

-- a row of a table that tells the caller
pub caller-did : (me : ℕ) (row : Row) (got : Answer) (v u : View) → DidRow me row got v u
    → Did me row got (told_in v) (told_in u)
caller-did me row got v u d = record {
  shared = tt;
  shared_untold = λ q. refl;
  caller = record {
    turns = ran;
    knew = record {
      stands = ap (λ i. caller_of (setup_in v) i (acting v).turns) d.number;
      since = d.since;
      front = refl;
      others = d.others;
    };
    shares = tt;
    answered = d.answered;
    is = ap (λ (x : View). Some (caller_in x)) d.view
        ∙ ap (λ i. Some (caller_of (setup_in v) i (ran ++ i ∷ []))) d.number;
  };
  caller_untold = λ q. absurd (let never : Some (caller_in v) ≡ None = q in cc);
} where
  ran : List ℕ
  ran = (acting v).turns ++ d.since

-- a link was read
module _ (m n : Me Slot View) (me found : ℕ) (took : Took m found n)
    (wanted : WantsRow me TakeLink (caller_in m.0)) where
  abbrev shared : Shared
  shared = s m n me found TakeLink took wanted

  reads-link : ReadsLink (shared.rests (acting m.0).number) found
  reads-link = reads-row m n me found TakeLink took wanted

  pub rests-row : found ≡ 0 → DidRow me TakeLink Rests m.0 n.0
  unfolding answer
  rests-row z = did m n me found TakeLink took wanted Rests
      (sym (link-rests (shared.rests (acting m.0).number) found reads-link z))

  pub passes-row : (result : Option Node) → found ≢ 0 → Decodes found result
      → DidRow me TakeLink (Passes result) m.0 n.0
  unfolding answer
  passes-row result other d = did m n me found TakeLink took wanted (Passes result)
      (sym (link-passes (shared.rests (acting m.0).number) found result reads-link other d))

-- a try to take a name
module _ (m n : Me Slot View) (me found name : ℕ) (took : Took m found n)
    (wanted : WantsRow me (TakeTry name) (caller_in m.0)) where
  abbrev held : Option Spot
  held = spot_named name (s m n me found (TakeTry name) took wanted).given

  told : (result : Option Node) → Decodes found result
      → result ≡ option_map (λ p. Block name p) held
  told result d = name-told name held found result
      (reads-row m n me found (TakeTry name) took wanted) d

  pub spot-row : (result : Option Node) → Decodes found result
      → DidRow me (TakeTry name) (Got (block_spot result)) m.0 n.0
  unfolding answer
  spot-row result d = did m n me found (TakeTry name) took wanted (Got (block_spot result))
      (ap (λ o. Got (block_spot o)) (told result d) ∙ ap Got (by held)) where
        by : (o : Option Spot) → block_spot (option_map (λ p. Block name p) o) ≡ o
        by None = refl
        by (Some x) = refl
