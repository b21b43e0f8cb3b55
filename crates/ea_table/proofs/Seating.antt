-- The steps that the calls of a seat take, at the words where the table has them.
use Rattle.std.proofs.Common.{◌≡◌, ℕ, ◌≤◌, List, Some, refl, sym, subst, arith}
use Rattle.atomic_table.specs.Table.{Allows, Step}
use Rattle.ea_model.specs.Trace.{IsScheduler}
use Rattle.ea_machine.specs.declared.nodes.Named.{Named}
use Rattle.ea_machine.specs.declared.nodes.Node.{Node}
use Rattle.ea_machine.specs.Alike.{IsNode}
use Rattle.ea_machine.specs.Nodes.{block_node}
use Rattle.ea_machine.specs.Rows.{Give, Link, Push, TakeAll, TakeLink, TakeTry}
use Rattle.ea_shared.specs.Calls.{WantsRow}
use Rattle.ea_word.specs.Codes.{code_of}
use Rattle.ea_table.specs.declared.board.Board.{Board}
use Rattle.ea_table.specs.declared.pass.Pass.{Pass}
use Rattle.ea_table.specs.declared.views.About.{About}
use Rattle.ea_table.specs.declared.views.View.{View}
use Rattle.ea_table.specs.Ruling.{IsSingle, acting, actor_in, caller_in, holds, steps}
use Rattle.ea_table.specs.Seating.{IsSeatedAt}
use Rattle.ea_table.specs.Slots.{Slot}
use Rattle.ea_table.specs.Words.{head_at, link_at, name_at}
use Rattle.ea_table.proofs.Fitting.{fits-given, fits-linked, fits-linked_to}
use Rattle.ea_table.proofs.Fitting.{fits-pushed, fits-taken, fits-tried}
use Rattle.ea_table.proofs.Rows.{allows}

module _ (b : Board) (p : Pass) (xs : List (ℕ × Slot)) (at : IsSeatedAt b p) (me : ℕ)
    (number : IsScheduler b.schedulers me) (st : Step Slot) where
  abbrev about : About
  about = b.table.shared.key

  abbrev slots : ℕ
  slots = b.table.shared.table_id.slots

  abbrev id : ℕ
  id = p.seat.id

  abbrev v : View
  v = p.seat.me.0

  abbrev n : ℕ
  n = b.schedulers

  abbrev g : ℕ
  g = b.greatest

  is : IsSingle v
  is = p.single

  -- what holds of the counts of the run holds of those of the table
  counted : (P : ℕ → ℕ → Type 0) → P v.config.schedulers v.trace.greatest → P n g
  counted P q = subst (λ m. P m g) at.schedulers (subst (P v.config.schedulers) at.greatest q)

  abbrev MayStep : ℕ → (ℕ → ℕ) → (ℕ → ℕ) → Type 0
  MayStep i f said = Allows (holds about) slots id (v, xs) i f
      (λ found. steps st (v, xs) (said found))

  -- at the word that was reckoned, and with the number that was
  swapped : (i k new m : ℕ) → i ≡ k → new ≡ m → MayStep k (λ _. m) (λ found. found)
      → MayStep i (λ _. new) (λ found. found)
  swapped i k new m there same may = subst (λ j. MayStep j (λ _. new) (λ found. found)) (sym there)
      (subst (λ z. MayStep k (λ _. z) (λ found. found)) (sym same) may)

  stored : (i k new m : ℕ) → i ≡ k → new ≡ m → MayStep k (λ _. m) (λ _. m)
      → MayStep i (λ _. new) (λ _. new)
  stored i k new m there same may = subst (λ j. MayStep j (λ _. new) (λ _. new)) (sym there)
      (subst (λ z. MayStep k (λ _. z) (λ _. z)) (sym same) may)

  mine : (acting v).number ≡ me → IsScheduler v.config.schedulers (acting v).number
  mine same = omega (arith, number.0, number.1, same, at.schedulers)

  pub takes-all : WantsRow me TakeAll (caller_in v) → (i : ℕ) → i ≡ head_at me
      → MayStep i (λ _. 0) (λ found. found)
  takes-all wanted i place = swapped i (head_at me) 0 0 place refl
      (subst (λ j. MayStep (head_at j) (λ _. 0) (λ found. found)) wanted.0
      (allows about slots id (head_at (acting v).number) (λ _. 0) (λ found. found) v xs st TakeAll
      is wanted.1 (λ q. cc) (fits-taken v (mine wanted.0) xs wanted.1)))

  pub takes-link : (node : Node) → IsNode n g node → (actor_in v).next ≡ Some node
      → WantsRow me TakeLink (caller_in v) → (i : ℕ) → i ≡ link_at n g node
      → MayStep i (λ _. 0) (λ found. found)
  takes-link node fits next wanted i place = swapped i (link_at n g node) 0 0 place refl (counted
      (λ n g. IsNode n g node → MayStep (link_at n g node) (λ _. 0) (λ found. found))
      (λ fits. allows about slots id (link_at v.config.schedulers v.trace.greatest node) (λ _. 0)
      (λ found. found) v xs st TakeLink is wanted.1 (λ q. cc)
      (fits-linked_to v (mine wanted.0) xs node fits next wanted.1)) fits)

  pub pushes : (node : Node) (to : ℕ) → IsNode n g node → IsScheduler n to
      → WantsRow me (Push node to) (caller_in v) → (i new : ℕ) → i ≡ head_at to
      → new ≡ code_of node → MayStep i (λ _. new) (λ found. found)
  pushes node to fits target wanted i new place code = swapped i (head_at to) new (code_of node)
      place code (counted
      (λ n g. IsNode n g node → MayStep (head_at to) (λ _. code_of node) (λ found. found))
      (λ fits. allows about slots id (head_at to) (λ _. code_of node) (λ found. found) v xs st
      (Push node to) is wanted.1 (λ q. cc)
      (fits-pushed v (mine wanted.0) xs node to fits target.0
      (omega (arith, target.1, at.schedulers)) wanted.1)) fits)

  pub links : (node : Node) (to : ℕ) → IsNode n g node → IsScheduler n to
      → WantsRow me (Link node to) (caller_in v) → (i new : ℕ) → i ≡ link_at n g node
      → new ≡ (acting v).older → MayStep i (λ _. new) (λ _. new)
  links node to fits target wanted i new place older = stored i (link_at n g node) new
      (acting v).older place older (counted
      (λ n g. IsNode n g node
      → MayStep (link_at n g node) (λ _. (acting v).older) (λ _. (acting v).older))
      (λ fits. allows about slots id (link_at v.config.schedulers v.trace.greatest node)
      (λ _. (acting v).older) (λ _. (acting v).older) v xs st (Link node to) is wanted.1 (λ q. cc)
      (fits-linked v (mine wanted.0) xs node to fits (omega (arith, target.1, at.schedulers))
      wanted.1))
      fits)

  pub gives : (x : Named) → (1 ≤ x.name) × (x.name ≤ g) → WantsRow me (Give x) (caller_in v)
      → (i new : ℕ) → i ≡ name_at n g x.name → new ≡ code_of (block_node x)
      → MayStep i (λ _. new) (λ _. new)
  gives x name wanted i new place code = stored i (name_at n g x.name) new (code_of (block_node x))
      place code (counted
      (λ n g. MayStep (name_at n g x.name) (λ _. code_of (block_node x))
      (λ _. code_of (block_node x)))
      (allows about slots id (name_at v.config.schedulers v.trace.greatest x.name)
      (λ _. code_of (block_node x)) (λ _. code_of (block_node x)) v xs st (Give x) is wanted.1
      (λ q. cc) (fits-given v (mine wanted.0) xs x name.0 (omega (arith, name.1, at.greatest))
      wanted.1)))

  pub tries : (name : ℕ) → (1 ≤ name) × (name ≤ g) → WantsRow me (TakeTry name) (caller_in v)
      → (i : ℕ) → i ≡ name_at n g name → MayStep i (λ _. 0) (λ found. found)
  tries name named wanted i place = swapped i (name_at n g name) 0 0 place refl (counted
      (λ n g. MayStep (name_at n g name) (λ _. 0) (λ found. found))
      (allows about slots id (name_at v.config.schedulers v.trace.greatest name) (λ _. 0)
      (λ found. found) v xs st (TakeTry name) is wanted.1 (λ q. cc)
      (fits-tried v (mine wanted.0) xs name named.0 (omega (arith, named.1, at.greatest))
      wanted.1)))
