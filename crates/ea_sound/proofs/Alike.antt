-- A scheduler in place of another, between two rows: with names, nodes and contents that balance
-- alike, all that every moment keeps is kept.
use Rattle.std.proofs.Common.{◌≡◌, ℕ, ◌+◌, ◌<◌, ◌≤◌, Bool, true, false, refl, sym, ap, ◌∙◌, subst}
use Rattle.std.proofs.Common.{inl, inr, arith}
use Rattle.std.proofs.Math.Path.{fun_ext}
use Rattle.std.proofs.lemmas.Bool.{cases_eq}
use Rattle.ea_model.specs.declared.carriers.Spot.{Spot}
use Rattle.ea_machine.specs.declared.nodes.Node.{Node}
use Rattle.ea_machine.specs.Actor.{Actor}
use Rattle.ea_sound.specs.Contents.{seats}
use Rattle.ea_sound.specs.Names.{allocated, only}
use Rattle.ea_sound.specs.NodePlaces.{of_carrier_actor}
use Rattle.ea_machine.specs.Setup.{Setup, is_scheduler, migration}
use Rattle.ea_machine.specs.Shared.{Shared, put}
use Rattle.ea_machine.specs.State.{State}
use Rattle.ea_machine.specs.Sums.{total_at}
use Rattle.ea_sound.specs.Moments.{with_actor}
use Rattle.ea_sound.specs.Rule.{Kept, Placed, blocks_of, names_of, numbers_of, of_own, own_numbers}
use Rattle.ea_sound.specs.Rule.{placed_by}
use Rattle.ea_sound.proofs.NameRows.{names_moved}
use Rattle.ea_sound.proofs.Numbered.{scheduler-seat}
use Rattle.ea_sound.proofs.PlaceRows.{by_owner}
use Rattle.ea_sound.proofs.RangeRows.{LieWell, ranges-actor, ranges_moved}
use Rattle.ea_sound.proofs.ReturnRows.{returns_moved}
use Rattle.ea_sound.proofs.Totals.{put-here, put-other, total-put, total_at-put}
use Rattle.ea_sound.proofs.UnlinkedRows.{of_links, unlinked_moved}

-- a scheduler has the same excess of names over blocks, the same nodes, and the same contents and
-- own carriers; where carriers don't migrate both may have changed alike
pub record Alike (e : Setup) (me : ℕ) (a b : Actor) : Type 0 where
  pub names : (f : ℕ → Spot → ℕ) → names_of f b + blocks_of f a ≡ names_of f a + blocks_of f b
  pub links : (u : ℕ → Node → ℕ) → of_links u b ≡ of_links u a
  pub nodes : (g : ℕ → ℕ → ℕ) → of_carrier_actor g me b ≡ of_carrier_actor g me a
  pub numbers : (h k : ℕ → ℕ → ℕ) → migration e ≡ true
      → numbers_of h k me b ≡ numbers_of h k me a
  pub numbers_off : (h k : ℕ → ℕ → ℕ) → migration e ≡ false
      → numbers_of h k me b + own_numbers k me a ≡ numbers_of h k me a + own_numbers k me b
  pub owned : (m : ℕ → ℕ → ℕ → ℕ → ℕ)
      → by_owner m b + of_own m me a ≡ by_owner m a + of_own m me b
  pub lie : LieWell e me b

module _ (e : Setup) (w : State) (me : ℕ) (seat : me < seats e) (k : Kept e w) (a b : Actor)
    (is : w.actors me ≡ a) (alike : Alike e me a b) where
  placed-alike : Placed e (with_actor w w.shared me b)
  placed-alike = record {
    contents = λ h j. by h j (migration e) refl (k.placed.contents h j);
    own = λ m. omega (
      arith,
      k.placed.own m,
      alike.owned m,
      ap (by_owner m) is,
      ap (of_own m me) is,
      total-put (by_owner m) w.actors me b (seats e) seat,
      total_at-put (of_own m) w.actors me b (seats e) seat,
    );
    pooled = k.placed.pooled;
    returning = k.placed.returning;
    off = k.placed.off;
    beyond = k.placed.beyond;
  } where
    by : (h j : ℕ → ℕ → ℕ) (on : Bool) → migration e ≡ on
        → total_at (seats e) (numbers_of h j) w.actors ≡ placed_by e h j w on
        → total_at (seats e) (numbers_of h j) (put w.actors me b)
        ≡ placed_by e h j (with_actor w w.shared me b) on
    by h j true m q = omega (
      arith,
      q,
      alike.numbers h j m,
      ap (numbers_of h j me) is,
      total_at-put (numbers_of h j) w.actors me b (seats e) seat,
    )
    by h j false m q = omega (
      arith,
      q,
      alike.numbers_off h j m,
      ap (numbers_of h j me) is,
      ap (own_numbers j me) is,
      total_at-put (numbers_of h j) w.actors me b (seats e) seat,
      total_at-put (own_numbers j) w.actors me b (seats e) seat,
    )

  kept-alike : ((n : ℕ) → allocated e (only n) (with_actor w w.shared me b) ≤ 1)
      → Kept e (with_actor w w.shared me b)
  kept-alike once = record {
    ranges = ranges_moved e w me b k.ranges alike.lie w.shared
        (λ c. (k.ranges.home c, k.ranges.home_laid c));
    names = names_moved e w me seat w.shared b k.names
        (λ f. omega (arith, alike.names f, ap (names_of f) is, ap (blocks_of f) is)) once;
    unlinked = unlinked_moved e w me seat k.unlinked w.shared b
        (λ u. omega (arith, alike.links u, ap (of_links u) is));
    placed = placed-alike;
    returns = returns_moved e w me seat k.returns w.shared b
        (λ g. omega (arith, alike.nodes g, ap (of_carrier_actor g me) is)) k.returns.to_owner;
  }

put-twice : {A : Type 0} (m : ℕ → A) (k : ℕ) (u v : A) → put (put m k u) k v ≡ put m k v
put-twice m k u v = fun_ext (λ n. elim (cases_eq n k) [
  | inl q ↦ put-here (put m k u) k v n q ∙ sym (put-here m k v n q)
  | inr other ↦ put-other (put m k u) k v n other ∙ put-other m k u n other
      ∙ sym (put-other m k v n other)
])

-- in the middle of a step
module _ (e : Setup) (w : State) (s : Shared) (me : ℕ) (is : is_scheduler e me ≡ true) where
  -- a name has as many blocks
  pub allocated-with : (f : ℕ → Spot → ℕ) (a b : Actor)
      → allocated e f (with_actor w s me b) + blocks_of f a
      ≡ allocated e f (with_actor w s me a) + blocks_of f b
  allocated-with f a b = omega (
    arith,
    total-put (blocks_of f) w.actors me a (seats e) (scheduler-seat e me is),
    total-put (blocks_of f) w.actors me b (seats e) (scheduler-seat e me is),
  )

  -- its contents lie well
  pub lies-with : (a : Actor) → Kept e (with_actor w s me a) → LieWell e me a
  lies-with a k = subst (LieWell e me) (put-here w.actors me a me refl)
      (ranges-actor e (with_actor w s me a) k.ranges me)

  -- a scheduler in place of another, where no name has two blocks
  pub kept-with : (a b : Actor) → Kept e (with_actor w s me a) → Alike e me a b
      → ((n : ℕ) → allocated e (only n) (with_actor w s me b) ≤ 1) → Kept e (with_actor w s me b)
  kept-with a b k alike once =
      let twice = put-twice w.actors me a b in
      subst (λ m. Kept e (record { shared = s; actors = m })) twice
      (kept-alike e (with_actor w s me a) me (scheduler-seat e me is) k a b
      (put-here w.actors me a me refl) alike
      (λ n. subst (λ m. allocated e (only n) (record { shared = s; actors = m }) ≤ 1) (sym twice)
      (once n)))

  pub fewer-once : (a b : Actor) → Kept e (with_actor w s me a)
      → ((n : ℕ) → blocks_of (only n) b ≤ blocks_of (only n) a) → (n : ℕ)
      → allocated e (only n) (with_actor w s me b) ≤ 1
  fewer-once a b k fewer n = omega (arith, allocated-with (only n) a b, fewer n, k.names.once n)
