-- Each content stays where its carrier's word says.
use Rattle.std.proofs.Common.{◌≡◌, ◌≢◌, ℕ, ◌+◌, ◌*◌, ◌<◌, [], true, false, refl, sym, ap, ◌∙◌}
use Rattle.std.proofs.Common.{subst, arith}
use Rattle.std.specs.Prelude.{Bool}
use Rattle.ea_model.specs.declared.carriers.Kind.TheVariants.{Multi}
use Rattle.ea_model.specs.declared.carriers.OwnCarrier.{OwnCarrier}
use Rattle.ea_model.specs.Content.{gaps_of, largest}
use Rattle.ea_machine.specs.Actor.{Actor}
use Rattle.ea_sound.specs.Contents.{actor_sum, home_sum, seats, slots}
use Rattle.ea_machine.specs.Owners.{CarrierAt, Absent, Employed, Pooled, Busy, Returning}
use Rattle.ea_model.specs.Instance.{owner_of}
use Rattle.ea_machine.specs.Setup.{Setup, is_scheduler, migration}
use Rattle.ea_machine.specs.Shared.{Shared, at_place, put}
use Rattle.ea_machine.specs.State.{State}
use Rattle.ea_machine.specs.Sums.{sum_over, total, total_at}
use Rattle.ea_sound.specs.Moments.{with_actor}
use Rattle.ea_sound.specs.Rule.{Kept, Placed, employed_at, numbers_of, of_own, of_owner}
use Rattle.ea_sound.specs.Rule.{own_numbers, placed_by}
use Rattle.ea_sound.proofs.Totals.{put-other, total-put, total_at-put}

-- where a carrier may be: in the pool with its blocks and its largest gap, or on its way to its
-- owner without blocks, by its own number
abbrev pub MayBe : Setup → ℕ → CarrierAt → Type 0
MayBe e c Absent = Unit {0}
MayBe e c (Employed i) = Unit {0}
MayBe e c (Pooled i g x) = (x.number ≡ c) × (x.kind ≡ Multi) × (x.blocks ≢ [])
    × (g ≡ largest (gaps_of x)) × (is_scheduler e i ≡ true)
MayBe e c (Busy i) = Unit {0}
MayBe e c (Returning i x) = (x.number ≡ c) × (x.kind ≡ Multi) × (i ≡ owner_of c) × (x.blocks ≡ [])

pub kept-MayBe : (e : Setup) (w : State) → Kept e w → (c : ℕ) → MayBe e c (w.shared.places c)
kept-MayBe e w k c = by (w.shared.places c) refl where
  by : (p : CarrierAt) → w.shared.places c ≡ p → MayBe e c p
  by Absent q = tt
  by (Employed i) q = tt
  by (Pooled i g x) q = k.placed.pooled c i g x q
  by (Busy i) q = tt
  by (Returning i x) q =
      let t = k.placed.returning c i x q in
      let u = k.returns.to_owner c i x q in
      (t.0, t.1, u.0, u.1)

-- the contents at a scheduler by their owners
abbrev pub by_owner : (ℕ → ℕ → ℕ → ℕ → ℕ) → Actor → ℕ
by_owner m a = actor_sum (of_owner m) (of_owner m) a

-- a scheduler has the same contents and own carriers, by number and by owner, and places stay
pub record SamePlaces (w : State) (me : ℕ) (s : Shared) (a : Actor) : Type 0 where
  pub places : s.places ≡ w.shared.places
  pub contents : (b k : ℕ → ℕ → ℕ) → numbers_of b k me a ≡ numbers_of b k me (w.actors me)
  pub owned : (m : ℕ → ℕ → ℕ → ℕ → ℕ) → by_owner m a ≡ by_owner m (w.actors me)
  pub own : a.instance.own ≡ (w.actors me).instance.own

module _ (e : Setup) (w : State) (me : ℕ) (seat : me < seats e) (h : Placed e w) (a : Actor) where
  pub placed_same : (s : Shared) → SamePlaces w me s a → Placed e (with_actor w s me a)
  placed_same s same = record {
    contents = λ b k. by b k (migration e) (h.contents b k);
    own = λ m. omega (
      arith,
      h.own m,
      same.owned m,
      total-put (by_owner m) w.actors me a (seats e) seat,
      total_at-put (of_own m) w.actors me a (seats e) seat,
      ap (sum_over (λ (o : OwnCarrier). m me o.number o.base (512 * o.pages))) same.own,
      ap (λ p. total (slots e) (home_sum (of_owner m)) p) same.places,
    );
    pooled = λ c i g x q. h.pooled c i g x (sym (ap (λ p. p c) same.places) ∙ q);
    returning = λ c i x q. h.returning c i x (sym (ap (λ p. p c) same.places) ∙ q);
    off = λ off c. ap (λ p. p c) same.places ∙ h.off off c;
    beyond = λ c l. ap (λ p. p c) same.places ∙ h.beyond c l;
  } where
    by : (b k : ℕ → ℕ → ℕ) (on : Bool)
        → total_at (seats e) (numbers_of b k) w.actors ≡ placed_by e b k w on
        → total_at (seats e) (numbers_of b k) (put w.actors me a)
        ≡ placed_by e b k (with_actor w s me a) on
    by b k true q = omega (
      arith,
      q,
      same.contents b k,
      total_at-put (numbers_of b k) w.actors me a (seats e) seat,
      ap (total_at (slots e) (employed_at b k)) same.places,
    )
    by b k false q = omega (
      arith,
      q,
      same.contents b k,
      total_at-put (numbers_of b k) w.actors me a (seats e) seat,
      total_at-put (own_numbers k) w.actors me a (seats e) seat,
      ap (sum_over (λ (o : OwnCarrier). k me o.number)) same.own,
    )

  -- a carrier is at another place, and its content with it
  pub placed_at_place : migration e ≡ true → (c : ℕ) (p : CarrierAt) → c < slots e
      → ((d : ℕ) → MayBe e d (put w.shared.places c p d))
      → ((b k : ℕ → ℕ → ℕ) → numbers_of b k me a + employed_at b k c (w.shared.places c)
      ≡ numbers_of b k me (w.actors me) + employed_at b k c p)
      → ((m : ℕ → ℕ → ℕ → ℕ → ℕ) → by_owner m a + home_sum (of_owner m) p
      + of_own m me (w.actors me)
      ≡ by_owner m (w.actors me) + home_sum (of_owner m) (w.shared.places c) + of_own m me a)
      → Placed e (with_actor w (at_place c p w.shared) me a)
  placed_at_place on c p slot may numbers owns = record {
    contents = λ b k. by b k (migration e) on (h.contents b k);
    own = λ m. omega (
      arith,
      h.own m,
      owns m,
      total-put (by_owner m) w.actors me a (seats e) seat,
      total_at-put (of_own m) w.actors me a (seats e) seat,
      total-put (home_sum (of_owner m)) w.shared.places c p (slots e) slot,
    );
    pooled = λ d i g x q. subst (MayBe e d) q (may d);
    returning = λ d i x q.
        let t = subst (MayBe e d) q (may d) in
        (t.0, t.1);
    off = λ off. absurd (let t : true ≡ false = sym on ∙ off in cc);
    beyond = λ d l.
        put-other w.shared.places c p d (λ q. omega (arith, q, l)) ∙ h.beyond d l;
  } where
    by : (b k : ℕ → ℕ → ℕ) (m : Bool) → m ≡ true
        → total_at (seats e) (numbers_of b k) w.actors ≡ placed_by e b k w m
        → total_at (seats e) (numbers_of b k) (put w.actors me a)
        ≡ placed_by e b k (with_actor w (at_place c p w.shared) me a) m
    by b k true is q = omega (
      arith,
      q,
      numbers b k,
      total_at-put (numbers_of b k) w.actors me a (seats e) seat,
      total_at-put (employed_at b k) w.shared.places c p (slots e) slot,
    )
    by b k false is q = absurd cc
