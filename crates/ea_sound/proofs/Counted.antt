-- A content, wherever it is, counts once in the sum over all contents.
use Rattle.std.proofs.Common.{◌≡◌, ◌≢◌, ◌≤◌, ℕ, ◌+◌, ◌<◌, List, [], ◌∷◌, refl, arith}
use Rattle.std.specs.Prelude.{All, ◌==◌}
use Rattle.std.proofs.lemmas.List.Elements.{All-cons, All-nil, All-weaker}
use Rattle.ea_model.specs.Content.{Content}
use Rattle.ea_machine.specs.declared.stages.Stage.TheVariants.{Begin}
use Rattle.ea_machine.specs.Actor.{Actor}
use Rattle.ea_sound.specs.Contents.{actor_sum, home_sum, seats, slots, sum_everywhere}
use Rattle.ea_machine.specs.Owners.{CarrierAt, Absent}
use Rattle.ea_sound.specs.Places.{has_number}
use Rattle.ea_machine.specs.Setup.{Setup}
use Rattle.ea_machine.specs.Shared.{put}
use Rattle.ea_machine.specs.State.{State}
use Rattle.ea_machine.specs.Sums.{one_if, sum_over, total}
use Rattle.ea_sound.proofs.ActorWeights.{actor-none, home-none}
use Rattle.ea_sound.proofs.Global.{IsOf}
use Rattle.ea_sound.proofs.Totals.{total-none, total-part, total-put}
use Rattle.ea_sound.proofs.Weights.{one-itself, sum-none}

not_numbered : (c d : ℕ) → one_if (d == c) ≡ 0 → d ≢ c
not_numbered c d z s = grind (arith, z, s)

-- a sum of what is given for contents
abbrev pub Sum : Type 0
Sum = (Content → ℕ) → ℕ

-- where nothing is counted, nothing is summed
abbrev pub IsOfCounted : Sum → Type 0
IsOfCounted s = (g f : Content → ℕ) → ((x : Content) → g x ≡ 0 → f x ≡ 0) → s g ≡ 0 → s f ≡ 0

-- the content counts once in the sum, beside a rest
pub record CountsIn (s : Sum) (x : Content) : Type 0 where
  pub rest : Sum
  pub whole : (f : Content → ℕ) → s f ≡ f x + rest f
  pub counted : IsOfCounted rest

-- so in a greater one
pub counts-more : (s t r : Sum) (x : Content) → ((f : Content → ℕ) → t f ≡ s f + r f)
    → IsOfCounted r → CountsIn s x → CountsIn t x
counts-more s t r x parts counted c = record {
  rest = λ f. c.rest f + r f;
  whole = λ f. omega (arith, parts f, c.whole f);
  counted = λ g f h z. omega
      (arith, c.counted g f h (omega (arith, z)), counted g f h (omega (arith, z)));
}

abbrev pub list_sum : List Content → Sum
list_sum xs f = sum_over f xs

pub counts-all : (xs : List Content) → All (CountsIn (list_sum xs)) xs
counts-all [] = All-nil (CountsIn (list_sum []))
counts-all (x ∷ xs) =
    All-cons (CountsIn (list_sum (x ∷ xs))) x xs
    (record {
      rest = list_sum xs;
      whole = λ f. refl;
      counted = λ g f h z. sum-none g f xs h z;
    })
    (All-weaker (CountsIn (list_sum xs)) (CountsIn (list_sum (x ∷ xs)))
    (λ y c. counts-more (list_sum xs) (list_sum (x ∷ xs)) (λ f. f x) y
    (λ f. omega arith) (λ g f h z. h x z) c) xs (counts-all xs))

abbrev pub at_actor : Actor → Sum
at_actor a f = actor_sum f f a

abbrev without_contents : Actor → Actor
without_contents a = record a {
  instance = record a.instance { contents = []; singles = [] };
  stage = Begin;
}

abbrev actors_sum : ℕ → (ℕ → Actor) → Sum
actors_sum n m f = total n (actor_sum f f) m

abbrev homes_sum : ℕ → (ℕ → CarrierAt) → Sum
homes_sum n m f = total n (home_sum f) m

actors-counted : (n : ℕ) (m : ℕ → Actor) → IsOfCounted (actors_sum n m)
actors-counted n m g f h z = total-none (actor_sum f f) m n
    (λ i l. actor-none g g f f h h (m i) (omega (arith, z, total-part (actor_sum g g) m i n l)))

homes-counted : (n : ℕ) (m : ℕ → CarrierAt) → IsOfCounted (homes_sum n m)
homes-counted n m g f h z = total-none (home_sum f) m n
    (λ c l. home-none g f h (m c) (omega (arith, z, total-part (home_sum g) m c n l)))

module _ (e : Setup) (w : State) where
  abbrev pub all_contents : Sum
  all_contents f = sum_everywhere e f w

  pub all-counted : IsOfCounted all_contents
  all-counted g f h z = omega (
    arith,
    actors-counted (seats e) w.actors g f h (omega (arith, z)),
    homes-counted (slots e) w.shared.places g f h (omega (arith, z)),
  )

  -- the content counts once among all
  abbrev pub Counts : Content → Type 0
  Counts x = CountsIn all_contents x

  pub counts-seat : (i : ℕ) (x : Content) → i < seats e → CountsIn (at_actor (w.actors i)) x
      → Counts x
  counts-seat i x seat c =
      let others = put w.actors i (without_contents (w.actors i)) in
      counts-more (at_actor (w.actors i)) all_contents
      (λ f. actors_sum (seats e) others f + homes_sum (slots e) w.shared.places f) x
      (λ f. omega
      (arith, total-put (actor_sum f f) w.actors i (without_contents (w.actors i)) (seats e) seat))
      (λ g f h z. omega (
        arith,
        actors-counted (seats e) others g f h (omega (arith, z)),
        homes-counted (slots e) w.shared.places g f h (omega (arith, z)),
      )) c

  pub counts-home : (c : ℕ) (x : Content) → c < slots e
      → ((f : Content → ℕ) → home_sum f (w.shared.places c) ≡ f x) → Counts x
  counts-home c x slot home =
      let others = put w.shared.places c Absent in
      record {
        rest = λ f. actors_sum (seats e) w.actors f + homes_sum (slots e) others f;
        whole = λ f. omega
            (arith, home f, total-put (home_sum f) w.shared.places c Absent (slots e) slot);
        counted = λ g f h z. omega (
          arith,
          actors-counted (seats e) w.actors g f h (omega (arith, z)),
          homes-counted (slots e) others g f h (omega (arith, z)),
        );
      }

  pub counts-less : (x : Content) → Counts x → (f : Content → ℕ) → f x ≤ sum_everywhere e f w
  counts-less x c f = omega (arith, c.whole f)

  -- and alone, where one content of its number at most counts
  pub counts-only : (x : Content) → Counts x → sum_everywhere e (has_number x.number) w ≤ 1
      → (f : Content → ℕ) → IsOf x.number f → sum_everywhere e f w ≡ f x
  counts-only x c once f of = omega (
    arith,
    c.whole f,
    c.counted (has_number x.number) f (λ y z. of y (not_numbered x.number y.number z))
        (omega (arith, once, c.whole (has_number x.number), one-itself x.number)),
  )
