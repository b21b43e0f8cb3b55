-- What is shared after rows that were done in plain memory, one after another.
use Rattle.std.proofs.Common.{◌≡◌, ℕ, Bool, true, false, ◌&&◌, List, [], ◌∷◌, Some}
use Rattle.std.proofs.Common.{refl, ap, ◌∙◌, arith}
use Rattle.std.specs.Prelude.{All}
use Rattle.std.proofs.lemmas.List.Elements.{All-nil, All-cons}
use Rattle.ea_model.specs.declared.carriers.Kind.TheVariants.{Multi}
use Rattle.ea_model.specs.declared.settings.Config.{Config}
use Rattle.ea_model.specs.declared.trace.Trace.{Trace}
use Rattle.ea_model.specs.Content.{Content, gaps_of, largest}
use Rattle.ea_machine.specs.declared.nodes.Node.{Node}
use Rattle.ea_machine.specs.declared.owners.OwnerWord.{OwnerWord}
use Rattle.ea_machine.specs.declared.owners.OwnerWord.TheVariants as word
use Rattle.ea_machine.specs.Alike.{HasNoAlike, alike_in, are_alike}
use Rattle.ea_machine.specs.Machine.{start}
use Rattle.ea_machine.specs.Nodes.{Mark}
use Rattle.ea_machine.specs.Owners.{Absent, Employed, Pooled, Busy, employed_if}
use Rattle.ea_machine.specs.Rows.{Answer, Row, Abandon, BusyTry, Create, FetchTry}
use Rattle.ea_machine.specs.Setup.{migration, setup_of}
use Rattle.ea_machine.specs.Shared.{Shared, put}
use Rattle.ea_machine.specs.Table.{effect, moved_if, tried_at}
use Rattle.ea_machine.specs.Sums.{one_if}
use Rattle.ea_shared.specs.Calls.{HasEffect}

told-is : (s t : Shared) → Some s ≡ Some t → s ≡ t
told-is s t e = cc

-- a row was done on what is shared
pub after-row : {me : ℕ} {row : Row} {got : Answer} {s t w : Shared} → s ≡ w
    → HasEffect me row got (Some t) s → t ≡ effect me row w
after-row {me} {row} {got} {s} {t} e d = told-is t (effect me row s) d.made ∙ ap (effect me row) e

one-none : (b : Bool) → one_if b ≡ 0 → b ≡ false
one-none true z = absurd (omega (arith, z))
one-none false z = refl

unlike : (node : Node) (ms : List Mark) → alike_in node ms ≡ 0
    → All (λ m. are_alike node m.node ≡ false) ms
unlike node [] none = All-nil (λ m. are_alike node m.node ≡ false)
unlike node (m ∷ ms) none = All-cons (λ m. are_alike node m.node ≡ false) m ms
    (one-none (are_alike node m.node) (omega (arith, none)))
    (unlike node ms (omega (arith, none)))

-- where no node is counted, none is alike
pub none-there : (node : Node) (w : Shared)
    → ((i : ℕ) → (alike_in node (w.queues i) ≡ 0) × (alike_in node (w.rests i) ≡ 0))
    → HasNoAlike node w
none-there node w none i =
    (unlike node (w.queues i) (none i).0, unlike node (w.rests i) (none i).1)

-- where carriers don't migrate nothing is shared at the start
abbrev pub nothing_shared : Shared
nothing_shared = record {
  places = λ number. Absent;
  queues = λ i. [];
  rests = λ i. [];
  given = [];
}

-- carrier 2 is no main carrier
pub first-absent : (c : Config) (t : Trace) → (start (setup_of c t)).shared.places 2 ≡ Absent
first-absent c t = by (migration (setup_of c t)) _ _ where
  by : (on seat some : Bool) → employed_if (on && (seat && (some && false))) 1 ≡ Absent
  by true true true = refl
  by true true false = refl
  by true false some = refl
  by false seat some = refl

put-same : {A : Type 0} (f : ℕ → A) (k : ℕ) (v : A) → put f k v k ≡ v
put-same f k v = grind arith

-- carrier 2 of instance 1, with one block
abbrev pub full : Content
full = record {
  number = 2;
  owner = 1;
  base = 64;
  birth = 0;
  units = 512;
  kind = Multi;
  blocks = record { name = 1; offset = 8; size = 14 } ∷ [];
}

-- its word in the pool
abbrev shown : OwnerWord
shown = word.Pooled 1 490

-- the row was done on what is shared
abbrev Done : ℕ → Answer → Shared → Shared → Row → Type 0
Done me got s t row = HasEffect me row got (Some t) s

-- where the carrier is after a row
module _ {me : ℕ} {got : Answer} {s t : Shared} where
  here : (row : Row) (n : ℕ) → Done me got s t row → t.places n ≡ (effect me row s).places n
  here row n d = ap (λ (x : Shared). x.places n) (after-row refl d)

  pub after-create : (n : ℕ) → Done me got s t (Create n) → t.places n ≡ Employed me
  unfolding effect
  after-create n d = here (Create n) n d ∙ put-same s.places n (Employed me)

  pub after-abandon : (x : Content) → Done me got s t (Abandon x)
      → t.places x.number ≡ Pooled me (largest (gaps_of x)) x
  unfolding effect
  after-abandon x d = here (Abandon x) x.number d
      ∙ put-same s.places x.number (Pooled me (largest (gaps_of x)) x)

  -- after a try of that carrier in the pool
  module _ (is : s.places 2 ≡ Pooled 1 490 full) where
    pub after-busy : Done me got s t (BusyTry 2 shown) → t.places 2 ≡ Busy me
    unfolding effect
    after-busy d = here (BusyTry 2 shown) 2 d
        ∙ ap (λ p. (moved_if (tried_at shown p) 2 (Busy me) s).places 2) is
        ∙ put-same s.places 2 (Busy me)

    pub after-fetch : Done me got s t (FetchTry 2 shown) → t.places 2 ≡ Employed me
    unfolding effect
    after-fetch d = here (FetchTry 2 shown) 2 d
        ∙ ap (λ p. (moved_if (tried_at shown p) 2 (Employed me) s).places 2) is
        ∙ put-same s.places 2 (Employed me)

  -- after one that is lost, since it is busy
  pub after-lost : (i : ℕ) → s.places 2 ≡ Busy i → Done me got s t (FetchTry 2 shown)
      → t.places 2 ≡ Busy i
  unfolding effect
  after-lost i is d = here (FetchTry 2 shown) 2 d
      ∙ ap (λ p. (moved_if (tried_at shown p) 2 (Employed me) s).places 2) is
      ∙ is
