-- Seats that are dealt, one for each scheduler.
use Rattle.std.proofs.Common.{◌≡◌, ◌≢◌, ℕ, suc, ◌+◌, ◌-◌, ◌<◌, ◌≤◌, List, [], ◌∷◌, ◌++◌}
use Rattle.std.proofs.Common.{map, length, get_or, refl, sym, ap, ◌∙◌, subst, arith}
use Rattle.std.specs.Prelude.{All}
use Rattle.std.specs.List.{range_with_len}
use Rattle.std.proofs.lemmas.List.{length_push}
use Rattle.std.proofs.lemmas.List.Elements.{All-map}
use Rattle.std.proofs.lemmas.List.FromFn.{get_or-range_with_len, length-range_with_len}
use Rattle.atomic_table.specs.Seated.{TableId}
use Rattle.atomic_table.specs.Table.{Splits}
use Rattle.ea_model.specs.declared.settings.Config.{Config}
use Rattle.ea_model.specs.declared.trace.Trace.{Trace}
use Rattle.ea_table.specs.declared.pass.Pass.{Pass}
use Rattle.ea_table.specs.declared.views.About.{About}
use Rattle.ea_table.specs.declared.views.View.{View}
use Rattle.ea_table.specs.Ruling.{IsSingle, acting, dealt_left, dealt_right}
use Rattle.ea_table.specs.Ruling.{holds, waiting, waiting_from}
use Rattle.ea_table.specs.Threads.{IsDealt}
use Rattle.ea_table.proofs.Opening.{splits}
use Rattle.ea_table.proofs.Threading.{one-more}

apart-from : (i j count : ℕ) → i < j
    → All (λ x. x.number ≢ i) (map waiting (range_with_len j count))
apart-from i j count less = All-map (λ x. x.number ≢ i) waiting (range_with_len j count)
    (λ k d within q.
    omega (arith, q, less, within, get_or-range_with_len j count k d (bound k within))) where
      bound : (k : ℕ) → k < length (range_with_len j count) → k < count
      bound k within = omega (arith, within, length-range_with_len j count)

pub deals : (about : About) (id i rest : ℕ) (v : View)
    → v ≡ waiting_from about.config about.trace.now i (suc rest)
    → Splits (holds about) id v (dealt_left v) (dealt_right v)
deals about id i rest v is =
    subst (λ u. Splits (holds about) id u (dealt_left u) (dealt_right u)) (sym is)
    (splits about id (waiting_from about.config about.trace.now i (suc rest)) refl
    (apart-from i (i + 1) rest (omega arith)) refl)

pub single-is : (c : Config) (t : Trace) (i : ℕ) (v : View) → v ≡ waiting_from c t i 1 → IsSingle v
single-is c t i v is = subst IsSingle (sym is) refl

-- what each of the two seats has after a split
pub left-is : (c : Config) (t : Trace) (i rest : ℕ) (v u : View)
    → v ≡ waiting_from c t i (suc rest) → 1 ≤ rest → u ≡ dealt_left v
    → u ≡ waiting_from c t (i + 1) (suc (rest - 1))
left-is c t i rest v u is more left = left ∙ ap dealt_left is
    ∙ ap (waiting_from c t (i + 1)) (let e : rest ≡ suc (rest - 1) = omega (arith, more) in e)

pub last-is : (c : Config) (t : Trace) (i rest : ℕ) (v : View)
    → v ≡ waiting_from c t i (suc rest) → rest ≡ 0 → v ≡ waiting_from c t i 1
last-is c t i rest v is none = is ∙ ap (λ k. waiting_from c t i (suc k)) none

pub right-is : (c : Config) (t : Trace) (i rest : ℕ) (v u : View)
    → v ≡ waiting_from c t i (suc rest) → u ≡ dealt_right v → u ≡ waiting_from c t i 1
right-is c t i rest v u is right = right ∙ ap dealt_right is

pub older-is : (c : Config) (t : Trace) (i : ℕ) (v : View) → v ≡ waiting_from c t i 1
    → 0 ≡ (acting v).older
older-is c t i v is = sym (ap (λ (u : View). (acting u).older) is)

pub claim-is : (c : Config) (t : Trace) (i : ℕ) (v : View) → v ≡ waiting_from c t i 1
    → (acting v).claim ≡ 0
claim-is c t i v is = ap (λ (u : View). (acting u).claim) is

module _ (c : Config) (t : Trace) (id : TableId) where
  -- passes of the first n schedulers
  pub record ArePasses (n : ℕ) (passes : List Pass) : Type 0 where
    pub count : length passes ≡ n
    pub each : (k : ℕ) (d : Pass) → k < n → IsDealt c t id (k + 1) (get_or passes k d)

  pub none-dealt : ArePasses 0 []
  none-dealt = record { count = refl; each = λ k d less. absurd (omega (arith, less)) }

  pub one-dealt : (n : ℕ) (passes : List Pass) (p : Pass) → ArePasses n passes
      → IsDealt c t id (n + 1) p → ArePasses (n + 1) (passes ++ p ∷ [])
  one-dealt n passes p are is = record {
    count = omega (arith, length_push passes p, are.count);
    each = one-more (IsDealt c t id) n passes are.count are.each p is (passes ++ p ∷ []) refl;
  }
