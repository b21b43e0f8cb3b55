-- What the writes of a change make of the units and names.
use Rattle.std.proofs.Common.{◌≡◌, ◌≢◌, ℕ, ◌+◌, ◌-◌, ◌*◌, ◌/◌, ◌<◌, ◌≤◌, ◌⊎◌, Bool, true, false}
use Rattle.std.proofs.Common.{List, length, set, ap, ◌∙◌, inl, inr, arith}
use Rattle.std.specs.Prelude.{slice_index, nat_lt, ◌==◌}
use Rattle.std.proofs.lemmas.List.{length-set, get_or-set_same, get_or-set_other}
use Rattle.ea_tags.specs.Words.{code}
use Rattle.ea_mbc.specs.Coding.{GapCoded, Told, Laid, Cleared}

-- w2 is w1 but for the units of a gap
abbrev pub Beside : List ℕ → List ℕ → ℕ → ℕ → Type 0
Beside w1 w2 from to = (k : ℕ) → (k < from) ⊎ (to ≤ k) → slice_index w2 k ≡ slice_index w1 k

-- vs is w2 but for the unit at `stop`
abbrev pub But : List ℕ → List ℕ → ℕ → Type 0
But w2 vs stop = (k : ℕ) → k ≢ stop → slice_index vs k ≡ slice_index w2 k

gap_still : (w2 vs : List ℕ) (end from stop : ℕ) → GapCoded w2 end from stop → But w2 vs stop
    → GapCoded vs end from stop
gap_still w2 vs end from stop g but = λ lt. (
  but from (λ e. absurd (omega arith)) ∙ (g lt).0,
  but (stop - 1) (λ e. absurd (omega arith)) ∙ (g lt).1,
)

pub its_name-is : (ns ms : List ℕ) (offset name : ℕ) → offset / 2 < length ns
    → ms ≡ set ns (offset / 2) name → slice_index ms (offset / 2) ≡ name
its_name-is ns ms offset name lt e =
    ap (λ xs. slice_index xs (offset / 2)) e ∙ get_or-set_same ns (offset / 2) name 0 lt

pub others-are : (ns ms : List ℕ) (offset name : ℕ) → ms ≡ set ns (offset / 2) name → (k : ℕ)
    → k ≢ offset / 2 → slice_index ms k ≡ slice_index ns k
others-are ns ms offset name e k n =
    ap (λ xs. slice_index xs k) e ∙ get_or-set_other ns (offset / 2) k name 0 n

pub written-Laid : (ws w1 w2 vs ns ms : List ℕ) (end offset size stop name : ℕ) (prev : Bool)
    → 1 ≤ size → offset + size ≤ stop → stop ≤ end → length ws ≡ end → end ≤ 2 * length ns
    → w1 ≡ set ws offset (code (record {
      size = size;
      this_free = false;
      prev_free = prev;
      last = (offset + size) == end;
    })) → length w2 ≡ length w1 → GapCoded w2 end (offset + size) stop
    → Beside w1 w2 (offset + size) stop → length vs ≡ length w2
    → Told w2 vs end stop (nat_lt (offset + size) stop) → But w2 vs stop
    → ms ≡ set ns (offset / 2) name → Laid ws vs ns ms end offset size stop name prev
written-Laid ws w1 w2 vs ns ms end offset size stop name prev some le within long half first l2 gap
    beside l3 told but names =
    let l1 : length w1 ≡ length ws = ap length first ∙ length-set ws offset _ in
    let others : (k : ℕ) → k ≢ offset → (k < offset + size) ⊎ (stop ≤ k)
    → slice_index w2 k ≡ slice_index ws k = λ k n out. beside k out
    ∙ ap (λ xs. slice_index xs k) first ∙ get_or-set_other ws offset k _ 0 n in
    record {
      words = l3 ∙ l2 ∙ l1;
      halves = ap length names ∙ length-set ns (offset / 2) name;
      header = but offset (λ e. absurd (omega arith)) ∙ beside offset (inl (omega arith))
          ∙ ap (λ xs. slice_index xs offset) first
          ∙ get_or-set_same ws offset _ 0 (omega arith);
      gap = gap_still w2 vs end (offset + size) stop gap but;
      told = λ lt n f p l e. told lt n f p l
          (others stop (λ no. absurd (omega arith)) (inr (omega arith)) ∙ e);
      kept = λ k out. elim out [
        | inl lt ↦ but k (λ e. absurd (omega arith))
            ∙ others k (λ e. absurd (omega arith)) (inl (omega arith))
        | inr lt ↦ but k (λ e. absurd (omega arith))
            ∙ others k (λ e. absurd (omega arith)) (inr (omega arith))
      ];
      its_name = its_name-is ns ms offset name (omega arith) names;
      other_names = others-are ns ms offset name names;
    }

pub written-Cleared : (ws w2 vs ns ms : List ℕ) (end start offset stop : ℕ)
    → (start ≤ offset) × (offset < stop) → stop ≤ end → end ≤ 2 * length ns
    → length w2 ≡ length ws → GapCoded w2 end start stop
    → Beside ws w2 start stop → length vs ≡ length w2 → Told w2 vs end stop true
    → But w2 vs stop → ms ≡ set ns (offset / 2) 0 → Cleared ws vs ns ms end start offset stop
written-Cleared ws w2 vs ns ms end start offset stop lt within half l2 gap beside l3 told but names
    =
    record {
      words = l3 ∙ l2;
      halves = ap length names ∙ length-set ns (offset / 2) 0;
      gap = gap_still w2 vs end start stop gap but;
      told = λ some n f p l e. told some n f p l (beside stop (inr (omega arith)) ∙ e);
      kept = λ k out. elim out [
        | inl before ↦ but k (λ e. absurd (omega arith)) ∙ beside k (inl (omega arith))
        | inr after ↦ but k (λ e. absurd (omega arith)) ∙ beside k (inr (omega arith))
      ];
      its_name = its_name-is ns ms offset 0 (omega arith) names;
      other_names = others-are ns ms offset 0 names;
    }
