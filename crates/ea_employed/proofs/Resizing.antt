-- The carriers and their bins where a block has another size.
use Rattle.std.proofs.Common.{◌≡◌, ℕ, ◌+◌, ◌-◌, ◌<◌, ◌≤◌, List, [], ◌∷◌, ◌++◌}
use Rattle.std.proofs.Common.{append-nil, map, sym, ap, ◌∙◌, subst, refl, arith}
use Rattle.std.specs.Prelude.{Option, sum_by}
use Rattle.std.proofs.lemmas.List.Sorted.{IsPermutation-sym, IsPermutation-trans}
use Rattle.ea_model.specs.declared.carriers.Gap as model
use Rattle.ea_model.specs.declared.settings.Strategy.{Strategy}
use Rattle.ea_model.specs.Content.{Content, block_at, gap, gaps_of, largest, resized, size_of}
use Rattle.ea_model.specs.Instance.{changed}
use Rattle.ea_model.proofs.Rising.{item_at-All}
use Rattle.ea_mbc.specs.Gaps.{Replaced}
use Rattle.ea_goodfit.specs.declared.gaps.BinnedGap.{BinnedGap}
use Rattle.ea_goodfit.specs.Gaps.{HeldGaps}
use Rattle.ea_cset.specs.Carriers.{Carriers}
use Rattle.ea_laws.specs.Kept.{number_of, IsLaidOut}
use Rattle.ea_laws.proofs.Apart.{only-item}
use Rattle.ea_laws.proofs.Changed.{KeepsPlace}
use Rattle.ea_laws.proofs.Chosen.{gap_none, gap_some}
use Rattle.ea_employed.specs.Binned.{Hold}
use Rattle.ea_employed.specs.Laid.{AreLaid}
use Rattle.ea_employed.proofs.Changing.{IsRenaming, IsResizing}
use Rattle.ea_employed.specs.Listed.{all_gaps, held_of, IsListed}
use Rattle.ea_mbc.specs.declared.carrier.Resized.{Resized}
use Rattle.ea_employed.proofs.BinsAfter.{is-cut, is-join, Hold-permuted, IsCut, IsJoin}
use Rattle.ea_employed.proofs.Changed.{map-kept}
use Rattle.ea_employed.proofs.Counting.{sum-changed, units_in}
use Rattle.ea_employed.proofs.Gaps.{at_base, gaps-replaced}

-- another size, which the carrier gives, changes blocks alone
pub resized_by-keeps : (offset : ℕ) (units : Content → ℕ) (name : ℕ)
    → KeepsPlace (λ c. resized c offset (units c) name)
resized_by-keeps offset units name = record {
  number = λ _. refl;
  base = λ _. refl;
  birth = λ _. refl;
  units = λ _. refl;
  kind = λ _. refl;
}

same_gap : (a b c d : ℕ) → a ≡ c → b ≡ d → gap a b ≡ gap c d
same_gap a b c d e f = ap (λ n. gap n b) e ∙ ap (gap c) f

one_gap : (a b offset size : ℕ) → a < b → offset ≡ a → size ≡ b - a
    → gap a b ≡ record { offset = offset; size = size } ∷ []
one_gap a b offset size lt e f =
    gap_some a b lt ∙ ap (λ n. record { offset = a; size = n } ∷ []) (sym f)
    ∙ ap (λ n. record { offset = n; size = size } ∷ []) (sym e)

module _ (number offset : ℕ) (units : Content → ℕ) (name address : ℕ) (r : Resized)
    (cs new : List Content) (laid : AreLaid cs)
    (w : IsResizing number offset units name address r cs new) where
  abbrev f : Content → Content
  f c = resized c offset (units c) name

  abbrev Replaces : List model.Gap → List model.Gap → Type 0
  Replaces gone made = Replaced (gaps_of w.content) (gaps_of (f w.content)) gone made

  resized_gap : Replaces (gap (offset + r.was) (offset + r.was + r.after))
      (gap (offset + r.size) (offset + r.was + r.after))
  resized_gap =
      subst (λ n. Replaces (gap (offset + r.was) (offset + r.was + n))
      (gap (offset + r.size) (offset + r.was + n))) (sym w.block.after) w.block.gap

  sound : IsLaidOut (f w.content)
  sound =
      let here = item_at-All number_of IsLaidOut number w.content cs laid.sound w.there in
      record {
        whole = here.whole;
        shared = here.shared;
        tiled = w.block.tiled;
        low = here.low;
      }

  -- what the block gives back joins the gap behind it
  pub shrinking-IsJoin : r.size < r.was
      → IsJoin (all_gaps cs) (all_gaps new) (address + r.size) 0 (r.was - r.size)
      r.after
  shrinking-IsJoin fewer =
      let o : ℕ = offset + r.size in
      let s : ℕ = r.was - r.size in
      let gone : gap (offset + r.was) (offset + r.was + r.after)
      ≡ gap (o - 0) o ++ gap (o + s) (o + s + r.after) =
      same_gap (offset + r.was) (offset + r.was + r.after) (o + s)
      (o + s + r.after) (omega arith) (omega arith)
      ∙ ap (λ gs. gs ++ gap (o + s) (o + s + r.after)) (sym (gap_none (o - 0) o (omega arith)))
      in
      let made : gap (offset + r.size) (offset + r.was + r.after)
      ≡ record { offset = o - 0; size = 0 + s + r.after } ∷ [] =
      one_gap (offset + r.size) (offset + r.was + r.after) (o - 0)
      (0 + s + r.after) (omega arith) (omega arith) (omega arith) in
      subst (λ ys. IsJoin (all_gaps cs) (all_gaps ys) (address + r.size) 0
      (r.was - r.size) r.after) (sym w.is)
      (is-join f (resized_by-keeps offset units name) number w.content cs w.there laid sound
      (address + r.size) o 0 s r.after (omega (arith, w.block.place)) (omega arith)
      (subst (λ gs. Replaces gs (record { offset = o - 0; size = 0 + s + r.after } ∷ [])) gone
      (subst (Replaces (gap (offset + r.was) (offset + r.was + r.after))) made
      resized_gap)))

  -- what the block takes is the front of the gap behind it
  pub growing-IsCut : r.was < r.size → r.size ≤ r.was + r.after
      → IsCut (all_gaps cs) (all_gaps new) (address + r.was) r.after
      (r.size - r.was)
  growing-IsCut more fits =
      let o : ℕ = offset + r.was in
      let s : ℕ = r.size - r.was in
      let gone : gap o (o + r.after) ≡ record { offset = o; size = r.after } ∷ [] =
      one_gap o (o + r.after) o r.after (omega arith) refl (omega arith) in
      let made : gap (offset + r.size) (o + r.after) ≡ gap (o + s) (o + r.after) =
      ap (λ n. gap n (o + r.after)) (omega arith) in
      subst (λ ys. IsCut (all_gaps cs) (all_gaps ys) (address + r.was) r.after
      (r.size - r.was)) (sym w.is)
      (is-cut f (resized_by-keeps offset units name) number w.content cs w.there laid sound
      (address + r.was) o r.after s (omega (arith, w.block.place)) (omega arith)
      (subst (λ gs. Replaces gs (gap (o + s) (o + r.after))) gone
      (subst (Replaces (gap o (o + r.after))) made resized_gap)))

-- another name changes neither the set nor the bins
pub renaming-IsListed : (number offset name : ℕ) (cs new : List Content) (s : Strategy)
    (units : ℕ) (set : Carriers) (bins : Option HeldGaps) → AreLaid cs
    → IsRenaming number offset name cs new → IsListed s units cs set bins
    → IsListed s units new set bins
renaming-IsListed number offset name cs new s units set bins laid w l =
    let c = w.content in
    let f : Content → Content = λ d. resized d offset (size_of (block_at d.blocks offset)) name in
    let here = item_at-All number_of IsLaidOut number c cs laid.sound w.there in
    let all = gaps-replaced f number c cs laid.rising w.there refl refl refl here.shared (gaps_of c)
    (gaps_of c) [] [] (sym (append-nil (gaps_of c))) (w.gaps ∙ sym (append-nil (gaps_of c))) in
    let parts : List BinnedGap = map (at_base c.base) (gaps_of c) ++ all.0 in
    record {
      order = l.order;
      held =
          l.held
          ∙ sym (map-kept held_of f number c cs (only-item number c cs laid.rising w.there)
          (ap (λ gs. record {
            key = record { number = c.number; base = c.base; birth = c.birth };
            fit = largest gs;
          }) w.gaps))
          ∙ sym (ap (map held_of) w.is);
      room = l.room;
      fit = l.fit;
      gaps = subst (λ ys. Hold bins (all_gaps ys)) (sym w.is)
          (Hold-permuted bins (all_gaps cs) (all_gaps (changed f number cs))
          (IsPermutation-trans (all_gaps cs) parts (all_gaps (changed f number cs)) all.1
          (IsPermutation-sym (all_gaps (changed f number cs)) parts all.2)) l.gaps);
      places = l.places;
      few = λ yes. omega (
        arith,
        l.few yes,
        ap (sum_by units_in) w.is,
        sum-changed number_of number c units_in f cs laid.rising w.there,
      );
    }
