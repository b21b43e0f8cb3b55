use Rattle.std.proofs.Common.{◌≡◌, ℕ, true, [], List, ◌++◌, arith, ◌∙◌, ap, refl, sym, subst}
use Rattle.std.specs.Prelude.{IfSome, is_some, None, Option, Some}
use Rattle.std.specs.List.Sorted.{IsPermutation}
use Rattle.ea_model.specs.declared.settings.Strategy.{Strategy}
use Rattle.ea_model.specs.declared.carriers.Figures.{Figures}
use Rattle.ea_model.specs.Content.{Content, gaps_of, largest}
use Rattle.ea_model.specs.Instance.{content_of, figures, without_content}
use Rattle.ea_cset.specs.Carriers.{Carriers}
use Rattle.ea_goodfit.specs.declared.gaps.BinnedGap.{BinnedGap}
use Rattle.ea_goodfit.specs.Gaps.{HeldGaps, gap_from}
use Rattle.ea_employed.specs.Binned.{fit_in, has_bins, Hold}
use Rattle.ea_employed.specs.Counted.{with_whole}
use Rattle.ea_employed.specs.Listed.{CarrierList, IsListed, all_gaps}
use Rattle.ea_employed.proofs.BinsAfter.{left-gaps, left-held}
use Rattle.ea_employed.proofs.Changing.{taking-out, IsTakenOut}
use Rattle.ea_employed.proofs.Counting.{allocated_in, blocks_in, cancel-whole, figures-without}
use Rattle.ea_employed.proofs.Finding.{in-set}
use Rattle.ea_employed.proofs.Listed.{IsListed-left}
use Rattle.ea_employed.proofs.carriers.Carriers.leave.Goals as goal
use Rattle.ea_employed.proofs.carriers.Carriers.leave.Goals.{After-remove-employed}

pub remove-requires : goal.remove-requires
remove-requires c =
    in-set _ c.args.self.now c.self.inside.set.held c.args.found c.self.view_is
    c.self.invariant.listed.held c.requires.found

out : (c : After-remove-employed) → IsTakenOut c.args.found.carrier.key.number
    c.remove-employed.result c.self.inside.list.items c.remove-employed.new.self.items
out c = taking-out _ c.args.self.now c.args.found c.remove-employed.result _ c.self.view_is
    c.requires.laid c.requires.found c.remove-employed.ensures.value c.remove-employed.ensures.items

-- where there are bins it has no blocks
empty : (now : CarrierList) (cs : List Content) (n : ℕ) (x : Content) (s : Strategy) (units : ℕ)
    (set : Carriers) (bins : Option HeldGaps) (b : HeldGaps)
    → record { strategy = s; units = units; contents = cs } ≡ now → IsListed s units cs set bins
    → (has_bins now.strategy ≡ true → IfSome (content_of now.contents n) (λ c. c.blocks ≡ []))
    → content_of cs n ≡ Some x → bins ≡ Some b → x.blocks ≡ []
empty now cs n x s units set bins b seen listed none there some =
    let has : has_bins s ≡ true = ap is_some (sym listed.fit ∙ ap fit_in some) in
    subst (λ o. IfSome o (λ (c : Content). c.blocks ≡ []))
    (ap (λ (l : CarrierList). content_of l.contents n) (sym seen) ∙ there)
    (none (ap (λ (l : CarrierList). has_bins l.strategy) (sym seen) ∙ has))

pub address-address-requires-clause-low : goal.address-address-requires-clause-low
address-address-requires-clause-low c =
    (out (goal.at.address-address-requires-clause-low c).After-remove-employed).sound.low

pub address-address-requires-clause-within : goal.address-address-requires-clause-within
address-address-requires-clause-within c = omega (
  arith,
  (out (goal.at.address-address-requires-clause-within c).After-remove-employed).sound.whole,
)

pub note_left-requires : goal.note_left-requires
note_left-requires c = by c.self.inside.bins refl where
  by : (o : Option HeldGaps) → c.self.inside.bins ≡ o
      → IfSome c.self.inside.bins (λ b. (rest : List BinnedGap)
      × IsPermutation b.held (gap_from c.address-address.result c.largest-size.result ++ rest))
  by None none = subst (λ o. IfSome o (λ b. (rest : List BinnedGap)
      × IsPermutation b.held (gap_from c.address-address.result c.largest-size.result ++ rest)))
      (sym none) tt
  by (Some b) some =
      let w = out (goal.at.note_left-requires c).After-remove-employed in
      let n = c.args.found.carrier.key.number in
      left-held c.remove-employed.result w.sound (empty c.args.self.now c.self.inside.list.items n
      c.remove-employed.result c.self.inside.strategy c.self.inside.units c.self.inside.set
      c.self.inside.bins b c.self.view_is c.self.invariant.listed c.requires.bins w.there some)
      c.address-address.result c.largest-size.result c.address-address.ensures
      (c.largest-size.ensures ∙ ap (λ m. largest (gaps_of m)) c.employed.view_is)
      n c.self.inside.list.items c.self.inside.bins w.laid w.there c.self.invariant.listed.gaps

pub without_whole-self-inside-requires : goal.without_whole-self-inside-requires
without_whole-self-inside-requires c =
    let w = out (goal.at.without_whole-self-inside-requires c).After-remove-employed in
    let all = figures-without c.args.found.carrier.key.number c.remove-employed.result
    c.self.inside.list.items w.laid.rising w.there ∙ sym c.self.invariant.counted in (
      omega (
        arith,
        ap (λ (f : Figures). f.blocks) all,
        c.len.ensures,
        ap blocks_in c.employed.view_is,
      ),
      omega (
        arith,
        ap (λ (f : Figures). f.blocks_size) all,
        c.allocated.ensures.blocks,
        ap allocated_in c.employed.view_is,
      ),
      omega (arith, ap (λ (f : Figures). f.carriers) all),
      omega (
        arith,
        ap (λ (f : Figures). f.carriers_size) all,
        c.units.ensures,
        ap (λ (m : Content). m.units) c.employed.view_is,
      ),
    )

pub invariant_of-self : goal.invariant_of-self
invariant_of-self c = record {
  listed = IsListed-left _ _ _ _ n x _ _ _ _ w.there w.laid.rising c.self.invariant.listed w.rest
      c.remove.ensures.removed c.note_left.ensures.fit c.note_left.ensures.places
      (subst (λ ys. Hold c.note_left.new.bins (all_gaps ys)) (sym w.rest)
      (c.note_left.ensures.left (all_gaps (without_content n c.self.inside.list.items))
      (by c.self.inside.bins refl)));
  room = omega (arith, c.self.invariant.room, c.remove-employed.ensures.capacity);
  counted = cancel-whole (blocks_in x) (allocated_in x) x.units _ _
      (sym (ap (λ n. with_whole n c.allocated.result c.units.result
      c.without_whole-self-inside.result)
      (c.len.ensures ∙ ap blocks_in c.employed.view_is)
      ∙ ap (λ n. with_whole (blocks_in x) n c.units.result c.without_whole-self-inside.result)
      (c.allocated.ensures.blocks ∙ ap allocated_in c.employed.view_is)
      ∙ ap (λ n. with_whole (blocks_in x) (allocated_in x) n c.without_whole-self-inside.result)
      (c.units.ensures ∙ ap (λ (m : Content). m.units) c.employed.view_is))
      ∙ c.without_whole-self-inside.ensures ∙ c.self.invariant.counted
      ∙ sym (ap (λ xs. with_whole (blocks_in x) (allocated_in x) x.units (figures xs)) w.rest
      ∙ figures-without n x c.self.inside.list.items w.laid.rising w.there));
} where
  n : ℕ
  n = c.args.found.carrier.key.number

  x : Content
  x = c.remove-employed.result

  w : IsTakenOut n x c.self.inside.list.items c.remove-employed.new.self.items
  w = out (goal.at.invariant_of-self c).After-remove-employed

  Holds : Option HeldGaps → Type 0
  Holds o = Hold o (gap_from c.address-address.result c.largest-size.result
      ++ all_gaps (without_content n c.self.inside.list.items))

  by : (o : Option HeldGaps) → c.self.inside.bins ≡ o → Holds c.self.inside.bins
  by None none = subst Holds (sym none) tt
  by (Some b) some =
      left-gaps x w.sound (empty c.args.self.now c.self.inside.list.items n x
      c.self.inside.strategy c.self.inside.units c.self.inside.set c.self.inside.bins b
      c.self.view_is c.self.invariant.listed c.requires.bins w.there some)
      c.address-address.result c.largest-size.result c.address-address.ensures
      (c.largest-size.ensures ∙ ap (λ m. largest (gaps_of m)) c.employed.view_is)
      n c.self.inside.list.items c.self.inside.bins w.laid w.there c.self.invariant.listed.gaps

pub returns-clause-carrier : goal.returns-clause-carrier
returns-clause-carrier c =
    ap (λ (l : CarrierList). content_of l.contents c.args.found.carrier.key.number)
    (sym c.self.view_is) ∙ (out (goal.at.returns-clause-carrier c).After-remove-employed).there

pub returns-clause-rest : goal.returns-clause-rest
returns-clause-rest c =
    ap (λ cs. record {
      strategy = c.self.inside.strategy;
      units = c.self.inside.units;
      contents = cs;
    }) (out (goal.at.returns-clause-rest c).After-remove-employed).rest
    ∙ ap (λ (l : CarrierList). record l {
      contents = without_content c.args.found.carrier.key.number l.contents;
    }) c.self.view_is
