use Rattle.std.proofs.Common.{◌≡◌, ℕ, ◌-◌, ◌%◌, ◌≤◌, [], length, true, refl, sym, ap, ◌∙◌, subst, arith}
use Rattle.std.proofs.lemmas.List.{length-replicate}
use Rattle.std.proofs.lemmas.List.Elements.{All-nil}
use Rattle.ea_model.specs.declared.units.TheConstants.{HEADER_UNITS}
use Rattle.ea_model.specs.Content.{Tiled}
use Rattle.ea_mbc.specs.Coding.{IsCoded}
use Rattle.ea_mbc.specs.Indexed.{HasSlot, put_in}
use Rattle.ea_mbc.specs.Layout.{Layout}
use Rattle.ea_mbc.specs.Named.{AreNamed}
use Rattle.ea_mbc.proofs.Indexing.{slot-new, indexed-new}
use Rattle.ea_mbc.proofs.Reading.{blocks_of-coded, IsCoded-read}
use Rattle.ea_mbc.proofs.Seen.{empty-coded}
use Rattle.ea_mbc.proofs.Slotted.{slots-made}
use Rattle.ea_mbc.proofs.units.CarrierUnits.new.Goals as goal

tiled : (end : ℕ) → end % 2 ≡ 0 → 14 ≤ end → Tiled 8 end []
tiled end even some = (omega arith, record { even = omega arith; whole = λ _. omega arith })

pub put-requires : goal.put-requires
put-requires c =
    subst (HasSlot HEADER_UNITS (c.args.end - HEADER_UNITS)) (sym c.in_ok-index.ensures)
    (slot-new c.args.inner c.args.end (tiled c.args.end c.requires.even c.requires.gap))

coded : (c : goal.After-put)
    → IsCoded c.put_gap.new.tags c.in_ok-names.names c.args.end []
coded c =
    empty-coded _ _ c.args.end c.requires.even c.requires.gap
    (c.put_gap.ensures.as_many ∙ ap length c.in_ok-tags.ensures ∙ length-replicate c.args.end 0)
    c.put_gap.ensures.gap c.in_ok-names.ensures

pub invariant_of-result : goal.invariant_of-result
invariant_of-result c =
    record {
      coded = (IsCoded-read _ _ _ _ (coded c), c.requires.few);
      indexed = slots-made _ _ _ (record { end = c.args.end; blocks = [] }) _ _ refl
          (blocks_of-coded _ _ _ _ (coded c))
          (c.put.ensures ∙ ap (put_in HEADER_UNITS (c.args.end - HEADER_UNITS))
          c.in_ok-index.ensures)
          (indexed-new c.args.inner c.args.end (tiled c.args.end c.requires.even c.requires.gap));
      named = subst (AreNamed true) (sym (blocks_of-coded _ _ _ _ (coded c)))
          (λ _. All-nil (λ b. 1 ≤ b.name));
    }

pub returns : goal.returns
returns c = ap (λ bs. (let l : Layout = record { end = c.args.end; blocks = bs } in l))
    (blocks_of-coded _ _ _ _ (coded c))
