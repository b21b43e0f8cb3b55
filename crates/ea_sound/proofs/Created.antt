-- The carrier of a plan, as it comes to the instance of a scheduler.
use Rattle.std.proofs.Common.{◌≡◌, ℕ, ◌+◌, ◌*◌, ◌%◌, ◌<◌, ◌≤◌, ◌-◌, List, true, false, sym, ap, ◌∙◌}
use Rattle.std.proofs.Common.{inr, arith}
use Rattle.std.specs.Prelude.{None, Ok, ◌&&◌, nat_lt, nat_le}
use Rattle.ea_model.specs.declared.units.TheConstants.{NUMBERS}
use Rattle.ea_model.specs.declared.carriers.BlockAt.{BlockAt}
use Rattle.ea_model.specs.declared.carriers.CarrierPlan.{CarrierPlan}
use Rattle.ea_model.specs.declared.carriers.Kind.{Kind}
use Rattle.ea_model.specs.Instance.{Instance, content_of, created_content, creating}
use Rattle.ea_model.specs.Instance.{creating_single, employed, plan, planned_own, with_own}
use Rattle.ea_model.specs.Instance.{owner_of}
use Rattle.ea_model.specs.Strategies.{may_miss}
use Rattle.ea_model.proofs.Rising.{item_at-new}
use Rattle.ea_laws.specs.Kept.{own_number}
use Rattle.ea_laws.proofs.Keeping.{IsKept-made, pages_of_units}
use Rattle.ea_laws.proofs.Owned.{unused-All}
use Rattle.ea_sound.specs.Contents.{slots}
use Rattle.ea_machine.specs.Setup.{Setup, first_page, is_scheduler, migration}
use Rattle.ea_sound.specs.Rule.{Belongs, Standing}
use Rattle.ea_sound.proofs.Choosing.{migrating-misses_none}
use Rattle.ea_laws.proofs.Orderly.{creating-IsOrderly, creating_single-IsOrderly}
use Rattle.ea_sound.proofs.Plans.{numbered-most, own-between, planned-number, planned-owner}

-- who is a scheduler has a number from 1 on
pub scheduler-number : (e : Setup) (me : ℕ) → is_scheduler e me ≡ true
    → (1 ≤ me) × (me ≤ e.schedulers)
scheduler-number e me is = (low me e.schedulers is, high me e.schedulers is) where
  low : (i n : ℕ) → (nat_lt 0 i && nat_le i n) ≡ true → 1 ≤ i
  low i n is = grind (arith, is)

  high : (i n : ℕ) → (nat_lt 0 i && nat_le i n) ≡ true → i ≤ n
  high i n is = grind (arith, is)

-- where carriers migrate the strategy misses no gap
pub sure-strategy : (e : Setup) (me : ℕ) (i : Instance) → Standing e me i → migration e ≡ true
    → may_miss i.settings.strategy ≡ false
sure-strategy e me i stands on =
    migrating-misses_none i.settings.strategy (stands.order.kept.valid.migrates
    (some i.settings.acul (ap (λ s. nat_lt 0 s.acul) stands.settings ∙ on))) where
      some : (n : ℕ) → nat_lt 0 n ≡ true → 0 < n
      some n on = grind (arith, on)

module _ (e : Setup) (me : ℕ) (i : Instance) (stands : Standing e me i) (need : ℕ)
    (p : CarrierPlan) (asked : plan i need ≡ Ok p) where
  planned_between : (first_page e me ≤ p.base) × (p.base + p.pages ≤ first_page e me + e.pages)
  planned_between =
      let there = item_at-new own_number (planned_own p) i.own
      (unused-All p.number i.own (planned-number i need p asked).2) in
      let lies = own-between i.first i.end p.number (planned_own p) (with_own (planned_own p) i.own)
      (IsKept-made i need p stands.order.kept asked).laid there in
      (omega (arith, lies.0, stands.first), omega (arith, lies.1, stands.end))

  -- it is the scheduler's own
  pub created-owner : owner_of p.number ≡ me
  created-owner = planned-owner i need p stands.order.kept.instance.0 asked ∙ stands.number

  pub created-slot : is_scheduler e me ≡ true → p.number < slots e
  created-slot is =
      let number = scheduler-number e me is in
      omega (
        arith,
        numbered-most me p.number e.schedulers number.0 number.1 (omega (
          arith,
          (planned-number i need p asked).1,
          ap (λ n. NUMBERS * (n - 1) + 1) stands.number,
        )),
      )

  -- and lies in its region
  pub created-Belongs : (kind : Kind) (blocks : List BlockAt)
      → Belongs e me (record (created_content i.number kind p) { blocks = blocks })
  created-Belongs kind blocks = record {
    owner = stands.number ∙ sym created-owner;
    low = omega (arith, planned_between.0, ap (first_page e) stands.number);
    high = omega (
      arith,
      planned_between.1,
      ap (first_page e) stands.number,
      pages_of_units p.pages,
    );
    stays = inr stands.number;
  }

  module _ (new : content_of (employed i) p.number ≡ None) where
    pub creating-Standing : Standing e me (creating i p)
    creating-Standing = record {
      settings = stands.settings;
      number = stands.number;
      first = stands.first;
      end = stands.end;
      count = stands.count;
      order = creating-IsOrderly i need p stands.order asked new;
    }

    pub creating_single-Standing : (name : ℕ) → 6 ≤ need → need % 2 ≡ 0
        → Standing e me (creating_single i p need name)
    creating_single-Standing name least even = record {
      settings = stands.settings;
      number = stands.number;
      first = stands.first;
      end = stands.end;
      count = stands.count;
      order = creating_single-IsOrderly i need p stands.order asked new name least even;
    }
