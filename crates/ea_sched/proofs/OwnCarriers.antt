-- What an instance owns it still owns where a block is placed or a carrier created.
use Rattle.std.proofs.Common.{◌≡◌, ◌≢◌, ℕ, true, false, List, ◌≤◌, refl, sym, ap, ◌∙◌, subst}
use Rattle.std.specs.Prelude.{Ok, Option, None, Some, IfSome, IsSome}
use Rattle.std.specs.Option.{option_and_then}
use Rattle.ea_model.specs.declared.carriers.CarrierPlan.{CarrierPlan}
use Rattle.ea_model.specs.declared.carriers.Place.{Place}
use Rattle.ea_model.specs.declared.carriers.Spot.{Spot}
use Rattle.ea_model.specs.Content.{Content, block_at}
use Rattle.ea_model.specs.Instance.{Instance, block_in, content_of, employed}
use Rattle.ea_model.specs.Instance.{own_at, plan, planned_own, with_own}
use Rattle.ea_model.proofs.Rising.{item_at-old}
use Rattle.ea_laws.specs.Kept.{own_number}
use Rattle.ea_laws.specs.Spots.{IsPlaced}
use Rattle.ea_machine.specs.declared.asks.Ask.{Ask}
use Rattle.ea_machine.specs.declared.nodes.Named.{Named}
use Rattle.ea_sound.proofs.Plans.{planned-unused}
use Rattle.ea_instance.specs.Answers.{placing_if}
use Rattle.ea_sched.specs.declared.state.Scheduler.{Scheduler}
use Rattle.ea_sched.specs.Asking.{IsAsked, IsFreshIn, IsHere}

-- a block is placed
pub placing-own : (i : Instance) (o : Option Spot) (need name : ℕ)
    → (placing_if i o need name).own ≡ i.own
placing-own i None need name = refl
placing-own i (Some spot) need name = refl

-- a carrier is created
pub created-own : (i : Instance) (need : ℕ) (p : CarrierPlan) → plan i need ≡ Ok p → (n : ℕ)
    → IsSome (own_at i.own n) → IsSome (own_at (with_own (planned_own p) i.own) n)
created-own i need p asked n is =
    subst IsSome (sym (item_at-old own_number n (planned_own p) i.own other)) is
  where
    other : n ≢ p.number
    other e = let no : false ≡ true =
        subst IsSome (ap (own_at i.own) e ∙ planned-unused i need p asked) is in cc

-- a block that was there still is
pub placed-block : (old new : List Content) (name : ℕ) (place : Place)
    → IsPlaced old new name place → (at : Spot) → IsSome (block_in old at)
    → IsSome (block_in new at)
placed-block old new name place placed at is =
    subst IsSome (sym (placed.others at (λ e f. never e f))) is
  where
    found : ℕ → ℕ → Type 0
    found k o = IsSome (option_and_then (λ c. block_at c.blocks o) (content_of old k))

    never : at.carrier ≡ place.carrier → at.offset ≢ place.offset
    never e f = let no : false ≡ true = subst IsSome placed.fresh
        (subst (λ k. found k place.offset) e (subst (λ o. found at.carrier o) f is)) in cc

-- a place is asked for as before, where blocks and carriers that were there are still there
module _ (s t : Scheduler) (number : t.number ≡ s.number) (names : t.names ≡ s.names)
    (moves : t.migrates ≡ s.migrates)
    (i j : Instance) (blocks : (at : Spot) → IsSome (block_in (employed i) at)
    → IsSome (block_in (employed j) at))
    (own : (n : ℕ) → IsSome (own_at i.own n) → IsSome (own_at j.own n)) where
  here : (o : Option Named) → IfSome o (IsHere i s) → IfSome o (IsHere j t)
  here None h = tt
  here (Some x) h = record {
    name = subst (λ ns. x.name ≤ ns.greatest) (sym names) h.name;
    block = λ off mine. blocks x.spot (h.block (sym moves ∙ off) (mine ∙ number));
    own = λ off mine. own x.spot.carrier (h.own (sym moves ∙ off) (mine ∙ number));
  }

  pub asked-again : (ask : Ask) → IsAsked i s ask → IsAsked j t ask
  asked-again ask h = record {
    even = h.even;
    least = h.least;
    fresh = subst (λ ns. IsFreshIn ns ask.name) (sym names) h.fresh;
    old = here ask.old h.old;
  }
