-- Where carriers don't migrate, each instance employs what it owns.
use Rattle.std.proofs.Common.{◌≡◌, ◌≢◌, ℕ, ◌%◌, ◌≤◌, false, List, sym, ap, subst, refl, ◌∙◌, arith}
use Rattle.std.specs.Prelude.{Ok, None, Option, Some, is_some, nat_lt}
use Rattle.ea_model.specs.declared.carriers.BlockAt.{BlockAt}
use Rattle.ea_model.specs.declared.carriers.CarrierPlan.{CarrierPlan}
use Rattle.ea_model.specs.declared.carriers.Spot.{Spot}
use Rattle.ea_model.specs.declared.reallocation.Decision.{Decision}
use Rattle.ea_model.specs.declared.reallocation.Decision.TheVariants.{Stay, ShrinkHere, GrowHere}
use Rattle.ea_model.specs.declared.reallocation.Decision.TheVariants.{ShrinkCarrier, Move}
use Rattle.ea_model.specs.declared.reallocation.Where.{Where}
use Rattle.ea_model.specs.declared.reallocation.Where.TheVariants as whereabouts
use Rattle.ea_model.specs.declared.settings.Settings.{Settings}
use Rattle.ea_model.specs.Content.{Content, resized, size_of, Tiled}
use Rattle.ea_model.specs.Decision.{decision}
use Rattle.ea_model.specs.Instance.{Instance, block_in, content_of, decision_at, employed, own_of}
use Rattle.ea_model.specs.Instance.{plan, resized_by, resized_in, resized_to, resizing_at, where_at}
use Rattle.ea_model.specs.Instance.{owner_of}
use Rattle.ea_model.proofs.Rising.{item_at-All, item_at-key}
use Rattle.ea_laws.specs.Kept.{number_of, HasOneBlock, IsLaidOut, IsLaidOutAlone, Stands}
use Rattle.ea_laws.proofs.BlockLists.{offset_of}
use Rattle.ea_laws.proofs.Changed.{resized-keeps}
use Rattle.ea_laws.proofs.Contents.{absent-none, block_among}
use Rattle.ea_laws.proofs.Reallocating.{resizing-Stands}
use Rattle.ea_laws.proofs.Resized.{with_size}
use Rattle.ea_laws.proofs.Standing.{changing-Stands, deallocated-Stands}
use Rattle.ea_laws.proofs.Standing.{employed-multi, employed-own}
use Rattle.ea_laws.proofs.Standing.{planned-absent, resized_more-Stands}
use Rattle.ea_model.specs.Abandonment.{is_due}
use Rattle.ea_model.specs.Employment.{dismissing, disowning}
use Rattle.ea_machine.specs.Setup.{Setup, migration}
use Rattle.ea_sound.proofs.KeyedWeights.{changed-missing}
use Rattle.ea_laws.proofs.Orderly.{employed-alone, many-not_alone}
use Rattle.ea_laws.proofs.Resizing.{InMulti, InSingle, in_multi, in_single}
use Rattle.ea_sound.proofs.Plans.{own-owner}

-- no carrier is abandoned
pub due-unmoved : (setup : Setup) (count : ℕ) (xs : List Content) (x : Content)
    → migration setup ≡ false → is_due setup.settings count xs x ≡ false
due-unmoved setup count xs x off = grind (arith, off)

-- its settings say so
pub off-acul : (e : Setup) (i : Instance) → migration e ≡ false → i.settings ≡ e.settings
    → i.settings.acul ≡ 0
off-acul e i off same = ap (λ (s : Settings). s.acul) same ∙ none e.settings.acul off where
  none : (n : ℕ) → nat_lt 0 n ≡ false → n ≡ 0
  none n off = grind (arith, off)

module _ (i : Instance) (st : Stands i) (off : i.settings.acul ≡ 0) where
  -- an instance owns what it employs
  pub employed-owner : (n : ℕ) (c : Content) → content_of (employed i) n ≡ Some c
      → owner_of c.number ≡ i.number
  employed-owner n c there =
      ap owner_of (item_at-key number_of n c (employed i) there)
      ∙ own-owner i n (own_of c) st.orderly.kept (employed-own i n c st off there)

  -- a carrier that leaves it is deallocated
  pub leaving-Stands : (n : ℕ) (c : Content) → content_of (employed i) n ≡ Some c
      → Stands (disowning (dismissing i n) n)
  leaving-Stands n c there =
      deallocated-Stands i n (own_of c) st (employed-own i n c st off there)

module _ (i : Instance) (st : Stands i) where
  -- a planned carrier is none that it employs
  pub planned-missing : (need : ℕ) (p : CarrierPlan) → plan i need ≡ Ok p
      → content_of (employed i) p.number ≡ None
  planned-missing need p asked =
      absent-none p.number (employed i) (planned-absent i need p st asked)

-- a reallocation in place where no block stands changes nothing
shortens_none : (s : Settings) (need pages : ℕ) (at : Where)
    → decision s 0 need at ≡ ShrinkCarrier pages → ⊥
shortens_none s need pages whereabouts.Foreign e = grind arith
shortens_none s need pages (whereabouts.Multi behind) e =
    subst (InMulti 0 need behind) e (in_multi s 0 need behind)
shortens_none s need pages (whereabouts.Single units) e =
    let shrinks = subst (InSingle 0 need units) e (in_single s 0 need units) in
    omega (arith, shrinks.2)

module _ (i : Instance) (spot : Spot) (need name : ℕ) (st : Stands i)
    (none : block_in (employed i) spot ≡ None) where
  abbrev at : ℕ
  at = spot.carrier

  same_blocks : (size : ℕ) (c : Content) → content_of (employed i) at ≡ Some c
      → (resized c spot.offset size name).blocks ≡ c.blocks
  same_blocks size c there = changed-missing offset_of (with_size size name) spot.offset c.blocks
      (sym (ap (block_among spot.offset) there) ∙ none)

  in_singles : (o : Option Content) → content_of i.contents at ≡ o → (c : Content)
      → content_of i.singles at ≡ Some c → content_of (employed i) at ≡ Some c
  in_singles None e c there = employed-alone i at e ∙ there
  in_singles (Some d) e c there =
      absurd (item_at-All number_of (λ x. x.number ≢ at) at c i.singles
      (many-not_alone i at d st.orderly e) there
      (item_at-key number_of at c i.singles there))

  in_place : (size : ℕ) → Stands (resized_in i spot size name)
  in_place size =
      changing-Stands (λ c. resized c spot.offset size name)
      (resized-keeps spot.offset size name) at i st
      (λ c there.
      let laid = item_at-All number_of IsLaidOut at c i.contents st.orderly.laid there in
      record {
        whole = laid.whole;
        shared = laid.shared;
        tiled = subst (Tiled 8 c.units)
            (sym (same_blocks size c (employed-multi i at c st there))) laid.tiled;
        low = laid.low;
      })
      (λ c there.
      let laid = item_at-All number_of IsLaidOutAlone at c i.singles st.orderly.alone there in
      record {
        whole = laid.whole;
        single = laid.single;
        block = subst (HasOneBlock c.units)
            (sym (same_blocks size c (in_singles (content_of i.contents at) refl c there)))
            laid.block;
        low = laid.low;
      })

  nothing_by : (d : Decision) (size : ℕ) → decision_at i spot need ≡ d
      → Stands (resized_by d i spot size name)
  nothing_by Stay size e = in_place size
  nothing_by ShrinkHere size e = resized_more-Stands i spot size name (in_place size)
  nothing_by GrowHere size e = resized_more-Stands i spot size name (in_place size)
  nothing_by (ShrinkCarrier pages) size e =
      absurd (shortens_none i.settings need pages (where_at i spot)
      (sym (ap (λ o. decision i.settings (size_of o) need (where_at i spot)) none) ∙ e))
  nothing_by Move size e = st

-- so an instance stands after it, whether a block stands there or not
pub always-Stands : (i : Instance) (spot : Spot) (need name : ℕ) → Stands i → 6 ≤ need
    → need % 2 ≡ 0 → Stands (resizing_at i spot need name)
always-Stands i spot need name st least even = by (block_in (employed i) spot) refl where
  by : (o : Option BlockAt) → block_in (employed i) spot ≡ o → Stands (resizing_at i spot need name)
  by (Some b) e = resizing-Stands i spot need name st least even (ap is_some e)
  by None e = nothing_by i spot need name st e (decision_at i spot need) (resized_to i spot need)
      refl
