-- The block of a held or a given name is found where its carrier is, and its units are units of the
-- super carrier.
use Rattle.std.proofs.Common.{◌≡◌, ℕ, ◌+◌, ◌*◌, ◌/◌, ◌^◌, ◌<◌, ◌≤◌, Bool, true, List, refl, sym, ap}
use Rattle.std.proofs.Common.{◌∙◌, subst, inl, inr, arith}
use Rattle.std.specs.Prelude.{IfSome, Option, None, Some, get_or, length, option_map, slice_get}
use Rattle.std.proofs.Math.Nat.{mul-div-le}
use Rattle.std.proofs.lemmas.Option.{get_or_from_slice_get, slice_get_cases}
use Rattle.ea_model.specs.declared.carriers.BlockAt.{BlockAt}
use Rattle.ea_model.specs.declared.carriers.Extent.{Extent}
use Rattle.ea_model.specs.declared.carriers.Spot.{Spot}
use Rattle.ea_model.specs.declared.settings.Config.{Config}
use Rattle.ea_model.specs.declared.trace.Trace.{Trace}
use Rattle.ea_model.specs.declared.units.TheConstants.{MEGABYTE_PAGES}
use Rattle.ea_model.specs.Content.{Content, block_at}
use Rattle.ea_model.specs.Settings.{IsValidConfig}
use Rattle.ea_model.specs.Trace.{IsValidTrace}
use Rattle.ea_model.proofs.Options.{same-some}
use Rattle.ea_model.proofs.Rising.{item_at-key}
use Rattle.ea_machine.specs.declared.nodes.Named.{Named}
use Rattle.ea_machine.specs.Actor.{Actor}
use Rattle.ea_machine.specs.Machine.{run}
use Rattle.ea_machine.specs.Nodes.{name_of, named_at, spot_named}
use Rattle.ea_machine.specs.Outcome.{Present}
use Rattle.ea_machine.specs.Owners.{CarrierAt}
use Rattle.ea_machine.specs.Setup.{Setup, is_scheduler, migration, setup_of}
use Rattle.ea_machine.specs.State.{State}
use Rattle.ea_machine.specs.Sums.{sum_over}
use Rattle.ea_sound.specs.Contents.{seats}
use Rattle.ea_sound.specs.Names.{of_named, only_at}
use Rattle.ea_sound.specs.Over.{LiesOver}
use Rattle.ea_sound.specs.Places.{IsNumber}
use Rattle.ea_sound.specs.Rule.{Kept, all_names, names_of}
use Rattle.ea_sound.proofs.Asked.{reached-rule}
use Rattle.ea_sound.proofs.BlockWeights.{only_at-itself}
use Rattle.ea_sound.proofs.KeyedWeights.{sum-item}
use Rattle.ea_sound.proofs.Numbered.{scheduler-seat}
use Rattle.ea_sound.proofs.OverUnits.{lie-apart}
use Rattle.ea_sound.proofs.PresentContents.{content_in, first-listed, first_content}
use Rattle.ea_sound.proofs.PresentUnits.{IsFound, stands-found}
use Rattle.ea_sound.proofs.SoundRanges.{number-scheduler}
use Rattle.ea_sound.proofs.Totals.{total-part}
use Rattle.ea_sched.specs.declared.state.Scheduler.{Scheduler}
use Rattle.ea_sched.specs.Acting.{actor_of}
use Rattle.ea_outcome.specs.Extents.{HasSpot, extent_at}
use Rattle.ea_outcome.specs.Resting.{StandIn, carrier_of}
use Rattle.ea_outcome.proofs.OutcomeSums.{many-schedulers, present-is, scheduler-is}

-- a name with its spot is among names
stands-among : (n : ℕ) (p : Spot) (names : List Named) → spot_named n names ≡ Some p
    → 1 ≤ sum_over (of_named (only_at n p)) names
stands-among n p names is = by (named_at n names) refl is where
  itself : (h : Named) → h.name ≡ n → h.spot ≡ p → of_named (only_at n p) h ≡ 1
  itself h name spot = ap (λ m. only_at n p m h.spot) name ∙ ap (only_at n p n) spot
      ∙ only_at-itself n p

  by : (o : Option Named) → named_at n names ≡ o → option_map (λ h. h.spot) o ≡ Some p
      → 1 ≤ sum_over (of_named (only_at n p)) names
  by None there same = absurd cc
  by (Some h) there same = omega (
    arith,
    sum-item name_of (of_named (only_at n p)) n h names there,
    itself h (item_at-key name_of n h names there) (same-some (Some h.spot) h.spot p refl same),
  )

-- the units of a block that is found
extent-found : (p : Spot) (o : Option Present) (x : Content) (b : BlockAt)
    → option_map content_in o ≡ Some x → block_at x.blocks p.offset ≡ Some b
    → extent_at p o ≡ Some (record { first = 512 * x.base + p.offset; units = b.size })
extent-found p None x b there found = absurd cc
extent-found p (Some q) x b there found =
    let same : q.content ≡ x = same-some (Some q.content) q.content x refl there in
    ap (λ y. option_map (λ d. record { first = 512 * y.base + p.offset; units = d.size })
    (block_at y.blocks p.offset)) same
    ∙ ap (option_map (λ d. record { first = 512 * x.base + p.offset; units = d.size })) found

-- an item that a list has
got : {A : Type 0} (xs : List A) (i : ℕ) (x : A) → slice_get xs i ≡ Some x
    → (i < length xs) × (get_or xs i x ≡ x)
got xs i x at = elim (slice_get_cases xs i).1 [
  | inl there ↦ (there.1, get_or_from_slice_get xs i x x at)
  | inr past ↦ let none : None ≡ Some x = sym past.1 ∙ at in absurd cc
]

-- the super carrier has few units
region-small : (n scs pages : ℕ) → scs ≤ 512 → pages ≡ scs * MEGABYTE_PAGES / n
    → 512 * (n * pages) < 2 ^ 32
region-small n scs pages most is = omega (
  arith,
  most,
  ap (λ q. n * q) is,
  mul-div-le (scs * MEGABYTE_PAGES) n,
)

module _ (c : Config) (t : Trace) (valid : IsValidConfig c) (made : IsValidTrace c.schedulers t)
    (m : Bool) (mode : m ≡ migration (setup_of c t)) (ss : List Scheduler)
    (places : ℕ → CarrierAt) (given : List Named) (turns : List ℕ)
    (stand : StandIn c t ss places given turns) where
  abbrev e : Setup
  e = setup_of c t

  abbrev w : State
  w = run e turns

  k : Kept e w
  k = (reached-rule c t valid made w (turns, refl)).kept

  -- a held name stands, and a given one does
  stands : (n : ℕ) (p : Spot) → HasSpot ss given n p → 1 ≤ all_names e (only_at n p) w
  stands n p has = elim has [
    | inl held ↦
        let (j, s, at, spot) = held in
        let (within, same) = got ss j s at in
        let many = many-schedulers c t valid made m mode ss places given turns stand in
        let is : is_scheduler e (1 + j) ≡ true = number-scheduler e (1 + j)
        (omega arith, omega (arith, within, many)) in
        omega (
          arith,
          stands-among n p (w.actors (1 + j)).held
              (subst (λ (a : Actor). spot_named n a.held ≡ Some p)
              (ap actor_of (sym same)
              ∙ scheduler-is c t valid made m mode ss places given turns stand j s within) spot),
          total-part (names_of (only_at n p)) w.actors (1 + j) (seats e)
              (scheduler-seat e (1 + j) is),
        )
    | inr away ↦ omega (
      arith,
      stands-among n p w.shared.given (subst (λ ns. spot_named n ns ≡ Some p) stand.given away),
    )
  ]

  module _ (n : ℕ) (p : Spot) (has : HasSpot ss given n p) where
    is : IsFound e w k n p (stands n p has)
    is = stands-found e w k n p (stands n p has)

    pub has-carrier : IsNumber e p.carrier
    has-carrier = is.number

    abbrev extent : Extent
    extent = record { first = 512 * is.content.base + p.offset; units = is.block.size }

    extent-is : extent_at p (carrier_of m places ss p.carrier) ≡ Some extent
    extent-is = extent-found p (carrier_of m places ss p.carrier) is.content is.block
        (sym (first-listed (carrier_of m places ss p.carrier))
        ∙ sym (ap first_content (present-is c t valid made m mode ss places given turns stand
        p.carrier is.number))
        ∙ is.there)
        is.found

    -- it is there
    pub extent-there : extent_at p (carrier_of m places ss p.carrier) ≡ None → ⊥
    extent-there none = let no : None ≡ Some extent = sym none ∙ extent-is in cc

    -- it begins at a unit of the super carrier
    pub extent-fits : IfSome (extent_at p (carrier_of m places ss p.carrier))
        (λ r. r.first < 2 ^ 32)
    extent-fits = subst (λ o. IfSome o (λ r. r.first < 2 ^ 32)) (sym extent-is) (omega (
      arith,
      (lie-apart e w k).within n extent is.lies,
      region-small c.schedulers c.scs e.pages valid.space.1 refl,
    ))

    -- the block of the name has these units
    pub lies-there : (r : Extent) → Some r ≡ extent_at p (carrier_of m places ss p.carrier)
        → LiesOver e n r w
    lies-there r found = subst (λ q. LiesOver e n q w)
        (same-some (extent_at p (carrier_of m places ss p.carrier)) extent r extent-is
        (sym found)) is.lies
