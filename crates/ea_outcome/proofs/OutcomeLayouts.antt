-- The layouts of carriers, number by number, and of a whole state.
use Rattle.std.proofs.Common.{◌≡◌, ℕ, suc, ◌+◌, ◌*◌, Bool, List, [], ◌∷◌, ◌++◌, append-nil, map}
use Rattle.std.proofs.Common.{refl, sym, ap, ◌∙◌, arith}
use Rattle.std.specs.Prelude.{Option, None, Some, flat_map, option_map}
use Rattle.std.specs.List.{range_with_len}
use Rattle.std.proofs.lemmas.Grind.{flat_map-append}
use Rattle.std.proofs.lemmas.List.{map-append}
use Rattle.ea_model.specs.declared.settings.Config.{Config}
use Rattle.ea_model.specs.declared.trace.Trace.{Trace}
use Rattle.ea_model.specs.declared.units.TheConstants.{NUMBERS}
use Rattle.ea_model.specs.Settings.{IsValidConfig}
use Rattle.ea_model.specs.Trace.{IsValidTrace}
use Rattle.ea_model.proofs.NumberedItems.{each-range, flat_map-same, map-flat_map, range-last}
use Rattle.ea_machine.specs.declared.nodes.Named.{Named}
use Rattle.ea_machine.specs.Machine.{run}
use Rattle.ea_machine.specs.Outcome.{Present, place_of, present_at}
use Rattle.ea_machine.specs.Owners.{CarrierAt}
use Rattle.ea_machine.specs.Setup.{greatest_number, migration, setup_of}
use Rattle.ea_instance.specs.declared.layouts.Layout.{Layout}
use Rattle.ea_instance.specs.Layouts.{layout_of, plain_layout}
use Rattle.ea_sched.specs.declared.state.Scheduler.{Scheduler}
use Rattle.ea_sound.proofs.PresentContents.{listed}
use Rattle.ea_outcome.specs.Layouts.{first_layouts, layouts_if, layouts_in}
use Rattle.ea_outcome.specs.Resting.{StandIn, carrier_of}
use Rattle.ea_outcome.proofs.OutcomeSums.{present-is}

-- the layout of a carrier that is there
abbrev pub layout_in : Present → Layout
layout_in p = layout_of p.content

layouts-listed : (o : Option Present) → map layout_in (listed o) ≡ layouts_if o
layouts-listed None = refl
layouts-listed (Some p) = refl

module _ (m : Bool) (places : ℕ → CarrierAt) (ss : List Scheduler) where
  if-layout : (o : Option Present) (l : Option Layout)
      → option_map plain_layout l ≡ option_map layout_in o
      → (layout : Layout) → l ≡ Some layout → layouts_if o ≡ plain_layout layout ∷ []
  if-layout None l is layout some = absurd (none-some (sym is
      ∙ ap (option_map plain_layout) some)) where
        none-some : {x : Layout} → None ≡ Some x → ⊥
        none-some q = cc
  if-layout (Some p) l is layout some = ap (λ x. x ∷ []) (some-same (sym is
      ∙ ap (option_map plain_layout) some)) where
        some-same : {x y : Layout} → Some x ≡ Some y → x ≡ y
        some-same q = cc

  if-none : (o : Option Present) (l : Option Layout)
      → option_map plain_layout l ≡ option_map layout_in o → l ≡ None → layouts_if o ≡ []
  if-none None l is none = refl
  if-none (Some p) l is none = absurd (some-none (sym is
      ∙ ap (option_map plain_layout) none)) where
        some-none : {x : Layout} → Some x ≡ None → ⊥
        some-none q = cc

  next-layouts : (n : ℕ) → first_layouts m places ss (n + 1)
      ≡ first_layouts m places ss n ++ layouts_if (carrier_of m places ss (n + 1))
  next-layouts n =
      let layouts = λ (k : ℕ). layouts_if (carrier_of m places ss k) in
      ap (λ k. flat_map layouts (range_with_len 1 k)) (next n)
      ∙ ap (flat_map layouts) (range-last n)
      ∙ flat_map-append layouts (range_with_len 1 n) (suc n ∷ [])
      ∙ ap (λ ls. flat_map layouts (range_with_len 1 n) ++ ls) (append-nil (layouts (suc n)))
      ∙ ap (λ k. flat_map layouts (range_with_len 1 n) ++ layouts k) (sym (next n))
    where
      next : (n : ℕ) → n + 1 ≡ suc n
      next n = omega arith

  module _ (n : ℕ) (l : Option Layout)
      (is : option_map plain_layout l ≡ option_map layout_in (carrier_of m places ss (n + 1)))
      (layouts : List Layout) (are : map plain_layout layouts ≡ first_layouts m places ss n) where
    -- a carrier is there
    pub layouts-more : (layout : Layout) → l ≡ Some layout
        → map plain_layout (layouts ++ layout ∷ []) ≡ first_layouts m places ss (n + 1)
    layouts-more layout some =
        map-append plain_layout layouts (layout ∷ [])
        ∙ ap (λ ls. ls ++ plain_layout layout ∷ []) are
        ∙ ap (λ ls. first_layouts m places ss n ++ ls)
        (sym (if-layout (carrier_of m places ss (n + 1)) l is layout some))
        ∙ sym (next-layouts n)

    -- none is
    pub layouts-same : l ≡ None → map plain_layout layouts ≡ first_layouts m places ss (n + 1)
    layouts-same none =
        are
        ∙ sym (append-nil (first_layouts m places ss n))
        ∙ ap (λ ls. first_layouts m places ss n ++ ls)
        (sym (if-none (carrier_of m places ss (n + 1)) l is none))
        ∙ sym (next-layouts n)

pub no-layout : (o : Option Layout) → ((layout : Layout) → o ≡ Some layout → ⊥) → o ≡ None
no-layout None not = refl
no-layout (Some layout) not = absurd (not layout refl)

-- those of all numbers are those of the state
pub layouts-printed : (c : Config) (t : Trace) → IsValidConfig c → IsValidTrace c.schedulers t
    → (m : Bool) → m ≡ migration (setup_of c t) → (ss : List Scheduler) (places : ℕ → CarrierAt)
    → (given : List Named) (turns : List ℕ) → StandIn c t ss places given turns
    → first_layouts m places ss (NUMBERS * c.schedulers)
    ≡ layouts_in (setup_of c t) (run (setup_of c t) turns)
layouts-printed c t valid made m mode ss places given turns stand =
    let e = setup_of c t in
    let w = run e turns in
    let numbers = range_with_len 1 (greatest_number e) in
    ap (first_layouts m places ss) (all-numbers c.schedulers)
    ∙ sym (map-flat_map layout_in (λ n. present_at e w n (place_of e w n)) numbers
    ∙ flat_map-same (λ n. map layout_in (present_at e w n (place_of e w n)))
    (λ n. layouts_if (carrier_of m places ss n)) numbers
    (each-range (greatest_number e) _ (λ n some most.
    ap (map layout_in)
    (present-is c t valid made m mode ss places given turns stand n (some, most))
    ∙ layouts-listed (carrier_of m places ss n)))) where
      all-numbers : (n : ℕ) → NUMBERS * n ≡ n * NUMBERS
      all-numbers n = omega arith
