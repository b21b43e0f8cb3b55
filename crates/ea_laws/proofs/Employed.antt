-- All contents that an instance employs, after each change of it.
use Rattle.std.proofs.Common.{◌≡◌, ◌≢◌, ℕ, sym, ap, ◌∙◌, refl}
use Rattle.std.specs.Prelude.{Some, All}
use Rattle.ea_model.specs.declared.carriers.CarrierPlan.{CarrierPlan}
use Rattle.ea_model.specs.declared.carriers.Kind.TheVariants.{Multi}
use Rattle.ea_model.specs.declared.carriers.Spot.{Spot}
use Rattle.ea_model.specs.Content.{Content, placed}
use Rattle.ea_model.specs.Employment.{dismissing}
use Rattle.ea_model.specs.Instance.{Instance, changed, changing, content_of}
use Rattle.ea_model.specs.Instance.{created_content, created_single, creating, creating_single}
use Rattle.ea_model.specs.Instance.{employed, placing_at, shortened, with_content, without_content}
use Rattle.ea_model.specs.Keyed.{merged}
use Rattle.ea_model.specs.Settings.{raised}
use Rattle.ea_model.proofs.Merged.{merged-apart, merged-changed, merged-left, merged-right}
use Rattle.ea_model.proofs.Merged.{merged-without}
use Rattle.ea_model.proofs.Rising.{changed_none}
use Rattle.ea_laws.proofs.Changed.{KeepsPlace, placed-keeps}
use Rattle.ea_laws.proofs.Owned.{with_units}
use Rattle.ea_laws.specs.Kept.{number_of, IsRising}

pub employed-changed : (f : Content → Content) → KeepsPlace f → (n : ℕ) (i : Instance)
    → employed (changing i f n) ≡ changed f n (employed i)
employed-changed f keeps n i = merged-changed number_of f n keeps.number i.contents i.singles

-- a placement changes a multiblock carrier alone, and the count
pub placing-is : (i : Instance) (spot : Spot) (need name : ℕ) (c : Content)
    → IsRising (employed i) → content_of i.contents spot.carrier ≡ Some c
    → placing_at i spot need name
    ≡ record (changing i (λ x. placed x spot.offset need name) spot.carrier)
    { count = raised i.settings i.count }
placing-is i spot need name c rising there =
    ap (λ ss. record i {
      contents = changed (λ x. placed x spot.offset need name) spot.carrier i.contents;
      singles = ss;
      count = raised i.settings i.count;
    })
    (sym (changed_none number_of (λ x. placed x spot.offset need name) spot.carrier i.singles
    (merged-apart number_of spot.carrier c i.contents i.singles rising there)))

pub employed-placed : (i : Instance) (spot : Spot) (need name : ℕ) (c : Content)
    → IsRising (employed i) → content_of i.contents spot.carrier ≡ Some c
    → employed (placing_at i spot need name)
    ≡ changed (λ x. placed x spot.offset need name) spot.carrier (employed i)
employed-placed i spot need name c rising there =
    ap employed (placing-is i spot need name c rising there)
    ∙ employed-changed (λ x. placed x spot.offset need name) (placed-keeps spot.offset need name)
    spot.carrier i

pub employed-created : (i : Instance) (p : CarrierPlan)
    → All (λ c. c.number ≢ p.number) i.contents
    → employed (creating i p) ≡ with_content (created_content i.number Multi p) (employed i)
employed-created i p new =
    merged-left number_of (created_content i.number Multi p) i.contents i.singles new

pub employed-single : (i : Instance) (p : CarrierPlan) (need name : ℕ)
    → All (λ c. c.number ≢ p.number) i.contents
    → employed (creating_single i p need name)
    ≡ with_content (created_single i.number p need name) (employed i)
employed-single i p need name new =
    merged-right number_of (created_single i.number p need name) i.contents i.singles new

pub employed-dismissed : (i : Instance) (number : ℕ) → IsRising (employed i)
    → employed (dismissing i number) ≡ without_content number (employed i)
employed-dismissed i number rising =
    sym (merged-without number_of number i.contents i.singles rising)

-- a carrier that isn't among the multiblock ones has fewer pages
pub employed-shortened : (i : Instance) (number pages : ℕ)
    → All (λ c. c.number ≢ number) i.contents
    → employed (shortened i number pages) ≡ changed (with_units pages) number (employed i)
employed-shortened i number pages others =
    ap (λ cs. merged number_of cs (changed (with_units pages) number i.singles))
    (sym (changed_none number_of (with_units pages) number i.contents others))
    ∙ merged-changed number_of (with_units pages) number (λ _. refl) i.contents i.singles
