-- The carriers that a scheduler employs, with the one in its hand that is about to leave.
use Rattle.std.proofs.Common.{◌≡◌, Bool, false, [], ◌∷◌, ◌++◌, refl, ap, ◌∙◌}
use Rattle.std.specs.Prelude.{filter, not, if◌then◌else◌}
use Rattle.ea_model.specs.declared.carriers.Kind.{Kind}
use Rattle.ea_model.specs.declared.carriers.Kind.TheVariants.{Main, Multi, Single}
use Rattle.ea_model.specs.Content.{Content}
use Rattle.ea_machine.specs.Actor.{Actor}
use Rattle.ea_machine.specs.Statistics.{employed_multis, employed_singles, is_single, leaving_at}

pub kind-other : (k : Kind) → (k ≡ Single → ⊥) → is_single k ≡ false
kind-other Main other = refl
kind-other Multi other = refl
kind-other Single other = absurd (other refl)

module _ (a : Actor) where
  -- none leaves
  pub multis-none : leaving_at a.stage ≡ [] → employed_multis a ≡ a.instance.contents
  multis-none e = ap (λ xs. filter (λ (x : Content). not (is_single x.kind)) xs
      ++ a.instance.contents) e

  pub singles-none : leaving_at a.stage ≡ [] → employed_singles a ≡ a.instance.singles
  singles-none e = ap (λ xs. filter (λ (x : Content). is_single x.kind) xs
      ++ a.instance.singles) e

  -- one does
  module _ (x : Content) (leaves : leaving_at a.stage ≡ x ∷ []) (b : Bool)
      (kind : is_single x.kind ≡ b) where
    pub multis-one : employed_multis a
        ≡ (if not b then x ∷ [] else []) ++ a.instance.contents
    multis-one = ap (λ xs. filter (λ (y : Content). not (is_single y.kind)) xs
        ++ a.instance.contents) leaves
        ∙ ap (λ c. (if not c then x ∷ [] else []) ++ a.instance.contents) kind

    pub singles-one : employed_singles a ≡ (if b then x ∷ [] else []) ++ a.instance.singles
    singles-one = ap (λ xs. filter (λ (y : Content). is_single y.kind) xs
        ++ a.instance.singles) leaves
        ∙ ap (λ c. (if c then x ∷ [] else []) ++ a.instance.singles) kind
