use Rattle.std.proofs.Common.{◌≡◌, ◌≢◌, ◌*◌, ◌^◌, ◌<◌, sym, ◌∙◌, subst, inl, inr, ◌⊎◌}
use Rattle.std.specs.Prelude.{All, IfSome}
use Rattle.ea_goodfit.specs.declared.fits.Fit.{Fit}
use Rattle.ea_goodfit.specs.declared.fits.Fit.TheVariants.{Good, Best, AddressOrderBest}
use Rattle.ea_goodfit.specs.Gaps.{HeldGaps}
use Rattle.ea_goodfit.specs.Keys.{IsNext, key_of}
use Rattle.ea_goodfit.proofs.Searching.{found-by_size}
use Rattle.ea_goodfit.proofs.bins.Bins.found.Goals as goal

not_good : (fit : Fit) → (fit ≡ Best) ⊎ (fit ≡ AddressOrderBest) → fit ≢ Good
not_good fit e f =
    elim e [
      | inl b ↦ absurd (let same : Best ≡ Good = sym b ∙ f in cc)
      | inr b ↦ absurd (let same : AddressOrderBest ≡ Good = sym b ∙ f in cc)
    ]

pub returns-in-Best : goal.returns-in-Best
returns-in-Best c =
    let held = c.args.self.now.held in
    let fit = c.args.self.now.fit in
    let size = subst (λ (s : HeldGaps). s.fit ≢ Good) c.self.view_is
    (not_good c.self.inside.fit c.in-Best.is) in
    record {
      found = found-by_size fit size c.args.depth c.args.need held c.first_from.ensures.rising
          c.first_from.ensures.bounded c.first_from.result
          (subst (λ n. IfSome c.first_from.result (IsNext fit (n * 2 ^ 32) held)) c.from.ensures
          c.first_from.ensures.next)
          (λ none. subst (λ n. All (λ g. key_of fit g < n * 2 ^ 32) held) c.from.ensures
          (c.first_from.ensures.none none));
      rising = c.first_from.ensures.rising;
    }
