use Rattle.std.proofs.Common.{◌+◌, ◌-◌, ◌*◌, ◌^◌, ◌<◌, sym, ap, ◌∙◌, subst, refl, inl, inr, ◌∷◌}
use Rattle.std.proofs.Common.{fold, arith}
use Rattle.std.specs.Prelude.{None, All}
use Rattle.std.proofs.lemmas.List.Elements.{All-contains}
use Rattle.ea_goodfit.specs.declared.fits.Fit.TheVariants.{Good}
use Rattle.ea_goodfit.specs.Gaps.{considered, of_bin}
use Rattle.ea_goodfit.specs.Keys.{IsNext, key_of}
use Rattle.ea_goodfit.proofs.Searching.{considered-fitting, ends, from_address, from-start, goes_on}
use Rattle.ea_goodfit.proofs.Searching.{next-in, next-none, next-out}
use Rattle.ea_goodfit.proofs.bins.Bins.found_in.Goals as goal

pub loop-index-init : goal.loop-index-init
loop-index-init c = record {
  within = omega arith;
  rest = ap (fold (considered c.args.need) None)
      (from-start c.args.depth (of_bin c.args.bin c.args.self.now.held));
}

pub returns-then-bin_of-bin : goal.returns-then-bin_of-bin
returns-then-bin_of-bin c =
    let held = c.args.self.now.held in
    let next = subst (λ b. IsNext Good (b * 2 ^ 32 + c.loop-index.address) held c.in-Some.gap)
    c.from.ensures
    (subst (λ f. IsNext f (c.from.result * 2 ^ 32 + c.loop-index.address) held c.in-Some.gap)
    c.requires.fit c.in-Some.ensures.next) in
    ends c.args.need (c.args.depth - c.loop-index.index) c.loop-index.best _
    (from_address c.loop-index.address (of_bin c.args.bin held))
    (inr (next-out held c.in-Some.ensures.rising c.in-Some.ensures.bounded c.args.bin
    c.loop-index.address c.in-Some.gap next
    (λ e. c.if-bin_of-bin.true (c.bin_of.ensures.bin ∙ e)))) c.loop-index.invariant.rest
    ∙ considered-fitting c.args.need None _

pub returns-in_default : goal.returns-in_default
returns-in_default c =
    let held = c.args.self.now.held in
    let less = subst (λ b. All (λ g. key_of Good g < b * 2 ^ 32 + c.loop-index.address) held)
    c.from.ensures
    (subst (λ f. All (λ g. key_of f g < c.from.result * 2 ^ 32 + c.loop-index.address) held)
    c.requires.fit (c.in_default.ensures.none refl)) in
    ends c.args.need (c.args.depth - c.loop-index.index) c.loop-index.best _
    (from_address c.loop-index.address (of_bin c.args.bin held))
    (inr (next-none held c.in_default.ensures.rising c.in_default.ensures.bounded c.args.bin
    c.loop-index.address less)) c.loop-index.invariant.rest
    ∙ considered-fitting c.args.need None _

pub loop-index-preserved : goal.loop-index-preserved
loop-index-preserved c =
    let held = c.args.self.now.held in
    let next = subst (λ b. IsNext Good (b * 2 ^ 32 + c.loop-index.address) held c.in-Some.gap)
    c.from.ensures
    (subst (λ f. IsNext f (c.from.result * 2 ^ 32 + c.loop-index.address) held c.in-Some.gap)
    c.requires.fit c.in-Some.ensures.next) in
    let found = next-in held c.in-Some.ensures.rising c.in-Some.ensures.bounded c.args.bin
    c.loop-index.address c.in-Some.gap next (sym c.bin_of.ensures.bin ∙ c.if-bin_of-bin.false) in
    record {
      within = omega (
        arith,
        c.from-address.ensures,
        All-contains (λ h. h.address < 2 ^ 32) held c.in-Some.gap c.in-Some.ensures.bounded
            next.among,
      );
      rest = goes_on c.args.need (c.args.depth - c.loop-index.index)
          (c.args.depth - (c.loop-index.index + 1)) c.loop-index.best c.better_of-best.result _
          c.in-Some.gap (from_address c.loop-index.address (of_bin c.args.bin held))
          (from_address (c.from-address.result + 1) (of_bin c.args.bin held))
          (omega (arith, c.loop-index-test.true))
          (found ∙ ap (λ a. c.in-Some.gap ∷ from_address (a + 1) (of_bin c.args.bin held))
          (sym c.from-address.ensures)) c.better_of-best.ensures
          c.loop-index.invariant.rest;
    }

pub returns : goal.returns
returns c =
    ends c.args.need (c.args.depth - c.loop-index.index) c.loop-index.best _
    (from_address c.loop-index.address (of_bin c.args.bin c.args.self.now.held))
    (inl (omega (arith, c.loop-index-test.false))) c.loop-index.invariant.rest
    ∙ considered-fitting c.args.need None _
