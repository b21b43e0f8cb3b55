use Rattle.std.proofs.Common.{◌≡◌, ◌+◌, ◌*◌, ◌^◌, ◌<◌, ℕ, List, sym, ap, ◌∙◌, subst, refl}
use Rattle.std.specs.Prelude.{Option, None, All, is_some, false}
use Rattle.ea_model.specs.GoodFit.{bin_of}
use Rattle.ea_model.proofs.Options.{some_value}
use Rattle.ea_goodfit.specs.declared.gaps.BinnedGap.{BinnedGap}
use Rattle.ea_goodfit.specs.declared.fits.Fit.TheVariants.{Good}
use Rattle.ea_goodfit.specs.Gaps.{found_in}
use Rattle.ea_goodfit.specs.Keys.{IsNext, key_of}
use Rattle.ea_goodfit.proofs.Searching.{found-lowest, found-next_bin, found-no_higher, need_low}
use Rattle.ea_goodfit.proofs.Searching.{nothing_there}
use Rattle.ea_goodfit.proofs.bins.Bins.found_good.Goals as goal

pub returns-then-is_some : goal.returns-then-is_some
returns-then-is_some c =
    let x = some_value c.found_in-found.result (sym c.if-is_some.ensures) in
    let held = c.args.self.now.held in
    x.1
    ∙ sym (found-lowest c.args.depth c.args.need held c.requires.rising c.requires.bounded
    (bin_of c.args.need) x.0
    (need_low c.args.depth c.args.need held c.requires.rising c.requires.bounded)
    (ap (λ b. found_in b c.args.depth c.args.need held) (sym c.bin_of-bin.ensures.bin)
    ∙ sym c.found_in-found.ensures ∙ x.1))

-- none of the need's bin is found
nothing_in : (found : Option BinnedGap) (bin depth need : ℕ) (gs : List BinnedGap)
    → found ≡ found_in bin depth need gs → bin ≡ bin_of need → false ≡ is_some found
    → found_in (bin_of need) depth need gs ≡ None
nothing_in found bin depth need gs is at none =
    ap (λ b. found_in b depth need gs) (sym at) ∙ sym is ∙ nothing_there found (sym none)

pub returns-in_err-higher : goal.returns-in_err-higher
returns-in_err-higher c =
    let held = c.args.self.now.held in
    c.from_residual.ensures
    ∙ sym (found-no_higher c.args.depth c.args.need held c.requires.rising c.requires.bounded
    (nothing_in _ _ _ _ _ c.found_in-found.ensures c.bin_of-bin.ensures.bin c.if-is_some.ensures)
    (subst (λ b. All (λ g. key_of Good g < (b + 1) * 2 ^ 32) held)
    (c.from.ensures ∙ c.bin_of-bin.ensures.bin)
    (subst (λ f. All (λ g. key_of f g < (c.from.result + 1) * 2 ^ 32) held) c.requires.fit
    (c.in_err-higher.ensures.none refl))))

pub returns : goal.returns
returns c =
    let held = c.args.self.now.held in
    c.found_in.ensures
    ∙ ap (λ b. found_in b c.args.depth c.args.need held) c.bin_of.ensures.bin
    ∙ sym (found-next_bin c.args.depth c.args.need held c.requires.rising c.requires.bounded
    (nothing_in _ _ _ _ _ c.found_in-found.ensures c.bin_of-bin.ensures.bin c.if-is_some.ensures)
    c.in_ok-higher.higher
    (subst (λ b. IsNext Good ((b + 1) * 2 ^ 32) held c.in_ok-higher.higher)
    (c.from.ensures ∙ c.bin_of-bin.ensures.bin)
    (subst (λ f. IsNext f ((c.from.result + 1) * 2 ^ 32) held c.in_ok-higher.higher)
    c.requires.fit c.in_ok-higher.ensures.next)))
