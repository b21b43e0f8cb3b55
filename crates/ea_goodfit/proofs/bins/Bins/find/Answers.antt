use Rattle.std.proofs.Common.{◌<◌, ◌≤◌, ◌↔◌, sym, ◌∙◌, subst}
use Rattle.std.specs.Prelude.{IfSome, IsNone, IsTrue, All}
use Rattle.ea_model.specs.Choice.{IsFirst}
use Rattle.ea_model.specs.GoodFit.{bin_of}
use Rattle.ea_goodfit.specs.Gaps.{is_held, takes_first, inspected_by, inspected_fitting}
use Rattle.ea_goodfit.proofs.Found.{found-none, found-IsFirst, found-held, found-inspected}
use Rattle.ea_goodfit.proofs.Found.{found-fits, found-bin, found-above, found-only, found-order}
use Rattle.ea_goodfit.proofs.bins.Bins.find.Goals as goal

pub returns-clause-none : goal.returns-clause-none
returns-clause-none c =
    subst (λ r. IsNone r ↔ All (λ g. g.size < c.args.need)
    (inspected_by c.args.self.now.fit c.args.depth c.args.self.now.held))
    (sym c.found.ensures.found)
    (found-none c.args.self.now.fit c.args.depth c.args.need c.args.self.now.held)

pub returns-clause-first : goal.returns-clause-first
returns-clause-first c =
    subst (λ r. IfSome r (IsFirst (takes_first c.args.self.now.fit)
    (inspected_fitting c.args.self.now.fit c.args.depth c.args.need c.args.self.now.held)))
    (sym c.found.ensures.found)
    (found-IsFirst c.args.self.now.fit c.args.depth c.args.need c.args.self.now.held)

pub returns-clause-held : goal.returns-clause-held
returns-clause-held c =
    subst (λ r. IfSome r (λ g. IsTrue (is_held g c.args.self.now.held)))
    (sym c.found.ensures.found)
    (found-held c.args.self.now.fit c.args.depth c.args.need c.args.self.now.held)

pub returns-clause-inspected : goal.returns-clause-inspected
returns-clause-inspected c =
    subst (λ r. IfSome r (λ g. IsTrue
    (is_held g (inspected_by c.args.self.now.fit c.args.depth c.args.self.now.held))))
    (sym c.found.ensures.found)
    (found-inspected c.args.self.now.fit c.args.depth c.args.need c.args.self.now.held)

pub returns-clause-fits : goal.returns-clause-fits
returns-clause-fits c =
    subst (λ r. IfSome r (λ g. c.args.need ≤ g.size)) (sym c.found.ensures.found)
    (found-fits c.args.self.now.fit c.args.depth c.args.need c.args.self.now.held)

pub returns-clause-bin : goal.returns-clause-bin
returns-clause-bin c =
    subst (λ r. IfSome r (λ g. All (λ h. c.args.need ≤ h.size → bin_of g.size ≤ bin_of h.size)
    (inspected_by c.args.self.now.fit c.args.depth c.args.self.now.held)))
    (sym c.found.ensures.found)
    (found-bin c.args.self.now.fit c.args.depth c.args.need c.args.self.now.held)

pub returns-clause-only : goal.returns-clause-only
returns-clause-only c = λ g f. c.found.ensures.found
    ∙ found-only c.args.self.now.fit c.args.depth c.args.need c.args.self.now.held
    c.found.ensures.rising g f

pub returns-clause-order : goal.returns-clause-order
returns-clause-order c = λ gs m. c.found.ensures.found
    ∙ found-order c.args.self.now.fit c.args.depth c.args.need c.args.self.now.held
    c.found.ensures.rising gs m

pub returns-clause-above : goal.returns-clause-above
returns-clause-above c = λ one none.
    found-above c.args.self.now.fit c.args.depth c.args.need one c.args.self.now.held
    c.found.ensures.rising (subst (λ r. IsNone r) c.found.ensures.found none)
