use Rattle.std.proofs.Common.{arith}
use Rattle.ea_instance.proofs.Keeping.{kept-few_alone}
use Rattle.ea_instance.proofs.Reallocating.{block-header, fewer-own, fewer-then, fits-single}
use Rattle.ea_instance.proofs.Reallocating.{fits-then, in-place, kept-less, kept-single, seen-less}
use Rattle.ea_instance.proofs.Reallocating.{seen-single, there-own, there-then}
use Rattle.ea_instance.proofs.instance.Instance.resize_single.Goals as goal

pub resize-requires-clause-few : goal.resize-requires-clause-few
resize-requires-clause-few c =
    omega (arith, kept-few_alone _ _ _ _ _ _ _ c.self.invariant)

pub resize-requires-clause-block : goal.resize-requires-clause-block
resize-requires-clause-block c =
    block-header _ _ _ _ _ _ _ c.self.invariant c.args.spot c.args.need _ c.self.view_is
    c.requires.block c.requires.single

pub shorten-requires-clause-there : goal.shorten-requires-clause-there
shorten-requires-clause-there c =
    there-then _ _ _ _ _ _ _ c.self.invariant c.args.spot c.args.need _ c.self.view_is
    c.requires.block c.requires.single c.args.decision c.requires.decision c.args.name
    c.requires.least c.requires.even c.resize.new.self c.resize.ensures c.in-ShrinkCarrier.pages
    c.in-ShrinkCarrier.is

pub shorten-requires-clause-fits : goal.shorten-requires-clause-fits
shorten-requires-clause-fits c =
    fits-then _ _ _ _ _ _ _ c.self.invariant c.args.spot c.args.need _ c.self.view_is
    c.requires.block
    c.requires.single c.args.decision c.requires.decision c.args.name c.requires.least
    c.requires.even c.resize.new.self c.resize.ensures c.in-ShrinkCarrier.pages
    c.in-ShrinkCarrier.is

pub shorten-requires-clause-fewer : goal.shorten-requires-clause-fewer
shorten-requires-clause-fewer c =
    fewer-then _ _ _ _ _ _ _ c.self.invariant c.args.spot c.args.need _ c.self.view_is
    c.requires.block c.requires.single c.args.decision c.requires.decision c.args.name
    c.requires.least c.requires.even c.resize.new.self c.resize.ensures c.in-ShrinkCarrier.pages
    c.in-ShrinkCarrier.is

pub shorten-requires-in-ShrinkCarrier-clause-there :
    goal.shorten-requires-in-ShrinkCarrier-clause-there
shorten-requires-in-ShrinkCarrier-clause-there c =
    there-own _ _ _ _ _ _ _ c.self.invariant c.args.spot c.args.need _ c.self.view_is
    c.requires.block
    c.requires.single c.args.decision c.requires.decision c.args.name c.requires.least
    c.requires.even c.resize.new.self c.resize.ensures c.in-ShrinkCarrier.pages
    c.in-ShrinkCarrier.is

pub shorten-requires-in-ShrinkCarrier-clause-fewer :
    goal.shorten-requires-in-ShrinkCarrier-clause-fewer
shorten-requires-in-ShrinkCarrier-clause-fewer c =
    fewer-own _ _ _ _ _ _ _ c.self.invariant c.args.spot c.args.need _ c.self.view_is
    c.requires.block
    c.requires.single c.args.decision c.requires.decision c.args.name c.requires.least
    c.requires.even c.resize.new.self c.resize.ensures c.in-ShrinkCarrier.pages
    c.in-ShrinkCarrier.is

pub invariant_of-self : goal.invariant_of-self
invariant_of-self c =
    kept-less _ _ _ _ _ _ _ c.self.invariant c.args.spot c.args.need _ c.self.view_is
    c.requires.block
    c.requires.single c.args.decision c.requires.decision c.args.name c.requires.least
    c.requires.even c.resize.new.self c.resize.ensures c.in-ShrinkCarrier.pages
    c.in-ShrinkCarrier.is c.shorten-in-ShrinkCarrier.new.self c.shorten-in-ShrinkCarrier.ensures
    c.shorten.new.self c.shorten.ensures

pub returns-in-ShrinkCarrier-clause-resized : goal.returns-in-ShrinkCarrier-clause-resized
returns-in-ShrinkCarrier-clause-resized c =
    seen-less _ _ _ _ _ _ _ c.self.invariant c.args.spot c.args.need _ c.self.view_is
    c.requires.block
    c.requires.single c.args.decision c.requires.decision c.args.name c.requires.least
    c.requires.even c.resize.new.self c.resize.ensures c.in-ShrinkCarrier.pages
    c.in-ShrinkCarrier.is c.shorten-in-ShrinkCarrier.new.self c.shorten-in-ShrinkCarrier.ensures
    c.shorten.new.self c.shorten.ensures

pub resize-requires-in_default : goal.resize-requires-in_default
resize-requires-in_default c =
    record {
      laid = c.self.invariant.stands.orderly.alone;
      few = omega (arith, kept-few_alone _ _ _ _ _ _ _ c.self.invariant);
      block = block-header _ _ _ _ _ _ _ c.self.invariant c.args.spot c.args.need _ c.self.view_is
          c.requires.block
          c.requires.single;
      fits = fits-single _ _ _ _ _ _ _ c.self.invariant c.args.spot c.args.need _ c.self.view_is
          c.requires.block
          c.requires.single c.args.decision c.requires.decision c.in_default.not-Move;
    }

pub invariant_of-self-in_default : goal.invariant_of-self-in_default
invariant_of-self-in_default c =
    kept-single _ _ _ _ _ _ _ c.self.invariant c.args.spot c.args.need _ c.self.view_is
    c.requires.block c.requires.single c.args.decision c.requires.decision c.args.name
    c.requires.least c.requires.even c.resize-in_default.new.self c.resize-in_default.ensures
    (in-place c.args.decision c.in_default.not-Move c.in_default.not-ShrinkCarrier)

pub returns-in_default-clause-resized : goal.returns-in_default-clause-resized
returns-in_default-clause-resized c =
    seen-single _ _ _ _ _ _ _ c.self.invariant c.args.spot c.args.need _ c.self.view_is
    c.requires.block c.requires.single c.args.decision c.requires.decision c.args.name
    c.requires.least c.requires.even c.resize-in_default.new.self c.resize-in_default.ensures
    (in-place c.args.decision c.in_default.not-Move c.in_default.not-ShrinkCarrier)
