use Rattle.std.proofs.Common.{◌≡◌, false, sym, ap, ◌∙◌, subst}
use Rattle.ea_model.specs.Content.{Content}
use Rattle.ea_model.specs.Instance.{Instance, created_single, employed, has_content, single_place}
use Rattle.ea_model.specs.Instance.{with_content}
use Rattle.ea_laws.specs.Spots.{IsPlaced}
use Rattle.ea_instance.proofs.Keeping.{blocks-single, few-alone, few-own, kept-single-created}
use Rattle.ea_instance.proofs.Keeping.{new-single, pages-most, seen-single-created, unused-number}
use Rattle.ea_instance.proofs.instance.Instance.create_single.Goals as goal

pub new-requires-clause-pages : goal.new-requires-clause-pages
new-requires-clause-pages c =
    pages-most _ _ _ _ _ _ _ c.self.invariant c.args.need c.args.plan _ c.self.view_is
    c.requires.plan

pub enter-requires-clause-room : goal.enter-requires-clause-room
enter-requires-clause-room c =
    few-alone _ _ _ _ _ _ _ c.self.invariant c.args.need c.args.plan _ c.self.view_is
    c.requires.plan
    c.requires.least c.requires.even

pub enter-requires-clause-number : goal.enter-requires-clause-number
enter-requires-clause-number c =
    subst (λ (x : Content). has_content x.number c.self.inside.singles ≡ false)
    (sym c.new.ensures)
    (new-single _ _ _ _ _ _ _ c.self.invariant c.args.need c.args.plan _ c.self.view_is
    c.requires.plan)

pub add-requires-clause-room : goal.add-requires-clause-room
add-requires-clause-room c =
    few-own _ _ _ _ _ _ _ c.self.invariant c.args.need c.args.plan _ c.self.view_is c.requires.plan

pub add-requires-clause-number : goal.add-requires-clause-number
add-requires-clause-number c =
    unused-number _ _ _ _ _ _ _ c.self.invariant c.args.need c.args.plan _ c.self.view_is
    c.requires.plan

entered : (c : goal.After-self-1)
    → c.enter.new.self ≡ with_content (created_single c.self.inside.number c.args.plan c.args.need
    c.args.name) c.self.inside.singles
entered c = c.enter.ensures
    ∙ ap (λ (x : Content). with_content x c.self.inside.singles) c.new.ensures

pub invariant_of-self : goal.invariant_of-self
invariant_of-self c =
    kept-single-created _ _ _ _ _ _ _ c.self.invariant c.args.need c.args.plan _ c.self.view_is
    c.requires.plan _ c.add.ensures c.args.name c.requires.least c.requires.even _ (entered c)

pub returns-clause-blocks : goal.returns-clause-blocks
returns-clause-blocks c =
    subst (λ (i : Instance). IsPlaced (employed c.args.self.now) (employed i) c.args.name
    (single_place c.args.plan c.args.need))
    (sym (seen-single-created _ _ _ _ _ _ _ c.self.invariant c.args.need c.args.plan _
    c.self.view_is
    c.requires.plan _ c.add.ensures c.args.name c.requires.least c.requires.even _ (entered c)))
    (blocks-single _ _ _ _ _ _ _ c.self.invariant c.args.need c.args.plan _ c.self.view_is
    c.requires.plan c.args.name)
