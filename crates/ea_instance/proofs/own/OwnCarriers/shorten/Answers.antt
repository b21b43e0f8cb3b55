use Rattle.std.proofs.Common.{◌+◌, ◌-◌, ◌<◌, sym, ap, ◌∙◌, subst, refl, arith}
use Rattle.ea_model.specs.Region.{IsTail, Region}
use Rattle.ea_laws.proofs.CarrierSegments.{shortened-IsTail, with_pages}
use Rattle.ea_instance.specs.Own.{OwnList}
use Rattle.ea_instance.proofs.Owned.{have-shortened, own-end, own_seen, own_there, set-shortened}
use Rattle.ea_instance.proofs.own.OwnCarriers.shorten.Goals as goal

pub overflow_add-carrier : goal.overflow_add-carrier
overflow_add-carrier c =
    let o = c.index-carrier.result.now in
    let there = own_there _ _ _ c.self.invariant c.args.number c.index_of-index.result _ o
    c.deref.ensures.value c.index_of-index.ensures.item c.index-carrier.ensures in
    let fewer = own_seen (λ x. c.args.pages < x.pages) _ _ c.args.number o
    (ap (λ (l : OwnList). l.carriers) c.self.view_is) there c.requires.fewer in
    omega (arith, fewer, own-end _ _ _ c.self.invariant c.args.number o there, c.self.invariant.low)

pub give_back-requires : goal.give_back-requires
give_back-requires c =
    let o = c.index-carrier.result.now in
    let there = own_there _ _ _ c.self.invariant c.args.number c.index_of-index.result _ o
    c.deref.ensures.value c.index_of-index.ensures.item c.index-carrier.ensures in
    let fewer = own_seen (λ x. c.args.pages < x.pages) _ _ c.args.number o
    (ap (λ (l : OwnList). l.carriers) c.self.view_is) there c.requires.fewer in
    subst (IsTail (o.base + c.args.pages) (o.pages - c.args.pages)) (sym c.self.invariant.taken)
    (shortened-IsTail c.args.number c.args.pages o c.self.inside.list.items there fewer)

pub invariant_of-self : goal.invariant_of-self
invariant_of-self c =
    let o = c.index-carrier.result.now in
    let there = own_there _ _ _ c.self.invariant c.args.number c.index_of-index.result _ o
    c.deref.ensures.value c.index_of-index.ensures.item c.index-carrier.ensures in
    let fewer = own_seen (λ x. c.args.pages < x.pages) _ _ c.args.number o
    (ap (λ (l : OwnList). l.carriers) c.self.view_is) there c.requires.fewer in
    have-shortened _ _ c.self.inside.region c.self.invariant c.args.number c.args.pages o _ _ _ refl
    (set-shortened _ _ _ c.self.invariant c.args.number c.args.pages _ c.index_of-index.result
    c.index_mut.result.now c.deref.ensures.value c.index_of-index.ensures.index
    c.index_of-index.ensures.within c.index_mut.ensures.value) there c.requires.some fewer
    c.give_back.ensures.cut c.give_back.ensures.laid

pub returns : goal.returns
returns c =
    let own = c.self.inside.list.items in
    let number = c.args.number in
    let pages = c.args.pages in
    let region = c.give_back.new.self in
    ap (λ os. record { first = region.first; end = region.end; carriers = os })
    (set-shortened _ _ _ c.self.invariant number pages _ c.index_of-index.result
    c.index_mut.result.now c.deref.ensures.value c.index_of-index.ensures.index
    c.index_of-index.ensures.within c.index_mut.ensures.value)
    ∙ ap (λ (r : Region). record {
      first = r.first;
      end = r.end;
      carriers = with_pages number pages own;
    }) c.give_back.ensures.cut
    ∙ ap (λ (l : OwnList). record l { carriers = with_pages number pages l.carriers })
    c.self.view_is
