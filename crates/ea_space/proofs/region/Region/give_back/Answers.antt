use Rattle.std.proofs.Common.{◌≡◌, ◌-◌, ◌<◌, ◌≤◌, sym, ◌∙◌, ap, subst, refl, arith, set, length}
use Rattle.std.proofs.Common.{length-set, ◌+◌}
use Rattle.std.specs.List.{position_or_len}
use Rattle.ea_model.specs.declared.carriers.Segment.{Segment}
use Rattle.ea_model.specs.Region.{covers, cut_from, Laid}
use Rattle.ea_model.specs.Region.{IsTail}
use Rattle.ea_laws.proofs.Tails.{IsTail-cut_front, IsTail-cut_other}
use Rattle.ea_laws.proofs.Segments.{Laid-cut}
use Rattle.ea_space.proofs.Indices.{IsTail-at, IsTail-found, remove-found, set-found}
use Rattle.ea_space.proofs.region.Region.give_back.Goals as goal

pub index_of-index-requires : goal.index_of-index-requires
index_of-index-requires c =
    subst (λ xs. position_or_len (covers c.args.base) xs < length xs) (sym c.deref.ensures.value)
    (IsTail-at _ _ c.args.base c.args.pages c.self.inside.taken.items c.self.invariant.laid
    (subst (λ r. IsTail c.args.base c.args.pages r.taken) (sym c.self.view_is)
    c.requires)).inside

pub overflow_sub-segment : goal.overflow_sub-segment
overflow_sub-segment c =
    let f = IsTail-found _ _ c.args.base c.args.pages c.index_of-index.result
    c.index-segment.result.now c.self.inside.taken.items c.self.invariant.laid
    (subst (λ r. IsTail c.args.base c.args.pages r.taken) (sym c.self.view_is) c.requires)
    (c.index_of-index.ensures.index
    ∙ ap (position_or_len (covers c.args.base)) c.deref.ensures.value) c.index-segment.ensures
    in
    omega (arith, f.tail.within, f.tail.to_end)

removed : (c : goal.After-remove)
    → c.remove.new.self.items ≡ cut_from c.args.base c.self.inside.taken.items
removed c =
    let f = IsTail-found _ _ c.args.base c.args.pages c.index_of-index.result
    c.index-segment.result.now c.self.inside.taken.items c.self.invariant.laid
    (subst (λ r. IsTail c.args.base c.args.pages r.taken) (sym c.self.view_is) c.requires)
    (c.index_of-index.ensures.index
    ∙ ap (position_or_len (covers c.args.base)) c.deref.ensures.value) c.index-segment.ensures
    in
    c.remove.ensures.items
    ∙ remove-found _ _ c.args.base c.args.pages c.index_of-index.result
    c.index-segment.result.now c.self.inside.taken.items c.self.invariant.laid f
    c.if-segment-pages.true

pub invariant_of-self : goal.invariant_of-self
invariant_of-self c = record {
  room = omega (arith, c.self.invariant.room, c.remove.ensures.capacity);
  laid = subst (Laid c.self.inside.first c.self.inside.end) (sym (removed c))
      (Laid-cut _ _ c.args.base c.self.inside.taken.items c.self.invariant.laid);
}

pub returns-then-segment-pages-clause-cut : goal.returns-then-segment-pages-clause-cut
returns-then-segment-pages-clause-cut c = rw (removed c, ← c.self.view_is) refl

pub returns-then-segment-pages-clause-laid : goal.returns-then-segment-pages-clause-laid
returns-then-segment-pages-clause-laid c = subst (Laid c.self.inside.first c.self.inside.end)
    (sym (removed c)) (Laid-cut _ _ c.args.base c.self.inside.taken.items c.self.invariant.laid)

pub invariant_of-self-else-segment-pages : goal.invariant_of-self-else-segment-pages
invariant_of-self-else-segment-pages c =
    let f = IsTail-found _ _ c.args.base c.args.pages c.index_of-index.result
    c.index-segment.result.now c.self.inside.taken.items c.self.invariant.laid
    (subst (λ r. IsTail c.args.base c.args.pages r.taken) (sym c.self.view_is) c.requires)
    (c.index_of-index.ensures.index
    ∙ ap (position_or_len (covers c.args.base)) c.deref.ensures.value) c.index-segment.ensures
    in
    let left = set-found _ _ c.args.base c.args.pages c.index_of-index.result
    c.index-segment.result.now c.index_mut.result.now c.self.inside.taken.items
    c.self.invariant.laid f c.if-segment-pages.false c.index_mut.ensures.value in
    record {
      room = c.self.invariant.room;
      laid = subst (Laid c.self.inside.first c.self.inside.end) (sym left)
          (Laid-cut _ _ c.args.base c.self.inside.taken.items c.self.invariant.laid);
    }

pub returns-else-segment-pages-clause-cut : goal.returns-else-segment-pages-clause-cut
returns-else-segment-pages-clause-cut c =
    let f = IsTail-found _ _ c.args.base c.args.pages c.index_of-index.result
    c.index-segment.result.now c.self.inside.taken.items c.self.invariant.laid
    (subst (λ r. IsTail c.args.base c.args.pages r.taken) (sym c.self.view_is) c.requires)
    (c.index_of-index.ensures.index
    ∙ ap (position_or_len (covers c.args.base)) c.deref.ensures.value) c.index-segment.ensures
    in
    let left = set-found _ _ c.args.base c.args.pages c.index_of-index.result
    c.index-segment.result.now c.index_mut.result.now c.self.inside.taken.items
    c.self.invariant.laid f c.if-segment-pages.false c.index_mut.ensures.value in
    rw (left, ← c.self.view_is) refl

pub returns-else-segment-pages-clause-laid : goal.returns-else-segment-pages-clause-laid
returns-else-segment-pages-clause-laid c =
    let f = IsTail-found _ _ c.args.base c.args.pages c.index_of-index.result
    c.index-segment.result.now c.self.inside.taken.items c.self.invariant.laid
    (subst (λ r. IsTail c.args.base c.args.pages r.taken) (sym c.self.view_is) c.requires)
    (c.index_of-index.ensures.index
    ∙ ap (position_or_len (covers c.args.base)) c.deref.ensures.value) c.index-segment.ensures
    in
    let left = set-found _ _ c.args.base c.args.pages c.index_of-index.result
    c.index-segment.result.now c.index_mut.result.now c.self.inside.taken.items
    c.self.invariant.laid f c.if-segment-pages.false c.index_mut.ensures.value in
    subst (Laid c.self.inside.first c.self.inside.end) (sym left)
    (Laid-cut _ _ c.args.base c.self.inside.taken.items c.self.invariant.laid)

pub returns-else-segment-pages-clause-count : goal.returns-else-segment-pages-clause-count
returns-else-segment-pages-clause-count c =
    let x : Segment =
    record {
      base = c.index_mut.result.now.base;
      pages = c.index-segment.result.now.pages - c.args.pages;
    } in
    let kept : length (set c.self.inside.taken.items c.index_of-index.result x) ≡ length
    c.self.inside.taken.items = length-set c.self.inside.taken.items c.index_of-index.result x
    in
    subst (λ r. length (set c.self.inside.taken.items c.index_of-index.result x) ≤ length r.taken)
    c.self.view_is (omega arith)

pub returns-then-segment-pages-clause-front : goal.returns-then-segment-pages-clause-front
returns-then-segment-pages-clause-front c = λ at lt h.
    subst (IsTail at (c.args.base - at)) (sym (removed c))
    (IsTail-cut_front _ _ c.args.base c.args.pages at c.self.inside.taken.items
    c.self.invariant.laid
    (subst (λ r. IsTail c.args.base c.args.pages r.taken) (sym c.self.view_is) c.requires) lt
    (subst (λ r. IsTail at (c.args.base + c.args.pages - at) r.taken) (sym c.self.view_is) h))

pub returns-then-segment-pages-clause-others : goal.returns-then-segment-pages-clause-others
returns-then-segment-pages-clause-others c = λ at n away h.
    subst (IsTail at n) (sym (removed c))
    (IsTail-cut_other _ _ c.args.base c.args.pages at n c.self.inside.taken.items
    c.self.invariant.laid
    (subst (λ r. IsTail c.args.base c.args.pages r.taken) (sym c.self.view_is) c.requires) away
    (subst (λ r. IsTail at n r.taken) (sym c.self.view_is) h))

pub returns-else-segment-pages-clause-front : goal.returns-else-segment-pages-clause-front
returns-else-segment-pages-clause-front c = λ at lt h.
    let f = IsTail-found _ _ c.args.base c.args.pages c.index_of-index.result
    c.index-segment.result.now c.self.inside.taken.items c.self.invariant.laid
    (subst (λ r. IsTail c.args.base c.args.pages r.taken) (sym c.self.view_is) c.requires)
    (c.index_of-index.ensures.index
    ∙ ap (position_or_len (covers c.args.base)) c.deref.ensures.value) c.index-segment.ensures
    in
    let left = set-found _ _ c.args.base c.args.pages c.index_of-index.result
    c.index-segment.result.now c.index_mut.result.now c.self.inside.taken.items
    c.self.invariant.laid f c.if-segment-pages.false c.index_mut.ensures.value in
    subst (IsTail at (c.args.base - at)) (sym (left))
    (IsTail-cut_front _ _ c.args.base c.args.pages at c.self.inside.taken.items
    c.self.invariant.laid
    (subst (λ r. IsTail c.args.base c.args.pages r.taken) (sym c.self.view_is) c.requires) lt
    (subst (λ r. IsTail at (c.args.base + c.args.pages - at) r.taken) (sym c.self.view_is) h))

pub returns-else-segment-pages-clause-others : goal.returns-else-segment-pages-clause-others
returns-else-segment-pages-clause-others c = λ at n away h.
    let f = IsTail-found _ _ c.args.base c.args.pages c.index_of-index.result
    c.index-segment.result.now c.self.inside.taken.items c.self.invariant.laid
    (subst (λ r. IsTail c.args.base c.args.pages r.taken) (sym c.self.view_is) c.requires)
    (c.index_of-index.ensures.index
    ∙ ap (position_or_len (covers c.args.base)) c.deref.ensures.value) c.index-segment.ensures
    in
    let left = set-found _ _ c.args.base c.args.pages c.index_of-index.result
    c.index-segment.result.now c.index_mut.result.now c.self.inside.taken.items
    c.self.invariant.laid f c.if-segment-pages.false c.index_mut.ensures.value in
    subst (IsTail at n) (sym (left))
    (IsTail-cut_other _ _ c.args.base c.args.pages at n c.self.inside.taken.items
    c.self.invariant.laid
    (subst (λ r. IsTail c.args.base c.args.pages r.taken) (sym c.self.view_is) c.requires) away
    (subst (λ r. IsTail at n r.taken) (sym c.self.view_is) h))
