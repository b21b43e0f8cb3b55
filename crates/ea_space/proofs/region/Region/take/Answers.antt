use Rattle.std.proofs.Common.{◌≡◌, ◌+◌, length, sym, ap, ◌∙◌, subst, arith}
use Rattle.std.specs.Prelude.{IfSome}
use Rattle.ea_model.specs.Region.{place_in, runs_of, with_segment, Laid}
use Rattle.ea_model.proofs.Rising.{length-entered}
use Rattle.ea_laws.proofs.Segments.{Laid-entered, start_of}
use Rattle.ea_laws.proofs.Tails.{IsTail-entered, IsTail-entered_other}
use Rattle.ea_model.specs.Region.{IsTail}
use Rattle.ea_laws.proofs.FreeRuns.{Fits, place-Fits}
use Rattle.ea_space.proofs.region.Region.take.Goals as goal

fits : (c : goal.After-enter_within)
    → Fits c.self.inside.first c.self.inside.end c.args.base c.args.pages c.self.inside.taken.items
fits c =
    let now = c.self.inside in
    subst (λ o. IfSome o (λ base. Fits now.first now.end base c.args.pages now.taken.items))
    (ap (λ r. place_in c.requires.found.0 c.args.pages (runs_of r)) c.self.view_is
    ∙ c.requires.found.1)
    (place-Fits c.requires.found.0 now.first now.end c.args.pages now.taken.items c.self.invariant.laid)

laid : (c : goal.After-enter_within) → Laid c.self.inside.first c.self.inside.end
    (with_segment (record { base = c.args.base; pages = c.args.pages }) c.self.inside.taken.items)
laid c =
    let f = fits c in
    Laid-entered c.self.inside.first c.self.inside.end
    (record { base = c.args.base; pages = c.args.pages }) c.self.inside.taken.items
    c.self.invariant.laid f.behind f.before c.requires.some f.apart

pub invariant_of-self : goal.invariant_of-self
invariant_of-self c = record {
  room = omega (arith, c.self.invariant.room, c.enter_within.ensures.capacity);
  laid = subst (Laid c.self.inside.first c.self.inside.end) (sym c.enter_within.ensures.items)
      (laid c);
}

pub returns-clause-inside : goal.returns-clause-inside
returns-clause-inside c =
    let f = subst (λ r. Fits r.first r.end c.args.base c.args.pages r.taken) c.self.view_is (fits c)
    in (f.behind, f.before)

pub returns-clause-apart : goal.returns-clause-apart
returns-clause-apart c =
    (subst (λ r. Fits r.first r.end c.args.base c.args.pages r.taken) c.self.view_is (fits c)).apart

pub returns-clause-laid : goal.returns-clause-laid
returns-clause-laid c =
    subst (Laid c.self.inside.first c.self.inside.end) (sym c.enter_within.ensures.items) (laid c)

pub returns-clause-count : goal.returns-clause-count
returns-clause-count c =
    let more : length c.enter_within.new.items.items ≡ length c.self.inside.taken.items + 1 =
    ap length c.enter_within.ensures.items
    ∙ length-entered start_of (record { base = c.args.base; pages = c.args.pages })
    c.self.inside.taken.items in
    subst (λ r. length c.enter_within.new.items.items ≡ length r.taken + 1) c.self.view_is more

pub returns-clause-whole : goal.returns-clause-whole
returns-clause-whole c =
    subst (IsTail c.args.base c.args.pages) (sym c.enter_within.ensures.items)
    (IsTail-entered (record { base = c.args.base; pages = c.args.pages }) c.self.inside.taken.items
    c.requires.some)

pub returns-clause-others : goal.returns-clause-others
returns-clause-others c = λ at n h.
    subst (IsTail at n) (sym c.enter_within.ensures.items)
    (IsTail-entered_other at n (record { base = c.args.base; pages = c.args.pages })
    c.self.inside.taken.items (subst (λ r. IsTail at n r.taken) (sym c.self.view_is) h))
