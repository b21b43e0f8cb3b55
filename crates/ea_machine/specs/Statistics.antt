-- The figures of a scheduler's carriers, and their report.
-- This simulator's own: the sources leave it undecided.
use Rattle.std.specs.Prelude.{ℕ, max, Bool, true, false, not, List, [], ◌∷◌, ◌++◌, filter}
use Rattle.ea_model.specs.declared.carriers.Figures.{Figures}
use Rattle.ea_model.specs.declared.carriers.Kind.{Kind}
use Rattle.ea_model.specs.declared.carriers.Kind.TheVariants.{Main, Multi, Single}
use Rattle.ea_model.specs.declared.entries.Entry.TheVariants as entry
use Rattle.ea_model.specs.declared.entries.Report.{Report}
use Rattle.ea_model.specs.declared.entries.Triple.{Triple}
use Rattle.ea_model.specs.Content.{Content}
use Rattle.ea_model.specs.Instance.{figures}
use Rattle.ea_machine.specs.declared.stages.Stage.{Stage}
use Rattle.ea_machine.specs.declared.stages.Route.{Route}
use Rattle.ea_machine.specs.declared.stages.Route.TheVariants.{Looking, Trying, Settling}
use Rattle.ea_machine.specs.declared.stages.Route.TheVariants.{Abandoning, Sending, Clearing}
use Rattle.ea_machine.specs.declared.stages.Route.TheVariants.{Pushing, Linking}
use Rattle.ea_machine.specs.Actor.{Actor, Stat, on_route}
use Rattle.ea_machine.specs.Tasks.{logged}

-- whether a carrier of the kind has one block
abbrev pub is_single : Kind → Bool
is_single Main = false
is_single Multi = false
is_single Single = true

-- a content in the hand whose carrier is still employed: it is before the row that abandons it,
-- sends it home or clears it. A busy carrier isn't employed
abbrev pub leaving_on : Route Content → List Content
leaving_on (Looking hand) = []
leaving_on (Trying hand seen) = []
leaving_on (Settling x) = []
leaving_on (Abandoning x) = x ∷ []
leaving_on (Sending x) = x ∷ []
leaving_on (Clearing x) = x ∷ []
leaving_on (Pushing node to) = []
leaving_on (Linking node to) = []

-- the same, by where the scheduler is
abbrev pub leaving_at : Stage Content → List Content
leaving_at stage = on_route [] leaving_on stage

-- the main and multiblock carriers that a scheduler employs
abbrev pub employed_multis : Actor → List Content
employed_multis a = filter (λ x. not (is_single x.kind)) (leaving_at a.stage)
    ++ a.instance.contents

-- the singleblock carriers that it employs
abbrev pub employed_singles : Actor → List Content
employed_singles a = filter (λ x. is_single x.kind) (leaving_at a.stage) ++ a.instance.singles

-- the greater of each figure
abbrev pub greater : Figures → Figures → Figures
greater f g = record {
  blocks = max f.blocks g.blocks;
  blocks_size = max f.blocks_size g.blocks_size;
  carriers = max f.carriers g.carriers;
  carriers_size = max f.carriers_size g.carriers_size;
}

-- the greatest figures, with one more observation
abbrev pub seen : Figures → Stat → Stat
seen now s = record { last = greater s.last now; ever = greater s.ever now }

-- the greatest figures before any observation
abbrev pub unseen : Stat
unseen = record { last = figures []; ever = figures [] }

-- the scheduler with its figures observed, as they are
abbrev pub observed : Actor → Actor
observed a = record a {
  mbcs = seen (figures (employed_multis a)) a.mbcs;
  sbcs = seen (figures (employed_singles a)) a.sbcs;
}

-- a figure as it is, with its greatest values
abbrev pub triple : ℕ → ℕ → ℕ → Triple
triple now last ever = record { now = now; last = last; ever = ever }

-- a report of the figures as they are, with the greatest since the last report and ever
abbrev pub report : Figures → Stat → Report
report now s = record {
  blocks = triple now.blocks s.last.blocks s.ever.blocks;
  blocks_size = triple now.blocks_size s.last.blocks_size s.ever.blocks_size;
  carriers = triple now.carriers s.last.carriers s.ever.carriers;
  carriers_size = triple now.carriers_size s.last.carriers_size s.ever.carriers_size;
}

-- from a report on, the greatest figures are those that it found
abbrev pub restarted : Figures → Stat → Stat
restarted now s = record { last = now; ever = s.ever }

-- the figures of this moment, which were observed, are reported
abbrev pub reported : Figures → Figures → Actor → Actor
reported mbcs sbcs a = logged
    (entry.Info (record { mbcs = report mbcs a.mbcs; sbcs = report sbcs a.sbcs }))
    (record a { mbcs = restarted mbcs a.mbcs; sbcs = restarted sbcs a.sbcs })

-- the allocator information; the report counts its own moment
abbrev pub informed : Actor → Actor
informed a = reported (figures (employed_multis a)) (figures (employed_singles a)) (observed a)
