use Rattle.std.proofs.Common.{length, replicate, sym, ap, ◌∙◌, subst}
use Rattle.std.specs.Prelude.{None}
use Rattle.atomic_table.specs.Table.{opening}
use Rattle.ea_sound.proofs.StandingOnce.{small-names}
use Rattle.ea_table.specs.declared.views.About.{About}
use Rattle.ea_table.specs.Ruling.{first, holds}
use Rattle.ea_table.specs.Slots.{Slot}
use Rattle.ea_table.proofs.Opening.{opens}
use Rattle.ea_table.proofs.seats.make_seats.Goals as goal

pub vacant-requires : goal.vacant-requires
vacant-requires c =
    let about : About = record { config = c.args.config; trace = c.args.trace } in
    let ws = c.in_ok-words.words.items in
    subst (λ us. holds about (opening us (replicate {A = Slot} c.count_slots.result None)
    (first about))) (sym c.deref.ensures.value)
    (subst (λ k. holds about (opening ws (replicate {A = Slot} k None) (first about)))
    (sym c.count_slots.ensures)
    (opens about ws c.requires.config c.requires.trace c.in_ok-words.ensures))

pub invariant_of-board : goal.invariant_of-board
invariant_of-board c =
    let key = c.in_ok-table.ensures.5 in
    record {
      schedulers_are = sym (ap (λ k. k.config.schedulers) key);
      greatest_is = sym (ap (λ k. k.trace.now.greatest) key);
      few = c.requires.config.schedulers.1;
      small = small-names c.args.config.schedulers c.args.trace.now c.requires.trace;
      slots = c.in_ok-table.ensures.1 ∙ c.count_slots.ensures;
      words = c.in_ok-table.ensures.0 ∙ ap length c.deref.ensures.value
          ∙ c.in_ok-words.ensures.count;
    }
