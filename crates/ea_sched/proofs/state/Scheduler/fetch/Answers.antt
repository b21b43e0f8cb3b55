use Rattle.std.proofs.Common.{refl, sym, ap, ◌∙◌, subst}
use Rattle.std.specs.Prelude.{IsSome}
use Rattle.std.proofs.lemmas.Result.{on_err_weaker, on_ok_weaker}
use Rattle.ea_model.specs.Employment.{employing}
use Rattle.ea_model.specs.Instance.{chosen_spot}
use Rattle.ea_machine.specs.declared.stages.Stage.TheVariants.{Fetching}
use Rattle.ea_machine.specs.Placements.{placed_in_choice, search_on}
use Rattle.ea_machine.specs.Searches.{passed}
use Rattle.ea_machine.specs.Setup.{greatest_number}
use Rattle.ea_machine.specs.Rows.{FetchTry, Lost, Won}
use Rattle.ea_search.specs.Rooms.{RoomyLists}
use Rattle.ea_sched.specs.Acting.{ready_of, setup_for, standing_at}
use Rattle.ea_sched.specs.Creations.{PlansFrom}
use Rattle.ea_sched.proofs.Calling.{ready-counts, row-done, row-plans}
use Rattle.ea_sched.proofs.CarrierCalling.{listed-once}
use Rattle.ea_sched.proofs.Placing.{onward-search, onward-won}
use Rattle.ea_sched.proofs.Seeking.{fetch-asked, fetch-before, fetch-carrier, fetch-more, fetch-on}
use Rattle.ea_sched.proofs.Seeking.{fetch-pooled, won-apart, won-choice, won-kind, won-laid}
use Rattle.ea_sched.proofs.Seeking.{won-migrates, won-new, won-someones}
use Rattle.ea_sched.proofs.state.Scheduler.fetch.Goals as goal

pub fetch_try-requires-clause-migrates : goal.fetch_try-requires-clause-migrates
fetch_try-requires-clause-migrates g c = c.requires.starts.migrates
    ∙ fetch-on c.args.self.now c.requires.starts.ready c.args.ask c.args.at c.args.part
    c.args.seen refl

pub fetch_try-requires-clause-carrier : goal.fetch_try-requires-clause-carrier
fetch_try-requires-clause-carrier g c = fetch-carrier c.args.self.now c.requires.starts.ready
    c.args.ask c.args.at c.args.part c.args.seen refl c.requires.starts.schedulers

pub fetch_try-requires-clause-seen : goal.fetch_try-requires-clause-seen
fetch_try-requires-clause-seen g c = fetch-pooled c.args.self.now c.requires.starts.ready
    c.args.ask c.args.at c.args.part c.args.seen refl c.requires.starts.schedulers

pub adopt-requires : goal.adopt-requires
adopt-requires g c =
    let s = c.args.self.now in
    let h = c.requires.starts.ready in
    let x = c.in-Won.content in
    record {
      migrates = won-migrates s h c.args.ask c.args.at c.args.part c.args.seen refl x
          c.in-Won.ensures.row;
      new = won-new s h c.args.ask c.args.at c.args.part c.args.seen refl x
          c.in-Won.ensures.row;
      kind = won-kind s h c.args.ask c.args.at c.args.part c.args.seen refl x
          c.in-Won.ensures.row;
      laid = won-laid s h c.args.ask c.args.at c.args.part c.args.seen refl x
          c.in-Won.ensures.row;
      apart = won-apart s h c.args.ask c.args.at c.args.part c.args.seen refl x
          c.in-Won.ensures.row;
      someones = won-someones s h c.args.ask c.args.at c.args.part c.args.seen refl x
          c.in-Won.ensures.row;
    }

pub won-requires : goal.won-requires
won-requires g c = record {
  once = listed-once c.args.self.now c.requires.starts.ready c.args.at;
}

pub place-requires : goal.place-requires
place-requires g c =
    let s = c.args.self.now in
    let h = c.requires.starts.ready in
    record {
      more = fetch-more s h c.args.ask c.args.at c.args.part c.args.seen refl;
      asked = fetch-asked s h c.args.ask c.args.at c.args.part c.args.seen refl
          c.adopt.new.self _ refl refl;
      choice = subst (λ i. IsSome (chosen_spot i c.args.ask.need)) (sym c.adopt.ensures)
          (won-choice s h c.args.ask c.args.at c.args.part c.args.seen refl c.in-Won.content
          c.in-Won.ensures.row);
    }

pub lost-requires : goal.lost-requires
lost-requires g c = record {
  before = fetch-before c.args.self.now c.requires.starts.ready c.args.ask c.args.at c.args.part
      c.args.seen refl;
}

pub search_on-requires : goal.search_on-requires
search_on-requires g c =
    let s = c.args.self.now in
    let h = c.requires.starts.ready in
    record {
      more = fetch-more s h c.args.ask c.args.at c.args.part c.args.seen refl;
      asked = fetch-asked s h c.args.ask c.args.at c.args.part c.args.seen refl s.instance _ refl
          refl;
      on = fetch-on s h c.args.ask c.args.at c.args.part c.args.seen refl;
      counts = ready-counts s h;
    }

pub returns-in-Won-clause-row : goal.returns-in-Won-clause-row
returns-in-Won-clause-row g c =
    let s = c.args.self.now in
    let ask = c.args.ask in
    let stage = Fetching ask c.args.at c.args.part c.args.seen in
    let x = c.in-Won.content in
    row-done s c.requires.starts.ready (FetchTry c.args.at c.args.seen) (Won x) stage refl
    refl c.in-Won.ensures.row
    (c.place.ensures.actor
    ∙ ap (λ i. placed_in_choice (setup_for s) s.number ask
    (record (ready_of s) { instance = i; lists = c.won.new.lists.lists })) c.adopt.ensures
    ∙ ap (λ (l : RoomyLists). placed_in_choice (setup_for s) s.number ask
    (record (ready_of s) { instance = employing s.instance x; lists = l.lists }))
    c.won.ensures.lists
    ∙ sym (onward-won (setup_for s) s.number
    (fetch-on s c.requires.starts.ready ask c.args.at c.args.part c.args.seen refl) ask
    (standing_at stage s) c.args.at c.args.part x))

pub returns-in-Lost-clause-row : goal.returns-in-Lost-clause-row
returns-in-Lost-clause-row g c =
    let s = c.args.self.now in
    let ask = c.args.ask in
    let at = c.args.at in
    let part = c.args.part in
    let w = c.in-Lost.word in
    let stage = Fetching ask at part c.args.seen in
    on_ok_weaker c.search_on.result
    (λ is. row-done s c.requires.starts.ready (FetchTry at c.args.seen) (Lost w) stage refl refl
    c.in-Lost.ensures.row
    (is
    ∙ ap (λ y. search_on (setup_for s) s.number ask y (ready_of s))
    (c.lost.ensures.stands ∙ ap (λ k. passed k s.lists.lists at part w) c.greatest-highest.ensures)
    ∙ sym (onward-search (setup_for s) s.number
    (fetch-on s c.requires.starts.ready ask at part c.args.seen refl) ask
    (passed (greatest_number (setup_for s)) s.lists.lists at part w) (standing_at stage s))))
    c.search_on.ensures.actor

pub returns-in-Lost-clause-memory : goal.returns-in-Lost-clause-memory
returns-in-Lost-clause-memory g c =
    let s = c.args.self.now in
    let ask = c.args.ask in
    let at = c.args.at in
    let part = c.args.part in
    let w = c.in-Lost.word in
    let stage = Fetching ask at part c.args.seen in
    on_err_weaker c.search_on.result
    (λ is. row-plans s c.requires.starts.ready (FetchTry at c.args.seen) (Lost w) stage refl refl
    refl refl c.in-Lost.ensures.row
    (subst (PlansFrom s)
    (ap (λ y. search_on (setup_for s) s.number ask y (ready_of s))
    (c.lost.ensures.stands ∙ ap (λ k. passed k s.lists.lists at part w) c.greatest-highest.ensures)
    ∙ sym (onward-search (setup_for s) s.number
    (fetch-on s c.requires.starts.ready ask at part c.args.seen refl) ask
    (passed (greatest_number (setup_for s)) s.lists.lists at part w) (standing_at stage s))) is))
    c.search_on.ensures.memory
