use Rattle.std.proofs.Common.{◌≡◌, ◌∙◌, ◌≤◌, false, nat_lt, get_or}
use Rattle.ea_model.specs.Trace.{IsName}
use Rattle.ea_trace.specs.Language.{is_given, is_given_to}
use Rattle.ea_trace.proofs.Noted.{given_more, given_to_more}
use Rattle.ea_trace.proofs.names.Names.note.Goals as goal

pub returns-in-Give : goal.returns-in-Give
returns-in-Give c = λ earlier k fresh. rw c.in-Give.is (
    let name = c.in-Give.name in
    let to = c.in-Give.to in
    let table = c.set_value.ensures.value in
    let one : 1 ≤ to = rw c.in-Give.is at c.requires.given in
    let again : is_given name earlier ≡ false = rw c.in-Give.is at fresh in
    let range : IsName name = rw c.in-Give.is at c.requires.range in
    let none : nat_lt 0 (get_or c.args.self.now.addressee.items name 0) ≡ false =
    k.given name range.1 ∙ again in
    record {
      made = k.made;
      held = k.held;
      begun = k.begun;
      given = λ j le. given_more j name _ _ to (is_given j earlier) one (table j) (k.given j le);
      given_to = λ j i le from. given_to_more j name _ _ to i (is_given_to j i earlier) from (table j)
          (λ is. rw is none) (k.given_to j i le from);
    })
