use Rattle.std.proofs.Common.{false, ◌≡◌, ◌+◌, [], ◌∷◌, ◌∙◌, ap, refl, rules, sym, subst}
use Rattle.ea_model.specs.Instance.{main_carriers, main_content, new_instance, own_of}
use Rattle.ea_laws.specs.Kept.{Stands}
use Rattle.ea_laws.proofs.Standing.{new-Stands}
use Rattle.ea_instance.specs.Kept.{seen_as}
use Rattle.ea_instance.proofs.Beginning.{main-none, main-own, main-run, main-there}
use Rattle.ea_instance.proofs.Beginning.{seen-new}
use Rattle.ea_instance.proofs.Keeping.{keeping}
use Rattle.ea_instance.proofs.instance.Instance.new.Goals as goal
use Rattle.ea_instance.proofs.instance.Instance.new.Goals.{then-settings-gt0+in_ok-carrier}
use Rattle.ea_instance.proofs.instance.Instance.new.Goals.{else-settings-gt0}

-- it is the instance before its first operation
begins : (c : goal.After-new-4) → seen_as c.args.settings c.args.number c.if-settings-gt0.own
    c.if-settings-gt0.carriers c.in_ok-singles.singles c.if-settings-gt0.created
    c.most_count.result ≡ new_instance c.args.settings c.args.number c.args.first c.args.pages
begins c = elim c.if-settings-gt0.branch [
  | then-settings-gt0+in_ok-carrier w ↦
      let s = c.args.settings in
      let main : main_carriers s c.args.number c.args.first
      ≡ main_content s c.args.number c.args.first ∷ [] =
      main-there s c.args.number c.args.first w.if-settings-gt0.true in
      let owns : c.if-settings-gt0.own ≡ record {
        first = c.args.first;
        end = c.args.first + c.args.pages;
        carriers = own_of (main_content s c.args.number c.args.first) ∷ [];
      } = w.own-is ∙ w.add.ensures
      ∙ main-own s c.args.number c.args.first c.args.pages _ _ c.in_ok-own.ensures
      w.main_plan-plan.ensures in
      let employs : c.if-settings-gt0.carriers.contents
      ≡ main_content s c.args.number c.args.first ∷ [] =
      ap (λ x. x.contents) (w.carriers-is ∙ w.enter.ensures)
      ∙ rw (c.in_ok-carriers.ensures, w.in_ok-carrier.ensures, w.main_plan-plan.ensures) refl in
      seen-new s c.args.number c.args.first c.args.pages c.if-settings-gt0.own
      c.if-settings-gt0.carriers c.in_ok-singles.singles c.if-settings-gt0.created
      c.most_count.result _ main owns
      employs c.in_ok-singles.ensures (w.created-is ∙ ap (λ p. p.birth) w.main_plan-plan.ensures)
      c.most_count.ensures
  | else-settings-gt0 w ↦
      let s = c.args.settings in
      let none : main_carriers s c.args.number c.args.first ≡ [] =
      main-none s c.args.number c.args.first w.if-settings-gt0.false in
      seen-new s c.args.number c.args.first c.args.pages c.if-settings-gt0.own
      c.if-settings-gt0.carriers c.in_ok-singles.singles c.if-settings-gt0.created
      c.most_count.result _ none
      (w.own-is ∙ c.in_ok-own.ensures)
      (ap (λ x. x.contents) (w.carriers-is ∙ c.in_ok-carriers.ensures)) c.in_ok-singles.ensures
      w.created-is c.most_count.ensures
]

pub add-requires-clause-found : goal.add-requires-clause-found
add-requires-clause-found c = (
  false,
  main-run c.args.settings c.args.number c.args.first c.args.pages _ _ c.in_ok-own.ensures
      c.main_plan-plan.ensures c.if-settings-gt0.true c.requires.main,
)

pub invariant_of-result : goal.invariant_of-result
invariant_of-result c =
    let s = c.args.settings in
    keeping _ _ _ _ _ _ _ (search rules) (search rules)
    (subst Stands (sym (begins c))
    (new-Stands s c.args.number c.args.first c.args.pages c.requires.valid
    c.requires.number
    c.requires.region c.requires.main))

pub returns : goal.returns
returns c = begins c
