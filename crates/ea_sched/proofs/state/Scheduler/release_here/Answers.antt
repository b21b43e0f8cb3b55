use Rattle.std.proofs.Common.{◌≡◌, true, sym, ap, ◌∙◌, subst}
use Rattle.std.specs.Prelude.{IfSome}
use Rattle.ea_model.specs.declared.settings.Settings.{Settings}
use Rattle.ea_model.specs.Abandonment.{is_due}
use Rattle.ea_model.specs.Instance.{Instance, content_of, employed, has_content}
use Rattle.ea_sched.specs.Acting.{setup_for, standing_at}
use Rattle.ea_sched.proofs.Routing.{due-released, has-after, stays-released, there-is}
use Rattle.ea_sched.proofs.Routing.{vacant-released}
use Rattle.ea_sched.proofs.state.Scheduler.release_here.Goals as goal

pub returns-then-is_vacant-clause-turned : goal.returns-then-is_vacant-clause-turned
returns-then-is_vacant-clause-turned c = λ at.
    let s = c.args.self.now in
    c.leave.ensures (record (standing_at at s) { instance = c.hand_out-content.new.self })
    ∙ vacant-released (setup_for s) s.number c.args.hand c.args.gone c.first_gone-gone.result
    (standing_at at s) c.release-is_vacant.new.self c.release-is_vacant.ensures.released
    c.first_gone-gone.ensures c.hand_out-content.result c.hand_out-content.new.self
    c.hand_out-content.ensures.content c.hand_out-content.ensures.rest
    (sym c.release-is_vacant.ensures.vacant ∙ c.if-is_vacant.true)

pub due-requires : goal.due-requires
due-requires c = subst (λ i. has_content c.args.hand.spot.carrier (employed i) ≡ true)
    (sym c.release-is_vacant.ensures.released)
    (has-after c.args.self.now.instance c.args.hand.spot c.requires.block)

pub hand_out-content-requires-then-due-clause-there :
    goal.hand_out-content-requires-then-due-clause-there
hand_out-content-requires-then-due-clause-there c =
    subst (λ i. has_content c.args.hand.spot.carrier (employed i) ≡ true)
    (sym c.release-is_vacant.ensures.released)
    (has-after c.args.self.now.instance c.args.hand.spot c.requires.block)

pub returns-then-due-clause-turned : goal.returns-then-due-clause-turned
returns-then-due-clause-turned c = λ at.
    let s = c.args.self.now in
    let i = c.release-is_vacant.new.self in
    let y = c.hand_out-content-then-due.result in
    let q = c.hand_out-content-then-due.ensures.content in
    let same = ap (λ (j : Instance). j.settings) c.release-is_vacant.ensures.released
    ∙ c.requires.settings in
    let due = subst (λ o. IfSome o (λ z. c.due.result ≡ is_due i.settings i.count i.contents z)) q
    c.due.ensures in
    due-released (setup_for s) s.number c.args.hand c.args.gone c.first_gone-gone.result
    (standing_at at s) i c.release-is_vacant.ensures.released
    c.first_gone-gone.ensures y c.hand_out-content-then-due.new.self q
    c.hand_out-content-then-due.ensures.rest
    (ap (λ (x : Settings). is_due x i.count i.contents y) (sym same) ∙ sym due ∙ c.if-due.true)

pub returns-clause-turned : goal.returns-clause-turned
returns-clause-turned c = λ at.
    let s = c.args.self.now in
    let i = c.release-is_vacant.new.self in
    let (x, q) = there-is (content_of (employed i) c.args.hand.spot.carrier)
    (subst (λ j. has_content c.args.hand.spot.carrier (employed j) ≡ true)
    (sym c.release-is_vacant.ensures.released)
    (has-after s.instance c.args.hand.spot c.requires.block)) in
    let same = ap (λ (j : Instance). j.settings) c.release-is_vacant.ensures.released
    ∙ c.requires.settings in
    let due = subst (λ o. IfSome o (λ z. c.due.result ≡ is_due i.settings i.count i.contents z)) q
    c.due.ensures in
    stays-released (setup_for s) s.number c.args.hand c.args.gone c.first_gone-gone.result
    (standing_at at s) i c.release-is_vacant.ensures.released
    c.first_gone-gone.ensures x q (sym c.release-is_vacant.ensures.vacant ∙ c.if-is_vacant.false)
    (ap (λ (y : Settings). is_due y i.count i.contents x) (sym same) ∙ sym due ∙ c.if-due.false)
