use Rattle.std.proofs.Common.{rules, subst}
use Rattle.std.specs.Prelude.{IfOk, IfErr}
use Rattle.std.proofs.lemmas.List.Sorted.{answers_always}
use Rattle.ea_cset.specs.Carriers.{number_of}
use Rattle.ea_cset.proofs.Rising.{rising}
use Rattle.ea_cset.proofs.Searched.{searched, place-item, free-none, between-free}
use Rattle.ea_cset.proofs.Searched.{IsPlace, IsBetween}
use Rattle.ea_cset.proofs.places.find_in.Goals as goal

place : (c : goal.In-Ok) → IsPlace number_of c.args.number c.args.held.now c.in-Ok.place
place c =
    let r = c.binary_search_by_key.ensures in
    subst (λ r. IfOk r (IsPlace number_of c.args.number c.args.held.now)) c.in-Ok.is
    (searched number_of c.args.number c.args.held.now (rising c.args.held.now c.requires.rising) _
    r.bound (r.position number_of (answers_always _ _ _ (λ f a r g called. search rules)))).0

pub returns-in-Ok-clause-item : goal.returns-in-Ok-clause-item
returns-in-Ok-clause-item c = λ d.
    place-item number_of c.args.number c.args.held.now (rising c.args.held.now c.requires.rising)
    c.in-Ok.place (place c) d

pub returns-in-Err-clause-item : goal.returns-in-Err-clause-item
returns-in-Err-clause-item c = λ d.
    let r = c.binary_search_by_key.ensures in
    free-none number_of c.args.number c.args.held.now
    (between-free number_of c.args.number c.args.held.now _
    (subst (λ r. IfErr r (IsBetween number_of c.args.number c.args.held.now)) c.in-Err.is
    (searched number_of c.args.number c.args.held.now (rising c.args.held.now c.requires.rising) _
    r.bound (r.position number_of (answers_always _ _ _ (λ f a r g called. search rules)))).1))
