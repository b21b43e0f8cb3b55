use Rattle.std.proofs.Common.{◌≡◌, ℕ, List, is_some, length, refl, sym, ap, ◌∙◌, arith}
use Rattle.std.specs.List.{position_or_len}
use Rattle.ea_gen.specs.Places.{AtHand}
use Rattle.ea_gen.proofs.Emptied.{later, none_found, taken_out}
use Rattle.ea_gen.specs.Places.{has_within}
use Rattle.ea_gen.specs.Generated.{is_within}
use Rattle.ea_gen.proofs.hand.Hand.take_own.Goals as goal

pub returns-then-place-len-clause-name : goal.returns-then-place-len-clause-name
returns-then-place-len-clause-name c =
    let items = c.self.inside.places.items in
    let own = has_within c.self.inside.low c.self.inside.high in
    let at : c.first_own-place.result ≡ position_or_len own items =
    c.first_own-place.ensures ∙ ap (position_or_len own) c.deref.ensures.value in
    let none = none_found own (is_within c.self.inside.low c.self.inside.high) (λ k. refl) items
    (omega (arith, ap length c.deref.ensures.value, c.deref.ensures.len)) in
    rw (← c.self.view_is) (sym none)

pub invariant_of-self-2 : goal.invariant_of-self-2
invariant_of-self-2 c =
    let items = c.self.inside.places.items in
    let own = has_within c.self.inside.low c.self.inside.high in
    let at : c.first_own-place.result ≡ position_or_len own items =
    c.first_own-place.ensures ∙ ap (position_or_len own) c.deref.ensures.value in
    record {
      any = omega (arith, later is_some refl items c.first_own-place.result, c.self.invariant.any);
      own = omega (arith, later own refl items c.first_own-place.result, c.self.invariant.own);
    }

pub returns-clause-name : goal.returns-clause-name
returns-clause-name c =
    let items = c.self.inside.places.items in
    let own = has_within c.self.inside.low c.self.inside.high in
    let at : c.first_own-place.result ≡ position_or_len own items =
    c.first_own-place.ensures ∙ ap (position_or_len own) c.deref.ensures.value in
    let t = taken_out own (is_within c.self.inside.low c.self.inside.high) (λ k. refl) refl items
    c.first_own-place.result c.index-name.result.now at
    (omega (arith, ap length c.deref.ensures.value, c.deref.ensures.len)) c.index-name.ensures in
    t.0 ∙ rw (← c.self.view_is) refl

pub returns-clause-rest : goal.returns-clause-rest
returns-clause-rest c =
    let items = c.self.inside.places.items in
    let own = has_within c.self.inside.low c.self.inside.high in
    let at : c.first_own-place.result ≡ position_or_len own items =
    c.first_own-place.ensures ∙ ap (position_or_len own) c.deref.ensures.value in
    let t = taken_out own (is_within c.self.inside.low c.self.inside.high) (λ k. refl) refl items
    c.first_own-place.result c.index-name.result.now at
    (omega (arith, ap length c.deref.ensures.value, c.deref.ensures.len)) c.index-name.ensures in
    let as_hand : List ℕ → AtHand = λ ks. record {
      names = ks;
      low = c.self.inside.low;
      high = c.self.inside.high;
    } in
    rw (← c.self.view_is) (ap as_hand t.1)
