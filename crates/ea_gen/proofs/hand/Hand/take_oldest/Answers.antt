use Rattle.std.proofs.Common.{◌≡◌, ℕ, Bool, List, true, is_some, length, refl, sym, ap, ◌∙◌, arith}
use Rattle.std.specs.List.{position_or_len}
use Rattle.ea_gen.specs.Places.{AtHand, names_in}
use Rattle.ea_gen.proofs.Emptied.{front_is, later, none_found, taken_out}
use Rattle.ea_gen.specs.Places.{has_within}
use Rattle.ea_gen.proofs.hand.Hand.take_oldest.Goals as goal

abbrev any : ℕ → Bool
any k = true

pub returns-then-place-len-clause-name : goal.returns-then-place-len-clause-name
returns-then-place-len-clause-name c =
    let items = c.self.inside.places.items in
    let at : c.first_name-place.result ≡ position_or_len is_some items =
    c.first_name-place.ensures ∙ ap (position_or_len is_some) c.deref.ensures.value in
    let none = none_found is_some any (λ k. refl) items
    (omega (arith, ap length c.deref.ensures.value, c.deref.ensures.len)) in
    rw (← c.self.view_is) (sym none ∙ front_is (names_in items))

pub invariant_of-self-2 : goal.invariant_of-self-2
invariant_of-self-2 c =
    let items = c.self.inside.places.items in
    let at : c.first_name-place.result ≡ position_or_len is_some items =
    c.first_name-place.ensures ∙ ap (position_or_len is_some) c.deref.ensures.value in
    record {
      any = omega (arith, later is_some refl items c.first_name-place.result);
      own = omega (
        arith,
        later (has_within c.self.inside.low c.self.inside.high) refl items
            c.first_name-place.result,
        c.self.invariant.own,
      );
    }

pub returns-clause-name : goal.returns-clause-name
returns-clause-name c =
    let items = c.self.inside.places.items in
    let at : c.first_name-place.result ≡ position_or_len is_some items =
    c.first_name-place.ensures ∙ ap (position_or_len is_some) c.deref.ensures.value in
    let t = taken_out is_some any (λ k. refl) refl items c.first_name-place.result
    c.index-name.result.now at
    (omega (arith, ap length c.deref.ensures.value, c.deref.ensures.len)) c.index-name.ensures in
    t.0 ∙ front_is (names_in items) ∙ rw (← c.self.view_is) refl

pub returns-clause-rest : goal.returns-clause-rest
returns-clause-rest c =
    let items = c.self.inside.places.items in
    let at : c.first_name-place.result ≡ position_or_len is_some items =
    c.first_name-place.ensures ∙ ap (position_or_len is_some) c.deref.ensures.value in
    let t = taken_out is_some any (λ k. refl) refl items c.first_name-place.result
    c.index-name.result.now at
    (omega (arith, ap length c.deref.ensures.value, c.deref.ensures.len)) c.index-name.ensures in
    let as_hand : List ℕ → AtHand = λ ks. record {
      names = ks;
      low = c.self.inside.low;
      high = c.self.inside.high;
    } in
    rw (← c.self.view_is) (ap as_hand t.1)
