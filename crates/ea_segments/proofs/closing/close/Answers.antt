use Rattle.std.proofs.Common.{◌≡◌, ◌≢◌, ◌∷◌, ◌++◌, [], length, map, slice_index_or, sym, ap, ◌∙◌}
use Rattle.std.proofs.Common.{subst, arith}
use Rattle.std.specs.Prelude.{All}
use Rattle.std.specs.Mem.Slots.{slots_items}
use Rattle.ea_segments.specs.declared.pass.Pass.{Pass}
use Rattle.ea_segments.specs.declared.views.Seated.{Seated}
use Rattle.ea_segments.specs.declared.views.View.{View}
use Rattle.ea_segments.specs.Histories.{IsByOneOf, IsLegal, calls_of}
use Rattle.ea_segments.specs.Ruling.{acting}
use Rattle.ea_segments.specs.Seating.{known}
use Rattle.ea_segments.proofs.Ending.{IsClosed, Told, closes, each-pass, none-missing}
use Rattle.ea_segments.proofs.Legal.{sound-throughout}
use Rattle.ea_segments.proofs.closing.close.Goals as goal

are : (c : goal.After-into_book)
    → c.args.passes.items ≡ c.pop.new.self.items ++ c.in-Some.last ∷ []
are c = sym c.into_vec-others.ensures ∙ c.in-Some.ensures.items

seats : (c : goal.After-into_book) → c.take_in-seat.result.me.0.seated
    ≡ acting c.in-Some.last.seat.me.0 ∷ map (λ (p : Pass). acting p.seat.me.0) c.pop.new.self.items
seats c = ap (λ (v : View). v.seated) c.take_in-seat.ensures.view
    ∙ ap (λ (v : View). v.seated ++ map (λ (p : Pass). acting p.seat.me.0) c.pop.new.self.items)
    c.in-Some.last.single

closed : (c : goal.After-into_book) → IsClosed c.args.desk.table.shared.key
    c.take_in-seat.result.me.0 c.take-ledger.result
closed c =
    let a = c.args.desk.table.shared.key in
    closes a c.take_in-seat.result.id c.take_in-seat.result.me.0
    (slots_items c.close_with-closed.result.words) (slots_items c.close_with-closed.result.slots)
    c.close_with-closed.ensures.values.2 (ap (λ (v : View). v.holds) c.take_in-seat.ensures.view)
    (λ n low high all.
    none-missing c.pop.new.self.items c.in-Some.last c.args.passes.items (are c) n
    (c.requires.once n low (omega (arith, high, c.requires.all)))
    (subst (All (λ (x : Seated). x.number ≢ n)) (seats c) all))
    c.take-ledger.result c.take-ledger.ensures.value

told : (c : goal.After-into_book)
    → All (λ p. Told c.args.desk.table.shared.key c.take-ledger.result.history (known p))
    c.args.passes.items
told c =
    let T = Told c.args.desk.table.shared.key c.take-ledger.result.history in
    each-pass T c.pop.new.self.items c.in-Some.last c.args.passes.items (are c)
    (subst (All T) (seats c) (closed c).each)

pub returns-clause-legal : goal.returns-clause-legal
returns-clause-legal c =
    subst (IsLegal c.args.desk.table.shared.key.pages) (sym c.into_book.ensures.history)
    (subst (λ p. IsLegal p c.take-ledger.result.history) (closed c).pages c.into_book.ensures.legal)

pub returns-clause-sound : goal.returns-clause-sound
returns-clause-sound c =
    sound-throughout c.args.desk.table.shared.key.pages c.into_book.result.history.items
    (returns-clause-legal c)

pub returns-clause-seen : goal.returns-clause-seen
returns-clause-seen c = λ k d less.
    let s = (told c k d less).0 in (s.0, c.into_book.ensures.history ∙ s.1)

pub returns-clause-mine : goal.returns-clause-mine
returns-clause-mine c = λ k d less.
    ap (calls_of (known (slice_index_or c.args.passes.items k d)).number)
    c.into_book.ensures.history
    ∙ (told c k d less).1

pub returns-clause-theirs : goal.returns-clause-theirs
returns-clause-theirs c =
    subst (All (IsByOneOf (length c.args.passes.items))) (sym c.into_book.ensures.history)
    (subst (λ n. All (IsByOneOf n) c.take-ledger.result.history) (sym c.requires.all)
    (closed c).theirs)

pub returns-clause-free : goal.returns-clause-free
returns-clause-free c = c.into_book.ensures.free ∙ (closed c).pages
