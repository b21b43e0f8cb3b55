use Rattle.std.proofs.Common.{◌≡◌, None, slice_index, slice_index_or, sym, ap, ◌∙◌}
use Rattle.std.proofs.lemmas.Grind.{not_there}
use Rattle.std.specs.Mem.Slots.{slots_items}
use Rattle.ea_table.specs.Ending.{place_by, places_in}
use Rattle.ea_word.specs.Codes.{word_in}
use Rattle.ea_table.specs.Slots.{slot_at}
use Rattle.ea_table.specs.Words.{owner_at}
use Rattle.ea_table.proofs.Closing.{in-range, word-told}
use Rattle.ea_table.proofs.Reading.{element-index}
use Rattle.ea_table.proofs.ending.StillRested.word.Goals as goal

pub unreachable-requires : goal.unreachable-requires
unreachable-requires c =
    let s = c.args.self.now in
    let ws = slots_items s.closed.now.words in
    let n = c.args.carrier in
    let found : slice_index ws (owner_at s.schedulers s.greatest n) ≡ c.word.result =
    ap (slice_index ws) (sym c.owner_place-place.ensures)
    ∙ element-index ws c.owner_place-place.result c.word.result c.word.ensures in
    not_there (s.shown n) (λ shown.
    let never = sym (c.decode.ensures.coded _ shown (sym found ∙ s.owners n c.requires.carrier))
    ∙ c.in-None.is in cc)

pub returns : goal.returns
returns c =
    let s = c.args.self.now in
    let ws = slots_items s.closed.now.words in
    let xs = slots_items s.closed.now.slots in
    let n = c.args.carrier in
    let found : slice_index ws (owner_at s.schedulers s.greatest n) ≡ c.word.result =
    ap (slice_index ws) (sym c.owner_place-place.ensures)
    ∙ element-index ws c.owner_place-place.result c.word.result c.word.ensures in
    let slot = slice_index_or xs (slot_at n) None in
    word-told c.in-Some.word c.word.result slot (places_in s.schedulers s.greatest ws xs n)
    c.in-Some.ensures.only.1
    (in-range s.schedulers s.greatest ws xs n c.requires.carrier
    ∙ ap (λ f. place_by (word_in f) slot) found
    ∙ ap (λ w. place_by w slot) (sym c.in-Some.ensures.reads))
    (sym found ∙ s.owners n c.requires.carrier)
