use Rattle.std.proofs.Common.{◌≡◌, true, refl, sym, subst}
use Rattle.std.specs.Prelude.{IsOkAnd}
use Rattle.ea_segments.specs.Requests.{IsBookOf}
use Rattle.ea_super.specs.Command.{IsBookText, super_pages}
use Rattle.ea_super.proofs.Books.{book-of-plain}
use Rattle.ea_super.proofs.part.SharedRegionPart.text_of.Goals as goal

pub returns-clause-text : goal.returns-clause-text
returns-clause-text g c =
    let d = c.args.config in
    let sections = c.in_ok-sections.sections.items in
    let book = c.in_ok-book.book in
    let text = c.in_ok-print_book.field-0.items in
    subst (λ read. IsOkAnd read (λ ss. (true ≡ true) × IsBookText (super_pages d) ss text))
    (sym c.in_ok-sections.ensures.given) (
      refl,
      (
        book,
        book-of-plain (super_pages d) sections book (subst (λ ss. IsBookOf (super_pages d) ss book)
            c.as_slice.ensures c.in_ok-book.ensures),
        c.in_ok-print_book.ensures,
      ),
    )
