-- A book of sections is one of the lists of their requests.
use Rattle.std.proofs.Common.{zero, suc, ◌≡◌, ℕ, ◌<◌, List, [], ◌∷◌, length, map, All, refl}
use Rattle.std.proofs.Common.{sym, subst, ◌∙◌}
use Rattle.std.proofs.lemmas.List.{length-map}
use Rattle.std.specs.Prelude.{slice_index_or}
use Rattle.ea_model.specs.Lists.{Items}
use Rattle.ea_model.specs.Trace.{listed}
use Rattle.ea_segments.specs.Histories.{IsByOneOf}
use Rattle.ea_segments.specs.Requests.{IsBookOf}
use Rattle.ea_segments.specs.declared.calls.Book.{Book}
use Rattle.ea_segments.specs.declared.calls.Request.{Request}
use Rattle.ea_super.specs.Reading.{all_of}

-- the same lists, without their room
abbrev Plain : List (Items Request) → List (Items Request)
Plain sections = map listed (all_of sections)

plain-length : (sections : List (Items Request)) → length (Plain sections) ≡ length sections
plain-length sections = length-map (all_of sections) listed
    ∙ length-map sections (λ s. s.items)

plain-at : (sections : List (Items Request)) (k : ℕ) (d : Items Request)
    → (slice_index_or (Plain sections) k d).items ≡ (slice_index_or sections k d).items
plain-at [] k d = refl
plain-at (s ∷ ss) zero d = refl
plain-at (s ∷ ss) (suc k) d = plain-at ss k d

pub book-of-plain : (total : ℕ) (sections : List (Items Request)) (book : Book)
    → IsBookOf total sections book → IsBookOf total (Plain sections) book
book-of-plain total sections book h = record {
  legal = h.legal;
  sound = h.sound;
  asks = λ k d less. h.asks k d (subst (λ n. k < n) (plain-length sections) less)
      ∙ sym (plain-at sections k d);
  theirs = subst (λ n. All (IsByOneOf n) book.history.items) (sym (plain-length sections))
      h.theirs;
  segments = h.segments;
  pages = h.pages;
  free = h.free;
}

-- what asks for pages is a request
