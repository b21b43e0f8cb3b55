use Rattle.std.proofs.Common.{◌≡◌, ◌++◌, [], ap, sym, ◌∙◌, inl, inr, append-nil}
use Rattle.ea_types.specs.Output.{parts_text}
use Rattle.ea_types.proofs.Outcomes.{no-letters, no-outcomes}
use Rattle.ea_types.proofs.output.print_parts.Goals as goal

pub returns : goal.returns
returns g c =
    let text = c.loop-letter.text.items in
    let a = c.loop-letter.letter-iterator.a.rest.now in
    let b = c.loop-letter.letter-iterator.b.rest.now in
    let none : parts_text a b ≡ [] = elim c.in-None.ensures.steps [
      | inl h ↦ no-letters a b h.1.0
      | inr h ↦ no-outcomes a b h.1.0
    ] in
    sym (append-nil text) ∙ ap (λ p. text ++ p) (sym none) ∙ c.loop-letter.invariant
