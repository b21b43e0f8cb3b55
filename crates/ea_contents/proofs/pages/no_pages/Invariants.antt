use Rattle.std.proofs.Common.{◌≡◌, [], map, replicate}
use Rattle.ea_contents.proofs.pages.no_pages.Given as goal

abbrev pub invariant-loop : goal.invariant-loop
invariant-loop l = map (λ page. page.items) l.pages.items ≡ replicate l.counter []
