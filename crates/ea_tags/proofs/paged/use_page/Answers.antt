use Rattle.std.proofs.Common.{◌≡◌, ℕ, ◌+◌, ◌-◌, ◌++◌, ap, arith, length, not, replicate}
use Rattle.std.proofs.Common.{set, subst, sym, take, ◌∙◌}
use Rattle.std.proofs.lemmas.List.{get_or_read, take_all}
use Rattle.std.specs.Prelude.{if◌then◌else◌}
use Rattle.ea_tags.specs.Pages.{IsPaged, number}
use Rattle.ea_tags.proofs.Pages.{added-same, has-room, paged-added}
use Rattle.ea_tags.proofs.paged.use_page.Goals as goal

pub unreachable-requires : goal.unreachable-requires
unreachable-requires c =
    let none = sym (get_or_read c.args.ends.now.items _ _ c.requires.within c.index-held.ensures 0)
    ∙ c.if-held-ne0.false in
    let room = has-room _ _ _ c.args.page c.requires.paged c.requires.within none in
    let ok = c.resize.ensures.succeeds
    (omega (arith, c.len-end.ensures, c.args.used.now.ok, room)) in
    let failed = c.is_err.ensures.negation ∙ ap not c.if-is_err.true in
    absurd cc

resized : (c : goal.After-ends-1)
    → c.resize.new.self.items ≡ c.args.used.now.items ++ replicate 512 0
resized c =
    let old = c.args.used.now in
    let end : ℕ = c.len-end.result + 512 in
    let done = c.is_err.ensures.negation ∙ ap not c.if-is_err.false in
    let rest : end - old.len ≡ 512 = omega (arith, c.len-end.ensures) in
    c.resize.ensures.items
    ∙ ap (λ b. if b then take end old.items ++ replicate (end - old.len) 0 else old.items) done
    ∙ ap (λ n. take end old.items ++ replicate n 0) rest
    ∙ ap (λ xs. xs ++ replicate 512 0)
    (take_all end old.items (omega (arith, c.len-end.ensures, old.ok)))

pub returns-clause-paged : goal.returns-clause-paged
returns-clause-paged c =
    let none = sym (get_or_read c.args.ends.now.items _ _ c.requires.within c.index-held.ensures 0)
    ∙ c.if-held-ne0.false in
    let long : length c.args.used.now.items ≡ c.len-end.result = omega
    (arith, c.len-end.ensures, c.args.used.now.ok) in
    let more = c.resize.new.self in
    subst (λ n. IsPaged (set c.args.ends.now.items c.args.page (n + 512)) more.items more.cap) long
    (subst (λ us. IsPaged (set c.args.ends.now.items c.args.page
    (length c.args.used.now.items + 512)) us more.cap) (sym (resized c))
    (paged-added _ _ _ c.args.page c.requires.paged c.requires.within none _
    c.resize.ensures.capacity))

pub returns-clause-same : goal.returns-clause-same
returns-clause-same c = λ i.
    let none = sym (get_or_read c.args.ends.now.items _ _ c.requires.within c.index-held.ensures 0)
    ∙ c.if-held-ne0.false in
    let long : c.len-end.result ≡ length c.args.used.now.items = omega
    (arith, c.len-end.ensures, c.args.used.now.ok) in
    let ends = c.args.ends.now.items in
    ap (λ n. number (set ends c.args.page (n + 512)) c.resize.new.self.items i) long
    ∙ ap (λ us. number (set ends c.args.page (length c.args.used.now.items + 512)) us i)
    (resized c)
    ∙ added-same _ _ _ c.args.page c.requires.paged c.requires.within none i
