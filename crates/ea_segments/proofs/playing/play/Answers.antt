use Rattle.std.proofs.Common.{◌≡◌, ℕ, ◌+◌, ◌-◌, ◌<◌, ◌++◌, [], List, length, map, slice_index_or}
use Rattle.std.proofs.Common.{sym, ap, ◌∙◌, subst, arith}
use Rattle.std.specs.Prelude.{All}
use Rattle.std.proofs.lemmas.List.{length-map}
use Rattle.ea_model.specs.Lists.{Items}
use Rattle.ea_segments.specs.declared.calls.Call.{Call}
use Rattle.ea_segments.specs.declared.pass.Pass.{Pass}
use Rattle.ea_segments.specs.declared.calls.Request.{Request}
use Rattle.ea_segments.specs.declared.views.Seated.{Seated}
use Rattle.ea_segments.specs.Histories.{IsByOneOf, IsLegal, IsSoundThroughout, calls_of}
use Rattle.ea_segments.specs.Requests.{asked}
use Rattle.ea_segments.specs.Seating.{known}
use Rattle.ea_segments.proofs.Passing.{any-of}
use Rattle.ea_segments.proofs.playing.play.Given.{Over}
use Rattle.ea_segments.proofs.playing.play.Goals as goal

abbrev no_section : Items Request
no_section = record { items = []; room = 0 }

-- each pass is that of the scheduler of its section
numbered : (g : Over) (c : goal.After-play_passes-passes g) (k : ℕ) (d : Pass)
    → k < length c.args.sections.now
    → (known (slice_index_or c.play_passes-passes.result.items k d)).number ≡ k + 1
numbered g c k d less =
    let many : k < length c.in_ok-counts.counts.items = omega (
      arith,
      less,
      ap length c.in_ok-counts.ensures,
      length-map c.args.sections.now (λ (s : Items Request). length s.items),
    ) in
    (c.play_passes-passes.ensures.played k d no_section less).number
    ∙ ap (λ (s : Seated). s.number) (c.in_ok-desk.ensures.each k d many).known

pub close-requires-clause-once : goal.close-requires-clause-once
close-requires-clause-once g c = λ i low high.
    let within : i - 1 < length c.args.sections.now =
    omega (arith, low, high, c.play_passes-passes.ensures.all) in
    let next : i - 1 + 1 ≡ i = omega (arith, low) in (
      i - 1,
      omega (arith, within, c.play_passes-passes.ensures.all),
      λ d. numbered g c (i - 1) d within ∙ next,
    )

pub returns : goal.returns
returns g c =
    let e = c.in_ok-desk.ensures in
    let p = c.play_passes-passes.ensures in
    let b = c.close.ensures in
    let log = c.close.result.history.items in
    record {
      legal = subst (λ n. IsLegal n log) e.pages b.legal;
      sound = subst (λ n. IsSoundThroughout n log) e.pages b.sound;
      asks = λ k d less.
          let d' : Pass = any-of c.play_passes-passes.result.items (omega (arith, less, p.all)) in
          let many : k < length c.in_ok-counts.counts.items = omega (
            arith,
            less,
            ap length c.in_ok-counts.ensures,
            length-map c.args.sections.now
                (λ (s : Items Request). length s.items),
          ) in
          let qs = (slice_index_or c.args.sections.now k d).items in
          ap (λ n. map asked (calls_of n log)) (sym ((p.played k d' d less).number
          ∙ ap (λ (s : Seated). s.number) (e.each k d' many).known))
          ∙ ap (map asked) (b.mine k d' (omega (arith, less, p.all))) ∙ (p.played k d' d less).mine
          ∙ ap (λ (l : List Call). map asked l ++ qs)
          (ap (λ (s : Seated). s.mine) (e.each k d' many).known);
      theirs = subst (λ n. All (IsByOneOf n) log) p.all b.theirs;
      segments = b.segments;
      pages = b.pages;
      free = b.free ∙ e.pages;
    }
