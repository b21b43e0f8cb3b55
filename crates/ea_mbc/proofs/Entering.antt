-- A carrier's units and names after a block was put into a gap.
use Rattle.std.proofs.Common.{◌≡◌, ℕ, ◌+◌, ◌%◌, ◌<◌, ◌≤◌, List, [], ◌∷◌}
use Rattle.std.proofs.Common.{sym, ap, ◌∙◌, subst, inl, inr, arith}
use Rattle.std.specs.Prelude.{false, nat_lt, ◌==◌}
use Rattle.ea_model.specs.declared.carriers.BlockAt.{BlockAt}
use Rattle.ea_model.specs.Content.{gaps, gap_at, inserted, Tiled}
use Rattle.ea_model.proofs.Rising.{entered_here, entered_past}
use Rattle.ea_tags.specs.Words.{code}
use Rattle.ea_laws.proofs.BlockLists.{offset_of, gap_at-step, gap_at-behind, only_gap, Enters}
use Rattle.ea_laws.proofs.BlockLists.{Tiled-inserted}
use Rattle.ea_laws.proofs.Resized.{first_at}
use Rattle.ea_mbc.specs.Coding.{Unnamed, Coded, IsCoded, Laid}
use Rattle.ea_mbc.proofs.Frame.{Coded-past, Coded-told, Unnamed-first, front-kept, gap_at-even}

none_before : (a b : ℕ) → b ≤ a → false ≡ nat_lt a b
none_before a b le = grind arith

-- a block at the front of the first gap
placed_here : (ws vs ns ms : List ℕ) (end at stop : ℕ) (x : BlockAt) (bs : List BlockAt)
    → Tiled at end bs → x.offset ≡ at → first_at end bs ≡ stop → 6 ≤ x.size
    → x.offset + x.size ≤ stop → Coded ws ns end at bs
    → Laid ws vs ns ms end x.offset x.size stop x.name false → Coded vs ms end at (x ∷ bs)
placed_here ws vs ns ms end at stop x bs t begins first least fits c laid =
    let unnamed : Unnamed ms (x.offset + 1) stop = λ k lo hi. laid.other_names k (λ e. omega arith)
    ∙ Unnamed-first ws ns end at bs c k (omega arith) (omega arith) in (
      λ some. absurd (omega arith),
      λ k lo hi. absurd (omega arith),
      (
        laid.header
            ∙ ap (λ p. code (record {
              size = x.size;
              this_free = false;
              prev_free = p;
              last = (x.offset + x.size) == end;
            })) (none_before at x.offset (omega arith)),
        laid.its_name,
      ),
      λ k lo hi. unnamed k lo (omega arith),
      Coded-told ws vs ns ms end at (x.offset + x.size) stop bs t first laid.gap
          (λ k lo hi. unnamed k (omega arith) hi) laid.told (λ k behind. laid.kept k (inr behind))
          (λ k behind. laid.other_names k (λ e. omega arith)) c,
    )

placed_from : (ws vs ns ms : List ℕ) (end at g : ℕ) (x : BlockAt) (bs : List BlockAt)
    → Tiled at end bs → g ≡ gap_at (gaps at end bs) x.offset → Enters x g → x.offset % 2 ≡ 0
    → Coded ws ns end at bs → Laid ws vs ns ms end x.offset x.size (x.offset + g) x.name false
    → Coded vs ms end at (inserted x bs)
placed_from ws vs ns ms end at g x [] t is enters even c laid =
    let here = only_gap at end x.offset t.0 (omega (arith, enters.fits, enters.least)) in
    placed_here ws vs ns ms end at (x.offset + g) x [] t here.0 (omega (arith, here.0, here.1, t.0))
    enters.least (omega (arith, enters.fits)) c laid
placed_from ws vs ns ms end at g x (b ∷ bs) t is enters even c laid =
    elim (gap_at-step at b.offset x.offset (gaps (b.offset + b.size) end bs)) [
      | inl p ↦ subst (Coded vs ms end at)
          (sym (entered_here offset_of x b bs (omega (arith, p.0, p.1))))
          (placed_here ws vs ns ms end at (x.offset + g) x (b ∷ bs) t p.1
          (omega (arith, p.0, p.1, p.2)) enters.least (omega (arith, enters.fits)) c laid)
      | inr q ↦
          let behind : b.offset + b.size ≤ x.offset = gap_at-behind (b.offset + b.size) end x.offset
          bs t.4 (omega (arith, q, enters.fits, enters.least)) in
          subst (Coded vs ms end at) (sym (entered_past offset_of x b bs (omega arith)))
          (Coded-past ws vs ns ms end at b bs (inserted x bs) t
          (λ k lo hi. laid.kept k (inl (omega arith)))
          (λ k lo hi. laid.other_names k (λ e. omega arith)) c
          (placed_from ws vs ns ms end (b.offset + b.size) g x bs t.4 (is ∙ q) enters even c.4
          laid))
    ]

-- units and names where a block was laid into a gap stand for the blocks with that one
pub placed-coded : (ws vs ns ms : List ℕ) (end g : ℕ) (x : BlockAt) (bs : List BlockAt)
    → Tiled 8 end bs → g ≡ gap_at (gaps 8 end bs) x.offset → Enters x g → Coded ws ns end 8 bs
    → Laid ws vs ns ms end x.offset x.size (x.offset + g) x.name false
    → Coded vs ms end 8 (inserted x bs)
placed-coded ws vs ns ms end g x bs t is enters c laid =
    placed_from ws vs ns ms end 8 g x bs t is enters
    (gap_at-even 8 end x.offset bs t (omega arith) (omega (arith, enters.fits, enters.least))) c
    laid

pub placed-IsCoded : (ws vs ns ms : List ℕ) (end g : ℕ) (x : BlockAt) (bs : List BlockAt)
    → IsCoded ws ns end bs → g ≡ gap_at (gaps 8 end bs) x.offset → Enters x g
    → Laid ws vs ns ms end x.offset x.size (x.offset + g) x.name false
    → IsCoded vs ms end (inserted x bs)
placed-IsCoded ws vs ns ms end g x bs i is enters laid =
    let some : 0 < gap_at (gaps 8 end bs) x.offset = omega (arith, enters.fits, enters.least) in
    record {
      long = laid.words ∙ i.long;
      half = omega (arith, laid.halves, i.half);
      front = front-kept ns ms x.offset (gap_at-behind 8 end x.offset bs i.tiled some)
          laid.other_names i.front;
      tiled = Tiled-inserted 8 end x bs i.tiled (subst (Enters x) is enters);
      coded = placed-coded ws vs ns ms end g x bs i.tiled is enters i.coded laid;
    }
