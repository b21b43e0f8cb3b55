-- A walk over the headers of a carrier.
use Rattle.std.proofs.Common.{◌≡◌, ◌≢◌, ℕ, ◌+◌, ◌<◌, ◌≤◌, Bool, true, false, List, []}
use Rattle.std.proofs.Common.{◌∷◌, ◌++◌, max, fold, refl, sym, ap, ◌∙◌, subst, inl, inr, arith}
use Rattle.std.specs.Prelude.{slice_index, nat_le, Option, None, IsTrue, IsSome, ◌↔◌, not}
use Rattle.std.proofs.lemmas.List.Elements.{filter-append}
use Rattle.std.proofs.lemmas.List.Sums.{fold-append}
use Rattle.std.proofs.lemmas.Bool.{cases_Bool, false≢true}
use Rattle.ea_model.specs.declared.carriers.BlockAt.{BlockAt}
use Rattle.ea_model.specs.declared.carriers.Gap.{Gap}
use Rattle.ea_model.specs.declared.carriers.Inner.{Inner}
use Rattle.ea_model.specs.Content.{gap, gaps, largest, block_at, Tiled}
use Rattle.ea_model.specs.Choice.{before, better, fitting}
use Rattle.ea_tags.specs.declared.header.Header.{Header}
use Rattle.ea_tags.specs.Words.{code}
use Rattle.ea_mbc.specs.Coding.{IsCoded}
use Rattle.ea_mbc.specs.Walks.{free_of}
use Rattle.ea_laws.proofs.BlockLists.{block_at-past}
use Rattle.ea_laws.proofs.Tiling.{Tiled-allocated}
use Rattle.ea_laws.proofs.Chosen.{gap_none}
use Rattle.ea_mbc.proofs.Stepping.{Headed, Coded-Headed, Stepped, stepped}

-- where a walk is, and what is so of the place and of the blocks from there on
pub record Walk (words names : List ℕ) (end at : ℕ) (P : ℕ → List BlockAt → Type 0) : Type 0 where
  pub rest : List BlockAt
  pub tiled : Tiled at end rest
  pub headed : Headed words names end at rest
  pub holds : P at rest

pub walk-start : (words names : List ℕ) (end : ℕ) (bs : List BlockAt)
    (P : ℕ → List BlockAt → Type 0) → IsCoded words names end bs → P 8 bs
    → Walk words names end 8 P
walk-start words names end bs P c h =
    record {
      rest = bs;
      tiled = c.tiled;
      headed = Coded-Headed words names end 8 bs c.coded;
      holds = h;
    }

pub walk-step : (words names : List ℕ) (end at : ℕ) (P : ℕ → List BlockAt → Type 0) (h : Header)
    → (w : Walk words names end at P) → at < end → code h ≡ slice_index words at
    → Stepped words names end at h w.rest
walk-step words names end at P h w lt e =
    stepped words names end at h w.rest w.tiled w.headed lt e

pub walk-on : (words names : List ℕ) (end at : ℕ) (P Q : ℕ → List BlockAt → Type 0) (h : Header)
    → (w : Walk words names end at P) → at < end → code h ≡ slice_index words at
    → ((s : Stepped words names end at h w.rest) → Q (at + h.size) s.rest)
    → Walk words names end (at + h.size) Q
walk-on words names end at P Q h w lt e q =
    let s = walk-step words names end at P h w lt e in
    record { rest = s.rest; tiled = s.tiled; headed = s.headed; holds = q s }

fold-fitting : (inner : Inner) (need : ℕ) (best : Option Gap) (xs ys : List Gap)
    → fold (better (before inner)) best (fitting need (xs ++ ys))
    ≡ fold (better (before inner)) (fold (better (before inner)) best (fitting need xs))
    (fitting need ys)
fold-fitting inner need best xs ys =
    ap (λ gs. fold (better (before inner)) best gs) (filter-append (λ g. nat_le need g.size) xs ys)
    ∙ fold-append (better (before inner)) best (fitting need xs) (fitting need ys)

-- the rest of the gaps gives the choice
abbrev pub Choosing : Inner → ℕ → Option Gap → ℕ → Option Gap → ℕ → List BlockAt → Type 0
Choosing inner need best end chosen at rest =
    fold (better (before inner)) best (fitting need (gaps at end rest)) ≡ chosen

pub choose-step : (words names : List ℕ) (end at need : ℕ) (inner : Inner)
    (best next chosen : Option Gap) (h : Header)
    → (w : Walk words names end at (Choosing inner need best end chosen)) → at < end
    → code h ≡ slice_index words at
    → next ≡ fold (better (before inner)) best (fitting need (gap at (at + free_of h)))
    → Walk words names end (at + h.size) (Choosing inner need next end chosen)
choose-step words names end at need inner best next chosen h w lt e is =
    walk-on words names end at _ (Choosing inner need next end chosen) h w lt e
    (λ s. ap (λ b. fold (better (before inner)) b (fitting need (gaps (at + h.size) end s.rest))) is
    ∙ sym (fold-fitting inner need best (gap at (at + free_of h)) (gaps (at + h.size) end s.rest))
    ∙ ap (λ gs. fold (better (before inner)) best (fitting need gs)) (sym s.gaps) ∙ w.holds)

-- where the walk ends there are no more blocks
none_left : (at end : ℕ) (bs : List BlockAt) → Tiled at end bs → end ≤ at → bs ≡ []
none_left at end [] t le = refl
none_left at end (b ∷ bs) t le =
    absurd (omega (arith, t.0, t.2, Tiled-allocated (b.offset + b.size) end bs t.4))

pub walk-end : (words names : List ℕ) (end at : ℕ) (P : ℕ → List BlockAt → Type 0)
    → Walk words names end at P → end ≤ at → P at []
walk-end words names end at P w le = subst (P at) (none_left at end w.rest w.tiled le) w.holds

pub choose-end : (words names : List ℕ) (end at need : ℕ) (inner : Inner) (best chosen : Option Gap)
    → Walk words names end at (Choosing inner need best end chosen) → end ≤ at → best ≡ chosen
choose-end words names end at need inner best chosen w le =
    ap (λ gs. fold (better (before inner)) best (fitting need gs)) (sym (gap_none at end le))
    ∙ walk-end words names end at _ w le

-- the greater of `most` and the largest of the rest of the gaps
abbrev pub Greatest : ℕ → ℕ → ℕ → ℕ → List BlockAt → Type 0
Greatest most end whole at rest = max most (largest (gaps at end rest)) ≡ whole

-- the rest has the block at the offset, if there is one
abbrev pub Finding : ℕ → Option BlockAt → ℕ → List BlockAt → Type 0
Finding offset found at rest = block_at rest offset ≡ found

none_before : (at end offset : ℕ) (bs : List BlockAt) → Tiled at end bs → offset < at
    → block_at bs offset ≡ None
none_before at end offset [] t lt = refl
none_before at end offset (b ∷ bs) t lt =
    block_at-past offset b bs (λ e. absurd (omega (arith, t.0)))
    ∙ none_before (b.offset + b.size) end offset bs t.4 (omega (arith, t.0))

pub find-step : (words names : List ℕ) (end at offset : ℕ) (found : Option BlockAt) (h : Header)
    → (w : Walk words names end at (Finding offset found)) → at < end
    → code h ≡ slice_index words at → at ≢ offset
    → Walk words names end (at + h.size) (Finding offset found)
find-step words names end at offset found h w lt e other =
    walk-on words names end at _ (Finding offset found) h w lt e
    (λ s. elim (cases_Bool h.this_free) [
      | inl free ↦ ap (λ bs. block_at bs offset) (sym (s.free free)) ∙ w.holds
      | inr taken ↦ sym (block_at-past offset _ s.rest other)
          ∙ ap (λ bs. block_at bs offset) (sym (s.block taken)) ∙ w.holds
    ])

nothing : IsSome {T = BlockAt} None → ⊥
nothing t = grind arith

pub none-iff : (found : Option BlockAt) → found ≡ None → IsTrue false ↔ IsSome found
none-iff found e = (λ t. absurd (false≢true t), λ t. absurd (nothing (subst IsSome e t)))

here : (b : Bool) (found : Option BlockAt) → (b ≡ true → found ≡ None)
    → (b ≡ false → IsSome found) → IsTrue (not b) ↔ IsSome found
here true found none some =
    (λ t. absurd (false≢true t), λ t. absurd (nothing (subst IsSome (none refl) t)))
here false found none some = (λ t. some refl, λ t. refl)

first_here : (x : BlockAt) (bs : List BlockAt) (offset : ℕ) → x.offset ≡ offset
    → IsSome (block_at (x ∷ bs) offset)
first_here x bs offset e = grind arith

pub find-here : (words names : List ℕ) (end at offset : ℕ) (found : Option BlockAt) (h : Header)
    → (w : Walk words names end at (Finding offset found)) → at < end
    → code h ≡ slice_index words at → at ≡ offset → IsTrue (not h.this_free) ↔ IsSome found
find-here words names end at offset found h w lt e same =
    let s = walk-step words names end at _ h w lt e in
    here h.this_free found
    (λ free. sym w.holds ∙ ap (λ bs. block_at bs offset) (s.free free)
    ∙ none_before (at + h.size) end offset s.rest s.tiled (omega (arith, s.least)))
    (λ taken. subst IsSome (ap (λ bs. block_at bs offset) (sym (s.block taken)) ∙ w.holds)
    (first_here _ s.rest offset same))

pub find-end : (words names : List ℕ) (end at offset : ℕ) (found : Option BlockAt)
    → Walk words names end at (Finding offset found) → end ≤ at → found ≡ None
find-end words names end at offset found w le = sym (walk-end words names end at _ w le)
