-- Steps that are told one after another, with the last line left open, have the text of their
-- groups; and steps in a row are told at once.
use Rattle.std.proofs.Common.{◌≡◌, ℕ, ◌==◌, Bool, true, false, cond, ◌&&◌, List, [], ◌∷◌, ◌++◌}
use Rattle.std.proofs.Common.{Option, None, Some, flat_map, fold, refl, sym, ap, ◌∙◌, append_assoc}
use Rattle.std.proofs.Common.{append-nil, inl, inr}
use Rattle.std.specs.Prelude.{⊤}
use Rattle.std.proofs.lemmas.Bool.{cases_Bool}
use Rattle.std.proofs.lemmas.List.Sums.{fold-append}
use Rattle.ea_steps.specs.Fronts.{after_group, after_open, after_step, closed_text, front_of}
use Rattle.ea_steps.specs.Fronts.{goes_on, grown_if, is_joined, kept, kept_if, may_grow}
use Rattle.ea_steps.specs.declared.joined.Joined.{Joined}
use Rattle.ea_steps.specs.declared.joined.Joined.TheVariants.{Apart, Looks, Tries}
use Rattle.ea_steps.specs.Groups.{Group, are_alike}
use Rattle.ea_steps.specs.Groups.{groups, grouped_if, joined, only, share_line}
use Rattle.ea_steps.specs.Groups.{with_step}
use Rattle.ea_machine.specs.Setup.{Setup}
use Rattle.ea_steps.specs.Steps.{Step}
use Rattle.ea_steps.specs.Text.{all_steps_text, group_text, is_quiet}

alike-joined : (a b : Joined) → is_joined a ≡ false → are_alike a b ≡ false
alike-joined Apart b e = refl
alike-joined (Looks n) b e = absurd cc
alike-joined (Tries n) b e = absurd cc

joined-alike : (a b : Joined) → are_alike a b ≡ true → is_joined a ≡ true
joined-alike Apart b e = absurd cc
joined-alike (Looks n) b e = refl
joined-alike (Tries n) b e = refl

and-last : (a b c : Bool) → c ≡ true → (a && (b && c)) ≡ (a && b)
and-last true true c e = e
and-last true false c e = refl
and-last false b c e = refl

and-none : (a b c d : Bool) → (d && c) ≡ false → (d ≡ false → b ≡ false) → (a && (b && c)) ≡ false
and-none false b c d e f = refl
and-none true b c false e f = ap (λ x. x && c) (f refl)
and-none true true false true e f = refl
and-none true false false true e f = refl
and-none true b true true e f = absurd cc

and-right : (a b : Bool) → (a && b) ≡ true → b ≡ true
and-right true b e = e
and-right false b e = absurd cc

and-both : (a b c d : Bool) → (a && (b && c)) ≡ true → (b ≡ true → d ≡ true)
    → ((d && c) ≡ true) × ((a && b) ≡ true)
and-both false b c d e f = absurd cc
and-both true false c d e f = absurd cc
and-both true true c d e f = (ap (λ x. x && c) (f refl) ∙ e, refl)

-- the groups, of which the first begins with that step
abbrev pub begun_with : Step → List Group → List Group
begun_with s [] = []
begun_with s (g ∷ gs) = record g { first = s } ∷ gs

begun-joined : (f s : Step) (h : Group) (hs : List Group) (b : Bool)
    → begun_with f (grouped_if b s h hs)
    ≡ cond b (begun_with f (h ∷ hs)) (record { first = f; last = s } ∷ h ∷ hs)
begun-joined f s h hs true = refl
begun-joined f s h hs false = refl

module _ (quiet : Step → Bool) where
  begun-over : (f s r : Step) (g : Group) (gs : List Group) (b : Bool)
      → begun_with f (with_step quiet s (grouped_if b r g gs))
      ≡ cond (share_line quiet s r) (begun_with f (grouped_if b r g gs))
      (record { first = f; last = s } ∷ grouped_if b r g gs)
  begun-over f s r g gs true =
      begun-joined f s (record g { first = r }) gs (share_line quiet s r)
  begun-over f s r g gs false = begun-joined f s (only r) (g ∷ gs) (share_line quiet s r)

  begun-two : (f s r : Step) (gs : List Group)
      → begun_with f (with_step quiet s (with_step quiet r gs))
      ≡ cond (share_line quiet s r) (begun_with f (with_step quiet r gs))
      (record { first = f; last = s } ∷ with_step quiet r gs)
  begun-two f s r [] = begun-joined f s (only r) [] (share_line quiet s r)
  begun-two f s r (g ∷ gs) = begun-over f s r g gs (share_line quiet r g.first)

  begun-if : (b : Bool) (s : Step) (g : Group) (gs : List Group)
      → begun_with s (grouped_if b s g gs) ≡ grouped_if b s g gs
  begun-if true s g gs = refl
  begun-if false s g gs = refl

  -- the first group begins with the first step
  begun-first : (s : Step) (gs : List Group)
      → begun_with s (with_step quiet s gs) ≡ with_step quiet s gs
  begun-first s [] = refl
  begun-first s (g ∷ gs) = begun-if (share_line quiet s g.first) s g gs

module _ (setup : Setup) where
  -- the groups from an open one on
  abbrev pub groups_from : Group → List Step → List Group
  groups_from g ss = begun_with g.first (groups (is_quiet setup) (g.last ∷ ss))

  from-next : (b : Bool) (g : Group) (s : Step) (ss : List Step)
      → share_line (is_quiet setup) g.last s ≡ b → groups_from g (s ∷ ss)
      ≡ cond b (groups_from (record g { last = s }) ss) (g ∷ groups (is_quiet setup) (s ∷ ss))
  from-next b g s ss e = begun-two (is_quiet setup) g.first g.last s (groups (is_quiet setup) ss)
      ∙ ap (λ x. cond x (groups_from (record g { last = s }) ss)
      (g ∷ groups (is_quiet setup) (s ∷ ss))) e

  grown-joined : (g : Group) (s : Step) → may_grow setup g.last ≡ true
      → share_line (is_quiet setup) g.last s ≡ goes_on g.last s
  grown-joined g s e = and-last (g.last.scheduler == s.scheduler)
      (are_alike (joined g.last) (joined s)) (is_quiet setup g.last)
      (and-right (is_joined (joined g.last)) (is_quiet setup g.last) e)

  shut-joined : (g : Group) (s : Step) → may_grow setup g.last ≡ false
      → share_line (is_quiet setup) g.last s ≡ false
  shut-joined g s e = and-none (g.last.scheduler == s.scheduler)
      (are_alike (joined g.last) (joined s)) (is_quiet setup g.last)
      (is_joined (joined g.last)) e (alike-joined (joined g.last) (joined s))

  kept-closed : (b : Bool) (text : List ℕ) (g : Group)
      → closed_text setup (kept_if setup b text g) ≡ text ++ group_text setup g
  kept-closed true text g = refl
  kept-closed false text g = refl

  -- a front after a group has the text of the groups from that one on
  abbrev pub Tells : List ℕ → Group → List Step → Type 0
  Tells text g ss = closed_text setup (fold (after_step setup) (kept setup text g) ss)
      ≡ text ++ flat_map (group_text setup) (groups_from g ss)

  tells-end : (text : List ℕ) (g : Group) → Tells text g []
  tells-end text g = kept-closed (may_grow setup g.last) text g
      ∙ ap (λ x. text ++ x) (sym (append-nil (group_text setup g)))

  -- the group is closed, and another begins
  tells-begun : (text : List ℕ) (g : Group) (s : Step) (ss : List Step)
      → share_line (is_quiet setup) g.last s ≡ false
      → Tells (text ++ group_text setup g) (only s) ss
      → closed_text setup (fold (after_step setup)
      (kept setup (text ++ group_text setup g) (only s)) ss)
      ≡ text ++ flat_map (group_text setup) (groups_from g (s ∷ ss))
  tells-begun text g s ss e tells = tells
      ∙ ap (λ gs. (text ++ group_text setup g) ++ flat_map (group_text setup) gs)
      (begun-first (is_quiet setup) s (groups (is_quiet setup) ss))
      ∙ append_assoc text (group_text setup g)
      (flat_map (group_text setup) (groups (is_quiet setup) (s ∷ ss)))
      ∙ ap (λ gs. text ++ flat_map (group_text setup) gs) (sym (from-next false g s ss e))

  -- it goes on
  tells-grown : (text : List ℕ) (g : Group) (s : Step) (ss : List Step)
      → share_line (is_quiet setup) g.last s ≡ true → Tells text (record g { last = s }) ss
      → closed_text setup (fold (after_step setup) (kept setup text (record g { last = s })) ss)
      ≡ text ++ flat_map (group_text setup) (groups_from g (s ∷ ss))
  tells-grown text g s ss e tells = tells
      ∙ ap (λ gs. text ++ flat_map (group_text setup) gs) (sym (from-next true g s ss e))

  -- the front after one step more
  after-shut : (text : List ℕ) (g : Group) (s : Step) → may_grow setup g.last ≡ false
      → after_step setup (kept setup text g) s ≡ kept setup (text ++ group_text setup g) (only s)
  after-shut text g s e = ap (λ b. after_step setup (kept_if setup b text g) s) e

  after-grown : (text : List ℕ) (g : Group) (s : Step) → may_grow setup g.last ≡ true
      → (b : Bool) → goes_on g.last s ≡ b → after_step setup (kept setup text g) s
      ≡ grown_if setup b text g (only s)
  after-grown text g s e b f = ap (λ x. after_step setup (kept_if setup x text g) s) e
      ∙ ap (λ x. grown_if setup x text g (only s)) f

  tells : (text : List ℕ) (g : Group) (ss : List Step) → Tells text g ss
  tells text g [] = tells-end text g
  tells text g (s ∷ ss) = elim (cases_Bool (may_grow setup g.last)) [
    | inr e ↦ ap (λ f. closed_text setup (fold (after_step setup) f ss)) (after-shut text g s e)
        ∙ tells-begun text g s ss (shut-joined g s e)
        (tells (text ++ group_text setup g) (only s) ss)
    | inl e ↦ elim (cases_Bool (goes_on g.last s)) [
      | inl f ↦ ap (λ x. closed_text setup (fold (after_step setup) x ss))
          (after-grown text g s e true f)
          ∙ tells-grown text g s ss (grown-joined g s e ∙ f) (tells text (record g { last = s }) ss)
      | inr f ↦ ap (λ x. closed_text setup (fold (after_step setup) x ss))
          (after-grown text g s e false f)
          ∙ tells-begun text g s ss (grown-joined g s e ∙ f)
          (tells (text ++ group_text setup g) (only s) ss)
    ]
  ]

  -- the text that steps have once all are told
  pub front-text : (steps : List Step)
      → closed_text setup (front_of setup steps) ≡ all_steps_text setup steps
  front-text [] = refl
  front-text (s ∷ ss) = tells [] (only s) ss
      ∙ ap (λ gs. flat_map (group_text setup) gs)
      (begun-first (is_quiet setup) s (groups (is_quiet setup) ss))

-- Steps in a row, told at once.

-- the last of steps
abbrev pub last_of : Step → List Step → Step
last_of s [] = s
last_of s (r ∷ rs) = last_of r rs

module _ (setup : Setup) where
  -- one line tells each of these steps with the one before it
  abbrev pub AreInRow : Step → List Step → Type 0
  AreInRow s [] = ⊤
  AreInRow s (r ∷ rs) = (share_line (is_quiet setup) s r ≡ true) × AreInRow r rs

  row-next : (text : List ℕ) (g : Group) (r : Step)
      → share_line (is_quiet setup) g.last r ≡ true
      → after_step setup (kept setup text g) r ≡ kept setup text (record g { last = r })
  row-next text g r e =
      let both = and-both (g.last.scheduler == r.scheduler) (are_alike (joined g.last) (joined r))
      (is_quiet setup g.last) (is_joined (joined g.last)) e
      (joined-alike (joined g.last) (joined r)) in
      after-grown setup text g r both.0 true both.1

  row-kept : (text : List ℕ) (g : Group) (rs : List Step) → AreInRow g.last rs
      → fold (after_step setup) (kept setup text g) rs
      ≡ kept setup text (record g { last = last_of g.last rs })
  row-kept text g [] h = refl
  row-kept text g (r ∷ rs) h = ap (λ f. fold (after_step setup) f rs) (row-next text g r h.0)
      ∙ row-kept text (record g { last = r }) rs h.1

  row-if : (b : Bool) (text : List ℕ) (g : Group) (s : Step) (rs : List Step) → AreInRow s rs
      → fold (after_step setup) (grown_if setup b text g (only s)) rs
      ≡ grown_if setup b text g (record { first = s; last = last_of s rs })
  row-if true text g s rs h = row-kept text (record g { last = s }) rs h
  row-if false text g s rs h = row-kept (text ++ group_text setup g) (only s) rs h

  row-open : (text : List ℕ) (o : Option Group) (s : Step) (rs : List Step) → AreInRow s rs
      → fold (after_step setup) (after_open setup text o (only s)) rs
      ≡ after_open setup text o (record { first = s; last = last_of s rs })
  row-open text None s rs h = row-kept text (only s) rs h
  row-open text (Some g) s rs h = row-if (goes_on g.last s) text g s rs h

  -- steps in a row after others are one group
  pub front-more : (steps : List Step) (s : Step) (rs : List Step) → AreInRow s rs
      → front_of setup (steps ++ s ∷ rs)
      ≡ after_group setup (front_of setup steps) (record { first = s; last = last_of s rs })
  front-more steps s rs h =
      let f = front_of setup steps in
      fold-append (after_step setup) (record { text = []; last_group = None }) steps (s ∷ rs)
      ∙ row-open f.text f.last_group s rs h
