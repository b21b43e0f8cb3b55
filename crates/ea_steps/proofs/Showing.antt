-- What code keeps of the text that is told shows the front after one group more.
use Rattle.std.proofs.Common.{◌≡◌, ℕ, suc, ◌==◌, Bool, true, false, ◌&&◌, List, [], ◌∷◌, ◌++◌}
use Rattle.std.proofs.Common.{Option, None, Some, length, refl, sym, ap, ◌∙◌, subst, append_assoc}
use Rattle.std.proofs.Common.{append-nil, arith, option_map}
use Rattle.std.specs.Prelude.{IfSome, OnOk, Ok, Err, Result}
use Rattle.std.proofs.lemmas.Bool.{and_parts, eqb-true}
use Rattle.ea_machine.specs.Setup.{Setup}
use Rattle.ea_steps.specs.declared.groups.Group as code
use Rattle.ea_steps.specs.Fronts.{Front, after_group, after_open, closed_text, goes_on, grown_if}
use Rattle.ea_steps.specs.Fronts.{is_joined, kept_if, may_grow}
use Rattle.ea_steps.specs.Groups.{Group, are_alike, joined}
use Rattle.ea_steps.specs.Printed.{closed_if, code_of, group_line, joined_told}
use Rattle.ea_steps.specs.Printed.{next_if, open_after, open_told}
use Rattle.ea_steps.specs.Printed.{stays_open, takes, text_after, text_closed, text_told}
use Rattle.ea_steps.specs.Shown.{IsOfOne, IsOpen, Shows}
use Rattle.ea_steps.specs.Text.{changes_text, group_text, places_text}
use Rattle.ea_steps.proofs.Printing.{group-line, step-joined}

not-none : (n : ℕ) → suc n ≡ 0 → ⊥
not-none n e = omega (arith, e)

none-left : (xs : List ℕ) → (length xs == 0) ≡ true → xs ≡ []
none-left [] e = refl
none-left (x ∷ xs) e = absurd (not-none (length xs) (eqb-true (suc (length xs)) 0 e))

module _ (setup : Setup) where
  -- the line of an open group is its text
  open-text : (text : List ℕ) (g : Group) → IsOpen setup g
      → text ++ group_line (code_of g) ≡ text ++ group_text setup g
  open-text text g is = ap (λ l. text ++ l) (group-line g ∙ sym (append-nil (places_text g))
      ∙ ap (λ l. places_text g ++ l) (sym is.quiet))

  takes-goes : (g h : Group) → IsOfOne g → takes (code_of g) (code_of h) ≡ goes_on g.last h.first
  takes-goes g h one =
      ap (λ n. (n == h.first.scheduler) && are_alike (joined g.last)
      (joined_told (code_of h).wanted (code_of h).heard)) (sym one)
      ∙ ap (λ j. (g.last.scheduler == h.first.scheduler) && are_alike (joined g.last) j)
      (step-joined h.first)

  kept-shows : (b : Bool) (text : List ℕ) (g : Group) → may_grow setup g.last ≡ b → IsOfOne g
      → Shows setup (kept_if setup b text g)
      (text_told b text (code_of g) (changes_text setup g.last)) (open_told b (code_of g))
  kept-shows true text g e one = record {
    text_is = refl;
    open_is = refl;
    waits = record {
      quiet = none-left (changes_text setup g.last) (and_parts (is_joined (joined g.last))
          (length (changes_text setup g.last) == 0) e).1;
      of_one = one;
    };
  }
  kept-shows false text g e one = record {
    text_is = append_assoc text (group_line (code_of g)) (changes_text setup g.last)
        ∙ ap (λ l. text ++ (l ++ changes_text setup g.last)) (group-line g);
    open_is = refl;
    waits = tt;
  }

  -- what code keeps after a group, where one is open, by whether its line tells the next one
  abbrev pub Grows : Bool → Front → List ℕ → Group → Group → Type 0
  Grows b f text g h =
      let next = next_if b (code_of g) (code_of h) in
      let lines = changes_text setup h.last in
      Shows setup f
      (text_told (stays_open next lines) (closed_if b text (code_of g)) next lines)
      (open_told (stays_open next lines) next)

  shows-grown : (b : Bool) (text : List ℕ) (g h : Group) → goes_on g.last h.first ≡ b
      → IsOpen setup g → IsOfOne h → Grows b (grown_if setup b text g h) text g h
  shows-grown true text g h e is one = kept-shows (may_grow setup h.last) text
      (record g { last = h.last }) refl
      (one ∙ sym (eqb-true g.last.scheduler h.first.scheduler
      (and_parts (g.last.scheduler == h.first.scheduler)
      (are_alike (joined g.last) (joined h.first)) e).0) ∙ is.of_one)
  shows-grown false text g h e is one =
      subst (λ t. Shows setup (grown_if setup false text g h)
      (text_told (may_grow setup h.last) t (code_of h) (changes_text setup h.last))
      (open_told (may_grow setup h.last) (code_of h)))
      (sym (open-text text g is))
      (kept-shows (may_grow setup h.last) (text ++ group_text setup g) h refl one)

  shows-open : (text : List ℕ) (o : Option Group) (h : Group) → IfSome o (IsOpen setup)
      → IsOfOne h → Shows setup (after_open setup text o h)
      (text_after text (option_map code_of o) (code_of h) (changes_text setup h.last))
      (open_after (option_map code_of o) (code_of h) (changes_text setup h.last))
  shows-open text None h is one = kept-shows (may_grow setup h.last) text h refl one
  shows-open text (Some g) h is one =
      subst (λ b. Grows b (grown_if setup (goes_on g.last h.first) text g h) text g h)
      (sym (takes-goes g h is.of_one))
      (shows-grown (goes_on g.last h.first) text g h refl is one)

  -- after a group that code tells
  pub told-shows : (f : Front) (h : Group) (old text lines : List ℕ)
      (open_one last : Option code.Group) (group : code.Group) → Shows setup f old open_one → IsOfOne h → group ≡ code_of h
      → lines ≡ changes_text setup h.last → text ≡ text_after old open_one group lines
      → last ≡ open_after open_one group lines → Shows setup (after_group setup f h) text last
  told-shows f h old text lines open_one last group is one coded changes text-is last-is =
      let shown = shows-open f.text f.last_group h is.waits one in
      record {
        text_is = text-is ∙ ap (λ t. text_after t open_one group lines) is.text_is
            ∙ ap (λ o. text_after f.text o group lines) is.open_is
            ∙ ap (λ g. text_after f.text (option_map code_of f.last_group) g lines) coded
            ∙ ap (text_after f.text (option_map code_of f.last_group) (code_of h)) changes
            ∙ shown.text_is;
        open_is = last-is ∙ ap (λ o. open_after o group lines) is.open_is
            ∙ ap (λ g. open_after (option_map code_of f.last_group) g lines) coded
            ∙ ap (open_after (option_map code_of f.last_group) (code_of h)) changes
            ∙ shown.open_is;
        waits = shown.waits;
      }

  closed-open : (text : List ℕ) (o : Option Group) → IfSome o (IsOpen setup)
      → text_closed text (option_map code_of o)
      ≡ closed_text setup (record { text = text; last_group = o })
  closed-open text None is = refl
  closed-open text (Some g) is = open-text text g is

  -- the text once all is told
  pub closed-shows : (f : Front) (text : List ℕ) (last : Option code.Group)
      → Shows setup f text last → text_closed text last ≡ closed_text setup f
  closed-shows f text last is = ap (λ t. text_closed t last) is.text_is
      ∙ ap (λ l. text_closed f.text l) is.open_is ∙ closed-open f.text f.last_group is.waits

-- what follows from two facts of a call that was done
pub on-both : {X E : Type 0} (r : Result X E) (A B C : Type 0) → (A → B → C) → OnOk r A
    → OnOk r B → OnOk r C
on-both (Ok x) A B C f a b = f a b
on-both (Err e) A B C f a b = tt
