use Rattle.std.proofs.Common.{◌≡◌, ℕ, [], suc, ◌+◌, refl, ap, ◌∙◌, arith, drop, get_or}
use Rattle.std.proofs.lemmas.List.{get_or-replicate}
use Rattle.ea_types.specs.Courses.{lines_for}
use Rattle.ea_types.specs.Given.{parts_in}
use Rattle.ea_types.proofs.Finds.{parts-many}
use Rattle.ea_types.proofs.given.TypedRun.new.Goals as goal

pub returns : goal.returns
returns c = λ other.
    let parts = parts_in c.args.parts.now in
    let runs = c.in_ok-runs.ensures in
    let over = c.in_ok-over.ensures.items_if_clones_equal (λ y e. e) in
    record {
      config = c.requires.config;
      made = c.requires.traces;
      lines = c.requires.parts;
      schedulers = refl;
      told = refl;
      types = runs.0;
      all = parts-many c.args.parts.now ∙ c.requires.all;
      runs = λ x r there. runs.1 x other r there;
      over = omega (arith, c.in_ok-over.ensures.len, c.in_ok-over.over.ok.0);
      left = λ i below. ap (λ os. drop (get_or os i 0) (get_or parts i [])) over
          ∙ ap (λ k. drop k (get_or parts i []))
          (get_or-replicate {A = ℕ} c.args.config.schedulers i 0 0 below)
          ∙ ap (lines_for parts) (next i);
    }
  where
    next : (i : ℕ) → suc i ≡ i + 1
    next i = omega arith
