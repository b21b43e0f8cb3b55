-- What is asked of the carriers that a step may take away, make or leave with fewer pages: which
-- stands under its number before the step and after it, and whether an instance counts one more.
-- This simulator's own: the sources do not speak of it.
use Rattle.std.specs.Prelude.{ℕ, Bool, true, false, not, ◌&&◌, ◌||◌, ◌==◌, nat_lt, List, [], ◌∷◌}
use Rattle.std.specs.Prelude.{Option, None, Some, flat_map, is_none, is_some}
use Rattle.std.specs.Option.{option_map_or}
use Rattle.ea_model.specs.Content.{Content}
use Rattle.ea_model.specs.Keyed.{item_at}
use Rattle.ea_machine.specs.Outcome.{Present, present}
use Rattle.ea_machine.specs.Setup.{Setup}
use Rattle.ea_machine.specs.State.{State}
use Rattle.ea_steps.specs.Changes.{pages_of}
use Rattle.ea_steps.specs.Steps.{Step}
use Rattle.ea_steps.specs.Touched.{may_come, may_shrink_in}

-- how many carriers the instance of the step's scheduler has created, before it and after it
abbrev pub created_before : Step → ℕ
created_before s = (s.before.actors s.scheduler).instance.created

abbrev pub created_after : Step → ℕ
created_after s = (s.after.actors s.scheduler).instance.created

-- whether the step makes a carrier
abbrev pub makes : Step → Bool
makes s = not (created_after s == created_before s)

-- the first of some numbers
abbrev pub first_number : List ℕ → Option ℕ
first_number [] = None
first_number (n ∷ ns) = Some n

-- the number of the carrier that the step makes, if it makes one
abbrev pub made_if : Bool → Step → Option ℕ
made_if true s = first_number (may_come s)
made_if false s = None

abbrev pub made_number : Step → Option ℕ
made_number s = made_if (makes s) s

abbrev pub is_made : Step → ℕ → Bool
is_made s number = option_map_or (λ n. n == number) (made_number s) false

-- the carrier after the step, if it has fewer pages than the one before it
abbrev pub shrunk_if : Bool → Content → List Content
shrunk_if true x = x ∷ []
shrunk_if false x = []

abbrev pub shrunk_of : Bool → Option Present → Option Present → List Content
shrunk_of new (Some x) (Some y) =
    shrunk_if (not new && nat_lt (pages_of y.content) (pages_of x.content)) y.content
shrunk_of new None y = []
shrunk_of new (Some x) None = []

-- the content of a carrier that is there
abbrev pub content_if : Option Present → List Content
content_if None = []
content_if (Some p) = p.content ∷ []

module _ (setup : Setup) where
  -- the carrier of the number, if it is there
  abbrev pub carrier_there : State → ℕ → Option Present
  carrier_there w number = item_at (λ p. p.content.number) (present setup w) number

  -- whether the carrier of the number goes by the step: it is there before it, and after it none
  -- is, or the one that the step made
  abbrev pub goes_away : Step → ℕ → Bool
  goes_away s number = is_some (carrier_there s.before number)
      && (is_none (carrier_there s.after number) || is_made s number)

  -- the carrier that the step made
  abbrev pub made_at : Option ℕ → State → List Content
  made_at None w = []
  made_at (Some number) w = content_if (carrier_there w number)

  abbrev pub made_carriers : Step → List Content
  made_carriers s = made_at (made_number s) s.after

  -- the carrier of the operation's block, if it is left with fewer pages
  abbrev pub shrunk_carriers : Step → List Content
  shrunk_carriers s = flat_map (λ n. shrunk_of (is_made s n) (carrier_there s.before n)
      (carrier_there s.after n)) (may_shrink_in setup s)
