-- Words of tests: the places through which a name, and the content of a carrier, go in a run, by
-- the counts of the items.
use Rattle.std.specs.Prelude.{ℕ, zero, suc, Bool, true, false, ◌==◌, if◌then◌else◌, List, [], ◌∷◌}
use Rattle.std.specs.Prelude.{Option, map, option_map}
use Rattle.ea_sound.specs.Contents.{home_sum, slots}
use Rattle.ea_sound.specs.Names.{given, held, in_hands, only, queued, walked}
use Rattle.ea_sound.specs.Places.{busy_count, employed_count, has_number}
use Rattle.ea_machine.specs.Setup.{Setup}
use Rattle.ea_machine.specs.State.{State}
use Rattle.ea_machine.specs.Sums.{total}
use Rattle.ea_trials_definitions.specs.Courses.{Course, states_of}

-- where something is: a name is held, given, in a queue, in a walk or in a hand; a content is with
-- an instance that employs it, in the hand of one for which it is busy, or at home; or it is
-- nowhere
pub data Stop : Type 0 where
  Nowhere : Stop
  Held : Stop
  Given : Stop
  Queued : Stop
  Walked : Stop
  InHand : Stop
  Employed : (instance : ℕ) → Stop
  Busy : (instance : ℕ) → Stop
  Home : Stop

abbrev pub same_stop : Stop → Stop → Bool
same_stop Nowhere Nowhere = true
same_stop Held Held = true
same_stop Given Given = true
same_stop Queued Queued = true
same_stop Walked Walked = true
same_stop InHand InHand = true
same_stop (Employed i) (Employed j) = i == j
same_stop (Busy i) (Busy j) = i == j
same_stop Home Home = true
same_stop _ _ = false

module _ (setup : Setup) (state : State) where
  abbrev pub name_stop : ℕ → Stop
  name_stop name =
      if held setup (only name) state == 1 then Held else (
      if given (only name) state == 1 then Given else (
      if queued setup (only name) state == 1 then Queued else (
      if walked setup (only name) state == 1 then Walked else (
      if in_hands setup (only name) state == 1 then InHand else Nowhere))))

  -- among the instances up to one
  abbrev pub content_stop : ℕ → ℕ → Stop
  content_stop number zero =
      if total (slots setup) (home_sum (has_number number)) state.shared.places == 1 then Home
      else Nowhere
  content_stop number (suc i) =
      if employed_count number state (suc i) == 1 then Employed (suc i) else (
      if busy_count number state (suc i) == 1 then Busy (suc i) else content_stop number i)

-- each stop where it changes
abbrev pub stops_after : Stop → List Stop → List Stop
stops_after last [] = []
stops_after last (stop ∷ stops) = if same_stop last stop then stops_after last stops
    else stop ∷ stops_after stop stops

abbrev pub stops : List Stop → List Stop
stops [] = []
stops (stop ∷ later) = stop ∷ stops_after stop later

-- those at the moments of a course
abbrev pub stops_of : (Setup → State → Stop) → Course → List Stop
stops_of stop c = stops (map (λ state. stop c.moment.setup state) (states_of c))

-- the places of a name at the moments of a course, each where it changes
abbrev pub path_of : ℕ → Option Course → Option (List Stop)
path_of name course = option_map (stops_of (λ setup state. name_stop setup state name)) course

-- those of the content of a carrier
abbrev pub content_path : ℕ → Option Course → Option (List Stop)
content_path number course = option_map
    (stops_of (λ setup state. content_stop setup state number setup.schedulers)) course
