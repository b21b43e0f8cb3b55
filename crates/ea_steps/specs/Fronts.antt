-- The text of steps that are told one after another (`front_of`): the line of steps in a row is
-- left open while it may grow.
use Rattle.std.specs.Prelude.{ℕ, Bool, true, false, ◌&&◌, ◌==◌, List, [], ◌++◌, Option, None, Some}
use Rattle.std.specs.Prelude.{fold}
use Rattle.ea_steps.specs.declared.joined.Joined.{Joined}
use Rattle.ea_steps.specs.declared.joined.Joined.TheVariants.{Apart, Looks, Tries}
use Rattle.ea_steps.specs.Groups.{Group, are_alike, joined, only}
use Rattle.ea_machine.specs.Setup.{Setup}
use Rattle.ea_steps.specs.Steps.{Step}
use Rattle.ea_steps.specs.Text.{group_text, is_quiet}

-- the text up to the open group, and that group
pub record Front : Type 0 where
  pub text : List ℕ
  pub last_group : Option Group

abbrev pub is_joined : Joined → Bool
is_joined Apart = false
is_joined (Looks number) = true
is_joined (Tries name) = true

-- whether the one may be told by the line of the other, if that did nothing else
abbrev pub goes_on : Step → Step → Bool
goes_on s next = (s.scheduler == next.scheduler) && are_alike (joined s) (joined next)

module _ (setup : Setup) where
  -- whether a line whose last step is this one may grow
  abbrev pub may_grow : Step → Bool
  may_grow s = is_joined (joined s) && is_quiet setup s

  abbrev pub kept_if : Bool → List ℕ → Group → Front
  kept_if true text g = record { text = text; last_group = Some g }
  kept_if false text g = record { text = text ++ group_text setup g; last_group = None }

  -- a text and then a group, which stays open where its line may grow
  abbrev pub kept : List ℕ → Group → Front
  kept text g = kept_if (may_grow g.last) text g

  abbrev pub closed_with : List ℕ → Option Group → List ℕ
  closed_with text None = text
  closed_with text (Some g) = text ++ group_text setup g

  -- the text with the open group
  abbrev pub closed_text : Front → List ℕ
  closed_text f = closed_with f.text f.last_group

  abbrev pub grown_if : Bool → List ℕ → Group → Group → Front
  grown_if true text g h = kept text (record g { last = h.last })
  grown_if false text g h = kept (text ++ group_text setup g) h

  abbrev pub after_open : List ℕ → Option Group → Group → Front
  after_open text None h = kept text h
  after_open text (Some g) h = grown_if (goes_on g.last h.first) text g h

  -- after one group more
  abbrev pub after_group : Front → Group → Front
  after_group f h = after_open f.text f.last_group h

  -- after one step more
  abbrev pub after_step : Front → Step → Front
  after_step f s = after_group f (only s)

  -- after these steps
  abbrev pub front_of : List Step → Front
  front_of steps = fold after_step (record { text = []; last_group = None }) steps
