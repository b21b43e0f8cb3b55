-- What stays the same in a run. Each scheduler has an instance of its own.
-- Source: Erlang/OTP, 'Delayed Dealloc', section 'Functionality Used to Address This problem': one
-- lock-free instance for each scheduler. The rest is this simulator's own.
use Rattle.std.specs.Prelude.{ℕ, zero, suc, ◌-◌, ◌*◌, Bool, nat_lt, nat_le, ◌&&◌, List, []}
use Rattle.std.specs.Prelude.{Option}
use Rattle.ea_model.specs.declared.settings.Config.{Config}
use Rattle.ea_model.specs.declared.settings.Settings.{Settings}
use Rattle.ea_model.specs.declared.operations.Op.{Op}
use Rattle.ea_model.specs.declared.trace.Trace.{Trace}
use Rattle.ea_model.specs.declared.units.TheConstants.{NUMBERS}
use Rattle.ea_model.specs.Settings.{lets_migrate, region_pages, settings_of}
use Rattle.ea_model.specs.Trace.{stop_in, text_at, texts_of}

-- what all schedulers know
pub record Setup : Type 0 where
  -- how many there are, from 1 on; the instance of each has its number
  pub schedulers : ℕ
  -- the settings of all instances
  pub settings : Settings
  -- the pages of an instance's region
  pub pages : ℕ
  -- the operations of each scheduler
  pub texts : ℕ → List Op
  -- the steps after which each scheduler stops, if it does
  pub stops : ℕ → Option ℕ

-- the operations of scheduler i, of texts that begin with scheduler 1's
abbrev pub text_for : List (List Op) → ℕ → List Op
text_for texts zero = []
text_for texts (suc i) = text_at i texts

-- the setup of a trace under a configuration: the settings of its letter hold
abbrev pub setup_of : Config → Trace → Setup
setup_of c t = record {
  schedulers = c.schedulers;
  settings = settings_of c t.letter;
  pages = region_pages c;
  texts = text_for (texts_of t);
  stops = stop_in t.stops.items;
}

-- whether a number is a scheduler's
abbrev pub is_scheduler : Setup → ℕ → Bool
is_scheduler setup i = nat_lt 0 i && nat_le i setup.schedulers

-- whether carriers migrate
abbrev pub migration : Setup → Bool
migration setup = lets_migrate setup.settings

-- the first page of an instance's region
abbrev pub first_page : Setup → ℕ → ℕ
first_page setup i = (i - 1) * setup.pages

-- the greatest carrier number
abbrev pub greatest_number : Setup → ℕ
greatest_number setup = setup.schedulers * NUMBERS
