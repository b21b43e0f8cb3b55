-- Words of tests: what worked words give. They give configurations that differ in few places from
-- the usual one, or refusals.
use Rattle.std.specs.Prelude.{ℕ, false, Result, Ok, Err}
use Rattle.ea_model.specs.declared.settings.Strategy.{Strategy}
use Rattle.ea_model.specs.declared.settings.Strategy.TheVariants.{AoffCbf}
use Rattle.ea_model.specs.declared.settings.Settings.{Settings}
use Rattle.ea_model.specs.declared.settings.TheConstants.{NO_RULES}
use Rattle.ea_model.specs.declared.settings.Config.{Config}
use Rattle.ea_flags.specs.declared.fault.FlagFault.{FlagFault}
use Rattle.ea_flags.specs.declared.fault.FlagFault.TheVariants as fault

-- the settings of an allocator for which no flag is given; sizes in units, 128 a kilobyte
abbrev pub usual : Settings
usual = record {
  strategy = AoffCbf;
  acul = 60;
  acfml = 0;
  sbct = 65536;
  smbcs = 32768;
  lmbcs = 655360;
  mbcgs = 10;
  mmbcs = 0;
  mbsd = 3;
  rsbcmt = 80;
  rmbcmt = 50;
  rsbcst = 20;
  asbcst = 131072;
  ramv = false;
  rules = NO_RULES;
}

-- a usual allocator with another strategy, or another limit for carriers that are abandoned
abbrev pub strategy_is : Strategy → Settings
strategy_is x = record usual { strategy = x }

abbrev pub limit_is : ℕ → Settings
limit_is percent = record usual { acul = percent }

abbrev pub both_are : Strategy → ℕ → Settings
both_are x percent = record usual { strategy = x; acul = percent }

-- these settings for each allocator but temp_alloc, whose carriers don't migrate
abbrev pub for_all : Settings → Config
for_all s = record {
  schedulers = 1;
  scs = 64;
  b = s;
  d = s;
  e = s;
  h = s;
  l = s;
  r = s;
  s = s;
  t = record s { acul = 0 };
}

-- the configuration without a word
abbrev pub plain : Config
plain = for_all usual

-- the usual configuration but for eheap_alloc's settings
abbrev pub with_h : Settings → Config
with_h s = record plain { h = s }

-- the usual configuration but for temp_alloc's settings
abbrev pub with_t : Settings → Config
with_t s = record plain { t = s }

abbrev pub given : Config → Result Config FlagFault
given c = Ok c

abbrev pub unknown : ℕ → Result Config FlagFault
unknown word = Err (fault.Unknown word)

abbrev pub no_value : ℕ → Result Config FlagFault
no_value word = Err (fault.NoValue word)

abbrev pub bad_value : ℕ → Result Config FlagFault
bad_value word = Err (fault.BadValue word)

abbrev pub unsupported : ℕ → Result Config FlagFault
unsupported word = Err (fault.Unsupported word)

abbrev pub too_small : Result Config FlagFault
too_small = Err fault.SpaceTooSmall
