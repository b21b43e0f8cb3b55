-- Words of tests: settings of the worked decisions.
use Rattle.std.specs.Prelude.{ℕ, false}
use Rattle.ea_model.specs.declared.settings.Settings.{Settings}
use Rattle.ea_model.specs.declared.settings.TheConstants.{NO_RULES}
use Rattle.ea_model.specs.declared.settings.Strategy.TheVariants.{AoffCbf}
use Rattle.ea_model.specs.Decision.{decision}
use Rattle.ea_model.specs.declared.reallocation.Decision.{Decision}
use Rattle.ea_model.specs.declared.reallocation.Where.TheVariants.{Multi, Single}

-- a block above 65536 units has a singleblock carrier, which shrinks where 131072 units are left
abbrev pub usual : Settings
usual = record {
  strategy = AoffCbf;
  acul = 0;
  acfml = 0;
  sbct = 65536;
  smbcs = 32768;
  lmbcs = 655360;
  mbcgs = 10;
  mmbcs = 0;
  mbsd = 3;
  rsbcmt = 80;
  rmbcmt = 50;
  rsbcst = 20;
  asbcst = 131072;
  ramv = false;
  rules = NO_RULES;
}

abbrev pub multi : ℕ → ℕ → ℕ → Decision
multi old fresh behind = decision usual old fresh (Multi behind)

-- in a carrier of 400 pages
abbrev pub single : ℕ → ℕ → Decision
single old fresh = decision usual old fresh (Single 204800)
