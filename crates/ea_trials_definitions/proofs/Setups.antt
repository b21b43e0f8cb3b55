-- What stays the same in the worked runs of entries.
use Rattle.std.proofs.Common.{◌≡◌, false, [], ◌∷◌, sym, ap, subst, arith}
use Rattle.std.specs.Prelude.{Option, None, Some, IfSome, option_map}
use Rattle.ea_model.specs.declared.settings.Settings.{Settings}
use Rattle.ea_model.specs.declared.settings.TheConstants.{NO_RULES}
use Rattle.ea_model.specs.declared.settings.Strategy.TheVariants.{AoffCbf}
use Rattle.ea_model.specs.declared.operations.Op.TheVariants as op
use Rattle.ea_model.specs.declared.carriers.Kind.TheVariants.{Multi}
use Rattle.ea_model.specs.Instance.{Instance}
use Rattle.ea_trials_definitions.specs.WorkedCourses.{own}
use Rattle.ea_machine.specs.Setup.{Setup, text_for}
use Rattle.ea_trials_definitions.specs.Moments.{Moment}

-- the settings without flags
abbrev pub usual_settings : Settings
usual_settings = record {
  strategy = AoffCbf;
  acul = 60;
  acfml = 0;
  sbct = 65536;
  smbcs = 32768;
  lmbcs = 655360;
  mbcgs = 10;
  mmbcs = 0;
  mbsd = 3;
  rsbcmt = 80;
  rmbcmt = 50;
  rsbcst = 20;
  asbcst = 131072;
  ramv = false;
  rules = NO_RULES;
}

-- scheduler 1 moves block 2 out of its carrier
abbrev pub moving_setup : Setup
moving_setup = record {
  schedulers = 2;
  settings = usual_settings;
  pages = 8192;
  texts = text_for
      ((op.Alloc 1 100 ∷ op.Alloc 2 100 ∷ op.Free 1 ∷ op.Realloc 2 4 200 ∷ op.Idle ∷ [])
      ∷ (op.Alloc 3 100 ∷ op.Free 3 ∷ op.Idle ∷ []) ∷ []);
  stops = λ i. None;
}

-- one scheduler frees block 1, and abandons its carrier
abbrev pub gaps_setup : Setup
gaps_setup = record {
  schedulers = 1;
  settings = usual_settings;
  pages = 16384;
  texts = text_for
      ((op.Alloc 1 130 ∷ op.Alloc 2 100 ∷ op.Free 1 ∷ op.Alloc 3 100 ∷ []) ∷ []);
  stops = λ i. None;
}

-- likewise, and its next block is larger than the largest gap there
abbrev pub large_setup : Setup
large_setup = record {
  schedulers = 1;
  settings = usual_settings;
  pages = 16384;
  texts = text_for
      ((op.Alloc 1 130 ∷ op.Alloc 2 100 ∷ op.Free 1 ∷ op.Alloc 3 262144 ∷ []) ∷ []);
  stops = λ i. None;
}

-- scheduler 2 takes and frees block 1
abbrev pub handed_setup : Setup
handed_setup = record {
  schedulers = 2;
  settings = record usual_settings { mmbcs = 12800 };
  pages = 8192;
  texts = text_for
      ((op.Alloc 1 100 ∷ op.Give 1 2 ∷ []) ∷ (op.Take 1 1 ∷ op.Free 1 ∷ []) ∷ []);
  stops = λ i. None;
}

-- scheduler 2 has no room for a second carrier
abbrev pub full_setup : Setup
full_setup = record {
  schedulers = 2;
  settings = usual_settings;
  pages = 128;
  texts = text_for
      ((op.Alloc 1 200000 ∷ op.Alloc 2 100 ∷ op.Free 1 ∷ op.Free 2 ∷ [])
      ∷ (op.Alloc 4 500000 ∷ op.Alloc 5 100000 ∷ []) ∷ []);
  stops = λ i. None;
}

-- the instance of scheduler 2, with its one carrier
abbrev pub full_instance : Instance
full_instance = record {
  settings = usual_settings;
  number = 2;
  first = 128;
  end = 256;
  own = own 1025 128 123 ∷ [];
  contents = record {
    number = 1025;
    owner = 2;
    base = 128;
    birth = 1;
    units = 62976;
    kind = Multi;
    blocks = record { name = 4; offset = 8; size = 62502 } ∷ [];
  } ∷ [];
  singles = [];
  created = 1;
  count = 0;
}

abbrev value : Setup → Option Setup → Setup
value other None = other
value other (Some setup) = setup

-- what holds under a setup holds of the moment that has it
pub under-setup : (P : Setup → Type 0) (setup : Setup) (moment : Option Moment)
    → option_map (λ m. m.setup) moment ≡ Some setup → P setup → IfSome moment (λ m. P m.setup)
under-setup P setup None q p = grind (arith, q)
under-setup P setup (Some m) q p = subst P (sym (ap (value m.setup) q)) p
