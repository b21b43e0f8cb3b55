-- What an instance keeps of its carriers.
use Rattle.std.specs.Prelude.{◌≡◌, ℕ, ◌-◌, ◌*◌, List}
use Rattle.ea_model.specs.declared.settings.Settings.{Settings}
use Rattle.ea_model.specs.declared.units.TheConstants.{PAGE_UNITS}
use Rattle.ea_model.specs.Content.{Content}
use Rattle.ea_model.specs.Instance.{Instance}
use Rattle.ea_laws.specs.Kept.{Stands}
use Rattle.ea_employed.specs.Laid.{AreLaid}
use Rattle.ea_employed.specs.Listed.{CarrierList}
use Rattle.ea_instance.specs.Own.{OwnList}

-- the instance of these fields
abbrev pub seen_as : Settings → ℕ → OwnList → CarrierList → List Content → ℕ → ℕ
    → Instance
seen_as settings number own carriers singles created count = record {
  settings = settings;
  number = number;
  first = own.first;
  end = own.end;
  own = own.carriers;
  contents = carriers.contents;
  singles = singles;
  created = created;
  count = count;
}

-- the carriers choose by the settings' strategy, may have as many units together as the region, and
-- are laid out, and the instance stands
pub record KeepsCarriers (settings : Settings) (number : ℕ) (own : OwnList)
    (carriers : CarrierList) (singles : List Content) (created count : ℕ) : Type 0 where
  pub strategy : carriers.strategy ≡ settings.strategy
  pub units : carriers.units ≡ PAGE_UNITS * (own.end - own.first)
  pub laid : AreLaid carriers.contents
  pub stands : Stands (seen_as settings number own carriers singles created count)
