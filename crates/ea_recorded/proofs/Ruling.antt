-- Rules change no range of a flag.
use Rattle.std.specs.Prelude.{◌≤◌}
use Rattle.ea_model.specs.declared.settings.Config.{Config}
use Rattle.ea_model.specs.declared.settings.Letter.{Letter}
use Rattle.ea_model.specs.declared.settings.Letter.TheVariants.{B, D, E, H, L, R, S, T}
use Rattle.ea_model.specs.declared.settings.Rules.{Rules}
use Rattle.ea_model.specs.declared.settings.Settings.{Settings}
use Rattle.ea_model.specs.Settings.{IsValid, IsValidConfig, by_rules, region_pages, ruled}
use Rattle.ea_model.specs.Settings.{settings_of}
use Rattle.ea_model.specs.Units.{pages_for}

valid-ruled : (r : Rules) (s : Settings) → IsValid s → IsValid (ruled r s)
valid-ruled r s valid = record {
  utilization = valid.utilization;
  least_gap = valid.least_gap;
  threshold = valid.threshold;
  smallest = valid.smallest;
  largest = valid.largest;
  growth = valid.growth;
  main = valid.main;
  depth = valid.depth;
  single_move = valid.single_move;
  multi_move = valid.multi_move;
  single_shrink = valid.single_shrink;
  single_shrink_units = valid.single_shrink_units;
  migrates = valid.migrates;
}

-- a valid configuration is valid by whatever rules
pub valid-by : (r : Rules) (c : Config) → IsValidConfig c → IsValidConfig (by_rules r c)
valid-by r c valid = record {
  schedulers = valid.schedulers;
  space = valid.space;
  settings = settings;
  main_carriers = main_carriers;
  temporary = valid.temporary;
}
  where
    settings : (letter : Letter) → IsValid (settings_of (by_rules r c) letter)
    settings B = valid-ruled r c.b (valid.settings B)
    settings D = valid-ruled r c.d (valid.settings D)
    settings E = valid-ruled r c.e (valid.settings E)
    settings H = valid-ruled r c.h (valid.settings H)
    settings L = valid-ruled r c.l (valid.settings L)
    settings R = valid-ruled r c.r (valid.settings R)
    settings S = valid-ruled r c.s (valid.settings S)
    settings T = valid-ruled r c.t (valid.settings T)

    main_carriers : (letter : Letter) → pages_for (settings_of (by_rules r c) letter).mmbcs
        ≤ region_pages (by_rules r c)
    main_carriers B = valid.main_carriers B
    main_carriers D = valid.main_carriers D
    main_carriers E = valid.main_carriers E
    main_carriers H = valid.main_carriers H
    main_carriers L = valid.main_carriers L
    main_carriers R = valid.main_carriers R
    main_carriers S = valid.main_carriers S
    main_carriers T = valid.main_carriers T
