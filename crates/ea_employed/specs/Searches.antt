-- How a strategy searches, in which order of carriers, and which of two choices is the lower one.
use Rattle.std.specs.Prelude.{Bool}
use Rattle.ea_model.specs.declared.settings.Strategy.{Strategy}
use Rattle.ea_model.specs.declared.settings.Strategy.TheVariants.{Bf, Aobf, Aoff, AoffCbf}
use Rattle.ea_model.specs.declared.settings.Strategy.TheVariants.{AoffCaobf, AgeffCaoff}
use Rattle.ea_model.specs.declared.settings.Strategy.TheVariants.{AgeffCbf, AgeffCaobf, Gf, Af}
use Rattle.ea_model.specs.Strategies.{lower}
use Rattle.ea_cset.specs.declared.keys.Order.{Order}
use Rattle.ea_cset.specs.declared.keys.Order.TheVariants.{Address, Age}
use Rattle.ea_employed.specs.declared.choice.Choice.{Choice}
use Rattle.ea_employed.specs.declared.strategies.Search.{Search}
use Rattle.ea_employed.specs.declared.strategies.Search.TheVariants.{First, Bins, Lowest}

abbrev pub search_of : Strategy → Search
search_of Bf = Bins
search_of Aobf = Bins
search_of Aoff = First
search_of AoffCbf = First
search_of AoffCaobf = First
search_of AgeffCaoff = First
search_of AgeffCbf = First
search_of AgeffCaobf = First
search_of Gf = Bins
search_of Af = Lowest

abbrev pub order_among : Strategy → Order
order_among Bf = Address
order_among Aobf = Address
order_among Aoff = Address
order_among AoffCbf = Address
order_among AoffCaobf = Address
order_among AgeffCaoff = Age
order_among AgeffCbf = Age
order_among AgeffCaobf = Age
order_among Gf = Address
order_among Af = Address

abbrev pub is_lower : Choice → Choice → Bool
is_lower a b = lower a.candidate b.candidate
