-- Words of tests: each counting item of a sound state, as a test over what occurs in a run.
use Rattle.std.specs.Prelude.{ℕ, ◌+◌, ◌*◌, ◌%◌, Bool, true, false, ◌&&◌, ◌||◌, not, ◌==◌, nat_le}
use Rattle.std.specs.Prelude.{List, ◌++◌}
use Rattle.std.specs.List.{list_all, list_any, range_with_len}
use Rattle.ea_model.specs.declared.carriers.OwnCarrier.{OwnCarrier}
use Rattle.ea_model.specs.declared.carriers.Spot.{Spot}
use Rattle.ea_model.specs.declared.carriers.Totals.{Totals}
use Rattle.ea_model.specs.Content.{Content, allocated as allocated_units, free_units, gaps_of}
use Rattle.ea_model.specs.Content.{is_multi, is_nil, is_vacant, largest}
use Rattle.ea_laws.specs.Kinds.{is_shared}
use Rattle.ea_machine.specs.declared.nodes.Node.{Node}
use Rattle.ea_machine.specs.Actor.{Actor}
use Rattle.ea_machine.specs.Lists.{times, times_listed}
use Rattle.ea_sound.specs.Contents.{actor_sum, seats, sum_everywhere}
use Rattle.ea_sound.specs.Listed.{is_away}
use Rattle.ea_sound.specs.Names.{allocated, only, only_at, standing, to_make}
use Rattle.ea_sound.specs.NodePlaces.{anywhere, at_instance, before_link, carrier_nodes}
use Rattle.ea_sound.specs.NodePlaces.{is_returning, unlinked_at}
use Rattle.ea_machine.specs.Nodes.{same_spot}
use Rattle.ea_machine.specs.declared.nodes.Named.{Named}
use Rattle.ea_machine.specs.Outcome.{place_of, sums}
use Rattle.ea_machine.specs.Owners.{CarrierAt, Absent, Employed, Pooled, Busy, Returning}
use Rattle.ea_model.specs.Instance.{owner_of}
use Rattle.ea_sound.specs.Places.{busy_count, employed_count, has_number, is_there, owned_as}
use Rattle.ea_sound.specs.Places.{same_own}
use Rattle.ea_machine.specs.Setup.{Setup}
use Rattle.ea_machine.specs.State.{State}
use Rattle.ea_machine.specs.Sums.{one_if, sum_over, total, total_at}
use Rattle.ea_sound.specs.Units.{carrier_units, gap_units, header_units, live_units, queued_units}

-- what occurs in a run: names with the spots of their blocks, and carriers as their owners have
-- them
pub record Seen : Type 0 where
  pub names : List Named
  pub own : List OwnCarrier

-- 1 for a name that isn't one of these, or isn't at that spot
abbrev pub is_other : List Named → ℕ → Spot → ℕ
is_other names name spot =
    one_if (not (list_any (λ n. (n.name == name) && same_spot n.spot spot) names))

module _ (setup : Setup) (state : State) where
  -- a name stands once at most, and while an operation is still to make it, nowhere
  abbrev pub stands_once : ℕ → Bool
  stands_once name = nat_le (standing setup (only name) state + to_make setup name state) 1

  -- a name stands at a spot exactly if a block of that name begins there
  abbrev pub stands_as_block : Named → Bool
  stands_as_block n = standing setup (only_at n.name n.spot) state
      == allocated setup (only_at n.name n.spot) state

  -- no other name stands, and as many stand as there are blocks
  abbrev pub stand_no_others : List Named → Bool
  stand_no_others names = (standing setup (is_other names) state == 0)
      && (standing setup (λ name spot. 1) state == allocated setup (λ name spot. 1) state)

  abbrev pub counts_names : List Named → Bool
  counts_names names = list_all (λ n. stands_once n.name && stands_as_block n) names
      && stand_no_others names

  -- the content of a carrier is where the carrier is
  abbrev pub is_at : ℕ → CarrierAt → Bool
  is_at number Absent = true
  is_at number (Employed i) = employed_count number state i == 1
  is_at number (Pooled i largest x) = x.number == number
  is_at number (Busy i) = busy_count number state i == 1
  is_at number (Returning i x) = (i == owner_of number) && (x.number == number)

  -- a carrier that is there has one content, and one that is absent none
  abbrev pub is_in_one_place : ℕ → Bool
  is_in_one_place number = (sum_everywhere setup (has_number number) state
      == one_if (is_there (place_of setup state number)))
      && is_at number (place_of setup state number)

  abbrev pub counts_carriers : List ℕ → Bool
  counts_carriers numbers = list_all is_in_one_place numbers

  -- a carrier is a multiblock one, or it is with its owner; a busy one is a multiblock carrier; and
  -- one without blocks, but for a main one, is in a hand
  abbrev pub stay_with_owners : Bool
  stay_with_owners = (total_at (seats setup)
      (λ i. actor_sum (λ x. one_if (not (is_multi x.kind)))
      (λ x. one_if (not (is_multi x.kind || (x.owner == i))))) state.actors == 0)
      && (total (seats setup)
      (λ (a : Actor). sum_over (λ x. one_if (is_vacant x)) a.instance.contents
      + sum_over (λ x. one_if (is_vacant x)) a.instance.singles) state.actors == 0)

  -- an instance owns a carrier exactly if it is there, wherever its content is
  abbrev pub is_owned : OwnCarrier → ℕ → Bool
  is_owned o i = sum_over (λ p. one_if (same_own p o)) (state.actors i).instance.own
      == sum_everywhere setup (owned_as i o) state

  -- no other carrier is owned, and as many are owned as are there
  abbrev pub own_no_others : List OwnCarrier → Bool
  own_no_others os = (total (seats setup)
      (λ (a : Actor). sum_over (λ o. one_if (not (list_any (same_own o) os))) a.instance.own)
      state.actors == 0)
      && (total (seats setup) (λ (a : Actor). sum_over (λ o. 1) a.instance.own) state.actors
      == sum_everywhere setup (λ x. 1) state)

  abbrev pub counts_own : List OwnCarrier → Bool
  counts_own os = list_all (λ o. list_all (is_owned o) (range_with_len 0 (seats setup))) os
      && own_no_others os

  -- an instance has a number in its lists once, exactly if it owns the carrier, which is there, and
  -- doesn't employ it; else it never has
  abbrev pub is_listed : ℕ → ℕ → Bool
  is_listed number i = times_listed number (state.actors i).lists
      == one_if ((i == owner_of number) && is_away number (place_of setup state number))

  -- whether a carrier is pooled by its owner, or busy by it
  abbrev pub is_owners_pooled : ℕ → CarrierAt → Bool
  is_owners_pooled number Absent = false
  is_owners_pooled number (Employed i) = false
  is_owners_pooled number (Pooled i largest x) = i == owner_of number
  is_owners_pooled number (Busy i) = i == owner_of number
  is_owners_pooled number (Returning i x) = false

  -- then the number is in the pooled list
  abbrev pub is_in_pooled : ℕ → Bool
  is_in_pooled number = not (is_owners_pooled number (state.shared.places number))
      || (times number (state.actors (owner_of number)).lists.pooled == 1)

  -- no other number is in a list
  abbrev pub list_no_others : List ℕ → Bool
  list_no_others numbers = total (seats setup)
      (λ (a : Actor). sum_over (λ n. one_if (not (list_any (λ m. m == n) numbers)))
      (a.lists.pooled ++ a.lists.traitors)) state.actors == 0

  abbrev pub lists_carriers : List ℕ → Bool
  lists_carriers numbers = list_all (λ number.
      list_all (is_listed number) (range_with_len 0 (seats setup)) && is_in_pooled number) numbers
      && list_no_others numbers

  -- a carrier that returns is empty, and its node stands once, with its owner; another has none
  abbrev pub returns_empty : CarrierAt → Bool
  returns_empty (Returning i x) = is_multi x.kind && is_nil x.blocks
  returns_empty place = true

  abbrev pub has_one_node : ℕ → Bool
  has_one_node number = let returns = one_if (is_returning (state.shared.places number)) in
      (carrier_nodes setup (anywhere number) state == returns)
      && (carrier_nodes setup (at_instance (owner_of number) number) state == returns)
      && returns_empty (state.shared.places number)

  abbrev pub counts_nodes : List ℕ → Bool
  counts_nodes numbers = list_all has_one_node numbers

  -- a node stands at an instance without being linked as often as a scheduler is about to link it
  -- there, and once at most
  abbrev pub is_linked : Node → ℕ → Bool
  is_linked n i = (unlinked_at n i state == before_link setup n i state)
      && nat_le (unlinked_at n i state) 1

  abbrev pub counts_links : List Node → Bool
  counts_links nodes = list_all (λ n. list_all (is_linked n) (range_with_len 0 (seats setup))) nodes

  -- live blocks, blocks on their way, gaps and headers are all units
  abbrev pub counts_units : Bool
  counts_units = live_units setup state + queued_units setup state + gap_units setup state
      + header_units setup state == carrier_units setup state

  -- what is printed are these sums
  abbrev pub prints : Totals → Bool
  prints t = (t.live == live_units setup state) && (t.queued == queued_units setup state)
      && (t.free == gap_units setup state) && (t.header == header_units setup state)
      && (t.units == carrier_units setup state)

  abbrev pub prints_sums : Bool
  prints_sums = prints (sums setup state)

  -- a pooled carrier has a block, and its recorded largest gap is its largest gap
  abbrev pub records_gap : CarrierAt → Bool
  records_gap (Pooled i g x) = is_multi x.kind && not (is_nil x.blocks)
      && (g == largest (gaps_of x))
  records_gap place = true

  abbrev pub records_gaps : List ℕ → Bool
  records_gaps numbers = list_all (λ number. records_gap (state.shared.places number)) numbers

  -- header, blocks and gaps fill a carrier: so no two blocks overlap, and none ends outside
  abbrev pub is_filled : Content → Bool
  is_filled x = 8 + allocated_units x.blocks + free_units (gaps_of x) == x.units

  -- blocks, and the gaps of main and multiblock carriers, are even and have 6 units at least
  abbrev pub is_whole : ℕ → Bool
  is_whole size = (size % 2 == 0) && nat_le 6 size

  abbrev pub are_whole : Content → Bool
  are_whole x = list_all (λ b. is_whole b.size) x.blocks
      && (not (is_shared x.kind) || list_all (λ g. is_whole g.size) (gaps_of x))

  -- two carriers with different numbers have no unit in common
  abbrev pub are_apart : Content → Content → Bool
  are_apart x y = (x.number == y.number) || nat_le (512 * x.base + x.units) (512 * y.base)
      || nat_le (512 * y.base + y.units) (512 * x.base)

  -- how many carriers overlap one
  abbrev pub overlaps : Content → ℕ
  overlaps x = sum_everywhere setup (λ y. one_if (not (are_apart x y))) state

  -- each carrier is filled, by whole blocks and gaps, and no two overlap
  abbrev pub lays_out : Bool
  lays_out = sum_everywhere setup
      (λ x. one_if (not (is_filled x && are_whole x)) + overlaps x) state == 0
