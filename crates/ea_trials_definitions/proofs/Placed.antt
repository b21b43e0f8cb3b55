-- A worked placement, from what is computed of the run.
use Rattle.std.proofs.Common.{◌≡◌, ◌≤◌, ◌<◌, ℕ, true, List, [], ◌∷◌, ◌++◌, None, Some, Ok, refl}
use Rattle.std.proofs.Common.{sym, ap, ◌∙◌, inl, inr, arith}
use Rattle.std.specs.Prelude.{◌==◌, IsSome, count_by, length}
use Rattle.ea_model.proofs.Options.{same-some, some_value}
use Rattle.ea_model.specs.declared.carriers.CarrierPlan.{CarrierPlan}
use Rattle.ea_model.specs.declared.carriers.Place.{Place}
use Rattle.ea_model.specs.declared.carriers.Spot.{Spot}
use Rattle.ea_model.specs.Entries.{Entry}
use Rattle.ea_model.specs.Content.{Content}
use Rattle.ea_model.specs.Instance.{chosen_spot, creating, place_at, plan, single_place}
use Rattle.ea_machine.specs.declared.owners.OwnerWord.{OwnerWord}
use Rattle.ea_machine.specs.declared.stages.Stage.TheVariants.{Creating, Fetching}
use Rattle.ea_machine.specs.declared.parts.Part.{Part}
use Rattle.ea_machine.specs.Searches.{fits}
use Rattle.ea_sound.specs.FirstFits.{IsFirstFit}
use Rattle.ea_sound.specs.Searches.{IsNextLook, Shown, Sight}
use Rattle.ea_sound.specs.Exhausted.{seen_since}
use Rattle.ea_machine.specs.declared.asks.Ask.{Ask}
use Rattle.ea_sound.specs.Chosen.{ByItself, Created, Fetched, HasAsked, IsPlacement}
use Rattle.ea_model.specs.Employment.{employing}
use Rattle.ea_machine.specs.Machine.{run}
use Rattle.ea_machine.specs.Nodes.{named_at}
use Rattle.ea_sound.specs.Needs.{AsksFor}
use Rattle.ea_sound.specs.Released.{blocks_at}
use Rattle.ea_machine.specs.Rows.{Won}
use Rattle.ea_machine.specs.Setup.{Setup, greatest_number, migration}
use Rattle.ea_trials_definitions.proofs.Exhausted.{search_of}
use Rattle.ea_trials_definitions.proofs.Searched.{is_searched, last_of, searched}
use Rattle.ea_sound.specs.Turns.{IsBegun, actor_after, answered, begun, log_after}

-- the operation asked for a place in one of these turns
pub asked : (setup : Setup) (turns before since : List ℕ) (s need : ℕ) (then now : List Entry)
    → turns ≡ before ++ s ∷ since
    → IsBegun setup (run setup before) s
    → AsksFor (begun setup before s) (begun setup before s).todo need
    → (begun setup before s).log ≡ then
    → now ≡ then
    → HasAsked setup turns s need now
asked setup turns before since s need then now split begins asks was is = record {
  before = before;
  since = since;
  split = split;
  begins = begins;
  asks = asks;
  same = was ∙ sym is;
}

-- the number was the first that fitted in a search since one of these turns
pub first_fit : (setup : Setup) (turns before since : List ℕ) (s need number : ℕ)
    (seen : OwnerWord) (passed : List Sight) (log : List Entry)
    → turns ≡ before ++ s ∷ since
    → IsBegun setup (run setup before) s
    → (begun setup before s).log ≡ log
    → log_after setup turns s ≡ log
    → AsksFor (begun setup before s) (begun setup before s).todo need
    → chosen_spot (begun setup before s).instance need ≡ None
    → is_searched (greatest_number setup) need (search_of setup before s) passed ≡ true
    → IsNextLook (last_of (greatest_number setup) (search_of setup before s) passed) number
    → fits need seen ≡ true
    → seen_since setup before s since ≡ passed ++ Shown number seen ∷ []
    → count_by (λ j. j == s) since ≡ length (seen_since setup before s since)
    → IsFirstFit setup turns s need number seen
first_fit setup turns before since s need number seen passed log split begins was now asks none
    search next fit saw steps = record {
      before = before;
      since = since;
      split = split;
      begins = begins;
      same = was ∙ sym now;
      asks = asks;
      none = none;
      passed = passed;
      last = last_of (greatest_number setup) (search_of setup before s) passed;
      searched = searched (greatest_number setup) need (search_of setup before s) passed search;
      next = next;
      fit = fit;
      saw = saw;
      steps = steps;
    }

-- a block is placed in a carrier that was fetched, and its entry made in the same step
pub fetched-placement : (setup : Setup) (turns : List ℕ) (s name : ℕ) (place : Place) (ask : Ask)
    (at : ℕ) (part : Part) (seen : OwnerWord) (x : Content) (spot : Spot)
    → ask.need ≤ setup.settings.sbct
    → HasAsked setup (turns ++ s ∷ []) s ask.need (log_after setup turns s)
    → (actor_after setup turns s).stage ≡ Fetching ask at part seen
    → chosen_spot (actor_after setup turns s).instance ask.need ≡ None
    → answered (run setup turns) s ≡ Won x
    → x.number ≡ at
    → IsFirstFit setup turns s ask.need at seen
    → chosen_spot (employing (actor_after setup turns s).instance x) ask.need ≡ Some spot
    → spot.carrier ≡ at
    → place_at (employing (actor_after setup turns s).instance x) spot ask.need ≡ place
    → blocks_at setup name place (run setup (turns ++ s ∷ [])) ≡ 1
    → IsSome (named_at name (actor_after setup (turns ++ s ∷ []) s).held)
    → IsPlacement setup turns s name place
fetched-placement setup turns s name place ask at part seen x spot small asks stage none won of
    first chosen there is lies held =
    record {
      before = turns;
      since = [];
      split = refl;
      same = refl;
      need = ask.need;
      asked = asks;
      placed = inl (
        small,
        record {
          instance = employing (actor_after setup turns s).instance x;
          before = Fetched x (record {
            ask = ask;
            number = at;
            part = part;
            seen = seen;
            stage = stage;
            asks = refl;
            won = won;
            is = of;
            first = first;
            there = λ other q. ap (λ (p : Spot). p.carrier)
                (same-some (chosen_spot (employing (actor_after setup turns s).instance x) ask.need)
                other spot q chosen) ∙ there;
          }) none refl;
          spot = spot;
          chosen = chosen;
          is = sym is;
        },
      );
      there = omega (arith, lies);
      holds = some_value (named_at name (actor_after setup (turns ++ s ∷ []) s).held) held;
    }

-- a block is placed in a carrier that was created, and its entry made in a later step
pub created-placement : (setup : Setup) (turns : List ℕ) (s name : ℕ) (place : Place)
    (before since : List ℕ) (log : List Entry) (ask : Ask) (p : CarrierPlan) (spot : Spot)
    → turns ++ s ∷ [] ≡ before ++ s ∷ since
    → log_after setup before s ≡ log
    → log_after setup turns s ≡ log
    → migration setup ≡ true
    → ask.need ≤ setup.settings.sbct
    → HasAsked setup (before ++ s ∷ []) s ask.need (log_after setup turns s)
    → (actor_after setup before s).stage ≡ Creating ask p
    → plan (actor_after setup before s).instance ask.need ≡ Ok p
    → chosen_spot (actor_after setup before s).instance ask.need ≡ None
    → chosen_spot (creating (actor_after setup before s).instance p) ask.need ≡ Some spot
    → place_at (creating (actor_after setup before s).instance p) spot ask.need ≡ place
    → blocks_at setup name place (run setup (before ++ s ∷ [])) ≡ 1
    → IsSome (named_at name (actor_after setup (before ++ s ∷ []) s).held)
    → IsPlacement setup turns s name place
created-placement setup turns s name place before since log ask p spot split then now on small asks
    stage planned none chosen is lies held = record {
      before = before;
      since = since;
      split = split;
      same = then ∙ sym now;
      need = ask.need;
      asked = asks;
      placed = inl (
        small,
        record {
          instance = creating (actor_after setup before s).instance p;
          before = Created (actor_after setup before s).instance p
              (ByItself on ask stage refl refl planned) none refl;
          spot = spot;
          chosen = chosen;
          is = sym is;
        },
      );
      there = omega (arith, lies);
      holds = some_value (named_at name (actor_after setup (before ++ s ∷ []) s).held) held;
    }

-- a large block is placed in a carrier of its own, and its entry made in the same step
pub single-placement : (setup : Setup) (turns : List ℕ) (s name : ℕ) (ask : Ask) (p : CarrierPlan)
    → migration setup ≡ true
    → setup.settings.sbct < ask.need
    → HasAsked setup (turns ++ s ∷ []) s ask.need (log_after setup turns s)
    → (actor_after setup turns s).stage ≡ Creating ask p
    → plan (actor_after setup turns s).instance ask.need ≡ Ok p
    → p.single ≡ true
    → blocks_at setup name (single_place p ask.need) (run setup (turns ++ s ∷ [])) ≡ 1
    → IsSome (named_at name (actor_after setup (turns ++ s ∷ []) s).held)
    → IsPlacement setup turns s name (single_place p ask.need)
single-placement setup turns s name ask p on large asks stage planned single lies held = record {
  before = turns;
  since = [];
  split = refl;
  same = refl;
  need = ask.need;
  asked = asks;
  placed = inr (
    large,
    record {
      instance = (actor_after setup turns s).instance;
      plan = p;
      creates = ByItself on ask stage refl refl planned;
      single = single;
      is = refl;
    },
  );
  there = omega (arith, lies);
  holds = some_value (named_at name (actor_after setup (turns ++ s ∷ []) s).held) held;
}
