-- A worked failure, from what is computed of the run.
use Rattle.std.proofs.Common.{◌≡◌, ◌≤◌, ℕ, true, false, ◌==◌, List, [], ◌∷◌, ◌++◌, None, Err, sym}
use Rattle.std.proofs.Common.{◌∙◌, ap, subst, inr}
use Rattle.std.specs.Prelude.{count_by, length}
use Rattle.ea_model.specs.Entries.{Entry}
use Rattle.ea_model.specs.declared.entries.NoCarrier.{NoCarrier}
use Rattle.ea_model.specs.Instance.{Instance, chosen_spot, plan, refilled}
use Rattle.ea_sound.specs.Exhausted.{IsExhausted, IsFailOf, seen_since}
use Rattle.ea_machine.specs.Machine.{run}
use Rattle.ea_sound.specs.Needs.{AsksFor}
use Rattle.ea_machine.specs.declared.nodes.Named.{Named}
use Rattle.ea_machine.specs.Searches.{Search, goes_on, looked_in, new_search}
use Rattle.ea_sound.specs.Searches.{Searched, Sight}
use Rattle.ea_machine.specs.Setup.{Setup, greatest_number, migration}
use Rattle.ea_sound.specs.Turns.{IsBegun, actor_after, begun, log_after}
use Rattle.ea_trials_definitions.proofs.Searched.{is_searched, last_of, searched}

-- the search that began when the begin of the operation was over
abbrev pub search_of : (setup : Setup) → List ℕ → ℕ → Search
search_of setup before s = new_search (greatest_number setup) (begun setup before s).lists

-- own carriers and the pool were searched in vain, and no carrier can be created
pub exhausted : (setup : Setup) (turns : List ℕ) (s : ℕ) (x : Entry) (need looked : ℕ)
    (why : NoCarrier) (before since : List ℕ) (seen : List Sight) (log : List Entry) (i : Instance)
    (held : List Named)
    → turns ++ s ∷ [] ≡ before ++ s ∷ since
    → IsBegun setup (run setup before) s
    → AsksFor (begun setup before s) (begun setup before s).todo need
    → chosen_spot i need ≡ None
    → seen_since setup before s since ≡ seen
    → migration setup ≡ true
    → need ≤ setup.settings.sbct
    → is_searched (greatest_number setup) need (search_of setup before s) seen ≡ true
    → goes_on (last_of (greatest_number setup) (search_of setup before s) seen).part ≡ false
    → looked ≡ looked_in (last_of (greatest_number setup) (search_of setup before s) seen).part
    → count_by (λ j. j == s) since ≡ length seen
    → plan i need ≡ Err why
    → IsFailOf (begun setup before s).todo need looked why x
    → (begun setup before s).log ≡ log
    → log_after setup (turns ++ s ∷ []) s ≡ log ++ x ∷ []
    → (begun setup before s).instance ≡ i
    → (actor_after setup (turns ++ s ∷ []) s).instance ≡ refilled i
    → (begun setup before s).held ≡ held
    → (actor_after setup (turns ++ s ∷ []) s).held ≡ held
    → IsExhausted setup turns s x need looked why
exhausted setup turns s x need looked why before since seen log i held split begins asks none sees
    on small search over counts steps refused fails then now had has held_then held_now = record {
      before = before;
      since = since;
      split = split;
      finds = record {
        begins = begins;
        asks = asks;
        none = λ le. ap (λ j. chosen_spot j need) had ∙ none;
        sought = inr (
          on,
          small,
          (
            last_of (greatest_number setup) (search_of setup before s) seen,
            subst
                (Searched (greatest_number setup) need (search_of setup before s)
                (last_of (greatest_number setup) (search_of setup before s) seen))
                (sym sees)
                (searched (greatest_number setup) need (search_of setup before s) seen search),
            over,
            counts,
          ),
        );
        steps = steps ∙ ap length (sym sees);
        refused = ap (λ j. plan j need) had ∙ refused;
      };
      fails = fails;
      log = now ∙ ap (λ l. l ++ x ∷ []) (sym then);
      instance = has ∙ ap refilled (sym had);
      held = held_now ∙ sym held_then;
    }
