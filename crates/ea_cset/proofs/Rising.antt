-- Carriers by rising number.
use Rattle.std.proofs.Common.{◌≡◌, ◌≢◌, ◌<◌, ◌^◌, ℕ, List, get_or, sym, ap, ◌∙◌, subst, refl}
use Rattle.std.proofs.Common.{arith}
use Rattle.std.proofs.lemmas.Bool.{cond_both}
use Rattle.std.proofs.lemmas.List.{get_or_default}
use Rattle.std.proofs.lemmas.List.Elements.{All-map}
use Rattle.std.specs.Prelude.{All, AllPairs, Some}
use Rattle.std.specs.List.{position_or_len}
use Rattle.ea_model.specs.Keyed.{entered, has_key, IsBelow}
use Rattle.ea_model.proofs.Pairs.{pairs_map}
use Rattle.ea_model.proofs.Rising.{item_at-each, pairs-entered}
use Rattle.ea_cset.specs.declared.keys.CarrierFit.{CarrierFit}
use Rattle.ea_cset.specs.declared.keys.CarrierKey.{CarrierKey}
use Rattle.ea_cset.specs.declared.ranking.Rank.{Rank}
use Rattle.ea_cset.specs.declared.keys.Found.{Found}
use Rattle.ea_cset.specs.declared.keys.Order.{Order}
use Rattle.ea_cset.specs.declared.keys.Order.TheVariants.{Address, Age}
use Rattle.ea_cset.specs.Ranks.{order_key}
use Rattle.ea_cset.specs.Carriers.{number_of, carrier_of, refitted, with_fit, Carriers, IsBefore}
use Rattle.ea_cset.specs.Carriers.{StandsIn}
use Rattle.ea_cset.proofs.Searched.{place-index}

pub no_carrier : CarrierFit
no_carrier = record { key = record { number = 0; base = 0; birth = 0 }; fit = 0 }

pub no_rank : Rank
no_rank = record { key = 0; carrier = no_carrier }

pub rising : (hs : List CarrierFit) → AllPairs IsBefore hs → AllPairs (IsBelow number_of) hs
rising hs a = λ i j d lt within. (a i j d lt within).0

pub rising-entered : (x : CarrierFit) (hs : List CarrierFit) → AllPairs IsBefore hs
    → All (λ h. h.key.number ≢ x.key.number) hs → All (λ h. h.key.base ≢ x.key.base) hs
    → AllPairs IsBefore (entered number_of x hs)
rising-entered x hs r n b =
    pairs-entered number_of IsBefore x hs (rising hs r) r
    (λ i d within lt. (lt, λ e. b i d within (sym e)))
    (λ i d within le. (omega (arith, n i d within), b i d within))

-- carriers of different numbers and bases have different keys in an order
pub keys-differ : (o : Order) (x : CarrierFit) (hs : List CarrierFit)
    → All (λ h. h.key.number < 2 ^ 32) hs → x.key.number < 2 ^ 32
    → All (λ h. h.key.number ≢ x.key.number) hs → All (λ h. h.key.base ≢ x.key.base) hs
    → All (λ h. order_key o h ≢ order_key o x) hs
keys-differ Address x hs small fits number base = base
keys-differ Age x hs small fits number base =
    λ i d within e. omega (arith, e, number i d within, small i d within, fits)

-- another fit leaves the key
pub key-stays : (o : Order) (fit : ℕ) (h : CarrierFit)
    → order_key o (record { key = h.key; fit = fit }) ≡ order_key o h
key-stays Address fit h = refl
key-stays Age fit h = refl

-- what was found in the set as it is seen stands in it
pub seen-stands : (s now : Carriers) (f : Found) → s ≡ now → StandsIn now.held f
    → StandsIn s.held f
seen-stands s now f seen stands = subst (λ (x : Carriers). StandsIn x.held f) (sym seen) stands

-- a carrier that was found is the one with its number, and stands at the place of that
pub found-there : (hs : List CarrierFit) (f : Found) → AllPairs IsBefore hs → StandsIn hs f
    → carrier_of hs f.carrier.key.number ≡ Some f.carrier
found-there hs f before stands =
    subst (λ (y : CarrierFit). carrier_of hs y.key.number ≡ Some y) stands.1
    (item_at-each number_of f.index f.carrier hs (rising hs before) stands.0)

pub found-index : (hs : List CarrierFit) (f : Found) → AllPairs IsBefore hs → StandsIn hs f
    → f.index ≡ position_or_len (has_key number_of f.carrier.key.number) hs
found-index hs f before stands =
    place-index number_of f.carrier.key.number hs (rising hs before) f.carrier f.index (record {
      within = stands.0;
      has_it = λ d. ap number_of (get_or_default hs f.index d f.carrier stands.0 ∙ stands.1);
    })

module _ (n fit : ℕ) where
  refit-key : (h : CarrierFit) → (with_fit n fit h).key ≡ h.key
  refit-key h = cond_both (has_key number_of n h) (record { key = h.key; fit = fit }) h
      (λ (y : CarrierFit). y.key ≡ h.key) (λ _. refl) (λ _. refl)

  pub rising-refitted : (hs : List CarrierFit) → AllPairs IsBefore hs
      → AllPairs IsBefore (refitted n fit hs)
  rising-refitted hs r =
      pairs_map IsBefore (with_fit n fit) hs (λ i j d lt within.
      let a = get_or hs i d in
      let b = get_or hs j d in
      subst (λ (k : CarrierKey). (k.number < (with_fit n fit b).key.number)
      × (k.base ≢ (with_fit n fit b).key.base)) (sym (refit-key a))
      (subst (λ (k : CarrierKey). (a.key.number < k.number) × (a.key.base ≢ k.base))
      (sym (refit-key b)) (r i j d lt within)))

  pub small-refitted : (hs : List CarrierFit) → All (λ h. h.key.number < 2 ^ 32) hs
      → All (λ h. h.key.number < 2 ^ 32) (refitted n fit hs)
  small-refitted hs small =
      All-map (λ (h : CarrierFit). h.key.number < 2 ^ 32) (with_fit n fit) hs
      (λ k d within. subst (λ (x : CarrierKey). x.number < 2 ^ 32)
      (sym (refit-key (get_or hs k d))) (small k d within))
