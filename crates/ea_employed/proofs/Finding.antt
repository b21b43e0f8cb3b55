-- The carriers that the set finds.
use Rattle.std.proofs.Common.{◌≡◌, ◌<◌, ℕ, List, map, AllPairs, get_or, length, sym, ap, ◌∙◌, subst}
use Rattle.std.proofs.Common.{refl, arith}
use Rattle.std.specs.Prelude.{Option, IfSome, None, Some, is_some}
use Rattle.std.proofs.lemmas.List.{get_or-map, length-map}
use Rattle.ea_model.specs.Content.{Content}
use Rattle.ea_model.specs.Instance.{content_of, has_content}
use Rattle.ea_model.proofs.Options.{is_some-map}
use Rattle.ea_model.proofs.Rising.{item_at-each, item_at-key, item_at-map}
use Rattle.ea_cset.specs.declared.keys.CarrierFit.{CarrierFit}
use Rattle.ea_cset.specs.declared.keys.Found.{Found}
use Rattle.ea_cset.specs.Carriers.{carrier_found, carrier_of, number_of as set_number, Carriers}
use Rattle.ea_cset.specs.Carriers.{IsBefore, StandsIn}
use Rattle.ea_laws.specs.Kept.{number_of, IsRising}
use Rattle.ea_laws.proofs.Contents.{absent-none}
use Rattle.ea_employed.specs.declared.choice.Choice.{Choice}
use Rattle.ea_employed.specs.Choices.{IsChoice}
use Rattle.ea_employed.specs.Listed.{held_of, CarrierList, StandsAmong}

-- a carrier that the set found stands at the same place among the carriers
pub found-stands : (o : Option Found) (cs now : List Content) (set : Carriers)
    → set.held ≡ map held_of cs → cs ≡ now → IfSome o (StandsIn set.held)
    → IfSome o (StandsIn (map held_of now))
found-stands o cs now set held seen h =
    subst (λ hs. IfSome o (StandsIn hs)) (held ∙ ap (map held_of) seen) h

pub found-within : (cs : List Content) (f : Found) → StandsIn (map held_of cs) f
    → f.index < length cs
found-within cs f stands = omega (arith, stands.0, length-map cs held_of)

pub found-held : (cs : List Content) (f : Found) (item : Content) → StandsIn (map held_of cs) f
    → item ≡ get_or cs f.index item → held_of item ≡ f.carrier
found-held cs f item stands is =
    ap held_of is ∙ sym (get_or-map held_of cs f.index item f.carrier (found-within cs f stands))
    ∙ stands.1

pub found-there : (cs : List Content) (f : Found) (item : Content) → IsRising cs
    → StandsIn (map held_of cs) f → item ≡ get_or cs f.index item
    → content_of cs f.carrier.key.number ≡ Some item
found-there cs f item rising stands is =
    let within = found-within cs f stands in
    let same = found-held cs f item stands is in
    ap (content_of cs) (ap (λ (x : CarrierFit). x.key.number) (sym same) ∙ ap number_of is)
    ∙ item_at-each number_of f.index item cs rising within ∙ ap Some (sym is)

-- and it is the set's
pub in-set : (l now : CarrierList) (hs : List CarrierFit) (f : Found) → l ≡ now
    → hs ≡ map held_of l.contents → StandsAmong now.contents f → StandsIn hs f
in-set l now hs f same held stands = subst (λ ys. StandsIn ys f)
    (sym (held ∙ ap (λ (m : CarrierList). map held_of m.contents) same)) stands

-- the carriers stand by rising number where the set holds them so
held-rising : (cs : List Content) (hs : List CarrierFit) → hs ≡ map held_of cs
    → AllPairs IsBefore hs → IsRising cs
held-rising cs hs held rising = λ i j d lt within.
    let same : (k : ℕ) → k < length cs
    → (get_or hs k (held_of d)).key.number ≡ (get_or cs k d).number =
    λ k le. ap set_number (ap (λ ys. get_or ys k (held_of d)) held
    ∙ get_or-map held_of cs k d (held_of d) le) in
    let here : (get_or hs i (held_of d)).key.number < (get_or hs j (held_of d)).key.number =
    (rising i j (held_of d) lt (omega (arith, within, ap length held, length-map cs held_of))).0 in
    omega (arith, here, same i (omega arith), same j within)

-- what the set found by its number, if it did, is the carrier with the number
module _ (n : ℕ) (cs now : List Content) (hs : List CarrierFit) (o : Option Found)
    (held : hs ≡ map held_of cs) (seen : cs ≡ now) (is : carrier_found o ≡ carrier_of hs n) where
  pub find-there : is_some o ≡ has_content n now
  find-there =
      sym (is_some-map (λ (f : Found). f.carrier) o) ∙ ap is_some (is ∙ ap (λ ys. carrier_of ys n)
      held ∙ item_at-map set_number held_of n cs) ∙ is_some-map held_of (content_of cs n)
      ∙ ap (has_content n) seen

  pub find-none : o ≡ None → None ≡ content_of now n
  find-none was = sym (absent-none n now (sym find-there ∙ ap is_some was))

  pub find-number : IfSome o (λ f. f.carrier.key.number ≡ n)
  find-number = by o refl where
    by : (r : Option Found) → o ≡ r → IfSome r (λ f. f.carrier.key.number ≡ n)
    by None was = tt
    by (Some f) was = item_at-key set_number n f.carrier hs (sym is ∙ ap carrier_found was)

  pub find-some : (f : Found) → o ≡ Some f → AllPairs IsBefore hs → IfSome o (StandsIn hs)
      → (item : Content) → item ≡ get_or cs f.index item → Some item ≡ content_of now n
  find-some f was before stands item at =
      sym (ap (content_of cs) (sym (subst (λ r. IfSome r (λ g. g.carrier.key.number ≡ n)) was
      find-number)) ∙ found-there cs f item (held-rising cs hs held before)
      (subst (λ ys. StandsIn ys f) held (subst (λ r. IfSome r (StandsIn hs)) was stands)) at)
      ∙ ap (λ ys. content_of ys n) seen

-- the carrier of a choice is the one that the set has at its place
module _ (need : ℕ) (l now : CarrierList) (x : Choice) (hs : List CarrierFit) (same : l ≡ now)
    (held : hs ≡ map held_of l.contents) (choice : IsChoice need now.contents x) where
  here : hs ≡ map held_of now.contents
  here = held ∙ ap (λ (m : CarrierList). map held_of m.contents) same

  pub choice-within : x.index < length hs
  choice-within =
      omega (arith, choice.within, ap length here, length-map now.contents held_of)

  pub choice-number : (f : Found) → StandsIn hs f → f.index ≡ x.index
      → f.carrier.key.number ≡ x.candidate.number
  choice-number f stands at =
      sym (choice.chosen.number ∙ ap set_number (found-held now.contents f choice.content
      (subst (λ ys. StandsIn ys f) here stands)
      (subst (λ k. choice.content ≡ get_or now.contents k choice.content) (sym at)
      (sym choice.is))))
