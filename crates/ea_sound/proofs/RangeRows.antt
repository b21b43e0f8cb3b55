-- Where contents lie, scheduler by scheduler and place by place.
use Rattle.std.proofs.Common.{◌≡◌, ℕ, true, false, sym, ◌∙◌, subst}
use Rattle.std.specs.Prelude.{All}
use Rattle.ea_model.specs.Instance.{Instance}
use Rattle.ea_laws.specs.Kept.{IsLaidOut}
use Rattle.ea_machine.specs.Actor.{Actor}
use Rattle.ea_sound.specs.Contents.{AtHome, InHand}
use Rattle.ea_machine.specs.Owners.{CarrierAt}
use Rattle.ea_sound.specs.Ranges.{IsLaidOutAsKind}
use Rattle.ea_machine.specs.Setup.{Setup, is_scheduler}
use Rattle.ea_machine.specs.Shared.{Shared, at_place}
use Rattle.ea_machine.specs.State.{State}
use Rattle.ea_sound.specs.Moments.{with_actor}
use Rattle.ea_sound.specs.Rule.{Belongs, HasNoCarrier, Ranges, Standing}
use Rattle.ea_sound.proofs.Totals.{put-all}

-- the contents at a scheduler lie as they should
pub record LieWell (e : Setup) (i : ℕ) (a : Actor) : Type 0 where
  pub instance : is_scheduler e i ≡ true → Standing e i a.instance
  pub nobody : is_scheduler e i ≡ false → HasNoCarrier a
  pub contents : All (Belongs e i) a.instance.contents
  pub singles : All (Belongs e i) a.instance.singles
  pub in_hand : InHand (Belongs e i) (Belongs e i) a.stage
  pub hand_laid : InHand IsLaidOut IsLaidOutAsKind a.stage

-- the content at a place does
abbrev pub LiesAtHome : Setup → CarrierAt → Type 0
LiesAtHome e p = AtHome (λ x. Belongs e x.owner x) p × AtHome IsLaidOut p

pub ranges-actor : (e : Setup) (w : State) → Ranges e w → (i : ℕ) → LieWell e i (w.actors i)
ranges-actor e w h i = record {
  instance = h.instances i;
  nobody = h.nobody i;
  contents = h.contents i;
  singles = h.singles i;
  in_hand = h.in_hand i;
  hand_laid = h.hand_laid i;
}

ranges-of : (e : Setup) (w : State) → ((i : ℕ) → LieWell e i (w.actors i))
    → ((c : ℕ) → LiesAtHome e (w.shared.places c)) → Ranges e w
ranges-of e w lie home = record {
  instances = λ i. (lie i).instance;
  nobody = λ i. (lie i).nobody;
  contents = λ i. (lie i).contents;
  singles = λ i. (lie i).singles;
  in_hand = λ i. (lie i).in_hand;
  hand_laid = λ i. (lie i).hand_laid;
  home = λ c. (home c).0;
  home_laid = λ c. (home c).1;
}

-- a scheduler with the same instance, that has another content in its hand or none
pub lie-same : (e : Setup) (w : State) (me : ℕ) → is_scheduler e me ≡ true → Ranges e w
    → (a : Actor) → a.instance ≡ (w.actors me).instance
    → InHand (Belongs e me) (Belongs e me) a.stage → InHand IsLaidOut IsLaidOutAsKind a.stage
    → LieWell e me a
lie-same e w me is h a same belongs laid = record {
  instance = λ _. subst (Standing e me) (sym same) (h.instances me is);
  nobody = λ none. absurd (let t : true ≡ false = sym is ∙ none in cc);
  contents = subst (λ (i : Instance). All (Belongs e me) i.contents) (sym same) (h.contents me);
  singles = subst (λ (i : Instance). All (Belongs e me) i.singles) (sym same) (h.singles me);
  in_hand = belongs;
  hand_laid = laid;
}

module _ (e : Setup) (w : State) (me : ℕ) (a : Actor) (h : Ranges e w) (lie : LieWell e me a) where
  -- one scheduler and what is shared change
  pub ranges_moved : (s : Shared) → ((c : ℕ) → LiesAtHome e (s.places c))
      → Ranges e (with_actor w s me a)
  ranges_moved s home =
      ranges-of e (with_actor w s me a)
      (put-all (LieWell e) w.actors me a lie (ranges-actor e w h)) home

  pub ranges_at_place : (c : ℕ) (p : CarrierAt) → LiesAtHome e p
      → Ranges e (with_actor w (at_place c p w.shared) me a)
  ranges_at_place c p home = ranges_moved (at_place c p w.shared)
      (put-all (λ d. LiesAtHome e) w.shared.places c p home (λ d. (h.home d, h.home_laid d)))
