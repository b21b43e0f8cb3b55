-- Where a release leaves the route of a block, by what its carrier is then.
use Rattle.std.proofs.Common.{◌≡◌, ℕ, Bool, true, false, refl, sym, ap, ◌∙◌, subst}
use Rattle.std.specs.Prelude.{Option, None, Some, ◌==◌, IsSome, is_some}
use Rattle.std.specs.Option.{option_and_then, option_map_or}
use Rattle.std.proofs.Common.{arith}
use Rattle.ea_model.specs.declared.carriers.BlockAt.{BlockAt}
use Rattle.ea_model.specs.declared.carriers.Spot.{Spot}
use Rattle.ea_model.specs.Abandonment.{is_due}
use Rattle.ea_model.specs.Employment.{dismissing}
use Rattle.ea_model.specs.Content.{Content, block_at, is_vacant}
use Rattle.ea_model.specs.Content.{released}
use Rattle.ea_model.specs.Instance.{Instance, block_in, content_of, employed, has_content}
use Rattle.ea_model.specs.Instance.{has_vacant, releasing_at}
use Rattle.ea_model.proofs.Rising.{item_at-key}
use Rattle.ea_laws.proofs.Changed.{released-keeps}
use Rattle.ea_laws.proofs.Orderly.{changing-found}
use Rattle.ea_machine.specs.declared.nodes.Named.{Named}
use Rattle.ea_machine.specs.declared.stages.Route.TheVariants.{Abandoning}
use Rattle.ea_machine.specs.declared.tasks.Gone.{Gone}
use Rattle.ea_machine.specs.declared.tasks.Gone.TheVariants.{Here}
use Rattle.ea_machine.specs.Actor.{Actor}
use Rattle.ea_machine.specs.Releases.{abandoned_if, after_release, dismissed, ends}
use Rattle.ea_machine.specs.Releases.{first_gone, goes_on, leaving, lightened}
use Rattle.ea_machine.specs.Releases.{employed_by, looked, pooled_by, release_here, sent_to}
use Rattle.ea_machine.specs.declared.owners.OwnerWord.{OwnerWord}
use Rattle.ea_machine.specs.declared.owners.OwnerWord.TheVariants as word
use Rattle.ea_machine.specs.Setup.{Setup}
use Rattle.ea_sound.proofs.Due.{due-stays}

module _ (e : Setup) (me : ℕ) where
  -- the block is released: the carrier is this one then
  pub released-is : (hand : Named) (gone : Gone) (a : Actor) (x : Content)
      → content_of (employed (releasing_at a.instance hand.spot)) hand.spot.carrier ≡ Some x
      → release_here e me hand gone a ≡ lightened e me (is_vacant x) x (first_gone gone Here)
      (record a { instance = releasing_at a.instance hand.spot })
  released-is hand gone a x there =
      ap (after_release e me gone (record a { instance = releasing_at a.instance hand.spot })) there

  -- it isn't to be deallocated: it is abandoned, if that is due
  pub kept-by : (due : Bool) (x : Content) (g : Gone) (a : Actor) → is_vacant x ≡ false
      → is_due e.settings a.instance.count a.instance.contents x ≡ due
      → lightened e me (is_vacant x) x g a ≡ abandoned_if due x g a
  kept-by due x g a keeps is = ap (λ b. lightened e me b x g a) keeps
      ∙ ap (λ b. abandoned_if b x g a) is

-- the carrier is there after the release of a block that it had
pub has-after : (i : Instance) (spot : Spot) → IsSome (block_in (employed i) spot)
    → has_content spot.carrier (employed (releasing_at i spot)) ≡ true
has-after i spot there = by (content_of (employed i) spot.carrier) refl where
  found : Option Content → Option BlockAt
  found o = option_and_then (λ (c : Content). block_at c.blocks spot.offset) o

  by : (o : Option Content) → content_of (employed i) spot.carrier ≡ o
      → has_content spot.carrier (employed (releasing_at i spot)) ≡ true
  by None q = absurd (let no : false ≡ true = subst (λ o. IsSome (found o)) q there in cc)
  by (Some c) q = ap is_some (changing-found (λ x. released x spot.offset)
      (released-keeps spot.offset) spot.carrier i c q)

-- the content that a number has
pub there-is : (o : Option Content) → is_some o ≡ true → (x : Content) × (o ≡ Some x)
there-is None is = absurd cc
there-is (Some x) is = (x, refl)

-- a block is released: `i` is the instance then, and `g` what became of the block
module _ (e : Setup) (me : ℕ) (hand : Named) (gone g : Gone) (a : Actor) (i : Instance)
    (after : i ≡ releasing_at a.instance hand.spot) (here : g ≡ first_gone gone Here) where
  abbrev n : ℕ
  n = hand.spot.carrier

  abbrev found : Option Content
  found = content_of (employed i) n

  -- by what the release makes of the carrier
  release-by : (x : Content) → found ≡ Some x
      → lightened e me (is_vacant x) x g (record a { instance = i })
      ≡ release_here e me hand gone a
  release-by x q = ap (λ h. lightened e me (is_vacant x) x h (record a { instance = i })) here
      ∙ ap (λ j. lightened e me (is_vacant x) x (first_gone gone Here) (record a { instance = j }))
      after
      ∙ sym (released-is e me hand gone a x
      (subst (λ j. content_of (employed j) n ≡ Some x) after q))

  vacant-is : (x : Content) → found ≡ Some x → is_vacant x ≡ has_vacant n (employed i)
  vacant-is x q = ap (λ o. option_map_or is_vacant o false) (sym q)

  -- the carrier, of which one is in the hand
  module _ (y : Content) (j : Instance) (q : found ≡ Some y) (left : j ≡ dismissing i n) where
    dismissed-is : record a { instance = j } ≡ dismissed y.number (record a { instance = i })
    dismissed-is = ap (λ k. record a { instance = k })
        (left
        ∙ ap (dismissing i) (sym (item_at-key (λ (c : Content). c.number) n y (employed i) q)))

    pub vacant-released : has_vacant n (employed i) ≡ true
        → leaving e me y g (record a { instance = j }) ≡ release_here e me hand gone a
    vacant-released vacant = ap (leaving e me y g) dismissed-is
        ∙ sym (ap (λ b. lightened e me b y g (record a { instance = i })) (vacant-is y q ∙ vacant))
        ∙ release-by y q

    pub due-released : is_due e.settings i.count i.contents y ≡ true
        → goes_on (Abandoning y) g (record a { instance = j }) ≡ release_here e me hand gone a
    due-released due = ap (goes_on (Abandoning y) g) dismissed-is
        ∙ sym (kept-by e me true y g (record a { instance = i })
        (due-stays e.settings i.count i.contents y due) due)
        ∙ release-by y q

  pub stays-released : (x : Content) → found ≡ Some x → has_vacant n (employed i) ≡ false
      → is_due e.settings i.count i.contents x ≡ false
      → ends g (record a { instance = i }) ≡ release_here e me hand gone a
  stays-released x q keeps due =
      sym (kept-by e me false x g (record a { instance = i }) (vacant-is x q ∙ keeps) due)
      ∙ release-by x q

-- the owner word that was read
module _ (e : Setup) (me : ℕ) (hand : Named) (gone : Gone) (a : Actor) (v : OwnerWord) (i : ℕ) where
  same-one : i ≡ me → (i == me) ≡ true
  same-one same = grind (arith, same)

  other-one : (i ≡ me → ⊥) → (i == me) ≡ false
  other-one other = grind (arith, other)

  -- names this scheduler as the employer
  pub looked-mine : v ≡ word.Employed i → i ≡ me
      → release_here e me hand gone a ≡ looked e me hand gone a v
  looked-mine q same = sym (ap (looked e me hand gone a) q
      ∙ ap (λ b. employed_by e me b i hand gone a) (same-one same))

  pub looked-others : v ≡ word.Employed i → (i ≡ me → ⊥)
      → sent_to hand i gone a ≡ looked e me hand gone a v
  looked-others q other = sym (ap (looked e me hand gone a) q
      ∙ ap (λ b. employed_by e me b i hand gone a) (other-one other))

  -- or as who abandoned the carrier
  module _ (g : ℕ) (q : v ≡ word.Pooled i g) where
    pub looked-others_pool : (i ≡ me → ⊥) → sent_to hand i gone a ≡ looked e me hand gone a v
    looked-others_pool other = sym (ap (looked e me hand gone a) q
        ∙ ap (λ b. pooled_by b i g hand gone a) (other-one other))
