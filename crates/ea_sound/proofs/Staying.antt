-- Carriers that may stay with an instance, through its changes.
use Rattle.std.proofs.Common.{◌≡◌, ◌≢◌, ℕ, false, ◌&&◌, List, refl, ◌∙◌, inl, inr}
use Rattle.std.specs.Prelude.{Option, None, Some, All}
use Rattle.std.proofs.lemmas.Bool.{cond_both, eqb-false, eqb-true}
use Rattle.std.proofs.lemmas.List.Elements.{All-map, All-weaker}
use Rattle.ea_model.specs.declared.carriers.CarrierPlan.{CarrierPlan}
use Rattle.ea_model.specs.declared.carriers.Kind.{Kind}
use Rattle.ea_model.specs.declared.carriers.Kind.TheVariants.{Main, Multi, Single}
use Rattle.ea_model.specs.declared.carriers.Spot.{Spot}
use Rattle.ea_model.specs.declared.reallocation.Decision.{Decision}
use Rattle.ea_model.specs.declared.reallocation.Decision.TheVariants.{Stay, ShrinkHere, GrowHere}
use Rattle.ea_model.specs.declared.reallocation.Decision.TheVariants.{ShrinkCarrier, Move}
use Rattle.ea_model.specs.Content.{Content, can_go, is_empty_multi, is_multi, is_nil, is_vacant}
use Rattle.ea_model.specs.Content.{placed, released, resized}
use Rattle.ea_model.specs.Instance.{Instance, changed, content_of, created_content, created_single}
use Rattle.ea_model.specs.Instance.{creating, creating_single, decision_at, employed, placing_at}
use Rattle.ea_model.specs.Instance.{releasing_at, resized_by, resized_in, resized_to, resizing_at}
use Rattle.ea_model.specs.Keyed.{has_key}
use Rattle.ea_model.proofs.Merged.{merged-All}
use Rattle.ea_model.proofs.Rising.{All-entered, change, item_at-All, item_at-key}
use Rattle.ea_laws.specs.Kept.{number_of, IsOrderly}
use Rattle.ea_laws.proofs.Owned.{with_units}
use Rattle.ea_model.specs.Employment.{dismissing, employing}
use Rattle.ea_sound.specs.Places.{IsMultiOrOwn, MayStay}
use Rattle.ea_sound.proofs.Occupied.{after-vacant, placed-occupied}
use Rattle.ea_laws.proofs.Orderly.{employed-alone, employed-many, many-not_alone}
use Rattle.ea_sound.proofs.Others.{others-here, others-without}
use Rattle.ea_laws.proofs.Resizing.{content_after}

module _ (me : ℕ) where
  -- all carriers that an instance employs may stay with it
  abbrev pub AllStay : Instance → Type 0
  AllStay i = All (MayStay me) i.contents × All (MayStay me) i.singles

  -- a carrier may stay, but for that of a number, which may be vacant
  abbrev pub StaysBut : ℕ → Content → Type 0
  StaysBut n x = IsMultiOrOwn me x × (x.number ≢ n → is_vacant x ≡ false)

  abbrev pub AllStayBut : ℕ → Instance → Type 0
  AllStayBut n i = All (StaysBut n) i.contents × All (StaysBut n) i.singles

  stays_but : (n : ℕ) (xs : List Content) → All (MayStay me) xs → All (StaysBut n) xs
  stays_but n xs all = All-weaker (MayStay me) (StaysBut n) (λ x m. (m.1, λ other. m.0)) xs all

  -- what a change keeps of each, it keeps of all
  all-changed : (P Q : Content → Type 0) (f : Content → Content) (n : ℕ)
      → ((x : Content) → x.number ≡ n → P x → Q (f x))
      → ((x : Content) → x.number ≢ n → P x → Q x)
      → (xs : List Content) → All P xs → All Q (changed f n xs)
  all-changed P Q f n here other xs all = All-map Q (change number_of f n) xs
      (All-weaker P (λ x. Q (change number_of f n x))
      (λ x p. cond_both (has_key number_of n x) (f x) x Q (λ t. here x (eqb-true x.number n t) p)
      (λ u. other x (eqb-false x.number n u) p)) xs all)

  -- a block is placed in the one carrier that may be vacant
  pub placing-stay : (i : Instance) (spot : Spot) (need name : ℕ) → AllStayBut spot.carrier i
      → All (MayStay me) i.singles → AllStay (placing_at i spot need name)
  placing-stay i spot need name all one = (
    all-changed (StaysBut spot.carrier) (MayStay me) (λ c. placed c spot.offset need name)
        spot.carrier (λ x is s. (placed-occupied x spot.offset need name, s.0))
        (λ x other s. (s.1 other, s.0)) i.contents all.0,
    one,
  )

  -- the carrier of a plan comes
  pub creating-stay : (i : Instance) (p : CarrierPlan) → AllStay i
      → AllStayBut p.number (creating i p)
  creating-stay i p all = (
    All-entered number_of (StaysBut p.number) (created_content i.number Multi p) i.contents
        (inl refl, λ other. absurd (other refl)) (stays_but p.number i.contents all.0),
    stays_but p.number i.singles all.1,
  )

  pub creating_single-stay : (i : Instance) (p : CarrierPlan) (need name : ℕ) → i.number ≡ me
      → AllStay i → AllStay (creating_single i p need name)
  creating_single-stay i p need name own all = (
    all.0,
    All-entered number_of (MayStay me) (created_single i.number p need name) i.singles
        (refl, inr own) all.1,
  )

  -- one that isn't vacant comes
  pub employing-stay : (i : Instance) (x : Content) → MayStay me x → AllStay i
      → AllStay (employing i x)
  employing-stay i x m all = (All-entered number_of (MayStay me) x i.contents m all.0, all.1)

  pub but-stay : (n : ℕ) (i : Instance) → AllStay i → AllStayBut n i
  but-stay n i all = (stays_but n i.contents all.0, stays_but n i.singles all.1)

  -- a block is resized
  after-stay : (d : Decision) (offset size name : ℕ) (x : Content) → MayStay me x
      → MayStay me (content_after d offset size name x)
  after-stay Stay offset size name x m = (after-vacant Stay offset size name x ∙ m.0, m.1)
  after-stay ShrinkHere offset size name x m =
      (after-vacant ShrinkHere offset size name x ∙ m.0, m.1)
  after-stay GrowHere offset size name x m = (after-vacant GrowHere offset size name x ∙ m.0, m.1)
  after-stay (ShrinkCarrier pages) offset size name x m =
      (after-vacant (ShrinkCarrier pages) offset size name x ∙ m.0, m.1)
  after-stay Move offset size name x m = m

  each-stay : (f : Content → Content) (n : ℕ) → ((x : Content) → MayStay me x → MayStay me (f x))
      → (xs : List Content) → All (MayStay me) xs → All (MayStay me) (changed f n xs)
  each-stay f n keeps xs all =
      all-changed (MayStay me) (MayStay me) f n (λ x is m. keeps x m) (λ x other m. m) xs all

  module _ (i : Instance) (spot : Spot) (name : ℕ) (all : AllStay i) where
    in-stay : (size : ℕ) → AllStay (resized_in i spot size name)
    in-stay size =
        let f : Content → Content = λ c. resized c spot.offset size name in
        let keeps = after-stay Stay spot.offset size name in
        let each = each-stay f spot.carrier keeps in
        (each i.contents all.0, each i.singles all.1)

    by-stay : (d : Decision) (size : ℕ) → AllStay (resized_by d i spot size name)
    by-stay Stay size = in-stay size
    by-stay ShrinkHere size = in-stay size
    by-stay GrowHere size = in-stay size
    by-stay (ShrinkCarrier pages) size = (
      (in-stay size).0,
      each-stay (with_units pages) spot.carrier (λ x m. m) _ (in-stay size).1,
    )
    by-stay Move size = all

    pub resizing-stay : (need : ℕ) → AllStay (resizing_at i spot need name)
    resizing-stay need = by-stay (decision_at i spot need) (resized_to i spot need)

  -- a block is released: its carrier may be vacant then
  pub releasing-stay : (i : Instance) (spot : Spot) → AllStay i
      → AllStayBut spot.carrier (releasing_at i spot)
  releasing-stay i spot all =
      let f : Content → Content = λ c. released c spot.offset in
      let each = λ (xs : List Content) (all : All (MayStay me) xs).
      all-changed (MayStay me) (StaysBut spot.carrier) f spot.carrier
      (λ x is m. (m.1, λ other. absurd (other is))) (λ x other m. (m.1, λ o. m.0)) xs all in
      (each i.contents all.0, each i.singles all.1)

  module _ (n : ℕ) (i : Instance) (order : IsOrderly i) (all : AllStayBut n i) where
    found-own : (x : Content) → content_of (employed i) n ≡ Some x → IsMultiOrOwn me x
    found-own x there = (item_at-All number_of (StaysBut n) n x (employed i)
        (merged-All number_of (StaysBut n) i.contents i.singles all.0 all.1) there).0

    if_other : (xs : List Content) → All (StaysBut n) xs
        → All (λ x. x.number ≢ n → MayStay me x) xs
    if_other xs all = All-weaker (StaysBut n) (λ x. x.number ≢ n → MayStay me x)
        (λ x s other. (s.1 other, s.0)) xs all

    -- the carrier leaves
    pub dismissing-stay : AllStay (dismissing i n)
    dismissing-stay = (
      others-without number_of (MayStay me) n i.contents (if_other i.contents all.0),
      others-without number_of (MayStay me) n i.singles (if_other i.singles all.1),
    )

    -- or it isn't vacant
    pub here-stay : ((x : Content) → content_of (employed i) n ≡ Some x → is_vacant x ≡ false)
        → AllStay i
    here-stay full = (
      others-here number_of (MayStay me) n i.contents order.rising (if_other i.contents all.0)
          (λ x is. let there = employed-many i n x order is in (full x there, found-own x there)),
      others-here number_of (MayStay me) n i.singles order.rising_singles (if_other i.singles all.1)
          (λ x is. let there = alone (content_of i.contents n) refl x is in
          (full x there, found-own x there)),
    )
      where
        alone : (o : Option Content) → content_of i.contents n ≡ o → (x : Content)
            → content_of i.singles n ≡ Some x → content_of (employed i) n ≡ Some x
        alone None none x is = employed-alone i n none ∙ is
        alone (Some y) many x is = absurd (item_at-All number_of (λ z. z.number ≢ n) n x i.singles
            (many-not_alone i n y order many) is (item_at-key number_of n x i.singles is))

-- a carrier that isn't vacant is no empty multiblock carrier
pub vacant-empty : (x : Content) → is_vacant x ≡ false → is_empty_multi x ≡ false
vacant-empty x full = by x.kind full where
  by : (k : Kind) → (can_go k && is_nil x.blocks) ≡ false → (is_multi k && is_nil x.blocks) ≡ false
  by Main full = refl
  by Multi full = full
  by Single full = refl
