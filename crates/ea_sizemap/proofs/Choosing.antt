-- What the least key that is great enough, and the greatest that is small enough, say of the sizes.
use Rattle.std.proofs.Common.{◌≡◌, ℕ, ◌+◌, ◌-◌, ◌*◌, ◌/◌, ◌%◌, ◌<◌, ◌≤◌, inl, inr, refl, sym, ap}
use Rattle.std.proofs.Common.{◌∙◌, subst, arith, get_or, List}
use Rattle.std.proofs.Common.{slice_index, Some, None, All, Contains}
use Rattle.std.proofs.lemmas.List.{get_or_default}
use Rattle.std.proofs.lemmas.List.Elements.{All-from_get_or, Contains-get_or}
use Rattle.std.proofs.lemmas.Bool.{cases_lt}
use Rattle.ea_keytree.specs.declared.tree.Found.{Found}
use Rattle.ea_keytree.specs.Keys.{KeysHeld, IsFirstFrom, IsLastUpTo}
use Rattle.ea_sizemap.specs.Held.{Sizes, IsLeastAtLeast, IsLowestOf, IsHighestOf}
use Rattle.ea_sizemap.specs.Keyed.{key, sizes_in, IsMap}
use Rattle.ea_sizemap.proofs.Keying.{key_rises, key_at, floor_below, key_lt, says, has, seen}

-- the size of the first key from the least one of a size on
pub least_is : (most span : ℕ) (s : KeysHeld) (free : List ℕ) (capacity : ℕ) (v : Sizes)
    (size bound : ℕ) (f : Found)
    → IsMap most span s free capacity → seen most span s.keys ≡ v → 1 ≤ size
    → bound ≡ key span size 0
    → IsFirstFrom bound s.keys f
    → IsLeastAtLeast size v.held (f.key / span)
    × IsLowestOf (f.key / span) v.held (f.key % span) × (f.key / span ≤ most)
least_is most span s free capacity v size bound f m e some eb i =
    let w = says most span s free capacity m f.position f.key i.held in
    let great : size ≤ f.key / span = elim (cases_lt (f.key / span) size) [
      | inl lt ↦
          absurd
          (omega (
            arith,
            key_rises span (f.key / span) (f.key % span) size 0 w.within lt,
            w.is,
            i.great,
            eb,
          ))
      | inr le ↦ le
    ] in (
      subst (λ (x : Sizes). IsLeastAtLeast size x.held (f.key / span)) e (record {
        great = great;
        held = subst (Contains (sizes_in span s.keys)) w.held
            (Contains-get_or (sizes_in span s.keys) (f.key % span) 0 w.inside);
        least = All-from_get_or (λ t. size ≤ t → f.key / span ≤ t) (sizes_in span s.keys) 0
            (λ j in_j le.
            let t : ℕ = slice_index (sizes_in span s.keys) j in
            let h = has most span s free capacity m t j refl (omega (arith, some, le)) in
            elim (cases_lt t (f.key / span)) [
              | inl lt ↦
                  absurd
                  (omega (
                    arith,
                    key_rises span t j (f.key / span) (f.key % span) h.within lt,
                    w.is,
                    i.least h.at (key span t j) h.is
                        (omega (arith, eb, floor_below span size t j le)),
                  ))
              | inr ge ↦ ge
            ]);
      }),
      subst (λ (x : Sizes). IsLowestOf (f.key / span) x.held (f.key % span)) e (record {
        within = w.inside;
        held = w.held;
        lowest = λ q is.
            let h = has most span s free capacity m (f.key / span) q is w.some in
            omega (
              arith,
              i.least h.at (key span (f.key / span) q) h.is
                  (omega (arith, eb, floor_below span size (f.key / span) q great)),
              w.is,
              key_at span (f.key / span) q,
              key_at span (f.key / span) (f.key % span),
            );
      }),
      w.may,
    )

pub least_none : (most span : ℕ) (s : KeysHeld) (free : List ℕ) (capacity : ℕ) (v : Sizes)
    (size bound : ℕ)
    → IsMap most span s free capacity → seen most span s.keys ≡ v → 1 ≤ size
    → bound ≡ key span size 0
    → ((q k : ℕ) → get_or s.keys q None ≡ Some k → k < bound) → All (λ t. t < size) v.held
least_none most span s free capacity v size bound m e some eb f =
    subst (λ (x : Sizes). All (λ t. t < size) x.held) e
    (All-from_get_or (λ t. t < size) (sizes_in span s.keys) 0 (λ j in_j.
    let t : ℕ = slice_index (sizes_in span s.keys) j in
    elim (cases_lt t size) [
      | inl lt ↦ lt
      | inr le ↦
          let h = has most span s free capacity m t j refl (omega (arith, some, le)) in
          absurd
          (omega (arith, f h.at (key span t j) h.is, eb, floor_below span size t j le))
    ]))

-- the last key of a size
pub highest_is : (most span : ℕ) (s : KeysHeld) (free : List ℕ) (capacity : ℕ) (v : Sizes)
    (size bound : ℕ) (f : Found)
    → IsMap most span s free capacity → seen most span s.keys ≡ v → 1 ≤ size
    → bound ≡ key span size 0 + (span - 1) → Contains v.held size → IsLastUpTo bound s.keys f
    → IsHighestOf size v.held (f.key % span)
highest_is most span s free capacity v size bound f m e some eb c i =
    let a : Contains (sizes_in span s.keys) size =
    subst (λ (x : Sizes). Contains x.held size) (sym e) c in
    let one = has most span s free capacity m size a.0
    (get_or_default (sizes_in span s.keys) a.0 0 size a.1 ∙ a.2) some in
    let w = says most span s free capacity m f.position f.key i.held in
    let last : (q : ℕ) → slice_index (sizes_in span s.keys) q ≡ size → key span size q ≤ f.key =
    λ q is.
    let h = has most span s free capacity m size q is some in
    i.greatest h.at (key span size q) h.is (omega (arith, eb, key_at span size q, h.within)) in
    let is : f.key / span ≡ size = elim (cases_lt (f.key / span) size) [
      | inl lt ↦
          absurd
          (omega (
            arith,
            key_rises span (f.key / span) (f.key % span) size a.0 w.within lt,
            w.is,
            i.greatest one.at (key span size a.0) one.is
                (omega (arith, eb, key_at span size a.0, one.within)),
          ))
      | inr le ↦ elim (cases_lt size (f.key / span)) [
        | inl lt ↦
            absurd
            (omega (
              arith,
              key_rises span size (span - 1) (f.key / span) (f.key % span)
                  (omega (arith, w.within)) lt,
              w.is,
              i.small,
              eb,
              key_at span size (span - 1),
            ))
        | inr ge ↦ omega (arith, le, ge)
      ]
    ] in
    let key_is : f.key ≡ key span size (f.key % span) =
    w.is ∙ ap (λ x. key span x (f.key % span)) is in
    subst (λ (x : Sizes). IsHighestOf size x.held (f.key % span)) e (record {
      within = w.inside;
      held = w.held ∙ is;
      highest = λ q in_q h.
          omega
          (arith, last q h, key_is, key_at span size q, key_at span size (f.key % span));
    })

pub highest_some : (most span : ℕ) (s : KeysHeld) (free : List ℕ) (capacity : ℕ) (v : Sizes)
    (size bound : ℕ)
    → IsMap most span s free capacity → seen most span s.keys ≡ v → 1 ≤ size
    → bound ≡ key span size 0 + (span - 1) → Contains v.held size
    → ((q k : ℕ) → get_or s.keys q None ≡ Some k → bound < k) → ⊥
highest_some most span s free capacity v size bound m e some eb c f =
    let a : Contains (sizes_in span s.keys) size =
    subst (λ (x : Sizes). Contains x.held size) (sym e) c in
    let h = has most span s free capacity m size a.0
    (get_or_default (sizes_in span s.keys) a.0 0 size a.1 ∙ a.2) some in
    absurd
    (omega (arith, f h.at (key span size a.0) h.is, eb, key_at span size a.0, h.within))

-- the size of the last key
pub greatest_is : (most span : ℕ) (s : KeysHeld) (free : List ℕ) (capacity : ℕ) (v : Sizes)
    (bound : ℕ) (f : Found)
    → IsMap most span s free capacity → seen most span s.keys ≡ v → (most + 1) * span ≤ bound
    → IsLastUpTo bound s.keys f
    → All (λ t. t ≤ f.key / span) v.held × Contains v.held (f.key / span)
    × (f.key / span ≤ most)
greatest_is most span s free capacity v bound f m e b i =
    let w = says most span s free capacity m f.position f.key i.held in (
      subst (λ (x : Sizes). All (λ t. t ≤ f.key / span) x.held) e
          (All-from_get_or (λ t. t ≤ f.key / span) (sizes_in span s.keys) 0 (λ j in_j.
          let t : ℕ = slice_index (sizes_in span s.keys) j in
          elim (cases_lt (f.key / span) t) [
            | inl lt ↦
                let h = has most span s free capacity m t j refl (omega (arith, lt)) in
                absurd
                (omega (
                  arith,
                  key_rises span (f.key / span) (f.key % span) t j w.within lt,
                  w.is,
                  i.greatest h.at (key span t j) h.is
                      (omega (arith, b, key_lt span t j most h.may h.within)),
                ))
            | inr le ↦ le
          ])),
      subst (λ (x : Sizes). Contains x.held (f.key / span)) e
          (subst (Contains (sizes_in span s.keys)) w.held
          (Contains-get_or (sizes_in span s.keys) (f.key % span) 0 w.inside)),
      w.may,
    )

pub greatest_none : (most span : ℕ) (s : KeysHeld) (free : List ℕ) (capacity : ℕ) (v : Sizes)
    (bound : ℕ)
    → IsMap most span s free capacity → seen most span s.keys ≡ v → (most + 1) * span ≤ bound
    → ((q k : ℕ) → get_or s.keys q None ≡ Some k → bound < k) → All (λ t. t ≤ 0) v.held
greatest_none most span s free capacity v bound m e b f =
    subst (λ (x : Sizes). All (λ t. t ≤ 0) x.held) e
    (All-from_get_or (λ t. t ≤ 0) (sizes_in span s.keys) 0 (λ j in_j.
    let t : ℕ = slice_index (sizes_in span s.keys) j in
    elim (cases_lt 0 t) [
      | inl lt ↦
          let h = has most span s free capacity m t j refl (omega (arith, lt)) in
          absurd
          (omega (
            arith,
            f h.at (key span t j) h.is,
            b,
            key_lt span t j most h.may h.within,
          ))
      | inr le ↦ le
    ]))
