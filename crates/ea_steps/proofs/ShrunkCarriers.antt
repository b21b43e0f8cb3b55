-- The carriers that have fewer pages after a step: that of the operation's block alone.
use Rattle.std.proofs.Common.{◌≡◌, ◌≢◌, ◌⊎◌, ℕ, ◌+◌, ◌/◌, ◌≤◌, List, [], ◌∷◌, ◌++◌, Bool}
use Rattle.std.proofs.Common.{true, false, refl, sym, ap, ◌∙◌, subst, inl, inr, arith}
use Rattle.std.specs.Prelude.{Option, None, Some, flat_map, not, option_map, nat_lt, ◌==◌}
use Rattle.std.specs.Prelude.{◌&&◌}
use Rattle.std.specs.Option.{option_map_or}
use Rattle.std.proofs.lemmas.Bool.{and_parts, cases_Bool, cases_lt, true≢false}
use Rattle.std.proofs.lemmas.List.{append-nil}
use Rattle.ea_model.specs.declared.operations.Op.{Op}
use Rattle.ea_model.specs.declared.operations.Op.TheVariants as op
use Rattle.ea_model.specs.declared.units.TheConstants.{PAGE_UNITS}
use Rattle.ea_model.specs.Content.{Content}
use Rattle.ea_laws.specs.Kept.{number_of}
use Rattle.ea_machine.specs.declared.nodes.Named.{Named}
use Rattle.ea_machine.specs.declared.stages.Stage.TheVariants.{Ended}
use Rattle.ea_machine.specs.Lists.{times}
use Rattle.ea_machine.specs.Nodes.{named_at}
use Rattle.ea_machine.specs.Outcome.{Present}
use Rattle.ea_machine.specs.Setup.{Setup}
use Rattle.ea_machine.specs.State.{State}
use Rattle.ea_machine.specs.Sums.{one_if}
use Rattle.ea_sound.specs.Present.{Rule}
use Rattle.ea_steps.specs.Changes.{contents, is_shrunk, pages_of, same_carrier, shrunk}
use Rattle.ea_steps.specs.FoundCarriers.{carrier_there, is_made, shrunk_carriers, shrunk_if}
use Rattle.ea_steps.specs.FoundCarriers.{shrunk_of}
use Rattle.ea_steps.specs.Touched.{as_list, carriers_of, first_freed, may_shrink_in}
use Rattle.ea_steps.proofs.GoneCarriers.{IsIn}
use Rattle.ea_steps.proofs.KnownBirths.{KnowsBirths}
use Rattle.ea_steps.proofs.Rising.{Has, IsRising, rising-same}
use Rattle.ea_steps.proofs.ShownCarriers.{any-found, contents-rise, filter-has, filter-rises}
use Rattle.ea_steps.proofs.ShownCarriers.{found-has, has-filter, shown-there}
use Rattle.ea_steps.proofs.SteppedCarriers.{steps}
use Rattle.ea_steps.proofs.ToldCarriers.{StepsBy, carrier-birth, has-after}
use Rattle.ea_steps.proofs.ToldCarriers.{is-number, kept, kept_after, no-member, now, number-after}
use Rattle.ea_steps.proofs.ToldCarriers.{number-before, number-is, one-carrier, same-after}
use Rattle.ea_steps.proofs.ToldCarriers.{same-before, this, v, was}

-- an operation has one block at most
abbrev pub IsFew : List ℕ → Type 0
IsFew ns = (ns ≡ []) ⊎ ((c : ℕ) × (ns ≡ c ∷ []))

few-named : (o : Option Named) → IsFew (carriers_of (as_list o ++ []))
few-named None = inl refl
few-named (Some h) = inr (h.spot.carrier, refl)

pub few-freed : (held : List Named) (ops : List Op)
    → IsFew (carriers_of (flat_map (λ n. as_list (named_at n held)) (first_freed ops)))
few-freed held [] = inl refl
few-freed held (op.Alloc n bytes ∷ ops) = inl refl
few-freed held (op.Free n ∷ ops) = few-named (named_at n held)
few-freed held (op.Realloc n fresh bytes ∷ ops) = few-named (named_at n held)
few-freed held (op.Give n to ∷ ops) = inl refl
few-freed held (op.Take n tries ∷ ops) = inl refl
few-freed held (op.Info ∷ ops) = inl refl
few-freed held (op.Idle ∷ ops) = inl refl

-- numbers that are less are others
not-less : (a b : ℕ) → a ≡ b → nat_lt a b ≡ false
not-less a b same = grind (arith, same)

module _ (e : Setup) (w : State) (rule : Rule e w) (knows : KnowsBirths e w) (me count own : ℕ)
    (goes : (w.actors me).stage ≢ Ended) where
  abbrev t : Content → Content → Bool
  t y x = same_carrier y x && nat_lt (pages_of y) (pages_of x)

  abbrev S : List Content
  S = shrunk e (this e w rule knows me count own goes)

  abbrev A : State
  A = v e w rule knows me count own goes

  abbrev there : ℕ → Option Content
  there n = was e w rule knows me count own goes n

  abbrev then : ℕ → Option Content
  then n = now e w rule knows me count own goes n

  -- by what is found under its number before the step
  shrunk-by : (y : Content) → is_shrunk e (this e w rule knows me count own goes) y
      ≡ option_map_or (t y) (there y.number) false
  shrunk-by y = any-found y.number (t y)
      (λ x other. by x.number (y.birth == x.birth) (nat_lt (pages_of y) (pages_of x)) other)
      (contents e w) (contents-rise e w (kept e w rule knows me count own goes)) where
        by : (m : ℕ) (a b : Bool) → m ≢ y.number → (((y.number == m) && a) && b) ≡ false
        by m a b other = grind (arith, other)

  -- one that shrank was there, with the same birth and more pages
  record WasLarger (y : Content) : Type 0 where
    pub among : then y.number ≡ Some y
    pub old : Content
    pub found : there y.number ≡ Some old
    pub birth : y.birth ≡ old.birth
    pub more : nat_lt (pages_of y) (pages_of old) ≡ true

  was-larger : (y : Content) → Has y S → WasLarger y
  was-larger y has =
      let (among, passes) = has-filter (is_shrunk e (this e w rule knows me count own goes)) y
      (contents e A) has in
      by (there y.number) refl (sym (shrunk-by y) ∙ passes)
      (has-after e w rule knows me count own goes y among) where
        by : (o : Option Content) → there y.number ≡ o → option_map_or (t y) o false ≡ true
            → then y.number ≡ Some y → WasLarger y
        by None q passes among = absurd cc
        by (Some x) q passes among =
            let (same, more) = and_parts (same_carrier y x) (nat_lt (pages_of y) (pages_of x))
            passes in
            record {
              among = among;
              old = x;
              found = q;
              birth = carrier-birth y x same;
              more = more;
            }

  -- so it is the carrier of the operation's block
  abbrev ns : List ℕ
  ns = may_shrink_in e (this e w rule knows me count own goes)

  module _ (m : Option ℕ) (st : StepsBy e w rule knows me count own goes m) where
    shrunk-in : (y : Content) → WasLarger y → IsIn y.number ns
    shrunk-in y was_larger = elim (cases_lt 0 (times y.number ns)) [
      | inl some ↦ omega (arith, some)
      | inr none ↦ absurd (true≢false (sym was_larger.more
          ∙ not-less (pages_of y) (pages_of was_larger.old)
          (ap (λ u. u / PAGE_UNITS) (sym (st.sizes y.number was_larger.old y
          (λ some. omega (arith, some, none)) was_larger.found was_larger.among
          (sym was_larger.birth))))))
    ]

    -- and isn't the one that was made
    shrunk-old : (y : Content) → WasLarger y
        → is_made (this e w rule knows me count own goes) y.number ≡ false
    shrunk-old y was_larger = elim (cases_Bool
        (is_made (this e w rule knows me count own goes) y.number)) [
          | inr no_new ↦ no_new
          | inl new ↦
              let (z, found, other) = st.new y.number
              (number-is e w rule knows me count own goes m st y.number new) in
              absurd (other was_larger.old was_larger.found (sym was_larger.birth
              ∙ ap (λ (c : Content). c.birth)
              (same-after e w rule knows me count own goes y.number y z was_larger.among found)))
        ]

    module _ (c : ℕ) (one : ns ≡ c ∷ []) where
      number-one : (y : Content) → WasLarger y → y.number ≡ c
      number-one y was_larger =
          by c y.number (subst (IsIn y.number) one (shrunk-in y was_larger)) where
            by : (c n : ℕ) → 1 ≤ one_if (c == n) + 0 → n ≡ c
            by c n some = grind (arith, some)

      no-carrier : (o : Option Present) (x : Content)
          → option_map (λ (p : Present). p.content) o ≡ Some x → o ≡ None → ⊥
      no-carrier o x some none =
          let never : None ≡ Some x = sym (ap (option_map (λ (p : Present). p.content)) none)
          ∙ some in absurd cc

      a_then : (p : Present) → carrier_there e A c ≡ Some p → then c ≡ Some p.content
      a_then p q = shown-there e A (kept_after e w rule knows me count own goes) c
          ∙ ap (option_map (λ (p : Present). p.content)) q

      a_there : (p : Present) → carrier_there e w c ≡ Some p → there c ≡ Some p.content
      a_there p q = shown-there e w (kept e w rule knows me count own goes) c
          ∙ ap (option_map (λ (p : Present). p.content)) q

      abbrev new : Bool
      new = is_made (this e w rule knows me count own goes) c

      rises : IsRising number_of S
      rises = filter-rises (is_shrunk e (this e w rule knows me count own goes)) number_of
          (contents e A) (contents-rise e A (kept_after e w rule knows me count own goes))

      -- whether it is the one that has fewer pages
      by-test : (px py : Present) → carrier_there e w c ≡ Some px → carrier_there e A c ≡ Some py
          → (b : Bool) → (not new && nat_lt (pages_of py.content) (pages_of px.content)) ≡ b
          → S ≡ shrunk_if b py.content
      by-test px py p q true passes =
          let (old, more) = and_parts (not new) (nat_lt (pages_of py.content) (pages_of px.content))
          passes in
          rising-same number_of S (py.content ∷ []) rises (tt, tt)
          (λ z has.
          let l = was-larger z has in
          inl (same-after e w rule knows me count own goes c z py.content
          (subst (λ n. then n ≡ Some z) (number-one z l) l.among) (a_then py q)))
          (λ z has. elim has [
            | inr none ↦ absurd none
            | inl same ↦ subst (λ y. Has y S) (sym same)
                (filter-has (is_shrunk e (this e w rule knows me count own goes)) py.content
                (contents e A) (found-has number_of c py.content (contents e A) (a_then py q))
                (shrunk-by py.content
                ∙ ap (λ o. option_map_or (t py.content) o false)
                (ap there (number-after e w rule knows me count own goes c py.content (a_then py q))
                ∙ a_there px p)
                ∙ larger old more))
          ]) where
            larger : not new ≡ true → nat_lt (pages_of py.content) (pages_of px.content) ≡ true
                → t py.content px.content ≡ true
            larger old more =
                let (x, found, birth) = st.kept c py.content (λ q. no_new old
                (is-number e w rule knows me count own goes m st c q)) (a_then py q) in
                let same = same-before e w rule knows me count own goes c x px.content found
                (a_there px p) in
                ap (λ b. b && nat_lt (pages_of py.content) (pages_of px.content))
                (one-carrier py.content px.content
                (number-after e w rule knows me count own goes c py.content (a_then py q)
                ∙ sym (number-before e w rule knows me count own goes c px.content (a_there px p)))
                (sym birth ∙ ap (λ (y : Content). y.birth) same))
                ∙ more where
                  no_new : not new ≡ true → new ≡ true → ⊥
                  no_new a b = let never : true ≡ false = sym a ∙ ap not b in absurd cc
      by-test px py p q false fails = no-member S (λ z has.
          let l = was-larger z has in
          let number = number-one z l in
          let after_is = same-after e w rule knows me count own goes c z py.content
          (subst (λ n. then n ≡ Some z) number l.among) (a_then py q) in
          let before_is = same-before e w rule knows me count own goes c l.old px.content
          (subst (λ n. there n ≡ Some l.old) number l.found) (a_there px p) in
          true≢false (sym (both new (nat_lt (pages_of py.content) (pages_of px.content))
          (ap (is_made (this e w rule knows me count own goes)) (sym number) ∙ shrunk-old z l)
          (ap (λ y. nat_lt (pages_of y) (pages_of px.content)) (sym after_is)
          ∙ ap (λ x. nat_lt (pages_of z) (pages_of x)) (sym before_is) ∙ l.more)) ∙ fails)) where
            both : (a b : Bool) → a ≡ false → b ≡ true → (not a && b) ≡ true
            both a b p q = grind (arith, p, q)

      by-there : (ox oy : Option Present) → carrier_there e w c ≡ ox → carrier_there e A c ≡ oy
          → S ≡ shrunk_of new ox oy
      by-there (Some px) (Some py) p q = by-test px py p q
          (not new && nat_lt (pages_of py.content) (pages_of px.content)) refl
      by-there None oy p q = no-member S (λ z has.
          let l = was-larger z has in
          no-carrier (carrier_there e w c) l.old
          (sym (shown-there e w (kept e w rule knows me count own goes) c)
          ∙ subst (λ n. there n ≡ Some l.old) (number-one z l) l.found) p)
      by-there (Some px) None p q = no-member S (λ z has.
          let l = was-larger z has in
          no-carrier (carrier_there e A c) z
          (sym (shown-there e A (kept_after e w rule knows me count own goes) c)
          ∙ subst (λ n. then n ≡ Some z) (number-one z l) l.among) q)

    abbrev found_at : ℕ → List Content
    found_at n = shrunk_of (is_made (this e w rule knows me count own goes) n)
        (carrier_there e w n) (carrier_there e A n)

    shrunk-few : IsFew ns → S ≡ flat_map found_at ns
    shrunk-few (inl none) = no-member S (λ z has.
        let some = subst (IsIn z.number) none (shrunk-in z (was-larger z has)) in
        absurd (omega (arith, some)))
        ∙ ap (flat_map found_at) (sym none)
    shrunk-few (inr (c, one)) =
        by-there c one (carrier_there e w c) (carrier_there e A c) refl refl
        ∙ sym (append-nil (found_at c)) ∙ ap (flat_map found_at) (sym one)

  -- the carriers that shrank
  pub shrunk-found : S ≡ shrunk_carriers e (this e w rule knows me count own goes)
  shrunk-found =
      let (m, st) = steps e w rule knows me count own goes in
      shrunk-few m st (few-freed (w.actors me).held (w.actors me).todo)
