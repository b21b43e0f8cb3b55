-- The carriers that an instance owns, with one more, with one less and with one of fewer pages.
use Rattle.std.proofs.Common.{◌≡◌, ℕ, ◌+◌, ◌<◌, ◌≤◌, refl, false, List, [], ◌∷◌, length, get_or}
use Rattle.std.proofs.Common.{set, inl, inr, sym, ap, ◌∙◌, subst, arith}
use Rattle.std.specs.Prelude.{IfSome, Some, ◌==◌}
use Rattle.std.proofs.lemmas.Bool.{cond_both}
use Rattle.std.proofs.lemmas.List.Elements.{All-filter, All-map, All-weaker}
use Rattle.std.proofs.lemmas.List.Kept.{AllPairs-filter}
use Rattle.ea_model.specs.declared.carriers.OwnCarrier.{OwnCarrier}
use Rattle.std.specs.List.{position_or_len}
use Rattle.ea_model.specs.declared.carriers.Segment.{Segment}
use Rattle.ea_model.specs.Keyed.{has_key, IsBelow}
use Rattle.ea_model.specs.Instance.{is_used, own_at, segment_of, with_own, without_own}
use Rattle.ea_model.specs.Region.{Laid, Region, AreFree, IsTail, cut_from, with_segment}
use Rattle.ea_model.proofs.Options.{some_holds}
use Rattle.ea_model.proofs.Rising.{change, All-entered, rising-changed, rising-entered, set-changed}
use Rattle.ea_laws.specs.Kept.{own_number, HasPages}
use Rattle.ea_laws.proofs.CarrierSegments.{length-segments, own_at-IsTail, segments-shortened}
use Rattle.ea_laws.proofs.CarrierSegments.{segments-with_own, segments-without, with_pages}
use Rattle.ea_laws.proofs.Owned.{unused-All}
use Rattle.ea_laws.proofs.Segments.{IsTail_cases, Laid-end}
use Rattle.ea_instance.specs.Own.{HaveSegments}

tail_end : (at end base pages : ℕ) (ss : List Segment) → Laid at end ss → IsTail base pages ss
    → base + pages ≤ end
tail_end at end base pages [] t h = absurd (omega (arith, h.2))
tail_end at end base pages (s ∷ ss) t h =
    elim (IsTail_cases base pages s ss h) [
      | inl p ↦ omega (arith, p.to_end, Laid-end (s.base + s.pages) end ss t.2)
      | inr q ↦ tail_end (s.base + s.pages) end base pages ss t.2 q
    ]

module _ (capacity : ℕ) (own : List OwnCarrier) (region : Region)
    (h : HaveSegments capacity own region) where
  pub taken-length : length region.taken ≡ length own
  taken-length = ap length h.taken ∙ length-segments own

  pub have-with : (x : OwnCarrier) (room : ℕ) (more : List OwnCarrier) (new : Region)
      → capacity ≡ room → more ≡ with_own x own → 1 ≤ x.pages → is_used x.number own ≡ false
      → AreFree x.base x.pages region.taken
      → new ≡ record region { taken = with_segment (segment_of x) region.taken }
      → Laid new.first new.end new.taken → HaveSegments room more new
  have-with x room more new same is some unused free took laid =
      subst (λ os. HaveSegments room os new) (sym is) (record {
        room = omega (arith, h.room, same);
        rising = rising-entered own_number x own h.rising (unused-All x.number own unused);
        pages = All-entered own_number HasPages x own some h.pages;
        taken =
            ap (λ (r : Region). r.taken) took ∙ ap (with_segment (segment_of x)) h.taken
            ∙ sym (segments-with_own x own some h.pages
            (subst (AreFree x.base x.pages) h.taken free));
        laid = laid;
        low = omega (arith, h.low, ap (λ (r : Region). r.end) took);
      })

  pub have-without : (number : ℕ) (x : OwnCarrier) (room : ℕ) (left : List OwnCarrier)
      (new : Region) → capacity ≡ room → left ≡ without_own number own
      → own_at own number ≡ Some x → new ≡ record region { taken = cut_from x.base region.taken }
      → Laid new.first new.end new.taken → HaveSegments room left new
  have-without number x room left new same is there cut laid =
      subst (λ os. HaveSegments room os new) (sym is) (record {
        room = omega (arith, h.room, same);
        rising = AllPairs-filter (IsBelow own_number) _ own h.rising;
        pages = All-filter _ HasPages own h.pages;
        taken =
            ap (λ (r : Region). r.taken) cut ∙ ap (cut_from x.base) h.taken
            ∙ sym (segments-without region.first region.end number x own
            (subst (Laid region.first region.end) h.taken h.laid) h.pages h.rising there);
        laid = laid;
        low = omega (arith, h.low, ap (λ (r : Region). r.end) cut);
      })

  pub have-shortened : (number pages : ℕ) (x : OwnCarrier) (room : ℕ) (now : List OwnCarrier)
      (new : Region) → capacity ≡ room → now ≡ with_pages number pages own
      → own_at own number ≡ Some x → 1 ≤ pages → pages < x.pages
      → new ≡ record region { taken = cut_from (x.base + pages) region.taken }
      → Laid new.first new.end new.taken → HaveSegments room now new
  have-shortened number pages x room now new same is there some fewer cut laid =
      let f : OwnCarrier → OwnCarrier = λ o. record o { pages = pages } in
      let less = change own_number f number in
      subst (λ os. HaveSegments room os new) (sym is) (record {
        room = omega (arith, h.room, same);
        rising = rising-changed own_number f number (λ _. refl) own h.rising;
        pages = All-map HasPages less own
            (All-weaker HasPages (λ o. HasPages (less o))
            (λ o has. cond_both (o.number == number) (f o) o HasPages (λ _. some) (λ _. has)) own
            h.pages);
        taken =
            ap (λ (r : Region). r.taken) cut ∙ ap (cut_from (x.base + pages)) h.taken
            ∙ sym (segments-shortened region.first region.end number x own pages
            (subst (Laid region.first region.end) h.taken h.laid) h.rising there some fewer);
        laid = laid;
        low = omega (arith, h.low, ap (λ (r : Region). r.end) cut);
      })

  -- the carrier at the index that was found by the number
  pub own_there : (number i : ℕ) (seen : List OwnCarrier) (x : OwnCarrier) → seen ≡ own
      → ((d : OwnCarrier) → own_at seen number ≡ Some (get_or seen i d)) → x ≡ get_or own i x
      → own_at own number ≡ Some x
  own_there number i seen x same found is =
      subst (λ os. own_at os number ≡ Some (get_or os i x)) same (found x) ∙ ap Some (sym is)

  -- a carrier ends in the region
  pub own-end : (number : ℕ) (x : OwnCarrier) → own_at own number ≡ Some x
      → x.base + x.pages ≤ region.end
  own-end number x there = tail_end region.first region.end x.base x.pages region.taken h.laid
      (subst (IsTail x.base x.pages) (sym h.taken) (own_at-IsTail number x own there h.pages))

  -- the carrier at the index of the number has that many pages
  pub set-shortened : (number pages : ℕ) (seen : List OwnCarrier) (i : ℕ) (x : OwnCarrier)
      → seen ≡ own → i ≡ position_or_len (has_key own_number number) seen → i < length seen
      → x ≡ get_or own i x → set own i (record x { pages = pages }) ≡ with_pages number pages own
  set-shortened number pages seen i x same index within is =
      let f : OwnCarrier → OwnCarrier = λ o. record o { pages = pages } in
      let at : i ≡ position_or_len (has_key own_number number) own =
      index ∙ ap (position_or_len (has_key own_number number)) same in
      ap (λ y. set own i (f y)) is
      ∙ subst (λ j. set own j (f (get_or own j x)) ≡ with_pages number pages own) (sym at)
      (set-changed own_number f number x own h.rising
      (omega (arith, sym at, subst (λ ys. i < length ys) same within)))

-- what is known of the carriers by their list is known by the number
pub own_seen : (P : OwnCarrier → Type 0) (own now : List OwnCarrier) (number : ℕ) (x : OwnCarrier)
    → own ≡ now → own_at own number ≡ Some x → IfSome (own_at now number) P → P x
own_seen P own now number x same there h =
    some_holds (own_at now number) x P (ap (λ os. own_at os number) (sym same) ∙ there) h
