-- The map after a size was put in or taken out.
use Rattle.std.proofs.Common.{◌≡◌, ◌≢◌, ℕ, ◌+◌, ◌*◌, ◌/◌, ◌%◌, ◌<◌, ◌≤◌, ◌++◌, inl, inr, sym}
use Rattle.std.proofs.Common.{ap, ◌∙◌, subst, arith, List, [], ◌∷◌, length, set, get_or, min}
use Rattle.std.proofs.Common.{slice_index, Option, Some, None, All, Contains, ◌^◌, replicate}
use Rattle.std.proofs.lemmas.Bool.{cases_eq}
use Rattle.std.proofs.lemmas.List.{get_or-set_other, get_or-set_same, get_or-replicate, length-set}
use Rattle.std.proofs.lemmas.List.{length-replicate}
use Rattle.std.proofs.lemmas.List.Elements.{All-from_get_or, Contains-get_or}
use Rattle.std.proofs.lemmas.List.Sums.{sum_by-le, sum_by-set}
use Rattle.ea_keytree.specs.Keys.{KeysHeld}
use Rattle.ea_sizemap.specs.Held.{Sizes}
use Rattle.ea_sizemap.specs.Keyed.{key, size_said, size_at, sizes_in, some_count, IsMap}
use Rattle.ea_sizemap.specs.Places.{AreFree, held_count}
use Rattle.ea_sizemap.proofs.Keying.{Has, has, in_keys, key_div, key_lt, key_mod, key_some}
use Rattle.ea_sizemap.proofs.Keying.{none_is_not_some, said-here, said-past, same_key, says, seen}
use Rattle.ea_sizemap.proofs.Keying.{size-at, size-taken, size_at-set, sizes-long, sizes-none}
use Rattle.ea_sizemap.proofs.Keying.{sizes-set}
use Rattle.ea_sizemap.proofs.Placing.{free-put, free-take, held_count-none, held_count-put}
use Rattle.ea_sizemap.proofs.Placing.{held_count-take, place-empty, place-within}

-- how many sizes are held
some_count-set : (sizes : List ℕ) (p size : ℕ) → p < length sizes
    → some_count (set sizes p size) + min 1 (slice_index sizes p) ≡ some_count sizes + min 1 size
unfolding some_count
some_count-set sizes p size lt = sum_by-set (min 1) sizes p size 0 lt

some_count-most : (sizes : List ℕ) → some_count sizes ≤ length sizes
unfolding some_count
some_count-most sizes = omega (arith, sum_by-le (min 1) 1 sizes (λ k d lt. omega arith))

some_count-none : (n : ℕ) → some_count (replicate n 0) ≡ 0
unfolding some_count
some_count-none n =
    omega (
      arith,
      sum_by-le (min 1) 0 (replicate n 0) (λ k d lt.
          let within : k < n = omega (arith, lt, length-replicate {A = ℕ} n 0) in
          omega (arith, get_or-replicate n k 0 d within)),
    )

-- a map that holds nothing
pub new-IsMap : (most span capacity : ℕ) (s : KeysHeld) (free : List ℕ) → span < 2 ^ 32
    → most < 2 ^ 32 → s.width ≡ (most + 1) * span → s.keys ≡ [] → span ≤ s.room → free ≡ []
    → span ≤ capacity → IsMap most span s free capacity
new-IsMap most span capacity s free few small width none enough empty fits =
    subst (λ xs. IsMap most span s xs capacity) (sym empty) (record {
      width = width;
      few = few;
      small = small;
      keyed = λ q k e. absurd (let f = ap (λ ks. get_or ks q None) none in cc);
      apart = λ q r j k e f same. absurd (let g = ap (λ ks. get_or ks q None) none in cc);
      are_free = record {
        within = λ i lt. absurd (omega (arith, lt));
        empty = λ i lt. absurd (omega (arith, lt));
        once = λ i j lt less e. absurd (omega (arith, lt));
        count = omega (arith, ap held_count none, held_count-none, ap length none);
      };
      count = ap (λ ks. some_count (sizes_in span ks)) none ∙ ap some_count (sizes-none span)
          ∙ some_count-none span ∙ sym held_count-none ∙ sym (ap held_count none);
      places = omega (arith, ap length none);
      room = omega (arith, enough);
      free_room = fits;
    })

module _ {most span : ℕ} {s : KeysHeld} {free : List ℕ} {capacity : ℕ}
    (m : IsMap most span s free capacity) {v : Sizes} (e : seen most span s.keys ≡ v)
    {size position : ℕ} where
  module _ (lt : position < length v.held) (none : slice_index v.held position ≡ 0)
      (some : 1 ≤ size) (may : size ≤ v.most) where
    pub put-within : position < span
    put-within = omega (arith, lt, ap (λ (x : Sizes). length x.held) e, sizes-long span s.keys)

    pub put-may : size ≤ most
    put-may = omega (arith, may, ap (λ (x : Sizes). x.most) e)

    was-none : slice_index (sizes_in span s.keys) position ≡ 0
    was-none = ap (λ (x : Sizes). slice_index x.held position) e ∙ none

    size-none : size_at span s.keys position ≡ 0
    size-none = sym (size-at span s.keys position put-within) ∙ was-none

    in_sizes : position < length (sizes_in span s.keys)
    in_sizes = omega (arith, put-within, sizes-long span s.keys)

    one_more : some_count (set (sizes_in span s.keys) position size)
        ≡ some_count (sizes_in span s.keys) + 1
    one_more = omega (
      arith,
      some_count-set (sizes_in span s.keys) position size in_sizes,
      was-none,
      some,
    )

    pub put-few : held_count s.keys < span
    put-few = omega (
      arith,
      one_more,
      some_count-most (set (sizes_in span s.keys) position size),
      length-set (sizes_in span s.keys) position size,
      sizes-long span s.keys,
      m.count,
    )

    -- no key says anything of the position
    no_key : (q k : ℕ) → get_or s.keys q None ≡ Some k → k % span ≢ position
    no_key q k is here =
        let w = says most span s free capacity m q k is in
        absurd (omega (arith, w.some, w.size, ap (size_at span s.keys) here, size-none))

    -- at the place that was taken for it
    module _ (t : KeysHeld) (rest : List ℕ) (place n : ℕ) (f : AreFree t.keys (rest ++ place ∷ []))
        (same : (q : ℕ) → get_or t.keys q None ≡ get_or s.keys q None)
        (is : n ≡ key span size position) where
      pub put-new : All (λ o. o ≢ Some n) t.keys
      put-new = All-from_get_or (λ o. o ≢ Some n) t.keys None (λ q lt its.
          no_key q n (sym (same q) ∙ its)
          (ap (λ x. x % span) is ∙ key_mod span size position put-within))

      n_mod : n % span ≡ position
      n_mod = ap (λ x. x % span) is ∙ key_mod span size position put-within

      n_div : n / span ≡ size
      n_div = ap (λ x. x / span) is ∙ key_div span size position put-within

      abbrev keys : List (Option ℕ)
      keys = set t.keys place (Some n)

      at_place : get_or keys place None ≡ Some n
      at_place = get_or-set_same t.keys place (Some n) None (place-within t.keys rest place f)

      at_other : (q k : ℕ) → q ≢ place → get_or keys q None ≡ Some k → get_or s.keys q None ≡ Some k
      at_other q k past its = sym (same q)
          ∙ sym (get_or-set_other t.keys place q (Some n) None past) ∙ its

      module _ (alike : (x : ℕ) → sizes_in x t.keys ≡ sizes_in x s.keys) where
        was_at : (p : ℕ) → p < span → size_at span t.keys p ≡ size_at span s.keys p
        was_at p within = sym (size-at span t.keys p within)
            ∙ ap (λ xs. slice_index xs p) (alike span)
            ∙ size-at span s.keys p within

        said_none : (p : ℕ) → size_said span p (get_or t.keys place None) ≡ 0
        said_none p = ap (size_said span p) (place-empty t.keys rest place f)

        now_here : size_at span keys position ≡ size
        now_here = omega (
          arith,
          size_at-set span position t.keys place (Some n) (place-within t.keys rest place f),
          said_none position,
          was_at position put-within,
          size-none,
          said-here span position n n_mod,
          n_div,
        )

        now_past : (p : ℕ) → p ≢ position → size_at span keys p ≡ size_at span t.keys p
        now_past p past = omega (
          arith,
          size_at-set span p t.keys place (Some n) (place-within t.keys rest place f),
          said_none p,
          said-past span p n (λ here. past (sym here ∙ n_mod)),
        )

        now_sizes : sizes_in span keys ≡ set (sizes_in span s.keys) position size
        now_sizes = sizes-set span t.keys keys position size put-within now_here now_past
            ∙ ap (λ xs. set xs position size) (alike span)

        pub put-sizes : seen most span keys ≡ record v { held = set v.held position size }
        put-sizes =
            let with : Sizes → List ℕ → Sizes = λ x ss. record x { held = ss } in
            ap (with (seen most span s.keys)) now_sizes
            ∙ ap (λ (x : Sizes). with x (set x.held position size)) e

        pub put-IsMap : (u : KeysHeld) (room : ℕ) → u ≡ record t { keys = keys }
            → t.width ≡ s.width → length t.keys + t.room ≡ length s.keys + s.room
            → held_count t.keys ≡ held_count s.keys
            → ((x : ℕ) → length s.keys ≤ x → held_count s.keys < x → length t.keys ≤ x)
            → room ≡ capacity → IsMap most span u rest room
        put-IsMap u room ue width rooms count few fits =
            subst (λ x. IsMap most span x rest room) (sym ue) (record {
              width = width ∙ m.width;
              few = m.few;
              small = m.small;
              keyed = λ q k its. elim (cases_eq q place) [
                | inl here ↦
                    let k_is : k ≡ n = same_key (get_or keys q None) k n its
                    (ap (λ x. get_or keys x None) here ∙ at_place) in (
                      omega (arith, k_is, is, key_some span size position some),
                      omega (arith, k_is, is, key_lt span size position most put-may put-within),
                    )
                | inr past ↦ m.keyed q k (at_other q k past its)
              ];
              apart = λ q r j k a b both. elim (cases_eq q place) [
                | inl qp ↦ elim (cases_eq r place) [
                  | inl rp ↦ qp ∙ sym rp
                  | inr rn ↦
                      let j_is : j ≡ n = same_key (get_or keys q None) j n a
                      (ap (λ x. get_or keys x None) qp ∙ at_place) in
                      absurd (no_key r k (at_other r k rn b)
                      (sym both ∙ ap (λ x. x % span) j_is ∙ n_mod))
                ]
                | inr qn ↦ elim (cases_eq r place) [
                  | inl rp ↦
                      let k_is : k ≡ n = same_key (get_or keys r None) k n b
                      (ap (λ x. get_or keys x None) rp ∙ at_place) in
                      absurd (no_key q j (at_other q j qn a)
                      (both ∙ ap (λ x. x % span) k_is ∙ n_mod))
                  | inr rn ↦ m.apart q r j k (at_other q j qn a) (at_other r k rn b) both
                ]
              ];
              are_free = free-put t.keys rest place f n;
              count = ap some_count now_sizes ∙ one_more
                  ∙ omega (
                    arith,
                    m.count,
                    count,
                    held_count-put t.keys place n (place-within t.keys rest place f)
                        (place-empty t.keys rest place f),
                  );
              places = omega (
                arith,
                few span m.places put-few,
                length-set t.keys place (Some n),
              );
              room = omega (arith, m.room, rooms, length-set t.keys place (Some n));
              free_room = omega (arith, m.free_room, fits);
            })

  pub take-held : 1 ≤ size → slice_index v.held position ≡ size
      → Has most span s free capacity m size position
  take-held some held = has most span s free capacity m size position
      (ap (λ (x : Sizes). slice_index x.held position) e ∙ held) some

  module _ (h : Has most span s free capacity m size position) {n : ℕ}
      (is : n ≡ key span size position) where
    pub take-contains : Contains s.keys (Some n)
    take-contains =
        let its = h.is ∙ ap Some (sym is) in
        subst (Contains s.keys) its
        (Contains-get_or s.keys h.at None (in_keys s.keys h.at n its))

    -- from its place
    module _ (place : ℕ) (its : get_or s.keys place None ≡ Some n) where
      abbrev left : List (Option ℕ)
      left = set s.keys place None

      in_place : place < length s.keys
      in_place = in_keys s.keys place n its

      own : n % span ≡ position
      own = ap (λ x. x % span) is ∙ key_mod span size position h.within

      left_here : size_at span left position ≡ 0
      left_here = subst (λ p. size_at span left p ≡ 0) own
          (size-taken most span s free capacity m place n its)

      left_past : (p : ℕ) → p ≢ position → size_at span left p ≡ size_at span s.keys p
      left_past p past = omega (
        arith,
        size_at-set span p s.keys place None in_place,
        ap (size_said span p) its,
        said-past span p n (λ here. past (sym here ∙ own)),
      )

      left_sizes : sizes_in span left ≡ set (sizes_in span s.keys) position 0
      left_sizes = sizes-set span s.keys left position 0 h.within left_here left_past

      pub take-sizes : seen most span left ≡ record v { held = set v.held position 0 }
      take-sizes =
          let with : Sizes → List ℕ → Sizes = λ x ss. record x { held = ss } in
          ap (with (seen most span s.keys)) left_sizes
          ∙ ap (λ (x : Sizes). with x (set x.held position 0)) e

      one_less : some_count (sizes_in span left) + 1 ≡ some_count (sizes_in span s.keys)
      one_less =
          let w = says most span s free capacity m place n its in
          omega (
            arith,
            ap some_count left_sizes,
            some_count-set (sizes_in span s.keys) position 0
                (omega (arith, h.within, sizes-long span s.keys)),
            ap (slice_index (sizes_in span s.keys)) own,
            w.held,
            w.some,
          )

      at_left : (q k : ℕ) → get_or left q None ≡ Some k → get_or s.keys q None ≡ Some k
      at_left q k there = elim (cases_eq q place) [
        | inl here ↦ absurd (none_is_not_some (get_or left q None) k
            (ap (λ x. get_or left x None) here ∙ get_or-set_same s.keys place None None in_place)
            there)
        | inr past ↦ sym (get_or-set_other s.keys place q None None past) ∙ there
      ]

      fewer : held_count left + 1 ≡ held_count s.keys
      fewer = held_count-take s.keys place n in_place its

      pub take-room : length free < capacity
      take-room = omega (arith, fewer, m.are_free.count, m.places, m.free_room)

      pub take-IsMap : (u : KeysHeld) (now : List ℕ) (room : ℕ)
          → u ≡ record s { keys = left } → now ≡ free ++ place ∷ [] → room ≡ capacity
          → IsMap most span u now room
      take-IsMap u now room ue ne fits =
          subst (λ x. IsMap most span x now room) (sym ue)
          (subst (λ xs. IsMap most span (record s { keys = left }) xs room) (sym ne) (record {
            width = m.width;
            few = m.few;
            small = m.small;
            keyed = λ q k there. m.keyed q k (at_left q k there);
            apart = λ q r j k a b. m.apart q r j k (at_left q j a) (at_left r k b);
            are_free = free-take s.keys free m.are_free place n in_place its;
            count = omega (arith, one_less, fewer, m.count);
            places = omega (arith, m.places, length-set s.keys place None);
            room = omega (arith, m.room, length-set s.keys place None);
            free_room = omega (arith, m.free_room, fits);
          }))
