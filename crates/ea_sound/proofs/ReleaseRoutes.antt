-- What the release of a block, and the way of its carrier, leave to a scheduler.
use Rattle.std.proofs.Common.{◌≡◌, ◌≢◌, ◌⊎◌, ℕ, ◌+◌, ◌≤◌, List, [], ◌∷◌, Bool, true, false}
use Rattle.std.proofs.Common.{refl, sym, ap, ◌∙◌, subst, inl, inr, arith}
use Rattle.std.specs.Prelude.{Option, None, Some, ◌==◌}
use Rattle.std.proofs.lemmas.Bool.{and_parts, cases_Bool, eqb-false, eqb-true, true≢false}
use Rattle.ea_model.specs.declared.carriers.BlockAt.{BlockAt}
use Rattle.ea_model.specs.declared.carriers.Kind.{Kind}
use Rattle.ea_model.specs.declared.carriers.Kind.TheVariants.{Main, Multi, Single}
use Rattle.ea_model.specs.declared.carriers.Spot.{Spot}
use Rattle.ea_model.specs.declared.operations.Op.{Op}
use Rattle.ea_model.specs.Content.{Content, can_go, is_nil, is_vacant, released}
use Rattle.ea_model.specs.Instance.{Instance, content_of, employed, releasing_at, owner_of}
use Rattle.ea_model.proofs.Options.{same-some}
use Rattle.ea_model.proofs.Rising.{item_at-key}
use Rattle.ea_laws.specs.Kept.{number_of}
use Rattle.ea_laws.proofs.Changed.{released-keeps}
use Rattle.ea_laws.proofs.Employed.{employed-changed}
use Rattle.ea_laws.proofs.Standing.{releasing-Stands}
use Rattle.ea_model.specs.Abandonment.{is_due}
use Rattle.ea_machine.specs.Actor.{Actor}
use Rattle.ea_machine.specs.declared.tasks.Why.{Why}
use Rattle.ea_machine.specs.declared.tasks.Gone.{Gone}
use Rattle.ea_machine.specs.declared.tasks.Gone.TheVariants.{Open, Here}
use Rattle.ea_model.specs.Employment.{dismissing}
use Rattle.ea_sound.specs.Names.{unplaced_by}
use Rattle.ea_machine.specs.declared.nodes.Named.{Named}
use Rattle.ea_machine.specs.Releases.{Turned, abandoned_if, after_release}
use Rattle.ea_machine.specs.Releases.{dismissed, disowned, first_gone, leaving_by}
use Rattle.ea_machine.specs.Releases.{lightened, owned_by, release_here, route_of, routed, sent_to}
use Rattle.ea_machine.specs.Setup.{Setup, is_scheduler, migration}
use Rattle.ea_machine.specs.Shared.{Shared}
use Rattle.ea_sound.specs.Blocks.{EmploysMain}
use Rattle.ea_sound.specs.Present.{OfWhy}
use Rattle.ea_sound.specs.Rule.{Standing}
use Rattle.ea_sound.proofs.Assembly.{vacant-nil}
use Rattle.ea_sound.proofs.Due.{due-multi, due-some}
use Rattle.ea_sound.proofs.EmployedWeights.{employed_sum-dismissing}
use Rattle.ea_sound.proofs.FewBlocks.{Counting, all_named, blocks_named, releasing-fewer}
use Rattle.ea_sound.proofs.KeyedWeights.{changed-missing}
use Rattle.ea_sound.proofs.MainCarriers.{dismissing-main, releasing-main}
use Rattle.ea_laws.proofs.Orderly.{changing-found, disowning-IsOrderly, dismissing-IsOrderly}
use Rattle.ea_laws.proofs.Orderly.{releasing-IsOrderly}
use Rattle.ea_sound.proofs.Staying.{AllStay, AllStayBut, dismissing-stay, here-stay, releasing-stay}
use Rattle.ea_sound.proofs.Suits.{Bare, CoreOf, TurnedGood}
use Rattle.ea_sound.proofs.Unmoved.{due-unmoved, employed-owner, leaving-Stands, off-acul}
use Rattle.ea_sound.proofs.Counts.{lessened-most}
use Rattle.ea_model.specs.Instance.{has_content}
use Rattle.ea_model.specs.declared.units.TheConstants.{RELEASED_COUNT}
use Rattle.ea_model.specs.Settings.{most_count}

not_nil-is : (bs : List BlockAt) → is_nil bs ≡ false → bs ≢ []
not_nil-is [] e = absurd cc
not_nil-is (b ∷ bs) e = λ q. cc

-- what is known of the carrier of a block before the release: a scheduler owns a singleblock
-- carrier, and what it employs where carriers don't migrate
abbrev pub IsOwn : Setup → ℕ → Spot → Instance → Type 0
IsOwn e me p i = (z : Content) → content_of (employed i) p.carrier ≡ Some z
    → (z.kind ≡ Single) ⊎ (migration e ≡ false) → owner_of z.number ≡ me

-- the carrier that is found after a release was there before
found-released : (i : Instance) (spot : Spot) (x : Content)
    → content_of (employed (releasing_at i spot)) spot.carrier ≡ Some x
    → (z : Content) × (content_of (employed i) spot.carrier ≡ Some z)
    × (x ≡ released z spot.offset)
found-released i spot x is = by (content_of (employed i) spot.carrier) refl where
  f : Content → Content
  f z = released z spot.offset

  no : None ≡ Some x → ⊥
  no q = cc

  by : (o : Option Content) → content_of (employed i) spot.carrier ≡ o
      → (z : Content) × (content_of (employed i) spot.carrier ≡ Some z)
      × (x ≡ released z spot.offset)
  by None none = absurd (no (sym none
      ∙ ap (λ cs. content_of cs spot.carrier)
      (sym (employed-changed f (released-keeps spot.offset) spot.carrier i
      ∙ changed-missing number_of f spot.carrier (employed i) none)) ∙ is))
  by (Some z) there = (
    z,
    there,
    same-some (content_of (employed (releasing_at i spot)) spot.carrier) x (f z) is
        (changing-found f (released-keeps spot.offset) spot.carrier i z there),
  )

module _ (e : Setup) (s : Shared) (me : ℕ) (home bound : Counting → ℕ) (y : Why) where
  abbrev left : Actor → List Op
  left a = unplaced_by y a.todo

  -- with the content in the hand
  abbrev HasHand : Content → Actor → Type 0
  HasHand x a = CoreOf e s me home bound (left a) (λ n. blocks_named n x) a

  abbrev IsBare : Actor → Type 0
  IsBare a = Bare e s me home bound (left a) a

  abbrev IsGood : Turned → Type 0
  IsGood t = TurnedGood e s me home bound y t

  -- an emptied carrier leaves: where carriers migrate its content is in the hand, and where they
  -- don't its owner no longer has it
  pub leaving-good : (own on : Bool) (x : Content) (g : Gone) (a : Actor)
      → (owner_of x.number == me) ≡ own → migration e ≡ on → can_go x.kind ≡ true
      → (own ≡ false → (x.kind ≡ Multi) × (on ≡ true)) → (on ≡ true → x.blocks ≡ [])
      → (on ≡ true → HasHand x a) → (on ≡ false → IsBare (disowned x.number a)) → OfWhy y a.todo
      → IsGood (leaving_by e me own on x g a)
  leaving-good false on x g a o m go multi empty hand bare why =
      let t = multi refl in (
        hand t.1,
        ((t.0, empty t.1, eqb-false (owner_of x.number) me o, m ∙ t.1), why),
      )
  leaving-good true true x g a o m go multi empty hand bare why =
      (hand refl, ((go, empty refl, eqb-true (owner_of x.number) me o, m), why))
  leaving-good true false x g a o m go multi empty hand bare why = (bare refl, why)

  -- a block is released in a carrier that is employed
  module _ (h : Named) (a : Actor) (b : IsBare a) (why : OfWhy y a.todo) where
    abbrev c : ℕ
    c = h.spot.carrier

    abbrev i : Instance
    i = a.instance

    abbrev j : Instance
    j = releasing_at a.instance h.spot

    abbrev after : Actor
    after = record a { instance = releasing_at a.instance h.spot }

    in_order : Standing e me j
    in_order = record {
      settings = b.own.settings;
      number = b.own.number;
      first = b.own.first;
      end = b.own.end;
      count = lessened-most (has_content h.spot.carrier i.contents) RELEASED_COUNT i.count
          (most_count e.settings) b.own.count;
      order = releasing-IsOrderly i h.spot b.own.order;
    }

    but : AllStayBut me c j
    but = releasing-stay me i h.spot b.core.stay

    -- where it isn't vacant then, it stays
    kept : ((x : Content) → content_of (employed j) c ≡ Some x → is_vacant x ≡ false) → IsBare after
    kept full = record {
      core = record {
        stay = here-stay me c j in_order.order but full;
        history = b.core.history;
        walking = b.core.walking;
        few = λ n. omega (arith, b.core.few n, releasing-fewer n i h.spot);
        rising = b.core.rising;
        names = b.core.names;
        stands = λ off. releasing-Stands i h.spot (b.core.stands off);
        main = releasing-main e me i b.core.main h.spot;
      };
      own = in_order;
    }

    module _ (x : Content) (there : content_of (employed j) c ≡ Some x) where
      number : x.number ≡ c
      number = item_at-key number_of c x (employed j) there

      by_number : content_of (employed j) x.number ≡ Some x
      by_number = ap (content_of (employed j)) number ∙ there

      stay-dismissed : AllStay me (dismissing j x.number)
      stay-dismissed = dismissing-stay me x.number j in_order.order
          (subst (λ n. AllStayBut me n j) (sym number) but)

      fewer : (n : Counting)
          → all_named n (dismissing j x.number) + blocks_named n x ≤ all_named n i
      fewer n = omega (
        arith,
        employed_sum-dismissing (blocks_named n) j x.number x in_order.order by_number,
        releasing-fewer n i h.spot,
      )

      -- the main carrier stays
      main : can_go x.kind ≡ true → EmploysMain e me (dismissing j x.number)
      main go = dismissing-main e me j (releasing-main e me i b.core.main h.spot) x in_order.order
          by_number go

      in_hand : can_go x.kind ≡ true → migration e ≡ true → HasHand x (dismissed x.number after)
      in_hand go on = record {
        stay = stay-dismissed;
        history = b.core.history;
        walking = b.core.walking;
        few = λ n. omega (arith, b.core.few n, fewer n);
        rising = b.core.rising;
        names = b.core.names;
        stands = λ off. absurd (true≢false (sym on ∙ off));
        main = main go;
      }

      cleared : can_go x.kind ≡ true → migration e ≡ false
          → IsBare (disowned x.number (dismissed x.number after))
      cleared go off = record {
        core = record {
          stay = stay-dismissed;
          history = b.core.history;
          walking = b.core.walking;
          few = λ n. omega (arith, b.core.few n, fewer n);
          rising = b.core.rising;
          names = b.core.names;
          stands = λ off. leaving-Stands j (releasing-Stands i h.spot (b.core.stands off))
              (off-acul e j off b.own.settings) x.number x by_number;
          main = main go;
        };
        own = record {
          settings = b.own.settings;
          number = b.own.number;
          first = b.own.first;
          end = b.own.end;
          count = in_order.count;
          order = disowning-IsOrderly (dismissing j x.number) x.number
              (dismissing-IsOrderly j x.number in_order.order);
        };
      }

      only_x : (z : Content) → content_of (employed j) c ≡ Some z → x ≡ z
      only_x z is = same-some (content_of (employed j) c) x z there is

      stays : is_vacant x ≡ false → IsBare after
      stays full = kept (λ z is. subst (λ v. is_vacant v ≡ false) (only_x z is) full)

      abandoned-good : (due : Bool) (g : Gone) → is_due e.settings j.count j.contents x ≡ due
          → is_vacant x ≡ false → IsGood (abandoned_if due x g after)
      abandoned-good true g due full =
          let multi = due-multi e.settings j.count j.contents x due in
          let some = due-some e.settings j.count j.contents x due in
          let on : migration e ≡ true = elim (cases_Bool (migration e)) [
            | inl on ↦ on
            | inr off ↦ absurd (true≢false (sym due ∙ due-unmoved e j.count j.contents x off))
          ] in
          (in_hand (ap can_go multi) on, ((multi, not_nil-is x.blocks some, on), why))
      abandoned-good false g due full = (stays full, why)

      module _ (own : (x.kind ≡ Single) ⊎ (migration e ≡ false) → owner_of x.number ≡ me) where
        -- what isn't its own is a multiblock carrier
        multi : can_go x.kind ≡ true → (owner_of x.number == me) ≡ false
            → (x.kind ≡ Multi) × (migration e ≡ true)
        multi go other = (
          by x.kind refl go,
          elim (cases_Bool (migration e)) [
            | inl on ↦ on
            | inr off ↦ absurd (not (own (inr off)))
          ],
        ) where
          not : owner_of x.number ≢ me
          not = eqb-false (owner_of x.number) me other

          by : (k : Kind) → x.kind ≡ k → can_go k ≡ true → x.kind ≡ Multi
          by Main kind go = absurd cc
          by Multi kind go = kind
          by Single kind go = absurd (not (own (inl kind)))

        lightened-good : (vacant : Bool) (g : Gone) → is_vacant x ≡ vacant
            → IsGood (lightened e me vacant x g after)
        lightened-good true g vacant =
            let go = (and_parts (can_go x.kind) (is_nil x.blocks) vacant).0 in
            leaving-good (owner_of x.number == me) (migration e) x g (dismissed x.number after)
            refl refl go (multi go) (λ on. vacant-nil x vacant) (in_hand go) (cleared go) why
        lightened-good false g full =
            abandoned-good (is_due e.settings j.count j.contents x) g refl full

    at-good : (g : Gone) (o : Option Content) → content_of (employed j) c ≡ o
        → IsOwn e me h.spot i → IsGood (after_release e me g after o)
    at-good g None is own = (kept (λ x there. absurd (no x (sym is ∙ there))), why) where
      no : (x : Content) → None ≡ Some x → ⊥
      no x q = cc
    at-good g (Some x) is own =
        let t = found-released i h.spot x is in
        lightened-good x is (λ k. by t.0 x t.2 (own t.0 t.1) k) (is_vacant x) (first_gone g Here)
        refl where
          by : (z x : Content) → x ≡ released z h.spot.offset
              → ((z.kind ≡ Single) ⊎ (migration e ≡ false) → owner_of z.number ≡ me)
              → (x.kind ≡ Single) ⊎ (migration e ≡ false) → owner_of x.number ≡ me
          by z x q own (inl k) = ap (λ (v : Content). owner_of v.number) q
              ∙ own (inl (sym (ap (λ (v : Content). v.kind) q) ∙ k))
          by z x q own (inr off) = ap (λ (v : Content). owner_of v.number) q ∙ own (inr off)

    pub here-good : (g : Gone) → IsOwn e me h.spot i → IsGood (release_here e me h g a)
    here-good g own = at-good g (content_of (employed j) c) refl own

  pub sent-good : (h : Named) (to : ℕ) (g : Gone) (a : Actor) → to ≢ me
      → (is_scheduler e to ≡ true) ⊎ ((migration e ≡ false) × (to ≡ owner_of h.spot.carrier))
      → IsBare a → OfWhy y a.todo → IsGood (sent_to h to g a)
  sent-good h to g a other seat b why = (b.core, ((other, seat), why))

  owned-good : (own : Bool) (h : Named) (a : Actor) → migration e ≡ false
      → (owner_of h.spot.carrier == me) ≡ own → IsBare a → OfWhy y a.todo
      → IsGood (owned_by e me own h a)
  owned-good true h a off o b why = here-good h a b why Open
      (λ z there single. employed-owner a.instance (b.core.stands off)
      (off-acul e a.instance off b.own.settings) h.spot.carrier z there
      ∙ b.own.number)
  owned-good false h a off o b why =
      sent-good h (owner_of h.spot.carrier) Open a (eqb-false (owner_of h.spot.carrier) me o)
      (inr (off, refl)) b why

  routed-good : (on : Bool) (h : Named) (a : Actor) → migration e ≡ on → IsBare a → OfWhy y a.todo
      → IsGood (routed e me on h a)
  routed-good true h a m b why = (b.core, (m, why))
  routed-good false h a m b why = owned-good (owner_of h.spot.carrier == me) h a m refl b why

  -- a block that has just come into the hand goes its route
  pub route-good : (h : Named) (a : Actor) → IsBare a → OfWhy y a.todo
      → IsGood (route_of e me h a)
  route-good h a b why = routed-good (migration e) h a refl b why
