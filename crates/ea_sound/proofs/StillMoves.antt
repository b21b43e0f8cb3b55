-- Moves of a scheduler that change no carrier: its stage, its names, its nodes or its log.
use Rattle.std.proofs.Common.{◌≡◌, ◌≢◌, ℕ, ◌≤◌, List, [], ◌∷◌, true, refl, sym, ap, ◌∙◌, subst}
use Rattle.std.proofs.Common.{arith}
use Rattle.std.proofs.lemmas.Bool.{true≢false}
use Rattle.std.specs.Prelude.{Option, Some, All, ◌*◌}
use Rattle.ea_model.specs.declared.carriers.Spot.{Spot}
use Rattle.ea_model.specs.declared.carriers.OwnCarrier.{OwnCarrier}
use Rattle.ea_model.specs.Entries.{Entry}
use Rattle.ea_model.specs.declared.operations.Op.{Op}
use Rattle.ea_model.specs.Content.{Content}
use Rattle.ea_model.specs.Instance.{Instance}
use Rattle.ea_laws.specs.Kept.{IsLaidOut}
use Rattle.ea_machine.specs.Lists.{Lists}
use Rattle.ea_machine.specs.declared.nodes.Node.{Node}
use Rattle.ea_machine.specs.declared.nodes.Node.TheVariants.{Carrier}
use Rattle.ea_machine.specs.declared.owners.OwnerWord.{OwnerWord}
use Rattle.ea_machine.specs.declared.stages.Stage.{Stage}
use Rattle.ea_machine.specs.declared.stages.Stage.TheVariants.{Begin, Routed, Collecting, Ready}
use Rattle.ea_machine.specs.declared.stages.Route.{Route}
use Rattle.ea_machine.specs.declared.stages.Route.TheVariants.{Looking, Trying, Abandoning, Sending}
use Rattle.ea_machine.specs.declared.stages.Route.TheVariants.{Clearing, Pushing}
use Rattle.ea_machine.specs.Actor.{Actor}
use Rattle.ea_machine.specs.declared.tasks.Why.{Why}
use Rattle.ea_machine.specs.declared.tasks.Why.TheVariants.{Walk}
use Rattle.ea_machine.specs.declared.tasks.Gone.{Gone}
use Rattle.ea_machine.specs.declared.tasks.Gone.TheVariants.{Open}
use Rattle.ea_machine.specs.Nodes.{block_node, named_at, name_of}
use Rattle.ea_machine.specs.declared.nodes.Named.{Named}
use Rattle.ea_machine.specs.Setup.{Setup, is_scheduler}
use Rattle.ea_machine.specs.Shared.{Shared}
use Rattle.ea_machine.specs.State.{State}
use Rattle.ea_machine.specs.Sums.{sum_over}
use Rattle.ea_machine.specs.Tasks.{later, let_go, logged}
use Rattle.ea_sound.specs.Contents.{InHand, actor_sum, hand_sum}
use Rattle.ea_sound.specs.Names.{made_in, of_content, of_hand, of_named, only}
use Rattle.ea_sound.specs.NodePlaces.{of_carrier_actor, of_carrier_hand, of_link}
use Rattle.ea_sound.specs.Ranges.{IsLaidOutAsKind}
use Rattle.ea_sound.specs.Leaves.{InOperation, InWalk}
use Rattle.ea_sound.specs.Moments.{at, with_actor}
use Rattle.ea_sound.specs.Rule.{Belongs, Kept, Standing, blocks_of, names_of, of_owner}
use Rattle.ea_sound.proofs.Alike.{Alike, allocated-with, fewer-once, kept-with, lies-with}
use Rattle.ea_sound.proofs.Hits.{stands-allocated}
use Rattle.ea_sound.proofs.KeyedWeights.{times, sum-without}
use Rattle.ea_sound.proofs.Numbered.{scheduler-seat}
use Rattle.ea_sound.proofs.RangeRows.{LieWell}
use Rattle.ea_sound.proofs.Totals.{put-here}
use Rattle.ea_model.specs.Instance.{lowered}
use Rattle.ea_model.specs.Settings.{most_count}
use Rattle.ea_machine.specs.Placements.{refills}
use Rattle.ea_laws.proofs.Orderly.{counted-IsOrderly}
use Rattle.ea_sound.proofs.Counts.{refilled-most}
use Rattle.std.proofs.Common.{◌-◌}
use Rattle.ea_sound.proofs.Counts.{lessened-most}

-- a scheduler has the same instance, the same content in its hand, and as many names and nodes
pub record Still (me : ℕ) (a b : Actor) : Type 1 where
  pub instance : b.instance ≡ a.instance
  pub hand : (f g : Content → ℕ) → hand_sum f g b.stage ≡ hand_sum f g a.stage
  pub in_hand : (B E : Content → Type 0) → InHand B E a.stage → InHand B E b.stage
  pub names : (f : ℕ → Spot → ℕ) → names_of f b ≡ names_of f a
  pub links : (u : ℕ → Node → ℕ) → of_link u b.stage ≡ of_link u a.stage
  pub nodes : (g : ℕ → ℕ → ℕ) → of_carrier_actor g me b ≡ of_carrier_actor g me a

-- contents weigh the same
pub still-sum : (me : ℕ) (a b : Actor) → Still me a b → (f g : Content → ℕ)
    → actor_sum f g b ≡ actor_sum f g a
still-sum me a b same f g = omega (
  arith,
  same.hand f g,
  ap (λ (i : Instance). sum_over g i.contents) same.instance,
  ap (λ (i : Instance). sum_over g i.singles) same.instance,
)

still-lies : (e : Setup) (me : ℕ) (a b : Actor) → is_scheduler e me ≡ true → Still me a b
    → LieWell e me a → LieWell e me b
still-lies e me a b is same h = record {
  instance = λ s. subst (Standing e me) (sym same.instance) (h.instance s);
  nobody = λ none. absurd (true≢false (sym is ∙ none));
  contents = subst (λ (i : Instance). All (Belongs e me) i.contents) (sym same.instance) h.contents;
  singles = subst (λ (i : Instance). All (Belongs e me) i.singles) (sym same.instance) h.singles;
  in_hand = same.in_hand (Belongs e me) (Belongs e me) h.in_hand;
  hand_laid = same.in_hand IsLaidOut IsLaidOutAsKind h.hand_laid;
}

still-alike : (e : Setup) (me : ℕ) (a b : Actor) → is_scheduler e me ≡ true → Still me a b
    → LieWell e me a → Alike e me a b
still-alike e me a b is same h = record {
  names = λ f. omega (arith, same.names f, still-sum me a b same (of_content f) (of_content f));
  links = same.links;
  nodes = same.nodes;
  numbers = λ j k on. still-sum me a b same (λ x. j me x.number) (λ x. k me x.number);
  numbers_off = λ j k off. omega (
    arith,
    still-sum me a b same (λ x. j me x.number) (λ x. k me x.number),
    ap (λ (i : Instance). sum_over (λ (o : OwnCarrier). k me o.number) i.own) same.instance,
  );
  owned = λ m. omega (
    arith,
    still-sum me a b same (of_owner m) (of_owner m),
    ap (λ (i : Instance). sum_over (λ (o : OwnCarrier). m me o.number o.base (512 * o.pages)) i.own)
        same.instance,
  );
  lie = still-lies e me a b is same h;
}

-- stages with the same in the hand
pub record SameHand (me : ℕ) (st t : Stage Content) : Type 1 where
  pub content : (f g : Content → ℕ) → hand_sum f g t ≡ hand_sum f g st
  pub holds : (B E : Content → Type 0) → InHand B E st → InHand B E t
  pub name : (f : ℕ → Spot → ℕ) → of_hand f t ≡ of_hand f st
  pub link : (u : ℕ → Node → ℕ) → of_link u t ≡ of_link u st
  pub node : (g : ℕ → ℕ → ℕ) → of_carrier_hand g me t ≡ of_carrier_hand g me st

pub still-turned : (me : ℕ) (st t : Stage Content) (a : Actor) → SameHand me st t
    → Still me (at st a) (at t a)
still-turned me st t a same = record {
  instance = refl;
  hand = same.content;
  in_hand = same.holds;
  names = λ f. omega (arith, same.name f);
  links = same.link;
  nodes = λ g. omega (arith, same.node g);
}

-- no name has more blocks, no operation more is left, and the operation isn't over
pub record Fewer (a b : Actor) : Type 0 where
  pub blocks : (n : ℕ) → blocks_of (only n) b ≤ blocks_of (only n) a
  pub todo : (n : ℕ) → made_in n b.todo ≤ made_in n a.todo
  pub busy : b.stage ≢ Ready

-- the operations after the first make no name more
pub todo-later : (ops : List Op) (n : ℕ) → made_in n (later ops) ≤ made_in n ops
todo-later [] n = omega arith
todo-later (o ∷ ops) n = omega arith

module _ (e : Setup) (w : State) (s : Shared) (me : ℕ) (is : is_scheduler e me ≡ true) where
  pub kept-still : (a b : Actor) → Still me a b → Kept e (with_actor w s me a)
      → Kept e (with_actor w s me b)
  kept-still a b same k =
      kept-with e w s me is a b k (still-alike e me a b is same (lies-with e w s me is a k))
      (fewer-once e w s me is a b k
      (λ n. omega (arith, still-sum me a b same (of_content (only n)) (of_content (only n)))))

  -- what a walk and an operation both keep beside, where names and operations get fewer
  pub record Keeps (P : Actor → Type 0) : Type 0 where
    pub kept : (a : Actor) → P a → Kept e (with_actor w s me a)
    pub goes : (a b : Actor) → Fewer a b → P a → Kept e (with_actor w s me b) → P b

  pub fresh-goes : (a b : Actor) → ((n : ℕ) → blocks_of (only n) b ≤ blocks_of (only n) a)
      → ((n : ℕ) → made_in n b.todo ≤ made_in n a.todo) → InWalk e w s me a
      → Kept e (with_actor w s me b) → InWalk e w s me b
  fresh-goes a b blocks todo h k = record {
    kept = k;
    fresh = λ n some. omega (
      arith,
      h.fresh n (omega (arith, some, todo n)),
      blocks n,
      allocated-with e w s me is (only n) a b,
    );
  }

  pub keeps-walk : Keeps (InWalk e w s me)
  keeps-walk = record {
    kept = λ a h. h.kept;
    goes = λ a b fewer h k. fresh-goes a b fewer.blocks fewer.todo h k;
  }

  pub keeps-operation : Keeps (InOperation e w s me)
  keeps-operation = record {
    kept = λ a h. h.kept;
    goes = λ a b fewer h k. record { kept = k; busy = fewer.busy };
  }

  -- a name is held once
  pub held-once : (a : Actor) (n : ℕ) → Kept e (with_actor w s me a) → times name_of n a.held ≤ 1
  held-once a n k = omega (
    arith,
    stands-allocated e (with_actor w s me a) me (scheduler-seat e me is) k a
        (put-here w.actors me a me refl) (only n),
    k.names.once n,
  )

  module _ (P : Actor → Type 0) (keeps : Keeps P) where
    pub goes-alike : (a b : Actor) → Alike e me a b → Fewer a b → P a → P b
    goes-alike a b alike fewer p =
        let k = keeps.kept a p in
        keeps.goes a b fewer p
        (kept-with e w s me is a b k alike (fewer-once e w s me is a b k fewer.blocks))

    pub goes-still : (a b : Actor) → Still me a b → ((n : ℕ) → made_in n b.todo ≤ made_in n a.todo)
        → b.stage ≢ Ready → P a → P b
    goes-still a b same todo busy h =
        keeps.goes a b (record {
          blocks = λ n. omega
              (arith, still-sum me a b same (of_content (only n)) (of_content (only n)));
          todo = todo;
          busy = busy;
        }) h (kept-still a b same (keeps.kept a h))

    pub turn : (st t : Stage Content) (a : Actor) → SameHand me st t → t ≢ Ready → P (at st a)
        → P (at t a)
    turn st t a same busy =
        goes-still (at st a) (at t a) (still-turned me st t a same) (λ n. omega arith) busy

    pub why-goes : (r : Route Content) (y z : Why) (g h : Gone) (a : Actor)
        → P (at (Routed r y g) a) → P (at (Routed r z h) a)
    why-goes r y z g h a = turn (Routed r y g) (Routed r z h) a (record {
      content = λ f g. refl;
      holds = λ B E q. q;
      name = λ f. refl;
      link = λ u. refl;
      node = λ g. refl;
    }) (λ q. absurd cc)

    pub send-goes : (x : Content) (y : Why) (g : Gone) (a : Actor)
        → P (at (Routed (Abandoning x) y g) a) → P (at (Routed (Sending x) y g) a)
    send-goes x y g a = turn (Routed (Abandoning x) y g) (Routed (Sending x) y g) a (record {
      content = λ f g. refl;
      holds = λ B E q. q;
      name = λ f. refl;
      link = λ u. refl;
      node = λ g. refl;
    }) (λ q. absurd cc)

    pub clear-goes : (x : Content) (y : Why) (g : Gone) (a : Actor)
        → P (at (Routed (Abandoning x) y g) a) → P (at (Routed (Clearing x) y g) a)
    clear-goes x y g a = turn (Routed (Abandoning x) y g) (Routed (Clearing x) y g) a (record {
      content = λ f g. refl;
      holds = λ B E q. q;
      name = λ f. refl;
      link = λ u. refl;
      node = λ g. refl;
    }) (λ q. absurd cc)

    pub push-goes : (h : Named) (y : Why) (g : Gone) (to : ℕ) (a : Actor)
        → P (at (Routed (Looking h) y g) a) → P (at (Routed (Pushing (block_node h) to) y g) a)
    push-goes h y g to a =
        turn (Routed (Looking h) y g) (Routed (Pushing (block_node h) to) y g) a (record {
          content = λ f g. refl;
          holds = λ B E q. q;
          name = λ f. refl;
          link = λ u. refl;
          node = λ g. refl;
        }) (λ q. absurd cc)

    pub try-goes : (h : Named) (v : OwnerWord) (y : Why) (g : Gone) (a : Actor)
        → P (at (Routed (Looking h) y g) a) → P (at (Routed (Trying h v) y g) a)
    try-goes h v y g a = turn (Routed (Looking h) y g) (Routed (Trying h v) y g) a (record {
      content = λ f g. refl;
      holds = λ B E q. q;
      name = λ f. refl;
      link = λ u. refl;
      node = λ g. refl;
    }) (λ q. absurd cc)

    pub log-goes : (x : Entry) (a : Actor) → P (at Begin a) → P (logged x a)
    log-goes x a = goes-still (at Begin a) (logged x a) (record {
      instance = refl;
      hand = λ f g. refl;
      in_hand = λ B E q. q;
      names = λ f. refl;
      links = λ u. refl;
      nodes = λ g. refl;
    }) (todo-later a.todo) (λ q. absurd cc)

    pub lists-goes : (l : Lists) (a : Actor) → a.stage ≢ Ready → P a → P (record a { lists = l })
    lists-goes l a busy = goes-still a (record a { lists = l }) (record {
      instance = refl;
      hand = λ f g. refl;
      in_hand = λ B E q. q;
      names = λ f. refl;
      links = λ u. refl;
      nodes = λ g. refl;
    }) (λ n. omega arith) busy

    -- its count changes
    counted-goes : (n : ℕ) (a : Actor) → a.stage ≢ Ready → n ≤ most_count e.settings → P a
        → P (record a { instance = record a.instance { count = n } })
    counted-goes n a busy most p =
        let lie = lies-with e w s me is a (keeps.kept a p) in
        let own = lie.instance is in
        goes-alike a (record a { instance = record a.instance { count = n } }) (record {
          names = λ f. refl;
          links = λ u. refl;
          nodes = λ g. refl;
          numbers = λ h k on. refl;
          numbers_off = λ h k off. refl;
          owned = λ m. refl;
          lie = record {
            instance = λ _. record {
              settings = own.settings;
              number = own.number;
              first = own.first;
              end = own.end;
              count = most;
              order = counted-IsOrderly n a.instance own.order;
            };
            nobody = λ none. absurd (true≢false (sym is ∙ none));
            contents = lie.contents;
            singles = lie.singles;
            in_hand = lie.in_hand;
            hand_laid = lie.hand_laid;
          };
        }) (record { blocks = λ n. omega arith; todo = λ n. omega arith; busy = busy }) p

    pub lower-goes : (n : ℕ) (a : Actor) → a.stage ≢ Ready → P a
        → P (record a { instance = lowered n a.instance })
    lower-goes n a busy p =
        let own = (lies-with e w s me is a (keeps.kept a p)).instance is in
        counted-goes (a.instance.count - n) a busy
        (lessened-most true n a.instance.count (most_count e.settings) own.count) p

    pub refill-goes : (a : Actor) → a.stage ≢ Ready → P a → P (refills a)
    refill-goes a busy p =
        let own = (lies-with e w s me is a (keeps.kept a p)).instance is in
        counted-goes (most_count a.instance.settings) a busy
        (refilled-most a.instance.settings e.settings own.settings) p

    pub hand-goes : (h : Named) (y : Why) (g : Gone) (a : Actor) → named_at h.name a.held ≡ Some h
        → P (at Begin a) → P (at (Routed (Looking h) y g) (let_go h.name a))
    hand-goes h y g a there p =
        goes-still (at Begin a) (at (Routed (Looking h) y g) (let_go h.name a)) (record {
          instance = refl;
          hand = λ f g. refl;
          in_hand = λ B E q. q;
          names = λ f. omega (
            arith,
            sum-without name_of (of_named f) h.name h a.held
                (held-once (at Begin a) h.name (keeps.kept (at Begin a) p)) there,
          );
          links = λ u. refl;
          nodes = λ g. refl;
        }) (λ n. omega arith) (λ q. absurd cc) p

    pub block-goes : (h : Named) (ns : List Node) (a : Actor)
        → P (at Begin (record a { passed = block_node h ∷ ns }))
        → P (at (Routed (Looking h) Walk Open) (record a { passed = ns }))
    block-goes h ns a =
        goes-still (at Begin (record a { passed = block_node h ∷ ns }))
        (at (Routed (Looking h) Walk Open) (record a { passed = ns })) (record {
          instance = refl;
          hand = λ f g. refl;
          in_hand = λ B E q. q;
          names = λ f. omega arith;
          links = λ u. refl;
          nodes = λ g. omega arith;
        }) (λ n. omega arith) (λ q. absurd cc)

    pub carrier-goes : (c : ℕ) (ns : List Node) (a : Actor)
        → P (at Begin (record a { passed = Carrier c ∷ ns }))
        → P (at (Collecting c) (record a { passed = ns }))
    carrier-goes c ns a =
        goes-still (at Begin (record a { passed = Carrier c ∷ ns }))
        (at (Collecting c) (record a { passed = ns })) (record {
          instance = refl;
          hand = λ f g. refl;
          in_hand = λ B E q. q;
          names = λ f. omega arith;
          links = λ u. refl;
          nodes = λ g. omega arith;
        }) (λ n. omega arith) (λ q. absurd cc)

    pub next-goes : (n : Option Node) (a : Actor) → P (at Begin a)
        → P (at Begin (record a { next = n }))
    next-goes n a = goes-still (at Begin a) (at Begin (record a { next = n })) (record {
      instance = refl;
      hand = λ f g. refl;
      in_hand = λ B E q. q;
      names = λ f. refl;
      links = λ u. refl;
      nodes = λ g. refl;
    }) (λ n. omega arith) (λ q. absurd cc)
