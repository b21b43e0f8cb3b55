-- What each row on queues finds in its word, and the words and slots that it leaves.
use Rattle.std.proofs.Common.{◌≡◌, ℕ, suc, ◌≤◌, List, [], ◌∷◌, Option, None, Some, slice_index}
use Rattle.std.proofs.Common.{set, refl, sym, ap, ◌∙◌, subst, inl, inr, arith}
use Rattle.std.specs.Prelude.{IfSome}
use mathlib.Core.Option as maybe
use Rattle.std.proofs.lemmas.Bool.{cases_Bool}
use Rattle.std.proofs.lemmas.List.Elements.{All-head, All-tail}
use Rattle.ea_model.specs.declared.carriers.Spot.{Spot}
use Rattle.ea_model.specs.declared.settings.Config.{Config}
use Rattle.ea_model.specs.declared.trace.Trace.{Trace}
use Rattle.ea_model.specs.Settings.{IsValidConfig}
use Rattle.ea_model.specs.Trace.{IsScheduler, IsValidTrace}
use Rattle.ea_model.proofs.Rising.{item_at-All}
use Rattle.ea_machine.proofs.AlikeNodes.{none-alike}
use Rattle.ea_machine.specs.declared.nodes.Named.{Named}
use Rattle.ea_machine.specs.declared.nodes.Node.{Node}
use Rattle.ea_machine.specs.declared.nodes.Node.TheVariants.{Block}
use Rattle.ea_machine.specs.Alike.{HasNoAlike, IsNode, alike_in}
use Rattle.ea_machine.specs.Guards.{Guard}
use Rattle.ea_machine.specs.Machine.{run, wants}
use Rattle.ea_machine.specs.Nodes.{Mark, block_node, first_node, spot_named, name_of}
use Rattle.ea_machine.specs.Rows.{Row, Give, Link, Push, TakeAll, TakeLink, TakeTry}
use Rattle.ea_machine.specs.Shared.{Shared, put}
use Rattle.ea_machine.specs.State.{State}
use Rattle.ea_machine.specs.Table.{effect}
use Rattle.ea_sound.proofs.Calls as calls
use Rattle.ea_sound.proofs.Asked.{named-spot}
use Rattle.ea_sound.proofs.Protocols.{protocol}
use Rattle.ea_sound.proofs.Totals.{total-none}
use Rattle.ea_sound.specs.Standing.{standing_nodes}
use Rattle.ea_word.specs.Codes.{IsCodable, code_of}
use Rattle.ea_table.specs.declared.views.View.{View}
use Rattle.ea_table.specs.Ruling.{ReadsLink, acting, actor_in, setup_in}
use Rattle.ea_table.specs.Slots.{Houses, Slot}
use Rattle.ea_table.specs.Words.{AreFit, Codes, IsFit, IsWorded}
use Rattle.ea_table.specs.Words.{LinksAre, head_at, link_at, name_at}
use Rattle.ea_table.proofs.Coding.{codes-given, codes-linked, codes-passes}
use Rattle.ea_table.proofs.Coding.{codes-pushed, codes-rests, codes-taken, codes-tried}
use Rattle.ea_table.proofs.Housing.{housed-same}
use Rattle.ea_table.proofs.Laws.{worded}
use Rattle.ea_table.proofs.Rows.{Fits, FitsWord}
use Rattle.ea_sound.proofs.Wanting.{gives, links, pushes}

none-standing : (n : ℕ) (x : Node) (s : Shared) → HasNoAlike x s → standing_nodes n x s ≡ 0
none-standing n x s none = omega (
  arith,
  total-none (alike_in x) s.queues (suc n) (λ i l. none-alike x (s.queues i) (none i).0),
  total-none (alike_in x) s.rests (suc n) (λ i l. none-alike x (s.rests i) (none i).1),
)

first-codable : (n g : ℕ) (ms : List Mark) → AreFit n g ms → IfSome (first_node ms) IsCodable
first-codable n g [] fit = tt
first-codable n g (m ∷ ms) fit = (All-head (λ (k : Mark). IsFit n g k.node) m ms fit).1

-- these rows leave carriers where they are

taken-places : (i : ℕ) (s : Shared) → (effect i TakeAll s).places ≡ s.places
unfolding effect
taken-places i s = refl

passed-places : (i : ℕ) (s : Shared) → (effect i TakeLink s).places ≡ s.places
unfolding effect
passed-places i s = refl

pushed-places : (i : ℕ) (node : Node) (to : ℕ) (s : Shared)
    → (effect i (Push node to) s).places ≡ s.places
unfolding effect
pushed-places i node to s = refl

linked-places : (i : ℕ) (node : Node) (to : ℕ) (s : Shared)
    → (effect i (Link node to) s).places ≡ s.places
unfolding effect
linked-places i node to s = refl

given-places : (i : ℕ) (x : Named) (s : Shared) → (effect i (Give x) s).places ≡ s.places
unfolding effect
given-places i x s = refl

tried-places : (i name : ℕ) (s : Shared) → (effect i (TakeTry name) s).places ≡ s.places
unfolding effect
tried-places i name s = refl

module _ (v : View) (row : Row) (wanted : wants (actor_in v) ≡ row) where
  abbrev c : Config
  c = v.config

  abbrev t : Trace
  t = v.trace

  abbrev me : ℕ
  me = (acting v).number

  module _ (L : List ℕ) (valid : IsValidConfig c) (made : IsValidTrace c.schedulers t)
      (at : (run (setup_in v) L).actors me ≡ actor_in v) where
    abbrev w : State
    w = run (setup_in v) L

    pub guard : Guard (setup_in v) me (w.actors me) w.shared row
    guard = subst (Guard (setup_in v) me (w.actors me) w.shared) (ap wants at ∙ wanted)
        (((protocol c t valid made).guarded L).guard me)

module _ (v : View) (number : IsScheduler v.config.schedulers (acting v).number)
    (xs : List (ℕ × Slot)) where
  abbrev n : ℕ
  n = v.config.schedulers

  abbrev g : ℕ
  g = v.trace.greatest

  abbrev s_of : List ℕ → Shared
  s_of L = (run (setup_in v) L).shared

  -- a row that leaves carriers where they are leaves the slots as they are
  kept : (hs : List (maybe.Option Slot)) (claim_of : ℕ → ℕ)
      → claim_of (acting v).number ≡ (acting v).claim → (s u : Shared) → Houses hs n claim_of s
      → u.places ≡ s.places → Houses hs n (put claim_of (acting v).number (acting v).claim) u
  kept hs claim_of claim s u houses same =
      subst (λ k. Houses hs n (put claim_of (acting v).number k) u) claim
      (housed-same hs n claim_of s houses (acting v).number u same)

  pub fits-taken : wants (actor_in v) ≡ TakeAll
      → FitsWord v xs TakeAll (head_at (acting v).number) (λ _. 0) (λ found. found)
  fits-taken wanted L valid made at rem claim_of claim ws codes hs houses =
      let fit = worded v.config v.trace valid made L in
      let i = (acting v).number in
      record {
        reads = (
          codes.heads i number.0 number.1,
          first-codable n g ((s_of L).queues i) (fit.queues i),
        );
        codes = codes-taken n g (s_of L) fit ws codes i number.0 number.1
            (guard v TakeAll wanted L valid made at).1;
        valid = tt;
        houses = kept hs claim_of claim (s_of L) (effect i TakeAll (s_of L)) houses
            (taken-places i (s_of L));
      }

  pub fits-linked_to : (node : Node) → IsNode n g node → (actor_in v).next ≡ Some node
      → wants (actor_in v) ≡ TakeLink
      → FitsWord v xs TakeLink (link_at n g node) (λ _. 0) (λ found. found)
  fits-linked_to node is next wanted L valid made at rem claim_of claim ws codes hs houses =
      by ((s_of L).rests (acting v).number) refl where
        i : ℕ
        i = (acting v).number

        fit : IsWorded n g (s_of L)
        fit = worded v.config v.trace valid made L

        first : first_node ((s_of L).rests i) ≡ Some node
        first = (guard v TakeLink wanted L valid made at).1
            ∙ ap (λ a. a.next) at ∙ next

        by : (ms : List Mark) → (s_of L).rests i ≡ ms
            → Fits v xs TakeLink (link_at n g node) (λ _. 0) (λ found. found) (s_of L) claim_of ws
            hs
        by [] q = let none = sym (ap first_node q) ∙ first in absurd cc
        by (m ∷ ms) q =
            let some : Some m.node ≡ Some node = sym (ap first_node q) ∙ first in
            let same : m.node ≡ node = cc in
            let is' : IsNode n g m.node = subst (IsNode n g) (sym same) is in
            let links = subst (LinksAre n g ws) q (codes.rested i) in
            let fits = subst (AreFit n g) q (fit.rests i) in
            record {
              reads = subst (λ l. ReadsLink l (slice_index ws (link_at n g node))) (sym q) (
                ap (λ x. slice_index ws (link_at n g x)) (sym same) ∙ links.0,
                first-codable n g ms (All-tail (λ (k : Mark). IsFit n g k.node) m ms fits),
              );
              codes = subst
                  (λ x. Codes n g (effect i TakeLink (s_of L)) (set ws (link_at n g x) 0)) same
                  (elim (cases_Bool m.linked) [
                    | inl passes ↦
                        codes-passes n g (s_of L) fit ws codes i m ms number.1 q passes is'
                    | inr rests ↦ codes-rests n g (s_of L) fit ws codes i m ms q rests is'
                  ]);
              valid = tt;
              houses = kept hs claim_of claim (s_of L) (effect i TakeLink (s_of L)) houses
                  (passed-places i (s_of L));
            }

  pub fits-pushed : (node : Node) (to : ℕ) → IsNode n g node → 1 ≤ to → to ≤ n
      → wants (actor_in v) ≡ Push node to
      → FitsWord v xs (Push node to) (head_at to) (λ _. code_of node) (λ found. found)
  fits-pushed node to is from most wanted L valid made at rem claim_of claim ws codes hs houses =
      let fit = worded v.config v.trace valid made L in
      let i = (acting v).number in
      let p = pushes (actor_in v) node to wanted in
      let none = calls.push-no_alike v.config v.trace valid made (run (setup_in v) L) (L, refl) i
      number node to p.0 p.1 (ap (λ a. a.stage) at ∙ p.2) in
      record {
        reads = (
          codes.heads to from most,
          first-codable n g ((s_of L).queues to) (fit.queues to),
        );
        codes = codes-pushed n g (s_of L) fit ws codes i to node from most is
            (none-standing n node (s_of L) none);
        valid = tt;
        houses = kept hs claim_of claim (s_of L) (effect i (Push node to) (s_of L)) houses
            (pushed-places i node to (s_of L));
      }

  pub fits-linked : (node : Node) (to : ℕ) → IsNode n g node → to ≤ n
      → wants (actor_in v) ≡ Link node to
      → FitsWord v xs (Link node to) (link_at n g node) (λ _. (acting v).older)
      (λ _. (acting v).older)
  fits-linked node to is most wanted L valid made at rem claim_of claim ws codes hs houses =
      let fit = worded v.config v.trace valid made L in
      let i = (acting v).number in
      let p = links (actor_in v) node to wanted in
      let r = rem node to p.0 p.1 (ap (λ a. a.stage) at ∙ p.2) in
      record {
        reads = tt;
        codes = subst
            (λ k. Codes n g (effect i (Link node to) (s_of L)) (set ws (link_at n g node) k))
            (sym r.1) (codes-linked n g (s_of L) fit ws codes i to node most is r.0 r.2);
        valid = tt;
        houses = kept hs claim_of claim (s_of L) (effect i (Link node to) (s_of L)) houses
            (linked-places i node to (s_of L));
      }

  pub fits-given : (x : Named) → 1 ≤ x.name → x.name ≤ g → wants (actor_in v) ≡ Give x
      → FitsWord v xs (Give x) (name_at n g x.name) (λ _. code_of (block_node x))
      (λ _. code_of (block_node x))
  fits-given x from to wanted L valid made at rem claim_of claim ws codes hs houses =
      let fit = worded v.config v.trace valid made L in
      let i = (acting v).number in
      let p = gives (actor_in v) x wanted in
      record {
        reads = tt;
        codes = codes-given n g (s_of L) fit ws codes i x from to
            (calls.give-free v.config v.trace valid made (run (setup_in v) L) (L, refl) i number x
            p.0 (ap (λ a. a.stage) at ∙ p.1));
        valid = tt;
        houses = kept hs claim_of claim (s_of L) (effect i (Give x) (s_of L)) houses
            (given-places i x (s_of L));
      }

  pub fits-tried : (name : ℕ) → 1 ≤ name → name ≤ g → wants (actor_in v) ≡ TakeTry name
      → FitsWord v xs (TakeTry name) (name_at n g name) (λ _. 0) (λ found. found)
  fits-tried name from to wanted L valid made at rem claim_of claim ws codes hs houses =
      let fit = worded v.config v.trace valid made L in
      let i = (acting v).number in
      record {
        reads = (codes.names name from to, spot-codable (spot_named name (s_of L).given) refl);
        codes = codes-tried n g (s_of L) fit ws codes i name from to;
        valid = tt;
        houses = kept hs claim_of claim (s_of L) (effect i (TakeTry name) (s_of L)) houses
            (tried-places i name (s_of L));
      } where
        spot-codable : (o : Option Spot) → spot_named name (s_of L).given ≡ o
            → IfSome o (λ p. IsCodable (Block name p))
        spot-codable None q = tt
        spot-codable (Some p) q =
            (item_at-All name_of (λ x. IsFit n g (block_node x)) name
            (record { name = name; spot = p }) (s_of L).given
            (worded v.config v.trace valid made L).given
            (named-spot name p (s_of L).given q)).1
