-- The nodes of carriers stay those of the carriers that return.
use Rattle.std.proofs.Common.{◌≡◌, ℕ, ◌+◌, ◌<◌, [], arith}
use Rattle.ea_model.specs.Content.{Content}
use Rattle.ea_machine.specs.Actor.{Actor}
use Rattle.ea_sound.specs.Contents.{seats, slots}
use Rattle.ea_sound.specs.NodePlaces.{of_carrier_actor, of_carrier_mark}
use Rattle.ea_machine.specs.Owners.{Returning}
use Rattle.ea_model.specs.Instance.{owner_of}
use Rattle.ea_machine.specs.Setup.{Setup}
use Rattle.ea_machine.specs.Shared.{Shared}
use Rattle.ea_machine.specs.State.{State}
use Rattle.ea_machine.specs.Sums.{total_at}
use Rattle.ea_sound.specs.Moments.{with_actor}
use Rattle.ea_sound.specs.Rule.{Returns, returning_at}
use Rattle.ea_sound.proofs.MarkRows.{marks}
use Rattle.ea_sound.proofs.Totals.{total_at-put}

module _ (e : Setup) (w : State) (me : ℕ) (seat : me < seats e) (h : Returns e w) where
  abbrev pub returning_in : (ℕ → ℕ → ℕ) → Shared → ℕ
  returning_in g s = total_at (slots e) (returning_at g) s.places

  pub returns_moved : (s : Shared) (a : Actor)
      → ((g : ℕ → ℕ → ℕ) → of_carrier_actor g me a + marks e (of_carrier_mark g) s
      + returning_in g w.shared
      ≡ of_carrier_actor g me (w.actors me) + marks e (of_carrier_mark g) w.shared
      + returning_in g s)
      → ((c i : ℕ) (x : Content) → s.places c ≡ Returning i x → (i ≡ owner_of c) × (x.blocks ≡ []))
      → Returns e (with_actor w s me a)
  returns_moved s a level to = record {
    balance = λ g. omega (
      arith,
      level g,
      h.balance g,
      total_at-put (of_carrier_actor g) w.actors me a (seats e) seat,
    );
    to_owner = to;
  }
