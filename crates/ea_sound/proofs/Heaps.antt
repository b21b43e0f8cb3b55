-- The live names and their units are a heap.
use Rattle.std.proofs.Common.{ℕ, ◌<◌, List, [], ◌∷◌, ◌++◌, refl, sym, ap, subst}
use Rattle.std.proofs.Common.{arith, inl, inr}
use Rattle.std.proofs.lemmas.Bool.{cases_lt}
use Rattle.ea_model.specs.declared.carriers.Extent.{Extent}
use Rattle.ea_machine.specs.Machine.{run}
use Rattle.ea_machine.specs.Setup.{Setup}
use Rattle.ea_machine.specs.State.{State}
use Rattle.ea_sound.specs.Contents.{seats}
use Rattle.ea_sound.specs.Heap.{HasUnits, IsHeap, IsLive}
use Rattle.ea_sound.specs.Names.{only}
use Rattle.ea_sound.specs.Over.{LiesOver}
use Rattle.ea_sound.specs.Present.{Rule}
use Rattle.ea_sound.specs.Released.{blocks_named}
use Rattle.ea_sound.proofs.Hits.{stands-allocated}
use Rattle.ea_sound.proofs.LiveNames.{live-after, live-before}
use Rattle.ea_sound.proofs.Numbered.{no_scheduler-beyond}
use Rattle.ea_sound.proofs.OverUnits.{keeps-units, lie-apart}
use Rattle.ea_sound.proofs.PlacedNames.{among-counts, counted}
use Rattle.ea_sound.proofs.Somewhere.{lies-somewhere}

-- a live name has a block
module _ (e : Setup) (w : State) (rule : Rule e w) (n : ℕ) where
  live-block : IsLive n w → 0 < blocks_named e n w
  live-block (inr given) =
      omega (arith, among-counts n w.shared.given given, rule.kept.names.balance (only n))
  live-block (inl held) =
      let some = among-counts n (w.actors held.0).held held.1 in
      elim (cases_lt held.0 (seats e)) [
        | inl seat ↦ omega (
          arith,
          some,
          stands-allocated e w held.0 seat rule.kept (w.actors held.0) refl (only n),
        )
        | inr past ↦ absurd (omega (
          arith,
          some,
          ap (counted n)
              (rule.present.nobody held.0 (no_scheduler-beyond e held.0 past)).held,
        ))
      ]

  lies : IsLive n w → (r : Extent) × LiesOver e n r w
  lies live = lies-somewhere e w n (live-block live)

pub is-heap : (e : Setup) → ((L : List ℕ) → Rule e (run e L)) → IsHeap e
is-heap e rules = record {
  some = λ L n live.
      let at = lies e (run e L) (rules L) n live in (at.0, (live, at.1));
  one = λ L n r q has also. (lie-apart e (run e L) (rules L).kept).one n r q has.1 also.1;
  apart = λ L n m r q differ has also.
      (lie-apart e (run e L) (rules L).kept).apart n m r q differ has.1 also.1;
  others = λ L s n r not. (
    (λ has. kept L (s ∷ []) n r has (live-after e rules L s n not has.0)),
    λ has.
        let live = live-before e rules L s n not has.0 in
        let at = lies e (run e L) (rules L) n live in (
          live,
          subst (λ q. LiesOver e n q (run e L))
              (sym (keeps-units e rules n at.0 r L (s ∷ []) at.1 has.1)) at.1,
        ),
  );
  keeps = kept;
} where
  kept : (L M : List ℕ) (n : ℕ) (r : Extent) → HasUnits e n r (run e L)
      → IsLive n (run e (L ++ M)) → HasUnits e n r (run e (L ++ M))
  kept L M n r has live =
      let at = lies e (run e (L ++ M)) (rules (L ++ M)) n live in (
        live,
        subst (λ q. LiesOver e n q (run e (L ++ M)))
            (keeps-units e rules n r at.0 L M has.1 at.1) at.1,
      )
