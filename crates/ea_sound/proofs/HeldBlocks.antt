-- Names that a scheduler holds, with no content in its hand, in a state or in the middle of a step:
-- where its instance employs the carrier of one, the block lies there; and a name that no block has
-- isn't held. So it is after a walk, of the names that the operations left make.
use Rattle.std.proofs.Common.{◌≡◌, ℕ, ◌<◌, true, List, ◌∷◌, refl, sym, ap, ◌∙◌, subst, arith}
use Rattle.std.specs.Prelude.{Option, None, Some, IsSome, ◌==◌}
use Rattle.std.specs.Option.{option_and_then}
use Rattle.ea_model.specs.declared.operations.Op.{Op}
use Rattle.ea_model.specs.declared.operations.Op.TheVariants as op
use Rattle.ea_model.specs.Content.{Content, block_at}
use Rattle.ea_model.specs.Instance.{block_in, content_of, employed, has_content}
use Rattle.ea_model.proofs.Options.{some_value}
use Rattle.ea_model.proofs.Rising.{item_at-key}
use Rattle.ea_machine.specs.declared.nodes.Named.{Named}
use Rattle.ea_machine.specs.declared.stages.Stage.TheVariants.{Begin}
use Rattle.ea_machine.specs.Actor.{Actor}
use Rattle.ea_machine.specs.Nodes.{named_at, name_of}
use Rattle.ea_machine.specs.Setup.{Setup, is_scheduler}
use Rattle.ea_machine.specs.Shared.{Shared}
use Rattle.ea_machine.specs.State.{State}
use Rattle.ea_machine.specs.Sums.{one_if}
use Rattle.ea_sound.specs.Contents.{actor_sum, hand_sum, seats}
use Rattle.ea_sound.specs.Leaves.{InWalk}
use Rattle.ea_sound.specs.Moments.{at, with_actor}
use Rattle.ea_sound.specs.Names.{allocated, made_in, of_named, only}
use Rattle.ea_sound.specs.Places.{has_number, none}
use Rattle.ea_sound.specs.Rule.{Kept}
use Rattle.ea_sound.proofs.Employers.{employed-here, found-counts}
use Rattle.ea_sound.proofs.Hits.{held-stands, hit, stands-allocated}
use Rattle.ea_sound.proofs.KeyedWeights.{sum-item}
use Rattle.ea_sound.proofs.Numbered.{scheduler-seat}
use Rattle.ea_sound.proofs.Totals.{put-here}
use Rattle.ea_sound.proofs.Weights.{one-itself}

module _ (e : Setup) (u : State) (me : ℕ) (seat : me < seats e) (k : Kept e u) (a : Actor)
    (is : u.actors me ≡ a) where
  -- the block of a held name lies at its spot
  pub held-block : ((f g : Content → ℕ) → hand_sum f g a.stage ≡ 0) → (n : ℕ) (x : Named)
      → named_at n a.held ≡ Some x → has_content x.spot.carrier (employed a.instance) ≡ true
      → IsSome (block_in (employed a.instance) x.spot)
  held-block bare n x held has =
      let number = x.spot.carrier in
      let (y, there) = some_value (content_of (employed a.instance) number) has in
      let here = employed-here e u k me number (omega (
        arith,
        found-counts number y a there,
        ap (actor_sum none (has_number number)) is,
      )) in
      let (z, found, (b, block, named)) = hit e u me seat k a is x.name x.spot here
      (held-stands n x a held) (bare _ _) in
      subst IsSome (sym (ap (option_and_then (λ (d : Content). block_at d.blocks x.spot.offset))
      found ∙ block)) refl

  pub not_held : (n : ℕ) → allocated e (only n) u ≡ 0 → named_at n a.held ≡ None
  not_held n nowhere = by (named_at n a.held) refl where
    by : (o : Option Named) → named_at n a.held ≡ o → o ≡ None
    by None held = refl
    by (Some x) held = absurd (omega (
      arith,
      nowhere,
      stands-allocated e u me seat k a is (only n),
      sum-item name_of (of_named (only n)) n x a.held held,
      ap (λ m. one_if (m == n)) (item_at-key name_of n x a.held held),
      one-itself n,
    ))

-- after a walk
module _ (e : Setup) (v : State) (s : Shared) (me : ℕ) (is : is_scheduler e me ≡ true) (a : Actor)
    (walks : InWalk e v s me (at Begin a)) where
  pub walk-block : (n : ℕ) (x : Named) → named_at n a.held ≡ Some x
      → has_content x.spot.carrier (employed a.instance) ≡ true
      → IsSome (block_in (employed a.instance) x.spot)
  walk-block = held-block e (with_actor v s me (at Begin a)) me (scheduler-seat e me is) walks.kept
      (at Begin a) (put-here v.actors me (at Begin a) me refl) (λ f g. refl)

  walk-not_held : (n : ℕ) → 0 < made_in n a.todo → named_at n a.held ≡ None
  walk-not_held n some = not_held e (with_actor v s me (at Begin a)) me (scheduler-seat e me is)
      walks.kept (at Begin a) (put-here v.actors me (at Begin a) me refl) n (walks.fresh n some)

  pub walk-alloc : (name bytes : ℕ) (ops : List Op) → a.todo ≡ op.Alloc name bytes ∷ ops
      → named_at name a.held ≡ None
  walk-alloc name bytes ops first =
      walk-not_held name (omega (arith, ap (made_in name) first, one-itself name))

  pub walk-realloc : (old fresh bytes : ℕ) (ops : List Op)
      → a.todo ≡ op.Realloc old fresh bytes ∷ ops → named_at fresh a.held ≡ None
  walk-realloc old fresh bytes ops first =
      walk-not_held fresh (omega (arith, ap (made_in fresh) first, one-itself fresh))
