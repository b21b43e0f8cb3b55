-- In each reached state nodes, given names and owner words have room in words, and no two nodes are
-- alike.
use Rattle.std.proofs.Common.{◌≡◌, ℕ, ◌≤◌, true, refl, sym, ap, ◌∙◌, subst, arith}
use Rattle.std.specs.Prelude.{get_or}
use Rattle.std.proofs.lemmas.List.Elements.{All-weaker}
use Rattle.ea_model.specs.declared.settings.Config.{Config}
use Rattle.ea_model.specs.declared.trace.Trace.{Trace}
use Rattle.ea_model.specs.declared.units.TheConstants.{MAX_NAME, MAX_SCHEDULERS}
use Rattle.ea_model.specs.Instance.{owner_of}
use Rattle.ea_model.specs.Settings.{IsValidConfig}
use Rattle.ea_model.specs.Trace.{IsValidTrace}
use Rattle.ea_machine.specs.declared.nodes.Node.{Node}
use Rattle.ea_machine.specs.declared.nodes.Node.TheVariants.{Block, Carrier}
use Rattle.ea_machine.specs.Alike.{IsNode}
use Rattle.ea_machine.specs.Machine.{IsReached}
use Rattle.ea_machine.specs.Nodes.{block_node}
use Rattle.ea_machine.specs.Owners.{CarrierAt, Absent, Busy, Employed, Pooled, Returning, word_of}
use Rattle.ea_machine.specs.Setup.{is_scheduler, setup_of}
use Rattle.ea_machine.specs.State.{State}
use Rattle.ea_machine.specs.Words.{IsLargest}
use Rattle.ea_laws.specs.Kept.{IsLaidOut}
use Rattle.ea_sound.specs.Contents.{AtHome}
use Rattle.ea_sound.specs.Rule.{Belongs, Kept}
use Rattle.ea_sound.proofs.Asked.{reached-rule}
use Rattle.ea_sound.proofs.Calls as calls
use Rattle.ea_sound.proofs.Created.{scheduler-number}
use Rattle.ea_sound.proofs.Employers.{busy-scheduler, employed-scheduler}
use Rattle.ea_sound.proofs.LargestGaps.{laid-largest}
use Rattle.ea_sound.proofs.Numbered.{no_scheduler-beyond}
use Rattle.ea_sound.proofs.OwnEntries.{owner-scheduler, somewhere-returning}
use Rattle.ea_sound.proofs.StandingOnce.{small-names, standing-once}
use Rattle.ea_word.specs.Codes.{IsCodable, IsShown}
use Rattle.ea_word.specs.declared.owners.TheConstants.{MAX_CODED_INSTANCE}
use Rattle.ea_table.specs.Words.{IsFit, IsWorded}

-- a node of a run has room in a word
pub codable : (n g : ℕ) (node : Node) → n ≤ MAX_SCHEDULERS → g ≤ MAX_NAME → IsNode n g node
    → IsCodable node
codable n g (Block name spot) few small is = (
  is.0,
  omega (arith, is.1, small),
  is.2.0,
  omega (arith, is.2.1, few),
  is.2.2,
  is.2.3,
)
codable n g (Carrier number) few small is = (is.0, omega (arith, is.1, few))

module _ (c : Config) (t : Trace) (valid : IsValidConfig c)
    (made : IsValidTrace c.schedulers t) where
  fit : (node : Node) → IsNode c.schedulers t.greatest node → IsFit c.schedulers t.greatest node
  fit node is = (
    is,
    codable c.schedulers t.greatest node valid.schedulers.1 (small-names c.schedulers t made) is,
  )

  module _ (w : State) (reached : IsReached (setup_of c t) w) where
    kept : Kept (setup_of c t) w
    kept = (reached-rule c t valid made w reached).kept

    -- a scheduler has room in an owner word
    instance-shown : (i : ℕ) → is_scheduler (setup_of c t) i ≡ true
        → (1 ≤ i) × (i ≤ MAX_CODED_INSTANCE)
    instance-shown i is =
        let number = scheduler-number (setup_of c t) i is in
        (number.0, omega (arith, number.1, valid.schedulers.1))

    -- so have owner words
    place-shown : (number : ℕ) (p : CarrierAt) → w.shared.places number ≡ p → IsShown (word_of p)
    place-shown number Absent q = tt
    place-shown number (Employed i) q =
        instance-shown i (employed-scheduler (setup_of c t) w kept number i q)
    place-shown number (Pooled i g x) q =
        let pooled = kept.placed.pooled number i g x q in
        let instance = instance-shown i pooled.4 in
        let units : IsLargest g = subst IsLargest (sym pooled.3)
        (laid-largest x (subst (AtHome IsLaidOut) q (kept.ranges.home_laid number))) in
        (instance.0, instance.1, units.0, omega (arith, units.1))
    place-shown number (Busy i) q =
        instance-shown i (busy-scheduler (setup_of c t) w kept number i q)
    place-shown number (Returning i x) q =
        instance-shown i (subst (λ j. is_scheduler (setup_of c t) j ≡ true) (returning-owner q)
        (owner-scheduler (setup_of c t) w kept x
        (somewhere-returning (setup_of c t) w kept number i x q))) where
          returning-owner : w.shared.places number ≡ Returning i x → x.owner ≡ i
          returning-owner q =
              let belongs = subst (AtHome (λ y. Belongs (setup_of c t) y.owner y)) q
              (kept.ranges.home number) in
              let mine = (kept.returns.to_owner number i x q).0 in
              let same = (kept.placed.returning number i x q).0 in
              belongs.owner ∙ ap owner_of same ∙ sym mine

    pub is-worded : IsWorded c.schedulers t.greatest w.shared
    is-worded = record {
      queues = λ i. All-weaker (λ m. IsNode c.schedulers t.greatest m.node)
          (λ m. IsFit c.schedulers t.greatest m.node) (λ m. fit m.node) (w.shared.queues i)
          (calls.queue-nodes c t valid made w reached i);
      rests = λ i. All-weaker (λ m. IsNode c.schedulers t.greatest m.node)
          (λ m. IsFit c.schedulers t.greatest m.node) (λ m. fit m.node) (w.shared.rests i)
          (calls.rest-nodes c t valid made w reached i);
      once = standing-once (setup_of c t) w (reached-rule c t valid made w reached);
      nobody = λ i past.
          let e = setup_of c t in
          let has = (reached-rule c t valid made w reached).present.nobody i
          (no_scheduler-beyond e i (omega (arith, past))) in
          (has.queue, has.rest);
      given = λ k d within.
          let name = calls.given-range c t valid made w reached k d within in
          fit (block_node (get_or w.shared.given k d))
          (name.0, name.1, calls.given-spots c t valid made w reached k d within);
      owners = λ number. place-shown number (w.shared.places number) refl;
    }
