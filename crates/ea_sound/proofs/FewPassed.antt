-- A walk that has a next node has passed fewer nodes than a run has names and carrier numbers.
use Rattle.std.proofs.Common.{◌≡◌, ℕ, ◌<◌, List, [], ◌∷◌, refl, sym, ap, ◌∙◌, subst, inl, inr}
use Rattle.std.proofs.Common.{arith}
use Rattle.std.specs.Prelude.{All, Some, length}
use Rattle.std.proofs.lemmas.Bool.{cases_lt}
use Rattle.std.proofs.lemmas.List.Elements.{All-cons, All-head, All-weaker}
use Rattle.ea_model.specs.declared.settings.Config.{Config}
use Rattle.ea_model.specs.declared.trace.Trace.{Trace}
use Rattle.ea_model.specs.Settings.{IsValidConfig}
use Rattle.ea_model.specs.Trace.{IsValidTrace}
use Rattle.ea_machine.specs.declared.nodes.Node.{Node}
use Rattle.ea_machine.specs.Alike.{IsNode, alike_in}
use Rattle.ea_machine.specs.Machine.{IsReached}
use Rattle.ea_machine.specs.Nodes.{Mark, first_node}
use Rattle.ea_machine.specs.Setup.{Setup, greatest_number, setup_of}
use Rattle.ea_machine.specs.State.{State}
use Rattle.ea_sound.specs.Contents.{seats}
use Rattle.ea_sound.specs.OwnWork.{PassesFew, most_queued}
use Rattle.ea_sound.specs.Present.{Rule}
use Rattle.ea_sound.proofs.Asked.{reached-rule}
use Rattle.ea_sound.proofs.Calls.{passed-nodes, rest-nodes}
use Rattle.ea_sound.proofs.FewNodes.{IsWithin, few-nodes, is-within}
use Rattle.ea_sound.proofs.Numbered.{no_scheduler-beyond}
use Rattle.ea_sound.proofs.StandingOnce.{small-names, walked-once}

module _ (c : Config) (t : Trace) (valid : IsValidConfig c) (made : IsValidTrace c.schedulers t)
  where
    abbrev e : Setup
    e = setup_of c t

    module _ (w : State) (reached : IsReached e w) (i : ℕ) where
      rule : Rule e w
      rule = reached-rule c t valid made w reached

      -- the next node is none of those
      by-rest : (ms : List Mark) → w.shared.rests i ≡ ms → (node : Node)
          → first_node ms ≡ Some node → i < seats e
          → length (w.actors i).passed < most_queued c t
      by-rest [] rest node first seat = absurd cc
      by-rest (m ∷ ms) rest node first seat = omega (
        arith,
        few-nodes t.greatest (greatest_number e) (m.node ∷ (w.actors i).passed)
            (All-weaker (IsNode c.schedulers t.greatest) (IsWithin t.greatest (greatest_number e))
            (is-within c.schedulers t.greatest) (m.node ∷ (w.actors i).passed)
            (All-cons (IsNode c.schedulers t.greatest) m.node (w.actors i).passed
            (All-head (λ x. IsNode c.schedulers t.greatest x.node) m ms
            (subst (All (λ x. IsNode c.schedulers t.greatest x.node)) rest
            (rest-nodes c t valid made w reached i)))
            (passed-nodes c t valid made w reached i seat))) (λ d. omega (
              arith,
              walked-once e w rule i seat d,
              ap (alike_in d) rest,
            )),
      )

      passes : (node : Node) → (w.actors i).next ≡ Some node
          → length (w.actors i).passed < most_queued c t
      passes node next =
          let first = sym (rule.present.walking i) ∙ next in
          elim (cases_lt i (seats e)) [
            | inl seat ↦ by-rest (w.shared.rests i) refl node first seat
            | inr past ↦
                let none = (rule.present.nobody i (no_scheduler-beyond e i past)).rest in
                absurd (let no = sym (ap first_node none) ∙ first in cc)
          ]

    pub passes-few : PassesFew c t
    passes-few = record {
      passes = passes;
      few = omega (arith, small-names c.schedulers t made, valid.schedulers.1);
    }
