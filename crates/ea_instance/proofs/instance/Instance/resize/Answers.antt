use Rattle.std.proofs.Common.{◌≡◌, ap, subst, sym}
use Rattle.std.specs.Prelude.{◌↔◌, IsNone, IsSome}
use Rattle.ea_model.specs.declared.reallocation.Decision.TheVariants.{Move}
use Rattle.ea_model.specs.declared.carriers.Spot.{Spot}
use Rattle.ea_model.specs.Instance.{block_in, employed}
use Rattle.ea_instance.proofs.Reallocating.{answer-begins, answer-others, IsAnswer}
use Rattle.ea_instance.proofs.instance.Instance.resize.Goals as goal
use Rattle.ea_instance.proofs.instance.Instance.resize.Goals.{After-resize_multi}
use Rattle.ea_instance.proofs.instance.Instance.resize.Goals.{After-resize_single}

pub resize_multi-requires-clause-block : goal.resize_multi-requires-clause-block
resize_multi-requires-clause-block c =
    subst (λ (s : Spot). IsSome (block_in (employed c.args.self.now) s))
    (sym (ap (λ n. record { carrier = n; offset = c.args.spot.offset }) c.in-Some.ensures.number))
    c.requires.block

-- the block of the carrier that was found is the one at the spot
answer : (c : After-resize_multi) → IsAnswer c.args.self.now c.resize_multi.new.self c.args.spot
    c.args.need c.args.name c.resize_multi.result
answer c =
    subst (λ (s : Spot). IsAnswer c.args.self.now c.resize_multi.new.self s c.args.need c.args.name
    c.resize_multi.result)
    (ap (λ n. record { carrier = n; offset = c.args.spot.offset }) c.in-Some.ensures.number)
    (record {
      moves = c.resize_multi.ensures.moves;
      size = c.resize_multi.ensures.size;
      resized = c.resize_multi.ensures.resized;
    })

pub returns-in-Some-clause-moves : goal.returns-in-Some-clause-moves
returns-in-Some-clause-moves c =
    (answer (goal.at.returns-in-Some-clause-moves c).After-resize_multi).moves

pub returns-in-Some-clause-size : goal.returns-in-Some-clause-size
returns-in-Some-clause-size c =
    (answer (goal.at.returns-in-Some-clause-size c).After-resize_multi).size

pub returns-in-Some-clause-resized : goal.returns-in-Some-clause-resized
returns-in-Some-clause-resized c =
    (answer (goal.at.returns-in-Some-clause-resized c).After-resize_multi).resized

pub returns-in-Some-clause-begins : goal.returns-in-Some-clause-begins
returns-in-Some-clause-begins c =
    answer-begins c.args.self.now c.resize_multi.new.self c.args.spot c.args.need c.args.name
    c.requires.block c.resize_multi.result
    (answer (goal.at.returns-in-Some-clause-begins c).After-resize_multi)

pub returns-in-Some-clause-others : goal.returns-in-Some-clause-others
returns-in-Some-clause-others c =
    answer-others c.args.self.now c.resize_multi.new.self c.args.spot c.args.need c.args.name
    c.requires.block c.resize_multi.result
    (answer (goal.at.returns-in-Some-clause-others c).After-resize_multi)

answer_single : (c : After-resize_single) → IsAnswer c.args.self.now c.resize_single.new.self
    c.args.spot c.args.need c.args.name c.resize_single.result
answer_single c = record {
  moves = subst (λ d. IsNone c.resize_single.result ↔ (d ≡ Move)) c.decided_single-decision.ensures
      c.resize_single.ensures.moves;
  size = c.resize_single.ensures.size;
  resized = c.resize_single.ensures.resized;
}

pub returns-clause-others : goal.returns-clause-others
returns-clause-others c =
    answer-others c.args.self.now c.resize_single.new.self c.args.spot c.args.need c.args.name
    c.requires.block c.resize_single.result
    (answer_single (goal.at.returns-clause-others c).After-resize_single)

pub returns-clause-begins : goal.returns-clause-begins
returns-clause-begins c =
    answer-begins c.args.self.now c.resize_single.new.self c.args.spot c.args.need c.args.name
    c.requires.block c.resize_single.result
    (answer_single (goal.at.returns-clause-begins c).After-resize_single)
