use Rattle.std.proofs.Common.{◌≡◌, [], ◌∷◌, map, sym, ap, ◌∙◌}
use Rattle.std.proofs.lemmas.Result.{err_from_is_err_and}
use Rattle.std.proofs.lemmas.List.{map-append, nil_from_length}
use Rattle.std.proofs.lemmas.List.Elements.{All-head, All-nil, All-push, All-rest, All-same}
use Rattle.ea_model.specs.Trace.{IsValidTrace, plain}
use Rattle.ea_trace.specs.Language.{trace_of}
use Rattle.ea_types.specs.Language.{and_trace, traces_by}
use Rattle.ea_types.specs.Readers.{HasRead, letters_of}
use Rattle.ea_types.proofs.Traces.{all_traces, and_more, and_traces, no_traces}
use Rattle.ea_types.proofs.Traces.{refused_one}
use Rattle.ea_types.proofs.type_reader.finish_each.Goals as goal

pub loop-reader-init : goal.loop-reader-init
loop-reader-init c =
    let all = c.into_iter-reader-iterator.ensures.into_iter_gives.0 in
    record {
      left = λ n lines h. All-same (HasRead n lines) _ _ all h;
      given = λ n lines h. rw (c.new-traces.ensures, all)
          (no_traces (traces_by n lines (letters_of c.args.readers.items)));
      valid = λ n lines h. All-same (IsValidTrace n) _ _ c.new-traces.ensures
          (All-nil (IsValidTrace n));
    }

pub loop-reader-preserved : goal.loop-reader-preserved
loop-reader-preserved c =
    let i = c.loop-reader.invariant in
    let r = c.in-Some.reader in
    let t = c.in_ok-finish.field-0 in
    let ts = c.loop-reader.traces.items in
    let rest = c.next.new.self.rest.items in
    let steps = c.in-Some.ensures.steps.0 in
    record {
      left = λ n lines h. All-rest (HasRead n lines) r rest _ steps (i.left n lines h);
      given = λ n lines h.
          let own : HasRead n lines r = All-head (HasRead n lines) r rest
          (All-same (HasRead n lines) _ _ (sym steps) (i.left n lines h)) in
          i.given n lines h
          ∙ ap (λ rs. and_traces (map plain ts) (traces_by n lines (letters_of rs))) steps
          ∙ ap (λ a. and_traces (map plain ts) (and_trace a (traces_by n lines (letters_of rest))))
          (c.in_ok-finish.ensures.given n (lines r.letter) own)
          ∙ and_more (map plain ts) (plain t) (traces_by n lines (letters_of rest))
          ∙ ap (λ us. and_traces us (traces_by n lines (letters_of rest)))
          (sym (ap (map plain) c.in_ok-push.ensures.ok ∙ map-append plain ts (t ∷ [])));
      valid = λ n lines h.
          let own : HasRead n lines r = All-head (HasRead n lines) r rest
          (All-same (HasRead n lines) _ _ (sym steps) (i.left n lines h)) in
          All-same (IsValidTrace n) _ _ c.in_ok-push.ensures.ok
          (All-push (IsValidTrace n) ts t (i.valid n lines h)
          (c.in_ok-finish.ensures.valid n (lines r.letter) own));
    }

pub returns-in_err-finish-clause-given : goal.returns-in_err-finish-clause-given
returns-in_err-finish-clause-given c = λ n lines h.
    let i = c.loop-reader.invariant in
    let r = c.in-Some.reader in
    let ts = c.loop-reader.traces.items in
    let rest = c.next.new.self.rest.items in
    let steps = c.in-Some.ensures.steps.0 in
    let own : HasRead n lines r = All-head (HasRead n lines) r rest
    (All-same (HasRead n lines) _ _ (sym steps) (i.left n lines h)) in
    let p = err_from_is_err_and c.from_residual.result c.from_residual.ensures.1 in
    rw (p.1, p.2) (refused_one c.in_err-finish.field-0.0 (trace_of n (lines r.letter))
    (map plain ts) (traces_by n lines (letters_of rest)) _
    (c.in_err-finish.ensures.given n (lines r.letter) own) (i.given n lines h
    ∙ ap (λ rs. and_traces (map plain ts) (traces_by n lines (letters_of rs))) steps))

pub returns-clause-given : goal.returns-clause-given
returns-clause-given c = λ n lines h.
    let i = c.loop-reader.invariant in
    let none : c.loop-reader.reader-iterator.rest.items ≡ [] =
    nil_from_length c.loop-reader.reader-iterator.rest.items
    (sym c.loop-reader.reader-iterator.rest.ok.0 ∙ c.in-None.ensures.steps.0) in
    all_traces (map plain c.loop-reader.traces.items) _ (i.given n lines h
    ∙ ap (λ rs. and_traces (map plain c.loop-reader.traces.items)
    (traces_by n lines (letters_of rs))) none)
