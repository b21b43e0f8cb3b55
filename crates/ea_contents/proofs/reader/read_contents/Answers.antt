use Rattle.std.proofs.Common.{◌≡◌, [], Ok, map}
use Rattle.ea_model.specs.Trace.{plain}
use Rattle.ea_trace.specs.Between.{earlier_of}
use Rattle.ea_trace.specs.Language.{WordLines, lines_of, trace_of}
use Rattle.ea_contents.specs.Language.{blanked}
use Rattle.ea_contents.specs.Reading.{Reads}
use Rattle.ea_contents.proofs.Taking.{all-taken, reads-end}
use Rattle.ea_contents.proofs.reader.read_contents.Goals as goal

pub returns-clause-given : goal.returns-clause-given
returns-clause-given c =
    let n = c.args.schedulers in
    let all : WordLines = lines_of c.args.bytes.now in
    let trace = c.loop-rest.trace in
    let a = c.loop-rest.accesses in
    let t = plain c.in_ok-finish.field-0 in
    let r : Reads n all [] trace a = reads-end n all trace a c.loop-rest.rest c.in_default.is
    c.loop-rest.invariant.reads in
    let ok : trace_of n (map blanked all) ≡ Ok t = all-taken n all trace a t r
    (c.in_ok-finish.ensures.given n r.taken r.has) in
    c.finish-2.ensures.given n all (earlier_of r.taken) ok (r.known t ok)

pub returns-clause-sections : goal.returns-clause-sections
returns-clause-sections c =
    let n = c.args.schedulers in
    let all : WordLines = lines_of c.args.bytes.now in
    let trace = c.loop-rest.trace in
    let a = c.loop-rest.accesses in
    let t = plain c.in_ok-finish.field-0 in
    let r : Reads n all [] trace a = reads-end n all trace a c.loop-rest.rest c.in_default.is
    c.loop-rest.invariant.reads in
    let ok : trace_of n (map blanked all) ≡ Ok t = all-taken n all trace a t r
    (c.in_ok-finish.ensures.given n r.taken r.has) in
    c.finish-2.ensures.sections n all (earlier_of r.taken) (r.known t ok)

pub returns-clause-rising : goal.returns-clause-rising
returns-clause-rising c =
    let n = c.args.schedulers in
    let all : WordLines = lines_of c.args.bytes.now in
    let trace = c.loop-rest.trace in
    let a = c.loop-rest.accesses in
    let t = plain c.in_ok-finish.field-0 in
    let r : Reads n all [] trace a = reads-end n all trace a c.loop-rest.rest c.in_default.is
    c.loop-rest.invariant.reads in
    let ok : trace_of n (map blanked all) ≡ Ok t = all-taken n all trace a t r
    (c.in_ok-finish.ensures.given n r.taken r.has) in
    c.finish-2.ensures.rising n all (earlier_of r.taken) (r.known t ok)
