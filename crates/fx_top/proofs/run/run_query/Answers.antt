use Rattle.std.proofs.Common.{[], subst}
use Rattle.fx_top.specs.Answer.{buckets_of}
use Rattle.fx_top.specs.Stage.{StopAnswers}
use Rattle.fx_top.proofs.AnswerLemmas.{data_causes, data_names, data_writes, loaded_answers, memory_writes, stop_causes, stop_names, stop_writes, stopped_answers}
use Rattle.fx_top.proofs.StoreLemmas.{new_is_ready}
use Rattle.fx_top.proofs.run.run_query.Goals as goal

pub returns-in_default-clause-writes : goal.returns-in_default-clause-writes
returns-in_default-clause-writes g c = memory_writes (g.O.Sink.written c.args.out.now)

pub load_files-requires-clause-ready : goal.load_files-requires-clause-ready
load_files-requires-clause-ready g c = new_is_ready c.as_slice-loads.result.now c.in-Ok.store c.in-Ok.ensures

pub returns-in-Ok-load_files-clause-answers : goal.returns-in-Ok-load_files-clause-answers
returns-in-Ok-load_files-clause-answers g c = λ moment told words mode tells asks.
    let loads = c.as_slice-loads.result.now in
    loaded_answers moment c.args.mode told words c.args.command.now c.args.query.now loads c.load_files.new.store (g.O.Sink.written c.args.out.now) (g.O.Sink.written c.yield_query.new.out) c.yield_query.result c.as_slice-loads.ensures mode asks
    (c.in-Ok-load_files.ensures.told told (buckets_of loads) [] tells c.in-Ok.ensures) c.yield_query.ensures.ends

pub returns-in-Ok-load_files-clause-causes : goal.returns-in-Ok-load_files-clause-causes
returns-in-Ok-load_files-clause-causes g c =
    let kept = c.in-Ok-load_files.ensures.ready in
    data_causes c.args.query.now kept.buckets kept.stored (g.O.Sink.written c.args.out.now) (g.O.Sink.written c.yield_query.new.out) (g.F.Files.faults c.args.files.now) (g.F.Files.faults c.load_files.new.files) (g.O.Sink.faults c.args.out.now) (g.O.Sink.faults c.yield_query.new.out) c.yield_query.result
    (c.yield_query.ensures.ends kept.buckets kept.stored kept.stands) c.in-Ok-load_files.ensures.causes c.yield_query.ensures.causes

pub returns-in-Ok-load_files-clause-writes : goal.returns-in-Ok-load_files-clause-writes
returns-in-Ok-load_files-clause-writes g c =
    let kept = c.in-Ok-load_files.ensures.ready in
    data_writes c.args.query.now kept.buckets kept.stored (g.O.Sink.written c.args.out.now) (g.O.Sink.written c.yield_query.new.out) c.yield_query.result (c.yield_query.ensures.ends kept.buckets kept.stored kept.stands)

pub returns-in-Ok-load_files-clause-names : goal.returns-in-Ok-load_files-clause-names
returns-in-Ok-load_files-clause-names g c = λ words is.
    let kept = c.in-Ok-load_files.ensures.ready in
    data_names c.args.query.now kept.buckets kept.stored (g.O.Sink.written c.args.out.now) (g.O.Sink.written c.yield_query.new.out) words c.yield_query.result (c.yield_query.ensures.ends kept.buckets kept.stored kept.stands)

pub returns-clause-answers : goal.returns-clause-answers
returns-clause-answers g c = λ moment told words mode tells asks.
    let loads = c.as_slice-loads.result.now in
    stopped_answers moment c.args.mode told words c.args.command.now c.args.query.now loads c.in-Err.stop (g.O.Sink.written c.args.out.now) c.stop_outcome.result c.as_slice-loads.ensures mode asks
    (c.in-Err.ensures.told told (buckets_of loads) [] tells c.in-Ok.ensures) c.stop_outcome.ensures

pub returns-clause-causes : goal.returns-clause-causes
returns-clause-causes g c =
    stop_causes c.in-Err.stop c.as_slice-loads.result.now (g.F.Files.faults c.args.files.now) (g.F.Files.faults c.load_files.new.files) (g.O.Sink.faults c.args.out.now) c.stop_outcome.result c.in-Err.ensures.causes.0 c.stop_outcome.ensures

pub returns-clause-writes : goal.returns-clause-writes
returns-clause-writes g c = stop_writes c.in-Err.stop c.as_slice-loads.result.now (g.O.Sink.written c.args.out.now) c.stop_outcome.result c.stop_outcome.ensures

pub returns-clause-names : goal.returns-clause-names
returns-clause-names g c = λ words is.
    stop_names c.in-Err.stop words c.args.command.now c.stop_outcome.result is (subst (λ ls. StopAnswers c.in-Err.stop ls c.stop_outcome.result) c.as_slice-loads.ensures c.stop_outcome.ensures)
