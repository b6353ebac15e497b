use Rattle.fx_top.proofs.AnswerLemmas.{memory_writes}
use Rattle.fx_top.proofs.run.run_script.Goals as goal

pub returns-in-Ok-clause-answers : goal.returns-in-Ok-clause-answers
returns-in-Ok-clause-answers g c = λ moment told words mode tells is held.
    c.run_query.ensures.answers moment told words mode tells
    (record { command = is; script = c.args.script.now; script_file = held; query = c.in-Ok.ensures })

pub returns-in-Err-Memory-clause-writes : goal.returns-in-Err-Memory-clause-writes
returns-in-Err-Memory-clause-writes g c = memory_writes (g.O.Sink.written c.args.out.now)
