use Rattle.std.proofs.Common.{sym, ◌∙◌, subst}
use Rattle.fx_load.specs.Loads.{IsTold}
use Rattle.fx_top.specs.declared.run.TheConstants.{MOST_SCRIPT_BYTES}
use Rattle.fx_top.specs.Answer.{Answers, Writes}
use Rattle.fx_top.proofs.AnswerLemmas.{file_answers, file_writes}
use Rattle.fx_top.proofs.run.run_command.Goals as goal

pub returns-in-Ok-clause-answers : goal.returns-in-Ok-clause-answers
returns-in-Ok-clause-answers g c = λ moment told words mode tells is.
    c.run_script.ensures.answers moment told words mode (c.in-Ok.ensures.same ∙ tells) is
    (subst (IsTold told c.args.command.now.script MOST_SCRIPT_BYTES) (sym c.as_slice.ensures.value) (c.in-Ok.ensures.told told tells))

pub returns-in-Err-clause-answers : goal.returns-in-Err-clause-answers
returns-in-Err-clause-answers g c = λ moment told words mode tells is.
    subst (Answers moment told words (g.O.Sink.written c.args.out.now) (g.O.Sink.written c.args.out.now)) (sym c.without_script.ensures)
    (file_answers moment told words c.args.command.now (g.O.Sink.written c.args.out.now) c.in-Err.refusal is (c.in-Err.ensures.told told tells))

pub returns-in-Err-clause-writes : goal.returns-in-Err-clause-writes
returns-in-Err-clause-writes g c =
    subst (Writes (g.O.Sink.written c.args.out.now) (g.O.Sink.written c.args.out.now)) (sym c.without_script.ensures)
    (file_writes c.args.command.now.script MOST_SCRIPT_BYTES (g.F.Files.faults c.args.files.now) (g.F.Files.faults c.load.new.files) (g.O.Sink.written c.args.out.now) c.in-Err.refusal c.in-Err.ensures.causes)
