use Rattle.std.proofs.Common.{◌≡◌, ℤ, sym, subst, to_z, of_z, w64}
use Rattle.std.proofs.lemmas.Int.{to_z-of_z}
use Rattle.fx_top.specs.Answer.{Writes}
use Rattle.fx_top.specs.Command.{mode_of}
use Rattle.fx_top.proofs.AnswerLemmas.{memory_writes}
use Rattle.fx_top.proofs.run.run.Goals as goal

pub returns-in-Err-clause-writes : goal.returns-in-Err-clause-writes
returns-in-Err-clause-writes g c =
    subst (Writes (g.O.Sink.written c.args.out.now) (g.O.Sink.written c.args.out.now)) (sym c.without_script.ensures) (memory_writes (g.O.Sink.written c.args.out.now))

pub returns-in-Ok-Some-clause-answers : goal.returns-in-Ok-Some-clause-answers
returns-in-Ok-Some-clause-answers g c = λ told tells.
    let moment : to_z w64 (of_z w64 c.args.moment) ≡ c.args.moment = to_z-of_z w64 c.args.moment c.ranges.moment in
    let mode = subst (λ (m : ℤ). c.mode.result ≡ mode_of m c.in-Ok-Some.command) moment c.mode.ensures.value in
    c.run_command.ensures.answers c.args.moment told c.args.words.now mode tells (rw c.in-Ok-Some.field-0-is at c.in-Ok-Some.ensures)
