use Rattle.std.proofs.Common.{◌≡◌, ℤ, subst, to_z, of_z, w64}
use Rattle.std.proofs.lemmas.Int.{to_z-of_z}
use Rattle.fx_top.specs.Answer.{Answers}
use Rattle.fx_top.proofs.AnswerLemmas.{told_answers, told_writes}
use Rattle.fx_top.proofs.AnswerOnce.{one_answer}
use Rattle.fx_top.proofs.main_call.flux_main.Goals as goal

pub returns-clause-answers : goal.returns-clause-answers
returns-clause-answers g c = λ told tells.
    let moment : to_z w64 (of_z w64 c.args.moment) ≡ c.args.moment = to_z-of_z w64 c.args.moment c.ranges.moment in
    let answers = subst (λ (m : ℤ). Answers m told c.args.words.now (g.O.Sink.written c.args.out.now) (g.O.Sink.written c.run-ended.new.out) c.run-ended.result.outcome) moment (c.run-ended.ensures.answers told tells) in
    told_answers c.args.moment told c.args.words.now (g.O.Sink.written c.args.out.now) (g.O.Sink.written c.run-ended.new.out) c.run-ended.result.outcome c.tell.result c.tell.ensures.kept answers

pub returns-clause-writes : goal.returns-clause-writes
returns-clause-writes g c =
    told_writes (g.O.Sink.written c.args.out.now) (g.O.Sink.written c.run-ended.new.out) c.run-ended.result.outcome c.tell.result c.tell.ensures.kept c.run-ended.ensures.writes

pub returns-clause-exactly : goal.returns-clause-exactly
returns-clause-exactly g c = λ told new o tells settled answer settled'.
    let old = g.O.Sink.written c.args.out.now in
    let moment : to_z w64 (of_z w64 c.args.moment) ≡ c.args.moment = to_z-of_z w64 c.args.moment c.ranges.moment in
    let answers = subst (λ (m : ℤ). Answers m told c.args.words.now old (g.O.Sink.written c.run-ended.new.out) c.run-ended.result.outcome) moment (c.run-ended.ensures.answers told tells) in
    let here = told_answers c.args.moment told c.args.words.now old (g.O.Sink.written c.run-ended.new.out) c.run-ended.result.outcome c.tell.result c.tell.ensures.kept answers in
    one_answer c.args.moment told c.args.words.now old (g.O.Sink.written c.run-ended.new.out) old new c.tell.result o settled' settled here answer
