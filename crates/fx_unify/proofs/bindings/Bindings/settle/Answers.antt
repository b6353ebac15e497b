use Rattle.std.proofs.Common.{Ok, Err}
use Rattle.fx_unify.proofs.AskLaws.{settled, has_least, judged_clash, run_clash, still_below}
use Rattle.fx_unify.proofs.JudgeLaws.{judged_over}
use Rattle.fx_unify.proofs.bindings.Bindings.settle.Goals as goal

pub invariant_of-result : goal.invariant_of-result
invariant_of-result c = record { below = still_below c.args.self.store c.run.new.self c.args.self.bounds.items c.args.self.also.items c.in-Ok.ensures.solved c.args.self.next c.args.self.below }

pub returns-in-Err-clause-clash : goal.returns-in-Err-clause-clash
returns-in-Err-clause-clash c = run_clash c.args.self.store c.run.new.self c.args.self.bounds.items c.args.self.also.items c.in-Err.fault c.in-Err.ensures.solved

pub returns-in-Err-judge-clause-clash : goal.returns-in-Err-judge-clause-clash
returns-in-Err-judge-clause-clash c =
    judged_clash c.args.self.store c.run.new.self c.args.self.bounds.items c.args.self.also.items c.in-Ok.ensures.solved c.in-Err-judge.fault
    (judged_over c.run.new.self c.as_slice.result.now c.args.self.bounds.items c.as_slice-2.result.now c.args.self.also.items (Err c.in-Err-judge.fault) c.as_slice.ensures.value c.as_slice-2.ensures.value c.in-Err-judge.ensures)

pub returns-clause-ok : goal.returns-clause-ok
returns-clause-ok c = settled c.args.self.store c.run.new.self c.args.self.bounds.items c.args.self.also.items c.in-Ok.ensures.solved

pub returns-clause-least : goal.returns-clause-least
returns-clause-least c =
    has_least c.args.self.store c.run.new.self c.args.self.bounds.items c.args.self.also.items c.in-Ok.ensures.solved c.in-Ok.ensures.done
    (judged_over c.run.new.self c.as_slice.result.now c.args.self.bounds.items c.as_slice-2.result.now c.args.self.also.items (Ok tt) c.as_slice.ensures.value c.as_slice-2.ensures.value c.in-Ok-judge.ensures)
