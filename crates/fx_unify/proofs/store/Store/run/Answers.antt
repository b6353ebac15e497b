use Rattle.fx_unify.proofs.RunLaws.{gone_on, given_up, all_done, look_refused}
use Rattle.fx_unify.proofs.store.Store.run.Goals as goal

pub returns-in-None-clause-solved : goal.returns-in-None-clause-solved
returns-in-None-clause-solved c =
    all_done c.args.self.now c.loop-step.self (record c.loop-step.self { work = c.pop.new.self }) (λ s. (λ h. h, λ h. h)) c.in-None.ensures.items c.loop-step.invariant

pub returns-in-Err-clause-solved : goal.returns-in-Err-clause-solved
returns-in-Err-clause-solved c = look_refused c.args.self.now c.loop-step.self c.loop-step.invariant c.in-Err.fault c.in-Err.ensures

pub returns-in-Err-step-clause-solved : goal.returns-in-Err-step-clause-solved
returns-in-Err-step-clause-solved c =
    given_up c.args.self.now c.loop-step.self (record c.loop-step.self { work = c.pop.new.self }) c.step.new.self c.in-Some.pair (λ s. (λ h. h, λ h. h)) c.in-Some.ensures.items
    c.loop-step.invariant c.in-Err-step.fault c.in-Err-step.ensures

pub loop-step-preserved : goal.loop-step-preserved
loop-step-preserved c =
    gone_on c.args.self.now c.loop-step.self (record c.loop-step.self { work = c.pop.new.self }) c.step.new.self c.in-Some.pair (λ s. (λ h. h, λ h. h)) c.in-Some.ensures.items
    c.loop-step.invariant c.in-Ok-step.ensures
