use Rattle.std.proofs.Common.{subst}
use Rattle.std.specs.Prelude.{Err}
use Rattle.fx_value.specs.declared.answer.Answer.{Answer}
use Rattle.fx_rowfn.specs.Follows.{Follows}
use Rattle.fx_rowfn.proofs.CutLaws.{budget_cut, fault_cut}
use Rattle.fx_rowfn.proofs.row_function.halt_of.Goals as goal

pub returns-in-Fault : goal.returns-in-Fault
returns-in-Fault c = λ work before after limited follows.
    fault_cut work before after c.in-Fault.fault (subst (λ why. Follows {A = Answer} (λ a. a) work before after (Err why)) c.in-Fault.is follows)

pub returns-in-Budget : goal.returns-in-Budget
returns-in-Budget c = λ work before after limited follows.
    budget_cut work before after limited c.in-Budget.ticks (subst (λ why. Follows {A = Answer} (λ a. a) work before after (Err why)) c.in-Budget.is follows)
