use Rattle.std.proofs.Common.{subst}
use Rattle.fx_rowfn.specs.Follows.{Follows}
use Rattle.fx_rowfn.proofs.CutLaws.{value_cut}
use Rattle.fx_rowfn.proofs.row_function.halted.Goals as goal

pub returns-in-Ok : goal.returns-in-Ok
returns-in-Ok c = λ work before after limited follows. value_cut work before after c.in-Ok.answer (subst (Follows (λ a. a) work before after) c.in-Ok.is follows)

pub returns-in-Err : goal.returns-in-Err
returns-in-Err c = λ work before after limited follows. c.halt_of.ensures work before after limited (subst (Follows (λ a. a) work before after) c.in-Err.is follows)
