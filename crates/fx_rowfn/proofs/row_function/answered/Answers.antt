use Rattle.std.proofs.Common.{subst}
use Rattle.fx_values.specs.Shape.{val}
use Rattle.fx_rowfn.specs.Follows.{Follows}
use Rattle.fx_rowfn.proofs.RowLaws.{follows_stop, follows_then}
use Rattle.fx_rowfn.proofs.row_function.answered.Goals as goal

pub returns-in-Ok : goal.returns-in-Ok
returns-in-Ok c = λ work before after follows.
    follows_then work before after (val c.in-Ok.value) c.answer_of.result c.answer_of.ensures (subst (Follows val work before after) c.in-Ok.is follows)

pub returns-in-Err : goal.returns-in-Err
returns-in-Err c = λ work before after follows. follows_stop work before after c.in-Err.stop (subst (Follows val work before after) c.in-Err.is follows)
