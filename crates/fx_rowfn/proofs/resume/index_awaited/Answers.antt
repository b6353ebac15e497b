use Rattle.std.proofs.Common.{sym, ap, ◌∙◌}
use Rattle.fx_ast.specs.Shape.{tree_of}
use Rattle.fx_values.specs.Shape.{val}
use Rattle.fx_rowfn.specs.State.{left_then, scope_of}
use Rattle.fx_rowfn.proofs.FrameLaws.{at_left}
use Rattle.fx_rowfn.proofs.resume.index_awaited.Goals as goal

pub returns : goal.returns
returns c = λ test limit fs.
    at_left test limit fs (scope_of c.args.scope) c.args.place (val c.args.items) (tree_of c.args.at.now) ∙ sym (ap (left_then test limit fs) c.in_ok-next.ensures)
