use Rattle.std.proofs.Common.{sym, ap}
use Rattle.fx_ast.proofs.ShapeLaws.{default_pipe, default_required, default_value}
use Rattle.fx_ast.specs.Shape.{tree_of}
use Rattle.fx_ast.specs.Tree.{by_pipe, by_value, required}
use Rattle.fx_ast.specs.declared.expr.ParamKind.TheVariants as kind
use Rattle.fx_rowfn.specs.Rows.{is_due}
use Rattle.fx_rowfn.proofs.TakeLaws.{default_at}
use Rattle.fx_rowfn.proofs.arguments.is_due.Goals as goal

pub returns-in-Required : goal.returns-in-Required
returns-in-Required c = sym (ap is_due (default_at c.args.of.now kind.Required required c.in-Required.is default_required))

pub returns-in-Pipe : goal.returns-in-Pipe
returns-in-Pipe c = sym (ap is_due (default_at c.args.of.now kind.Pipe by_pipe c.in-Pipe.is default_pipe))

pub returns-in-Value : goal.returns-in-Value
returns-in-Value c =
    let e = c.in-Value.field-0 in
    sym (ap is_due (default_at c.args.of.now (kind.Value e) (by_value (tree_of e)) c.in-Value.is (default_value e)))
