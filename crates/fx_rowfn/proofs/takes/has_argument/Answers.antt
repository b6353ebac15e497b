use Rattle.std.proofs.Common.{map, sym, ap, ◌∙◌}
use Rattle.fx_ast.proofs.ShapeLaws.{default_pipe, default_required, default_value}
use Rattle.fx_ast.specs.Shape.{tree_of}
use Rattle.fx_ast.specs.Tree.{by_pipe, by_value, required}
use Rattle.fx_ast.specs.declared.expr.ParamKind.TheVariants as kind
use Rattle.fx_meaning.specs.Value.{is_there, look}
use Rattle.fx_values.specs.Shape.{slot, slots_of}
use Rattle.fx_rowfn.proofs.TakeLaws.{asked_at}
use Rattle.fx_rowfn.proofs.takes.has_argument.Goals as goal

pub returns-in-Required : goal.returns-in-Required
returns-in-Required c =
    let args = slots_of (map slot c.args.args.now) in
    c.is_given.ensures ∙ ap (λ x. is_there (look x args)) c.as_str.ensures ∙ sym (asked_at c.args.of.now kind.Required required args c.in-Required.is default_required)

pub returns-in-Pipe : goal.returns-in-Pipe
returns-in-Pipe c =
    let args = slots_of (map slot c.args.args.now) in
    c.is_given-in-Pipe.ensures ∙ ap (λ x. is_there (look x args)) c.as_str-in-Pipe.ensures ∙ sym (asked_at c.args.of.now kind.Pipe by_pipe args c.in-Pipe.is default_pipe)

pub returns-in-Value : goal.returns-in-Value
returns-in-Value c =
    let e = c.in-Value.field-0 in
    sym (asked_at c.args.of.now (kind.Value e) (by_value (tree_of e)) (slots_of (map slot c.args.args.now)) c.in-Value.is (default_value e))
