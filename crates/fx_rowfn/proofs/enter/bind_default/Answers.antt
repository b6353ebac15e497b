use Rattle.std.proofs.Common.{refl, ap, ◌∙◌}
use Rattle.fx_ast.proofs.ShapeLaws.{default_pipe, default_required, default_value}
use Rattle.fx_ast.specs.Shape.{default_of}
use Rattle.fx_ast.specs.Tree.{required, by_pipe}
use Rattle.fx_values.specs.Shape.{closed}
use Rattle.fx_rowfn.specs.State.{scope_of}
use Rattle.fx_rowfn.proofs.EnterLaws.{bind_awaits, bind_stuck}
use Rattle.fx_rowfn.proofs.enter.bind_default.Goals as goal

pub returns-in-Required : goal.returns-in-Required
returns-in-Required c = λ test limit fs.
    bind_stuck test limit fs c.args.entry c.args.first.now required (ap default_of c.in-Required.is ∙ default_required) c.requires.none (λ captured. refl)

pub returns-in-Pipe : goal.returns-in-Pipe
returns-in-Pipe c = λ test limit fs.
    bind_stuck test limit fs c.args.entry c.args.first.now by_pipe (ap default_of c.in-Pipe.is ∙ default_pipe) c.requires.none (λ captured. refl)

pub returns-in_ok-next-in-Value : goal.returns-in_ok-next-in-Value
returns-in_ok-next-in-Value c = λ test limit fs.
    bind_awaits test limit fs c.args.entry c.args.first.now c.in-Value.expr c.in_ok-label-in-Value.label c.in_ok-scope-in-Value.scope c.in_ok-next-in-Value.next (ap default_of c.in-Value.is ∙ default_value c.in-Value.expr)
    c.in_ok-label-in-Value.ensures c.requires.none
    (c.in_ok-scope-in-Value.ensures ∙ ap (λ k. record { env = (closed k).captured; setting = (scope_of c.args.entry.scope).setting }) c.as_ref.ensures) c.in_ok-next-in-Value.ensures
