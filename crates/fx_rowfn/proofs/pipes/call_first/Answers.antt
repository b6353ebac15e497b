use Rattle.std.proofs.Common.{map, sym, ap, ◌∙◌}
use Rattle.fx_ast.proofs.ShapeLaws.{shape_call}
use Rattle.fx_ast.specs.Shape.{prop, props_of, shape_of, tree_of}
use Rattle.fx_values.specs.Shape.{val}
use Rattle.fx_rowfn.specs.State.{props_from, scope_of, trees_from}
use Rattle.fx_rowfn.specs.declared.frame.Control.TheVariants as control
use Rattle.fx_rowfn.specs.declared.frame.Next.TheVariants as next
use Rattle.fx_rowfn.proofs.NodeLaws.{all_args}
use Rattle.fx_rowfn.proofs.PipeLaws.{call_awaits, not_a_call}
use Rattle.fx_rowfn.proofs.pipes.call_first.Goals as goal

pub returns-in_ok-expr-in-Call : goal.returns-in_ok-expr-in-Call
returns-in_ok-expr-in-Call c = λ test limit fs.
    call_awaits test limit fs c.args.scope c.args.first.now c.in-Call.callee (props_from (tree_of c.args.first.now) 0) (trees_from (tree_of c.args.whole.now) c.args.next) (val c.args.input)
    c.in_ok-below-in-Call.below c.in_ok-frame-in-Call.frame (next.AwaitTwo c.in_ok-below-in-Call.below c.in_ok-frame-in-Call.frame (control.Eval c.args.scope c.in_ok-expr-in-Call.expr))
    (all_args c.args.first.now (tree_of c.in-Call.callee) (props_of (map prop c.in-Call.args)) (ap shape_of (sym c.get.ensures ∙ c.in-Call.is) ∙ shape_call c.in-Call.callee c.in-Call.args))
    c.in_ok-below-in-Call.ensures c.in_ok-frame-in-Call.ensures (ap (λ e. next.AwaitTwo c.in_ok-below-in-Call.below c.in_ok-frame-in-Call.frame (control.Eval c.args.scope e)) c.in_ok-expr-in-Call.ensures)

pub returns-in_default : goal.returns-in_default
returns-in_default c = λ test limit fs.
    not_a_call test limit fs (scope_of c.args.scope) c.args.first.now (trees_from (tree_of c.args.whole.now) c.args.next) (val c.args.input)
    (λ e ps is. c.in_default.not-Call e ps (c.get.ensures ∙ is))
