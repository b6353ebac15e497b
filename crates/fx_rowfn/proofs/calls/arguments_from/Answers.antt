use Rattle.std.proofs.Common.{◌+◌, map, subst}
use Rattle.fx_ast.specs.Shape.{tree_of}
use Rattle.fx_values.specs.Shape.{slot, slots_of, val}
use Rattle.fx_rowfn.specs.Calls.{applied_left}
use Rattle.fx_rowfn.specs.State.{Leads, props_from, scope_of}
use Rattle.fx_rowfn.proofs.CallLaws.{argument_awaits, arguments_done}
use Rattle.fx_rowfn.proofs.calls.arguments_from.Goals as goal

pub returns-in_ok-next-in-Some : goal.returns-in_ok-next-in-Some
returns-in_ok-next-in-Some c = λ test limit fs.
    argument_awaits test limit fs c.args.scope c.args.place (val c.args.callee) (slots_of (map slot c.args.done)) c.in-Some.first.now (props_from (tree_of c.args.whole.now) c.args.next)
    (props_from (tree_of c.args.whole.now) (c.args.next + 1)) c.in_ok-frame-in-Some.frame c.in_ok-next-in-Some.next c.in-Some.ensures.at c.in_ok-frame-in-Some.ensures c.in_ok-next-in-Some.ensures

pub returns-in-None : goal.returns-in-None
returns-in-None c = λ test.
    arguments_done test (scope_of c.args.scope) c.args.place (val c.args.callee) (slots_of (map slot c.args.done)) (props_from (tree_of c.args.whole.now) c.args.next) c.applied.result c.in-None.ensures.at
    (subst (λ s. Leads (applied_left test c.args.place s.moment (slots_of (map slot c.args.done)) (val c.args.callee)) test c.applied.result) c.as_ref.ensures (c.applied.ensures test))
