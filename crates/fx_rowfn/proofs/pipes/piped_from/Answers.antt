use Rattle.std.proofs.Common.{◌+◌, map, subst}
use Rattle.fx_ast.specs.Shape.{tree_of}
use Rattle.fx_values.specs.Shape.{slot, slots_of, val}
use Rattle.fx_rowfn.specs.Calls.{piped_left}
use Rattle.fx_rowfn.specs.State.{Leads, props_from, scope_of}
use Rattle.fx_rowfn.proofs.PipeLaws.{piped_argument_awaits, piped_done}
use Rattle.fx_rowfn.proofs.pipes.piped_from.Goals as goal

pub returns-in_ok-next-in-Some : goal.returns-in_ok-next-in-Some
returns-in_ok-next-in-Some c = λ test limit fs.
    piped_argument_awaits test limit fs c.args.scope c.args.place (val c.args.of.input) (val c.args.of.callee) (slots_of (map slot c.args.done)) c.in-Some.first.now (props_from (tree_of c.args.call.now) c.args.next)
    (props_from (tree_of c.args.call.now) (c.args.next + 1)) c.in_ok-frame-in-Some.frame c.in_ok-next-in-Some.next c.in-Some.ensures.at c.in_ok-frame-in-Some.ensures c.in_ok-next-in-Some.ensures

pub returns-in-None : goal.returns-in-None
returns-in-None c = λ test.
    piped_done test (scope_of c.args.scope) c.args.place (val c.args.of.input) (val c.args.of.callee) (slots_of (map slot c.args.done)) (props_from (tree_of c.args.call.now) c.args.next) c.piped_to.result c.in-None.ensures.at
    (subst (λ s. Leads (piped_left test c.args.place s.moment (slots_of (map slot c.args.done)) (val c.args.of.input) (val c.args.of.callee)) test c.piped_to.result) c.as_ref.ensures (c.piped_to.ensures test))
