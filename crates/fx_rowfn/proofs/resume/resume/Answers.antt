use Rattle.std.proofs.Common.{subst, sym}
use Rattle.fx_meaning.specs.Forms.{cell_in, items_in}
use Rattle.fx_meaning.specs.Operators.{indexed, member_of, operate, prefixed}
use Rattle.fx_value.specs.Ends.{and_then}
use Rattle.fx_values.specs.Known.{hears}
use Rattle.fx_values.specs.Shape.{val}
use Rattle.fx_ast.specs.Shape.{tree_of}
use Rattle.fx_rowfn.specs.Calls.{args_left, piped_args_left}
use Rattle.fx_rowfn.specs.State.{Leads, frame_of, props_from, resumed_left, scope_of}
use Rattle.fx_rowfn.proofs.resume.resume.Goals as goal

pub returns-in-Sign-clause-leads : goal.returns-in-Sign-clause-leads
returns-in-Sign-clause-leads g c =
    let test = hears c.args.known.now (g.P.Patterns.test c.args.patterns.now) in
    subst (λ f. Leads (resumed_left test (frame_of f) (val c.args.value)) test c.given.result) (sym c.in-Sign.is)
    (c.given.ensures test (prefixed c.in-Sign.place c.in-Sign.sign (val c.args.value)) c.prefixed.ensures)

pub returns-in-Branch-clause-leads : goal.returns-in-Branch-clause-leads
returns-in-Branch-clause-leads g c =
    let test = hears c.args.known.now (g.P.Patterns.test c.args.patterns.now) in
    subst (λ f. Leads (resumed_left test (frame_of f) (val c.args.value)) test c.branched.result) (sym c.in-Branch.is) (c.branched.ensures test)

pub returns-in-IndexedBy-clause-leads : goal.returns-in-IndexedBy-clause-leads
returns-in-IndexedBy-clause-leads g c =
    let test = hears c.args.known.now (g.P.Patterns.test c.args.patterns.now) in
    subst (λ f. Leads (resumed_left test (frame_of f) (val c.args.value)) test c.index_awaited.result) (sym c.in-IndexedBy.is) (c.index_awaited.ensures test)

pub returns-in-LeftOf-clause-leads : goal.returns-in-LeftOf-clause-leads
returns-in-LeftOf-clause-leads g c =
    let test = hears c.args.known.now (g.P.Patterns.test c.args.patterns.now) in
    subst (λ f. Leads (resumed_left test (frame_of f) (val c.args.value)) test c.linked.result) (sym c.in-LeftOf.is)
    (c.linked.ensures test)

pub returns-in-RightOf-clause-leads : goal.returns-in-RightOf-clause-leads
returns-in-RightOf-clause-leads g c =
    let test = hears c.args.known.now (g.P.Patterns.test c.args.patterns.now) in
    subst (λ f. Leads (resumed_left test (frame_of f) (val c.args.value)) test c.linked_on.result) (sym c.in-RightOf.is)
    (c.linked_on.ensures test (operate test c.in-RightOf.place c.in-RightOf.op (val c.in-RightOf.left) (val c.args.value)) c.operated-told.ensures.answer)

pub returns-in-Item-clause-leads : goal.returns-in-Item-clause-leads
returns-in-Item-clause-leads g c =
    let test = hears c.args.known.now (g.P.Patterns.test c.args.patterns.now) in
    subst (λ f. Leads (resumed_left test (frame_of f) (val c.args.value)) test c.item_known.result) (sym c.in-Item.is)
    (c.item_known.ensures test)

pub returns-in-Field-clause-leads : goal.returns-in-Field-clause-leads
returns-in-Field-clause-leads g c =
    let test = hears c.args.known.now (g.P.Patterns.test c.args.patterns.now) in
    subst (λ f. Leads (resumed_left test (frame_of f) (val c.args.value)) test c.field_known.result) (sym c.in-Field.is)
    (c.field_known.ensures test)

pub returns-in-Member-clause-leads : goal.returns-in-Member-clause-leads
returns-in-Member-clause-leads g c =
    let test = hears c.args.known.now (g.P.Patterns.test c.args.patterns.now) in
    subst (λ f. Leads (resumed_left test (frame_of f) (val c.args.value)) test c.given-in-Member.result) (sym c.in-Member.is)
    (c.given-in-Member.ensures test (member_of (val c.args.value) c.in-Member.label) c.member_of.ensures)

pub returns-in-IndexOf-clause-leads : goal.returns-in-IndexOf-clause-leads
returns-in-IndexOf-clause-leads g c =
    let test = hears c.args.known.now (g.P.Patterns.test c.args.patterns.now) in
    subst (λ f. Leads (resumed_left test (frame_of f) (val c.args.value)) test c.given-in-IndexOf.result) (sym c.in-IndexOf.is)
    (c.given-in-IndexOf.ensures test (and_then (items_in (val c.in-IndexOf.items)) (λ vs. and_then (cell_in (val c.args.value)) (indexed c.in-IndexOf.place vs))) c.item_of.ensures)

pub returns-in-Hole-clause-leads : goal.returns-in-Hole-clause-leads
returns-in-Hole-clause-leads g c =
    let test = hears c.args.known.now (g.P.Patterns.test c.args.patterns.now) in
    subst (λ f. Leads (resumed_left test (frame_of f) (val c.args.value)) test c.hole_known.result) (sym c.in-Hole.is)
    (c.hole_known.ensures test)

pub returns-in-Callee-clause-leads : goal.returns-in-Callee-clause-leads
returns-in-Callee-clause-leads g c =
    let test = hears c.args.known.now (g.P.Patterns.test c.args.patterns.now) in
    subst (λ f. Leads (resumed_left test (frame_of f) (val c.args.value)) test c.callee_known.result) (sym c.in-Callee.is) (c.callee_known.ensures test)

pub returns-in-Through-clause-leads : goal.returns-in-Through-clause-leads
returns-in-Through-clause-leads g c =
    let test = hears c.args.known.now (g.P.Patterns.test c.args.patterns.now) in
    subst (λ f. Leads (resumed_left test (frame_of f) (val c.args.value)) test c.calls_from.result) (sym c.in-Through.is) (c.calls_from.ensures test)

pub returns-in-PipedCallee-clause-leads : goal.returns-in-PipedCallee-clause-leads
returns-in-PipedCallee-clause-leads g c =
    let test = hears c.args.known.now (g.P.Patterns.test c.args.patterns.now) in
    subst (λ f. Leads (resumed_left test (frame_of f) (val c.args.value)) test c.piped_callee_known.result) (sym c.in-PipedCallee.is) (c.piped_callee_known.ensures test)

pub returns-in-Default-clause-leads : goal.returns-in-Default-clause-leads
returns-in-Default-clause-leads g c =
    let test = hears c.args.known.now (g.P.Patterns.test c.args.patterns.now) in
    subst (λ f. Leads (resumed_left test (frame_of f) (val c.args.value)) test c.bound.result) (sym c.in-Default.is) (c.bound.ensures test)

pub returns-in-Assigned-clause-leads : goal.returns-in-Assigned-clause-leads
returns-in-Assigned-clause-leads g c =
    let test = hears c.args.known.now (g.P.Patterns.test c.args.patterns.now) in
    subst (λ f. Leads (resumed_left test (frame_of f) (val c.args.value)) test c.assigned.result) (sym c.in-Assigned.is) (c.assigned.ensures test)

pub returns-in_ok-done-in-Argument-clause-leads : goal.returns-in_ok-done-in-Argument-clause-leads
returns-in_ok-done-in-Argument-clause-leads g c =
    let test = hears c.args.known.now (g.P.Patterns.test c.args.patterns.now) in
    let a = c.in-Argument in
    subst (λ f. Leads (resumed_left test (frame_of f) (val c.args.value)) test c.arguments_from.result) (sym a.is)
    (subst (λ done. Leads (args_left test (scope_of a.scope) a.place (val a.called) (props_from (tree_of a.call) a.next) done) test c.arguments_from.result) c.in_ok-done-in-Argument.ensures (c.arguments_from.ensures test))

pub returns-in_ok-done-in-PipedArgument-clause-leads : goal.returns-in_ok-done-in-PipedArgument-clause-leads
returns-in_ok-done-in-PipedArgument-clause-leads g c =
    let test = hears c.args.known.now (g.P.Patterns.test c.args.patterns.now) in
    let a = c.in-PipedArgument in
    subst (λ f. Leads (resumed_left test (frame_of f) (val c.args.value)) test c.piped_from.result) (sym a.is)
    (subst (λ done. Leads (piped_args_left test (scope_of a.scope) a.place (val a.input) (val a.called) (props_from (tree_of a.call) a.next) done) test c.piped_from.result) c.in_ok-done-in-PipedArgument.ensures (c.piped_from.ensures test))
