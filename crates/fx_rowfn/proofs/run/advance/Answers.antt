use Rattle.std.proofs.Common.{refl, subst, sym}
use Rattle.fx_ast.specs.Shape.{tree_of}
use Rattle.fx_values.specs.Known.{hears}
use Rattle.fx_rowfn.specs.Follows.{Moves}
use Rattle.fx_rowfn.specs.State.{control_left, scope_of, stack_of, tree_left}
use Rattle.fx_rowfn.specs.declared.frame.Control.TheVariants as control
use Rattle.fx_rowfn.proofs.run.advance.Goals as goal

pub returns-in-Give-clause-moves : goal.returns-in-Give-clause-moves
returns-in-Give-clause-moves g c =
    subst (λ k. Moves (hears c.args.known.now (g.P.Patterns.test c.args.patterns.now)) k (stack_of c.args.frames.now.items) (stack_of c.give.new.frames.items) c.args.meter.now c.give.new.meter c.give.result)
    (sym c.in-Give.is) c.give.ensures.moves

pub returns-in-Eval-clause-moves : goal.returns-in-Eval-clause-moves
returns-in-Eval-clause-moves g c =
    let test = hears c.args.known.now (g.P.Patterns.test c.args.patterns.now) in
    subst (λ k. Moves test k (stack_of c.args.frames.now.items) (stack_of c.taken.new.frames.items) c.args.meter.now c.taken.new.meter c.taken.result) (sym c.in-Eval.is)
    (c.taken.ensures.moves test (control.Eval c.in-Eval.scope c.in-Eval.expr) (stack_of c.args.frames.now.items) (tree_left test (scope_of c.in-Eval.scope) (tree_of c.in-Eval.expr)) refl
    (λ limit. refl) (c.evaluated.ensures test))

pub returns-in-Bind-clause-moves : goal.returns-in-Bind-clause-moves
returns-in-Bind-clause-moves g c =
    let test = hears c.args.known.now (g.P.Patterns.test c.args.patterns.now) in
    let taken = c.taken-in-Bind in
    subst (λ k. Moves test k (stack_of c.args.frames.now.items) (stack_of taken.new.frames.items) c.args.meter.now taken.new.meter taken.result) (sym c.in-Bind.is)
    (taken.ensures.moves test (control.Bind c.in-Bind.entry) (stack_of c.args.frames.now.items) (control_left test (control.Bind c.in-Bind.entry)) refl (λ limit. refl) (c.bind.ensures test))

pub returns-in-Assign-clause-moves : goal.returns-in-Assign-clause-moves
returns-in-Assign-clause-moves g c =
    let test = hears c.args.known.now (g.P.Patterns.test c.args.patterns.now) in
    let taken = c.taken-in-Assign in
    subst (λ k. Moves test k (stack_of c.args.frames.now.items) (stack_of taken.new.frames.items) c.args.meter.now taken.new.meter taken.result) (sym c.in-Assign.is)
    (taken.ensures.moves test (control.Assign c.in-Assign.entry) (stack_of c.args.frames.now.items) (control_left test (control.Assign c.in-Assign.entry)) refl (λ limit. refl) (c.assign.ensures test))
