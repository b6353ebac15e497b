use Rattle.fx_ast.specs.Bare.{bare_form}
use Rattle.fx_ast.specs.Shape.{statement_form}
use Rattle.fx_ast.proofs.SameLaws.{shorter, differs, ends, statements_by_item}
use Rattle.fx_ast.proofs.same.same_statements.Goals as goal

pub returns-then-left-right : goal.returns-then-left-right
returns-then-left-right c =
    shorter (λ s. bare_form (statement_form s.form)) c.args.left.now c.args.right.now c.as_slice-left.result.now c.as_slice-right.result.now (statements_by_item c.args.left.now c.args.right.now) c.as_slice-left.ensures c.as_slice-right.ensures c.if-left-right.true

pub returns-then-not-same_form : goal.returns-then-not-same_form
returns-then-not-same_form c =
    differs (λ s. bare_form (statement_form s.form)) c.args.left.now c.args.right.now c.as_slice-left.result.now c.as_slice-right.result.now c.loop-i.i c.index-left-i.result c.index-right-i.result (statements_by_item c.args.left.now c.args.right.now) c.as_slice-left.ensures c.as_slice-right.ensures c.if-left-right.false c.loop-i-test.true c.index-left-i.is c.index-right-i.is (rw (← c.index-left-i.is, ← c.index-right-i.is) at c.same_form.ensures) c.if-not-same_form.true

pub returns : goal.returns
returns c =
    ends (λ s. bare_form (statement_form s.form)) c.args.left.now c.args.right.now c.as_slice-left.result.now c.as_slice-right.result.now c.loop-i.i (statements_by_item c.args.left.now c.args.right.now) c.as_slice-left.ensures c.as_slice-right.ensures c.if-left-right.false c.loop-i-test.false c.loop-i.invariant
