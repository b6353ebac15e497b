use Rattle.std.proofs.Common.{sym, ◌∙◌}
use Rattle.fx_ast.specs.Tree.{tree, name, call}
use Rattle.fx_ast.specs.Bare.{nowhere}
use Rattle.fx_top.proofs.QueryLemmas.{called_is, callee_of, opens_as}
use Rattle.fx_top.proofs.query.called.Goals as goal

pub returns-then-is_name-clause-some : goal.returns-then-is_name-clause-some
returns-then-is_name-clause-some c =
    rw c.as_slice.ensures (called_is c.args.expr.now c.in-Call.callee c.in-Call.args c.args.label.now (sym c.get.ensures ∙ c.in-Call.is) (c.is_name.ensures.0 c.if-is_name.true))

pub returns-else-is_name-clause-none : goal.returns-else-is_name-clause-none
returns-else-is_name-clause-none c = λ args h.
    cc (c.is_name.ensures.1 (callee_of c.args.expr.now c.in-Call.callee c.in-Call.args c.args.label.now (sym c.get.ensures ∙ c.in-Call.is) args h), c.if-is_name.false)

pub returns-in_default : goal.returns-in_default
returns-in_default c = record {
  some = tt;
  none = λ args h.
      let opened = opens_as c.args.expr.now (call (tree nowhere (name c.args.label.now)) args) h in
      c.in_default.not-Call opened.0 opened.1 (c.get.ensures ∙ opened.2);
}
