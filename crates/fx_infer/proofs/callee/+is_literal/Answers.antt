use Rattle.std.proofs.Common.{◌∙◌, sym}
use Rattle.fx_infer.proofs.CalleeLaws.{fun_literal, paren_literal}
use Rattle.fx_infer.proofs.WrittenLaws.{no_literal}
use Rattle.fx_infer.proofs.callee.+is_literal.Goals as goal

pub returns-in-Fun : goal.returns-in-Fun
returns-in-Fun t c = sym (fun_literal c.args.expr.now c.get.result.now _ _ c.get.ensures c.in-Fun.is)

pub returns-in-Paren : goal.returns-in-Paren
returns-in-Paren t c = c.is_literal.ensures ∙ sym (paren_literal c.args.expr.now c.get.result.now _ c.get.ensures c.in-Paren.is)

pub returns-in_default : goal.returns-in_default
returns-in_default t c = sym (no_literal c.args.expr.now c.get.result.now c.get.ensures c.in_default.not-Fun c.in_default.not-Paren)
