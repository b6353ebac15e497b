use Rattle.std.proofs.Common.{◌∙◌, sym}
use Rattle.fx_infer.proofs.CalleeLaws.{native_called, nothing_called}
use Rattle.fx_infer.proofs.callee.callee_unbound.Goals as goal

pub returns-in-Some : goal.returns-in-Some
returns-in-Some c = native_called c.args.names.now c.args.label.now c.requires c.in_ok-package.package c.in_ok-package.ensures c.in-Some.id (sym c.builtin.ensures ∙ c.in-Some.is)

pub returns : goal.returns
returns c = nothing_called c.args.names.now c.args.label.now c.requires c.in_ok-package.package c.in_ok-package.ensures (sym c.builtin.ensures ∙ c.in-None.is)
