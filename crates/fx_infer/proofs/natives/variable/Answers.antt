use Rattle.std.proofs.Common.{ap}
use Rattle.fx_types.specs.Instance.{ground}
use Rattle.fx_types.specs.Shape.{term}
use Rattle.fx_types.specs.declared.term.Ty.TheVariants as ty
use Rattle.fx_types.proofs.ShapeLaws.{term_variable}
use Rattle.fx_infer.proofs.NativeLaws.{variable_asked}
use Rattle.fx_infer.proofs.natives.variable.Goals as goal

pub returns : goal.returns
returns c = variable_asked c.args.bindings c.in_ok-bindings.bindings (term (ty.Var c.args.number)) c.args.number (λ s. ap (ground s) (term_variable c.args.number)) c.in_ok-bindings.ensures.ok c.in_ok-bindings.ensures.next
