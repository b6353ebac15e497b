use Rattle.fx_unify.specs.Store.{entry}
use Rattle.fx_unify.proofs.Cases.{unbound}
use Rattle.fx_unify.proofs.LeastLaws.{type_after}
use Rattle.fx_unify.proofs.store.Store.after_type.Goals as goal

pub returns-in-Var : goal.returns-in-Var
returns-in-Var c = type_after (λ b. b.now) c.args.self.now c.args.ty.now c.in-Var.number c.as_slice.result.now c.type_bound.result c.in-Var.is c.as_slice.ensures.value c.type_bound.ensures

pub returns-in_default : goal.returns-in_default
returns-in_default c = unbound (entry c.args.self.now) c.args.ty.now c.in_default.not-Var
