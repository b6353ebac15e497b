use Rattle.fx_unify.proofs.KeptLaws.{as_variable}
use Rattle.fx_unify.proofs.store.Store.keep_type.Goals as goal

pub returns-in-Var : goal.returns-in-Var
returns-in-Var c = λ ks counted nodes. c.keep_nodes.ensures ks counted (as_variable c.args.self.now ks c.args.ty.now c.in-Var.number c.in-Var.is c.args.nodes nodes)
