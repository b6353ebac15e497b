use Rattle.fx_unify.proofs.KeptLaws.{kept_as_type}
use Rattle.fx_unify.proofs.store.Store.kept_type.Goals as goal

pub returns-in-Var : goal.returns-in-Var
returns-in-Var c = λ ks counted. kept_as_type c.args.self.now ks c.args.ty.now c.in-Var.number c.in-Var.is c.kept_nodes.result (c.kept_nodes.ensures ks counted)
