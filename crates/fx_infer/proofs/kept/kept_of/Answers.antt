use Rattle.std.proofs.Common.{subst}
use Rattle.fx_types.specs.Shape.{term}
use Rattle.fx_ast.specs.Shape.{tree_of}
use Rattle.fx_infer.specs.Statements.{Settles}
use Rattle.fx_infer.proofs.KeptNames as laws
use Rattle.fx_infer.proofs.StatementLaws.{some_type}
use Rattle.fx_infer.proofs.kept.kept_of.Goals as goal

pub of-requires : goal.of-requires
of-requires c = (subst (Settles c.requires.0 (tree_of c.args.value.now)) c.in-Some.is (c.in_ok-found.ensures c.requires.0 c.requires.1)).0

pub returns-in-None : goal.returns-in-None
returns-in-None c env is = subst (Settles env (tree_of c.args.value.now)) c.in-None.is (c.in_ok-found.ensures env is)

pub returns : goal.returns
returns c env is =
    let settled = subst (Settles env (tree_of c.args.value.now)) c.in-Some.is (c.in_ok-found.ensures env is) in (
      some_type env c.args.value.now c.in-Some.found.bindings (term c.in-Some.found.ty) settled.0 settled.1,
      (
        c.in_ok-kept.ensures.numbered,
        laws.kept_of env (tree_of c.args.value.now) c.in-Some.found.bindings (term c.in-Some.found.ty) c.in_ok-kept.kept c.in_ok-kept.ensures.instances settled.1,
      ),
    )
