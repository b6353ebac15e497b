use Rattle.fx_ast.specs.Shape.{tree_of}
use Rattle.fx_infer.specs.Environment.{scope}
use Rattle.fx_infer.specs.Names.{env_under}
use Rattle.fx_infer.specs.Words.{IsInForce}
use Rattle.fx_infer.proofs.ArgLaws.{said_found, said_none}
use Rattle.fx_infer.proofs.arguments.said.Goals as goal

pub returns-then-force : goal.returns-then-force
returns-then-force c = said_found (λ s. IsInForce c.args.form (tree_of c.args.value.now) (scope (env_under s c.args.names.now))) c.args.bindings c.in_ok-force.force c.if-force.true c.in_ok-force.ensures

pub returns-else-force : goal.returns-else-force
returns-else-force c = said_none (λ s. IsInForce c.args.form (tree_of c.args.value.now) (scope (env_under s c.args.names.now))) c.args.bindings c.in_ok-force.force c.if-force.false c.in_ok-force.ensures
