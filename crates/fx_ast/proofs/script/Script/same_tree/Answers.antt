use Rattle.fx_ast.proofs.SameLaws.{first, second, both_script}
use Rattle.fx_ast.proofs.script.Script.same_tree.Goals as goal

pub returns-then-same_name : goal.returns-then-same_name
returns-then-same_name c =
    second (both_script c.args.self.now c.args.other.now) (c.same_name.ensures.0 c.if-same_name.true) c.same_statements.ensures

pub returns-else-same_name : goal.returns-else-same_name
returns-else-same_name c =
    first (both_script c.args.self.now c.args.other.now) c.same_name.ensures c.if-same_name.false
