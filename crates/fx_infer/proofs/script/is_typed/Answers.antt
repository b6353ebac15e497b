use Rattle.fx_infer.proofs.StatementLaws.{tells}
use Rattle.fx_infer.proofs.script.is_typed.Goals as goal

pub returns : goal.returns
returns c env is = tells env c.args.value.now c.in_ok-found.found c.is_some.result c.is_some.ensures (c.in_ok-found.ensures env is)
