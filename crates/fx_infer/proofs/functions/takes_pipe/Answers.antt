use Rattle.fx_infer.proofs.BlockLaws.{pipe_told, required_told, value_told}
use Rattle.fx_infer.proofs.functions.takes_pipe.Goals as goal

pub returns-in-Pipe : goal.returns-in-Pipe
returns-in-Pipe c = pipe_told c.args.default.now c.in-Pipe.is

pub returns-in-Required : goal.returns-in-Required
returns-in-Required c = required_told c.args.default.now c.in-Required.is

pub returns-in-Value : goal.returns-in-Value
returns-in-Value c = value_told c.args.default.now c.in-Value.field-0 c.in-Value.is
