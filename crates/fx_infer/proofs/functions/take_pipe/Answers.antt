use Rattle.fx_infer.proofs.BlockLaws.{is_required, is_piped, is_given, pipe_taken, pipe_left_required, pipe_left_value}
use Rattle.fx_infer.proofs.functions.take_pipe.Goals as goal

pub returns-in-Pipe : goal.returns-in-Pipe
returns-in-Pipe c s = pipe_taken c.args.default.now c.args.number c.args.pipe c.in-None.is s (is_piped c.args.default.now c.in-Pipe.is)

pub returns-in-Required : goal.returns-in-Required
returns-in-Required c s = pipe_left_required c.args.default.now c.args.number c.args.pipe c.in-None.is s (is_required c.args.default.now c.in-Required.is)

pub returns-in-Value : goal.returns-in-Value
returns-in-Value c s =
    let k = is_given c.args.default.now c.in-Value.field-0 c.in-Value.is in
    pipe_left_value c.args.default.now c.args.number c.args.pipe c.in-None.is s k.0 k.1
