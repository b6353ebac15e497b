use Rattle.fx_ast.specs.Shape.{default_of}
use Rattle.fx_infer.proofs.BlockLaws.{block_grown, one_name}
use Rattle.fx_infer.proofs.functions.declare.Goals as goal

pub returns : goal.returns
returns c s =
    block_grown c.args.block (record { names = c.push.new.self; required = c.in_ok-required.required; pipe = c.take_pipe-pipe.result }) s c.args.next.now.label (default_of c.args.next.now.default) (s.type_of c.args.number)
    (one_name s c.args.block.names c.push.new.self _ c.in_ok-push.ensures.ok) (c.in_ok-required.ensures s) (c.take_pipe-pipe.ensures s)
