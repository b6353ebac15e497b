use Rattle.std.proofs.Common.{[], length, map}
use Rattle.fx_ast.specs.Shape.{prop, tree_of}
use Rattle.fx_parse.specs.declared.function.Contents.{Contents}
use Rattle.fx_parse.specs.Gathering.{block_from}
use Rattle.fx_parse.specs.ReadExprs.{read_expr}
use Rattle.fx_parse.specs.ReadFunctions.{read_block}
use Rattle.fx_parse.proofs.turns.GatherTies.{gives_mapped, seen_block, block_read}
use Rattle.fx_parse.proofs.grammar.Grammar.block.Goals as goal

pub returns : goal.returns
returns g c =
    let w = c.args.cursor.now in
    let inner = read_expr c.args.levels in
    gives_mapped (λ (b : Contents). (map prop b.lets.items, tree_of b.result.tree)) seen_block (block_from inner (length w) [] w) (read_block inner (length w) w) c.block_found.result c.block_found.new.cursor (block_read inner (length w) w) c.block_found.ensures
