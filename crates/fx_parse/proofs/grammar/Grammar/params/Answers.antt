use Rattle.std.proofs.Common.{[], length, map}
use Rattle.fx_ast.specs.Shape.{param, params_of}
use Rattle.fx_parse.specs.declared.lists.ParamList.{ParamList}
use Rattle.fx_parse.specs.Gathering.{params_from}
use Rattle.fx_parse.specs.ReadExprs.{read_expr}
use Rattle.fx_parse.specs.ReadFunctions.{read_params}
use Rattle.fx_parse.proofs.turns.GatherTies.{gives_mapped, params_read}
use Rattle.fx_parse.proofs.grammar.Grammar.params.Goals as goal

pub returns : goal.returns
returns g c =
    let w = c.args.cursor.now in
    let inner = read_expr c.args.levels in
    gives_mapped (λ (ps : ParamList). map param ps.items) params_of (params_from inner (length w) [] w) (read_params inner (length w) w) c.params_found.result c.params_found.new.cursor (params_read inner (length w) w) c.params_found.ensures
