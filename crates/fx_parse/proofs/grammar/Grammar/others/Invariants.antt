use Rattle.std.proofs.Common.{◌≡◌, ◌-◌}
use Rattle.fx_ast.specs.Lists.{props_before}
use Rattle.fx_parse.specs.ReadExprs.{read_expr}
use Rattle.fx_parse.specs.ReadProps.{read_props}
use Rattle.fx_parse.specs.Readings.{mapped}
use Rattle.fx_parse.specs.Views.{group}
use Rattle.fx_parse.proofs.grammar.Grammar.others.Given as goal

abbrev pub invariant-loop-turn : goal.invariant-loop-turn
invariant-loop-turn g l = mapped (props_before l.fn.found.items) (read_props (group l.kind) l.levels (read_expr l.levels) l.turns l.fn.cursor)
    ≡ mapped (props_before l.found.items) (read_props (group l.kind) l.levels (read_expr l.levels) (l.turns - l._turn) l.cursor)
