use Rattle.std.proofs.Common.{◌∙◌}
use Rattle.fx_parse.specs.Items.{one_of}
use Rattle.fx_parse.proofs.sorts.Sorts.{symbol_same, not_symbol}
use Rattle.fx_parse.proofs.predicates.is_symbol.Goals as goal

pub returns-in-Symbol : goal.returns-in-Symbol
unfolding one_of
returns-in-Symbol c = c.eq.ensures ∙ symbol_same c.args.item.now.lexeme c.in-Symbol.found c.args.symbol c.in-Symbol.is

pub returns-in_default : goal.returns-in_default
unfolding one_of
returns-in_default c = not_symbol c.args.symbol c.args.item.now.lexeme c.in_default.not-Symbol
