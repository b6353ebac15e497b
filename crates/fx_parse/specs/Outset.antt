-- What stands after `( name` at the beginning of a function.
use Rattle.std.specs.Prelude.{Bool, ◌&&◌, ◌||◌}
use Rattle.fx_scan.specs.declared.symbols.Symbol.TheVariants as symbol
use Rattle.fx_parse.specs.Items.{Items, is_symbol}
use Rattle.fx_parse.specs.ReadFunctions.{sees}

abbrev pub sees_parameter : Items → Bool
sees_parameter w = sees (is_symbol symbol.Comma) 2 w || (sees (is_symbol symbol.Assign) 2 w
    || (sees (is_symbol symbol.CloseParen) 2 w && sees (is_symbol symbol.Arrow) 3 w))
