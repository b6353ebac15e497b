-- What the parser keeps beside a tree: its levels, up to the greatest number of the type, and what the grammar asks of it.
use Rattle.std.specs.Prelude.{◌-◌, ◌^◌, ℕ, min, List, Option, None, Some}
use Rattle.fx_ast.specs.Tree.{Tree, tree, text, piece, no_parts}

-- a number, or the greatest of the type where that is less
abbrev pub capped : ℕ → ℕ
capped n = min n (2 ^ 64 - 1)

-- what a text without interpolation says
abbrev pub plain_of : Tree → Option (List ℕ)
plain_of (tree place (text (piece s no_parts))) = Some s
plain_of t = None
