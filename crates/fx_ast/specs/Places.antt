-- Where a tree stands.
use Rattle.fx_base.specs.declared.place.Place.{Place}
use Rattle.fx_ast.specs.Tree.{Tree, tree, Shape, int, time, span, text, pattern, name, paren, array, rec, fun, call, pipe, member, index, chain, prefix, if_then}

-- the place that the tree has: that of its first token, but for an index that of its `[`
abbrev pub place_of : Tree → Place
place_of (tree place s) = place

-- the place of the first token of the tree's text
abbrev pub first_place : Tree → Place
first_place (tree place (index e at)) = first_place e
first_place (tree place s) = place
