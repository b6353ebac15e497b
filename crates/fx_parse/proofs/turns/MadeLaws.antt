-- The expression of a node.
use Rattle.std.proofs.Common.{◌≡◌, ℕ, ◌+◌, ◌-◌, ◌^◌, arith}
use Rattle.std.specs.Prelude.{min}
use Rattle.fx_base.specs.declared.place.Place.{Place}
use Rattle.fx_ast.specs.declared.expr.Expr.{roll-Expr}
use Rattle.fx_ast.specs.declared.expr.Node.{Node}
use Rattle.fx_ast.specs.Shape.{tree_of, shape_of}
use Rattle.fx_ast.specs.Tree.{tree}
use Rattle.fx_ast.proofs.ShapeLaws.{tree_made}
use Rattle.fx_ast.specs.Levels.{below, height}
use Rattle.fx_parse.specs.Measures.{capped}

pub made_levels : (p : Place) (n : Node) (l m : ℕ) → l ≡ capped (below (shape_of n)) → m ≡ min (l + 1) (2 ^ 64 - 1)
    → m ≡ capped (height (tree_of (roll-Expr (record { place = p; node = n }))))
unfolding height
made_levels p n l m low is = rw (tree_made p n) (grind arith)
