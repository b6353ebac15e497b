-- Names of packages.
use Rattle.fx_types.specs.Term.{Label}
use Rattle.fx_ast.specs.Tree.{Tree, tree, name}
use Rattle.fx_infer.specs.Ask.{package_is, Scope}

-- the expression is a name of the package with this path
abbrev pub IsPackage : Tree → Scope → Label → Type 0
IsPackage (tree place (name x)) S path = S x (package_is path)
IsPackage _ S path = ⊥
