-- What names answer that nothing binds, and names of packages.
use Rattle.std.specs.Prelude.{◌≡◌, [], ◌∷◌, List, Option, Some, codes}
use Rattle.fx_types.specs.Term.{Label}
use Rattle.fx_types.specs.Ground.{Ground}
use Rattle.fx_types.specs.Size.{IsType}
use Rattle.fx_schemes.specs.declared.list.Builtin.{Builtin}
use Rattle.fx_schemes.specs.Builtins.{IsLine}
use Rattle.fx_schemes.specs.Line.{Line}
use Rattle.fx_schemes.specs.Names.{builtin_of}
use Rattle.fx_ast.specs.Tree.{Tree, tree, name}
use Rattle.fx_infer.specs.Ask.{type_is, builtin_is, package_is, Answers, Scope}

-- the types that a built-in has as a value: those of its lines without words, of which there are none where a label
-- argument must be given
abbrev pub IsValueOf : Builtin → Ground → Type 0
IsValueOf b t = (L : Line) × IsLine b [] L × (L.type ≡ t)

-- called it is called as itself, by what its lines say at the words of the call
abbrev pub native : Option Builtin → Answers
native (Some b) (type_is t) = IsType t × IsValueOf b t
native (Some b) (builtin_is c) = b ≡ c
native _ _ = ⊥

-- each name that nothing binds is the built-in of that name
abbrev pub natives : Scope
natives x = native (builtin_of (codes "") x)

-- the packages that can be imported
abbrev pub packages : List Label
packages = codes "array" ∷ codes "date" ∷ codes "join" ∷ codes "series" ∷ codes "strings" ∷ []

-- behind a package's name stand its built-ins; it stands for nothing by itself
abbrev pub in_package : Tree → Label → Scope → Answers
in_package (tree place (name x)) z S q = (path : Label) × S x (package_is path) × native (builtin_of path z) q
in_package _ z S q = ⊥
