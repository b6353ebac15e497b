-- What an environment of types says of a name.
use Rattle.std.specs.Prelude.{[], ◌∷◌, if◌then◌else◌}
use Rattle.fx_base.specs.Text.{same_text}
use Rattle.fx_types.specs.Term.{Label}
use Rattle.fx_types.specs.Ground.{Ground}
use Rattle.fx_ast.specs.Tree.{Tree, tree, Shape, paren, fun, Props, Params}
use Rattle.fx_infer.specs.Environment.{Env, param, assigned, imported}

pub data Bound : Type 0 where
  -- nothing binds it
  unbound : (label : Label) → Bound
  -- a parameter of this type
  typed : (type : Ground) → Bound
  -- a name for an expression, which stands in this environment
  defined : (env : Env) → (value : Tree) → Bound
  -- a name for the package with this path
  packaged : (path : Label) → Bound

-- what the newest entry of the name says
abbrev pub find : Label → Env → Bound
find x [] = unbound x
find x (param y t ∷ env) = if same_text x y then typed t else find x env
find x (assigned y e ∷ env) = if same_text x y then defined env e else find x env
find x (imported y path ∷ env) = if same_text x y then packaged path else find x env

-- the function literal that an expression is, through parentheses

pub data Literal : Type 0 where
  literal : (params : Params) → (lets : Props) → (result : Tree) → Literal
  no_literal : Literal

abbrev mutual
  pub literal_of : Tree → Literal
  literal_of (tree place s) = literal_in s

  pub literal_in : Shape → Literal
  literal_in (fun ps lets e) = literal ps lets e
  literal_in (paren e) = literal_of e
  literal_in _ = no_literal
