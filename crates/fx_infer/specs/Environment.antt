-- Environments: what is bound, as plain data, the newest name first.
use Rattle.std.specs.Prelude.{◌≡◌, List, [], ◌∷◌, map}
use Rattle.fx_types.specs.Term.{Label}
use Rattle.fx_types.specs.Ground.{Ground}
use Rattle.fx_ast.specs.Tree.{Tree, Params, no_params, more_params}
use Rattle.fx_infer.specs.Ask.{type_is, package_is, Answers, Scope, of_type, with_name}
use Rattle.fx_infer.specs.Native.{natives}
use Rattle.fx_infer.specs.Typing.{has}

pub data Entry : Type 0 where
  -- a parameter of this type
  param : (label : Label) → (type : Ground) → Entry
  -- a name for an expression, which stands in the environment of the entries behind
  assigned : (label : Label) → (value : Tree) → Entry
  -- a name for a package
  imported : (label path : Label) → Entry

abbrev pub Env : Type 0
Env = List Entry

-- the environment of a function's block, where P gives each parameter its type
abbrev pub params_env : Params → (Label → Ground) → Env → Env
params_env no_params P env = env
params_env (more_params x d ps) P env = params_env ps P (param x (P x) ∷ env)

abbrev pub of_package : Label → Answers
of_package path (package_is p) = path ≡ p
of_package path _ = ⊥

abbrev pub scope : Env → Scope
scope [] = natives
scope (param x u ∷ env) = with_name x (of_type u) (scope env)
scope (assigned x e ∷ env) = with_name x (has e (scope env)) (scope env)
scope (imported x path ∷ env) = with_name x (of_package path) (scope env)

-- the expression has the type in the environment
abbrev pub HasType : Env → Tree → Ground → Type 0
HasType env e t = has e (scope env) (type_is t)

-- it has at least one type
abbrev pub IsTyped : Env → Tree → Type 0
IsTyped env e = (t : Ground) × HasType env e t

abbrev pub label_of : Entry → Label
label_of (param x u) = x
label_of (assigned x e) = x
label_of (imported x path) = x

abbrev pub names_of : Env → List Label
names_of env = map label_of env
