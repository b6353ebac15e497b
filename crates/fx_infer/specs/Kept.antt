-- What is kept of an expression that has a name, in place of inferring it anew at each use.
use Rattle.std.specs.Prelude.{◌↔◌, Bool, true, false, List, [], ◌∷◌, Option, None, Some}
use Rattle.fx_types.specs.Ground.{Ground}
use Rattle.fx_generalize.specs.declared.solved.Solved as declared
use Rattle.fx_generalize.specs.Solved.{HasInstance, IsNumbered}
use Rattle.fx_ast.specs.Tree.{Tree, tree, paren, fun, Params, no_params, more_params, required}
use Rattle.fx_types.specs.Instance.{Solution}
use Rattle.fx_infer.specs.declared.scope.Bound as bounds
use Rattle.fx_infer.specs.declared.scope.Name as names
use Rattle.fx_infer.specs.Environment.{Env, HasType, IsTyped}
use Rattle.fx_infer.specs.Names.{entry_under}

-- the instances are exactly the types of the expression, one for each copy of it
abbrev pub IsKeptOf : Env → Tree → declared.Solved → Type 0
IsKeptOf env e v = IsNumbered v × ((t : Ground) → HasInstance v t ↔ HasType env e t)

-- None where the expression has no type
abbrev pub Keeps : Env → Tree → Option declared.Solved → Type 0
Keeps env e None = IsTyped env e → ⊥
Keeps env e (Some v) = IsTyped env e × IsKeptOf env e v

-- a call gives each parameter
abbrev pub are_required : Params → Bool
are_required no_params = true
are_required (more_params x required ps) = are_required ps
are_required (more_params x _ ps) = false

-- called, it takes what its type requires and nothing else: no default fills in, and no label takes what comes by the pipe
abbrev pub is_as_typed : Tree → Bool
is_as_typed (tree place (fun ps lets e)) = are_required ps
is_as_typed (tree place (paren e)) = is_as_typed e
is_as_typed _ = true

-- what is said of each name in the environment of those before it
abbrev pub Along : (bounds.Bound → Env → Type 0) → Solution → List names.Name → Env → Type 0
Along K s [] env = Unit {0}
Along K s (n ∷ ns) env = K n.bound env × Along K s ns (entry_under s n ∷ env)
