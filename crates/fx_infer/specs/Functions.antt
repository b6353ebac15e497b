-- The block of a function literal, as its parameters are declared one after another.
use Rattle.std.specs.Prelude.{◌≡◌, ◌||◌, ◌&&◌, not, Bool, true, false, if◌then◌else◌, List, [], ◌∷◌, Option, None, Some, map, option_map}
use Rattle.fx_base.specs.Text.{same_text}
use Rattle.fx_types.specs.Ground.{Ground, GroundField, GroundRow, g_absent, g_is}
use Rattle.fx_types.specs.Instance.{Solution, ground_labels, ground_pipe}
use Rattle.fx_types.specs.Shape.{term, pipe_of}
use Rattle.fx_types.specs.Size.{IsType}
use Rattle.fx_types.specs.Term.{Label}
use Rattle.fx_ast.specs.Shape.{OfParam, default_of, param}
use Rattle.fx_ast.specs.Tree.{Tree, Props, Default, required, by_pipe}
use Rattle.fx_ast.specs.declared.expr.Param as params
use Rattle.fx_ast.specs.declared.expr.ParamKind as kinds
use Rattle.fx_ast.specs.declared.expr.Prop as props
use Rattle.fx_schemes.specs.Builtins.{differ}
use Rattle.fx_unify.specs.declared.bindings.Bindings.{Bindings}
use Rattle.fx_infer.specs.declared.functions.Block as blocks
use Rattle.fx_infer.specs.declared.functions.Scoped as scopes
use Rattle.fx_infer.specs.declared.scope.Name as names
use Rattle.fx_infer.specs.Ask.{type_is, Scope}
use Rattle.fx_infer.specs.Environment.{Env, scope}
use Rattle.fx_infer.specs.Environment as environment
use Rattle.fx_infer.specs.Infers.{Infers, HasNone}
use Rattle.fx_infer.specs.Lists.{labels_in}
use Rattle.fx_infer.specs.Names.{env_under}
use Rattle.fx_infer.specs.Parameters.{field_if}
use Rattle.fx_infer.specs.Records.{labels_on}
use Rattle.fx_infer.specs.Typing.{has, has_lets, has_default}

-- the environment of the block, what the function requires, and what it takes from the pipe
abbrev pub Inside : Type 0
Inside = Env × GroundRow × GroundField

abbrev pub or_field : GroundField → GroundField → GroundField
or_field g_absent f = f
or_field (g_is t) f = g_is t

-- with one parameter more, of the type u

abbrev pub needs_with : Label → Default → Ground → GroundRow → GroundRow
needs_with x required u r l = or_field (r l) (field_if (same_text l x) u)
needs_with x _ u r l = r l

abbrev pub input_with : Default → Ground → GroundField → GroundField
input_with by_pipe u f = or_field f (g_is u)
input_with _ u f = f

abbrev pub grown : Label → Default → Ground → Inside → Inside
grown x d u a = (environment.param x u ∷ a.0, needs_with x d u a.1, input_with d u a.2)

-- the parameters, with types that their defaults have too, make b of a
abbrev pub Grows : Scope → List OfParam → Inside → Inside → Type 0
Grows S [] a b = a ≡ b
Grows S (p ∷ ps) a b = (u : Ground) × IsType u × has_default p.default S u × Grows S ps (grown p.label p.default u a) b

-- without parameters
abbrev pub start : Solution → List names.Name → Inside
start s ns = (env_under s ns, λ l. g_absent, g_absent)

-- what a block of code stands for
abbrev pub inside : Solution → blocks.Block → Inside
inside s k = (env_under s k.names, ground_labels s (labels_in k.required), ground_pipe s (pipe_of (option_map term k.pipe)))

-- one parameter more makes b of the block
abbrev pub ParamOf : List names.Name → params.Param → blocks.Block → Solution → Inside → Type 0
ParamOf ns p k s b = Grows (scope (env_under s ns)) (param p ∷ []) (inside s k) b

-- the default has the type
abbrev pub DefaultOf : List names.Name → kinds.ParamKind → Solution → Ground → Type 0
DefaultOf ns d s u = has_default (default_of d) (scope (env_under s ns)) u

-- the block has the type in the environment
abbrev pub BlockIn : Props → Tree → Env → Ground → Type 0
BlockIn lets e env t = has_lets lets (scope env) (λ T. has e T (type_is t))

abbrev pub FindsBlock : (Solution → Inside → Type 0) → Bindings → Option scopes.Scoped → Type 0
FindsBlock T old None = HasNone T old
FindsBlock T old (Some r) = Infers T old r.bindings (λ s. inside s r.block)

-- whether parameters and a block are declared, as code tells it

abbrev pub params_on : List params.Param → List Label
params_on ps = map (λ p. p.label) ps

abbrev pub takes_pipe : Default → Bool
takes_pipe by_pipe = true
takes_pipe _ = false

abbrev pub any_pipe : List params.Param → Bool
any_pipe [] = false
any_pipe (p ∷ ps) = takes_pipe (default_of p.default) || any_pipe ps

abbrev pub one_pipe : List params.Param → Bool
one_pipe [] = true
one_pipe (p ∷ ps) = if takes_pipe (default_of p.default) then not (any_pipe ps) else one_pipe ps

abbrev pub are_declared : List params.Param → List props.Prop → Bool
are_declared ps ls = (differ (params_on ps) && differ (labels_on ls)) && one_pipe ps
