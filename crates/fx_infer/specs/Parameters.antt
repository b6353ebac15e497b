-- Parameters of a function literal, and the types and lines that they make.
use Rattle.std.specs.Prelude.{◌≡◌, ◌≤◌, Bool, true, false, ◌||◌, List, [], ◌∷◌, Option, None, Some, map, length}
use Rattle.fx_base.specs.Text.{same_text}
use Rattle.fx_types.specs.Term.{Label}
use Rattle.fx_types.specs.Ground.{Ground, GroundField, g_fun, g_absent, g_is}
use Rattle.fx_types.specs.Size.{IsType}
use Rattle.fx_schemes.specs.Builtins.{differ}
use Rattle.fx_schemes.specs.Line.{Line}
use Rattle.fx_ast.specs.Lists.{prop_list, param_list}
use Rattle.fx_ast.specs.Tree.{Props, Params, no_params, more_params, required, by_pipe, by_value}
use Rattle.fx_infer.specs.Ask.{type_is, line_is, Answers, Scope, of_type, with_name}

abbrev pub prop_names : Props → List Label
prop_names ps = map (λ p. p.label) (prop_list ps)

abbrev pub param_names : Params → List Label
param_names ps = map (λ p. p.label) (param_list ps)

-- the parameters that a call must give, those that it may leave out, and those that take what comes by the pipe

abbrev pub is_required : Label → Params → Bool
is_required l no_params = false
is_required l (more_params x required ps) = same_text l x || is_required l ps
is_required l (more_params x _ ps) = is_required l ps

abbrev pub is_optional : Label → Params → Bool
is_optional l no_params = false
is_optional l (more_params x (by_value e) ps) = same_text l x || is_optional l ps
is_optional l (more_params x _ ps) = is_optional l ps

abbrev pub piped : Params → List Label
piped no_params = []
piped (more_params x by_pipe ps) = x ∷ piped ps
piped (more_params x _ ps) = piped ps

abbrev pub first : List Label → Option Label
first [] = None
first (x ∷ xs) = Some x

-- each name is declared once among the parameters and once in the block, and at most one parameter is that of the pipe
abbrev pub AreDeclared : Params → Props → Type 0
AreDeclared ps ls = (differ (param_names ps) ≡ true) × (differ (prop_names ls) ≡ true) × (length (piped ps) ≤ 1)

-- the function that they make, where P gives each its type and t is the result

abbrev pub field_if : Bool → Ground → GroundField
field_if true t = g_is t
field_if false t = g_absent

abbrev pub input_of : Option Label → (Label → Ground) → GroundField
input_of None P = g_absent
input_of (Some x) P = g_is (P x)

-- as a value: defaults fill what isn't required
abbrev pub type_of : Params → (Label → Ground) → Ground → Ground
type_of ps P t = g_fun (λ l. field_if (is_required l ps) (P l)) (input_of (first (piped ps)) P) t

-- called by label
abbrev pub line_of : Params → (Label → Ground) → Ground → Line
line_of ps P t = record { labels = []; type = type_of ps P t; optional = λ l. field_if (is_optional l ps) (P l); pipe_label = first (piped ps) }

-- a function literal; Has P t says that its parts have the types P of its parameters and t of its result
abbrev pub literal : Params → ((Label → Ground) → Ground → Type 0) → Answers
literal ps Has (type_is u) = IsType u × ((P : Label → Ground) × (t : Ground) × (type_of ps P t ≡ u) × Has P t)
literal ps Has (line_is L) = (P : Label → Ground) × (t : Ground) × (line_of ps P t ≡ L) × IsType L.type × Has P t
literal ps Has _ = ⊥

-- the scope of the function's block: each parameter has its one type
abbrev pub with_params : Params → (Label → Ground) → Scope → Scope
with_params no_params P S = S
with_params (more_params x d ps) P S = with_params ps P (with_name x (of_type (P x)) S)
