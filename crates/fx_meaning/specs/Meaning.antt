-- What an expression means: how its evaluation ends in an environment of values, under a limit on ticks. A tick is a call
-- of a function literal.
use Rattle.std.specs.Prelude.{ℕ, zero, suc, nat_eq, ◌&&◌, Bool, true, false, List, [], ◌∷◌, Option, None, Some, ℤ, if◌then◌else◌}
use Rattle.fx_ast.specs.Free.{free_fun, name_of}
use Rattle.fx_ast.specs.Places.{first_place}
use Rattle.fx_ast.specs.Tree.{Tree, tree, Shape, int, time, span, text, pattern, name, paren, array, rec, fun, call, pipe, member, index, chain, prefix, if_then, Trees, no_trees, more_trees, Parts, no_parts, piece, hole, Props, no_props, more_props, Params, no_params, more_params, Default, required, by_pipe, by_value, Links, no_links, more_links}
use Rattle.fx_base.specs.Text.{same_text}
use Rattle.fx_base.specs.declared.place.Place.{Place}
use Rattle.fx_value.specs.Ends.{End, Stuck, More, later, cut}
use Rattle.fx_value.specs.declared.scalar.Scalar.TheVariants as scalar
use Rattle.fx_meaning.specs.declared.setting.Placed.{Placed}
use Rattle.fx_meaning.specs.declared.setting.Setting.{Setting}
use Rattle.fx_meaning.specs.Ends.{◌>>=◌, pure, found}
use Rattle.fx_meaning.specs.Forms.{cell_in, fields_in, items_in, truth_in}
use Rattle.fx_meaning.specs.Native.{native_pipe, takes_native, value_if}
use Rattle.fx_meaning.specs.Native as natives
use Rattle.fx_meaning.specs.Natives.{native_call}
use Rattle.fx_meaning.specs.Operators.{behind, decides, indexed, member_of, operate, prefixed, printed, text_made}
use Rattle.fx_meaning.specs.Value as value
use Rattle.fx_meaning.specs.Value.{Label, Val, Vals, no_vals, Slots, no_slots, more_slots, look, or_else, is_there, push, push_val, keep}

-- how a call of a function literal ends: its parameters, assignments, result, captured values and setting, and the
-- arguments
abbrev pub Calls : Type 0
Calls = Params → Props → Tree → Slots → Setting → Slots → End Val

-- what says whether a text matches the pattern with a number
abbrev pub Tests : Type 0
Tests = ℕ → List ℕ → Bool

-- the number of the pattern literal at the place, None where the setting doesn't have it
abbrev pub numbered : List Placed → Place → Option ℕ
numbered [] place = None
numbered (p ∷ ps) place = if nat_eq p.place.at place.at then Some p.number else numbered ps place

-- the value of a name: what is bound to it, the last one, or else what the language has under it
abbrev pub named : Label → Slots → Option Val
named x env = or_else (look x env) (value_if (natives.named x))

-- ---- calls

abbrev pub is_param : Label → Params → Bool
is_param x no_params = false
is_param x (more_params y d ps) = if same_text x y then true else is_param x ps

abbrev pub are_params : Slots → Params → Bool
are_params no_slots ps = true
are_params (more_slots x v args) ps = is_param x ps && are_params args ps

abbrev pub has_argument : Label → Default → Slots → Bool
has_argument x (by_value e) args = true
has_argument x required args = is_there (look x args)
has_argument x by_pipe args = is_there (look x args)

abbrev pub all_given : Params → Slots → Bool
all_given no_params args = true
all_given (more_params x d ps) args = has_argument x d args && all_given ps args

-- a call may have these arguments: one for each parameter without a default, and none that is no parameter
abbrev pub takes : Params → Slots → Bool
takes ps args = all_given ps args && are_params args ps

abbrev pub pipe_of : Params → Option Label
pipe_of no_params = None
pipe_of (more_params x by_pipe ps) = Some x
pipe_of (more_params x required ps) = pipe_of ps
pipe_of (more_params x (by_value e) ps) = pipe_of ps

-- the label of what a function takes by the pipe
abbrev pub pipe_label : Val → Option Label
pipe_label (value.closure ps lets e captured setting) = pipe_of ps
pipe_label (value.native g) = native_pipe g
pipe_label _ = None

module _ (calls : Calls) (place : Place) (moment : ℤ) (args : Slots) where
  -- a value applied to arguments; the place is that of its faults
  abbrev pub applied_to : Val → End Val
  applied_to (value.closure ps lets e captured setting) = if takes ps args then calls ps lets e captured setting args else Stuck
  applied_to (value.native g) = if takes_native g args then native_call place moment args g else Stuck
  applied_to _ = Stuck

module _ (calls : Calls) (place : Place) (moment : ℤ) (args : Slots) (input : Val) where
  abbrev pub piped_by : Option Label → Val → End Val
  piped_by None v = Stuck
  piped_by (Some x) v = if is_there (look x args) then Stuck else applied_to calls place moment (push args x input) v

  -- the same with an input by the pipe, whose label has no argument
  abbrev pub piped_to : Val → End Val
  piped_to v = piped_by (pipe_label v) v

-- ---- expressions

-- an argument that is given, or else the default
abbrev pub given_or : Option Val → End Val → End Val
given_or (Some v) default = pure v
given_or None default = default

module _ (test : Tests) (calls : Calls) (setting : Setting) where
  abbrev mutual
    pub means : Tree → Slots → End Val
    means (tree place s) env = means_shape place s env

    pub means_shape : Place → Shape → Slots → End Val
    means_shape place (int n) env = pure (value.cell (scalar.Int n))
    means_shape place (time t) env = pure (value.cell (scalar.Time t))
    means_shape place (span d) env = pure (value.span d)
    means_shape place (text ps) env = means_parts ps env (Some []) >>= text_made place
    means_shape place (pattern s) env = found (numbered setting.patterns place) >>= (λ number. pure (value.pattern number))
    means_shape place (name x) env = found (named x env)
    means_shape place (paren e) env = means e env
    means_shape place (array es) env = means_trees es env no_vals >>= (λ vs. pure (value.array vs))
    means_shape place (rec None ps) env = means_props ps env no_slots >>= (λ fields. pure (value.rec fields))
    means_shape place (rec (Some x) ps) env =
        found (named x env) >>= fields_in >>= means_props ps env >>= (λ fields. pure (value.rec fields))
    means_shape place (fun ps lets e) env =
        pure (value.closure ps lets e (keep (λ x. free_fun ps lets e (name_of x)) env) setting)
    means_shape place (call e ps) env =
        means e env >>= (λ v. means_props ps env no_slots >>= (λ args. applied_to calls (first_place e) setting.moment args v))
    means_shape place (pipe e es) env = means e env >>= means_pipes es env
    means_shape place (member e x) env = means e env >>= (λ v. member_of v x)
    means_shape place (index e at) env =
        means e env >>= (λ v. means at env >>= (λ w. items_in v >>= (λ vs. cell_in w >>= indexed place vs)))
    means_shape place (chain e ls) env = means e env >>= means_links ls env
    means_shape place (prefix sign e) env = means e env >>= prefixed place sign
    means_shape place (if_then a b c) env = means a env >>= truth_in >>= (λ yes. if yes then means b env else means c env)

    -- the items, behind those that stand already
    pub means_trees : Trees → Slots → Vals → End Vals
    means_trees no_trees env vs = pure vs
    means_trees (more_trees e es) env vs = means e env >>= (λ v. means_trees es env (push_val vs v))

    -- labels with values, behind those that stand already
    pub means_props : Props → Slots → Slots → End Slots
    means_props no_props env fields = pure fields
    means_props (more_props x e ps) env fields = means e env >>= (λ v. means_props ps env (push fields x v))

    -- calls, each with what came before by the pipe
    pub means_pipes : Trees → Slots → Val → End Val
    means_pipes no_trees env v = pure v
    means_pipes (more_trees e es) env v = means_pipe e env v >>= means_pipes es env

    pub means_pipe : Tree → Slots → Val → End Val
    means_pipe (tree place s) env v = means_piped s env v

    pub means_piped : Shape → Slots → Val → End Val
    means_piped (call e ps) env v =
        means e env >>= (λ f. means_props ps env no_slots >>= (λ args. piped_to calls (first_place e) setting.moment args v f))
    means_piped _ env v = Stuck

    -- the text of the parts behind a text, None once a hole was null
    pub means_parts : Parts → Slots → Option (List ℕ) → End (Option (List ℕ))
    means_parts no_parts env before = pure before
    means_parts (piece s ps) env before = means_parts ps env (behind before (Some s))
    means_parts (hole e ps) env before = means e env >>= cell_in >>= (λ a. means_parts ps env (behind before (printed a)))

    -- operators from the left; what `and` and `or` decide by their left operand, they decide without the right one
    pub means_links : Links → Slots → Val → End Val
    means_links no_links env v = pure v
    means_links (more_links place op e ls) env v =
        (if decides op v then pure v else (means e env >>= operate test place op v)) >>= means_links ls env

    -- assignments, each in the environment of those before it
    pub means_lets : Props → Slots → End Slots
    means_lets no_props env = pure env
    means_lets (more_props x e ps) env = means e env >>= (λ v. means_lets ps (push env x v))

    -- the parameters with their arguments, behind the environment; a default is evaluated in the captured one
    pub bound : Params → Slots → Slots → Slots → End Slots
    bound no_params captured args env = pure env
    bound (more_params x d ps) captured args env = given d captured (look x args) >>= (λ v. bound ps captured args (push env x v))

    pub given : Default → Slots → Option Val → End Val
    given required captured argument = found argument
    given by_pipe captured argument = found argument
    given (by_value e) captured argument = given_or argument (means e captured)

  -- a call's parameters, then the function's assignments, then its result
  abbrev pub entered : Params → Props → Tree → Slots → Slots → End Val
  entered ps lets e captured args = bound ps captured args captured >>= means_lets lets >>= means e

module _ (test : Tests) where
  -- calls that nest at most so deep; each is a tick, so that a limit on ticks is a limit on nesting too
  abbrev pub nested : ℕ → Calls
  nested zero ps lets e captured setting args = More
  nested (suc n) ps lets e captured setting args = later 1 (entered test (nested n) setting ps lets e captured args)

  -- how the evaluation of an expression ends under a limit on ticks: a value or a fault with its ticks, Stuck, or More
  abbrev pub meaning : Setting → Tree → Slots → ℕ → End Val
  meaning setting e env limit = cut limit (means test (nested limit) setting e env)

  -- how a call of a value ends
  abbrev pub call_meaning : Place → ℤ → Slots → Val → ℕ → End Val
  call_meaning place moment args v limit = cut limit (applied_to (nested limit) place moment args v)
