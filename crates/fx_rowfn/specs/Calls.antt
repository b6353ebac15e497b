-- The work that is left of a call: its arguments, what is called with them, and the parameters and assignments of a
-- function literal.
use Rattle.std.specs.Prelude.{◌≡◌, ℕ, ◌+◌, ℤ, Bool, true, false, List, Option, None, Some}
use Rattle.fx_ast.specs.Shape.{param}
use Rattle.fx_ast.specs.Tree.{Default, required, by_pipe, by_value, Params, no_params, more_params, Props, Trees}
use Rattle.fx_ast.specs.declared.expr.Param.{Param}
use Rattle.fx_base.specs.declared.place.Place.{Place}
use Rattle.fx_meaning.specs.Ends.{◌>>=◌}
use Rattle.fx_meaning.specs.Meaning.{Tests, applied_to, means_pipes, means_props, piped_by, piped_to}
use Rattle.fx_meaning.specs.Value.{Label, Slots, Val, push}
use Rattle.fx_value.specs.Ends.{End}
use Rattle.fx_values.specs.Shape.{OfClosure, closed}
use Rattle.fx_rowfn.specs.Frame as plain
use Rattle.fx_rowfn.specs.Frame.{calls_above, unwound}
use Rattle.fx_rowfn.specs.State.{args_of, assigns_left, bound_left, entered_left, params_past, props_past, scope_of}
use Rattle.fx_rowfn.specs.declared.frame.Entry.{Entry}
use denote.Bor.{Bor}

-- a value more behind those of a scope
abbrev pub with_value : plain.Scope → Label → Val → plain.Scope
with_value scope x v = record { env = push scope.env x v; setting = scope.setting }

-- what stands at a place of the parameters, and what behind it
abbrev pub ParamAt : (ℕ → Params) → ℕ → Option (Bor Param) → Type 0
ParamAt from n None = from n ≡ no_params
ParamAt from n (Some p) = from n ≡ more_params (param p.now).label (param p.now).default (from (n + 1))

-- the parameters and the assignments that a call still has before it
abbrev pub params_left : Entry → Params
params_left e = params_past e.next (closed e.closure.value).params

abbrev pub lets_left : Entry → Props
lets_left e = props_past e.next (closed e.closure.value).lets

-- the work of a call with these before it
abbrev pub binds_left : Tests → Params → Entry → ℕ → List plain.Frame → End Val
binds_left test ps e limit fs =
    bound_left test limit fs (scope_of e.scope) ps (closed e.closure.value).captured (args_of e) (closed e.closure.value).lets (closed e.closure.value).result

abbrev pub sets_left : Tests → Props → Entry → ℕ → List plain.Frame → End Val
sets_left test lets e limit fs = assigns_left test limit fs (scope_of e.scope) lets (closed e.closure.value).result

-- a value applied to arguments
abbrev pub applied_left : Tests → Place → ℤ → Slots → Val → ℕ → List plain.Frame → End Val
applied_left test place moment args f limit fs = applied_to (calls_above test limit fs) place moment args f >>= unwound test limit fs

abbrev pub piped_left : Tests → Place → ℤ → Slots → Val → Val → ℕ → List plain.Frame → End Val
piped_left test place moment args input f limit fs = piped_to (calls_above test limit fs) place moment args input f >>= unwound test limit fs

abbrev pub piped_by_left : Tests → Place → ℤ → Slots → Val → Label → Val → ℕ → List plain.Frame → End Val
piped_by_left test place moment args input x f limit fs = piped_by (calls_above test limit fs) place moment args input (Some x) f >>= unwound test limit fs

-- whether a parameter takes what comes by the pipe
abbrev pub is_piped : Default → Bool
is_piped required = false
is_piped by_pipe = true
is_piped (by_value e) = false

-- a function literal with arguments that it takes
abbrev pub enters_left : Tests → OfClosure → Slots → ℕ → List plain.Frame → End Val
enters_left test c args limit fs = entered_left test limit fs c args

-- the arguments behind those that stand, and then the call
abbrev pub args_left : Tests → plain.Scope → Place → Val → Props → Slots → ℕ → List plain.Frame → End Val
args_left test scope place f ps done limit fs =
    (means_props test (calls_above test limit fs) scope.setting ps scope.env done
    >>= (λ args. applied_to (calls_above test limit fs) place scope.setting.moment args f)) >>= unwound test limit fs

abbrev pub piped_args_left : Tests → plain.Scope → Place → Val → Val → Props → Slots → ℕ → List plain.Frame → End Val
piped_args_left test scope place input f ps done limit fs =
    (means_props test (calls_above test limit fs) scope.setting ps scope.env done
    >>= (λ args. piped_to (calls_above test limit fs) place scope.setting.moment args input f)) >>= unwound test limit fs

-- calls, each with what came before by the pipe
abbrev pub pipes_left : Tests → plain.Scope → Trees → Val → ℕ → List plain.Frame → End Val
pipes_left test scope es v limit fs = means_pipes test (calls_above test limit fs) scope.setting es scope.env v >>= unwound test limit fs
