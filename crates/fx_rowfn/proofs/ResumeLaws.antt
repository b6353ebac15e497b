-- What a frame makes of a value, where a rule tells of it.
use Rattle.std.proofs.Common.{◌≡◌, ℕ, Bool, true, false, List, ap, ◌∙◌}
use Rattle.std.specs.Prelude.{Err, if◌then◌else◌}
use Rattle.fx_ast.specs.Shape.{tree_of}
use Rattle.fx_ast.specs.declared.expr.Expr.{Expr}
use Rattle.fx_meaning.specs.Forms.{truth_in}
use Rattle.fx_meaning.specs.Meaning.{Tests, means}
use Rattle.fx_meaning.specs.Value.{Val}
use Rattle.fx_value.proofs.Ends.{later-zero}
use Rattle.fx_value.specs.Ends.{End, Gives, and_then}
use Rattle.fx_values.specs.Told.{Tells}
use Rattle.fx_values.specs.declared.stop.Stop.{Stop}
use Rattle.fx_values.specs.declared.stop.Stop.TheVariants as stop
use Rattle.fx_rowfn.specs.Frame as plain
use Rattle.fx_rowfn.specs.Frame.{Scope, calls_above, unwound}
use Rattle.fx_rowfn.specs.State.{Leads, resumed_left, tree_left}

-- a rule that ends without a value ends all
pub stop_leads : {A B : Type 0} (test : Tests) (f : B → A) (end : End A) (rest : ℕ → List plain.Frame → A → End Val) (why : Stop) → Tells f end (Err why)
    → Leads (λ limit fs. and_then (and_then end (rest limit fs)) (unwound test limit fs)) test (Err why)
stop_leads test f end rest (stop.Fault fault) told = λ limit fs. ap (λ e. and_then (and_then e (rest limit fs)) (unwound test limit fs)) told
stop_leads test f end rest stop.Stuck told = λ limit fs. ap (λ e. and_then (and_then e (rest limit fs)) (unwound test limit fs)) told
stop_leads test f end rest (stop.Budget ticks) told = told
stop_leads test f end rest stop.Memory told = tt

pub branch_leads : (test : Tests) (limit : ℕ) (fs : List plain.Frame) (scope : Scope) (a b : Expr) (v : Val) (holds : Bool) → truth_in v ≡ Gives holds 0
    → resumed_left test (plain.branch scope (tree_of a) (tree_of b)) v limit fs ≡ tree_left test scope (tree_of (if holds then a else b)) limit fs
branch_leads test limit fs scope a b v true is =
    ap (λ e. and_then (and_then e (λ holds. if holds then means test (calls_above test limit fs) scope.setting (tree_of a) scope.env else means test (calls_above test limit fs) scope.setting (tree_of b) scope.env)) (unwound test limit fs)) is
    ∙ ap (λ e. and_then e (unwound test limit fs)) (later-zero (means test (calls_above test limit fs) scope.setting (tree_of a) scope.env))
branch_leads test limit fs scope a b v false is =
    ap (λ e. and_then (and_then e (λ holds. if holds then means test (calls_above test limit fs) scope.setting (tree_of a) scope.env else means test (calls_above test limit fs) scope.setting (tree_of b) scope.env)) (unwound test limit fs)) is
    ∙ ap (λ e. and_then e (unwound test limit fs)) (later-zero (means test (calls_above test limit fs) scope.setting (tree_of b) scope.env))
