-- A typed expression isn't stuck, and its value fits its types.
use Rattle.std.proofs.Common.{◌≡◌, Bool, true, false, ◌∷◌, ℕ, IsTrue}
use mathlib.Core.Bool.{false≢true}
use Rattle.fx_base.specs.Text.{same_text}
use Rattle.fx_base.specs.declared.place.Place.{Place}
use Rattle.fx_types.specs.Term.{Label}
use Rattle.fx_ops.specs.Whole.{in_64_bits}
use Rattle.fx_types.specs.Ground.{Ground}
use Rattle.fx_ast.specs.Free.{free}
use Rattle.fx_ast.specs.Tree.{Tree, tree, name}
use Rattle.fx_meaning.specs.declared.setting.Setting.{Setting}
use Rattle.fx_meaning.specs.Meaning.{Tests, meaning, means, nested}
use Rattle.fx_meaning.specs.Value.{Slots, Val}
use Rattle.fx_infer.specs.Ask.{either, type_is}
use Rattle.fx_infer.specs.Environment.{Env, HasType, assigned, scope}
use Rattle.fx_build.specs.Fit.{Meets, fits}
use Rattle.fx_build.specs.Safe.{IsSafe}
use Rattle.fx_build.specs.Sound.{FitsAll}
use Rattle.fx_build.proofs.Callable.{nested_safe, trees_fit}
use Rattle.fx_build.proofs.Entered.{TreesFit}
use Rattle.fx_build.proofs.NativeCalls.{natives_run}
use Rattle.fx_build.proofs.SafeLaws.{safe_cut, safe_every}
use Rattle.fx_plan.proofs.SlotLaws.{same_itself}

-- under each limit on how deep calls nest, the trees of typed expressions have values that fit
pub nested_trees : (test : Tests) (n : ℕ) (setting : Setting) (moment : IsTrue (in_64_bits setting.moment)) → TreesFit test (nested test n) setting moment
nested_trees test n = trees_fit test natives_run (nested test n) (nested_safe test natives_run n)

-- a typed expression, in values that meet its environment, isn't stuck under any limit, and its value fits the type
pub expression_safe : (test : Tests) (setting : Setting) (env : Env) (slots : Slots) (e : Tree) (t : Ground) (limit : ℕ) → Meets (free e) setting env slots → HasType env e t
    → IsSafe (λ v. fits v t) (meaning test setting e slots limit)
expression_safe test setting env slots e t limit met h =
    safe_cut (λ v. fits v t) limit (means test (nested test limit) setting e slots) (nested_trees test limit setting met.0 env slots e t met.1 h)

-- and its value fits every type that it has
pub every_type_safe : (test : Tests) (setting : Setting) (env : Env) (slots : Slots) (e : Tree) (t : Ground) (limit : ℕ) → Meets (free e) setting env slots → HasType env e t
    → IsSafe (FitsAll env e) (meaning test setting e slots limit)
every_type_safe test setting env slots e t limit met h =
    safe_every (HasType env e) (λ u v. fits v u) (meaning test setting e slots limit) (λ u k. expression_safe test setting env slots e u limit met k) t h

-- the value of an assignment fits every type of the name too
pub name_fits : (env : Env) (x : Label) (e : Tree) (place : Place) (v : Val) → FitsAll env e v → FitsAll (assigned x e ∷ env) (tree place (name x)) v
name_fits env x e place v h t k = h t (newest (same_text x x) (same_itself x) k.1)
  where
    newest : (c : Bool) → c ≡ true → either c (HasType env e t) (scope env x (type_is t)) → HasType env e t
    newest true same k = k
    newest false same k = absurd (false≢true same)
