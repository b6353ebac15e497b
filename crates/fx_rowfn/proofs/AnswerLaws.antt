-- From the work of an expression to its meaning under a limit.
use Rattle.std.proofs.Common.{◌≡◌, ℕ, [], sym, ap, subst, arith, ◌∙◌}
use Rattle.std.specs.Prelude.{◌-◌, Err}
use Rattle.fx_ast.specs.Shape.{tree_of}
use Rattle.fx_ast.specs.declared.expr.Expr.{Expr}
use Rattle.fx_base.specs.declared.fault.Fault.{Fault}
use Rattle.fx_base.specs.declared.meter.Meter.{Meter}
use Rattle.fx_meaning.proofs.MeaningLaws.{meaning_limited}
use Rattle.fx_meaning.specs.Meaning.{Tests, meaning, means, nested}
use Rattle.fx_meaning.specs.Value.{Val}
use Rattle.fx_value.proofs.Ends.{then-gives}
use Rattle.fx_value.specs.Calls.{Ended, Exceeded}
use Rattle.fx_value.specs.Ends.{End, Gives, Faults, Stuck, IsLimited, NeverStuck, cut}
use Rattle.fx_values.specs.Shape.{val}
use Rattle.fx_values.specs.declared.stop.Stop.{Stop}
use Rattle.fx_values.specs.declared.stop.Stop.TheVariants as stop
use Rattle.fx_rowfn.specs.Follows.{Follows, Goes, Passes}
use Rattle.fx_rowfn.specs.State.{left, scope_of}
use Rattle.fx_rowfn.specs.declared.frame.Control.TheVariants as control
use Rattle.fx_rowfn.specs.declared.scope.Scope.{Scope}
use Rattle.fx_rowfn.proofs.CutLaws.{budget_cut, fault_cut, stuck_cut, value_cut}

module _ (test : Tests) (scope : Scope) (e : Expr) (before after : Meter) where
  abbrev whole : ℕ → End Val
  whole limit = left test limit [] (control.Eval scope e)

  abbrev told : ℕ → End Val
  told limit = meaning test (scope_of scope).setting (tree_of e) (scope_of scope).env limit

  told_is : told ≡ (λ limit. cut limit (whole limit))
  told_is = λ i limit.
      (let all : limit - 0 ≡ limit = omega arith in
      ap (cut limit)
      (ap (λ n. means test (nested test n) (scope_of scope).setting (tree_of e) (scope_of scope).env) (sym all)
      ∙ sym (then-gives (means test (nested test (limit - 0)) (scope_of scope).setting (tree_of e) (scope_of scope).env)))) i

  pub value_answers : (v : Val) → Goes whole (λ _. Gives v 0) before after → Ended told (Gives v) before after
  value_answers v g = subst (λ t. Ended t (Gives v) before after) (sym told_is) (value_cut whole before after v g)

  pub fault_answers : (f : Fault) → Goes whole (λ _. Faults f 0) before after → Ended told (Faults f) before after
  fault_answers f g = subst (λ t. Ended t (Faults f) before after) (sym told_is) (fault_cut whole before after f g)

  pub never_stuck : NeverStuck told → Goes whole (λ _. Stuck) before after → ⊥
  never_stuck unstuck g = stuck_cut whole before after (subst NeverStuck told_is unstuck) g

  pub budget_answers : (sum : ℕ) → Passes whole before sum → Exceeded told before sum
  budget_answers sum p =
      let limited = subst IsLimited told_is (meaning_limited test (scope_of scope).setting (tree_of e) (scope_of scope).env) in
      subst (λ t. Exceeded t before sum) (sym told_is) (budget_cut whole before after limited sum p)

-- the same of an expression that was copied
module _ (test : Tests) (scope : Scope) (e d : Expr) (before after : Meter) (same : e ≡ d) where
  pub value_of_copy : (v : Val) → Goes (whole test scope e before after) (λ _. Gives v 0) before after → Ended (told test scope d before after) (Gives v) before after
  value_of_copy v g = subst (λ x. Ended (told test scope x before after) (Gives v) before after) same (value_answers test scope e before after v g)

  pub fault_of_copy : (why : Stop) (f : Fault) → why ≡ stop.Fault f → Follows val (whole test scope e before after) before after (Err why) → Ended (told test scope d before after) (Faults f) before after
  fault_of_copy why f is g =
      subst (λ x. Ended (told test scope x before after) (Faults f) before after) same
      (fault_answers test scope e before after f (subst (λ s. Follows val (whole test scope e before after) before after (Err s)) is g))

  pub budget_of_copy : (why : Stop) (sum : ℕ) → why ≡ stop.Budget sum → Follows val (whole test scope e before after) before after (Err why) → Exceeded (told test scope d before after) before sum
  budget_of_copy why sum is g =
      subst (λ x. Exceeded (told test scope x before after) before sum) same
      (budget_answers test scope e before after sum (subst (λ s. Follows val (whole test scope e before after) before after (Err s)) is g))

  pub stuck_of_copy : (why : Stop) → why ≡ stop.Stuck → NeverStuck (told test scope d before after) → Follows val (whole test scope e before after) before after (Err why) → ⊥
  stuck_of_copy why is unstuck g =
      never_stuck test scope e before after (subst (λ x. NeverStuck (told test scope x before after)) (sym same) unstuck)
      (subst (λ s. Follows val (whole test scope e before after) before after (Err s)) is g)
