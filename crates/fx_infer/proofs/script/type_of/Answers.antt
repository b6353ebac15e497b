use Rattle.std.proofs.Common.{subst}
use Rattle.fx_types.specs.Instance.{Solution, ground}
use Rattle.fx_types.specs.Shape.{term}
use Rattle.fx_unify.specs.Solutions.{Solves}
use Rattle.fx_unify.specs.Work.{Within, Told}
use Rattle.fx_infer.specs.Finds.{Finds}
use Rattle.fx_infer.specs.Names.{TypeOf}
use Rattle.fx_infer.proofs.StatementLaws.{none_inferred, none_left, types_left, untyped_left}
use Rattle.fx_infer.proofs.script.type_of.Goals as goal

pub returns-in-None : goal.returns-in-None
returns-in-None c env is =
    none_inferred env c.args.names.now c.args.value.now c.in_ok-none.none is c.in_ok-none.ensures.least
    (subst (Finds (TypeOf c.args.names.now c.args.value.now) c.in_ok-none.none) c.in-None.is c.in_ok-found.ensures)

pub returns-in-Ok : goal.returns-in-Ok
returns-in-Ok c env is = (
  c.in-Ok.ensures.least,
  types_left env c.args.names.now c.args.value.now c.in_ok-none.none is c.in_ok-none.ensures.least c.in-Some.found.bindings c.in-Ok.bindings (term c.in-Some.found.ty)
      (subst (Finds (TypeOf c.args.names.now c.args.value.now) c.in_ok-none.none) c.in-Some.is c.in_ok-found.ensures) c.in-Ok.ensures.ok,
)

pub returns-in-Err : goal.returns-in-Err
returns-in-Err c env is =
    untyped_left env c.args.value.now c.untyped.result c.in-Err.fault c.untyped.ensures
    (λ told. none_left env c.args.names.now c.args.value.now c.in_ok-none.none is c.in_ok-none.ensures.least c.in-Some.found.bindings (λ s. ground s (term c.in-Some.found.ty))
    (subst (Finds (TypeOf c.args.names.now c.args.value.now) c.in_ok-none.none) c.in-Some.is c.in_ok-found.ensures) (subst (λ f. Told f ((s : Solution) → Solves s c.in-Some.found.bindings → Within s → ⊥)) told c.in-Err.ensures.clash))
