use Rattle.std.proofs.Common.{◌∙◌, ap, map}
use Rattle.fx_types.specs.Shape.{label_term}
use Rattle.fx_schemes.specs.Plan.{param_of}
use Rattle.fx_schemes.proofs.Lists.{pushed_seen}
use Rattle.fx_schemes.proofs.Rolled.{label_rolled, same_param}
use Rattle.fx_schemes.proofs.terms.params.Goals as goal

pub loop-param-preserved : goal.loop-param-preserved
loop-param-preserved c =
    let entry = label_rolled c.in_ok-of.field-0 c.in_ok-simple_ty.field-0 ∙ same_param _ _ _ _ c.in_ok-of.ensures c.in_ok-simple_ty.ensures in
    ap (map label_term) c.in_ok-push.ensures.ok
    ∙ pushed_seen label_term _ param_of c.args.params.now c.loop-param.param-index _ c.loop-param.list _ c.loop-param-test.true entry c.loop-param.invariant
