use Rattle.fx_types.specs.Shape.{term}
use Rattle.fx_generalize.specs.Solved.{HasInstance}
use Rattle.fx_infer.proofs.KeptLaws.{instance_asked}
use Rattle.fx_infer.proofs.kept.instance_of.Goals as goal

pub returns : goal.returns
returns c =
    instance_asked (HasInstance c.args.kept.now) c.args.bindings c.in_ok-used.used.bindings c.in_ok-bindings.bindings c.in-Some.number (term c.in_ok-used.used.ty) c.in-Some.ensures.number.0 c.in_ok-used.ensures.used c.in_ok-used.ensures.more
    c.in_ok-bindings.ensures.ok c.in_ok-bindings.ensures.next
