use Rattle.fx_unify.proofs.KeptLaws.{one_counted, nodes_after}
use Rattle.fx_unify.proofs.store.Store.keep_nodes.Goals as goal

pub loop-step-init : goal.loop-step-init
loop-step-init c = λ ks counted nodes. (counted, nodes)

pub returns-then-is_some : goal.returns-then-is_some
returns-then-is_some c = λ ks counted nodes. (c.loop-step.invariant ks counted nodes).0

pub returns-in-None : goal.returns-in-None
returns-in-None c =
    λ ks counted nodes. let now = c.loop-step.invariant ks counted nodes in
    one_counted c.args.self.now ks c.loop-step.counts c.keep.new.self c.loop-step.current c.args.nodes now.0 now.1 c.keep.ensures.types c.keep.ensures.rows

pub loop-step-preserved : goal.loop-step-preserved
loop-step-preserved c =
    λ ks counted nodes. let now = c.loop-step.invariant ks counted nodes in
    (one_counted c.args.self.now ks c.loop-step.counts c.keep.new.self c.loop-step.current c.args.nodes now.0 now.1 c.keep.ensures.types c.keep.ensures.rows, nodes_after c.args.self.now ks c.loop-step.current c.in-Some.next c.args.nodes c.in-Some.ensures now.1)

pub returns : goal.returns
returns c = λ ks counted nodes. (c.loop-step.invariant ks counted nodes).0
