use Rattle.fx_unify.proofs.KeptLaws.{nodes_fit, nodes_over}
use Rattle.fx_unify.proofs.store.Store.count_variable.Goals as goal

pub returns-then-room-nodes-clause-counts : goal.returns-then-room-nodes-clause-counts
returns-then-room-nodes-clause-counts c =
    c.keep_nodes.ensures c.args.sorts.now c.requires (c.in-Some.ensures c.args.sorts.now c.requires)

pub returns-then-room-nodes-clause-nodes : goal.returns-then-room-nodes-clause-nodes
returns-then-room-nodes-clause-nodes c =
    nodes_over c.args.self.now c.args.sorts.now c.args.variable c.in-Some.nodes c.args.room (c.in-Some.ensures c.args.sorts.now c.requires) c.if-room-nodes.true

pub returns-in-Some-clause-counts : goal.returns-in-Some-clause-counts
returns-in-Some-clause-counts c =
    c.keep_nodes.ensures c.args.sorts.now c.requires (c.in-Some.ensures c.args.sorts.now c.requires)

pub returns-in-Some-clause-nodes : goal.returns-in-Some-clause-nodes
returns-in-Some-clause-nodes c =
    nodes_fit c.args.self.now c.args.sorts.now c.args.variable c.in-Some.nodes c.args.room (c.in-Some.ensures c.args.sorts.now c.requires) c.if-room-nodes.false

pub returns-in-Ok-clause-counts : goal.returns-in-Ok-clause-counts
returns-in-Ok-clause-counts c =
    c.keep_nodes-in-Ok.ensures c.args.sorts.now c.count_bound.ensures.counts c.in-Ok.ensures.nodes.0
