use Rattle.std.proofs.Common.{sym, ap, ◌∙◌, get_or, None}
use Rattle.fx_unify.proofs.KeptLaws.{bound_counts, free_counts, free_no_room}
use Rattle.fx_unify.proofs.store.Store.count_bound.Goals as goal

pub returns-in-Some-clause-nodes : goal.returns-in-Some-clause-nodes
returns-in-Some-clause-nodes c =
    bound_counts c.args.self.now c.args.sorts.now c.args.variable c.in-Some.ty.now c.count.result c.args.room
    (ap (λ xs. get_or xs c.args.variable None) (sym c.as_slice.ensures.value) ∙ c.in-Some.ensures) c.count.ensures.nodes

pub returns-then-room-eq0-clause-nodes : goal.returns-then-room-eq0-clause-nodes
returns-then-room-eq0-clause-nodes c = free_no_room c.args.self.now c.args.sorts.now c.args.variable c.args.room c.if-room-eq0.true

pub returns-else-room-eq0-clause-nodes : goal.returns-else-room-eq0-clause-nodes
returns-else-room-eq0-clause-nodes c =
    free_counts c.args.self.now c.args.sorts.now c.args.variable c.args.room (ap (λ xs. get_or xs c.args.variable None) (sym c.as_slice.ensures.value) ∙ c.in-None.ensures) c.if-room-eq0.false
