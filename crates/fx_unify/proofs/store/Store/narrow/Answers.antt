use Rattle.fx_unify.proofs.BoundLaws.{by_variable, by_head, no_head}
use Rattle.fx_unify.proofs.Cases.{is_head}
use Rattle.fx_unify.proofs.store.Store.narrow.Goals as goal

pub returns-in-Var : goal.returns-in-Var
returns-in-Var c =
    by_variable c.args.self.now c.args.bound.now c.in_ok-head.head.now c.in_ok-head.ensures.same c.in-Var.number c.in-Var.is c.in_ok-head.ensures.free c.args.sorts.now.items c.narrow_at.new.sorts.items c.narrow_at.result c.narrow_at.ensures

pub holds-requires : goal.holds-requires
holds-requires c =
    is_head c.in_ok-head.head.now c.in_default.not-Var

pub returns-then-holds : goal.returns-then-holds
returns-then-holds c =
    by_head c.args.self.now c.args.bound.now c.in_ok-head.head.now c.in_ok-head.ensures.same c.args.sorts.now.items c.holds.result c.holds.ensures c.if-holds.true

pub returns : goal.returns
returns c =
    no_head c.args.self.now c.args.bound.now c.in_ok-head.head.now c.in_ok-head.ensures.same c.args.sorts.now.items c.args.sorts.now.items c.holds.result c.holds.ensures c.if-holds.false
