use Rattle.std.proofs.Common.{Ok}
use Rattle.fx_types.specs.Size.{Pipes}
use Rattle.fx_unify.specs.View.{part_seen}
use Rattle.fx_unify.proofs.LeastLaws.{led}
use Rattle.fx_unify.proofs.WeighLaws.{nothing_found, found_type}
use Rattle.fx_unify.proofs.store.Store.count_view.Goals as goal

pub returns-in-Is-clause-nodes : goal.returns-in-Is-clause-nodes
returns-in-Is-clause-nodes c =
    led c.args.self.now c.args.sorts.now Pipes (part_seen c.args.view) (part_seen c.in_ok-found.found) c.in_ok-found.ensures.leads c.in_ok-found.ensures.same c.count.result c.args.room
    (found_type c.args.self.now c.args.sorts.now Pipes c.in_ok-found.found c.in-Is.ty c.count.result c.args.room c.in-Is.is c.count.ensures.nodes)

pub returns-in_default : goal.returns-in_default
returns-in_default c = record {
  counts = c.requires;
  nodes = led c.args.self.now c.args.sorts.now Pipes (part_seen c.args.view) (part_seen c.in_ok-found.found) c.in_ok-found.ensures.leads c.in_ok-found.ensures.same (Ok 0) c.args.room
      (nothing_found c.args.self.now c.args.sorts.now Pipes c.in_ok-found.found c.args.room tt c.in_default.not-Is c.in_ok-found.ensures.free);
}
