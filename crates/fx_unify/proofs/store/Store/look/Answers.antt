use Rattle.std.proofs.Common.{refl, []}
use Rattle.fx_unify.proofs.KeptLaws.{none_counted}
use Rattle.fx_unify.proofs.RunLaws.{looked}
use Rattle.fx_unify.proofs.store.Store.look.Goals as goal

pub decide-requires : goal.decide-requires
decide-requires c = none_counted c.args.self.now [] c.in_ok-counts.counts c.in_ok-counts.ensures.types c.in_ok-counts.ensures.rows

pub returns : goal.returns
returns c = looked c.args.self.now [] c.decide.result refl c.decide.ensures.checked
