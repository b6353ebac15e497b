use Rattle.std.proofs.Common.{map}
use Rattle.fx_rowfn.proofs.TakeLaws.{listed_first, listed_second}
use Rattle.fx_rowfn.proofs.takes.is_known.Goals as goal

pub returns-then-is_listed : goal.returns-then-is_listed
returns-then-is_listed c =
    listed_first c.args.label.now (map (λ x. x.now) c.args.due.now) (map (λ x. x.now) c.args.free.now) c.is_listed.result c.is_listed.ensures c.if-is_listed.true

pub returns-else-is_listed : goal.returns-else-is_listed
returns-else-is_listed c =
    listed_second c.args.label.now (map (λ x. x.now) c.args.due.now) (map (λ x. x.now) c.args.free.now) c.is_listed.result c.is_listed-else-is_listed.result
    c.is_listed.ensures c.if-is_listed.false c.is_listed-else-is_listed.ensures
