use Rattle.std.proofs.Common.{◌≡◌, map, IfSome, subst}
use Rattle.fx_line.specs.declared.line.LineMode.{LineMode}
use Rattle.fx_line.specs.Line.{Gives}
use Rattle.fx_line.specs.Pieces.{ArePieces}
use Rattle.fx_load.specs.Memo.{ids_of, AreSeries}
use Rattle.fx_load.proofs.learn.known_line.Goals as goal

pub returns : goal.returns
returns c = λ mode given.
    let keys = map (λ p. p.series) c.args.points.now in
    let pieces = subst (λ o. IfSome o (λ p. (mode : LineMode) → Gives mode c.args.line.now c.args.points.now → ArePieces mode p keys)) c.in-Some-2.is c.in_ok-pieces.ensures in
    let series = subst (λ o. IfSome o (λ ns. AreSeries (ids_of c.args.store.now) c.args.bucket.now ns.items keys)) c.in-Some.is c.in_ok-numbers.ensures in
    record { keys = keys; pieces = pieces mode given; series = series }
