use borrow.Author.Count.{below_more}
use Rattle.std.proofs.Common.{◌<◌, slice_index, arith}
use Rattle.fx_generalize.specs.Named.{IsUnnamedRow}
use Rattle.fx_generalize.proofs.apart.rows_apart.Goals as goal

pub loop-row-preserved : goal.loop-row-preserved
loop-row-preserved c =
    below_more (λ k. IsUnnamedRow c.args.names.now (slice_index c.args.rows.now k)) c.loop-row.row-index c.loop-row.invariant (c.is_unnamed_row.ensures c.if-not-is_unnamed_row.false)

pub returns : goal.returns
returns c = λ e k lt. c.loop-row.invariant k (let less : k < c.loop-row.row-index = omega arith in less)
