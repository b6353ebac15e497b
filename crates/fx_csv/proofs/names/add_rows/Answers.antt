-- A row with the labels of the row before it adds none.
use Rattle.std.proofs.Common.{◌∙◌, sym}
use Rattle.std.specs.FinMap as map
use Rattle.fx_csv.specs.Columns.{column_cmp, column_cmp_total}
use Rattle.fx_csv.proofs.Inserted.{inserted_same}
use Rattle.fx_csv.proofs.names.add_rows.Goals as goal

pub loop-i-preserved-then-same_labels : goal.loop-i-preserved-then-same_labels
loop-i-preserved-then-same_labels c =
    c.loop-i.invariant
    ∙ sym (inserted_same column_cmp column_cmp_total map.keys c.args.names.now.keys c.args.rows.now c.loop-i.i
    c.index-rows-i.result c.index-rows-i-then-i-gt0.result c.if-i-gt0.true c.loop-i-test.true
    c.index-rows-i.is c.index-rows-i-then-i-gt0.is (c.same_labels.ensures.0 c.if-same_labels.true))
