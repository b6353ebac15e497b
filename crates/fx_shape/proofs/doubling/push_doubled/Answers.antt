use Rattle.std.proofs.Common.{◌≡◌, List, not, ap, subst}
use Rattle.std.specs.Prelude.{IfOk}
use Rattle.fx_data.specs.declared.keyed_row.KeyedRow.{KeyedRow}
use Rattle.fx_group.specs.Turned.{with_rows}
use Rattle.fx_shape.proofs.Doubled.{keyed_doubled, one_where}
use Rattle.fx_shape.proofs.doubling.push_doubled.Goals as goal

pub push_moved-requires-clause-one : goal.push_moved-requires-clause-one
push_moved-requires-clause-one c =
    one_where c.args.doubling.now.from c.args.doubling.now.to c.args.table c.in_ok-rows.rows c.in_ok-rows.ensures (not c.has_label-one.result) (ap not c.has_label-one.ensures) c.requires.columns

pub returns : goal.returns
returns c =
    subst (λ (rs : List KeyedRow). IfOk c.push_moved.result (λ r. r ≡ with_rows c.args.runs rs))
    (keyed_doubled c.args.doubling.now.from c.args.doubling.now.to c.args.table c.in_ok-rows.rows c.in_ok-rows.ensures) c.push_moved.ensures
