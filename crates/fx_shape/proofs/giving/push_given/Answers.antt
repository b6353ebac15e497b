use Rattle.std.proofs.Common.{◌≡◌, List, subst}
use Rattle.std.specs.Prelude.{IfOk}
use Rattle.fx_data.specs.declared.keyed_row.KeyedRow.{KeyedRow}
use Rattle.fx_group.specs.Turned.{with_rows}
use Rattle.fx_shape.proofs.Given.{keyed_given, one_given}
use Rattle.fx_shape.proofs.giving.push_given.Goals as goal

pub push_moved-requires-clause-one : goal.push_moved-requires-clause-one
push_moved-requires-clause-one c = one_given c.args.content.now c.args.label.now c.args.table c.in_ok-rows.rows c.in_ok-rows.ensures c.requires

pub returns : goal.returns
returns c =
    subst (λ (rs : List KeyedRow). IfOk c.push_moved.result (λ r. r ≡ with_rows c.args.runs rs))
    (keyed_given c.args.content.now c.args.label.now c.args.table c.in_ok-rows.rows c.in_ok-rows.ensures) c.push_moved.ensures
