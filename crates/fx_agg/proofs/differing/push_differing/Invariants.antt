use Rattle.std.proofs.Common.{◌≡◌, map}
use Rattle.std.specs.BTreeSet.{contains}
use Rattle.std.specs.Prelude.{codes}
use Rattle.fx_group.specs.Turned.{with_rows}
use Rattle.fx_value.specs.Scalar.{scalar_cmp}
use Rattle.fx_agg.specs.Distinct.{values, differing, distinct_rows}
use Rattle.fx_agg.specs.OneRow.{valued}
use Rattle.fx_agg.proofs.Values.{unseen}
use Rattle.fx_agg.proofs.differing.push_differing.Given as goal

abbrev pub invariant-loop-row : goal.invariant-loop-row
invariant-loop-row l =
    with_rows l.runs (map (valued l.key (codes "_value")) (unseen (contains scalar_cmp l.seen) (differing (values l.column l.row-iterator.rest.items))))
    ≡ with_rows l.fn.runs (distinct_rows l.column l.fn.table)
