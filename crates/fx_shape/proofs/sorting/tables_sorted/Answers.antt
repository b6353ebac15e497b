use Rattle.std.proofs.Common.{map}
use Rattle.fx_shape.specs.Sort.{table_sorted}
use Rattle.fx_shape.proofs.SortedTables.{sorted_goes, sorted_lawful}
use Rattle.fx_shape.proofs.sorting.tables_sorted.Goals as goal

pub loop-table-preserved : goal.loop-table-preserved
loop-table-preserved c =
    let left = c.next.new.self.rest.items in record {
      same = sorted_goes c.args.columns.now c.args.desc c.loop-table.made.items c.loop-table.table-iterator.rest.items c.push_sorted.new.tables.items c.in-Some.table left
          c.in-Some.ensures.steps.0 c.in_ok-push_sorted.ensures (map (table_sorted c.args.columns.now c.args.desc) c.args.tables) c.loop-table.invariant.same;
      lawful = sorted_lawful c.args.columns.now c.args.desc c.loop-table.made.items c.loop-table.table-iterator.rest.items c.push_sorted.new.tables.items c.in-Some.table left
          c.in-Some.ensures.steps.0 c.in_ok-push_sorted.ensures c.loop-table.invariant.lawful;
    }
