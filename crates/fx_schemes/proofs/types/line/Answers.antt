use Rattle.fx_schemes.specs.Builtins.{IsLine}
use Rattle.fx_schemes.proofs.types.line.Goals as goal

pub returns-in-Filter : goal.returns-in-Filter
unfolding IsLine
returns-in-Filter c = rw c.in-Filter.is c.filter.ensures

pub returns-in-Group : goal.returns-in-Group
unfolding IsLine
returns-in-Group c = rw c.in-Group.is c.group.ensures

pub returns-in-AggregateWindow : goal.returns-in-AggregateWindow
unfolding IsLine
returns-in-AggregateWindow c = rw c.in-AggregateWindow.is c.aggregate_window.ensures

pub returns-in-Count : goal.returns-in-Count
unfolding IsLine
returns-in-Count c = rw c.in-Count.is c.count.ensures

pub returns-in-Sum : goal.returns-in-Sum
unfolding IsLine
returns-in-Sum c = rw c.in-Sum.is c.sum.ensures

pub returns-in-Spread : goal.returns-in-Spread
unfolding IsLine
returns-in-Spread c = rw c.in-Spread.is c.sum-in-Spread.ensures

pub returns-in-Distinct : goal.returns-in-Distinct
unfolding IsLine
returns-in-Distinct c = rw c.in-Distinct.is c.distinct.ensures

pub returns-in-Min : goal.returns-in-Min
unfolding IsLine
returns-in-Min c = rw c.in-Min.is c.extreme.ensures

pub returns-in-Max : goal.returns-in-Max
unfolding IsLine
returns-in-Max c = rw c.in-Max.is c.extreme-in-Max.ensures

pub returns-in-First : goal.returns-in-First
unfolding IsLine
returns-in-First c = rw c.in-First.is c.end.ensures

pub returns-in-Last : goal.returns-in-Last
unfolding IsLine
returns-in-Last c = rw c.in-Last.is c.end-in-Last.ensures

pub returns-in-Keep : goal.returns-in-Keep
unfolding IsLine
returns-in-Keep c = rw c.in-Keep.is c.keep.ensures

pub returns-in-Drop : goal.returns-in-Drop
unfolding IsLine
returns-in-Drop c = rw c.in-Drop.is c.without.ensures

pub returns-in-Rename : goal.returns-in-Rename
unfolding IsLine
returns-in-Rename c = rw c.in-Rename.is c.rename.ensures

pub returns-in-Duplicate : goal.returns-in-Duplicate
unfolding IsLine
returns-in-Duplicate c = rw c.in-Duplicate.is c.duplicate.ensures

pub returns-in-Set : goal.returns-in-Set
unfolding IsLine
returns-in-Set c = rw c.in-Set.is c.set.ensures

pub returns-in-Fill : goal.returns-in-Fill
unfolding IsLine
returns-in-Fill c = rw c.in-Fill.is c.fill.ensures

pub returns-in-Sort : goal.returns-in-Sort
unfolding IsLine
returns-in-Sort c = rw c.in-Sort.is c.sort.ensures

pub returns-in-Difference : goal.returns-in-Difference
unfolding IsLine
returns-in-Difference c = rw c.in-Difference.is c.steps.ensures

pub returns-in-CumulativeSum : goal.returns-in-CumulativeSum
unfolding IsLine
returns-in-CumulativeSum c = rw c.in-CumulativeSum.is c.steps-in-CumulativeSum.ensures

pub returns-in-Elapsed : goal.returns-in-Elapsed
unfolding IsLine
returns-in-Elapsed c = rw c.in-Elapsed.is c.elapsed.ensures

pub returns-in-Pivot : goal.returns-in-Pivot
unfolding IsLine
returns-in-Pivot c = rw c.in-Pivot.is c.pivot.ensures

pub returns-in-JoinTime : goal.returns-in-JoinTime
unfolding IsLine
returns-in-JoinTime c = rw c.in-JoinTime.is c.join_time.ensures
