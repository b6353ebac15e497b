use Rattle.std.proofs.Common.{◌≡◌, List, ◌∷◌, [], ◌++◌}
use Rattle.fx_pivot.specs.Cells.{cells_by_place}
use Rattle.fx_pivot.specs.Ordered.{Places, NoneBelow, Ascend, with_all, lines_of}
use Rattle.fx_pivot.specs.declared.placing.Line.{Line}
use Rattle.fx_pivot.proofs.placing.lines_in_order.Given as goal

abbrev pub invariant-loop-cell : goal.invariant-loop-cell
invariant-loop-cell l = record {
  places : (m : Places) × (l.lines.items ≡ lines_of l.labels m) × (with_all m l.cell-iterator.rest.items ≡ cells_by_place l.fn.cells.items);
  order : Ascend l.cell-iterator.rest.items;
  last : (front : List Line) (x : Line) → l.lines.items ≡ front ++ x ∷ [] → NoneBelow x.place l.cell-iterator.rest.items;
}
