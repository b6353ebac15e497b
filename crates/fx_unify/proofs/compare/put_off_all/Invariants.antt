use Rattle.std.proofs.Common.{◌≡◌, ◌↔◌, false, take}
use Rattle.fx_types.specs.Ground.{listed}
use Rattle.fx_types.specs.Instance.{Solution}
use Rattle.fx_types.specs.Shape.{row_term}
use Rattle.fx_types.specs.Term.{Label}
use Rattle.fx_unify.specs.Known.{AreHashed}
use Rattle.fx_unify.specs.Rows.{ground_row, ground_entries, SameAt}
use Rattle.fx_unify.specs.Work.{Hold}
use Rattle.fx_unify.proofs.compare.put_off_all.Given as goal

abbrev pub invariant-loop-label : goal.invariant-loop-label
invariant-loop-label l = record {
  put_off : (s : Solution) → Hold s l.work.items ↔ (Hold s l.initial.work.items × SameAt (ground_row s (row_term l.fn.a)) (ground_row s (row_term l.fn.b)) (take l.label-index l.labels));
  left : (s : Solution) (x : Label) → listed x (take l.label-index l.labels) ≡ false → ground_entries s l.left x ≡ ground_row s (row_term l.fn.a) x;
  right : (s : Solution) (x : Label) → listed x (take l.label-index l.labels) ≡ false → ground_entries s l.right x ≡ ground_row s (row_term l.fn.b) x;
  left_hashed : AreHashed l.left;
  right_hashed : AreHashed l.right;
}
