use Rattle.std.proofs.Common.{◌≡◌, take}
use Rattle.std.specs.Prelude.{fold}
use Rattle.std.specs.FinMap as fin
use Rattle.fx_shape.specs.Naming.{name, stays}
use Rattle.fx_shape.specs.Relabelled.{put_label}
use Rattle.fx_shape.proofs.naming.relabelled.Given as goal

abbrev pub invariant-loop-label : goal.invariant-loop-label
invariant-loop-label l = l.made ≡ fold (put_label (stays l.naming) (name l.naming) l.head) fin.empty (take l.label-index l.labels)
