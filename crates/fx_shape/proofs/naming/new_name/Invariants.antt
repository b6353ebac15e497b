use Rattle.std.proofs.Common.{◌≡◌, drop}
use Rattle.fx_shape.specs.Rename.{new_name}
use Rattle.fx_shape.proofs.naming.new_name.Given as goal

abbrev pub invariant-loop-i : goal.invariant-loop-i
invariant-loop-i l = new_name l.olds l.news l.label ≡ new_name (drop l.i l.olds) (drop l.i l.news) l.label
