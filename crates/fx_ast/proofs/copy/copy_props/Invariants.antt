use Rattle.std.proofs.Common.{◌≡◌, take}
use Rattle.fx_ast.proofs.copy.copy_props.Given as goal

abbrev pub invariant-loop-prop : goal.invariant-loop-prop
invariant-loop-prop l = l.copies ≡ take l.prop-index l.prop-items
