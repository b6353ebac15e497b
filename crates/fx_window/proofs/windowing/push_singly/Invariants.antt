use Rattle.std.proofs.Common.{◌≡◌, drop}
use Rattle.std.specs.List.{flat_map}
use Rattle.fx_group.specs.Turned.{with_rows}
use Rattle.fx_window.specs.Reaches.{copies_of}
use Rattle.fx_window.proofs.windowing.push_singly.Given as goal

abbrev pub invariant-loop-i : goal.invariant-loop-i
invariant-loop-i l =
    with_rows l.runs (flat_map (copies_of l.frame.every l.frame.period l.reach l.key) (drop l.i l.rows))
    ≡ with_rows l.fn.runs (flat_map (copies_of l.frame.every l.frame.period l.reach l.key) l.rows)
