use Rattle.std.proofs.Common.{◌≡◌, ◌++◌, drop}
use Rattle.std.specs.List.{flat_map}
use Rattle.std.specs.String.{string_bytes}
use Rattle.fx_ops.proofs.row.behind.Given as goal

abbrev pub invariant-loop-other : goal.invariant-loop-other
invariant-loop-other l =
    string_bytes l.row ++ flat_map (λ other. l.by ++ other.now) (drop l.other-index l.others) ≡ l.first ++ flat_map (λ other. l.by ++ other.now) l.others
