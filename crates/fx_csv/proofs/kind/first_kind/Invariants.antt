use Rattle.std.proofs.Common.{◌≡◌, drop, map}
use Rattle.std.specs.Prelude.{unwrap_or}
use Rattle.std.specs.List.{filter_map, slice_get}
use Rattle.std.specs.FinMap as map
use Rattle.fx_value.specs.Scalar.{kind_of}
use Rattle.fx_value.specs.declared.scalar.Scalar.TheVariants as scalar
use Rattle.fx_csv.proofs.kind.first_kind.Given as goal

abbrev pub invariant-loop-row : goal.invariant-loop-row
invariant-loop-row l =
    slice_get (filter_map kind_of (map (λ row. unwrap_or (map.get row l.label) scalar.Null) (drop l.row-index l.rows))) 0
    ≡ slice_get (filter_map kind_of (map (λ row. unwrap_or (map.get row l.label) scalar.Null) l.rows)) 0
