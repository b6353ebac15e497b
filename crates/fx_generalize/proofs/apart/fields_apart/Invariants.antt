use Rattle.std.proofs.Common.{◌<◌, ℕ, slice_index_or}
use Rattle.fx_generalize.specs.declared.names.FieldName.TheVariants as field_names
use Rattle.fx_generalize.specs.Named.{IsUnnamed}
use Rattle.fx_generalize.proofs.apart.fields_apart.Given as goal

abbrev pub invariant-loop-field : goal.invariant-loop-field
invariant-loop-field l = (k : ℕ) → k < l.field-index → IsUnnamed l.names (slice_index_or l.fields k (field_names.Var 0))
