use Rattle.std.proofs.Common.{ap, sym, ◌∙◌}
use Rattle.fx_meaning.specs.Native.{value_of}
use Rattle.fx_value.specs.declared.scalar.Scalar.TheVariants as scalar
use Rattle.fx_values.proofs.ValueLaws.{val_cell, val_native}
use Rattle.fx_rowfn.proofs.names.of_built.Goals as goal

pub returns-in-Truth : goal.returns-in-Truth
returns-in-Truth c = val_cell (scalar.Bool c.in-Truth.b) ∙ sym (ap value_of c.in-Truth.is)

pub returns-in-Function : goal.returns-in-Function
returns-in-Function c = val_native c.in-Function.which ∙ sym (ap value_of c.in-Function.is)
