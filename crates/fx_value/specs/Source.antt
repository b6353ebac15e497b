-- Where a row finds the value of a label.
use Rattle.std.specs.Prelude.{Bool, true, false}
use Rattle.fx_value.specs.declared.scalar.Scalar.{Scalar}
use Rattle.fx_value.specs.declared.source.Source.{Source}
use Rattle.fx_value.specs.declared.source.Source.TheVariants.{Fixed, First, Second}

-- the value that a source gives in a row whose own values are these two
abbrev pub value_at : Scalar → Scalar → Source → Scalar
value_at first second (Fixed value) = value
value_at first second First = first
value_at first second Second = second

abbrev pub is_first : Source → Bool
is_first First = true
is_first (Fixed value) = false
is_first Second = false

abbrev pub is_second : Source → Bool
is_second Second = true
is_second (Fixed value) = false
is_second First = false
