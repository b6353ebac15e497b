-- What stands in a cell, and what the kinds of values are called.
use Rattle.std.specs.Prelude.{ℕ, Bool, true, false, List, [], ◌∷◌, Option, None, Some, codes, if◌then◌else◌}
use Rattle.std.specs.List.{list_all}
use Rattle.std.specs.Fmt.{signed_decimal}
use Rattle.fx_value.specs.declared.scalar.Kind.{Kind}
use Rattle.fx_value.specs.declared.scalar.Kind.TheVariants as kind
use Rattle.fx_value.specs.declared.scalar.Scalar.{Scalar}
use Rattle.fx_value.specs.declared.scalar.Scalar.TheVariants as scalar
use Rattle.fx_time.specs.Time.{time_text}

abbrev pub bool_text : Bool → List ℕ
bool_text b = if b then codes "true" else codes "false"

-- a null prints as nothing, an integer in decimal, a time in RFC 3339
abbrev pub scalar_text : Scalar → List ℕ
scalar_text scalar.Null = []
scalar_text (scalar.Bool b) = bool_text b
scalar_text (scalar.Int n) = signed_decimal n
scalar_text (scalar.Text t) = t
scalar_text (scalar.Time t) = time_text t

-- the datatype of a column by the kind of its values, which is none where all of them are null
abbrev pub datatype : Option Kind → List ℕ
datatype None = codes "string"
datatype (Some kind.Bool) = codes "boolean"
datatype (Some kind.Int) = codes "long"
datatype (Some kind.Text) = codes "string"
datatype (Some kind.Time) = codes "dateTime:RFC3339"

-- two values of one column have one kind where these are the same
abbrev pub same_kind : Kind → Kind → Bool
same_kind kind.Bool kind.Bool = true
same_kind kind.Int kind.Int = true
same_kind kind.Text kind.Text = true
same_kind kind.Time kind.Time = true
same_kind a b = false

abbrev pub is_one_kind : List Kind → Bool
is_one_kind [] = true
is_one_kind (k ∷ rest) = list_all (same_kind k) rest
