-- What some rules of typing say of the types of an expression's parts.
use Rattle.std.specs.Prelude.{◌≡◌}
use Rattle.fx_types.specs.Ground.{Ground, GroundField, GroundRow, g_int, g_array, g_fun, g_rec, g_is}
use Rattle.fx_types.specs.Size.{IsType}
use Rattle.fx_types.specs.Term.{Label}

-- a record has the type at the label
abbrev pub HasField : Label → Ground → Ground → Type 0
HasField x u t = (r : GroundRow) × (u ≡ g_rec r) × (r x ≡ g_is t)

-- an array has elements of the type, and the place is an integer
abbrev pub HasElement : Ground → Ground → Ground → Type 0
HasElement u w t = IsType t × ((u ≡ g_array t) × (w ≡ g_int))

-- a function requires just these arguments, and what comes by the pipe, and gives the type
abbrev pub Gives : Ground → GroundRow → GroundField → Ground → Type 0
Gives u given input t = IsType t × (u ≡ g_fun given input t)
