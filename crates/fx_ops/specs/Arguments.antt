-- The arguments of calls of functions on scalars. An argument that is null reads as None, and so does one that isn't there
-- or has another kind.
use Rattle.std.specs.Prelude.{ℕ, List, [], ◌∷◌, Option, Some, None, Result, Ok, ℤ, slice_get}
use Rattle.std.specs.Option.{option_map, option_and_then, option_zip}
use Rattle.fx_base.specs.declared.fault.FaultKind.{FaultKind}
use Rattle.fx_value.specs.declared.scalar.Scalar.{Scalar}
use Rattle.fx_value.specs.declared.scalar.Scalar.TheVariants.{Null, Text, Int, Time}

abbrev pub text_in : Scalar → Option (List ℕ)
text_in (Text text) = Some text
text_in _ = None

abbrev pub int_in : Scalar → Option ℤ
int_in (Int n) = Some n
int_in _ = None

abbrev pub time_in : Scalar → Option ℤ
time_in (Time t) = Some t
time_in _ = None

-- the bytes of the text at a place
abbrev pub text_at : List Scalar → ℕ → Option (List ℕ)
text_at args place = option_and_then text_in (slice_get args place)

abbrev pub int_at : List Scalar → ℕ → Option ℤ
int_at args place = option_and_then int_in (slice_get args place)

abbrev pub time_at : List Scalar → ℕ → Option ℤ
time_at args place = option_and_then time_in (slice_get args place)

-- the bytes of all texts, where each argument is one
abbrev pub texts_in : List Scalar → Option (List (List ℕ))
texts_in [] = Some []
texts_in (a ∷ args) = option_map (λ texts. texts.0 ∷ texts.1) (option_zip (text_in a) (texts_in args))

-- goes on with the argument, and is null where it reads as None
infixl 10 ◌>>=◌
abbrev pub ◌>>=◌ : {A : Type 0} → Option A → (A → Result Scalar FaultKind) → Result Scalar FaultKind
None >>= answer = Ok Null
(Some argument) >>= answer = answer argument
