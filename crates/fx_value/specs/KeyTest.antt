-- Tests of values against texts.
use Rattle.std.specs.Prelude.{ℕ, Bool, false, not, List, Option, None, Some}
use Rattle.std.specs.declared.cmp.Ordering.{Ordering}
use Rattle.std.specs.Ordering.{is_lt, is_eq, is_gt}
use Rattle.std.specs.List.{list_any}
use Rattle.fx_base.specs.Text.{text_cmp}
use Rattle.fx_value.specs.declared.key_test.KeyTest.{KeyTest}
use Rattle.fx_value.specs.declared.key_test.Test.{Test}
use Rattle.fx_value.specs.declared.key_test.Test.TheVariants.{Eq, Ne, Lt, Le, Gt, Ge}
use Rattle.fx_value.specs.declared.scalar.Scalar.{Scalar}
use Rattle.fx_value.specs.declared.scalar.Scalar.TheVariants.{Null, Bool as Flag, Int, Text, Time}

-- whether the test holds of a left value that stands so to the right one
abbrev pub holds_of : Test → Ordering → Bool
holds_of Eq order = is_eq order
holds_of Ne order = not (is_eq order)
holds_of Lt order = is_lt order
holds_of Le order = not (is_gt order)
holds_of Gt order = is_gt order
holds_of Ge order = not (is_lt order)

-- the comparison of a text with the test's text. It is null where the value is null or isn't there, and of a value of
-- another kind, which is compared with no text
abbrev pub told_of : KeyTest → Option Scalar → Option Bool
told_of t (Some (Text text)) = Some (holds_of t.test (text_cmp text t.text))
told_of t (Some Null) = None
told_of t (Some (Flag b)) = None
told_of t (Some (Int n)) = None
told_of t (Some (Time n)) = None
told_of t None = None

abbrev pub is_false : Option Bool → Bool
is_false (Some truth) = not truth
is_false None = false

-- a test is false where labels have these values, as those of a row or of a key
abbrev pub is_ruled_out : List KeyTest → (List ℕ → Option Scalar) → Bool
is_ruled_out tests value_of = list_any (λ t. is_false (told_of t (value_of t.label))) tests
