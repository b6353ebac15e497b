-- What the functions that give scalars take, and of which kind their answers are.
use Rattle.std.specs.Prelude.{◌&&◌, Bool, true, false, List, [], ◌∷◌, Option, None, Some}
use Rattle.std.specs.List.{list_all}
use Rattle.fx_value.specs.declared.scalar.Kind.{Kind}
use Rattle.fx_value.specs.declared.scalar.Kind.TheVariants as kind
use Rattle.fx_value.specs.declared.scalar.Scalar.{Scalar}
use Rattle.fx_ops.specs.Kinds.{is_kind}
use Rattle.fx_ops.specs.declared.function.ScalarFn.{ScalarFn}
use Rattle.fx_ops.specs.declared.function.ScalarFn.TheVariants.{ContainsStr, HasPrefix, HasSuffix, Strlen, Substring, TrimPrefix, TrimSuffix, ReplaceAll, JoinStr, Repeat, Truncate, Add, Sub}

-- the kinds of the arguments that a function always has, in their order
abbrev pub argument_kinds : ScalarFn → List Kind
argument_kinds ContainsStr = kind.Text ∷ kind.Text ∷ []
argument_kinds HasPrefix = kind.Text ∷ kind.Text ∷ []
argument_kinds HasSuffix = kind.Text ∷ kind.Text ∷ []
argument_kinds Strlen = kind.Text ∷ []
argument_kinds Substring = kind.Text ∷ kind.Int ∷ kind.Int ∷ []
argument_kinds TrimPrefix = kind.Text ∷ kind.Text ∷ []
argument_kinds TrimSuffix = kind.Text ∷ kind.Text ∷ []
argument_kinds ReplaceAll = kind.Text ∷ kind.Text ∷ kind.Text ∷ []
argument_kinds JoinStr = kind.Text ∷ []
argument_kinds Repeat = kind.Text ∷ kind.Int ∷ []
argument_kinds _ = kind.Time ∷ []

-- the kind of any number of arguments behind those, None where there are none
abbrev pub further_kind : ScalarFn → Option Kind
further_kind JoinStr = Some kind.Text
further_kind _ = None

-- the function has a span
abbrev pub takes_span : ScalarFn → Bool
takes_span Truncate = true
takes_span Add = true
takes_span Sub = true
takes_span _ = false

-- the kind of what the function gives
abbrev pub called_kind : ScalarFn → Kind
called_kind ContainsStr = kind.Bool
called_kind HasPrefix = kind.Bool
called_kind HasSuffix = kind.Bool
called_kind Substring = kind.Text
called_kind TrimPrefix = kind.Text
called_kind TrimSuffix = kind.Text
called_kind ReplaceAll = kind.Text
called_kind JoinStr = kind.Text
called_kind Repeat = kind.Text
called_kind Truncate = kind.Time
called_kind Add = kind.Time
called_kind Sub = kind.Time
called_kind _ = kind.Int

-- one value of each kind or null, and behind them any number of the further kind
abbrev pub are_of : List Kind → Option Kind → List Scalar → Bool
are_of [] None [] = true
are_of [] None (a ∷ args) = false
are_of [] (Some k) args = list_all (λ a. is_kind a k) args
are_of (k ∷ ks) further [] = false
are_of (k ∷ ks) further (a ∷ args) = is_kind a k && are_of ks further args

-- the function takes the arguments: null, or of its kinds
abbrev pub takes_arguments : ScalarFn → List Scalar → Bool
takes_arguments which args = are_of (argument_kinds which) (further_kind which) args
