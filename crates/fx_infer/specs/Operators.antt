-- The operators and the types of their operands and results.
use Rattle.std.specs.Prelude.{◌≡◌, Bool, true, false, List, [], ◌∷◌}
use Rattle.fx_types.specs.Ground.{Ground, g_bool, g_text, g_pattern}
use Rattle.fx_types.specs.Kinds.{IsAmong}
use Rattle.fx_value.specs.declared.scalar.Kind.{Kind}
use Rattle.fx_value.specs.declared.scalar.Kind.TheVariants as kind
use Rattle.fx_ast.specs.declared.expr.Infix.{Infix}
use Rattle.fx_ast.specs.declared.expr.Infix.TheVariants as between
use Rattle.fx_ast.specs.declared.expr.Prefix.{Prefix}
use Rattle.fx_ast.specs.declared.expr.Prefix.TheVariants as sign

-- the operands are of one of the kinds, and the result too
abbrev pub Keeps : List Kind → Ground → Ground → Ground → Type 0
Keeps ks u w t = IsAmong ks false u × (w ≡ u) × (t ≡ u)

-- the operands are of one of the kinds, or durations where `span` is true, and the result is a Boolean
abbrev pub Tells : List Kind → Bool → Ground → Ground → Ground → Type 0
Tells ks span u w t = IsAmong ks span u × (w ≡ u) × (t ≡ g_bool)

-- a text, a regular expression, and a Boolean
abbrev pub Matches : Ground → Ground → Ground → Type 0
Matches u w t = (u ≡ g_text) × (w ≡ g_pattern) × (t ≡ g_bool)

-- the operator takes u on its left and w on its right, and gives t
abbrev pub Infixed : Infix → Ground → Ground → Ground → Type 0
Infixed between.Or = Tells (kind.Bool ∷ []) false
Infixed between.And = Tells (kind.Bool ∷ []) false
Infixed between.Eq = Tells (kind.Bool ∷ kind.Int ∷ kind.Text ∷ kind.Time ∷ []) true
Infixed between.Ne = Tells (kind.Bool ∷ kind.Int ∷ kind.Text ∷ kind.Time ∷ []) true
Infixed between.Lt = Tells (kind.Int ∷ kind.Text ∷ kind.Time ∷ []) false
Infixed between.Le = Tells (kind.Int ∷ kind.Text ∷ kind.Time ∷ []) false
Infixed between.Gt = Tells (kind.Int ∷ kind.Text ∷ kind.Time ∷ []) false
Infixed between.Ge = Tells (kind.Int ∷ kind.Text ∷ kind.Time ∷ []) false
Infixed between.Like = Matches
Infixed between.NotLike = Matches
Infixed between.Add = Keeps (kind.Int ∷ kind.Text ∷ [])
Infixed between.Sub = Keeps (kind.Int ∷ [])
Infixed between.Mul = Keeps (kind.Int ∷ [])
Infixed between.Div = Keeps (kind.Int ∷ [])
Infixed between.Rem = Keeps (kind.Int ∷ [])

-- the operator before an operand of type u gives t
abbrev pub Prefixed : Prefix → Ground → Ground → Type 0
Prefixed sign.Plus u t = IsAmong (kind.Int ∷ []) true u × (t ≡ u)
Prefixed sign.Minus u t = IsAmong (kind.Int ∷ []) true u × (t ≡ u)
Prefixed sign.Not u t = IsAmong (kind.Bool ∷ []) false u × (t ≡ g_bool)
Prefixed sign.Exists u t = IsAmong (kind.Bool ∷ kind.Int ∷ kind.Text ∷ kind.Time ∷ []) false u × (t ≡ g_bool)
