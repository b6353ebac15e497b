-- Lines of a scheme, and of a built-in, whose parameters and result are types.
use Rattle.fx_types.specs.Size.{IsType}
use Rattle.fx_types.specs.Term.{Label}
use Rattle.fx_schemes.specs.declared.list.Builtin.{Builtin}
use Rattle.fx_schemes.specs.Builtins.{IsLine}
use Rattle.fx_schemes.specs.Given.{Given}
use Rattle.fx_schemes.specs.Line.{Line}
use Rattle.fx_schemes.specs.Scheme.{Scheme, IsInstance}
use Rattle.fx_infer.specs.Arguments.{IsTypeOrAbsent}

abbrev pub HasTypes : Line → Type 0
HasTypes L = IsType L.type × ((l : Label) → IsTypeOrAbsent (L.optional l))

abbrev pub IsUse : Scheme → Line → Type 0
IsUse x L = IsInstance x L × IsType L.type × ((l : Label) → IsTypeOrAbsent (L.optional l))

-- a line of the built-in at these words
abbrev pub IsTypedLine : Builtin → Given → Line → Type 0
IsTypedLine b w L = IsLine b w L × HasTypes L
