-- Parts of a text.
use Rattle.std.specs.Prelude.{List, [], ◌∷◌}
use Rattle.fx_types.specs.Instance.{Solution}
use Rattle.fx_ast.specs.Shape.{part, parts_of}
use Rattle.fx_ast.specs.declared.expr.Part as parts
use Rattle.fx_infer.specs.declared.scope.Name as names
use Rattle.fx_infer.specs.Environment.{scope}
use Rattle.fx_infer.specs.Names.{env_under}
use Rattle.fx_infer.specs.Typing.{has_parts}

-- the part is a piece, or what it puts in is of a column kind
abbrev pub PartOf : List names.Name → parts.Part → Solution → Type 0
PartOf ns p s = has_parts (parts_of (part p ∷ [])) (scope (env_under s ns))
