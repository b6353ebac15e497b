-- The row of a record in its parts: what its properties make of the row behind them.
use Rattle.std.specs.Prelude.{◌≡◌, List, [], ◌∷◌, Option, None, Some, map}
use Rattle.fx_types.specs.Ground.{Ground, GroundRow, g_rec, g_absent}
use Rattle.fx_types.specs.Instance.{Solution, ground_fields, ground_tail}
use Rattle.fx_types.specs.Shape.{entry_term, fields_of, rest_term}
use Rattle.fx_types.specs.Term.{Label}
use Rattle.fx_schemes.specs.Line.{put}
use Rattle.fx_ast.specs.Shape.{OfProp, prop}
use Rattle.fx_ast.specs.Tree.{name}
use Rattle.fx_ast.specs.declared.expr.Prop as props
use Rattle.fx_unify.specs.declared.bindings.Bindings.{Bindings}
use Rattle.fx_infer.specs.declared.records.Based as bases
use Rattle.fx_infer.specs.declared.records.Fielded as fielded
use Rattle.fx_infer.specs.declared.scope.Name as names
use Rattle.fx_infer.specs.Ask.{type_is, Scope}
use Rattle.fx_infer.specs.Environment.{scope}
use Rattle.fx_infer.specs.Infers.{Infers, HasNone}
use Rattle.fx_infer.specs.Names.{env_under, ShapeOf}
use Rattle.fx_infer.specs.Typing.{has}

abbrev pub labels_on : List props.Prop → List Label
labels_on ps = map (λ p. p.label) ps

-- F puts types of the properties into a row
abbrev pub Makes : Scope → List OfProp → (GroundRow → GroundRow) → Type 0
Makes S [] F = F ≡ (λ r. r)
Makes S (p ∷ ps) F = (u : Ground) × (G : GroundRow → GroundRow) × has p.value S (type_is u) × Makes S ps G × (F ≡ (λ r. put p.label u (G r)))

abbrev pub MakesOf : List names.Name → List props.Prop → Solution → (GroundRow → GroundRow) → Type 0
MakesOf ns ps s F = Makes (scope (env_under s ns)) (map prop ps) F

-- the row behind the properties: that of the name, or one with nothing
abbrev pub BaseOf : List names.Name → Option Label → Solution → GroundRow → Type 0
BaseOf ns None s r = r ≡ (λ l. g_absent)
BaseOf ns (Some x) s r = ShapeOf ns (name x) s (g_rec r)

-- what inference answers to either

abbrev pub FindsRow : (Solution → GroundRow → Type 0) → Bindings → Option bases.Based → Type 0
FindsRow T old None = HasNone T old
FindsRow T old (Some r) = Infers T old r.bindings (λ s. ground_tail s (rest_term r.rest))

abbrev pub FindsFields : (Solution → (GroundRow → GroundRow) → Type 0) → Bindings → Option fielded.Fielded → Type 0
FindsFields T old None = HasNone T old
FindsFields T old (Some r) = Infers T old r.bindings (λ s. ground_fields s (fields_of (map entry_term r.fields)))
