-- The names of a scope as code keeps them, the newest last.
use Rattle.std.specs.Prelude.{◌≡◌, ◌+◌, ◌<◌, ℕ, true, false, List, [], ◌∷◌, Option, None, Some, map, drop, get_or, length}
use Rattle.fx_base.specs.Text.{same_text}
use Rattle.fx_types.specs.Agree.{Agree}
use Rattle.fx_types.specs.Ground.{Ground, listed}
use Rattle.fx_types.specs.Instance.{Solution}
use Rattle.fx_types.specs.Term.{Label}
use Rattle.fx_ast.specs.declared.expr.Expr.{Expr}
use Rattle.fx_ast.specs.declared.expr.Link.{Link}
use Rattle.fx_ast.specs.Shape.{tree_of}
use Rattle.fx_ast.specs.Tree.{Shape}
use Rattle.fx_infer.specs.Ask.{type_is}
use Rattle.fx_infer.specs.declared.scope.Bound as bounds
use Rattle.fx_infer.specs.declared.scope.Bound.TheVariants as bound
use Rattle.fx_infer.specs.declared.scope.Name as names
use Rattle.fx_infer.specs.Environment.{Entry, param, assigned, imported, Env, scope, HasType}
use Rattle.fx_infer.specs.Operators.{Infixed}
use Rattle.fx_infer.specs.Typing.{has_shape}

-- what the name is bound to, where a solution gives variables their types
abbrev pub entry_by : Solution → Label → bounds.Bound → Entry
entry_by s x (bound.Param n) = param x (s.type_of n)
entry_by s x (bound.Assigned e) = assigned x (tree_of e.now)
entry_by s x (bound.Imported path) = imported x path.now

abbrev pub entry_under : Solution → names.Name → Entry
entry_under s n = entry_by s n.label.now n.bound

abbrev pub onto : Solution → List names.Name → Env → Env
onto s [] env = env
onto s (n ∷ ns) env = onto s ns (entry_under s n ∷ env)

-- the environment of the names
abbrev pub env_under : Solution → List names.Name → Env
env_under s ns = onto s ns []

-- the names speak of numbers below n alone
abbrev pub NamesBelow : ℕ → List names.Name → Type 0
NamesBelow n ns = (s q : Solution) → Agree n s q → env_under s ns ≡ env_under q ns

abbrev pub labels_among : List names.Name → List Label
labels_among ns = map (λ n. n.label.now) ns

-- the place of the newest name with the label
abbrev pub IsNewest : Label → List names.Name → Option ℕ → Type 0
IsNewest x ns None = listed x (labels_among ns) ≡ false
IsNewest x ns (Some i) = (i < length ns) × ((n : names.Name) → n ≡ get_or ns i n → same_text x n.label.now ≡ true) × (listed x (labels_among (drop (i + 1) ns)) ≡ false)

-- which types the expression has among the names
abbrev pub TypeOf : List names.Name → Expr → Solution → Ground → Type 0
TypeOf ns e s t = HasType (env_under s ns) (tree_of e) t

-- the same of what an expression is
abbrev pub ShapeOf : List names.Name → Shape → Solution → Ground → Type 0
ShapeOf ns e s t = has_shape e (scope (env_under s ns)) (type_is t)

-- the operator with the operand of the link goes from u to t
abbrev pub LinkOf : List names.Name → Link → Solution → Ground → Ground → Type 0
LinkOf ns l s u t = (w : Ground) × TypeOf ns l.right s w × Infixed l.op u w t
