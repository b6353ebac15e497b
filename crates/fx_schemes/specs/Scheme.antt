-- The type of a built-in as plain data, and its instances.
use Rattle.std.specs.Prelude.{◌≡◌, ◌↔◌, ℕ, ◌+◌, ◌≤◌, max, List, [], ◌∷◌, Option, None, Some, map}
use Rattle.fx_types.specs.Term.{Label, Term, Labels}
use Rattle.fx_types.specs.Instance.{Solution, ground, ground_labels}
use Rattle.fx_types.specs.Kinds.{IsAmong}
use Rattle.fx_types.specs.Numbers.{numbers, numbers_labels}
use Rattle.fx_types.specs.Shape.{term, label_term, labels_of}
use Rattle.fx_types.specs.Size.{IsType}
use Rattle.fx_schemes.specs.declared.builtin_type.BuiltinType as types
use Rattle.fx_schemes.specs.declared.builtin_type.KindBound as bounds
use Rattle.fx_schemes.specs.Line.{Line}

pub record Scheme : Type 0 where
  pub vars : ℕ
  pub type : Term
  pub optional : Labels
  pub pipe_label : Option Label
  pub labels : List Label
  pub kinds : List bounds.KindBound

abbrev pub shown : types.BuiltinType → Scheme
shown t = record { vars = t.vars; type = term t.ty; optional = labels_of (map label_term t.optional); pipe_label = t.pipe_label; labels = t.labels; kinds = t.kinds }

-- the line that a scheme becomes under a solution
abbrev pub instance : Solution → Scheme → Line
instance s x = record { labels = x.labels; type = ground s x.type; optional = ground_labels s x.optional; pipe_label = x.pipe_label }

-- each variable with a bound stands for one of its kinds, or for a duration where the bound allows it
abbrev pub Keeps : Solution → List bounds.KindBound → Type 0
Keeps s [] = Unit {0}
Keeps s (k ∷ ks) = IsAmong k.kinds k.span (s.type_of k.var) × Keeps s ks

abbrev pub IsInstance : Scheme → Line → Type 0
IsInstance x L = (s : Solution) × Keeps s x.kinds × (L ≡ instance s x)

-- the numbers of the variables: one more than the greatest, or 0 where there is none
abbrev pub numbers_bounds : List bounds.KindBound → ℕ
numbers_bounds [] = 0
numbers_bounds (k ∷ ks) = max (k.var + 1) (numbers_bounds ks)

abbrev pub numbers_of : Scheme → ℕ
numbers_of x = max (numbers x.type) (max (numbers_labels x.optional) (numbers_bounds x.kinds))

-- all variables are numbered below `vars`, the instances of the scheme are exactly the lines, and
-- one of these is a type
pub record IsSchemeOf (D : Line → Type 0) (x : Scheme) : Type 0 where
  pub numbered : numbers_of x ≤ x.vars
  pub lines : (L : Line) → IsInstance x L ↔ D L
  pub some : (L : Line) × D L × IsType L.type

-- None where there is no line, else a scheme of the lines
abbrev pub Says : (Line → Type 0) → Option Scheme → Type 0
Says D None = (L : Line) → D L → ⊥
Says D (Some x) = IsSchemeOf D x
