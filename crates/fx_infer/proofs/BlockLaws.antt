-- What a parameter makes a function take.
use Rattle.std.proofs.Common.{◌≡◌, refl, sym, ap, ◌∙◌, ℕ, Bool, true, false, List, [], ◌∷◌, ◌++◌, Option, None}
use Rattle.std.specs.Prelude.{if◌then◌else◌, option_map}
use Rattle.fx_base.specs.Text.{same_text}
use Rattle.fx_ast.specs.Shape.{default_of, tree_of}
use Rattle.fx_ast.specs.Tree.{Default, Tree, required, by_pipe, by_value}
use Rattle.fx_ast.specs.declared.expr.Expr.{Expr}
use Rattle.fx_ast.specs.declared.expr.ParamKind.{ParamKind}
use Rattle.fx_ast.specs.declared.expr.ParamKind.TheVariants as kind
use Rattle.fx_ast.proofs.ShapeLaws.{default_required, default_pipe, default_value}
use Rattle.fx_types.specs.Ground.{Ground, GroundField, GroundRow, g_absent, g_is}
use Rattle.fx_types.specs.Instance.{Solution, ground, ground_labels, ground_pipe}
use Rattle.fx_types.specs.Shape.{term, pipe_of}
use Rattle.fx_types.specs.Term.{Label}
use Rattle.fx_types.specs.declared.term.LabelTy.{LabelTy}
use Rattle.fx_types.specs.declared.term.Ty.{Ty}
use Rattle.fx_types.specs.declared.term.Ty.TheVariants as ty
use Rattle.fx_types.proofs.ShapeLaws.{term_variable}
use Rattle.fx_infer.specs.declared.functions.Block.{Block}
use Rattle.fx_infer.specs.declared.scope.Name.{Name}
use Rattle.fx_infer.specs.Environment.{param}
use Rattle.fx_infer.specs.Functions.{grown, inside, or_field, needs_with, input_with, takes_pipe}
use Rattle.fx_infer.specs.Lists.{labels_in}
use Rattle.fx_infer.specs.Names.{entry_under, env_under}
use Rattle.fx_infer.specs.Parameters.{field_if}
use Rattle.fx_infer.proofs.EntryLaws as entries
use Rattle.fx_infer.proofs.ScopeLaws.{onto_last}

-- each kind of parameter, as plain data

pub is_required : (d : ParamKind) → d ≡ kind.Required → default_of d ≡ required
is_required d is = ap default_of is ∙ default_required

pub is_piped : (d : ParamKind) → d ≡ kind.Pipe → default_of d ≡ by_pipe
is_piped d is = ap default_of is ∙ default_pipe

pub is_given : (d : ParamKind) (e : Expr) → d ≡ kind.Value e → (t : Tree) × (default_of d ≡ by_value t)
is_given d e is = (tree_of e, ap default_of is ∙ default_value e)

-- what comes by the pipe

module _ (d : ParamKind) (n : ℕ) (p : Option Ty) (none : p ≡ None) (s : Solution) where
  pub pipe_taken : default_of d ≡ by_pipe → g_is (ground s (term (ty.Var n))) ≡ input_with (default_of d) (s.type_of n) (ground_pipe s (pipe_of (option_map term p)))
  pipe_taken is = ap (λ t. g_is (ground s t)) (term_variable n) ∙ sym (λ i. input_with (is i) (s.type_of n) (ground_pipe s (pipe_of (option_map term (none i)))))

  pub pipe_left_required : default_of d ≡ required → g_absent ≡ input_with (default_of d) (s.type_of n) (ground_pipe s (pipe_of (option_map term p)))
  pipe_left_required is = sym (λ i. input_with (is i) (s.type_of n) (ground_pipe s (pipe_of (option_map term (none i)))))

  pub pipe_left_value : (e : Tree) → default_of d ≡ by_value e → g_absent ≡ input_with (default_of d) (s.type_of n) (ground_pipe s (pipe_of (option_map term p)))
  pipe_left_value e is = sym (λ i. input_with (is i) (s.type_of n) (ground_pipe s (pipe_of (option_map term (none i)))))

-- labels that are required

or_same : (a f : GroundField) → entries.or_field a f ≡ or_field a f
or_same g_absent f = refl
or_same (g_is t) f = refl

field_same : (c : Bool) (u : Ground) → (if c then g_is u else g_absent) ≡ field_if c u
field_same true u = refl
field_same false u = refl

pub label_taken : (d : ParamKind) (x y : Label) (n : ℕ) (es more : List LabelTy) → default_of d ≡ required → y ≡ x → more ≡ es ++ record { label = y; ty = ty.Var n } ∷ [] → (s : Solution) (l : Label)
    → ground_labels s (labels_in more) l ≡ needs_with x (default_of d) (s.type_of n) (ground_labels s (labels_in es)) l
label_taken d x y n es more is label pushed s l =
    ap (λ ls. ground_labels s (labels_in ls) l) pushed
    ∙ entries.entry_more s es (record { label = y; ty = ty.Var n }) l
    ∙ or_same (ground_labels s (labels_in es) l) (entries.field_by l y (ground s (term (ty.Var n))))
    ∙ (λ i. or_field (ground_labels s (labels_in es) l) (field_same (same_text l (label i)) (ground s (term_variable n i)) i))
    ∙ sym (λ i. needs_with x (is i) (s.type_of n) (ground_labels s (labels_in es)) l)

module _ (d : ParamKind) (x : Label) (u : Ground) (r : GroundRow) (l : Label) where
  pub label_left_pipe : default_of d ≡ by_pipe → r l ≡ needs_with x (default_of d) u r l
  label_left_pipe is = sym (λ i. needs_with x (is i) u r l)

  pub label_left_value : (e : Tree) → default_of d ≡ by_value e → r l ≡ needs_with x (default_of d) u r l
  label_left_value e is = sym (λ i. needs_with x (is i) u r l)

-- a parameter of the pipe, as code tells it

pub pipe_told : (d : ParamKind) → d ≡ kind.Pipe → true ≡ takes_pipe (default_of d)
pipe_told d is = sym (ap takes_pipe (is_piped d is))

pub required_told : (d : ParamKind) → d ≡ kind.Required → false ≡ takes_pipe (default_of d)
required_told d is = sym (ap takes_pipe (is_required d is))

pub value_told : (d : ParamKind) (e : Expr) → d ≡ kind.Value e → false ≡ takes_pipe (default_of d)
value_told d e is = sym (ap takes_pipe (is_given d e is).1)

-- the whole block

pub block_grown : (k m : Block) (s : Solution) (x : Label) (d : Default) (u : Ground) → env_under s m.names ≡ param x u ∷ env_under s k.names
    → ((l : Label) → ground_labels s (labels_in m.required) l ≡ needs_with x d u (ground_labels s (labels_in k.required)) l)
    → ground_pipe s (pipe_of (option_map term m.pipe)) ≡ input_with d u (ground_pipe s (pipe_of (option_map term k.pipe))) → inside s m ≡ grown x d u (inside s k)
block_grown k m s x d u names labels pipe = λ i. (names i, (λ l. labels l i), pipe i)

pub one_name : (s : Solution) (ns ms : List Name) (n : Name) → ms ≡ ns ++ n ∷ [] → env_under s ms ≡ entry_under s n ∷ env_under s ns
one_name s ns ms n pushed = ap (env_under s) pushed ∙ onto_last s ns n []
