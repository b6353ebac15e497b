-- What a call among names calls, and what its arguments have.
use Rattle.std.specs.Prelude.{◌≡◌, ◌↔◌, ℕ, Bool, true, false, List, [], ◌∷◌, ◌++◌, Option, None, Some, map, option_map}
use Rattle.fx_types.specs.Agree.{Agree}
use Rattle.fx_types.specs.declared.term.LabelTy as entries
use Rattle.fx_types.specs.declared.term.Ty as types
use Rattle.fx_types.specs.Ground.{Ground, GroundField, GroundRow, g_absent, g_is, listed}
use Rattle.fx_types.specs.Instance.{Solution, ground_labels, ground_pipe}
use Rattle.fx_types.specs.Shape.{term, pipe_of}
use Rattle.fx_types.specs.Size.{IsType}
use Rattle.fx_types.specs.Term.{Label, Pipe}
use Rattle.fx_schemes.specs.declared.list.Builtin.{Builtin}
use Rattle.fx_schemes.specs.declared.name.BuiltinId as ids
use Rattle.fx_schemes.specs.Builtins.{differ}
use Rattle.fx_schemes.specs.Given.{Given}
use Rattle.fx_schemes.specs.Line.{Line, value}
use Rattle.fx_schemes.specs.Names.{IsId}
use Rattle.fx_unify.specs.declared.bindings.Bindings.{Bindings}
use Rattle.fx_ast.specs.declared.expr.Expr.{Expr}
use Rattle.fx_ast.specs.declared.expr.Prop.{Prop}
use Rattle.fx_ast.specs.Shape.{tree_of, prop, props_of}
use Rattle.fx_ast.specs.Tree.{Tree, tree, paren, fun}
use Rattle.fx_infer.specs.declared.arguments.Argument as arguments
use Rattle.fx_infer.specs.declared.arguments.Arguments as lists
use Rattle.fx_infer.specs.declared.callee.Callee as callees
use Rattle.fx_infer.specs.declared.callee.Callee.TheVariants as called
use Rattle.fx_infer.specs.declared.scope.Name as names
use Rattle.fx_infer.specs.Arguments.{Elsewhere, Called}
use Rattle.fx_infer.specs.Ask.{type_is, line_is, builtin_is, Answers, IsFunction}
use Rattle.fx_infer.specs.Calls.{IsCalled}
use Rattle.fx_infer.specs.Environment.{scope}
use Rattle.fx_infer.specs.Infers.{Infers, HasNone}
use Rattle.fx_infer.specs.Lists.{entry_names, labels_in}
use Rattle.fx_infer.specs.Names.{env_under, TypeOf}
use Rattle.fx_infer.specs.Parameters.{prop_names}
use Rattle.fx_infer.specs.Typing.{at_form, has_args, has_pipe, callee}
use Rattle.fx_infer.specs.Rules.{Gives}
use Rattle.fx_infer.specs.Uses.{IsTypedLine}
use Rattle.fx_schemes.specs.Written.{form_at}
use Rattle.fx_infer.specs.Words.{words_of_call, IsInForce}

-- the labels of arguments
abbrev pub arg_names : List Prop → List Label
arg_names ps = map (λ p. p.label) ps

-- the number is that of the built-in, where there is one
abbrev pub IsIdOf : Option ids.BuiltinId → Option Builtin → Type 0
IsIdOf None None = Unit {0}
IsIdOf (Some id) (Some b) = IsId id b
IsIdOf _ _ = ⊥

-- the test says whether it is so under each solution
abbrev pub Tells : Bool → (Solution → Type 0) → Type 0
Tells true P = (s : Solution) → P s
Tells false P = (s : Solution) → P s → ⊥

-- what an argument of a call has: a type, or nothing where it says words
abbrev pub ArgOf : Option Builtin → List names.Name → Prop → Solution → GroundField → Type 0
ArgOf b ns p s f =
    at_form (form_at b p.label) ((u : Ground) × (f ≡ g_is u) × TypeOf ns p.value s u) (λ form. (f ≡ g_absent) × IsInForce form (tree_of p.value) (scope (env_under s ns)))

-- what all have by their labels
abbrev pub ArgsOf : Option Builtin → List names.Name → List Prop → Solution → GroundRow → Type 0
ArgsOf b ns ps s r = has_args (props_of (map prop ps)) (scope (env_under s ns)) b r × Elsewhere (props_of (map prop ps)) r (λ l. g_absent)

-- an argument, None where it has nothing
abbrev pub FindsArg : (Solution → GroundField → Type 0) → Bindings → Option arguments.Argument → Type 0
FindsArg T old None = HasNone T old
FindsArg T old (Some a) = Infers T old a.bindings (λ s. ground_pipe s (pipe_of (option_map term a.ty)))

-- the arguments' types, each label once
pub record AreArgs (b : Option Builtin) (ns : List names.Name) (ps : List Prop) (old new : Bindings) (es : List entries.LabelTy) : Type 0 where
  pub found : Infers (ArgsOf b ns ps) old new (λ s. ground_labels s (labels_in es))
  pub among : (l : Label) → listed l (prop_names (props_of (map prop ps))) ≡ false → listed l (entry_names es) ≡ false
  pub once : differ (entry_names es) ≡ true

-- all arguments, None where they have no types
abbrev pub FindsArgs : Option Builtin → List names.Name → List Prop → Bindings → Option lists.Arguments → Type 0
FindsArgs b ns ps old None = HasNone (ArgsOf b ns ps) old
FindsArgs b ns ps old (Some r) = AreArgs b ns ps old r.bindings r.entries

-- one entry more, or none
abbrev pub WithEntry : List entries.LabelTy → Label → Option types.Ty → List entries.LabelTy → Type 0
WithEntry es x None more = more ≡ es
WithEntry es x (Some t) more = more ≡ es ++ record { label = x; ty = t } ∷ []

-- a function literal, maybe in parentheses
abbrev pub is_literal : Tree → Bool
is_literal (tree place (fun ps lets e)) = true
is_literal (tree place (paren e)) = is_literal e
is_literal _ = false

-- it answers as the built-in itself, and has no line of its own
pub record IsNative (b : Builtin) (A : Answers) : Type 0 where
  pub itself : A (builtin_is b)
  pub only : (c : Builtin) → A (builtin_is c) → b ≡ c
  pub lines : (L : Line) → A (line_is L) → ⊥

-- it is called as the value that it is
pub record IsValue (A : Answers) : Type 0 where
  pub lines : (L : Line) → A (line_is L) ↔ ((t : Ground) × (L ≡ value t) × IsFunction t × A (type_is t))
  pub types : (t : Ground) → A (type_is t) → IsType t
  pub others : (b : Builtin) → A (builtin_is b) → ⊥

-- what the answers are called as
abbrev pub IsCalledAs : (Solution → Answers) → callees.Callee → Type 0
IsCalledAs A (called.Native id) = (b : Builtin) × IsId id b × ((s : Solution) → IsNative b (A s))
IsCalledAs A called.Literal = (s : Solution) (b : Builtin) → A s (builtin_is b) → ⊥
IsCalledAs A called.Value = (s : Solution) → IsValue (A s)

-- what a name is called as, and an expression

abbrev pub IsCalleeName : List names.Name → Label → callees.Callee → Type 0
IsCalleeName ns x = IsCalledAs (λ s. scope (env_under s ns) x)

abbrev pub IsCallee : List names.Name → Expr → callees.Callee → Type 0
IsCallee ns e = IsCalledAs (λ s. callee (tree_of e) (scope (env_under s ns)))

-- which types a call gives with what comes by the pipe
abbrev pub CallOf : List names.Name → Expr → List Prop → Pipe → Solution → Ground → Type 0
CallOf ns e ps p s t =
    Called (callee (tree_of e) (scope (env_under s ns))) (props_of (map prop ps)) (has_args (props_of (map prop ps)) (scope (env_under s ns))) (λ r L. IsCalled (ground_pipe s p) r L t)

-- the same where it is called as a value, and as a built-in

abbrev pub ValueCallOf : List names.Name → Expr → List Prop → Pipe → Solution → Ground → Type 0
ValueCallOf ns e ps p s t = (u : Ground) × (r : GroundRow) × TypeOf ns e s u × ArgsOf None ns ps s r × Gives u r (ground_pipe s p) t

abbrev pub NativeCallOf : Builtin → List names.Name → List Prop → Pipe → Solution → Ground → Type 0
NativeCallOf b ns ps p s t =
    (w : Given) × (words_of_call (Some b) (props_of (map prop ps)) ≡ Some w)
    × ((L : Line) × (r : GroundRow) × IsTypedLine b w L × ArgsOf (Some b) ns ps s r × IsCalled (ground_pipe s p) r L t)

-- which types it gives where what comes by the pipe has type u
abbrev pub PipedOf : List names.Name → Expr → Solution → Ground → Ground → Type 0
PipedOf ns e s u t = has_pipe (tree_of e) (scope (env_under s ns)) u t

-- what comes by the pipe is told by the numbers below n
abbrev pub PipeBelow : ℕ → Pipe → Type 0
PipeBelow n p = (s q : Solution) → Agree n s q → ground_pipe s p ≡ ground_pipe q p
