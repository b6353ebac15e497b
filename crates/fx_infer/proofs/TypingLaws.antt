-- What typing keeps.
use Rattle.std.proofs.Common.{◌≡◌, refl, Bool, true, false, [], ◌∷◌, Option, None, Some}
use Rattle.fx_base.specs.Text.{same_text}
use Rattle.fx_types.specs.Term.{Label}
use Rattle.fx_types.specs.Ground.{Ground}
use Rattle.fx_types.specs.Size.{IsType}
use Rattle.fx_schemes.specs.declared.list.Builtin.{Builtin}
use Rattle.fx_ast.specs.Tree.{Tree, tree, Shape, int, time, span, text, pattern, name, paren, array, rec, fun, call, pipe, member, index, chain, prefix, if_then, Params, no_params, more_params}
use Rattle.fx_infer.specs.Ask.{type_is, Scope, either}
use Rattle.fx_infer.specs.Environment.{Env, param, assigned, imported, scope, params_env}
use Rattle.fx_infer.specs.Native.{native}
use Rattle.fx_infer.specs.Parameters.{with_params}
use Rattle.fx_infer.specs.Typing.{has, has_shape}

-- what an expression has are types

mutual
  pub typed_type : (e : Tree) (S : Scope) (t : Ground) → has e S (type_is t) → IsType t
  typed_type (tree place s) S t h = shape_type s S t h

  shape_type : (s : Shape) (S : Scope) (t : Ground) → has_shape s S (type_is t) → IsType t
  shape_type (paren e) S t h = typed_type e S t h
  shape_type (int n) S t h = h.0
  shape_type (time n) S t h = h.0
  shape_type (span d) S t h = h.0
  shape_type (text ps) S t h = h.0
  shape_type (pattern s) S t h = h.0
  shape_type (name x) S t h = h.0
  shape_type (array es) S t h = h.0
  shape_type (rec None ps) S t h = h.0
  shape_type (rec (Some x) ps) S t h = h.0
  shape_type (fun ps lets e) S t h = h.0
  shape_type (call e ps) S t h = h.0
  shape_type (pipe e es) S t h = h.0
  shape_type (member e x) S t h = h.0
  shape_type (index e at) S t h = h.0
  shape_type (chain e ls) S t h = h.0
  shape_type (prefix sign e) S t h = h.0
  shape_type (if_then a b c) S t h = h.0

-- and what a name has

native_type : (o : Option Builtin) (t : Ground) → native o (type_is t) → IsType t
native_type None t h = absurd h
native_type (Some b) t h = h.0

either_type : (c : Bool) (A B : Type 0) (t : Ground) → (A → IsType t) → (B → IsType t) → either c A B → IsType t
either_type true A B t f g h = f h
either_type false A B t f g h = g h

pub name_type : (env : Env) (x : Label) (t : Ground) → scope env x (type_is t) → IsType t
name_type [] x t h = native_type _ t h
name_type (param y u ∷ env) x t h = either_type (same_text x y) _ _ t (λ k. k.0) (name_type env x t) h
name_type (assigned y e ∷ env) x t h = either_type (same_text x y) _ _ t (typed_type e (scope env) t) (name_type env x t) h
name_type (imported y path ∷ env) x t h = either_type (same_text x y) _ _ t (λ k. absurd k) (name_type env x t) h

-- the scope of a function's block is that of an environment
pub params_scope : (ps : Params) (P : Label → Ground) (env : Env) → with_params ps P (scope env) ≡ scope (params_env ps P env)
params_scope no_params P env = refl
params_scope (more_params x d ps) P env = params_scope ps P _
