-- Typing: which types an expression has in a scope.
--
-- There is one rule for each form of expression. A name bound by assignment has each type that its expression has
-- where it was assigned, so it may have another at each use; a parameter has one.
use Rattle.std.specs.Prelude.{◌≡◌, ◌⊎◌, true, Option, None, Some, FitsSigned}
use Rattle.std.specs.Int.{w64}
use Rattle.fx_types.specs.Term.{Label}
use Rattle.fx_types.specs.Ground.{Ground, GroundRow, g_bool, g_int, g_text, g_time, g_span, g_pattern, g_array, g_rec, g_absent, g_is}
use Rattle.fx_types.specs.Size.{IsType}
use Rattle.fx_schemes.specs.declared.form.Form.{Form}
use Rattle.fx_schemes.specs.declared.list.Builtin.{Builtin}
use Rattle.fx_schemes.specs.Builtins.{differ}
use Rattle.fx_schemes.specs.Line.{IsKind}
use Rattle.fx_ast.specs.Tree.{Tree, tree, Shape, int, time, span, text, pattern, name, paren, array, rec, fun, call, pipe, member, index, chain, prefix, if_then, Trees, no_trees, more_trees, Parts, no_parts, piece, hole, Props, no_props, more_props, Params, no_params, more_params, Default, required, by_pipe, by_value, Links, no_links, more_links}
use Rattle.fx_infer.specs.Arguments.{Called, IsCall, IsPipe, Elsewhere}
use Rattle.fx_infer.specs.Ask.{type_is, Answers, Scope, valued, of_type, with_name}
use Rattle.fx_infer.specs.Native.{in_package}
use Rattle.fx_infer.specs.Operators.{Infixed, Prefixed}
use Rattle.fx_infer.specs.Parameters.{prop_names, AreDeclared, literal, with_params}
use Rattle.fx_schemes.specs.Written.{form_at}
use Rattle.fx_infer.specs.Words.{IsInForce}

-- at a label of a call: an argument that has a type, or one that says words
abbrev pub at_form : Option Form → Type 0 → (Form → Type 0) → Type 0
at_form None typed said = typed
at_form (Some f) typed said = said f

abbrev mutual
  pub has : Tree → Scope → Answers
  has (tree place s) S q = has_shape s S q

  pub has_shape : Shape → Scope → Answers
  has_shape (int n) S q = valued (λ t. (t ≡ g_int) × FitsSigned w64 n) q
  has_shape (time n) S q = valued (λ t. (t ≡ g_time) × FitsSigned w64 n) q
  has_shape (span d) S q = valued (λ t. (t ≡ g_span) × FitsSigned w64 d.months × FitsSigned w64 d.nanos) q
  has_shape (text ps) S q = valued (λ t. (t ≡ g_text) × has_parts ps S) q
  has_shape (pattern s) S q = of_type g_pattern q
  has_shape (name x) S q = valued (λ t. S x (type_is t)) q
  has_shape (paren e) S q = has e S q
  has_shape (array es) S q = valued (λ t. (u : Ground) × (t ≡ g_array u) × has_items es S u) q
  -- the named fields, and all others Absent
  has_shape (rec None ps) S q =
      valued (λ t. (r : GroundRow) × (t ≡ g_rec r) × (differ (prop_names ps) ≡ true) × has_props ps S r × Elsewhere ps r (λ l. g_absent)) q
  -- the named fields, and all others as in the row of the name
  has_shape (rec (Some x) ps) S q =
      valued (λ t. (r : GroundRow) × (p : GroundRow) × (t ≡ g_rec r) × (differ (prop_names ps) ≡ true) × S x (type_is (g_rec p)) × has_props ps S r × Elsewhere ps r p) q
  has_shape (fun ps lets e) S q =
      literal ps (λ P t. AreDeclared ps lets × has_params ps S P × has_lets lets (with_params ps P S) (λ T. has e T (type_is t))) q
  has_shape (call e ps) S q = valued (λ t. Called (callee e S) ps (has_args ps S) (λ r L. IsCall r L t)) q
  has_shape (pipe e es) S q = valued (λ t. (u : Ground) × has e S (type_is u) × has_pipes es S u t) q
  -- a field of a record, or a built-in of a package
  has_shape (member e x) S q =
      valued (λ t. ((r : GroundRow) × has e S (type_is (g_rec r)) × (r x ≡ g_is t)) ⊎ in_package e x S (type_is t)) q
  has_shape (index e at) S q = valued (λ t. has e S (type_is (g_array t)) × has at S (type_is g_int)) q
  has_shape (chain e ls) S q = valued (λ t. (u : Ground) × has e S (type_is u) × has_links ls S u t) q
  has_shape (prefix sign e) S q = valued (λ t. (u : Ground) × has e S (type_is u) × Prefixed sign u t) q
  has_shape (if_then a b c) S q = valued (λ t. has a S (type_is g_bool) × has b S (type_is t) × has c S (type_is t)) q

  -- a name is called as what it is bound to, and so is a built-in of a package; all else as the value that it is, but for
  -- a function literal
  pub callee : Tree → Scope → Answers
  callee (tree place (name x)) S q = S x q
  callee (tree place (member e x)) S q = in_package e x S q ⊎ has_shape (member e x) S q
  callee (tree place s) S q = has_shape s S q

  -- each item has the type
  pub has_items : Trees → Scope → Ground → Type 0
  has_items no_trees S u = Unit {0}
  has_items (more_trees e es) S u = has e S (type_is u) × has_items es S u

  -- each part that is put into a text is of a column kind
  pub has_parts : Parts → Scope → Type 0
  has_parts no_parts S = Unit {0}
  has_parts (piece s ps) S = has_parts ps S
  has_parts (hole e ps) S = ((u : Ground) × IsKind u × has e S (type_is u)) × has_parts ps S

  -- each property has the type that the row has at its label
  pub has_props : Props → Scope → GroundRow → Type 0
  has_props no_props S r = Unit {0}
  has_props (more_props x e ps) S r = ((u : Ground) × (r x ≡ g_is u) × has e S (type_is u)) × has_props ps S r

  -- the same for arguments; label arguments say words, and have no type
  pub has_args : Props → Scope → Option Builtin → GroundRow → Type 0
  has_args no_props S b r = Unit {0}
  has_args (more_props x e ps) S b r =
      at_form (form_at b x) ((u : Ground) × (r x ≡ g_is u) × has e S (type_is u)) (λ f. (r x ≡ g_absent) × IsInForce f e S) × has_args ps S b r

  -- a value of type u goes through the calls and comes out with type t
  pub has_pipes : Trees → Scope → Ground → Ground → Type 0
  has_pipes no_trees S u t = u ≡ t
  has_pipes (more_trees e es) S u t = (w : Ground) × has_pipe e S u w × has_pipes es S w t

  -- a call with a value of type u from the pipe has the type t
  pub has_pipe : Tree → Scope → Ground → Ground → Type 0
  has_pipe (tree place (call e ps)) S u t = IsType t × Called (callee e S) ps (has_args ps S) (λ r L. IsPipe u r L t)
  has_pipe (tree place s) S u t = ⊥

  -- operators one after another, the first with a left operand of type u; the last gives t
  pub has_links : Links → Scope → Ground → Ground → Type 0
  has_links no_links S u t = u ≡ t
  has_links (more_links place op e ls) S u t = (w : Ground) × (v : Ground) × has e S (type_is w) × Infixed op u w v × has_links ls S v t

  -- each assignment of a block has a type in the scope of those before it; after the last comes what `Result` asks of
  -- their scope
  pub has_lets : Props → Scope → (Scope → Type 0) → Type 0
  has_lets no_props S Result = Result S
  has_lets (more_props x e ps) S Result = ((u : Ground) × has e S (type_is u)) × has_lets ps (with_name x (has e S) S) Result

  -- the parameters have types, and each default has that of its parameter, outside of the function
  pub has_params : Params → Scope → (Label → Ground) → Type 0
  has_params no_params S P = Unit {0}
  has_params (more_params x d ps) S P = IsType (P x) × has_default d S (P x) × has_params ps S P

  pub has_default : Default → Scope → Ground → Type 0
  has_default required S u = Unit {0}
  has_default by_pipe S u = Unit {0}
  has_default (by_value e) S u = has e S (type_is u)
