-- What names and literals answer, and what their values are.
use Rattle.std.proofs.Common.{◌≡◌, refl, sym, ap, subst, ◌∙◌, inl, inr, Bool, true, false, [], ◌∷◌, Some, None, ◌⊎◌}
use Rattle.std.specs.Prelude.{if◌then◌else◌, Option, option_map, codes}
use Rattle.fx_base.specs.Text.{same_text}
use Rattle.fx_types.specs.Term.{Label}
use Rattle.fx_types.specs.Ground.{Ground, g_bool, g_fun}
use Rattle.fx_types.specs.Size.{IsType}
use Rattle.fx_schemes.proofs.SignatureLaws.{line_signature}
use Rattle.fx_schemes.specs.Builtins.{IsLine}
use Rattle.fx_schemes.specs.Given.{Given}
use Rattle.fx_schemes.specs.Line.{Line, value}
use Rattle.fx_schemes.specs.Names.{builtin_of}
use Rattle.fx_schemes.specs.Signature.{Signature, IsFunctionOf, HasSignature, signature_of}
use Rattle.fx_schemes.specs.declared.list.Builtin.{Builtin}
use Rattle.fx_schemes.specs.declared.list.Builtin.TheVariants as b
use Rattle.fx_ast.specs.Tree.{Tree, tree, Shape, paren, rec, fun, Props, Params}
use Rattle.fx_meaning.specs.Meaning.{named}
use Rattle.fx_meaning.specs.Native as natives
use Rattle.fx_meaning.specs.Native.{built_of, native_builtin, path_of, value_if, value_of}
use Rattle.fx_meaning.specs.Ends.{found}
use Rattle.fx_meaning.specs.Value.{Val, closure, in_package, Slots, look, or_else}
use Rattle.fx_meaning.specs.declared.built.Built.TheVariants as built
use Rattle.fx_meaning.specs.declared.native.Native.{Native}
use Rattle.fx_meaning.specs.declared.package.Package.{Package}
use Rattle.fx_meaning.specs.declared.setting.Setting.{Setting}
use Rattle.fx_infer.specs.Ask.{Ask, type_is, line_is, builtin_is, package_is, Answers, Scope, either, of_type}
use Rattle.fx_infer.specs.Environment.{Env, param, assigned, imported, scope, of_package}
use Rattle.fx_infer.specs.Native.{IsValueOf, native as native_answers}
use Rattle.fx_infer.specs.Typing.{has, has_shape}
use Rattle.fx_build.specs.Bound.{Bound, unbound, typed, defined, packaged, find, Literal, literal, no_literal, literal_of, literal_in}
use Rattle.fx_build.specs.Fit.{fits, holds, keeps, keeps_at, NativeFits, IsDefined, IsUnbound}
use Rattle.fx_build.specs.Safe.{IsSafe}
use Rattle.fx_build.proofs.SlotLaws.{AtSlot, keeps_out}

-- ---- what a value answers

-- the closure of a literal that may be called by the line
abbrev pub HasLine : Val → Line → Type 0
HasLine (closure ps lets e captured setting) L =
    (env : Env) × has_shape (fun ps lets e) (scope env) (line_is L) × holds (closure ps lets e captured setting) env
HasLine _ L = ⊥

-- as a value of its type, or as a literal
abbrev pub IsCallable : Val → Line → Type 0
IsCallable v L = ((t : Ground) × (L ≡ value t) × IsType t × fits v t) ⊎ HasLine v L

abbrev pub Obeys : Val → Answers
Obeys v (type_is t) = fits v t
Obeys v (line_is L) = IsCallable v L
Obeys v (builtin_is b) = v ≡ value_of (built_of b)
Obeys v (package_is path) = (p : Package) × (path_of p ≡ path) × (v ≡ in_package p)

-- ---- built-ins

-- a truth, or a function that takes something
abbrev pub IsBuilt : Builtin → Type 0
IsBuilt x =
    ((c : Bool) × (built_of x ≡ built.Truth c) × ((w : Given) (L : Line) → IsLine x w L → L.type ≡ g_bool))
    ⊎ ((g : Native) × (built_of x ≡ built.Function g) × (native_builtin g ≡ x) × ((s : Signature) × (signature_of x ≡ Some s)))

pub is_built : (x : Builtin) → IsBuilt x
unfolding IsLine
is_built b.True = inl (true, refl, λ w L h. ap (λ l. l.type) h)
is_built b.False = inl (false, refl, λ w L h. ap (λ l. l.type) h)
is_built _ = inr (_, refl, refl, (_, refl))

pub truth_fits : (c : Bool) (t : Ground) → g_bool ≡ t → fits (value_of (built.Truth c)) t
truth_fits c t e = subst (fits (value_of (built.Truth c))) e refl

function_fits : (x : Builtin) (g : Native) (s : Signature) (t : Ground) (h : IsValueOf x t) → native_builtin g ≡ x → IsFunctionOf s h.0 → IsType t → NativeFits g t
function_fits x g s t h back f is =
    let e = sym h.2 ∙ f.type in
    subst (NativeFits g) (sym e) (subst IsType e is, subst (λ y. IsValueOf y (g_fun f.needs f.input f.gives)) (sym back) (subst (IsValueOf x) e h))

built_fits : (x : Builtin) (t : Ground) → IsBuilt x → IsType t → IsValueOf x t → fits (value_of (built_of x)) t
built_fits x t (inl k) is h = subst (λ m. fits (value_of m) t) (sym k.1) (truth_fits k.0 t (sym (k.2 [] h.0 h.1) ∙ h.2))
built_fits x t (inr k) is h =
    subst (λ m. fits (value_of m) t) (sym k.1)
    (function_fits x k.0 k.3.0 t h k.2 (subst (λ s. HasSignature s h.0) k.3.1 (line_signature x [] h.0 h.1)) is)

pub native_obeys : (o : Option Builtin) (q : Ask) → native_answers o q → (x : Builtin) × (o ≡ Some x) × Obeys (value_of (built_of x)) q
native_obeys None q h = absurd h
native_obeys (Some x) (type_is t) h = (x, refl, built_fits x t (is_built x) h.0 h.1)
native_obeys (Some x) (builtin_is y) h = (x, refl, ap (λ z. value_of (built_of z)) h)
native_obeys (Some x) (line_is L) h = absurd h
native_obeys (Some x) (package_is path) h = absurd h

unbound_obeys : (x : Label) (q : Ask) → native_answers (builtin_of (codes "") x) q → (v : Val) × (value_if (natives.named x) ≡ Some v) × Obeys v q
unbound_obeys x q h =
    let n = native_obeys (builtin_of (codes "") x) q h in (value_of (built_of n.0), ap (λ o. value_if (option_map built_of o)) n.1, n.2)

-- ---- literals, and what else expressions are

-- what is no literal answers by its types
abbrev pub ByType : Answers → Answers
ByType A (type_is t) = A (type_is t)
ByType A (line_is L) = (t : Ground) × (L ≡ value t) × IsType t × A (type_is t)
ByType A _ = ⊥

abbrev pub AsLiteral : Literal → Scope → Answers → Answers
AsLiteral (literal ps lets e) S A q = has_shape (fun ps lets e) S q
AsLiteral no_literal S A q = ByType A q

mutual
  pub as_literal : (e : Tree) (S : Scope) (q : Ask) → has e S q → AsLiteral (literal_of e) S (has e S) q
  as_literal (tree place s) S q h = shape_literal s S q h

  shape_literal : (s : Shape) (S : Scope) (q : Ask) → has_shape s S q → AsLiteral (literal_in s) S (has_shape s S) q
  shape_literal (fun ps lets e) S q h = h
  shape_literal (paren e) S q h = as_literal e S q h
  shape_literal (rec None ps) S (type_is t) h = h
  shape_literal (rec None ps) S (line_is L) h = (h.0, h.1, h.3, (h.3, h.4))
  shape_literal (rec None ps) S (builtin_is x) h = h
  shape_literal (rec None ps) S (package_is path) h = h
  shape_literal (rec (Some x) ps) S (type_is t) h = h
  shape_literal (rec (Some x) ps) S (line_is L) h = (h.0, h.1, h.3, (h.3, h.4))
  shape_literal (rec (Some x) ps) S (builtin_is y) h = h
  shape_literal (rec (Some x) ps) S (package_is path) h = h
  shape_literal _ S (type_is t) h = h
  shape_literal _ S (line_is L) h = (h.0, h.1, h.3, (h.3, h.4))
  shape_literal _ S (builtin_is x) h = h
  shape_literal _ S (package_is path) h = h

-- the closure of a literal answers as the literal does
pub closure_obeys : (ps : Params) (lets : Props) (e : Tree) (captured : Slots) (setting : Setting) (env : Env) (q : Ask)
    → has_shape (fun ps lets e) (scope env) q → holds (closure ps lets e captured setting) env → Obeys (closure ps lets e captured setting) q
closure_obeys ps lets e captured setting env (type_is t) h met =
    subst (fits (closure ps lets e captured setting)) h.1.2 (env, subst (λ u. has_shape (fun ps lets e) (scope env) (type_is u)) (sym h.1.2) h, met)
closure_obeys ps lets e captured setting env (line_is L) h met = inr (env, h, met)
closure_obeys ps lets e captured setting env (builtin_is x) h met = absurd h
closure_obeys ps lets e captured setting env (package_is path) h met = absurd h

by_type_obeys : (v : Val) (A : Answers) (q : Ask) → ((t : Ground) → A (type_is t) → fits v t) → ByType A q → Obeys v q
by_type_obeys v A (type_is t) fit h = fit t h
by_type_obeys v A (line_is L) fit h = inl (h.0, h.1, h.2, fit h.0 h.3)
by_type_obeys v A (builtin_is x) fit h = absurd h
by_type_obeys v A (package_is path) fit h = absurd h

defined_obeys : (v : Val) (env : Env) (e : Tree) (l : Literal) (q : Ask) → IsDefined (fits v) (holds v) v env e l → AsLiteral l (scope env) (has e (scope env)) q → Obeys v q
defined_obeys v env e (literal ps lets r) q k h =
    let made = k.0.2 in
    subst (λ w. Obeys w q) (sym made) (closure_obeys ps lets r k.0.0 k.0.1 env q h (subst (λ w. holds w env) made k.1))
defined_obeys v env e no_literal q k h = by_type_obeys v (has e (scope env)) q k h

-- ---- names

-- the answers of a name of which an environment says so
abbrev pub answers : Bound → Answers
answers (unbound x) = native_answers (builtin_of (codes "") x)
answers (typed t) = of_type t
answers (defined env e) = has e (scope env)
answers (packaged path) = of_package path

newest : (c : Bool) (d older : Bound) (q : Ask) (Rest : Type 0) → (Rest → answers older q) → either c (answers d q) Rest → answers (if c then d else older) q
newest true d older q Rest rest h = h
newest false d older q Rest rest h = rest h

pub scope_answers : (env : Env) (x : Label) (q : Ask) → scope env x q → answers (find x env) q
scope_answers [] x q h = h
scope_answers (param y t ∷ env) x q h = newest (same_text x y) (typed t) (find x env) q (scope env x q) (scope_answers env x q) h
scope_answers (assigned y e ∷ env) x q h = newest (same_text x y) (defined env e) (find x env) q (scope env x q) (scope_answers env x q) h
scope_answers (imported y path ∷ env) x q h = newest (same_text x y) (packaged path) (find x env) q (scope env x q) (scope_answers env x q) h

pub keeps_obeys : (v : Val) (d : Bound) (q : Ask) → keeps v d → answers d q → Obeys v q
keeps_obeys v (unbound x) q k h =
    let n = unbound_obeys x q h in
    let same : n.0 ≡ v = cc (n.1, k) in subst (λ w. Obeys w q) same n.2
keeps_obeys v (typed t) (type_is u) k h = subst (fits v) (sym h.1) k
keeps_obeys v (typed t) (line_is L) k h = inl (h.0, h.1, h.3, subst (fits v) (sym h.4) k)
keeps_obeys v (typed t) (builtin_is x) k h = absurd h
keeps_obeys v (typed t) (package_is path) k h = absurd h
keeps_obeys v (packaged path) (package_is p) k h = (k.0, k.1 ∙ h, k.2)
keeps_obeys v (packaged path) (type_is t) k h = absurd h
keeps_obeys v (packaged path) (line_is L) k h = absurd h
keeps_obeys v (packaged path) (builtin_is x) k h = absurd h
keeps_obeys v (defined env e) q k h = defined_obeys v env e (literal_of e) q k (as_literal e (scope env) q h)

-- nothing binds a name but itself

unbound_newest : (c : Bool) (x : Label) (d older : Bound) → (IsUnbound d → ⊥) → (IsUnbound older → older ≡ unbound x) → IsUnbound (if c then d else older) → (if c then d else older) ≡ unbound x
unbound_newest true x d older never rest h = absurd (never h)
unbound_newest false x d older never rest h = rest h

pub unbound_itself : (env : Env) (x : Label) → IsUnbound (find x env) → find x env ≡ unbound x
unbound_itself [] x h = refl
unbound_itself (param y t ∷ env) x h = unbound_newest (same_text x y) x (typed t) (find x env) (λ h. h) (unbound_itself env x) h
unbound_itself (assigned y e ∷ env) x h = unbound_newest (same_text x y) x (defined env e) (find x env) (λ h. h) (unbound_itself env x) h
unbound_itself (imported y path ∷ env) x h = unbound_newest (same_text x y) x (packaged path) (find x env) (λ h. h) (unbound_itself env x) h

slot_obeys : (o : Option Val) (x : Label) (d : Bound) (q : Ask) → (IsUnbound d → d ≡ unbound x) → AtSlot o d (IsUnbound d) → answers d q
    → IsSafe (λ v. Obeys v q) (found (or_else o (value_if (natives.named x))))
slot_obeys (Some v) x d q itself k h = keeps_obeys v d q k h
slot_obeys None x d q itself k h =
    let n = unbound_obeys x q (subst (λ e. answers e q) (itself k) h) in rw n.1 n.2

-- a name is found, and its value answers as the name does
pub named_obeys : (slots : Slots) (env : Env) (x : Label) (q : Ask) → keeps_at slots x (find x env) (IsUnbound (find x env)) → scope env x q
    → IsSafe (λ v. Obeys v q) (found (named x slots))
named_obeys slots env x q k h =
    slot_obeys (look x slots) x (find x env) q (unbound_itself env x) (keeps_out slots x (find x env) (IsUnbound (find x env)) k) (scope_answers env x q h)
