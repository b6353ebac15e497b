-- Scripts that have no typing, each with the reason that the rules give.
use Rattle.std.proofs.Common.{◌≡◌, inl, inr, refl, sym, ap, subst, ◌∙◌, ◌≤◌, Bool, true, false, ◌||◌, List, [], ◌∷◌, None, arith}
use Rattle.std.specs.Prelude.{codes, pos, if◌then◌else◌, FitsSigned}
use Rattle.std.specs.Int.{w64}
use Rattle.std.proofs.lemmas.Int.{fits_signed_from_abs}
use Rattle.fx_base.specs.declared.place.Place.{Place}
use Rattle.fx_base.specs.Text.{same_text}
use Rattle.fx_types.specs.Term.{Label, Term, int as t_int, text as t_text, fun as t_fun, more_labels, no_labels, no_pipe}
use Rattle.fx_types.specs.Instance.{ground, plainest}
use Rattle.fx_types.specs.Nodes.{nodes, capped}
use Rattle.fx_types.specs.Size.{AtMost, IsType}
use Rattle.fx_types.proofs.SizeLaws.{size_is}
use Rattle.fx_types.specs.Ground.{Ground, GroundField, GroundRow, IsWellFormed, IsWellFormedField, g_int, g_text, g_span, g_array, g_fun, g_rec, g_absent, g_is}
use Rattle.fx_types.specs.Kinds.{IsAmong}
use Rattle.fx_value.specs.declared.scalar.Kind.TheVariants as kind
use Rattle.fx_ast.specs.declared.expr.Infix.TheVariants as between
use Rattle.fx_ast.specs.Tree.{Tree, tree, Shape, int, span, text, name, array, rec, fun, call, chain, no_trees, more_trees, no_parts, piece, no_props, more_props, Params, no_params, more_params, required, by_value, no_links, more_links, StatementForm, import, assign, StatementTree}
use Rattle.fx_schemes.specs.Line.{value}
use Rattle.fx_schemes.specs.Names.{stream_of, value_of, streams, values}
use Rattle.fx_infer.specs.Arguments.{Takes}
use Rattle.fx_infer.specs.Ask.{Ask, type_is, line_is, Scope}
use Rattle.fx_infer.specs.Environment.{assigned, scope}
use Rattle.fx_infer.specs.Native.{natives}
use Rattle.fx_infer.specs.Parameters.{field_if, type_of, line_of, AreDeclared, with_params}
use Rattle.fx_infer.specs.Script.{HasTyping}
use Rattle.fx_infer.specs.Typing.{has, has_lets, has_params}

abbrev nowhere : Place
nowhere = record { at = 0 }

abbrev at : Shape → Tree
at s = tree nowhere s

abbrev statement : StatementForm → StatementTree
statement f = record { place = nowhere; form = f }

abbrev x : Label
x = codes "x"

abbrev y : Label
y = codes "y"

abbrev f : Label
f = codes "f"

-- `x = 1h + 1h`: durations have no `+`

abbrev hour : Tree
hour = at (span (record { months = pos 0; nanos = pos 3600000000000 }))

no_sum : (u : Ground) → u ≡ g_span → IsAmong (kind.Int ∷ kind.Text ∷ []) false u → ⊥
no_sum u e (inl i) = cc
no_sum u e (inr (inl i)) = cc
no_sum u e (inr (inr i)) = cc

pub durations_have_no_sum : HasTyping (statement (assign x (at (chain hour (more_links nowhere between.Add hour no_links)))) ∷ []) → ⊥
durations_have_no_sum h = no_sum h.0.1.1.1.0 h.0.1.1.1.1.1.0 h.0.1.1.1.2.3.0

-- `f = (x) => [x, [x]]`: no type stands inside itself

in_itself : (u : Ground) → u ≡ g_array u → ⊥
in_itself (g_array v) e = in_itself v (cc e)
in_itself _ e = cc

abbrev a_function : Params → Tree → Tree
a_function ps e = at (fun ps no_props e)

abbrev of_x : Params
of_x = more_params x required no_params

pub no_type_stands_inside_itself : HasTyping (statement (assign f (a_function of_x (at (array (more_trees (at (name x)) (more_trees (at (array (more_trees (at (name x)) no_trees))) no_trees)))))) ∷ []) → ⊥
no_type_stands_inside_itself h = loop h.0.1.1.1.3.2.1.0 h.0.1.1.1.3.2.1.2.1.0.1.0 (h.0.1.1.1.0 x) h.0.1.1.1.3.2.1.2.0.1.1 h.0.1.1.1.3.2.1.2.1.0.1.1 h.0.1.1.1.3.2.1.2.1.0.1.2.0.1.1
  where
    loop : (u v w : Ground) → u ≡ w → u ≡ g_array v → v ≡ w → ⊥
    loop u v w a b c = in_itself u (b ∙ ap g_array (c ∙ sym a))

-- `f = (x, y=x) => y`: a default sees no parameter

pub a_default_sees_no_parameter : HasTyping (statement (assign f (a_function (more_params x required (more_params y (by_value (at (name x))) no_params)) (at (name y)))) ∷ []) → ⊥
unfolding stream_of value_of streams values
a_default_sees_no_parameter h = h.0.1.1.1.3.1.2.1.1

-- `f = (x) => y`, and then `y = 1`: a name is in scope behind its assignment

pub a_name_comes_first : HasTyping (statement (assign f (a_function of_x (at (name y)))) ∷ statement (assign y (at (int (pos 1)))) ∷ []) → ⊥
unfolding stream_of value_of streams values
a_name_comes_first h = h.0.1.1.1.3.2.1

-- `x = [{a: 1}, {b: 1}]`: items have one type

abbrev a : Label
a = codes "a"

abbrev b : Label
b = codes "b"

abbrev one : Tree
one = at (int (pos 1))

abbrev one_at : Label → Tree
one_at l = at (rec None (more_props l one no_props))

two_rows : (u v : Ground) (r q : GroundRow) → u ≡ g_rec r → u ≡ g_rec q → r a ≡ g_is v → q a ≡ g_absent → ⊥
two_rows u v r q e d there absent = clash v (sym there ∙ (λ i. same i a) ∙ absent)
  where
    same : r ≡ q
    same = cc (e, d)

    clash : (v : Ground) → g_is v ≡ g_absent → ⊥
    clash v e = cc

pub items_have_one_type : HasTyping (statement (assign x (at (array (more_trees (one_at a) (more_trees (one_at b) no_trees))))) ∷ []) → ⊥
items_have_one_type h =
    let items = h.0.1.1.1.2 in
    two_rows h.0.1.1.1.0 items.0.1.3.0.0 items.0.1.0 items.1.0.1.0 items.0.1.1 items.1.0.1.1 items.0.1.3.0.1 (items.1.0.1.4 a refl)

-- `import "strings"` twice, and an import of no package

abbrev strings : StatementTree
strings = statement (import None (codes "strings"))

differ_booleans : true ≡ false → ⊥
differ_booleans e = cc

pub a_name_is_declared_once : HasTyping (strings ∷ strings ∷ []) → ⊥
a_name_is_declared_once h = differ_booleans h.1.0.1

pub five_packages_are_there : HasTyping (statement (import None (codes "foo")) ∷ []) → ⊥
five_packages_are_there h = differ_booleans (sym h.0.0)

-- `f = (x) => x`, `a = f(x: 1)`, `b = f(x: "s")`: a name has another type at each use

abbrev a_call : Label → Label → Tree → Tree
a_call l k e = at (call (at (name l)) (more_props k e no_props))

at_label : (c : Bool) (g : Ground) → field_if (c || false) g ≡ (if c then g_is g else g_absent)
at_label true g = refl
at_label false g = refl

absent_off : (c : Bool) (g : Ground) → (if c then true else false) ≡ false → field_if (c || false) g ≡ g_absent
absent_off true g e = absurd (differ_booleans e)
absent_off false g e = refl

formed_at : (c : Bool) (g : Ground) → IsWellFormed g → IsWellFormedField (field_if c g)
formed_at true g h = h
formed_at false g h = tt

takes_itself : (given optional : GroundField) → Takes given optional given
takes_itself (g_is u) optional = refl
takes_itself g_absent optional = inl refl

-- the type of a function from t to u under the name l
abbrev from : Label → Term → Term → Term
from l t u = t_fun (more_labels l t no_labels) no_pipe u

abbrev made : Term → Ground
made = ground plainest

function_of_one : (l : Label) (t u : Term) → type_of (more_params l required no_params) (λ k. made t) (made u) ≡ made (from l t u)
function_of_one l t u = λ i. g_fun (λ k. at_label (same_text k l) (made t) i) g_absent (made u)

is_function : (l : Label) (t u : Term) → IsWellFormed (made t) → IsWellFormed (made u) → capped (nodes (from l t u)) ≤ 4096 → IsType (type_of (more_params l required no_params) (λ k. made t) (made u))
is_function l t u ft fu le = (
  ((l ∷ [], λ k off. absent_off (same_text k l) (made t) off), λ k. formed_at (same_text k l || false) (made t) ft, tt, fu),
  subst (λ g. AtMost g 4096) (sym (function_of_one l t u)) ((size_is (from l t u) 4096 (omega arith)).1 le),
)

abbrev identity : Tree
identity = a_function of_x (at (name x))

module _ (t : Term) (formed : IsWellFormed (made t)) (is : IsType (made t)) (small : capped (nodes (from x t t)) ≤ 4096) where
  is_identity : IsType (type_of of_x (λ l. made t) (made t))
  is_identity = is_function x t t formed formed small

  body : (S : Scope) → has_lets no_props (with_params of_x (λ l. made t) S) (λ T. has (at (name x)) T (type_is (made t)))
  body S = (is, (is, refl))

  parts : (S : Scope) → AreDeclared of_x no_props × has_params of_x S (λ l. made t) × has_lets no_props (with_params of_x (λ l. made t) S) (λ T. has (at (name x)) T (type_is (made t)))
  parts S = ((refl, refl, omega arith), (is, tt, tt), body S)

  identity_type : (S : Scope) → has identity S (type_is (type_of of_x (λ l. made t) (made t)))
  identity_type S = (is_identity, (λ l. made t, made t, refl, parts S))

  identity_line : (S : Scope) → has identity S (line_is (line_of of_x (λ l. made t) (made t)))
  identity_line S = (λ l. made t, made t, refl, is_identity, parts S)

  -- a call of what is bound to it
  identity_called : (S T : Scope) (e : Tree) → ((q : Ask) → has identity T q → S f q) → has e S (type_is (made t)) → has (a_call f x e) S (type_is (made t))
  identity_called S T e bound h = (
    is,
    (
      None,
      [],
      line_of of_x (λ l. made t) (made t),
      (λ l. field_if (same_text l x || false) (made t)),
      refl,
      refl,
      bound _ (identity_line T),
      ((made t, refl, h), tt),
      (λ l off. absent_off (same_text l x) (made t) off),
      ((λ l. field_if (same_text l x || false) (made t)), g_absent, refl, λ l. takes_itself (field_if (same_text l x || false) (made t)) _),
    ),
  )

abbrev plain : Tree
plain = at (text (piece (codes "s") no_parts))

abbrev pub identity_script : List StatementTree
identity_script = statement (assign f identity) ∷ statement (assign a (a_call f x one)) ∷ statement (assign b (a_call f x plain)) ∷ []

pub another_type_at_each_use : HasTyping identity_script
another_type_at_each_use = (
  (refl, (_, identity_type t_int tt int_type (omega arith) natives)),
  (
    (refl, (g_int, identity_called t_int tt int_type (omega arith) (scope (assigned f identity ∷ [])) natives one (λ q h. h) (int_type, (refl, fits)))),
    ((refl, (g_text, identity_called t_text tt text_type (omega arith) (scope (assigned a (a_call f x one) ∷ assigned f identity ∷ [])) natives plain (λ q h. h) (text_type, (refl, tt)))), tt),
  ),
)
  where
    int_type : IsType g_int
    int_type = (tt, omega arith)

    text_type : IsType g_text
    text_type = (tt, omega arith)

    fits : FitsSigned w64 (pos 1)
    fits = fits_signed_from_abs w64 (pos 1) (omega arith)

-- `f = (g) => g(x: 1)`, `b = f(g: (x, y=2) => x + y)`: as an argument a literal is a value, without its optional labels

abbrev g : Label
g = codes "g"

abbrev of_int : Term
of_int = from x t_int t_int

abbrev of_g : Params
of_g = more_params g required no_params

-- (g) => g(x: 1)
abbrev caller : Tree
caller = a_function of_g (a_call g x one)

-- (x, y=2) => x + y
abbrev sum : Tree
sum =
    a_function (more_params x required (more_params y (by_value (at (int (pos 2)))) no_params))
    (at (chain (at (name x)) (more_links nowhere between.Add (at (name y)) no_links)))

int_type : IsType g_int
int_type = (tt, omega arith)

one_fits : FitsSigned w64 (pos 1)
one_fits = fits_signed_from_abs w64 (pos 1) (omega arith)

two_fits : FitsSigned w64 (pos 2)
two_fits = fits_signed_from_abs w64 (pos 2) (omega arith)

of_int_type : IsType (made of_int)
of_int_type = subst IsType (function_of_one x t_int t_int) (is_function x t_int t_int tt tt (omega arith))

caller_type : IsType (type_of of_g (λ l. made of_int) g_int)
caller_type = is_function g of_int t_int of_int_type.0 tt (omega arith)

one_is : (S : Scope) → has one S (type_is g_int)
one_is S = (int_type, (refl, one_fits))

call_of_g : (S : Scope) → has (a_call g x one) (with_params of_g (λ l. made of_int) S) (type_is g_int)
call_of_g S = (
  int_type,
  (
    None,
    [],
    value (made of_int),
    (λ l. if same_text l x then g_is g_int else g_absent),
    refl,
    refl,
    (made of_int, refl, tt, of_int_type, refl),
    ((g_int, refl, one_is (with_params of_g (λ l. made of_int) S)), tt),
    (λ l off. off_label (same_text l x) off),
    (_, g_absent, refl, λ l. takes_itself (if same_text l x then g_is g_int else g_absent) _),
  ),
)
  where
    off_label : (c : Bool) → (if c then true else false) ≡ false → (if c then g_is g_int else g_absent) ≡ g_absent
    off_label true e = absurd (differ_booleans e)
    off_label false e = refl

caller_parts : (S : Scope)
    → AreDeclared of_g no_props × has_params of_g S (λ l. made of_int) × has_lets no_props (with_params of_g (λ l. made of_int) S) (λ T. has (a_call g x one) T (type_is g_int))
caller_parts S = ((refl, refl, omega arith), (of_int_type, tt, tt), call_of_g S)

sum_is : (S : Scope) → has sum S (type_is (made of_int))
sum_is S = (
  of_int_type,
  (
    (λ l. g_int),
    g_int,
    function_of_one x t_int t_int,
    (
      (refl, refl, omega arith),
      (int_type, tt, (int_type, (int_type, (refl, two_fits)), tt)),
      (int_type, (g_int, (int_type, (int_type, refl)), (g_int, g_int, (int_type, (int_type, refl)), (inl refl, refl, refl), refl))),
    ),
  ),
)

call_of_f : (S : Scope) → ((q : Ask) → has caller natives q → S f q) → has (a_call f g sum) S (type_is g_int)
call_of_f S bound = (
  int_type,
  (
    None,
    [],
    line_of of_g (λ l. made of_int) g_int,
    (λ l. field_if (same_text l g || false) (made of_int)),
    refl,
    refl,
    bound _ ((λ l. made of_int), g_int, refl, caller_type, caller_parts natives),
    ((made of_int, refl, sum_is S), tt),
    (λ l off. absent_off (same_text l g) (made of_int) off),
    ((λ l. field_if (same_text l g || false) (made of_int)), g_absent, refl, λ l. takes_itself (field_if (same_text l g || false) (made of_int)) _),
  ),
)

abbrev pub caller_script : List StatementTree
caller_script = statement (assign f caller) ∷ statement (assign b (a_call f g sum)) ∷ []

pub a_literal_is_a_value : HasTyping caller_script
a_literal_is_a_value = (
  (refl, (_, (caller_type, ((λ l. made of_int), g_int, refl, caller_parts natives)))),
  ((refl, (g_int, call_of_f (scope (assigned f caller ∷ [])) (λ q h. h))), tt),
)
