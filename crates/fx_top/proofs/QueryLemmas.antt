-- What the nodes of a tree are, where the tree without places is known.
use Rattle.std.proofs.Common.{◌≡◌, ◌↔◌, ℕ, ℤ, List, [], ◌∷◌, length, codes, refl, sym, ◌∙◌, ap, subst, map, Option, None, Some}
use Rattle.std.specs.Option.{IfNone, IfSome}
use Rattle.fx_ast.specs.declared.expr.Expr.{Expr}
use Rattle.fx_ast.specs.declared.expr.Node.{Node}
use Rattle.fx_ast.specs.declared.expr.Node.TheVariants as node
use Rattle.fx_ast.specs.declared.expr.Part.{Part}
use Rattle.fx_ast.specs.declared.expr.Prop.{Prop}
use Rattle.fx_ast.specs.Tree.{Tree, tree, Shape, name, text, call, pipe, more_trees, no_trees, piece, no_parts, Props, no_props, more_props, StatementForm, show, StatementTree, ScriptTree}
use Rattle.fx_ast.specs.Shape.{a_piece, a_hole, OfProp, tree_of, shape_of, part, prop, trees_of, parts_of, props_of}
use Rattle.fx_ast.specs.Bare.{nowhere, bare, bare_shape, bare_trees, bare_parts, bare_props, bare_script}
use Rattle.fx_ast.proofs.ShapeLaws.{tree_is, prop_is}
use Rattle.fx_ast.proofs.BareLaws.{Opens, opens, bare_name, bare_text, bare_call, bare_pipe}
use Rattle.fx_top.specs.declared.query.Query.{Query}
use Rattle.fx_top.specs.Query.{IsQuery, shown, piped, called, text_arg, time_args}

pub if_none : {A : Type 0} (o : Option A) (P : Type 0) → P → IfNone o P
if_none None P p = p
if_none (Some x) P p = tt

pub none_so : {A : Type 0} (o : Option A) (P Q : Type 0) → (P → Q) → IfNone o P → IfNone o Q
none_so None P Q f p = f p
none_so (Some x) P Q f p = tt

pub some_so : {A : Type 0} (o : Option A) (P Q : A → Type 0) → ((x : A) → P x → Q x) → IfSome o P → IfSome o Q
some_so None P Q f p = tt
some_so (Some x) P Q f p = f x p

pub same_one : {A : Type 0} (x y : A) → x ∷ [] ≡ y ∷ [] → x ≡ y
same_one x y h = cc

pub same_two : {A : Type 0} (x y z w : A) → x ∷ y ∷ [] ≡ z ∷ w ∷ [] → (x ≡ z) × (y ≡ w)
same_two x y z w h = (cc, cc)

-- ---- an expression by its node

bare_is : (e : Expr) → bare (tree_of e) ≡ tree nowhere (bare_shape (shape_of e.node))
unfolding bare
bare_is e = ap bare (tree_is e)

same_shape : (s r : Shape) → tree nowhere s ≡ tree nowhere r → s ≡ r
same_shape s r h = cc

node_of : (e : Expr) (s : Shape) → bare (tree_of e) ≡ tree nowhere s → bare_shape (shape_of e.node) ≡ s
node_of e s h = same_shape (bare_shape (shape_of e.node)) s (sym (bare_is e) ∙ h)

-- an expression with such a tree has such a node
pub opens_as : (e : Expr) (s : Shape) → bare (tree_of e) ≡ tree nowhere s → Opens e.node s
opens_as e s h = subst (Opens e.node) (node_of e s h) (opens e.node)

-- an expression with such a node has such a tree
pub made_of : (e : Expr) (n : Node) (s : Shape) → e.node ≡ n → bare_shape (shape_of n) ≡ s → bare (tree_of e) ≡ tree nowhere s
made_of e n s is h = bare_is e ∙ ap (tree nowhere) (ap (λ m. bare_shape (shape_of m)) is ∙ h)

-- and no other
only_shape : (e : Expr) (n : Node) (s r : Shape) → e.node ≡ n → bare_shape (shape_of n) ≡ s → bare (tree_of e) ≡ tree nowhere r → s ≡ r
only_shape e n s r is h told = sym (ap (λ m. bare_shape (shape_of m)) is ∙ h) ∙ node_of e r told

-- ---- names

same_label : (x y : List ℕ) → name x ≡ name y → x ≡ y
same_label x y h = cc

pub named : (e : Expr) (x y : List ℕ) → e.node ≡ node.Name x → (x ≡ y) ↔ (bare (tree_of e) ≡ tree nowhere (name y))
named e x y is =
    (λ h. made_of e (node.Name x) (name y) is (bare_name x ∙ ap name h), λ h. same_label x y (only_shape e (node.Name x) (name x) (name y) is (bare_name x) h))

-- ---- calls

same_callee : (a b : Tree) (ps qs : Props) → call a ps ≡ call b qs → a ≡ b
same_callee a b ps qs h = cc

module _ (e callee : Expr) (ps : List Prop) (x : List ℕ) (is : e.node ≡ node.Call callee ps) where
  pub called_is : bare (tree_of callee) ≡ tree nowhere (name x) → bare (tree_of e) ≡ called x (bare_props (props_of (map prop ps)))
  called_is h =
      made_of e (node.Call callee ps) (call (tree nowhere (name x)) (bare_props (props_of (map prop ps)))) is
      (bare_call callee ps ∙ ap (λ t. call t (bare_props (props_of (map prop ps)))) h)

  pub callee_of : (args : Props) → bare (tree_of e) ≡ called x args → bare (tree_of callee) ≡ tree nowhere (name x)
  callee_of args h =
      same_callee (bare (tree_of callee)) (tree nowhere (name x)) (bare_props (props_of (map prop ps))) args
      (only_shape e (node.Call callee ps) (call (bare (tree_of callee)) (bare_props (props_of (map prop ps)))) (call (tree nowhere (name x)) args) is (bare_call callee ps) h)

-- ---- pipes

one_tree : (es : List Expr) (a b c : Tree) → pipe a (bare_trees (trees_of (map tree_of es))) ≡ pipe b (more_trees c no_trees) → length es ≡ 1
unfolding bare
one_tree [] a b c h = cc
one_tree (e ∷ []) a b c h = refl
one_tree (e ∷ f ∷ es) a b c h = cc

module _ (e first : Expr) (calls : List Expr) (is : e.node ≡ node.Pipe first calls) where
  pub piped_is : (last : Expr) → calls ≡ last ∷ [] → bare (tree_of e) ≡ piped (bare (tree_of first)) (bare (tree_of last))
  unfolding bare
  piped_is last one =
      made_of e (node.Pipe first calls) (pipe (bare (tree_of first)) (more_trees (bare (tree_of last)) no_trees)) is
      (bare_pipe first calls ∙ ap (λ es. pipe (bare (tree_of first)) (bare_trees (trees_of (map tree_of es)))) one)

  pub one_call : (a b : Tree) → bare (tree_of e) ≡ piped a b → length calls ≡ 1
  one_call a b h =
      one_tree calls (bare (tree_of first)) a b
      (only_shape e (node.Pipe first calls) (pipe (bare (tree_of first)) (bare_trees (trees_of (map tree_of calls)))) (pipe a (more_trees b no_trees)) is (bare_pipe first calls) h)

-- ---- texts

one_part : (ps : List Part) (s : List ℕ) → text (bare_parts (parts_of (map part ps))) ≡ text (piece s no_parts) → (p : Part) × (ps ≡ p ∷ []) × (part p ≡ a_piece s)
unfolding bare
one_part [] s h = cc
one_part (p ∷ []) s h =
    elim (part p) as (λ q. text (bare_parts (parts_of (q ∷ []))) ≡ text (piece s no_parts) → part p ≡ q → (r : Part) × ((p ∷ []) ≡ r ∷ []) × (part r ≡ a_piece s))
    [ a_piece t ↦ λ told is. (p, refl, is ∙ cc) | a_hole t ↦ λ told is. cc ] h refl
one_part (p ∷ q ∷ ps) s h =
    elim (part p) as (λ o. text (bare_parts (parts_of (o ∷ part q ∷ map part ps))) ≡ text (piece s no_parts) → (r : Part) × ((p ∷ q ∷ ps) ≡ r ∷ []) × (part r ≡ a_piece s)) [
      | a_piece t ↦ λ told. elim (part q) as (λ o. text (piece t (bare_parts (parts_of (o ∷ map part ps)))) ≡ text (piece s no_parts) → (r : Part) × ((p ∷ q ∷ ps) ≡ r ∷ []) × (part r ≡ a_piece s))
          [ a_piece u ↦ λ both. cc | a_hole u ↦ λ both. cc ] told
      | a_hole t ↦ λ told. cc
    ] h

module _ (e : Expr) (ps : List Part) (is : e.node ≡ node.Text ps) where
  pub text_is : (p : Part) (s : List ℕ) → ps ≡ p ∷ [] → part p ≡ a_piece s → bare (tree_of e) ≡ tree nowhere (text (piece s no_parts))
  unfolding bare
  text_is p s one h =
      made_of e (node.Text ps) (text (piece s no_parts)) is
      (bare_text ps ∙ ap (λ qs. text (bare_parts (parts_of (map part qs)))) one ∙ ap (λ q. text (bare_parts (parts_of (q ∷ [])))) h)

  pub piece_of : (s : List ℕ) → bare (tree_of e) ≡ tree nowhere (text (piece s no_parts)) → (p : Part) × (ps ≡ p ∷ []) × (part p ≡ a_piece s)
  piece_of s h = one_part ps s (only_shape e (node.Text ps) (text (bare_parts (parts_of (map part ps)))) (text (piece s no_parts)) is (bare_text ps) h)

-- ---- arguments

-- the bare arguments, one by one
args_are : (p : Prop) (ps : List Prop) → bare_props (props_of (map prop (p ∷ ps))) ≡ more_props p.label (bare (tree_of p.value)) (bare_props (props_of (map prop ps)))
unfolding bare
args_are p ps = ap (λ (o : OfProp). more_props o.label (bare o.value) (bare_props (props_of (map prop ps)))) (prop_is p)

no_args : bare_props (props_of (map prop [])) ≡ no_props
unfolding bare
no_args = refl

pub one_is : (args : List Prop) (p : Prop) (x : List ℕ) (t : Tree) → args ≡ p ∷ [] → p.label ≡ x → bare (tree_of p.value) ≡ t → bare_props (props_of (map prop args)) ≡ more_props x t no_props
one_is args p x t is label value = ap (λ ps. bare_props (props_of (map prop ps))) is ∙ args_are p [] ∙ rw (no_args, label, value) refl

pub one_of : (args : List Prop) (x : List ℕ) (t : Tree) → bare_props (props_of (map prop args)) ≡ more_props x t no_props → (p : Prop) × (args ≡ p ∷ []) × (p.label ≡ x) × (bare (tree_of p.value) ≡ t)
one_of [] x t h = let none = sym no_args ∙ h in cc
one_of (p ∷ []) x t h =
    let is : more_props p.label (bare (tree_of p.value)) (bare_props (props_of (map prop []))) ≡ more_props x t no_props = sym (args_are p []) ∙ h in
    (p, refl, cc, cc)
one_of (p ∷ q ∷ ps) x t h =
    let is : more_props p.label (bare (tree_of p.value)) (bare_props (props_of (map prop (q ∷ ps)))) ≡ more_props x t no_props = sym (args_are p (q ∷ ps)) ∙ h in
    let more = args_are q ps in
    cc

pub two_is : (args : List Prop) (p q : Prop) (x y : List ℕ) (t u : Tree) → args ≡ p ∷ q ∷ [] → (p.label ≡ x) × (bare (tree_of p.value) ≡ t) → (q.label ≡ y) × (bare (tree_of q.value) ≡ u)
    → bare_props (props_of (map prop args)) ≡ more_props x t (more_props y u no_props)
two_is args p q x y t u is a b =
    ap (λ ps. bare_props (props_of (map prop ps))) is ∙ args_are p (q ∷ []) ∙ rw (args_are q [], no_args, a.0, a.1, b.0, b.1) refl

pub two_of : (args : List Prop) (x y : List ℕ) (t u : Tree) → bare_props (props_of (map prop args)) ≡ more_props x t (more_props y u no_props)
    → (p : Prop) × (q : Prop) × (args ≡ p ∷ q ∷ []) × ((p.label ≡ x) × (bare (tree_of p.value) ≡ t)) × ((q.label ≡ y) × (bare (tree_of q.value) ≡ u))
two_of [] x y t u h = let none = sym no_args ∙ h in cc
two_of (p ∷ ps) x y t u h =
    let is : more_props p.label (bare (tree_of p.value)) (bare_props (props_of (map prop ps))) ≡ more_props x t (more_props y u no_props) = sym (args_are p ps) ∙ h in
    let rest : bare_props (props_of (map prop ps)) ≡ more_props y u no_props = cc in
    let second = one_of ps y u rest in
    (p, second.0, ap (λ qs. p ∷ qs) second.1, (cc, cc), (second.2, second.3))

-- ---- the parts of a query's tree

form_expr : Tree → StatementForm → Tree
form_expr other (show e) = e
form_expr other form = other

first_expr : Tree → List StatementTree → Tree
first_expr other [] = other
first_expr other (s ∷ ss) = form_expr other s.form

pub same_shown : (a b : Tree) → shown a ≡ shown b → a ≡ b
unfolding first_expr form_expr
same_shown a b h = ap (λ (t : ScriptTree). first_expr a t.statements) h

pub same_sides : (a b c d : Tree) → piped a b ≡ piped c d → (a ≡ c) × (b ≡ d)
same_sides a b c d h = (cc, cc)

pub same_args : (x : List ℕ) (ps qs : Props) → called x ps ≡ called x qs → ps ≡ qs
same_args x ps qs h = cc

pub same_text_arg : (label value other : List ℕ) → text_arg label value ≡ text_arg label other → value ≡ other
same_text_arg label value other h = cc

pub same_time_args : (a b : List ℕ) (start stop other last : ℤ) → time_args a start b stop ≡ time_args a other b last → (start ≡ other) × (stop ≡ last)
same_time_args a b start stop other last h = (cc, cc)

abbrev pub from_args : Query → Props
from_args q = text_arg (codes "bucket") q.bucket

abbrev pub range_args : Query → Props
range_args q = time_args (codes "start") q.start (codes "stop") q.stop

module _ (t : ScriptTree) (q : Query) (h : IsQuery t q) (e : Tree) (is : bare_script t ≡ shown e) where
  pub pipe_of : e ≡ piped (called (codes "from") (from_args q)) (called (codes "range") (range_args q))
  pipe_of = same_shown e (piped (called (codes "from") (from_args q)) (called (codes "range") (range_args q))) (sym is ∙ h.same)

  pub sides_of : (a b : Tree) → e ≡ piped a b → (a ≡ called (codes "from") (from_args q)) × (b ≡ called (codes "range") (range_args q))
  sides_of a b sides = same_sides a b (called (codes "from") (from_args q)) (called (codes "range") (range_args q)) (sym sides ∙ pipe_of)

  pub bucket_of : (a b : Tree) (args : Props) → e ≡ piped a b → a ≡ called (codes "from") args → args ≡ from_args q
  bucket_of a b args sides from = same_args (codes "from") args (from_args q) (sym from ∙ (sides_of a b sides).0)

  pub times_of : (a b : Tree) (args : Props) → e ≡ piped a b → b ≡ called (codes "range") args → args ≡ range_args q
  times_of a b args sides range = same_args (codes "range") args (range_args q) (sym range ∙ (sides_of a b sides).1)
