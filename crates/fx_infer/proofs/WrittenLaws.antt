-- The words of a call as its trees are written.
use Rattle.std.proofs.Common.{◌≡◌, refl, sym, ap, subst, ◌∙◌, ℕ, ◌+◌, ◌≤◌, ◌<◌, List, [], ◌∷◌, ◌++◌, map, take, drop, length, get_or, Option, None, Some, append_assoc, append-nil, false, arith}
use Rattle.std.proofs.lemmas.List.{at_drop_more, at_drop_all, take_more}
use Rattle.fx_types.specs.Ground.{Ground}
use Rattle.fx_types.specs.Term.{Label}
use Rattle.fx_schemes.specs.declared.form.Form.{Form}
use Rattle.fx_schemes.specs.declared.form.Form.TheVariants as form
use Rattle.fx_schemes.specs.declared.given.LabelWords.{LabelWords}
use Rattle.fx_schemes.specs.declared.list.Builtin.{Builtin}
use Rattle.fx_schemes.specs.Signature.{form_of}
use Rattle.fx_ast.proofs.ShapeLaws.{tree_is, prop_is, shape_array, shape_name}
use Rattle.fx_ast.specs.Shape.{part, parts_of, prop, props_of, shape_of, tree_of, trees_of, node_shape, kind_shape, part_shape, body_shape, expr_shape, link_shape, param_shape, prop_shape, body, link, param, OfPart, a_piece, a_hole, OfBody, OfLink, OfParam, OfProp}
use Rattle.fx_ast.specs.Tree.{Tree, tree, Shape, Default, text, name, array}
use Rattle.fx_ast.specs.declared.expr.Body.{Body}
use Rattle.fx_ast.specs.declared.expr.Expr.{Expr}
use Rattle.fx_ast.specs.declared.expr.Link.{Link}
use Rattle.fx_ast.specs.declared.expr.Node.{Node}
use Rattle.fx_ast.specs.declared.expr.Node.TheFolds.{fold-roll-Node}
use Rattle.fx_ast.specs.declared.expr.Node.TheOpen.{Node-F}
use Rattle.fx_ast.specs.declared.expr.Node.TheVariants as node
use Rattle.fx_ast.specs.declared.expr.Node.TheViews.{roll-Node, out-Node, roll-out-Node}
use Rattle.fx_ast.specs.declared.expr.Param.{Param}
use Rattle.fx_ast.specs.declared.expr.ParamKind.{ParamKind}
use Rattle.fx_ast.specs.declared.expr.Part.{Part}
use Rattle.fx_ast.specs.declared.expr.Prop.{Prop}
use Rattle.fx_base.specs.declared.place.Place.{Place}
use Rattle.fx_types.proofs.Lists.{take_all}
use Rattle.fx_infer.specs.Parameters.{prop_names}
use Rattle.fx_infer.specs.Ask.{Ask, Scope}
use Rattle.fx_infer.specs.Callees.{is_literal}
use Rattle.fx_infer.specs.Typing.{has, has_pipe, callee}
use Rattle.fx_schemes.specs.Written.{with_first, many_words, new_words, words_at_label}
use Rattle.fx_infer.specs.Words.{IsInForce, plain_text, item_texts, value_texts, said, and_words, words_of_call}

-- an expression by its node

pub at_shape : (e : Expr) (n : Node) (sh : Shape) → n ≡ e.node → shape_of n ≡ sh → tree_of e ≡ tree e.place sh
at_shape e n sh is form = tree_is e ∙ ap (tree e.place) (ap shape_of (sym is) ∙ form)

abbrev Layer : Type 0
Layer = Node-F Node ParamKind Part Body Expr Link Param Prop

abbrev shape_in : Layer → Shape
shape_in l = shape_of (roll-Node l)

rolled : (e : Expr) (n : Node) → n ≡ e.node → tree_of e ≡ tree e.place (shape_in (out-Node n))
rolled e n is = at_shape e n (shape_in (out-Node n)) is (ap shape_of (sym (roll-out-Node n)))

module _ (place : Place) where
  text_layer : (l : Layer) → ((ps : List Part) → ¬ (roll-Node l ≡ node.Text ps)) → plain_text (tree place (shape_in l)) ≡ None
  unfolding shape_of tree_of part prop param body link
  text_layer (Node-F.Text ps) h = absurd (h ps (node.rolls-Text ps))
  text_layer l h = ap (λ s. plain_text (tree place s)) (fold-roll-Node Shape Default OfPart OfBody Tree OfLink OfParam OfProp node_shape kind_shape part_shape body_shape expr_shape link_shape param_shape prop_shape l)

  array_layer : (x : Label) (l : Layer) → ((es : List Expr) → ¬ (roll-Node l ≡ node.Array es)) → said form.Texts x (tree place (shape_in l)) ≡ None
  unfolding shape_of tree_of part prop param body link
  array_layer x (Node-F.Array es) h = absurd (h es (node.rolls-Array es))
  array_layer x l h = ap (λ s. said form.Texts x (tree place s)) (fold-roll-Node Shape Default OfPart OfBody Tree OfLink OfParam OfProp node_shape kind_shape part_shape body_shape expr_shape link_shape param_shape prop_shape l)

  rec_layer : (x : Label) (l : Layer) → ((b : Option Label) (ps : List Prop) → ¬ (roll-Node l ≡ node.Rec b ps)) → said form.Renames x (tree place (shape_in l)) ≡ None
  unfolding shape_of tree_of part prop param body link
  rec_layer x (Node-F.Rec b ps) h = absurd (h b ps (node.rolls-Rec b ps))
  rec_layer x l h = ap (λ s. said form.Renames x (tree place s)) (fold-roll-Node Shape Default OfPart OfBody Tree OfLink OfParam OfProp node_shape kind_shape part_shape body_shape expr_shape link_shape param_shape prop_shape l)

  name_layer : (x : Label) (l : Layer) → ((y : Label) → ¬ (roll-Node l ≡ node.Name y)) → said form.Name x (tree place (shape_in l)) ≡ None
  unfolding shape_of tree_of part prop param body link
  name_layer x (Node-F.Name y) h = absurd (h y (node.rolls-Name y))
  name_layer x l h = ap (λ s. said form.Name x (tree place s)) (fold-roll-Node Shape Default OfPart OfBody Tree OfLink OfParam OfProp node_shape kind_shape part_shape body_shape expr_shape link_shape param_shape prop_shape l)

  force_layer : (S : Scope) (l : Layer) → ((y : Label) → ¬ (roll-Node l ≡ node.Name y)) → IsInForce form.Name (tree place (shape_in l)) S
  unfolding shape_of tree_of part prop param body link
  force_layer S (Node-F.Name y) h = absurd (h y (node.rolls-Name y))
  force_layer S l h = subst (λ s. IsInForce form.Name (tree place s) S) (sym (fold-roll-Node Shape Default OfPart OfBody Tree OfLink OfParam OfProp node_shape kind_shape part_shape body_shape expr_shape link_shape param_shape prop_shape l)) tt

  literal_layer : (l : Layer) → ((ps : List Param) (b : Body) → ¬ (roll-Node l ≡ node.Fun ps b)) → ((d : Expr) → ¬ (roll-Node l ≡ node.Paren d)) → is_literal (tree place (shape_in l)) ≡ false
  unfolding shape_of tree_of part prop param body link
  literal_layer (Node-F.Fun ps b) f h = absurd (f ps b (node.rolls-Fun ps b))
  literal_layer (Node-F.Paren d) f h = absurd (h d (node.rolls-Paren d))
  literal_layer l f h = ap (λ s. is_literal (tree place s)) (fold-roll-Node Shape Default OfPart OfBody Tree OfLink OfParam OfProp node_shape kind_shape part_shape body_shape expr_shape link_shape param_shape prop_shape l)

  callee_layer : (S : Scope) (q : Ask) (l : Layer) → ((y : Label) → ¬ (roll-Node l ≡ node.Name y)) → ((d : Expr) (x : Label) → ¬ (roll-Node l ≡ node.Member d x)) → callee (tree place (shape_in l)) S q ≡ has (tree place (shape_in l)) S q
  unfolding shape_of tree_of part prop param body link
  callee_layer S q (Node-F.Name y) f h = absurd (f y (node.rolls-Name y))
  callee_layer S q (Node-F.Member d x) f h = absurd (h d x (node.rolls-Member d x))
  callee_layer S q l f h = subst (λ s. callee (tree place s) S q ≡ has (tree place s) S q) (sym (fold-roll-Node Shape Default OfPart OfBody Tree OfLink OfParam OfProp node_shape kind_shape part_shape body_shape expr_shape link_shape param_shape prop_shape l)) refl

  call_layer : (S : Scope) (u t : Ground) (l : Layer) → ((d : Expr) (ps : List Prop) → ¬ (roll-Node l ≡ node.Call d ps)) → has_pipe (tree place (shape_in l)) S u t → ⊥
  unfolding shape_of tree_of part prop param body link
  call_layer S u t (Node-F.Call d ps) h = absurd (h d ps (node.rolls-Call d ps))
  call_layer S u t l h = λ k. subst (λ s. has_pipe (tree place s) S u t) (fold-roll-Node Shape Default OfPart OfBody Tree OfLink OfParam OfProp node_shape kind_shape part_shape body_shape expr_shape link_shape param_shape prop_shape l) k

-- what is no name, and no function literal

pub no_name_force : (e : Expr) (n : Node) (S : Scope) → n ≡ e.node → ((y : Label) → ¬ (n ≡ node.Name y)) → IsInForce form.Name (tree_of e) S
no_name_force e n S is h = subst (λ t. IsInForce form.Name t S) (sym (rolled e n is)) (force_layer e.place S (out-Node n) (λ y at. h y (sym (roll-out-Node n) ∙ at)))

pub no_call : (e : Expr) (n : Node) (S : Scope) (u t : Ground) → n ≡ e.node → ((d : Expr) (ps : List Prop) → ¬ (n ≡ node.Call d ps)) → has_pipe (tree_of e) S u t → ⊥
no_call e n S u t is h k = call_layer e.place S u t (out-Node n) (λ d ps at. h d ps (sym (roll-out-Node n) ∙ at)) (subst (λ x. has_pipe x S u t) (rolled e n is) k)

pub no_literal : (e : Expr) (n : Node) → n ≡ e.node → ((ps : List Param) (b : Body) → ¬ (n ≡ node.Fun ps b)) → ((d : Expr) → ¬ (n ≡ node.Paren d)) → is_literal (tree_of e) ≡ false
no_literal e n is f h = ap is_literal (rolled e n is) ∙ literal_layer e.place (out-Node n) (λ ps b at. f ps b (sym (roll-out-Node n) ∙ at)) (λ d at. h d (sym (roll-out-Node n) ∙ at))

pub other_callee : (e : Expr) (n : Node) (S : Scope) (q : Ask) → n ≡ e.node → ((y : Label) → ¬ (n ≡ node.Name y)) → ((d : Expr) (x : Label) → ¬ (n ≡ node.Member d x)) → callee (tree_of e) S q ≡ has (tree_of e) S q
other_callee e n S q is f h = subst (λ t. callee t S q ≡ has t S q) (sym (rolled e n is)) (callee_layer e.place S q (out-Node n) (λ y at. f y (sym (roll-out-Node n) ∙ at)) (λ d x at. h d x (sym (roll-out-Node n) ∙ at)))

pub no_text : (e : Expr) (n : Node) → n ≡ e.node → ((ps : List Part) → ¬ (n ≡ node.Text ps)) → plain_text (tree_of e) ≡ None
no_text e n is h = ap plain_text (rolled e n is) ∙ text_layer e.place (out-Node n) (λ ps at. h ps (sym (roll-out-Node n) ∙ at))

pub no_array : (x : Label) (e : Expr) (n : Node) → n ≡ e.node → ((es : List Expr) → ¬ (n ≡ node.Array es)) → said form.Texts x (tree_of e) ≡ None
no_array x e n is h = ap (said form.Texts x) (rolled e n is) ∙ array_layer e.place x (out-Node n) (λ es at. h es (sym (roll-out-Node n) ∙ at))

pub no_rec : (x : Label) (e : Expr) (n : Node) → n ≡ e.node → ((b : Option Label) (ps : List Prop) → ¬ (n ≡ node.Rec b ps)) → said form.Renames x (tree_of e) ≡ None
no_rec x e n is h = ap (said form.Renames x) (rolled e n is) ∙ rec_layer e.place x (out-Node n) (λ b ps at. h b ps (sym (roll-out-Node n) ∙ at))

pub no_name : (x : Label) (e : Expr) (n : Node) → n ≡ e.node → ((y : Label) → ¬ (n ≡ node.Name y)) → said form.Name x (tree_of e) ≡ None
no_name x e n is h = ap (said form.Name x) (rolled e n is) ∙ name_layer e.place x (out-Node n) (λ y at. h y (sym (roll-out-Node n) ∙ at))

-- the one part of a text

pub one_item : {A : Type 0} (xs : List A) (x : A) → 1 ≤ length xs → length xs < 2 → x ≡ get_or xs 0 x → xs ≡ x ∷ []
one_item [] x more less at = absurd (omega arith)
one_item (y ∷ []) x more less at = ap (λ z. z ∷ []) (sym at)
one_item (y ∷ z ∷ xs) x more less at = absurd (omega arith)

two_parts : (place : Place) (a b : OfPart) (ps : List OfPart) → plain_text (tree place (text (parts_of (a ∷ b ∷ ps)))) ≡ None
two_parts place (a_piece s) (a_piece t) ps = refl
two_parts place (a_piece s) (a_hole e) ps = refl
two_parts place (a_hole d) b ps = refl

pub no_parts_none : (place : Place) (xs : List Part) → length xs < 1 → plain_text (tree place (text (parts_of (map part xs)))) ≡ None
no_parts_none place [] h = refl
no_parts_none place (x ∷ xs) h = absurd (omega arith)

pub more_parts_none : (place : Place) (xs : List Part) → 2 ≤ length xs → plain_text (tree place (text (parts_of (map part xs)))) ≡ None
more_parts_none place [] h = absurd (omega arith)
more_parts_none place (x ∷ []) h = absurd (omega arith)
more_parts_none place (x ∷ y ∷ xs) h = two_parts place (part x) (part y) (map part xs)

-- lists that are read from the front, where each item gives one more or the whole gives none

abbrev pub behind : {W : Type 0} → List W → Option (List W) → Option (List W)
behind ws None = None
behind ws (Some vs) = Some (ws ++ vs)

behind_first : {W : Type 0} (ws : List W) (w : W) (o : Option (List W)) → behind ws (with_first (Some w) o) ≡ behind (ws ++ w ∷ []) o
behind_first ws w None = refl
behind_first ws w (Some vs) = ap Some (sym (append_assoc ws (w ∷ []) vs))

behind_nothing : {W : Type 0} (o : Option (List W)) → o ≡ behind [] o
behind_nothing None = refl
behind_nothing (Some vs) = refl

module _ {X W : Type 0} (whole : List X → Option (List W)) (xs : List X) (i : ℕ) (ws : List W) where
  pub read_start : whole xs ≡ behind [] (whole xs)
  read_start = behind_nothing (whole xs)

  module _ (x : X) (lt : i < length xs) (at : x ≡ get_or xs i x) (before : whole xs ≡ behind ws (whole (drop i xs))) where
    now : whole xs ≡ behind ws (whole (x ∷ drop (i + 1) xs))
    now = before ∙ ap (behind ws) (at_drop_more whole xs i x lt ∙ ap (λ y. whole (y ∷ drop (i + 1) xs)) (sym at))

    pub read_more : (w : W) (more : List W) → whole (x ∷ drop (i + 1) xs) ≡ with_first (Some w) (whole (drop (i + 1) xs)) → more ≡ ws ++ w ∷ [] → whole xs ≡ behind more (whole (drop (i + 1) xs))
    read_more w more step pushed = now ∙ ap (behind ws) step ∙ behind_first ws w (whole (drop (i + 1) xs)) ∙ ap (λ vs. behind vs (whole (drop (i + 1) xs))) (sym pushed)

    pub read_past : whole (x ∷ drop (i + 1) xs) ≡ whole (drop (i + 1) xs) → whole xs ≡ behind ws (whole (drop (i + 1) xs))
    read_past step = now ∙ ap (behind ws) step

    pub read_none : whole (x ∷ drop (i + 1) xs) ≡ None → whole xs ≡ None
    read_none step = now ∙ ap (behind ws) step

  pub read_all : whole [] ≡ Some [] → length xs ≤ i → whole xs ≡ behind ws (whole (drop i xs)) → whole xs ≡ Some ws
  read_all none le before = before ∙ ap (behind ws) (at_drop_all whole xs i le ∙ none) ∙ ap Some (append-nil ws)

-- the words of items and properties

abbrev pub texts_in : List Expr → Option (List Label)
texts_in es = item_texts (trees_of (map tree_of es))

abbrev pub news_in : List Prop → Option (List Label)
news_in ps = value_texts (props_of (map prop ps))

pub value_at : (p : Prop) → (prop p).value ≡ tree_of p.value
value_at p = ap (λ o. o.value) (prop_is p)

pub label_at : (p : Prop) → (prop p).label ≡ p.label
label_at p = ap (λ o. o.label) (prop_is p)

abbrev pub labels_of : List Prop → List Label
labels_of ps = prop_names (props_of (map prop ps))

pub labels_more : (ps : List Prop) (p : Prop) → labels_of (ps ++ p ∷ []) ≡ labels_of ps ++ p.label ∷ []
labels_more [] p = ap (λ x. x ∷ []) (label_at p)
labels_more (q ∷ ps) p = ap (λ xs. (prop q).label ∷ xs) (labels_more ps p)

pub labels_next : (ps : List Prop) (i : ℕ) (p : Prop) (ls more : List Label) (x : Label) → i < length ps → p ≡ get_or ps i p → ls ≡ labels_of (take i ps) → x ≡ p.label → more ≡ ls ++ x ∷ [] → more ≡ labels_of (take (i + 1) ps)
labels_next ps i p ls more x lt at before label pushed =
    pushed ∙ (λ j. before j ++ label j ∷ []) ∙ sym (labels_more (take i ps) p) ∙ ap labels_of (sym (take_more ps i p lt ∙ ap (λ d. take i ps ++ d ∷ []) (sym at)))

pub labels_all : (ps : List Prop) (i : ℕ) (ls : List Label) → length ps ≤ i → ls ≡ labels_of (take i ps) → ls ≡ labels_of ps
labels_all ps i ls le h = h ∙ ap labels_of (take_all ps i le)

-- what arguments say

pub items_said : (x : Label) (e : Expr) (n : Node) (es given : List Expr) → n ≡ e.node → n ≡ node.Array es → given ≡ es → said form.Texts x (tree_of e) ≡ many_words x (texts_in given)
items_said x e n es given is written same = ap (said form.Texts x) (at_shape e n (array (trees_of (map tree_of es))) is (ap shape_of written ∙ shape_array es)) ∙ ap (λ ds. many_words x (texts_in ds)) (sym same)

pub many_said : (x y : Label) (ws ns : List Label) (o : Option (List Label)) → o ≡ Some ws → y ≡ x → ns ≡ [] → ◌≡◌ {A = Option LabelWords} (Some (record { label = y; words = ws; news = ns })) (many_words x o)
many_said x y ws ns o is label none = (λ i. Some (record { label = label i; words = ws; news = none i })) ∙ sym (ap (many_words x) is)

pub new_said : (x y : Label) (olds ws ns : List Label) (o : Option (List Label)) → o ≡ Some ns → y ≡ x → ws ≡ olds → ◌≡◌ {A = Option LabelWords} (Some (record { label = y; words = ws; news = ns })) (new_words x olds o)
new_said x y olds ws ns o is label words = (λ i. Some (record { label = label i; words = words i; news = ns })) ∙ sym (ap (new_words x olds) is)

pub name_said : (x : Label) (e : Expr) (n : Node) (y : Label) → n ≡ e.node → n ≡ node.Name y → said form.Name x (tree_of e) ≡ Some (words_at_label x (y ∷ []) [])
name_said x e n y is written = ap (said form.Name x) (at_shape e n (name y) is (ap shape_of written ∙ shape_name y))

-- the words of a built-in's call

abbrev pub words_in : Builtin → List Prop → Option (List LabelWords)
words_in b ps = words_of_call (Some b) (props_of (map prop ps))

words_step : (b : Builtin) (p : Prop) (ps : List Prop) → words_in b (p ∷ ps) ≡ and_words (form_of b p.label) p.label (tree_of p.value) (words_in b ps)
words_step b p ps = λ i. and_words (form_of b (prop_is p i).label) (prop_is p i).label (prop_is p i).value (words_in b ps)

pub no_form : (b : Builtin) (p : Prop) (ps : List Prop) → form_of b p.label ≡ None → words_in b (p ∷ ps) ≡ words_in b ps
no_form b p ps none = words_step b p ps ∙ ap (λ f. and_words f p.label (tree_of p.value) (words_in b ps)) none

pub with_form : (b : Builtin) (p : Prop) (ps : List Prop) (f : Form) (o : Option LabelWords) → form_of b p.label ≡ Some f → o ≡ said f p.label (tree_of p.value) → words_in b (p ∷ ps) ≡ with_first o (words_in b ps)
with_form b p ps f o is words = words_step b p ps ∙ ap (λ g. and_words g p.label (tree_of p.value) (words_in b ps)) is ∙ ap (λ w. with_first w (words_in b ps)) (sym words)
