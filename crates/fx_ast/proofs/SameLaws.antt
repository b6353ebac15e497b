-- Lists of parts, item by item, and what two equal parts without places have in common.
use Rattle.std.proofs.Common.{◌≡◌, ◌↔◌, ◌<◌, ◌≤◌, IsTrue, true, false, refl, sym, ap, subst, ◌∙◌, map, take, length, get_or, ℕ, List, [], ◌∷◌, arith}
use Rattle.std.specs.Prelude.{Bool}
use Rattle.std.proofs.lemmas.List.{get_or-map, length-map, take_all}
use Rattle.fx_ast.specs.declared.expr.Body.{Body}
use Rattle.fx_ast.specs.declared.expr.Expr.{Expr}
use Rattle.fx_ast.specs.declared.expr.Link.{Link}
use Rattle.fx_ast.specs.declared.expr.Node.{Node}
use Rattle.fx_ast.specs.declared.expr.Param.{Param}
use Rattle.fx_ast.specs.declared.expr.ParamKind.{ParamKind}
use Rattle.fx_ast.specs.declared.expr.Part.{Part}
use Rattle.fx_ast.specs.declared.expr.Prop.{Prop}
use Rattle.fx_ast.specs.declared.expr.Node.TheViews.{roll-ParamKind, out-ParamKind, roll-out-ParamKind, roll-Part, out-Part, roll-out-Part, out-Body}
use Rattle.fx_ast.specs.declared.expr.Node.TheOpen.{Part-F, ParamKind-F}
use Rattle.fx_ast.specs.declared.expr.Part.TheVariants as part_variants
use Rattle.fx_ast.specs.declared.expr.ParamKind.TheVariants as kind_variants
use Rattle.fx_ast.specs.declared.script.Statement.{Statement}
use Rattle.fx_ast.specs.declared.script.Script.{Script}
use Rattle.fx_ast.specs.Bare.{bare, bare_shape, bare_trees, bare_parts, bare_props, bare_params, bare_default, bare_links, bare_part, bare_prop, bare_param, bare_link, bare_body, bare_form, bare_statement, bare_script}
use Rattle.fx_ast.specs.Shape.{OfPart, a_piece, a_hole, OfLink, OfParam, OfProp, tree_of, shape_of, default_of, part, body, link, param, prop, trees_of, parts_of, props_of, links_of, params_of, statement_form, statement_tree, script_tree}
use Rattle.fx_ast.specs.Tree.{Tree, Shape, Default, required, by_pipe, by_value}
use Rattle.fx_ast.proofs.ShapeLaws.{body_is, tree_is, link_is, param_is, prop_is, part_piece, part_hole, default_value, default_required, default_pipe}

untrue : ¬ (false ≡ true)
untrue = grind arith

pub one : {P A T : Type 0} → (P ↔ A) → (T ↔ A) → (T ↔ P)
one (to, from) (into, back) = (λ t. from (into t), λ p. back (to p))

-- the first part is the same, and so all hangs on the second
pub second : {P A B T : Type 0} → (P ↔ (A × B)) → A → (T ↔ B) → (T ↔ P)
second (to, from) a (into, back) = (λ t. from (a, into t), λ p. back (to p).1)

pub whole : {P : Type 0} → (P ↔ P)
whole = (λ p. p, λ p. p)

-- the first part is not the same
pub first : {P A B : Type 0} {same : Bool} → (P ↔ (A × B)) → (IsTrue same ↔ A) → same ≡ false → (IsTrue same ↔ P)
first (to, from) (into, back) is = (λ t. absurd (untrue (sym is ∙ t)), λ p. back (to p).0)

pub apart : {P : Type 0} → ¬ P → (IsTrue false ↔ P)
apart none = (λ t. absurd (untrue t), λ p. absurd (none p))

pub at_item : {A B : Type 0} (f : A → B) (xs ys : List A) (i : ℕ) (x y : A) → i < length xs → i < length ys → x ≡ get_or xs i x → y ≡ get_or ys i y → map f xs ≡ map f ys → f x ≡ f y
at_item f xs ys i x y in_xs in_ys is_x is_y same = ap f is_x ∙ sym (get_or-map f xs i x (f x) in_xs) ∙ ap (λ l. get_or l i (f x)) same ∙ get_or-map f ys i y (f x) in_ys ∙ sym (ap f is_y)

pub same_length : {A B : Type 0} (f : A → B) (xs ys : List A) → map f xs ≡ map f ys → length xs ≡ length ys
same_length f xs ys same = sym (length-map xs f) ∙ ap length same ∙ length-map ys f

pub all_items : {A B : Type 0} (f : A → B) (xs ys : List A) (i : ℕ) → length xs ≤ i → length ys ≤ i → map f (take i xs) ≡ map f (take i ys) → map f xs ≡ map f ys
all_items f xs ys i in_xs in_ys same = rw (take_all i xs in_xs, take_all i ys in_ys) at same

pub shorter : {A B P : Type 0} (f : A → B) (xs ys ls rs : List A) → (P ↔ (map f xs ≡ map f ys)) → ls ≡ xs → rs ≡ ys → ¬ (length ls ≡ length rs) → (IsTrue false ↔ P)
shorter f xs ys ls rs (to, from) left right lengths = apart (λ p. lengths (ap length left ∙ same_length f xs ys (to p) ∙ sym (ap length right)))

pub differs : {A B P : Type 0} {same : Bool} (f : A → B) (xs ys ls rs : List A) (i : ℕ) (x y : A) → (P ↔ (map f xs ≡ map f ys)) → ls ≡ xs → rs ≡ ys → length ls ≡ length rs → i < length ls → x ≡ get_or ls i x → y ≡ get_or rs i y → (IsTrue same ↔ (f x ≡ f y)) → same ≡ false → (IsTrue false ↔ P)
differs f xs ys ls rs i x y (to, from) left right lengths below is_x is_y told is =
    apart (λ p. untrue (sym is ∙ told.1 (at_item f ls rs i x y below (subst (λ n. i < n) lengths below) is_x is_y (ap (map f) left ∙ to p ∙ sym (ap (map f) right)))))

pub ends : {A B P : Type 0} (f : A → B) (xs ys ls rs : List A) (i : ℕ) → (P ↔ (map f xs ≡ map f ys)) → ls ≡ xs → rs ≡ ys → length ls ≡ length rs → length ls ≤ i → map f (take i ls) ≡ map f (take i rs) → (IsTrue true ↔ P)
ends f xs ys ls rs i (to, from) left right lengths over same =
    (λ _. from (sym (ap (map f) left) ∙ all_items f ls rs i over (subst (λ n. n ≤ i) lengths over) same ∙ ap (map f) right), λ _. refl)

pub exprs_by_item : (xs ys : List Expr) → (bare_trees (trees_of (map tree_of xs)) ≡ bare_trees (trees_of (map tree_of ys))) ↔ (map (λ e. bare (tree_of e)) xs ≡ map (λ e. bare (tree_of e)) ys)
unfolding bare_trees
exprs_by_item [] [] = (λ _. refl, λ _. refl)
exprs_by_item [] (y ∷ ys) = grind arith
exprs_by_item (x ∷ xs) [] = grind arith
exprs_by_item (x ∷ xs) (y ∷ ys) = let rest = exprs_by_item xs ys in grind arith

pub props_by_item : (xs ys : List Prop) → (bare_props (props_of (map prop xs)) ≡ bare_props (props_of (map prop ys))) ↔ (map (λ p. bare_prop (prop p)) xs ≡ map (λ p. bare_prop (prop p)) ys)
unfolding bare_props
props_by_item [] [] = (λ _. refl, λ _. refl)
props_by_item [] (y ∷ ys) = grind arith
props_by_item (x ∷ xs) [] = grind arith
props_by_item (x ∷ xs) (y ∷ ys) = let rest = props_by_item xs ys in grind arith

pub params_by_item : (xs ys : List Param) → (bare_params (params_of (map param xs)) ≡ bare_params (params_of (map param ys))) ↔ (map (λ p. bare_param (param p)) xs ≡ map (λ p. bare_param (param p)) ys)
unfolding bare_params
params_by_item [] [] = (λ _. refl, λ _. refl)
params_by_item [] (y ∷ ys) = grind arith
params_by_item (x ∷ xs) [] = grind arith
params_by_item (x ∷ xs) (y ∷ ys) = let rest = params_by_item xs ys in grind arith

pub links_by_item : (xs ys : List Link) → (bare_links (links_of (map link xs)) ≡ bare_links (links_of (map link ys))) ↔ (map (λ l. bare_link (link l)) xs ≡ map (λ l. bare_link (link l)) ys)
unfolding bare_links
links_by_item [] [] = (λ _. refl, λ _. refl)
links_by_item [] (y ∷ ys) = grind arith
links_by_item (x ∷ xs) [] = grind arith
links_by_item (x ∷ xs) (y ∷ ys) = let rest = links_by_item xs ys in grind arith

parts_by_each : (xs ys : List OfPart) → (bare_parts (parts_of xs) ≡ bare_parts (parts_of ys)) ↔ (map bare_part xs ≡ map bare_part ys)
unfolding bare_parts
parts_by_each [] [] = (λ _. refl, λ _. refl)
parts_by_each [] (a_piece _ ∷ ys) = grind arith
parts_by_each [] (a_hole _ ∷ ys) = grind arith
parts_by_each (a_piece _ ∷ xs) [] = grind arith
parts_by_each (a_hole _ ∷ xs) [] = grind arith
parts_by_each (a_piece s ∷ xs) (a_piece t ∷ ys) = let rest = parts_by_each xs ys in grind arith
parts_by_each (a_piece s ∷ xs) (a_hole t ∷ ys) = grind arith
parts_by_each (a_hole s ∷ xs) (a_piece t ∷ ys) = grind arith
parts_by_each (a_hole s ∷ xs) (a_hole t ∷ ys) = let rest = parts_by_each xs ys in grind arith

map_twice : {A B C : Type 0} (g : B → C) (f : A → B) (xs : List A) → map g (map f xs) ≡ map (λ x. g (f x)) xs
map_twice g f [] = refl
map_twice g f (x ∷ xs) = ap (λ ys. g (f x) ∷ ys) (map_twice g f xs)

pub parts_by_item : (xs ys : List Part) → (bare_parts (parts_of (map part xs)) ≡ bare_parts (parts_of (map part ys))) ↔ (map (λ p. bare_part (part p)) xs ≡ map (λ p. bare_part (part p)) ys)
parts_by_item xs ys = rw (← map_twice bare_part part xs, ← map_twice bare_part part ys) (parts_by_each (map part xs) (map part ys))

pub statements_by_item : (xs ys : List Statement) → (map bare_statement (map statement_tree xs) ≡ map bare_statement (map statement_tree ys)) ↔ (map (λ s. bare_form (statement_form s.form)) xs ≡ map (λ s. bare_form (statement_form s.form)) ys)
statements_by_item [] [] = (λ _. refl, λ _. refl)
statements_by_item [] (y ∷ ys) = grind arith
statements_by_item (x ∷ xs) [] = grind arith
statements_by_item (x ∷ xs) (y ∷ ys) = let rest = statements_by_item xs ys in grind arith

pub expr_is : (l r : Expr) → (bare (tree_of l) ≡ bare (tree_of r)) ↔ (bare_shape (shape_of l.node) ≡ bare_shape (shape_of r.node))
unfolding bare
expr_is l r = rw (tree_is l, tree_is r) grind arith

pub both_prop : (l r : Prop) → (bare_prop (prop l) ≡ bare_prop (prop r)) ↔ ((l.label ≡ r.label) × (bare (tree_of l.value) ≡ bare (tree_of r.value)))
both_prop l r = rw (prop_is l, prop_is r) grind arith

pub both_param : (l r : Param) → (bare_param (param l) ≡ bare_param (param r)) ↔ ((l.label ≡ r.label) × (bare_default (default_of l.default) ≡ bare_default (default_of r.default)))
both_param l r = rw (param_is l, param_is r) grind arith

pub both_link : (l r : Link) → (bare_link (link l) ≡ bare_link (link r)) ↔ ((l.op ≡ r.op) × (bare (tree_of l.right) ≡ bare (tree_of r.right)))
both_link l r = rw (link_is l, link_is r) grind arith

pub both_body : (l r : Body) → (bare_body (body l) ≡ bare_body (body r)) ↔ ((bare_props (props_of (map prop (out-Body l).lets)) ≡ bare_props (props_of (map prop (out-Body r).lets))) × (bare (tree_of (out-Body l).result) ≡ bare (tree_of (out-Body r).result)))
both_body l r = rw (body_is l, body_is r) grind arith

-- how a parameter gets its value, where that is known without places
abbrev pub OpensKind : ParamKind → Default → Type 0
OpensKind k required = k ≡ kind_variants.Required
OpensKind k by_pipe = k ≡ kind_variants.Pipe
OpensKind k (by_value _) = (e : Expr) × (k ≡ kind_variants.Value e)

pub bare_required : bare_default (default_of kind_variants.Required) ≡ required
unfolding bare_default
bare_required = ap bare_default default_required

pub bare_piped : bare_default (default_of kind_variants.Pipe) ≡ by_pipe
unfolding bare_default
bare_piped = ap bare_default default_pipe

pub bare_value : (e : Expr) → bare_default (default_of (kind_variants.Value e)) ≡ by_value (bare (tree_of e))
unfolding bare_default
bare_value e = ap bare_default (default_value e)

opened_kind : (k m : ParamKind) (d : Default) → k ≡ m → bare_default (default_of m) ≡ d → OpensKind k d → OpensKind k (bare_default (default_of k))
opened_kind k m d same told opens = subst (OpensKind k) (sym (ap (λ x. bare_default (default_of x)) same ∙ told)) opens

opens_kind_layer : (k : ParamKind) (l : ParamKind-F Node ParamKind Part Body Expr Link Param Prop) → k ≡ roll-ParamKind l → OpensKind k (bare_default (default_of k))
opens_kind_layer k ParamKind-F.Required is = let same = is ∙ kind_variants.rolls-Required in opened_kind k kind_variants.Required required same bare_required same
opens_kind_layer k ParamKind-F.«ParamKind::Pipe» is = let same = is ∙ kind_variants.rolls-Pipe in opened_kind k kind_variants.Pipe by_pipe same bare_piped same
opens_kind_layer k (ParamKind-F.Value e) is = let same = is ∙ kind_variants.rolls-Value e in opened_kind k (kind_variants.Value e) (by_value (bare (tree_of e))) same (bare_value e) (e, same)

opens_kind : (k : ParamKind) → OpensKind k (bare_default (default_of k))
opens_kind k = opens_kind_layer k (out-ParamKind k) (sym (roll-out-ParamKind k))

pub not_required : (l r : ParamKind) → l ≡ kind_variants.Required → ¬ (r ≡ kind_variants.Required) → ¬ (bare_default (default_of l) ≡ bare_default (default_of r))
not_required l r is none same = none (subst (OpensKind r) (sym same ∙ ap (λ x. bare_default (default_of x)) is ∙ bare_required) (opens_kind r))

pub not_piped : (l r : ParamKind) → l ≡ kind_variants.Pipe → ¬ (r ≡ kind_variants.Pipe) → ¬ (bare_default (default_of l) ≡ bare_default (default_of r))
not_piped l r is none same = none (subst (OpensKind r) (sym same ∙ ap (λ x. bare_default (default_of x)) is ∙ bare_piped) (opens_kind r))

pub not_value : (l r : ParamKind) (e : Expr) → l ≡ kind_variants.Value e → ((e : Expr) → ¬ (r ≡ kind_variants.Value e)) → ¬ (bare_default (default_of l) ≡ bare_default (default_of r))
not_value l r e is none same = let (e2, found) = subst (OpensKind r) (sym same ∙ ap (λ x. bare_default (default_of x)) is ∙ bare_value e) (opens_kind r) in none e2 found

pub both_value : (l r : ParamKind) (e e2 : Expr) → l ≡ kind_variants.Value e → r ≡ kind_variants.Value e2 → (bare_default (default_of l) ≡ bare_default (default_of r)) ↔ (bare (tree_of e) ≡ bare (tree_of e2))
both_value l r e e2 left right = rw (left, right, bare_value e, bare_value e2) grind arith

-- the same for a part of a text
abbrev pub OpensPart : Part → OfPart → Type 0
OpensPart p (a_piece _) = (s : List ℕ) × (p ≡ part_variants.Piece s)
OpensPart p (a_hole _) = (e : Expr) × (p ≡ part_variants.Hole e)

pub bare_piece : (s : List ℕ) → bare_part (part (part_variants.Piece s)) ≡ a_piece s
bare_piece s = ap bare_part (part_piece s)

pub bare_hole : (e : Expr) → bare_part (part (part_variants.Hole e)) ≡ a_hole (bare (tree_of e))
bare_hole e = ap bare_part (part_hole e)

opened_part : (p m : Part) (d : OfPart) → p ≡ m → bare_part (part m) ≡ d → OpensPart p d → OpensPart p (bare_part (part p))
opened_part p m d same told opens = subst (OpensPart p) (sym (ap (λ x. bare_part (part x)) same ∙ told)) opens

opens_part_layer : (p : Part) (l : Part-F Node ParamKind Part Body Expr Link Param Prop) → p ≡ roll-Part l → OpensPart p (bare_part (part p))
opens_part_layer p (Part-F.Piece s) is = let same = is ∙ part_variants.rolls-Piece s in opened_part p (part_variants.Piece s) (a_piece s) same (bare_piece s) (s, same)
opens_part_layer p (Part-F.Hole e) is = let same = is ∙ part_variants.rolls-Hole e in opened_part p (part_variants.Hole e) (a_hole (bare (tree_of e))) same (bare_hole e) (e, same)

opens_part : (p : Part) → OpensPart p (bare_part (part p))
opens_part p = opens_part_layer p (out-Part p) (sym (roll-out-Part p))

pub not_piece : (l r : Part) (s : List ℕ) → l ≡ part_variants.Piece s → ((s : List ℕ) → ¬ (r ≡ part_variants.Piece s)) → ¬ (bare_part (part l) ≡ bare_part (part r))
not_piece l r s is none same = let (s2, found) = subst (OpensPart r) (sym same ∙ ap (λ x. bare_part (part x)) is ∙ bare_piece s) (opens_part r) in none s2 found

pub not_hole : (l r : Part) (e : Expr) → l ≡ part_variants.Hole e → ((e : Expr) → ¬ (r ≡ part_variants.Hole e)) → ¬ (bare_part (part l) ≡ bare_part (part r))
not_hole l r e is none same = let (e2, found) = subst (OpensPart r) (sym same ∙ ap (λ x. bare_part (part x)) is ∙ bare_hole e) (opens_part r) in none e2 found

pub both_piece : (l r : Part) (s s2 : List ℕ) → l ≡ part_variants.Piece s → r ≡ part_variants.Piece s2 → (bare_part (part l) ≡ bare_part (part r)) ↔ (s ≡ s2)
both_piece l r s s2 left right = rw (left, right, bare_piece s, bare_piece s2) grind arith

pub both_hole : (l r : Part) (e e2 : Expr) → l ≡ part_variants.Hole e → r ≡ part_variants.Hole e2 → (bare_part (part l) ≡ bare_part (part r)) ↔ (bare (tree_of e) ≡ bare (tree_of e2))
both_hole l r e e2 left right = rw (left, right, bare_hole e, bare_hole e2) grind arith

pub both_script : (l r : Script) → (bare_script (script_tree l) ≡ bare_script (script_tree r)) ↔ ((l.package ≡ r.package) × (map bare_statement (map statement_tree l.statements) ≡ map bare_statement (map statement_tree r.statements)))
both_script l r = grind arith
