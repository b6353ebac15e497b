-- Readings of lists, one of their parts at a time.
use Rattle.std.proofs.Common.{◌≡◌, ℕ, suc, ◌+◌, ◌-◌, ◌<◌, ◌≤◌, true, false, List, [], ◌∷◌, ◌++◌, map, refl, sym, ap, ◌∙◌, arith}
use Rattle.std.specs.Prelude.{Bool, cond, nat_le}
use Rattle.fx_ast.specs.declared.expr.Expr.{Expr}
use Rattle.fx_ast.specs.declared.expr.Part.{Part}
use Rattle.fx_ast.specs.declared.expr.Part.TheVariants as part_variants
use Rattle.fx_ast.specs.declared.expr.Prop.{Prop, roll-Prop}
use Rattle.fx_ast.specs.Shape.{OfPart, OfProp, a_piece, a_hole as hole_part, tree_of, part, prop, trees_of, parts_of, props_of}
use Rattle.fx_ast.specs.Tree.{Tree, Trees, Parts, Props, no_trees, more_trees, no_parts, piece, hole, no_props, more_props}
use Rattle.fx_ast.proofs.ListLaws.{trees_more, pieces_more, holes_more, props_more, trees_all, parts_all, props_all}
use Rattle.fx_scan.specs.declared.symbols.Symbol.TheVariants as symbol
use Rattle.fx_parse.specs.declared.item.Item.{Item}
use Rattle.fx_ast.specs.Lists.{trees_before, props_before, parts_before}
use Rattle.fx_parse.specs.Closing.{closing, read_element, read_prop, read_piece, read_hole}
use Rattle.fx_parse.specs.Grammar.{Group, closer, labels}
use Rattle.fx_parse.specs.Items.{Items, passes, first, label, is_mid, is_tail, is_symbol}
use Rattle.fx_parse.specs.Readings.{Out, Got, Bad, mapped, go_on, both, token}
use Rattle.std.specs.Prelude.{Err}
use Rattle.fx_parse.specs.declared.stop.Stop.{Stop}
use Rattle.fx_parse.specs.declared.stop.Stop.TheVariants as stops
use Rattle.fx_parse.specs.Cursor.{Gives}
use Rattle.fx_parse.specs.Views.{an_element, a_prop, a_hole, trees, props, parts}
use Rattle.fx_parse.specs.ReadProps.{read_value, read_more_props, read_some_props, read_props}
use Rattle.fx_parse.specs.ReadPrimary.{begins, read_more_holes, read_holes, read_more_elements, read_elements}

-- ---- a recursion on a count of turns, beside a loop that counts up

pub one_more : {X : Type 0} {x : X} (f : ℕ → X) (n at : ℕ) → at < n → x ≡ f (n - at) → x ≡ f (suc (n - (at + 1)))
one_more f n at below e = let turn : n - at ≡ suc (n - (at + 1)) = omega arith in e ∙ ap f turn

pub no_more : {X : Type 0} {x : X} (f : ℕ → X) (n at : ℕ) → n ≤ at → x ≡ f (n - at) → x ≡ f 0
no_more f n at done e = let none : n - at ≡ 0 = omega arith in e ∙ ap f none

pub deeper : {X : Type 0} (f : ℕ → X) (n : ℕ) → 0 < n → f n ≡ f (suc (n - 1))
deeper f n some = let e : n ≡ suc (n - 1) = omega arith in ap f e

-- ---- what is read under a function

pub mapped_same : {A : Type 0} (o : Out A) → mapped (λ a. a) o ≡ o
mapped_same (Got a r) = refl
mapped_same (Bad d r) = refl

pub mapped_twice : {A B C : Type 0} (f : B → C) (g : A → B) (o : Out A) → mapped f (mapped g o) ≡ mapped (λ a. f (g a)) o
mapped_twice f g (Got a r) = refl
mapped_twice f g (Bad d r) = refl

pub mapped_by : {A B : Type 0} (f g : A → B) (o : Out A) → ((a : A) → f a ≡ g a) → mapped f o ≡ mapped g o
mapped_by f g (Got a r) e = ap (λ b. Got b r) (e a)
mapped_by f g (Bad d r) e = refl

pub second_only : {A B : Type 0} (o : Out A) (g : A → Items → Out B) → mapped (λ (p : A × B). p.1) (go_on o (λ a r. mapped (λ b. (a, b)) (g a r))) ≡ go_on o g
second_only {A = A} {B = B} (Got a r) g = mapped_twice (λ (p : A × B). p.1) (λ b. (a, b)) (g a r) ∙ mapped_same (g a r)
second_only (Bad d r) g = refl

-- ---- a part of a list, and whether the list ends with it

abbrev pub rows : {L P : Type 0} → L → (P → L → L) → (P → Bool) → (Items → Out L) → Out P → Out L
rows nil cons last again o = go_on o (λ p r. mapped (cons p) (cond (last p) (Got nil r) (again r)))

module _ {L P : Type 0} (nil : L) (cons : P → L → L) (last : P → Bool) where
  pub row_last : (again : Items → Out L) (put : L → L) (p : P) (r : Items) (o : Out P) → o ≡ Got p r → last p ≡ true
      → mapped put (rows nil cons last again o) ≡ Got (put (cons p nil)) r
  row_last again put p r o e t = rw (e, t) refl

  pub row_next : (again : Items → Out L) (put : L → L) (p : P) (r : Items) (o : Out P) → o ≡ Got p r → last p ≡ false
      → mapped put (rows nil cons last again o) ≡ mapped (λ l. put (cons p l)) (again r)
  row_next again put p r o e t = rw (e, t) (mapped_twice put (cons p) (again r))

  pub row_bad : (again : Items → Out L) (put : L → L) (d : Bool) (r : Items) (o : Out P) → o ≡ Bad d r → mapped put (rows nil cons last again o) ≡ Bad d r
  row_bad again put d r o e = rw e refl

-- what closes a list, or a comma and the list again
pub closing_by : {L : Type 0} (nil : L) (again : Items → Out L) (closes : Bool) (t c : Out Item)
    → cond closes (mapped (λ y. nil) t) (mapped (λ (p : Item × L). p.1) (go_on c (λ y r. mapped (λ l. (y, l)) (again r))))
    ≡ go_on (cond closes (mapped (λ y. true) t) (mapped (λ y. false) c)) (λ b r. cond b (Got nil r) (again r))
closing_by nil again true (Got x r) c = refl
closing_by nil again true (Bad d r) c = refl
closing_by nil again false t (Got x r) = second_only (Got x r) (λ y. again)
closing_by nil again false t (Bad d r) = refl

-- ---- elements

element_more : (again : Items → Out Trees) (e : Tree) (o : Out Bool)
    → mapped (λ (p : Tree × Trees). more_trees p.0 p.1) (mapped (λ l. (e, l)) (go_on o (λ b r. cond b (Got no_trees r) (again r))))
    ≡ rows no_trees (λ (p : Tree × Bool). more_trees p.0) (λ p. p.1) again (mapped (λ b. (e, b)) o)
element_more again e (Got true r) = refl
element_more again e (Got false r) = mapped_twice (λ (p : Tree × Trees). more_trees p.0 p.1) (λ l. (e, l)) (again r)
element_more again e (Bad d r) = refl

element_one : (again : Items → Out Trees) (o : Out Tree)
    → mapped (λ (p : Tree × Trees). more_trees p.0 p.1) (go_on o (λ e r. mapped (λ l. (e, l)) (read_more_elements again r)))
    ≡ rows no_trees (λ (p : Tree × Bool). more_trees p.0) (λ p. p.1) again (go_on o (λ e r. mapped (λ b. (e, b)) (closing (is_symbol symbol.CloseBracket) r)))
unfolding read_more_elements
element_one again (Got e r) = rw (closing_by no_trees again (passes (is_symbol symbol.CloseBracket) (first r)) (token (is_symbol symbol.CloseBracket) r) (token (is_symbol symbol.Comma) r))
    (element_more again e (closing (is_symbol symbol.CloseBracket) r))
element_one again (Bad d r) = refl

element_low : (k : ℕ) (low : Bool) (again : Items → Out Trees) (o : Out Trees) (q : Out (Tree × Bool)) (d : Bool) (w : Items)
    → o ≡ rows no_trees (λ (p : Tree × Bool). more_trees p.0) (λ p. p.1) again q
    → cond low o (Bad d w) ≡ rows no_trees (λ (p : Tree × Bool). more_trees p.0) (λ p. p.1) again (cond low q (Bad d w))
element_low k true again o q d w e = e
element_low k false again o q d w e = refl

pub elements_turn : (k : ℕ) (inner : Items → Out Tree) (n : ℕ) (w : Items) → read_elements k inner (suc n) w
    ≡ cond (passes (is_symbol symbol.CloseBracket) (first w)) (mapped (λ y. no_trees) (token (is_symbol symbol.CloseBracket) w))
    (rows no_trees (λ (p : Tree × Bool). more_trees p.0) (λ p. p.1) (read_elements k inner n) (read_element k inner w))
unfolding read_elements read_element
elements_turn k inner n w = ap (cond (passes (is_symbol symbol.CloseBracket) (first w)) (mapped (λ y. no_trees) (token (is_symbol symbol.CloseBracket) w)))
    (element_low k (nat_le 1 k) (read_elements k inner n) _ _ (passes begins (first w)) w (element_one (read_elements k inner n) (inner w)))

-- ---- labels and values

prop_more : (again : Items → Out Props) (x : Item) (e : Tree) (o : Out Bool)
    → mapped (λ (p : Item × (Tree × Props)). more_props (label p.0) p.1.0 p.1.1) (mapped (λ l. (x, l)) (mapped (λ l. (e, l)) (go_on o (λ b r. cond b (Got no_props r) (again r)))))
    ≡ rows no_props (λ (p : List ℕ × Tree × Bool). more_props p.0 p.1) (λ p. p.2) again (mapped (λ (p : Item × (Tree × Bool)). (label p.0, p.1.0, p.1.1)) (mapped (λ b. (x, b)) (mapped (λ b. (e, b)) o)))
prop_more again x e (Got true r) = refl
prop_more again x e (Got false r) = ap (mapped (λ (p : Item × (Tree × Props)). more_props (label p.0) p.1.0 p.1.1)) (mapped_twice (λ l. (x, l)) (λ l. (e, l)) (again r))
    ∙ mapped_twice (λ (p : Item × (Tree × Props)). more_props (label p.0) p.1.0 p.1.1) (λ l. (x, (e, l))) (again r)
prop_more again x e (Bad d r) = refl

prop_value : (g : Group) (again : Items → Out Props) (x : Item) (o : Out Tree)
    → mapped (λ (p : Item × (Tree × Props)). more_props (label p.0) p.1.0 p.1.1) (mapped (λ l. (x, l)) (go_on o (λ e r. mapped (λ l. (e, l)) (read_more_props g again r))))
    ≡ rows no_props (λ (p : List ℕ × Tree × Bool). more_props p.0 p.1) (λ p. p.2) again (mapped (λ (p : Item × (Tree × Bool)). (label p.0, p.1.0, p.1.1)) (mapped (λ b. (x, b)) (go_on o (λ e r. mapped (λ b. (e, b)) (closing (closer g) r)))))
unfolding read_more_props
prop_value g again x (Got e r) = rw (closing_by no_props again (passes (closer g) (first r)) (token (closer g) r) (token (is_symbol symbol.Comma) r))
    (prop_more again x e (closing (closer g) r))
prop_value g again x (Bad d r) = refl

prop_label : (g : Group) (inner : Items → Out Tree) (again : Items → Out Props) (o : Out Item)
    → mapped (λ (p : Item × (Tree × Props)). more_props (label p.0) p.1.0 p.1.1) (go_on o (λ x r. mapped (λ l. (x, l)) (both (read_value inner x) (λ e. read_more_props g again) r)))
    ≡ rows no_props (λ (p : List ℕ × Tree × Bool). more_props p.0 p.1) (λ p. p.2) again (mapped (λ (p : Item × (Tree × Bool)). (label p.0, p.1.0, p.1.1)) (go_on o (λ x r. mapped (λ b. (x, b)) (both (read_value inner x) (λ e. closing (closer g)) r))))
prop_label g inner again (Got x r) = prop_value g again x (read_value inner x r)
prop_label g inner again (Bad d r) = refl

pub some_by : (g : Group) (k : ℕ) (inner : Items → Out Tree) (again : Items → Out Props) (w : Items)
    → read_some_props g k inner again w ≡ rows no_props (λ (p : List ℕ × Tree × Bool). more_props p.0 p.1) (λ p. p.2) again (read_prop g k inner w)
unfolding read_some_props read_prop
some_by g k inner again w = elim (nat_le 1 k) as (λ low. cond low (mapped (λ (p : Item × (Tree × Props)). more_props (label p.0) p.1.0 p.1.1) (both (token (labels g)) (λ x. both (read_value inner x) (λ e. read_more_props g again)) w)) (Bad (passes (labels g) (first w)) w)
    ≡ rows no_props (λ (p : List ℕ × Tree × Bool). more_props p.0 p.1) (λ p. p.2) again (cond low (mapped (λ (p : Item × (Tree × Bool)). (label p.0, p.1.0, p.1.1)) (both (token (labels g)) (λ x. both (read_value inner x) (λ e. closing (closer g))) w)) (Bad (passes (labels g) (first w)) w)))
    [ true ↦ prop_label g inner again (token (labels g) w) | false ↦ refl ]

pub props_turn : (g : Group) (k : ℕ) (inner : Items → Out Tree) (n : ℕ) (w : Items) → read_props g k inner (suc n) w
    ≡ cond (passes (closer g) (first w)) (mapped (λ y. no_props) (token (closer g) w))
    (rows no_props (λ (p : List ℕ × Tree × Bool). more_props p.0 p.1) (λ p. p.2) (read_props g k inner n) (read_prop g k inner w))
unfolding read_props
props_turn g k inner n w = ap (cond (passes (closer g) (first w)) (mapped (λ y. no_props) (token (closer g) w))) (some_by g k inner (read_props g k inner n) w)

-- ---- holes

hole_more : (again : Items → Out Parts) (e : Tree) (mid : Bool) (m t : Out Item)
    → mapped (λ (p : Tree × Parts). hole p.0 p.1) (mapped (λ l. (e, l)) (cond mid (mapped (λ (p : Item × Parts). piece (label p.0) p.1) (go_on m (λ y r. mapped (λ l. (y, l)) (again r)))) (mapped (λ y. piece (label y) no_parts) t)))
    ≡ rows no_parts (λ (p : Tree × List ℕ × Bool) l. hole p.0 (piece p.1 l)) (λ p. p.2) again
    (mapped (λ (p : Tree × (List ℕ × Bool)). (p.0, p.1.0, p.1.1)) (mapped (λ b. (e, b)) (cond mid (mapped (λ y. (label y, false)) m) (mapped (λ y. (label y, true)) t))))
hole_more again e true (Got y r) t = ap (mapped (λ (p : Tree × Parts). hole p.0 p.1)) (ap (mapped (λ l. (e, l))) (mapped_twice (λ (p : Item × Parts). piece (label p.0) p.1) (λ l. (y, l)) (again r))
    ∙ mapped_twice (λ l. (e, l)) (λ l. piece (label y) l) (again r)) ∙ mapped_twice (λ (p : Tree × Parts). hole p.0 p.1) (λ l. (e, piece (label y) l)) (again r)
hole_more again e true (Bad d r) t = refl
hole_more again e false m (Got y r) = refl
hole_more again e false m (Bad d r) = refl

hole_one : (again : Items → Out Parts) (o : Out Tree) → mapped (λ (p : Tree × Parts). hole p.0 p.1) (go_on o (λ e r. mapped (λ l. (e, l)) (read_more_holes again r)))
    ≡ rows no_parts (λ (p : Tree × List ℕ × Bool) l. hole p.0 (piece p.1 l)) (λ p. p.2) again (mapped (λ (p : Tree × (List ℕ × Bool)). (p.0, p.1.0, p.1.1)) (go_on o (λ e r. mapped (λ b. (e, b)) (read_piece r))))
unfolding read_more_holes read_piece
hole_one again (Got e r) = hole_more again e (passes is_mid (first r)) (token is_mid r) (token is_tail r)
hole_one again (Bad d r) = refl

pub holes_turn : (inner : Items → Out Tree) (n : ℕ) (w : Items)
    → read_holes inner (suc n) w ≡ rows no_parts (λ (p : Tree × List ℕ × Bool) l. hole p.0 (piece p.1 l)) (λ p. p.2) (read_holes inner n) (read_hole inner w)
unfolding read_holes read_hole
holes_turn inner n w = hole_one (read_holes inner n) (inner w)

-- ---- a turn of the code's loops, for each way out of it

abbrev pub BracketFirst : Items → Bool
BracketFirst w = passes (is_symbol symbol.CloseBracket) (first w)

pub elements_closed : (k : ℕ) (inner : Items → Out Tree) (n : ℕ) (w : Items) (found : List Expr) (x : Item) (r : Items) → BracketFirst w ≡ true
    → token (is_symbol symbol.CloseBracket) w ≡ Got x r → mapped (trees_before found) (read_elements k inner (suc n) w) ≡ Got (trees_of (map tree_of found)) r
elements_closed k inner n w found x r sees is = rw (elements_turn k inner n w, sees, is) (ap (λ l. Got l r) (trees_all found))

pub elements_last : (k : ℕ) (inner : Items → Out Tree) (n : ℕ) (w : Items) (found after : List Expr) (e : Expr) (b : Bool) (r : Items) → BracketFirst w ≡ false
    → read_element k inner w ≡ Got (tree_of e, b) r → b ≡ true → after ≡ found ++ e ∷ []
    → mapped (trees_before found) (read_elements k inner (suc n) w) ≡ Got (trees_of (map tree_of after)) r
elements_last k inner n w found after e b r sees is ends new = rw (elements_turn k inner n w, sees, new)
    (row_last no_trees (λ (p : Tree × Bool). more_trees p.0) (λ p. p.1) (read_elements k inner n) (trees_before found) (tree_of e, b) r (read_element k inner w) is ends
    ∙ ap (λ l. Got l r) (sym (trees_more found e no_trees) ∙ trees_all (found ++ e ∷ [])))

pub elements_next : (k : ℕ) (inner : Items → Out Tree) (n : ℕ) (w : Items) (found after : List Expr) (e : Expr) (b : Bool) (r : Items) → BracketFirst w ≡ false
    → read_element k inner w ≡ Got (tree_of e, b) r → b ≡ false → after ≡ found ++ e ∷ []
    → mapped (trees_before found) (read_elements k inner (suc n) w) ≡ mapped (trees_before after) (read_elements k inner n r)
elements_next k inner n w found after e b r sees is ends new = rw (elements_turn k inner n w, sees, new)
    (row_next no_trees (λ (p : Tree × Bool). more_trees p.0) (λ p. p.1) (read_elements k inner n) (trees_before found) (tree_of e, b) r (read_element k inner w) is ends
    ∙ mapped_by (λ l. trees_before found (more_trees (tree_of e) l)) (trees_before (found ++ e ∷ [])) (read_elements k inner n r) (λ l. sym (trees_more found e l)))

pub elements_fail : (k : ℕ) (inner : Items → Out Tree) (n : ℕ) (w : Items) (found : List Expr) (stop : Stop) (r : Items) → BracketFirst w ≡ false
    → Gives an_element (read_element k inner w) (Err stop) r → Gives trees (mapped (trees_before found) (read_elements k inner (suc n) w)) (Err stop) r
elements_fail k inner n w found (stops.Refused d) r sees is = rw (elements_turn k inner n w, sees)
    (row_bad no_trees (λ (p : Tree × Bool). more_trees p.0) (λ p. p.1) (read_elements k inner n) (trees_before found) d r (read_element k inner w) is)
elements_fail k inner n w found stops.Memory r sees is = is

pub props_closed : (g : Group) (k : ℕ) (inner : Items → Out Tree) (n : ℕ) (w : Items) (found : List Prop) (x : Item) (r : Items) → passes (closer g) (first w) ≡ true
    → token (closer g) w ≡ Got x r → mapped (props_before found) (read_props g k inner (suc n) w) ≡ Got (props_of (map prop found)) r
props_closed g k inner n w found x r sees is = rw (props_turn g k inner n w, sees, is) (ap (λ l. Got l r) (props_all found))

pub props_last : (g : Group) (k : ℕ) (inner : Items → Out Tree) (n : ℕ) (w : Items) (found after : List Prop) (x : List ℕ) (e : Expr) (b : Bool) (r : Items)
    → passes (closer g) (first w) ≡ false → read_prop g k inner w ≡ Got (x, tree_of e, b) r → b ≡ true → after ≡ found ++ roll-Prop (record { label = x; value = e }) ∷ []
    → mapped (props_before found) (read_props g k inner (suc n) w) ≡ Got (props_of (map prop after)) r
props_last g k inner n w found after x e b r sees is ends new = rw (props_turn g k inner n w, sees, new)
    (row_last no_props (λ (p : List ℕ × Tree × Bool). more_props p.0 p.1) (λ p. p.2) (read_props g k inner n) (props_before found) (x, tree_of e, b) r (read_prop g k inner w) is ends
    ∙ ap (λ l. Got l r) (sym (props_more found x e no_props) ∙ props_all (found ++ roll-Prop (record { label = x; value = e }) ∷ [])))

pub props_next : (g : Group) (k : ℕ) (inner : Items → Out Tree) (n : ℕ) (w : Items) (found after : List Prop) (x : List ℕ) (e : Expr) (b : Bool) (r : Items)
    → passes (closer g) (first w) ≡ false → read_prop g k inner w ≡ Got (x, tree_of e, b) r → b ≡ false → after ≡ found ++ roll-Prop (record { label = x; value = e }) ∷ []
    → mapped (props_before found) (read_props g k inner (suc n) w) ≡ mapped (props_before after) (read_props g k inner n r)
props_next g k inner n w found after x e b r sees is ends new = rw (props_turn g k inner n w, sees, new)
    (row_next no_props (λ (p : List ℕ × Tree × Bool). more_props p.0 p.1) (λ p. p.2) (read_props g k inner n) (props_before found) (x, tree_of e, b) r (read_prop g k inner w) is ends
    ∙ mapped_by (λ l. props_before found (more_props x (tree_of e) l)) (props_before (found ++ roll-Prop (record { label = x; value = e }) ∷ [])) (read_props g k inner n r)
    (λ l. sym (props_more found x e l)))

pub props_fail : (g : Group) (k : ℕ) (inner : Items → Out Tree) (n : ℕ) (w : Items) (found : List Prop) (stop : Stop) (r : Items) → passes (closer g) (first w) ≡ false
    → Gives a_prop (read_prop g k inner w) (Err stop) r → Gives props (mapped (props_before found) (read_props g k inner (suc n) w)) (Err stop) r
props_fail g k inner n w found (stops.Refused d) r sees is = rw (props_turn g k inner n w, sees)
    (row_bad no_props (λ (p : List ℕ × Tree × Bool). more_props p.0 p.1) (λ p. p.2) (read_props g k inner n) (props_before found) d r (read_prop g k inner w) is)
props_fail g k inner n w found stops.Memory r sees is = is

both_parts : (found inside after : List Part) (e : Expr) (s : List ℕ) (rest : Parts) → inside ≡ found ++ part_variants.Hole e ∷ [] → after ≡ inside ++ part_variants.Piece s ∷ []
    → parts_before after rest ≡ parts_before found (hole (tree_of e) (piece s rest))
both_parts found inside after e s rest one two = rw (two, one) (pieces_more (found ++ part_variants.Hole e ∷ []) s rest ∙ holes_more found e (piece s rest))

pub holes_last : (inner : Items → Out Tree) (n : ℕ) (w : Items) (found inside after : List Part) (e : Expr) (s : List ℕ) (b : Bool) (r : Items)
    → read_hole inner w ≡ Got (tree_of e, s, b) r → b ≡ true → inside ≡ found ++ part_variants.Hole e ∷ [] → after ≡ inside ++ part_variants.Piece s ∷ []
    → mapped (parts_before found) (read_holes inner (suc n) w) ≡ Got (parts_of (map part after)) r
holes_last inner n w found inside after e s b r is ends one two = rw (holes_turn inner n w)
    (row_last no_parts (λ (p : Tree × List ℕ × Bool) l. hole p.0 (piece p.1 l)) (λ p. p.2) (read_holes inner n) (parts_before found) (tree_of e, s, b) r (read_hole inner w) is ends
    ∙ ap (λ l. Got l r) (sym (both_parts found inside after e s no_parts one two) ∙ parts_all after))

pub holes_next : (inner : Items → Out Tree) (n : ℕ) (w : Items) (found inside after : List Part) (e : Expr) (s : List ℕ) (b : Bool) (r : Items)
    → read_hole inner w ≡ Got (tree_of e, s, b) r → b ≡ false → inside ≡ found ++ part_variants.Hole e ∷ [] → after ≡ inside ++ part_variants.Piece s ∷ []
    → mapped (parts_before found) (read_holes inner (suc n) w) ≡ mapped (parts_before after) (read_holes inner n r)
holes_next inner n w found inside after e s b r is ends one two = rw (holes_turn inner n w)
    (row_next no_parts (λ (p : Tree × List ℕ × Bool) l. hole p.0 (piece p.1 l)) (λ p. p.2) (read_holes inner n) (parts_before found) (tree_of e, s, b) r (read_hole inner w) is ends
    ∙ mapped_by (λ l. parts_before found (hole (tree_of e) (piece s l))) (parts_before after) (read_holes inner n r) (λ l. sym (both_parts found inside after e s l one two)))

pub holes_fail : (inner : Items → Out Tree) (n : ℕ) (w : Items) (found : List Part) (stop : Stop) (r : Items) → Gives a_hole (read_hole inner w) (Err stop) r
    → Gives parts (mapped (parts_before found) (read_holes inner (suc n) w)) (Err stop) r
holes_fail inner n w found (stops.Refused d) r is = rw (holes_turn inner n w)
    (row_bad no_parts (λ (p : Tree × List ℕ × Bool) l. hole p.0 (piece p.1 l)) (λ p. p.2) (read_holes inner n) (parts_before found) d r (read_hole inner w) is)
holes_fail inner n w found stops.Memory r is = is
