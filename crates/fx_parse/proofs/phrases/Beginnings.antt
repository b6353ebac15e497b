-- What phrases begin with, and that some phrase begins with each of these.
use Rattle.std.proofs.Common.{◌≡◌, ℕ, zero, suc, Bool, true, false, List, [], ◌∷◌, ◌++◌, Option, None, Some, sym, refl, ap, ◌∙◌, ◌⊎◌, inl, inr, ⊎_elim, append_assoc, append-nil, arith}
use Rattle.fx_ast.specs.Tree.{Tree, tree, text, piece, paren, array, rec, prefix, if_then, no_trees, no_props}
use Rattle.fx_scan.specs.declared.symbols.Symbol.TheVariants as symbol
use Rattle.fx_scan.specs.declared.words.Word.TheVariants as word
use Rattle.fx_parse.specs.declared.item.Item.{Item}
use Rattle.fx_parse.specs.Items.{Items, Sort, a_head, a_word, a_symbol, literals, one_of, first, start, passes, label, literal, is_head, is_literal, is_symbol, is_word, prefixes, prefix_of}
use Rattle.fx_parse.specs.Grammar.{IsExpr, by_choice, by_function, by_level, IsFunction, a_function, IsLevel, at_postfix, at_prefix, at_run, links_end, IsPostfix, a_postfix, suffixes_end, IsPrimary, a_literal, a_text, a_paren, an_array, a_record, elements_end, whole_record, props_end}
use Rattle.fx_parse.specs.ReadPrimary.{starters, begins}
use Rattle.fx_parse.proofs.phrases.Shortest.{zero_expr, zero_level}
use Rattle.fx_parse.proofs.phrases.Stops.{front_passes}
use Rattle.fx_parse.proofs.phrases.Texts.{low_holes}
use Rattle.fx_parse.proofs.phrases.Then.{Begun}
use Rattle.fx_parse.proofs.sorts.Toks.{may_within, in_left, in_right, in_join, sign, a_word_item, a_zero}

-- ---- what a phrase begins with

may_left : (xs ys : List Sort) (o : Option Item) → passes (one_of xs) o ≡ true → passes (one_of (xs ++ ys)) o ≡ true
may_left xs ys None e = e
may_left xs ys (Some x) e = in_left xs ys x e

may_right : (xs ys : List Sort) (o : Option Item) → passes (one_of ys) o ≡ true → passes (one_of (xs ++ ys)) o ≡ true
may_right xs ys None e = e
may_right xs ys (Some x) e = in_right xs ys x e

-- what the first part begins with
pub front_part : (xs : List Sort) (u v a b : Items) → u ≡ a ++ b → passes (one_of xs) (first (a ++ (b ++ v))) ≡ true → passes (one_of xs) (first (u ++ v)) ≡ true
front_part xs u v a b e h = ap (λ z. passes (one_of xs) (first z)) (ap (λ z. z ++ v) e ∙ append_assoc a b v) ∙ h

pub primary_first : (t : Tree) (u v : Items) → IsPrimary t u → passes (one_of (starters 0)) (first (u ++ v)) ≡ true
primary_first t u v (a_literal x h) = may_within literals (starters 0) (first (u ++ v)) refl (front_passes (one_of literals) x u [] u v h (sym (append-nil u)))
primary_first t u v (a_text x i a h n e) = may_within (a_head ∷ []) (starters 0) (first (u ++ v)) refl (front_passes (one_of (a_head ∷ [])) x i a u v h e)
primary_first t u v (a_paren x y i a j h n o e) = may_within (a_symbol symbol.OpenParen ∷ []) (starters 0) (first (u ++ v)) refl (front_passes (one_of (a_symbol symbol.OpenParen ∷ [])) x i (a ++ j) u v h e)
primary_first t u v (an_array x i a h n e) = may_within (a_symbol symbol.OpenBracket ∷ []) (starters 0) (first (u ++ v)) refl (front_passes (one_of (a_symbol symbol.OpenBracket ∷ [])) x i a u v h e)
primary_first t u v (a_record x i a h n e) = may_within (a_symbol symbol.OpenBrace ∷ []) (starters 0) (first (u ++ v)) refl (front_passes (one_of (a_symbol symbol.OpenBrace ∷ [])) x i a u v h e)

pub postfix_first : (b : Bool) (t : Tree) (u v : Items) → IsPostfix b t u → passes (one_of (starters 0)) (first (u ++ v)) ≡ true
postfix_first b t u v (a_postfix {s = s} a c n r e) = front_part (starters 0) u v a c e (primary_first s a (c ++ v) n)

pub level_first : (m : ℕ) (t : Tree) (u v : Items) → IsLevel m t u → passes (one_of (starters m)) (first (u ++ v)) ≡ true
level_first m t u v (at_postfix n) = postfix_first false t u v n
level_first (suc m) t u v (at_prefix x i a h n e) = may_left (prefixes (suc m)) (starters m) (first (u ++ v)) (front_passes (one_of (prefixes (suc m))) x i a u v h e)
level_first (suc m) t u v (at_run {t = s} a b n r e) = may_right (prefixes (suc m)) (starters m) (first (u ++ v)) (front_part (starters m) u v a b e (level_first m s a (b ++ v) n))

pub function_first : (t : Tree) (u v : Items) → IsFunction t u → passes (one_of (a_symbol symbol.OpenParen ∷ [])) (first (u ++ v)) ≡ true
function_first t u v (a_function x y i a j b h n o p e) = front_passes (one_of (a_symbol symbol.OpenParen ∷ [])) x i (a ++ (j ++ b)) u v h e

pub expr_first : (t : Tree) (u v : Items) → IsExpr t u → passes begins (first (u ++ v)) ≡ true
expr_first t u v (by_choice x y z i a j b k c h n o p q r e) = may_within (a_word word.If ∷ []) (a_word word.If ∷ starters 8) (first (u ++ v)) refl
    (front_passes (one_of (a_word word.If ∷ [])) x i (a ++ (j ++ (b ++ (k ++ c)))) u v h e)
expr_first t u v (by_function n) = may_within (a_symbol symbol.OpenParen ∷ []) (a_word word.If ∷ starters 8) (first (u ++ v)) refl (function_first t u v n)
expr_first t u v (by_level n) = may_within (starters 8) (a_word word.If ∷ starters 8) (first (u ++ v)) refl (level_first 8 t u v n)

-- a phrase that isn't empty begins where the items do
pub start_is : (test : Item → Bool) (u v w : Items) → passes test (first (u ++ [])) ≡ true → first (u ++ v) ≡ first w → start u ≡ start w
start_is test [] v w h e = absurd (let f : false ≡ true = h in cc)
start_is test (x ∷ u) v [] h e = absurd (let f : Some x ≡ None = e in cc)
start_is test (x ∷ u) v (y ∷ w) h e = let f : Some x ≡ Some y = e in let g : x ≡ y = cc in ap (λ z. z.place) g

-- ---- some phrase begins so

postfix_of : (t : Tree) (w : Items) → IsPrimary t w → IsLevel 0 t w
postfix_of t w p = at_postfix (a_postfix w [] p (suffixes_end refl) (sym (append-nil w)))

-- each case of what begins a primary
begun_by : (x : Item) → one_of (starters 0) x ≡ true
    → (is_head x ≡ true) ⊎ ((is_symbol symbol.OpenParen x ≡ true) ⊎ ((is_symbol symbol.OpenBracket x ≡ true) ⊎ ((is_symbol symbol.OpenBrace x ≡ true) ⊎ (is_literal x ≡ true))))
begun_by x e = ⊎_elim (λ h. inl h)
    (λ h. inr (⊎_elim (λ g. inl g)
    (λ g. inr (⊎_elim (λ f. inl f) (λ f. inr (in_join (a_symbol symbol.OpenBrace ∷ []) literals x f))
    (in_join (a_symbol symbol.OpenBracket ∷ []) (a_symbol symbol.OpenBrace ∷ literals) x g)))
    (in_join (a_symbol symbol.OpenParen ∷ []) (a_symbol symbol.OpenBracket ∷ a_symbol symbol.OpenBrace ∷ literals) x h)))
    (in_join (a_head ∷ []) (a_symbol symbol.OpenParen ∷ a_symbol symbol.OpenBracket ∷ a_symbol symbol.OpenBrace ∷ literals) x e)

pub text_begun : (x : Item) → is_head x ≡ true → Begun IsPrimary x
text_begun x e = let low = low_holes 1 (omega arith) in (low.0, tree x.place (text (piece (label x) low.1)), a_text x (x ∷ []) low.0 (e, refl) low.2 refl)

pub paren_begun : (x : Item) → is_symbol symbol.OpenParen x ≡ true → Begun IsPrimary x
unfolding one_of
paren_begun x e = (a_zero ∷ sign symbol.CloseParen ∷ [], tree x.place (paren (literal a_zero)), a_paren x (sign symbol.CloseParen) (x ∷ []) (a_zero ∷ []) (sign symbol.CloseParen ∷ []) (e, refl) zero_expr (refl, refl) refl)

array_begun : (x : Item) → is_symbol symbol.OpenBracket x ≡ true → Begun IsPrimary x
unfolding one_of
array_begun x e = (sign symbol.CloseBracket ∷ [], tree x.place (array no_trees), an_array x (x ∷ []) (sign symbol.CloseBracket ∷ []) (e, refl) (elements_end (sign symbol.CloseBracket) (refl, refl)) refl)

record_begun : (x : Item) → is_symbol symbol.OpenBrace x ≡ true → Begun IsPrimary x
unfolding one_of
record_begun x e = (sign symbol.CloseBrace ∷ [], tree x.place (rec None no_props), a_record x (x ∷ []) (sign symbol.CloseBrace ∷ []) (e, refl) (whole_record (props_end (sign symbol.CloseBrace) (refl, refl))) refl)

literal_begun : (x : Item) → is_literal x ≡ true → Begun IsPrimary x
literal_begun x e = ([], literal x, a_literal x (e, refl))

primary_some : (x : Item) → one_of (starters 0) x ≡ true → Begun IsPrimary x
primary_some x e = ⊎_elim (text_begun x) (λ h. ⊎_elim (paren_begun x) (λ g. ⊎_elim (array_begun x) (λ f. ⊎_elim (record_begun x) (literal_begun x) f) g) h) (begun_by x e)

pub prefix_begun : (m : ℕ) (x : Item) → one_of (prefixes (suc m)) x ≡ true → Begun (IsLevel (suc m)) x
prefix_begun m x e = (a_zero ∷ [], tree x.place (prefix (prefix_of x.lexeme) (literal a_zero)), at_prefix x (x ∷ []) (a_zero ∷ []) (e, refl) (zero_level (suc m)) refl)

level_some : (m : ℕ) (x : Item) → one_of (starters m) x ≡ true → Begun (IsLevel m) x
level_some zero x e = let p = primary_some x e in (p.0, p.1, postfix_of p.1 (x ∷ p.0) p.2)
level_some (suc m) x e = ⊎_elim
    (prefix_begun m x)
    (λ h. (let l = level_some m x h in (l.0, l.1, at_run (x ∷ l.0) [] l.2 links_end (sym (append-nil (x ∷ l.0))))))
    (in_join (prefixes (suc m)) (starters m) x e)

pub choice_begun : (x : Item) → is_word word.If x ≡ true → Begun IsExpr x
unfolding one_of
choice_begun x e = (
  a_zero ∷ a_word_item word.Then ∷ a_zero ∷ a_word_item word.Else ∷ a_zero ∷ [],
  tree x.place (if_then (literal a_zero) (literal a_zero) (literal a_zero)),
  by_choice x (a_word_item word.Then) (a_word_item word.Else) (x ∷ []) (a_zero ∷ []) (a_word_item word.Then ∷ []) (a_zero ∷ []) (a_word_item word.Else ∷ []) (a_zero ∷ [])
      (e, refl) zero_expr (refl, refl) zero_expr (refl, refl) zero_expr refl,
)

pub expr_some : (x : Item) → begins x ≡ true → Begun IsExpr x
expr_some x e = ⊎_elim (choice_begun x) (λ h. (let l = level_some 8 x h in (l.0, l.1, by_level l.2))) (in_join (a_word word.If ∷ []) (starters 8) x e)
