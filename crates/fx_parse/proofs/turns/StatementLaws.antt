-- Kinds of statements, and one turn of the loops over statements and imports.
use Rattle.std.proofs.Common.{◌≡◌, ℕ, zero, suc, Bool, true, false, cond, ◌&&◌, List, [], ◌∷◌, ◌++◌, length, drop, refl, sym, ap, ◌∙◌, append_assoc, append-nil}
use Rattle.std.proofs.lemmas.List.{map-append}
use Rattle.fx_ast.specs.declared.script.Statement.{Statement}
use Rattle.fx_ast.specs.Shape.{statement_tree}
use Rattle.fx_ast.specs.Tree.{Tree, StatementTree}
use Rattle.fx_scan.specs.declared.symbols.Symbol.TheVariants as symbol
use Rattle.fx_scan.specs.declared.words.Word.TheVariants as word
use Rattle.fx_parse.specs.declared.item.Item.{Item}
use Rattle.fx_parse.specs.Grammar.{joins}
use Rattle.fx_parse.specs.Items.{Items, passes, first, is_name, is_word, is_symbol}
use Rattle.fx_parse.specs.Opening.{is_end, read_assignment, read_option, read_shown, read_following, statement_trees, after_found, statements_after, imports_after}
use Rattle.fx_parse.specs.ReadScripts.{sees_assignment, read_import, read_imports, read_statement, read_statements}
use Rattle.fx_parse.specs.Readings.{Out, Got, Bad, mapped, go_on, both}

pub assignment_seen : (w : Items) → sees_assignment w ≡ (passes is_name (first w) && passes (is_symbol symbol.Assign) (first (drop 1 w)))
unfolding sees_assignment
assignment_seen [] = refl
assignment_seen (x ∷ w) = refl

pub statement_kinds : (expr : Items → Out Tree) (w : Items) → read_statement expr w
    ≡ cond (sees_assignment w) (read_assignment expr w) (cond (passes (is_word word.Option) (first w)) (read_option expr w) (read_shown expr w))
unfolding read_statement read_assignment read_option read_shown
statement_kinds expr w = refl

-- ---- statements after those that were found

more_found : (found after : List Statement) (s : Statement) (ss : List StatementTree) → after ≡ found ++ s ∷ [] → after_found after ss ≡ after_found found (statement_tree s ∷ ss)
more_found found after s ss e = ap (λ l. statement_trees l ++ ss) e ∙ ap (λ l. l ++ ss) (map-append statement_tree found (s ∷ [])) ∙ append_assoc (statement_trees found) (statement_tree s ∷ []) ss

joined : (found after : List Statement) (s : Statement) (o : Out (List StatementTree)) → after ≡ found ++ s ∷ []
    → mapped (after_found found) (mapped (λ (p : StatementTree × List StatementTree). p.0 ∷ p.1) (mapped (λ ss. (statement_tree s, ss)) o)) ≡ mapped (after_found after) o
joined found after s (Got ss r) e = ap (λ l. Got l r) (sym (more_found found after s ss e))
joined found after s (Bad d r) e = refl

guarded : {A B C : Type 0} (b d : Bool) (w : Items) (o : Out A) (g : A → Items → Out B) (f : B → C) → cond b (Bad d w) (mapped f (go_on o g)) ≡ mapped f (go_on (cond b (Bad d w) o) g)
guarded true d w o g f = refl
guarded false d w o g f = refl

statements_turn : (expr : Items → Out Tree) (n : ℕ) (follows : Bool) (x : Item) (w : Items) → read_statements expr (suc n) follows (x ∷ w)
    ≡ mapped (λ (p : StatementTree × List StatementTree). p.0 ∷ p.1) (both (read_following expr follows) (λ s. read_statements expr n true) (x ∷ w))
unfolding read_statements read_following
statements_turn expr n follows x w = guarded {B = StatementTree × List StatementTree} (follows && joins x) false (x ∷ w) (read_statement expr (x ∷ w))
    (λ s r. mapped (λ ss. (s, ss)) (read_statements expr n true r)) (λ p. p.0 ∷ p.1)

pub statements_done : (expr : Items → Out Tree) (n : ℕ) (follows : Bool) (found : List Statement) (w : Items) → is_end w ≡ true → statements_after expr n follows found w ≡ Got (statement_trees found) w
unfolding read_statements
statements_done expr zero follows found [] e = ap (λ l. Got l []) (append-nil (statement_trees found))
statements_done expr (suc n) follows found [] e = ap (λ l. Got l []) (append-nil (statement_trees found))
statements_done expr n follows found (x ∷ w) e = absurd cc

pub statements_none : (expr : Items → Out Tree) (follows : Bool) (found : List Statement) (w : Items) → is_end w ≡ false → statements_after expr 0 follows found w ≡ Bad false w
unfolding read_statements
statements_none expr follows found [] e = absurd cc
statements_none expr follows found (x ∷ w) e = refl

pub statements_bad : (expr : Items → Out Tree) (n : ℕ) (follows : Bool) (found : List Statement) (w r : Items) (deep : Bool) → is_end w ≡ false → read_following expr follows w ≡ Bad deep r
    → statements_after expr (suc n) follows found w ≡ Bad deep r
statements_bad expr n follows found [] r deep e one = absurd cc
statements_bad expr n follows found (x ∷ w) r deep e one = ap (mapped (after_found found)) (statements_turn expr n follows x w) ∙ rw one refl

pub statements_next : (expr : Items → Out Tree) (n : ℕ) (follows : Bool) (found after : List Statement) (s : Statement) (w r : Items) → is_end w ≡ false
    → read_following expr follows w ≡ Got (statement_tree s) r → after ≡ found ++ s ∷ [] → statements_after expr (suc n) follows found w ≡ statements_after expr n true after r
statements_next expr n follows found after s [] r e one more = absurd cc
statements_next expr n follows found after s (x ∷ w) r e one more = ap (mapped (after_found found)) (statements_turn expr n follows x w)
    ∙ rw one (joined found after s (read_statements expr n true r) more)

-- ---- imports after those that were found

pub imports_none : (expr : Items → Out Tree) (found : List Statement) (w : Items) → imports_after expr 0 found w ≡ statements_after expr (length w) false found w
unfolding read_imports
imports_none expr found w = refl

pub imports_end : (expr : Items → Out Tree) (n : ℕ) (found : List Statement) (w : Items) → passes (is_word word.Import) (first w) ≡ false
    → imports_after expr (suc n) found w ≡ statements_after expr (length w) false found w
unfolding read_imports
imports_end expr n found w e = rw e refl

pub imports_bad : (expr : Items → Out Tree) (n : ℕ) (found : List Statement) (w r : Items) (deep : Bool) → passes (is_word word.Import) (first w) ≡ true → read_import w ≡ Bad deep r
    → imports_after expr (suc n) found w ≡ Bad deep r
unfolding read_imports
imports_bad expr n found w r deep e one = rw (e, one) refl

pub imports_next : (expr : Items → Out Tree) (n : ℕ) (found after : List Statement) (s : Statement) (w r : Items) → passes (is_word word.Import) (first w) ≡ true
    → read_import w ≡ Got (statement_tree s) r → after ≡ found ++ s ∷ [] → imports_after expr (suc n) found w ≡ imports_after expr n after r
unfolding read_imports
imports_next expr n found after s w r e one more = rw (e, one) (joined found after s (read_imports expr n r) more)

same_out : {A : Type 0} (o : Out A) → mapped (λ a. a) o ≡ o
same_out (Got a r) = refl
same_out (Bad d r) = refl

pub nothing_found : (expr : Items → Out Tree) (n : ℕ) (w : Items) → imports_after expr n [] w ≡ read_imports expr n w
nothing_found expr n w = same_out (read_imports expr n w)
