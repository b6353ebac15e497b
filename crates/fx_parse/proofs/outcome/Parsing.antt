-- From the reading of a script's items to what parsing promises.
use Rattle.std.proofs.Common.{◌≡◌, ℕ, zero, suc, ◌≤◌, Bool, true, false, ◌&&◌, List, [], ◌∷◌, ◌++◌, length, sym, refl, ap, ◌∙◌, subst, append_assoc, append-nil, arith}
use Rattle.std.proofs.lemmas.Bool.{cond_both}
use Rattle.fx_ast.specs.Tree.{Tree, ScriptTree}
use Rattle.fx_scan.specs.Forms.{Bytes}
use Rattle.fx_scan.specs.declared.token.Token.{Token}
use Rattle.fx_scan.specs.declared.words.Word.TheVariants as word
use Rattle.fx_parse.specs.Items.{Items, passes, first, is_name, is_word}
use Rattle.fx_parse.specs.Grammar.{IsScript, joins}
use Rattle.fx_ast.specs.Levels.{levels}
use Rattle.fx_parse.specs.Lexemes.{AllRead}
use Rattle.fx_parse.specs.Parsed.{IsTreeOf, IsParsed, IsUnparsed, place_left}
use Rattle.fx_parse.specs.ReadExprs.{read_expr}
use Rattle.fx_parse.specs.ReadScripts.{read_statement, read_statements, read_imports, read_script}
use Rattle.fx_parse.specs.Readings.{Out, Got, Bad, mapped, go_on, both, token}
use Rattle.fx_parse.specs.Refusal.{IsRefusal}
use Rattle.fx_parse.proofs.phrases.Says.{Says}
use Rattle.fx_parse.proofs.phrases.Knot.{says_expr}
use Rattle.fx_parse.proofs.phrases.Scripts.{says_script}
use Rattle.fx_parse.proofs.outcome.Top.{at_end, Within, refusal, one_tree}

-- ---- a script is read to its end

abbrev Ended : {A : Type 0} → Out A → Type 0
Ended (Got a r) = r ≡ []
Ended (Bad d r) = Unit {0}

ended_mapped : {A B : Type 0} (f : A → B) (o : Out A) → Ended o → Ended (mapped f o)
ended_mapped f (Got a r) e = e
ended_mapped f (Bad d r) e = tt

ended_both : {A B : Type 0} (o : Out A) (g : A → Items → Out B) → ((a : A) (r : Items) → Ended (g a r)) → Ended {A = A × B} (go_on o (λ a r. mapped (λ b. (a, b)) (g a r)))
ended_both {A = A} {B = B} (Got a r) g e = ended_mapped {B = A × B} (λ b. (a, b)) (g a r) (e a r)
ended_both (Bad d r) g e = tt

statements_ended : (expr : Items → Out Tree) (n : ℕ) (b : Bool) (w : Items) → Ended (read_statements expr n b w)
unfolding read_statements
statements_ended expr zero b [] = refl
statements_ended expr (suc n) b [] = refl
statements_ended expr zero b (x ∷ w) = tt
statements_ended expr (suc n) b (x ∷ w) = cond_both (b && joins x) _ _ Ended (λ e. tt)
    (λ e. ended_mapped (λ p. p.0 ∷ p.1) _ (ended_both (read_statement expr (x ∷ w)) (λ s. read_statements expr n true) (λ s r. statements_ended expr n true r)))

imports_ended : (expr : Items → Out Tree) (n : ℕ) (w : Items) → Ended (read_imports expr n w)
unfolding read_imports
imports_ended expr zero w = statements_ended expr (length w) false w
imports_ended expr (suc n) w = cond_both (passes (is_word word.Import) (first w)) _ _ Ended
    (λ e. ended_mapped (λ p. p.0 ∷ p.1) _ (ended_both _ (λ s. read_imports expr n) (λ s r. imports_ended expr n r)))
    (λ e. statements_ended expr (length w) false w)

script_ended : (expr : Items → Out Tree) (w : Items) → Ended (read_script expr w)
unfolding read_script
script_ended expr w = cond_both (passes (is_word word.Package) (first w)) _ _ Ended
    (λ e. ended_mapped _ _ (ended_both (token (is_word word.Package) w) (λ x. both (token is_name) (λ y r. read_imports expr (length r) r))
    (λ x r. ended_both (token is_name r) (λ y q. read_imports expr (length q) q) (λ y q. imports_ended expr (length q) q))))
    (λ e. ended_mapped _ (read_imports expr (length w) w) (imports_ended expr (length w) w))

-- ---- what reading says of a script

pub script_says : (most : ℕ) → 1 ≤ most → (w : Items) → Says IsScript (Within most) at_end w (read_script (read_expr most) w)
script_says most some w = says_script most (read_expr most) (says_expr most) some w

pub only_tree : (w : Items) (t s : ScriptTree) → IsScript t w → IsScript s w → t ≡ s
only_tree w t s m n = one_tree (λ most. read_script (read_expr most)) script_says w t s m n

read_is : (w : Items) (o : Out ScriptTree) → Says IsScript (Within 64) at_end w o → Ended o → (t : ScriptTree) (r : Items) → o ≡ Got t r → IsScript t w × (levels t ≤ 64)
read_is w (Got t r) s ends u q e =
    let i : Got t r ≡ Got u q = e in
    let same : t ≡ u = cc in
    let all : w ≡ s.u = s.split ∙ (ap (λ z. s.u ++ z) ends ∙ append-nil s.u) in
    (subst (λ z. IsScript z w) same (subst (IsScript t) (sym all) s.phrase), subst (λ z. levels z ≤ 64) same s.fits)
read_is w (Bad d r) s ends u q e = absurd (let h : Bad d r ≡ Got u q = e in cc)

abbrev refusing : Bool → Items → Out ScriptTree
refusing d r = Bad d r

refused_is : (w : Items) (o : Out ScriptTree) → Says IsScript (Within 64) at_end w o → (deep : Bool) (rest : Items) → o ≡ Bad deep rest → IsRefusal 64 w deep rest
refused_is w (Got t r) s deep rest e = absurd (let h : Got t r ≡ Bad deep rest = e in cc)
refused_is w (Bad d r) s deep rest e =
    let h : refusing d r ≡ refusing deep rest = e in
    let same_deep : d ≡ deep = cc in
    let same_rest : r ≡ rest = cc in
    subst (λ z. IsRefusal 64 w z rest) same_deep (subst (IsRefusal 64 w d) same_rest (refusal 64 w d r s))

pub parsed : (text : Bytes) (tokens : List Token) (items : Items) → AllRead text tokens items → (t : ScriptTree) (r : Items) → read_script (read_expr 64) items ≡ Got t r → IsParsed text tokens t
parsed text tokens items all t r e =
    let h : IsScript t items × (levels t ≤ 64) = read_is items (read_script (read_expr 64) items) (script_says 64 (omega arith) items) (script_ended (read_expr 64) items) t r e in
    record { is = record { items = items; read = all; phrase = h.0 }; low = h.1 }

pub unparsed : (text : Bytes) (tokens : List Token) (items : Items) → AllRead text tokens items → (deep : Bool) (rest : Items) → read_script (read_expr 64) items ≡ Bad deep rest
    → (place : ℕ) → place ≡ place_left text rest → IsUnparsed text tokens place deep
unparsed text tokens items all deep rest e place at =
    record { items = items; read = all; rest = rest; refusal = refused_is items (read_script (read_expr 64) items) (script_says 64 (omega arith) items) deep rest e; at = at }

-- ---- what follows for any tree

-- where the tokens are one list of items, they have at most one tree
pub one_tree_of : (text : Bytes) (tokens : List Token) (items : Items) → ((others : Items) → AllRead text tokens others → others ≡ items) → (a b : ScriptTree)
    → IsTreeOf text tokens a → IsTreeOf text tokens b → a ≡ b
one_tree_of text tokens items only a b m n =
    only_tree items a b (subst (IsScript a) (only m.items m.read) m.phrase) (subst (IsScript b) (only n.items n.read) n.phrase)

refusal_none : (w : Items) (deep : Bool) (rest : Items) → IsRefusal 64 w deep rest → (t : ScriptTree) → IsScript t w → levels t ≤ 64 → ⊥
refusal_none w deep [] r t n low = r.short refl t n low
refusal_none w deep (x ∷ z) r t n low = r.ends x z refl (z, t, subst (IsScript t) (r.split ∙ sym (append_assoc r.before (x ∷ []) z)) n, low)

pub unparsed_none : (text : Bytes) (tokens : List Token) (items : Items) → ((others : Items) → AllRead text tokens others → others ≡ items) → (place : ℕ) (deep : Bool)
    → IsUnparsed text tokens place deep → (t : ScriptTree) → IsParsed text tokens t → ⊥
unparsed_none text tokens items only place deep u t p =
    refusal_none u.items deep u.rest u.refusal t (subst (IsScript t) (only p.is.items p.is.read ∙ sym (only u.items u.read)) p.is.phrase) p.low
