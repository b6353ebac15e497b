-- A script is read in one way.
use Rattle.std.proofs.Common.{◌≡◌, ℕ, Bool, inl, inr, List, length, codes, sym, ◌∙◌, subst}
use Rattle.std.specs.Str.{IsUtf8, IsValidUpTo}
use Rattle.std.proofs.Math.Seq.{take-length}
use Rattle.std.proofs.lemmas.Str.{utf8_valid_len-IsValidUpTo}
use Rattle.fx_ast.specs.Tree.{Tree, ScriptTree}
use Rattle.fx_scan.proofs.OneList.{one_list, no_list, one_place}
use Rattle.fx_parse.specs.Parsed.{IsParsed, IsUnparsed}
use Rattle.fx_parse.proofs.outcome.Once.{tree_once, refused_once, parsed_or_refused}
use Rattle.fx_top.specs.declared.query.Query.{Query}
use Rattle.fx_top.specs.Query.{piped, called, query_tree, IsQuery}
use Rattle.fx_top.proofs.QueryLemmas.{same_shown, same_sides, same_args, same_text_arg, same_time_args, from_args, range_args}
use Rattle.fx_top.specs.Syntax.{HasTree, HasNoTree, IsSyntax, IsScript, IsNotBuilt}

-- ---- its tree

pub same_tree : (script : List ℕ) (a b : ScriptTree) → HasTree script a → HasTree script b → a ≡ b
same_tree script a b g h = tree_once script h.tokens a b (subst (λ ts. IsParsed script ts a) (one_list script h.tokens g.tokens h.list g.list) g.parsed).is h.parsed.is

-- ---- where it has none

text_or_not : (script : List ℕ) (at : ℕ) → IsValidUpTo script at → IsUtf8 script → ⊥
text_or_not script at up h = up.longest (length script) up.short (subst IsUtf8 (sym (take-length script)) h)

same_valid : (script : List ℕ) (a b : ℕ) → IsValidUpTo script a → IsValidUpTo script b → a ≡ b
same_valid script a b g h = sym (utf8_valid_len-IsValidUpTo script a g) ∙ utf8_valid_len-IsValidUpTo script b h

same_no_tree : (script : List ℕ) (a b : ℕ) (d e : Bool) → HasNoTree script a d → HasNoTree script b e → (a ≡ b) × (d ≡ e)
same_no_tree script a b d e g h =
    refused_once script h.tokens a b d e (subst (λ ts. IsUnparsed script ts a d) (one_list script h.tokens g.tokens h.list g.list) g.unparsed) h.unparsed

pub same_syntax : (script : List ℕ) (a b : ℕ) (d e : Bool) → IsSyntax script a d → IsSyntax script b e → (a ≡ b) × (d ≡ e)
same_syntax script a b d e (inl g) (inl h) = (same_valid script a b g.0 h.0, g.1 ∙ sym h.1)
same_syntax script a b d e (inl g) (inr (inl h)) = absurd (text_or_not script a g.0 h.0)
same_syntax script a b d e (inl g) (inr (inr h)) = absurd (text_or_not script a g.0 h.text)
same_syntax script a b d e (inr (inl g)) (inl h) = absurd (text_or_not script b h.0 g.0)
same_syntax script a b d e (inr (inl g)) (inr (inl h)) = (one_place script b a h.1 g.1, g.2 ∙ sym h.2)
same_syntax script a b d e (inr (inl g)) (inr (inr h)) = absurd (no_list script a g.1 h.tokens h.list)
same_syntax script a b d e (inr (inr g)) (inl h) = absurd (text_or_not script b h.0 g.text)
same_syntax script a b d e (inr (inr g)) (inr (inl h)) = absurd (no_list script b h.1 g.tokens g.list)
same_syntax script a b d e (inr (inr g)) (inr (inr h)) = same_no_tree script a b d e g h

pub syntax_or_tree : (script : List ℕ) (at : ℕ) (deep : Bool) (tree : ScriptTree) → IsSyntax script at deep → HasTree script tree → ⊥
syntax_or_tree script at deep tree (inl g) h = text_or_not script at g.0 h.text
syntax_or_tree script at deep tree (inr (inl g)) h = no_list script at g.1 h.tokens h.list
syntax_or_tree script at deep tree (inr (inr g)) h =
    parsed_or_refused script h.tokens at deep tree h.parsed (subst (λ ts. IsUnparsed script ts at deep) (one_list script h.tokens g.tokens h.list g.list) g.unparsed)

-- ---- its query

-- the two calls of a query
abbrev from_call : Query → Tree
from_call q = called (codes "from") (from_args q)

abbrev range_call : Query → Tree
range_call q = called (codes "range") (range_args q)

same_query_tree : (q r : Query) → query_tree q ≡ query_tree r → q.place ≡ r.place → q ≡ r
same_query_tree q r e place =
    let sides = same_sides (from_call q) (range_call q) (from_call r) (range_call r) (same_shown (piped (from_call q) (range_call q)) (piped (from_call r) (range_call r)) e) in
    let bucket = same_text_arg (codes "bucket") q.bucket r.bucket (same_args (codes "from") (from_args q) (from_args r) sides.0) in
    let times = same_time_args (codes "start") (codes "stop") q.start q.stop r.start r.stop (same_args (codes "range") (range_args q) (range_args r) sides.1) in
    λ i. record { place = place i; bucket = bucket i; start = times.0 i; stop = times.1 i }

same_query : (tree : ScriptTree) (q r : Query) → IsQuery tree q → IsQuery tree r → q ≡ r
same_query tree q r g h =
    let place : q.place ≡ r.place = cc (g.begin, h.begin) in
    same_query_tree q r (sym g.same ∙ h.same) place

pub same_script : (script : List ℕ) (q r : Query) → IsScript script q → IsScript script r → q ≡ r
same_script script q r g h = same_query h.tree q r (subst (λ t. IsQuery t q) (same_tree script g.tree h.tree g.has_tree h.has_tree) g.query) h.query

pub script_or_not_built : (script : List ℕ) (q : Query) → IsScript script q → IsNotBuilt script → ⊥
script_or_not_built script q g h = h.other q (subst (λ t. IsQuery t q) (same_tree script g.tree h.tree g.has_tree h.has_tree) g.query)
