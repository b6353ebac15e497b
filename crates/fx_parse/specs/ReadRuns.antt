-- What the parser's code does at postfixes, at operators before and between operands, and at `if`.
use Rattle.std.specs.Prelude.{ℕ, zero, suc, ◌==◌, Bool, true, false, cond, ◌&&◌, nat_le, List, [], ◌∷◌, length, Option, None, Some}
use Rattle.fx_base.specs.declared.place.Place.{Place}
use Rattle.fx_ast.specs.Tree.{Tree, tree, prefix, if_then}
use Rattle.fx_scan.specs.declared.symbols.Symbol.TheVariants as symbol
use Rattle.fx_scan.specs.declared.words.Word.TheVariants as word
use Rattle.fx_parse.specs.Items.{Items, Sort, a_symbol, one_of, passes, first, start, label, is_name, is_word, is_symbol, prefixes, operators, prefix_of}
use Rattle.fx_parse.specs.Grammar.{Link, run, Suffix, args, dot, bracket, put, may_end, arguments}
use Rattle.fx_ast.specs.Levels.{height}
use Rattle.fx_parse.specs.Readings.{Out, Bad, mapped, both, token, Chaining, links}
use Rattle.fx_parse.specs.ReadProps.{read_props}
use Rattle.fx_parse.specs.ReadPrimary.{read_primary}

-- ---- postfixes. k: the levels for arguments; l: those for what stands in brackets, and for the operand. Where a call has to
-- come at last, l is one less than k, else it is k

unfoldable pub read_args : ℕ → (Items → Out Tree) → Items → Out Suffix
read_args k inner w = mapped (λ p. args p.1) (both (token (is_symbol symbol.OpenParen)) (λ x r. read_props arguments k inner (length r) r) w)

unfoldable pub read_dot : Items → Out Suffix
read_dot w = mapped (λ p. dot (label p.1)) (both (token (is_symbol symbol.Dot)) (λ x. token is_name) w)

unfoldable pub read_bracket : (Items → Out Tree) → Items → Out Suffix
read_bracket inner w = mapped (λ p. bracket p.0.place p.1.0)
    (both (token (is_symbol symbol.OpenBracket)) (λ x. both inner (λ e. token (is_symbol symbol.CloseBracket))) w)

unfoldable pub read_suffix : ℕ → (Items → Out Tree) → (Items → Out Tree) → Items → Out Suffix
read_suffix k inner within w = cond (passes (is_symbol symbol.OpenParen) (first w)) (read_args k inner w)
    (cond (passes (is_symbol symbol.Dot) (first w)) (read_dot w) (read_bracket within w))

-- what begins a suffix
abbrev pub suffix_starters : List Sort
suffix_starters = a_symbol symbol.OpenParen ∷ a_symbol symbol.OpenBracket ∷ a_symbol symbol.Dot ∷ []

abbrev pub suffixes : Bool → Place → ℕ → ℕ → (Items → Out Tree) → (Items → Out Tree) → Chaining Tree Suffix Tree
suffixes must_call begin k l inner within = record {
  is_link = one_of suffix_starters;
  room = λ s x. nat_le (height s) (cond (is_symbol symbol.OpenParen x) k l);
  final = may_end must_call;
  end = λ t. t;
  step = put begin;
  join = λ x t. t;
  link = read_suffix k inner within;
}

unfoldable pub read_postfix : Bool → ℕ → ℕ → (Items → Out Tree) → (Items → Out Tree) → Items → Out Tree
read_postfix must_call k l inner within w = mapped (λ p. p.1)
    (both (read_primary l within) (λ s r. links (suffixes must_call (start w) k l inner within) (length r) s r) w)

-- ---- operators between operands of the line m. k: the levels for the operands

-- the levels that the operand after an operator needs: after `|>` a call and what is called
abbrev pub need : ℕ → ℕ
need m = cond (m == 1) 2 1

-- the first operand, until an operator comes
abbrev pub has_room : ℕ → ℕ → Option Tree → Bool
has_room k m None = true
has_room k m (Some t) = nat_le (height t) k && nat_le (need m) k

unfoldable pub read_link : ℕ → (Items → Out Tree) → Items → Out Link
read_link m operand w = mapped (λ p. record { mark = p.0; right = p.1 }) (both (token (one_of (operators (suc m)))) (λ x. operand) w)

abbrev pub operator_run : ℕ → ℕ → (Items → Out Tree) → Chaining (Option Tree) Link (List Link)
operator_run k m operand = record {
  is_link = one_of (operators (suc m));
  room = λ s x. has_room k m s;
  final = λ s. true;
  end = λ s. [];
  step = λ s x. None;
  join = λ x xs. x ∷ xs;
  link = read_link m operand;
}

-- operands of the line m, the first of them with a level more
unfoldable pub read_run : ℕ → ℕ → (Items → Out Tree) → (Items → Out Tree) → Items → Out Tree
read_run k m head operand w = mapped (λ p. run (suc m) (start w) p.0 p.1)
    (both head (λ t r. links (operator_run k m operand) (length r) (Some t) r) w)

-- ---- operators before an operand

unfoldable pub read_prefix : ℕ → ℕ → (Items → Out Tree) → Items → Out Tree
read_prefix k m operand w = cond (nat_le 1 k)
    (mapped (λ p. tree p.0.place (prefix (prefix_of p.0.lexeme) p.1)) (both (token (one_of (prefixes m))) (λ x. operand) w))
    (Bad true w)

-- a phrase of the line m, of k + 1 levels. inner, read and called read an expression, a phrase of a line, and a postfix that
-- ends in a call, of k levels
unfoldable pub read_layer : ℕ → (Items → Out Tree) → (ℕ → Items → Out Tree) → (Items → Out Tree) → ℕ → Items → Out Tree
read_layer k inner read called zero w = read_postfix false k k inner inner w
read_layer k inner read called (suc m) w = cond (passes (one_of (prefixes (suc m))) (first w)) (read_prefix k (suc m) (read (suc m)) w)
    (read_run k m (read_layer k inner read called m) (cond (m == 1) called (read m)) w)

-- ---- if

unfoldable pub read_choice : ℕ → (Items → Out Tree) → Items → Out Tree
read_choice k inner w = cond (nat_le 1 k)
    (mapped (λ p. tree p.0.place (if_then p.1.0 p.1.1.1.0 p.1.1.1.1.1))
    (both (token (is_word word.If)) (λ x. both inner (λ a. both (token (is_word word.Then)) (λ y. both inner (λ b. both (token (is_word word.Else)) (λ z. inner))))) w))
    (Bad true w)
