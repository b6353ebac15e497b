-- What the parser's code does at a primary: literals, texts with holes, parentheses, arrays and records.
use Rattle.std.specs.Prelude.{ℕ, zero, suc, Bool, true, false, cond, ◌&&◌, nat_le, List, [], ◌∷◌, ◌++◌, length, Option, None, Some}
use Rattle.fx_ast.specs.Tree.{Tree, tree, text, paren, array, rec, Trees, no_trees, more_trees, Parts, no_parts, piece, hole, Props}
use Rattle.fx_scan.specs.declared.symbols.Symbol.TheVariants as symbol
use Rattle.fx_scan.specs.declared.words.Word.TheVariants as word
use Rattle.fx_parse.specs.declared.item.Item.{Item}
use Rattle.fx_parse.specs.Items.{Items, Sort, a_head, a_symbol, a_word, literals, one_of, passes, first, label, literal, is_literal, is_name, is_head, is_mid, is_tail, is_symbol, is_with, prefixes}
use Rattle.fx_parse.specs.Grammar.{properties}
use Rattle.fx_parse.specs.Readings.{Out, Bad, mapped, both, token}
use Rattle.fx_parse.specs.ReadProps.{read_some_props, read_props}

-- what begins a phrase of a line of the grammar
abbrev pub starters : ℕ → List Sort
starters zero = a_head ∷ a_symbol symbol.OpenParen ∷ a_symbol symbol.OpenBracket ∷ a_symbol symbol.OpenBrace ∷ literals
starters (suc m) = prefixes (suc m) ++ starters m

-- what begins an expression
abbrev pub beginning : List Sort
beginning = a_word word.If ∷ starters 8

abbrev pub begins : Item → Bool
begins = one_of beginning

-- after the expression of a hole
unfoldable pub read_more_holes : (Items → Out Parts) → Items → Out Parts
read_more_holes again w = cond (passes is_mid (first w)) (mapped (λ p. piece (label p.0) p.1) (both (token is_mid) (λ y. again) w))
    (mapped (λ y. piece (label y) no_parts) (token is_tail w))

-- after a head
unfoldable pub read_holes : (Items → Out Tree) → ℕ → Items → Out Parts
read_holes inner zero w = Bad false w
read_holes inner (suc n) w = mapped (λ p. hole p.0 p.1) (both inner (λ e. read_more_holes (read_holes inner n)) w)

unfoldable pub read_text : ℕ → (Items → Out Tree) → Items → Out Tree
read_text k inner w = cond (nat_le 1 k)
    (mapped (λ p. tree p.0.place (text (piece (label p.0) p.1))) (both (token is_head) (λ x r. read_holes inner (length r) r) w))
    (Bad true w)

unfoldable pub read_paren : ℕ → (Items → Out Tree) → Items → Out Tree
read_paren k inner w = cond (nat_le 1 k)
    (mapped (λ p. tree p.0.place (paren p.1.0))
    (both (token (is_symbol symbol.OpenParen)) (λ x. both inner (λ e. token (is_symbol symbol.CloseParen))) w))
    (Bad true w)

unfoldable pub read_more_elements : (Items → Out Trees) → Items → Out Trees
read_more_elements again w = cond (passes (is_symbol symbol.CloseBracket) (first w)) (mapped (λ y. no_trees) (token (is_symbol symbol.CloseBracket) w))
    (mapped (λ p. p.1) (both (token (is_symbol symbol.Comma)) (λ y. again) w))

unfoldable pub read_elements : ℕ → (Items → Out Tree) → ℕ → Items → Out Trees
read_elements k inner zero w = Bad false w
read_elements k inner (suc n) w = cond (passes (is_symbol symbol.CloseBracket) (first w)) (mapped (λ y. no_trees) (token (is_symbol symbol.CloseBracket) w))
    (cond (nat_le 1 k) (mapped (λ p. more_trees p.0 p.1) (both inner (λ e. read_more_elements (read_elements k inner n)) w))
    (Bad (passes begins (first w)) w))

unfoldable pub read_array : ℕ → (Items → Out Tree) → Items → Out Tree
read_array k inner w = mapped (λ p. tree p.0.place (array p.1))
    (both (token (is_symbol symbol.OpenBracket)) (λ x r. read_elements k inner (length r) r) w)

-- a name and `with`
unfoldable pub sees_with : Items → Bool
sees_with [] = false
sees_with (x ∷ w) = is_name x && passes is_with (first w)

-- after the `{`
unfoldable pub read_properties : ℕ → (Items → Out Tree) → Items → Out (Option (List ℕ) × Props)
read_properties k inner w = cond (nat_le 1 k && sees_with w)
    (mapped (λ p. (Some (label p.0), p.1.1))
    (both (token is_name) (λ x. both (token is_with) (λ y r. read_some_props properties k inner (read_props properties k inner (length r)) r)) w))
    (mapped (λ ps. (None, ps)) (read_props properties k inner (length w) w))

unfoldable pub read_record : ℕ → (Items → Out Tree) → Items → Out Tree
read_record k inner w = mapped (λ p. tree p.0.place (rec p.1.0 p.1.1))
    (both (token (is_symbol symbol.OpenBrace)) (λ x. read_properties k inner) w)

-- a primary of k + 1 levels, with k for those in it
unfoldable pub read_primary : ℕ → (Items → Out Tree) → Items → Out Tree
read_primary k inner w = cond (passes is_head (first w)) (read_text k inner w)
    (cond (passes (is_symbol symbol.OpenParen) (first w)) (read_paren k inner w)
    (cond (passes (is_symbol symbol.OpenBracket) (first w)) (read_array k inner w)
    (cond (passes (is_symbol symbol.OpenBrace) (first w)) (read_record k inner w)
    (mapped literal (token is_literal w)))))
