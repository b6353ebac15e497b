-- Readings of primaries: literals, texts with holes, parentheses, arrays and records.
use Rattle.std.proofs.Common.{◌≡◌, ℕ, suc, ◌≤◌, Bool, true, false, [], ◌∷◌, ◌++◌, length, sym, refl, ap, ◌∙◌, subst, append-nil, arith, leb}
use Rattle.std.proofs.lemmas.Bool.{cond_both, both_ways, leb-true, leb-false}
use Rattle.fx_ast.specs.Tree.{Tree, tree, text, paren, array, rec, Trees, Parts, piece}
use Rattle.fx_scan.specs.declared.symbols.Symbol.TheVariants as symbol
use Rattle.fx_parse.specs.declared.item.Item.{Item}
use Rattle.fx_parse.specs.declared.item.Lexeme.{Lexeme}
use Rattle.fx_parse.specs.declared.item.Lexeme.TheVariants.{Head}
use Rattle.fx_parse.specs.Items.{Items, a_head, a_symbol, literals, first, passes, one_of, label, literal, literal_shape, is_head, is_literal, is_symbol}
use Rattle.fx_parse.specs.Grammar.{IsTok, IsExpr, IsPrimary, a_literal, a_text, a_paren, an_array, a_record, IsHoles, holes_end, holes_next, IsElements}
use Rattle.fx_ast.specs.Levels.{height, below, in_parts, in_trees, in_props}
use Rattle.fx_parse.specs.Readings.{Out, mapped, both, token}
use Rattle.fx_parse.specs.ReadPrimary.{read_holes, read_text, read_paren, read_elements, read_array, read_properties, read_record, read_primary}
use Rattle.fx_parse.proofs.phrases.Arrays.{low_elements, says_elements}
use Rattle.fx_parse.proofs.phrases.Beginnings.{text_begun, paren_begun}
use Rattle.fx_parse.proofs.phrases.Both.{Pair, OkPair}
use Rattle.fx_parse.proofs.phrases.Far.{says_mapped}
use Rattle.fx_parse.proofs.phrases.Records.{Filled, IsFilled, LowFilled, low_filled, says_properties}
use Rattle.fx_parse.proofs.phrases.Says.{Says, Fine, any_stop, says_token}
use Rattle.fx_parse.proofs.phrases.Shortest.{zero_expr, zero_low, zero_primary}
use Rattle.fx_parse.proofs.phrases.Stops.{Low, LowParts, LowTrees, front_passes}
use Rattle.fx_parse.proofs.phrases.Texts.{low_holes, says_holes}
use Rattle.fx_parse.proofs.phrases.Then.{Low_of, Reads, enders, says_then, says_ended, says_deep}
use Rattle.fx_parse.proofs.sorts.Toks.{item, sign, may_apart, may_within, a_zero}

abbrev opens_paren : Item → Bool
opens_paren = is_symbol symbol.OpenParen

abbrev closes_paren : Item → Bool
closes_paren = is_symbol symbol.CloseParen

abbrev opens_array : Item → Bool
opens_array = is_symbol symbol.OpenBracket

abbrev opens_record : Item → Bool
opens_record = is_symbol symbol.OpenBrace

head_passes : is_head (item (Head [])) ≡ true
unfolding one_of
head_passes = refl

open_passes : (opens_paren (sign symbol.OpenParen) ≡ true) × (opens_array (sign symbol.OpenBracket) ≡ true) × (opens_record (sign symbol.OpenBrace) ≡ true)
unfolding one_of
open_passes = (refl, refl, refl)

closing_tok : IsTok closes_paren (sign symbol.CloseParen) (sign symbol.CloseParen ∷ [])
unfolding one_of
closing_tok = (refl, refl)

literal_passes : is_literal a_zero ≡ true
unfolding one_of
literal_passes = refl

-- ---- heights

literal_below : (l : Lexeme) → below (literal_shape l) ≡ 0
unfolding height literal_shape
literal_below (Head s) = refl
literal_below l = refl

pub literal_low : (k : ℕ) (x : Item) → Low (suc k) (literal x)
unfolding height
literal_low k x = let h = literal_below x.lexeme in omega arith

low_primary : (k : ℕ) → Low_of IsPrimary (Low (suc k))
low_primary k = (a_zero ∷ [], literal a_zero, zero_primary, literal_low k a_zero)

close_begins : (x : Item) (v z : Items) → IsTok closes_paren x v → passes (one_of enders) (first (v ++ z)) ≡ true
close_begins x v z t = may_within (a_symbol symbol.CloseParen ∷ []) enders (first (v ++ z)) refl (front_passes closes_paren x v [] v z t (sym (append-nil v)))

expr_tall : (e : Tree) → 1 ≤ height e
unfolding height
expr_tall (tree place s) = omega arith

holes_tall : (ps : Parts) (u : Items) → IsHoles ps u → 1 ≤ in_parts ps
unfolding height
holes_tall _ u (holes_end {e = e} y v j h t eq) = let g = expr_tall e in omega arith
holes_tall _ u (holes_next {e = e} y v j z h t more eq) = let g = expr_tall e in omega arith

-- ---- which primary begins so

text_back : (w : Items) → passes is_head (first w) ≡ true → (t : Tree) (u v : Items) → first (u ++ v) ≡ first w → IsPrimary t u
    → (p : Item × Parts) × (t ≡ tree p.0.place (text (piece (label p.0) p.1))) × Pair (IsTok is_head) (λ x. IsHoles) p u
text_back w e _ u v ef (a_literal x t) = absurd (may_apart literals (a_head ∷ []) (first w) refl (ap (passes is_literal) (sym ef) ∙ front_passes is_literal x u [] u v t (sym (append-nil u))) e)
text_back w e _ u v ef (a_text {ps = ps} x i r t h s) = ((x, ps), refl, (i, r, t, h, s))
text_back w e _ u v ef (a_paren {e = a} x y i r j t h c s) = absurd (may_apart (a_symbol symbol.OpenParen ∷ []) (a_head ∷ []) (first w) refl (ap (passes opens_paren) (sym ef) ∙ front_passes opens_paren x i (r ++ j) u v t s) e)
text_back w e _ u v ef (an_array {es = es} x i r t h s) = absurd (may_apart (a_symbol symbol.OpenBracket ∷ []) (a_head ∷ []) (first w) refl (ap (passes opens_array) (sym ef) ∙ front_passes opens_array x i r u v t s) e)
text_back w e _ u v ef (a_record {base = base} {ps = ps} x i r t h s) = absurd (may_apart (a_symbol symbol.OpenBrace ∷ []) (a_head ∷ []) (first w) refl (ap (passes opens_record) (sym ef) ∙ front_passes opens_record x i r u v t s) e)

paren_back : (w : Items) → passes opens_paren (first w) ≡ true → (t : Tree) (u v : Items) → first (u ++ v) ≡ first w → IsPrimary t u
    → (p : Item × (Tree × Item)) × (t ≡ tree p.0.place (paren p.1.0)) × Pair (IsTok opens_paren) (λ x. Pair IsExpr (λ e. IsTok closes_paren)) p u
paren_back w e _ u v ef (a_literal x t) = absurd (may_apart literals (a_symbol symbol.OpenParen ∷ []) (first w) refl (ap (passes is_literal) (sym ef) ∙ front_passes is_literal x u [] u v t (sym (append-nil u))) e)
paren_back w e _ u v ef (a_text {ps = ps} x i r t h s) = absurd (may_apart (a_head ∷ []) (a_symbol symbol.OpenParen ∷ []) (first w) refl (ap (passes is_head) (sym ef) ∙ front_passes is_head x i r u v t s) e)
paren_back w e _ u v ef (a_paren {e = a} x y i r j t h c s) = ((x, (a, y)), refl, (i, r ++ j, t, (r, j, h, c, refl), s))
paren_back w e _ u v ef (an_array {es = es} x i r t h s) = absurd (may_apart (a_symbol symbol.OpenBracket ∷ []) (a_symbol symbol.OpenParen ∷ []) (first w) refl (ap (passes opens_array) (sym ef) ∙ front_passes opens_array x i r u v t s) e)
paren_back w e _ u v ef (a_record {base = base} {ps = ps} x i r t h s) = absurd (may_apart (a_symbol symbol.OpenBrace ∷ []) (a_symbol symbol.OpenParen ∷ []) (first w) refl (ap (passes opens_record) (sym ef) ∙ front_passes opens_record x i r u v t s) e)

array_back : (w : Items) → passes opens_array (first w) ≡ true → (t : Tree) (u v : Items) → first (u ++ v) ≡ first w → IsPrimary t u
    → (p : Item × Trees) × (t ≡ tree p.0.place (array p.1)) × Pair (IsTok opens_array) (λ x. IsElements) p u
array_back w e _ u v ef (a_literal x t) = absurd (may_apart literals (a_symbol symbol.OpenBracket ∷ []) (first w) refl (ap (passes is_literal) (sym ef) ∙ front_passes is_literal x u [] u v t (sym (append-nil u))) e)
array_back w e _ u v ef (a_text {ps = ps} x i r t h s) = absurd (may_apart (a_head ∷ []) (a_symbol symbol.OpenBracket ∷ []) (first w) refl (ap (passes is_head) (sym ef) ∙ front_passes is_head x i r u v t s) e)
array_back w e _ u v ef (a_paren {e = a} x y i r j t h c s) = absurd (may_apart (a_symbol symbol.OpenParen ∷ []) (a_symbol symbol.OpenBracket ∷ []) (first w) refl (ap (passes opens_paren) (sym ef) ∙ front_passes opens_paren x i (r ++ j) u v t s) e)
array_back w e _ u v ef (an_array {es = es} x i r t h s) = ((x, es), refl, (i, r, t, h, s))
array_back w e _ u v ef (a_record {base = base} {ps = ps} x i r t h s) = absurd (may_apart (a_symbol symbol.OpenBrace ∷ []) (a_symbol symbol.OpenBracket ∷ []) (first w) refl (ap (passes opens_record) (sym ef) ∙ front_passes opens_record x i r u v t s) e)

record_back : (w : Items) → passes opens_record (first w) ≡ true → (t : Tree) (u v : Items) → first (u ++ v) ≡ first w → IsPrimary t u
    → (p : Item × Filled) × (t ≡ tree p.0.place (rec p.1.0 p.1.1)) × Pair (IsTok opens_record) (λ x. IsFilled) p u
record_back w e _ u v ef (a_literal x t) = absurd (may_apart literals (a_symbol symbol.OpenBrace ∷ []) (first w) refl (ap (passes is_literal) (sym ef) ∙ front_passes is_literal x u [] u v t (sym (append-nil u))) e)
record_back w e _ u v ef (a_text {ps = ps} x i r t h s) = absurd (may_apart (a_head ∷ []) (a_symbol symbol.OpenBrace ∷ []) (first w) refl (ap (passes is_head) (sym ef) ∙ front_passes is_head x i r u v t s) e)
record_back w e _ u v ef (a_paren {e = a} x y i r j t h c s) = absurd (may_apart (a_symbol symbol.OpenParen ∷ []) (a_symbol symbol.OpenBrace ∷ []) (first w) refl (ap (passes opens_paren) (sym ef) ∙ front_passes opens_paren x i (r ++ j) u v t s) e)
record_back w e _ u v ef (an_array {es = es} x i r t h s) = absurd (may_apart (a_symbol symbol.OpenBracket ∷ []) (a_symbol symbol.OpenBrace ∷ []) (first w) refl (ap (passes opens_array) (sym ef) ∙ front_passes opens_array x i r u v t s) e)
record_back w e _ u v ef (a_record {base = base} {ps = ps} x i r t h s) = ((x, (base, ps)), refl, (i, r, t, h, s))

literal_back : (w : Items) → passes is_head (first w) ≡ false → passes opens_paren (first w) ≡ false → passes opens_array (first w) ≡ false → passes opens_record (first w) ≡ false
    → (t : Tree) (u v : Items) → first (u ++ v) ≡ first w → IsPrimary t u → (x : Item) × (t ≡ literal x) × IsTok is_literal x u
literal_back w a b c d _ u v ef (a_literal x t) = (x, refl, t)
literal_back w a b c d _ u v ef (a_text x i r t h s) = absurd (both_ways (passes is_head (first w)) a (ap (passes is_head) (sym ef) ∙ front_passes is_head x i r u v t s))
literal_back w a b c d _ u v ef (a_paren x y i r j t h n s) = absurd (both_ways (passes opens_paren (first w)) b (ap (passes opens_paren) (sym ef) ∙ front_passes opens_paren x i (r ++ j) u v t s))
literal_back w a b c d _ u v ef (an_array x i r t h s) = absurd (both_ways (passes opens_array (first w)) c (ap (passes opens_array) (sym ef) ∙ front_passes opens_array x i r u v t s))
literal_back w a b c d _ u v ef (a_record x i r t h s) = absurd (both_ways (passes opens_record (first w)) d (ap (passes opens_record) (sym ef) ∙ front_passes opens_record x i r u v t s))

module _ (k : ℕ) (inner : Items → Out Tree) (reads : Reads k inner) where
  -- ---- texts

  abbrev a_read_text : Items → Out (Item × Parts)
  a_read_text = both (token is_head) (λ x r. read_holes inner (length r) r)

  text_reads : 1 ≤ k → (w : Items) → passes is_head (first w) ≡ true → Says IsPrimary (Low (suc k)) any_stop w (mapped (λ p. tree p.0.place (text (piece (label p.0) p.1))) (a_read_text w))
  unfolding height
  text_reads some w e = says_mapped (Pair (IsTok is_head) (λ x. IsHoles)) IsPrimary (OkPair Fine (λ x. LowParts k)) (Low (suc k)) any_stop (λ p. tree p.0.place (text (piece (label p.0) p.1))) w
      (record {
        into = λ p u q. a_text p.0 q.0 q.1 q.2 q.3 q.4;
        back = λ t u v ef st n. text_back w e t u v ef n;
        fit = λ p u q o. (let h : in_parts p.1 ≤ k = o.1 in omega arith);
        unfit = λ p u q o. (tt, (let h : suc (in_parts p.1) ≤ suc k = o in omega arith));
      })
      (a_read_text w)
      (says_then is_head (item (Head [])) head_passes (λ x. IsHoles) (λ x. LowParts k) any_stop (λ x. low_holes k some) (λ x r. read_holes inner (length r) r) w
      (λ x r t less. says_holes k inner reads some (length r) r (omega arith)))

  text_tall : leb 1 k ≡ false → (t : Tree) (u v : Items) → passes is_head (first (u ++ v)) ≡ true → IsPrimary t u → Low (suc k) t → ⊥
  unfolding height
  text_tall none t u v e n o =
      let b = text_back (u ++ v) e t u v refl n in
      let h = holes_tall b.0.1 b.2.1 b.2.3 in
      let g : suc (in_parts b.0.1) ≤ suc k = subst (Low (suc k)) b.1 o in
      let f = leb-false 1 k none in
      omega arith

  text_says : (w : Items) → passes is_head (first w) ≡ true → Says IsPrimary (Low (suc k)) any_stop w (read_text k inner w)
  unfolding read_text
  text_says w e = cond_both (leb 1 k) _ _ (Says IsPrimary (Low (suc k)) any_stop w) (λ f. text_reads (leb-true 1 k f) w e)
      (λ f. says_deep IsPrimary (Low (suc k)) any_stop (low_primary k) is_head text_begun (text_tall f) w e)

  -- ---- parentheses

  abbrev a_read_paren : Items → Out (Item × (Tree × Item))
  a_read_paren = both (token opens_paren) (λ x. both inner (λ e. token closes_paren))

  paren_reads : 1 ≤ k → (w : Items) → passes opens_paren (first w) ≡ true → Says IsPrimary (Low (suc k)) any_stop w (mapped (λ p. tree p.0.place (paren p.1.0)) (a_read_paren w))
  unfolding height
  paren_reads some w e = says_mapped (Pair (IsTok opens_paren) (λ x. Pair IsExpr (λ a. IsTok closes_paren))) IsPrimary (OkPair Fine (λ x. OkPair (Low k) (λ a. Fine))) (Low (suc k)) any_stop
      (λ p. tree p.0.place (paren p.1.0)) w
      (record {
        into = λ p u q. a_paren p.0 p.1.1 q.0 q.3.0 q.3.1 q.2 q.3.2 q.3.3 (q.4 ∙ ap (λ z. q.0 ++ z) q.3.4);
        back = λ t u v ef st n. paren_back w e t u v ef n;
        fit = λ p u q o. (let h : height p.1.0 ≤ k = o.1.0 in omega arith);
        unfit = λ p u q o. (tt, ((let h : suc (height p.1.0) ≤ suc k = o in omega arith), tt));
      })
      (a_read_paren w)
      (says_then opens_paren (sign symbol.OpenParen) open_passes.0 (λ x. Pair IsExpr (λ a. IsTok closes_paren)) (λ x. OkPair (Low k) (λ a. Fine)) any_stop
      (λ x. (a_zero ∷ sign symbol.CloseParen ∷ [], (literal a_zero, sign symbol.CloseParen), (a_zero ∷ [], sign symbol.CloseParen ∷ [], zero_expr, closing_tok, refl), (zero_low k some, tt)))
      (λ x. both inner (λ a. token closes_paren)) w
      (λ x r t less. says_ended k inner reads some any_stop (IsTok closes_paren) Fine close_begins (sign symbol.CloseParen ∷ [], sign symbol.CloseParen, closing_tok, tt) (λ a. token closes_paren) r
      (λ a z shorter. says_token closes_paren (sign symbol.CloseParen) closing_tok.0 z)))

  paren_tall : leb 1 k ≡ false → (t : Tree) (u v : Items) → passes opens_paren (first (u ++ v)) ≡ true → IsPrimary t u → Low (suc k) t → ⊥
  unfolding height
  paren_tall none t u v e n o =
      let b = paren_back (u ++ v) e t u v refl n in
      let h = expr_tall b.0.1.0 in
      let g : suc (height b.0.1.0) ≤ suc k = subst (Low (suc k)) b.1 o in
      let f = leb-false 1 k none in
      omega arith

  paren_says : (w : Items) → passes opens_paren (first w) ≡ true → Says IsPrimary (Low (suc k)) any_stop w (read_paren k inner w)
  unfolding read_paren
  paren_says w e = cond_both (leb 1 k) _ _ (Says IsPrimary (Low (suc k)) any_stop w) (λ f. paren_reads (leb-true 1 k f) w e)
      (λ f. says_deep IsPrimary (Low (suc k)) any_stop (low_primary k) opens_paren paren_begun (paren_tall f) w e)

  -- ---- arrays and records

  array_says : (w : Items) → passes opens_array (first w) ≡ true → Says IsPrimary (Low (suc k)) any_stop w (read_array k inner w)
  unfolding read_array height
  array_says w e = says_mapped (Pair (IsTok opens_array) (λ x. IsElements)) IsPrimary (OkPair Fine (λ x. LowTrees k)) (Low (suc k)) any_stop (λ p. tree p.0.place (array p.1)) w
      (record {
        into = λ p u q. an_array p.0 q.0 q.1 q.2 q.3 q.4;
        back = λ t u v ef st n. array_back w e t u v ef n;
        fit = λ p u q o. (let h : in_trees p.1 ≤ k = o.1 in omega arith);
        unfit = λ p u q o. (tt, (let h : suc (in_trees p.1) ≤ suc k = o in omega arith));
      })
      (both (token opens_array) (λ x r. read_elements k inner (length r) r) w)
      (says_then opens_array (sign symbol.OpenBracket) open_passes.1 (λ x. IsElements) (λ x. LowTrees k) any_stop (λ x. low_elements k) (λ x r. read_elements k inner (length r) r) w
      (λ x r t less. says_elements k inner reads (length r) r (omega arith)))

  record_says : (w : Items) → passes opens_record (first w) ≡ true → Says IsPrimary (Low (suc k)) any_stop w (read_record k inner w)
  unfolding read_record height
  record_says w e = says_mapped (Pair (IsTok opens_record) (λ x. IsFilled)) IsPrimary (OkPair Fine (λ x. LowFilled k)) (Low (suc k)) any_stop (λ p. tree p.0.place (rec p.1.0 p.1.1)) w
      (record {
        into = λ p u q. a_record p.0 q.0 q.1 q.2 q.3 q.4;
        back = λ t u v ef st n. record_back w e t u v ef n;
        fit = λ p u q o. (let h : in_props p.1.1 ≤ k = o.1 in omega arith);
        unfit = λ p u q o. (tt, (let h : suc (in_props p.1.1) ≤ suc k = o in omega arith));
      })
      (both (token opens_record) (λ x. read_properties k inner) w)
      (says_then opens_record (sign symbol.OpenBrace) open_passes.2 (λ x. IsFilled) (λ x. LowFilled k) any_stop (λ x. low_filled k) (λ x. read_properties k inner) w
      (λ x r t less. says_properties k inner reads r))

  -- ---- literals, and all of them

  literal_says : (w : Items) → passes is_head (first w) ≡ false → passes opens_paren (first w) ≡ false → passes opens_array (first w) ≡ false → passes opens_record (first w) ≡ false
      → Says IsPrimary (Low (suc k)) any_stop w (mapped literal (token is_literal w))
  literal_says w a b c d = says_mapped (IsTok is_literal) IsPrimary Fine (Low (suc k)) any_stop literal w
      (record { into = λ x u t. a_literal x t; back = λ t u v ef st n. literal_back w a b c d t u v ef n; fit = λ x u t o. literal_low k x; unfit = λ x u t o. tt })
      (token is_literal w) (says_token is_literal a_zero literal_passes w)

  pub says_primary : (w : Items) → Says IsPrimary (Low (suc k)) any_stop w (read_primary k inner w)
  unfolding read_primary
  says_primary w =
      let P = Says IsPrimary (Low (suc k)) any_stop w in
      cond_both (passes is_head (first w)) _ _ P (text_says w) (λ a.
      cond_both (passes opens_paren (first w)) _ _ P (paren_says w) (λ b.
      cond_both (passes opens_array (first w)) _ _ P (array_says w) (λ c.
      cond_both (passes opens_record (first w)) _ _ P (record_says w) (literal_says w a b c))))
