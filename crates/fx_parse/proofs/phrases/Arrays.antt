-- Readings of arrays.
use Rattle.std.proofs.Common.{◌≡◌, ℕ, zero, suc, ◌≤◌, ◌<◌, max, Bool, true, false, [], ◌∷◌, ◌++◌, length, Option, sym, refl, ap, ◌∙◌, subst, append_assoc, append-nil, arith, leb}
use Rattle.std.proofs.lemmas.Bool.{cond_both, both_ways, leb-true, leb-false}
use Rattle.fx_ast.specs.Tree.{Tree, tree, Trees, no_trees, more_trees}
use Rattle.fx_scan.specs.declared.symbols.Symbol.TheVariants as symbol
use Rattle.fx_scan.specs.declared.words.Word.TheVariants as word
use Rattle.fx_parse.specs.declared.item.Item.{Item}
use Rattle.fx_parse.specs.Items.{Items, a_symbol, a_word, first, passes, one_of, is_symbol}
use Rattle.fx_parse.specs.Grammar.{IsTok, IsExpr, IsElements, elements_end, elements_next, IsMoreElements, element_last, element_comma}
use Rattle.fx_ast.specs.Levels.{height, below, in_trees}
use Rattle.fx_parse.specs.Readings.{Out, Bad, mapped, both, token}
use Rattle.fx_parse.specs.ReadPrimary.{starters, begins, read_elements, read_more_elements}
use Rattle.fx_parse.proofs.phrases.Beginnings.{expr_first, expr_some}
use Rattle.fx_parse.proofs.phrases.Says.{Says, Fine, any_stop, says_token}
use Rattle.fx_parse.proofs.phrases.Both.{Pair, OkPair}
use Rattle.fx_parse.proofs.phrases.Far.{says_mapped}
use Rattle.fx_parse.proofs.phrases.Stops.{Low, LowTrees, front_passes}
use Rattle.fx_parse.proofs.phrases.Then.{Low_of, Reads, enders, says_then, says_ended, says_nothing, says_bare}
use Rattle.fx_parse.proofs.sorts.Toks.{sign, may_apart, may_within}

abbrev closes : Item → Bool
closes = is_symbol symbol.CloseBracket

abbrev parts_from : Item → Bool
parts_from = is_symbol symbol.Comma

closing_tok : IsTok closes (sign symbol.CloseBracket) (sign symbol.CloseBracket ∷ [])
unfolding one_of
closing_tok = (refl, refl)

comma_passes : parts_from (sign symbol.Comma) ≡ true
unfolding one_of
comma_passes = refl

pub low_elements : (k : ℕ) → Low_of IsElements (LowTrees k)
unfolding height
low_elements k = (sign symbol.CloseBracket ∷ [], no_trees, elements_end (sign symbol.CloseBracket) closing_tok, (let h : 0 ≤ k = omega arith in h))

low_end : (k : ℕ) → Low_of IsMoreElements (LowTrees k)
unfolding height
low_end k = (sign symbol.CloseBracket ∷ [], no_trees, element_last (sign symbol.CloseBracket) closing_tok, (let h : 0 ≤ k = omega arith in h))

more_begins : (es : Trees) (v z : Items) → IsMoreElements es v → passes (one_of enders) (first (v ++ z)) ≡ true
more_begins _ v z (element_last y t) = may_within (a_symbol symbol.CloseBracket ∷ []) enders (first (v ++ z)) refl (front_passes closes y v [] v z t (sym (append-nil v)))
more_begins es v z (element_comma y j u t h e) = may_within (a_symbol symbol.Comma ∷ []) enders (first (v ++ z)) refl (front_passes parts_from y j u v z t e)

no_elements : (es : Trees) → IsElements es [] → ⊥
no_elements es (elements_end y t) = let h = ap length t.1 in omega arith
no_elements es (elements_next {e = e} u v h more s) =
    let f : false ≡ true = ap (λ x. passes begins (first x)) s ∙ expr_first e u v h in cc

-- what begins an element doesn't close
begins_open : (o : Option Item) → passes begins o ≡ true → passes closes o ≡ true → ⊥
begins_open o e f = may_apart (a_word word.If ∷ starters 8) (a_symbol symbol.CloseBracket ∷ []) o refl e f

next_begins : (e : Tree) (w u v z : Items) → IsExpr e u → w ≡ u ++ v → passes begins (first (w ++ z)) ≡ true
next_begins e w u v z h s = ap (λ x. passes begins (first (x ++ z))) s ∙ (ap (λ x. passes begins (first x)) (append_assoc u v z) ∙ expr_first e u (v ++ z) h)

module _ (k : ℕ) where
  end_says : (w : Items) → passes closes (first w) ≡ true → Says IsElements (LowTrees k) any_stop w (mapped (λ y. no_trees) (token closes w))
  unfolding height
  end_says w e = says_mapped (IsTok closes) IsElements Fine (LowTrees k) any_stop (λ y. no_trees) w
      (record { into = λ y u t. elements_end y t; back = back; fit = λ y u t o. omega arith; unfit = λ y u t o. tt })
      (token closes w) (says_token closes (sign symbol.CloseBracket) closing_tok.0 w)
    where
      back : (es : Trees) (u v : Items) → first (u ++ v) ≡ first w → any_stop (first v) ≡ true → IsElements es u → (y : Item) × (es ≡ no_trees) × IsTok closes y u
      back es u v ef st (elements_end y t) = (y, refl, t)
      back es u v ef st (elements_next {e = x} a b h more s) = absurd (begins_open (first w) (ap (passes begins) (sym ef) ∙ next_begins x u a b v h s) e)

  last_says : (w : Items) → passes closes (first w) ≡ true → Says IsMoreElements (LowTrees k) any_stop w (mapped (λ y. no_trees) (token closes w))
  unfolding height
  last_says w e = says_mapped (IsTok closes) IsMoreElements Fine (LowTrees k) any_stop (λ y. no_trees) w
      (record { into = λ y u t. element_last y t; back = back; fit = λ y u t o. omega arith; unfit = λ y u t o. tt })
      (token closes w) (says_token closes (sign symbol.CloseBracket) closing_tok.0 w)
    where
      back : (es : Trees) (u v : Items) → first (u ++ v) ≡ first w → any_stop (first v) ≡ true → IsMoreElements es u → (y : Item) × (es ≡ no_trees) × IsTok closes y u
      back es u v ef st (element_last y t) = (y, refl, t)
      back es u v ef st (element_comma y j z t h s) = absurd (may_apart (a_symbol symbol.Comma ∷ []) (a_symbol symbol.CloseBracket ∷ []) (first w) refl
          (ap (passes parts_from) (sym ef) ∙ front_passes parts_from y j z u v t s) e)

  comma_says : (again : Items → Out Trees) (w : Items) → ((r : Items) → length r < length w → Says IsElements (LowTrees k) any_stop r (again r)) → passes closes (first w) ≡ false
      → Says IsMoreElements (LowTrees k) any_stop w (mapped (λ p. p.1) (both (token parts_from) (λ y. again) w))
  comma_says again w next e = says_mapped (Pair (IsTok parts_from) (λ y. IsElements)) IsMoreElements (OkPair Fine (λ y. LowTrees k)) (LowTrees k) any_stop (λ p. p.1) w
      (record { into = λ p u q. element_comma p.0 q.0 q.1 q.2 q.3 q.4; back = back; fit = λ p u q o. o.1; unfit = λ p u q o. (tt, o) })
      (both (token parts_from) (λ y. again) w)
      (says_then parts_from (sign symbol.Comma) comma_passes (λ y. IsElements) (λ y. LowTrees k) any_stop (λ y. low_elements k) (λ y. again) w (λ y r t less. next r less))
    where
      back : (es : Trees) (u v : Items) → first (u ++ v) ≡ first w → any_stop (first v) ≡ true → IsMoreElements es u
          → (p : Item × Trees) × (es ≡ p.1) × Pair (IsTok parts_from) (λ y. IsElements) p u
      back es u v ef st (element_last y t) = absurd (both_ways (passes closes (first w)) e (ap (passes closes) (sym ef) ∙ front_passes closes y u [] u v t (sym (append-nil u))))
      back es u v ef st (element_comma y j z t h s) = ((y, es), refl, (j, z, t, h, s))

  says_more_elements : (again : Items → Out Trees) (w : Items) → ((r : Items) → length r < length w → Says IsElements (LowTrees k) any_stop r (again r))
      → Says IsMoreElements (LowTrees k) any_stop w (read_more_elements again w)
  unfolding read_more_elements
  says_more_elements again w next = cond_both (passes closes (first w)) _ _ (Says IsMoreElements (LowTrees k) any_stop w) (last_says w) (comma_says again w next)

  -- an element where it doesn't close
  next_back : (w : Items) → passes closes (first w) ≡ false → (es : Trees) (u v : Items) → first (u ++ v) ≡ first w → IsElements es u
      → (p : Tree × Trees) × (es ≡ more_trees p.0 p.1) × Pair IsExpr (λ e. IsMoreElements) p u
  next_back w e es u v ef (elements_end y t) = absurd (both_ways (passes closes (first w)) e (ap (passes closes) (sym ef) ∙ front_passes closes y u [] u v t (sym (append-nil u))))
  next_back w e es u v ef (elements_next {e = x} {es = rest} a b h more s) = ((x, rest), refl, (a, b, h, more, s))

  -- with no level left
  bare_says : k ≡ 0 → (w : Items) → passes closes (first w) ≡ false → Says IsElements (LowTrees k) any_stop w (Bad (passes begins (first w)) w)
  unfolding height
  bare_says none w e = says_bare IsElements (LowTrees k) any_stop (low_elements k) begins w some tall
    where
      some : (x : Item) → begins x ≡ true → (c : Items) × (es : Trees) × IsElements es (x ∷ c)
      some x h = let p = expr_some x h in
          (p.0 ++ sign symbol.CloseBracket ∷ [], more_trees p.1 no_trees, elements_next (x ∷ p.0) (sign symbol.CloseBracket ∷ []) p.2 (element_last (sign symbol.CloseBracket) closing_tok) refl)

      too_tall : (t : Tree) (es : Trees) → in_trees (more_trees t es) ≤ k → ⊥
      too_tall (tree p s) es o = let h : max (suc (below s)) (in_trees es) ≤ k = o in omega arith

      tall : (es : Trees) (u v : Items) → first (u ++ v) ≡ first w → IsElements es u → (passes begins (first (u ++ v)) ≡ true) × (LowTrees k es → ⊥)
      tall es u v ef n = let b = next_back w e es u v ef n in
          (next_begins b.0.0 u b.2.0 b.2.1 v b.2.2 b.2.4, λ o. too_tall b.0.0 b.0.1 (subst (λ x. in_trees x ≤ k) b.1 o))

module _ (k : ℕ) (inner : Items → Out Tree) (reads : Reads k inner) where
  more_says : 1 ≤ k → (again : Items → Out Trees) (w : Items) → ((r : Items) → length r < length w → Says IsElements (LowTrees k) any_stop r (again r)) → passes closes (first w) ≡ false
      → Says IsElements (LowTrees k) any_stop w (mapped (λ p. more_trees p.0 p.1) (both inner (λ e. read_more_elements again) w))
  unfolding height
  more_says some again w next e = says_mapped (Pair IsExpr (λ e. IsMoreElements)) IsElements (OkPair (Low k) (λ e. LowTrees k)) (LowTrees k) any_stop (λ p. more_trees p.0 p.1) w
      (record {
        into = λ p u h. elements_next h.0 h.1 h.2 h.3 h.4;
        back = λ t u v ef st h. next_back k w e t u v ef h;
        fit = λ p u h o. (let a : height p.0 ≤ k = o.0 in let b : in_trees p.1 ≤ k = o.1 in omega arith);
        unfit = λ p u h o. (let a : max (height p.0) (in_trees p.1) ≤ k = o in (omega arith, omega arith));
      })
      (both inner (λ e. read_more_elements again) w)
      (says_ended k inner reads some any_stop IsMoreElements (LowTrees k) more_begins (low_end k) (λ e. read_more_elements again) w
      (λ x r less. says_more_elements k again r (λ z shorter. next z (omega arith))))

  pub says_elements : (n : ℕ) (w : Items) → length w ≤ n → Says IsElements (LowTrees k) any_stop w (read_elements k inner n w)
  unfolding read_elements
  says_elements zero [] short = says_nothing IsElements (LowTrees k) any_stop (low_elements k) no_elements
  says_elements zero (x ∷ w) short = absurd (let h : suc (length w) ≤ 0 = short in omega arith)
  says_elements (suc n) w short = cond_both (passes closes (first w)) _ _ (Says IsElements (LowTrees k) any_stop w) (end_says k w)
      (λ e. cond_both (leb 1 k) _ _ (Says IsElements (LowTrees k) any_stop w)
      (λ f. more_says (leb-true 1 k f) (read_elements k inner n) w (λ r less. says_elements n r (omega arith)) e)
      (λ f. bare_says k (let h : k < 1 = leb-false 1 k f in omega arith) w e))
