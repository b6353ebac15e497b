-- Readings of `if`.
use Rattle.std.proofs.Common.{◌≡◌, ℕ, suc, ◌≤◌, ◌<◌, max, true, [], ◌∷◌, ◌++◌, Option, sym, refl, ap, ◌∙◌, arith, leb}
use Rattle.std.proofs.lemmas.Bool.{cond_both, leb-true, leb-false}
use Rattle.fx_ast.specs.Tree.{Tree, tree, if_then}
use Rattle.fx_scan.specs.declared.symbols.Symbol.TheVariants as symbol
use Rattle.fx_scan.specs.declared.words.Word.TheVariants as word
use Rattle.fx_parse.specs.declared.item.Item.{Item}
use Rattle.fx_parse.specs.Items.{Items, a_word, a_symbol, one_of, first, passes, literal, is_word}
use Rattle.fx_parse.specs.Grammar.{IsTok, IsExpr, by_choice, by_function, by_level}
use Rattle.fx_ast.specs.Levels.{height}
use Rattle.fx_parse.specs.Readings.{Out, Bad, mapped, both, token}
use Rattle.fx_parse.specs.ReadPrimary.{starters}
use Rattle.fx_parse.specs.ReadRuns.{read_choice}
use Rattle.fx_parse.proofs.phrases.Says.{Says, Fine, any_stop, says_token}
use Rattle.fx_parse.proofs.phrases.Both.{Pair, OkPair, says_both}
use Rattle.fx_parse.proofs.phrases.Far.{says_mapped}
use Rattle.fx_parse.proofs.phrases.Stops.{Low, forbidden, stops, may_follow, front_passes}
use Rattle.fx_parse.proofs.sorts.Toks.{may_apart, a_word_item, a_zero}
use Rattle.fx_parse.proofs.phrases.Shortest.{zero_expr, zero_low}
use Rattle.fx_parse.proofs.phrases.Beginnings.{level_first, function_first, choice_begun}
use Rattle.fx_parse.proofs.phrases.Suffixes.{tall}
use Rattle.fx_parse.proofs.phrases.Then.{says_deep}

-- the parts after each word
abbrev Else : Tree → Items → Type 0
Else = IsExpr

abbrev AfterNo : Item × Tree → Items → Type 0
AfterNo = Pair (IsTok (is_word word.Else)) (λ z. IsExpr)

abbrev AfterYes : Tree × (Item × Tree) → Items → Type 0
AfterYes = Pair IsExpr (λ b. AfterNo)

abbrev AfterThen : Item × (Tree × (Item × Tree)) → Items → Type 0
AfterThen = Pair (IsTok (is_word word.Then)) (λ y. AfterYes)

abbrev AfterTest : Tree × (Item × (Tree × (Item × Tree))) → Items → Type 0
AfterTest = Pair IsExpr (λ a. AfterThen)

abbrev Whole : Item × (Tree × (Item × (Tree × (Item × Tree)))) → Items → Type 0
Whole = Pair (IsTok (is_word word.If)) (λ x. AfterTest)

abbrev chosen : Item × (Tree × (Item × (Tree × (Item × Tree)))) → Tree
chosen p = tree p.0.place (if_then p.1.0 p.1.1.1.0 p.1.1.1.1.1)

word_follows : (x : Item) (o : Option Item) → passes (is_word word.Then) o ≡ true → stops 8 o ≡ true
word_follows x o e = may_follow (a_word word.Then ∷ []) (forbidden 8) o refl e

else_follows : (o : Option Item) → passes (is_word word.Else) o ≡ true → stops 8 o ≡ true
else_follows o e = may_follow (a_word word.Else ∷ []) (forbidden 8) o refl e

zero_else : AfterNo (a_word_item word.Else, literal a_zero) (a_word_item word.Else ∷ a_zero ∷ [])
unfolding one_of
zero_else = (a_word_item word.Else ∷ [], a_zero ∷ [], (refl, refl), zero_expr, refl)

zero_yes : AfterYes (literal a_zero, (a_word_item word.Else, literal a_zero)) (a_zero ∷ a_word_item word.Else ∷ a_zero ∷ [])
zero_yes = (a_zero ∷ [], a_word_item word.Else ∷ a_zero ∷ [], zero_expr, zero_else, refl)

zero_then : AfterThen (a_word_item word.Then, (literal a_zero, (a_word_item word.Else, literal a_zero))) (a_word_item word.Then ∷ a_zero ∷ a_word_item word.Else ∷ a_zero ∷ [])
unfolding one_of
zero_then = (a_word_item word.Then ∷ [], a_zero ∷ a_word_item word.Else ∷ a_zero ∷ [], (refl, refl), zero_yes, refl)

zero_test : AfterTest (literal a_zero, (a_word_item word.Then, (literal a_zero, (a_word_item word.Else, literal a_zero)))) (a_zero ∷ a_word_item word.Then ∷ a_zero ∷ a_word_item word.Else ∷ a_zero ∷ [])
zero_test = (a_zero ∷ [], a_word_item word.Then ∷ a_zero ∷ a_word_item word.Else ∷ a_zero ∷ [], zero_expr, zero_then, refl)

choice_into : (p : Item × (Tree × (Item × (Tree × (Item × Tree))))) (u : Items) → Whole p u → IsExpr (chosen p) u
choice_into p u q = by_choice p.0 p.1.1.0 p.1.1.1.1.0 q.0 q.3.0 q.3.3.0 q.3.3.3.0 q.3.3.3.3.0 q.3.3.3.3.1 q.2 q.3.2 q.3.3.2 q.3.3.3.2 q.3.3.3.3.2 q.3.3.3.3.3
    (q.4 ∙ ap (λ z. q.0 ++ z) (q.3.4 ∙ ap (λ z. q.3.0 ++ z) (q.3.3.4 ∙ ap (λ z. q.3.3.0 ++ z) (q.3.3.3.4 ∙ ap (λ z. q.3.3.3.0 ++ z) q.3.3.3.3.4))))

choice_back : (o : Option Item) → passes (is_word word.If) o ≡ true → (t : Tree) (u v : Items) → first (u ++ v) ≡ o → IsExpr t u
    → (p : Item × (Tree × (Item × (Tree × (Item × Tree))))) × (t ≡ chosen p) × Whole p u
choice_back o e t u v ef (by_choice {a = a} {b = b} {c = c} x y z i r j s l q hx na hy nb hz nc eq) =
    ((x, (a, (y, (b, (z, c))))), refl, (i, r ++ (j ++ (s ++ (l ++ q))), hx, (r, j ++ (s ++ (l ++ q)), na, (j, s ++ (l ++ q), hy, (s, l ++ q, nb, (l, q, hz, nc, refl), refl), refl), refl), eq))
choice_back o e t u v ef (by_function n) = absurd (may_apart (a_symbol symbol.OpenParen ∷ []) (a_word word.If ∷ []) o refl (ap (passes (one_of (a_symbol symbol.OpenParen ∷ []))) (sym ef) ∙ function_first t u v n) e)
choice_back o e t u v ef (by_level n) = absurd (may_apart (starters 8) (a_word word.If ∷ []) o refl (ap (passes (one_of (starters 8))) (sym ef) ∙ level_first 8 t u v n) e)

module _ (k : ℕ) (inner : Items → Out Tree) (inner_says : 1 ≤ k → (w : Items) → Says IsExpr (Low k) (stops 8) w (inner w)) where
  abbrev LowNo : Item × Tree → Type 0
  LowNo = OkPair Fine (λ z. Low k)

  abbrev LowYes : Tree × (Item × Tree) → Type 0
  LowYes = OkPair (Low k) (λ b. LowNo)

  abbrev LowThen : Item × (Tree × (Item × Tree)) → Type 0
  LowThen = OkPair Fine (λ y. LowYes)

  abbrev LowTest : Tree × (Item × (Tree × (Item × Tree))) → Type 0
  LowTest = OkPair (Low k) (λ a. LowThen)

  abbrev LowWhole : Item × (Tree × (Item × (Tree × (Item × Tree)))) → Type 0
  LowWhole = OkPair Fine (λ x. LowTest)

  no_says : 1 ≤ k → (w : Items) → Says AfterNo LowNo (stops 8) w (both (token (is_word word.Else)) (λ z. inner) w)
  unfolding one_of
  no_says le w = says_both (IsTok (is_word word.Else)) (λ z. IsExpr) Fine (λ z. Low k) any_stop (stops 8)
      (record { follow = λ z t v q n st. refl; some = λ z u n o. (a_zero ∷ [], literal a_zero, zero_expr, zero_low k le); any = λ z. (a_zero ∷ [], literal a_zero, zero_expr) })
      w (token (is_word word.Else) w) (λ z. inner) (says_token (is_word word.Else) (a_word_item word.Else) refl w) (λ z r i. inner_says le r)

  yes_says : 1 ≤ k → (w : Items) → Says AfterYes LowYes (stops 8) w (both inner (λ b. both (token (is_word word.Else)) (λ z. inner)) w)
  yes_says le w = says_both IsExpr (λ b. AfterNo) (Low k) (λ b. LowNo) (stops 8) (stops 8)
      (record {
        follow = λ b p v q n st. else_follows (first (v ++ q)) (front_passes (is_word word.Else) p.0 n.0 n.1 v q n.2 n.4);
        some = λ b u n o. (a_word_item word.Else ∷ a_zero ∷ [], (a_word_item word.Else, literal a_zero), zero_else, (tt, zero_low k le));
        any = λ b. (a_word_item word.Else ∷ a_zero ∷ [], (a_word_item word.Else, literal a_zero), zero_else);
      })
      w (inner w) (λ b. both (token (is_word word.Else)) (λ z. inner)) (inner_says le w) (λ b r i. no_says le r)

  then_says : 1 ≤ k → (w : Items) → Says AfterThen LowThen (stops 8) w (both (token (is_word word.Then)) (λ y. both inner (λ b. both (token (is_word word.Else)) (λ z. inner))) w)
  unfolding one_of
  then_says le w = says_both (IsTok (is_word word.Then)) (λ y. AfterYes) Fine (λ y. LowYes) any_stop (stops 8)
      (record {
        follow = λ y p v q n st. refl;
        some = λ y u n o. (a_zero ∷ a_word_item word.Else ∷ a_zero ∷ [], (literal a_zero, (a_word_item word.Else, literal a_zero)), zero_yes, (zero_low k le, (tt, zero_low k le)));
        any = λ y. (a_zero ∷ a_word_item word.Else ∷ a_zero ∷ [], (literal a_zero, (a_word_item word.Else, literal a_zero)), zero_yes);
      })
      w (token (is_word word.Then) w) (λ y. both inner (λ b. both (token (is_word word.Else)) (λ z. inner))) (says_token (is_word word.Then) (a_word_item word.Then) refl w) (λ y r i. yes_says le r)

  test_says : 1 ≤ k → (w : Items) → Says AfterTest LowTest (stops 8) w (both inner (λ a. both (token (is_word word.Then)) (λ y. both inner (λ b. both (token (is_word word.Else)) (λ z. inner)))) w)
  test_says le w = says_both IsExpr (λ a. AfterThen) (Low k) (λ a. LowThen) (stops 8) (stops 8)
      (record {
        follow = λ a p v q n st. word_follows p.0 (first (v ++ q)) (front_passes (is_word word.Then) p.0 n.0 n.1 v q n.2 n.4);
        some = λ a u n o. (a_word_item word.Then ∷ a_zero ∷ a_word_item word.Else ∷ a_zero ∷ [], (a_word_item word.Then, (literal a_zero, (a_word_item word.Else, literal a_zero))), zero_then, (tt, (zero_low k le, (tt, zero_low k le))));
        any = λ a. (a_word_item word.Then ∷ a_zero ∷ a_word_item word.Else ∷ a_zero ∷ [], (a_word_item word.Then, (literal a_zero, (a_word_item word.Else, literal a_zero))), zero_then);
      })
      w (inner w) (λ a. both (token (is_word word.Then)) (λ y. both inner (λ b. both (token (is_word word.Else)) (λ z. inner)))) (inner_says le w) (λ a r i. then_says le r)

  full_says : 1 ≤ k → (w : Items) → passes (is_word word.If) (first w) ≡ true → Says IsExpr (Low (suc k)) (stops 8) w
      (mapped chosen (both (token (is_word word.If)) (λ x. both inner (λ a. both (token (is_word word.Then)) (λ y. both inner (λ b. both (token (is_word word.Else)) (λ z. inner))))) w))
  unfolding one_of height
  full_says le w e = says_mapped Whole IsExpr LowWhole (Low (suc k)) (stops 8) chosen w
      (record {
        into = choice_into;
        back = λ t u v ef st n. choice_back (first w) e t u v ef n;
        fit = λ p u q o. fits p.1.0 p.1.1.1.0 p.1.1.1.1.1 o.1.0 o.1.1.1.0 o.1.1.1.1.1;
        unfit = λ p u q o. let h : (height p.1.0 ≤ k) × (height p.1.1.1.0 ≤ k) × (height p.1.1.1.1.1 ≤ k) = parts p.1.0 p.1.1.1.0 p.1.1.1.1.1 o in (tt, (h.0, (tt, (h.1, (tt, h.2)))));
      })
      (both (token (is_word word.If)) (λ x. both inner (λ a. both (token (is_word word.Then)) (λ y. both inner (λ b. both (token (is_word word.Else)) (λ z. inner))))) w)
      (says_both (IsTok (is_word word.If)) (λ x. AfterTest) Fine (λ x. LowTest) any_stop (stops 8)
      (record {
        follow = λ x p v q n st. refl;
        some = λ x u n o. (
          a_zero ∷ a_word_item word.Then ∷ a_zero ∷ a_word_item word.Else ∷ a_zero ∷ [],
          (literal a_zero, (a_word_item word.Then, (literal a_zero, (a_word_item word.Else, literal a_zero)))),
          zero_test,
          (zero_low k le, (tt, (zero_low k le, (tt, zero_low k le)))),
        );
        any = λ x. (a_zero ∷ a_word_item word.Then ∷ a_zero ∷ a_word_item word.Else ∷ a_zero ∷ [], (literal a_zero, (a_word_item word.Then, (literal a_zero, (a_word_item word.Else, literal a_zero)))), zero_test);
      })
      w (token (is_word word.If) w) (λ x. both inner (λ a. both (token (is_word word.Then)) (λ y. both inner (λ b. both (token (is_word word.Else)) (λ z. inner)))))
      (says_token (is_word word.If) (a_word_item word.If) refl w) (λ x r i. test_says le r))
    where
      fits : (a b c : Tree) → height a ≤ k → height b ≤ k → height c ≤ k → suc (max (height a) (max (height b) (height c))) ≤ suc k
      fits a b c x y z = omega arith

      parts : (a b c : Tree) → suc (max (height a) (max (height b) (height c))) ≤ suc k → (height a ≤ k) × (height b ≤ k) × (height c ≤ k)
      parts a b c o = (omega arith, omega arith, omega arith)

  none_says : k ≡ 0 → (w : Items) → passes (is_word word.If) (first w) ≡ true → Says IsExpr (Low (suc k)) (stops 8) w (Bad true w)
  unfolding height
  none_says none w e = says_deep IsExpr (Low (suc k)) (stops 8) (a_zero ∷ [], literal a_zero, zero_expr, zero_low (suc k) (omega arith)) (is_word word.If) choice_begun
      (λ t u v h n o. let b = choice_back (first (u ++ v)) h t u v refl n in too_tall t b.0 b.1 o) w e
    where
      too_tall : (t : Tree) (p : Item × (Tree × (Item × (Tree × (Item × Tree))))) → t ≡ chosen p → height t ≤ suc k → ⊥
      too_tall t p q o = let h : height t ≡ suc (max (height p.1.0) (max (height p.1.1.1.0) (height p.1.1.1.1.1))) = ap height q in let g : 1 ≤ height p.1.0 = tall p.1.0 in omega arith

  pub says_choice : (w : Items) → passes (is_word word.If) (first w) ≡ true → Says IsExpr (Low (suc k)) (stops 8) w (read_choice k inner w)
  unfolding read_choice
  says_choice w e = cond_both (leb 1 k) _ _ (Says IsExpr (Low (suc k)) (stops 8) w)
      (λ f. full_says (leb-true 1 k f) w e) (λ f. none_says (let h : k < 1 = leb-false 1 k f in omega arith) w e)
