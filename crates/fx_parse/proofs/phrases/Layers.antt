-- Readings of operators before an operand, and of the lines of the grammar from `or` to `postfix`.
use Rattle.std.proofs.Common.{◌≡◌, ℕ, zero, suc, ◌≤◌, ◌<◌, Bool, true, false, ◌==◌, cond, [], ◌∷◌, ◌++◌, Option, Some, sym, refl, ap, ◌∙◌, arith, leb}
use Rattle.std.proofs.lemmas.Bool.{cond_both, both_ways, leb-true, leb-false}
use Rattle.fx_ast.specs.Tree.{Tree, tree, prefix}
use Rattle.fx_parse.specs.declared.item.Item.{Item}
use Rattle.fx_parse.specs.Items.{Items, one_of, first, passes, literal, prefixes, prefix_of}
use Rattle.fx_parse.specs.Grammar.{IsTok, IsExpr, IsLevel, at_postfix, at_prefix, at_run, IsOperand, a_call, an_operand, IsPostfix}
use Rattle.fx_ast.specs.Levels.{height}
use Rattle.fx_parse.specs.Readings.{Out, Bad, mapped, both, token}
use Rattle.fx_parse.specs.ReadPrimary.{starters}
use Rattle.fx_parse.specs.ReadRuns.{need, read_postfix, read_prefix, read_layer}
use Rattle.fx_parse.proofs.phrases.Says.{Says, Fine, any_stop, says_token}
use Rattle.fx_parse.proofs.phrases.Both.{Pair, OkPair, says_both, says_same}
use Rattle.fx_parse.proofs.phrases.Far.{says_mapped}
use Rattle.fx_parse.proofs.phrases.Stops.{Low, stops}
use Rattle.fx_parse.proofs.sorts.Toks.{disjoint, may_apart, a_zero}
use Rattle.fx_parse.proofs.phrases.Shortest.{zero_level, zero_low}
use Rattle.fx_parse.proofs.phrases.Beginnings.{front_part, level_first, prefix_begun}
use Rattle.fx_parse.proofs.phrases.Suffixes.{tall}
use Rattle.fx_parse.proofs.phrases.Then.{says_deep}
use Rattle.fx_parse.proofs.phrases.Runs.{stops_zero, says_run}

prefixes_apart : (m : ℕ) → disjoint (prefixes (suc m)) (starters m) ≡ true
prefixes_apart zero = refl
prefixes_apart (suc zero) = refl
prefixes_apart (suc (suc zero)) = refl
prefixes_apart (suc (suc (suc zero))) = refl
prefixes_apart (suc (suc (suc (suc zero)))) = refl
prefixes_apart (suc (suc (suc (suc (suc zero))))) = refl
prefixes_apart (suc (suc (suc (suc (suc (suc zero)))))) = refl
prefixes_apart (suc (suc (suc (suc (suc (suc (suc m))))))) = refl

-- what begins with a prefix of its line is a prefix and an operand
prefix_back : (m : ℕ) (o : Option Item) → passes (one_of (prefixes (suc m))) o ≡ true → (t : Tree) (u v : Items) → first (u ++ v) ≡ o → IsLevel (suc m) t u
    → (p : Item × Tree) × (t ≡ tree p.0.place (prefix (prefix_of p.0.lexeme) p.1)) × Pair (IsTok (one_of (prefixes (suc m)))) (λ x. IsLevel (suc m)) p u
prefix_back m o e t u v ef (at_prefix {t = s} x i a h n q) = ((x, s), refl, (i, a, h, n, q))
prefix_back m o e t u v ef (at_run {t = s} a b n r q) = absurd (may_apart (prefixes (suc m)) (starters m) o (prefixes_apart m) e
    (ap (passes (one_of (starters m))) (sym ef) ∙ front_part (starters m) u v a b q (level_first m s a (b ++ v) n)))

module _ (k m : ℕ) (operand : Items → Out Tree) (operand_says : 1 ≤ k → (w : Items) → Says (IsLevel (suc m)) (Low k) (stops (suc m)) w (operand w)) where
  signed_says : 1 ≤ k → (x : Item) (z : Items) → one_of (prefixes (suc m)) x ≡ true → Says (IsLevel (suc m)) (Low (suc k)) (stops (suc m)) (x ∷ z)
      (mapped (λ p. tree p.0.place (prefix (prefix_of p.0.lexeme) p.1)) (both (token (one_of (prefixes (suc m)))) (λ y. operand) (x ∷ z)))
  unfolding height
  signed_says le x z e = says_mapped (Pair (IsTok (one_of (prefixes (suc m)))) (λ y. IsLevel (suc m))) (IsLevel (suc m)) (OkPair Fine (λ y. Low k)) (Low (suc k)) (stops (suc m))
      (λ p. tree p.0.place (prefix (prefix_of p.0.lexeme) p.1)) (x ∷ z)
      (record {
        into = λ p u q. at_prefix p.0 q.0 q.1 q.2 q.3 q.4;
        back = λ t u v ef st n. prefix_back m (Some x) e t u v ef n;
        fit = λ p u q o. let h : height p.1 ≤ k = o.1 in let g : suc (height p.1) ≤ suc k = omega arith in g;
        unfit = λ p u q o. let h : suc (height p.1) ≤ suc k = o in (tt, omega arith);
      })
      (both (token (one_of (prefixes (suc m)))) (λ y. operand) (x ∷ z))
      (says_both (IsTok (one_of (prefixes (suc m)))) (λ y. IsLevel (suc m)) Fine (λ y. Low k) any_stop (stops (suc m))
      (record { follow = λ y t v q n st. refl; some = λ y u n o. (a_zero ∷ [], literal a_zero, zero_level (suc m), zero_low k le); any = λ y. (a_zero ∷ [], literal a_zero, zero_level (suc m)) })
      (x ∷ z) (token (one_of (prefixes (suc m))) (x ∷ z)) (λ y. operand) (says_token (one_of (prefixes (suc m))) x e (x ∷ z)) (λ y r i. operand_says le r))

  unsigned_says : k ≡ 0 → (w : Items) → passes (one_of (prefixes (suc m))) (first w) ≡ true → Says (IsLevel (suc m)) (Low (suc k)) (stops (suc m)) w (Bad true w)
  unfolding height
  unsigned_says none w e = says_deep (IsLevel (suc m)) (Low (suc k)) (stops (suc m)) (a_zero ∷ [], literal a_zero, zero_level (suc m), zero_low (suc k) (omega arith))
      (one_of (prefixes (suc m))) (prefix_begun m) (λ t u v h n o. let b = prefix_back m (first (u ++ v)) h t u v refl n in too_tall t b.0 b.1 o) w e
    where
      too_tall : (t : Tree) (p : Item × Tree) → t ≡ tree p.0.place (prefix (prefix_of p.0.lexeme) p.1) → height t ≤ suc k → ⊥
      too_tall t p q o = let h : height t ≡ suc (height p.1) = ap height q in let g : 1 ≤ height p.1 = tall p.1 in omega arith

  pub says_prefix : (w : Items) → passes (one_of (prefixes (suc m))) (first w) ≡ true → Says (IsLevel (suc m)) (Low (suc k)) (stops (suc m)) w (read_prefix k (suc m) operand w)
  unfolding read_prefix
  says_prefix [] e = absurd (let h : false ≡ true = e in cc)
  says_prefix (x ∷ z) e = cond_both (leb 1 k) _ _ (Says (IsLevel (suc m)) (Low (suc k)) (stops (suc m)) (x ∷ z))
      (λ f. signed_says (leb-true 1 k f) x z e) (λ f. unsigned_says (let h : k < 1 = leb-false 1 k f in omega arith) (x ∷ z) e)

-- ---- the lines

module _ (k : ℕ) (inner : Items → Out Tree) (read : ℕ → Items → Out Tree) (called : Items → Out Tree)
    (inner_says : 1 ≤ k → (w : Items) → Says IsExpr (Low k) (stops 8) w (inner w))
    (read_says : 1 ≤ k → (m : ℕ) (w : Items) → Says (IsLevel m) (Low k) (stops m) w (read m w))
    (called_says : 2 ≤ k → (w : Items) → Says (IsPostfix true) (Low k) (stops 0) w (called w))
    (postfix_says : (w : Items) → Says (IsPostfix false) (Low (suc k)) (stops 0) w (read_postfix false k k inner inner w)) where
  operand_says : (m : ℕ) → need m ≤ k → (w : Items) → (b : Bool) → (m == 1) ≡ b → Says (IsOperand m) (Low k) (stops m) w (cond b called (read m) w)
  operand_says m le w true e = says_same (IsPostfix true) (IsOperand m) (Low k) (Low k) (stops 0) (stops m)
      (record { into = λ t u n. a_call e n; back = back; fit = λ t o. o; unfit = λ t o. o; ends = λ x st. stops_zero m x st }) w (called w)
      (called_says (let h : need m ≡ 2 = ap (λ b. cond b 2 1) e in omega arith) w)
    where
      back : (t : Tree) (u : Items) → IsOperand m t u → IsPostfix true t u
      back t u (a_call f n) = n
      back t u (an_operand f n) = absurd (both_ways (m == 1) f e)
  operand_says m le w false e = says_same (IsLevel m) (IsOperand m) (Low k) (Low k) (stops m) (stops m)
      (record { into = λ t u n. an_operand e n; back = back; fit = λ t o. o; unfit = λ t o. o; ends = λ x st. st }) w (read m w)
      (read_says (let h : need m ≡ 1 = ap (λ b. cond b 2 1) e in omega arith) m w)
    where
      back : (t : Tree) (u : Items) → IsOperand m t u → IsLevel m t u
      back t u (a_call f n) = absurd (both_ways (m == 1) e f)
      back t u (an_operand f n) = n

  pub says_layer : (m : ℕ) (w : Items) → Says (IsLevel m) (Low (suc k)) (stops m) w (read_layer k inner read called m w)
  unfolding read_layer
  says_layer zero w = says_same (IsPostfix false) (IsLevel 0) (Low (suc k)) (Low (suc k)) (stops 0) (stops 0)
      (record { into = λ t u n. at_postfix n; back = back; fit = λ t o. o; unfit = λ t o. o; ends = λ x st. st }) w (read_postfix false k k inner inner w) (postfix_says w)
    where
      back : (t : Tree) (u : Items) → IsLevel 0 t u → IsPostfix false t u
      back t u (at_postfix n) = n
  says_layer (suc m) w = cond_both (passes (one_of (prefixes (suc m))) (first w)) _ _ (Says (IsLevel (suc m)) (Low (suc k)) (stops (suc m)) w)
      (λ e. says_prefix k m (read (suc m)) (λ le z. read_says le (suc m) z) w e)
      (λ e. says_run k m (cond (m == 1) called (read m)) (λ le z. operand_says m le z (m == 1) refl) (read_layer k inner read called m) (λ z. says_layer m z) w e)
