-- Readings of expressions, of each number of levels.
use Rattle.std.proofs.Common.{◌≡◌, ℕ, zero, suc, ◌+◌, ◌≤◌, true, false, not, arith}
use Rattle.fx_parse.specs.Items.{Items}
use Rattle.fx_parse.specs.Grammar.{IsExpr, IsLevel, IsPostfix}
use Rattle.fx_parse.specs.ReadRuns.{read_layer}
use Rattle.fx_parse.specs.ReadExprs.{read_expr, read_level, read_called}
use Rattle.fx_parse.proofs.phrases.Says.{Says}
use Rattle.fx_parse.proofs.phrases.Stops.{Low, stops}
use Rattle.fx_parse.proofs.phrases.Suffixes.{reserve}
use Rattle.fx_parse.proofs.phrases.Postfixes.{says_postfix}
use Rattle.fx_parse.proofs.phrases.Primaries.{says_primary}
use Rattle.fx_parse.proofs.phrases.Layers.{says_layer}
use Rattle.fx_parse.proofs.phrases.Wholes.{whole_says}

no_reserve : (k : ℕ) → k + reserve (not false) ≡ k
no_reserve k = omega arith

one_reserve : (l : ℕ) → l + reserve (not true) ≡ suc l
one_reserve l = omega arith

none_left : {A : Type 0} → 1 ≤ 0 → A
none_left le = absurd (omega arith)

mutual
  unfolding read_expr

  pub says_expr : (k : ℕ) → 1 ≤ k → (w : Items) → Says IsExpr (Low k) (stops 8) w (read_expr k w)
  says_expr zero le w = none_left le
  says_expr (suc k) le w = whole_says k (read_expr k) (read_layer k (read_expr k) (read_level k) (read_called k) 8) (says_expr k)
      (says_layer k (read_expr k) (read_level k) (read_called k) (says_expr k) (says_level k) (says_called k)
      (says_postfix false k k (no_reserve k) (read_expr k) (read_expr k) (says_expr k) (says_expr k) (says_primary k (read_expr k) (says_expr k))) 8) w

  pub says_level : (k : ℕ) → 1 ≤ k → (m : ℕ) (w : Items) → Says (IsLevel m) (Low k) (stops m) w (read_level k m w)
  says_level zero le m w = none_left le
  says_level (suc k) le m w = says_layer k (read_expr k) (read_level k) (read_called k) (says_expr k) (says_level k) (says_called k)
      (says_postfix false k k (no_reserve k) (read_expr k) (read_expr k) (says_expr k) (says_expr k) (says_primary k (read_expr k) (says_expr k))) m w

  pub says_called : (k : ℕ) → 2 ≤ k → (w : Items) → Says (IsPostfix true) (Low k) (stops 0) w (read_called k w)
  says_called zero le w = absurd (omega arith)
  says_called (suc zero) le w = absurd (let h : 2 ≤ 1 = le in omega arith)
  says_called (suc (suc l)) le w = says_postfix true (suc l) l (one_reserve l) (read_expr (suc l)) (read_expr l) (says_expr (suc l)) (says_expr l) (says_primary l (read_expr l) (says_expr l)) w
