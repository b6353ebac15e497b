-- The shortest expression: the literal 0.
use Rattle.std.proofs.Common.{ℕ, zero, suc, ◌≤◌, [], ◌∷◌, false, refl}
use Rattle.fx_parse.specs.Items.{one_of, literal, literal_shape}
use Rattle.fx_parse.specs.Grammar.{IsExpr, by_level, IsLevel, at_postfix, at_run, links_end, IsPostfix, a_postfix, suffixes_end, IsPrimary, a_literal}
use Rattle.fx_ast.specs.Levels.{height}
use Rattle.fx_parse.proofs.phrases.Stops.{Low}
use Rattle.fx_parse.proofs.sorts.Toks.{a_zero}

pub zero_primary : IsPrimary (literal a_zero) (a_zero ∷ [])
unfolding one_of
zero_primary = a_literal a_zero (refl, refl)

pub zero_postfix : IsPostfix false (literal a_zero) (a_zero ∷ [])
zero_postfix = a_postfix (a_zero ∷ []) [] zero_primary (suffixes_end refl) refl

pub zero_level : (m : ℕ) → IsLevel m (literal a_zero) (a_zero ∷ [])
zero_level zero = at_postfix zero_postfix
zero_level (suc m) = at_run (a_zero ∷ []) [] (zero_level m) links_end refl

pub zero_expr : IsExpr (literal a_zero) (a_zero ∷ [])
zero_expr = by_level (zero_level 8)

pub zero_low : (k : ℕ) → 1 ≤ k → Low k (literal a_zero)
unfolding height literal_shape
zero_low k le = le
