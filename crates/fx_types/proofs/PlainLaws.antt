-- Plain fields are well formed, and count nothing.
use Rattle.std.proofs.Common.{◌≡◌, refl, sym, ℕ, ◌+◌, ◌≤◌, true, arith}
use mathlib.Core.Bool.{true≢false}
use Rattle.fx_types.specs.Ground.{Ground, GroundField, g_bool, g_int, g_text, g_time, g_absent, g_is, is_plain, is_column, IsWellFormedField}
use Rattle.fx_types.specs.Size.{Weighs}
use Rattle.fx_types.proofs.Choices.{never, by_cases}

column_formed : (t : Ground) → is_column t ≡ true → IsWellFormedField (g_is t)
column_formed g_bool e = tt
column_formed g_int e = tt
column_formed g_text e = tt
column_formed g_time e = tt
column_formed _ e = absurd (true≢false (sym e))

pub plain_formed : (g : GroundField) → is_plain g ≡ true → IsWellFormedField g
plain_formed g_absent e = tt
plain_formed (g_is t) e = column_formed t e

pub plain_weighs : (g : GroundField) (n : ℕ) → is_plain g ≡ true → Weighs g n
plain_weighs g_absent n e = tt
plain_weighs (g_is t) n e = λ f. never (is_column t) e f

pub weighs_plain : (g : GroundField) (n : ℕ) → n ≤ 0 → Weighs g n → is_plain g ≡ true
weighs_plain g_absent n le h = refl
weighs_plain (g_is t) n le h = by_cases (is_column t) (λ e. e) (λ e. let more : (h e).0 + 1 ≤ n = (h e).2 in absurd (omega arith))
