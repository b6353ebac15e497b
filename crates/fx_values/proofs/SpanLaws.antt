-- Integers of 64 bits.
use Rattle.std.proofs.Common.{◌≡◌, true, false, Some, None, ℤ, FitsSigned, w64, refl}
use Rattle.std.specs.Prelude.{if◌then◌else◌}
use Rattle.fx_ops.specs.Whole.{in_64_bits}
use Rattle.fx_time.proofs.TestLemmas.{moment_in}

pub fits_test : (n : ℤ) → FitsSigned w64 n → in_64_bits n ≡ true
fits_test n fits = elim (in_64_bits n) as (λ b. (if b then Some n else None) ≡ Some n → b ≡ true) [
  | true ↦ λ e. refl
  | false ↦ λ e. absurd cc
] (moment_in n fits)
