-- Windows between bounds.
use Rattle.std.specs.Prelude.{ℤ}
use Rattle.std.specs.Int.{int_min, int_max}
use Rattle.fx_time.specs.Windows.{window_start, window_stop}
use Rattle.fx_time.specs.declared.span.Span.{Span}

-- the start of window k, raised to at least the lower bound
abbrev pub raised : Span → ℤ → ℤ → ℤ
raised every low k = int_max low (window_start every k)

-- its stop, lowered to at most the upper bound
abbrev pub lowered : Span → Span → ℤ → ℤ → ℤ
lowered every period high k = int_min high (window_stop every period k)
