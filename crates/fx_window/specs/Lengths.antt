-- Which spans are lengths of windows.
use Rattle.std.specs.Prelude.{◌&&◌, ◌||◌, not, Bool, pos, int_le, int_lt}
use Rattle.std.specs.Ordering.{int_eq}
use Rattle.fx_time.specs.Windows.{has_months}
use Rattle.fx_time.specs.declared.span.Span.{Span}

-- a number of nanoseconds, or of months up to 12,000
abbrev pub is_length : Span → Bool
is_length span =
    (int_eq span.months (pos 0) && int_lt (pos 0) span.nanos)
    || (int_eq span.nanos (pos 0) && int_lt (pos 0) span.months && int_le span.months (pos 12_000))

-- windows as long as the period can begin once in each span: months only where they follow months
abbrev pub are_lengths : Span → Span → Bool
are_lengths every period = is_length every && is_length period && (not (has_months period) || has_months every)
