-- Windows of time. They are numbered by the whole numbers; bounds have no limit.
use Rattle.std.specs.Prelude.{◌≡◌, ◌⊎◌, ◌^◌, ◌-◌, ℤ, pos, neg_ℤ, ◌+ℤ◌, ◌-ℤ◌, ◌*ℤ◌, ◌≤ℤ◌, ◌<ℤ◌, int_lt, Bool, if◌then◌else◌}
use Rattle.std.specs.Int.{int_div_euclid}
use Rattle.fx_time.specs.Calendar.{clock_of}
use Rattle.fx_time.specs.Months.{month_of, month_start}
use Rattle.fx_time.specs.declared.span.Span.{Span}

-- a number of nanoseconds, or of months up to 12,000
abbrev pub IsWindow : Span → Type 0
IsWindow span =
    ((span.months ≡ pos 0) × (pos 0 <ℤ span.nanos)) ⊎ ((span.nanos ≡ pos 0) × (pos 0 <ℤ span.months) × (span.months ≤ℤ pos 12_000))

-- windows as long as the period begin once in each span; months may only follow months
abbrev pub IsWindowPair : Span → Span → Type 0
IsWindowPair every period = IsWindow every × IsWindow period × (pos 0 <ℤ period.months → pos 0 <ℤ every.months)

-- the span is a number of months
abbrev pub has_months : Span → Bool
has_months span = int_lt (pos 0) span.months

-- the start of window k: k times so many nanoseconds, or the first moment of the month that is k times so many months
-- after January 1970
abbrev pub window_start : Span → ℤ → ℤ
window_start every k = if has_months every then month_start (k *ℤ every.months) else k *ℤ every.nanos

-- its stop is the period after its start: the months after a first moment of a month come to a first moment too
abbrev pub window_stop : Span → Span → ℤ → ℤ
window_stop every period k =
    if has_months period then month_start (k *ℤ every.months +ℤ period.months) else window_start every k +ℤ period.nanos

-- the window holds the time
abbrev pub Holds : Span → Span → ℤ → ℤ → Type 0
Holds every period t k = (window_start every k ≤ℤ t) × (t <ℤ window_stop every period k)

-- the bounds of a window that holds the time
abbrev pub AreBounds : Span → ℤ → ℤ × ℤ → Type 0
AreBounds every t bounds =
    (k : ℤ) × Holds every every t k × (bounds.0 ≡ window_start every k) × (bounds.1 ≡ window_stop every every k)

-- the least number with the property
abbrev pub IsLeast : (ℤ → Type 0) → ℤ → Type 0
IsLeast P n = P n × ((k : ℤ) → P k → n ≤ℤ k)

-- the month of a time
abbrev pub month_at : ℤ → ℤ
month_at t = month_of (clock_of t).date

-- the number of the last window that starts at the time or before: the nanoseconds from 1970 on, or the months, over
-- the distance of windows, rounded down
abbrev pub last_started : Span → ℤ → ℤ
last_started every t = if has_months every then int_div_euclid (month_at t) every.months else int_div_euclid t every.nanos

-- the number of the last window that stops at the time or before: it starts a period before
abbrev pub last_stopped : Span → Span → ℤ → ℤ
last_stopped every period t =
    if has_months period then int_div_euclid (month_at t -ℤ period.months) every.months else last_started every (t -ℤ period.nanos)

-- the window comes near a time in 64 bits: it ends after the least of them, and doesn't start after the greatest
abbrev pub IsNear : Span → Span → ℤ → Type 0
IsNear every period k = (neg_ℤ (pos (2 ^ 63)) <ℤ window_stop every period k) × (window_start every k ≤ℤ pos (2 ^ 63 - 1))
