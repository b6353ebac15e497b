-- What the functions on times give, in UTC.
use Rattle.std.specs.Prelude.{◌&&◌, ◌||◌, Bool, if◌then◌else◌, Option, Some, None, Result, Ok, Err, ℤ, pos, neg_ℤ, int_le, int_lt}
use Rattle.std.specs.Int.{int_div_euclid}
use Rattle.std.specs.Ordering.{int_eq}
use Rattle.fx_base.specs.declared.fault.FaultKind.{FaultKind}
use Rattle.fx_base.specs.declared.fault.FaultKind.TheVariants.{TimeRange, BadWindow}
use Rattle.fx_time.specs.Calendar.{clock_of}
use Rattle.fx_time.specs.Months.{month_of}
use Rattle.fx_time.specs.Spans.{moment, span_after}
use Rattle.fx_time.specs.Windows.{has_months, window_start}
use Rattle.fx_time.specs.declared.fields.TimeFields.{TimeFields}
use Rattle.fx_time.specs.declared.span.Span.{Span}
use Rattle.fx_value.specs.declared.scalar.Scalar.{Scalar}
use Rattle.fx_value.specs.declared.scalar.Scalar.TheVariants.{Time}
use Rattle.fx_ops.specs.declared.dates.Field.{Field}
use Rattle.fx_ops.specs.declared.dates.Field.TheVariants as field
use Rattle.fx_ops.specs.Whole.{in_64_bits}

-- the field of a time
abbrev pub shown : Field → TimeFields → ℤ
shown field.Year fields = pos fields.year
shown field.Month fields = pos fields.month
shown field.MonthDay fields = pos fields.day
shown field.YearDay fields = pos fields.year_day
shown field.WeekDay fields = pos fields.week_day
shown field.Hour fields = pos fields.hour
shown field.Minute fields = pos fields.minute
shown field.Second fields = pos fields.second
shown field.Nanosecond fields = pos fields.nanosecond

-- the time, where there is one
abbrev pub time_from : Option ℤ → Result Scalar FaultKind
time_from (Some t) = Ok (Time t)
time_from None = Err TimeRange

-- windows of this length cut time up: one part of the span is 0 and the other greater, with months up to 12,000
abbrev pub is_unit : Span → Bool
is_unit span =
    (int_eq span.months (pos 0) && int_lt (pos 0) span.nanos)
    || (int_eq span.nanos (pos 0) && int_lt (pos 0) span.months && int_le span.months (pos 12_000))

-- the number of the window that holds the time: how often the unit fits in from 1970 on, rounded down
abbrev pub window_at : Span → ℤ → ℤ
window_at unit t =
    if has_months unit then int_div_euclid (month_of (clock_of t).date) unit.months else int_div_euclid t unit.nanos

-- its start, where that is no earlier than times are
abbrev pub truncated : ℤ → Span → Result Scalar FaultKind
truncated t unit =
    if is_unit unit then time_from (moment (window_start unit (window_at unit t))) else Err BadWindow

-- the time that the span leads to
abbrev pub added : ℤ → Span → Result Scalar FaultKind
added t span = time_from (span_after t span)

-- the time that the span, turned back, leads to; one with a part that is the least integer can't be turned
abbrev pub subtracted : ℤ → Span → Result Scalar FaultKind
subtracted t span =
    if in_64_bits (neg_ℤ span.months) && in_64_bits (neg_ℤ span.nanos)
    then added t (record { months = neg_ℤ span.months; nanos = neg_ℤ span.nanos })
    else Err TimeRange
