-- What stands at the front of a text: a value and the text after it, or nothing.
use Rattle.std.specs.Prelude.{ℕ, ◌+◌, ◌*◌, ◌==◌, ◌||◌, nat_lt, Bool, false, if◌then◌else◌, List, [], ◌∷◌, length, take, drop, Option, Some, None}
use Rattle.std.specs.List.{prefix_len}
use Rattle.std.specs.Char.{is_ascii_digit}
use Rattle.fx_time.specs.declared.read.Moment.{Moment}
use Rattle.jiff_fmt.specs.Reader.{Digits, two_digits, four_digits, fraction_value}

-- goes on with the value, where there is one
infixl 10 ◌>>=◌
abbrev pub ◌>>=◌ : {A B : Type 0} → Option A → (A → Option B) → Option B
None >>= f = None
(Some x) >>= f = f x

-- the byte and then two digits
unfoldable pub two_past : ℕ → List ℕ → Digits ℕ
two_past byte [] = None
two_past byte (c ∷ rest) = if c == byte then two_digits rest else None

-- `2024-06-19`: year, month and day
unfoldable pub date_front : List ℕ → Digits (ℕ × ℕ × ℕ)
date_front text = do
  year ← four_digits text
  month ← two_past 45 year.1
  day ← two_past 45 month.1
  Some ((year.0, month.0, day.0), day.1)

-- `T17:30:05`, as seconds from midnight
unfoldable pub clock_front : List ℕ → Digits ℕ
clock_front text = do
  hour ← two_past 84 text
  minute ← two_past 58 hour.1
  second ← two_past 58 minute.1
  if nat_lt 23 hour.0 || nat_lt 59 minute.0 || nat_lt 59 second.0 then None else Some (hour.0 * 3600 + minute.0 * 60 + second.0, second.1)

-- one to nine digits, as billionths
unfoldable pub billionths : List ℕ → Digits ℕ
billionths text =
    let len = prefix_len is_ascii_digit text in
    if (len == 0) || nat_lt 9 len then None else Some (fraction_value 9 (take len text), drop len text)

-- the same after a dot, or 0 where there is none
unfoldable pub fraction_front : List ℕ → Digits ℕ
fraction_front [] = Some (0, [])
fraction_front (c ∷ rest) = if c == 46 then billionths rest else Some (0, c ∷ rest)

-- `05:30`, as minutes
unfoldable pub offset_front : List ℕ → Digits ℕ
offset_front text = do
  hour ← two_digits text
  minute ← two_past 58 hour.1
  if nat_lt 23 hour.0 || nat_lt 59 minute.0 then None else Some (hour.0 * 60 + minute.0, minute.1)

-- whether the clock is behind UTC, and by how many minutes it differs
unfoldable pub behind_front : Bool → List ℕ → Digits (Bool × ℕ)
behind_front behind text = do
  offset ← offset_front text
  Some ((behind, offset.0), offset.1)

-- `Z`, or a sign and an offset
unfoldable pub zone_front : List ℕ → Digits (Bool × ℕ)
zone_front [] = None
zone_front (c ∷ rest) =
    if c == 90 then Some ((false, 0), rest)
    else (if (c == 43) || (c == 45) then behind_front (c == 45) rest else None)

-- the start of a day at UTC
abbrev pub midnight : ℕ × ℕ × ℕ → Moment
midnight date = record { year = date.0; month = date.1; day = date.2; nanos = 0; behind = false; minutes = 0 }

-- a clock, a fraction and a zone after a date, up to the end
unfoldable pub clock_after : ℕ × ℕ × ℕ → List ℕ → Option Moment
clock_after date text = do
  seconds ← clock_front text
  billion ← fraction_front seconds.1
  zone ← zone_front billion.1
  if length zone.1 == 0 then Some (record {
    year = date.0;
    month = date.1;
    day = date.2;
    nanos = seconds.0 * 1_000_000_000 + billion.0;
    behind = zone.0.0;
    minutes = zone.0.1;
  }) else None

-- the whole text: a date alone, which is midnight at UTC, or a date, a clock, a fraction and a zone
unfoldable pub moment_front : List ℕ → Option Moment
moment_front text = do
  date ← date_front text
  if length date.1 == 0 then Some (midnight date.0) else clock_after date.0 date.1
