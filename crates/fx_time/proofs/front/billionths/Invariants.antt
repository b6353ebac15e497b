use Rattle.std.proofs.Common.{◌≡◌, ◌+◌, ◌-◌, ◌^◌, ◌≤◌, drop, length}
use Rattle.jiff_fmt.specs.Reader.{fraction_value}
use Rattle.fx_time.proofs.front.billionths.Given as goal

-- the digits so far and those that are left make the value
abbrev pub invariant-digits : goal.invariant-digits
invariant-digits l =
    (l.place ≡ 10 ^ (9 - l.digit-index)) × (l.value + l.place ≤ 1_000_000_000) × (length l.digits ≤ 9)
    × (l.value + fraction_value (9 - l.digit-index) (drop l.digit-index l.digits) ≡ fraction_value 9 l.digits)
