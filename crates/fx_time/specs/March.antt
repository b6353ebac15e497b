-- Days in closed form, through years that begin on 1 March.
use Rattle.std.specs.Prelude.{ℕ, ◌+◌, ◌-◌, ◌*◌, ◌/◌, ◌%◌}

-- the days of the first n months from March of the year -10000 on
abbrev pub march_days : ℕ → ℕ
march_days n = 365 * (n / 12) + n / 12 / 4 - n / 12 / 100 + n / 12 / 400 + (153 * (n % 12) + 2) / 5
