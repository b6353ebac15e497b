-- Rows that a range takes.
use Rattle.std.specs.Prelude.{ℕ, Bool, true, false, ◌&&◌, codes, List, Option, None, Some}
use Rattle.std.specs.FinMap.{FinMap, get}
use Rattle.std.specs.List.{list_all}
use Rattle.fx_base.specs.Text.{text_cmp}
use Rattle.fx_data.specs.declared.table.Table.{Table}
use Rattle.fx_value.specs.declared.scalar.Scalar.{Scalar}
use Rattle.fx_value.specs.declared.scalar.Scalar.TheVariants.{Null, Time}

-- whether a value is a time, null, or not there
abbrev pub may_be_time : Option Scalar → Bool
may_be_time None = true
may_be_time (Some Null) = true
may_be_time (Some (Time t)) = true
may_be_time value = false

abbrev pub is_timed : List ℕ → FinMap text_cmp Scalar → Bool
is_timed label row = may_be_time (get row label)

abbrev pub has_timed_rows : List ℕ → Table → Bool
has_timed_rows label t = list_all (is_timed label) t.rows

-- so are the three times of windows
abbrev pub have_times : List Table → Bool
have_times ts = list_all (has_timed_rows (codes "_time")) ts && (list_all (has_timed_rows (codes "_start")) ts && list_all (has_timed_rows (codes "_stop")) ts)
