-- The order of columns.
use Rattle.std.specs.Prelude.{ℕ, List, codes, if◌then◌else◌}
use Rattle.std.specs.declared.cmp.Ordering.{Ordering}
use Rattle.std.specs.Ordering.{nat_cmp, on, then_cmp}
use Rattle.std.specs.Cmp.{IsTotalOrder, nat_cmp_total, on_total, then_total}
use Rattle.std.specs.Cmp.Lexicographic.{nat_list_cmp_total}
use Rattle.fx_base.specs.Text.{text_cmp, same_text}

-- the place of the labels that stand first; all others come after them
abbrev pub label_rank : List ℕ → ℕ
label_rank label =
    if same_text label (codes "_start") then 0
    else if same_text label (codes "_stop") then 1
    else if same_text label (codes "_time") then 2
    else if same_text label (codes "_value") then 3
    else if same_text label (codes "_field") then 4
    else if same_text label (codes "_measurement") then 5
    else 6

-- columns stand by their place, and those that have none of their own by the order of their bytes
abbrev pub column_cmp : List ℕ → List ℕ → Ordering
column_cmp = then_cmp (on label_rank nat_cmp) text_cmp

pub column_cmp_total : IsTotalOrder column_cmp
column_cmp_total = then_total (on_total label_rank nat_cmp_total) nat_list_cmp_total
