-- Rows that go to the same windows.
use Rattle.std.specs.Prelude.{◌≡◌, ◌≤ℤ◌, ◌<ℤ◌, ℤ, List, [], map, Option, None, Some}
use Rattle.std.specs.List.{flat_map, AllByRecursion}
use Rattle.fx_time.specs.Windows.{IsNear}
use Rattle.fx_time.specs.declared.span.Span.{Span}
use Rattle.fx_data.specs.Table.{HasKey}
use Rattle.fx_data.specs.declared.key.Key.{Key}
use Rattle.fx_data.specs.declared.key.KeyEntry.{KeyEntry}
use Rattle.fx_data.specs.declared.keyed_row.KeyedRow.{KeyedRow}
use Rattle.fx_data.specs.declared.table.Table.{Table}
use Rattle.fx_group.specs.Answer.{Row}
use Rattle.fx_group.specs.Range.{bounded}
use Rattle.fx_group.specs.RangeRows.{set_row}
use Rattle.fx_window.specs.Clip.{raised, lowered}
use Rattle.fx_window.specs.Numbers.{numbers}
use Rattle.fx_window.specs.declared.batch.Batch.{Batch}
use Rattle.fx_window.specs.declared.reach.Reach.{Reach}

-- the row in window k of these
abbrev pub copy_at : Span → Span → Reach → Key → Row → ℤ → KeyedRow
copy_at every period r key row k = set_row (raised every r.low k) (lowered every period r.high k) key row

-- the row in each of the windows
abbrev pub copies_of : Span → Span → Reach → Key → Row → List KeyedRow
copies_of every period r key row = map (copy_at every period r key row) (numbers r.first r.next)

-- the same, of no windows none
abbrev pub copies_by : Span → Span → Option Reach → Key → Row → List KeyedRow
copies_by every period None key row = []
copies_by every period (Some r) key row = copies_of every period r key row

-- rows in window k of these, as a table
abbrev pub rows_in : Span → Span → Reach → Key → List Row → ℤ → Table
rows_in every period r key rows k = bounded (raised every r.low k) (lowered every period r.high k) (record { key = key; rows = rows })

-- each of the windows comes near a time in 64 bits
abbrev pub AreNear : Span → Span → Reach → Type 0
AreNear every period r = (k : ℤ) → r.first ≤ℤ k → k <ℤ r.next → IsNear every period k

-- no two of the windows are clipped to the same bounds
abbrev pub AreApart : Span → Span → Reach → Type 0
AreApart every period r =
    (j k : ℤ) → r.first ≤ℤ j → j <ℤ k → k <ℤ r.next → raised every r.low j ≡ raised every r.low k → lowered every period r.high j ≡ lowered every period r.high k → ⊥

-- what something makes of the rows of batches
abbrev pub made_of : {X : Type 0} → (Reach → Row → List X) → Batch → List X
made_of each b = flat_map (each b.reach) b.rows

-- the windows of batches are near, and their rows have a key
abbrev pub AllBatches : Span → Span → List KeyEntry → List Batch → Type 0
AllBatches every period entries bs = AllByRecursion (λ b. AreNear every period b.reach × AllByRecursion (HasKey entries) b.rows) bs
