-- Some rows of each table, by their places.
use Rattle.std.specs.Prelude.{ℕ, ◌-◌, ℤ, pos, int_le, ◌&&◌, List, length, take, drop, unsigned_abs, if◌then◌else◌}
use Rattle.std.specs.List.{flat_map}
use Rattle.fx_base.specs.declared.fault.FaultKind.TheVariants.{BadCount}
use Rattle.fx_base.specs.declared.place.Place.{Place}
use Rattle.fx_value.specs.Ends.{End, Gives, Faults}
use Rattle.fx_data.specs.declared.table.Table.{Table}
use Rattle.fx_group.specs.Answer.{Row}
use Rattle.fx_group.specs.Range.{left_of}

-- a part of each table's rows; a table that loses all is dropped, and one that had none stays
abbrev pub parts_of : (List Row → List Row) → List Table → List Table
parts_of part tables = flat_map (λ t. left_of t.key t.rows (part t.rows)) tables

-- so many rows behind the first ones, or before the last ones

abbrev pub first_part : ℕ → ℕ → List Row → List Row
first_part n offset rows = take n (drop offset rows)

abbrev pub last_part : ℕ → ℕ → List Row → List Row
last_part n offset rows = drop (length rows - offset - n) (take (length rows - offset) rows)

-- numbers of rows aren't negative
abbrev pub counted : Place → ℤ → ℤ → (ℕ → ℕ → List Row → List Row) → List Table → End (List Table)
counted place n offset part tables =
    if int_le (pos 0) n && int_le (pos 0) offset then Gives (parts_of (part (unsigned_abs n) (unsigned_abs offset)) tables) 0
    else Faults (record { kind = BadCount; place = place }) 0

-- `limit`
unfoldable pub limited : Place → ℤ → ℤ → List Table → End (List Table)
limited place n offset = counted place n offset first_part

-- `tail`
unfoldable pub tailed : Place → ℤ → ℤ → List Table → End (List Table)
tailed place n offset = counted place n offset last_part
