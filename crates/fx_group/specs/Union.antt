-- The tables of several streams.
use Rattle.std.specs.Prelude.{List}
use Rattle.std.specs.List.{flat_map}
use Rattle.fx_data.specs.Gathered.{gathered}
use Rattle.fx_data.specs.declared.table.Table.{Table}

-- `union`: the rows of the streams in order, collected by key
unfoldable pub united : List (List Table) → List Table
united streams = gathered (flat_map (λ tables. tables) streams)
