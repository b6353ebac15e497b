-- What the code keeps of the tables that it prints.
use Rattle.std.specs.Prelude.{◌≡◌, ℕ, ◌<◌, ◌≤◌, Bool, true, ◌&&◌, List, [], ◌∷◌, length, map, take, drop, Option, None, Some}
use Rattle.std.specs.List.{slice_get}
use Rattle.std.specs.Option.{option_or}
use Rattle.fx_base.specs.Text.{same_text}
use Rattle.fx_value.specs.declared.scalar.Kind.{Kind}
use Rattle.fx_data.specs.declared.table.Table.{Table}
use Rattle.fx_csv.specs.declared.column.Column.{Column}
use Rattle.fx_csv.specs.declared.block.Block.{Block}
use Rattle.fx_csv.specs.Cells.{same_kind}
use Rattle.fx_csv.specs.Printed.{column_labels, is_block, is_key_label, kinds}
use Rattle.fx_csv.specs.Runs.{runs}

-- a column of a run whose first table is t
abbrev pub column_of : Table → List Table → List ℕ → Column
column_of t run label = record { label = label; grouped = is_key_label t label; kind = slice_get (kinds label run) 0 }

-- the columns of a run
abbrev pub columns_over : List Table → List Column
columns_over [] = []
columns_over (t ∷ rest) = map (column_of t (t ∷ rest)) (column_labels t)

-- these are the columns of a block of which t is the first table
pub record AreColumns (t : Table) (rest : List Table) (cs : List Column) : Type 0 where
  pub shape : cs ≡ columns_over (t ∷ rest)
  pub passes : is_block (t ∷ rest) ≡ true

-- values of these kinds may stand in one column
abbrev pub may_share : Option Kind → Option Kind → Bool
may_share None k = true
may_share (Some a) None = true
may_share (Some a) (Some b) = same_kind a b

abbrev pub agrees : Column → Column → Bool
agrees c d = same_text c.label d.label && may_share c.kind d.kind

-- a column with the kind of another where it has none
abbrev pub widened : Column → Column → Column
widened c d = record c { kind = option_or c.kind d.kind }

abbrev pub all_widened : List Column → List Column → List Column
all_widened [] ds = []
all_widened (c ∷ cs) [] = c ∷ cs
all_widened (c ∷ cs) (d ∷ ds) = widened c d ∷ all_widened cs ds

-- the block is the first of these tables
pub record IsFirstBlock (tables : List Table) (b : Block) : Type 0 where
  pub some : 0 < b.len
  pub within : b.len ≤ length tables
  pub columns : b.columns.items ≡ columns_over (take b.len tables)
  pub passes : is_block (take b.len tables) ≡ true
  pub cut : runs is_block tables ≡ take b.len tables ∷ runs is_block (drop b.len tables)
