-- Recasts of rows by their heads.
use Rattle.std.specs.Prelude.{◌≡◌}
use Rattle.std.specs.FinMap.{FinMap}
use Rattle.fx_base.specs.Text.{text_cmp}
use Rattle.fx_value.specs.declared.change.Reshape.{Reshape}
use Rattle.fx_value.specs.declared.source.Source.{Source}

-- one head is what this makes of the other
abbrev pub IsRecast : (FinMap text_cmp Source → FinMap text_cmp Source) → Reshape → Type 0
IsRecast of_head known = known.to.value ≡ of_head known.from.value
