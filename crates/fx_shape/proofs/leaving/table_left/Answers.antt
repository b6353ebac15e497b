use Rattle.std.proofs.Common.{◌≡◌, ◌∙◌, map}
use Rattle.std.specs.FinMap as fin
use Rattle.fx_group.specs.Answer.{Row}
use Rattle.fx_shape.specs.Naming.{stays}
use Rattle.fx_shape.proofs.Named.{plain_rows}
use Rattle.fx_shape.proofs.leaving.table_left.Goals as goal

pub returns : goal.returns
returns c =
    let rows : c.in_ok-rows.rows ≡ map (λ (row : Row). fin.retain_keys row (stays c.args.naming.now)) c.args.table.rows
    = c.in_ok-rows.ensures ∙ plain_rows c.args.naming.now c.requires c.args.table.rows in
    λ i. record { key = c.key_left-key.ensures i; rows = rows i }
