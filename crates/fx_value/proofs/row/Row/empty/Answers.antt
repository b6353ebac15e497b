use Rattle.std.proofs.Common.{ap, ◌∙◌}
use Rattle.fx_value.proofs.Rows.{row_of-empty}
use Rattle.fx_value.specs.Row.{row_of}
use Rattle.fx_value.specs.declared.scalar.Scalar.TheVariants.{Null}
use Rattle.fx_value.proofs.row.Row.empty.Goals as goal

pub returns : goal.returns
returns c = ap (λ h. row_of h Null Null) c.in_ok-empty.ensures ∙ row_of-empty Null Null
