use Rattle.std.proofs.Common.{sym, ap, ◌∙◌}
use Rattle.fx_value.specs.declared.source.Source.TheVariants.{Fixed}
use Rattle.fx_value.proofs.source.Source.is_same.Goals as goal

pub returns-in-Fixed-Fixed : goal.returns-in-Fixed-Fixed
returns-in-Fixed-Fixed c = λ t. c.in-Fixed-Fixed.is-0 ∙ ap Fixed (c.is_same.ensures.0 t) ∙ sym c.in-Fixed-Fixed.is-1
