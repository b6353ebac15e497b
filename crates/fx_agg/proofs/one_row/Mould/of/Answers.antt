use Rattle.std.proofs.Common.{ap, ◌∙◌}
use Rattle.std.specs.FinMap as fin
use Rattle.fx_value.specs.declared.source.Source.TheVariants.{First}
use Rattle.fx_agg.proofs.Moulds.{is_mould}
use Rattle.fx_agg.proofs.one_row.Mould.of.Goals as goal

pub returns : goal.returns
returns c =
    is_mould c.args.key.now c.args.column.now (record { shape = c.in_ok-shape.shape; key = c.in_ok-pinned.pinned })
    (c.in_ok-shape.ensures ∙ c.in_ok-head.ensures ∙ ap (λ h. fin.insert h c.args.column.now First) c.in_ok-columns.ensures) c.in_ok-pinned.ensures
