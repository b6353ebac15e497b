use Rattle.std.proofs.Common.{◌≡◌, [], ◌∷◌, subst}
use Rattle.std.specs.Prelude.{IfOk}
use Rattle.fx_data.specs.declared.keyed_row.KeyedRow.{KeyedRow}
use Rattle.fx_group.specs.Turned.{with_rows}
use Rattle.fx_agg.proofs.Moulds.{mould_rises}
use Rattle.fx_agg.proofs.aggregating.push_valued.Goals as goal

pub push-requires : goal.push-requires
push-requires c = mould_rises c.args.key.now c.args.column.now c.in_ok-mould.mould c.requires c.in_ok-mould.ensures

pub returns : goal.returns
returns c =
    subst (λ (row : KeyedRow). IfOk c.push.result (λ r. r ≡ with_rows c.args.runs (row ∷ []))) (c.in_ok-mould.ensures c.args.value) c.push.ensures
