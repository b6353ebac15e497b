use Rattle.fx_generalize.proofs.SolvedLaws.{all_apart}
use Rattle.fx_generalize.proofs.apart.are_apart.Goals as goal

pub returns : goal.returns
returns c =
    λ e. all_apart c.args.names.now c.args.own.now c.as_slice.result.now c.as_slice-2.result.now c.as_slice-3.result.now c.as_slice.ensures.value c.as_slice-2.ensures.value c.as_slice-3.ensures.value
    (c.types_apart.ensures c.if-not-types_apart.false) (c.fields_apart.ensures c.if-not-fields_apart.false) (c.rows_apart.ensures e)
