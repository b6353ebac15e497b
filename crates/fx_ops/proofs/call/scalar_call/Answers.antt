use Rattle.fx_ops.specs.Call.{called}
use Rattle.fx_ops.specs.Signatures.{called_kind}
use Rattle.fx_ops.proofs.KindLaws.{called_suits, kind_told, range_told}
use Rattle.fx_ops.proofs.call.scalar_call.Goals as goal

pub returns-clause-kind : goal.returns-clause-kind
returns-clause-kind c =
    let args = c.as_slice.result.now in
    kind_told (called_kind c.args.which) (called c.args.which args c.args.span) c.in_ok-value.value c.in_ok-value.ensures.answer (called_suits c.args.which args c.args.span)

pub returns-clause-range : goal.returns-clause-range
returns-clause-range c =
    let args = c.as_slice.result.now in
    range_told (called_kind c.args.which) (called c.args.which args c.args.span) c.in_ok-value.value c.in_ok-value.ensures.answer (called_suits c.args.which args c.args.span)
    c.see_whole.ensures
