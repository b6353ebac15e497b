use Rattle.std.proofs.Common.{ap, ◌∙◌, ◌++◌}
use Rattle.fx_infer.proofs.AskingLaws.{among_result}
use Rattle.fx_infer.proofs.ask.among.Goals as goal

pub returns : goal.returns
returns c =
    among_result c.args.kinds.now _ c.args.span c.args.bindings c.in_ok-tied.tied c.in_ok-number.number _ c.args.ty.now c.bound_later.result (c.in_ok-extend.ensures.ok ∙ ap (λ xs. xs ++ c.args.kinds.now) c.empty-list.ensures) c.in_ok-number.ensures c.requires
    c.in_ok-tied.ensures.ok c.in_ok-tied.ensures.next c.bound_later.ensures.ok c.bound_later.ensures.next
