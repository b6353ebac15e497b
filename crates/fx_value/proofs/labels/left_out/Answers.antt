use Rattle.std.proofs.Common.{ap, ◌∙◌}
use Rattle.std.specs.FinMap as map
use Rattle.fx_value.proofs.Rows.{nothing_removed}
use Rattle.fx_value.proofs.labels.left_out.Goals as goal

pub returns-in_ok-clone-in-None : goal.returns-in_ok-clone-in-None
returns-in_ok-clone-in-None c =
    c.in_ok-clone-in-None.ensures.cases
    ∙ nothing_removed c.args.head.now.value c.args.label.now (c.in-None.ensures ∙ ap (λ h. map.get h c.args.label.now) c.as_ref.ensures)
