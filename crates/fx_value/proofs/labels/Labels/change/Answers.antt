use Rattle.std.proofs.Common.{ap, ◌∙◌}
use Rattle.std.specs.Option.{option_map}
use Rattle.fx_value.specs.Change.{all_changed_head}
use Rattle.fx_value.specs.Labels.{laid}
use Rattle.fx_value.proofs.LabelLaws.{laid_changed}
use Rattle.fx_value.proofs.labels.Labels.change.Goals as goal

pub returns-clause-labels : goal.returns-clause-labels
returns-clause-labels c =
    (λ i. laid (c.in_ok-own.ensures i) ((c.in_ok-self-inside.ensures.cases ∙ c.in_ok-known.ensures.to ∙ ap (all_changed_head c.args.changes.now) c.in_ok-known.ensures.from) i))
    ∙ laid_changed c.args.changes.now (option_map (λ h. h.value) c.self.inside.own) c.self.inside.shared.value
    ∙ ap (all_changed_head c.args.changes.now) c.self.view_is
