use Rattle.std.proofs.Common.{ap, ◌∙◌}
use Rattle.std.specs.Option.{option_map}
use Rattle.std.specs.FinMap as map
use Rattle.fx_value.specs.Labels.{laid}
use Rattle.fx_value.proofs.LabelLaws.{Sources, laid-remove}
use Rattle.fx_value.proofs.labels.Labels.without.Goals as goal

pub returns : goal.returns
returns c =
    (λ i. laid (c.in_ok-own_left_out.ensures i) (c.in_ok-left_out.ensures i))
    ∙ laid-remove c.self.inside.shared.value c.args.label.now (option_map (λ h. h.value) c.self.inside.own)
    ∙ ap (λ (m : Sources). map.remove m c.args.label.now) c.self.view_is
